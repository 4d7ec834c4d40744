use Rattle.std.proofs.Common.{◌≡◌, [], take, map, get_or}
use Rattle.std.specs.Prelude.{reverse}
use Rattle.module_resolver.specs.NamesOf.{texts_from}
use Rattle.module_resolver.specs.steps.Cuts.{Falls}
use Rattle.module_resolver.specs.NameDots.{dots_in}
use Rattle.module_resolver.proofs.Falls.{AreUpTo}
use Rattle.module_resolver.proofs.dot_counts.dots_from.Given as goal

abbrev pub invariant-loop-part : goal.invariant-loop-part
invariant-loop-part l = record {
  before : map dots_in (take l.part-index (texts_from l.first.text l.rest)) ≡ l.dots.items;
  here : l.count ≡ dots_in (get_or (texts_from l.first.text l.rest) l.part-index []);
  falls : Falls (reverse l.dots.items);
  up : AreUpTo l.count (reverse l.dots.items);
}
