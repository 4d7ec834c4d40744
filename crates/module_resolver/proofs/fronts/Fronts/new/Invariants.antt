use Rattle.std.proofs.Common.{◌≡◌, drop, ◌++◌}
use Rattle.std.specs.Prelude.{reverse, string_bytes}
use Rattle.module_resolver.specs.NamesOf.{texts_from, fronts_of}
use Rattle.module_resolver.specs.steps.Cuts.{cut_at, AreCuts}
use Rattle.module_resolver.proofs.fronts.Fronts.new.Given as goal

abbrev pub invariant-loop-part : goal.invariant-loop-part
invariant-loop-part l = record {
  are : reverse (cut_at (string_bytes l.whole) l.ends.items ++ texts_from (string_bytes l.whole) (drop l.part-index l.rest)) ≡ fronts_of l.parts;
  cuts : AreCuts (string_bytes l.whole) l.ends.items;
}
