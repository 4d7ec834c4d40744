use Rattle.std.proofs.Common.{◌≡◌, ◌≤◌, take}
use Rattle.module_resolver.specs.NameDots.{dots_in}
use Rattle.module_resolver.proofs.dots.dots_of.Given as goal

abbrev pub invariant-loop-place : goal.invariant-loop-place
invariant-loop-place l = record {
  is : l.count ≡ dots_in (take l.place l.bytes);
  small : l.count ≤ l.place;
}
