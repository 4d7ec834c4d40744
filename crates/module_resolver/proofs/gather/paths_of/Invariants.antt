use Rattle.std.proofs.Common.{◌≡◌, ℕ, List, take}
use Rattle.std.specs.List.{list_any}
use Rattle.std.specs.Str.{bytes_eq}
use Rattle.module_resolver.specs.steps.Seen.{is_kept}
use Rattle.module_resolver.proofs.gather.paths_of.Given as goal

abbrev pub invariant-loop-one : goal.invariant-loop-one
invariant-loop-one l = (name : List ℕ) → is_kept l.paths.keys name ≡ list_any (λ i. bytes_eq i.path.bytes name) (take l.one-index l.imports)
