use Rattle.std.proofs.Common.{◌≡◌, drop, map}
use Rattle.mojom_ast.specs.declared.names.Identifier.{Identifier}
use Rattle.mojom_files.specs.Refusals.{best_of}
use Rattle.name_refusals.specs.steps.Sets.{holds}
use Rattle.name_refusals.specs.NameRefusals.{duplicate, repeated, repeated_members}
use Rattle.name_refusals.proofs.repeats.check_list.Given as goal

abbrev pub invariant-loop-name : goal.invariant-loop-name
invariant-loop-name l =
    let rest = map (λ n. n.now) (drop l.name-index l.names) in
    best_of l.best (map (duplicate l.file) (repeated (λ (i : Identifier). i.text) (λ (i : Identifier). i) (holds l.known) rest))
    ≡ best_of l.fn.best (map (duplicate l.file) (repeated_members (map (λ n. n.now) l.names)))
