use Rattle.std.proofs.Common.{◌≡◌, take, map}
use Rattle.std.specs.List.{flat_map}
use Rattle.mojom_files.specs.Refusals.{best_of}
use Rattle.name_refusals.specs.NameRefusals.{duplicate, repeated_members, parameter_lists}
use Rattle.name_refusals.proofs.repeats.check_parameter_lists.Given as goal

abbrev pub invariant-loop-member : goal.invariant-loop-member
invariant-loop-member l =
    let lists = flat_map (λ m. parameter_lists m.item) (take l.member-index l.members) in
    l.best ≡ best_of l.fn.best (map (duplicate l.file) (flat_map repeated_members lists))
