use Rattle.std.proofs.Common.{◌≡◌, take, map}
use Rattle.std.specs.List.{flat_map}
use Rattle.mojom_files.specs.Refusals.{best_of}
use Rattle.name_refusals.specs.NameRefusals.{duplicate, repeated_members, member_lists}
use Rattle.name_refusals.proofs.repeats.check_items.Given as goal

abbrev pub invariant-loop-view : goal.invariant-loop-view
invariant-loop-view l =
    let lists = flat_map (λ d. member_lists d.item) (take l.view-index l.views) in
    l.best ≡ best_of l.fn.best (map (duplicate l.file) (flat_map repeated_members lists))
