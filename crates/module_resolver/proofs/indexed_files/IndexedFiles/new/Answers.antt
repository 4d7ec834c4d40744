use Rattle.std.proofs.Common.{ℕ, List, map, ◌∙◌, ap, sym, subst}
use Rattle.std.specs.Prelude.{filter}
use Rattle.import_order.specs.Imports.{has}
use Rattle.module_resolver.specs.declared.file_names.FileNames.{FileNames}
use Rattle.module_resolver.specs.LookUp.{meant_by}
use Rattle.module_resolver.specs.NamesOf.{names_in}
use Rattle.module_resolver.specs.steps.Owners.{SeeInOrder}
use Rattle.module_resolver.specs.Seats.{node_of}
use Rattle.module_resolver.proofs.Owned.{in_order}
use Rattle.module_resolver.proofs.Held.{owner_kept, one_behind}
use Rattle.module_resolver.proofs.indexed_files.IndexedFiles.new.Goals as goal

pub invariant_of-result : goal.invariant_of-result
invariant_of-result c =
    let files = c.args.files.now in
    let order = c.args.order.now in
    let names = c.args.names in
    let old = c.in_ok-index.index in
    let new = c.nodes_of.new.index in
    let both = c.in_ok-nodes.ensures.entered in
    let see : SeeInOrder names order = subst (λ (ns : List FileNames). SeeInOrder ns order) (sym c.requires) (in_order files order) in
    record {
      are_owners = λ file here is name.
          owner_kept old new both (has here.seen) name
          ∙ (c.in_ok-index.ensures.is (has here.seen) name
          ∙ (ap (λ (ns : List FileNames). meant_by ns (filter (has here.seen) order) name) c.as_slice.ensures
          ∙ ap (λ (seen : List ℕ). meant_by names seen name) (see file here is)));
      have_dots = λ name between. both.same name ∙ c.in_ok-dots.ensures name between;
      have_nodes =
          ap (map (λ (here : FileNames). map (node_of new 0) here.fronts)) c.requires
          ∙ (one_behind (λ (here : FileNames). map (node_of new 0) here.fronts) (names_in files order) files ∙ c.in_ok-nodes.ensures.are);
    }
