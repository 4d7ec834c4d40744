use Rattle.std.proofs.Common.{◌≡◌, List, ℕ, map, length, refl, sym, ◌∙◌, ap, subst}
use Rattle.std.specs.Prelude.{Option, Some, None, is_some, slice_get}
use Rattle.std.proofs.lemmas.Option.{slice_get_read, slice_get_past}
use Rattle.module_resolver.specs.declared.file_names.FileNames.{FileNames}
use Rattle.module_resolver.specs.Seats.{AreOwners, HaveDots, node_of, held}
use Rattle.module_resolver.proofs.Held.{same_at, both_have}
use Rattle.module_resolver.proofs.indexed_files.IndexedFiles.seat.Goals as goal

pub returns-in_err-nodes : goal.returns-in_err-nodes
returns-in_err-nodes c =
    let file = c.args.file in
    let index = c.self.inside.index in
    let here = c.in_ok-here.here.now in
    let there : slice_get c.self.inside.files file ≡ Some here =
    ap (λ (fs : List FileNames). slice_get fs file) (sym c.as_slice.ensures)
    ∙ slice_get_read c.as_slice.result.now (length c.as_slice.result.now) file here refl c.in_ok-here.ensures.lookup.3.0 c.in_ok-here.ensures.lookup.1 in
    let none : slice_get c.self.inside.nodes file ≡ None =
    ap (λ (ns : List (List ℕ)). slice_get ns file) (sym c.as_slice-2.ensures)
    ∙ slice_get_past c.as_slice-2.result.now file c.in_err-nodes.ensures.lookup.3 in
    absurd (both_have (λ (f : FileNames). map (node_of index 0) f.fronts) (λ (ns : List ℕ). map (λ (n : ℕ). Some n) ns) c.self.inside.files c.self.inside.nodes
    file here c.self.invariant.have_nodes there none)

pub node_around-node-requires : goal.node_around-node-requires
node_around-node-requires c =
    let file = c.args.file in
    let index = c.self.inside.index in
    let here = c.in_ok-here.here.now in
    let nodes = c.in_ok-nodes.nodes.now in
    let there : slice_get c.self.inside.files file ≡ Some here =
    ap (λ (fs : List FileNames). slice_get fs file) (sym c.as_slice.ensures)
    ∙ slice_get_read c.as_slice.result.now (length c.as_slice.result.now) file here refl c.in_ok-here.ensures.lookup.3.0 c.in_ok-here.ensures.lookup.1 in
    let beside : slice_get c.self.inside.nodes file ≡ Some nodes =
    ap (λ (ns : List (List ℕ)). slice_get ns file) (sym c.as_slice-2.ensures)
    ∙ slice_get_read c.as_slice-2.result.now (length c.as_slice-2.result.now) file nodes refl c.in_ok-nodes.ensures.lookup.3.0 c.in_ok-nodes.ensures.lookup.1 in
    same_at (λ (f : FileNames). map (node_of index 0) f.fronts) (λ (ns : List ℕ). map (λ (n : ℕ). Some n) ns) c.self.inside.files c.self.inside.nodes
    file here nodes c.self.invariant.have_nodes there beside
    ∙ ap (map (λ (n : ℕ). Some n)) (sym c.as_slice-front_nodes.ensures)

pub returns-clause-there : goal.returns-clause-there
returns-clause-there c =
    let there : slice_get c.args.self.now c.args.file ≡ Some c.in_ok-here.here.now =
    ap (λ (fs : List FileNames). slice_get fs c.args.file) (sym c.self.view_is ∙ sym c.as_slice.ensures)
    ∙ slice_get_read c.as_slice.result.now (length c.as_slice.result.now) c.args.file c.in_ok-here.here.now refl c.in_ok-here.ensures.lookup.3.0
    c.in_ok-here.ensures.lookup.1 in
    sym (ap (λ (o : Option FileNames). is_some o) there)

pub returns-clause-is : goal.returns-clause-is
returns-clause-is c =
    let file = c.args.file in
    let index = c.self.inside.index in
    let here = c.in_ok-here.here.now in
    let nodes = c.in_ok-nodes.nodes.now in
    let there : slice_get c.self.inside.files file ≡ Some here =
    ap (λ (fs : List FileNames). slice_get fs file) (sym c.as_slice.ensures)
    ∙ slice_get_read c.as_slice.result.now (length c.as_slice.result.now) file here refl c.in_ok-here.ensures.lookup.3.0 c.in_ok-here.ensures.lookup.1 in
    let beside : slice_get c.self.inside.nodes file ≡ Some nodes =
    ap (λ (ns : List (List ℕ)). slice_get ns file) (sym c.as_slice-2.ensures)
    ∙ slice_get_read c.as_slice-2.result.now (length c.as_slice-2.result.now) file nodes refl c.in_ok-nodes.ensures.lookup.3.0 c.in_ok-nodes.ensures.lookup.1 in
    record {
      there = ap (λ (fs : List FileNames). slice_get fs file) (sym c.self.view_is) ∙ there;
      are_owners = subst (λ (fs : List FileNames). AreOwners fs (held index)) c.self.view_is c.self.invariant.are_owners;
      have_dots = subst (λ (ds : List ℕ). HaveDots ds (held index)) (sym c.as_slice-dots.ensures.value) c.self.invariant.have_dots;
      are_nodes =
          same_at (λ (f : FileNames). map (node_of index 0) f.fronts) (λ (ns : List ℕ). map (λ (n : ℕ). Some n) ns) c.self.inside.files
          c.self.inside.nodes file here nodes c.self.invariant.have_nodes there beside
          ∙ ap (map (λ (n : ℕ). Some n)) (sym c.as_slice-front_nodes.ensures);
      around = sym c.node_around-node.ensures;
    }
