-- All constants and enumerators of files of which nothing is refused have values.
use Rattle.std.proofs.Common.{◌≡◌, ◌<◌, ◌+◌, ◌-◌, ℕ, List, [], length, sym, ◌∙◌, ap, subst, inl, inr, arith}
use Rattle.std.specs.Prelude.{◌⊎◌, map, Option, Some, slice_get}
use Rattle.std.specs.List.{flat_map}
use Rattle.std.specs.Option.{option_map, option_map_or}
use Rattle.std.proofs.lemmas.List.{length-map}
use Rattle.std.proofs.lemmas.Option.{slice_get-map}
use Rattle.mojom_ast.specs.declared.definitions.Const.{Const}
use Rattle.mojom_ast.specs.declared.definitions.DefinitionItem.{DefinitionItem}
use Rattle.mojom_ast.specs.declared.definitions.DefinitionItem.TheVariants as items
use Rattle.mojom_files.specs.declared.named_file.NamedFile.{NamedFile}
use Rattle.mojom_files.specs.Definitions.{Defined, definitions_of}
use Rattle.module_resolver.specs.NamesOf.{names_of}
use Rattle.name_refusals.specs.NameRefusals.{refused_uses}
use Rattle.name_refusals.specs.Uses.{uses_in_type, uses_in_value, uses_in_attributes, uses_in_item}
use Rattle.const_eval.specs.declared.consts.Consts.{Consts}
use Rattle.const_eval.specs.declared.file_things.FileThings.{FileThings}
use Rattle.const_meanings.specs.declared.origin.Origin.{Origin}
use Rattle.const_meanings.specs.declared.origin.Origin.TheVariants.{Next}
use Rattle.const_eval.specs.Kinds.{basic_of_base}
use Rattle.const_meanings.specs.Needs.{needed_by, needed, counts_on}
use Rattle.const_eval.specs.Consts.{AreConsts, value_at, is_circular}
use Rattle.const_eval.specs.Things.{numbered, things_at, things_of_files}
use Rattle.const_eval.specs.Origins.{origin_of_value, origin_of_const, origin_of_item, origin_of_definition, origins_of_enumerators}
use Rattle.const_eval.specs.Refused.{Site, refused_circle, refused_const, refused_versions, refused_item, refused_definition, refused_enumerators}
use Rattle.const_eval.specs.Evaluated.{refused_things}
use Rattle.schema_laws.proofs.Among.{IsAmong, among_at}
use Rattle.schema_laws.proofs.Quiet.{both_empty, none_where}
use Rattle.schema_laws.proofs.Rowed.{at_below}
use Rattle.schema_laws.proofs.Kinded.{uses_apart}
use Rattle.schema_laws.proofs.QuietFiles.{AreQuiet, uses_at}
use Rattle.schema_laws.proofs.Valued.{IsSound, HasKnown, has_known, passed_on}
use Rattle.schema_laws.proofs.Places.{at_front, at_behind, numbered_at, enumerators_sized}
use Rattle.schema_laws.proofs.Told.{IsConstAt, IsEnumeratorAt, say, place, IsTold, IsFine, value_fine, const_fine}
use Rattle.schema_laws.proofs.Enumerators.{sound_there}

module _ (files : List NamedFile) (order : List ℕ) (consts : Consts) (are : AreConsts files (names_of files order).files consts)
    (are_quiet : AreQuiet files (names_of files order).files consts) where
  abbrev site : ℕ → Site
  site file = record { consts = consts; names = (names_of files order).files; file = file }

  -- nothing is refused of the things of a file, by their numbers
  things_quiet : (file : ℕ) (tree : NamedFile) (is : slice_get files file ≡ Some tree)
      → refused_things (site file) tree (things_at (place files order file tree is).begin (definitions_of tree.tree)) ≡ []
  things_quiet file tree is =
      let p = place files order file tree is in
      let there : slice_get consts.files file ≡ Some (things_at p.begin (definitions_of tree.tree)) =
      ap (λ (ts : List FileThings). slice_get ts file) are.files_are ∙ p.things in
      sym (ap (λ (o : Option FileThings). option_map_or (refused_things (site file) tree) o []) there) ∙ are_quiet.values file tree is

  -- nothing is refused of a constant
  pub const_quiet : (file : ℕ) (tree : NamedFile) (is : slice_get files file ≡ Some tree) (n : ℕ) (c : IsConstAt (definitions_of tree.tree) n)
      → refused_const (site file) ((place files order file tree is).begin + n) c.constant ≡ []
  const_quiet file tree is n c =
      let p = place files order file tree is in
      let ds = definitions_of tree.tree in
      let all = (both_empty (numbered (refused_definition (site file)) p.begin ds) (refused_enumerators (site file) (p.begin + length ds) ds)
      (things_quiet file tree is)).0 in
      let one = numbered_at (refused_definition (site file)) p.begin ds n c.definition all c.there in
      let item = (both_empty (refused_versions (site file) c.definition.enclosing c.definition.name c.definition.attributes) _ one).1 in
      subst (λ (i : DefinitionItem). refused_item (site file) (p.begin + n) (Some c.definition.full) i ≡ []) c.is item

  -- where the value of the thing of a file comes from
  origin_there : (file : ℕ) (tree : NamedFile) (is : slice_get files file ≡ Some tree) (n : ℕ) (o : Origin)
      → slice_get (say files order file tree) n ≡ Some o → slice_get consts.origins ((place files order file tree is).begin + n) ≡ Some o
  origin_there file tree is n o e =
      let p = place files order file tree is in
      let number : 0 + file ≡ file = omega arith in
      ap (λ (os : List Origin). slice_get os (p.begin + n)) are.origins_are
      ∙ p.origins n (p.begin + n) o (ap (λ (k : ℕ). slice_get (say files order k tree) n) number ∙ e) (omega arith)

  pub uses_there : (file : ℕ) (tree : NamedFile) (is : slice_get files file ≡ Some tree) (d : Defined) → IsAmong (definitions_of tree.tree) d
      → refused_uses (names_of files order).files file (uses_in_item d d.item) ≡ []
  uses_there file tree is d among =
      let all = uses_at (names_of files order).files file (definitions_of tree.tree) d (are_quiet.uses file tree is) among in
      (uses_apart (names_of files order).files file (uses_in_attributes d.enclosing d.attributes) (uses_in_item d d.item) all).1

  -- the value of a constant uses no name that is refused
  pub const_uses : (file : ℕ) (tree : NamedFile) (is : slice_get files file ≡ Some tree) (n : ℕ) (c : IsConstAt (definitions_of tree.tree) n)
      → refused_uses (names_of files order).files file (uses_in_value c.definition.enclosing c.constant.value) ≡ []
  const_uses file tree is n c =
      let d = c.definition in
      let all = uses_there file tree is d (among_at (definitions_of tree.tree) n d c.there) in
      let item : refused_uses (names_of files order).files file (uses_in_item d (items.Const c.constant)) ≡ [] =
      subst (λ (i : DefinitionItem). refused_uses (names_of files order).files file (uses_in_item d i) ≡ []) c.is all in
      (uses_apart (names_of files order).files file (uses_in_type d.enclosing c.constant.kind.base) (uses_in_value d.enclosing c.constant.value) item).1

  abbrev const_origin : ℕ → Defined → Const → Origin
  const_origin file d c =
      origin_of_const (basic_of_base c.kind.base) (origin_of_value (things_of_files files) (names_of files order).files file d.enclosing c.value)

  pub const_from : (file : ℕ) (tree : NamedFile) (is : slice_get files file ≡ Some tree) (n : ℕ) (c : IsConstAt (definitions_of tree.tree) n)
      → slice_get consts.origins ((place files order file tree is).begin + n) ≡ Some (const_origin file c.definition c.constant)
  const_from file tree is n c =
      let make = origin_of_definition (things_of_files files) (names_of files order).files file in
      let ds = definitions_of tree.tree in
      let at : slice_get (map make ds) n ≡ Some (make c.definition) = slice_get-map make ds n ∙ ap (option_map make) c.there in
      let is_const : make c.definition ≡ const_origin file c.definition c.constant =
      ap (origin_of_item (things_of_files files) (names_of files order).files file c.definition.enclosing) c.is in
      let front = at_front (map make ds)
      (flat_map (origins_of_enumerators (things_of_files files) (names_of files order).files file) ds) n (make c.definition) at in
      origin_there file tree is n (const_origin file c.definition c.constant) (front ∙ ap (λ (o : Origin). let w : Option Origin = Some o in w) is_const)

  const_origin_fine : (file : ℕ) (tree : NamedFile) (is : slice_get files file ≡ Some tree) (n : ℕ) (c : IsConstAt (definitions_of tree.tree) n)
      → IsFine files order (const_origin file c.definition c.constant)
  const_origin_fine file tree is n c =
      const_fine files order (basic_of_base c.constant.kind.base) _
      (value_fine files order file c.definition.enclosing c.constant.value (const_uses file tree is n c))

  -- it is sound, and what it needs is told
  record IsSoundOne (thing : ℕ) : Type 0 where
    sound : IsSound consts thing
    next : (other : ℕ) → needed consts.origins thing ≡ Some other → IsTold files order other

  const_sound : (file : ℕ) (tree : NamedFile) (is : slice_get files file ≡ Some tree) (n : ℕ) (c : IsConstAt (definitions_of tree.tree) n)
      → IsSoundOne ((place files order file tree is).begin + n)
  const_sound file tree is n c =
      let thing : ℕ = (place files order file tree is).begin + n in
      let from = const_from file tree is n c in
      let fine = const_origin_fine file tree is n c in
      let circle = (both_empty (refused_circle (site file) thing c.constant.name) _ (const_quiet file tree is n c)).0 in
      record {
        sound = record {
          origin = const_origin file c.definition c.constant;
          is = from;
          there = fine.there;
          straight = none_where (is_circular consts thing) _ circle;
          counted = λ one k value. let bad : 0 ≡ 1 = sym fine.plain ∙ one in let worse : ⊥ = omega (arith, bad) in absurd worse;
        };
        next = λ other needs. fine.told thing other (ap (needed_by thing) (sym from) ∙ needs);
      }

  enumerator_sound : (file : ℕ) (tree : NamedFile) (is : slice_get files file ≡ Some tree) (n : ℕ) → IsEnumeratorAt (definitions_of tree.tree) n
      → IsSoundOne ((place files order file tree is).begin + n)
  enumerator_sound file tree is n e =
      let p = place files order file tree is in
      let ds = definitions_of tree.tree in
      let thing : ℕ = p.begin + n in
      let make = origins_of_enumerators (things_of_files files) (names_of files order).files file in
      let size = enumerators_sized (things_of_files files) (names_of files order).files file 0 ds in
      let at = at_below (flat_map make ds) e.place (omega (arith, size, e.below)) in
      let count = length-map ds (origin_of_definition (things_of_files files) (names_of files order).files file) in
      let behind : slice_get (say files order file tree) n ≡ Some at.one =
      at_behind (map (origin_of_definition (things_of_files files) (names_of files order).files file) ds)
      (flat_map make ds) n e.place (omega (arith, e.is, count)) ∙ at.is in
      let from = origin_there file tree is n at.one behind in
      let none = (both_empty (numbered (refused_definition (site file)) p.begin ds) (refused_enumerators (site file) (p.begin + length ds) ds)
      (things_quiet file tree is)).1 in
      let s = sound_there files order (site file) (p.begin + length ds) ds e.place at.one none (are_quiet.uses file tree is) at.is in
      let here : p.begin + length ds + e.place ≡ thing = omega (arith, e.is) in
      record {
        sound = record {
          origin = at.one;
          is = from;
          there = s.there;
          straight = ap (is_circular consts) (sym here) ∙ s.straight;
          counted = λ one k value. s.counted one k (ap (λ (t : ℕ). value_at consts (t - 1)) here ∙ value);
        };
        next = λ other needs. elim (s.told thing other (ap (needed_by thing) (sym from) ∙ needs)) [
          | inl told ↦ told
          | inr next ↦ before at.one next (s.behind (ap (λ (o : Origin). counts_on (Some o)) next)) other (ap (needed_by thing) (sym from) ∙ needs)
        ];
      }
    where
      before : (o : Origin) → o ≡ Next → 0 < e.place → (other : ℕ) → needed_by ((place files order file tree is).begin + n) (Some o) ≡ Some other
          → IsTold files order other
      before o next behind other needs =
          let p = place files order file tree is in
          let thing : ℕ = p.begin + n in
          let by_next : ◌≡◌ {A = Option ℕ} (Some (thing - 1)) (Some other) = sym (ap (λ (x : Origin). needed_by thing (Some x)) next) ∙ needs in
          let same : thing - 1 ≡ other = cc in
          let ds = definitions_of tree.tree in
          record {
            file = file;
            tree = tree;
            tree_is = is;
            n = n - 1;
            thing_is = omega (arith, same, e.is, behind);
            which = inr (record { place = e.place - 1; is = omega (arith, e.is, behind); below = omega (arith, e.below, behind) });
          }

  one_sound : (thing : ℕ) → IsTold files order thing → IsSoundOne thing
  one_sound thing told = subst IsSoundOne (sym told.thing_is) (go told.which)
    where
      go : IsConstAt (definitions_of told.tree.tree) told.n ⊎ IsEnumeratorAt (definitions_of told.tree.tree) told.n
          → IsSoundOne ((place files order told.file told.tree told.tree_is).begin + told.n)
      go (inl c) = const_sound told.file told.tree told.tree_is told.n c
      go (inr e) = enumerator_sound told.file told.tree told.tree_is told.n e

  -- a constant or an enumerator has a value
  pub known_of : (thing : ℕ) → IsTold files order thing → HasKnown consts thing
  known_of thing told =
      has_known consts are.meanings_are (IsTold files order) (λ t is. (one_sound t is).sound) (λ t other is needs. (one_sound t is).next other needs) thing told

  -- one that is another has its value
  pub same_value : (thing other : ℕ) → IsTold files order thing → needed consts.origins thing ≡ Some other
      → counts_on (slice_get consts.origins thing) ≡ 0 → value_at consts thing ≡ value_at consts other
  same_value thing other told needs plain =
      passed_on consts are.meanings_are (IsTold files order) (λ t is. (one_sound t is).sound) (λ t other is needs. (one_sound t is).next other needs)
      thing other told needs plain
