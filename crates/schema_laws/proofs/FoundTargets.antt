-- What a name means stands in a file.
use Rattle.std.proofs.Common.{◌≡◌, ◌<◌, ◌+◌, ℕ, List, [], ◌∷◌, length, refl, sym, ◌∙◌, ap, subst, arith, length-append}
use Rattle.std.specs.Prelude.{Option, Some, None, option_and_then, slice_get}
use Rattle.std.specs.List.{flat_map}
use Rattle.std.specs.Option.{option_map, option_or, IfSome}
use Rattle.std.proofs.lemmas.List.{length-map}
use Rattle.mojom_ast.specs.declared.definitions.Enumerator.{Enumerator}
use Rattle.mojom_files.specs.declared.named_file.NamedFile.{NamedFile}
use Rattle.mj_base.specs.Names.{within}
use Rattle.mojom_files.specs.Definitions.{Defined, definitions_of, enumerators_of, enumerator_names}
use Rattle.mojom_files.specs.Refusals.{first_of}
use Rattle.module_resolver.specs.declared.target.Target.{Target}
use Rattle.module_resolver.specs.declared.target.Target.TheVariants as targets
use Rattle.module_resolver.specs.declared.file_names.FileNames.{FileNames}
use Rattle.import_order.specs.Numbers.{number_of}
use Rattle.module_resolver.specs.LookUp.{defined_in, enumerated_in, meant_by, candidates, look_up_from, look_up}
use Rattle.module_resolver.specs.NamesOf.{names_in, names_of}
use Rattle.import_order.proofs.FileNumbers.{number_below}
use Rattle.const_eval.specs.Things.{numbered, owners_in, owners}
use Rattle.schema_laws.proofs.Rowed.{at_map}

-- one of which this is found
pub record IsFoundBy {A B : Type 0} (look : A → Option B) (found : B) : Type 0 where
  pub by : A
  pub is : look by ≡ Some found

pub first_found : {A B : Type 0} (look : A → Option B) (xs : List A) (y : B) → first_of look xs ≡ Some y → IsFoundBy look y
first_found look [] y e = absurd cc
first_found {A = A} {B = B} look (x ∷ xs) y e = go (look x) refl e (first_found look xs y)
  where
    go : (o : Option B) → look x ≡ o → option_or o (first_of look xs) ≡ Some y → (first_of look xs ≡ Some y → IsFoundBy look y) → IsFoundBy look y
    go None is e rest = rest e
    go (Some z) is e rest = record { by = x; is = is ∙ e }

-- what something is made of
pub record ComesBy {A B : Type 0} (f : A → Option B) (o : Option A) (b : B) : Type 0 where
  pub of : A
  pub is : o ≡ Some of
  pub makes : f of ≡ Some b

pub and_then_by : {A B : Type 0} (f : A → Option B) (o : Option A) (b : B) → option_and_then f o ≡ Some b → ComesBy f o b
and_then_by f None b e = absurd cc
and_then_by f (Some a) b e = record { of = a; is = refl; makes = e }

pub record MapsBy {A B : Type 0} (f : A → B) (o : Option A) (b : B) : Type 0 where
  pub of : A
  pub is : o ≡ Some of
  pub makes : f of ≡ b

pub map_by : {A B : Type 0} (f : A → B) (o : Option A) (b : B) → option_map f o ≡ Some b → MapsBy f o b
map_by f None b e = absurd cc
map_by f (Some a) b e = record { of = a; is = refl; makes = cc }

-- enumerators

-- the enumerator of this number has a name in the names of its file
record IsNamed (names : List FileNames) (file number : ℕ) : Type 0 where
  here : FileNames
  is : slice_get names file ≡ Some here
  below : number < length here.enumerators

below_of : (o : Option ℕ) (n count : ℕ) → IfSome o (λ (k : ℕ). k < count) → o ≡ Some n → n < count
below_of None n count below e = absurd cc
below_of (Some k) n count below e = let same : k ≡ n = cc in subst (λ (m : ℕ). m < count) same below

not_a_definition : (names : List FileNames) (full : List ℕ) (at file number : ℕ) → defined_in names full at ≡ Some (targets.Enumerator file number) → ⊥
not_a_definition names full at file number e =
    let m = map_by (λ (n : ℕ). targets.Definition at n) (option_and_then (λ (f : FileNames). number_of full f.definitions) (slice_get names at))
    (targets.Enumerator file number) e in
    let bad = m.makes in
    absurd cc

is_enumerated : (names : List FileNames) (full : List ℕ) (at file number : ℕ) → enumerated_in names full at ≡ Some (targets.Enumerator file number)
    → IsNamed names file number
is_enumerated names full at file number e =
    let m = map_by (λ (n : ℕ). targets.Enumerator at n) (option_and_then (λ (f : FileNames). number_of full f.enumerators) (slice_get names at))
    (targets.Enumerator file number) e in
    let makes = m.makes in
    let same : at ≡ file = cc in
    let same_number : m.of ≡ number = cc in
    let g = and_then_by (λ (f : FileNames). number_of full f.enumerators) (slice_get names at) m.of m.is in
    let below = below_of (number_of full g.of.enumerators) m.of (length g.of.enumerators) (number_below full g.of.enumerators) g.makes in
    record {
      here = g.of;
      is = ap (λ (k : ℕ). slice_get names k) (sym same) ∙ g.is;
      below = subst (λ (k : ℕ). k < length g.of.enumerators) same_number below;
    }

is_meant : (names : List FileNames) (seen full : List ℕ) (file number : ℕ) (one other : Option Target) → first_of (defined_in names full) seen ≡ one
    → first_of (enumerated_in names full) seen ≡ other → option_or one other ≡ Some (targets.Enumerator file number) → IsNamed names file number
is_meant names seen full file number (Some target) other is by e =
    let d = first_found (defined_in names full) seen (targets.Enumerator file number) (is ∙ e) in
    absurd (not_a_definition names full d.by file number d.is)
is_meant names seen full file number None other is by e =
    let d = first_found (enumerated_in names full) seen (targets.Enumerator file number) (by ∙ e) in
    is_enumerated names full d.by file number d.is

enumerator_named : (names : List FileNames) (at : ℕ) (enclosing : Option (List ℕ)) (name : List ℕ) (file number : ℕ)
    → look_up names at enclosing name ≡ Some (targets.Enumerator file number) → IsNamed names file number
enumerator_named names at enclosing name file number e =
    let here = and_then_by (λ (here : FileNames). look_up_from names here enclosing name) (slice_get names at) (targets.Enumerator file number) e in
    let by = first_found (meant_by names here.of.seen) (candidates enclosing here.of.fronts name) (targets.Enumerator file number) here.makes in
    is_meant names here.of.seen by.by file number (first_of (defined_in names by.by) here.of.seen) (first_of (enumerated_in names by.by) here.of.seen)
    refl refl by.is

names_sized : (k : ℕ) (ds : List Defined) → length (flat_map enumerator_names ds) ≡ length (numbered owners_in k ds)
names_sized k [] = refl
names_sized k (d ∷ ds) =
    let one : length (enumerator_names d) ≡ length (enumerators_of d.item) =
    length-map (enumerators_of d.item) (λ (e : Enumerator). within d.full e.name.text) in
    let two : length (owners_in k d) ≡ length (enumerators_of d.item) = length-map (enumerators_of d.item) (λ (e : Enumerator). k) in
    let rest = names_sized (k + 1) ds in
    let left = length-append (enumerator_names d) (flat_map enumerator_names ds) in
    let right = length-append (owners_in k d) (numbered owners_in (k + 1) ds) in
    left ∙ (omega (arith, one, two, rest) ∙ sym right)

-- a file has the enumerator of this number
pub record HasEnumerator (files : List NamedFile) (file number : ℕ) : Type 0 where
  pub tree : NamedFile
  pub tree_is : slice_get files file ≡ Some tree
  pub below : number < length (owners (definitions_of tree.tree))

-- a name that means an enumerator means one of a file
pub enumerator_there : (files : List NamedFile) (order : List ℕ) (at : ℕ) (enclosing : Option (List ℕ)) (name : List ℕ) (file number : ℕ)
    → look_up (names_of files order).files at enclosing name ≡ Some (targets.Enumerator file number) → HasEnumerator files file number
enumerator_there files order at enclosing name file number e =
    let n = enumerator_named (names_of files order).files at enclosing name file number e in
    let tree = at_map (names_in files order) files file n.here n.is in
    let count : length n.here.enumerators ≡ length (flat_map enumerator_names (definitions_of tree.0.tree)) =
    ap (λ (g : FileNames). length g.enumerators) (sym tree.2) in
    let size = names_sized 0 (definitions_of tree.0.tree) in
    record { tree = tree.0; tree_is = tree.1; below = omega (arith, n.below, count, size) }
