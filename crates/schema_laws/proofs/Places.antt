-- Where the values of things come from, by the file and the place of the thing in it.
use Rattle.std.proofs.Common.{◌≡◌, ◌≤◌, ◌+◌, ◌-◌, ℕ, zero, suc, List, [], ◌∷◌, ◌++◌, length, refl, sym, ◌∙◌, ap, subst, inl, inr, arith, length-append}
use Rattle.std.specs.Prelude.{◌⊎◌, map, Option, Some, slice_get}
use Rattle.std.specs.List.{flat_map}
use Rattle.std.proofs.lemmas.List.{length-map}
use Rattle.mojom_ast.specs.declared.names.Value.{Value}
use Rattle.mojom_ast.specs.declared.definitions.Enumerator.{Enumerator}
use Rattle.mojom_files.specs.declared.named_file.NamedFile.{NamedFile}
use Rattle.mojom_files.specs.Definitions.{Defined, definitions_of, enumerators_of}
use Rattle.module_resolver.specs.declared.file_names.FileNames.{FileNames}
use Rattle.const_eval.specs.declared.file_things.FileThings.{FileThings}
use Rattle.const_meanings.specs.declared.origin.Origin.{Origin}
use Rattle.const_meanings.specs.declared.origin.Origin.TheVariants.{Next}
use Rattle.const_eval.specs.Things.{numbered, owners_in, owners, things_at, things_from}
use Rattle.const_eval.specs.Origins.{origin_or, origins_in_order, origins_of_enumerators, origin_of_definition, origins_in}
use Rattle.schema_laws.proofs.Quiet.{both_empty}

-- lists behind one another

pub at_front : {A : Type 0} (xs ys : List A) (k : ℕ) (x : A) → slice_get xs k ≡ Some x → slice_get (xs ++ ys) k ≡ Some x
at_front [] ys k x e = absurd cc
at_front (y ∷ xs) ys zero x e = e
at_front (y ∷ xs) ys (suc k) x e = at_front xs ys k x e

pub at_behind : {A : Type 0} (xs ys : List A) (k m : ℕ) → k ≡ length xs + m → slice_get (xs ++ ys) k ≡ slice_get ys m
at_behind [] ys k m e = let same : k ≡ m = omega (arith, e) in ap (λ (n : ℕ). slice_get ys n) same
at_behind (x ∷ xs) ys zero m e = let more : 0 ≡ suc (length xs) + m = e in let bad : ⊥ = omega arith in absurd bad
at_behind (x ∷ xs) ys (suc k) m e = let more : suc k ≡ suc (length xs) + m = e in at_behind xs ys k m (omega arith)

-- it stands in the second list
pub record IsBehind {A : Type 0} (xs ys : List A) (k : ℕ) (x : A) : Type 0 where
  pub place : ℕ
  pub is : k ≡ length xs + place
  pub there : slice_get ys place ≡ Some x

pub at_either : {A : Type 0} (xs ys : List A) (k : ℕ) (x : A) → slice_get (xs ++ ys) k ≡ Some x → (slice_get xs k ≡ Some x) ⊎ IsBehind xs ys k x
at_either [] ys k x e = inr (record { place = k; is = omega arith; there = e })
at_either (y ∷ xs) ys zero x e = inl e
at_either (y ∷ xs) ys (suc k) x e = elim (at_either xs ys k x e) [
  | inl front ↦ inl front
  | inr b ↦ inr (let at : k ≡ length xs + b.place = b.is in record { place = b.place; is = omega arith; there = b.there })
]

-- nothing is said of the one that stands there
pub numbered_at : {A B : Type 0} (say : ℕ → A → List B) (number : ℕ) (xs : List A) (k : ℕ) (x : A) → numbered say number xs ≡ [] → slice_get xs k ≡ Some x
    → say (number + k) x ≡ []
numbered_at say number [] k x e is = absurd cc
numbered_at say number (y ∷ ys) zero x e is =
    let same : y ≡ x = cc in
    let at : number ≡ number + 0 = omega arith in
    let parts = both_empty (say number y) (numbered say (number + 1) ys) e in
    subst (λ (n : ℕ). say n x ≡ []) at (subst (λ z. say number z ≡ []) same parts.0)
numbered_at say number (y ∷ ys) (suc k) x e is =
    let at : number + 1 + k ≡ number + suc k = omega arith in
    let parts = both_empty (say number y) (numbered say (number + 1) ys) e in
    subst (λ (n : ℕ). say n x ≡ []) at (numbered_at say (number + 1) ys k x parts.1 is)

-- how many things there are

pub order_sized : (origin : Value → Origin) (es : List Enumerator) → length (origins_in_order origin es) ≡ length es
order_sized origin [] = refl
order_sized origin (e ∷ es) = ap suc (length-map es (λ (e : Enumerator). origin_or Next origin e.value))

pub enumerators_sized : (things : List FileThings) (names : List FileNames) (file k : ℕ) (ds : List Defined)
    → length (flat_map (origins_of_enumerators things names file) ds) ≡ length (numbered owners_in k ds)
enumerators_sized things names file k [] = refl
enumerators_sized things names file k (d ∷ ds) =
    let here = origins_of_enumerators things names file d in
    let one : length here ≡ length (enumerators_of d.item) = order_sized _ (enumerators_of d.item) in
    let two : length (owners_in k d) ≡ length (enumerators_of d.item) = length-map (enumerators_of d.item) (λ (e : Enumerator). k) in
    let rest = enumerators_sized things names file (k + 1) ds in
    let left = length-append here (flat_map (origins_of_enumerators things names file) ds) in
    let right = length-append (owners_in k d) (numbered owners_in (k + 1) ds) in
    left ∙ (omega (arith, one, two, rest) ∙ sym right)

pub file_sized : (things : List FileThings) (names : List FileNames) (number : ℕ) (file : NamedFile)
    → length (origins_in things names number file) ≡ length (definitions_of file.tree) + length (owners (definitions_of file.tree))
file_sized things names number file =
    let ds = definitions_of file.tree in
    let one = length-map ds (origin_of_definition things names number) in
    let two = enumerators_sized things names number 0 ds in
    length-append (map (origin_of_definition things names number) ds) (flat_map (origins_of_enumerators things names number) ds) ∙ omega (arith, one, two)

-- where the things of a file stand, and where their values come from
pub record IsPlaced (say : ℕ → NamedFile → List Origin) (first base : ℕ) (files : List NamedFile) (k : ℕ) (file : NamedFile) : Type 0 where
  pub begin : ℕ
  pub things : slice_get (things_from first files) k ≡ Some (things_at begin (definitions_of file.tree))
  pub later : first ≤ begin
  pub origins : (n m : ℕ) (o : Origin) → slice_get (say (base + k) file) n ≡ Some o → m + first ≡ begin + n
      → slice_get (numbered say base files) m ≡ Some o

pub placed : (say : ℕ → NamedFile → List Origin)
    → ((number : ℕ) (file : NamedFile) → length (say number file) ≡ length (definitions_of file.tree) + length (owners (definitions_of file.tree)))
    → (first base : ℕ) (files : List NamedFile) (k : ℕ) (file : NamedFile) → slice_get files k ≡ Some file → IsPlaced say first base files k file
placed say sized first base [] k file is = absurd cc
placed say sized first base (f ∷ fs) zero file is =
    let same : f ≡ file = cc in
    record {
      begin = first;
      things = ap (λ (g : NamedFile). let o : Option FileThings = Some (things_at first (definitions_of g.tree)) in o) same;
      later = omega arith;
      origins = λ n m o e at.
          let here : m ≡ n = omega (arith, at) in
          let number : base ≡ base + 0 = omega arith in
          at_front (say base f) (numbered say (base + 1) fs) m o
          (ap (λ (x : ℕ). slice_get (say base f) x) here
          ∙ (ap (λ (g : NamedFile). slice_get (say base g) n) same ∙ (ap (λ (x : ℕ). slice_get (say x file) n) number ∙ e)));
    }
placed say sized first base (f ∷ fs) (suc k) file is =
    let end : ℕ = first + length (definitions_of f.tree) + length (owners (definitions_of f.tree)) in
    let rest = placed say sized end (base + 1) fs k file is in
    let later = rest.later in
    record {
      begin = rest.begin;
      things = rest.things;
      later = omega (arith, later);
      origins = λ n m o e at.
          let size = sized base f in
          let number : base + 1 + k ≡ base + suc k = omega arith in
          let m' : ℕ = m - length (say base f) in
          let split : m ≡ length (say base f) + m' = omega (arith, at, later, size) in
          let same : m' + end ≡ rest.begin + n = omega (arith, at, later, size) in
          at_behind (say base f) (numbered say (base + 1) fs) m m' split
          ∙ rest.origins n m' o (ap (λ (x : ℕ). slice_get (say x file) n) number ∙ e) same;
    }
