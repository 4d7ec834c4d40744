-- Of files no name of which is refused, no two definitions have one full name.
use Rattle.std.proofs.Common.{◌≡◌, ℕ, zero, suc, ◌+◌, ◌<◌, ◌≤◌, List, [], ◌∷◌, ◌++◌, map, length, get_or, take, refl, sym, ◌∙◌, ap, subst, arith}
use Rattle.std.specs.Prelude.{Bool, true, false, ◌||◌, if◌then◌else◌, Option, Some, None, slice_get}
use Rattle.std.specs.List.{flat_map}
use Rattle.std.specs.Str.{bytes_eq}
use Rattle.std.proofs.Math.Seq.{take-suc, take-length}
use Rattle.std.proofs.lemmas.Grind.{flat_map-append}
use Rattle.std.proofs.lemmas.List.{append-nil}
use Rattle.std.proofs.lemmas.Slice.Eq.{bytes_eq-Decides}
use Rattle.mojom_ast.specs.declared.names.Identifier.{Identifier}
use Rattle.mojom_files.specs.declared.named_file.NamedFile.{NamedFile}
use Rattle.mojom_files.specs.Definitions.{Defined, definitions_of}
use Rattle.name_refusals.specs.Known.{with_name}
use Rattle.module_resolver.specs.NamesOf.{names_of}
use Rattle.name_refusals.specs.NameRefusals.{duplicate, repeated, repeated_in, of_file, full_names, names_before, is_among, refusals_in, names_refusal}
use Rattle.schema_laws.proofs.Quiet.{both_empty, map_empty, quiet_names}
use Rattle.schema_laws.proofs.Doubles.{one_if, one_if_small, times, times_append, times_of_none}

-- where none of a list is repeated, each name stands there at most once, and none that is known does
none_repeated : {A : Type 0} (name : A → List ℕ) (at : A → Identifier) (known : List ℕ → Bool) (xs : List A)
    → repeated name at known xs ≡ [] → (text : List ℕ) → one_if (known text) + times text (map name xs) ≤ 1
none_repeated name at known [] e text = one_if_small (known text)
none_repeated name at known (x ∷ xs) e text =
    go (known (name x)) (bytes_eq text (name x)) refl refl e (λ rest. none_repeated name at (with_name known (name x)) xs rest text)
  where
    go : (here same : Bool) → known (name x) ≡ here → bytes_eq text (name x) ≡ same
        → (if here then at x ∷ [] else []) ++ repeated name at (with_name known (name x)) xs ≡ []
        → (repeated name at (with_name known (name x)) xs ≡ []
        → one_if (known text || bytes_eq text (name x)) + times text (map name xs) ≤ 1)
        → one_if (known text) + (one_if same + times text (map name xs)) ≤ 1
    go true same h s e rest = absurd cc
    go false true h s e rest =
        let is : text ≡ name x = (bytes_eq-Decides text (name x)).0 s in
        let fresh : known text ≡ false = ap known is ∙ h in
        let next : one_if (false || true) + times text (map name xs) ≤ 1 = rw (fresh, s) at (rest e) in
        rw fresh (omega (arith, next))
    go false false h s e rest = other (known text) (rw s at (rest e))
      where
        other : (b : Bool) → one_if (b || false) + times text (map name xs) ≤ 1 → one_if b + (0 + times text (map name xs)) ≤ 1
        other true h = omega (arith, h)
        other false h = omega (arith, h)

-- the full names of a file, where nothing is refused of its names: none is known, and none stands twice
names_of_file : (files : List NamedFile) (order : List ℕ) (known : List ℕ → Bool) (number : ℕ) (file : Option NamedFile)
    → of_file (refusals_in (names_of files order).files known number) file ≡ []
    → (text : List ℕ) → one_if (known text) + times text (of_file full_names file) ≤ 1
names_of_file files order known number None e text = one_if_small (known text)
names_of_file files order known number (Some file) e text =
    let repeats : repeated_in known (definitions_of file.tree) ≡ [] =
    map_empty (duplicate number) (repeated_in known (definitions_of file.tree)) (both_empty _ _ e).0 in
    none_repeated (λ (d : Defined). d.full) (λ (d : Defined). d.name) known (definitions_of file.tree) (both_empty _ _ repeats).0 text

-- what stands at most once before, and not again
once_more : (text : List ℕ) (before : List (List ℕ)) (n : ℕ) → times text before ≤ 1 → one_if (is_among before text) + n ≤ 1 → times text before + n ≤ 1
once_more text before n old new = go (is_among before text) refl new
  where
    go : (b : Bool) → is_among before text ≡ b → one_if b + n ≤ 1 → times text before + n ≤ 1
    go true h new = omega (arith, old, new)
    go false h new = let none = times_of_none text before h in omega (arith, new, none)

-- in the first files of the order each full name stands at most once
one_name_before : (files : List NamedFile) (order : List ℕ) → names_refusal files order ≡ None → (text : List ℕ)
    → (k : ℕ) → k ≤ length order → times text (names_before files (take k order)) ≤ 1
one_name_before files order none text zero le = omega arith
one_name_before files order none text (suc k) le =
    let lt : k < length order = omega (arith, le) in
    let number = get_or order k 0 in
    let before = names_before files (take k order) in
    let here = of_file full_names (slice_get files number) in
    let old = one_name_before files order none text k (omega (arith, le)) in
    let new = names_of_file files order (is_among before) number (slice_get files number) (quiet_names files order k none lt) text in
    let both = once_more text before (times text here) old new in
    let name = λ (n : ℕ). of_file full_names (slice_get files n) in
    let more : names_before files (take (suc k) order) ≡ before ++ here =
    ap (flat_map name) (take-suc order k 0 lt)
    ∙ flat_map-append name (take k order) (number ∷ [])
    ∙ ap (λ (l : List (List ℕ)). before ++ l) (append-nil here) in
    subst (λ (l : List (List ℕ)). times text l ≤ 1) (sym more) (subst (λ (n : ℕ). n ≤ 1) (sym (times_append text before here)) both)

-- in the files of the order each full name stands at most once
pub one_name : (files : List NamedFile) (order : List ℕ) → names_refusal files order ≡ None → (text : List ℕ) → times text (names_before files order) ≤ 1
one_name files order none text =
    subst (λ (l : List ℕ). times text (names_before files l) ≤ 1) (take-length order) (one_name_before files order none text (length order) (omega arith))
