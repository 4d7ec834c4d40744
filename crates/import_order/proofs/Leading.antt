-- The import of a file that leads on, and where it stands.
use Rattle.std.proofs.Common.{◌≡◌, ℕ, ◌<◌, List, [], ◌∷◌, ◌++◌, length, take, drop, get_or, refl, sym, ◌∙◌, ap, subst}
use Rattle.std.specs.Prelude.{Bool, true, false, not, ◌==◌, cond, Option, Some, None, find, option_and_then}
use Rattle.std.specs.List.{flat_map, range_with_len}
use Rattle.std.specs.Option.{option_map, option_map_or, option_to_list}
use Rattle.std.proofs.lemmas.Bool.{eq-eqb}
use Rattle.std.proofs.lemmas.List.{length-map, get_or-map}
use Rattle.std.proofs.lemmas.List.Elements.{All-take, All-drop}
use Rattle.std.proofs.lemmas.Option.{same_Some, none-some, slice_get_read}
use Rattle.mojom_ast.specs.declared.file.Import.{Import}
use Rattle.mojom_files.specs.declared.named_file.NamedFile.{NamedFile}
use Rattle.import_order.specs.Imports.{has, import_left, first_left, IsTakenWhole, IsOrder}
use Rattle.import_order.specs.steps.Taking.{AreBelow, AreImports}
use Rattle.import_order.specs.Order.{file_names, imported, imports_of, all_imports, names_file, import_place, given_refusal, LeadsOnAt, IsOrdered}
use Rattle.import_order.proofs.FileNumbers.{imports_below}

-- the imports of files are numbers of files, where the lists are kept beside the files
pub are_imports : (files : List NamedFile) (imports : List (List ℕ)) → imports ≡ all_imports files → AreImports imports
are_imports files imports e = subst AreImports (sym e) (imports_below files)

pub as_many : (files : List NamedFile) (imports : List (List ℕ)) → imports ≡ all_imports files → length imports ≡ length files
as_many files imports e = ap (λ (xs : List (List ℕ)). length xs) e ∙ length-map files (imports_of (file_names files))

-- a part of a walk has numbers of files alone
pub part_below : (files : List NamedFile) (imports : List (List ℕ)) (path all : List ℕ) (first count : ℕ)
    → imports ≡ all_imports files → AreBelow (length imports) path → all ≡ path
    → AreBelow (length files) (take count (drop first all))
part_below files imports path all first count e below is =
    All-take (λ (k : ℕ). k < length files) count (drop first all)
    (All-drop (λ (k : ℕ). k < length files) first all
    (subst (λ (xs : List ℕ). AreBelow (length files) xs) (sym is) (subst (λ (n : ℕ). AreBelow n path) (as_many files imports e) below)))

abbrev numbers : List (List ℕ) → List Import → List ℕ
numbers names imports = flat_map (λ (one : Import). option_to_list (imported names one)) imports

none_of : {A : Type 0} (b : Bool) (x : A) (found : Option A) → cond b (Some x) found ≡ None → (b ≡ false) × (found ≡ None)
none_of true x found e = absurd (cc)
none_of false x found e = (refl, e)

here_or_later : (p : ℕ → Bool) (b : Bool) (k next : ℕ) (later : Option ℕ) → (k == next) ≡ false → cond b (Some k) later ≡ Some next → later ≡ Some next
here_or_later p true k next later other e = absurd (let is = eq-eqb k next (same_Some k next e) in cc)
here_or_later p false k next later other e = e

-- what is found among the numbers of imports, an import names
pub named : (p : ℕ → Bool) (names : List (List ℕ)) (imports : List Import) (next : ℕ)
    → find p (numbers names imports) ≡ Some next → find (names_file names next) imports ≡ None
    → ⊥
named p names [] next e none = none-some next e
named p names (one ∷ imports) next e none = go (imported names one) (named p names imports next) e none
  where
    go : (o : Option ℕ)
        → (find p (numbers names imports) ≡ Some next → find (names_file names next) imports ≡ None → ⊥)
        → find p (option_to_list o ++ numbers names imports) ≡ Some next
        → cond (option_map_or (λ (other : ℕ). other == next) o false) (Some one) (find (names_file names next) imports) ≡ None
        → ⊥
    go None later e none = later e none
    go (Some k) later e none =
        let parts = none_of (k == next) one (find (names_file names next) imports) none in
        later (here_or_later p (p k) k next (find p (numbers names imports)) parts.0 e) parts.1

place_of_none : (o : Option Import) → option_map (λ (one : Import). one.path.span.start) o ≡ None → o ≡ None
place_of_none None e = refl
place_of_none (Some one) e = absurd (cc)

-- the import that leads on from a file of this number has a place
pub place_there : (files : List NamedFile) (names : List (List ℕ)) (imports : List (List ℕ)) (taken : List ℕ) (file next : ℕ)
    (one : NamedFile)
    → names ≡ file_names files → imports ≡ all_imports files → file < length imports → one ≡ get_or files file one
    → import_left imports taken file ≡ Some next → import_place names next one ≡ None
    → ⊥
place_there files names imports taken file next one are all within is leads none =
    let lt : file < length files = subst (λ (n : ℕ). file < n) (as_many files imports all) within in
    let of =
    ap (λ (xs : List (List ℕ)). get_or xs file []) all
    ∙ (get_or-map (imports_of (file_names files)) files file one [] lt
    ∙ (ap (imports_of (file_names files)) (sym is) ∙ ap (λ (ns : List (List ℕ)). imports_of ns one) (sym are))) in
    named (λ (k : ℕ). not (has taken k)) names one.tree.imports next (sym (ap (first_left taken) of) ∙ leads)
    (place_of_none (find (names_file names next) one.tree.imports) none)

-- the import that leads on from a file stands at this place
pub leads_at : (files : List NamedFile) (names : List (List ℕ)) (imports : List (List ℕ)) (taken : List ℕ) (file next at : ℕ)
    (one : NamedFile)
    → names ≡ file_names files → imports ≡ all_imports files → file < length imports → one ≡ get_or files file one
    → import_left imports taken file ≡ Some next → Some at ≡ import_place names next one
    → LeadsOnAt files taken file at
leads_at files names imports taken file next at one are all within is leads place =
    let lt : file < length files = subst (λ (n : ℕ). file < n) (as_many files imports all) within in
    record {
      next = next;
      leads = subst (λ (xs : List (List ℕ)). import_left xs taken file ≡ Some next) all leads;
      place =
          ap (option_and_then (import_place (file_names files) next)) (slice_get_read files (length files) file one refl lt is)
          ∙ (ap (λ (ns : List (List ℕ)). import_place ns next one) (sym are) ∙ sym place);
    }

-- files that could all be taken are ordered
pub ordered : (files : List NamedFile) (imports : List (List ℕ)) (taken order : List ℕ)
    → imports ≡ all_imports files → given_refusal files ≡ None → IsTakenWhole imports taken
    → None ≡ first_left taken (range_with_len 0 (length files)) → order ≡ taken
    → IsOrdered files order
ordered files imports taken order all none whole left is = subst (IsOrdered files) (sym is) (record {
  none = none;
  is = subst (λ (xs : List (List ℕ)). IsOrder xs taken) all (record {
    in_order = whole.in_order;
    none_left = ap (λ (n : ℕ). first_left taken (range_with_len 0 n)) (as_many files imports all) ∙ sym left;
  });
})
