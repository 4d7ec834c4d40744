-- Names of files, and the files that imports name.
use Rattle.std.proofs.Common.{◌≡◌, ℕ, zero, suc, ◌+◌, ◌<◌, List, [], ◌∷◌, map, length, take, get_or, refl, sym, ◌∙◌, ap, subst, inl, inr, arith}
use Rattle.std.specs.Prelude.{Bool, true, false, ◌||◌, if◌then◌else◌, Option, Some, None, IfSome, is_some, nat_lt}
use Rattle.std.specs.List.{flat_map, list_any}
use Rattle.std.specs.Option.{option_map, option_map_or, option_to_list}
use Rattle.std.specs.Str.{IsUtf8, bytes_eq}
use Rattle.std.proofs.lemmas.Bool.{lt-ltb, le-ltb, ltb-true, ltb-false, cases_Bool}
use Rattle.std.proofs.lemmas.List.Elements.{All-nil, All-head, All-tail, All-append, All-cons}
use Rattle.std.proofs.lemmas.List.{length-map}
use Rattle.std.proofs.lemmas.Option.{slice_get_read}
use Rattle.std.proofs.lemmas.Slice.Eq.{bytes_eq-Decides}
use Rattle.mojom_ast.specs.declared.file.Import.{Import}
use Rattle.mojom_files.specs.declared.named_file.NamedFile.{NamedFile}
use Rattle.mojom_files.specs.declared.refusal.Refusal.{Refusal}
use Rattle.mojom_files.specs.Refusals.{best_of}
use Rattle.import_order.specs.Numbers.{number_of}
use Rattle.import_order.specs.steps.Taking.{AreBelow, AreImports}
use Rattle.import_order.specs.Order.{imported, imports_of, all_imports, file_names, given_refusals, given_refusals_at}
use Rattle.import_order.specs.steps.Taking.{AreTexts}

below_next : (o : Option ℕ) (n : ℕ) → IfSome o (λ (k : ℕ). k < n) → IfSome (option_map (λ (k : ℕ). k + 1) o) (λ (k : ℕ). k < suc n)
below_next None n lt = tt
below_next (Some k) n lt = omega (arith, lt)

below_if : (b : Bool) (o : Option ℕ) (n : ℕ) → IfSome o (λ (k : ℕ). k < suc n) → IfSome (if b then Some 0 else o) (λ (k : ℕ). k < suc n)
below_if true o n lt = omega arith
below_if false o n lt = lt

-- the number of a name is a number of the list
pub number_below : (q : List ℕ) (names : List (List ℕ)) → IfSome (number_of q names) (λ (k : ℕ). k < length names)
number_below q [] = tt
number_below q (x ∷ names) = below_if (bytes_eq q x) _ (length names) (below_next (number_of q names) (length names) (number_below q names))

-- what is no text is none of names that are texts
pub no_text : (q : List ℕ) (names : List (List ℕ)) → (IsUtf8 q → ⊥) → AreTexts names → number_of q names ≡ None
no_text q [] none texts = refl
no_text q (x ∷ names) none texts = go (bytes_eq q x) refl (no_text q names none (All-tail IsUtf8 x names texts))
  where
    go : (b : Bool) → bytes_eq q x ≡ b → number_of q names ≡ None → (if b then Some 0 else option_map (λ (k : ℕ). k + 1) (number_of q names)) ≡ None
    go true is later = absurd (none (subst IsUtf8 (sym ((bytes_eq-Decides q x).0 is)) (All-head IsUtf8 x names texts)))
    go false is later = rw later refl

less_next : (k n : ℕ) → nat_lt (k + 1) (suc n) ≡ nat_lt k n
less_next k n = elim (cases_Bool (nat_lt k n)) [
  | inl is ↦ let lt = ltb-true k n is in lt-ltb (k + 1) (suc n) (omega (arith, lt)) ∙ sym is
  | inr is ↦ let le = ltb-false k n is in le-ltb (k + 1) (suc n) (omega (arith, le)) ∙ sym is
]

-- there is a number, and it is below the limit
abbrev pub is_below : ℕ → Option ℕ → Bool
is_below n o = option_map_or (λ (k : ℕ). nat_lt k n) o false

none_below : (o : Option ℕ) → is_below 0 o ≡ false
none_below None = refl
none_below (Some k) = le-ltb k 0 (omega arith)

below_more : (o : Option ℕ) (n : ℕ) → is_below (suc n) (option_map (λ (k : ℕ). k + 1) o) ≡ is_below n o
below_more None n = refl
below_more (Some k) n = less_next k n

below_at : (b : Bool) (o : Option ℕ) (n : ℕ) (later : Bool) → is_below (suc n) o ≡ later → is_below (suc n) (if b then Some 0 else o) ≡ (b || later)
below_at true o n later is = lt-ltb 0 (suc n) (omega arith)
below_at false o n later is = is

-- a name stands in the front of a list where its first number is below the front's length
pub given_before : (q : List ℕ) (names : List (List ℕ)) (n : ℕ) → is_below n (number_of q names) ≡ list_any (bytes_eq q) (take n names)
given_before q [] zero = refl
given_before q [] (suc n) = refl
given_before q (x ∷ names) zero = none_below (number_of q (x ∷ names))
given_before q (x ∷ names) (suc n) =
    below_at (bytes_eq q x) (option_map (λ (k : ℕ). k + 1) (number_of q names)) n (list_any (bytes_eq q) (take n names))
    (below_more (number_of q names) n ∙ given_before q names n)

one_below : (limit : ℕ) (o : Option ℕ) → IfSome o (λ (k : ℕ). k < limit) → AreBelow limit (option_to_list o)
one_below limit None lt = All-nil (λ (k : ℕ). k < limit)
one_below limit (Some k) lt = All-cons (λ (k : ℕ). k < limit) k [] lt (All-nil (λ (k : ℕ). k < limit))

numbers_below : (names : List (List ℕ)) (imports : List Import)
    → AreBelow (length names) (flat_map (λ (one : Import). option_to_list (imported names one)) imports)
numbers_below names [] = All-nil (λ (k : ℕ). k < length names)
numbers_below names (one ∷ imports) =
    All-append (λ (k : ℕ). k < length names) _ _ (one_below (length names) (imported names one) (number_below one.path.bytes names))
    (numbers_below names imports)

each_below : (names : List (List ℕ)) (files : List NamedFile) (k : ℕ) → AreBelow (length names) (get_or (map (imports_of names) files) k [])
each_below names [] k = All-nil (λ (k : ℕ). k < length names)
each_below names (file ∷ files) zero = numbers_below names file.tree.imports
each_below names (file ∷ files) (suc k) = each_below names files k

-- the imports of files are numbers of files
pub imports_below : (files : List NamedFile) → AreImports (all_imports files)
imports_below files = λ (file : ℕ).
    subst (λ (n : ℕ). AreBelow n (get_or (all_imports files) file [])) (same_length files) (each_below (file_names files) files file)
  where
    same_length : (files : List NamedFile) → length (file_names files) ≡ length (all_imports files)
    same_length files = length-map files (λ (f : NamedFile). f.name) ∙ sym (length-map files (imports_of (file_names files)))

pub refusals_at : (files : List NamedFile) (number : ℕ) (file : NamedFile)
    → number < length files → file ≡ get_or files number file
    → given_refusals_at files number ≡ given_refusals (file_names files) number file
refusals_at files number file lt is =
    ap (λ (o : Option NamedFile). option_map_or (given_refusals (file_names files) number) o [])
    (slice_get_read files (length files) number file refl lt is)

-- the first refusal of a file is the first at its number
pub refusal_at : (files : List NamedFile) (names : List (List ℕ)) (number : ℕ) (file : NamedFile) (refusal : Option Refusal)
    → number < length files → file ≡ get_or files number file → names ≡ file_names files
    → refusal ≡ best_of None (given_refusals names number file)
    → refusal ≡ best_of None (given_refusals_at files number)
refusal_at files names number file refusal lt is named e =
    e
    ∙ (ap (λ (names : List (List ℕ)). best_of None (given_refusals names number file)) named ∙ ap (best_of None) (sym (refusals_at files number file lt is)))

-- what is not some is none
pub is_none_of : {A : Type 0} (o : Option A) → is_some o ≡ false → o ≡ None
is_none_of None is = refl
is_none_of (Some x) is = absurd (cc)
