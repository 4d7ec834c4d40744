-- Files by their places in the resolved order.
use Rattle.std.proofs.Common.{◌≡◌, ℕ, suc, ◌+◌, ◌-◌, ◌<◌, List, [], ◌∷◌, ◌++◌, length, take, get_or, refl, sym, ◌∙◌, ap, add-one, arith}
use Rattle.std.proofs.Math.Path.{fun_ext}
use Rattle.std.proofs.lemmas.List.Sums.{fold-append}
use Rattle.std.proofs.lemmas.Grind.{common_steps}
use Rattle.std.specs.List.{fold, range_with_len}
use Rattle.std.specs.Prelude.{Bool, true, false, ◌||◌, Option, Some, None, slice_get}
use Rattle.std.specs.Str.{bytes_eq}
use Rattle.mojom_files.specs.declared.named_file.NamedFile.{NamedFile}
use Rattle.mojom_files.specs.Refusals.{first_of}
use Rattle.module_resolver.specs.declared.file_names.Names.{Names}
use Rattle.name_refusals.specs.Known.{no_names, with_name}
use Rattle.module_resolver.specs.NamesOf.{names_of}
use Rattle.name_refusals.specs.NameRefusals.{is_among, of_file, full_names, names_before, refusals_in, refusals_at}
use Rattle.name_refusals.proofs.Known.{or_false}

regroup : (a b c : Bool) → ((a || b) || c) ≡ (a || (b || c))
regroup true b c = refl
regroup false b c = refl

over_names : (start : List ℕ → Bool) (names : List (List ℕ)) (q : List ℕ) → fold with_name start names q ≡ (start q || is_among names q)
over_names start [] q = or_false (start q)
over_names start (x ∷ xs) q = over_names (with_name start x) xs q ∙ regroup (start q) (bytes_eq q x) (is_among xs q)

-- names that were added one by one are those of the list
known_is : (names : List (List ℕ)) → fold with_name no_names names ≡ is_among names
known_is names = fun_ext (λ (q : List ℕ). over_names no_names names q)

-- what is refused of the file of this place, by its number and by what is known from the files before
pub at_place : (files : List NamedFile) (order : List ℕ) (i : ℕ) (names : Names) (known : List ℕ → Bool) → names ≡ names_of files order
    → known ≡ fold with_name no_names (names_before files (take i order))
    → of_file (refusals_in names.files known (get_or order i 0)) (slice_get files (get_or order i 0)) ≡ refusals_at files order i
at_place files order i names known n k = rw (n, k, known_is (names_before files (take i order))) refl

split_names : (files : List NamedFile) (done : List ℕ) (one : ℕ)
    → names_before files (done ++ one ∷ []) ≡ names_before files done ++ of_file full_names (slice_get files one)
split_names files done one = grind (arith, common_steps)

-- the names of one more file are known
pub known_more : (files : List NamedFile) (order : List ℕ) (i : ℕ) (known more : List ℕ → Bool) → i < length order
    → known ≡ fold with_name no_names (names_before files (take i order))
    → more ≡ fold with_name known (of_file full_names (slice_get files (get_or order i 0)))
    → more ≡ fold with_name no_names (names_before files (take (i + 1) order))
known_more files order i known more lt k m =
    let number = get_or order i 0 in
    let done = take i order in
    m ∙ ap (λ start. fold with_name start (of_file full_names (slice_get files number))) k
    ∙ sym (fold-append with_name no_names (names_before files done) (of_file full_names (slice_get files number)))
    ∙ ap (fold with_name no_names) (sym (ap (names_before files) (more_order order i lt) ∙ split_names files done number))
  where
    more_order : (order : List ℕ) (i : ℕ) → i < length order → take (i + 1) order ≡ take i order ++ get_or order i 0 ∷ []
    more_order order i lt = grind (arith, common_steps)

-- nothing is found at this place
pub next_place : {B : Type 0} (f : ℕ → Option B) (i n : ℕ) → i < n → f i ≡ None
    → first_of f (range_with_len i (n - i)) ≡ first_of f (range_with_len (i + 1) (n - (i + 1)))
next_place f i n lt none = let e : n - i ≡ suc (n - (i + 1)) = omega arith in rw (e, none, add-one) refl

-- something is found at this place
pub found_place : {B : Type 0} (f : ℕ → Option B) (i n : ℕ) (found : B) → i < n → f i ≡ Some found
    → first_of f (range_with_len i (n - i)) ≡ Some found
found_place f i n found lt some = let e : n - i ≡ suc (n - (i + 1)) = omega arith in rw (e, some) refl
