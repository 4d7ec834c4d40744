-- Each definition that a name means has a row.
use Rattle.std.proofs.Common.{◌≡◌, ◌<◌, ◌+◌, ℕ, zero, suc, List, [], ◌∷◌, length, refl, sym, ◌∙◌, ap, subst, arith}
use Rattle.std.specs.Prelude.{Bool, true, false, not, ◌||◌, ◌==◌, cond, map, find, Option, Some, None, option_and_then, slice_get}
use Rattle.std.specs.List.{AllByRecursion, range_with_len}
use Rattle.std.specs.Option.{option_map, option_map_or}
use Rattle.std.proofs.lemmas.Bool.{eqb-true}
use Rattle.std.proofs.lemmas.List.{length-map}
use Rattle.std.proofs.lemmas.Option.{slice_get-map, slice_get_within}
use Rattle.mojom_files.specs.declared.named_file.NamedFile.{NamedFile}
use Rattle.mojom_files.specs.Definitions.{Defined, definitions_of}
use Rattle.module_resolver.specs.declared.target.Target.TheVariants as targets
use Rattle.module_resolver.specs.declared.target.DefinitionSort.{DefinitionSort}
use Rattle.module_resolver.specs.declared.file_names.FileNames.{FileNames}
use Rattle.module_resolver.specs.LookUp.{sort_of}
use Rattle.module_resolver.specs.NamesOf.{sort_of_item, names_in, names_of}
use Rattle.import_order.specs.Imports.{has, all_files, IsOrder}
use Rattle.import_order.specs.Order.{all_imports, imports_of, file_names}
use Rattle.draft_rows.specs.declared.counts.Counts.{Counts}
use Rattle.draft_rows.specs.declared.counts.FileRows.{FileRows}
use Rattle.draft_rows.specs.RowCounts.{after, after_all, no_rows, counts_before, definitions_at, rows_from, rows_of, rows_before}
use Rattle.schema_laws.proofs.Each.{at_each}

-- the definition that a target means, and what it is
pub record IsDefinedAs (files : List NamedFile) (file number : ℕ) (sort : DefinitionSort) : Type 0 where
  pub tree : NamedFile
  pub tree_is : slice_get files file ≡ Some tree
  pub definition : Defined
  pub definition_is : slice_get (definitions_of tree.tree) number ≡ Some definition
  pub sort_is : sort_of_item definition.item ≡ sort

-- it stands at this place
pub record IsAt {A : Type 0} (xs : List A) (k : ℕ) : Type 0 where
  pub one : A
  pub is : slice_get xs k ≡ Some one

pub at_map : {A B : Type 0} (f : A → B) (xs : List A) (k : ℕ) (y : B) → slice_get (map f xs) k ≡ Some y
    → (x : A) × (slice_get xs k ≡ Some x) × (f x ≡ y)
at_map {A = A} f xs k y e = go (slice_get xs k) refl (sym (slice_get-map f xs k) ∙ e)
  where
    go : (o : Option A) → slice_get xs k ≡ o → option_map f o ≡ Some y → (x : A) × (slice_get xs k ≡ Some x) × (f x ≡ y)
    go None is e = absurd cc
    go (Some x) is e = (x, is, cc)

pub at_below : {A : Type 0} (xs : List A) (k : ℕ) → k < length xs → IsAt xs k
at_below [] k lt = let bad : ⊥ = omega arith in absurd bad
at_below (x ∷ xs) zero lt = record { one = x; is = refl }
at_below (x ∷ xs) (suc k) lt = let rest = at_below xs k (omega (arith, lt)) in record { one = rest.one; is = rest.is }

pub defined_as : (files : List NamedFile) (order : List ℕ) (file number : ℕ) (sort : DefinitionSort)
    → sort_of (names_of files order).files (targets.Definition file number) ≡ Some sort → IsDefinedAs files file number sort
defined_as files order file number sort e = go (slice_get (names_of files order).files file) refl e
  where
    go : (o : Option FileNames) → slice_get (names_of files order).files file ≡ o
        → option_and_then (λ (f : FileNames). slice_get f.sorts number) o ≡ Some sort → IsDefinedAs files file number sort
    go None is e = absurd cc
    go (Some f) is e =
        let tree = at_map (names_in files order) files file f is in
        let sorts : slice_get (names_in files order tree.0).sorts number ≡ Some sort = ap (λ (g : FileNames). slice_get g.sorts number) tree.2 ∙ e in
        let d = at_map (λ (d : Defined). sort_of_item d.item) (definitions_of tree.0.tree) number sort sorts in
        record { tree = tree.0; tree_is = tree.1; definition = d.0; definition_is = d.1; sort_is = d.2 }

-- all files are in the order

found_none : (test : ℕ → Bool) (xs : List ℕ) → find test xs ≡ None → AllByRecursion (λ x. test x ≡ false) xs
found_none test [] e = tt
found_none test (x ∷ xs) e = go (test x) refl e (found_none test xs)
  where
    go : (b : Bool) → test x ≡ b → cond b (Some x) (find test xs) ≡ None → (find test xs ≡ None → AllByRecursion (λ y. test y ≡ false) xs)
        → (test x ≡ false) × AllByRecursion (λ y. test y ≡ false) xs
    go true is e rest = absurd cc
    go false is e rest = (is, rest e)

pub at_range : (from n k : ℕ) → k < n → slice_get (range_with_len from n) k ≡ Some (from + k)
at_range from zero k lt = let bad : ⊥ = omega arith in absurd bad
at_range from (suc n) zero lt = let e : from ≡ from + 0 = omega arith in ap (λ (m : ℕ). let o : Option ℕ = Some m in o) e
at_range from (suc n) (suc k) lt =
    let e : from + 1 + k ≡ from + suc k = omega arith in
    at_range (from + 1) n k (omega (arith, lt)) ∙ ap (λ (m : ℕ). let o : Option ℕ = Some m in o) e

pub in_order : (files : List NamedFile) (order : List ℕ) → IsOrder (all_imports files) order → (file : ℕ) → file < length files → has order file ≡ true
in_order files order is file lt =
    let all = found_none (λ (f : ℕ). not (has order f)) (all_files (all_imports files)) is.none_left in
    let count : length (all_imports files) ≡ length files = length-map files (imports_of (file_names files)) in
    let there : slice_get (all_files (all_imports files)) file ≡ Some (0 + file) = at_range 0 (length (all_imports files)) file (omega (arith, lt, count)) in
    let zero_more : 0 + file ≡ file = omega arith in
    not_so (has order file) (subst (λ (f : ℕ). not (has order f) ≡ false) zero_more
    (at_each (λ (f : ℕ). not (has order f) ≡ false) (all_files (all_imports files)) file (0 + file) all there))
  where
    not_so : (b : Bool) → not b ≡ false → b ≡ true
    not_so true e = refl
    not_so false e = absurd cc

-- the rows of a file of the order are found
record HasRows (files : List NamedFile) (file : ℕ) (found : Option FileRows) : Type 0 where
  row : FileRows
  is : found ≡ Some row
  counts : Counts
  before : row.before ≡ counts_before counts (definitions_at files file)

rows_found : (files : List NamedFile) (counts : Counts) (order : List ℕ) (file : ℕ) → has order file ≡ true
    → HasRows files file (find (λ (r : FileRows). r.file == file) (rows_from files counts order))
rows_found files counts [] file e = absurd cc
rows_found files counts (number ∷ numbers) file e =
    go (number == file) refl e (rows_found files (after_all counts (definitions_at files number)) numbers file)
  where
    go : (b : Bool) → (number == file) ≡ b → (b || has numbers file) ≡ true
        → (has numbers file ≡ true
        → HasRows files file (find (λ (r : FileRows). r.file == file) (rows_from files (after_all counts (definitions_at files number)) numbers)))
        → HasRows files file (cond b (Some (record { file = number; before = counts_before counts (definitions_at files number) }))
        (find (λ (r : FileRows). r.file == file) (rows_from files (after_all counts (definitions_at files number)) numbers)))
    go true is e more =
        let same : number ≡ file = eqb-true number file is in
        record {
          row = record { file = number; before = counts_before counts (definitions_at files number) };
          is = refl;
          counts = counts;
          before = ap (λ (n : ℕ). counts_before counts (definitions_at files n)) same;
        }
    go false is e more = more e

count_before : (counts : Counts) (ds : List Defined) → length (counts_before counts ds) ≡ length ds
count_before counts [] = refl
count_before counts (d ∷ ds) = ap suc (count_before (after counts d.item) ds)

definitions_are : (files : List NamedFile) (file : ℕ) (tree : NamedFile) → slice_get files file ≡ Some tree
    → definitions_at files file ≡ definitions_of tree.tree
definitions_are files file tree is = ap (λ (o : Option NamedFile). option_map_or (λ (f : NamedFile). definitions_of f.tree) o []) is

-- a definition of a file of the order has a row
pub has_row : (files : List NamedFile) (order : List ℕ) (file number : ℕ) (sort : DefinitionSort) → IsOrder (all_imports files) order
    → IsDefinedAs files file number sort → (counts : Counts) × (rows_before (rows_of files order) file number ≡ Some counts)
has_row files order file number sort is d =
    let there = in_order files order is file (slice_get_within files file d.tree d.tree_is) in
    let rows = rows_found files no_rows order file there in
    let same = definitions_are files file d.tree d.tree_is in
    let below : number < length (definitions_of d.tree.tree) = slice_get_within (definitions_of d.tree.tree) number d.definition d.definition_is in
    let count : length rows.row.before ≡ length (definitions_of d.tree.tree) =
    ap length rows.before ∙ (count_before rows.counts (definitions_at files file) ∙ ap length same) in
    let at = at_below rows.row.before number (omega (arith, below, count)) in
    (at.one, ap (λ (o : Option FileRows). option_and_then (λ (r : FileRows). slice_get r.before number) o) rows.is ∙ at.is)
