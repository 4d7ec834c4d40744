-- The structs that no method has are those of struct definitions.
use Rattle.std.proofs.Common.{◌≡◌, ℕ, ◌+◌, ◌<◌, ◌≤◌, List, [], ◌∷◌, ◌++◌, length, refl, sym, ◌∙◌, ap, subst, arith, append_assoc, length-append}
use Rattle.std.specs.Prelude.{Bool, true, false, ◌||◌, ◌==◌, if◌then◌else◌, codes, Option, Some, None}
use Rattle.std.specs.List.{flat_map, list_any}
use Rattle.std.specs.Option.{option_map, option_to_list}
use Rattle.std.proofs.lemmas.Bool.{or_from, eq-eqb, ne_eqb}
use Rattle.std.proofs.lemmas.Grind.{flat_map-append}
use Rattle.std.proofs.lemmas.List.{append-nil}
use Rattle.std.proofs.lemmas.List.Folds.{list_any-append}
use Rattle.mojom_ast.specs.declared.attributes.Attribute.{Attribute}
use Rattle.mojom_ast.specs.declared.definitions.DefinitionItem.{DefinitionItem}
use Rattle.mojom_ast.specs.declared.definitions.DefinitionItem.TheVariants as items
use Rattle.mojom_ast.specs.declared.definitions.Method.{Method}
use Rattle.mojom_ast.specs.declared.definitions.Parameter.{Parameter}
use Rattle.mojom_files.specs.declared.named_file.NamedFile.{NamedFile}
use Rattle.mojom_files.specs.Definitions.{Defined}
use Rattle.mj_base.specs.Names.{within}
use Rattle.module_resolver.specs.declared.file_names.FileNames.{FileNames}
use Rattle.const_eval.specs.declared.consts.Consts.{Consts}
use Rattle.mj_schema.specs.declared.rows.DraftStruct.{DraftStruct}
use Rattle.mj_schema.specs.declared.rows.InterfaceRow.{InterfaceRow}
use Rattle.mj_schema.specs.declared.rows.MethodRow.{MethodRow}
use Rattle.mj_schema.specs.WellFormed.{structs_of_methods as numbers_of_methods}
use Rattle.draft_rows.specs.declared.counts.Counts.{Counts}
use Rattle.draft_rows.specs.declared.counts.FileRows.{FileRows}
use Rattle.draft_rows.specs.declared.draft.Draft.{Draft}
use Rattle.kind_scope.specs.Scopes.{Scope, inside}
use Rattle.kind_scope.specs.Members.{held, ordinal_at}
use Rattle.draft_rows.specs.RowCounts.{methods_in, structs_of, definitions_at, no_rows, rows_of}
use Rattle.draft_rows.specs.Rows.{parameters_row, response_row, method_rows, method_structs, structs_of_methods}
use Rattle.draft_rows.specs.Drafts.{join, enclosed, draft_of_item, draft_of_definition, draft_of}
use Rattle.schema_laws.proofs.Tables.{named_drafts}
use Rattle.schema_laws.proofs.Numbering.{structs_of_method, Lifts, in_files}

-- the number is one of these
abbrev has : List ℕ → ℕ → Bool
has numbers one = list_any (λ (other : ℕ). one == other) numbers

-- structs, the first of which has this number: methods have some of them and no others, and the names of those that methods don't have
record StandFrom (first : ℕ) (methods : List ℕ) (structs : List DraftStruct) (names : List (List ℕ)) : Type 0 where
  none_below : (k : ℕ) → k < first → has methods k ≡ false
  none_above : (k : ℕ) → first + length structs ≤ k → has methods k ≡ false
  names_are : named_drafts methods first structs ≡ names

-- only what is said of the structs' own numbers counts
named_by : (one two : List ℕ) (first : ℕ) (structs : List DraftStruct)
    → ((k : ℕ) → first ≤ k → k < first + length structs → has one k ≡ has two k)
    → named_drafts one first structs ≡ named_drafts two first structs
named_by one two first [] same = refl
named_by one two first (row ∷ rows) same =
    let here : has one first ≡ has two first = same first (omega arith) (omega arith) in
    let rest = named_by one two (first + 1) rows (λ k ge lt. same k (omega (arith, ge)) (omega (arith, lt))) in
    cc

-- the names of structs, and of others behind them
named_append : (methods : List ℕ) (first : ℕ) (xs ys : List DraftStruct)
    → named_drafts methods first (xs ++ ys) ≡ named_drafts methods first xs ++ named_drafts methods (first + length xs) ys
named_append methods first [] ys = let e : first + 0 ≡ first = omega arith in rw e refl
named_append methods first (x ∷ xs) ys =
    let rest = named_append methods (first + 1) xs ys in
    let at : first + 1 + length xs ≡ first + length (x ∷ xs) = omega arith in
    let head = if has methods first then [] else x.name ∷ [] in
    ap (λ (l : List (List ℕ)). head ++ l) (rest ∙ ap (λ (n : ℕ). named_drafts methods (first + 1) xs ++ named_drafts methods n ys) at)
    ∙ sym (append_assoc head (named_drafts methods (first + 1) xs) (named_drafts methods (first + length (x ∷ xs)) ys))

-- a disjunction with false is its other side

or_false : (b c : Bool) → c ≡ false → (b || c) ≡ b
or_false true c e = refl
or_false false c e = e

false_or : (b c : Bool) → b ≡ false → (b || c) ≡ c
false_or true c e = absurd cc
false_or false c e = refl

-- structs, and then others
stand_both : (first : ℕ) (m n : List ℕ) (s t : List DraftStruct) (x y : List (List ℕ))
    → StandFrom first m s x → StandFrom (first + length s) n t y → StandFrom first (m ++ n) (s ++ t) (x ++ y)
stand_both first m n s t x y one two = record {
  none_below = λ k lt. split k ∙ or_from (has m k) (has n k) (one.none_below k lt) (two.none_below k (omega (arith, lt)));
  none_above = λ k le.
      let long = length-append s t in
      split k ∙ or_from (has m k) (has n k) (one.none_above k (omega (arith, le, long))) (two.none_above k (omega (arith, le, long)));
  names_are =
      let front = named_by (m ++ n) m first s (λ k ge lt. split k ∙ or_false (has m k) (has n k) (two.none_below k lt)) ∙ one.names_are in
      let back = named_by (m ++ n) n (first + length s) t (λ k ge lt. split k ∙ false_or (has m k) (has n k) (one.none_above k ge)) ∙ two.names_are in
      named_append (m ++ n) first s t
      ∙ ap (λ (l : List (List ℕ)). l ++ named_drafts (m ++ n) (first + length s) t) front
      ∙ ap (λ (l : List (List ℕ)). x ++ l) back;
}
  where
    split : (k : ℕ) → has (m ++ n) k ≡ (has m k || has n k)
    split k = list_any-append (λ (other : ℕ). k == other) m n

-- no structs
stand_none : (first : ℕ) → StandFrom first [] [] []
stand_none first = record { none_below = λ k lt. refl; none_above = λ k le. refl; names_are = refl }

-- a struct that a method has
stand_one : (first : ℕ) (row : DraftStruct) → StandFrom first (first ∷ []) (row ∷ []) []
stand_one first row = record {
  none_below = λ k lt. or_from (k == first) false (ne_eqb k first (λ e. below k lt e)) refl;
  none_above = λ k le. or_from (k == first) false (ne_eqb k first (λ e. above k le e)) refl;
  names_are = shown (first == first) (eq-eqb first first refl);
}
  where
    below : (k : ℕ) → k < first → k ≡ first → ⊥
    below k lt e = omega arith

    above : (k : ℕ) → first + 1 ≤ k → k ≡ first → ⊥
    above k le e = omega arith

    shown : (b : Bool) → b ≡ true → (if b || false then [] else row.name ∷ []) ++ [] ≡ []
    shown true e = refl
    shown false e = absurd cc

-- the structs that methods have, by their numbers
abbrev numbers_of : List MethodRow → List ℕ
numbers_of rows = flat_map (λ (m : MethodRow). m.request ∷ option_to_list m.response) rows

-- the structs of a method
stand_method : (rows : List FileRows) (scope : Scope) (full : List ℕ) (first : ℕ) (request : DraftStruct) (response : Option (List Parameter))
    → StandFrom first (first ∷ option_to_list (option_map (λ (parameters : List Parameter). first + 1) response))
    (request ∷ option_to_list (response_row rows scope full response)) []
stand_method rows scope full first request None = stand_one first request
stand_method rows scope full first request (Some parameters) =
    stand_both first (first ∷ []) ((first + 1) ∷ []) (request ∷ []) (parameters_row rows scope full parameters ∷ []) [] []
    (stand_one first request) (stand_one (first + 1) (parameters_row rows scope full parameters))

-- the structs of methods
stand_methods : (rows : List FileRows) (scope : Scope) (full : List ℕ) (next first : ℕ) (ms : List Method)
    → StandFrom first (numbers_of (method_rows next first ms)) (structs_of_methods rows scope full ms) []
stand_methods rows scope full next first [] = stand_none first
stand_methods rows scope full next first (m ∷ ms) =
    let name = within full m.name.text in
    let later = method_rows (held (ordinal_at next m.ordinal + 1)) (first + structs_of m) ms in
    let request = parameters_row rows scope (within name (codes "request")) m.request in
    let here = stand_method rows scope (within name (codes "response")) first request m.response in
    let rest = stand_methods rows scope full (held (ordinal_at next m.ordinal + 1)) (first + structs_of m) ms in
    stand_both first (first ∷ option_to_list (option_map (λ (parameters : List Parameter). first + 1) m.response)) (numbers_of later)
    (method_structs rows scope name m) (structs_of_methods rows scope full ms) [] [] here
    (subst (λ (n : ℕ). StandFrom (first + n) (numbers_of later) (structs_of_methods rows scope full ms) []) (structs_of_method rows scope name m) rest)

-- the full name of a definition, where it is a struct
abbrev pub struct_name : List ℕ → DefinitionItem → List (List ℕ)
struct_name full (items.Struct item) = full ∷ []
struct_name full _ = []

-- the structs of a definition
stand_item : (rows : List FileRows) (scope : Scope) (counts : Counts) (full : List ℕ) (attributes : List Attribute) (item : DefinitionItem)
    → StandFrom counts.structs (numbers_of_methods (draft_of_item rows scope counts full attributes item).interfaces)
    (draft_of_item rows scope counts full attributes item).structs (struct_name full item)
stand_item rows scope counts full attributes (items.Struct item) =
    record { none_below = λ k lt. refl; none_above = λ k le. refl; names_are = refl }
stand_item rows scope counts full attributes (items.Union item) = stand_none counts.structs
stand_item rows scope counts full attributes (items.Enum item) = stand_none counts.structs
stand_item rows scope counts full attributes (items.Interface item) =
    let ms = methods_in item.members in
    let numbers = numbers_of (method_rows 0 counts.structs ms) in
    subst (λ (l : List ℕ). StandFrom counts.structs l (structs_of_methods rows (inside scope full) full ms) []) (sym (append-nil numbers))
    (stand_methods rows (inside scope full) full 0 counts.structs ms)
stand_item rows scope counts full attributes (items.Const item) = stand_none counts.structs

-- the full names of the struct definitions among these
abbrev pub struct_names : List Defined → List (List ℕ)
struct_names ds = flat_map (λ (d : Defined). struct_name d.full d.item) ds

-- the structs of a draft that no method has are those of the struct definitions
abbrev AreNamed : ℕ → Draft → List Defined → Type 0
AreNamed first draft ds = StandFrom first (numbers_of_methods draft.interfaces) draft.structs (struct_names ds)

-- the structs of joined drafts
both_named : (first : ℕ) (one two : Draft) (ds es : List Defined)
    → AreNamed first one ds → AreNamed (first + length one.structs) two es
    → AreNamed first (join one two) (ds ++ es)
both_named first one two ds es a b =
    let methods = flat_map-append (λ (row : InterfaceRow). numbers_of row.methods) one.interfaces two.interfaces in
    let names = flat_map-append (λ (d : Defined). struct_name d.full d.item) ds es in
    subst (λ (l : List ℕ). StandFrom first l (one.structs ++ two.structs) (struct_names (ds ++ es))) (sym methods)
    (subst (StandFrom first (numbers_of_methods one.interfaces ++ numbers_of_methods two.interfaces) (one.structs ++ two.structs)) (sym names)
    (stand_both first (numbers_of_methods one.interfaces) (numbers_of_methods two.interfaces) one.structs two.structs (struct_names ds) (struct_names es) a b))

-- the structs of a definition of a file
each_named : (rows : List FileRows) (scope : Scope) (counts : Counts) (d : Defined)
    → AreNamed counts.structs (draft_of_definition rows scope counts d) (d ∷ [])
each_named rows scope counts d =
    let scoped = enclosed scope d.enclosing in
    let draft = draft_of_item rows scoped counts d.full d.attributes d.item in
    subst (StandFrom counts.structs (numbers_of_methods draft.interfaces) draft.structs) (sym (append-nil (struct_name d.full d.item)))
    (stand_item rows scoped counts d.full d.attributes d.item)

lifts_named : Lifts AreNamed
lifts_named = record { none = stand_none; both = both_named; each = each_named }

-- the structs of files that no method has are those of the struct definitions
pub names_of_structs : (names : List FileNames) (consts : Consts) (files : List NamedFile) (order : List ℕ)
    → named_drafts (numbers_of_methods (draft_of names consts files order).interfaces) 0 (draft_of names consts files order).structs
    ≡ struct_names (flat_map (definitions_at files) order)
names_of_structs names consts files order =
    let stand = in_files AreNamed lifts_named (rows_of files order) names consts files no_rows order in stand.names_are
