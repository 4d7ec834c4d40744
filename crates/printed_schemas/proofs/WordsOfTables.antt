-- A schema with the interfaces of files has plain names.
use Rattle.std.proofs.Common.{◌≡◌, ℕ, ◌||◌, Bool, false, true, not, List, [], ◌∷◌, ◌++◌, map, length, refl, sym, ap, subst}
use Rattle.std.specs.List.{list_all, list_any, AllByRecursion}
use Rattle.std.specs.Str.{bytes_eq}
use Rattle.std.proofs.lemmas.Bool.{and_from}
use Rattle.mj_base.specs.Texts.{are_distinct}
use Rattle.mj_schema.specs.WellFormed.{are_within, has_structs, is_row, are_allowed, has_distinct_tags, has_distinct_ordinals, has_members}
use Rattle.mj_schema.specs.WellFormed.{structs_of_methods, named_structs, all_kinds, counts_of}
use Rattle.mj_schema.specs.declared.rows.ConstRow.{ConstRow}
use Rattle.mj_schema.specs.declared.rows.EnumRow.{EnumRow}
use Rattle.mj_schema.specs.declared.rows.InterfaceRow.{InterfaceRow}
use Rattle.mj_schema.specs.declared.rows.UnionRow.{UnionRow}
use Rattle.mj_schema.specs.declared.schema.Schema.{Schema}
use Rattle.mojom_files.specs.declared.named_file.NamedFile.{NamedFile}
use Rattle.module_resolver.specs.declared.file_names.Names.{Names}
use Rattle.const_eval.specs.declared.consts.Consts.{Consts}
use Rattle.draft_rows.specs.Drafts.{draft_of}
use Rattle.schema_laws.specs.Passed.{IsPassed}
use Rattle.value_text.proofs.NumberLaws.{both_left, both_right}
use Rattle.line_parts.specs.Names.{is_word}
use Rattle.printed_schemas.specs.Spelled.{AreSpelled}
use Rattle.printed_schemas.proofs.WordNames.{interface_names, HasPlainMethods, HasPlainNames}
use Rattle.printed_schemas.proofs.WordTrees.{tree_plain}
use Rattle.printed_schemas.proofs.WordRows.{IsPlainRow, ArePlain, plain_rows}

-- trees

trees_plain : (files : List NamedFile) → AreSpelled files → ArePlain files
trees_plain [] trees = tt
trees_plain (file ∷ files) trees = (tree_plain file.tree trees.0, trees_plain files trees.1)

-- names that stand once

-- a list within another
distinct_behind : (xs ys : List (List ℕ)) → are_distinct (xs ++ ys) ≡ true → are_distinct ys ≡ true
distinct_behind [] ys e = e
distinct_behind (x ∷ xs) ys e = distinct_behind xs ys (both_right (not (list_any (bytes_eq x) (xs ++ ys))) (are_distinct (xs ++ ys)) e)

none_in_front : (x : List ℕ) (xs ys : List (List ℕ)) → list_any (bytes_eq x) (xs ++ ys) ≡ false → list_any (bytes_eq x) xs ≡ false
none_in_front x [] ys e = refl
none_in_front x (z ∷ zs) ys e = go (bytes_eq x z) e (none_in_front x zs ys)
  where
    go : (b : Bool) → (b || list_any (bytes_eq x) (zs ++ ys)) ≡ false → (list_any (bytes_eq x) (zs ++ ys) ≡ false → list_any (bytes_eq x) zs ≡ false)
        → (b || list_any (bytes_eq x) zs) ≡ false
    go true e rest = absurd (cc)
    go false e rest = rest e

not_any : (b : Bool) → not b ≡ true → b ≡ false
not_any true e = absurd (cc)
not_any false e = refl

distinct_in_front : (xs ys : List (List ℕ)) → are_distinct (xs ++ ys) ≡ true → are_distinct xs ≡ true
distinct_in_front [] ys e = refl
distinct_in_front (x ∷ xs) ys e =
    let here = not_any (list_any (bytes_eq x) (xs ++ ys)) (both_left (not (list_any (bytes_eq x) (xs ++ ys))) (are_distinct (xs ++ ys)) e) in
    and_from (not (list_any (bytes_eq x) xs)) (are_distinct xs) (ap not (none_in_front x xs ys here))
    (distinct_in_front xs ys (both_right (not (list_any (bytes_eq x) (xs ++ ys))) (are_distinct (xs ++ ys)) e))

-- what a schema says of its interfaces: ordinals and full names stand once
pub record AreTold (schema : Schema) : Type 0 where
  pub ordinals : list_all has_distinct_ordinals schema.interfaces ≡ true
  pub names : are_distinct (interface_names schema.interfaces) ≡ true

pub told : (schema : Schema) → AreTold schema
told schema =
    let counts = counts_of schema.structs schema.unions schema.enums schema.interfaces schema.consts in
    let kinds = all_kinds schema.structs schema.unions schema.consts in
    let a = list_all (are_within counts) kinds in
    let b = list_all (λ (row : InterfaceRow). list_all (has_structs (length schema.structs)) row.methods) schema.interfaces in
    let c = list_all (is_row counts) schema.order in
    let d = are_allowed schema.structs schema.unions schema.consts in
    let e = list_all has_distinct_tags schema.unions in
    let f = list_all has_distinct_ordinals schema.interfaces in
    let g = list_all has_members schema.enums in
    let rest = both_right e _ (both_right d _ (both_right c _ (both_right b _ (both_right a _ schema.well_formed)))) in
    let unions = map (λ (row : UnionRow). row.name) schema.unions in
    let enums = map (λ (row : EnumRow). row.name) schema.enums in
    let interfaces = interface_names schema.interfaces in
    let consts = map (λ (row : ConstRow). row.name) schema.consts in
    let structs = named_structs (structs_of_methods schema.interfaces) 0 schema.structs in
    let names = both_right g _ (both_right f _ rest) in
    record {
      ordinals = both_left f _ rest;
      names = distinct_in_front interfaces consts
          (distinct_behind enums (interfaces ++ consts)
          (distinct_behind unions (enums ++ (interfaces ++ consts)) (distinct_behind structs (unions ++ (enums ++ (interfaces ++ consts))) names)));
    }

-- rows

words_there : (rows : List InterfaceRow) → AllByRecursion IsPlainRow rows → list_all is_word (interface_names rows) ≡ true
words_there [] all = refl
words_there (row ∷ rows) all = and_from (is_word row.name) (list_all is_word (interface_names rows)) all.0.word (words_there rows all.1)

methods_there : (rows : List InterfaceRow) → AllByRecursion IsPlainRow rows → list_all has_distinct_ordinals rows ≡ true
    → AllByRecursion HasPlainMethods rows
methods_there [] all e = tt
methods_there (row ∷ rows) all e = (
  record { plain = all.0.plain; distinct = all.0.distinct; ordinals = both_left (has_distinct_ordinals row) (list_all has_distinct_ordinals rows) e },
  methods_there rows all.1 (both_right (has_distinct_ordinals row) (list_all has_distinct_ordinals rows) e),
)

-- a schema with the interfaces of files has plain names
pub names_of_tables : (files : List NamedFile) (order : List ℕ) (names : Names) (consts : Consts) (schema : Schema) → AreSpelled files
    → IsPassed files order names consts → schema.interfaces ≡ (draft_of names.files consts files order).interfaces → HasPlainNames schema
names_of_tables files order names consts schema trees passed same =
    let plain = plain_rows files order names consts passed (trees_plain files trees) in
    let rows : AllByRecursion IsPlainRow schema.interfaces = subst (AllByRecursion IsPlainRow) (sym same) plain in
    let own = told schema in
    record {
      words = words_there schema.interfaces rows;
      distinct = own.names;
      methods = methods_there schema.interfaces rows own.ordinals;
    }
