-- The tables of files of which no stage refuses anything have all fields, all parameters and all constants.
use Rattle.std.proofs.Common.{◌≡◌, ◌+◌, ℕ, suc, List, [], ◌∷◌, ◌++◌, length, map, refl, sym, ◌∙◌, ap, inl, inr, arith}
use Rattle.std.specs.Prelude.{Bool, true, false, ◌||◌, ◌==◌, nat_lt, if◌then◌else◌, codes, Option, Some, None, option_and_then, is_some}
use Rattle.std.specs.List.{AllByRecursion, flat_map, fold}
use Rattle.std.specs.Option.{option_map, option_to_list}
use Rattle.std.proofs.lemmas.Bool.{eqb-true}
use Rattle.std.proofs.lemmas.List.{length-map, map-append}
use Rattle.std.proofs.lemmas.List.Folds.{list_any-append}
use Rattle.std.proofs.lemmas.Grind.{flat_map-append}
use Rattle.mojom_ast.specs.declared.names.Identifier.{Identifier}
use Rattle.mojom_ast.specs.declared.attributes.Attribute.{Attribute}
use Rattle.mojom_ast.specs.declared.definitions.Const.{Const}
use Rattle.mojom_ast.specs.declared.definitions.DefinitionItem.{DefinitionItem}
use Rattle.mojom_ast.specs.declared.definitions.DefinitionItem.TheVariants as items
use Rattle.mojom_ast.specs.declared.definitions.InterfaceMember.{InterfaceMember}
use Rattle.mojom_ast.specs.declared.definitions.InterfaceItem.{InterfaceItem}
use Rattle.mojom_ast.specs.declared.definitions.InterfaceItem.TheVariants as interface_items
use Rattle.mojom_ast.specs.declared.definitions.Method.{Method}
use Rattle.mojom_ast.specs.declared.definitions.Parameter.{Parameter}
use Rattle.mojom_files.specs.declared.named_file.NamedFile.{NamedFile}
use Rattle.mj_base.specs.Names.{within}
use Rattle.mojom_files.specs.Definitions.{Defined}
use Rattle.module_resolver.specs.declared.file_names.FileNames.{FileNames}
use Rattle.name_refusals.specs.Uses.{response_of}
use Rattle.const_eval.specs.declared.consts.Consts.{Consts}
use Rattle.mj_schema.specs.KindTrees.{KindTree}
use Rattle.mj_schema.specs.declared.rows.DraftField.{DraftField}
use Rattle.mj_schema.specs.declared.rows.DraftStruct.{DraftStruct}
use Rattle.mj_schema.specs.declared.rows.UnionFieldRow.{UnionFieldRow}
use Rattle.mj_schema.specs.declared.rows.ConstRow.{ConstRow}
use Rattle.mj_schema.specs.declared.rows.Literal.{Literal}
use Rattle.draft_rows.specs.declared.counts.Counts.{Counts}
use Rattle.draft_rows.specs.declared.counts.FileRows.{FileRows}
use Rattle.draft_rows.specs.declared.draft.Draft.{Draft}
use Rattle.kind_refusals.specs.declared.list_sort.ListSort.{ListSort}
use Rattle.kind_refusals.specs.declared.list_sort.ListSort.TheVariants.{Fields, Parameters}
use Rattle.kind_scope.specs.Scopes.{Scope, inside, around}
use Rattle.kind_scope.specs.Members.{Member, Numbered, held, ordinal_at, numbered_from, field_of, union_field_of, parameter_of, numbered}
use Rattle.kind_refusals.specs.OrdinalRefusals.{is_among, doubled}
use Rattle.kind_scope.specs.Members.{place, along_ordinals}
use Rattle.kind_refusals.specs.KindRefusals.{refused_list, refused_parameters, refused_response, refused_in_item, refused_in_interface, refused_item}
use Rattle.draft_rows.specs.RowCounts.{method_among, methods_in, after, after_all, definitions_at}
use Rattle.draft_rows.specs.Kinds.{kind_of}
use Rattle.draft_rows.specs.Rows.{kind_in, field_with, field_row, found_of, is_stable, struct_row, union_field_with, union_field_row, union_row, const_with, const_row}
use Rattle.draft_rows.specs.Rows.{literal_in, parameters_row, response_row, method_structs, structs_of_methods}
use Rattle.draft_rows.specs.Drafts.{empty, join, draft_of_item, draft_of_definition, draft_of_all, draft_from}
use Rattle.schema_laws.specs.Kept.{response_list, method_lists, struct_lists, union_lists, const_names, all_definitions, names_along, names_listed, field_names, union_field_names, HasAll}
use Rattle.schema_laws.proofs.Among.{IsAmong}
use Rattle.schema_laws.proofs.Quiet.{both_empty}
use Rattle.schema_laws.proofs.Rising.{none_double}
use Rattle.schema_laws.proofs.Each.{all_empty, all_so, all_placed, all_along, all_numbered}
use Rattle.schema_laws.proofs.NothingLost.{IsKept, typed_in_item, typed_members, all_before}

-- a list along ordinals of which none stands twice has as many members

apart : (before : List ℕ) (one other : ℕ) → is_among before one ≡ false → is_among before other ≡ true → (one == other) ≡ false
apart before one other no_one yes_other = go (one == other) refl
  where
    go : (b : Bool) → (one == other) ≡ b → (one == other) ≡ false
    go false e = e
    go true e =
        let same : one ≡ other = eqb-true one other e in
        let bad : true ≡ false = sym yes_other ∙ (ap (is_among before) (sym same) ∙ no_one) in
        absurd cc

place_longer : (done : List Numbered) (one : Numbered) → AllByRecursion (λ (other : Numbered). (one.ordinal == other.ordinal) ≡ false) done
    → length (place (λ (n : Numbered). n.ordinal) done one) ≡ suc (length done)
place_longer [] one all = refl
place_longer (x ∷ xs) one all = go (nat_lt one.ordinal x.ordinal) (one.ordinal == x.ordinal) all.0 (place_longer xs one all.1)
  where
    go : (less same : Bool) → same ≡ false → length (place (λ (n : Numbered). n.ordinal) xs one) ≡ suc (length xs)
        → length (if less then one ∷ x ∷ xs else (if same then one ∷ xs else x ∷ place (λ (n : Numbered). n.ordinal) xs one)) ≡ suc (suc (length xs))
    go true same e rest = refl
    go false true e rest = absurd cc
    go false false e rest = ap suc rest

among_more : (before : List ℕ) (one ordinal : ℕ) → is_among before ordinal ≡ true → is_among (before ++ one ∷ []) ordinal ≡ true
among_more before one ordinal e = list_any-append (λ (other : ℕ). other == ordinal) before (one ∷ []) ∙ rw e refl

among_last : (before : List ℕ) (one : ℕ) → is_among (before ++ one ∷ []) one ≡ true
among_last [] one = grind arith
among_last (x ∷ xs) one = go (x == one) (among_last xs one)
  where
    go : (b : Bool) → is_among (xs ++ one ∷ []) one ≡ true → (b || is_among (xs ++ one ∷ []) one) ≡ true
    go true e = refl
    go false e = e

folded_length : (before : List ℕ) (done ones : List Numbered) → AllByRecursion (λ (one : Numbered). is_among before one.ordinal ≡ true) done
    → doubled before ones ≡ [] → length (fold (place (λ (n : Numbered). n.ordinal)) done ones) ≡ length done + length ones
folded_length before done [] all e = omega arith
folded_length before done (one ∷ others) all e =
    let parts = both_empty (if is_among before one.ordinal then one ∷ [] else []) (doubled (before ++ one.ordinal ∷ []) others) e in
    let fresh = not_among (is_among before one.ordinal) parts.0 in
    let all_apart = all_so (λ (other : Numbered). is_among before other.ordinal ≡ true) (λ (other : Numbered). (one.ordinal == other.ordinal) ≡ false)
    (λ other there. apart before one.ordinal other.ordinal fresh there) done all in
    let longer = place_longer done one all_apart in
    let known = all_placed (λ (other : Numbered). is_among (before ++ one.ordinal ∷ []) other.ordinal ≡ true) (λ (n : Numbered). n.ordinal) done one
    (all_so (λ (other : Numbered). is_among before other.ordinal ≡ true)
    (λ (other : Numbered). is_among (before ++ one.ordinal ∷ []) other.ordinal ≡ true)
    (λ other there. among_more before one.ordinal other.ordinal there) done all)
    (among_last before one.ordinal) in
    let rest = folded_length (before ++ one.ordinal ∷ []) (place (λ (n : Numbered). n.ordinal) done one) others known parts.1 in
    let more : length (one ∷ others) ≡ suc (length others) = refl in
    omega (arith, rest, longer, more)
  where
    not_among : (b : Bool) → (if b then one ∷ [] else []) ≡ [] → b ≡ false
    not_among false e = refl
    not_among true e = absurd cc

numbered_length : (next : ℕ) (members : List Member) → length (numbered_from next members) ≡ length members
numbered_length next [] = refl
numbered_length next (m ∷ ms) = ap suc (numbered_length (held (ordinal_at next m.ordinal + 1)) ms)

numbered_names : (next : ℕ) (members : List Member) → map (λ (one : Numbered). one.member.name.text) (numbered_from next members) ≡ names_listed members
numbered_names next [] = refl
numbered_names next (m ∷ ms) = ap (λ (names : List (List ℕ)). m.name.text ∷ names) (numbered_names (held (ordinal_at next m.ordinal + 1)) ms)

-- the struct of a list of members

-- it has all of them
pub record IsWholeStruct (row : DraftStruct) (members : List Member) : Type 0 where
  pub names : field_names row ≡ names_along members
  pub count : length row.fields ≡ length members

module _ (rows : List FileRows) (scope : Scope) where
  fields_named : (ones : List Numbered) → AllByRecursion (λ (one : Numbered). IsKept rows scope one.member) ones
      → map (λ (field : DraftField). field.name) (found_of (field_row rows scope) ones) ≡ map (λ (one : Numbered). one.member.name.text) ones
  fields_named [] all = refl
  fields_named (one ∷ others) all = go (kind_in rows scope one.member.kind) all.0.one all.0.is (fields_named others all.1)
    where
      go : (found : Option KindTree) (k : KindTree) → found ≡ Some k
          → map (λ (field : DraftField). field.name) (found_of (field_row rows scope) others) ≡ map (λ (n : Numbered). n.member.name.text) others
          → map (λ (field : DraftField). field.name) (option_to_list (option_map (field_with scope one.member) found) ++ found_of (field_row rows scope) others)
          ≡ one.member.name.text ∷ map (λ (n : Numbered). n.member.name.text) others
      go None k is rest = absurd cc
      go (Some other) k is rest = ap (λ (names : List (List ℕ)). one.member.name.text ∷ names) rest

  union_fields_named : (ones : List Numbered) → AllByRecursion (λ (one : Numbered). IsKept rows scope one.member) ones
      → map (λ (field : UnionFieldRow). field.name) (found_of (union_field_row rows scope) ones) ≡ map (λ (one : Numbered). one.member.name.text) ones
  union_fields_named [] all = refl
  union_fields_named (one ∷ others) all = go (kind_in rows scope one.member.kind) all.0.one all.0.is (union_fields_named others all.1)
    where
      go : (found : Option KindTree) (k : KindTree) → found ≡ Some k
          → map (λ (field : UnionFieldRow). field.name) (found_of (union_field_row rows scope) others) ≡ map (λ (n : Numbered). n.member.name.text) others
          → map (λ (field : UnionFieldRow). field.name)
          (option_to_list (option_map (union_field_with one) found) ++ found_of (union_field_row rows scope) others)
          ≡ one.member.name.text ∷ map (λ (n : Numbered). n.member.name.text) others
      go None k is rest = absurd cc
      go (Some other) k is rest = ap (λ (names : List (List ℕ)). one.member.name.text ∷ names) rest

  struct_whole : (full : List ℕ) (stable : Bool) (owner : Identifier) (sort : ListSort) (members : List Member)
      → refused_list scope owner sort members ≡ []
      → AllByRecursion (IsKept rows scope) members → IsWholeStruct (struct_row rows scope full stable members) members
  struct_whole full stable owner sort members e kept =
      let ones = numbered members in
      let each = all_numbered (IsKept rows scope) 0 members kept in
      let sorted = all_along (λ (one : Numbered). IsKept rows scope one.member) (λ (one : Numbered). one.ordinal) ones each in
      let names = fields_named (along_ordinals ones) sorted in
      let fields = found_of (field_row rows scope) (along_ordinals ones) in
      let as_many = folded_length [] [] ones tt (none_double scope owner sort members e) in
      let listed = numbered_length 0 members in
      let left : length (map (λ (field : DraftField). field.name) fields) ≡ length fields = length-map fields (λ (field : DraftField). field.name) in
      let right : length (map (λ (one : Numbered). one.member.name.text) (along_ordinals ones)) ≡ length (along_ordinals ones) =
      length-map (along_ordinals ones) (λ (one : Numbered). one.member.name.text) in
      let same : length (map (λ (field : DraftField). field.name) fields)
      ≡ length (map (λ (one : Numbered). one.member.name.text) (along_ordinals ones)) =
      ap length names in
      let sum : length (along_ordinals ones) ≡ 0 + length ones = as_many in
      record { names = names; count = omega (arith, left, right, same, sum, listed) }

  union_whole : (full : List ℕ) (attributes : List Attribute) (members : List Member) → AllByRecursion (IsKept rows scope) members
      → union_field_names (union_row rows scope full attributes members) ≡ names_listed members
  union_whole full attributes members kept =
      union_fields_named (numbered members) (all_numbered (IsKept rows scope) 0 members kept) ∙ numbered_names 0 members

-- lists of structs

-- each struct has all members of its list
pub record AreWholeStructs (structs : List DraftStruct) (lists : List (List Member)) : Type 0 where
  pub names : map field_names structs ≡ map names_along lists
  pub counts : map (λ (row : DraftStruct). length row.fields) structs ≡ map length lists

map_joined : {A B C : Type 0} (f : A → C) (g : B → C) (xs ys : List A) (ps qs : List B) → map f xs ≡ map g ps → map f ys ≡ map g qs
    → map f (xs ++ ys) ≡ map g (ps ++ qs)
map_joined {C = C} f g xs ys ps qs one two =
    map-append f xs ys ∙ (ap (λ (cs : List C). cs ++ map f ys) one ∙ (ap (λ (cs : List C). map g ps ++ cs) two ∙ sym (map-append g ps qs)))

no_structs : AreWholeStructs [] []
no_structs = record { names = refl; counts = refl }

one_struct : (row : DraftStruct) (members : List Member) → IsWholeStruct row members → AreWholeStructs (row ∷ []) (members ∷ [])
one_struct row members whole = record {
  names = ap (λ (names : List (List ℕ)). let all : List (List (List ℕ)) = names ∷ [] in all) whole.names;
  counts = ap (λ (count : ℕ). let all : List ℕ = count ∷ [] in all) whole.count;
}

structs_joined : (one two : List DraftStruct) (lists more : List (List Member)) → AreWholeStructs one lists → AreWholeStructs two more
    → AreWholeStructs (one ++ two) (lists ++ more)
structs_joined one two lists more a b = record {
  names = map_joined field_names names_along one two lists more a.names b.names;
  counts = map_joined (λ (row : DraftStruct). length row.fields) length one two lists more a.counts b.counts;
}

module _ (rows : List FileRows) (scope : Scope) where
  response_whole : (full : List ℕ) (owner : Identifier) (response : Option (List Parameter)) → refused_response scope owner response ≡ []
      → AllByRecursion (IsKept rows scope) (map parameter_of (response_of response))
      → AreWholeStructs (option_to_list (response_row rows scope full response)) (response_list response)
  response_whole full owner None e kept = no_structs
  response_whole full owner (Some parameters) e kept =
      one_struct (parameters_row rows scope full parameters) (map parameter_of parameters)
      (struct_whole rows scope full false owner Parameters (map parameter_of parameters) e kept)

  method_whole : (full : List ℕ) (m : Method) → refused_in_item scope (interface_items.Method m) ≡ []
      → AllByRecursion (IsKept rows scope) (typed_in_item (interface_items.Method m)) → AreWholeStructs (method_structs rows scope full m) (method_lists m)
  method_whole full m e kept =
      let parts = both_empty (refused_parameters scope m.name m.request) (refused_response scope m.name m.response) e in
      let two = all_before (IsKept rows scope) (map parameter_of m.request) (map parameter_of (response_of m.response)) kept in
      let request = struct_whole rows scope (within full (codes "request")) false m.name Parameters (map parameter_of m.request) parts.0 two.0 in
      structs_joined (parameters_row rows scope (within full (codes "request")) m.request ∷ [])
      (option_to_list (response_row rows scope (within full (codes "response")) m.response)) (map parameter_of m.request ∷ []) (response_list m.response)
      (one_struct (parameters_row rows scope (within full (codes "request")) m.request) (map parameter_of m.request) request)
      (response_whole (within full (codes "response")) m.name m.response parts.1 two.1)

  item_methods : (full : List ℕ) (item : InterfaceItem) (methods : List Method) → refused_in_item scope item ≡ []
      → AllByRecursion (IsKept rows scope) (typed_in_item item)
      → AreWholeStructs (structs_of_methods rows scope full methods) (flat_map method_lists methods)
      → AreWholeStructs (structs_of_methods rows scope full (method_among item ++ methods)) (flat_map method_lists (method_among item ++ methods))
  item_methods full (interface_items.Method m) methods e kept rest =
      structs_joined (method_structs rows scope (within full m.name.text) m) (structs_of_methods rows scope full methods) (method_lists m)
      (flat_map method_lists methods) (method_whole (within full m.name.text) m e kept) rest
  item_methods full (interface_items.Const c) methods e kept rest = rest
  item_methods full (interface_items.Enum c) methods e kept rest = rest

  methods_whole : (full : List ℕ) (members : List InterfaceMember)
      → AllByRecursion (λ (m : InterfaceMember). refused_in_interface scope m ≡ []) members
      → AllByRecursion (IsKept rows scope) (flat_map (λ (m : InterfaceMember). typed_in_item m.item) members)
      → AreWholeStructs (structs_of_methods rows scope full (methods_in members)) (flat_map method_lists (methods_in members))
  methods_whole full [] e kept = no_structs
  methods_whole full (m ∷ ms) e kept =
      let two = all_before (IsKept rows scope) (typed_in_item m.item) (flat_map (λ (m : InterfaceMember). typed_in_item m.item) ms) kept in
      item_methods full m.item (methods_in ms) e.0 two.0 (methods_whole full ms e.1 two.1)

-- definitions

-- the tables of a definition have all of it
pub record HasItem (full : List ℕ) (item : DefinitionItem) (draft : Draft) : Type 0 where
  pub structs : AreWholeStructs draft.structs (struct_lists item)
  pub unions : map union_field_names draft.unions ≡ map names_listed (union_lists item)
  pub consts : map (λ (row : ConstRow). row.name) draft.consts ≡ const_names full item

const_whole : (full : List ℕ) (found : Option KindTree) (value : Option Literal)
    → is_some (option_and_then (λ (k : KindTree). option_map (const_with full k) value) found) ≡ true
    → map (λ (row : ConstRow). row.name) (option_to_list (option_and_then (λ (k : KindTree). option_map (const_with full k) value) found)) ≡ full ∷ []
const_whole full None value e = absurd cc
const_whole full (Some k) None e = absurd cc
const_whole full (Some k) (Some literal) e = refl

pub item_whole : (rows : List FileRows) (scope : Scope) (counts : Counts) (full : List ℕ) (attributes : List Attribute) (item : DefinitionItem)
    → refused_item scope full item ≡ [] → AllByRecursion (IsKept rows (inside scope full)) (typed_members item)
    → ((c : Const) → item ≡ items.Const c → is_some (const_row rows scope full c) ≡ true)
    → HasItem full item (draft_of_item rows scope counts full attributes item)
item_whole rows scope counts full attributes (items.Struct item) e kept has =
    let whole = struct_whole rows (inside scope full) full (is_stable attributes) item.name Fields (flat_map field_of item.members) e kept in
    record {
      structs = one_struct (struct_row rows (inside scope full) full (is_stable attributes) (flat_map field_of item.members)) (flat_map field_of item.members)
          whole;
      unions = refl;
      consts = refl;
    }
item_whole rows scope counts full attributes (items.Union item) e kept has =
    let whole = union_whole rows (inside scope full) full attributes (map union_field_of item.fields) kept in
    record {
      structs = no_structs;
      unions = ap (λ (names : List (List ℕ)). let all : List (List (List ℕ)) = names ∷ [] in all) whole;
      consts = refl;
    }
item_whole rows scope counts full attributes (items.Enum item) e kept has = record { structs = no_structs; unions = refl; consts = refl }
item_whole rows scope counts full attributes (items.Interface item) e kept has =
    let parts = both_empty _ (flat_map (refused_in_interface (inside scope full)) item.members) e in
    record {
      structs = methods_whole rows (inside scope full) full item.members (all_empty (refused_in_interface (inside scope full)) item.members parts.1) kept;
      unions = refl;
      consts = refl;
    }
item_whole rows scope counts full attributes (items.Const item) e kept has =
    record { structs = no_structs; unions = refl; consts = const_whole full (kind_of rows scope item.kind) (literal_in scope item.value) (has item refl) }

-- files

none_whole : HasAll [] empty
none_whole = record { structs = refl; counts = refl; unions = refl; consts = refl }

joined_whole : (ds es : List Defined) (one two : Draft) → HasAll ds one → HasAll es two → HasAll (ds ++ es) (join one two)
joined_whole ds es one two a b =
    let Lists : Type 0 = List (List Member) in
    let structs = flat_map-append (λ (d : Defined). struct_lists d.item) ds es in
    let unions = flat_map-append (λ (d : Defined). union_lists d.item) ds es in
    let consts = flat_map-append (λ (d : Defined). const_names d.full d.item) ds es in
    record {
      structs = map_joined field_names names_along one.structs two.structs _ _ a.structs b.structs
          ∙ sym (ap (λ (lists : List (List Member)). map names_along lists) structs);
      counts = map_joined (λ (row : DraftStruct). length row.fields) length one.structs two.structs _ _ a.counts b.counts
          ∙ sym (ap (λ (lists : List (List Member)). map length lists) structs);
      unions = map_joined union_field_names names_listed one.unions two.unions _ _ a.unions b.unions
          ∙ sym (ap (λ (lists : List (List Member)). map names_listed lists) unions);
      consts = map-append (λ (row : ConstRow). row.name) one.consts two.consts
          ∙ (ap (λ (names : List (List ℕ)). names ++ map (λ (row : ConstRow). row.name) two.consts) a.consts
          ∙ (ap (λ (names : List (List ℕ)). flat_map (λ (d : Defined). const_names d.full d.item) ds ++ names) b.consts ∙ sym consts));
    }

with_item : (d : Defined) (ds : List Defined) (one two : Draft) → HasItem d.full d.item one → HasAll ds two → HasAll (d ∷ ds) (join one two)
with_item d ds one two a b = record {
  structs = map_joined field_names names_along one.structs two.structs (struct_lists d.item) _ a.structs.names b.structs;
  counts = map_joined (λ (row : DraftStruct). length row.fields) length one.structs two.structs (struct_lists d.item) _ a.structs.counts b.counts;
  unions = map_joined union_field_names names_listed one.unions two.unions (union_lists d.item) _ a.unions b.unions;
  consts = map-append (λ (row : ConstRow). row.name) one.consts two.consts
      ∙ (ap (λ (names : List (List ℕ)). names ++ map (λ (row : ConstRow). row.name) two.consts) a.consts
      ∙ ap (λ (names : List (List ℕ)). const_names d.full d.item ++ names) b.consts);
}

all_whole : (rows : List FileRows) (scope : Scope) (ds : List Defined)
    → ((counts : Counts) (d : Defined) → IsAmong ds d → HasItem d.full d.item (draft_of_definition rows scope counts d))
    → (counts : Counts) → HasAll ds (draft_of_all rows scope counts ds)
all_whole rows scope [] each counts = none_whole
all_whole rows scope (d ∷ ds) each counts =
    with_item d ds (draft_of_definition rows scope counts d) (draft_of_all rows scope (after counts d.item) ds) (each counts d (inl refl))
    (all_whole rows scope ds (λ c other among. each c other (inr among)) (after counts d.item))

pub files_whole : (rows : List FileRows) (names : List FileNames) (consts : Consts) (files : List NamedFile) (order : List ℕ)
    → ((number : ℕ) (counts : Counts) (d : Defined) → IsAmong (definitions_at files number) d
    → HasItem d.full d.item (draft_of_definition rows (around names consts number None) counts d))
    → (counts : Counts) → HasAll (all_definitions files order) (draft_from rows names consts files counts order)
files_whole rows names consts files [] each counts = none_whole
files_whole rows names consts files (number ∷ numbers) each counts =
    let here = definitions_at files number in
    joined_whole here (all_definitions files numbers) (draft_of_all rows (around names consts number None) counts here)
    (draft_from rows names consts files (after_all counts here) numbers)
    (all_whole rows (around names consts number None) here (λ c d among. each number c d among) counts)
    (files_whole rows names consts files numbers each (after_all counts here))
