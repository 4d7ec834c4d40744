-- The defaults and the constants of files that are texts are UTF-8, where the strings of the files are.
use Rattle.std.proofs.Common.{◌≡◌, ℕ, zero, suc, ◌+◌, List, [], ◌∷◌, map, refl, sym, ap, subst}
use Rattle.std.specs.Prelude.{Bool, IsUtf8, codes, slice_get, true, false, Option, Some, None, option_and_then}
use Rattle.std.specs.List.{AllByRecursion, flat_map, list_all}
use Rattle.std.specs.Option.{option_map, option_map_or, option_to_list}
use Rattle.std.proofs.lemmas.Bool.{and_from}
use Rattle.std.proofs.lemmas.Str.{is_utf8-from_IsUtf8}
use Rattle.mojom_ast.specs.declared.attributes.Attribute.{Attribute}
use Rattle.mojom_ast.specs.declared.definitions.Const.{Const}
use Rattle.mojom_ast.specs.declared.definitions.DefinitionItem.{DefinitionItem}
use Rattle.mojom_ast.specs.declared.definitions.DefinitionItem.TheVariants as items
use Rattle.mojom_ast.specs.declared.definitions.Enumerator.{Enumerator}
use Rattle.mojom_ast.specs.declared.definitions.Method.{Method}
use Rattle.mojom_ast.specs.declared.definitions.Parameter.{Parameter}
use Rattle.mojom_ast.specs.declared.definitions.StructItem.{StructItem}
use Rattle.mojom_ast.specs.declared.definitions.StructItem.TheVariants as struct_items
use Rattle.mojom_ast.specs.declared.definitions.StructMember.{StructMember}
use Rattle.mojom_ast.specs.declared.names.Value.{Value}
use Rattle.mojom_ast.specs.declared.names.Value.TheVariants as values
use Rattle.mojom_files.specs.Definitions.{Defined, definitions_of, enumerators_of}
use Rattle.mj_base.specs.Names.{within}
use Rattle.mojom_files.specs.Names.{dotted}
use Rattle.mojom_files.specs.declared.basic.Basic.{Basic}
use Rattle.mojom_files.specs.declared.basic.Basic.TheVariants as basics
use Rattle.mojom_files.specs.declared.named_file.NamedFile.{NamedFile}
use Rattle.module_resolver.specs.LookUp.{look_up}
use Rattle.module_resolver.specs.declared.file_names.FileNames.{FileNames}
use Rattle.module_resolver.specs.declared.target.Target.{Target}
use Rattle.const_eval.specs.Consts.{AreConsts, value_at, value_of_target}
use Rattle.const_eval.specs.Kinds.{basic_of_base}
use Rattle.const_meanings.specs.Known.{Known, TextValue, BoolValue, NumberValue, FloatValue, known_with}
use Rattle.const_eval.specs.Origins.{of_thing, origin_of_const, origin_of_definition, origin_of_item, origin_of_value, origin_or, origins_in, origins_in_order}
use Rattle.const_eval.specs.Origins.{origins_of_enumerators}
use Rattle.const_eval.specs.Things.{numbered, thing_of, things_of_files}
use Rattle.const_eval.specs.declared.consts.Consts.{Consts}
use Rattle.const_eval.specs.declared.file_things.FileThings.{FileThings}
use Rattle.const_meanings.specs.declared.literal.Literal.{Literal}
use Rattle.const_meanings.specs.declared.literal.Literal.TheVariants as written
use Rattle.const_meanings.specs.declared.origin.Origin.{Origin}
use Rattle.const_meanings.specs.declared.origin.Origin.TheVariants.{Written, Next}
use Rattle.mj_schema.specs.KindTrees.{KindTree}
use Rattle.mj_schema.specs.Sound.{are_texts, is_text, has_texts}
use Rattle.mj_schema.specs.declared.rows.ConstRow.{ConstRow}
use Rattle.mj_schema.specs.declared.rows.DraftField.{DraftField}
use Rattle.mj_schema.specs.declared.rows.DraftStruct.{DraftStruct}
use Rattle.mj_schema.specs.declared.rows.Literal.{Literal as RowLiteral}
use Rattle.mj_schema.specs.declared.rows.Literal.TheVariants as literals
use Rattle.draft_rows.specs.Drafts.{join, draft_of_item, draft_of}
use Rattle.kind_scope.specs.Scopes.{around, known_in, Scope}
use Rattle.kind_scope.specs.Members.{Member, Numbered, field_in, field_of, numbered as numbered_members, parameter_of, along_ordinals}
use Rattle.draft_rows.specs.Kinds.{kind_of}
use Rattle.draft_rows.specs.RowCounts.{definitions_at, methods_in, no_rows, rows_of}
use Rattle.draft_rows.specs.Rows.{const_row, const_with, field_row, field_with, kind_in, literal_in, literal_of, is_stable, method_structs, response_row, struct_row, structs_of_methods}
use Rattle.draft_rows.specs.declared.counts.Counts.{Counts}
use Rattle.draft_rows.specs.declared.counts.FileRows.{FileRows}
use Rattle.draft_rows.specs.declared.draft.Draft.{Draft}
use Rattle.schema_laws.proofs.Among.{IsAmong, each_append, each_at}
use Rattle.schema_laws.proofs.Each.{all_along, all_flat, all_found, all_map, all_numbered, all_so, all_tested, at_each}
use Rattle.schema_laws.proofs.Lift.{lift}
use Rattle.sound_laws.specs.Sound.{HasTexts}
use Rattle.sound_laws.specs.Strings.{DefinedText, FileText, ItemText, MemberText, OptionText, ValueText}
use Rattle.sound_laws.proofs.Numbers.{IsMeant, meant}

-- ## Where texts come from

-- a text that is written is UTF-8
abbrev OriginText : Origin → Type 0
OriginText o = (bytes : List ℕ) → o ≡ Written (written.Text bytes) → IsUtf8 bytes

module _ (things : List FileThings) (names : List FileNames) (file : ℕ) where
  of_name : (o : Option ℕ) → OriginText (of_thing o)
  of_name None bytes e = absurd cc
  of_name (Some thing) bytes e = absurd cc

  of_value : (enclosing : Option (List ℕ)) (value : Value) → ValueText value → OriginText (origin_of_value things names file enclosing value)
  of_value enclosing (values.String text) is bytes e = let same : text.bytes ≡ bytes = cc in subst IsUtf8 same is
  of_value enclosing (values.Bool b span) is bytes e = absurd cc
  of_value enclosing (values.Number negative magnitude span) is bytes e = absurd cc
  of_value enclosing (values.Name name) is bytes e =
      of_name (option_and_then (thing_of things) (look_up names file enclosing (dotted name.parts))) bytes e

  of_const : (basic : Option Basic) (o : Origin) → OriginText o → OriginText (origin_of_const basic o)
  of_const None o is bytes e = is bytes e
  of_const (Some basics.Float) o is bytes e = absurd cc
  of_const (Some basics.Double) o is bytes e = absurd cc
  of_const (Some basics.Bool) o is bytes e = is bytes e
  of_const (Some basics.Int8) o is bytes e = is bytes e
  of_const (Some basics.Int16) o is bytes e = is bytes e
  of_const (Some basics.Int32) o is bytes e = is bytes e
  of_const (Some basics.Int64) o is bytes e = is bytes e
  of_const (Some basics.Uint8) o is bytes e = is bytes e
  of_const (Some basics.Uint16) o is bytes e = is bytes e
  of_const (Some basics.Uint32) o is bytes e = is bytes e
  of_const (Some basics.Uint64) o is bytes e = is bytes e
  of_const (Some basics.Text) o is bytes e = is bytes e

  of_item : (enclosing : Option (List ℕ)) (item : DefinitionItem) → ItemText item → OriginText (origin_of_item things names file enclosing item)
  of_item enclosing (items.Const c) is bytes e =
      of_const (basic_of_base c.kind.base) (origin_of_value things names file enclosing c.value) (of_value enclosing c.value is) bytes e
  of_item enclosing (items.Struct s) is bytes e = absurd cc
  of_item enclosing (items.Union u) is bytes e = absurd cc
  of_item enclosing (items.Enum x) is bytes e = absurd cc
  of_item enclosing (items.Interface i) is bytes e = absurd cc

  of_option : (enclosing : Option (List ℕ)) (implied : Origin) → OriginText implied → (value : Option Value) → OptionText value
      → OriginText (origin_or implied (origin_of_value things names file enclosing) value)
  of_option enclosing implied is None text = is
  of_option enclosing implied is (Some value) text = of_value enclosing value text

  no_next : OriginText Next
  no_next bytes e = absurd cc

  no_zero : OriginText (Written (written.Number false 0))
  no_zero bytes e = absurd cc

  of_enumerators : (enclosing : Option (List ℕ)) (es : List Enumerator) → AllByRecursion (λ (x : Enumerator). OptionText x.value) es
      → AllByRecursion OriginText (origins_in_order (origin_of_value things names file enclosing) es)
  of_enumerators enclosing [] all = tt
  of_enumerators enclosing (e ∷ es) all = (
    of_option enclosing (Written (written.Number false 0)) no_zero e.value all.0,
    all_map OriginText (λ (x : Enumerator). origin_or Next (origin_of_value things names file enclosing) x.value) es
        (all_so (λ (x : Enumerator). OptionText x.value) (λ (x : Enumerator). OriginText (origin_or Next (origin_of_value things names file enclosing) x.value))
        (λ x text. of_option enclosing Next no_next x.value text) es all.1),
  )

  of_enum : (enclosing : Option (List ℕ)) (item : DefinitionItem) → ItemText item
      → AllByRecursion OriginText (origins_in_order (origin_of_value things names file enclosing) (enumerators_of item))
  of_enum enclosing (items.Enum e) is = of_enumerators enclosing e.enumerators is
  of_enum enclosing (items.Struct s) is = tt
  of_enum enclosing (items.Union u) is = tt
  of_enum enclosing (items.Interface i) is = tt
  of_enum enclosing (items.Const c) is = tt

  of_file : (tree : NamedFile) → AllByRecursion DefinedText (definitions_of tree.tree) → AllByRecursion OriginText (origins_in things names file tree)
  of_file tree all =
      let ds = definitions_of tree.tree in
      let definitions = all_map OriginText (origin_of_definition things names file) ds
      (all_so DefinedText (λ (d : Defined). OriginText (origin_of_definition things names file d)) (λ d text. of_item d.enclosing d.item text) ds all) in
      let enumerators = all_flat OriginText (origins_of_enumerators things names file) ds
      (all_so DefinedText (λ (d : Defined). AllByRecursion OriginText (origins_of_enumerators things names file d))
      (λ d text. of_enum (Some d.full) d.item text) ds all) in
      each_append OriginText (map (origin_of_definition things names file) ds) (flat_map (origins_of_enumerators things names file) ds) definitions enumerators

of_files : (things : List FileThings) (names : List FileNames) (first : ℕ) (files : List NamedFile) → AllByRecursion FileText files
    → AllByRecursion OriginText (numbered (origins_in things names) first files)
of_files things names first [] all = tt
of_files things names first (file ∷ files) all =
    each_append OriginText (origins_in things names first file) (numbered (origins_in things names) (first + 1) files)
    (of_file things names first file all.0) (of_files things names (first + 1) files all.1)

-- ## What values are

-- a text is written as one
text_literal : (literal : Literal) (more : ℕ) (bytes : List ℕ) → known_with literal more ≡ Some (TextValue bytes) → literal ≡ written.Text bytes
text_literal (written.Text text) zero bytes e = let same : text ≡ bytes = cc in ap written.Text same
text_literal (written.Text text) (suc more) bytes e = absurd cc
text_literal (written.Bool b) zero bytes e = absurd cc
text_literal (written.Bool b) (suc more) bytes e = absurd cc
text_literal (written.Number negative magnitude) more bytes e = absurd cc
text_literal written.Float zero bytes e = absurd cc
text_literal written.Float (suc more) bytes e = absurd cc

module _ (files : List NamedFile) (texts : AllByRecursion FileText files) (names : List FileNames) (consts : Consts) (are : AreConsts files names consts) where
  all_origins : AllByRecursion OriginText consts.origins
  all_origins = subst (AllByRecursion OriginText) (sym are.origins_are) (of_files (things_of_files files) names 0 files texts)

  -- a thing's text is UTF-8
  thing_text : (thing : ℕ) (bytes : List ℕ) → value_at consts thing ≡ Some (TextValue bytes) → IsUtf8 bytes
  thing_text thing bytes e =
      let m : IsMeant consts are.meanings_are thing (TextValue bytes) = meant consts are.meanings_are thing (TextValue bytes) e in
      let literal = text_literal m.literal m.more bytes m.is in
      at_each OriginText consts.origins m.last (Written m.literal) all_origins m.written bytes (ap Written literal)

  target_text : (target : Target) (bytes : List ℕ) → value_of_target consts target ≡ Some (TextValue bytes) → IsUtf8 bytes
  target_text target bytes e = go (thing_of consts.files target) e
    where
      go : (o : Option ℕ) → option_and_then (value_at consts) o ≡ Some (TextValue bytes) → IsUtf8 bytes
      go None e = absurd cc
      go (Some thing) e = thing_text thing bytes e

  -- so is that of a value
  known_text : (file : ℕ) (enclosing : Option (List ℕ)) (value : Value) (bytes : List ℕ) → ValueText value
      → known_in (around names consts file enclosing) value ≡ Some (TextValue bytes) → IsUtf8 bytes
  known_text file enclosing (values.String text) bytes is e = let same : text.bytes ≡ bytes = cc in subst IsUtf8 same is
  known_text file enclosing (values.Bool b span) bytes is e = absurd cc
  known_text file enclosing (values.Number negative magnitude span) bytes is e = absurd cc
  known_text file enclosing (values.Name name) bytes is e = go (look_up names file enclosing (dotted name.parts)) e
    where
      go : (o : Option Target) → option_and_then (value_of_target consts) o ≡ Some (TextValue bytes) → IsUtf8 bytes
      go None e = absurd cc
      go (Some target) e = target_text target bytes e

  -- ## Fields

  -- a default that is a text is UTF-8
  abbrev IsText : Option RowLiteral → Type 0
  IsText default = option_map_or is_text default true ≡ true

  from_bytes : (o : Option RowLiteral) → ((bytes : List ℕ) → o ≡ Some (literals.Text bytes) → IsUtf8 bytes) → IsText o
  from_bytes None is = refl
  from_bytes (Some (literals.Text bytes)) is = is_utf8-from_IsUtf8 bytes (is bytes refl)
  from_bytes (Some (literals.Bool value)) is = refl
  from_bytes (Some (literals.Whole number)) is = refl

  literal_text : (file : ℕ) (enclosing : Option (List ℕ)) (value : Value) → ValueText value → IsText (literal_in (around names consts file enclosing) value)
  literal_text file enclosing value text =
      from_bytes (literal_in (around names consts file enclosing) value) (λ bytes e. go bytes (known_in (around names consts file enclosing) value) refl e)
    where
      go : (bytes : List ℕ) (o : Option Known) → known_in (around names consts file enclosing) value ≡ o
          → option_and_then literal_of o ≡ Some (literals.Text bytes) → IsUtf8 bytes
      go bytes None knows e = absurd cc
      go bytes (Some (TextValue b)) knows e = let same : b ≡ bytes = cc in subst IsUtf8 same (known_text file enclosing value b text knows)
      go bytes (Some (BoolValue b)) knows e = absurd cc
      go bytes (Some (NumberValue n)) knows e = absurd cc
      go bytes (Some FloatValue) knows e = absurd cc

  option_text : (file : ℕ) (enclosing : Option (List ℕ)) (value : Option Value) → OptionText value
      → IsText (option_and_then (literal_in (around names consts file enclosing)) value)
  option_text file enclosing None text = refl
  option_text file enclosing (Some value) text = literal_text file enclosing value text

  abbrev FieldText : DraftField → Type 0
  FieldText field = IsText field.default

  abbrev StructText : DraftStruct → Type 0
  StructText row = AllByRecursion FieldText row.fields

  module _ (rows : List FileRows) (file : ℕ) (enclosing : Option (List ℕ)) where
    abbrev here : Scope
    here = around names consts file enclosing

    abbrev HasText : Member → Type 0
    HasText member = IsText (option_and_then (literal_in here) member.default)

    row_text : (one : Numbered) (field : DraftField) → HasText one.member → field_row rows here one ≡ Some field → FieldText field
    row_text one field text is = of (kind_in rows here one.member.kind) is
      where
        of : (o : Option KindTree) → option_map (field_with here one.member) o ≡ Some field → FieldText field
        of None is = absurd cc
        of (Some k) is = let same : field_with here one.member k ≡ field = cc in subst FieldText same text

    struct_text : (full : List ℕ) (stable : Bool) (members : List Member) → AllByRecursion HasText members
        → StructText (struct_row rows here full stable members)
    struct_text full stable members all =
        let Good : Numbered → Type 0 = λ one. HasText one.member in
        all_found Good FieldText (field_row rows here) row_text (along_ordinals (numbered_members members))
        (all_along Good (λ (one : Numbered). one.ordinal) (numbered_members members) (all_numbered HasText 0 members all))

    no_defaults : (parameters : List Parameter) → AllByRecursion HasText (map parameter_of parameters)
    no_defaults [] = tt
    no_defaults (p ∷ ps) = (refl, no_defaults ps)

    response_text : (full : List ℕ) (response : Option (List Parameter)) → AllByRecursion StructText (option_to_list (response_row rows here full response))
    response_text full None = tt
    response_text full (Some parameters) = (struct_text full false (map parameter_of parameters) (no_defaults parameters), tt)

    method_text : (full : List ℕ) (m : Method) → AllByRecursion StructText (method_structs rows here full m)
    method_text full m = (
      struct_text (within full (codes "request")) false (map parameter_of m.request) (no_defaults m.request),
      response_text (within full (codes "response")) m.response,
    )

    methods_text : (full : List ℕ) (methods : List Method) → AllByRecursion StructText (structs_of_methods rows here full methods)
    methods_text full [] = tt
    methods_text full (m ∷ ms) =
        each_append StructText (method_structs rows here (within full m.name.text) m) (structs_of_methods rows here full ms)
        (method_text (within full m.name.text) m) (methods_text full ms)

    field_text : (attributes : List Attribute) (item : StructItem) → MemberText item → AllByRecursion HasText (field_in attributes item)
    field_text attributes (struct_items.Field f) text = (option_text file enclosing f.default text, tt)
    field_text attributes (struct_items.Const c) text = tt
    field_text attributes (struct_items.Enum e) text = tt

    fields_text : (members : List StructMember) → AllByRecursion (λ (m : StructMember). MemberText m.item) members
        → AllByRecursion HasText (flat_map field_of members)
    fields_text members all =
        all_flat HasText field_of members
        (all_so (λ (m : StructMember). MemberText m.item) (λ (m : StructMember). AllByRecursion HasText (field_of m))
        (λ m text. field_text m.attributes m.item text) members all)

  -- ## Constants

  abbrev ConstText : ConstRow → Type 0
  ConstText row = is_text row.value ≡ true

  const_text : (rows : List FileRows) (file : ℕ) (enclosing : Option (List ℕ)) (full : List ℕ) (c : Const) → ValueText c.value
      → AllByRecursion ConstText (option_to_list (const_row rows (around names consts file enclosing) full c))
  const_text rows file enclosing full c text =
      go (kind_of rows here c.kind) (literal_in here c.value) (literal_text file enclosing c.value text)
    where
      here : Scope
      here = around names consts file enclosing

      go : (kind : Option KindTree) (value : Option RowLiteral) → IsText value
          → AllByRecursion ConstText (option_to_list (option_and_then (λ (k : KindTree). option_map (const_with full k) value) kind))
      go None value text = tt
      go (Some k) None text = tt
      go (Some k) (Some literal) text = (text, tt)

  -- ## Tables

  record HaveTexts (draft : Draft) : Type 0 where
    structs : AllByRecursion StructText draft.structs
    constants : AllByRecursion ConstText draft.consts

  join_texts : (one two : Draft) → HaveTexts one → HaveTexts two → HaveTexts (join one two)
  join_texts one two a b = record {
    structs = each_append StructText one.structs two.structs a.structs b.structs;
    constants = each_append ConstText one.consts two.consts a.constants b.constants;
  }

  item_texts : (rows : List FileRows) (file : ℕ) (enclosing : Option (List ℕ)) (counts : Counts) (full : List ℕ) (attributes : List Attribute)
      (item : DefinitionItem) → ItemText item → HaveTexts (draft_of_item rows (around names consts file enclosing) counts full attributes item)
  item_texts rows file enclosing counts full attributes (items.Struct s) text = record {
    structs = (
      struct_text rows file (Some full) full (is_stable attributes) (flat_map field_of s.members) (fields_text rows file (Some full) s.members text),
      tt,
    );
    constants = tt;
  }
  item_texts rows file enclosing counts full attributes (items.Interface i) text =
      record { structs = methods_text rows file (Some full) full (methods_in i.members); constants = tt }
  item_texts rows file enclosing counts full attributes (items.Union u) text = record { structs = tt; constants = tt }
  item_texts rows file enclosing counts full attributes (items.Enum e) text = record { structs = tt; constants = tt }
  item_texts rows file enclosing counts full attributes (items.Const c) text =
      record { structs = tt; constants = const_text rows file enclosing full c text }

  -- the strings of a definition
  text_at : (number : ℕ) (d : Defined) → IsAmong (definitions_at files number) d → DefinedText d
  text_at number d among = go (slice_get files number) refl among
    where
      go : (o : Option NamedFile) → slice_get files number ≡ o → IsAmong (option_map_or (λ (f : NamedFile). definitions_of f.tree) o []) d → DefinedText d
      go None is among = absurd among
      go (Some file) is among = each_at DefinedText (definitions_of file.tree) d (at_each FileText files number file texts is) among

  files_texts : (order : List ℕ) → HaveTexts (draft_of names consts files order)
  files_texts order =
      lift HaveTexts (rows_of files order) names consts files order (record { structs = tt; constants = tt }) join_texts
      (λ number among counts d of. item_texts (rows_of files order) number d.enclosing counts d.full d.attributes d.item (text_at number d of)) no_rows

  -- all texts of tables
  pub texts_sound : (order : List ℕ) → HasTexts (draft_of names consts files order)
  unfolding are_texts
  texts_sound order =
      let draft = draft_of names consts files order in
      let have = files_texts order in
      let structs : list_all has_texts draft.structs ≡ true =
      all_tested has_texts draft.structs
      (all_so StructText (λ (row : DraftStruct). has_texts row ≡ true)
      (λ row is. all_tested (λ (field : DraftField). option_map_or is_text field.default true) row.fields is) draft.structs have.structs) in
      and_from _ _ structs (all_tested (λ (row : ConstRow). is_text row.value) draft.consts have.constants)
