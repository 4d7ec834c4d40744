-- What is refused of the values and the numbers of a file stands in it.
use Rattle.std.proofs.Common.{ℕ, ◌+◌, List, [], ◌∷◌, refl, length}
use Rattle.std.specs.Prelude.{ℤ, pos, not, ◌&&◌, Option, Some, None, slice_get}
use Rattle.std.specs.Option.{option_map_or}
use Rattle.mojom_ast.specs.TypeTrees.{BaseTree, Named, ArrayOf, MapOf, HandleOf, PendingOf}
use Rattle.mojom_ast.specs.declared.names.Identifier.{Identifier}
use Rattle.mojom_ast.specs.declared.names.Number.{Number}
use Rattle.mojom_ast.specs.declared.names.Value.{Value}
use Rattle.mojom_ast.specs.declared.attributes.Attribute.{Attribute}
use Rattle.mojom_ast.specs.declared.definitions.DefinitionItem.{DefinitionItem}
use Rattle.mojom_ast.specs.declared.definitions.DefinitionItem.TheVariants as items
use Rattle.mojom_ast.specs.declared.definitions.Struct.{Struct}
use Rattle.mojom_ast.specs.declared.definitions.Union.{Union}
use Rattle.mojom_ast.specs.declared.definitions.Interface.{Interface}
use Rattle.mojom_ast.specs.declared.definitions.StructItem.{StructItem}
use Rattle.mojom_ast.specs.declared.definitions.StructItem.TheVariants as struct_items
use Rattle.mojom_ast.specs.declared.definitions.Field.{Field}
use Rattle.mojom_ast.specs.declared.definitions.UnionField.{UnionField}
use Rattle.mojom_ast.specs.declared.definitions.Enumerator.{Enumerator}
use Rattle.mojom_ast.specs.declared.definitions.InterfaceItem.{InterfaceItem}
use Rattle.mojom_ast.specs.declared.definitions.InterfaceItem.TheVariants as interface_items
use Rattle.mojom_ast.specs.declared.definitions.Parameter.{Parameter}
use Rattle.mojom_ast.specs.declared.definitions.Const.{Const}
use Rattle.mojom_files.specs.declared.named_file.NamedFile.{NamedFile}
use Rattle.mojom_files.specs.declared.basic.Basic.{Basic}
use Rattle.mojom_files.specs.declared.basic.Basic.TheVariants as basics
use Rattle.mojom_files.specs.Causes.{CircularConst}
use Rattle.mojom_files.specs.Definitions.{Defined, definitions_of, enumerators_of}
use Rattle.name_refusals.specs.Uses.{is_min_version, response_of}
use Rattle.const_eval.specs.declared.kinds.Range.{Range}
use Rattle.const_eval.specs.declared.file_things.FileThings.{FileThings}
use Rattle.const_meanings.specs.Known.{Known, TextValue, BoolValue, NumberValue, FloatValue}
use Rattle.const_eval.specs.Consts.{value_at, is_circular, value_in}
use Rattle.const_eval.specs.Kinds.{basic_of_base, unsigned_bits, range_of, is_within, wrong_literal, out_of_range, refused_outside, refused_uint32, refused_number, refused_value}
use Rattle.const_eval.specs.Ordinals.{NumberedAs, numbered_by}
use Rattle.const_eval.specs.Refused.{Site, Member, of_known, place_of_value, refused_length, refused_lengths, place_of_ordinal, refused_ordinals, struct_members, union_members, interface_members, parameter_members, refused_version_value, refused_version, refused_versions, refused_circle, refused_const_as, refused_const, refused_enumerator_value, refused_enumerator, refused_enumerators, meant_by_base, meant_by_value, is_enumerator_of, refused_enum_default, refused_default_as, refused_default_by, is_string, refused_default_of, refused_default, refused_field, refused_struct_member, refused_union_field, refused_parameter, refused_parameters, refused_method, refused_interface_member, refused_struct, refused_union, refused_interface, refused_item, refused_definition}
use Rattle.const_eval.specs.Evaluated.{refused_things, refused_in}
use Rattle.mojom_compile.proofs.InFile.{AllIn, nothing, single, both, tested, chosen, said_of_each, said_of_numbered, said_or}

of_outside : (file at : ℕ) (kind : Basic) (number : ℤ) (range : Range) → AllIn file (refused_outside file at kind number range)
of_outside file at kind number range = tested (not (is_within range number)) (out_of_range file at kind number) refl

of_uint32 : (file at number : ℕ) → AllIn file (refused_uint32 file at number)
of_uint32 file at number = of_outside file at basics.Uint32 (pos number) (unsigned_bits 32)

of_number : (file : ℕ) (name : Identifier) (at : ℕ) (kind : Basic) (number : ℤ) → AllIn file (refused_number file name at kind number)
of_number file name at kind number =
    said_or (refused_outside file at kind number) (range_of kind) (of_outside file at kind number) (single (wrong_literal file name) refl)

of_value : (file : ℕ) (name : Identifier) (at : ℕ) (kind : Basic) (value : Known) → AllIn file (refused_value file name at kind value)
of_value file name at basics.Bool (BoolValue value) = nothing
of_value file name at basics.Bool (TextValue bytes) = single (wrong_literal file name) refl
of_value file name at basics.Bool (NumberValue number) = of_number file name at basics.Bool number
of_value file name at basics.Bool FloatValue = single (wrong_literal file name) refl
of_value file name at basics.Int8 (BoolValue value) = single (wrong_literal file name) refl
of_value file name at basics.Int8 (TextValue bytes) = single (wrong_literal file name) refl
of_value file name at basics.Int8 (NumberValue number) = of_number file name at basics.Int8 number
of_value file name at basics.Int8 FloatValue = single (wrong_literal file name) refl
of_value file name at basics.Int16 (BoolValue value) = single (wrong_literal file name) refl
of_value file name at basics.Int16 (TextValue bytes) = single (wrong_literal file name) refl
of_value file name at basics.Int16 (NumberValue number) = of_number file name at basics.Int16 number
of_value file name at basics.Int16 FloatValue = single (wrong_literal file name) refl
of_value file name at basics.Int32 (BoolValue value) = single (wrong_literal file name) refl
of_value file name at basics.Int32 (TextValue bytes) = single (wrong_literal file name) refl
of_value file name at basics.Int32 (NumberValue number) = of_number file name at basics.Int32 number
of_value file name at basics.Int32 FloatValue = single (wrong_literal file name) refl
of_value file name at basics.Int64 (BoolValue value) = single (wrong_literal file name) refl
of_value file name at basics.Int64 (TextValue bytes) = single (wrong_literal file name) refl
of_value file name at basics.Int64 (NumberValue number) = of_number file name at basics.Int64 number
of_value file name at basics.Int64 FloatValue = single (wrong_literal file name) refl
of_value file name at basics.Uint8 (BoolValue value) = single (wrong_literal file name) refl
of_value file name at basics.Uint8 (TextValue bytes) = single (wrong_literal file name) refl
of_value file name at basics.Uint8 (NumberValue number) = of_number file name at basics.Uint8 number
of_value file name at basics.Uint8 FloatValue = single (wrong_literal file name) refl
of_value file name at basics.Uint16 (BoolValue value) = single (wrong_literal file name) refl
of_value file name at basics.Uint16 (TextValue bytes) = single (wrong_literal file name) refl
of_value file name at basics.Uint16 (NumberValue number) = of_number file name at basics.Uint16 number
of_value file name at basics.Uint16 FloatValue = single (wrong_literal file name) refl
of_value file name at basics.Uint32 (BoolValue value) = single (wrong_literal file name) refl
of_value file name at basics.Uint32 (TextValue bytes) = single (wrong_literal file name) refl
of_value file name at basics.Uint32 (NumberValue number) = of_number file name at basics.Uint32 number
of_value file name at basics.Uint32 FloatValue = single (wrong_literal file name) refl
of_value file name at basics.Uint64 (BoolValue value) = single (wrong_literal file name) refl
of_value file name at basics.Uint64 (TextValue bytes) = single (wrong_literal file name) refl
of_value file name at basics.Uint64 (NumberValue number) = of_number file name at basics.Uint64 number
of_value file name at basics.Uint64 FloatValue = single (wrong_literal file name) refl
of_value file name at basics.Text (BoolValue value) = single (wrong_literal file name) refl
of_value file name at basics.Text (TextValue bytes) = nothing
of_value file name at basics.Text (NumberValue number) = of_number file name at basics.Text number
of_value file name at basics.Text FloatValue = single (wrong_literal file name) refl
of_value file name at basics.Float (BoolValue value) = single (wrong_literal file name) refl
of_value file name at basics.Float (TextValue bytes) = single (wrong_literal file name) refl
of_value file name at basics.Float (NumberValue number) = of_number file name at basics.Float number
of_value file name at basics.Float FloatValue = single (wrong_literal file name) refl
of_value file name at basics.Double (BoolValue value) = single (wrong_literal file name) refl
of_value file name at basics.Double (TextValue bytes) = single (wrong_literal file name) refl
of_value file name at basics.Double (NumberValue number) = of_number file name at basics.Double number
of_value file name at basics.Double FloatValue = single (wrong_literal file name) refl

of_length : (file : ℕ) (count : Option Number) → AllIn file (refused_length file count)
of_length file None = nothing
of_length file (Some count) = of_uint32 file count.span.start count.value

of_lengths : (file : ℕ) (kind : BaseTree) → AllIn file (refused_lengths file kind)
of_lengths file (Named kind) = nothing
of_lengths file (ArrayOf inner nullable count) = both (of_length file count) (of_lengths file inner)
of_lengths file (MapOf key of_key value of_its_value) = both (of_lengths file key) (of_lengths file value)
of_lengths file (HandleOf sort) = nothing
of_lengths file (PendingOf sort interface) = nothing

of_ordinals : (file next : ℕ) (members : List Member) → AllIn file (refused_ordinals file next members)
of_ordinals file next members =
    said_of_each (λ (one : NumberedAs Member). refused_uint32 file (place_of_ordinal one.member) one.ordinal)
    (numbered_by (λ (n : ℕ). n) (λ (m : Member). m.ordinal) next members)
    (λ one. of_uint32 file (place_of_ordinal one.member) one.ordinal)

of_value_of : (file : ℕ) (name : Identifier) (at : ℕ) (kind : Basic) (value : Option Known)
    → AllIn file (of_known (refused_value file name at kind) value)
of_value_of file name at kind value = said_or (refused_value file name at kind) value (of_value file name at kind) nothing

of_const_as : (file : ℕ) (name : Identifier) (at : ℕ) (kind : Option Basic) (value : Option Known)
    → AllIn file (refused_const_as file name at kind value)
of_const_as file name at None value = single (wrong_literal file name) refl
of_const_as file name at (Some basics.Bool) value = of_value_of file name at basics.Bool value
of_const_as file name at (Some basics.Int8) value = of_value_of file name at basics.Int8 value
of_const_as file name at (Some basics.Int16) value = of_value_of file name at basics.Int16 value
of_const_as file name at (Some basics.Int32) value = of_value_of file name at basics.Int32 value
of_const_as file name at (Some basics.Int64) value = of_value_of file name at basics.Int64 value
of_const_as file name at (Some basics.Uint8) value = of_value_of file name at basics.Uint8 value
of_const_as file name at (Some basics.Uint16) value = of_value_of file name at basics.Uint16 value
of_const_as file name at (Some basics.Uint32) value = of_value_of file name at basics.Uint32 value
of_const_as file name at (Some basics.Uint64) value = of_value_of file name at basics.Uint64 value
of_const_as file name at (Some basics.Text) value = of_value_of file name at basics.Text value
of_const_as file name at (Some basics.Float) value = nothing
of_const_as file name at (Some basics.Double) value = nothing

of_default_as : (file : ℕ) (name : Identifier) (at : ℕ) (kind : Basic) (value : Option Known)
    → AllIn file (refused_default_as file name at kind value)
of_default_as file name at basics.Bool value = of_value_of file name at basics.Bool value
of_default_as file name at basics.Int8 value = of_value_of file name at basics.Int8 value
of_default_as file name at basics.Int16 value = of_value_of file name at basics.Int16 value
of_default_as file name at basics.Int32 value = of_value_of file name at basics.Int32 value
of_default_as file name at basics.Int64 value = of_value_of file name at basics.Int64 value
of_default_as file name at basics.Uint8 value = of_value_of file name at basics.Uint8 value
of_default_as file name at basics.Uint16 value = of_value_of file name at basics.Uint16 value
of_default_as file name at basics.Uint32 value = of_value_of file name at basics.Uint32 value
of_default_as file name at basics.Uint64 value = of_value_of file name at basics.Uint64 value
of_default_as file name at basics.Text value = of_value_of file name at basics.Text value
of_default_as file name at basics.Float value = single (wrong_literal file name) refl
of_default_as file name at basics.Double value = single (wrong_literal file name) refl

of_enumerator_value : (file : ℕ) (e : Enumerator) (value : Known) → AllIn file (refused_enumerator_value file e value)
of_enumerator_value file e value = of_value file e.name (option_map_or place_of_value e.value e.name.span.start) basics.Int32 value

module _ (site : Site) where
  of_version_value : (inside : Option (List ℕ)) (name : Identifier) (value : Option Value) → AllIn site.file (refused_version_value site inside name value)
  of_version_value inside name None = single (wrong_literal site.file name) refl
  of_version_value inside name (Some value) =
      said_or (refused_value site.file name (place_of_value value) basics.Uint32) (value_in site.consts site.names site.file inside value)
      (of_value site.file name (place_of_value value) basics.Uint32) nothing

  of_version : (inside : Option (List ℕ)) (name : Identifier) (a : Attribute) → AllIn site.file (refused_version site inside name a)
  of_version inside name a = chosen (is_min_version a) (of_version_value inside name a.value) nothing

  of_versions : (inside : Option (List ℕ)) (name : Identifier) (attributes : List Attribute)
      → AllIn site.file (refused_versions site inside name attributes)
  of_versions inside name attributes = said_of_each (refused_version site inside name) attributes (of_version inside name)

  of_circle : (thing : ℕ) (name : Identifier) → AllIn site.file (refused_circle site thing name)
  of_circle thing name =
      tested (is_circular site.consts thing) (record { file = site.file; at = name.span.start; cause = CircularConst name.text }) refl

  of_const : (thing : ℕ) (c : Const) → AllIn site.file (refused_const site thing c)
  of_const thing c =
      both (of_circle thing c.name)
      (both (of_const_as site.file c.name (place_of_value c.value) (basic_of_base c.kind.base) (value_at site.consts thing))
      (of_lengths site.file c.kind.base))

  of_enumerator : (inside : Option (List ℕ)) (thing : ℕ) (e : Enumerator) → AllIn site.file (refused_enumerator site inside thing e)
  of_enumerator inside thing e =
      both (of_circle thing e.name)
      (both (said_or (refused_enumerator_value site.file e) (value_at site.consts thing) (of_enumerator_value site.file e) nothing)
      (of_versions inside e.name e.attributes))

  of_enumerators : (thing : ℕ) (ds : List Defined) → AllIn site.file (refused_enumerators site thing ds)
  of_enumerators thing [] = nothing
  of_enumerators thing (d ∷ ds) =
      both (said_of_numbered (refused_enumerator site (Some d.full)) thing (enumerators_of d.item) (of_enumerator (Some d.full)))
      (of_enumerators (thing + length (enumerators_of d.item)) ds)

  of_enum_default : (inside : Option (List ℕ)) (f : Field) (value : Value) → AllIn site.file (refused_enum_default site inside f value)
  of_enum_default inside f value =
      tested (not (is_enumerator_of site.consts.files (meant_by_base site inside f.kind.base) (meant_by_value site inside value)))
      (wrong_literal site.file f.name) refl

  of_default_by : (inside : Option (List ℕ)) (f : Field) (value : Value) (kind : Option Basic)
      → AllIn site.file (refused_default_by site inside f value kind)
  of_default_by inside f value None = of_enum_default inside f value
  of_default_by inside f value (Some kind) =
      of_default_as site.file f.name (place_of_value value) kind (value_in site.consts site.names site.file inside value)

  of_default_of : (inside : Option (List ℕ)) (f : Field) (value : Value) (kind : Option Basic)
      → AllIn site.file (refused_default_of site inside f value kind)
  of_default_of inside f value kind =
      chosen (f.kind.nullable && not (is_string kind)) (single (wrong_literal site.file f.name) refl) (of_default_by inside f value kind)

  of_default : (inside : Option (List ℕ)) (f : Field) (value : Option Value) → AllIn site.file (refused_default site inside f value)
  of_default inside f None = nothing
  of_default inside f (Some value) = of_default_of inside f value (basic_of_base f.kind.base)

  of_field : (inside : Option (List ℕ)) (attributes : List Attribute) (member : StructItem)
      → AllIn site.file (refused_field site inside attributes member)
  of_field inside attributes (struct_items.Field f) =
      both (of_versions inside f.name attributes) (both (of_lengths site.file f.kind.base) (of_default inside f f.default))
  of_field inside attributes (struct_items.Const c) = nothing
  of_field inside attributes (struct_items.Enum e) = nothing

  of_union_field : (inside : Option (List ℕ)) (f : UnionField) → AllIn site.file (refused_union_field site inside f)
  of_union_field inside f = both (of_versions inside f.name f.attributes) (of_lengths site.file f.kind.base)

  of_parameter : (inside : Option (List ℕ)) (p : Parameter) → AllIn site.file (refused_parameter site inside p)
  of_parameter inside p = both (of_versions inside p.name p.attributes) (of_lengths site.file p.kind.base)

  of_parameters : (inside : Option (List ℕ)) (ps : List Parameter) → AllIn site.file (refused_parameters site inside ps)
  of_parameters inside ps =
      both (said_of_each (refused_parameter site inside) ps (of_parameter inside)) (of_ordinals site.file 0 (parameter_members ps))

  of_method : (inside : Option (List ℕ)) (attributes : List Attribute) (member : InterfaceItem)
      → AllIn site.file (refused_method site inside attributes member)
  of_method inside attributes (interface_items.Method m) =
      both (of_versions inside m.name attributes) (both (of_parameters inside m.request) (of_parameters inside (response_of m.response)))
  of_method inside attributes (interface_items.Const c) = nothing
  of_method inside attributes (interface_items.Enum e) = nothing

  of_struct : (inside : Option (List ℕ)) (s : Struct) → AllIn site.file (refused_struct site inside s)
  of_struct inside s =
      both (said_of_each (refused_struct_member site inside) s.members (λ m. of_field inside m.attributes m.item))
      (of_ordinals site.file 0 (struct_members s.members))

  of_union : (inside : Option (List ℕ)) (u : Union) → AllIn site.file (refused_union site inside u)
  of_union inside u =
      both (said_of_each (refused_union_field site inside) u.fields (of_union_field inside)) (of_ordinals site.file 0 (union_members u.fields))

  of_interface : (inside : Option (List ℕ)) (i : Interface) → AllIn site.file (refused_interface site inside i)
  of_interface inside i =
      both (said_of_each (refused_interface_member site inside) i.members (λ m. of_method inside m.attributes m.item))
      (of_ordinals site.file 0 (interface_members i.members))

  of_item : (thing : ℕ) (inside : Option (List ℕ)) (item : DefinitionItem) → AllIn site.file (refused_item site thing inside item)
  of_item thing inside (items.Struct s) = of_struct inside s
  of_item thing inside (items.Union u) = of_union inside u
  of_item thing inside (items.Interface i) = of_interface inside i
  of_item thing inside (items.Const c) = of_const thing c
  of_item thing inside (items.Enum e) = nothing

  of_definition : (thing : ℕ) (d : Defined) → AllIn site.file (refused_definition site thing d)
  of_definition thing d = both (of_versions d.enclosing d.name d.attributes) (of_item thing (Some d.full) d.item)

  of_things : (file : NamedFile) (things : FileThings) → AllIn site.file (refused_things site file things)
  of_things file things =
      both (said_of_numbered (refused_definition site) things.definitions (definitions_of file.tree) of_definition)
      (of_enumerators things.enumerators (definitions_of file.tree))

  -- all that is refused of the file of this number
  pub consts_in : (file : NamedFile) → AllIn site.file (refused_in site file)
  consts_in file = said_or (refused_things site file) (slice_get site.consts.files site.file) (of_things file) nothing
