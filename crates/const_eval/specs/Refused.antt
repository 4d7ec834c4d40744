-- What is refused of the values and the numbers of a file.
use Rattle.std.specs.Prelude.{ℕ, ◌+◌, ◌==◌, ◌&&◌, not, Bool, true, false, if◌then◌else◌}
use Rattle.std.specs.Prelude.{List, [], ◌∷◌, ◌++◌, map, length, Option, Some, None}
use Rattle.std.specs.List.{flat_map}
use Rattle.std.specs.Option.{option_map_or}
use Rattle.mojom_ast.specs.TypeTrees.{BaseTree, Named, ArrayOf, MapOf, HandleOf, PendingOf}
use Rattle.mojom_ast.specs.declared.names.Identifier.{Identifier}
use Rattle.mojom_ast.specs.declared.names.Number.{Number}
use Rattle.mojom_ast.specs.declared.names.Value.{Value}
use Rattle.mojom_ast.specs.declared.names.Value.TheVariants as values
use Rattle.mojom_ast.specs.declared.attributes.Attribute.{Attribute}
use Rattle.mojom_ast.specs.declared.definitions.DefinitionItem.{DefinitionItem}
use Rattle.mojom_ast.specs.declared.definitions.DefinitionItem.TheVariants as items
use Rattle.mojom_ast.specs.declared.definitions.Struct.{Struct}
use Rattle.mojom_ast.specs.declared.definitions.Union.{Union}
use Rattle.mojom_ast.specs.declared.definitions.Interface.{Interface}
use Rattle.mojom_ast.specs.declared.definitions.StructMember.{StructMember}
use Rattle.mojom_ast.specs.declared.definitions.StructItem.{StructItem}
use Rattle.mojom_ast.specs.declared.definitions.StructItem.TheVariants as struct_items
use Rattle.mojom_ast.specs.declared.definitions.Field.{Field}
use Rattle.mojom_ast.specs.declared.definitions.UnionField.{UnionField}
use Rattle.mojom_ast.specs.declared.definitions.Enumerator.{Enumerator}
use Rattle.mojom_ast.specs.declared.definitions.InterfaceMember.{InterfaceMember}
use Rattle.mojom_ast.specs.declared.definitions.InterfaceItem.{InterfaceItem}
use Rattle.mojom_ast.specs.declared.definitions.InterfaceItem.TheVariants as interface_items
use Rattle.mojom_ast.specs.declared.definitions.Parameter.{Parameter}
use Rattle.mojom_ast.specs.declared.definitions.Const.{Const}
use Rattle.mojom_files.specs.declared.basic.Basic.{Basic}
use Rattle.mojom_files.specs.declared.basic.Basic.TheVariants as basics
use Rattle.mojom_files.specs.Causes.{CircularConst}
use Rattle.mojom_files.specs.declared.refusal.Refusal.{Refusal}
use Rattle.mojom_files.specs.Names.{dotted}
use Rattle.mojom_files.specs.Definitions.{Defined, enumerators_of}
use Rattle.mojom_files.specs.Refusals.{where_true}
use Rattle.module_resolver.specs.declared.target.Target.{Target}
use Rattle.module_resolver.specs.declared.target.Target.TheVariants as targets
use Rattle.module_resolver.specs.declared.file_names.FileNames.{FileNames}
use Rattle.module_resolver.specs.LookUp.{look_up}
use Rattle.name_refusals.specs.NameRefusals.{place_of}
use Rattle.name_refusals.specs.Uses.{is_min_version, response_of}
use Rattle.const_eval.specs.declared.file_things.FileThings.{FileThings}
use Rattle.const_eval.specs.declared.consts.Consts.{Consts}
use Rattle.const_meanings.specs.Known.{Known}
use Rattle.const_eval.specs.Ordinals.{NumberedAs, ordinal_by, numbered_by}
use Rattle.const_eval.specs.Things.{numbered, owner_of}
use Rattle.const_eval.specs.Kinds.{basic_of_base, wrong_literal, refused_uint32, refused_value}
use Rattle.const_eval.specs.Consts.{value_at, is_circular, value_in}

-- where a value stands: its first token
abbrev pub place_of_value : Value → ℕ
place_of_value (values.String written) = written.span.start
place_of_value (values.Bool value span) = span.start
place_of_value (values.Number negative magnitude span) = span.start
place_of_value (values.Name name) = place_of name.parts

-- what is refused of a value; nothing where there is none
abbrev pub of_known : (Known → List Refusal) → Option Known → List Refusal
of_known refused value = option_map_or refused value []

-- array lengths

-- a length is a number of uint32
abbrev pub refused_length : ℕ → Option Number → List Refusal
refused_length file None = []
refused_length file (Some count) = refused_uint32 file count.span.start count.value

-- the lengths in a type, at any depth
abbrev pub refused_lengths : ℕ → BaseTree → List Refusal
refused_lengths file (Named kind) = []
refused_lengths file (ArrayOf of nullable count) = refused_length file count ++ refused_lengths file of
refused_lengths file (MapOf key of_key value of_value) = refused_lengths file key ++ refused_lengths file value
refused_lengths file (HandleOf sort) = []
refused_lengths file (PendingOf sort interface) = []

-- ordinals

-- a member that has an ordinal, which may be written
pub record Member : Type 0 where
  pub name : Identifier
  pub ordinal : Option Number

-- the ordinal of a member, where that of one without ordinal is this
abbrev pub ordinal_or : ℕ → Option Number → ℕ
ordinal_or next ordinal = ordinal_by (λ (n : ℕ). n) next ordinal

-- where the ordinal of a member stands: at the number, or at the identifier where none is written
abbrev pub place_of_ordinal : Member → ℕ
place_of_ordinal member = option_map_or (λ (n : Number). n.span.start) member.ordinal member.name.span.start

-- ordinals are numbers of uint32; a member without ordinal has the one before plus 1, and the first of these has this one
abbrev pub refused_ordinals : ℕ → ℕ → List Member → List Refusal
refused_ordinals file next members =
    flat_map (λ (one : NumberedAs Member). refused_uint32 file (place_of_ordinal one.member) one.ordinal)
    (numbered_by (λ (n : ℕ). n) (λ (m : Member). m.ordinal) next members)

-- a field of a struct, with its ordinal; a constant or an enum in a struct is no member here
abbrev pub field_member : StructItem → List Member
field_member (struct_items.Field f) = record { name = f.name; ordinal = f.ordinal } ∷ []
field_member (struct_items.Const c) = []
field_member (struct_items.Enum e) = []

-- a method of an interface, with its ordinal; a constant or an enum in an interface is no member here
abbrev pub method_member : InterfaceItem → List Member
method_member (interface_items.Method m) = record { name = m.name; ordinal = m.ordinal } ∷ []
method_member (interface_items.Const c) = []
method_member (interface_items.Enum e) = []

-- the fields of a struct, as members
abbrev pub struct_members : List StructMember → List Member
struct_members members = flat_map (λ (m : StructMember). field_member m.item) members

-- the fields of a union, as members
abbrev pub union_members : List UnionField → List Member
union_members fields = map (λ (f : UnionField). record { name = f.name; ordinal = f.ordinal }) fields

-- the methods of an interface, as members
abbrev pub interface_members : List InterfaceMember → List Member
interface_members members = flat_map (λ (m : InterfaceMember). method_member m.item) members

-- the parameters of one list, as members
abbrev pub parameter_members : List Parameter → List Member
parameter_members parameters = map (λ (p : Parameter). record { name = p.name; ordinal = p.ordinal }) parameters

-- where something is tested: what constants mean, the names of all files, and the number of the file
pub record Site : Type 0 where
  pub consts : Consts
  pub names : List FileNames
  pub file : ℕ

-- versions

-- the value of a MinVersion is a number of uint32; without a value it is refused
abbrev pub refused_version_value : Site → Option (List ℕ) → Identifier → Option Value → List Refusal
refused_version_value site enclosing name None = wrong_literal site.file name ∷ []
refused_version_value site enclosing name (Some value) =
    of_known (refused_value site.file name (place_of_value value) basics.Uint32) (value_in site.consts site.names site.file enclosing value)

-- what is refused of one attribute: nothing of one that isn't a MinVersion
abbrev pub refused_version : Site → Option (List ℕ) → Identifier → Attribute → List Refusal
refused_version site enclosing name attribute =
    if is_min_version attribute then refused_version_value site enclosing name attribute.value else []

-- what is refused of the attributes before what has this name
abbrev pub refused_versions : Site → Option (List ℕ) → Identifier → List Attribute → List Refusal
refused_versions site enclosing name attributes =
    flat_map (refused_version site enclosing name) attributes

-- constants and enumerators, by the number of their thing

-- a thing that needs itself, at its identifier
abbrev pub refused_circle : Site → ℕ → Identifier → List Refusal
refused_circle site thing name =
    where_true (is_circular site.consts thing) (record { file = site.file; at = name.span.start; cause = CircularConst name.text })

-- a constant of a kind that isn't basic is refused whatever its value; one of float or double is passed over; and of the others the value is tested
abbrev pub refused_const_as : ℕ → Identifier → ℕ → Option Basic → Option Known → List Refusal
refused_const_as file name at None value = wrong_literal file name ∷ []
refused_const_as file name at (Some basics.Float) value = []
refused_const_as file name at (Some basics.Double) value = []
refused_const_as file name at (Some kind) value = of_known (refused_value file name at kind) value

-- the constant of this number, by its kind first and then by its value
abbrev pub refused_const_value : Site → ℕ → Const → List Refusal
refused_const_value site thing c =
    refused_const_as site.file c.name (place_of_value c.value) (basic_of_base c.kind.base) (value_at site.consts thing)

-- all that is refused of a constant: that it needs itself, then its kind and value, and then the lengths in its type
abbrev pub refused_const : Site → ℕ → Const → List Refusal
refused_const site thing c =
    refused_circle site thing c.name ++ (refused_const_value site thing c ++ refused_lengths site.file c.kind.base)

-- an enumerator is a number of int32, at its value or at its identifier where none is written
abbrev pub refused_enumerator_value : ℕ → Enumerator → Known → List Refusal
refused_enumerator_value file e value =
    refused_value file e.name (option_map_or place_of_value e.value e.name.span.start) basics.Int32 value

-- the value of the enumerator of this number, where it has one
abbrev pub refused_known_enumerator : Site → ℕ → Enumerator → List Refusal
refused_known_enumerator site thing e = of_known (refused_enumerator_value site.file e) (value_at site.consts thing)

-- all that is refused of an enumerator: that it needs itself, then its value, and then the versions before it
abbrev pub refused_enumerator : Site → Option (List ℕ) → ℕ → Enumerator → List Refusal
refused_enumerator site inside thing e =
    refused_circle site thing e.name
    ++ (refused_known_enumerator site thing e ++ refused_versions site inside e.name e.attributes)

-- the enumerators of definitions, the first of which is the thing of this number
abbrev pub refused_enumerators : Site → ℕ → List Defined → List Refusal
refused_enumerators site thing [] = []
refused_enumerators site thing (d ∷ ds) =
    numbered (refused_enumerator site (Some d.full)) thing (enumerators_of d.item)
    ++ refused_enumerators site (thing + length (enumerators_of d.item)) ds

-- defaults

-- what a type's name means
abbrev pub meant_by_base : Site → Option (List ℕ) → BaseTree → Option Target
meant_by_base site enclosing (Named name) = look_up site.names site.file enclosing (dotted name.parts)
meant_by_base site enclosing _ = None

-- what a value's name means
abbrev pub meant_by_value : Site → Option (List ℕ) → Value → Option Target
meant_by_value site enclosing (values.Name name) = look_up site.names site.file enclosing (dotted name.parts)
meant_by_value site enclosing _ = None

-- one name means an enum, and the other an enumerator of that very enum
abbrev pub is_enumerator_of : List FileThings → Option Target → Option Target → Bool
is_enumerator_of things (Some (targets.Definition file number)) (Some (targets.Enumerator other enumerator)) =
    (file == other) && option_map_or (λ (owner : ℕ). owner == number) (owner_of things other enumerator) false
is_enumerator_of things _ _ = false

-- a default of a kind that isn't basic is the name of an enumerator of that kind
abbrev pub refused_enum_default : Site → Option (List ℕ) → Field → Value → List Refusal
refused_enum_default site enclosing f value =
    where_true
    (not (is_enumerator_of site.consts.files (meant_by_base site enclosing f.kind.base) (meant_by_value site enclosing value)))
    (wrong_literal site.file f.name)

-- float and double have no defaults, whatever their values; a default of another basic kind is a value of that kind
abbrev pub refused_default_as : ℕ → Identifier → ℕ → Basic → Option Known → List Refusal
refused_default_as file name at basics.Float value = wrong_literal file name ∷ []
refused_default_as file name at basics.Double value = wrong_literal file name ∷ []
refused_default_as file name at kind value = of_known (refused_value file name at kind) value

-- a default by its kind: that of a basic kind is tested by its value
abbrev pub refused_default_by : Site → Option (List ℕ) → Field → Value → Option Basic → List Refusal
refused_default_by site enclosing f value None = refused_enum_default site enclosing f value
refused_default_by site enclosing f value (Some kind) =
    refused_default_as site.file f.name (place_of_value value) kind (value_in site.consts site.names site.file enclosing value)

-- string
abbrev pub is_string : Option Basic → Bool
is_string (Some basics.Text) = true
is_string _ = false

-- a default, by the kind of its field first: of the kinds with `?` only string takes one, so no bool, integer or enum that may be null
abbrev pub refused_default_of : Site → Option (List ℕ) → Field → Value → Option Basic → List Refusal
refused_default_of site enclosing f value kind =
    if f.kind.nullable && not (is_string kind) then wrong_literal site.file f.name ∷ [] else refused_default_by site enclosing f value kind

-- what is refused of a field's default, where one is written
abbrev pub refused_default : Site → Option (List ℕ) → Field → Option Value → List Refusal
refused_default site enclosing f None = []
refused_default site enclosing f (Some value) = refused_default_of site enclosing f value (basic_of_base f.kind.base)

-- members

-- a field of a struct; constants and enums in a struct are definitions of their own
abbrev pub refused_field : Site → Option (List ℕ) → List Attribute → StructItem → List Refusal
refused_field site enclosing attributes (struct_items.Field f) =
    refused_versions site enclosing f.name attributes
    ++ (refused_lengths site.file f.kind.base ++ refused_default site enclosing f f.default)
refused_field site enclosing attributes (struct_items.Const c) = []
refused_field site enclosing attributes (struct_items.Enum e) = []

-- what is refused of a member of a struct, with the attributes before it
abbrev pub refused_struct_member : Site → Option (List ℕ) → StructMember → List Refusal
refused_struct_member site enclosing member = refused_field site enclosing member.attributes member.item

-- a field of a union, which has no default: the versions before it, and the lengths in its type
abbrev pub refused_union_field : Site → Option (List ℕ) → UnionField → List Refusal
refused_union_field site enclosing f =
    refused_versions site enclosing f.name f.attributes ++ refused_lengths site.file f.kind.base

-- a parameter, which has no default: the versions before it, and the lengths in its type
abbrev pub refused_parameter : Site → Option (List ℕ) → Parameter → List Refusal
refused_parameter site enclosing p =
    refused_versions site enclosing p.name p.attributes ++ refused_lengths site.file p.kind.base

-- a list of parameters, which has ordinals of its own
abbrev pub refused_parameters : Site → Option (List ℕ) → List Parameter → List Refusal
refused_parameters site enclosing parameters =
    flat_map (refused_parameter site enclosing) parameters
    ++ refused_ordinals site.file 0 (parameter_members parameters)

-- a method; constants and enums in an interface are definitions of their own
abbrev pub refused_method : Site → Option (List ℕ) → List Attribute → InterfaceItem → List Refusal
refused_method site enclosing attributes (interface_items.Method m) =
    refused_versions site enclosing m.name attributes
    ++ (refused_parameters site enclosing m.request
    ++ refused_parameters site enclosing (response_of m.response))
refused_method site enclosing attributes (interface_items.Const c) = []
refused_method site enclosing attributes (interface_items.Enum e) = []

-- what is refused of a member of an interface, with the attributes before it
abbrev pub refused_interface_member : Site → Option (List ℕ) → InterfaceMember → List Refusal
refused_interface_member site enclosing member =
    refused_method site enclosing member.attributes member.item

-- definitions

-- the fields of a struct
abbrev pub refused_struct : Site → Option (List ℕ) → Struct → List Refusal
refused_struct site inside item =
    flat_map (refused_struct_member site inside) item.members ++ refused_ordinals site.file 0 (struct_members item.members)

-- the fields of a union
abbrev pub refused_union : Site → Option (List ℕ) → Union → List Refusal
refused_union site inside item =
    flat_map (refused_union_field site inside) item.fields ++ refused_ordinals site.file 0 (union_members item.fields)

-- the methods of an interface
abbrev pub refused_interface : Site → Option (List ℕ) → Interface → List Refusal
refused_interface site inside item =
    flat_map (refused_interface_member site inside) item.members ++ refused_ordinals site.file 0 (interface_members item.members)

-- what a definition has, but for its enumerators, which go by numbers of their own
abbrev pub refused_item : Site → ℕ → Option (List ℕ) → DefinitionItem → List Refusal
refused_item site thing inside (items.Struct item) = refused_struct site inside item
refused_item site thing inside (items.Union item) = refused_union site inside item
refused_item site thing inside (items.Interface item) = refused_interface site inside item
refused_item site thing inside (items.Const item) = refused_const site thing item
refused_item site thing inside (items.Enum item) = []

-- a definition, which is the thing of this number: the attributes before it stand outside it
abbrev pub refused_definition : Site → ℕ → Defined → List Refusal
refused_definition site thing d =
    refused_versions site d.enclosing d.name d.attributes ++ refused_item site thing (Some d.full) d.item
