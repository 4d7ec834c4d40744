-- What is refused of the names of a file: a name that stands twice, or one that nothing has, or that means what can't stand there.
use Rattle.std.specs.Prelude.{ℕ, Bool, true, false, not, if◌then◌else◌, List, [], ◌∷◌, ◌++◌, map, length, take, get_or, slice_get, Option, Some, None, is_some}
use Rattle.std.specs.List.{flat_map, list_any, range_with_len}
use Rattle.std.specs.Option.{option_map_or}
use Rattle.std.specs.Str.{bytes_eq}
use Rattle.mojom_ast.specs.declared.names.Identifier.{Identifier}
use Rattle.mojom_ast.specs.declared.definitions.DefinitionItem.{DefinitionItem}
use Rattle.mojom_ast.specs.declared.definitions.DefinitionItem.TheVariants as items
use Rattle.mojom_ast.specs.declared.definitions.StructMember.{StructMember}
use Rattle.mojom_ast.specs.declared.definitions.StructItem.{StructItem}
use Rattle.mojom_ast.specs.declared.definitions.StructItem.TheVariants as struct_items
use Rattle.mojom_ast.specs.declared.definitions.UnionField.{UnionField}
use Rattle.mojom_ast.specs.declared.definitions.Enumerator.{Enumerator}
use Rattle.mojom_ast.specs.declared.definitions.InterfaceMember.{InterfaceMember}
use Rattle.mojom_ast.specs.declared.definitions.InterfaceItem.{InterfaceItem}
use Rattle.mojom_ast.specs.declared.definitions.InterfaceItem.TheVariants as interface_items
use Rattle.mojom_ast.specs.declared.definitions.Parameter.{Parameter}
use Rattle.mojom_files.specs.declared.named_file.NamedFile.{NamedFile}
use Rattle.mojom_files.specs.Causes.{DuplicateName, UnknownName, WrongSort}
use Rattle.mojom_files.specs.declared.refusal.Refusal.{Refusal}
use Rattle.mojom_files.specs.Basics.{basic_of}
use Rattle.mojom_files.specs.Names.{dotted}
use Rattle.mojom_files.specs.Definitions.{Defined, definitions_of}
use Rattle.mojom_files.specs.Refusals.{where_true, first_refusal}
use Rattle.module_resolver.specs.declared.target.Target.{Target}
use Rattle.module_resolver.specs.declared.target.Target.TheVariants as targets
use Rattle.module_resolver.specs.declared.target.DefinitionSort.{DefinitionSort}
use Rattle.module_resolver.specs.declared.target.DefinitionSort.TheVariants as sorts
use Rattle.module_resolver.specs.declared.file_names.FileNames.{FileNames}
use Rattle.name_refusals.specs.declared.uses.Wanted.{Wanted}
use Rattle.name_refusals.specs.declared.uses.Wanted.TheVariants as wants
use Rattle.name_refusals.specs.Known.{no_names, with_name}
use Rattle.module_resolver.specs.LookUp.{look_up, sort_of}
use Rattle.module_resolver.specs.NamesOf.{names_of}
use Rattle.name_refusals.specs.Uses.{Use, response_of, uses_of}

-- names that stand twice

-- a refusal of an identifier where it stands
abbrev pub duplicate : ℕ → Identifier → Refusal
duplicate file name = record { file = file; at = name.span.start; cause = DuplicateName name.text }

-- the name is one of these
abbrev pub is_among : List (List ℕ) → List ℕ → Bool
is_among names name = list_any (bytes_eq name) names

-- the fields of a struct among its members
abbrev pub field_name : StructItem → List Identifier
field_name (struct_items.Field f) = f.name ∷ []
field_name (struct_items.Const c) = []
field_name (struct_items.Enum e) = []

-- the methods of an interface among its members
abbrev pub method_name : InterfaceItem → List Identifier
method_name (interface_items.Method m) = m.name ∷ []
method_name (interface_items.Const c) = []
method_name (interface_items.Enum e) = []

-- the parameters of one list
abbrev pub parameter_names : List Parameter → List Identifier
parameter_names parameters = map (λ (p : Parameter). p.name) parameters

-- the parameters of a method's request, and those of its response, each list by itself
abbrev pub parameter_lists : InterfaceItem → List (List Identifier)
parameter_lists (interface_items.Method m) = parameter_names m.request ∷ parameter_names (response_of m.response) ∷ []
parameter_lists (interface_items.Const c) = []
parameter_lists (interface_items.Enum e) = []

-- the lists of members of a definition, in each of which a name stands once: fields, enumerators, methods, and the parameters of a list
abbrev pub member_lists : DefinitionItem → List (List Identifier)
member_lists (items.Struct item) = flat_map (λ (m : StructMember). field_name m.item) item.members ∷ []
member_lists (items.Union item) = map (λ (f : UnionField). f.name) item.fields ∷ []
member_lists (items.Enum item) = map (λ (e : Enumerator). e.name) item.enumerators ∷ []
member_lists (items.Interface item) =
    flat_map (λ (m : InterfaceMember). method_name m.item) item.members
    ∷ flat_map (λ (m : InterfaceMember). parameter_lists m.item) item.members
member_lists (items.Const item) = []

-- the identifiers of those of a list whose name is known: by this test, or since one before them in the list has it
abbrev pub repeated : {A : Type 0} → (A → List ℕ) → (A → Identifier) → (List ℕ → Bool) → List A → List Identifier
repeated name at known [] = []
repeated name at known (one ∷ others) =
    (if known (name one) then at one ∷ [] else []) ++ repeated name at (with_name known (name one)) others

-- the members of a list whose name a member before them has
abbrev pub repeated_members : List Identifier → List Identifier
repeated_members members = repeated (λ (i : Identifier). i.text) (λ (i : Identifier). i) no_names members

-- the definitions of a list whose full name is known, or that of a definition before them
abbrev pub repeated_definitions : (List ℕ → Bool) → List Defined → List Identifier
repeated_definitions known definitions = repeated (λ (d : Defined). d.full) (λ (d : Defined). d.name) known definitions

-- a definition that is named as a basic kind
abbrev pub named_as_basic : Defined → List Identifier
named_as_basic d = if is_some (basic_of d.name.text) then d.name ∷ [] else []

-- what is said of the file of this number
abbrev pub of_file : {A : Type 0} → (NamedFile → List A) → Option NamedFile → List A
of_file say file = option_map_or say file []

-- the full names that a file defines
abbrev pub full_names : NamedFile → List (List ℕ)
full_names file = map (λ (d : Defined). d.full) (definitions_of file.tree)

-- the full names that files of these numbers define
abbrev pub names_before : List NamedFile → List ℕ → List (List ℕ)
names_before files numbers = flat_map (λ (number : ℕ). of_file full_names (slice_get files number)) numbers

-- the identifiers of definitions that can't be named so, where the full names that pass the test are those of files before
abbrev pub repeated_in : (List ℕ → Bool) → List Defined → List Identifier
repeated_in known definitions =
    repeated_definitions known definitions
    ++ (flat_map named_as_basic definitions
    ++ flat_map repeated_members (flat_map (λ (d : Defined). member_lists d.item) definitions))

-- names that mean nothing, or what can't stand there

-- where a name stands: its first identifier
abbrev pub place_of : List Identifier → ℕ
place_of [] = 0
place_of (part ∷ parts) = part.span.start

-- a definition of this sort can stand where this is wanted
abbrev pub fits_sort : Wanted → DefinitionSort → Bool
fits_sort wants.Kind sorts.Struct = true
fits_sort wants.Kind sorts.Union = true
fits_sort wants.Kind sorts.Enum = true
fits_sort wants.Interface sorts.Interface = true
fits_sort wants.Value sorts.Const = true
fits_sort _ _ = false

-- an enumerator can stand where a value is wanted
abbrev pub is_value : Wanted → Bool
is_value wants.Value = true
is_value _ = false

-- what is meant can stand where this is wanted
abbrev pub fits : List FileNames → Wanted → Target → Bool
fits files wanted (targets.Enumerator file number) = is_value wanted
fits files wanted (targets.Definition file number) = option_map_or (fits_sort wanted) (sort_of files (targets.Definition file number)) false

-- what is refused of a name that means this
abbrev pub refused_meaning : List FileNames → ℕ → Use → Option Target → List Refusal
refused_meaning files file used None = record { file = file; at = place_of used.parts; cause = UnknownName (dotted used.parts) } ∷ []
refused_meaning files file used (Some target) =
    where_true (not (fits files used.wanted target)) (record { file = file; at = place_of used.parts; cause = WrongSort (dotted used.parts) })

-- what is refused of a use
abbrev pub refused_use : List FileNames → ℕ → Use → List Refusal
refused_use files file used = refused_meaning files file used (look_up files file used.enclosing (dotted used.parts))

-- what is refused of uses
abbrev pub refused_uses : List FileNames → ℕ → List Use → List Refusal
refused_uses files file uses = flat_map (refused_use files file) uses

-- all refusals of the names of the file of this number, where the full names that pass the test are those of files before
abbrev pub refusals_in : List FileNames → (List ℕ → Bool) → ℕ → NamedFile → List Refusal
refusals_in names known number file =
    map (duplicate number) (repeated_in known (definitions_of file.tree))
    ++ refused_uses names number (flat_map uses_of (definitions_of file.tree))

-- all refusals of the names of the file that stands at this place of the resolved order
abbrev pub refusals_at : List NamedFile → List ℕ → ℕ → List Refusal
refusals_at files order place =
    let number = get_or order place 0 in
    let known = is_among (names_before files (take place order)) in
    of_file (refusals_in (names_of files order).files known number) (slice_get files number)

-- the first refusal of the names of all files: the one that comes first in the first file, in resolved order, that has any
abbrev pub names_refusal : List NamedFile → List ℕ → Option Refusal
names_refusal files order = first_refusal (refusals_at files order) (range_with_len 0 (length order))
