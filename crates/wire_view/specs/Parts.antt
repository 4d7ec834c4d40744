-- The parts of a value, and what getters say of one.
use Rattle.std.specs.Prelude.{ℕ, ℤ, pos, zero, suc, Bool, true, false, List, [], ◌∷◌, Option, Some, None, ◌==◌, if◌then◌else◌, slice_get, option_and_then}
use Rattle.std.specs.Option.{option_map}
use Rattle.mj_schema.specs.KindTrees as kinds
use Rattle.mj_schema.specs.KindTrees.{KindTree}
use Rattle.mj_schema.specs.declared.kind.Width.TheVariants.{Bits8}
use Rattle.mj_schema.specs.declared.rows.FieldRow.{FieldRow}
use Rattle.mj_schema.specs.declared.rows.StructRow.{StructRow}
use Rattle.mj_schema.specs.declared.schema.Schema.{Schema}
use Rattle.wire_model.specs.Rows.{kind_in}
use Rattle.wire_model.specs.Trees.{Tree, Trees, Flag, Whole, Text, Items, Pairs, Fields, Member, Unknown, Handle, Remote, Endpoint, EndpointRemote, none, more, count}

-- one of some trees, by its number from 0
abbrev pub nth : Trees → ℕ → Option Tree
nth none i = None
nth (more t ts) zero = Some t
nth (more t ts) (suc i) = nth ts i

-- a part of a value: a struct's field by its ordinal, an array's element, a map's keys (0) and values (1), what a union holds by its tag
abbrev pub part : Tree → ℕ → Option Tree
part (Fields ts) i = nth ts i
part (Items ts) i = nth ts i
part (Pairs ts) i = nth ts i
part (Member tag t) i = if tag == i then Some t else None
part t i = None

-- how many parts there are; the fields that a version lacks are parts too
abbrev pub how_many : Tree → ℕ
how_many (Fields ts) = count ts
how_many (Items ts) = count ts
how_many (Pairs ts) = count ts
how_many (Member tag t) = 1
how_many t = 0

-- a bool as a number
abbrev pub flag_number : Bool → ℤ
flag_number true = pos 1
flag_number false = pos 0

-- the number that a value is: a bool as 0 or 1, an integer, an enum, or an index
abbrev pub number_of : Tree → Option ℤ
number_of (Flag b) = Some (flag_number b)
number_of (Whole n) = Some n
number_of (Handle i) = Some (pos i)
number_of (Remote i version) = Some (pos i)
number_of (Endpoint i) = Some (pos i)
number_of (EndpointRemote i version) = Some (pos i)
number_of t = None

-- the version of a remote
abbrev pub version_of : Tree → Option ℕ
version_of (Remote i version) = Some version
version_of (EndpointRemote i version) = Some version
version_of t = None

-- the bytes of a string
abbrev pub text_of : Tree → Option (List ℕ)
text_of (Text bs) = Some bs
text_of t = None

-- a struct, an array, a map or a union
abbrev pub is_object : Tree → Bool
is_object (Fields ts) = true
is_object (Items ts) = true
is_object (Pairs ts) = true
is_object (Member tag t) = true
is_object (Unknown tag) = true
is_object t = false

-- a value that is one
abbrev pub held : Tree → Option Tree
held t = if is_object t then Some t else None

-- an element of an array that is one
abbrev pub item_of : Tree → ℕ → Option Tree
item_of (Items ts) j = option_and_then held (nth ts j)
item_of t j = None

-- the tag of a union
abbrev pub tag_of : Tree → Option ℕ
tag_of (Member tag t) = Some tag
tag_of (Unknown tag) = Some tag
tag_of t = None

-- the kinds of the two lists of a map
abbrev pub list_kind : KindTree → KindTree → ℕ → Option KindTree
list_kind key one zero = Some (kinds.ArrayKind key None false)
list_kind key one (suc zero) = Some (kinds.ArrayKind one None false)
list_kind key one (suc (suc i)) = None

-- the kind of a part of an object of a kind
abbrev pub kind_at : Schema → KindTree → ℕ → Option KindTree
kind_at schema (kinds.StructKind number nullable) i =
    option_and_then (λ (row : StructRow). option_map (λ (field : FieldRow). field.kind) (slice_get row.fields i)) (slice_get schema.structs number)
kind_at schema (kinds.ArrayKind of n nullable) i = Some of
kind_at schema (kinds.MapKind key one nullable) i = list_kind key one i
kind_at schema (kinds.UnionKind number nullable) i = kind_in (slice_get schema.unions number) i
kind_at schema k i = None

-- a kind without what says nothing of the object itself: whether it may be null, and how many elements it has
abbrev pub plain : KindTree → KindTree
plain (kinds.ArrayKind of n nullable) = kinds.ArrayKind of None false
plain (kinds.MapKind key one nullable) = kinds.MapKind key one false
plain (kinds.StructKind number nullable) = kinds.StructKind number false
plain (kinds.UnionKind number nullable) = kinds.UnionKind number false
plain k = k

-- a string
abbrev pub is_string : KindTree → Bool
is_string (kinds.TextKind nullable) = true
is_string k = false

-- a struct
abbrev pub is_struct : KindTree → Bool
is_struct (kinds.StructKind number nullable) = true
is_struct k = false

-- an array
abbrev pub is_array : KindTree → Bool
is_array (kinds.ArrayKind of n nullable) = true
is_array k = false

-- a part, if it is of a kind that is wanted
abbrev pub of_kind : (KindTree → Bool) → Option KindTree → Option Tree → Option Tree
of_kind wanted None t = None
of_kind wanted (Some k) t = if wanted k then t else None

-- an array of uint8
abbrev pub is_bytes : KindTree → Bool
is_bytes (kinds.ArrayKind (kinds.IntKind Bits8 false false) n nullable) = true
is_bytes k = false

-- the byte that a value is
abbrev pub byte_of : Tree → ℕ
byte_of (Whole (pos n)) = n
byte_of t = 0

-- the bytes that values are
abbrev pub all_bytes : Trees → List ℕ
all_bytes none = []
all_bytes (more t ts) = byte_of t ∷ all_bytes ts

-- the bytes of an array
abbrev pub array_bytes : Tree → Option (List ℕ)
array_bytes (Items ts) = Some (all_bytes ts)
array_bytes t = None

-- those of a part that is an array of uint8
abbrev pub bytes_of_part : Option KindTree → Option Tree → Option (List ℕ)
bytes_of_part None t = None
bytes_of_part (Some k) t = if is_bytes k then option_and_then array_bytes t else None
