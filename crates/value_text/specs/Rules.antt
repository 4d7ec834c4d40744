-- The text of a value, kind by kind.
use Rattle.std.specs.Prelude.{ℕ, zero, suc, ◌==◌, ◌||◌, Bool, true, false, List, [], ◌∷◌, Option, Some, None, is_some, map, codes, slice_get}
use Rattle.mj_schema.specs.KindTrees as kinds
use Rattle.mj_schema.specs.KindTrees.{KindTree}
use Rattle.mj_schema.specs.declared.schema.Schema.{Schema}
use Rattle.mj_schema.specs.declared.rows.StructRow.{StructRow}
use Rattle.mj_schema.specs.declared.rows.UnionRow.{UnionRow}
use Rattle.mj_schema.specs.declared.rows.FieldRow.{FieldRow}
use Rattle.mj_schema.specs.Parts.{has_flag}
use Rattle.wire_model.specs.Kinded.{is_nullable}
use Rattle.wire_model.specs.Rows.{kind_of_tag}
use Rattle.wire_model.specs.Trees.{Tree, trees}
use Rattle.wire_model.specs.Trees as values
use Rattle.byte_rules.specs.Lang.{Lang, choice, as_value, never, closed, ◌then◌, ◌▸◌, listed, exactly}
use Rattle.value_text.specs.Signs.{percent, open_round, close_round, comma, colon, open_angle, close_angle, at_sign, open_square, close_square, caret, open_curly, close_curly, letter_n, letter_t}
use Rattle.value_text.specs.Numbers.{whole, index, number_of, fields_tags, tag_of}
use Rattle.value_text.specs.Characters.{text}

-- these letters
abbrev pub letters : {A : Type 0} → List ℕ → A → Lang A
letters [] x = never x
letters (c ∷ []) x = closed c x
letters (c ∷ d ∷ ds) x = c ▸ letters (d ∷ ds) x

-- a bool
unfoldable pub boolean : Lang Tree
boolean = choice (λ b. b == letter_t) (letters (codes "true") (values.Flag true)) (letters (codes "false") (values.Flag false))

-- null
unfoldable pub null_word : Lang Tree
null_word = letters (codes "null") values.Null

-- a bracket, where one more may be open
abbrev pub opened : Bool → ℕ → Lang Tree → Lang Tree
opened false c one = never values.Null
opened true c one = c ▸ one

-- one value for each field, null too where it has a flag, each behind a comma, and the bracket that ends them; `inside` are the values
-- of slots, whether they have a flag and of which kind
unfoldable pub fields_after : (Bool → KindTree → Lang Tree) → List FieldRow → Lang (List Tree)
fields_after inside [] = closed close_round []
fields_after inside (f ∷ fs) = comma ▸ inside (is_some f.flag) f.kind then λ v. as_value (λ vs. v ∷ vs) (fields_after inside fs)

-- one value for each field with commas between, and the bracket that ends them
unfoldable pub fields : (Bool → KindTree → Lang Tree) → List FieldRow → Lang (List Tree)
fields inside [] = closed close_round []
fields inside (f ∷ fs) = inside (is_some f.flag) f.kind then λ v. as_value (λ vs. v ∷ vs) (fields_after inside fs)

-- the array of these elements
abbrev pub items_of : List Tree → Tree
items_of vs = values.Items (trees vs)

-- the struct of these fields
abbrev pub fields_of : List Tree → Tree
fields_of vs = values.Fields (trees vs)

-- the elements of an array, of any number or so many, and the bracket that ends them
abbrev pub elements : Lang Tree → Option ℕ → Lang (List Tree)
elements one None = listed close_square one
elements one (Some n) = exactly close_square n one

-- an array of such elements, of any number or so many, behind its first bracket
abbrev pub array : Lang Tree → Option ℕ → Lang Tree
array one count = as_value items_of (elements one count)

-- the fields of a struct; of one that isn't there no byte goes on
abbrev pub structure : (Bool → KindTree → Lang Tree) → Option StructRow → Lang Tree
structure inside None = never values.Null
structure inside (Some row) = as_value fields_of (fields inside row.fields)

-- a key and its value
unfoldable pub pair : Lang Tree → Lang Tree → Lang (Tree × Tree)
pair key one = key then λ k. colon ▸ as_value (λ v. (k, v)) one

-- the keys of pairs, in order
abbrev pub keys_of : List (Tree × Tree) → List Tree
keys_of ps = map (λ (p : Tree × Tree). p.0) ps

-- the values of pairs, in order
abbrev pub values_of : List (Tree × Tree) → List Tree
values_of ps = map (λ (p : Tree × Tree). p.1) ps

-- the map of these keys and values
abbrev pub map_of : List Tree → List Tree → Tree
map_of ks vs = values.Pairs (values.more (values.Items (trees ks)) (values.more (values.Items (trees vs)) values.none))

-- the map of these pairs
abbrev pub pairs_of : List (Tree × Tree) → Tree
pairs_of ps = map_of (keys_of ps) (values_of ps)

-- what stands behind a tag
abbrev pub member : (Bool → KindTree → Lang Tree) → ℕ → Option KindTree → Lang Tree
member inside tag None = closed close_angle (values.Unknown tag)
member inside tag (Some k) = colon ▸ inside false k then λ v. closed close_angle (values.Member tag v)

-- a tag and what stands behind it; of a union that isn't there no byte goes on
abbrev pub union : (Bool → KindTree → Lang Tree) → Option UnionRow → Lang Tree
union inside None = never values.Null
union inside (Some row) = tag_of row.extensible (fields_tags row.fields) then λ tag. member inside tag (kind_of_tag row.fields tag)

-- a value that isn't null; `inside` are the values of slots between its brackets, of which it has some where
-- `room` says so
abbrev pub base : Schema → Bool → (Bool → KindTree → Lang Tree) → KindTree → Lang Tree
base schema room inside (kinds.BoolKind nullable) = boolean
base schema room inside (kinds.IntKind w signed nullable) = as_value values.Whole (whole w signed)
base schema room inside (kinds.EnumKind n nullable) = as_value values.Whole (number_of (slice_get schema.enums n))
base schema room inside (kinds.TextKind nullable) = as_value values.Text text
base schema room inside (kinds.HandleKind sort nullable) = percent ▸ as_value values.Handle index
base schema room inside (kinds.ArrayKind of count nullable) = opened room open_square (array (inside false of) count)
base schema room inside (kinds.MapKind key one nullable) =
    opened room open_curly (as_value pairs_of (listed close_curly (pair (inside false key) (inside false one))))
base schema room inside (kinds.StructKind n nullable) = opened room open_round (structure inside (slice_get schema.structs n))
base schema room inside (kinds.UnionKind n nullable) = opened room open_angle (union inside (slice_get schema.unions n))
base schema room inside (kinds.RemoteKind interface nullable) = percent ▸ index then λ i. at_sign ▸ as_value (values.Remote i) index
base schema room inside (kinds.ReceiverKind interface nullable) = percent ▸ as_value values.Handle index
base schema room inside (kinds.AssociatedRemoteKind interface nullable) = caret ▸ index then λ i. at_sign ▸ as_value (values.EndpointRemote i) index
base schema room inside (kinds.AssociatedReceiverKind interface nullable) = caret ▸ as_value values.Endpoint index

-- null too, where the slot may be null
abbrev pub or_null : Bool → Lang Tree → Lang Tree
or_null false one = one
or_null true one = choice (λ b. b == letter_n) null_word one

-- the values of a slot, where so many brackets may be open at once: null where the slot has a flag, or its kind may be null by itself
unfoldable pub slot_value : Schema → ℕ → (flagged : Bool) → KindTree → Lang Tree
slot_value schema zero flagged k = or_null (flagged || is_nullable k) (base schema false (λ flagged k. never values.Null) k)
slot_value schema (suc left) flagged k = or_null (flagged || is_nullable k) (base schema true (slot_value schema left) k)

-- the values of a kind as of a field: null where the kind may be null
unfoldable pub value : Schema → ℕ → KindTree → Lang Tree
value schema left k = slot_value schema left (has_flag k) k
