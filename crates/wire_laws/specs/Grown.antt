-- The value that a newer schema gives to bytes of an older one: each struct's list goes on with what the fields read as that it lacks.
use Rattle.std.specs.Prelude.{ℕ, false, List, [], ◌∷◌, map, take, drop, Option, Some, None}
use Rattle.mj_schema.specs.KindTrees as kinds
use Rattle.mj_schema.specs.KindTrees.{KindTree}
use Rattle.mj_schema.specs.declared.rows.FieldRow.{FieldRow}
use Rattle.mj_schema.specs.declared.rows.StructRow.{StructRow}
use Rattle.mj_schema.specs.declared.schema.Schema.{Schema}
use Rattle.wire_model.specs.Absent.{absent_values}
use Rattle.wire_model.specs.Rows.{member_kind, row_of}
use Rattle.wire_model.specs.Slots.{Slot, field_slot, element_slots, map_slots}
use Rattle.wire_model.specs.Trees.{Tree, Trees, Flag, Whole, Text, Items, Pairs, Fields, Member, Unknown, Handle, Remote, Endpoint, EndpointRemote, Null, none, more, count}

-- the slots of so many elements of an array; none where the kind is no array
abbrev pub item_slots : KindTree → ℕ → List Slot
item_slots (kinds.ArrayKind of n nullable) m = element_slots of 0 m
item_slots _ m = []

-- the two lists of a map; none where the kind is no map
abbrev pub pair_slots : KindTree → List Slot
pair_slots (kinds.MapKind key value nullable) = map_slots key value
pair_slots _ = []

-- the fields of a struct; none where there is no such struct
abbrev pub all_fields : Option StructRow → List FieldRow
all_fields None = []
all_fields (Some row) = row.fields

-- what a union holds, as it reads by its kind; the same where the union lacks the tag
abbrev pub as_member : Option KindTree → Tree → (KindTree → Tree) → Tree
as_member None t read = t
as_member (Some k) t read = read k

abbrev mutual
  -- a value of a kind as the newer schema reads it
  pub grown : Schema → KindTree → Tree → Tree
  grown new k (Flag b) = Flag b
  grown new k (Whole n) = Whole n
  grown new k (Text bs) = Text bs
  grown new k (Items ts) = Items (grown_slots new (item_slots k (count ts)) ts none)
  grown new k (Pairs ts) = Pairs (grown_slots new (pair_slots k) ts none)
  grown new k (Fields ts) =
      Fields (grown_slots new (map field_slot (take (count ts) (all_fields (row_of new k)))) ts
      (absent_values new (drop (count ts) (all_fields (row_of new k)))))
  grown new k (Member tag t) = Member tag (as_member (member_kind new k tag) t (λ m. grown new m t))
  grown new k (Unknown tag) = Unknown tag
  grown new k (Handle i) = Handle i
  grown new k (Remote i version) = Remote i version
  grown new k (Endpoint i) = Endpoint i
  grown new k (EndpointRemote i version) = EndpointRemote i version
  grown new k Null = Null

  -- a value for each slot, and the rest behind them
  pub grown_slots : Schema → List Slot → Trees → Trees → Trees
  grown_slots new ss none rest = rest
  grown_slots new [] (more t ts) rest = rest
  grown_slots new (s ∷ ss) (more t ts) rest = more (grown new s.kind t) (grown_slots new ss ts rest)

-- the parameters of a struct as the newer schema reads them
abbrev pub grown_parameters : Schema → ℕ → Trees → Trees
grown_parameters new number ts =
    grown_slots new (map field_slot (take (count ts) (all_fields (row_of new (kinds.StructKind number false))))) ts
    (absent_values new (drop (count ts) (all_fields (row_of new (kinds.StructKind number false)))))
