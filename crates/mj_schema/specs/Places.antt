-- The places of a list's rows, along the rows' keys.
use Rattle.std.specs.Prelude.{ℕ, ℤ, pos, ◌+◌, Bool, List, [], ◌∷◌}
use Rattle.std.specs.List.Sorted.{IsPermutation, IsSortedBy}
use Rattle.std.specs.Ordering.{int_cmp, is_lt, nat_cmp, ordering_then}
use Rattle.mj_schema.specs.declared.places.KeyPlace.{KeyPlace}
use Rattle.mj_schema.specs.declared.rows.MemberRow.{MemberRow}
use Rattle.mj_schema.specs.declared.rows.UnionFieldRow.{UnionFieldRow}

-- each key with its place, the first of which is this one
abbrev pub places_from : ℕ → List ℤ → List KeyPlace
places_from place [] = []
places_from place (key ∷ keys) = record { key = key; place = place } ∷ places_from (place + 1) keys

-- the one has the lower key, or the same key at the lower place
abbrev pub is_before : KeyPlace → KeyPlace → Bool
is_before one two = is_lt (ordering_then (int_cmp one.key two.key) (nat_cmp one.place two.place))

-- all places of a list, each once, along their keys, and those of one key along the list
pub record AreOrdered (keys : List ℤ) (places : List KeyPlace) : Type 0 where
  pub all : IsPermutation (places_from 0 keys) places
  pub rising : IsSortedBy is_before places

-- a member's number as such a key
abbrev pub number_of : MemberRow → ℤ
number_of member = member.number

-- a field's tag as such a key
abbrev pub tag_of : UnionFieldRow → ℤ
tag_of field = pos field.tag
