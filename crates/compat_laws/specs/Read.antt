-- What a newer schema makes of the messages of an older one.
use Rattle.std.specs.Prelude.{◌≡◌, ℕ, ◌==◌, List, length, Some, true, false, slice_get}
use Rattle.std.specs.List.{list_any}
use Rattle.mj_schema.specs.Lookups.{interface_named, method_in}
use Rattle.mj_schema.specs.WellFormed.{structs_of_methods}
use Rattle.mj_schema.specs.declared.rows.InterfaceRow.{InterfaceRow}
use Rattle.mj_schema.specs.declared.rows.MethodRow.{MethodRow}
use Rattle.mj_schema.specs.declared.rows.RowSort.TheVariants.{Struct}
use Rattle.mj_schema.specs.declared.schema.Schema.{Schema}
use Rattle.wire_model.specs.Expected.{Stands, message_value, struct_of, flags_of}
use Rattle.wire_model.specs.Message.{Head, IsHead, ids_read, is_plain, written_request}
use Rattle.wire_model.specs.Tight.{IsEncodable, tight_message}
use Rattle.wire_model.specs.Trees.{Tree, Trees, Items, Pairs, Fields, Member, none, more, count}
use Rattle.wire_model.specs.declared.target.MessageSide.{MessageSide}
use Rattle.wire_laws.specs.Grown.{grown_parameters}
use Rattle.compat_model.specs.Verdicts.{is_stable}

-- ## Values that go on: of the first nothing is lost in the second, and the list of each struct may go on

abbrev mutual
  -- arrays and maps have as many elements, unions the same tag, and what has nothing inside is equal
  pub GoesOn : Tree → Tree → Type 0
  GoesOn (Items ts) (Items us) = GoOn ts us × (count us ≡ count ts)
  GoesOn (Pairs ts) (Pairs us) = GoOn ts us × (count us ≡ count ts)
  GoesOn (Fields ts) (Fields us) = GoOn ts us
  GoesOn (Member tag t) (Member other u) = (tag ≡ other) × GoesOn t u
  GoesOn t u = t ≡ u

  -- the second list begins with what the values of the first go on as, each in its place
  pub GoOn : Trees → Trees → Type 0
  GoOn none us = Unit {0}
  GoOn (more t ts) none = ⊥
  GoOn (more t ts) (more u us) = GoesOn t u × GoOn ts us

-- ## Messages

-- parameters of a method of an interface that can be written with this head, by the struct of this number
pub record IsWritten (old : Schema) (interface : ℕ) (side : MessageSide) (head : Head) (number : ℕ) (ts : Trees) (handle_count : ℕ) : Type 0 where
  pub method : MethodRow
  pub named : method_in old.interfaces interface head.name ≡ Some method
  pub struct : struct_of side method ≡ Some number
  pub flags : head.flags ≡ flags_of side method.response
  pub room : IsHead head
  pub encodable : IsEncodable old number ts handle_count (length head.ids)

-- the message stands at an interface for its method, for what its head says, and for what its parameters grow to, of which none is lost; the
-- request id is 0 where the message neither wants a response nor is one
pub record IsRead (new : Schema) (interface : ℕ) (side : MessageSide) (head : Head) (bytes : List ℕ) (ts : Trees) (handle_count : ℕ) : Type 0 where
  pub method : MethodRow
  pub named : method_in new.interfaces interface head.name ≡ Some method
  pub number : ℕ
  pub struct : struct_of side method ≡ Some number
  pub stands : Stands new (record { interface = interface; side = side }) bytes handle_count
  pub ids : ids_read bytes ≡ head.ids
  pub means : message_value new bytes number ≡ record {
    method = head.name;
    request = written_request (is_plain head.flags) head.request;
    moment = head.moment;
    value = Fields (grown_parameters new number ts);
  }
  pub kept : GoOn ts (grown_parameters new number ts)

-- the newer schema has the interface by its full name, and reads there each message that the older one writes
pub record ReadsAll (old new : Schema) (interface : ℕ) (row : InterfaceRow) : Type 0 where
  pub partner : ℕ
  pub named : interface_named new.interfaces row.name ≡ Some partner
  pub reads : (side : MessageSide) (head : Head) (number : ℕ) (ts : Trees) (handle_count : ℕ)
      → IsWritten old interface side head number ts handle_count → IsRead new partner side head (tight_message old number ts head) ts handle_count

-- it does so for each stable interface
abbrev pub ReadsStable : Schema → Schema → Type 0
ReadsStable old new =
    (interface : ℕ) (row : InterfaceRow) → slice_get old.interfaces interface ≡ Some row → row.stable ≡ true → ReadsAll old new interface row

-- no struct of a method is stable by itself, as files can't say so of one
abbrev pub AreUnmarked : Schema → Type 0
AreUnmarked schema =
    (number : ℕ) → list_any (λ (other : ℕ). other == number) (structs_of_methods schema.interfaces) ≡ true → is_stable schema Struct number ≡ false
