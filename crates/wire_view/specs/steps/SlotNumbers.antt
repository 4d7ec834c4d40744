-- The number that lies in a slot, by the kind of the slot alone.
use Rattle.std.specs.Prelude.{ℕ, ℤ, pos, List, Option, Some, None, ◌==◌, if◌then◌else◌}
use Rattle.std.specs.Int.{cast_signed, w32}
use Rattle.mj_base.specs.Bytes.{number32}
use Rattle.mj_schema.specs.KindTrees as kinds
use Rattle.mj_schema.specs.KindTrees.{KindTree}
use Rattle.wire_model.specs.Bytes.{bit_at}
use Rattle.wire_model.specs.Cells.{NO_INDEX}
use Rattle.wire_model.specs.Values.{whole_at}
use Rattle.wire_view.specs.Parts.{flag_number}

-- the number of an index, where there is one
abbrev pub index_number : ℕ → Option ℤ
index_number index = if index == NO_INDEX then None else Some (pos index)

-- what no pointer leads to is read at its place
abbrev pub number_at : List ℕ → ℕ → ℕ → KindTree → Option ℤ
number_at bytes p bit (kinds.BoolKind nullable) = Some (flag_number (bit_at bytes p bit))
number_at bytes p bit (kinds.IntKind width signed nullable) = Some (whole_at width signed bytes p)
number_at bytes p bit (kinds.EnumKind number nullable) = Some (cast_signed w32 (number32 bytes p))
number_at bytes p bit (kinds.HandleKind sort nullable) = index_number (number32 bytes p)
number_at bytes p bit (kinds.ReceiverKind interface nullable) = index_number (number32 bytes p)
number_at bytes p bit (kinds.RemoteKind interface nullable) = index_number (number32 bytes p)
number_at bytes p bit (kinds.AssociatedReceiverKind interface nullable) = index_number (number32 bytes p)
number_at bytes p bit (kinds.AssociatedRemoteKind interface nullable) = index_number (number32 bytes p)
number_at bytes p bit k = None
