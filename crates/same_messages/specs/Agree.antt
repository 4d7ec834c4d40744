-- Messages that have the same bytes wherever one of them is read: in its header, in its ids, and in the objects that it claims.
use Rattle.std.specs.Prelude.{◌≡◌, ℕ, ◌+◌, ◌<◌, ◌≤◌, ◌==◌, nat_lt, if◌then◌else◌, List, [], ◌∷◌, ◌++◌, length, All, slice_index}
use Rattle.mj_base.specs.Bytes.{number32, number64}
use Rattle.mj_schema.specs.declared.schema.Schema.{Schema}
use Rattle.wire_model.specs.declared.target.Expected.{Expected}
use Rattle.wire_model.specs.Expected.{message_marks}
use Rattle.wire_model.specs.Stands.{Extent, objects}

-- the same bytes from the start of an extent to its end
abbrev pub AgreeIn : List ℕ → List ℕ → Extent → Type 0
AgreeIn bytes other extent = (at : ℕ) → extent.start ≤ at → at < extent.start + extent.size → slice_index other at ≡ slice_index bytes at

-- the header, as long as it says
abbrev pub header_extent : List ℕ → Extent
header_extent bytes = record { start = 0; size = number32 bytes 0 }

-- the array of ids, as long as it says; none below version 2, nor where its pointer is null
abbrev pub ids_extent : List ℕ → List Extent
ids_extent bytes =
    if nat_lt (number32 bytes 4) 2
    then []
    else (if number64 bytes 40 == 0 then [] else (record { start = 40 + number64 bytes 40; size = number32 bytes (40 + number64 bytes 40) } ∷ []))

-- where a message is read
abbrev pub read_extents : Schema → Expected → List ℕ → List Extent
read_extents schema expected bytes = header_extent bytes ∷ (ids_extent bytes ++ objects (message_marks schema expected bytes))

-- the other is at least as long, and has the same bytes wherever the first is read
pub record AgreesWhereRead (schema : Schema) (expected : Expected) (bytes other : List ℕ) : Type 0 where
  pub long : length bytes ≤ length other
  pub same : All (AgreeIn bytes other) (read_extents schema expected bytes)
