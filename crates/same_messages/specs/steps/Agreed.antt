-- Lists of numbers that are the same at some places.
use Rattle.std.specs.Prelude.{◌≡◌, ℕ, ◌+◌, ◌/◌, ◌<◌, ◌≤◌, List, [], ◌∷◌, length, Option, Some, None, slice_index}
use Rattle.mj_schema.specs.Versions.{bytes_of}
use Rattle.wire_model.specs.Marks.{Mark}
use Rattle.wire_model.specs.Slots.{Slot}
use Rattle.wire_model.specs.Stands.{Extent, objects}
use Rattle.same_messages.specs.Agree.{AgreeIn}

-- in n bytes from a place on
abbrev pub AreSame : List ℕ → List ℕ → ℕ → ℕ → Type 0
AreSame bytes other a n = (at : ℕ) → a ≤ at → at < a + n → slice_index other at ≡ slice_index bytes at

-- in the byte of a flag, where there is one
abbrev pub IsSameFlag : List ℕ → List ℕ → ℕ → Option ℕ → Type 0
IsSameFlag bytes other base None = Unit {0}
IsSameFlag bytes other base (Some flag) = AreSame bytes other (base + flag / 8) 1

-- in each slot of an object whose two numbers end at base
abbrev pub AreSameSlots : List ℕ → List ℕ → ℕ → List Slot → Type 0
AreSameSlots bytes other base [] = Unit {0}
AreSameSlots bytes other base (s ∷ ss) =
    IsSameFlag bytes other base s.flag × (AreSame bytes other (base + s.place / 8) (bytes_of s.kind) × AreSameSlots bytes other base ss)

-- in each of some extents
abbrev pub AreSameIn : List ℕ → List ℕ → List Extent → Type 0
AreSameIn bytes other [] = Unit {0}
AreSameIn bytes other (e ∷ es) = AgreeIn bytes other e × AreSameIn bytes other es

-- and these lie within the first
abbrev pub AreSameWithin : List ℕ → List ℕ → List Extent → Type 0
AreSameWithin bytes other [] = Unit {0}
AreSameWithin bytes other (e ∷ es) = (AgreeIn bytes other e × (e.start + e.size ≤ length bytes)) × AreSameWithin bytes other es

-- in each object that marks claim
abbrev pub Agreed : List ℕ → List ℕ → List Mark → Type 0
Agreed bytes other ms = AreSameWithin bytes other (objects ms)
