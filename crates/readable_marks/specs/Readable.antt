-- Marks whose tests hold and whose objects lie within the bytes: what one who reads them needs.
use Rattle.std.specs.Prelude.{ℕ, ◌+◌, ◌≤◌, IsTrue, List, [], ◌∷◌}
use Rattle.wire_model.specs.Marks.{Mark, Test, Object, Handle, Id}

-- tests hold, and objects end within so many bytes
abbrev pub AreReadable : ℕ → List Mark → Type 0
AreReadable n [] = Unit {0}
AreReadable n (Test holds kind at ∷ ms) = IsTrue holds × AreReadable n ms
AreReadable n (Object start size extra fine header ∷ ms) = (8 + extra ≤ size) × ((start + size ≤ n) × AreReadable n ms)
AreReadable n (Handle index at ∷ ms) = AreReadable n ms
AreReadable n (Id index at ∷ ms) = AreReadable n ms
