-- Readable marks as a test, which a type can hold.
use Rattle.std.specs.Prelude.{ℕ, ◌+◌, Bool, true, ◌&&◌, nat_le, List, [], ◌∷◌}
use Rattle.wire_model.specs.Marks.{Mark, Test, Object, Handle, Id}

-- tests hold, and objects end within so many bytes
abbrev pub are_readable : ℕ → List Mark → Bool
are_readable n [] = true
are_readable n (Test holds kind at ∷ ms) = holds && are_readable n ms
are_readable n (Object start size extra fine header ∷ ms) = nat_le (8 + extra) size && (nat_le (start + size) n && are_readable n ms)
are_readable n (Handle index at ∷ ms) = are_readable n ms
are_readable n (Id index at ∷ ms) = are_readable n ms
