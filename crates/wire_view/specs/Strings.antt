-- Strings where they lie.
use Rattle.std.specs.Prelude.{ℕ, List}
use Rattle.wire_view.specs.declared.texts.Utf8.{Utf8}

-- the bytes of a string
abbrev pub bytes_in : Utf8 → List ℕ
bytes_in text = text.bytes.now
