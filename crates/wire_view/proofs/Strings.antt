-- Strings in UTF-8.
use Rattle.std.proofs.Common.{◌≡◌, ℕ, true, false, List, length}
use Rattle.std.specs.Prelude.{◌==◌}
use Rattle.std.specs.Str.{IsValidUpTo}
use Rattle.std.specs.Str.Lossy.{utf8_valid_len}
use Rattle.std.proofs.lemmas.Bool.Decides.{Decides-eqb}
use Rattle.wire_model.specs.Texts.{valid_len}
use Rattle.message_validator.proofs.Texts.{short}

-- a string in UTF-8 has no first byte that isn't
pub never : (text : List ℕ) (n : ℕ) → IsValidUpTo text n → n ≡ utf8_valid_len text → valid_len text ≡ length text → ⊥
never text n h e whole =
    let no : (valid_len text == length text) ≡ false = short text n h e in
    let is : (valid_len text == length text) ≡ true = (Decides-eqb _ _).1 whole in
    absurd cc
