use Rattle.std.proofs.Common.{Bool, true, false, List, [], ℕ, Option, Some, None, ◌∷◌, ◌≡◌, ◌≤◌, ◌<◌, ◌&&◌, ◌∙◌, drop, refl, subst, sym, ap, arith, cond}
use Rattle.std.specs.Prelude.{Ok, if◌then◌else◌, nat_le}
use Rattle.std.specs.Fmt.{decimal}
use Rattle.std.specs.Str.{bytes_eq}
use Rattle.std.specs.Str.Parse.{IsNumeral, digits_value, without_leading_plus}
use Rattle.std.specs.Char.{digit_value}
use Rattle.std.proofs.lemmas.Bool.{le-leb, leb-true, ne_eqb}
use Rattle.std.proofs.lemmas.Fmt.{decimal_is_IsNumeral}
use Rattle.std.proofs.lemmas.Option.{none-some, same_Some}
use Rattle.std.proofs.lemmas.Slice.Eq.{bytes_eq-Decides}
use Rattle.clap.proofs.WalkLemmas.{byte_read}
use Rattle.clap.specs.Walk.{byte_or_zero}
use Rattle.command_line.proofs.law.handles_are_digits.Goals as goal

-- a numeral has no plus to leave out
plain : (text : List ℕ) → IsNumeral 10 text → without_leading_plus text ≡ text
plain [] h = refl
plain (c ∷ cs) h =
    ap (λ (b : Bool). drop (cond b 1 0) (c ∷ cs))
    (ne_eqb c 43 (λ e. let is_digit : digit_value 43 < 10 = subst (λ (x : ℕ). digit_value x < 10) e h.1.0 in omega arith))

-- the digits of a small number are read as that number
read_back : (n : ℕ) → n ≤ 64 → byte_or_zero (decimal n) ≡ n
read_back n h =
    let numeral = decimal_is_IsNumeral n (omega arith) in
    let small : digits_value 10 (decimal n) < 256 = subst (λ (m : ℕ). m < 256) (sym numeral.1) (omega arith) in
    let parsed = subst (λ (ds : List ℕ). (IsNumeral 10 ds × (digits_value 10 ds < 256)) × (n ≡ digits_value 10 ds))
    (sym (plain (decimal n) numeral.0)) ((numeral.0, small), sym numeral.1) in
    sym (byte_read {E = ℕ} (decimal n) (Ok n) parsed)

-- the number that was read, where its digits are the text and it is small enough
abbrev checked : List ℕ → ℕ → Option ℕ
checked text n = if bytes_eq (decimal n) text && nat_le n 64 then Some n else None

checked_only : (text : List ℕ) (m n : ℕ) (same small : Bool) → bytes_eq (decimal m) text ≡ same → nat_le m 64 ≡ small
    → (if same && small then Some m else None) ≡ Some n → (text ≡ decimal n) × (n ≤ 64)
checked_only text m n true true e f is =
    let equal : m ≡ n = same_Some m n is in
    (sym ((bytes_eq-Decides (decimal m) text).0 e) ∙ ap decimal equal, subst (λ (k : ℕ). k ≤ 64) equal (leb-true m 64 f))
checked_only text m n true false e f is = absurd (none-some n is)
checked_only text m n false small e f is = absurd (none-some n is)

pub returns : goal.returns
returns c = record {
  taken = λ n h. subst (λ (m : ℕ). checked (decimal n) m ≡ Some n) (sym (read_back n h))
      (rw ((bytes_eq-Decides (decimal n) (decimal n)).1 refl, le-leb n 64 h) refl);
  only = λ text n is. checked_only text (byte_or_zero text) n _ _ refl refl is;
}
