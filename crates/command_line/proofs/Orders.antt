-- A text is an order exactly where it is the decimal digits of a number of 64 bits, and so it is read.
use Rattle.std.proofs.Common.{Bool, true, false, List, ℕ, Option, Some, None, ◌≡◌, ◌<◌, ◌^◌, ◌&&◌, ◌∙◌, refl, sym, subst, ap, lt-ltb, ltb-true}
use Rattle.std.specs.Prelude.{Result, Ok, nat_lt, if◌then◌else◌}
use Rattle.std.specs.Result.{result_unwrap_or}
use Rattle.std.specs.Borrow.{Bor}
use Rattle.std.specs.Fmt.{decimal}
use Rattle.std.specs.Option.{option_map, option_map_or}
use Rattle.std.specs.Str.{bytes_eq}
use Rattle.std.specs.Str.Parse.{ParsesUnsigned, digits_value}
use Rattle.std.proofs.lemmas.Fmt.{decimal_is_IsNumeral, parse-decimal}
use Rattle.std.proofs.lemmas.Option.{none-some, same_Some}
use Rattle.std.proofs.lemmas.Slice.Eq.{bytes_eq-Decides}
use Rattle.command_line.specs.Asked.{order_of}

-- a number, where its digits are the text and it has 64 bits
abbrev checked : List ℕ → ℕ → Option ℕ
checked text n = if bytes_eq (decimal n) text && nat_lt n (2 ^ 64) then Some n else None

pub taken_order : (n : ℕ) → n < 2 ^ 64 → order_of (decimal n) ≡ Some n
taken_order n small =
    subst (λ (m : ℕ). checked (decimal n) m ≡ Some n) (sym (decimal_is_IsNumeral n small).1)
    (rw ((bytes_eq-Decides (decimal n) (decimal n)).1 refl, lt-ltb n (2 ^ 64) small) refl)

checked_only : (text : List ℕ) (m n : ℕ) (same small : Bool) → bytes_eq (decimal m) text ≡ same → nat_lt m (2 ^ 64) ≡ small
    → (if same && small then Some m else None) ≡ Some n → (text ≡ decimal n) × (n < 2 ^ 64)
checked_only text m n true true e f is =
    let equal : m ≡ n = same_Some m n is in
    (sym ((bytes_eq-Decides (decimal m) text).0 e) ∙ ap decimal equal, subst (λ (k : ℕ). k < 2 ^ 64) equal (ltb-true m (2 ^ 64) f))
checked_only text m n true false e f is = absurd (none-some n is)
checked_only text m n false small e f is = absurd (none-some n is)

pub order_only : (text : List ℕ) (n : ℕ) → order_of text ≡ Some n → (text ≡ decimal n) × (n < 2 ^ 64)
order_only text n is = checked_only text (digits_value 10 text) n _ _ refl refl is

-- what is parsed is the order where its digits are the text
pub order_is : (text : List ℕ) (n : ℕ) → n < 2 ^ 64 → decimal n ≡ text → Some n ≡ order_of text
order_is text n small same = subst (λ (t : List ℕ). Some n ≡ order_of t) same (sym (taken_order n small))

-- and else there is none
pub no_order : {E : Type 0} (text : List ℕ) (r : Result ℕ E) → ParsesUnsigned 64 10 text r → (decimal (result_unwrap_or r 0) ≡ text → ⊥)
    → None ≡ order_of text
no_order {E} text r parsed other = by (order_of text) refl
  where
    by : (found : Option ℕ) → order_of text ≡ found → None ≡ found
    by None e = refl
    by (Some n) e =
        let only = order_only text n e in
        let read : r ≡ Ok n = parse-decimal 64 n text r only.1 only.1 only.0 parsed in
        absurd (other (ap (λ (q : Result ℕ E). decimal (result_unwrap_or q 0)) read ∙ sym only.0))

-- what a text says, where one is given
abbrev said : Option (Bor (List ℕ)) → Option (List ℕ)
said = option_map (λ (text : Bor (List ℕ)). text.now)

-- the order that it says, 0 where none is given
abbrev order_said : Option (List ℕ) → Option ℕ
order_said first = option_map_or order_of first (Some 0)

pub none_given : (given : Option (Bor (List ℕ))) (first : Option (List ℕ)) → said given ≡ first → given ≡ None → Some 0 ≡ order_said first
none_given given first e is = ap order_said (sym (ap said is) ∙ e)

pub one_given : (given : Option (Bor (List ℕ))) (first : Option (List ℕ)) (text : Bor (List ℕ)) (order : Option ℕ) → said given ≡ first
    → given ≡ Some text → order ≡ order_of text.now → order ≡ order_said first
one_given given first text order e is read = read ∙ ap order_said (sym (ap said is) ∙ e)
