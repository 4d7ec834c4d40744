-- A text is a number of messages exactly where it is the decimal digits of a number from 1 to 1,000,000.
use Rattle.std.proofs.Common.{Bool, true, false, List, ℕ, Option, Some, None, ◌≡◌, ◌≤◌, ◌&&◌, ◌∙◌, refl, subst, ap, arith, le-leb, leb-true}
use Rattle.std.specs.Prelude.{nat_le, option_and_then, if◌then◌else◌}
use Rattle.std.specs.Fmt.{decimal}
use Rattle.std.proofs.lemmas.Option.{none-some, same_Some}
use Rattle.command_line.specs.Asked.{in_load, messages_of, order_of}
use Rattle.command_line.proofs.Orders.{order_only, taken_order}

pub taken_messages : (n : ℕ) → 1 ≤ n → n ≤ 1000000 → messages_of (decimal n) ≡ Some n
taken_messages n one few =
    ap (option_and_then in_load) (taken_order n (omega (arith, few)))
    ∙ rw (le-leb 1 n one, le-leb n 1000000 few) refl

in_only : (k n : ℕ) (low high : Bool) → nat_le 1 k ≡ low → nat_le k 1000000 ≡ high → (if low && high then Some k else None) ≡ Some n
    → (k ≡ n) × (1 ≤ k) × (k ≤ 1000000)
in_only k n true true e f is = (same_Some k n is, leb-true 1 k e, leb-true k 1000000 f)
in_only k n true false e f is = absurd (none-some n is)
in_only k n false high e f is = absurd (none-some n is)

pub messages_only : (text : List ℕ) (n : ℕ) → messages_of text ≡ Some n → (text ≡ decimal n) × (1 ≤ n) × (n ≤ 1000000)
messages_only text n is = by (order_of text) refl is
  where
    by : (o : Option ℕ) → order_of text ≡ o → option_and_then in_load o ≡ Some n → (text ≡ decimal n) × (1 ≤ n) × (n ≤ 1000000)
    by None e f = absurd (none-some n f)
    by (Some k) e f =
        let only = in_only k n _ _ refl refl f in (
          (order_only text k e).0 ∙ ap decimal only.0,
          subst (λ (m : ℕ). 1 ≤ m) only.0 only.1,
          subst (λ (m : ℕ). m ≤ 1000000) only.0 only.2,
        )
