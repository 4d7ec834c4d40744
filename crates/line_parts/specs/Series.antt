-- One rule again and again, each time by what came before, and then another rule.
use Rattle.std.specs.Prelude.{ℕ, zero, suc, Bool, List, [], ◌∷◌, length}
use Rattle.byte_rules.specs.Lang.{Lang, as_value, choice, ◌then◌}

-- what was read, with one more in front
abbrev pub in_front : {A B : Type 0} → A → List A × B → List A × B
in_front x (xs, y) = (x ∷ xs, y)

-- at most n of one, and then last, whose first byte passes
unfoldable pub at_most : {S A B : Type 0} → (ℕ → Bool) → (S → Lang A) → (S → A → S) → Lang B → ℕ → S → Lang (List A × B)
at_most ends one next last zero s = as_value (λ y. ([], y)) last
at_most ends one next last (suc n) s = choice ends (as_value (λ y. ([], y)) last)
    (one s then λ x. as_value (in_front x) (at_most ends one next last n (next s x)))

-- however many of one, and then last
abbrev pub series : {S A B : Type 0} → (ℕ → Bool) → (S → Lang A) → (S → A → S) → Lang B → S → Lang (List A × B)
series ends one next last s = record {
  followed = λ m Rest bs. (n : ℕ) × (at_most ends one next last n s).followed m Rest bs;
  read = λ bs. (at_most ends one next last (length bs) s).read bs;
}
