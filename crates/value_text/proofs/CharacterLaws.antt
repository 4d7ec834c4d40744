-- The laws of texts.
use Rattle.std.proofs.Common.{◌≡◌, ℕ, ◌+◌, ◌-◌, ◌*◌, [], ◌∷◌, Err, Bool, true, ◌==◌, ◌&&◌, refl, arith}
use Rattle.std.specs.Prelude.{nat_le}
use Rattle.std.proofs.lemmas.Bool.Decides.{nat_tests}
use Rattle.byte_rules.proofs.Good.{Good, Apart, nothing, with_starts, good_byte, good_value, good_closed, good_then, good_before, good_choice, good_many}
use Rattle.byte_rules.proofs.Good.{good_wider}
use Rattle.value_text.specs.Characters.{is_hex, hex_value, low_pair, escape, is_plain, leads_two, leads_three, leads_four, goes_on, second_of, two_bytes}
use Rattle.value_text.specs.Characters.{three_bytes, four_bytes, character, all_of, text}

apart_nothing : (S : ℕ → Bool) → Apart S nothing
apart_nothing S b e = refl

good_low_pair : Good (λ b. nat_le 48 b && nat_le b 49) nothing low_pair
good_low_pair = good_then _ (good_byte (λ b. nat_le 48 b && nat_le b 49)) (λ a. good_value (λ b. (16 * (a - 48) + hex_value b) ∷ []) (good_byte is_hex))
    (apart_nothing is_hex)

apart_one : Apart (λ b. b == 120) (λ b. b == 92)
apart_one b e = grind (arith, nat_tests)

apart_two : Apart (with_starts (λ b. b == 92) (λ b. b == 120)) (λ b. b == 34)
apart_two b e = grind (arith, nat_tests)

good_escape : Good (with_starts (λ b. b == 34) (with_starts (λ b. b == 92) (λ b. b == 120))) nothing escape
unfolding escape
good_escape = good_choice (good_closed 34 (34 ∷ [])) (good_choice (good_closed 92 (92 ∷ [])) (good_before 120 good_low_pair) apart_one) apart_two

good_two : Good leads_two nothing two_bytes
unfolding two_bytes
good_two = good_then _ (good_byte leads_two) (λ a. good_value (λ b. a ∷ b ∷ []) (good_byte goes_on)) (apart_nothing goes_on)

-- what comes second, whatever came first
abbrev any_byte : ℕ → Bool
any_byte b = true

good_three : Good leads_three nothing three_bytes
unfolding three_bytes
good_three = good_then _ (good_byte leads_three)
    (λ a. good_wider any_byte nothing
    (good_then _ (good_byte (second_of a)) (λ b. good_value (λ c. a ∷ b ∷ c ∷ []) (good_byte goes_on)) (apart_nothing goes_on)) (λ b e. refl)
    (λ b e. refl)) (apart_nothing any_byte)

good_four : Good leads_four nothing four_bytes
unfolding four_bytes
good_four = good_then _ (good_byte leads_four)
    (λ a. good_wider any_byte nothing
    (good_then _ (good_byte (second_of a))
    (λ b. good_then _ (good_byte goes_on) (λ c. good_value (λ d. a ∷ b ∷ c ∷ d ∷ []) (good_byte goes_on)) (apart_nothing goes_on)) (apart_nothing goes_on))
    (λ b e. refl) (λ b e. refl)) (apart_nothing any_byte)

apart_four : Apart leads_four leads_three
apart_four b e = grind (arith, nat_tests)

apart_three : Apart (with_starts leads_three leads_four) leads_two
apart_three b e = grind (arith, nat_tests)

apart_plain : Apart (with_starts leads_two (with_starts leads_three leads_four)) is_plain
apart_plain b e = grind (arith, nat_tests)

apart_escape : Apart (with_starts is_plain (with_starts leads_two (with_starts leads_three leads_four))) (λ b. b == 92)
apart_escape b e = grind (arith, nat_tests)

abbrev character_starts : ℕ → Bool
character_starts = with_starts (λ b. b == 92) (with_starts is_plain (with_starts leads_two (with_starts leads_three leads_four)))

good_character : Good character_starts nothing character
unfolding character
good_character = good_choice (good_before 92 good_escape)
    (good_choice (good_value (λ b. b ∷ []) (good_byte is_plain))
    (good_choice good_two (good_choice good_three good_four apart_four) apart_three) apart_plain) apart_escape

apart_quote : Apart character_starts (λ b. b == 34)
apart_quote b e = grind (arith, nat_tests)

pub good_text : Good (λ b. b == 34) nothing text
unfolding text
good_text = good_before 34 (good_value all_of (good_many 34 good_character apart_quote (λ b e. refl) (apart_nothing character_starts)))

pub no_character : character.read [] ≡ Err 0
unfolding character four_bytes
no_character = refl
