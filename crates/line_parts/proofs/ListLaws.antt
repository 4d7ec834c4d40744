-- The laws of how lists, and bytes in hexadecimal, stand in a line.
use Rattle.std.proofs.Common.{◌≡◌, ℕ, List, [], ◌∷◌, ◌+◌, ◌*◌, ◌==◌, Bool, true, false, refl, arith}
use Rattle.std.proofs.lemmas.Bool.Decides.{nat_tests}
use Rattle.byte_rules.proofs.Good.{Good, Apart, nothing, with_starts, good_byte, good_value, good_closed, good_then, good_before, good_choice, good_many}
use Rattle.byte_rules.proofs.Good.{good_listed, good_wider}
use Rattle.value_text.specs.Numbers.{is_digit}
use Rattle.value_text.specs.Characters.{is_hex, hex_value}
use Rattle.line_parts.specs.Signs.{line_end, blank, comma, dash, opens, closes, letter_p}
use Rattle.line_parts.specs.Lists.{things, pendings, is_pending, item, more_items, tokens, pair, hex}
use Rattle.line_parts.specs.declared.items.Item.{Item}
use Rattle.line_parts.specs.declared.items.Item.TheVariants.{Handle, Pending}
use Rattle.line_parts.proofs.IdLaws.{thing_starts, good_thing, good_pending}
use Rattle.line_parts.proofs.SeriesLaws.{good_series}

thing_no_close : Apart thing_starts (λ b. b == closes)
thing_no_close b e = grind (arith, nat_tests)

p_no_close : Apart (λ b. b == letter_p) (λ b. b == closes)
p_no_close b e = grind (arith, nat_tests)

close_no_digit : (b : ℕ) → (b == closes) ≡ true → is_digit b ≡ false
close_no_digit b e = grind (arith, nat_tests)

pub good_things : Good (λ b. b == opens) nothing things
unfolding things
good_things = good_before opens (good_listed closes good_thing thing_no_close close_no_digit refl refl)

pub good_pendings : Good (λ b. b == opens) nothing pendings
unfolding pendings
good_pendings = good_before opens (good_listed closes good_pending p_no_close close_no_digit refl refl)

-- handles and then pending endpoints
abbrev item_starts : ℕ → Bool
item_starts = with_starts (λ b. b == letter_p) thing_starts

thing_no_p : Apart thing_starts (λ b. b == letter_p)
thing_no_p b e = grind (arith, nat_tests)

p_is_item : (b : ℕ) → (b == letter_p) ≡ true → item_starts b ≡ true
p_is_item b e = rw e refl

good_item : (seen : Bool) → Good item_starts is_digit (item seen)
unfolding item
good_item true = good_wider item_starts is_digit (good_value Pending good_pending) p_is_item (λ b e. e)
good_item false = good_choice (good_value Pending good_pending) (good_value Handle good_thing) thing_no_p

-- what may follow an item: the bracket or a comma
abbrev more_starts : ℕ → Bool
more_starts = with_starts (λ b. b == closes) (λ b. b == comma)

comma_no_close : Apart (λ b. b == comma) (λ b. b == closes)
comma_no_close b e = grind (arith, nat_tests)

more_no_digit : Apart more_starts is_digit
more_no_digit b e = grind (arith, nat_tests)

item_no_close : Apart item_starts (λ b. b == closes)
item_no_close b e = grind (arith, nat_tests)

good_more_items : (seen : Bool) → Good more_starts nothing (more_items seen)
good_more_items seen = good_series (λ b. b == closes) (λ b. b == comma) is_digit nothing _ (λ (seen : Bool) (x : Item). is_pending x) _
    (λ seen. good_before comma (good_item seen)) (good_closed closes tt) comma_no_close more_no_digit seen

pub good_tokens : Good (λ b. b == opens) nothing tokens
unfolding tokens
good_tokens = good_before opens (good_choice (good_closed closes ([], []))
    (good_then _ (good_item false) (λ x. good_value _ (good_more_items (is_pending x))) more_no_digit) item_no_close)

-- bytes
good_pair : Good is_hex nothing pair
unfolding pair
good_pair = good_then _ (good_byte is_hex) (λ high. good_value (λ (low : ℕ). 16 * hex_value high + hex_value low) (good_byte is_hex)) (λ b e. refl)

hex_no_dash : Apart is_hex (λ b. b == dash)
hex_no_dash b e = grind (arith, nat_tests)

-- what bytes begin with: a dash or a digit
abbrev pub hex_starts : ℕ → Bool
hex_starts = with_starts (λ b. b == dash) is_hex

good_hex : (c : ℕ) → Apart is_hex (λ b. b == c) → Good hex_starts nothing (hex c)
unfolding hex
good_hex c apart = good_choice (good_before dash (good_closed c []))
    (good_then _ good_pair (λ b. good_value (λ (bs : List ℕ). b ∷ bs) (good_many c good_pair apart (λ b e. refl) (λ b e. refl))) (λ b e. refl)) hex_no_dash

hex_no_blank : Apart is_hex (λ b. b == blank)
hex_no_blank b e = grind (arith, nat_tests)

hex_no_line : Apart is_hex (λ b. b == line_end)
hex_no_line b e = grind (arith, nat_tests)

pub good_hex_blank : Good hex_starts nothing (hex blank)
good_hex_blank = good_hex blank hex_no_blank

pub good_hex_line : Good hex_starts nothing (hex line_end)
good_hex_line = good_hex line_end hex_no_line
