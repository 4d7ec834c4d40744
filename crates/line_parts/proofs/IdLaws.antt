-- The laws of how things and endpoints stand in a line.
use Rattle.std.proofs.Common.{ℕ, ◌-◌, ◌^◌, ◌==◌, Bool, arith}
use Rattle.std.proofs.lemmas.Bool.Decides.{nat_tests}
use Rattle.handle_table.specs.declared.thing.Thing.TheVariants.{End, Token}
use Rattle.byte_rules.proofs.Good.{Good, Apart, with_starts, good_value, good_then, good_before, good_choice}
use Rattle.value_text.specs.Numbers.{is_digit}
use Rattle.value_text.proofs.NumberLaws.{good_number}
use Rattle.value_text.proofs.ListedNumbers.{number_starts, good_integer, good_index}
use Rattle.line_parts.specs.Signs.{blank, line_end, dot, hash, at_sign, letter_e, letter_p, letter_r, letter_t}
use Rattle.line_parts.specs.Ids.{wide, moment, sequence, end_of, end, token_of, token, thing, endpoint, pending_of, pending, responder_of, responder}

pub good_wide : Good is_digit is_digit wide
good_wide = good_number 0 (2 ^ 64 - 1) (omega arith) (omega arith) (omega arith)

pub good_moment : Good number_starts is_digit moment
unfolding moment
good_moment = good_integer (2 ^ 63) (2 ^ 63 - 1) (omega arith) (omega arith) (omega arith)

pub good_sequence : Good is_digit is_digit sequence
good_sequence = good_value _ good_index

-- what stands behind a number
pub blank_no_digit : Apart (λ b. b == blank) is_digit
blank_no_digit b e = grind (arith, nat_tests)

pub line_no_digit : Apart (λ b. b == line_end) is_digit
line_no_digit b e = grind (arith, nat_tests)

dot_no_digit : Apart (λ b. b == dot) is_digit
dot_no_digit b e = grind (arith, nat_tests)

hash_no_digit : Apart (λ b. b == hash) is_digit
hash_no_digit b e = grind (arith, nat_tests)

at_no_digit : Apart (λ b. b == at_sign) is_digit
at_no_digit b e = grind (arith, nat_tests)

pub good_end : Good (λ b. b == letter_e) is_digit end
unfolding end
good_end = good_before letter_e (good_then _ good_index (λ seq. good_before dot (good_value (end_of seq) good_index)) dot_no_digit)

pub good_token : Good (λ b. b == letter_t) is_digit token
unfolding token
good_token = good_before letter_t (good_then _ good_index (λ seq. good_before dot (good_value (token_of seq) good_index)) dot_no_digit)

t_no_e : Apart (λ b. b == letter_t) (λ b. b == letter_e)
t_no_e b e = grind (arith, nat_tests)

-- what the name of a thing begins with
abbrev pub thing_starts : ℕ → Bool
thing_starts = with_starts (λ b. b == letter_e) (λ b. b == letter_t)

pub good_thing : Good thing_starts is_digit thing
unfolding thing
good_thing = good_choice (good_value End good_end) (good_value Token good_token) t_no_e

pub good_endpoint : Good (λ b. b == letter_e) is_digit endpoint
unfolding endpoint
good_endpoint = good_then _ good_end (λ x. good_before hash (good_value (λ (id : ℕ). (x, id)) good_index)) hash_no_digit

pub good_pending : Good (λ b. b == letter_p) is_digit pending
unfolding pending
good_pending = good_before letter_p (good_value pending_of good_endpoint)

pub good_responder : Good (λ b. b == letter_r) is_digit responder
unfolding responder
good_responder = good_before letter_r (good_then _ good_endpoint
    (λ p. good_before at_sign (good_then _ good_wide (λ request. good_before dot (good_value (responder_of p request) good_index)) dot_no_digit)) at_no_digit)
