-- The laws of the whole text.
use Rattle.std.proofs.Common.{◌≡◌, ℕ, ◌+◌, ◌^◌, ◌<◌, ◌==◌, List, [], ◌∷◌, Bool, true, false, inl, inr, refl, sym, ap, ◌∙◌, arith}
use Rattle.std.specs.Prelude.{codes, decimal, nat_lt}
use Rattle.std.specs.List.{list_all}
use Rattle.std.proofs.lemmas.Bool.Decides.{nat_tests}
use Rattle.mj_schema.specs.declared.schema.Schema.{Schema}
use Rattle.handle_table.specs.declared.thing.Thing.{Thing}
use Rattle.bind_model.specs.declared.event.Event.{Event}
use Rattle.byte_rules.specs.Among.{IsAmong}
use Rattle.byte_rules.proofs.Among.{good_among}
use Rattle.byte_rules.proofs.Good.{Good, Apart, nothing, with_starts, good_value, good_closed, good_never, good_then, good_before, good_many, good_wider}
use Rattle.value_text.specs.Numbers.{is_digit}
use Rattle.value_text.proofs.NumberLaws.{numeral}
use Rattle.history_text.specs.declared.notes.Note.{Note}
use Rattle.line_parts.specs.Signs.{blank, line_end, letter_c, letter_d, letter_l}
use Rattle.line_parts.specs.Keywords.{word}
use Rattle.line_parts.specs.Names.{names_of}
use Rattle.history_reader.specs.Whole.{event_of, number_if, event_number, event_line, left_line, done_after, tail, begins_tail, printed_of, history_with}
use Rattle.history_reader.specs.Whole.{begins_behind, behind, history}
use Rattle.history_reader.specs.Notes.{note_line}
use Rattle.line_parts.specs.declared.names.Names.{Names}
use Rattle.line_parts.proofs.KeywordLaws.{is_letter, good_keyword, apart_blank}
use Rattle.line_parts.proofs.SeriesLaws.{good_series}
use Rattle.line_parts.proofs.IdLaws.{good_wide, good_sequence, blank_no_digit, line_no_digit, good_thing}
use Rattle.line_parts.proofs.NameLaws.{AreWords, words_of}
use Rattle.history_reader.proofs.CommandLaws.{good_asked}
use Rattle.history_reader.proofs.ReplyLaws.{good_told}
use Rattle.history_reader.proofs.NoteLaws.{good_note_line}

-- the number of an event is digits
good_decimal : (k : ℕ) → k < 2 ^ 64 → Good is_digit is_digit (word (decimal k))
good_decimal k small = good_value (λ (entry : Unit {0} × List ℕ). entry.0)
    (good_among is_digit is_digit (tt, decimal k) (λ (entry : Unit {0} × List ℕ). entry.1) ((tt, decimal k) ∷ []) (record {
      one = λ x y i j e. single x i ∙ sym (single y j);
      first = first;
    }))
  where
    single : (x : Unit {0} × List ℕ) → IsAmong x ((tt, decimal k) ∷ []) → x ≡ (tt, decimal k)
    single x (inl e) = e
    single x (inr i) = absurd i

    first : (x : Unit {0} × List ℕ) → IsAmong x ((tt, decimal k) ∷ [])
        → (b : ℕ) × (bs : List ℕ) × (x.1 ≡ b ∷ bs) × (is_digit b ≡ true) × (list_all is_digit bs ≡ true)
    first x i = let n = numeral k small in (n.first, n.others, ap (λ (e : Unit {0} × List ℕ). e.1) (single x i) ∙ n.is, n.digit, n.rest)

good_number_if : (v : Bool) (k : ℕ) → nat_lt k (2 ^ 64) ≡ v → Good is_digit is_digit (number_if v k)
good_number_if true k e = good_decimal k (grind (arith, nat_tests))
good_number_if false k e = good_wider is_digit is_digit (good_never tt) (λ b e. absurd (cc)) (λ b e. refl)

good_event_number : (k : ℕ) → Good is_digit is_digit (event_number k)
unfolding event_number
good_event_number k = good_number_if (nat_lt k (2 ^ 64)) k refl

pub good_event_line : (schema : Schema) (names : Names) → AreWords names → (k : ℕ) → Good is_digit nothing (event_line schema names k)
unfolding event_line
good_event_line schema names w k = good_then _ (good_event_number k) (λ u. good_before blank (good_then _ good_sequence (λ seq. good_before blank
    (good_then _ (good_asked schema names w) (λ a. good_value (event_of seq a) (good_told schema names w)) (λ b e. refl))) blank_no_digit)) blank_no_digit

good_left_line : Good (λ b. b == letter_l) nothing left_line
unfolding left_line
good_left_line = good_then _ (good_keyword (λ b. b == letter_l) (tt, codes "left") [] refl refl)
    (λ u. good_before blank (good_then _ good_thing (λ x. good_closed line_end x) line_no_digit)) apart_blank

good_done_after : (left : List Thing) → Good is_letter nothing (done_after left)
good_done_after left = good_then _ (good_keyword is_letter (tt, codes "one") [] refl refl)
    (λ u. good_before blank (good_then _ good_wide (λ count. good_closed line_end (left, count)) line_no_digit)) apart_blank

l_no_d : Apart (λ b. b == letter_l) (λ b. b == letter_d)
l_no_d b e = grind (arith, nat_tests)

in_tail : (b : ℕ) → with_starts (λ b. b == letter_d) (λ b. b == letter_l) b ≡ true → begins_tail b ≡ true
in_tail b e = grind (arith, nat_tests)

good_tail : Good begins_tail nothing tail
unfolding tail
good_tail = good_wider begins_tail nothing
    (good_then _ (good_many letter_d good_left_line l_no_d (λ b e. refl) (λ b e. refl)) good_done_after (λ b e. refl)) in_tail (λ b e. refl)

c_no_tail : Apart (λ b. b == letter_c) begins_tail
c_no_tail b e = grind (arith, nat_tests)

in_behind : (b : ℕ) → with_starts begins_tail (λ b. b == letter_c) b ≡ true → begins_behind b ≡ true
in_behind b e = grind (arith, nat_tests)

good_behind : Good begins_behind nothing behind
unfolding behind
good_behind = good_wider begins_behind nothing
    (good_series begins_tail (λ b. b == letter_c) nothing nothing (λ (u : Unit {0}). note_line) (λ (u : Unit {0}) (note : Note). u) tail
    (λ u. good_note_line) good_tail c_no_tail (λ b e. refl) tt) in_behind (λ b e. refl)

digit_no_behind : Apart is_digit begins_behind
digit_no_behind b e = grind (arith, nat_tests)

-- what a history begins with, or what stands behind its events
abbrev pub history_starts : ℕ → Bool
history_starts = with_starts begins_behind is_digit

good_history_with : (schema : Schema) (names : Names) → AreWords names → Good history_starts nothing (history_with schema names)
unfolding history_with
good_history_with schema names w = good_value printed_of
    (good_series begins_behind is_digit nothing nothing _ (λ (k : ℕ) (event : Event). k + 1) _ (good_event_line schema names w) good_behind digit_no_behind
    (λ b e. refl) 0)

pub good_history : (schema : Schema) → Good history_starts nothing (history schema)
good_history schema = good_history_with schema (names_of schema) (words_of schema)
