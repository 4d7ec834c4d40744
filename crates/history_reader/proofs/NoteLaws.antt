-- The laws of the lines of callbacks.
use Rattle.std.proofs.Common.{◌==◌, [], ◌∷◌, refl, arith}
use Rattle.std.specs.Prelude.{codes}
use Rattle.std.proofs.lemmas.Bool.Decides.{nat_tests}
use Rattle.history_text.specs.declared.notes.Fate.TheVariants.{Ran, Dropped}
use Rattle.byte_rules.proofs.Good.{Good, Apart, nothing, good_closed, good_then, good_before}
use Rattle.line_parts.specs.Signs.{blank, line_end, letter_c}
use Rattle.history_reader.specs.Notes.{fate, note_of, note_line}
use Rattle.line_parts.proofs.KeywordLaws.{is_letter, good_keyword, apart_blank}
use Rattle.line_parts.proofs.IdLaws.{good_wide, good_sequence, good_endpoint, blank_no_digit}

good_fate : Good is_letter is_letter fate
unfolding fate
good_fate = good_keyword is_letter (Ran, codes "ran") ((Dropped, codes "dropped") ∷ []) refl refl

line_no_letter : Apart (λ b. b == line_end) is_letter
line_no_letter b e = grind (arith, nat_tests)

pub good_note_line : Good (λ b. b == letter_c) nothing note_line
unfolding note_line
good_note_line = good_then _ (good_keyword (λ b. b == letter_c) (tt, codes "callback") [] refl refl)
    (λ u. good_before blank (good_then _ good_sequence (λ seq. good_before blank (good_then _ good_endpoint (λ p. good_before blank
    (good_then _ good_wide (λ request. good_before blank (good_then _ good_fate (λ became. good_closed line_end (note_of seq p request became)) line_no_letter))
    blank_no_digit)) blank_no_digit)) blank_no_digit)) apart_blank
