-- The laws of how replies stand in a line.
use Rattle.std.proofs.Common.{◌≡◌, ℕ, ℤ, ◌==◌, List, [], ◌∷◌, Bool, true, false, Option, Some, None, refl, arith}
use Rattle.std.specs.Prelude.{codes}
use Rattle.std.proofs.lemmas.Bool.Decides.{nat_tests}
use Rattle.mj_schema.specs.declared.schema.Schema.{Schema}
use Rattle.wire_model.specs.Trees.{Tree}
use Rattle.wire_model.specs.declared.target.MessageSide.TheVariants.{Request, Response}
use Rattle.wire_model.specs.declared.target.Target.{Target}
use Rattle.bind_model.specs.declared.flow.Flowed.TheVariants as floweds
use Rattle.bind_model.specs.declared.told.BadWhy.TheVariants as bads
use Rattle.bind_model.specs.declared.told.Notified.TheVariants as notifieds
use Rattle.bind_model.specs.declared.told.Told.{Told}
use Rattle.bind_model.specs.declared.told.Told.TheVariants as tells
use Rattle.byte_rules.specs.Lang.{Lang, closed}
use Rattle.byte_rules.proofs.Good.{Good, Apart, nothing, with_starts, good_value, good_closed, good_then, good_before, good_choice, good_wider}
use Rattle.value_text.specs.Numbers.{is_digit}
use Rattle.value_text.proofs.ListedNumbers.{good_index}
use Rattle.line_parts.specs.Signs.{blank, line_end, dash, opens, letter_e, letter_t}
use Rattle.line_parts.specs.declared.names.Names.{Names}
use Rattle.line_parts.proofs.KeywordLaws.{is_letter, good_keyword, good_table, apart_blank, ends_word, apart_end}
use Rattle.line_parts.proofs.IdLaws.{good_wide, good_moment, good_sequence, blank_no_digit, line_no_digit, good_end, good_token, good_pending}
use Rattle.line_parts.proofs.ListLaws.{good_things, good_pendings, good_hex_line}
use Rattle.line_parts.proofs.NameLaws.{AreWords}
use Rattle.line_parts.proofs.MessageLaws.{good_message}
use Rattle.history_reader.specs.Reasons.{why_words, bad_words, line, part_after, why_after, refusal, fault_at, bad_after, bad}
use Rattle.history_reader.specs.Noted.{version_or_none, control, queried, version, required, flushed, noted_after, flushing, notified_after}
use Rattle.history_reader.specs.Flowed.{put_count, got_bytes, space, view, ended, flowed_after}
use Rattle.history_reader.specs.Replies.{reply_words, message_side, got_of, got_lists, got, got_at, made, bound, associated, attached, sent, wrote, dropped}
use Rattle.history_reader.specs.Replies.{bad_reply, gone_reply, told_after, told}
use Rattle.history_reader.specs.declared.flowed.FlowedWord.{FlowedWord}
use Rattle.history_reader.specs.declared.flowed.FlowedWord.TheVariants as moves
use Rattle.history_reader.specs.declared.noted.NotedWord.{NotedWord}
use Rattle.history_reader.specs.declared.noted.NotedWord.TheVariants as notes
use Rattle.history_reader.specs.declared.noted.NotifiedWord.{NotifiedWord}
use Rattle.history_reader.specs.declared.noted.NotifiedWord.TheVariants as notices
use Rattle.history_reader.specs.declared.reasons.BadWord.{BadWord}
use Rattle.history_reader.specs.declared.reasons.BadWord.TheVariants.{Fault, Unasked, StrangeId, TooOld}
use Rattle.history_reader.specs.declared.reasons.WhyPart.{WhyPart}
use Rattle.history_reader.specs.declared.reasons.WhyPart.TheVariants as parts
use Rattle.history_reader.specs.declared.reasons.WhyWord.{WhyWord}
use Rattle.history_reader.specs.declared.reasons.WhyWord.TheVariants.{Plain, Of}
use Rattle.history_reader.specs.declared.replies.ReplyWord.{ReplyWord}
use Rattle.history_reader.specs.declared.replies.ReplyWord.TheVariants as replies

-- one that may end in a digit, and the line's end; one that may not
on_line : {A : Type 0} {S : ℕ → Bool} {one : Lang A} (tell : A → Told) → Good S is_digit one → Good S nothing (line tell one)
on_line tell o = good_then _ o (λ x. good_closed line_end (tell x)) line_no_digit

in_line : {A : Type 0} {S : ℕ → Bool} {one : Lang A} (tell : A → Told) → Good S nothing one → Good S nothing (line tell one)
in_line tell o = good_then _ o (λ x. good_closed line_end (tell x)) (λ b e. refl)

-- behind the word of a reply a blank or the line's end stands
abbrev IsGood : Lang Told → Type 1
IsGood one = Good ends_word nothing one

blank_ends : (b : ℕ) → (b == blank) ≡ true → ends_word b ≡ true
blank_ends b e = rw e refl

line_ends : (b : ℕ) → (b == line_end) ≡ true → ends_word b ≡ true
line_ends b e = grind (arith, nat_tests)

on_blank : {one : Lang Told} → Good (λ b. b == blank) nothing one → IsGood one
on_blank o = good_wider ends_word nothing o blank_ends (λ b e. refl)

at_line : (what : Told) → IsGood (closed line_end what)
at_line what = good_wider ends_word nothing (good_closed line_end what) line_ends (λ b e. refl)

-- what stands behind the word of a refusal begins with a digit, or with the letter of a thing
abbrev part_starts : ℕ → Bool
part_starts = with_starts is_digit (with_starts (λ b. b == letter_e) (λ b. b == letter_t))

digit_part : (b : ℕ) → is_digit b ≡ true → part_starts b ≡ true
digit_part b e = rw e refl

end_part : (b : ℕ) → (b == letter_e) ≡ true → part_starts b ≡ true
end_part b e = grind (arith, nat_tests)

token_part : (b : ℕ) → (b == letter_t) ≡ true → part_starts b ≡ true
token_part b e = grind (arith, nat_tests)

number_part : {A : Type 0} {one : Lang A} (tell : A → Told) → Good is_digit is_digit one → Good part_starts nothing (line tell one)
number_part tell o = good_wider part_starts nothing (on_line tell o) digit_part (λ b e. refl)

good_part_after : (part : WhyPart) → Good part_starts nothing (part_after part)
unfolding part_after
good_part_after parts.Unbound = number_part _ good_index
good_part_after parts.Elsewhere = number_part _ good_sequence
good_part_after parts.WrongPipe = number_part _ good_index
good_part_after parts.Paused = good_wider part_starts nothing (on_line _ good_end) end_part (λ b e. refl)
good_part_after parts.BadSize = number_part _ good_index
good_part_after parts.Busy = good_wider part_starts nothing (on_line _ good_token) token_part (λ b e. refl)
good_part_after parts.Short = number_part _ good_index

good_why_after : (word : WhyWord) → IsGood (why_after word)
unfolding why_after
good_why_after (Plain why) = at_line (tells.No why)
good_why_after (Of part) = on_blank (good_before blank (good_part_after part))

good_refusal : Good (λ b. b == blank) nothing refusal
unfolding refusal
good_refusal = good_before blank (good_then _ (good_table is_letter why_words refl refl refl) good_why_after apart_end)

good_bad_after : (word : BadWord) → Good (λ b. b == blank) is_digit (bad_after word)
unfolding bad_after
good_bad_after (Fault kind) = good_before blank (good_value (fault_at kind) good_wide)
good_bad_after Unasked = good_before blank (good_value bads.Unasked good_wide)
good_bad_after StrangeId = good_before blank (good_value bads.StrangeId good_index)
good_bad_after TooOld = good_before blank (good_value bads.TooOld good_index)

good_bad : Good is_letter is_digit bad
unfolding bad
good_bad = good_then _ (good_table is_letter bad_words refl refl refl) good_bad_after apart_blank

good_message_side : Good is_letter is_letter message_side
unfolding message_side
good_message_side = good_keyword is_letter (Request, codes "request") ((Response, codes "response") ∷ []) refl refl

good_got_lists : (at : Option ℤ) (id : ℕ) (m : Target × Tree) (request : ℕ) → Good (λ b. b == opens) nothing (got_lists at id m request)
unfolding got_lists
good_got_lists at id m request = good_then _ good_things (λ handles. good_before blank (good_then _ good_pendings
    (λ ps. good_before blank (in_line (got_of at id m request handles ps) good_things)) (λ b e. refl))) (λ b e. refl)

good_got : (schema : Schema) (names : Names) (at : Option ℤ) → AreWords names → Good (λ b. b == blank) nothing (got schema names at)
unfolding got
good_got schema names at w = good_before blank (good_then _ good_message_side (λ side. good_before blank (good_then _ good_index (λ id. good_before blank
    (good_then _ (good_message schema names side w) (λ m. good_then _ good_wide (λ request. good_before blank (good_got_lists at id m request)) blank_no_digit)
    (λ b e. refl))) blank_no_digit)) apart_blank)

good_got_at : (schema : Schema) (names : Names) → AreWords names → Good (λ b. b == blank) nothing (got_at schema names)
unfolding got_at
good_got_at schema names w = good_before blank (good_then _ good_moment (λ at. good_got schema names (Some at) w) blank_no_digit)

good_made : Good (λ b. b == blank) nothing made
unfolding made
good_made = good_before blank (in_line tells.Made good_things)

good_bound : Good (λ b. b == blank) nothing bound
unfolding bound
good_bound = good_before blank (on_line tells.Bound good_end)

good_associated : Good (λ b. b == blank) nothing associated
unfolding associated
good_associated = good_before blank (on_line tells.Associated good_pending)

good_attached : Good (λ b. b == blank) nothing attached
unfolding attached
good_attached = good_before blank (on_line tells.Attached good_index)

good_sent : Good (λ b. b == blank) nothing sent
unfolding sent
good_sent = good_before blank (good_then _ good_wide (λ request. good_before blank (good_value (tells.Sent request) good_hex_line)) blank_no_digit)

good_wrote : Good (λ b. b == blank) nothing wrote
unfolding wrote
good_wrote = good_before blank (on_line tells.Wrote good_end)

good_dropped : Good (λ b. b == blank) nothing dropped
unfolding dropped
good_dropped = good_before blank (good_then _ good_index (λ id. good_before blank (in_line (tells.Dropped id) good_things)) blank_no_digit)

good_bad_reply : Good (λ b. b == blank) nothing bad_reply
unfolding bad_reply
good_bad_reply = good_before blank (good_then _ good_bad (λ why. good_before blank (in_line (tells.Bad why) good_things)) blank_no_digit)

good_gone_reply : Good (λ b. b == blank) nothing gone_reply
unfolding gone_reply
good_gone_reply = good_before blank (in_line tells.Closed good_things)

-- controls
digit_no_dash : Apart is_digit (λ b. b == dash)
digit_no_dash b e = grind (arith, nat_tests)

-- what a version begins with, or none
abbrev version_starts : ℕ → Bool
version_starts = with_starts (λ b. b == dash) is_digit

good_version_or_none : Good version_starts is_digit version_or_none
unfolding version_or_none
good_version_or_none = good_choice (good_wider (λ b. b == dash) is_digit (good_closed dash None) (λ b e. e) (λ b e. refl)) (good_value Some good_index)
    digit_no_dash

good_control : Good (λ b. b == blank) nothing control
unfolding control
good_control = good_before blank (on_line _ good_index)

good_queried : Good (λ b. b == blank) nothing queried
unfolding queried
good_queried = good_before blank (good_then _ good_index (λ id. good_before blank (on_line _ good_version_or_none)) blank_no_digit)

good_version : Good (λ b. b == blank) nothing version
unfolding version
good_version = good_before blank (good_then _ good_index (λ id. good_before blank (on_line _ good_index)) blank_no_digit)

good_required : Good (λ b. b == blank) nothing required
unfolding required
good_required = good_before blank (good_then _ good_index (λ id. good_before blank (on_line _ good_index)) blank_no_digit)

good_flushed : Good (λ b. b == blank) nothing flushed
unfolding flushed
good_flushed = good_before blank (on_line _ good_index)

good_noted_after : (word : NotedWord) → IsGood (noted_after word)
good_noted_after notes.Closed = on_blank good_control
good_noted_after notes.Queried = on_blank good_queried
good_noted_after notes.Version = on_blank good_version
good_noted_after notes.Required = on_blank good_required
good_noted_after notes.Flushed = on_blank good_flushed

good_flushing : Good (λ b. b == blank) nothing flushing
unfolding flushing
good_flushing = good_before blank (on_line _ good_index)

good_notified_after : (word : NotifiedWord) → IsGood (notified_after word)
good_notified_after notices.Asking = at_line (tells.Notified notifieds.Asking)
good_notified_after notices.Requiring = at_line (tells.Notified notifieds.Requiring)
good_notified_after notices.Flushing = on_blank good_flushing

-- data pipes
good_put_count : Good (λ b. b == blank) nothing put_count
unfolding put_count
good_put_count = good_before blank (good_then _ good_token (λ t. good_before blank (on_line _ good_index)) blank_no_digit)

good_got_bytes : Good (λ b. b == blank) nothing got_bytes
unfolding got_bytes
good_got_bytes = good_before blank (good_then _ good_token
    (λ t. good_before blank (good_value (λ (bytes : List ℕ). tells.Flowed t (floweds.Bytes bytes)) good_hex_line)) blank_no_digit)

good_space : Good (λ b. b == blank) nothing space
unfolding space
good_space = good_before blank (good_then _ good_token (λ t. good_before blank (on_line _ good_index)) blank_no_digit)

good_view : Good (λ b. b == blank) nothing view
unfolding view
good_view = good_before blank (good_then _ good_token
    (λ t. good_before blank (good_value (λ (bytes : List ℕ). tells.Flowed t (floweds.View bytes)) good_hex_line)) blank_no_digit)

good_ended : Good (λ b. b == blank) nothing ended
unfolding ended
good_ended = good_before blank (on_line _ good_token)

good_flowed_after : (word : FlowedWord) → IsGood (flowed_after word)
good_flowed_after moves.Put = on_blank good_put_count
good_flowed_after moves.Bytes = on_blank good_got_bytes
good_flowed_after moves.Space = on_blank good_space
good_flowed_after moves.View = on_blank good_view
good_flowed_after moves.Ended = on_blank good_ended

good_told_after : (schema : Schema) (names : Names) → AreWords names → (word : ReplyWord) → IsGood (told_after schema names word)
good_told_after schema names w replies.Made = on_blank good_made
good_told_after schema names w replies.Bound = on_blank good_bound
good_told_after schema names w replies.Associated = on_blank good_associated
good_told_after schema names w replies.Attached = on_blank good_attached
good_told_after schema names w replies.Sent = on_blank good_sent
good_told_after schema names w replies.Wrote = on_blank good_wrote
good_told_after schema names w (replies.Got false) = on_blank (good_got schema names None w)
good_told_after schema names w (replies.Got true) = on_blank (good_got_at schema names w)
good_told_after schema names w replies.Dropped = on_blank good_dropped
good_told_after schema names w (replies.Control word) = good_noted_after word
good_told_after schema names w replies.Bad = on_blank good_bad_reply
good_told_after schema names w replies.Closed = on_blank good_gone_reply
good_told_after schema names w (replies.Notified word) = good_notified_after word
good_told_after schema names w replies.Pausing = at_line tells.Pausing
good_told_after schema names w (replies.Flowed word) = good_flowed_after word
good_told_after schema names w replies.Skipped = at_line tells.Skipped
good_told_after schema names w replies.No = on_blank good_refusal

pub good_told : (schema : Schema) (names : Names) → AreWords names → Good is_letter nothing (told schema names)
unfolding told
good_told schema names w = good_then _ (good_table is_letter reply_words refl refl refl) (good_told_after schema names w) apart_end
