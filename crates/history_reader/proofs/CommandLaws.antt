-- The laws of how commands stand in a line.
use Rattle.std.proofs.Common.{ℕ, ℤ, ◌==◌, [], ◌∷◌, Bool, true, false, Option, Some, None, refl, arith}
use Rattle.std.specs.Prelude.{codes}
use Rattle.std.proofs.lemmas.Bool.Decides.{nat_tests}
use Rattle.mj_base.specs.declared.ids.EndId.{EndId}
use Rattle.mj_schema.specs.declared.schema.Schema.{Schema}
use Rattle.handle_table.specs.declared.thing.TokenSort.TheVariants.{SharedBuffer, Platform}
use Rattle.wire_encoder.specs.declared.endpoint.EndpointSide.TheVariants.{Remote, Receiver}
use Rattle.wire_model.specs.declared.target.MessageSide.TheVariants.{Request, Response}
use Rattle.bind_model.specs.declared.asked.Asked.{Asked}
use Rattle.bind_model.specs.declared.asked.Asked.TheVariants as askeds
use Rattle.bind_model.specs.declared.flow.Flow.TheVariants as flows
use Rattle.byte_rules.specs.Lang.{Lang}
use Rattle.byte_rules.proofs.Good.{Good, Apart, nothing, with_starts, good_value, good_closed, good_then, good_before, good_choice}
use Rattle.value_text.specs.Numbers.{is_digit}
use Rattle.value_text.proofs.ListedNumbers.{good_index}
use Rattle.line_parts.specs.Signs.{blank, dash, hash, letter_e, letter_p, letter_r, letter_t}
use Rattle.line_parts.specs.declared.names.Names.{Names}
use Rattle.line_parts.proofs.KeywordLaws.{is_letter, good_keyword, good_table, apart_blank}
use Rattle.line_parts.proofs.IdLaws.{good_moment, good_sequence, blank_no_digit, good_end, good_token, good_thing, good_endpoint, good_pending, good_responder}
use Rattle.line_parts.proofs.ListLaws.{good_things, good_hex_blank}
use Rattle.line_parts.proofs.NameLaws.{AreWords, is_not_blank, blank_apart, good_interface}
use Rattle.line_parts.proofs.MessageLaws.{good_outgoing}
use Rattle.history_reader.specs.Arrows.{arrow, asks, arrow_behind, asks_behind}
use Rattle.history_reader.specs.Notices.{query, require, flush, notice_after, wait, pause}
use Rattle.history_reader.specs.Flows.{data_pipe, put, get, begin_put, end_put, begin_get, end_get, flow_after}
use Rattle.history_reader.specs.Commands.{command_words, sort, side, join, mint, role, bind, associate, attach, call, call_at, answer, answer_at, raw, take, skip}
use Rattle.history_reader.specs.Commands.{closing_at, close, asked_after, asked}
use Rattle.history_reader.specs.declared.commands.CommandWord.{CommandWord}
use Rattle.history_reader.specs.declared.commands.CommandWord.TheVariants as commands
use Rattle.history_reader.specs.declared.flows.FlowWord.{FlowWord}
use Rattle.history_reader.specs.declared.flows.FlowWord.TheVariants as moves
use Rattle.history_reader.specs.declared.notices.NoticeWord.{NoticeWord}
use Rattle.history_reader.specs.declared.notices.NoticeWord.TheVariants as words

good_sort : Good is_letter is_letter sort
unfolding sort
good_sort = good_keyword is_letter (SharedBuffer, codes "shared_buffer") ((Platform, codes "platform") ∷ []) refl refl

good_side : Good is_letter is_letter side
unfolding side
good_side = good_keyword is_letter (Remote, codes "remote") ((Receiver, codes "receiver") ∷ []) refl refl

good_arrow : Good (λ b. b == blank) nothing arrow
unfolding arrow
good_arrow = good_before blank (good_before dash (good_before 62 (good_closed blank tt)))

-- a command ends in the arrow
abbrev IsGood : Lang Asked → Type 1
IsGood one = Good (λ b. b == blank) nothing one

good_asks : (what : Asked) → IsGood (asks what)
good_asks what = good_value (λ (u : Unit {0}). what) good_arrow

-- without its first blank
good_asks_behind : (what : Asked) → Good (λ b. b == dash) nothing (asks_behind what)
unfolding arrow_behind
good_asks_behind what = good_value (λ (u : Unit {0}). what) (good_before dash (good_before 62 (good_closed blank tt)))

good_join : IsGood join
unfolding join
good_join = good_before blank (good_then _ good_sequence (λ t. good_asks (askeds.Join t)) blank_no_digit)

good_mint : IsGood mint
unfolding mint
good_mint = good_before blank (good_then _ good_sort (λ s. good_asks (askeds.Mint s)) apart_blank)

good_role : (names : Names) → AreWords names → Good (λ b. b == blank) is_not_blank (role names)
unfolding role
good_role names w = good_before blank (good_then _ good_side (λ s. good_before blank (good_value (λ (n : ℕ). (s, n)) (good_interface names w))) apart_blank)

good_bind : (names : Names) → AreWords names → IsGood (bind names)
unfolding bind
good_bind names w = good_before blank (good_then _ good_thing
    (λ x. good_then _ (good_role names w) (λ r. good_asks (askeds.Bind x r.0 r.1)) blank_apart) blank_no_digit)

good_associate : (names : Names) → AreWords names → IsGood (associate names)
unfolding associate
good_associate names w = good_before blank (good_then _ good_end
    (λ x. good_then _ (good_role names w) (λ r. good_asks (askeds.Associate x r.0 r.1)) blank_apart) blank_no_digit)

good_attach : IsGood attach
unfolding attach
good_attach = good_before blank (good_then _ good_pending
    (λ p. good_before blank (good_then _ good_sequence (λ t. good_asks (askeds.Attach p t)) blank_no_digit)) blank_no_digit)

good_call : (schema : Schema) (names : Names) (at : Option ℤ) → AreWords names → IsGood (call schema names at)
unfolding call
good_call schema names at w = good_before blank (good_then _ good_endpoint (λ p. good_before blank
    (good_then _ (good_outgoing schema names Request at w) (λ o. good_asks (askeds.Call p.0 p.1 o)) (λ b e. refl))) blank_no_digit)

good_call_at : (schema : Schema) (names : Names) → AreWords names → IsGood (call_at schema names)
unfolding call_at
good_call_at schema names w = good_before blank (good_then _ good_moment (λ at. good_call schema names (Some at) w) blank_no_digit)

good_answer : (schema : Schema) (names : Names) (at : Option ℤ) → AreWords names → IsGood (answer schema names at)
unfolding answer
good_answer schema names at w = good_before blank (good_then _ good_responder (λ r. good_before blank
    (good_then _ (good_outgoing schema names Response at w) (λ o. good_asks (askeds.Answer r o)) (λ b e. refl))) blank_no_digit)

good_answer_at : (schema : Schema) (names : Names) → AreWords names → IsGood (answer_at schema names)
unfolding answer_at
good_answer_at schema names w = good_before blank (good_then _ good_moment (λ at. good_answer schema names (Some at) w) blank_no_digit)

good_raw : IsGood raw
unfolding raw
good_raw = good_before blank (good_then _ good_thing (λ x. good_before blank (good_then _ good_hex_blank
    (λ bytes. good_then _ good_things (λ handles. good_asks (askeds.Raw x bytes handles)) (λ b e. refl)) (λ b e. refl))) blank_no_digit)

good_take : IsGood take
unfolding take
good_take = good_before blank (good_then _ good_end (λ x. good_asks (askeds.Take x)) blank_no_digit)

good_skip : IsGood skip
unfolding skip
good_skip = good_before blank (good_then _ good_index (λ n. good_asks (askeds.Skip n)) blank_no_digit)

blank_no_hash : Apart (λ b. b == blank) (λ b. b == hash)
blank_no_hash b e = grind (arith, nat_tests)

-- what may follow an end that is closed: an id there, or the arrow
abbrev closing_starts : ℕ → Bool
closing_starts = with_starts (λ b. b == hash) (λ b. b == blank)

good_closing_at : (x : EndId) → Good closing_starts nothing (closing_at x)
unfolding closing_at
good_closing_at x = good_choice (good_before hash (good_then _ good_index (λ id. good_asks _) blank_no_digit)) (good_asks _) blank_no_hash

closing_no_digit : Apart closing_starts is_digit
closing_no_digit b e = grind (arith, nat_tests)

e_no_r : Apart (λ b. b == letter_e) (λ b. b == letter_r)
e_no_r b e = grind (arith, nat_tests)

r_no_p : Apart (with_starts (λ b. b == letter_r) (λ b. b == letter_e)) (λ b. b == letter_p)
r_no_p b e = grind (arith, nat_tests)

p_no_t : Apart (with_starts (λ b. b == letter_p) (with_starts (λ b. b == letter_r) (λ b. b == letter_e))) (λ b. b == letter_t)
p_no_t b e = grind (arith, nat_tests)

good_close : IsGood close
unfolding close
good_close = good_before blank
    (good_choice (good_then _ good_token (λ t. good_asks _) blank_no_digit)
    (good_choice (good_then _ good_pending (λ p. good_asks _) blank_no_digit)
    (good_choice (good_then _ good_responder (λ r. good_asks _) blank_no_digit)
    (good_then _ good_end good_closing_at closing_no_digit) e_no_r) r_no_p) p_no_t)

-- controls
good_query : IsGood query
unfolding query
good_query = good_before blank (good_then _ good_endpoint (λ p. good_asks _) blank_no_digit)

good_require : IsGood require
unfolding require
good_require = good_before blank (good_then _ good_endpoint
    (λ p. good_before blank (good_then _ good_index (λ v. good_asks _) blank_no_digit)) blank_no_digit)

good_flush : IsGood flush
unfolding flush
good_flush = good_before blank (good_then _ good_end (λ x. good_asks _) blank_no_digit)

good_notice_after : (word : NoticeWord) → IsGood (notice_after word)
good_notice_after words.Query = good_query
good_notice_after words.Require = good_require
good_notice_after words.Flush = good_flush

good_wait : Good (λ b. b == letter_e) is_digit wait
unfolding wait
good_wait = good_then _ good_end (λ x. good_before blank (good_value (λ (k : ℕ). (x, k)) good_index)) blank_no_digit

good_pause : IsGood pause
unfolding pause
good_pause = good_before blank (good_then _ good_end
    (λ x. good_before blank (good_then _ good_wait (λ w. good_asks _) blank_no_digit)) blank_no_digit)

-- data pipes
good_data_pipe : IsGood data_pipe
unfolding data_pipe
good_data_pipe = good_before blank (good_then _ good_index (λ size. good_asks _) blank_no_digit)

good_put : (all : Bool) → IsGood (put all)
unfolding put
good_put all = good_before blank (good_then _ good_thing (λ x. good_before blank (good_then _ good_hex_blank
    (λ bytes. good_asks_behind (askeds.Flow x (flows.Put bytes all))) (λ b e. refl))) blank_no_digit)

good_get : (all : Bool) → IsGood (get all)
unfolding get
good_get all = good_before blank (good_then _ good_thing
    (λ x. good_before blank (good_then _ good_index (λ n. good_asks _) blank_no_digit)) blank_no_digit)

good_begin_put : IsGood begin_put
unfolding begin_put
good_begin_put = good_before blank (good_then _ good_thing (λ x. good_asks _) blank_no_digit)

good_end_put : IsGood end_put
unfolding end_put
good_end_put = good_before blank (good_then _ good_thing (λ x. good_before blank (good_then _ good_hex_blank
    (λ bytes. good_asks_behind (askeds.Flow x (flows.EndPut bytes))) (λ b e. refl))) blank_no_digit)

good_begin_get : IsGood begin_get
unfolding begin_get
good_begin_get = good_before blank (good_then _ good_thing (λ x. good_asks _) blank_no_digit)

good_end_get : IsGood end_get
unfolding end_get
good_end_get = good_before blank (good_then _ good_thing
    (λ x. good_before blank (good_then _ good_index (λ n. good_asks _) blank_no_digit)) blank_no_digit)

good_flow_after : (word : FlowWord) → IsGood (flow_after word)
good_flow_after (moves.Put all) = good_put all
good_flow_after (moves.Get all) = good_get all
good_flow_after moves.BeginPut = good_begin_put
good_flow_after moves.EndPut = good_end_put
good_flow_after moves.BeginGet = good_begin_get
good_flow_after moves.EndGet = good_end_get

good_asked_after : (schema : Schema) (names : Names) → AreWords names → (word : CommandWord) → IsGood (asked_after schema names word)
good_asked_after schema names w commands.Pipe = good_asks askeds.Pipe
good_asked_after schema names w commands.Join = good_join
good_asked_after schema names w commands.Mint = good_mint
good_asked_after schema names w commands.Bind = good_bind names w
good_asked_after schema names w commands.Associate = good_associate names w
good_asked_after schema names w commands.Attach = good_attach
good_asked_after schema names w (commands.Call false) = good_call schema names None w
good_asked_after schema names w (commands.Call true) = good_call_at schema names w
good_asked_after schema names w (commands.Answer false) = good_answer schema names None w
good_asked_after schema names w (commands.Answer true) = good_answer_at schema names w
good_asked_after schema names w commands.Raw = good_raw
good_asked_after schema names w commands.Take = good_take
good_asked_after schema names w commands.Close = good_close
good_asked_after schema names w (commands.Notify word) = good_notice_after word
good_asked_after schema names w commands.Pause = good_pause
good_asked_after schema names w commands.Data = good_data_pipe
good_asked_after schema names w (commands.Flow word) = good_flow_after word
good_asked_after schema names w commands.Skip = good_skip

pub good_asked : (schema : Schema) (names : Names) → AreWords names → Good is_letter nothing (asked schema names)
unfolding asked
good_asked schema names w = good_then _ (good_table is_letter command_words refl refl refl) (good_asked_after schema names w) apart_blank
