-- How commands stand in a line, up to the arrow and with it.
use Rattle.std.specs.Prelude.{ℕ, ℤ, ◌==◌, false, true, List, [], ◌∷◌, Option, Some, None, codes}
use Rattle.mj_base.specs.declared.ids.EndId.{EndId}
use Rattle.mj_schema.specs.declared.schema.Schema.{Schema}
use Rattle.handle_table.specs.declared.thing.Thing.TheVariants.{End, Token}
use Rattle.handle_table.specs.declared.thing.TokenSort.{TokenSort}
use Rattle.handle_table.specs.declared.thing.TokenSort.TheVariants.{SharedBuffer, Platform}
use Rattle.wire_encoder.specs.declared.endpoint.EndpointSide.{EndpointSide}
use Rattle.wire_encoder.specs.declared.endpoint.EndpointSide.TheVariants.{Remote, Receiver}
use Rattle.wire_model.specs.declared.target.MessageSide.TheVariants.{Request, Response}
use Rattle.bind_model.specs.declared.asked.Asked.{Asked}
use Rattle.bind_model.specs.declared.asked.Asked.TheVariants as askeds
use Rattle.bind_model.specs.declared.asked.Closing.TheVariants as closings
use Rattle.byte_rules.specs.Lang.{Lang, as_value, choice, ◌then◌, ◌▸◌}
use Rattle.value_text.specs.Numbers.{index}
use Rattle.line_parts.specs.Signs.{blank, hash, letter_p, letter_r, letter_t}
use Rattle.line_parts.specs.Keywords.{keyword}
use Rattle.line_parts.specs.Names.{interface}
use Rattle.line_parts.specs.Ids.{moment, sequence, end, token, thing, endpoint, pending, responder}
use Rattle.line_parts.specs.Lists.{things, hex}
use Rattle.line_parts.specs.Messages.{outgoing}
use Rattle.line_parts.specs.declared.names.Names.{Names}
use Rattle.history_reader.specs.Arrows.{asks}
use Rattle.history_reader.specs.Notices.{notice_after, pause}
use Rattle.history_reader.specs.Flows.{data_pipe, flow_after}
use Rattle.history_reader.specs.declared.commands.CommandWord.{CommandWord}
use Rattle.history_reader.specs.declared.commands.CommandWord.TheVariants as commands
use Rattle.history_reader.specs.declared.flows.FlowWord.TheVariants as flows
use Rattle.history_reader.specs.declared.notices.NoticeWord.TheVariants as notices

-- the words of commands
abbrev pub command_words : List (CommandWord × List ℕ)
command_words =
    (commands.Pipe, codes "pipe") ∷ (commands.Join, codes "join") ∷ (commands.Mint, codes "mint") ∷ (commands.Bind, codes "bind")
    ∷ (commands.Associate, codes "associate") ∷ (commands.Attach, codes "attach") ∷ (commands.Call false, codes "call")
    ∷ (commands.Call true, codes "call-at") ∷ (commands.Answer false, codes "answer") ∷ (commands.Answer true, codes "answer-at")
    ∷ (commands.Raw, codes "raw") ∷ (commands.Take, codes "take") ∷ (commands.Close, codes "close")
    ∷ (commands.Notify notices.Query, codes "query") ∷ (commands.Notify notices.Require, codes "require") ∷ (commands.Notify notices.Flush, codes "flush")
    ∷ (commands.Pause, codes "pause") ∷ (commands.Data, codes "data") ∷ (commands.Flow (flows.Put false), codes "put")
    ∷ (commands.Flow (flows.Put true), codes "put-all") ∷ (commands.Flow (flows.Get false), codes "get") ∷ (commands.Flow (flows.Get true), codes "get-all")
    ∷ (commands.Flow flows.BeginPut, codes "begin-put") ∷ (commands.Flow flows.EndPut, codes "end-put") ∷ (commands.Flow flows.BeginGet, codes "begin-get")
    ∷ (commands.Flow flows.EndGet, codes "end-get") ∷ (commands.Skip, codes "skip") ∷ []

-- a sort of token
unfoldable pub sort : Lang TokenSort
sort = keyword ((SharedBuffer, codes "shared_buffer") ∷ (Platform, codes "platform") ∷ [])

-- a side of an endpoint
unfoldable pub side : Lang EndpointSide
side = keyword ((Remote, codes "remote") ∷ (Receiver, codes "receiver") ∷ [])

-- behind `join`: the other sequence
unfoldable pub join : Lang Asked
join = blank ▸ sequence then λ t. asks (askeds.Join t)

-- behind `mint`: a sort of token
unfoldable pub mint : Lang Asked
mint = blank ▸ sort then λ s. asks (askeds.Mint s)

-- a side of an interface
unfoldable pub role : Names → Lang (EndpointSide × ℕ)
role names = blank ▸ side then λ s. blank ▸ as_value (λ n. (s, n)) (interface names)

-- behind `bind`: a handle, and a side of an interface
unfoldable pub bind : Names → Lang Asked
bind names = blank ▸ thing then λ x. role names then λ r. asks (askeds.Bind x r.0 r.1)

-- behind `associate`: an end, and a side of an interface
unfoldable pub associate : Names → Lang Asked
associate names = blank ▸ end then λ x. role names then λ r. asks (askeds.Associate x r.0 r.1)

-- behind `attach`: a pending endpoint, and the sequence that it is bound on
unfoldable pub attach : Lang Asked
attach = blank ▸ pending then λ p. blank ▸ sequence then λ t. asks (askeds.Attach p t)

-- behind `call`: an endpoint, and a request, at this moment where there is one
unfoldable pub call : Schema → Names → Option ℤ → Lang Asked
call schema names at = blank ▸ endpoint then λ p. blank ▸ outgoing schema names Request at then λ o. asks (askeds.Call p.0 p.1 o)

-- behind `call-at`: a moment, and then as behind `call`
unfoldable pub call_at : Schema → Names → Lang Asked
call_at schema names = blank ▸ moment then λ at. call schema names (Some at)

-- behind `answer`: a responder, and a response, at this moment where there is one
unfoldable pub answer : Schema → Names → Option ℤ → Lang Asked
answer schema names at = blank ▸ responder then λ r. blank ▸ outgoing schema names Response at then λ o. asks (askeds.Answer r o)

-- behind `answer-at`: a moment, and then as behind `answer`
unfoldable pub answer_at : Schema → Names → Lang Asked
answer_at schema names = blank ▸ moment then λ at. answer schema names (Some at)

-- behind `raw`: a handle, bytes, and the handles that go with them
unfoldable pub raw : Lang Asked
raw = blank ▸ thing then λ x. blank ▸ hex blank then λ bytes. things then λ handles. asks (askeds.Raw x bytes handles)

-- behind `take`: an end
unfoldable pub take : Lang Asked
take = blank ▸ end then λ x. asks (askeds.Take x)

-- behind `skip`: the number of a line
unfoldable pub skip : Lang Asked
skip = blank ▸ index then λ n. asks (askeds.Skip n)

-- what is closed, where it begins with an end: the endpoint of an id there, or the end
unfoldable pub closing_at : EndId → Lang Asked
closing_at x = choice (λ b. b == hash) (hash ▸ index then λ id. asks (askeds.Close (closings.Endpoint x id))) (asks (askeds.Close (closings.Handle (End x))))

-- what is closed
abbrev pub closing : Lang Asked
closing =
    choice (λ b. b == letter_t) (token then λ t. asks (askeds.Close (closings.Handle (Token t))))
    (choice (λ b. b == letter_p) (pending then λ p. asks (askeds.Close (closings.Pending p)))
    (choice (λ b. b == letter_r) (responder then λ r. asks (askeds.Close (closings.Responder r))) (end then closing_at)))

-- behind `close`: what is closed
unfoldable pub close : Lang Asked
close = blank ▸ closing

-- what stands behind the word of each command, up to the arrow and with it
abbrev pub asked_after : Schema → Names → CommandWord → Lang Asked
asked_after schema names commands.Pipe = asks askeds.Pipe
asked_after schema names commands.Join = join
asked_after schema names commands.Mint = mint
asked_after schema names commands.Bind = bind names
asked_after schema names commands.Associate = associate names
asked_after schema names commands.Attach = attach
asked_after schema names (commands.Call false) = call schema names None
asked_after schema names (commands.Call true) = call_at schema names
asked_after schema names (commands.Answer false) = answer schema names None
asked_after schema names (commands.Answer true) = answer_at schema names
asked_after schema names commands.Raw = raw
asked_after schema names commands.Take = take
asked_after schema names commands.Close = close
asked_after schema names (commands.Notify word) = notice_after word
asked_after schema names commands.Pause = pause
asked_after schema names commands.Data = data_pipe
asked_after schema names (commands.Flow word) = flow_after word
asked_after schema names commands.Skip = skip

-- a command, and the arrow
unfoldable pub asked : Schema → Names → Lang Asked
asked schema names = keyword command_words then asked_after schema names
