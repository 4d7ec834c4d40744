-- How things and endpoints stand in a line. Their numbers are 32 bits wide, those of requests 64.
use Rattle.std.specs.Prelude.{ℕ, ℤ, ◌-◌, ◌^◌, ◌==◌}
use Rattle.mj_base.specs.declared.ids.EndId.{EndId}
use Rattle.mj_base.specs.declared.ids.SeqId.{SeqId}
use Rattle.handle_table.specs.declared.thing.Thing.{Thing}
use Rattle.handle_table.specs.declared.thing.Thing.TheVariants.{End, Token}
use Rattle.handle_table.specs.declared.thing.TokenId.{TokenId}
use Rattle.bind_model.specs.declared.endpoint.PendingId.{PendingId}
use Rattle.bind_model.specs.declared.endpoint.ResponderId.{ResponderId}
use Rattle.byte_rules.specs.Lang.{Lang, as_value, choice, ◌then◌, ◌▸◌}
use Rattle.value_text.specs.Numbers.{number, integer, index}
use Rattle.line_parts.specs.Signs.{dot, hash, at_sign, letter_e, letter_p, letter_r, letter_t}

-- a number of 64 bits
abbrev pub wide : Lang ℕ
wide = number 0 (2 ^ 64 - 1)

-- an integer of 64 bits, one of them its sign
unfoldable pub moment : Lang ℤ
moment = integer (2 ^ 63) (2 ^ 63 - 1)

-- a sequence
abbrev pub sequence : Lang SeqId
sequence = as_value (λ n. record { 0 = n }) index

-- the end of these two numbers
abbrev pub end_of : ℕ → ℕ → EndId
end_of seq serial = record { seq = seq; serial = serial }

-- an end, as in `e0.1`
unfoldable pub end : Lang EndId
end = letter_e ▸ index then λ seq. dot ▸ as_value (end_of seq) index

-- the token of these two numbers
abbrev pub token_of : ℕ → ℕ → TokenId
token_of seq serial = record { seq = seq; serial = serial }

-- a token, as in `t0.1`
unfoldable pub token : Lang TokenId
token = letter_t ▸ index then λ seq. dot ▸ as_value (token_of seq) index

-- an end or a token
unfoldable pub thing : Lang Thing
thing = choice (λ b. b == letter_e) (as_value End end) (as_value Token token)

-- an endpoint: its end, and its id there
unfoldable pub endpoint : Lang (EndId × ℕ)
endpoint = end then λ x. hash ▸ as_value (λ id. (x, id)) index

-- the pending endpoint of an end and an id there
abbrev pub pending_of : EndId × ℕ → PendingId
pending_of (x, id) = record { end = x; id = id }

-- a pending endpoint, as in `pe0.1#2`
unfoldable pub pending : Lang PendingId
pending = letter_p ▸ as_value pending_of endpoint

-- A responder. The text doesn't say the interface of its endpoint, so it is 0 in what is read.
abbrev pub responder_of : EndId × ℕ → ℕ → ℕ → ResponderId
responder_of (x, id) request method = record { end = x; id = id; request = request; interface = 0; method = method }

-- a responder, as in `re0.1#0@1.0`
unfoldable pub responder : Lang ResponderId
responder = letter_r ▸ endpoint then λ p. at_sign ▸ wide then λ request. dot ▸ as_value (responder_of p request) index
