-- The texts of things and endpoints, both ways.
use Rattle.std.proofs.Common.{◌≡◌, ◌≤◌, ◌<◌, ℕ, ℤ, pos, negsuc, zero, suc, ◌-◌, ◌^◌, ◌++◌, ◌∷◌, List, ◌⊎◌, inl, inr, refl, sym, ap, ◌∙◌, arith}
use Rattle.std.specs.Prelude.{decimal}
use Rattle.std.specs.Fmt.{signed_decimal}
use Rattle.mj_base.specs.declared.ids.EndId.{EndId}
use Rattle.handle_table.specs.declared.thing.Thing.{Thing}
use Rattle.handle_table.specs.declared.thing.Thing.TheVariants.{End, Token}
use Rattle.handle_table.specs.declared.thing.TokenId.{TokenId}
use Rattle.bind_model.specs.declared.endpoint.ResponderId.{ResponderId}
use Rattle.byte_rules.specs.Lang.{as_value, ◌then◌, ◌▸◌}
use Rattle.value_text.specs.Numbers.{numbers, number, minus, index}
use Rattle.history_text.specs.History.{end_text, thing_text, endpoint_text, pending_text, responder_text}
use Rattle.line_parts.specs.Signs.{dot, hash, at_sign, letter_e, letter_p, letter_r, letter_t}
use Rattle.line_parts.specs.Ids.{wide, moment, sequence, end_of, end, token_of, token, thing, endpoint, pending_of, pending, responder_of, responder}
use Rattle.line_parts.specs.Printable.{IsSmall, IsWide, IsLong, IsSequence, IsEnd, IsToken, IsThing, IsPending, IsResponder}
use Rattle.line_parts.proofs.BothWays.{HasTexts, Is, texts_words, texts_before, texts_value, texts_then, texts_choice, texts_fine}

pub texts_index : HasTexts (Is IsSmall decimal) index
texts_index = texts_fine (λ n h. omega (arith, h.1)) (λ n h. (omega arith, omega (arith, h))) (λ n h. refl) (texts_words (numbers 0 (2 ^ 32 - 1)))

pub texts_wide : HasTexts (Is IsWide decimal) wide
texts_wide = texts_fine (λ n h. omega (arith, h.1)) (λ n h. (omega arith, omega (arith, h))) (λ n h. refl) (texts_words (numbers 0 (2 ^ 64 - 1)))

-- an integer below zero, and one that is not
abbrev IsBelow : ℤ → Type 0
IsBelow (pos n) = ⊥
IsBelow (negsuc n) = n < 2 ^ 63

-- no sign stands before it
abbrev IsAbove : ℤ → Type 0
IsAbove (pos n) = n < 2 ^ 63
IsAbove (negsuc n) = ⊥

-- how far it is from zero
abbrev size_of : ℤ → ℕ
size_of (pos n) = n
size_of (negsuc n) = suc n

-- the digits behind the sign
abbrev below_text : ℤ → List ℕ
below_text z = decimal (size_of z)

-- the size of a number below 0
abbrev IsSize : ℕ → Type 0
IsSize n = (1 ≤ n) × (n ≤ 2 ^ 63)

minus_fits : (n : ℕ) → IsSize n → IsBelow (minus n)
minus_fits zero h = absurd (omega (arith, h.0))
minus_fits (suc n) h = omega (arith, h.1)

minus_text : (n : ℕ) → IsSize n → below_text (minus n) ≡ decimal n
minus_text zero h = refl
minus_text (suc n) h = refl

minus_of : (z : ℤ) → IsBelow z → (n : ℕ) × IsSize n × (minus n ≡ z)
minus_of (pos n) h = absurd h
minus_of (negsuc n) h = (suc n, (omega arith, omega (arith, h)), refl)

pos_of : (z : ℤ) → IsAbove z → (n : ℕ) × ((0 ≤ n) × (n ≤ 2 ^ 63 - 1)) × (pos n ≡ z)
pos_of (pos n) h = (n, (omega arith, omega (arith, h)), refl)
pos_of (negsuc n) h = absurd h

same_text : (z : ℤ) → IsBelow z → 45 ∷ below_text z ≡ signed_decimal z
same_text (pos n) h = absurd h
same_text (negsuc n) h = refl

below_zero : HasTexts (Is IsBelow signed_decimal) (45 ▸ as_value minus (number 1 (2 ^ 63)))
below_zero = texts_fine (λ z h. h) (λ z h. h) same_text
    (texts_before 45 (texts_value minus IsBelow below_text minus_fits minus_text minus_of (texts_words (numbers 1 (2 ^ 63)))))

above_zero : HasTexts (Is IsAbove signed_decimal) (as_value pos (number 0 (2 ^ 63 - 1)))
above_zero = texts_value pos IsAbove signed_decimal (λ n h. omega (arith, h.1)) (λ n h. refl) pos_of (texts_words (numbers 0 (2 ^ 63 - 1)))

long_of : (z : ℤ) → IsBelow z ⊎ IsAbove z → IsLong z
long_of (pos n) (inl h) = absurd h
long_of (pos n) (inr h) = h
long_of (negsuc n) (inl h) = h
long_of (negsuc n) (inr h) = absurd h

of_long : (z : ℤ) → IsLong z → IsBelow z ⊎ IsAbove z
of_long (pos n) h = inr h
of_long (negsuc n) h = inl h

pub texts_moment : HasTexts (Is IsLong signed_decimal) moment
unfolding moment
texts_moment = texts_fine long_of of_long (λ z h. refl) (texts_choice _ below_zero above_zero)

pub texts_sequence : HasTexts (Is IsSequence (λ seq. decimal seq.0)) sequence
texts_sequence = texts_value (λ n. record { 0 = n }) IsSequence (λ seq. decimal seq.0) (λ n h. h) (λ n h. refl) (λ seq h. (seq.0, h, refl)) texts_index

-- the number behind the dot of an end, and of a token
serial_of_end : (seq : ℕ) → HasTexts (Is (λ (x : EndId). (x.seq ≡ seq) × IsSmall x.serial) (λ (x : EndId). dot ∷ decimal x.serial))
    (dot ▸ as_value (end_of seq) index)
serial_of_end seq = texts_before dot (texts_value (end_of seq) (λ (x : EndId). (x.seq ≡ seq) × IsSmall x.serial) (λ (x : EndId). decimal x.serial)
    (λ n h. (refl, h)) (λ n h. refl) (λ x h. (x.serial, h.1, ap (λ (s : ℕ). end_of s x.serial) (sym h.0))) texts_index)

pub texts_end : HasTexts (Is IsEnd end_text) end
unfolding end
texts_end = texts_fine (λ x h. (h.0, h.1.1)) (λ x h. (h.0, (refl, h.1))) (λ x h. refl)
    (texts_before letter_e (texts_then (λ (x : EndId). x.seq) (λ seq x h. h.0) texts_index serial_of_end))

serial_of_token : (seq : ℕ) → HasTexts (Is (λ (t : TokenId). (t.seq ≡ seq) × IsSmall t.serial) (λ (t : TokenId). dot ∷ decimal t.serial))
    (dot ▸ as_value (token_of seq) index)
serial_of_token seq = texts_before dot (texts_value (token_of seq) (λ (t : TokenId). (t.seq ≡ seq) × IsSmall t.serial) (λ (t : TokenId). decimal t.serial)
    (λ n h. (refl, h)) (λ n h. refl) (λ t h. (t.serial, h.1, ap (λ (s : ℕ). token_of s t.serial) (sym h.0))) texts_index)

pub texts_token : HasTexts (Is IsToken (λ t. thing_text (Token t))) token
unfolding token
texts_token = texts_fine (λ t h. (h.0, h.1.1)) (λ t h. (h.0, (refl, h.1))) (λ t h. refl)
    (texts_before letter_t (texts_then (λ (t : TokenId). t.seq) (λ seq t h. h.0) texts_index serial_of_token))

-- an end, or a token
abbrev OfEnd : Thing → Type 0
OfEnd (End x) = IsEnd x
OfEnd (Token t) = ⊥

-- a token of its widths
abbrev OfToken : Thing → Type 0
OfToken (End x) = ⊥
OfToken (Token t) = IsToken t

end_in : (x : Thing) → OfEnd x → (y : EndId) × IsEnd y × (End y ≡ x)
end_in (End x) h = (x, h, refl)
end_in (Token t) h = absurd h

token_in : (x : Thing) → OfToken x → (t : TokenId) × IsToken t × (Token t ≡ x)
token_in (End x) h = absurd h
token_in (Token t) h = (t, h, refl)

either : (x : Thing) → OfEnd x ⊎ OfToken x → IsThing x
either (End x) (inl h) = h
either (End x) (inr h) = absurd h
either (Token t) (inl h) = absurd h
either (Token t) (inr h) = h

one_of : (x : Thing) → IsThing x → OfEnd x ⊎ OfToken x
one_of (End x) h = inl h
one_of (Token t) h = inr h

pub texts_thing : HasTexts (Is IsThing thing_text) thing
unfolding thing
texts_thing = texts_fine either one_of (λ x h. refl) (texts_choice _ (texts_value End OfEnd thing_text (λ x h. h) (λ x h. refl) end_in texts_end)
    (texts_value Token OfToken thing_text (λ t h. h) (λ t h. refl) token_in texts_token))

-- an end and an id there
id_at : (x : EndId) → HasTexts (Is (λ (p : EndId × ℕ). (p.0 ≡ x) × IsSmall p.1) (λ (p : EndId × ℕ). hash ∷ decimal p.1)) (hash ▸ as_value (λ id. (x, id)) index)
id_at x = texts_before hash (texts_value (λ id. (x, id)) (λ (p : EndId × ℕ). (p.0 ≡ x) × IsSmall p.1) (λ (p : EndId × ℕ). decimal p.1)
    (λ n h. (refl, h)) (λ n h. refl) (λ p h. (p.1, h.1, ap (λ (y : EndId). (y, p.1)) (sym h.0))) texts_index)

-- an end and an id of their widths
abbrev pub IsEndpoint : EndId × ℕ → Type 0
IsEndpoint p = IsEnd p.0 × IsSmall p.1

pub texts_endpoint : HasTexts (Is IsEndpoint (λ p. endpoint_text p.0 p.1)) endpoint
unfolding endpoint
texts_endpoint = texts_fine (λ p h. (h.0, h.1.1)) (λ p h. (h.0, (refl, h.1))) (λ p h. refl)
    (texts_then (λ (p : EndId × ℕ). p.0) (λ x p h. h.0) texts_end id_at)

pub texts_pending : HasTexts (Is IsPending pending_text) pending
unfolding pending
texts_pending = texts_before letter_p (texts_value pending_of IsPending (λ p. endpoint_text p.end p.id) (λ p h. h) (λ p h. refl)
    (λ p h. ((p.end, p.id), h, refl)) texts_endpoint)

-- the method behind the request, and the request behind the endpoint
method_of : (p : EndId × ℕ) (request : ℕ)
    → HasTexts (Is (λ (r : ResponderId). (r.request ≡ request) × ((r.end, r.id) ≡ p) × (r.interface ≡ 0) × IsSmall r.method)
    (λ (r : ResponderId). dot ∷ decimal r.method)) (dot ▸ as_value (responder_of p request) index)
method_of p request = texts_before dot (texts_value (responder_of p request)
    (λ (r : ResponderId). (r.request ≡ request) × ((r.end, r.id) ≡ p) × (r.interface ≡ 0) × IsSmall r.method) (λ (r : ResponderId). decimal r.method)
    (λ n h. (refl, refl, refl, h)) (λ n h. refl) back texts_index)
  where
    back : (r : ResponderId) → (r.request ≡ request) × ((r.end, r.id) ≡ p) × (r.interface ≡ 0) × IsSmall r.method
        → (n : ℕ) × IsSmall n × (responder_of p request n ≡ r)
    back r h = (
      r.method,
      h.3,
      ap (λ (p : EndId × ℕ). responder_of p request r.method) (sym h.1) ∙ ap (λ (q : ℕ). responder_of (r.end, r.id) q r.method) (sym h.0)
          ∙ ap (λ (i : ℕ). record { end = r.end; id = r.id; request = r.request; interface = i; method = r.method }) (sym h.2),
    )

-- the responder of a request at this endpoint
abbrev IsBehind : EndId × ℕ → ResponderId → Type 0
IsBehind p r = IsWide r.request × (r.request ≡ r.request) × ((r.end, r.id) ≡ p) × (r.interface ≡ 0) × IsSmall r.method

request_at : (p : EndId × ℕ) → HasTexts (Is (IsBehind p) (λ (r : ResponderId). at_sign ∷ (decimal r.request ++ dot ∷ decimal r.method)))
    (at_sign ▸ wide then λ request. dot ▸ as_value (responder_of p request) index)
request_at p = texts_fine (λ r h. (h.0, h.1.0, h.1.1, h.1.2, h.1.3)) (λ r h. (h.0, (h.1, h.2, h.3, h.4))) (λ r h. refl)
    (texts_before at_sign (texts_then (λ (r : ResponderId). r.request) (λ request r h. h.0) texts_wide (method_of p)))

pub texts_responder : HasTexts (Is IsResponder responder_text) responder
unfolding responder
texts_responder = texts_fine (λ r h. (h.0.0, h.0.1, h.1.0, h.1.4, h.1.3)) (λ r h. ((h.0, h.1), (h.2, refl, refl, h.4, h.3))) (λ r h. refl)
    (texts_before letter_r (texts_then (λ (r : ResponderId). (r.end, r.id)) (λ p r h. h.2) texts_endpoint request_at))
