-- The texts of commands, both ways.
use Rattle.std.proofs.Common.{◌≡◌, ℕ, ℤ, ◌++◌, ◌∷◌, [], ◌⊎◌, inl, inr, List, Option, Some, None, true, false, refl, sym, ap, ◌∙◌, subst, append_assoc}
use Rattle.std.specs.Prelude.{codes, decimal}
use Rattle.std.specs.Fmt.{signed_decimal}
use Rattle.mj_base.specs.declared.ids.EndId.{EndId}
use Rattle.mj_schema.specs.declared.schema.Schema.{Schema}
use Rattle.handle_table.specs.declared.thing.Thing.{Thing}
use Rattle.handle_table.specs.declared.thing.Thing.TheVariants.{End, Token}
use Rattle.handle_table.specs.declared.thing.TokenSort.{TokenSort}
use Rattle.handle_table.specs.declared.thing.TokenSort.TheVariants.{SharedBuffer, Platform}
use Rattle.wire_encoder.specs.declared.endpoint.EndpointSide.{EndpointSide}
use Rattle.wire_encoder.specs.declared.endpoint.EndpointSide.TheVariants.{Remote, Receiver}
use Rattle.wire_model.specs.declared.target.MessageSide.TheVariants.{Request, Response}
use Rattle.bind_model.specs.declared.asked.Asked.{Asked}
use Rattle.bind_model.specs.declared.asked.Asked.TheVariants as askeds
use Rattle.bind_model.specs.declared.asked.Closing.{Closing}
use Rattle.bind_model.specs.declared.asked.Closing.TheVariants as closings
use Rattle.bind_model.specs.declared.asked.Outgoing.{Outgoing}
use Rattle.bind_model.specs.declared.endpoint.ResponderId.{ResponderId}
use Rattle.byte_rules.specs.Lang.{as_value, ◌then◌, ◌▸◌}
use Rattle.byte_rules.specs.Among.{IsAmong}
use Rattle.history_text.specs.History.{end_text, thing_text, endpoint_text, pending_text, responder_text, things_text, hex_text, closing_text, outgoing_text}
use Rattle.history_text.specs.History.{asked_text}
use Rattle.history_text.specs.Names.{interface_name}
use Rattle.history_text.specs.Words.{side_word, sort_word}
use Rattle.line_parts.specs.Signs.{blank, hash}
use Rattle.line_parts.specs.Names.{names_of, interface}
use Rattle.line_parts.specs.Lists.{things, hex}
use Rattle.line_parts.specs.Printable.{IsSmall, IsLong, IsMoment, IsEnd, IsToken, IsThing, IsPending, IsResponder, AreAll, AreBytes, IsInterface}
use Rattle.line_parts.proofs.BothWays.{HasTexts, Is, texts_as, texts_before, texts_behind, texts_value, texts_then, texts_chain, texts_follow, texts_either}
use Rattle.line_parts.proofs.BothWays.{texts_fine}
use Rattle.line_parts.proofs.KeywordTexts.{texts_keyword}
use Rattle.line_parts.proofs.IdTexts.{texts_index, texts_moment, texts_sequence, texts_end, texts_token, texts_thing, texts_endpoint, texts_pending}
use Rattle.line_parts.proofs.IdTexts.{texts_responder}
use Rattle.line_parts.proofs.ListTexts.{texts_things}
use Rattle.line_parts.proofs.HexTexts.{texts_hex}
use Rattle.line_parts.proofs.NameTexts.{texts_interface}
use Rattle.line_parts.proofs.MessageTexts.{texts_outgoing}
use Rattle.history_reader.specs.Arrows.{asks}
use Rattle.history_reader.specs.Commands.{command_words, sort, side, join, mint, role, bind, associate, attach, call, call_at, answer, answer_at, raw, take, skip}
use Rattle.history_reader.specs.Commands.{closing_at, closing, close, asked_after, asked}
use Rattle.history_reader.specs.Printable.{IsClosing, IsAsked}
use Rattle.history_reader.specs.declared.commands.CommandWord.{CommandWord}
use Rattle.history_reader.specs.declared.commands.CommandWord.TheVariants as commands
use Rattle.history_reader.proofs.AtTexts.{has_moment, behind_at, none_of, some_of}
use Rattle.history_reader.proofs.AskedForms.{arrow_text, Only, texts_asks, Flat1, texts1, regroup, Flat2, texts2, texts_apart}
use Rattle.history_reader.proofs.AskedWords.{command_text, all_commands, each_command, word_of, after, Of, made, whole}
use Rattle.history_reader.proofs.NoticeTexts.{texts_notice_after, texts_pause}
use Rattle.history_reader.proofs.FlowTexts.{texts_data_pipe, texts_flow_after}

-- the words
abbrev sorts : List (TokenSort × List ℕ)
sorts = (SharedBuffer, codes "shared_buffer") ∷ (Platform, codes "platform") ∷ []

all_sorts : (s : TokenSort) → IsAmong (s, sort_word s) sorts
all_sorts SharedBuffer = inl refl
all_sorts Platform = inr (inl refl)

texts_sort : HasTexts (Is (λ (s : TokenSort). Unit {0}) sort_word) sort
unfolding sort
texts_sort = texts_keyword sort_word sorts (refl, (refl, tt)) all_sorts

-- the words of the two sides
abbrev sides : List (EndpointSide × List ℕ)
sides = (Remote, codes "remote") ∷ (Receiver, codes "receiver") ∷ []

all_sides : (s : EndpointSide) → IsAmong (s, side_word s) sides
all_sides Remote = inl refl
all_sides Receiver = inr (inl refl)

texts_side : HasTexts (Is (λ (s : EndpointSide). Unit {0}) side_word) side
unfolding side
texts_side = texts_keyword side_word sides (refl, (refl, tt)) all_sides

-- by the word and what stands behind it
module _ (schema : Schema) where
  -- what stands behind the word and the moment of a call, and of an answer
  abbrev call_rest : EndId → ℕ → Outgoing → List ℕ
  call_rest x id o = blank ∷ (endpoint_text x id ++ ((blank ∷ outgoing_text schema o) ++ arrow_text))

  -- the text behind the word of an answer
  abbrev answer_rest : ResponderId → Outgoing → List ℕ
  answer_rest r o = blank ∷ (responder_text r ++ ((blank ∷ outgoing_text schema o) ++ arrow_text))

  texts_pipe : HasTexts (Of schema commands.Pipe) (asks askeds.Pipe)
  texts_pipe = texts_as (λ a w h. made schema commands.Pipe a askeds.Pipe w h.0 ((refl, tt), h.1)) to (texts_asks askeds.Pipe)
    where
      to : (a : Asked) (w : List ℕ) → Of schema commands.Pipe a w → Only askeds.Pipe a w
      to askeds.Pipe w h = (refl, h.1)
      to _ w h = absurd (let e = h.0.0 in cc)

  texts_join : HasTexts (Of schema commands.Join) join
  unfolding join
  texts_join = texts_as (λ a w h. made schema commands.Join a (askeds.Join h.0) w h.2 ((refl, h.1), h.3)) to (texts1 askeds.Join texts_sequence)
    where
      to : (a : Asked) (w : List ℕ) → Of schema commands.Join a w → Flat1 askeds.Join texts_sequence a w
      to (askeds.Join t) w h = (t, h.0.1, refl, h.1)
      to _ w h = absurd (let e = h.0.0 in cc)

  texts_mint : HasTexts (Of schema commands.Mint) mint
  unfolding mint
  texts_mint = texts_as (λ a w h. made schema commands.Mint a (askeds.Mint h.0) w h.2 ((refl, tt), h.3)) to (texts1 askeds.Mint texts_sort)
    where
      to : (a : Asked) (w : List ℕ) → Of schema commands.Mint a w → Flat1 askeds.Mint texts_sort a w
      to (askeds.Mint s) w h = (s, tt, refl, h.1)
      to _ w h = absurd (let e = h.0.0 in cc)

  texts_take : HasTexts (Of schema commands.Take) take
  unfolding take
  texts_take = texts_as (λ a w h. made schema commands.Take a (askeds.Take h.0) w h.2 ((refl, h.1), h.3)) to (texts1 askeds.Take texts_end)
    where
      to : (a : Asked) (w : List ℕ) → Of schema commands.Take a w → Flat1 askeds.Take texts_end a w
      to (askeds.Take x) w h = (x, h.0.1, refl, h.1)
      to _ w h = absurd (let e = h.0.0 in cc)

  texts_skip : HasTexts (Of schema commands.Skip) skip
  unfolding skip
  texts_skip = texts_as (λ a w h. made schema commands.Skip a (askeds.Skip h.0) w h.2 ((refl, h.1), h.3)) to (texts1 askeds.Skip texts_index)
    where
      to : (a : Asked) (w : List ℕ) → Of schema commands.Skip a w → Flat1 askeds.Skip texts_index a w
      to (askeds.Skip n) w h = (n, h.0.1, refl, h.1)
      to _ w h = absurd (let e = h.0.0 in cc)

  -- a side of an interface
  abbrev Role : Type 0
  Role = EndpointSide × ℕ

  interface_behind : (s : EndpointSide) → HasTexts (Is (λ (r : Role). (r.0 ≡ s) × IsInterface schema r.1) (λ (r : Role). blank ∷ interface_name schema r.1))
      (blank ▸ as_value (λ n. (s, n)) (interface (names_of schema)))
  interface_behind s = texts_before blank (texts_value (λ n. (s, n)) (λ (r : Role). (r.0 ≡ s) × IsInterface schema r.1)
      (λ (r : Role). interface_name schema r.1)
      (λ n h. (refl, h)) (λ n h. refl) (λ r h. (r.1, h.1, ap (λ (s : EndpointSide). (s, r.1)) (sym h.0))) (texts_interface schema))

  texts_role : HasTexts (Is (λ (r : Role). IsInterface schema r.1) (λ (r : Role). blank ∷ (side_word r.0 ++ blank ∷ interface_name schema r.1)))
      (role (names_of schema))
  unfolding role
  texts_role = texts_fine (λ r h. h.1.1) (λ r h. (tt, (refl, h))) (λ r h. refl)
      (texts_before blank (texts_then (λ (r : Role). r.0) (λ s r h. h.0) texts_side interface_behind))

  texts_bind : HasTexts (Of schema commands.Bind) (bind (names_of schema))
  unfolding bind
  texts_bind = texts_as (λ a w h. made schema commands.Bind a (askeds.Bind h.0 h.1.0 h.1.1) w h.4 ((refl, (h.2, h.3)), h.5)) to
      (texts2 (λ x r. askeds.Bind x r.0 r.1) texts_thing texts_role)
    where
      to : (a : Asked) (w : List ℕ) → Of schema commands.Bind a w → Flat2 (λ x r. askeds.Bind x r.0 r.1) texts_thing texts_role a w
      to (askeds.Bind x side n) w h = (x, (side, n), h.0.1.0, h.0.1.1, refl, h.1)
      to _ w h = absurd (let e = h.0.0 in cc)

  texts_associate : HasTexts (Of schema commands.Associate) (associate (names_of schema))
  unfolding associate
  texts_associate = texts_as (λ a w h. made schema commands.Associate a (askeds.Associate h.0 h.1.0 h.1.1) w h.4 ((refl, (h.2, h.3)), h.5)) to
      (texts2 (λ x r. askeds.Associate x r.0 r.1) texts_end texts_role)
    where
      to : (a : Asked) (w : List ℕ) → Of schema commands.Associate a w → Flat2 (λ x r. askeds.Associate x r.0 r.1) texts_end texts_role a w
      to (askeds.Associate x side n) w h = (x, (side, n), h.0.1.0, h.0.1.1, refl, h.1)
      to _ w h = absurd (let e = h.0.0 in cc)

  texts_attach : HasTexts (Of schema commands.Attach) attach
  unfolding attach
  texts_attach = texts_as (λ a w h. made schema commands.Attach a (askeds.Attach h.0 h.1) w h.4 ((refl, (h.2, h.3)), h.5)) to
      (texts_apart askeds.Attach texts_pending texts_sequence)
    where
      to : (a : Asked) (w : List ℕ) → Of schema commands.Attach a w → Flat2 askeds.Attach texts_pending (texts_before blank texts_sequence) a w
      to (askeds.Attach p t) w h = (p, t, h.0.1.0, h.0.1.1, refl, h.1)
      to _ w h = absurd (let e = h.0.0 in cc)

  -- a call at a moment
  module _ (at : Option ℤ) where
    -- a call, and its text
    abbrev Calls : Asked → List ℕ → Type 0
    Calls a w = Flat2 (λ p o. askeds.Call p.0 p.1 o) texts_endpoint (texts_before blank (texts_outgoing schema Request at)) a w

    texts_calls : HasTexts Calls (call schema (names_of schema) at)
    unfolding call
    texts_calls = texts_apart (λ p o. askeds.Call p.0 p.1 o) texts_endpoint (texts_outgoing schema Request at)

    -- an answer, and its text
    abbrev Answers : Asked → List ℕ → Type 0
    Answers a w = Flat2 askeds.Answer texts_responder (texts_before blank (texts_outgoing schema Response at)) a w

    texts_answers : HasTexts Answers (answer schema (names_of schema) at)
    unfolding answer
    texts_answers = texts_apart askeds.Answer texts_responder (texts_outgoing schema Response at)

    -- behind its moment, it is a call, or an answer
    call_from : (a : Asked) (w v : List ℕ) → IsMoment at → Calls a v → w ≡ behind_at at v → Of schema (commands.Call (has_moment at)) a w
    call_from a w v k h e = made schema (commands.Call (has_moment at)) a (askeds.Call h.0.0 h.0.1 h.1) w h.4 (
      (
        ap (λ (m : Option ℤ). commands.Call (has_moment m)) h.3.3,
        (h.2.0, h.2.1, (h.3.0, h.3.1, h.3.2, subst IsMoment (sym h.3.3) k)),
      ),
      e ∙ ap (behind_at at) h.5 ∙ ap (λ (m : Option ℤ). behind_at m (call_rest h.0.0 h.0.1 h.1)) (sym h.3.3),
    )

    answer_from : (a : Asked) (w v : List ℕ) → IsMoment at → Answers a v → w ≡ behind_at at v → Of schema (commands.Answer (has_moment at)) a w
    answer_from a w v k h e = made schema (commands.Answer (has_moment at)) a (askeds.Answer h.0 h.1) w h.4 (
      (
        ap (λ (m : Option ℤ). commands.Answer (has_moment m)) h.3.3,
        (h.2, (h.3.0, h.3.1, h.3.2, subst IsMoment (sym h.3.3) k)),
      ),
      e ∙ ap (behind_at at) h.5 ∙ ap (λ (m : Option ℤ). behind_at m (answer_rest h.0 h.1)) (sym h.3.3),
    )

    call_to : (x : EndId) (id : ℕ) (o : Outgoing) → o.moment ≡ at → IsAsked schema (askeds.Call x id o) → Calls (askeds.Call x id o) (call_rest x id o)
    call_to x id o e h = ((x, id), o, (h.0, h.1), (h.2.0, h.2.1, h.2.2, e), refl, refl)

    answer_to : (r : ResponderId) (o : Outgoing) → o.moment ≡ at → IsAsked schema (askeds.Answer r o) → Answers (askeds.Answer r o) (answer_rest r o)
    answer_to r o e h = (r, o, h.0, (h.1.0, h.1.1, h.1.2, e), refl, refl)

  texts_call : HasTexts (Of schema (commands.Call false)) (call schema (names_of schema) None)
  texts_call = texts_as (λ a w h. call_from None a w w tt h refl) to (texts_calls None)
    where
      to : (a : Asked) (w : List ℕ) → Of schema (commands.Call false) a w → Calls None a w
      to (askeds.Call x id o) w h =
          let e : o.moment ≡ None = none_of o.moment (let e = h.0.0 in cc) in
          subst (Calls None (askeds.Call x id o)) (sym (h.1 ∙ ap (λ (m : Option ℤ). behind_at m (call_rest x id o)) e)) (call_to None x id o e h.0.1)
      to _ w h = absurd (let e = h.0.0 in cc)

  texts_answer : HasTexts (Of schema (commands.Answer false)) (answer schema (names_of schema) None)
  texts_answer = texts_as (λ a w h. answer_from None a w w tt h refl) to (texts_answers None)
    where
      to : (a : Asked) (w : List ℕ) → Of schema (commands.Answer false) a w → Answers None a w
      to (askeds.Answer r o) w h =
          let e : o.moment ≡ None = none_of o.moment (let e = h.0.0 in cc) in
          subst (Answers None (askeds.Answer r o)) (sym (h.1 ∙ ap (λ (m : Option ℤ). behind_at m (answer_rest r o)) e)) (answer_to None r o e h.0.1)
      to _ w h = absurd (let e = h.0.0 in cc)

  -- behind a blank and a moment
  abbrev At : (Option ℤ → Asked → List ℕ → Type 0) → Asked → List ℕ → Type 0
  At Commands a w = (v : List ℕ) × ((z : ℤ) × IsLong z × (u : List ℕ) × Commands (Some z) a u × (v ≡ signed_decimal z ++ u)) × (w ≡ blank ∷ v)

  texts_call_at : HasTexts (Of schema (commands.Call true)) (call_at schema (names_of schema))
  unfolding call_at
  texts_call_at = texts_as from to (texts_behind blank (texts_chain texts_moment (λ z k. texts_calls (Some z))))
    where
      from : (a : Asked) (w : List ℕ) → At Calls a w → Of schema (commands.Call true) a w
      from a w h = let k = h.1 in call_from (Some k.0) a w k.2 k.1 k.3 (h.2 ∙ ap (λ (v : List ℕ). blank ∷ v) k.4)

      to : (a : Asked) (w : List ℕ) → Of schema (commands.Call true) a w → At Calls a w
      to (askeds.Call x id o) w h =
          let s = some_of o.moment (let e = h.0.0 in cc) in
          let rest = call_rest x id o in (
            signed_decimal s.0 ++ rest,
            (s.0, subst IsMoment s.1 h.0.1.2.3, rest, call_to (Some s.0) x id o s.1 h.0.1, refl),
            h.1 ∙ ap (λ (m : Option ℤ). behind_at m rest) s.1,
          )
      to _ w h = absurd (let e = h.0.0 in cc)

  texts_answer_at : HasTexts (Of schema (commands.Answer true)) (answer_at schema (names_of schema))
  unfolding answer_at
  texts_answer_at = texts_as from to (texts_behind blank (texts_chain texts_moment (λ z k. texts_answers (Some z))))
    where
      from : (a : Asked) (w : List ℕ) → At Answers a w → Of schema (commands.Answer true) a w
      from a w h = let k = h.1 in answer_from (Some k.0) a w k.2 k.1 k.3 (h.2 ∙ ap (λ (v : List ℕ). blank ∷ v) k.4)

      to : (a : Asked) (w : List ℕ) → Of schema (commands.Answer true) a w → At Answers a w
      to (askeds.Answer r o) w h =
          let s = some_of o.moment (let e = h.0.0 in cc) in
          let rest = answer_rest r o in (
            signed_decimal s.0 ++ rest,
            (s.0, subst IsMoment s.1 h.0.1.1.3, rest, answer_to (Some s.0) r o s.1 h.0.1, refl),
            h.1 ∙ ap (λ (m : Option ℤ). behind_at m rest) s.1,
          )
      to _ w h = absurd (let e = h.0.0 in cc)

  -- raw bytes
  abbrev Raw3 : Asked → List ℕ → Type 0
  Raw3 a w = (v : List ℕ) × ((x : Thing) × IsThing x × (u : List ℕ) × ((bytes : List ℕ) × AreBytes bytes × (t : List ℕ)
      × ((handles : List Thing) × AreAll IsThing handles × (r : List ℕ) × Only (askeds.Raw x bytes handles) a r × (t ≡ things_text handles ++ r))
      × (u ≡ (blank ∷ (hex_text bytes ++ blank ∷ [])) ++ t)) × (v ≡ thing_text x ++ u)) × (w ≡ blank ∷ v)

  raw_from : (a : Asked) (w : List ℕ) → Raw3 a w → Of schema commands.Raw a w
  raw_from a w h =
      let k = h.1 in
      let l = k.3 in
      let n = l.3 in
      made schema commands.Raw a (askeds.Raw k.0 l.0 n.0) w n.3.0 (
        (refl, (k.1, l.1, n.1)),
        h.2
            ∙ ap (λ (t : List ℕ). blank ∷ t)
            (k.4 ∙ ap (λ (t : List ℕ). thing_text k.0 ++ t)
            (l.4 ∙ ap (λ (t : List ℕ). (blank ∷ (hex_text l.0 ++ blank ∷ [])) ++ t) (n.4 ∙ ap (λ (t : List ℕ). things_text n.0 ++ t) n.3.1))),
      )

  raw_to : (a : Asked) (w : List ℕ) → Of schema commands.Raw a w → Raw3 a w
  raw_to (askeds.Raw x bytes handles) w h =
      let t = things_text handles ++ arrow_text in
      let u = (blank ∷ (hex_text bytes ++ blank ∷ [])) ++ t in (
        thing_text x ++ u,
        (x, h.0.1.0, u, (bytes, h.0.1.1, t, (handles, h.0.1.2, arrow_text, (refl, refl), refl), refl), refl),
        h.1,
      )
  raw_to _ w h = absurd (let e = h.0.0 in cc)

  texts_raw : HasTexts (Of schema commands.Raw) raw
  unfolding raw
  texts_raw = texts_as raw_from raw_to (texts_behind blank (texts_chain texts_thing (λ x k.
      regroup blank (hex blank) (λ bytes. things then λ handles. asks (askeds.Raw x bytes handles)) (texts_chain (texts_before blank (texts_hex blank))
      (λ bytes l. texts_chain texts_things (λ handles n. texts_asks (askeds.Raw x bytes handles)))))))

  -- what is closed, by what it begins with
  abbrev One : {X : Type 0} → (X → Type 0) → (X → List ℕ) → (X → Closing) → Asked → List ℕ → Type 0
  One {X} ok text make a w = (x : X) × ok x × (u : List ℕ) × Only (askeds.Close (make x)) a u × (w ≡ text x ++ u)

  -- the endpoint of an id at this end is closed
  abbrev Id : EndId → Asked → List ℕ → Type 0
  Id x a w = (v : List ℕ) × One IsSmall decimal (λ id. closings.Endpoint x id) a v × (w ≡ hash ∷ v)

  -- an end is closed, or an endpoint there
  abbrev AtEnd : Asked → List ℕ → Type 0
  AtEnd a w = (x : EndId) × IsEnd x × (u : List ℕ) × (Id x a u ⊎ Only (askeds.Close (closings.Handle (End x))) a u) × (w ≡ end_text x ++ u)

  texts_closing_at : (x : EndId) → HasTexts (λ a u. Id x a u ⊎ Only (askeds.Close (closings.Handle (End x))) a u) (closing_at x)
  unfolding closing_at
  texts_closing_at x = texts_either _ (texts_behind hash (texts_chain texts_index (λ id k. texts_asks (askeds.Close (closings.Endpoint x id)))))
      (texts_asks (askeds.Close (closings.Handle (End x))))

  -- a token is closed
  abbrev OfToken : Asked → List ℕ → Type 0
  OfToken = One IsToken (λ t. thing_text (Token t)) (λ t. closings.Handle (Token t))

  -- a pending endpoint is closed
  abbrev OfPending : Asked → List ℕ → Type 0
  OfPending = One IsPending pending_text closings.Pending

  -- a responder is closed
  abbrev OfResponder : Asked → List ℕ → Type 0
  OfResponder = One IsResponder responder_text closings.Responder

  -- one of these is closed
  abbrev Any : Asked → List ℕ → Type 0
  Any a w = OfToken a w ⊎ (OfPending a w ⊎ (OfResponder a w ⊎ AtEnd a w))

  texts_closing : HasTexts Any closing
  texts_closing = texts_either _ (texts_chain texts_token (λ t k. texts_asks (askeds.Close (closings.Handle (Token t)))))
      (texts_either _ (texts_chain texts_pending (λ p k. texts_asks (askeds.Close (closings.Pending p))))
      (texts_either _ (texts_chain texts_responder (λ r k. texts_asks (askeds.Close (closings.Responder r))))
      (texts_chain texts_end (λ x k. texts_closing_at x))))

  -- a thing to close, and its text
  abbrev Closed : Asked → List ℕ → Type 0
  Closed a w = (what : Closing) × IsClosing what × (a ≡ askeds.Close what) × (w ≡ closing_text what ++ arrow_text)

  closed_one : {X : Type 0} {ok : X → Type 0} {text : X → List ℕ} (make : X → Closing) → ((x : X) → ok x → IsClosing (make x))
      → ((x : X) → text x ≡ closing_text (make x)) → (a : Asked) (w : List ℕ) → One ok text make a w → Closed a w
  closed_one {X} {ok} {text} make fine same a w h = (
    make h.0,
    fine h.0 h.1,
    h.3.0,
    h.4 ∙ ap (λ (l : List ℕ). text h.0 ++ l) h.3.1
        ∙ ap (λ (l : List ℕ). l ++ arrow_text) (same h.0),
  )

  closed_at : (a : Asked) (w : List ℕ) (x : EndId) (u : List ℕ) → IsEnd x → w ≡ end_text x ++ u
      → Id x a u ⊎ Only (askeds.Close (closings.Handle (End x))) a u → Closed a w
  closed_at a w x u k e (inr h) = (closings.Handle (End x), k, h.0, e ∙ ap (λ (l : List ℕ). end_text x ++ l) h.1)
  closed_at a w x u k e (inl h) =
      let n = h.1 in (
        closings.Endpoint x n.0,
        (k, n.1),
        n.3.0,
        e ∙ ap (λ (l : List ℕ). end_text x ++ l) (h.2 ∙ ap (λ (l : List ℕ). hash ∷ l) (n.4 ∙ ap (λ (l : List ℕ). decimal n.0 ++ l) n.3.1))
            ∙ sym (append_assoc (end_text x) (hash ∷ decimal n.0) arrow_text),
      )

  closed_from : (a : Asked) (w : List ℕ) → Any a w → Closed a w
  closed_from a w (inl h) = closed_one (λ t. closings.Handle (Token t)) (λ t k. k) (λ t. refl) a w h
  closed_from a w (inr (inl h)) = closed_one closings.Pending (λ p k. k) (λ p. refl) a w h
  closed_from a w (inr (inr (inl h))) = closed_one closings.Responder (λ r k. k) (λ r. refl) a w h
  closed_from a w (inr (inr (inr h))) = closed_at a w h.0 h.2 h.1 h.4 h.3

  closed_to : (a : Asked) (w : List ℕ) (what : Closing) → IsClosing what → a ≡ askeds.Close what → w ≡ closing_text what ++ arrow_text → Any a w
  closed_to a w (closings.Handle (Token t)) k e f = inl (t, k, arrow_text, (e, refl), f)
  closed_to a w (closings.Handle (End x)) k e f = inr (inr (inr (x, k, arrow_text, inr (e, refl), f)))
  closed_to a w (closings.Pending p) k e f = inr (inl (p, k, arrow_text, (e, refl), f))
  closed_to a w (closings.Responder r) k e f = inr (inr (inl (r, k, arrow_text, (e, refl), f)))
  closed_to a w (closings.Endpoint x id) k e f = inr (inr (inr (
    x,
    k.0,
    hash ∷ (decimal id ++ arrow_text),
    inl (decimal id ++ arrow_text, (id, k.1, arrow_text, (e, refl), refl), refl),
    f ∙ append_assoc (end_text x) (hash ∷ decimal id) arrow_text,
  )))

  close_to : (a : Asked) (w : List ℕ) → Of schema commands.Close a w → (v : List ℕ) × Any a v × (w ≡ blank ∷ v)
  close_to (askeds.Close what) w h = (
    closing_text what ++ arrow_text,
    closed_to (askeds.Close what)
        (closing_text what ++ arrow_text) what h.0.1 refl refl,
    h.1,
  )
  close_to _ w h = absurd (let e = h.0.0 in cc)

  close_from : (a : Asked) (w : List ℕ) → (v : List ℕ) × Any a v × (w ≡ blank ∷ v) → Of schema commands.Close a w
  close_from a w h =
      let k = closed_from a h.0 h.1 in
      made schema commands.Close a (askeds.Close k.0) w k.2 ((refl, k.1), h.2 ∙ ap (λ (l : List ℕ). blank ∷ l) k.3)

  texts_close : HasTexts (Of schema commands.Close) close
  unfolding close
  texts_close = texts_as close_from close_to (texts_behind blank texts_closing)

  texts_after : (word : CommandWord) → HasTexts (Of schema word) (asked_after schema (names_of schema) word)
  texts_after commands.Pipe = texts_pipe
  texts_after commands.Join = texts_join
  texts_after commands.Mint = texts_mint
  texts_after commands.Bind = texts_bind
  texts_after commands.Associate = texts_associate
  texts_after commands.Attach = texts_attach
  texts_after (commands.Call false) = texts_call
  texts_after (commands.Call true) = texts_call_at
  texts_after (commands.Answer false) = texts_answer
  texts_after (commands.Answer true) = texts_answer_at
  texts_after commands.Raw = texts_raw
  texts_after commands.Take = texts_take
  texts_after commands.Close = texts_close
  texts_after (commands.Notify word) = texts_notice_after schema word
  texts_after commands.Pause = texts_pause schema
  texts_after commands.Data = texts_data_pipe schema
  texts_after (commands.Flow word) = texts_flow_after schema word
  texts_after commands.Skip = texts_skip

  -- a command that can be printed, by its word and what stands behind it
  abbrev Worded : Asked → List ℕ → Type 0
  Worded a w = (word : CommandWord) × Unit {0} × ((word_of a ≡ word) × IsAsked schema a) × (w ≡ command_text word ++ after schema a)

  from_worded : (a : Asked) (w : List ℕ) → Worded a w → Is (IsAsked schema) (λ (a : Asked). asked_text schema a ++ codes " -> ") a w
  from_worded a w h = (h.2.1, h.3 ∙ ap (λ (word : CommandWord). command_text word ++ after schema a) (sym h.2.0) ∙ whole schema a)

  to_worded : (a : Asked) (w : List ℕ) → Is (IsAsked schema) (λ (a : Asked). asked_text schema a ++ codes " -> ") a w → Worded a w
  to_worded a w h = (word_of a, tt, (refl, h.0), h.1 ∙ sym (whole schema a))

  pub texts_asked : HasTexts (Is (IsAsked schema) (λ (a : Asked). asked_text schema a ++ codes " -> ")) (asked schema (names_of schema))
  unfolding asked
  texts_asked = texts_as from_worded to_worded (texts_follow (texts_keyword command_text command_words each_command all_commands) (λ word k. texts_after word))
