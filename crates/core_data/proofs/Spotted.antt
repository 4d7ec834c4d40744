-- Where bytes are moved, by the events, and what is told there.
use Rattle.std.proofs.Common.{◌≡◌, ◌<◌, Bool, true, false, List, refl, sym, ap, ◌∙◌, subst, arith, Some, None}
use Rattle.std.specs.Prelude.{◌||◌, not, if◌then◌else◌, Option, Result, Ok, Err}
use Rattle.std.specs.Option.{option_map}
use Rattle.std.proofs.lemmas.List.{length-reverse}
use Rattle.handle_table.specs.Places.{place_of}
use Rattle.handle_table.specs.Things.{has, same_token}
use Rattle.handle_table.specs.declared.thing.Thing.{Thing}
use Rattle.handle_table.specs.declared.thing.Thing.TheVariants.{End, Token}
use Rattle.handle_table.specs.declared.thing.TokenId.{TokenId}
use Rattle.handle_table.proofs.ThingsLemmas.{same_token-true}
use Rattle.mj_base.specs.declared.ids.SeqId.{SeqId}
use Rattle.bind_model.specs.Data.{DataPipe, pipe_of}
use Rattle.bind_model.specs.Machine.{gone, made, out}
use Rattle.bind_model.specs.Moves.{moved, moved_at, moved_by}
use Rattle.bind_model.specs.declared.asked.Asked.TheVariants.{Flow as Move}
use Rattle.bind_model.specs.declared.event.Event.{Event}
use Rattle.bind_model.specs.declared.flow.Flow.{Flow}
use Rattle.bind_model.specs.declared.flow.Flow.TheVariants as flows
use Rattle.bind_model.specs.declared.told.Told.TheVariants.{No}
use Rattle.bind_model.specs.declared.told.Why.{Why}
use Rattle.bind_model.specs.declared.told.Why.TheVariants.{NoName, NotData}
use Rattle.bind_model.proofs.DataLemmas.{DataKept, data_kept}
use Rattle.bind_model.proofs.Fresh.{kept as all_kept}
use Rattle.data_pipe.specs.History.{other_of, side_of}
use Rattle.data_pipe.specs.Table.{behind, side_in}
use Rattle.data_pipe.specs.declared.side.DataToken.{DataToken}
use Rattle.data_pipe.specs.declared.side.Side.{Side}
use Rattle.data_pipe.specs.declared.side.Side.TheVariants.{Producer, Consumer}
use Rattle.data_pipe.proofs.Agreeing.{is_side, side_is, token_of}
use Rattle.data_pipe.proofs.InHistory.{wrong_side}
use Rattle.core_state.specs.Agreement.{Holds, is_out, past_of, wire_in}
use Rattle.core_state.specs.Doing.{told_to}
use Rattle.core_state.specs.declared.state.State.{State}
use Rattle.core_state.proofs.Facts.{made_few, tokens_few}
use Rattle.core_data.specs.declared.spot.Spot.{Spot}
use Rattle.core_data.specs.Spots.{is_shut_at, other_token, same_side, side_asked, spot_at, spot_in, spot_of}

-- ## Which side a token is, and which is asked

abbrev pub side_by : Bool → Side
side_by is = if is then Producer else Consumer

-- a token of the side that is asked is that of the events, and else it isn't
right_side : (d : DataPipe) (t : TokenId) (f : Flow) (producer consumer : Bool) → same_token d.producer t ≡ producer → same_token d.consumer t ≡ consumer
    → (producer || consumer) ≡ true → (producer ≡ true → consumer ≡ false) → same_token (side_of f d) t ≡ same_side (side_by producer) (side_asked f)
right_side d t (flows.Put bytes all) true consumer p c one other = p
right_side d t (flows.Put bytes all) false consumer p c one other = p
right_side d t flows.BeginPut true consumer p c one other = p
right_side d t flows.BeginPut false consumer p c one other = p
right_side d t (flows.EndPut bytes) true consumer p c one other = p
right_side d t (flows.EndPut bytes) false consumer p c one other = p
right_side d t (flows.Get n all) true consumer p c one other = c ∙ other refl
right_side d t (flows.Get n all) false consumer p c one other = c ∙ one
right_side d t flows.BeginGet true consumer p c one other = c ∙ other refl
right_side d t flows.BeginGet false consumer p c one other = c ∙ one
right_side d t (flows.EndGet n) true consumer p c one other = c ∙ other refl
right_side d t (flows.EndGet n) false consumer p c one other = c ∙ one

-- the token of the other side, where the side that is asked is the token's
pub other_is : (d : DataPipe) (f : Flow) (producer : Bool) → d.consumer ≡ behind d.producer → same_side (side_by producer) (side_asked f) ≡ true
    → other_token (record { producer = d.producer; side = side_by producer }) ≡ other_of f d
other_is d (flows.Put bytes all) true next e = sym next
other_is d (flows.Put bytes all) false next e = absurd cc
other_is d flows.BeginPut true next e = sym next
other_is d flows.BeginPut false next e = absurd cc
other_is d (flows.EndPut bytes) true next e = sym next
other_is d (flows.EndPut bytes) false next e = absurd cc
other_is d (flows.Get n all) true next e = absurd cc
other_is d (flows.Get n all) false next e = refl
other_is d flows.BeginGet true next e = absurd cc
other_is d flows.BeginGet false next e = refl
other_is d (flows.EndGet n) true next e = absurd cc
other_is d (flows.EndGet n) false next e = refl

module _ (s : State) (seq : SeqId) (h : Holds s) (f : Flow) where
  abbrev past : List Event
  past = past_of s

  pub kept : DataKept past
  kept = data_kept (wire_in s) s.seqs past h.legal

  -- both sides of a data pipe are apart
  apart : (t : TokenId) (d : DataPipe) → pipe_of past t ≡ Some d → same_token d.producer t ≡ true → same_token d.consumer t ≡ false
  apart t d e p = go (same_token d.consumer t) refl
    where
      go : (b : Bool) → same_token d.consumer t ≡ b → b ≡ false
      go true c =
          let same : d.producer ≡ d.consumer = same_token-true d.producer t p ∙ sym (same_token-true d.consumer t c) in
          let here : same_token d.producer d.consumer ≡ true =
          ap (λ (x : TokenId). same_token d.producer x) (same_token-true d.consumer t c) ∙ p in
          let no = (kept.own t d e).2 in absurd cc
      go false c = refl

  pub side_fits : (t : TokenId) (d : DataPipe) → pipe_of past t ≡ Some d
      → same_token (side_of f d) t ≡ same_side (side_by (same_token d.producer t)) (side_asked f)
  side_fits t d e =
      right_side d t f (same_token d.producer t) (same_token d.consumer t) refl refl (is_side past t d e) (apart t d e)

  -- ## Why nothing is moved

  none_told : (t : TokenId) (why : Why) (o : Option DataPipe) → pipe_of past t ≡ o → spot_of s.pipes t f (option_map (token_of t) o) ≡ Err why
      → moved_at past t f o ≡ No why
  none_told t why None e g = let same : NotData ≡ why = cc in ap (λ (w : Why). No w) same
  none_told t why (Some d) e g = go (same_side (side_by (same_token d.producer t)) (side_asked f)) refl g
    where
      go : (fits : Bool) → same_side (side_by (same_token d.producer t)) (side_asked f) ≡ fits
          → if◌then◌else◌ {A = Result Spot Why} (not fits) (Err NotData)
          (Ok (record { token = t; producer = d.producer; gone = is_shut_at s.pipes (other_token (token_of t d)) })) ≡ Err why
          → moved past t d f ≡ No why
      go true fits g = absurd cc
      go false fits g =
          let same : NotData ≡ why = cc in wrong_side past d t f (side_fits t d e ∙ fits) ∙ ap (λ (w : Why). No w) same

  by_thing : (x : Thing) (why : Why) → spot_at s f x ≡ Err why → moved_by past x f ≡ No why
  by_thing (End x) why e = let same : NotData ≡ why = cc in ap (λ (w : Why). No w) same
  by_thing (Token t) why e =
      none_told t why (pipe_of past t) refl
      (ap (spot_of s.pipes t f) (sym (side_is past s.tables.flows kept h.tables.flows t)) ∙ e)

  -- where there is a reason, that is told
  pub nowhere : (x : Thing) (why : Why) → spot_in s x f ≡ Err why → told_to s seq (Move x f) ≡ No why
  nowhere x why e = go (is_out (place_of s.pipes.table x)) (h.agrees.outs x) e
    where
      go : (b : Bool) → b ≡ has (out past) x → (if not b then Err NoName else spot_at s f x) ≡ Err why → told_to s seq (Move x f) ≡ No why
      go true here e = rw (sym here) (by_thing x why e)
      go false away e = let same : NoName ≡ why = cc in rw (sym away) (ap (λ (w : Why). No w) same)

-- the number of a producer leaves room for that of its consumer
pub few_serial : (s : State) → Holds s → (t : TokenId) (found : DataToken) → side_in s.tables.flows t ≡ Some found → found.producer.serial < 4294967295
few_serial s h t found e = go (pipe_of (past_of s) t) refl
  where
    k : DataKept (past_of s)
    k = data_kept (wire_in s) s.seqs (past_of s) h.legal

    below : (d : DataPipe) → has (made (past_of s)) (Token d.producer) ≡ true → d.producer.serial < 4294967295
    below d there =
        let low = (all_kept (wire_in s) s.seqs (past_of s) h.legal).tokens d.producer there in
        let few = h.few in
        omega (arith, low, few, tokens_few (past_of s) d.producer.seq, made_few (wire_in s) s.seqs (past_of s) h.legal, length-reverse s.log.events)

    found_is : (o : Option DataPipe) → pipe_of (past_of s) t ≡ o → option_map (token_of t) o ≡ Some found
    found_is o there = sym (side_is (past_of s) s.tables.flows k h.tables.flows t ∙ ap (option_map (token_of t)) there) ∙ e

    go : (o : Option DataPipe) → pipe_of (past_of s) t ≡ o → found.producer.serial < 4294967295
    go None there = let none : ◌≡◌ {A = Option DataToken} None (Some found) = found_is None there in absurd cc
    go (Some d) there =
        let some : ◌≡◌ {A = Option DataToken} (Some (token_of t d)) (Some found) = found_is (Some d) there in
        let same : token_of t d ≡ found = cc in
        subst (λ (x : DataToken). x.producer.serial < 4294967295) same (below d (k.own t d there).3)
