-- That raw bytes are refused or written, by their way.
use Rattle.data_pipe.proofs.Busy.{busy_is}
use Rattle.bind_model.proofs.DataLemmas.{data_kept}
use Rattle.std.proofs.Common.{◌≡◌, ◌<◌, ℕ, Bool, true, false, List, [], ◌∷◌, ◌++◌, length, refl, sym, ap, ◌∙◌, subst, arith}
use Rattle.std.specs.Prelude.{if◌then◌else◌, ◌&&◌, not, nat_le, nat_lt, Option, Some, Result, Ok, Err, is_some}
use Rattle.std.specs.List.{list_all}
use Rattle.mj_base.specs.declared.limits.TheConstants.{MAX_UNREAD_MESSAGES}
use Rattle.mj_base.specs.declared.ids.EndId.{EndId}
use Rattle.mj_base.specs.declared.ids.SeqId.{SeqId}
use Rattle.handle_table.specs.Things.{has, is_distinct}
use Rattle.handle_table.specs.declared.places.Place.TheVariants as places
use Rattle.handle_table.specs.declared.thing.Thing.{Thing}
use Rattle.handle_table.specs.declared.thing.Thing.TheVariants.{End, Token}
use Rattle.handle_table.proofs.ThingsLemmas.{and_left}
use Rattle.message_pipe.specs.Contents.{Becomes, Contents}
use Rattle.message_pipe.specs.Ends.{end_of, peer_of, unread_at, with_message}
use Rattle.message_pipe.specs.Mail.{weighs}
use Rattle.message_pipe.specs.declared.message.Message.{Message}
use Rattle.message_pipe.specs.declared.pipe_end.PipeEnd.{PipeEnd}
use Rattle.bind_model.specs.Machine.{made, out, peer}
use Rattle.bind_model.specs.Plain.{end_written}
use Rattle.bind_model.specs.Replies as machine
use Rattle.bind_model.specs.Replies.{answer, cannot_write, first_of, unless, wrote_at}
use Rattle.bind_model.specs.Wire.{Wire}
use Rattle.bind_model.specs.declared.asked.Asked.TheVariants as asks
use Rattle.bind_model.specs.declared.commands.Reply.TheVariants as replies
use Rattle.bind_model.specs.declared.event.Event.{Event}
use Rattle.bind_model.specs.declared.limits.TheConstants.{MAX_RAW_BYTES, MAX_RAW_HANDLES}
use Rattle.bind_model.specs.declared.told.Told.{Told}
use Rattle.bind_model.specs.declared.told.Told.TheVariants as tells
use Rattle.bind_model.specs.declared.told.Why.{Why}
use Rattle.bind_model.specs.declared.told.Why.TheVariants.{NoName, TooLong, TooManyHandles}
use Rattle.bind_model.proofs.Counting.{present, times-present}
use Rattle.bind_model.proofs.Fresh.{kept}
use Rattle.bind_model.proofs.Kept.{Kept}
use Rattle.bind_model.proofs.Outcomes.{Outcome, outcome, Writes, writes}
use Rattle.core_state.specs.Agreement.{Agrees, past_of, schema_of, wire_in}
use Rattle.core_state.specs.Routers.{Routers}
use Rattle.core_state.specs.Doing.{CanDo, Done, told_in}
use Rattle.core_state.specs.Placing.{PutsAll, all_out}
use Rattle.core_sending.specs.steps.Raw.{all_out_with, command_of, raw_way, raw_way_from}
use Rattle.core_sending.specs.Ways.{way_to}
use Rattle.core_sending.specs.declared.raw.RawBytes.{RawBytes}
use Rattle.core_state.specs.declared.state.State.{State}
use Rattle.core_state.proofs.Facts.{peer_is}
use Rattle.core_sending.proofs.Fitted.{held_not, last_to, outs_is, passed, test_if, to_is, to_room, told_of_way}
use Rattle.core_state.proofs.Held.{finish}
use Rattle.core_sending.proofs.Sending.{IsWriting, sent_agrees}
use Rattle.core_state.proofs.Steady.{steady}

-- a bound on a length, as the code has it and as the machine does
bound_is : (n m : ℕ) → not (nat_lt m n) ≡ nat_le n m
bound_is n m = grind (arith)

test_most : (n m : ℕ) (why : Why) (rest : Result EndId Why) (tests : List (Option Why)) (done : Told) → told_of_way done rest ≡ first_of tests done
    → told_of_way done (if nat_lt m n then Err why else rest) ≡ first_of (unless (nat_le n m) why ∷ tests) done
test_most n m why rest tests done h =
    test_if (nat_lt m n) why rest tests done h ∙ ap (λ (b : Bool). first_of (unless b why ∷ tests) done) (bound_is n m)

-- a test before others
test_first : (b : Bool) (rest : Result EndId Why) (done told : Told) → (b ≡ true → told_of_way done rest ≡ told)
    → told_of_way done (if not b then Err NoName else rest) ≡ first_of (unless b NoName ∷ []) told
test_first true rest done told h = h refl
test_first false rest done told h = refl

-- what is known of bytes that are written
facts : (wire : Wire) (seqs : ℕ) (past : List Event) (seq : SeqId) (y z : EndId) (bytes : List ℕ) (handles : List Thing)
    → Outcome wire seqs past seq (asks.Raw (End y) bytes handles) (tells.Wrote z) → Writes wire past z handles
facts wire seqs past seq y z bytes handles (writes o w) = w

module _ (old : State) (seq : SeqId) (r : RawBytes) (can : CanDo old seq (command_of r)) where
  k : Kept (wire_in old) (past_of old)
  k = kept (wire_in old) old.seqs (past_of old) can.able.holds.legal

  -- whether the caller has all handles
  abbrev own : Bool
  own = all_out_with old.pipes r.handle r.handles

  abbrev own_past : Bool
  own_past = machine.all_out (past_of old) (r.handle ∷ r.handles)

  own_is : own ≡ own_past
  own_is =
      ap (λ (b : Bool). b && (not (has r.handles r.handle) && all_out old.pipes r.handles)) (can.able.holds.agrees.outs r.handle)
      ∙ (ap (λ (b : Bool). has (out (past_of old)) r.handle && (not (has r.handles r.handle) && b))
      (outs_is (wire_in old) (past_of old) k old.pipes old.endpoints can.able.holds.agrees r.handles)
      ∙ group (has (out (past_of old)) r.handle) (not (has r.handles r.handle)) (list_all (λ z. has (out (past_of old)) z) r.handles) (is_distinct r.handles))
    where
      group : (a b c d : Bool) → (a && (b && (c && d))) ≡ ((a && c) && (b && d))
      group false b c d = refl
      group true b true d = refl
      group true true false d = refl
      group true false false d = refl

  made_of : (z : Thing) → has (out (past_of old)) z ≡ true → has (made (past_of old)) z ≡ true
  made_of z h = present z (made (past_of old)) (omega (arith, k.one z, times-present z (out (past_of old)) h))

  -- ## What is told

  abbrev done : Told
  done = tells.Wrote (end_written r.handle)

  from_told : (z : Thing) → has (made (past_of old)) z ≡ true
      → told_of_way (tells.Wrote (end_written z)) (raw_way_from z (length r.bytes) r.handles old.pipes old.tables.flows)
      ≡ wrote_at (wire_in old) (past_of old) z r.bytes r.handles
  from_told (Token t) m = refl
  from_told (End x) m =
      test_most (length r.bytes) MAX_RAW_BYTES TooLong _ _ (tells.Wrote x)
      (test_most (length r.handles) MAX_RAW_HANDLES TooManyHandles (way_to old.pipes old.tables.flows false r.handles (peer_of (end_of old.pipes.ends x)))
      (cannot_write (wire_in old) (past_of old) x false r.handles) (tells.Wrote x)
      (last_to (wire_in old) (past_of old) k old.pipes old.endpoints can.able.holds.agrees r.handles
      old.tables.flows
      (busy_is (wire_in old) old.seqs (past_of old) can.able.holds.legal old.tables.flows
      (data_kept (wire_in old) old.seqs (past_of old) can.able.holds.legal) can.able.holds.tables.flows r.handles)
      x m (tells.Wrote x) false))

  out_first : own_past ≡ true → has (out (past_of old)) r.handle ≡ true
  out_first h =
      and_left (has (out (past_of old)) r.handle) (list_all (λ z. has (out (past_of old)) z) r.handles)
      (and_left (has (out (past_of old)) r.handle && list_all (λ z. has (out (past_of old)) z) r.handles)
      (not (has r.handles r.handle) && is_distinct r.handles) h)

  way_told : told_of_way done (raw_way r.handle r.bytes r.handles own old.pipes old.tables.flows) ≡ told_in old seq (command_of r)
  way_told =
      ap (λ (b : Bool). told_of_way done (raw_way r.handle r.bytes r.handles b old.pipes old.tables.flows)) own_is
      ∙ test_first own_past (raw_way_from r.handle (length r.bytes) r.handles old.pipes old.tables.flows) done
      (wrote_at (wire_in old) (past_of old) r.handle r.bytes r.handles)
      (λ h. from_told r.handle (made_of r.handle (out_first h)))

  pub raw_refused : (why : Why) → raw_way r.handle r.bytes r.handles own old.pipes old.tables.flows ≡ Err why → told_in old seq (command_of r) ≡ tells.No why
  raw_refused why h = sym way_told ∙ ap (λ (w : Result EndId Why). told_of_way done w) h

  -- ## What is written

  module _ (x : EndId) (free : raw_way r.handle r.bytes r.handles own old.pipes old.tables.flows ≡ Ok x) where
    held : (not own ≡ false) × (raw_way_from r.handle (length r.bytes) r.handles old.pipes old.tables.flows ≡ Ok x)
    held = passed (not own) NoName _ x free

    writes_now : told_in old seq (command_of r) ≡ done
    writes_now = sym way_told ∙ ap (λ (w : Result EndId Why). told_of_way done w) free

    -- it is an end, and its peer is the end that the bytes go to
    from_end : (z : Thing) → raw_way_from z (length r.bytes) r.handles old.pipes old.tables.flows ≡ Ok x
        → (y : EndId) × (z ≡ End y) × (peer_of (end_of old.pipes.ends y) ≡ Some x)
    from_end (Token t) h = absurd cc
    from_end (End y) h =
        let a = passed (nat_lt MAX_RAW_BYTES (length r.bytes)) TooLong _ x h in
        let b = passed (nat_lt MAX_RAW_HANDLES (length r.handles)) TooManyHandles _ x a.1 in
        (y, refl, to_is old.pipes old.tables.flows r.handles false (peer_of (end_of old.pipes.ends y)) x b.1)

    here : (y : EndId) × (r.handle ≡ End y) × (peer_of (end_of old.pipes.ends y) ≡ Some x)
    here = from_end r.handle held.1

    -- that end isn't full
    has_room : (z : Thing) → raw_way_from z (length r.bytes) r.handles old.pipes old.tables.flows ≡ Ok x
        → weighs (unread_at old.pipes.ends x) < MAX_UNREAD_MESSAGES
    has_room (Token t) h = absurd cc
    has_room (End y) h =
        let a = passed (nat_lt MAX_RAW_BYTES (length r.bytes)) TooLong _ x h in
        let b = passed (nat_lt MAX_RAW_HANDLES (length r.handles)) TooManyHandles _ x a.1 in
        to_room old.pipes old.tables.flows r.handles false (peer_of (end_of old.pipes.ends y)) x b.1

    pub room : weighs (unread_at old.pipes.ends x) < MAX_UNREAD_MESSAGES
    room = has_room r.handle held.1

    abbrev y : EndId
    y = here.0

    known : Writes (wire_in old) (past_of old) y r.handles
    known =
        facts (wire_in old) old.seqs (past_of old) seq y y r.bytes r.handles
        (outcome (wire_in old) old.seqs (past_of old) seq (asks.Raw (End y) r.bytes r.handles) (tells.Wrote y)
        (subst (λ (z : Thing). tells.Wrote (end_written z) ≡ answer (wire_in old) old.seqs (past_of old) seq (asks.Raw z r.bytes r.handles)) here.1
        (sym writes_now)))

    made_here : has (made (past_of old)) (End y) ≡ true
    made_here =
        subst (λ (z : Thing). has (made (past_of old)) z ≡ true) here.1
        (made_of r.handle (out_first (sym own_is ∙ held_not own held.0)))

    peer_here : x ≡ peer (past_of old) y
    peer_here =
        let p = peer_is (wire_in old) (past_of old) k old.pipes old.endpoints can.able.holds.agrees y made_here in
        let q = here.2 in cc

    -- the other end was made
    pub there : is_some (end_of old.pipes.ends x) ≡ true
    there = ap (λ (o : Option PipeEnd). is_some o) (can.able.holds.agrees.ends x) ∙ rw (peer_here, k.peers y made_here) refl

    abbrev event_at : Thing → Event
    event_at z = record { seq = seq; asked = asks.Raw z r.bytes r.handles; told = tells.Wrote (end_written z) }

    end_writes : IsWriting (tells.Wrote y) (asks.Raw (End y) r.bytes r.handles)
    end_writes = record { made = refl; gone = refl; handed = refl; takes = λ z. refl; peer = λ z before. refl }

    agrees_now : (mid new : Contents) → Becomes x (with_message (record { bytes = r.bytes; handles = r.handles; emitted = false })) old.pipes mid
        → PutsAll r.handles (places.Unread x) mid new → Agrees (wire_in old) (event_at r.handle ∷ past_of old) new old.endpoints
    agrees_now mid new b p =
        subst (λ (z : Thing). Agrees (wire_in old) (event_at z ∷ past_of old) new old.endpoints) (sym here.1)
        (sent_agrees (wire_in old) (past_of old) k seq (asks.Raw (End y) r.bytes r.handles) (tells.Wrote y) y r.handles r.bytes end_writes refl (λ z. refl)
        known.own known.open_there old.pipes mid new old.endpoints old.endpoints
        (subst (λ (z : EndId). Becomes z (with_message (record { bytes = r.bytes; handles = r.handles; emitted = false })) old.pipes mid) peer_here b)
        (subst (λ (z : EndId). PutsAll r.handles (places.Unread z) mid new) peer_here p)
        (steady (wire_in old) (event_at (End y)) (past_of old)
        (record { draws = λ z n. refl; answers = λ z n. refl; associates = λ z. refl; endpoints = λ z n. refl }) old.endpoints can.able.holds.agrees.routers)
        can.able.holds.agrees)

    pub raw_done : (new : State) (things : List Thing) (message : Message) (mid : Contents) → schema_of new ≡ schema_of old → new.seqs ≡ old.seqs
        → new.rights ≡ old.rights → new.tables ≡ old.tables → new.endpoints ≡ old.endpoints → things ≡ r.handles
        → message ≡ record { bytes = r.bytes; handles = things; emitted = false }
        → Becomes x (with_message message) old.pipes mid → PutsAll r.handles (places.Unread x) mid new.pipes
        → new.log.events ≡ old.log.events
        ++ record { seq = seq; asked = asks.Raw r.handle r.bytes things; told = tells.Wrote (end_written r.handle) } ∷ []
        → Done old new seq (command_of r) (replies.Wrote r.handle)
    raw_done new things message mid schema seqs unmoved unnoticed same e m b p events =
        let is : message ≡ record { bytes = r.bytes; handles = r.handles; emitted = false } = m ∙ rw e refl in
        finish old new seq (command_of r) (replies.Wrote r.handle) can.able schema seqs unmoved unnoticed
        (record { none = refl; handed = λ wire. refl; after = λ rs. refl; gives = refl; hands = refl; halves = λ wire past. refl })
        refl
        (events ∙ rw e refl)
        (sym writes_now)
        (subst (λ (tables : Routers). Agrees (wire_in old) (event_at r.handle ∷ past_of old) new.pipes tables) (sym same)
        (agrees_now mid new.pipes (subst (λ (msg : Message). Becomes x (with_message msg) old.pipes mid) is b) p))
        refl
