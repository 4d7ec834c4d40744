-- That an end is refused to wait for another, or waits.
use Rattle.std.proofs.Common.{◌≡◌, ℕ, Bool, true, false, [], ◌∷◌, ◌++◌, refl, sym, ap, ◌∙◌, subst}
use Rattle.std.specs.Prelude.{if◌then◌else◌, not, Option, Some, None}
use Rattle.mj_base.specs.declared.ids.EndId.{EndId}
use Rattle.mj_base.specs.declared.ids.SeqId.{SeqId}
use Rattle.handle_table.specs.Things.{same_end}
use Rattle.message_pipe.specs.Contents.{Contents}
use Rattle.message_pipe.specs.Ends.{end_of, is_closed}
use Rattle.bind_model.specs.Machine.{endpoint_at, is_gone}
use Rattle.bind_model.specs.Replies.{elsewhere, first_of, pausing, unless}
use Rattle.bind_model.specs.declared.asked.Asked.TheVariants as asks
use Rattle.bind_model.specs.declared.commands.Command.TheVariants as commands
use Rattle.bind_model.specs.declared.commands.Reply.TheVariants as replies
use Rattle.bind_model.specs.declared.endpoint.Endpoint.{Endpoint}
use Rattle.bind_model.specs.declared.event.Event.{Event}
use Rattle.bind_model.specs.declared.told.Told.{Told}
use Rattle.bind_model.specs.declared.told.Told.TheVariants as tells
use Rattle.bind_model.specs.declared.told.Why.{Why}
use Rattle.bind_model.specs.declared.told.Why.TheVariants.{Disconnected, SelfPause}
use Rattle.bind_model.proofs.Fresh.{kept}
use Rattle.end_notices.specs.Seen.{with_wait}
use Rattle.end_notices.specs.Table.{BecomesAt}
use Rattle.end_notices.proofs.Quieting.{all_waited}
use Rattle.core_state.specs.Agreement.{Agrees, past_of, schema_of, wire_in}
use Rattle.core_state.proofs.Tabled.{tables_noted}
use Rattle.core_state.specs.Doing.{CanDo, Done, told_in}
use Rattle.core_state.specs.Routers.{Routers}
use Rattle.core_state.specs.declared.state.State.{State}
use Rattle.core_sending.specs.Pausing.{no_pause, or_why, unpaused_by}
use Rattle.core_state.proofs.Facts.{closed_is}
use Rattle.core_state.proofs.Held.{finish_noting}
use Rattle.core_state.proofs.Steady.{found_is}
use Rattle.core_state.proofs.Still.{still}

abbrev told_of_why : Option Why → Told
told_of_why None = tells.Pausing
told_of_why (Some why) = tells.No why

module _ (old : State) (seq : SeqId) (b a : EndId) (flush : ℕ) (can : CanDo old seq (commands.Pause b a flush)) where
  -- the tests, as the code has them and as the machine does
  each_test : (shut : Bool) (here : Option Why) (away : Bool) (there : Option Why) (itself : Bool)
      → told_of_why (if shut then Some Disconnected
      else or_why here (or_why (if away then None else there) (if itself then Some SelfPause else None)))
      ≡ first_of (unless (not shut) Disconnected ∷ here ∷ (if away then None else there) ∷ unless (not itself) SelfPause ∷ []) tells.Pausing
  each_test true here away there itself = refl
  each_test false (Some why) away there itself = refl
  each_test false None true there true = refl
  each_test false None true there false = refl
  each_test false None false (Some why) itself = refl
  each_test false None false None true = refl
  each_test false None false None false = refl

  by_ends : (at_b at_a : Option Endpoint)
      → told_of_why (unpaused_by seq b a (is_gone (past_of old) b) (is_gone (past_of old) a) at_b at_a) ≡ pausing (past_of old) seq b a at_b at_a
  by_ends None at_a = refl
  by_ends (Some rb) None = refl
  by_ends (Some rb) (Some ra) =
      each_test (is_gone (past_of old) b) (elsewhere seq rb) (is_gone (past_of old) a) (elsewhere seq ra) (same_end b a)

  why_told : told_of_why (no_pause old seq b a) ≡ told_in old seq (commands.Pause b a flush)
  why_told =
      let k = kept (wire_in old) old.seqs (past_of old) can.able.holds.legal in
      let shut : (x : EndId) → is_closed (end_of old.pipes.ends x) ≡ is_gone (past_of old) x =
      λ x. closed_is (wire_in old) (past_of old) k old.pipes old.endpoints can.able.holds.agrees x in
      rw (shut b, shut a, found_is can.able.holds.agrees b 0, found_is can.able.holds.agrees a 0)
      (by_ends (endpoint_at (wire_in old) (past_of old) b 0) (endpoint_at (wire_in old) (past_of old) a 0))

  pub pause_refused : (why : Why) → no_pause old seq b a ≡ Some why → told_in old seq (commands.Pause b a flush) ≡ tells.No why
  pause_refused why h = sym why_told ∙ ap told_of_why h

  abbrev event : Event
  event = record { seq = seq; asked = asks.Pause b a flush; told = tells.Pausing }

  pub pause_done : (new : State) → no_pause old seq b a ≡ None → schema_of new ≡ schema_of old → new.seqs ≡ old.seqs → new.rights ≡ old.rights
      → new.pipes ≡ old.pipes → new.endpoints ≡ old.endpoints
      → new.tables.flows ≡ old.tables.flows
      → BecomesAt (with_wait (record { end = a; flush = flush })) b old.tables.notices new.tables.notices
      → new.log.events ≡ old.log.events ++ event ∷ []
      → Done old new seq (commands.Pause b a flush) replies.Pausing
  pause_done new free schema seqs unmoved pipes same unflowed waits events =
      finish_noting old new seq (commands.Pause b a flush) replies.Pausing can.able schema seqs unmoved
      (record { none = refl; handed = λ wire. refl; after = λ rs. refl; gives = refl; hands = refl; halves = λ wire past. refl })
      events (sym (ap told_of_why free) ∙ why_told)
      (subst (λ (c : Contents). Agrees (wire_in old) (event ∷ past_of old) c new.endpoints) (sym pipes)
      (subst (λ (tables : Routers). Agrees (wire_in old) (event ∷ past_of old) old.pipes tables) (sym same)
      (still (wire_in old) event (past_of old)
      (record { made = refl; gone = refl; given = refl; handed = refl; takes = λ x. refl; puts = λ x. refl; peer = λ x. refl })
      (record { draws = λ x id. refl; answers = λ x id. refl; associates = λ x. refl; endpoints = λ x id. refl })
      old.pipes old.endpoints can.able.holds.agrees)))
      tt
      (tables_noted event (past_of old) old.tables new.tables unflowed refl
      (all_waited (past_of old) seq b old.tables.notices new.tables.notices (record { end = a; flush = flush }) waits can.able.holds.tables.notices)
      can.able.holds.tables)
