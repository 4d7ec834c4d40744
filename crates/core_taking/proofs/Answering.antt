-- That a query is answered with a version, by what the parts did.
use Rattle.std.proofs.Common.{◌≡◌, ◌<◌, ℕ, ◌+◌, Bool, true, false, List, [], ◌∷◌, ◌++◌, refl, sym, ap, ◌∙◌, subst, arith}
use Rattle.std.specs.Prelude.{◌==◌, ◌&&◌, if◌then◌else◌, nat_lt, IsSome, is_some, Option, Some, None, Ok}
use Rattle.std.specs.Option.{option_map}
use Rattle.std.proofs.lemmas.Bool.{eqb-true}
use Rattle.std.proofs.lemmas.Bool.Decides.{nat_tests}
use Rattle.mj_base.specs.declared.ids.EndId.{EndId}
use Rattle.mj_base.specs.declared.ids.SeqId.{SeqId}
use Rattle.mj_base.specs.declared.fault.Fault.{Fault}
use Rattle.mj_base.specs.Bytes.{number32}
use Rattle.mj_schema.specs.declared.schema.Schema.{Schema}
use Rattle.handle_table.specs.Things.{has}
use Rattle.handle_table.specs.declared.thing.Thing.TheVariants.{End}
use Rattle.message_header.specs.FirstFailed.{first_failed}
use Rattle.message_header.proofs.Fine.{passing_is_fine}
use Rattle.message_pipe.specs.Contents.{Becomes, Contents}
use Rattle.message_pipe.specs.Ends.{end_of, peer_of, with_messages, without_front}
use Rattle.message_pipe.specs.declared.message.Message.{Message}
use Rattle.message_pipe.specs.declared.pipe_end.PipeEnd.{PipeEnd}
use Rattle.wire_model.specs.HeaderMarks.{CONTROL_ID}
use Rattle.wire_model.specs.Message.{payload_start}
use Rattle.wire_model.specs.Stands.{IsFine}
use Rattle.control_bytes.specs.Controls.{control_by, control_marks, control_said, number_fits, second_read}
use Rattle.control_bytes.specs.declared.control.Control.{Control}
use Rattle.control_bytes.specs.declared.control.Control.TheVariants.{Closed, Query, Version, Require, Flush}
use Rattle.control_bytes.proofs.Rooms.{control_tests}
use Rattle.bind_model.specs.Laws.{WasControl}
use Rattle.bind_model.specs.WireOf.{unless_fault, wire_of}
use Rattle.bind_model.specs.declared.asked.Asked.TheVariants as asks
use Rattle.bind_model.specs.declared.commands.Command.TheVariants as commands
use Rattle.bind_model.specs.declared.commands.Reply.TheVariants as replies
use Rattle.bind_model.specs.declared.event.Event.{Event}
use Rattle.bind_model.specs.declared.told.Noted.TheVariants as noted
use Rattle.bind_model.specs.declared.told.Told.TheVariants as tells
use Rattle.bind_model.proofs.Fresh.{kept}
use Rattle.bind_model.proofs.Kept.{Kept, bound_made}
use Rattle.bind_model.proofs.Outcomes.{Fronts, Outcome, controls, outcome}
use Rattle.bind_model.specs.Machine.{made}
use Rattle.core_state.specs.Agreement.{past_of, schema_of, wire_in}
use Rattle.core_state.specs.Doing.{Done, HasRoom, told_to}
use Rattle.core_state.specs.Emitting.{EmitsTo, HasPeer, emitted_at}
use Rattle.core_state.specs.Routers.{Routers}
use Rattle.core_state.specs.declared.state.State.{State}
use Rattle.core_state.proofs.Emitted.{emits_is, peer_there}
use Rattle.core_state.proofs.Held.{finish}
use Rattle.core_state.proofs.Steady.{AllAgree, steady}
use Rattle.core_taking.proofs.Fronts.{control_there}
use Rattle.core_taking.proofs.Getting.{queried_steady}
use Rattle.core_taking.proofs.Obeying.{none_closed}
use Rattle.core_taking.proofs.Taken.{none_put}
use Rattle.core_taking.proofs.Taking.{queried_takes, taken_agrees}

-- ## What a query asks

-- the last test of a control
number_right : (bytes : List ℕ) → IsFine (control_marks bytes)
    → number_fits (number32 bytes (payload_start bytes + 8)) (number32 bytes (payload_start bytes + 12)) ≡ true
unfolding control_marks
number_right bytes fine = fine.1.1.1.1.1.1.1.0

-- it names an endpoint, whose id isn't that of controls
named_by : (kind n second id : ℕ) → number_fits kind n ≡ true → control_by kind n second ≡ Query id → id < CONTROL_ID
named_by kind n second id fits e = go (kind == 1) (kind == 5) (kind == 2) (kind == 3) (kind == 4) refl refl fits e
  where
    below : (m : ℕ) → nat_lt m CONTROL_ID ≡ true → m < CONTROL_ID
    below m h = grind (arith, nat_tests, h)

    go : (closed flush query version require : Bool) → (kind == 5) ≡ flush → (kind == 2) ≡ query
        → (if closed then nat_lt 0 n && nat_lt n CONTROL_ID else (if flush then nat_lt 0 n else nat_lt n CONTROL_ID)) ≡ true
        → (if closed then Closed n else (if query then Query n else
        (if version then Version n second else (if require then Require n second else Flush n)))) ≡ Query id
        → id < CONTROL_ID
    go true flush query version require a b f g = absurd cc
    go false false true version require a b f g = let same : n ≡ id = cc in subst (λ (m : ℕ). m < CONTROL_ID) same (below n f)
    go false true true version require a b f g = absurd (omega (arith, eqb-true kind 5 a, eqb-true kind 2 b))
    go false flush false true require a b f g = absurd cc
    go false flush false false true a b f g = absurd cc
    go false flush false false false a b f g = absurd cc

-- what is said, where it is said
said_by : (o : Option Fault) (answer c : Control) → unless_fault o answer ≡ Ok c → (o ≡ None) × (answer ≡ c)
said_by None answer c e = (refl, cc)
said_by (Some fault) answer c e = absurd cc

query_named : (schema : Schema) (bytes : List ℕ) (id : ℕ) → (wire_of schema).says bytes ≡ Ok (Query id) → id < CONTROL_ID
unfolding wire_of
query_named schema bytes id e =
    let p = payload_start bytes in
    let said = said_by (first_failed (control_marks bytes)) (control_said bytes) (Query id) e in
    named_by (number32 bytes (p + 8)) (number32 bytes (p + 12)) (second_read bytes p) id
    (number_right bytes (passing_is_fine (control_marks bytes) (control_tests bytes) said.0)) said.1

-- ## That it is answered

module _ (s : State) (seq : SeqId) (able : HasRoom s seq) (y : EndId) (id v : ℕ)
    (told : told_to s seq (asks.Take y) ≡ tells.Control (noted.Queried id (Some v))) where
  abbrev Was : Type 0
  Was = (m : Message) × Fronts (wire_in s) (past_of s) y m × WasControl (wire_in s) (past_of s) y (noted.Queried id (Some v)) m

  was : Was
  was = go (outcome (wire_in s) s.seqs (past_of s) seq (asks.Take y) (tells.Control (noted.Queried id (Some v))) (sym told))
    where
      go : Outcome (wire_in s) s.seqs (past_of s) seq (asks.Take y) (tells.Control (noted.Queried id (Some v))) → Was
      go (controls m f e d) = (m, f, d)

  keeps : Kept (wire_in s) (past_of s)
  keeps = kept (wire_in s) s.seqs (past_of s) able.holds.legal

  made_here : has (made (past_of s)) (End y) ≡ true
  made_here = bound_made (wire_in s) (past_of s) keeps (End y) (keeps.endpoints y 0 was.1.main was.1.bound)

  pub asked_named : id < CONTROL_ID
  asked_named = query_named (schema_of s) was.0.bytes id was.2.is

  pub asked_peer : HasPeer s.pipes y
  asked_peer = peer_there (schema_of s) (past_of s) keeps s.pipes s.endpoints able.holds.agrees y made_here

  -- the end is there, also where the version lies at its peer
  pub asked_there : (messages : List Message) (sent : Contents) → EmitsTo (peer_of (end_of s.pipes.ends y)) messages s.pipes sent
      → IsSome (end_of sent.ends y)
  asked_there messages sent g = go (peer_of (end_of s.pipes.ends y)) g
    where
      here : IsSome (end_of s.pipes.ends y)
      here = control_there (wire_in s) s.seqs (past_of s) able.holds.legal s.pipes s.endpoints able.holds.agrees seq able.within y
          (noted.Queried id (Some v)) (sym told)

      still : (b : Bool) (q : Option PipeEnd) → IsSome q → is_some (if b then option_map (with_messages messages) q else q) ≡ true
      still true None h = h
      still true (Some r) h = refl
      still false q h = h

      go : (o : Option EndId) → EmitsTo o messages s.pipes sent → IsSome (end_of sent.ends y)
      go None e = rw e here
      go (Some p) e = ap (λ (q : Option PipeEnd). is_some q) (e.ends y) ∙ still _ (end_of s.pipes.ends y) here

  abbrev event : Event
  event = record { seq = seq; asked = asks.Take y; told = tells.Control (noted.Queried id (Some v)) }

  pub answer_done : (new : State) (sent : Contents) → schema_of new ≡ schema_of s → new.seqs ≡ s.seqs → new.rights ≡ s.rights → new.tables ≡ s.tables
      → new.log.events ≡ s.log.events ++ event ∷ [] → new.endpoints ≡ s.endpoints
      → EmitsTo (peer_of (end_of s.pipes.ends y)) (emitted_at (λ n. Version n v) s.endpoints y (id ∷ [])) s.pipes sent
      → Becomes y without_front sent new.pipes → Done s new seq (commands.Take y) (replies.Control (noted.Queried id (Some v)))
  answer_done new sent schema seqs unmoved unnoticed events same g b =
      finish s new seq (commands.Take y) (replies.Control (noted.Queried id (Some v))) able schema seqs unmoved unnoticed
      (record { none = refl; handed = λ wire. refl; after = λ rs. refl; gives = refl; hands = refl; halves = λ wire past. refl })
      refl events (sym told)
      (taken_agrees (wire_in s) event (past_of s) y _ keeps (kept (wire_in s) s.seqs (event ∷ past_of s) (able.within, sym told, able.holds.legal))
      (queried_takes (wire_in s) s.seqs (past_of s) seq y keeps was.0 was.1 id v) s.pipes sent new.pipes new.pipes new.pipes s.endpoints new.endpoints
      (emits_is (schema_of s) (λ n. Version n v) (past_of s) keeps s.pipes s.endpoints able.holds.agrees y made_here (id ∷ []) sent g) b
      (none_closed new.pipes) (none_put new.pipes)
      (subst (λ (all : Routers). AllAgree (wire_in s) (event ∷ past_of s) all) (sym same)
      (steady (wire_in s) event (past_of s) (queried_steady (wire_in s) (past_of s) seq y id v) s.endpoints able.holds.agrees.routers))
      able.holds.agrees)
      tt
