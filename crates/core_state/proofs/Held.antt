-- What a step that is done makes of a state that holds.
use Rattle.std.proofs.Common.{◌≡◌, ℕ, false, List, [], ◌∷◌, ◌++◌, length, sym, ap, ◌∙◌, arith, subst}
use Rattle.std.specs.Prelude.{reverse}
use Rattle.std.proofs.lemmas.List.{reverse-append, length-append}
use Rattle.mj_base.specs.declared.ids.SeqId.{SeqId}
use Rattle.mj_schema.specs.declared.schema.Schema.{Schema}
use Rattle.bind_model.specs.declared.event.Event.{Event}
use Rattle.bind_model.specs.declared.told.Told.{Told}
use Rattle.bind_model.specs.WireOf.{wire_of}
use Rattle.bind_model.specs.Replies.{legal, responders_out}
use Rattle.bind_model.specs.Plain.{asked_of, told_of, HandsBack, HandsPendings, HandsResponders}
use Rattle.bind_model.specs.Responders.{CountsResponders}
use Rattle.core_state.specs.Agreement.{Agrees, TablesAgree, past_of, schema_of, wire_in}
use Rattle.core_state.specs.Doing.{HasRoom, Done, told_in}
use Rattle.bind_model.specs.declared.commands.Command.{Command}
use Rattle.bind_model.specs.declared.commands.Reply.{Reply}
use Rattle.bind_model.specs.Pendings.{KnowsPendings}
use Rattle.core_state.specs.declared.state.Rights.{Rights}
use Rattle.core_state.specs.declared.state.State.{State}
use Rattle.core_state.specs.declared.tables.Tables.{Tables}
use Rattle.core_state.proofs.Tabled.{stirs_any, tables_quiet}
use Rattle.core_state.proofs.Quiet.{IsQuiet, counts_still, pendings_still}

reverse-snoc : (events : List Event) (event : Event) → reverse (events ++ event ∷ []) ≡ event ∷ reverse events
reverse-snoc events event = reverse-append events (event ∷ [])

-- the event of a step
abbrev pub event_of : SeqId → Command → Reply → Event
event_of seq command reply = record { seq = seq; asked = asked_of command; told = told_of reply }

-- a step is done where the reply is the answer, the event is noted, and the rest agrees with the new history
module _ (old new : State) (seq : SeqId) (command : Command) (reply : Reply) where
  -- the history with the event is legal
  pub goes : HasRoom old seq → told_of reply ≡ told_in old seq command → legal (wire_in old) old.seqs (event_of seq command reply ∷ past_of old)
  goes can told = (can.within, told, can.holds.legal)

  pub finish_with : HasRoom old seq
      → schema_of new ≡ schema_of old
      → new.seqs ≡ old.seqs
      → new.log.events ≡ old.log.events ++ event_of seq command reply ∷ []
      → told_of reply ≡ told_in old seq command
      → Agrees (wire_in old) (event_of seq command reply ∷ past_of old) new.pipes new.endpoints
      → CountsResponders (wire_in old) (event_of seq command reply ∷ past_of old) new.rights.responders
      → HandsBack command reply
      → HandsResponders (wire_in old) command reply
      → KnowsPendings (event_of seq command reply ∷ past_of old) new.rights.pendings
      → HandsPendings (wire_in old) (event_of seq command reply ∷ past_of old) command reply
      → TablesAgree (event_of seq command reply ∷ past_of old) new.tables
      → Done old new seq command reply
  finish_with can schema seqs events told agrees responders back hands pendings halves tables =
      let past : past_of new ≡ event_of seq command reply ∷ past_of old = ap reverse events ∙ reverse-snoc old.log.events (event_of seq command reply) in
      record {
        holds = record {
          legal =
              subst (λ (w : Schema). legal (wire_of w) new.seqs (past_of new)) (sym schema)
              (subst (λ (n : ℕ). legal (wire_in old) n (past_of new)) (sym seqs)
              (subst (λ (p : List Event). legal (wire_in old) old.seqs p) (sym past) (goes can told)));
          agrees =
              subst (λ (w : Schema). Agrees (wire_of w) (past_of new) new.pipes new.endpoints) (sym schema)
              (subst (λ (p : List Event). Agrees (wire_in old) p new.pipes new.endpoints) (sym past) agrees);
          tables = subst (λ (p : List Event). TablesAgree p new.tables) (sym past) tables;
          responders =
              subst (λ (w : Schema). CountsResponders (wire_of w) (past_of new) new.rights.responders) (sym schema)
              (subst (λ (p : List Event). CountsResponders (wire_in old) p new.rights.responders) (sym past) responders);
          pendings = subst (λ (p : List Event). KnowsPendings p new.rights.pendings) (sym past) pendings;
          few = let n = can.few in omega (arith, ap length events, length-append old.log.events (event_of seq command reply ∷ []));
        };
        schema = schema;
        seqs = seqs;
        events = events ∙ ap (λ (t : Told). old.log.events ++ record { seq = seq; asked = asked_of command; told = t } ∷ []) told;
        told = told;
        back = back;
        responders = hands;
        pendings = subst (λ (p : List Event). HandsPendings (wire_in old) p command reply) (sym past) halves;
        few = can.few;
      }

  -- what is kept of controls and of data pipes still agrees, where the event is of neither
  pub unstirred : HasRoom old seq → new.tables ≡ old.tables → stirs_any (told_of reply) (asked_of command) ≡ false
      → TablesAgree (event_of seq command reply ∷ past_of old) new.tables
  unstirred can same still =
      subst (λ (tables : Tables). TablesAgree (event_of seq command reply ∷ past_of old) tables) (sym same)
      (tables_quiet (event_of seq command reply) (past_of old) old.tables still can.holds.tables)

  -- where no right moves
  pub finish_noting : HasRoom old seq
      → schema_of new ≡ schema_of old
      → new.seqs ≡ old.seqs
      → new.rights ≡ old.rights
      → IsQuiet command reply
      → new.log.events ≡ old.log.events ++ event_of seq command reply ∷ []
      → told_of reply ≡ told_in old seq command
      → Agrees (wire_in old) (event_of seq command reply ∷ past_of old) new.pipes new.endpoints
      → HandsBack command reply
      → TablesAgree (event_of seq command reply ∷ past_of old) new.tables
      → Done old new seq command reply
  finish_noting can schema seqs same quiet events told agrees back tables =
      finish_with can schema seqs events told agrees
      (subst (λ (rights : Rights). CountsResponders (wire_in old) (event_of seq command reply ∷ past_of old) rights.responders) (sym same)
      (counts_still (wire_in old) (event_of seq command reply) (past_of old) old.rights.responders (quiet.handed (wire_in old))
      (quiet.after (responders_out (wire_in old) (past_of old))) can.holds.responders))
      back
      (quiet.none ∙ sym (quiet.handed (wire_in old)))
      (subst (λ (rights : Rights). KnowsPendings (event_of seq command reply ∷ past_of old) rights.pendings) (sym same)
      (pendings_still (event_of seq command reply) (past_of old) old.rights.pendings quiet.gives quiet.hands can.holds.pendings))
      (quiet.halves (wire_in old) (event_of seq command reply ∷ past_of old))
      tables

  -- and the event is of no control that ends write, and of no data pipe
  pub finish : HasRoom old seq
      → schema_of new ≡ schema_of old
      → new.seqs ≡ old.seqs
      → new.rights ≡ old.rights
      → new.tables ≡ old.tables
      → IsQuiet command reply
      → stirs_any (told_of reply) (asked_of command) ≡ false
      → new.log.events ≡ old.log.events ++ event_of seq command reply ∷ []
      → told_of reply ≡ told_in old seq command
      → Agrees (wire_in old) (event_of seq command reply ∷ past_of old) new.pipes new.endpoints
      → HandsBack command reply
      → Done old new seq command reply
  finish can schema seqs same unnoticed quiet still events told agrees back =
      finish_noting can schema seqs same quiet events told agrees back (unstirred can unnoticed still)
