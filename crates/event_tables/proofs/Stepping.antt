-- What one event more makes of tables that hold.
use Rattle.std.proofs.Common.{◌≡◌, ℕ, List, [], ◌∷◌, ◌++◌, length, refl, sym, ap, ◌∙◌, arith, subst}
use Rattle.std.specs.Prelude.{reverse}
use Rattle.std.proofs.lemmas.List.{length-append, reverse-append}
use Rattle.mj_base.specs.declared.ids.SeqId.{SeqId}
use Rattle.mj_schema.specs.declared.schema.Schema.{Schema}
use Rattle.message_pipe.specs.Contents.{Contents}
use Rattle.bind_model.specs.Pendings.{KnowsPendings}
use Rattle.bind_model.specs.Plain.{asked_of}
use Rattle.bind_model.specs.Replies.{legal}
use Rattle.bind_model.specs.Responders.{CountsResponders}
use Rattle.bind_model.specs.WireOf.{wire_of}
use Rattle.bind_model.specs.declared.asked.Asked.{Asked}
use Rattle.bind_model.specs.declared.commands.Command.{Command}
use Rattle.bind_model.specs.declared.commands.Reply.{Reply}
use Rattle.bind_model.specs.declared.event.Event.{Event}
use Rattle.bind_model.specs.declared.told.Told.{Told}
use Rattle.bind_model.specs.declared.told.Told.TheVariants.{No}
use Rattle.bind_model.specs.declared.told.Why.{Why}
use Rattle.data_pipe.specs.Table.{Lines}
use Rattle.core_state.specs.Agreement.{Agrees, TablesAgree, past_of, schema_of, wire_in}
use Rattle.core_state.specs.Doing.{Done, HasRoom, told_to}
use Rattle.core_state.specs.Routers.{Routers}
use Rattle.core_state.specs.declared.state.Rights.{Rights}
use Rattle.core_state.specs.declared.state.State.{State}
use Rattle.core_state.specs.declared.tables.Tables.{Tables}
use Rattle.core_state.proofs.Quiet.{counts_still, pendings_still}
use Rattle.core_state.proofs.Still.{refused}
use Rattle.core_state.proofs.Tabled.{tables_quiet}
use Rattle.event_tables.specs.AsCore.{StepsOn}

-- ## A step of a core is one of the tables

pub steps_of : (old new : State) (seq : SeqId) (command : Command) (reply : Reply) → Done old new seq command reply
    → StepsOn old new seq (asked_of command)
steps_of old new seq command reply done = record {
  holds = done.holds;
  schema = done.schema;
  seqs = done.seqs;
  events = done.events;
  few = done.few;
}

-- what is asked may be said otherwise
pub steps_as : (old new : State) (seq : SeqId) (asked other : Asked) → asked ≡ other → StepsOn old new seq asked → StepsOn old new seq other
steps_as old new seq asked other same steps = subst (λ (a : Asked). StepsOn old new seq a) same steps

-- ## A step of its own

reverse-snoc : (events : List Event) (event : Event) → reverse (events ++ event ∷ []) ≡ event ∷ reverse events
reverse-snoc events event = reverse-append events (event ∷ [])

module _ (old new : State) (seq : SeqId) (asked : Asked) (told : Told) where
  abbrev event : Event
  event = record { seq = seq; asked = asked; told = told }

  -- the reply is the answer, the event is noted, and the rest agrees with the new history
  pub step_done : HasRoom old seq
      → schema_of new ≡ schema_of old
      → new.seqs ≡ old.seqs
      → new.log.events ≡ old.log.events ++ event ∷ []
      → told ≡ told_to old seq asked
      → Agrees (wire_in old) (event ∷ past_of old) new.pipes new.endpoints
      → CountsResponders (wire_in old) (event ∷ past_of old) new.rights.responders
      → KnowsPendings (event ∷ past_of old) new.rights.pendings
      → TablesAgree (event ∷ past_of old) new.tables
      → StepsOn old new seq asked
  step_done can schema seqs events is agrees responders pendings tables =
      let past : past_of new ≡ event ∷ past_of old = ap reverse events ∙ reverse-snoc old.log.events event in
      let goes : legal (wire_in old) old.seqs (event ∷ past_of old) = (can.within, is, can.holds.legal) in
      record {
        holds = record {
          legal =
              subst (λ (w : Schema). legal (wire_of w) new.seqs (past_of new)) (sym schema)
              (subst (λ (n : ℕ). legal (wire_in old) n (past_of new)) (sym seqs)
              (subst (λ (p : List Event). legal (wire_in old) old.seqs p) (sym past) goes));
          agrees =
              subst (λ (w : Schema). Agrees (wire_of w) (past_of new) new.pipes new.endpoints) (sym schema)
              (subst (λ (p : List Event). Agrees (wire_in old) p new.pipes new.endpoints) (sym past) agrees);
          tables = subst (λ (p : List Event). TablesAgree p new.tables) (sym past) tables;
          responders =
              subst (λ (w : Schema). CountsResponders (wire_of w) (past_of new) new.rights.responders) (sym schema)
              (subst (λ (p : List Event). CountsResponders (wire_in old) p new.rights.responders) (sym past) responders);
          pendings = subst (λ (p : List Event). KnowsPendings p new.rights.pendings) (sym past) pendings;
          few = let n = can.few in omega (arith, ap length events, length-append old.log.events (event ∷ []));
        };
        schema = schema;
        seqs = seqs;
        events = events ∙ ap (λ (t : Told). old.log.events ++ record { seq = seq; asked = asked; told = t } ∷ []) is;
        few = can.few;
      }

-- a refusal changes nothing
pub refusal_done : (s : State) (seq : SeqId) (asked : Asked) (why : Why) (new : State) → HasRoom s seq → told_to s seq asked ≡ No why
    → schema_of new ≡ schema_of s → new.seqs ≡ s.seqs → new.pipes ≡ s.pipes → new.endpoints ≡ s.endpoints → new.tables ≡ s.tables
    → new.rights ≡ s.rights → new.log.events ≡ s.log.events ++ record { seq = seq; asked = asked; told = No why } ∷ []
    → StepsOn s new seq asked
refusal_done s seq asked why new can is schema seqs pipes endpoints tables rights events =
    let event : Event = record { seq = seq; asked = asked; told = No why } in
    step_done s new seq asked (No why) can schema seqs events (sym is)
    (subst (λ (now : Contents). Agrees (wire_in s) (event ∷ past_of s) now new.endpoints) (sym pipes)
    (subst (λ (now : Routers). Agrees (wire_in s) (event ∷ past_of s) s.pipes now) (sym endpoints)
    (refused (wire_in s) (past_of s) seq asked why s.pipes s.endpoints can.holds.agrees)))
    (subst (λ (now : Rights). CountsResponders (wire_in s) (event ∷ past_of s) now.responders) (sym rights)
    (counts_still (wire_in s) event (past_of s) s.rights.responders refl refl can.holds.responders))
    (subst (λ (now : Rights). KnowsPendings (event ∷ past_of s) now.pendings) (sym rights)
    (pendings_still event (past_of s) s.rights.pendings refl refl can.holds.pendings))
    (subst (λ (now : Tables). TablesAgree (event ∷ past_of s) now) (sym tables) (tables_quiet event (past_of s) s.tables refl can.holds.tables))

-- data pipes that stay as they are make no other step
pub steps_from : (s : State) (flows : Lines) (new : State) (seq : SeqId) (asked : Asked)
    → StepsOn (record s { tables = record s.tables { flows = flows } }) new seq asked → StepsOn s new seq asked
steps_from s flows new seq asked steps = record {
  holds = steps.holds;
  schema = steps.schema;
  seqs = steps.seqs;
  events = steps.events;
  few = steps.few;
}
