-- What a control is told, and that it is done.
use Rattle.std.proofs.Common.{◌≡◌, ◌<◌, ℕ, Bool, true, false, List, [], ◌∷◌, ◌++◌, length, refl, sym, ap, ◌∙◌, arith, subst}
use Rattle.std.specs.Prelude.{if◌then◌else◌, ◌&&◌, not, nat_lt, IsSome, Option, None, Some}
use Rattle.std.specs.Option.{option_map}
use Rattle.std.proofs.lemmas.Bool.Decides.{nat_tests}
use Rattle.mj_base.specs.declared.ids.EndId.{EndId}
use Rattle.mj_base.specs.declared.ids.SeqId.{SeqId}
use Rattle.mj_base.specs.declared.fault.Fault.{Fault}
use Rattle.mj_base.specs.declared.fault.FaultKind.TheVariants.{IllegalHandle}
use Rattle.mj_schema.specs.declared.schema.Schema.{Schema}
use Rattle.handle_table.specs.declared.thing.Thing.{Thing}
use Rattle.message_header.specs.FirstFailed.{first_failed}
use Rattle.message_pipe.specs.Contents.{Becomes, Closes, Contents}
use Rattle.message_pipe.specs.Ends.{closed_by, end_of, without_front}
use Rattle.message_pipe.specs.declared.message.Message.{Message}
use Rattle.message_pipe.specs.declared.pipe_end.PipeEnd.{PipeEnd}
use Rattle.wire_model.specs.Stands.{IsFine}
use Rattle.control_bytes.specs.Controls.{control_marks, control_said}
use Rattle.control_bytes.specs.declared.control.Control.{Control}
use Rattle.control_bytes.specs.declared.control.Control.TheVariants as says
use Rattle.bind_model.specs.Machine.{endpoint_at, is_closed}
use Rattle.bind_model.specs.Notices.{query_pends}
use Rattle.bind_model.specs.Wire.{Wire}
use Rattle.bind_model.specs.WireOf.{wire_of}
use Rattle.bind_model.specs.Replies.{bad, controlled, heard, is_none}
use Rattle.bind_model.specs.declared.asked.Asked.TheVariants as asks
use Rattle.bind_model.specs.declared.commands.Command.TheVariants as commands
use Rattle.bind_model.specs.declared.commands.Reply.TheVariants as replies
use Rattle.bind_model.specs.declared.event.Event.{Event}
use Rattle.bind_model.specs.declared.told.BadWhy.TheVariants as bads
use Rattle.bind_model.specs.declared.told.Noted.{Noted}
use Rattle.bind_model.specs.declared.told.Noted.TheVariants as noted
use Rattle.bind_model.specs.declared.told.Told.{Told}
use Rattle.bind_model.specs.declared.told.Told.TheVariants as tells
use Rattle.bind_model.specs.declared.endpoint.Endpoint.{Endpoint}
use Rattle.bind_model.proofs.Fresh.{kept}
use Rattle.bind_model.proofs.Outcomes.{Outcome, controls, outcome}
use Rattle.end_notices.specs.Agreement.{is_awaited}
use Rattle.end_notices.specs.Seen.{with_met, without_query}
use Rattle.end_notices.specs.Table.{BecomesAt, notices_at}
use Rattle.end_notices.proofs.Quieting.{all_answered, all_met}
use Rattle.core_state.proofs.Tabled.{stirs_any, tables_noted}
use Rattle.end_notices.proofs.Stepping.{says}
use Rattle.endpoint_router.specs.Changes.{marked}
use Rattle.core_state.specs.Agreement.{Holds, TablesAgree, past_of, schema_of, wire_in}
use Rattle.core_state.specs.Doing.{Done, HasRoom, told_to}
use Rattle.core_state.specs.Routers.{Routers, found_at}
use Rattle.core_state.specs.Turns.{TurnsAt}
use Rattle.core_state.specs.declared.state.State.{State}
use Rattle.core_state.proofs.Held.{event_of, finish_noting, goes, unstirred}
use Rattle.core_state.proofs.Steady.{AllAgree, IsSteady, control_turns, found_is, steady}
use Rattle.core_taking.specs.declared.reading.Found.{Found}
use Rattle.core_taking.specs.Founds.{IsSilent, Tells}
use Rattle.core_taking.proofs.Fronts.{control_there}
use Rattle.core_taking.proofs.Getting.{IsReading, control_read, noted_read, noted_steady, read_agrees, silent_read, silent_steady}
use Rattle.core_taking.proofs.Taken.{none_put}
use Rattle.core_taking.proofs.WireReads.{control_fails, control_reads}

-- ## What is told

module _ (schema : Schema) (past : List Event) (y : EndId) (m : Message) (bytes : List ℕ) (same : m.bytes ≡ bytes) where
  abbrev told_of_control : Told
  told_of_control = controlled (wire_of schema) past y m ((wire_of schema).says m.bytes)

  -- a test fails
  pub control_bad : (fault : Fault) → first_failed (control_marks bytes) ≡ Some fault → told_of_control ≡ bad (wire_of schema) past y (bads.Message fault)
  control_bad fault h = ap (controlled (wire_of schema) past y m) (control_fails schema m.bytes fault (rw same h))

  -- all hold, and there are no handles
  pub control_told : (c : Control) → IsFine (control_marks bytes) → c ≡ control_said bytes → length m.handles ≡ 0
      → told_of_control ≡ heard (wire_of schema) past y c
  control_told c fine e none =
      ap (controlled (wire_of schema) past y m) (control_reads schema m.bytes c (rw same fine) (rw same e)) ∙ go m.handles none
    where
      go : (hs : List Thing) → length hs ≡ 0
          → (if is_none hs then heard (wire_of schema) past y c else bad (wire_of schema) past y (bads.Message (record { kind = IllegalHandle; at = 0 })))
          ≡ heard (wire_of schema) past y c
      go [] h = refl
      go (x ∷ hs) h = absurd cc

  -- or there are some
  pub control_held : (c : Control) → IsFine (control_marks bytes) → c ≡ control_said bytes → (length m.handles ≡ 0 → ⊥)
      → told_of_control ≡ bad (wire_of schema) past y (bads.Message (record { kind = IllegalHandle; at = 0 }))
  control_held c fine e some =
      ap (controlled (wire_of schema) past y m) (control_reads schema m.bytes c (rw same fine) (rw same e)) ∙ go m.handles some
    where
      go : (hs : List Thing) → (length hs ≡ 0 → ⊥)
          → (if is_none hs then heard (wire_of schema) past y c else bad (wire_of schema) past y (bads.Message (record { kind = IllegalHandle; at = 0 })))
          ≡ bad (wire_of schema) past y (bads.Message (record { kind = IllegalHandle; at = 0 }))
      go [] h = absurd (h refl)
      go (x ∷ hs) h = refl

-- what is told is what is found
pub tells_as : (wire : Wire) (past : List Event) (y : EndId) (what : Found) (one other : Told) → one ≡ other → Tells wire past y what other
    → Tells wire past y what one
tells_as wire past y what one other e t = subst (λ (told : Told). Tells wire past y what told) (sym e) t

-- whether a version is awaited, by what the state keeps
pub awaited_is : (s : State) → Holds s → (y : EndId) (id : ℕ)
    → is_awaited ((notices_at s.tables.notices y).queries id) (found_at s.endpoints y id)
    ≡ query_pends (past_of s) y id (endpoint_at (wire_in s) (past_of s) y id)
awaited_is s h y id =
    ap (λ (o : Option Endpoint). is_awaited ((notices_at s.tables.notices y).queries id) o) (found_is h.agrees y id)
    ∙ sym ((says (past_of s) y (notices_at s.tables.notices y) (h.tables.notices y)).awaits id (endpoint_at (wire_in s) (past_of s) y id))

-- where a version is told one query waits at least
pub some_waits : (s : State) → Holds s → (seq : SeqId) (y : EndId) (id v : ℕ) → seq.0 < s.seqs
    → told_to s seq (asks.Take y) ≡ tells.Control (noted.Version id v) → 0 < (notices_at s.tables.notices y).queries id
some_waits s h seq y id v within told = go (outcome (wire_in s) s.seqs (past_of s) seq (asks.Take y) (tells.Control (noted.Version id v)) (sym told))
  where
    least : (count : ℕ) (o : Option Endpoint) → is_awaited count o ≡ true → 0 < count
    least count None e = absurd cc
    least count (Some r) e = both r.peer_closed (is_closed r) e
      where
        both : (p c : Bool) → (not p && not c && nat_lt 0 count) ≡ true → 0 < count
        both true c e = absurd cc
        both false true e = absurd cc
        both false false e = grind (arith, nat_tests, e)

    go : Outcome (wire_in s) s.seqs (past_of s) seq (asks.Take y) (tells.Control (noted.Version id v)) → 0 < (notices_at s.tables.notices y).queries id
    go (controls m f e d) = least ((notices_at s.tables.notices y).queries id) (found_at s.endpoints y id) (awaited_is s h y id ∙ d.right)

-- ## What is done

-- where nothing goes
pub none_closed : (pipes : Contents) → Closes [] pipes pipes
none_closed pipes = record {
  ends = λ x. go x (end_of pipes.ends x);
  places = λ z. refl;
  ends_made = λ s. refl;
  tokens_made = λ s. refl;
  made = refl;
}
  where
    go : (x : EndId) (o : Option PipeEnd) → o ≡ option_map (closed_by [] x) o
    go x None = refl
    go x (Some e) = refl

module _ (s : State) (seq : SeqId) (able : HasRoom s seq) (y : EndId) where
  -- a control lies there
  pub obey_there : (c : Noted) → told_to s seq (asks.Take y) ≡ tells.Control c → IsSome (end_of s.pipes.ends y)
  obey_there c told =
      control_there (wire_in s) s.seqs (past_of s) able.holds.legal s.pipes s.endpoints able.holds.agrees seq able.within y c (sym told)

  -- it is away, and the routers and what ends keep of controls are those that the events give
  control_done : (c : Noted) → told_to s seq (asks.Take y) ≡ tells.Control c
      → IsReading (wire_in s) (record { seq = seq; asked = asks.Take y; told = tells.Control c }) (past_of s) y
      → (new : State) → schema_of new ≡ schema_of s → new.seqs ≡ s.seqs → new.rights ≡ s.rights
      → new.log.events ≡ s.log.events ++ record { seq = seq; asked = asks.Take y; told = tells.Control c } ∷ []
      → AllAgree (wire_in s) (record { seq = seq; asked = asks.Take y; told = tells.Control c } ∷ past_of s) new.endpoints
      → TablesAgree (record { seq = seq; asked = asks.Take y; told = tells.Control c } ∷ past_of s) new.tables
      → Becomes y without_front s.pipes new.pipes → Done s new seq (commands.Take y) (replies.Control c)
  control_done c told reading new schema seqs unmoved events routers tables b =
      finish_noting s new seq (commands.Take y) (replies.Control c) able schema seqs unmoved
      (record { none = refl; handed = λ wire. refl; after = λ rs. refl; gives = refl; hands = refl; halves = λ wire past. refl }) events (sym told)
      (read_agrees (wire_in s) (event_of seq (commands.Take y) (replies.Control c)) (past_of s) y
      (kept (wire_in s) s.seqs (past_of s) able.holds.legal)
      (kept (wire_in s) s.seqs (event_of seq (commands.Take y) (replies.Control c) ∷ past_of s)
      (goes s new seq (commands.Take y) (replies.Control c) able (sym told)))
      reading s.pipes new.pipes new.pipes new.pipes s.endpoints new.endpoints b (none_closed new.pipes) (none_put new.pipes) routers able.holds.agrees)
      tt
      tables

  -- the peer of an endpoint is closed
  pub obey_done : (id : ℕ) → told_to s seq (asks.Take y) ≡ tells.Control (noted.Closed id)
      → (new : State) → schema_of new ≡ schema_of s → new.seqs ≡ s.seqs → new.rights ≡ s.rights → new.tables ≡ s.tables
      → new.log.events ≡ s.log.events ++ record { seq = seq; asked = asks.Take y; told = tells.Control (noted.Closed id) } ∷ []
      → TurnsAt marked y id s.endpoints new.endpoints → Becomes y without_front s.pipes new.pipes
      → Done s new seq (commands.Take y) (replies.Control (noted.Closed id))
  obey_done id told new schema seqs unmoved unnoticed events t b =
      control_done (noted.Closed id) told (control_read (wire_in s) (past_of s) seq y id) new schema seqs unmoved events
      (control_turns (wire_in s) (past_of s) seq s.endpoints new.endpoints able.holds.agrees.routers y id t)
      (unstirred s new seq (commands.Take y) (replies.Control (noted.Closed id)) able unnoticed refl) b

  -- nothing turns in the routers
  still_routers : (c : Noted) → IsSteady (wire_in s) (record { seq = seq; asked = asks.Take y; told = tells.Control c }) (past_of s)
      → (all : Routers) → all ≡ s.endpoints
      → AllAgree (wire_in s) (record { seq = seq; asked = asks.Take y; told = tells.Control c } ∷ past_of s) all
  still_routers c calm all same =
      subst (λ (rs : Routers). AllAgree (wire_in s) (record { seq = seq; asked = asks.Take y; told = tells.Control c } ∷ past_of s) rs) (sym same)
      (steady (wire_in s) (record { seq = seq; asked = asks.Take y; told = tells.Control c }) (past_of s) calm s.endpoints able.holds.agrees.routers)

  -- what is only told is of no control that ends write, and of no data pipe
  untouched : (c : Noted) → IsSilent c → stirs_any (tells.Control c) (asks.Take y) ≡ false
  untouched (noted.Closed id) silent = absurd silent
  untouched (noted.Queried id v) silent = refl
  untouched (noted.Version id v) silent = absurd silent
  untouched (noted.Required id v) silent = refl
  untouched (noted.Flushed k) silent = absurd silent

  -- nothing else is done
  pub heed_done : (c : Noted) → told_to s seq (asks.Take y) ≡ tells.Control c → IsSilent c
      → (new : State) → schema_of new ≡ schema_of s → new.seqs ≡ s.seqs → new.rights ≡ s.rights → new.tables ≡ s.tables
      → new.log.events ≡ s.log.events ++ record { seq = seq; asked = asks.Take y; told = tells.Control c } ∷ []
      → new.endpoints ≡ s.endpoints → Becomes y without_front s.pipes new.pipes
      → Done s new seq (commands.Take y) (replies.Control c)
  heed_done c told silent new schema seqs unmoved unnoticed events same b =
      control_done c told (silent_read (wire_in s) (past_of s) seq y c silent) new schema seqs unmoved events
      (still_routers c (silent_steady (wire_in s) (past_of s) seq y c silent) new.endpoints same)
      (unstirred s new seq (commands.Take y) (replies.Control c) able unnoticed (untouched c silent)) b

  -- a query has its version
  pub query_some : (id v : ℕ) → told_to s seq (asks.Take y) ≡ tells.Control (noted.Version id v) → 0 < (notices_at s.tables.notices y).queries id
  query_some id v told = some_waits s able.holds seq y id v able.within told

  pub query_done : (id v : ℕ) → told_to s seq (asks.Take y) ≡ tells.Control (noted.Version id v)
      → (new : State) → schema_of new ≡ schema_of s → new.seqs ≡ s.seqs → new.rights ≡ s.rights
      → new.log.events ≡ s.log.events ++ record { seq = seq; asked = asks.Take y; told = tells.Control (noted.Version id v) } ∷ []
      → new.endpoints ≡ s.endpoints → new.tables.flows ≡ s.tables.flows
      → BecomesAt (without_query id) y s.tables.notices new.tables.notices → Becomes y without_front s.pipes new.pipes
      → Done s new seq (commands.Take y) (replies.Control (noted.Version id v))
  query_done id v told new schema seqs unmoved events same unflowed answered b =
      control_done (noted.Version id v) told (noted_read (wire_in s) (past_of s) seq y (noted.Version id v) tt) new schema seqs unmoved events
      (still_routers (noted.Version id v) (noted_steady (wire_in s) (past_of s) seq y (noted.Version id v) tt) new.endpoints same)
      (tables_noted (record { seq = seq; asked = asks.Take y; told = tells.Control (noted.Version id v) }) (past_of s) s.tables new.tables unflowed refl
      (all_answered (past_of s) seq y s.tables.notices new.tables.notices id v (query_some id v told) answered able.holds.tables.notices)
      able.holds.tables)
      b

  -- a flush was consumed
  pub flush_done : (flush : ℕ) → told_to s seq (asks.Take y) ≡ tells.Control (noted.Flushed flush)
      → (new : State) → schema_of new ≡ schema_of s → new.seqs ≡ s.seqs → new.rights ≡ s.rights
      → new.log.events ≡ s.log.events ++ record { seq = seq; asked = asks.Take y; told = tells.Control (noted.Flushed flush) } ∷ []
      → new.endpoints ≡ s.endpoints → new.tables.flows ≡ s.tables.flows
      → BecomesAt (with_met flush) y s.tables.notices new.tables.notices → Becomes y without_front s.pipes new.pipes
      → Done s new seq (commands.Take y) (replies.Control (noted.Flushed flush))
  flush_done flush told new schema seqs unmoved events same unflowed met b =
      control_done (noted.Flushed flush) told (noted_read (wire_in s) (past_of s) seq y (noted.Flushed flush) tt) new schema seqs unmoved events
      (still_routers (noted.Flushed flush) (noted_steady (wire_in s) (past_of s) seq y (noted.Flushed flush) tt) new.endpoints same)
      (tables_noted (record { seq = seq; asked = asks.Take y; told = tells.Control (noted.Flushed flush) }) (past_of s) s.tables new.tables unflowed refl
      (all_met (past_of s) seq y s.tables.notices new.tables.notices flush met able.holds.tables.notices)
      able.holds.tables)
      b
