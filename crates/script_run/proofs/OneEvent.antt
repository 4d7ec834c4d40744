-- One event of a sequence: the desk was woken for it, and put to rest behind it.
use Rattle.std.proofs.Common.{◌≡◌, ◌≤◌, ◌<◌, ◌+◌, ℕ, Bool, Bor, true, List, [], ◌∷◌, ◌++◌, length, refl, sym, ap, ◌∙◌, subst}
use Rattle.std.specs.Prelude.{◌==◌, cond, is_some, map, not, Option, Some, None, Result, Ok, Err, IfOk, OnOk, slice_get}
use Rattle.std.specs.List.{AllByRecursion}
use Rattle.std.specs.Option.{option_copied, option_map}
use Rattle.std.proofs.lemmas.Bool.{and_parts}
use Rattle.mj_base.specs.declared.ids.SeqId.{SeqId}
use Rattle.mj_base.specs.declared.limits.TheConstants.{MAX_EVENTS}
use Rattle.mj_schema.specs.declared.schema.Schema.{Schema}
use Rattle.bind_core.specs.Play.{Play}
use Rattle.bind_model.specs.Replies.{Legal, responders_handed}
use Rattle.bind_model.specs.Wire.{Wire}
use Rattle.bind_model.specs.WireOf.{wire_of}
use Rattle.bind_model.specs.declared.asked.Asked.{Asked}
use Rattle.bind_model.specs.declared.endpoint.ResponderId.{ResponderId}
use Rattle.bind_model.specs.declared.event.Event.{Event}
use Rattle.bind_model.specs.declared.told.Told.{Told}
use Rattle.call_script.specs.declared.script.AutoReply.{AutoReply}
use Rattle.call_script.specs.declared.script.Line.{Line}
use Rattle.call_script.specs.declared.script.Script.{Script}
use Rattle.remote_receiver.specs.Notes.{Kept}
use Rattle.remote_receiver.specs.declared.rest.Rest.{Rest}
use Rattle.script_names.specs.Asking.{asked_by}
use Rattle.script_names.specs.Autos.{Due, due, line_at, lines_done}
use Rattle.script_names.specs.Held.{HaveNames, names_in}
use Rattle.script_names.specs.Names.{Named, named_after}
use Rattle.script_names.specs.Settling.{EndsWith}
use Rattle.script_names.specs.declared.rooms.Rooms.{Rooms}
use Rattle.script_run.specs.Draining.{HaveRested}
use Rattle.script_run.specs.OfScript.{names_of, next_of, replied, reply_first}
use Rattle.script_run.specs.Order.{is_join, is_own, lines_of}
use Rattle.script_run.specs.declared.agenda.Agenda.{Agenda}
use Rattle.script_run.specs.declared.cut.Cut.{Cut}
use Rattle.script_run.specs.declared.cut.Cut.TheVariants as cuts
use Rattle.script_run.specs.declared.plain.Plain.{Plain}
use Rattle.script_run.specs.steps.Desks.{DidCommand, IfSpent, IsFull, Went, due_by, reply_of}
use Rattle.script_run.specs.steps.Following.{DidAlone, DidNext, DidOne, HasCome, planned}
use Rattle.script_run.specs.steps.Going.{IsPutBack, IsWoken}
use Rattle.script_run.specs.steps.Running.{seat_of}
use Rattle.script_run.proofs.Coming.{at_seat, names_reply}
use Rattle.script_run.proofs.LineDone.{due_from, due_none, due_some}
use Rattle.script_run.proofs.NeverFull.{full_same}
use Rattle.script_run.proofs.OrderLists.{kept_holds, kept_passes}
use Rattle.script_run.proofs.Sequences.{same_seq}
use Rattle.script_run.proofs.TurnLemmas.{line_more, none_due, reply_more}
use Rattle.script_run.proofs.Waking.{grew_went, rested_again}

-- ## At its desk

module _ (s of on : SeqId) (core at there after : Play) (rests woken new : List (Rest Plain)) (kept kept' : Kept Plain) (within : s.0 < core.seqs)
    (rested : HaveRested core rests) (is : IsWoken s core rests woken at of kept) (same : after ≡ there) where
  -- it asked this
  pub did_one : (asked : Asked) (told : Told) → Went (seat_of at of) (seat_of there on) kept kept' asked told → IsPutBack on woken new kept' there
      → Legal (wire_of after.schema) after.seqs after.events → DidOne s asked core after new
  did_one asked told went back legal =
      let seat = at_seat (λ b a. Went b a kept kept' asked told) (λ b a w. w.same.me) core at there after s of on is.core is.seq same went in
      let grew = grew_went (seat_of at of) (seat_of there on) kept kept' asked told refl went in
      record {
        schema = seat.1.same.schema;
        seqs = seat.1.same.seqs;
        told = told;
        event = seat.1.sole refl;
        legal = legal;
        few = seat.1.few;
        rests =
            subst (λ (p : Play). HaveRested p new) (sym same)
            (rested_again s of core at there rests woken new kept kept' within rested is grew
            (subst (λ (q : SeqId). IsPutBack q woken new kept' there) went.same.me back));
      }

  -- it asked what a line asks
  pub did_alone : (autos : List AutoReply) (line : Line) → line.seq ≡ s → (reply : Option AutoReply) (names names' : Named) (others : List ResponderId)
      → DidCommand autos line reply (seat_of at of) (seat_of there on) kept kept' names names' others → IsPutBack on woken new kept' there
      → Legal (wire_of after.schema) after.seqs after.events → DidAlone autos line reply core after new names names' others
  did_alone autos line mine reply names names' others did back legal =
      let seat = at_seat (λ b a. DidCommand autos line reply b a kept kept' names names' others) (λ b a d. d.went.same.me) core at there after s of on
      is.core is.seq same did in
      let d : DidCommand autos line reply (seat_of core line.seq) (seat_of after line.seq) kept kept' names names' others =
      subst (λ (q : SeqId). DidCommand autos line reply (seat_of core q) (seat_of after q) kept kept' names names' others) (sym mine) seat.1 in
      let one : DidOne s (asked_by names line) core after new = did_one (asked_by names line) did.told did.went back legal in
      record {
        did = record {
          schema = one.schema;
          seqs = one.seqs;
          told = d.told;
          event = d.went.sole refl;
          legal = legal;
          few = one.few;
          rests = one.rests;
        };
        named = d.named;
        found = d.found;
        last = d.last;
      }

-- a desk that was cut off for a full history had a full one
pub was_full : (s of on : SeqId) (core at there : Play) (rests woken : List (Rest Plain)) (kept : Kept Plain) → IsWoken s core rests woken at of kept
    → (cut : Cut) → IfSpent cut (IsFull (seat_of at of) (seat_of there on)) → IfSpent cut (MAX_EVENTS ≤ length core.events)
was_full s of on core at there rests woken kept is cuts.Memory full = tt
was_full s of on core at there rests woken kept is cuts.Spent full =
    subst (λ (p : Play). MAX_EVENTS ≤ length p.events) is.core
    (subst (λ (es : List Event). MAX_EVENTS ≤ length es) (full_same (seat_of at of) (seat_of there on) refl full) full.full)

-- ## What is next

-- an agenda that differs in nothing
pub come_same : (schema : Schema) (script : Script) (after_joins : List Event) (s : SeqId) (own : List Event) (room : Rooms) (old new : Agenda)
    → new.lines ≡ old.lines → new.done ≡ old.done → new.due ≡ old.due → HasCome schema script after_joins s own room old
    → HasCome schema script after_joins s own room new
come_same schema script after_joins s own room old new lines done due come = record {
  names = come.names;
  named = come.named;
  lines = ap (λ ls. map (λ (l : Bor Line). l.now) ls.items) lines ∙ come.lines;
  done = done ∙ come.done;
  due = ap option_copied due ∙ come.due;
  last = come.last;
}

-- the line at a number, unless an automatic reply is due
abbrev line_unless : List Line → ℕ → Option Due → Option Line
line_unless own k o = cond (is_some o) None (slice_get own k)

-- what is due is one of the replies
due_reads : (P : AutoReply → Type 0) (wire : Wire) (autos : List AutoReply) (own : List Event) (d : Due) → AllByRecursion P autos
    → due wire autos own ≡ Some d → P d.1
due_reads P wire autos [] d all e = absurd cc
due_reads P wire autos (event ∷ past) d all e = due_from P autos event.seq (responders_handed wire event.told event.asked) d all e

module _ (schema : Schema) (script : Script) (after_joins : List Event) (s : SeqId) (own : List Event) (room : Rooms) (agenda : Agenda)
    (come : HasCome schema script after_joins s own room agenda) where
  -- the wire of the schema
  abbrev wire : Wire
  wire = wire_of schema

  -- the names of the sequence
  abbrev names : Named
  names = names_of wire script after_joins s own

  -- ## Where no automatic reply is due

  module _ (none : agenda.due ≡ None) where
    none_now : due wire script.autos own ≡ None
    none_now = due_none (due wire script.autos own) (sym (ap option_copied none) ∙ come.due)

    -- the line that is next
    here : (found : Option Line) → found ≡ slice_get (planned agenda) agenda.done → slice_get (lines_of script s) (lines_done wire script.autos own) ≡ found
    here found is =
        ap (slice_get (lines_of script s)) (sym come.done) ∙ (ap (λ (ls : List Line). slice_get ls agenda.done) (sym come.lines) ∙ sym is)

    line_is : (found : Option Line) → found ≡ slice_get (planned agenda) agenda.done → line_at wire script.autos (lines_of script s) own ≡ found
    line_is found is = ap (line_unless (lines_of script s) (lines_done wire script.autos own)) none_now ∙ here found is

    next_is : (found : Option Line) → found ≡ slice_get (planned agenda) agenda.done
        → next_of wire script after_joins s own ≡ option_map (asked_by names) found
    next_is found is =
        ap (λ (o : Option Due). reply_first o (option_map (asked_by names) (line_at wire script.autos (lines_of script s) own))) none_now
        ∙ ap (option_map (asked_by names)) (line_is found is)

    -- there is none
    pub no_line : None ≡ slice_get (planned agenda) agenda.done → next_of wire script after_joins s own ≡ None
    no_line is = next_is None is

    -- there is one
    pub some_line : (line : Line) → Some line ≡ slice_get (planned agenda) agenda.done
        → next_of wire script after_joins s own ≡ Some (asked_by names line)
    some_line line is = next_is (Some line) is

    module _ (line : Line) (is : Some line ≡ slice_get (planned agenda) agenda.done) where
      -- it is the sequence's own, and one of the script's
      pub line_mine : line.seq ≡ s
      line_mine =
          let own_line : is_own s line ≡ true =
          kept_passes (is_own s) script.lines (lines_done wire script.autos own) line (here (Some line) is) in
          sym (same_seq s line.seq (and_parts (s.0 == line.seq.0) (not (is_join line.command)) own_line).0)

      pub line_reads : (P : Line → Type 0) → AllByRecursion P script.lines → P line
      line_reads P all = kept_holds (is_own s) P script.lines all (lines_done wire script.autos own) line (here (Some line) is)

      module _ (core after : Play) (desks : List (Rest Plain)) (of : core.schema ≡ schema) (later : Rooms) (plan : Agenda)
          (d : DidAlone script.autos line (option_copied plan.due) core after desks (names_in room) (names_in later) later.responders.others.items) where
        -- what the line asks
        abbrev asked : Asked
        asked = asked_by (names_in room) line

        -- its event
        abbrev event : Event
        event = record { seq = s; asked = asked; told = d.did.told }

        -- what is due, by what is meant
        due_of : due_by core.schema script.autos line.seq asked d.did.told ≡ due wire script.autos (event ∷ own)
        due_of =
            ap (λ (x : Schema). due_by x script.autos line.seq asked d.did.told) of
            ∙ ap (λ (q : SeqId). due_by schema script.autos q asked d.did.told) line_mine

        -- the names behind the event, by what is meant
        abbrev names_by : Schema → SeqId → Named → Option Line → Named
        names_by x q n o =
            named_after (wire_of x) o (due_by x script.autos q asked d.did.told) (record { seq = q; asked = asked; told = d.did.told }) n

        named_is : names_in later ≡ names_of wire script after_joins s (event ∷ own)
        named_is =
            d.named
            ∙ (ap (λ (x : Schema). names_by x line.seq (names_in room) (Some line)) of
            ∙ (ap (λ (q : SeqId). names_by schema q (names_in room) (Some line)) line_mine
            ∙ (ap (λ (n : Named). names_by schema s n (Some line)) come.named
            ∙ ap (names_by schema s names) (sym (line_is (Some line) is)))))

        -- the sequence did its line
        pub line_next : plan.lines ≡ agenda.lines → plan.done ≡ agenda.done + 1 → HaveNames script.names later
            → DidNext schema script after_joins s own core after desks later plan
        line_next lines done have = record {
          asked = asked;
          asks = some_line line is ∙ ap (λ (n : Named). Some (asked_by n line)) (sym come.named);
          did = record {
            schema = d.did.schema;
            seqs = d.did.seqs;
            told = d.did.told;
            event =
                d.did.event
                ∙ ap (λ (q : SeqId). core.events ++ record { seq = q; asked = asked; told = d.did.told } ∷ []) line_mine;
            legal = d.did.legal;
            few = d.did.few;
            rests = d.did.rests;
          };
          come = record {
            names = have;
            named = named_is;
            lines = ap (λ ls. map (λ (l : Bor Line). l.now) ls.items) lines ∙ come.lines;
            done = done ∙ (ap (λ (n : ℕ). n + 1) come.done ∙ sym (line_more wire script.autos event own none_now));
            due = d.found ∙ ap reply_of due_of;
            last = λ x e. d.last x (due_of ∙ e);
          };
        }

  -- ## Where one is due

  module _ (reply : AutoReply) (is : option_copied agenda.due ≡ Some reply) where
    -- the responder that it is due to
    pub due_now : (r : ResponderId) × (due wire script.autos own ≡ Some (r, reply))
    due_now = due_some (due wire script.autos own) reply (sym is ∙ come.due)

    pub due_last : (r : ResponderId) × EndsWith r room.responders.others.items
    due_last = (due_now.0, come.last (due_now.0, reply) due_now.1)

    pub reply_reads : (P : AutoReply → Type 0) → AllByRecursion P script.autos → P reply
    reply_reads P all = due_reads P wire script.autos own (due_now.0, reply) all due_now.1

    -- the sequence sent it
    pub reply_next : (core after : Play) (desks : List (Rest Plain)) (later : Rooms) (plan : Agenda) → plan.lines ≡ agenda.lines
        → plan.done ≡ agenda.done → plan.due ≡ None → HaveNames script.names later → names_in later ≡ names_in room
        → DidOne s (replied (due_now.0, reply)) core after desks → DidNext schema script after_joins s own core after desks later plan
    reply_next core after desks later plan lines done gone have same did =
        let event : Event = record { seq = s; asked = replied (due_now.0, reply); told = did.told } in
        let none : due wire script.autos (event ∷ own) ≡ None = none_due wire script.autos event own (due_now.0, reply) refl in
        record {
          asked = replied (due_now.0, reply);
          asks =
              ap (λ (o : Option Due). reply_first o (option_map (asked_by names) (line_at wire script.autos (lines_of script s) own))) due_now.1;
          did = did;
          come = record {
            names = have;
            named = same ∙ (come.named ∙ sym (names_reply wire script after_joins s own event (due_now.0, reply) due_now.1 refl));
            lines = ap (λ ls. map (λ (l : Bor Line). l.now) ls.items) lines ∙ come.lines;
            done = done ∙ (come.done ∙ sym (reply_more wire script.autos event own (due_now.0, reply) due_now.1));
            due = ap option_copied gone ∙ sym (ap reply_of none);
            last = λ d e. absurd (let never : ◌≡◌ {A = Option Due} None (Some d) = sym none ∙ e in cc);
          };
        }

-- ## Results

-- what a call came to that goes on, where it wasn't cut off
pub went_on : (result : Result Bool Cut) (A B C D : Type 0) (Q : Bool → Type 0) → OnOk result A → OnOk result B → OnOk result C → OnOk result D
    → IfOk result (λ goes. goes ≡ true) → (A → B → C → D → Q true) → IfOk result Q
went_on (Ok goes) A B C D Q a b c d is f = subst Q (sym is) (f a b c d)
went_on (Err cut) A B C D Q a b c d is f = tt
