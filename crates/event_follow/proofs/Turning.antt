-- What is next for a sequence, and where it is when that is done.
use Rattle.std.proofs.Common.{◌≡◌, ◌+◌, ℕ, Bor, true, List, [], ◌∷◌, length, refl, sym, ap, ◌∙◌, subst}
use Rattle.std.specs.Prelude.{◌==◌, cond, is_some, map, not, Option, Some, None, slice_get}
use Rattle.std.specs.List.{AllByRecursion}
use Rattle.std.specs.Option.{option_map}
use Rattle.std.proofs.lemmas.Bool.{and_parts}
use Rattle.mj_base.specs.declared.ids.SeqId.{SeqId}
use Rattle.mj_schema.specs.declared.schema.Schema.{Schema}
use Rattle.handle_table.specs.declared.thing.Thing.{Thing}
use Rattle.wire_encoder.specs.declared.prepared.Prepared.{Prepared}
use Rattle.wire_model.specs.Trees.{Tree, view}
use Rattle.wire_model.specs.declared.target.Target.{Target}
use Rattle.bind_model.specs.Replies.{responders_handed}
use Rattle.bind_model.specs.Wire.{Wire}
use Rattle.bind_model.specs.WireOf.{wire_of}
use Rattle.bind_model.specs.declared.asked.Asked.{Asked}
use Rattle.bind_model.specs.declared.asked.Asked.TheVariants as asks
use Rattle.bind_model.specs.declared.asked.Outgoing.{Outgoing}
use Rattle.bind_model.specs.declared.endpoint.PendingId.{PendingId}
use Rattle.bind_model.specs.declared.endpoint.ResponderId.{ResponderId}
use Rattle.bind_model.specs.declared.event.Event.{Event}
use Rattle.call_script.specs.declared.script.AutoReply.{AutoReply}
use Rattle.call_script.specs.declared.script.Line.{Line}
use Rattle.call_script.specs.declared.script.Script.{Script}
use Rattle.event_tables.specs.AsCore.{Steps, past_by}
use Rattle.event_steps.specs.Standing.{Stands}
use Rattle.event_steps.specs.declared.machine.Machine.{Machine}
use Rattle.plain_names.specs.Held.{HasNames, SameNames, named_in}
use Rattle.plain_names.specs.Settled.{settled_by}
use Rattle.plain_names.specs.declared.named.PlainNames.{PlainNames}
use Rattle.script_names.specs.Asking.{asked_by, outgoing}
use Rattle.script_names.specs.Autos.{Due, due, due_for, line_at, lines_done}
use Rattle.script_names.specs.Held.{held_at}
use Rattle.script_names.specs.Names.{Named, named_after, responders_named}
use Rattle.script_names.specs.Settling.{list_of}
use Rattle.script_names.specs.declared.stands.Stands.{Stands as Standing}
use Rattle.script_run.specs.OfScript.{names_of, next_of, replied, reply_first}
use Rattle.script_run.specs.Order.{is_join, is_own, lines_of}
use Rattle.script_run.proofs.Coming.{names_reply}
use Rattle.script_run.proofs.JoinDone.{same_named}
use Rattle.script_run.proofs.LineDone.{due_from}
use Rattle.script_run.proofs.OrderLists.{kept_holds, kept_passes}
use Rattle.script_run.proofs.Sequences.{same_seq}
use Rattle.script_run.proofs.TurnLemmas.{line_more, none_due, reply_more}
use Rattle.event_follow.specs.declared.places.DueReply.{DueReply}
use Rattle.event_follow.specs.declared.places.Place.{Place}
use Rattle.event_follow.specs.steps.Places.{HasCome, due_in, planned}
use Rattle.event_follow.specs.steps.Turning.{Did, DidLine, DidNext, SettledAs, Stepped, due_after}

-- ## An automatic reply

-- what is sent, by its parts
abbrev sent : Target → Tree → List Thing → List PendingId → Outgoing
sent target parameters things pendings = record { target = target; parameters = parameters; handles = things; pendings = pendings; moment = None }

-- a copy of what was prepared, with nothing, is the reply
pub stepped_reply : (s : SeqId) (r : ResponderId) (reply : AutoReply) (prepared : Prepared) (things : List Thing) (pendings : List PendingId)
    (before after : Machine) → prepared.target ≡ reply.prepared.target → view prepared.value ≡ view reply.prepared.value → things ≡ []
    → pendings ≡ [] → Steps before.tables after.tables s (asks.Answer r (outgoing prepared things pendings None)) → Stands after
    → Stepped s (replied (r, reply)) before after
stepped_reply s r reply prepared things pendings before after target value no_things no_pendings steps stands =
    let same : outgoing prepared things pendings None ≡ outgoing reply.prepared [] [] None =
    ap (λ (t : Target). sent t (view prepared.value) things pendings) target
    ∙ (ap (λ (v : Tree). sent reply.prepared.target v things pendings) value
    ∙ (ap (λ (xs : List Thing). sent reply.prepared.target (view reply.prepared.value) xs pendings) no_things
    ∙ ap (λ (ps : List PendingId). sent reply.prepared.target (view reply.prepared.value) [] ps) no_pendings)) in
    record { stands = stands; steps = subst (λ (o : Outgoing). Steps before.tables after.tables s (asks.Answer r o)) same steps }

-- what was asked may be said otherwise
pub stepped_as : (s : SeqId) (asked other : Asked) (before after : Machine) → asked ≡ other → Steps before.tables after.tables s asked
    → Stands after → Stepped s other before after
stepped_as s asked other before after same steps stands =
    record { stands = stands; steps = subst (λ (a : Asked). Steps before.tables after.tables s a) same steps }

-- ## Names that hold the same

pub same_held : (old new : PlainNames) → SameNames old new → named_in new ≡ named_in old
same_held old new same =
    same_named (named_in new) (named_in old) (ap (λ st. held_at st.things.items) same.stands)
    (ap (λ (table : List (Option Thing)). held_at table) same.handles) (ap (λ (table : List (Option PendingId)). held_at table) same.pendings)
    (ap (λ (table : List (Option ResponderId)). held_at table) same.responders)

pub same_have : (size : ℕ) (old new : PlainNames) → SameNames old new → HasNames size old → HasNames size new
same_have size old new same have = record {
  stands = ap (λ st. length st.things.items) same.stands ∙ have.stands;
  handles = ap length same.handles ∙ have.handles;
  pendings = ap length same.pendings ∙ have.pendings;
  responders = ap length same.responders ∙ have.responders;
}

-- by their own number
pub own_size : (size : ℕ) (names : PlainNames) → HasNames size names → HasNames (length names.stands.things.items) names
own_size size names have = subst (λ (n : ℕ). HasNames n names) (sym have.stands) have

-- ## An event that is settled

-- the names are those of the line's event
pub named_then : (schema : Schema) (autos : List AutoReply) (line : Line) (event : Event) (before : Named) (responder right : Option ResponderId)
    (found : Option Due) → list_of responder ≡ responders_handed (wire_of schema) event.told event.asked
    → found ≡ due_for autos event.seq (list_of responder) → list_of right ≡ responders_named found (list_of responder)
    → settled_by line.command (list_of right) event before ≡ named_after (wire_of schema) (Some line) (due_after schema autos event) event before
named_then schema autos line event before responder right found handed is named =
    let due_is : found ≡ due_after schema autos event = is ∙ ap (due_for autos event.seq) handed in
    let rights : list_of right ≡ responders_named (due_after schema autos event) (responders_handed (wire_of schema) event.told event.asked) =
    named ∙ (ap (λ (d : Option Due). responders_named d (list_of responder)) due_is ∙ ap (responders_named (due_after schema autos event)) handed) in
    ap (λ (rs : List ResponderId). settled_by line.command rs event before) rights

-- a line was done
pub line_done : (schema : Schema) (script : Script) (line : Line) (before after : Machine) (old mid new : Place) (autos : List AutoReply) (event : Event)
    (did : Did schema script line.seq (asked_by (named_in old.names) line) before after) → autos ≡ script.autos
    → event ≡ record { seq = line.seq; asked = asked_by (named_in old.names) line; told = did.told } → SameNames old.names mid.names
    → mid.lines ≡ old.lines → mid.done ≡ old.done → SettledAs schema autos line event mid new
    → DidLine schema script line before after old new
line_done schema script line before after old mid new autos event did all is same lines done s =
    let settled : SettledAs schema autos line event old new = record {
      named = s.named ∙ ap (named_after (wire_of schema) (Some line) (due_after schema autos event) event) (same_held old.names mid.names same);
      names = subst (λ (st : Standing). HasNames (length st.things.items) new.names) same.stands s.names;
      due = s.due;
      lines = s.lines ∙ lines;
      done = s.done ∙ done;
    } in
    record {
      did = did;
      settled =
          subst (λ (e : Event). SettledAs schema script.autos line e old new) is
          (subst (λ (rs : List AutoReply). SettledAs schema rs line event old new) all settled);
    }

-- ## What is next

-- a place that differs in nothing
pub come_same : (schema : Schema) (script : Script) (after_joins : List Event) (s : SeqId) (own : List Event) (old new : Place)
    → new.names ≡ old.names → new.lines ≡ old.lines → new.done ≡ old.done → new.due ≡ old.due
    → HasCome schema script after_joins s own old → HasCome schema script after_joins s own new
come_same schema script after_joins s own old new names lines done due come = record {
  names = subst (λ (n : PlainNames). HasNames script.names n) (sym names) come.names;
  named = ap named_in names ∙ come.named;
  lines = ap (λ ls. map (λ (l : Bor Line). l.now) ls.items) lines ∙ come.lines;
  done = done ∙ come.done;
  due = ap due_in due ∙ come.due;
}

-- the line at a number, unless an automatic reply is due
abbrev line_unless : List Line → ℕ → Option Due → Option Line
line_unless own k o = cond (is_some o) None (slice_get own k)

-- what is due is one of the replies
due_reads : (P : AutoReply → Type 0) (wire : Wire) (autos : List AutoReply) (own : List Event) (d : Due) → AllByRecursion P autos
    → due wire autos own ≡ Some d → P d.1
due_reads P wire autos [] d all e = absurd cc
due_reads P wire autos (event ∷ past) d all e = due_from P autos event.seq (responders_handed wire event.told event.asked) d all e

module _ (schema : Schema) (script : Script) (after_joins : List Event) (s : SeqId) (own : List Event) (place : Place)
    (come : HasCome schema script after_joins s own place) where
  -- the wire of the schema
  abbrev wire : Wire
  wire = wire_of schema

  -- the names of the sequence
  abbrev names : Named
  names = names_of wire script after_joins s own

  -- ## Where no automatic reply is due

  module _ (none : place.due ≡ None) where
    none_now : due wire script.autos own ≡ None
    none_now = sym come.due ∙ ap due_in none

    -- the line that is next
    here : (found : Option Line) → found ≡ slice_get (planned place) place.done → slice_get (lines_of script s) (lines_done wire script.autos own) ≡ found
    here found is =
        ap (slice_get (lines_of script s)) (sym come.done) ∙ (ap (λ (ls : List Line). slice_get ls place.done) (sym come.lines) ∙ sym is)

    line_is : (found : Option Line) → found ≡ slice_get (planned place) place.done → line_at wire script.autos (lines_of script s) own ≡ found
    line_is found is = ap (line_unless (lines_of script s) (lines_done wire script.autos own)) none_now ∙ here found is

    next_is : (found : Option Line) → found ≡ slice_get (planned place) place.done
        → next_of wire script after_joins s own ≡ option_map (asked_by names) found
    next_is found is =
        ap (λ (o : Option Due). reply_first o (option_map (asked_by names) (line_at wire script.autos (lines_of script s) own))) none_now
        ∙ ap (option_map (asked_by names)) (line_is found is)

    -- there is none
    pub no_line : None ≡ slice_get (planned place) place.done → next_of wire script after_joins s own ≡ None
    no_line is = next_is None is

    -- there is one
    pub some_line : (line : Line) → Some line ≡ slice_get (planned place) place.done
        → next_of wire script after_joins s own ≡ Some (asked_by names line)
    some_line line is = next_is (Some line) is

    module _ (line : Line) (is : Some line ≡ slice_get (planned place) place.done) where
      -- it is the sequence's own, and one of the script's
      pub line_mine : line.seq ≡ s
      line_mine =
          let own_line : is_own s line ≡ true =
          kept_passes (is_own s) script.lines (lines_done wire script.autos own) line (here (Some line) is) in
          sym (same_seq s line.seq (and_parts (s.0 == line.seq.0) (not (is_join line.command)) own_line).0)

      pub line_reads : (P : Line → Type 0) → AllByRecursion P script.lines → P line
      line_reads P all = kept_holds (is_own s) P script.lines all (lines_done wire script.autos own) line (here (Some line) is)

      module _ (mid later : Place) (before after : Machine) (same : mid.names ≡ place.names)
          (d : DidLine schema script line before after mid later) where
        -- what the line asks
        abbrev asked : Asked
        asked = asked_by (named_in mid.names) line

        -- its event
        abbrev event : Event
        event = record { seq = s; asked = asked; told = d.did.told }

        -- by whose it is
        abbrev event_of : SeqId → Event
        event_of q = record { seq = q; asked = asked; told = d.did.told }

        -- the names behind it, by what is meant
        abbrev names_by : SeqId → Named → Option Line → Named
        names_by q n o = named_after wire o (due_after schema script.autos (event_of q)) (event_of q) n

        named_was : named_in mid.names ≡ names
        named_was = ap named_in same ∙ come.named

        named_is : named_in later.names ≡ names_of wire script after_joins s (event ∷ own)
        named_is =
            d.settled.named
            ∙ (ap (λ (q : SeqId). names_by q (named_in mid.names) (Some line)) line_mine
            ∙ (ap (λ (n : Named). names_by s n (Some line)) named_was ∙ ap (names_by s names) (sym (line_is (Some line) is))))

        -- the sequence did its line
        pub line_next : mid.lines ≡ place.lines → mid.done ≡ place.done + 1 → DidNext schema script after_joins s own before after later
        line_next lines done = record {
          asked = asked;
          asks = some_line line is ∙ ap (λ (n : Named). Some (asked_by n line)) (sym named_was);
          did = record {
            is = d.did.is;
            told = d.did.told;
            past = d.did.past ∙ ap (λ (q : SeqId). event_of q ∷ past_by before.tables) line_mine;
          };
          come = record {
            names =
                subst (λ (n : ℕ). HasNames n later.names) (ap (λ (n : PlainNames). length n.stands.things.items) same ∙ come.names.stands)
                d.settled.names;
            named = named_is;
            lines = ap (λ ls. map (λ (l : Bor Line). l.now) ls.items) (d.settled.lines ∙ lines) ∙ come.lines;
            done =
                d.settled.done
                ∙ (done ∙ (ap (λ (n : ℕ). n + 1) come.done ∙ sym (line_more wire script.autos event own none_now)));
            due = d.settled.due ∙ ap (λ (q : SeqId). due_after schema script.autos (event_of q)) line_mine;
          };
        }

  -- ## Where one is due

  module _ (found : DueReply) (is : place.due ≡ Some found) where
    -- the responder, and what is answered
    abbrev pub due_to : Due
    due_to = (found.responder, found.reply.now)

    due_now : due wire script.autos own ≡ Some due_to
    due_now = sym come.due ∙ ap due_in is

    pub reply_asks : next_of wire script after_joins s own ≡ Some (replied due_to)
    reply_asks = ap (λ (o : Option Due). reply_first o (option_map (asked_by names) (line_at wire script.autos (lines_of script s) own))) due_now

    pub reply_reads : (P : AutoReply → Type 0) → AllByRecursion P script.autos → P found.reply.now
    reply_reads P all = due_reads P wire script.autos own due_to all due_now

    -- the sequence sent it
    pub reply_next : (before after : Machine) → Did schema script s (replied due_to) before after
        → DidNext schema script after_joins s own before after (record place { due = None })
    reply_next before after did =
        let event : Event = record { seq = s; asked = replied due_to; told = did.told } in
        let none : due wire script.autos (event ∷ own) ≡ None = none_due wire script.autos event own due_to refl in
        record {
          asked = replied due_to;
          asks = reply_asks;
          did = did;
          come = record {
            names = come.names;
            named = come.named ∙ sym (names_reply wire script after_joins s own event due_to due_now refl);
            lines = come.lines;
            done = come.done ∙ sym (reply_more wire script.autos event own due_to due_now);
            due = sym none;
          };
        }
