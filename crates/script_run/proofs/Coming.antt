-- The events of one turn: that of a command, and that of the automatic reply that is due then.
use Rattle.std.proofs.Common.{◌≡◌, ◌≤◌, ◌<◌, ◌+◌, ℕ, Bool, true, false, List, [], ◌∷◌, ◌⊎◌, inl, inr, length, drop, refl, sym, ap, ◌∙◌, subst, arith}
use Rattle.std.specs.Prelude.{◌==◌, Option, Some, None, is_some, reverse, set, slice_get, if◌then◌else◌}
use Rattle.std.specs.Option.{option_map}
use Rattle.std.proofs.Math.Seq.{drop-nil}
use Rattle.std.proofs.lemmas.Bool.{eqb-true}
use Rattle.std.proofs.lemmas.List.{reverse-append}
use Rattle.mj_base.specs.declared.ids.SeqId.{SeqId}
use Rattle.mj_base.specs.declared.limits.TheConstants.{MAX_EVENTS}
use Rattle.mj_schema.specs.declared.schema.Schema.{Schema}
use Rattle.handle_table.proofs.NumberedLemmas.{get-set}
use Rattle.bind_core.specs.Play.{Play}
use Rattle.bind_model.specs.Machine.{handed}
use Rattle.bind_model.specs.Replies.{Legal, responders_handed}
use Rattle.bind_model.specs.Wire.{Wire}
use Rattle.bind_model.specs.WireOf.{wire_of}
use Rattle.bind_model.specs.declared.asked.Asked.{Asked}
use Rattle.bind_model.specs.declared.event.Event.{Event}
use Rattle.bind_model.specs.declared.told.Told.{Told}
use Rattle.call_script.specs.declared.script.AutoReply.{AutoReply}
use Rattle.call_script.specs.declared.script.Line.{Line}
use Rattle.call_script.specs.declared.script.NameId.{NameId}
use Rattle.call_script.specs.declared.script.Script.{Script}
use Rattle.remote_receiver.specs.Notes.{Kept}
use Rattle.remote_receiver.specs.declared.rest.Rest.{Rest}
use Rattle.script_names.specs.Autos.{Due, due, line_at, lines_done}
use Rattle.script_names.specs.Names.{Named, named_after, pendings_handed, then_held}
use Rattle.script_run.specs.OfScript.{names_of, replied}
use Rattle.script_run.specs.Order.{lines_of}
use Rattle.script_run.specs.declared.plain.Plain.{Plain}
use Rattle.script_names.specs.declared.rooms.Rooms.{Rooms}
use Rattle.script_run.specs.AtDesk.{Seen}
use Rattle.script_run.specs.steps.Desks.{Replied, Went, due_by}
use Rattle.script_run.specs.Draining.{HaveRested, IsCoreOf}
use Rattle.script_run.specs.steps.Going.{IsPutBack, IsWoken}
use Rattle.script_run.specs.steps.Running.{seat_of}
use Rattle.script_run.proofs.TurnLemmas.{none_due}
use Rattle.script_run.proofs.Waking.{Grew, rested_again}

-- ## What came

-- the event came alone: no reply is due
pub record CameAlone (wire : Wire) (autos : List AutoReply) (event : Event) (past after : List Event) : Type 0 where
  pub none : due wire autos (event ∷ past) ≡ None
  pub whole : after ≡ event ∷ past

-- the automatic reply that is due came behind it
pub record CameBoth (wire : Wire) (autos : List AutoReply) (event : Event) (past after : List Event) : Type 0 where
  pub d : Due
  pub reply : Event
  pub found : due wire autos (event ∷ past) ≡ Some d
  pub seq : reply.seq ≡ event.seq
  pub asked : reply.asked ≡ replied d
  pub whole : after ≡ reply ∷ event ∷ past

-- an event came alone, or with the automatic reply that was due behind it
abbrev pub Came : Wire → List AutoReply → Event → List Event → List Event → Type 0
Came wire autos event past after = CameAlone wire autos event past after ⊎ CameBoth wire autos event past after

-- what went, the newest event first
went_past : (b a : Seen) (old new : Kept Plain) (asked : Asked) (told : Told) → b.alone ≡ true → Went b a old new asked told
    → reverse a.events ≡ record { seq = b.me; asked = asked; told = told } ∷ reverse b.events
went_past b a old new asked told alone went =
    let event : Event = record { seq = b.me; asked = asked; told = told } in
    ap reverse (went.sole alone) ∙ reverse-append b.events (event ∷ [])

-- a command of a desk, with the automatic reply that is due then
pub came : (autos : List AutoReply) (b m a : Seen) (old mid new : Kept Plain) (asked : Asked) (told : Told) → b.alone ≡ true
    → Went b m old mid asked told → Replied (due_by b.schema autos b.me asked told) m a mid new
    → Came (wire_of b.schema) autos (record { seq = b.me; asked = asked; told = told }) (reverse b.events) (reverse a.events)
came autos b m a old mid new asked told alone went answered = go (due_by b.schema autos b.me asked told) refl answered
  where
    event : Event
    event = record { seq = b.me; asked = asked; told = told }

    past : reverse m.events ≡ record { seq = b.me; asked = asked; told = told } ∷ reverse b.events
    past = went_past b m old mid asked told alone went

    go : (found : Option Due) → due_by b.schema autos b.me asked told ≡ found → Replied found m a mid new
        → Came (wire_of b.schema) autos (record { seq = b.me; asked = asked; told = told }) (reverse b.events) (reverse a.events)
    go None e same = inl (record { none = e; whole = ap (λ (s : Seen). reverse s.events) same.0 ∙ past })
    go (Some d) e second = inr (record {
      d = d;
      reply = record { seq = m.me; asked = replied d; told = second.0 };
      found = e;
      seq = went.same.me;
      asked = refl;
      whole =
          went_past m a mid new (replied d) second.0 (went.same.alone ∙ alone) second.1
          ∙ ap (λ (es : List Event). record { seq = m.me; asked = replied d; told = second.0 } ∷ es) past;
    })

-- the desk is the same, and there are no more events than there may be
pub ends : (found : Option Due) (b m a : Seen) (old mid new : Kept Plain) (asked : Asked) (told : Told) → Went b m old mid asked told
    → Replied found m a mid new → (a.me ≡ b.me) × (length a.events ≤ MAX_EVENTS)
ends None b m a old mid new asked told went same =
    (ap (λ (s : Seen). s.me) same.0 ∙ went.same.me, subst (λ (s : Seen). length s.events ≤ MAX_EVENTS) (sym same.0) went.few)
ends (Some d) b m a old mid new asked told went second = (second.1.same.me ∙ went.same.me, second.1.few)

-- by the sequence and the core that are meant
pub at_seat : (P : Seen → Seen → Type 0) → ((b a : Seen) → P b a → a.me ≡ b.me) → (core at there after : Play) (s of on : SeqId) → at ≡ core → of ≡ s
    → after ≡ there → P (seat_of at of) (seat_of there on) → (on ≡ s) × P (seat_of core s) (seat_of after s)
at_seat P me core at there after s of on is seq same did =
    let mine : on ≡ s = me (seat_of at of) (seat_of there on) did ∙ seq in (
      mine,
      subst (λ (p : Play). P (seat_of core s) (seat_of p s)) (sym same)
          (subst (λ (p : Play). P (seat_of p s) (seat_of there s)) is
          (subst (λ (q : SeqId). P (seat_of at q) (seat_of there s)) seq (subst (λ (q : SeqId). P (seat_of at of) (seat_of there q)) mine did))),
    )

-- by the schema that is meant
pub came_of : (wire other : Wire) (autos : List AutoReply) (event : Event) (past after : List Event) → wire ≡ other → Came wire autos event past after
    → Came other autos event past after
came_of wire other autos event past after e c = subst (λ (w : Wire). Came w autos event past after) e c

-- nothing is due behind a turn
pub none_behind : (wire : Wire) (autos : List AutoReply) (event : Event) (past after : List Event) → Came wire autos event past after
    → due wire autos after ≡ None
none_behind wire autos event past after (inl c) = ap (due wire autos) c.whole ∙ c.none
none_behind wire autos event past after (inr c) = ap (due wire autos) c.whole ∙ none_due wire autos c.reply (event ∷ past) c.d c.asked

-- there are more events than before
pub more_behind : (wire : Wire) (autos : List AutoReply) (event : Event) (past after : List Event) → Came wire autos event past after
    → length past < length after
more_behind wire autos event past after (inl c) = omega (arith, ap length c.whole)
more_behind wire autos event past after (inr c) = omega (arith, ap length c.whole)

-- ## The names after an automatic reply

-- an event that is no line's own spends nothing, and gives nothing a name
nothing_named : (wire : Wire) (event : Event) (before : Named) → named_after wire None None event before ≡ before
nothing_named wire event before =
    ap (λ (ps : List NameId). after ps (drop (length (handed event.told) + length (pendings_handed event.told)) [])) (drop-nil (length (handed event.told)))
    ∙ ap (λ (rs : List NameId). after [] rs) (drop-nil (length (handed event.told) + length (pendings_handed event.told)))
  where
    after : List NameId → List NameId → Named
    after ps rs = record {
      stands = then_held [] (handed event.told) [] before.stands;
      handle = then_held [] (handed event.told) [] before.handle;
      pending = then_held ps (pendings_handed event.told) [] before.pending;
      responder = then_held rs (responders_handed wire event.told event.asked) [] before.responder;
    }

-- names stay what they are
pub names_reply : (wire : Wire) (script : Script) (after_joins : List Event) (s : SeqId) (past : List Event) (reply : Event) (d : Due)
    → due wire script.autos past ≡ Some d → reply.asked ≡ replied d
    → names_of wire script after_joins s (reply ∷ past) ≡ names_of wire script after_joins s past
names_reply wire script after_joins s past reply d found asked =
    let none : due wire script.autos (reply ∷ past) ≡ None = none_due wire script.autos reply past d asked in
    let names = names_of wire script after_joins s past in
    let no_line : line_at wire script.autos (lines_of script s) past ≡ None =
    ap
    (λ (o : Option Due). if◌then◌else◌ {A = Option Line} (is_some o) None (slice_get (lines_of script s) (lines_done wire script.autos past)))
    found in
    ap (λ (o : Option Line). named_after wire o (due wire script.autos (reply ∷ past)) reply names) no_line
    ∙ (ap (λ (o : Option Due). named_after wire None o reply names) none ∙ nothing_named wire reply names)

-- ## Desks and core behind a turn

module _ (schema : Schema) (script : Script) (s of on : SeqId) (core at there after : Play) (rests woken new : List (Rest Plain)) (kept kept' : Kept Plain)
    (is_core : IsCoreOf schema script core) (within : s.0 < core.seqs) (rested : HaveRested core rests) (is : IsWoken s core rests woken at of kept)
    (grew : Grew of at there kept kept') (mine : on ≡ s) (back : IsPutBack on woken new kept' there) (same : after ≡ there)
    (legal : Legal (wire_of after.schema) after.seqs after.events) (few : length after.events ≤ MAX_EVENTS) where
  pub core_behind : IsCoreOf schema script after
  core_behind = record {
    schema = ap (λ (p : Play). p.schema) same ∙ (grew.schema ∙ (ap (λ (p : Play). p.schema) is.core ∙ is_core.schema));
    seqs = ap (λ (p : Play). p.seqs) same ∙ (grew.seqs ∙ (ap (λ (p : Play). p.seqs) is.core ∙ is_core.seqs));
    legal = legal;
    few = few;
  }

  pub rested_behind : HaveRested after new
  rested_behind =
      subst (λ (p : Play). HaveRested p new) (sym same)
      (rested_again s of core at there rests woken new kept kept' within rested is grew
      (subst (λ (q : SeqId). IsPutBack q woken new kept' there) (mine ∙ sym is.seq) back))

-- ## One room of many

-- what holds of the room that changed, and of the others, holds of all
module _ (P : SeqId → Rooms → Type 0) (n : SeqId) (rooms : List Rooms) (later : Rooms) (own : P n later)
    (others : (s : SeqId) (room : Rooms) → (n.0 == s.0) ≡ false → slice_get rooms s.0 ≡ Some room → P s room) where
  pub each_room : (s : SeqId) (room : Rooms) → slice_get (set rooms n.0 later) s.0 ≡ Some room → P s room
  each_room s room e = go (n.0 == s.0) refl (sym (get-set later rooms n.0 s.0) ∙ e)
    where
      found : (o : Option Rooms) → option_map (λ (before : Rooms). later) o ≡ Some room → later ≡ room
      found (Some before) h = cc
      found None h = absurd cc

      go : (b : Bool) → (n.0 == s.0) ≡ b
          → (if n.0 == s.0 then option_map (λ (before : Rooms). later) (slice_get rooms s.0) else slice_get rooms s.0) ≡ Some room → P s room
      go true same h =
          let who : n ≡ s = ap (λ (k : ℕ). record { 0 = k }) (eqb-true n.0 s.0 same) in
          let this : option_map (λ (before : Rooms). later) (slice_get rooms s.0) ≡ Some room = rw same at h in
          subst (λ (q : SeqId). P q room) who (subst (λ (r : Rooms). P n r) (found (slice_get rooms s.0) this) own)
      go false other h =
          let this : slice_get rooms s.0 ≡ Some room = rw other at h in
          others s room other this
