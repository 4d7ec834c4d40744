-- What begins a run of a script, over the project's own definitions.
use Rattle.std.proofs.Common.{◌≡◌, ◌≤◌, ◌<◌, ℕ, zero, suc, ◌+◌, Bool, true, false, List, [], ◌∷◌, ◌++◌, ◌⊎◌, inl, inr, length, refl, sym, ap, ◌∙◌, subst, arith, append_assoc}
use Rattle.std.proofs.lemmas.List.{append-nil, length-reverse}
use Rattle.std.specs.Prelude.{Option, Some, None, filter, find, is_some, slice_get, option_and_then, if◌then◌else◌}
use Rattle.std.specs.List.{AllByRecursion}
use Rattle.std.specs.Option.{option_map}
use Rattle.mj_base.specs.declared.ids.EndId.{EndId}
use Rattle.mj_base.specs.declared.ids.SeqId.{SeqId}
use Rattle.mj_base.specs.declared.limits.TheConstants.{MAX_EVENTS, MAX_FILE_BYTES}
use Rattle.mj_schema.specs.declared.schema.Schema.{Schema}
use Rattle.bind_model.specs.declared.asked.Asked.{Asked}
use Rattle.bind_model.specs.declared.asked.Asked.TheVariants as asks
use Rattle.bind_model.specs.declared.endpoint.ResponderId.{ResponderId}
use Rattle.bind_model.specs.declared.event.Event.{Event}
use Rattle.bind_model.specs.Machine.{made}
use Rattle.bind_model.specs.Ready.{ends_of, is_ready, least, ready, taker}
use Rattle.bind_model.specs.Replies.{legal, responders_handed}
use Rattle.bind_model.specs.Wire.{Wire}
use Rattle.bind_model.specs.WireOf.{wire_of}
use Rattle.bind_model.proofs.PendingFacts.{taker_below}
use Rattle.call_script.specs.declared.script.AutoReply.{AutoReply}
use Rattle.call_script.specs.declared.script.Line.{Line}
use Rattle.call_script.specs.declared.script.Script.{Script}
use Rattle.call_script.specs.Sound.{IsLine, IsReply, IsScript}
use Rattle.script_names.specs.Autos.{Due, due, due_for, replies_to}
use Rattle.script_run.specs.Order.{is_join}
use Rattle.script_run.specs.OfScript.{GoesOn, Next, PastInSomeOrder, joins_by, next_join, next_of, next_take, replied, reply_or}
use Rattle.script_run.proofs.FewEvents.{few_events}
use Rattle.history_audit.specs.steps.Begun.{AsksNoMore, AsksOn, Parts, parts}
use Rattle.history_audit.proofs.Parts as split

module _ (schema : Schema) (script : Script) where
  abbrev wire : Wire
  wire = wire_of schema

  abbrev join : List Event → Option Next
  join own = next_join script own

  abbrev line : List Event → SeqId → List Event → Option Asked
  line after_joins s own = next_of wire script after_joins s own

  abbrev drain : List Event → List Event → Option Next
  drain before own = next_take wire script.autos before own

  -- these events begin a run
  abbrev pub Asking : List Event → Type 0
  Asking past = AsksOn script.seqs join line drain past

  abbrev pub of : List Event → Parts
  of past = parts script.seqs join line drain past

  abbrev pub Over : Parts → Type 0
  Over p = AsksNoMore script.seqs join line drain p

  -- ## They are few, and whoever is asked is there

  pub few : IsScript schema script → script.bytes ≤ MAX_FILE_BYTES → (past : List Event) → legal wire script.seqs past → Asking past → length past < MAX_EVENTS
  few is short past h asks =
      let fall = split.falls wire script.seqs join line drain past asks in
      let p : Parts = of past in
      subst (λ (es : List Event). length es < MAX_EVENTS) (sym fall.whole)
      (few_events schema script is p.joins p.middle short p.taken (subst (λ (es : List Event). legal wire script.seqs es) fall.whole h)
      fall.joins fall.lines fall.takes)

  abbrev Within : Option Next → Type 0
  Within None = Unit {0}
  Within (Some next) = next.0.0 < script.seqs

  abbrev joining : List Line → List Line
  joining lines = filter (λ (l : Line). is_join l.command) lines

  line_there : (lines : List Line) (k : ℕ) → AllByRecursion (IsLine schema script.seqs script.names) lines
      → Within (option_map joins_by (slice_get (joining lines) k))
  line_there [] k all = tt
  line_there (l ∷ lines) k all = go (is_join l.command) k (λ n. line_there lines n all.1)
    where
      go : (b : Bool) (k : ℕ) → ((n : ℕ) → Within (option_map joins_by (slice_get (joining lines) n)))
          → Within (option_map joins_by (slice_get (if b then l ∷ joining lines else joining lines) k))
      go false k rest = rest k
      go true (suc k) rest = rest k
      go true zero rest = all.0.seq

  join_there : IsScript schema script → (past : List Event) (s : SeqId) (a : Asked) → join past ≡ Some (s, a) → s.0 < script.seqs
  join_there is past s a e = subst Within e (line_there script.lines (length past) is.lines)

  reply_there : (autos : List AutoReply) (test : AutoReply → Bool) (reply : AutoReply) → AllByRecursion (IsReply schema script.seqs) autos
      → find test autos ≡ Some reply → reply.seq.0 < script.seqs
  reply_there [] test reply all e = absurd cc
  reply_there (x ∷ autos) test reply all e = go (test x) (λ g. reply_there autos test reply all.1 g) e
    where
      go : (b : Bool) → (find test autos ≡ Some reply → reply.seq.0 < script.seqs) → (if b then Some x else find test autos) ≡ Some reply
          → reply.seq.0 < script.seqs
      go true rest g = let same : x ≡ reply = cc in subst (λ (r : AutoReply). r.seq.0 < script.seqs) same all.0.seq
      go false rest g = rest g

  for_there : (seq : SeqId) (rs : List ResponderId) (d : Due) → AllByRecursion (IsReply schema script.seqs) script.autos
      → due_for script.autos seq rs ≡ Some d → d.1.seq.0 < script.seqs
  for_there seq [] d all e = absurd cc
  for_there seq (r ∷ rs) d all e = go (find (replies_to seq r) script.autos) refl e
    where
      go : (o : Option AutoReply) → find (replies_to seq r) script.autos ≡ o → option_map {U = Due} (λ (x : AutoReply). (r, x)) o ≡ Some d
          → d.1.seq.0 < script.seqs
      go None f g = absurd cc
      go (Some x) f g =
          let pair : (r, x) ≡ d = cc in
          subst (λ (q : Due). q.1.seq.0 < script.seqs) pair (reply_there script.autos (replies_to seq r) x all f)

  due_there : (past : List Event) (d : Due) → AllByRecursion (IsReply schema script.seqs) script.autos → due wire script.autos past ≡ Some d
      → d.1.seq.0 < script.seqs
  due_there [] d all e = absurd cc
  due_there (event ∷ past) d all e = for_there event.seq (responders_handed wire event.told event.asked) d all e

  ready_there : (past : List Event) (s : SeqId) (y : EndId) → legal wire script.seqs past → length past < MAX_EVENTS → ready wire past ≡ Some (s, y)
      → s.0 < script.seqs
  ready_there past s y h short e = go (least (filter (is_ready wire past) (ends_of (made past)))) e
    where
      of_taker : (x : EndId) (o : Option SeqId) → taker wire past x ≡ o → option_map {U = SeqId × EndId} (λ (t : SeqId). (t, x)) o ≡ Some (s, y)
          → s.0 < script.seqs
      of_taker x None f g = absurd cc
      of_taker x (Some t) f g =
          let pair : (t, x) ≡ (s, y) = cc in
          let who : t ≡ s = ap (λ (p : SeqId × EndId). p.0) pair in
          subst (λ (u : SeqId). u.0 < script.seqs) who (taker_below wire script.seqs past h (omega (arith, short)) x t f)

      go : (o : Option EndId) → option_and_then {U = SeqId × EndId} (λ (x : EndId). option_map (λ (t : SeqId). (t, x)) (taker wire past x)) o ≡ Some (s, y)
          → s.0 < script.seqs
      go None g = absurd cc
      go (Some x) g = of_taker x (taker wire past x) refl g

  drain_there : IsScript schema script → (before taken : List Event) (s : SeqId) (a : Asked) → legal wire script.seqs (taken ++ before)
      → length (taken ++ before) < MAX_EVENTS → drain before taken ≡ Some (s, a) → s.0 < script.seqs
  drain_there is before taken s a h short e = go (due wire script.autos (taken ++ before)) refl e
    where
      by_turn : (o : Option (SeqId × EndId)) → ready wire (taken ++ before) ≡ o
          → option_map {U = Next} (λ (turn : SeqId × EndId). (turn.0, asks.Take turn.1)) o ≡ Some (s, a) → s.0 < script.seqs
      by_turn None f g = absurd cc
      by_turn (Some (t, y)) f g =
          let pair : (t, asks.Take y) ≡ (s, a) = cc in
          let who : t ≡ s = ap (λ (p : Next). p.0) pair in
          subst (λ (u : SeqId). u.0 < script.seqs) who (ready_there (taken ++ before) t y h short f)

      go : (o : Option Due) → due wire script.autos (taken ++ before) ≡ o
          → reply_or o (option_map {U = Next} (λ (turn : SeqId × EndId). (turn.0, asks.Take turn.1)) (ready wire (taken ++ before))) ≡ Some (s, a)
          → s.0 < script.seqs
      go None f g = by_turn (ready wire (taken ++ before)) refl g
      go (Some d) f g =
          let pair : (d.1.seq, replied d) ≡ (s, a) = cc in
          let who : d.1.seq ≡ s = ap (λ (p : Next). p.0) pair in
          subst (λ (u : SeqId). u.0 < script.seqs) who (due_there (taken ++ before) d is.autos f)

  -- ## The laws

  -- a whole run's events begin it, and nothing is asked behind them
  pub run_begins : IsScript schema script → (past : List Event) → legal wire script.seqs past → PastInSomeOrder schema script past
      → Asking past × Over (of past)
  run_begins is past h run =
      let aj : List Event = run.after_joins in
      let middle : List Event = run.middle in
      let taken : List Event = run.drain.own in
      let whole : past ≡ taken ++ (middle ++ aj) = run.drain.whole in
      let h' : legal wire script.seqs (taken ++ (middle ++ aj)) = subst (λ (es : List Event). legal wire script.seqs es) whole h in
      let joins : GoesOn join aj = subst (λ (es : List Event). GoesOn join es) (sym (append-nil run.joins.own) ∙ sym run.joins.whole) run.joins.asks in
      let joined : join aj ≡ None = subst (λ (es : List Event). join es ≡ None) (sym (append-nil run.joins.own) ∙ sym run.joins.whole) run.joins.over in
      let are = split.there wire script.seqs join line drain aj middle (legal_behind taken (middle ++ aj) h') in
      let left = split.none_left wire script.seqs join line drain aj middle (λ s lt. (run.lines s lt).over) in
      let lines = split.lines_go wire script.seqs join line drain aj middle joins joined are (λ s lt. (run.lines s lt).asks) in
      let goes = split.takes_go wire script.seqs join line drain aj middle taken joined left lines run.drain.asks in
      let over : Over (record { joins = aj; middle = middle; taken = taken }) = record { joined = joined; done = left; drained = run.drain.over } in (
        subst (λ (es : List Event). Asking es) (sym whole) goes.asks,
        subst (λ (es : List Event). Over (of es)) (sym whole) (subst (λ (p : Parts). Over p) (sym goes.are) over),
      )
    where
      legal_behind : (more past : List Event) → legal wire script.seqs (more ++ past) → legal wire script.seqs past
      legal_behind [] past h = h
      legal_behind (event ∷ more) past h = legal_behind more past h.2

  -- events that begin a run, and behind which nothing is asked, are a whole one
  pub begins_run : (past : List Event) → Asking past → Over (of past) → PastInSomeOrder schema script past
  begins_run past asks over =
      let p : Parts = of past in
      let fall = split.falls wire script.seqs join line drain past asks in
      record {
        after_joins = p.joins;
        middle = p.middle;
        joins = record { own = p.joins; whole = sym (append-nil p.joins); asks = fall.joins; over = over.joined };
        lines = λ s lt. record { asks = fall.lines s lt; over = split.no_line wire script.seqs join line drain p over.done s lt };
        drain = record { own = p.taken; whole = fall.whole; asks = fall.takes; over = over.drained };
      }

  -- whatever begins a run goes on to a whole one
  pub record GoesOnToRun (past : List Event) : Type 0 where
    pub more : List Event
    pub legal_on : legal wire script.seqs (more ++ past)
    pub run : PastInSomeOrder schema script (more ++ past)

  pub begun_goes_on : IsScript schema script → script.bytes ≤ MAX_FILE_BYTES → (past : List Event) → legal wire script.seqs past → Asking past
      → GoesOnToRun past
  begun_goes_on is short past h asks =
      let finish = split.finishes wire script.seqs join line drain MAX_EVENTS (few is short) (join_there is) (drain_there is) past h asks in
      record { more = finish.more; legal_on = finish.legal_on; run = begins_run (finish.more ++ past) finish.asks finish.over }

  -- and each front of a whole run begins one
  pub front_begins : IsScript schema script → (past : List Event) → GoesOnToRun past → Asking past
  front_begins is past run = split.front wire script.seqs join line drain run.more past (run_begins is (run.more ++ past) run.legal_on run.run).0
