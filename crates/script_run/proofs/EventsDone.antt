-- What the events of joins, of a sequence's lines and of takes bring, and how many they are.
use Rattle.std.proofs.Common.{◌≡◌, ◌≤◌, ◌<◌, ℕ, zero, suc, ◌+◌, Bool, true, List, [], ◌∷◌, ◌++◌, length, refl, sym, ap, ◌∙◌, subst, arith}
use Rattle.std.specs.Prelude.{filter, is_some, Option, Some, None, slice_get, if◌then◌else◌}
use Rattle.std.specs.List.{AllByRecursion}
use Rattle.std.specs.Option.{option_map}
use Rattle.std.proofs.lemmas.Option.{get_or_from_slice_get, slice_get_within}
use Rattle.std.proofs.lemmas.List.Elements.{All-filter, All-from_recursion}
use Rattle.mj_base.specs.declared.ids.EndId.{EndId}
use Rattle.mj_base.specs.declared.ids.SeqId.{SeqId}
use Rattle.mj_schema.specs.declared.schema.Schema.{Schema}
use Rattle.wire_encoder.specs.Prepared.{payload_for}
use Rattle.wire_model.specs.Trees.{view}
use Rattle.wire_model.specs.Tight.{MAX_PAYLOAD_BYTES}
use Rattle.bind_model.specs.declared.asked.Asked.{Asked}
use Rattle.bind_model.specs.declared.asked.Asked.TheVariants as asks
use Rattle.bind_model.specs.declared.event.Event.{Event}
use Rattle.bind_model.specs.Ready.{is_settled, ready}
use Rattle.bind_model.specs.Replies.{answer, legal}
use Rattle.bind_model.specs.Wire.{Wire}
use Rattle.bind_model.specs.WireOf.{wire_of}
use Rattle.event_counts.specs.Counts.{asks_by, brings, brought, requested, settled, settles}
use Rattle.event_counts.proofs.Events.{asks_few, brings_few, reply_asks, take_brings}
use Rattle.call_script.specs.declared.script.Line.{Line}
use Rattle.call_script.specs.declared.script.Script.{Script}
use Rattle.call_script.specs.Sound.{IsLine, IsReply, IsScript, most_ids, most_ids_of}
use Rattle.script_names.specs.Autos.{Due, due, lines_done}
use Rattle.script_names.specs.Names.{Named, unnamed}
use Rattle.script_run.specs.OfScript.{AsksNext, GoesOn, Next, joins_by, names_of, next_join, next_of, next_take, replied, reply_first, reply_or}
use Rattle.script_names.specs.Asking.{asked_by, outgoing}
use Rattle.script_run.specs.Order.{is_join, is_own, joins_of, lines_of}
use Rattle.script_run.proofs.DueReplies.{due_in, replies_behind}
use Rattle.script_run.proofs.LineSends.{Fits, line_fits}
use Rattle.script_run.proofs.ReadyEnd.{IsReadyEnd, ready_end}

-- ## Lines

-- the ids of the first so many lines
abbrev pub ids_before : List Line → ℕ → ℕ
ids_before lines zero = 0
ids_before [] (suc k) = 0
ids_before (line ∷ lines) (suc k) = most_ids line.command + ids_before lines k

ids_more : (lines : List Line) (k : ℕ) (line : Line) → slice_get lines k ≡ Some line → ids_before lines (suc k) ≡ ids_before lines k + most_ids line.command
ids_more [] k line e = absurd cc
ids_more (x ∷ lines) zero line e = let same : x ≡ line = cc in rw same (omega (arith, none lines))
  where
    none : (ls : List Line) → ids_before ls zero ≡ 0
    none ls = refl
ids_more (x ∷ lines) (suc k) line e = let rest : slice_get lines k ≡ Some line = e in omega (arith, ids_more lines k line rest)

pub ids_few : (lines : List Line) (k : ℕ) → ids_before lines k ≤ most_ids_of lines
ids_few lines zero = omega arith
ids_few [] (suc k) = omega arith
ids_few (line ∷ lines) (suc k) = omega (arith, ids_few lines k)

-- ## Events

-- an event of one of so many sequences is told what some events before it give
abbrev pub IsStep : Wire → ℕ → Event → Type 0
IsStep wire seqs event = (event.seq.0 < seqs) × ((past : List Event) × (event.told ≡ answer wire seqs past event.seq event.asked))

pub all_steps : (wire : Wire) (seqs : ℕ) (past : List Event) → legal wire seqs past → AllByRecursion (IsStep wire seqs) past
all_steps wire seqs [] h = tt
all_steps wire seqs (event ∷ past) h = ((h.0, (past, h.1)), all_steps wire seqs past h.2)

module _ (schema : Schema) (script : Script) (is : IsScript schema script) where
  -- the wire of the schema
  abbrev wire : Wire
  wire = wire_of schema

  -- a line that is kept of the script's is sound
  line_is : (test : Line → Bool) (k : ℕ) (line : Line) → slice_get (filter test script.lines) k ≡ Some line → IsLine schema script.seqs script.names line
  line_is test k line e =
      subst (IsLine schema script.seqs script.names) (get_or_from_slice_get (filter test script.lines) k line line e)
      (All-filter test (IsLine schema script.seqs script.names) script.lines
      (All-from_recursion (IsLine schema script.seqs script.names) script.lines is.lines) k line
      (slice_get_within (filter test script.lines) k line e))

  -- ## What one event brings

  -- that of a line
  line_brings : (names : Named) (line : Line) → IsLine schema script.seqs script.names line → (event : Event) → IsStep wire script.seqs event
      → asked_by names line ≡ event.asked → brings wire event.told event.asked ≤ 2 + most_ids line.command
  line_brings names line sound event step e =
      let fits : Fits schema (most_ids line.command) event.asked = subst (Fits schema (most_ids line.command)) e (line_fits schema names line sound.read) in
      omega (arith, fits.0, brings_few schema script.seqs step.1.0 event.seq event.asked event.told step.1.1 fits.1)

  -- and that of an automatic reply
  module _ (d : Due) (reply : IsReply schema script.seqs d.1) (event : Event) (step : IsStep wire script.seqs event) (e : replied d ≡ event.asked) where
    short : length (payload_for schema d.1.prepared.target (view d.1.prepared.value)) ≤ MAX_PAYLOAD_BYTES
    short = subst (λ (bytes : List ℕ). length bytes ≤ MAX_PAYLOAD_BYTES) reply.read.payload d.1.prepared.short

    told : event.told ≡ answer wire script.seqs step.1.0 event.seq (replied d)
    told = step.1.1 ∙ ap (answer wire script.seqs step.1.0 event.seq) (sym e)

    reply_brings : brings wire event.told event.asked ≤ 2
    reply_brings = subst (λ (asked : Asked). brings wire event.told asked ≤ 2) e
        (omega (arith, brings_few schema script.seqs step.1.0 event.seq (replied d) event.told told short))

    reply_quiet : asks_by event.told event.asked ≡ 0
    reply_quiet = subst (λ (asked : Asked). asks_by event.told asked ≡ 0) e
        (reply_asks schema script.seqs step.1.0 event.seq d.0 (outgoing d.1.prepared [] [] None) reply.side refl event.told told)

  -- a reply that is due is sound
  due_is : (past : List Event) (d : Due) → due wire script.autos past ≡ Some d → IsReply schema script.seqs d.1
  due_is past d e = due_in (IsReply schema script.seqs) wire script.autos past d is.autos e

  -- ## The joins

  pub joins_few : (own : List Event) → AllByRecursion (IsStep wire script.seqs) own → GoesOn (next_join script) own
      → (length own ≤ length (joins_of script)) × (brought wire own ≤ ids_before (joins_of script) (length own) + (length own + length own))
  joins_few [] steps asks = (omega arith, omega arith)
  joins_few (event ∷ own) steps asks = go (slice_get (joins_of script) (length own)) refl asks.0 (joins_few own steps.1 asks.1)
    where
      go : (o : Option Line) → slice_get (joins_of script) (length own) ≡ o → option_map joins_by o ≡ Some (event.seq, event.asked)
          → (length own ≤ length (joins_of script)) × (brought wire own ≤ ids_before (joins_of script) (length own) + (length own + length own))
          → (suc (length own) ≤ length (joins_of script))
          × (brings wire event.told event.asked + brought wire own
          ≤ ids_before (joins_of script) (suc (length own)) + (suc (length own) + suc (length own)))
      go None f g few = absurd cc
      go (Some line) f g few =
          let pair : joins_by line ≡ (event.seq, event.asked) = cc in
          let asked : asked_by unnamed line ≡ event.asked = ap (λ (n : Next). n.1) pair in
          let sound : IsLine schema script.seqs script.names line = line_is (λ (l : Line). is_join l.command) (length own) line f in (
            slice_get_within (joins_of script) (length own) line f,
            omega (arith, few.1, line_brings unnamed line sound event steps.0 asked, ids_more (joins_of script) (length own) line f),
          )

  -- ## The lines of a sequence

  module _ (after_joins : List Event) (s : SeqId) where
    -- the lines of the sequence
    abbrev lines : List Line
    lines = lines_of script s

    -- how many of them its events did
    abbrev done : List Event → ℕ
    done own = lines_done wire script.autos own

    -- how many lines are done, what their events bring, and what they ask
    abbrev pub AreFew : List Event → Type 0
    AreFew own =
        (done own ≤ length lines)
        × (brought wire own ≤ ids_before lines (done own) + (length own + length own))
        × (requested own ≤ done own)

    more : (event : Event) (own : List Event) → IsStep wire script.seqs event
        → next_of wire script after_joins s own ≡ Some event.asked → AreFew own → AreFew (event ∷ own)
    more event own step asks few = go (due wire script.autos own) refl asks
      where
        names : Named
        names = names_of wire script after_joins s own

        -- the rest where a line is next
        of_line : (o : Option Line) → slice_get lines (done own) ≡ o → option_map (asked_by names) o ≡ Some event.asked
            → (done own + 1 ≤ length lines)
            × (brings wire event.told event.asked + brought wire own ≤ ids_before lines (done own + 1) + (suc (length own) + suc (length own)))
            × (asks_by event.told event.asked + requested own ≤ done own + 1)
        of_line None f g = absurd cc
        of_line (Some line) f g =
            let asked : asked_by names line ≡ event.asked = cc in
            let sound : IsLine schema script.seqs script.names line = line_is (is_own s) (done own) line f in
            let next : done own + 1 ≡ suc (done own) = omega arith in
            let ids : ids_before lines (done own + 1) ≡ ids_before lines (done own) + most_ids line.command =
            ap (ids_before lines) next ∙ ids_more lines (done own) line f in (
              omega (arith, slice_get_within lines (done own) line f),
              omega (arith, few.1, line_brings names line sound event step asked, ids),
              omega (arith, few.2, asks_few event.told event.asked),
            )

        go : (o : Option Due) → due wire script.autos own ≡ o
            → reply_first o (option_map (asked_by names) (if is_some o then None else slice_get lines (done own))) ≡ Some event.asked
            → ((if is_some o then done own else done own + 1) ≤ length lines)
            × (brings wire event.told event.asked + brought wire own
            ≤ ids_before lines (if is_some o then done own else done own + 1) + (suc (length own) + suc (length own)))
            × (asks_by event.told event.asked + requested own ≤ (if is_some o then done own else done own + 1))
        go (Some d) f g =
            let asked : replied d ≡ event.asked = cc in
            let reply = due_is own d f in (
              few.0,
              omega (arith, few.1, reply_brings d reply event step asked),
              omega (arith, few.2, reply_quiet d reply event step asked),
            )
        go None f g = of_line (slice_get lines (done own)) refl g

    pub lines_few : (own : List Event) → AllByRecursion (IsStep wire script.seqs) own → AsksNext (next_of wire script after_joins s) own → AreFew own
    lines_few [] steps asks = (omega arith, omega arith, omega arith)
    lines_few (event ∷ own) steps asks = more event own steps.0 asks.0 (lines_few own steps.1 asks.1)

  -- ## The drain

  module _ (before : List Event) where
    -- how many automatic replies stand among the events behind these
    abbrev replies : List Event → ℕ
    replies own = replies_behind wire script.autos before own

    -- each event is a take that settles a message, or an automatic reply, which brings two at most
    abbrev pub AreTaken : List Event → Type 0
    AreTaken own = (length own ≤ settled own + replies own) × (brought wire own ≤ replies own + replies own) × (requested own ≡ 0)

    drained : (event : Event) (own : List Event) → legal wire script.seqs (event ∷ (own ++ before))
        → next_take wire script.autos before own ≡ Some (event.seq, event.asked) → AreTaken own → AreTaken (event ∷ own)
    drained event own h comes few = go (due wire script.autos (own ++ before)) refl comes
      where
        past : List Event
        past = own ++ before

        step : IsStep wire script.seqs event
        step = (h.0, (past, h.1))

        of_take : (o : Option (SeqId × EndId)) → ready wire past ≡ o
            → option_map {U = Next} (λ (turn : SeqId × EndId). (turn.0, asks.Take turn.1)) o ≡ Some (event.seq, event.asked)
            → (suc (length own) ≤ (settles event.told event.asked + settled own) + (0 + replies own))
            × (brings wire event.told event.asked + brought wire own ≤ (0 + replies own) + (0 + replies own))
            × (asks_by event.told event.asked + requested own ≡ 0)
        of_take None f g = absurd cc
        of_take (Some turn) f g =
            let pair : ◌≡◌ {A = Next} (turn.0, asks.Take turn.1) (event.seq, event.asked) = cc in
            let who : turn.0 ≡ event.seq = ap (λ (n : Next). n.0) pair in
            let what : asks.Take turn.1 ≡ event.asked = ap (λ (n : Next). n.1) pair in
            let told : event.told ≡ answer wire script.seqs past event.seq (asks.Take turn.1) =
            h.1 ∙ ap (answer wire script.seqs past event.seq) (sym what) in
            let there : IsReadyEnd wire past turn.0 turn.1 = ready_end wire past turn.0 turn.1 f in
            let taken : is_settled event.told ≡ true =
            ap is_settled (told ∙ ap (λ (s : SeqId). answer wire script.seqs past s (asks.Take turn.1)) (sym who)) ∙ there.settled in
            let one : settles event.told event.asked ≡ 1 = rw taken refl in
            let none = take_brings schema script.seqs past event.seq turn.1 event.told told in
            let quiet : brings wire event.told event.asked ≡ 0 = subst (λ (asked : Asked). brings wire event.told asked ≡ 0) what none.0 in
            let light : asks_by event.told event.asked ≡ 0 = subst (λ (asked : Asked). asks_by event.told asked ≡ 0) what none.1 in
            (omega (arith, few.0, one), omega (arith, few.1, quiet), omega (arith, few.2, light))

        go : (o : Option Due) → due wire script.autos past ≡ o
            → reply_or o (option_map {U = Next} (λ (turn : SeqId × EndId). (turn.0, asks.Take turn.1)) (ready wire past)) ≡ Some (event.seq, event.asked)
            → (suc (length own) ≤ (settles event.told event.asked + settled own) + ((if is_some o then 1 else 0) + replies own))
            × (brings wire event.told event.asked + brought wire own
            ≤ ((if is_some o then 1 else 0) + replies own) + ((if is_some o then 1 else 0) + replies own))
            × (asks_by event.told event.asked + requested own ≡ 0)
        go (Some d) f g =
            let pair : ◌≡◌ {A = Next} (d.1.seq, replied d) (event.seq, event.asked) = cc in
            let asked : replied d ≡ event.asked = ap (λ (n : Next). n.1) pair in
            let reply = due_is past d f in (
              omega (arith, few.0),
              omega (arith, few.1, reply_brings d reply event step asked),
              omega (arith, few.2, reply_quiet d reply event step asked),
            )
        go None f g = of_take (ready wire past) refl g

    pub takes_few : (own : List Event) → legal wire script.seqs (own ++ before) → GoesOn (next_take wire script.autos before) own → AreTaken own
    takes_few [] h asks = (omega arith, omega arith, refl)
    takes_few (event ∷ own) h asks = drained event own h asks.0 (takes_few own h.2 asks.1)
