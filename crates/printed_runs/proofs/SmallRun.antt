-- All that a script's run asks and is told has numbers of their widths.
use Rattle.std.proofs.Common.{◌<◌, ℕ, ◌^◌, List, [], ◌∷◌, ◌++◌, length, sym, subst, arith}
use Rattle.std.specs.Prelude.{Option, ◌==◌}
use Rattle.mj_base.specs.declared.ids.SeqId.{SeqId}
use Rattle.mj_schema.specs.declared.schema.Schema.{Schema}
use Rattle.wire_encoder.specs.Prepared.{IsPrepared}
use Rattle.bind_model.specs.declared.asked.Asked.{Asked}
use Rattle.bind_model.specs.declared.event.Event.{Event}
use Rattle.bind_model.specs.Replies.{legal}
use Rattle.bind_model.specs.Seen.{own_of}
use Rattle.bind_model.specs.Wire.{Wire}
use Rattle.bind_model.specs.WireOf.{wire_of}
use Rattle.call_script.specs.declared.script.Script.{Script}
use Rattle.history_reader.specs.Printable.{AreAll}
use Rattle.printed_runs.proofs.OwnEvents.{MiddleAsks, newest, rest_asks}
use Rattle.printed_histories.proofs.SmallBytes.{prepared_bytes}
use Rattle.printed_histories.proofs.SmallEvents.{event_small}
use Rattle.printed_histories.proofs.SmallFaults.{HasLowSlots}
use Rattle.printed_histories.proofs.SmallLists.{If, all_filtered}
use Rattle.printed_histories.proofs.SmallMail.{all_made}
use Rattle.printed_runs.proofs.SmallNames.{IsHanded, next_join_small, next_of_small, next_take_small}
use Rattle.printed_histories.specs.Asked.{IsSmallAsked, BecomeBytes}
use Rattle.printed_histories.proofs.SmallSaid.{IsSmallEvent}
use Rattle.printed_runs.proofs.SmallScript.{IsSmallScript}
use Rattle.printed_histories.proofs.SmallThings.{all_handed}
use Rattle.printed_histories.proofs.SmallWireOf.{HasSmallVersions}
use Rattle.script_run.specs.OfScript.{Next, GoesOn, IsPart, PastInSomeOrder, next_join, next_of, next_take}

module _ (schema : Schema) (low : HasLowSlots schema × HasSmallVersions schema) (seqs : ℕ) (some : seqs < 2 ^ 32) where
  -- the wire of the schema
  abbrev wire : Wire
  wire = wire_of schema

  -- events whose numbers are of their widths
  abbrev AreSmall : List Event → Type 0
  AreSmall past = AreAll (IsSmallEvent (BecomeBytes schema)) past

  -- what they handed out
  handed_small : (past : List Event) → legal wire seqs past → AreSmall past → AreAll IsHanded past
  handed_small [] h a = tt
  handed_small (event ∷ past) h a =
      (all_handed wire seqs event past h (all_made (BecomeBytes schema) wire (event ∷ past) a).0, handed_small past h.2 a.1)

  -- a part of a legal past is legal
  legal_before : (own before : List Event) → legal wire seqs (own ++ before) → legal wire seqs before
  legal_before [] before h = h
  legal_before (event ∷ own) before h = legal_before own before h.2

  few_before : (own before : List Event) → length (own ++ before) < 2 ^ 30 → length before < 2 ^ 30
  few_before [] before few = few
  few_before (event ∷ own) before few = few_before own before (omega (arith, few))

  front : (P : Event → Type 0) (own before : List Event) → AreAll P (own ++ before) → AreAll P own
  front P [] before a = tt
  front P (event ∷ own) before a = (a.0, front P own before a.1)

  -- a part of the run behind what is small
  part_small : (next : List Event → Option Next) (before : List Event)
      → ((own : List Event) → legal wire seqs (own ++ before) → AreSmall (own ++ before)
      → If (λ (n : Next). IsSmallAsked (BecomeBytes schema) n.1) (next own))
      → AreSmall before → (own : List Event) → legal wire seqs (own ++ before) → length (own ++ before) < 2 ^ 30 → GoesOn next own
      → AreSmall (own ++ before)
  part_small next before step a [] h few asks = a
  part_small next before step a (event ∷ own) h few asks =
      let rest = part_small next before step a own h.2 (omega (arith, few)) asks.1 in
      let asked = subst (λ (o : Option Next). If (λ (n : Next). IsSmallAsked (BecomeBytes schema) n.1) o) asks.0 (step own h.2 rest) in
      (event_small schema low seqs some event (own ++ before) h (omega (arith, few)) rest asked, rest)

  -- what sequences do behind what is small, each by its own events
  middle_small : (next : SeqId → List Event → Option Asked) (before : List Event)
      → ((s : SeqId) (middle : List Event) → legal wire seqs (middle ++ before) → AreSmall (middle ++ before)
      → If (IsSmallAsked (BecomeBytes schema)) (next s (own_of s middle)))
      → AreSmall before → (middle : List Event) → legal wire seqs (middle ++ before) → length (middle ++ before) < 2 ^ 30 → MiddleAsks seqs next middle
      → AreSmall (middle ++ before)
  middle_small next before step a [] h few asks = a
  middle_small next before step a (event ∷ middle) h few asks =
      let rest = middle_small next before step a middle h.2 (omega (arith, few)) (rest_asks seqs next event middle asks) in
      let asked = subst (If (IsSmallAsked (BecomeBytes schema))) (newest seqs next event middle asks h.0) (step event.seq middle h.2 rest) in
      (event_small schema low seqs some event (middle ++ before) h (omega (arith, few)) rest asked, rest)

module _ (schema : Schema) (low : HasLowSlots schema × HasSmallVersions schema) (script : Script) (s : IsSmallScript (IsPrepared schema) script)
    (some : script.seqs < 2 ^ 32) where
  -- the wire of the schema
  abbrev own_wire : Wire
  own_wire = wire_of schema

  -- events whose numbers are of their widths
  abbrev AllSmall : List Event → Type 0
  AllSmall past = AreSmall schema low script.seqs some past

  join_step : (own : List Event) → legal own_wire script.seqs (own ++ []) → AllSmall (own ++ [])
      → If (λ (n : Next). IsSmallAsked (BecomeBytes schema) n.1) (next_join script own)
  join_step own h a = next_join_small (BecomeBytes schema) own_wire (IsPrepared schema) script s.autos (prepared_bytes schema) s.lines own

  line_step : (after_joins : List Event) (seq : SeqId) (middle : List Event) → legal own_wire script.seqs (middle ++ after_joins)
      → AllSmall (middle ++ after_joins) → If (IsSmallAsked (BecomeBytes schema)) (next_of own_wire script after_joins seq (own_of seq middle))
  line_step after_joins seq middle h a =
      let handed = handed_small schema low script.seqs some (middle ++ after_joins) h a in
      next_of_small (BecomeBytes schema) own_wire (IsPrepared schema) script s.autos (prepared_bytes schema) s.lines after_joins
      (behind after_joins middle handed) seq (own_of seq middle)
      (all_filtered (IsSmallEvent (BecomeBytes schema)) (λ (e : Event). e.seq.0 == seq.0) middle
      (front schema low script.seqs some (IsSmallEvent (BecomeBytes schema)) middle after_joins a))
      (all_filtered IsHanded (λ (e : Event). e.seq.0 == seq.0) middle (front schema low script.seqs some IsHanded middle after_joins handed))
    where
      behind : (before own : List Event) → AreAll IsHanded (own ++ before) → AreAll IsHanded before
      behind before [] a = a
      behind before (event ∷ own) a = behind before own a.1

  take_step : (before own : List Event) → AllSmall (own ++ before)
      → If (λ (n : Next). IsSmallAsked (BecomeBytes schema) n.1) (next_take own_wire script.autos before own)
  take_step before own a = next_take_small (BecomeBytes schema) own_wire (IsPrepared schema) script s.autos (prepared_bytes schema) before own a
      (all_made (BecomeBytes schema) own_wire (own ++ before) a).0

  joins_part : (after : List Event) → IsPart (next_join script) [] after → legal own_wire script.seqs after → length after < 2 ^ 30 → AllSmall after
  joins_part after p h few =
      subst AllSmall (sym p.whole) (part_small schema low script.seqs some (next_join script) [] join_step tt p.own
      (subst (legal own_wire script.seqs) p.whole h) (subst (λ (l : List Event). length l < 2 ^ 30) p.whole few) p.asks)

  pub run_small : (past : List Event) → PastInSomeOrder schema script past → legal own_wire script.seqs past → length past < 2 ^ 30 → AllSmall past
  run_small past is h few =
      let drain = is.drain in
      let before = is.middle ++ is.after_joins in
      let there = subst (legal own_wire script.seqs) drain.whole h in
      let short = subst (λ (l : List Event). length l < 2 ^ 30) drain.whole few in
      let lawful = legal_before schema low script.seqs some drain.own before there in
      let fewer = few_before schema low script.seqs some drain.own before short in
      let joins = joins_part is.after_joins is.joins (legal_before schema low script.seqs some is.middle is.after_joins lawful)
      (few_before schema low script.seqs some is.middle is.after_joins fewer) in
      let lines = middle_small schema low script.seqs some (next_of own_wire script is.after_joins) is.after_joins (line_step is.after_joins) joins
      is.middle lawful fewer (λ seq w. (is.lines seq w).asks) in
      subst AllSmall (sym drain.whole) (part_small schema low script.seqs some (next_take own_wire script.autos before) before
      (λ own g a. take_step before own a) lines drain.own there short drain.asks)
