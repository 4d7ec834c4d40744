-- A script that was read from 1,048,576 bytes at most never has as many events as a core keeps.
use Rattle.std.proofs.Common.{◌≡◌, ◌≤◌, ◌<◌, ℕ, suc, ◌+◌, Bool, true, false, List, [], ◌∷◌, ◌++◌, length, refl, sym, ap, ◌∙◌, subst, arith, length-append}
use Rattle.std.proofs.lemmas.List.{append-nil, length-reverse}
use Rattle.std.specs.Prelude.{Option, filter, if◌then◌else◌, ◌==◌}
use Rattle.std.specs.List.{AllByRecursion}
use Rattle.mj_base.specs.declared.ids.SeqId.{SeqId}
use Rattle.mj_base.specs.declared.limits.TheConstants.{MAX_EVENTS, MAX_FILE_BYTES}
use Rattle.mj_schema.specs.declared.schema.Schema.{Schema}
use Rattle.bind_model.specs.declared.asked.Asked.{Asked}
use Rattle.bind_model.specs.declared.event.Event.{Event}
use Rattle.bind_model.specs.declared.told.Told.{Told}
use Rattle.bind_model.specs.Replies.{Legal, legal}
use Rattle.bind_model.specs.Seen.{own_of}
use Rattle.bind_model.specs.Wire.{Wire}
use Rattle.bind_model.specs.WireOf.{wire_of}
use Rattle.event_counts.specs.Counts.{asks_by, brings, brought, counted, handed, hands, requested, settles}
use Rattle.event_counts.proofs.Events.{asks_few}
use Rattle.event_counts.proofs.Requests.{few_handed}
use Rattle.event_counts.proofs.Takes.{few_settled}
use Rattle.call_script.specs.declared.script.Line.{Line}
use Rattle.call_script.specs.declared.script.Script.{Script}
use Rattle.call_script.specs.Sound.{IsScript, most_ids, most_ids_of}
use Rattle.script_names.specs.Autos.{lines_done}
use Rattle.script_run.specs.OfScript.{AsksNext, GoesOn, IsPart, OfScript, next_join, next_of, next_take}
use Rattle.script_run.specs.Order.{is_join, joins_of, lines_of}
use Rattle.script_run.proofs.DueReplies.{behind_few, replies_few}
use Rattle.script_run.proofs.EventShares.{events_least, events_most, lines_most, seq_at, sum_below, sum_few, sum_plus}
use Rattle.script_run.proofs.EventsDone.{AreFew, IsStep, all_steps, ids_few, joins_few, lines_few, takes_few}

-- ## Sums

counted-append : (f : Told → Asked → ℕ) (xs ys : List Event) → counted f (xs ++ ys) ≡ counted f xs + counted f ys
counted-append f [] ys = omega arith
counted-append f (x ∷ xs) ys = omega (arith, counted-append f xs ys)

-- each event counts as one
abbrev one : Told → Asked → ℕ
one told asked = 1

counts : (past : List Event) → counted one past ≡ length past
counts [] = refl
counts (event ∷ past) = omega (arith, counts past)

asks_no_more : (past : List Event) → requested past ≤ length past
asks_no_more [] = omega arith
asks_no_more (event ∷ past) = omega (arith, asks_no_more past, asks_few event.told event.asked)

-- a part of a list holds what the whole does
back_holds : (P : Event → Type 0) (xs ys : List Event) → AllByRecursion P (xs ++ ys) → AllByRecursion P ys
back_holds P [] ys all = all
back_holds P (x ∷ xs) ys all = back_holds P xs ys all.1

front_holds : (P : Event → Type 0) (xs ys : List Event) → AllByRecursion P (xs ++ ys) → AllByRecursion P xs
front_holds P [] ys all = tt
front_holds P (x ∷ xs) ys all = (all.0, front_holds P xs ys all.1)

kept_hold : (P : Event → Type 0) (test : Event → Bool) (xs : List Event) → AllByRecursion P xs → AllByRecursion P (filter test xs)
kept_hold P test [] all = tt
kept_hold P test (x ∷ xs) all = go (test x) (kept_hold P test xs all.1)
  where
    go : (b : Bool) → AllByRecursion P (filter test xs) → AllByRecursion P (if b then x ∷ filter test xs else filter test xs)
    go true rest = (all.0, rest)
    go false rest = rest

all_within : (wire : Wire) (seqs : ℕ) (past : List Event) → AllByRecursion (IsStep wire seqs) past → AllByRecursion (λ (e : Event). e.seq.0 < seqs) past
all_within wire seqs [] all = tt
all_within wire seqs (event ∷ past) all = (all.0.0, all_within wire seqs past all.1)

fewer_lines : (test : Line → Bool) (lines : List Line) → length (filter test lines) ≤ length lines
fewer_lines test [] = omega arith
fewer_lines test (line ∷ lines) = go (test line) (fewer_lines test lines)
  where
    go : (b : Bool) → length (filter test lines) ≤ length lines → length (if b then line ∷ filter test lines else filter test lines) ≤ suc (length lines)
    go true rest = omega (arith, rest)
    go false rest = omega (arith, rest)

fewer_ids : (test : Line → Bool) (lines : List Line) → most_ids_of (filter test lines) ≤ most_ids_of lines
fewer_ids test [] = omega arith
fewer_ids test (line ∷ lines) = go (test line) (fewer_ids test lines)
  where
    go : (b : Bool) → most_ids_of (filter test lines) ≤ most_ids_of lines
        → most_ids_of (if b then line ∷ filter test lines else filter test lines) ≤ most_ids line.command + most_ids_of lines
    go true rest = omega (arith, rest)
    go false rest = omega (arith, rest)

module _ (schema : Schema) (script : Script) (is : IsScript schema script) (after_joins middle : List Event) where
  -- the wire of the schema
  abbrev wire : Wire
  wire = wire_of schema

  -- ## The lines of all sequences

  module _ (steps : AllByRecursion (IsStep wire script.seqs) middle)
      (asks : (s : SeqId) → s.0 < script.seqs → AsksNext (next_of wire script after_joins s) (own_of s middle)) where
    -- the events of the sequence of a number
    abbrev own : ℕ → List Event
    own k = own_of (seq_at k) middle

    -- how many lines they did
    abbrev done : ℕ → ℕ
    done k = lines_done wire script.autos (own k)

    -- of so many lines
    abbrev lines_in_all : ℕ
    lines_in_all = sum_below script.seqs done

    few : (k : ℕ) → k < script.seqs → AreFew schema script is after_joins (seq_at k) (own k)
    few k lt = lines_few schema script is after_joins (seq_at k) (own k) (kept_hold (IsStep wire script.seqs) (λ (e : Event). e.seq.0 == k) middle steps)
        (asks (seq_at k) lt)

    done_few : lines_in_all ≤ length script.lines
    done_few = omega (
      arith,
      sum_few script.seqs done (λ k. length (lines_of script (seq_at k))) (λ k lt. (few k lt).0),
      lines_most (λ (ls : List Line). length ls) (λ (l : Line). 1) refl (λ l ls. omega arith) script.seqs script.lines,
    )

    -- their events are no more than they and the responders that were handed out
    middle_few : length middle ≤ lines_in_all + handed wire middle
    middle_few = omega (
      arith,
      counts middle,
      events_least one script.seqs middle (all_within wire script.seqs middle steps),
      sum_few script.seqs (λ k. counted one (own k)) (λ k. done k + handed wire (own k))
          (λ k lt. omega (arith, counts (own k), replies_few wire script.autos (own k))),
      sum_plus script.seqs done (λ k. handed wire (own k)),
      events_most (hands wire) script.seqs middle,
    )

    -- they bring twice as much at most
    middle_brings : brought wire middle ≤ most_ids_of script.lines + (length middle + length middle)
    middle_brings = omega (
      arith,
      events_least (brings wire) script.seqs middle (all_within wire script.seqs middle steps),
      sum_few script.seqs (λ k. brought wire (own k)) (λ k. most_ids_of (lines_of script (seq_at k)) + (counted one (own k) + counted one (own k)))
          (λ k lt. omega (arith, (few k lt).1, ids_few (lines_of script (seq_at k)) (done k), counts (own k))),
      sum_plus script.seqs (λ k. most_ids_of (lines_of script (seq_at k))) (λ k. counted one (own k) + counted one (own k)),
      sum_plus script.seqs (λ k. counted one (own k)) (λ k. counted one (own k)),
      lines_most most_ids_of (λ (l : Line). most_ids l.command) refl (λ l ls. refl) script.seqs script.lines,
      events_most one script.seqs middle,
      counts middle,
    )

    -- and ask one request each
    middle_asks : requested middle ≤ lines_in_all
    middle_asks = omega (
      arith,
      events_least asks_by script.seqs middle (all_within wire script.seqs middle steps),
      sum_few script.seqs (λ k. requested (own k)) done (λ k lt. (few k lt).2),
    )

  -- ## All

  -- fewer events than 16,777,216, where lines were done after joins, and takes after lines
  pub few_events : script.bytes ≤ MAX_FILE_BYTES → (taken : List Event) → legal wire script.seqs (taken ++ (middle ++ after_joins))
      → GoesOn (next_join script) after_joins
      → ((s : SeqId) → s.0 < script.seqs → AsksNext (next_of wire script after_joins s) (own_of s middle))
      → GoesOn (next_take wire script.autos (middle ++ after_joins)) taken
      → length (taken ++ (middle ++ after_joins)) < MAX_EVENTS
  few_events short taken h joins lines takes =
      let all = all_steps wire script.seqs (taken ++ (middle ++ after_joins)) h in
      let behind = back_holds (IsStep wire script.seqs) taken (middle ++ after_joins) all in
      let steps = front_holds (IsStep wire script.seqs) middle after_joins behind in
      let first = joins_few schema script is after_joins (back_holds (IsStep wire script.seqs) middle after_joins behind) joins in
      let last = takes_few schema script is (middle ++ after_joins) taken h takes in
      omega (
        arith,
        short,
        is.few,
        is.sent,
        first.0,
        first.1,
        ids_few (joins_of script) (length after_joins),
        fewer_lines (λ (l : Line). is_join l.command) script.lines,
        fewer_ids (λ (l : Line). is_join l.command) script.lines,
        asks_no_more after_joins,
        done_few steps lines,
        middle_few steps lines,
        middle_brings steps lines,
        middle_asks steps lines,
        last.0,
        last.1,
        last.2,
        behind_few wire script.autos (middle ++ after_joins) taken,
        few_settled schema script.seqs (taken ++ (middle ++ after_joins)) h,
        few_handed schema script.seqs (taken ++ (middle ++ after_joins)) h,
        length-append taken (middle ++ after_joins),
        length-append middle after_joins,
        counted-append settles taken (middle ++ after_joins),
        counted-append (brings wire) taken (middle ++ after_joins),
        counted-append (brings wire) middle after_joins,
        counted-append asks_by taken (middle ++ after_joins),
        counted-append asks_by middle after_joins,
        counted-append (hands wire) taken (middle ++ after_joins),
        counted-append (hands wire) middle after_joins,
      )

-- joins that are a part by themselves go on
pub part_goes : (script : Script) (after_joins : List Event) → IsPart (next_join script) [] after_joins → GoesOn (next_join script) after_joins
part_goes script after_joins part = subst (GoesOn (next_join script)) (sym (append-nil part.own) ∙ sym part.whole) part.asks

-- and so few has a whole run
pub ran_few : (schema : Schema) (script : Script) → IsScript schema script → script.bytes ≤ MAX_FILE_BYTES → (order : Option ℕ) (history : List Event)
    → Legal (wire_of schema) script.seqs history → OfScript schema script order history → length history < MAX_EVENTS
ran_few schema script is short order history h of =
    let past : legal (wire_of schema) script.seqs (of.drain.own ++ (of.middle ++ of.after_joins)) =
    subst (λ (es : List Event). legal (wire_of schema) script.seqs es) of.drain.whole h in
    let few = few_events schema script is of.after_joins of.middle short of.drain.own past (part_goes script of.after_joins of.joins)
    (λ s w. (of.lines s w).asks) of.drain.asks in
    omega (arith, few, length-reverse history, ap length of.drain.whole)
