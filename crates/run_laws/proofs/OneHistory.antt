-- Of one script and one list of turns there is one history.
use Rattle.std.proofs.Common.{◌≡◌, ℕ, List, [], ◌∷◌, ◌++◌, map, length, reverse, Option, Some, refl, sym, ap, ◌∙◌, subst}
use Rattle.std.specs.Prelude.{slice_get}
use Rattle.std.proofs.lemmas.List.{append-nil, append_assoc, length-map, length-reverse, map-append, reverse-append, reverse-reverse}
use Rattle.mj_base.specs.declared.ids.SeqId.{SeqId}
use Rattle.mj_schema.specs.declared.schema.Schema.{Schema}
use Rattle.bind_model.specs.Replies.{Legal, legal}
use Rattle.bind_model.specs.Wire.{Wire}
use Rattle.bind_model.specs.WireOf.{wire_of}
use Rattle.bind_model.specs.declared.event.Event.{Event}
use Rattle.call_script.specs.declared.script.Script.{Script}
use Rattle.script_run.specs.OfScript.{DoesLines, IsPart, OfScript, PastOfScript, next_join, next_take}
use Rattle.script_run.specs.Order.{InTurns, turn}
use Rattle.run_laws.proofs.KnownTurns.{one_middle}
use Rattle.run_laws.proofs.OneWay.{legal_behind, one_part}

-- ## Turns by a list

-- the sequences of events
abbrev seqs_of : List Event → List SeqId
seqs_of events = map (λ (e : Event). e.seq) events

-- whose turn it is behind some events: the one in a list that has as many before it
abbrev turn_at : List SeqId → List Event → Option SeqId
turn_at turns past = slice_get turns (length past)

-- the same behind events of lines, by those of the joins
abbrev turn_behind : List SeqId → List Event → List Event → Option SeqId
turn_behind turns after_joins own = turn_at turns (own ++ after_joins)

stands_behind : (xs : List SeqId) (x : SeqId) (ys : List SeqId) → slice_get (xs ++ x ∷ ys) (length xs) ≡ Some x
stands_behind [] x ys = refl
stands_behind (z ∷ xs) x ys = stands_behind xs x ys

-- events whose sequences a list begins with have their turns by it
in_places : (turns more : List SeqId) (past : List Event) → turns ≡ seqs_of (reverse past) ++ more → InTurns (turn_at turns) past
in_places turns more [] whole = tt
in_places turns more (event ∷ past) whole =
    let rest : turns ≡ seqs_of (reverse past) ++ event.seq ∷ more =
    whole
    ∙ (ap (λ (es : List Event). seqs_of es ++ more) (reverse-append (event ∷ []) past)
    ∙ (ap (λ (ss : List SeqId). ss ++ more) (map-append (λ (e : Event). e.seq) (reverse past) (event ∷ []))
    ∙ append_assoc (seqs_of (reverse past)) (event.seq ∷ []) more)) in
    let size : length (seqs_of (reverse past)) ≡ length past = length-map (reverse past) (λ (e : Event). e.seq) ∙ length-reverse past in
    let here : slice_get turns (length past) ≡ Some event.seq =
    ap (λ (ss : List SeqId). slice_get ss (length past)) rest
    ∙ (ap (slice_get (seqs_of (reverse past) ++ event.seq ∷ more)) (sym size) ∙ stands_behind (seqs_of (reverse past)) event.seq more) in
    (here, in_places turns (event.seq ∷ more) past rest)

turns_behind : (whose : List Event → Option SeqId) (xs ys : List Event) → InTurns whose (xs ++ ys) → InTurns whose ys
turns_behind whose [] ys turns = turns
turns_behind whose (x ∷ xs) ys turns = turns_behind whose xs ys turns.1

turns_before : (turns : List SeqId) (xs ys : List Event) → InTurns (turn_at turns) (xs ++ ys) → InTurns (turn_behind turns ys) xs
turns_before turns [] ys all = tt
turns_before turns (x ∷ xs) ys all = (all.0, turns_before turns xs ys all.1)

-- ## The whole

module _ (schema : Schema) (script : Script) (order : Option ℕ) where
  -- the wire of the schema
  abbrev wire : Wire
  wire = wire_of schema

  -- events that have their turns by a list have them among those of the lines
  lines_by : (turns : List SeqId) (past : List Event) (a : PastOfScript schema script order past) → InTurns (turn_at turns) past
      → InTurns (turn_behind turns a.after_joins) a.middle
  lines_by turns past a all = turns_before turns a.middle a.after_joins
      (turns_behind (turn_at turns) a.drain.own (a.middle ++ a.after_joins) (subst (InTurns (turn_at turns)) a.drain.whole all))

  -- where the lines are done in the same turns, the joins, the lines and the takes are the same, one after the other
  one_past : (whose : List Event → List Event → Option SeqId) (past other : List Event) (a : PastOfScript schema script order past)
      (b : PastOfScript schema script order other) → legal wire script.seqs past → legal wire script.seqs other
      → InTurns (whose a.after_joins) a.middle → InTurns (whose b.after_joins) b.middle → past ≡ other
  one_past whose past other a b h k t u =
      let here : legal wire script.seqs (a.middle ++ a.after_joins) =
      legal_behind wire script.seqs a.drain.own (a.middle ++ a.after_joins) (subst (legal wire script.seqs) a.drain.whole h) in
      let there : legal wire script.seqs (b.middle ++ b.after_joins) =
      legal_behind wire script.seqs b.drain.own (b.middle ++ b.after_joins) (subst (legal wire script.seqs) b.drain.whole k) in
      let joins : b.after_joins ≡ a.after_joins =
      one_part wire script.seqs (next_join script) [] b.after_joins a.after_joins
      (legal_behind wire script.seqs b.middle b.after_joins there) (legal_behind wire script.seqs a.middle a.after_joins here) b.joins a.joins in
      let middle : b.middle ≡ a.middle =
      one_middle wire script a.after_joins (whose a.after_joins) b.middle a.middle
      (subst (λ (es : List Event). legal wire script.seqs (b.middle ++ es)) joins there) here
      (subst (λ (es : List Event). InTurns (whose es) b.middle) joins u) t
      (subst (λ (es : List Event). DoesLines wire script es b.middle) joins b.lines) a.lines in
      let before : b.middle ++ b.after_joins ≡ a.middle ++ a.after_joins =
      ap (λ (es : List Event). es ++ b.after_joins) middle ∙ ap (λ (es : List Event). a.middle ++ es) joins in
      let drain : IsPart (next_take wire script.autos (a.middle ++ a.after_joins)) (a.middle ++ a.after_joins) other =
      subst (λ (es : List Event). IsPart (next_take wire script.autos es) es other) before b.drain in
      one_part wire script.seqs (next_take wire script.autos (a.middle ++ a.after_joins)) (a.middle ++ a.after_joins) past other h k a.drain drain

-- lists that are the same backwards
turned_back : (xs ys : List Event) → reverse xs ≡ reverse ys → ys ≡ xs
turned_back xs ys e = sym (reverse-reverse ys) ∙ (ap reverse (sym e) ∙ reverse-reverse xs)

pub one_history : (schema : Schema) (script : Script) (order : Option ℕ) (history other : List Event) (more : List SeqId)
    → Legal (wire_of schema) script.seqs history → Legal (wire_of schema) script.seqs other → OfScript schema script order history
    → OfScript schema script order other → map (λ (e : Event). e.seq) other ≡ map (λ (e : Event). e.seq) history ++ more → other ≡ history
one_history schema script order history other more h k a b same =
    let first : seqs_of other ≡ seqs_of (reverse (reverse history)) ++ more =
    same ∙ ap (λ (es : List Event). seqs_of es ++ more) (sym (reverse-reverse history)) in
    let whole : seqs_of other ≡ seqs_of (reverse (reverse other)) ++ [] =
    ap seqs_of (sym (reverse-reverse other)) ∙ sym (append-nil (seqs_of (reverse (reverse other)))) in
    turned_back history other (one_past schema script order (turn_behind (seqs_of other)) (reverse history) (reverse other) a b h k
    (lines_by schema script order (seqs_of other) (reverse history) a (in_places (seqs_of other) more (reverse history) first))
    (lines_by schema script order (seqs_of other) (reverse other) b (in_places (seqs_of other) [] (reverse other) whole)))

pub one_run : (schema : Schema) (script : Script) (order : ℕ) (history other : List Event) → Legal (wire_of schema) script.seqs history
    → Legal (wire_of schema) script.seqs other → OfScript schema script (Some order) history → OfScript schema script (Some order) other
    → other ≡ history
one_run schema script order history other h k a b = turned_back history other
    (one_past schema script (Some order) (λ after_joins own. turn (wire_of schema) script order own) (reverse history) (reverse other) a b h k a.turns
    b.turns)
