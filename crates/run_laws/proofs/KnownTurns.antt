-- Lines that are done in known turns: what is asked next is one thing.
use Rattle.std.proofs.Common.{◌≡◌, ◌<◌, Bool, true, false, List, [], ◌∷◌, ◌++◌, Option, Some, None, refl, sym, ap, ◌∙◌, subst}
use Rattle.std.specs.Prelude.{◌==◌, cond, if◌then◌else◌, option_and_then}
use Rattle.std.specs.Option.{option_map}
use Rattle.std.proofs.lemmas.Bool.{eq-eqb}
use Rattle.std.proofs.lemmas.Option.{none-some, same_Some}
use Rattle.mj_base.specs.declared.ids.SeqId.{SeqId}
use Rattle.bind_model.specs.Replies.{legal}
use Rattle.bind_model.specs.Seen.{own_of}
use Rattle.bind_model.specs.Wire.{Wire}
use Rattle.bind_model.specs.declared.asked.Asked.{Asked}
use Rattle.bind_model.specs.declared.event.Event.{Event}
use Rattle.call_script.specs.declared.script.Script.{Script}
use Rattle.script_run.specs.OfScript.{AsksNext, DoesLines, GoesOn, Next, next_of}
use Rattle.script_run.specs.Order.{InTurns}
use Rattle.run_laws.proofs.OneWay.{IsOver, one_way}

-- ## A sequence's own events

-- those before the newest of all ask what is next
own_before : (next : List Event → Option Asked) (s : SeqId) (event : Event) (past : List Event) → AsksNext next (own_of s (event ∷ past))
    → AsksNext next (own_of s past)
own_before next s event past asks = go (event.seq.0 == s.0) asks
  where
    go : (b : Bool) → AsksNext next (if b then event ∷ own_of s past else own_of s past) → AsksNext next (own_of s past)
    go true h = h.1
    go false h = h

-- and so does the newest, where it is its own
own_asks : (next : List Event → Option Asked) (event : Event) (past : List Event) → AsksNext next (own_of event.seq (event ∷ past))
    → next (own_of event.seq past) ≡ Some event.asked
own_asks next event past asks =
    let own : own_of event.seq (event ∷ past) ≡ event ∷ own_of event.seq past =
    ap (λ (b : Bool). cond b (event ∷ own_of event.seq past) (own_of event.seq past)) (eq-eqb event.seq.0 event.seq.0 refl) in
    let first : AsksNext next (event ∷ own_of event.seq past) = subst (AsksNext next) own asks in
    first.0

-- ## The sequence whose turn it is

-- what a sequence asks, beside its name
abbrev said_by : SeqId → Option Asked → Option Next
said_by s asked = option_map (λ (a : Asked). (s, a)) asked

-- what a sequence asks behind all these events of lines
abbrev asks_at : Wire → Script → List Event → List Event → SeqId → Option Next
asks_at wire script after_joins own s = said_by s (next_of wire script after_joins s (own_of s own))

-- what the one asks whose turn it is
abbrev next_turn : Wire → Script → List Event → (List Event → Option SeqId) → List Event → Option Next
next_turn wire script after_joins whose own = option_and_then (asks_at wire script after_joins own) (whose own)

module _ (wire : Wire) (script : Script) (after_joins : List Event) (whose : List Event → Option SeqId) where
  -- events of lines in their turns go on
  lines_go : (middle : List Event) → InTurns whose middle → legal wire script.seqs (middle ++ after_joins)
      → ((s : SeqId) → s.0 < script.seqs → AsksNext (next_of wire script after_joins s) (own_of s middle))
      → GoesOn (next_turn wire script after_joins whose) middle
  lines_go [] turns h asks = tt
  lines_go (event ∷ past) turns h asks =
      let own : next_of wire script after_joins event.seq (own_of event.seq past) ≡ Some event.asked =
      own_asks (next_of wire script after_joins event.seq) event past (asks event.seq h.0) in
      let here : next_turn wire script after_joins whose past ≡ Some (event.seq, event.asked) =
      ap (option_and_then (asks_at wire script after_joins past)) turns.0 ∙ ap (said_by event.seq) own in
      (here, lines_go past turns.1 h.2 (λ s w. own_before (next_of wire script after_joins s) s event past (asks s w)))

  -- and are over where each sequence has done its own
  lines_over : (middle : List Event) → ((s : SeqId) → s.0 < script.seqs → next_of wire script after_joins s (own_of s middle) ≡ None)
      → IsOver script.seqs (next_turn wire script after_joins whose) middle
  lines_over middle none event within = by_turn (whose middle)
    where
      by_asked : (s : SeqId) (o : Option Asked) → next_of wire script after_joins s (own_of s middle) ≡ o
          → said_by s o ≡ Some (event.seq, event.asked) → ⊥
      by_asked s None e h = let theirs : Next = (event.seq, event.asked) in none-some theirs h
      by_asked s (Some asked) e h =
          let mine : Next = (s, asked) in
          let theirs : Next = (event.seq, event.asked) in
          let who : s ≡ event.seq = ap (λ (n : Next). n.0) (same_Some mine theirs h) in
          let there : s.0 < script.seqs = subst (λ (t : SeqId). t.0 < script.seqs) (sym who) within in
          none-some asked (sym (none s there) ∙ e)

      by_turn : (o : Option SeqId) → option_and_then (asks_at wire script after_joins middle) o ≡ Some (event.seq, event.asked) → ⊥
      by_turn None h = let theirs : Next = (event.seq, event.asked) in none-some theirs h
      by_turn (Some s) h = by_asked s (next_of wire script after_joins s (own_of s middle)) refl h

  -- so there is one list of them
  pub one_middle : (xs ys : List Event) → legal wire script.seqs (xs ++ after_joins) → legal wire script.seqs (ys ++ after_joins)
      → InTurns whose xs → InTurns whose ys → DoesLines wire script after_joins xs → DoesLines wire script after_joins ys → xs ≡ ys
  one_middle xs ys h k t u a b = one_way wire script.seqs (next_turn wire script after_joins whose) after_joins xs ys h k
      (lines_go xs t h (λ s w. (a s w).asks)) (lines_go ys u k (λ s w. (b s w).asks))
      (lines_over xs (λ s w. (a s w).over)) (lines_over ys (λ s w. (b s w).over))
