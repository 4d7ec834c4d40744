use Rattle.std.proofs.Common.{◌≡◌, ◌∙◌, ◌++◌, List, [], ◌∷◌, ap, append_assoc, arith, sym}
use Rattle.std.specs.Prelude.{reverse}
use Rattle.std.proofs.lemmas.List.{append-nil, nil_from_length, reverse-append}
use Rattle.history_text.specs.declared.notes.Note.{Note}
use Rattle.event_notes.proofs.notes.push_turned.Goals as goal

pub loop-note-preserved : goal.loop-note-preserved
loop-note-preserved c =
    let before = c.loop-note.notes.items in
    let rest = c.pop.new.self.items in
    let note = c.in-Some.note in
    record {
      all =
          ap (λ (ns : List Note). ns ++ reverse rest) c.in_ok-push.ensures.items
          ∙ (append_assoc before (note ∷ []) (reverse rest)
          ∙ (ap (λ (ns : List Note). before ++ ns) (sym (reverse-append rest (note ∷ [])))
          ∙ (ap (λ (ns : List Note). before ++ reverse ns) (sym c.in-Some.ensures.items) ∙ c.loop-note.invariant.all)));
    }

pub returns : goal.returns
returns c =
    let before = c.loop-note.notes.items in
    let over = c.in_default.ensures.cases in
    let none : c.loop-note.left.items ≡ [] = nil_from_length c.loop-note.left.items (omega (arith, c.loop-note.left.ok)) in
    sym (append-nil before) ∙ (ap (λ (ns : List Note). before ++ reverse ns) (sym none) ∙ c.loop-note.invariant.all)
