use Rattle.std.proofs.Common.{◌≡◌, [], sym, ap, ◌∙◌, subst}
use Rattle.turn_lock.specs.steps.Turning.{grown, releasing}
use Rattle.turn_lock.specs.steps.Turns.{Settles}
use Rattle.turn_lock.proofs.Telling.{after_note, after_none, view_noted}
use Rattle.turn_lock.proofs.turn.settle.Goals.{then-grew, else-grew}
use Rattle.turn_lock.proofs.turn.settle.Goals as goal

pub note-requires-clause-value : goal.note-requires-clause-value
note-requires-clause-value g c =
    let v = c.requires.value in
    (v.0, v.1, subst (Settles g.T.Entries.entries g.T.Entries.number g.T.Entries.basis g.T.Entries.lawful c.args.seat.now.me.0 v.0) c.if-grew.true v.2)

pub give-requires-clause-value : goal.give-requires-clause-value
give-requires-clause-value g c =
    let v = c.requires.value in
    elim c.if-grew.branch [
      | then-grew w ↦
          let gained = subst (Settles g.T.Entries.entries g.T.Entries.number g.T.Entries.basis g.T.Entries.lawful c.args.seat.now.me.0 v.0) w.if-grew.true
          v.2 in
          let same = ap (λ s. s.me) w.seat-is in
          after_none g.T.Entries.entries g.T.Entries.number g.T.Entries.basis g.T.Entries.lawful w.note.new.seat.me c.if-grew.seat.me same
          (after_note g.T.Entries.entries g.T.Entries.number g.T.Entries.basis g.T.Entries.lawful c.args.seat.now.me w.note.new.seat.me
          (v.0, v.1, gained) w.note.ensures.value)
      | else-grew w ↦
          let kept = subst (Settles g.T.Entries.entries g.T.Entries.number g.T.Entries.basis g.T.Entries.lawful c.args.seat.now.me.0 v.0) w.if-grew.false v.2 in
          let same = ap (λ s. s.me) w.seat-is in
          after_none g.T.Entries.entries g.T.Entries.number g.T.Entries.basis g.T.Entries.lawful c.args.seat.now.me c.if-grew.seat.me same (v.0, v.1, kept.0)
    ]

pub returns-clause-value : goal.returns-clause-value
returns-clause-value g c =
    let v = c.requires.value in
    let full = grown g.T.Entries.entries g.T.Entries.number g.T.Entries.basis g.T.Entries.lawful c.args.seat.now.me.0 (g.T.Entries.entries v.0) in
    let view_is : c.if-grew.seat.me.0 ≡ full = elim c.if-grew.branch [
      | then-grew w ↦
          ap (λ s. s.me.0) w.seat-is ∙ view_noted g.T.Entries.entries g.T.Entries.number g.T.Entries.basis g.T.Entries.lawful c.args.seat.now.me
          w.note.new.seat.me v.0 v.1 w.note.ensures.value
      | else-grew w ↦
          ap (λ s. s.me.0) w.seat-is ∙ sym
          (subst (Settles g.T.Entries.entries g.T.Entries.number g.T.Entries.basis g.T.Entries.lawful c.args.seat.now.me.0 v.0) w.if-grew.false v.2).1
    ] in
    (v.0, v.1, c.give.ensures.value ∙ (λ i. (releasing g.T.Entries.entries g.T.Entries.number g.T.Entries.basis g.T.Entries.lawful (view_is i), [])))
