use Rattle.std.proofs.Common.{[], ◌∷◌, ◌≡◌, ◌∙◌, ap}
use Rattle.bind_model.specs.declared.asked.Asked.TheVariants as asks
use Rattle.bind_model.specs.declared.event.Event.{Event}
use Rattle.bind_model.specs.declared.told.Told.TheVariants as tells
use Rattle.core_state.specs.Agreement.{schema_of}
use Rattle.core_state.specs.Doing.{told_to}
use Rattle.event_tables.specs.AsCore.{past_by, state_of}
use Rattle.script_run.proofs.Joining.{first_end, joins_made, second_end}
use Rattle.event_follow.proofs.Running.{steps_past}
use Rattle.event_follow.proofs.joins.join.Goals as goal

pub came-requires : goal.came-requires
came-requires c =
    let before = c.args.machine.now in
    let joint = c.args.joint in
    let asked = asks.Join joint.other in
    let event : Event = record { seq = joint.seq; asked = asked; told = told_to (state_of before.tables) joint.seq asked } in
    (event, past_by before.tables, steps_past before c.step.new.self joint.seq asked c.in_ok-step.ensures.steps)

pub settle_joint-requires-clause-made : goal.settle_joint-requires-clause-made
settle_joint-requires-clause-made c =
    let before = c.args.machine.now in
    let joint = c.args.joint in
    let schema = schema_of (state_of before.tables) in
    let seqs = before.tables.seqs in
    let events = before.tables.log.events in
    let asked = asks.Join joint.other in
    let event : Event = record { seq = joint.seq; asked = asked; told = told_to (state_of before.tables) joint.seq asked } in
    let past = steps_past before c.step.new.self joint.seq asked c.in_ok-step.ensures.steps in (
      first_end schema seqs joint.seq joint.other events,
      second_end schema seqs joint.seq joint.other events,
      ap (λ (e : Event). e.told) (c.came.ensures event (past_by before.tables) past)
          ∙ joins_made schema seqs joint.seq joint.other events c.requires.other,
    )

pub returns : goal.returns
returns c =
    let before = c.args.machine.now in
    let joint = c.args.joint in
    let schema = schema_of (state_of before.tables) in
    let seqs = before.tables.seqs in
    let events = before.tables.log.events in
    let x = first_end schema seqs joint.seq joint.other events in
    let y = second_end schema seqs joint.seq joint.other events in
    let asked = asks.Join joint.other in
    let told = told_to (state_of before.tables) joint.seq asked in
    let event : Event = record { seq = joint.seq; asked = asked; told = told } in
    let made : told ≡ tells.Made (x ∷ y ∷ []) = joins_made schema seqs joint.seq joint.other events c.requires.other in
    let past = steps_past before c.step.new.self joint.seq asked c.in_ok-step.ensures.steps in
    record {
      first = x;
      second = y;
      stands = c.in_ok-step.ensures.stands;
      steps = c.in_ok-step.ensures.steps;
      told = made;
      places = c.settle_joint.ensures x y (ap (λ (e : Event). e.told) (c.came.ensures event (past_by before.tables) past) ∙ made);
    }
