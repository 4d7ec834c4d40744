use Rattle.std.proofs.Common.{◌<◌, ◌∙◌, ℕ, ap, refl, subst, sym}
use Rattle.std.specs.Prelude.{is_some}
use Rattle.std.proofs.lemmas.Result.{on_ok_weaker}
use Rattle.mj_schema.specs.declared.schema.Schema.{Schema}
use Rattle.bind_model.specs.declared.event.Event.{Event}
use Rattle.call_script.specs.Sound.{AreWithin, IsReadWith, sets}
use Rattle.core_state.specs.Agreement.{schema_of}
use Rattle.event_tables.specs.AsCore.{past_by, state_of}
use Rattle.plain_names.specs.Commands.{asked_in}
use Rattle.plain_names.specs.Held.{named_in}
use Rattle.script_names.specs.Asking.{asked_by}
use Rattle.script_names.specs.Held.{held_at}
use Rattle.script_names.specs.Names.{Named}
use Rattle.script_names.specs.Needs.{AreNames}
use Rattle.script_names.specs.declared.stands.Stands.{Stands}
use Rattle.event_follow.proofs.Running.{did_of}
use Rattle.event_follow.proofs.Turning.{line_done, own_size, same_have, same_held, stepped_as}
use Rattle.event_follow.proofs.turns.do_line.Goals as goal

pub step-requires-clause-stands : goal.step-requires-clause-stands
step-requires-clause-stands c = c.requires.is.stands

pub step-requires-clause-seq : goal.step-requires-clause-seq
step-requires-clause-seq c = subst (λ (n : ℕ). c.args.line.now.seq.0 < n) (sym c.requires.is.seqs) c.requires.seq

pub step-requires-clause-prepared : goal.step-requires-clause-prepared
step-requires-clause-prepared c =
    c.in_ok-command.ensures.prepared (schema_of (state_of c.args.machine.now.tables))
    (subst (λ (s : Schema). IsReadWith s c.args.line.now.command) (sym c.requires.is.schema) c.requires.line.read)

pub settle_event-requires-clause-lists : goal.settle_event-requires-clause-lists
settle_event-requires-clause-lists c =
    subst (λ (st : Stands). AreNames (λ n. is_some (held_at st.things.items n)) c.args.line.now.command c.in_ok-lists.lists)
    (sym c.in_ok-command.ensures.same.stands) c.in_ok-lists.ensures

pub came-requires : goal.came-requires
came-requires c =
    let before = c.args.machine.now in
    let after = c.step.new.self in
    let line = c.args.line.now in
    let asked = asked_by (named_in c.args.place.now.names) line in
    let stepped = stepped_as line.seq (asked_in c.in_ok-command.command) asked before after c.in_ok-command.ensures.asked c.in_ok-step.ensures.steps
    c.in_ok-step.ensures.stands in
    let did = did_of c.args.schema.now c.args.script.now before c.requires.is line.seq asked after stepped in
    let event : Event = record { seq = line.seq; asked = asked; told = did.told } in
    (event, past_by before.tables, did.past)

pub settle_event-requires-clause-asked : goal.settle_event-requires-clause-asked
settle_event-requires-clause-asked c =
    let before = c.args.machine.now in
    let after = c.step.new.self in
    let line = c.args.line.now in
    let asked = asked_by (named_in c.args.place.now.names) line in
    let stepped = stepped_as line.seq (asked_in c.in_ok-command.command) asked before after c.in_ok-command.ensures.asked c.in_ok-step.ensures.steps
    c.in_ok-step.ensures.stands in
    let did = did_of c.args.schema.now c.args.script.now before c.requires.is line.seq asked after stepped in
    let event : Event = record { seq = line.seq; asked = asked; told = did.told } in
    ap (λ (e : Event). e.asked) (c.came.ensures event (past_by before.tables) did.past)
    ∙ ap (λ (n : Named). asked_by n line) (sym (same_held c.args.place.now.names c.command_of.new.names c.in_ok-command.ensures.same))

pub settle_event-requires-clause-have : goal.settle_event-requires-clause-have
settle_event-requires-clause-have c =
    let size = c.args.script.now.names in
    let new = c.command_of.new.names in
    own_size size new (same_have size c.args.place.now.names new c.in_ok-command.ensures.same c.requires.names)

pub settle_event-requires-clause-within : goal.settle_event-requires-clause-within
settle_event-requires-clause-within c =
    let size = c.args.script.now.names in
    let new = c.command_of.new.names in
    let have = same_have size c.args.place.now.names new c.in_ok-command.ensures.same c.requires.names in
    subst (λ (n : ℕ). AreWithin n (sets c.args.line.now.command)) (sym have.stands) c.requires.line.sets

pub returns : goal.returns
returns c =
    let schema = c.args.schema.now in
    let script = c.args.script.now in
    let before = c.args.machine.now in
    let after = c.step.new.self in
    let line = c.args.line.now in
    let old = c.args.place.now in
    let mid = record old { names = c.command_of.new.names } in
    let asked = asked_by (named_in old.names) line in
    let stepped = stepped_as line.seq (asked_in c.in_ok-command.command) asked before after c.in_ok-command.ensures.asked c.in_ok-step.ensures.steps
    c.in_ok-step.ensures.stands in
    let did = did_of schema script before c.requires.is line.seq asked after stepped in
    let event : Event = record { seq = line.seq; asked = asked; told = did.told } in
    on_ok_weaker c.settle_event.result
    (line_done schema script line before after old mid c.settle_event.new.place c.as_slice-autos.result.now c.came.result.now did
    c.as_slice-autos.ensures (c.came.ensures event (past_by before.tables) did.past) c.in_ok-command.ensures.same refl refl)
    c.settle_event.ensures
