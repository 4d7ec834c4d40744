use Rattle.std.proofs.Common.{◌≡◌, ◌+◌, ◌<◌, [], ◌∷◌, ◌∙◌, ℕ, ap, arith, length, refl, subst, sym}
use Rattle.std.proofs.lemmas.List.{length-append}
use Rattle.std.proofs.lemmas.Result.{on_ok_weaker}
use Rattle.bind_model.specs.declared.asked.Asked.TheVariants as asks
use Rattle.bind_model.specs.declared.event.Event.{Event}
use Rattle.core_state.specs.Doing.{told_to}
use Rattle.event_tables.specs.AsCore.{past_by, state_of}
use Rattle.event_follow.specs.steps.Draining.{take_event}
use Rattle.event_follow.specs.steps.Places.{due_in}
use Rattle.event_follow.specs.steps.Turning.{Stepped}
use Rattle.event_follow.proofs.DrainingLemmas.{due_sound, turn_alone, turn_both}
use Rattle.event_follow.proofs.Running.{did_of}
use Rattle.event_follow.proofs.draining.turn.Goals as goal

pub step-requires-clause-stands : goal.step-requires-clause-stands
step-requires-clause-stands c = c.requires.is.stands

pub step-requires-clause-seq : goal.step-requires-clause-seq
step-requires-clause-seq c = subst (λ (n : ℕ). c.args.seq.0 < n) (sym c.requires.is.seqs) c.requires.seq

pub step-requires-clause-few : goal.step-requires-clause-few
step-requires-clause-few c = omega (arith, c.requires.few)

pub send_reply-requires-clause-seq : goal.send_reply-requires-clause-seq
send_reply-requires-clause-seq c =
    subst (λ (n : ℕ). c.args.seq.0 < n) (sym (c.in_ok-step.ensures.steps.seqs ∙ c.requires.is.seqs)) c.requires.seq

pub send_reply-requires-clause-few : goal.send_reply-requires-clause-few
send_reply-requires-clause-few c =
    let tables = c.args.machine.now.tables in
    let asked = asks.Take c.args.end in
    let told = told_to (state_of tables) c.args.seq asked in
    let event : Event = record { seq = c.args.seq; asked = asked; told = told } in
    let grew : length c.step.new.self.tables.log.events ≡ length tables.log.events + 1 =
    ap length c.in_ok-step.ensures.steps.events ∙ length-append tables.log.events (event ∷ []) in
    omega (arith, c.requires.few, grew)

pub send_reply-requires-clause-reply : goal.send_reply-requires-clause-reply
send_reply-requires-clause-reply c =
    let schema = c.args.schema.now in
    let script = c.args.script.now in
    let seq = c.args.seq in
    let end = c.args.end in
    let before = c.args.machine.now in
    let mid = c.step.new.self in
    let due = c.in-Some.due in
    let stepped : Stepped seq (asks.Take end) before mid =
    record { stands = c.in_ok-step.ensures.stands; steps = c.in_ok-step.ensures.steps } in
    let did = did_of schema script before c.requires.is seq (asks.Take end) mid stepped in
    let found = sym (c.due_now.ensures (take_event seq end did.told) (past_by before.tables) did.past refl) ∙ ap due_in c.in-Some.is in
    due_sound schema script seq end before mid did (due.responder, due.reply.now) found c.requires.script

pub returns-in-Some : goal.returns-in-Some
returns-in-Some c =
    let schema = c.args.schema.now in
    let script = c.args.script.now in
    let seq = c.args.seq in
    let end = c.args.end in
    let before = c.args.machine.now in
    let mid = c.step.new.self in
    let due = c.in-Some.due in
    let stepped : Stepped seq (asks.Take end) before mid =
    record { stands = c.in_ok-step.ensures.stands; steps = c.in_ok-step.ensures.steps } in
    let did = did_of schema script before c.requires.is seq (asks.Take end) mid stepped in
    let found = sym (c.due_now.ensures (take_event seq end did.told) (past_by before.tables) did.past refl) ∙ ap due_in c.in-Some.is in
    on_ok_weaker c.send_reply.result
    (turn_both schema script seq end before mid did (due.responder, due.reply.now) found c.send_reply.new.machine)
    c.send_reply.ensures

pub returns-in-None : goal.returns-in-None
returns-in-None c =
    let schema = c.args.schema.now in
    let script = c.args.script.now in
    let seq = c.args.seq in
    let end = c.args.end in
    let before = c.args.machine.now in
    let mid = c.step.new.self in
    let stepped : Stepped seq (asks.Take end) before mid =
    record { stands = c.in_ok-step.ensures.stands; steps = c.in_ok-step.ensures.steps } in
    let did = did_of schema script before c.requires.is seq (asks.Take end) mid stepped in
    let found = sym (c.due_now.ensures (take_event seq end did.told) (past_by before.tables) did.past refl) ∙ ap due_in c.in-None.is in
    turn_alone schema script seq end before mid did found
