use Rattle.std.proofs.Common.{◌≡◌, Bool, ap, subst, sym, ◌∙◌}
use Rattle.bind_model.specs.declared.asked.Asked.TheVariants as asks
use Rattle.bind_model.specs.declared.asked.Outgoing.{Outgoing}
use Rattle.bind_model.specs.declared.told.Told.TheVariants as tells
use Rattle.core_sending.specs.Answering.{way_back}
use Rattle.core_state.specs.Doing.{told_to}
use Rattle.event_tables.specs.AsCore.{StepsOn, state_of}
use Rattle.event_tables.proofs.Sent.{answer_no}
use Rattle.event_tables.proofs.answering.answer.Goals as goal

pub send-requires-clause-free : goal.send-requires-clause-free
send-requires-clause-free c =
    let s = state_of c.args.tables.now in
    ap (λ (b : Bool). way_back c.args.seq c.args.id c.args.prepared.now c.args.names b s.pipes s.tables.flows s.endpoints) (sym c.in_ok-own.ensures)
    ∙ sym c.in-Ok.ensures

pub refuse-requires-clause-why : goal.refuse-requires-clause-why
refuse-requires-clause-why c =
    let s = state_of c.args.tables.now in
    subst (λ (o : Outgoing). told_to s c.args.seq (asks.Answer c.args.id o) ≡ tells.No c.in-Err.why) (sym c.in_ok-outgoing-in-Err.ensures)
    (answer_no s c.args.seq c.requires.able c.args.id c.args.prepared.now c.args.names c.args.moment c.requires.prepared c.in-Err.why
    (ap (λ (b : Bool). way_back c.args.seq c.args.id c.args.prepared.now c.args.names b s.pipes s.tables.flows s.endpoints) (sym c.in_ok-own.ensures)
    ∙ sym c.in-Err.ensures))

pub returns-in_ok-outgoing-in-Err : goal.returns-in_ok-outgoing-in-Err
returns-in_ok-outgoing-in-Err c =
    subst (λ (o : Outgoing). StepsOn (state_of c.args.tables.now) (state_of c.refuse.new.tables) c.args.seq (asks.Answer c.args.id o))
    c.in_ok-outgoing-in-Err.ensures c.refuse.ensures
