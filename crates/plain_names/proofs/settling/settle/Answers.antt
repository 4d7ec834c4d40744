use Rattle.std.proofs.lemmas.Result.{IfOk-weaker}
use Rattle.script_names.specs.Settling.{list_of}
use Rattle.plain_names.proofs.SettlingLemmas.{settled_have, settled_named}
use Rattle.plain_names.proofs.settling.settle.Goals as goal

pub returns-clause-named : goal.returns-clause-named
returns-clause-named c =
    let lists = c.args.lists.now in
    let came = rw c.as_slice.ensures.value at c.hold.ensures in
    IfOk-weaker c.hold.result _ _
    (λ done held. settled_named lists c.args.line.now c.args.event.now (list_of c.args.responder) c.args.names.now c.spend.new.names c.hold.new.names
    c.requires.lists c.requires.asked c.requires.have c.requires.within c.spend.ensures held)
    came

pub returns-clause-have : goal.returns-clause-have
returns-clause-have c =
    let lists = c.args.lists.now in
    let came = rw c.as_slice.ensures.value at c.hold.ensures in
    IfOk-weaker c.hold.result _ _
    (λ done held. settled_have lists c.args.event.now (list_of c.args.responder) c.args.names.now c.spend.new.names c.hold.new.names c.requires.have
    c.spend.ensures held)
    came
