use Rattle.std.proofs.Common.{◌∙◌, subst}
use Rattle.std.proofs.lemmas.Result.{on_ok_weaker}
use Rattle.bind_model.specs.declared.asked.Asked.TheVariants as asks
use Rattle.bind_model.specs.declared.told.Told.{Told}
use Rattle.load_run.specs.steps.Doing.{OneMore}
use Rattle.load_run.proofs.Events.{on_any}
use Rattle.load_run.proofs.Pairing.{joins_made}
use Rattle.load_run.proofs.ends.join.Goals as goal

pub ends_made-ends-requires-clause-places : goal.ends_made-ends-requires-clause-places
ends_made-ends-requires-clause-places c = rw c.in-Ok.is at c.ask-core.ensures.places

pub ends_made-ends-requires-clause-room : goal.ends_made-ends-requires-clause-room
ends_made-ends-requires-clause-room c = rw c.in-Ok.is at c.ask-core.ensures.room

pub returns-in-Ok-clause-joined : goal.returns-in-Ok-clause-joined
returns-in-Ok-clause-joined c =
    let one = rw c.in-Ok.is at c.ask-core.ensures.one in
    let told = (rw c.in-Ok.is at c.ask-core.ensures.told)
    ∙ joins_made c.args.core c.args.seq c.args.other c.requires.there c.requires.apart c.requires.first c.requires.second in
    on_ok_weaker c.ends_made-ends.result.1
    (λ ends. record {
      one = subst (λ (t : Told). OneMore c.args.seq (asks.Join c.args.other) t c.args.core c.ask-core.result.0) told one;
      ends = ends;
    })
    (c.ends_made-ends.ensures _ told)

pub returns-in-Ok-clause-rested : goal.returns-in-Ok-clause-rested
returns-in-Ok-clause-rested c = on_any c.ends_made-ends.result.1 (rw c.in-Ok.is at c.ask-core.ensures.rested)
