use Rattle.std.proofs.Common.{◌∙◌, ◌∷◌, [], arith, false, refl, true}
use Rattle.std.proofs.lemmas.Result.{on_ok_weaker}
use Rattle.handle_table.specs.declared.thing.Thing.TheVariants.{End}
use Rattle.wire_encoder.specs.declared.endpoint.EndpointSide.TheVariants.{Receiver}
use Rattle.bind_model.specs.declared.asked.Asked.TheVariants as asks
use Rattle.load_run.specs.Commands.{end_of, taker}
use Rattle.load_run.proofs.Pairing.{on_ok_both, one_longer}
use Rattle.load_run.proofs.Starting.{all_one, all_then, first_still, second_still}
use Rattle.load_run.proofs.start.bind_takers.Goals as goal

pub bind_taker-core-requires-clause-rested : goal.bind_taker-core-requires-clause-rested
bind_taker-core-requires-clause-rested c = c.requires.rested.first

pub bind_taker-core-requires-clause-few : goal.bind_taker-core-requires-clause-few
bind_taker-core-requires-clause-few c = omega (arith, c.requires.few)

pub bind_taker-core-requires-clause-ends : goal.bind_taker-core-requires-clause-ends
bind_taker-core-requires-clause-ends c = c.requires.ends.first

pub bind_taker-last-requires-clause-seqs : goal.bind_taker-last-requires-clause-seqs
bind_taker-last-requires-clause-seqs c = let one = rw c.in_default.is at c.bind_taker-core.ensures.one in one.1.seqs ∙ c.requires.seqs

pub bind_taker-last-requires-clause-schema : goal.bind_taker-last-requires-clause-schema
bind_taker-last-requires-clause-schema c = let one = rw c.in_default.is at c.bind_taker-core.ensures.one in one.1.schema ∙ c.requires.schema

pub bind_taker-last-requires-clause-rested : goal.bind_taker-last-requires-clause-rested
bind_taker-last-requires-clause-rested c =
    let one = rw c.in_default.is at c.bind_taker-core.ensures.one in
    first_still (taker false) (asks.Bind (End (end_of (taker false))) Receiver c.args.interface) one.0 c.args.core c.bind_taker-core.result.0
    c.args.pairs.second one.1 refl refl c.requires.rested.second

pub bind_taker-last-requires-clause-few : goal.bind_taker-last-requires-clause-few
bind_taker-last-requires-clause-few c =
    let one = rw c.in_default.is at c.bind_taker-core.ensures.one in
    omega (arith, one_longer _ _ one.0 c.args.core c.bind_taker-core.result.0 one.1, c.requires.few)

pub bind_taker-last-requires-clause-ends : goal.bind_taker-last-requires-clause-ends
bind_taker-last-requires-clause-ends c = c.requires.ends.second

pub returns-clause-asked : goal.returns-clause-asked
returns-clause-asked c =
    let one = rw c.in_default.is at c.bind_taker-core.ensures.one in
    on_ok_weaker c.bind_taker-last.result.2
    (λ two.
    all_then ((taker false, asks.Bind (End (end_of (taker false))) Receiver c.args.interface) ∷ [])
    ((taker true, asks.Bind (End (end_of (taker true))) Receiver c.args.interface) ∷ []) c.args.core c.bind_taker-core.result.0 c.bind_taker-last.result.0
    (all_one (taker false) (asks.Bind (End (end_of (taker false))) Receiver c.args.interface) c.args.core c.bind_taker-core.result.0 one)
    (all_one (taker true) (asks.Bind (End (end_of (taker true))) Receiver c.args.interface) c.bind_taker-core.result.0 c.bind_taker-last.result.0 two))
    c.bind_taker-last.ensures.one

pub returns-clause-rested : goal.returns-clause-rested
returns-clause-rested c =
    let rested = rw c.in_default.is at c.bind_taker-core.ensures.rested in
    on_ok_both c.bind_taker-last.result.2
    (λ two both. record {
      first =
          second_still (taker true) (asks.Bind (End (end_of (taker true))) Receiver c.args.interface) two.0 c.bind_taker-core.result.0
          c.bind_taker-last.result.0 c.bind_taker-core.result.1 two.1 refl refl rested;
      second = both;
    })
    c.bind_taker-last.ensures.one c.bind_taker-last.ensures.rested
