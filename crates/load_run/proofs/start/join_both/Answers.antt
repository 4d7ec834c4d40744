use Rattle.std.proofs.Common.{◌∙◌, ◌∷◌, [], ap, arith, false, length, refl, true}
use Rattle.std.specs.Prelude.{reverse}
use Rattle.std.proofs.lemmas.Result.{on_ok_weaker}
use Rattle.bind_model.specs.Replies.{serials}
use Rattle.bind_model.specs.declared.asked.Asked.TheVariants as asks
use Rattle.load_run.specs.Commands.{caller, taker}
use Rattle.load_run.proofs.Pairing.{on_ok_both}
use Rattle.load_run.proofs.Starting.{all_one, all_then, caller_new, first_still, one_there, second_still, taker_new}
use Rattle.load_run.proofs.start.join_both.Goals as goal

pub join_pair-core-requires-clause-rested : goal.join_pair-core-requires-clause-rested
join_pair-core-requires-clause-rested c = c.requires.rested.first

pub join_pair-core-requires-clause-few : goal.join_pair-core-requires-clause-few
join_pair-core-requires-clause-few c = omega (arith, ap length c.requires.none)

pub join_pair-core-requires-clause-first : goal.join_pair-core-requires-clause-first
join_pair-core-requires-clause-first c = ap (λ es. serials (reverse es) (caller false).0) c.requires.none

pub join_pair-core-requires-clause-second : goal.join_pair-core-requires-clause-second
join_pair-core-requires-clause-second c = ap (λ es. serials (reverse es) (taker false).0) c.requires.none

pub join_pair-last-requires-clause-seqs : goal.join_pair-last-requires-clause-seqs
join_pair-last-requires-clause-seqs c = let joined = rw c.in_default.is at c.join_pair-core.ensures.joined in joined.one.seqs ∙ c.requires.seqs

pub join_pair-last-requires-clause-schema : goal.join_pair-last-requires-clause-schema
join_pair-last-requires-clause-schema c =
    let joined = rw c.in_default.is at c.join_pair-core.ensures.joined in
    joined.one.schema ∙ c.requires.schema

pub join_pair-last-requires-clause-rested : goal.join_pair-last-requires-clause-rested
join_pair-last-requires-clause-rested c =
    let joined = rw c.in_default.is at c.join_pair-core.ensures.joined in
    first_still (caller false) (asks.Join (taker false)) _ c.args.core c.join_pair-core.result.0 c.args.pairs.second joined.one refl refl
    c.requires.rested.second

pub join_pair-last-requires-clause-few : goal.join_pair-last-requires-clause-few
join_pair-last-requires-clause-few c =
    let joined = rw c.in_default.is at c.join_pair-core.ensures.joined in
    omega (arith, one_there c.args.core c.join_pair-core.result.0 _ c.requires.none joined)

pub join_pair-last-requires-clause-first : goal.join_pair-last-requires-clause-first
join_pair-last-requires-clause-first c =
    let joined = rw c.in_default.is at c.join_pair-core.ensures.joined in
    caller_new c.args.core c.join_pair-core.result.0 _ c.requires.none joined

pub join_pair-last-requires-clause-second : goal.join_pair-last-requires-clause-second
join_pair-last-requires-clause-second c =
    let joined = rw c.in_default.is at c.join_pair-core.ensures.joined in
    taker_new c.args.core c.join_pair-core.result.0 _ c.requires.none joined

pub returns-clause-joined : goal.returns-clause-joined
returns-clause-joined c =
    let joined = rw c.in_default.is at c.join_pair-core.ensures.joined in
    on_ok_weaker c.join_pair-last.result.3
    (λ second.
    all_then ((caller false, asks.Join (taker false)) ∷ []) ((caller true, asks.Join (taker true)) ∷ []) c.args.core c.join_pair-core.result.0
    c.join_pair-last.result.0
    (all_one (caller false) (asks.Join (taker false)) c.args.core c.join_pair-core.result.0 (_, joined.one))
    (all_one (caller true) (asks.Join (taker true)) c.join_pair-core.result.0 c.join_pair-last.result.0 (_, second.one)))
    c.join_pair-last.ensures.joined

pub returns-clause-ends : goal.returns-clause-ends
returns-clause-ends c =
    let joined = rw c.in_default.is at c.join_pair-core.ensures.joined in
    on_ok_weaker c.join_pair-last.result.3 (λ second. record { first = joined.ends; second = second.ends })
    c.join_pair-last.ensures.joined

pub returns-clause-rested : goal.returns-clause-rested
returns-clause-rested c =
    let rested = rw c.in_default.is at c.join_pair-core.ensures.rested in
    on_ok_both c.join_pair-last.result.3
    (λ second both. record {
      first =
          second_still (caller true) (asks.Join (taker true)) _ c.join_pair-core.result.0 c.join_pair-last.result.0 c.join_pair-core.result.1
          second.one refl refl rested;
      second = both;
    })
    c.join_pair-last.ensures.joined c.join_pair-last.ensures.rested
