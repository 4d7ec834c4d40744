use Rattle.core_state.proofs.Parted.{end_twice, tokens_differ}
use Rattle.core_state.proofs.distinct.is_distinct.Goals as goal

pub returns-then-all_differ : goal.returns-then-all_differ
returns-then-all_differ c =
    tokens_differ c.args.things.now c.in_ok-ends.ends.items c.in_ok-ends.tokens.items c.in_ok-ends.ensures.ends c.in_ok-ends.ensures.tokens
    c.all_differ.result c.all_differ-then-all_differ.result c.if-all_differ.true c.all_differ.ensures c.all_differ-then-all_differ.ensures

pub returns-else-all_differ : goal.returns-else-all_differ
returns-else-all_differ c =
    end_twice c.args.things.now c.in_ok-ends.ends.items c.in_ok-ends.tokens.items c.in_ok-ends.ensures.ends
    c.all_differ.result c.if-all_differ.false c.all_differ.ensures
