use Rattle.std.proofs.Common.{subst}
use Rattle.mj_base.specs.Names.{named_in}
use Rattle.module_resolver.specs.steps.Held.{IsEntry}
use Rattle.module_resolver.proofs.Held.{entered_twice, node_there}
use Rattle.module_resolver.proofs.index.enter_full.Goals as goal

pub enter_below-requires-clause-there : goal.enter_below-requires-clause-there
enter_below-requires-clause-there c =
    let is = c.in_ok-entry-in-Some.ensures in
    node_there c.enter_in.new.index is.entered.sound 0 (named_in c.args.name.module_name.now c.as_str.result.now) c.in_ok-entry-in-Some.entry.node is.is.is

pub returns-in_ok-made-in-Some-clause-entered : goal.returns-in_ok-made-in-Some-clause-entered
returns-in_ok-made-in-Some-clause-entered c =
    entered_twice c.args.index.now c.enter_in.new.index c.enter_below.new.index c.in_ok-entry-in-Some.ensures.entered c.in_ok-made-in-Some.ensures.entered

pub returns-in_ok-made-in-Some-clause-is : goal.returns-in_ok-made-in-Some-clause-is
returns-in_ok-made-in-Some-clause-is c =
    let mid = c.enter_in.new.index in
    let entry = c.in_ok-entry-in-Some.entry in
    let around = c.args.name.module_name.now in
    let at : IsEntry mid (named_in around c.in-Some.outer) entry =
    subst (λ t. IsEntry mid (named_in around t) entry) c.as_str.ensures c.in_ok-entry-in-Some.ensures.is in
    rw c.in-Some.is (c.in_ok-made-in-Some.ensures.is (named_in around c.in-Some.outer) at)
