use Rattle.std.proofs.Common.{rules, arith, ◌+◌, ◌<◌, ◌≤◌, ℕ, [], length, get_or, ◌∙◌, sym, ap, map}
use Rattle.std.specs.Prelude.{Some}
use Rattle.std.proofs.lemmas.List.{get_or_default, take_all}
use Rattle.module_resolver.specs.NamesOf.{texts_from}
use Rattle.module_resolver.specs.Seats.{node_of}
use Rattle.module_resolver.proofs.Held.{entered_twice, node_there, texts_long, first_text, pushed_more, part_entered}
use Rattle.module_resolver.proofs.module_nodes.nodes_from.Goals as goal

pub enter-requires-clause-there : goal.enter-requires-clause-there
enter-requires-clause-there c = c.requires.root

pub loop-part-init : goal.loop-part-init
loop-part-init c =
    let rest = c.args.rest.now in
    let text = c.args.first.now.text in
    record {
      entered = c.in_ok-node.ensures.entered;
      before = search rules;
      here = ap (node_of c.enter.new.self 0) (first_text text rest ∙ sym c.as_str.ensures) ∙ c.in_ok-node.ensures.is;
    }

pub enter-requires-in-loop-part-clause-there : goal.enter-requires-in-loop-part-clause-there
enter-requires-in-loop-part-clause-there c =
    let front = get_or (texts_from c.args.first.now.text c.args.rest.now) c.loop-part.part-index [] in
    node_there c.loop-part.index c.loop-part.invariant.entered.sound 0 front c.loop-part.node c.loop-part.invariant.here

pub loop-part-preserved : goal.loop-part-preserved
loop-part-preserved c =
    let old = c.loop-part.index in
    let new = c.enter-in-loop-part.new.self in
    let both =
    part_entered old new c.args.first.now.text c.args.rest.now c.loop-part.part-index c.part-item.result c.loop-part.node c.in_ok-node-2.node
    c.loop-part.nodes.items c.push.new.self.items c.loop-part-test.true c.part-item.is c.in_ok-node-2.ensures.entered c.in_ok-push.ensures.items
    c.loop-part.invariant.before c.loop-part.invariant.here
    (ap (node_of new c.loop-part.node) (sym c.as_str-in-loop-part.ensures) ∙ c.in_ok-node-2.ensures.is) in
    record {
      entered = entered_twice c.args.index.now old new c.loop-part.invariant.entered c.in_ok-node-2.ensures.entered;
      before = both.0;
      here = both.1;
    }

pub returns-clause-are : goal.returns-clause-are
returns-clause-are c =
    let index = c.loop-part.index in
    let i = c.loop-part.part-index in
    let texts = texts_from c.args.first.now.text c.args.rest.now in
    let long = texts_long c.args.first.now.text c.args.rest.now in
    let most = c.loop-part-test.false in
    let upto = c.loop-part.auto.part-index-end in
    let there : i < length texts = omega (arith, long, upto) in
    let past : length texts ≤ i + 1 = omega (arith, long, most) in
    let front = get_or texts i [] in
    ap (map (node_of index 0)) (sym (take_all (i + 1) texts past))
    ∙ pushed_more (node_of index 0) (λ (n : ℕ). Some n) texts i front c.loop-part.nodes.items c.push-2.new.self.items c.loop-part.node there
    (get_or_default texts i [] front there) c.in_ok-push-2.ensures.items c.loop-part.invariant.before c.loop-part.invariant.here
