use Rattle.std.proofs.Common.{rules, arith, ◌≡◌, ◌+◌, ◌<◌, ◌≤◌, [], length, map, sym, ◌∙◌, ap, subst}
use Rattle.std.specs.Prelude.{reverse}
use Rattle.std.proofs.lemmas.List.{take_all}
use Rattle.module_resolver.specs.NamesOf.{texts_from}
use Rattle.module_resolver.specs.steps.Cuts.{Falls}
use Rattle.module_resolver.specs.NameDots.{dots_in}
use Rattle.module_resolver.proofs.Held.{texts_long}
use Rattle.module_resolver.proofs.Falls.{falls_more, turned}
use Rattle.module_resolver.proofs.FrontDots.{begun, one_front, next_front, fall_on}
use Rattle.module_resolver.proofs.dot_counts.dots_from.Goals as goal

pub loop-part-init : goal.loop-part-init
loop-part-init c =
    let none : c.new-dots.result.items ≡ [] = search rules in
    let all =
    begun c.args.first.now.text c.args.rest.now c.dots_in-count.result c.new-dots.result.items none (c.dots_in-count.ensures ∙ ap dots_in c.as_str.ensures) in
    record { before = all.0; here = all.1.0; falls = all.1.1.0; up = all.1.1.1 }

pub loop-part-preserved : goal.loop-part-preserved
loop-part-preserved c =
    let text = c.args.first.now.text in
    let rest = c.args.rest.now in
    let i = c.loop-part.part-index in
    let dots = c.loop-part.dots.items in
    let count = c.loop-part.count in
    let was = c.loop-part.invariant in
    let inner = c.dots_in.ensures ∙ ap dots_in c.as_str-in-loop-part.ensures in
    let fall =
    fall_on count c.in_ok-count.count c.dots_in.result dots c.push.new.self.items c.in_ok-push.ensures.items c.in_ok-count.ensures was.falls was.up in
    let long = texts_long text rest in
    let lt = c.loop-part-test.true in
    record {
      before = one_front (texts_from text rest) i count dots c.push.new.self.items (omega (arith, long, lt)) was.here was.before c.in_ok-push.ensures.items;
      here = next_front text rest i c.part-item.result count c.dots_in.result c.in_ok-count.count lt c.part-item.is was.here inner c.in_ok-count.ensures;
      falls = fall.0;
      up = fall.1;
    }

pub returns-clause-are : goal.returns-clause-are
returns-clause-are c =
    let text = c.args.first.now.text in
    let rest = c.args.rest.now in
    let texts = texts_from text rest in
    let i = c.loop-part.part-index in
    let was = c.loop-part.invariant in
    let long = texts_long text rest in
    let most = c.loop-part-test.false in
    let upto = c.loop-part.auto.part-index-end in
    let there : i < length texts = omega (arith, long, upto) in
    let past : length texts ≤ i + 1 = omega (arith, long, most) in
    ap (map dots_in) (sym (take_all (i + 1) texts past))
    ∙ one_front texts i c.loop-part.count c.loop-part.dots.items c.push-2.new.self.items there was.here was.before c.in_ok-push-2.ensures.items

pub returns-clause-falls : goal.returns-clause-falls
returns-clause-falls c =
    let dots = c.loop-part.dots.items in
    let count = c.loop-part.count in
    let was = c.loop-part.invariant in
    subst Falls (sym (ap reverse c.in_ok-push-2.ensures.items ∙ turned dots count)) (falls_more count (reverse dots) was.up was.falls)
