use Rattle.std.proofs.Common.{arith, refl, ℕ, List, [], ◌∷◌, get_or, sym, ◌∙◌}
use Rattle.mj_base.specs.Names.{within}
use Rattle.import_order.specs.Imports.{has}
use Rattle.module_resolver.specs.Seats.{owner, held}
use Rattle.module_resolver.proofs.LesserLengths.{undotted, found_at, not_at, alone}
use Rattle.module_resolver.proofs.Held.{below_is, node_at}
use Rattle.module_resolver.proofs.find.meant_in_fronts.Goals as goal

pub bounds-nodes-next : goal.bounds-nodes-next
bounds-nodes-next c =
    (node_at c.args.index.now c.args.here.now.fronts c.args.nodes.now c.in-Some.next c.requires.nodes c.in-Some.ensures.next.1).0

pub returns-then-is_some : goal.returns-then-is_some
returns-then-is_some c =
    let index = c.args.index.now in
    let owners = held index in
    let seen = has c.args.here.now.seen in
    let name = c.args.name.now in
    let fronts = c.args.here.now.fronts in
    let full = λ (outer : List ℕ). within outer name in
    let facts = c.in-Some.ensures in
    let next = c.in-Some.next in
    let front = get_or fronts next [] in
    let node = node_at index fronts c.args.nodes.now next c.requires.nodes facts.next.1 in
    found_at (owner owners seen) full fronts (name ∷ []) c.loop-next.number next front _ c.meant-found.result
    c.loop-next.invariant facts.next.0 facts.next.1
    (λ k le lt.
    undotted owners seen c.args.dots.now (get_or fronts k []) name c.dots_in-count.result c.dots_in-count.ensures c.requires.dots
    (facts.skipped k le lt))
    (c.meant-found.ensures ∙ below_is index seen front name (get_or c.args.nodes.now next 0) node.1) refl
    (sym c.is_some.ensures ∙ c.if-is_some.true)

pub overflow_add-number : goal.overflow_add-number
overflow_add-number c = record { fits = omega (arith, c.in-Some.ensures.next.2) }

pub loop-next-preserved : goal.loop-next-preserved
loop-next-preserved c =
    let index = c.args.index.now in
    let owners = held index in
    let seen = has c.args.here.now.seen in
    let name = c.args.name.now in
    let fronts = c.args.here.now.fronts in
    let full = λ (outer : List ℕ). within outer name in
    let facts = c.in-Some.ensures in
    let next = c.in-Some.next in
    let front = get_or fronts next [] in
    let node = node_at index fronts c.args.nodes.now next c.requires.nodes facts.next.1 in
    not_at (owner owners seen) full fronts (name ∷ []) c.loop-next.number next front _ c.meant-found.result
    c.loop-next.invariant facts.next.0 facts.next.1
    (λ k le lt.
    undotted owners seen c.args.dots.now (get_or fronts k []) name c.dots_in-count.result c.dots_in-count.ensures c.requires.dots
    (facts.skipped k le lt))
    (c.meant-found.ensures ∙ below_is index seen front name (get_or c.args.nodes.now next 0) node.1) refl
    (sym c.is_some.ensures ∙ c.if-is_some.false)

pub returns : goal.returns
returns c =
    let owners = held c.args.index.now in
    let seen = has c.args.here.now.seen in
    let name = c.args.name.now in
    let fronts = c.args.here.now.fronts in
    let full = λ (outer : List ℕ). within outer name in
    c.meant.ensures
    ∙ alone (owner owners seen) full fronts name c.loop-next.number _ c.loop-next.invariant
    (λ k le lt.
    undotted owners seen c.args.dots.now (get_or fronts k []) name c.dots_in-count.result c.dots_in-count.ensures c.requires.dots
    (c.in_default.ensures.skipped k le lt))
