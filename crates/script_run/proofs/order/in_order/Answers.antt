use Rattle.std.proofs.Common.{◌≡◌, ◌∷◌, ◌++◌, [], Bool, List, length, take, drop, sym, ap, ◌∙◌, subst, arith}
use Rattle.std.specs.Prelude.{cond, map}
use Rattle.std.proofs.lemmas.List.{map_push, take_at}
use Rattle.script_run.specs.declared.order.Queue.{Queue}
use Rattle.script_run.specs.steps.Orders.{HasTaken}
use Rattle.script_run.proofs.OrderSteps.{taken_after, taken_all}
use Rattle.script_run.proofs.order.in_order.Goals as goal

pub loop-line-preserved : goal.loop-line-preserved
loop-line-preserved c =
    let script = c.args.script.now in
    let lines = c.loop-line.lines.items in
    let taken = map (λ line. line.now) lines in
    let queues = c.loop-line.queues in
    let new = c.next_line.new.queues in
    let had : HasTaken script c.args.order c.loop-line.draw taken c.deref_mut.result.now
    = subst (λ (qs : List Queue). HasTaken script c.args.order c.loop-line.draw taken qs) (sym c.deref_mut.ensures.value) c.loop-line.invariant in
    let pushed : c.push.new.self.items ≡ lines ++ c.in-Some.line ∷ []
    = c.push.ensures.items ∙ ap (λ (b : Bool). cond b (lines ++ c.in-Some.line ∷ []) lines) c.if-is_err.ensures.negation in
    let more : map (λ line. line.now) c.push.new.self.items ≡ taken ++ c.in-Some.line.now ∷ []
    = ap (map (λ line. line.now)) pushed ∙ map_push (λ line. line.now) lines c.in-Some.line in
    let same : length c.deref_mut.result.now ≡ length queues.items = ap length c.deref_mut.ensures.value in
    let long : length new ≡ queues.len = omega arith in
    let whole : take queues.len (new ++ drop (length new) queues.items) ≡ new = take_at new (drop (length new) queues.items) queues.len long in
    taken_after script c.args.order c.loop-line.draw c.next_draw-draw-in-Some.result taken (map (λ line. line.now) c.push.new.self.items)
    c.deref_mut.result.now new (take queues.len (new ++ drop (length new) queues.items)) c.in-Some.line.now had c.in-Some.ensures.takes
    c.next_draw-draw-in-Some.ensures more whole

pub returns : goal.returns
returns c =
    let script = c.args.script.now in
    let taken = map (λ line. line.now) c.loop-line.lines.items in
    let had : HasTaken script c.args.order c.loop-line.draw taken c.deref_mut.result.now
    = subst (λ (qs : List Queue). HasTaken script c.args.order c.loop-line.draw taken qs) (sym c.deref_mut.ensures.value) c.loop-line.invariant in
    taken_all script c.args.order c.loop-line.draw taken c.deref_mut.result.now c.next_line.new.queues had c.in_default-next_line.ensures.takes
