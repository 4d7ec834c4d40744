use Rattle.std.proofs.Common.{Bool, subst, sym}
use Rattle.std.proofs.lemmas.Result.{on_ok_weaker}
use Rattle.event_tables.specs.AsCore.{past_by}
use Rattle.event_follow.specs.steps.Draining.{DrainedAll}
use Rattle.event_follow.specs.steps.Following.{Ended, Traced}
use Rattle.event_follow.proofs.FollowingLemmas.{drained_first, traced_part, traced_whole}
use Rattle.event_follow.proofs.following.drain_whole.Goals as goal

pub returns-then-not-whole : goal.returns-then-not-whole
returns-then-not-whole c = λ events traced.
    let schema = c.args.schema.now in
    let script = c.args.script.now in
    let machine = c.args.machine.now in
    let part = subst (λ (b : Bool). Traced schema script events machine b) c.if-not-whole.true traced in
    subst (λ (b : Bool). Ended schema script events machine b) (sym c.if-not-whole.true)
    (record { is = part.followed.is; follows = traced_part schema script events machine part })

pub drain-requires-clause-drained : goal.drain-requires-clause-drained
drain-requires-clause-drained c =
    let schema = c.args.schema.now in
    let script = c.args.script.now in
    let machine = c.args.machine.now in
    let events = c.requires.traced.0 in
    drained_first schema script events machine
    (subst (λ (b : Bool). Traced schema script events machine b) c.if-not-whole.false c.requires.traced.1)

pub drain-requires-clause-lines : goal.drain-requires-clause-lines
drain-requires-clause-lines c =
    let t = c.requires.traced.1 in
    (t.after_joins, t.followed.middle, t.followed.whole_is, t.followed.joins, t.followed.asks)

pub returns : goal.returns
returns c =
    let schema = c.args.schema.now in
    let script = c.args.script.now in
    let machine = c.args.machine.now in
    let after = c.drain.new.machine in
    on_ok_weaker c.drain.result
    (λ (all : DrainedAll schema script (past_by machine.tables) after). λ events traced.
    let whole = subst (λ (b : Bool). Traced schema script events machine b) c.if-not-whole.false traced in
    subst (λ (b : Bool). Ended schema script events after b) (sym c.if-not-whole.false)
    (record { is = all.is; follows = traced_whole schema script events machine whole after all }))
    c.drain.ensures
