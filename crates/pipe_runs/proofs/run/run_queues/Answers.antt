use Rattle.std.proofs.Common.{◌≡◌, ◌+◌, List, [], ◌∷◌, ◌++◌, drop, sym, ap, ◌∙◌, append-nil}
use Rattle.std.proofs.lemmas.List.{drop_all, drop_more}
use Rattle.std.proofs.lemmas.Result.{err_from_is_err_and}
use Rattle.pipe_runs.specs.Commands.{after_all, replies_to}
use Rattle.pipe_runs.specs.declared.run.QueueCommand.{QueueCommand}
use Rattle.pipe_runs.specs.declared.run.QueueReply.{QueueReply}
use Rattle.pipe_runs.proofs.Running.{after_more, did_more, replied_more}
use Rattle.pipe_runs.proofs.run.run_queues.Goals as goal

pub loop-command-preserved : goal.loop-command-preserved
loop-command-preserved g c =
    let contents = g.Q.Queues.contents in
    let all = c.args.commands.now in
    let i = c.loop-command.command-index in
    let command = c.command-item.result in
    let front : drop i all ≡ command ∷ drop (i + 1) all = drop_more all i command c.loop-command-test.true
    ∙ ap (λ (x : QueueCommand). x ∷ drop (i + 1) all) (sym c.command-item.is) in
    record {
      told = ap (λ (rs : List QueueReply). rs ++ replies_to (drop (i + 1) all) (contents c.run_one.new.queues)) c.in_ok-push.ensures.items
          ∙ replied_more (drop i all) (drop (i + 1) all) command c.in_ok-reply.reply c.loop-command.replies.items
          (replies_to all (contents c.args.queues.now)) (contents c.loop-command.queues) (contents c.run_one.new.queues) front
          c.in_ok-reply.ensures.told c.in_ok-reply.ensures.after c.loop-command.invariant.told;
      rest = after_more (drop i all) (drop (i + 1) all) command (contents c.args.queues.now) (contents c.loop-command.queues)
          (contents c.run_one.new.queues) all front c.in_ok-reply.ensures.after c.loop-command.invariant.rest;
      so_far = did_more all i command (contents c.args.queues.now) (contents c.loop-command.queues) (contents c.run_one.new.queues)
          c.loop-command-test.true c.command-item.is c.in_ok-reply.ensures.after c.loop-command.invariant.so_far;
    }

pub returns-in_err-reply-clause-err : goal.returns-in_err-reply-clause-err
returns-in_err-reply-clause-err g c =
    let p = err_from_is_err_and c.from_residual.result c.from_residual.ensures.1 in
    rw p.1 (
      c.loop-command.command-index,
      λ x. c.in_err-reply.ensures.err x ∙ c.loop-command.invariant.so_far x,
    )

pub returns-in_err-push-clause-err : goal.returns-in_err-push-clause-err
returns-in_err-push-clause-err g c =
    let contents = g.Q.Queues.contents in
    let p = err_from_is_err_and c.from_residual-in_err-push.result c.from_residual-in_err-push.ensures.1 in
    rw p.1 (
      c.loop-command.command-index + 1,
      did_more c.args.commands.now c.loop-command.command-index c.command-item.result (contents c.args.queues.now)
          (contents c.loop-command.queues) (contents c.run_one.new.queues) c.loop-command-test.true c.command-item.is
          c.in_ok-reply.ensures.after c.loop-command.invariant.so_far,
    )

pub returns-clause-replies : goal.returns-clause-replies
returns-clause-replies g c =
    let contents = g.Q.Queues.contents in
    let over : drop c.loop-command.command-index c.args.commands.now ≡ [] =
    drop_all c.loop-command.command-index c.args.commands.now c.loop-command-test.false in
    sym (append-nil c.loop-command.replies.items)
    ∙ (ap (λ (cs : List QueueCommand). c.loop-command.replies.items ++ replies_to cs (contents c.loop-command.queues)) (sym over)
    ∙ c.loop-command.invariant.told)

pub returns-clause-after : goal.returns-clause-after
returns-clause-after g c = λ x.
    let contents = g.Q.Queues.contents in
    let over : drop c.loop-command.command-index c.args.commands.now ≡ [] =
    drop_all c.loop-command.command-index c.args.commands.now c.loop-command-test.false in
    ap (λ (cs : List QueueCommand). after_all cs (contents c.loop-command.queues) x) (sym over) ∙ c.loop-command.invariant.rest x
