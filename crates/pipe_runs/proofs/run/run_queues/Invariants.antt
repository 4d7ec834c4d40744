use Rattle.std.proofs.Common.{◌≡◌, ◌++◌, drop, take}
use Rattle.mj_base.specs.declared.ids.EndId.{EndId}
use Rattle.pipe_runs.specs.Commands.{after_all, replies_to}
use Rattle.pipe_runs.proofs.run.run_queues.Given as goal

-- the replies so far and those to what is left are those to all, what is left leads to the same, and those so far are done
abbrev pub invariant-loop-command : goal.invariant-loop-command
invariant-loop-command g l =
    let contents = g.Q.Queues.contents in
    record {
      told : l.replies.items ++ replies_to (drop l.command-index l.commands) (contents l.queues) ≡ replies_to l.commands (contents l.fn.queues);
      rest : (x : EndId) → after_all (drop l.command-index l.commands) (contents l.queues) x ≡ after_all l.commands (contents l.fn.queues) x;
      so_far : (x : EndId) → contents l.queues x ≡ after_all (take l.command-index l.commands) (contents l.fn.queues) x;
    }
