use Rattle.std.proofs.Common.{refl, sym, ap, ◌∙◌}
use Rattle.std.specs.Prelude.{Option}
use Rattle.message_pipe.specs.Ends.{without_front}
use Rattle.message_pipe.specs.declared.message.Message.{Message}
use Rattle.pipe_runs.specs.declared.run.QueueCommand.TheVariants.{Read}
use Rattle.pipe_runs.specs.declared.run.QueueReply.TheVariants as replies
use Rattle.pipe_runs.proofs.Running.{moved, not_there, read_told, unmoved, unread}
use Rattle.pipe_runs.proofs.run.read_one.Goals as goal

pub returns-then-not-has_end-clause-told : goal.returns-then-not-has_end-clause-told
returns-then-not-has_end-clause-told g c =
    unread c.args.end (g.Q.Queues.contents c.args.queues.now c.args.end) (sym c.has_end.ensures ∙ c.if-not-has_end.true)

pub returns-then-not-has_end-clause-after : goal.returns-then-not-has_end-clause-after
returns-then-not-has_end-clause-after g c =
    let before = g.Q.Queues.contents c.args.queues.now in
    unmoved (Read c.args.end) before (not_there (Read c.args.end) (before c.args.end) (sym c.has_end.ensures ∙ c.if-not-has_end.true))

pub read-requires : goal.read-requires
read-requires g c = sym c.has_end.ensures ∙ c.if-not-has_end.false

pub returns-clause-told : goal.returns-clause-told
returns-clause-told g c =
    ap (λ (m : Option Message). replies.Got m) c.read.ensures.front
    ∙ read_told c.args.end (g.Q.Queues.contents c.args.queues.now c.args.end) (sym c.has_end.ensures ∙ c.if-not-has_end.false)

pub returns-clause-after : goal.returns-clause-after
returns-clause-after g c = moved (Read c.args.end) without_front (g.Q.Queues.contents c.args.queues.now) (g.Q.Queues.contents c.read.new.self)
    c.read.ensures.rest refl
