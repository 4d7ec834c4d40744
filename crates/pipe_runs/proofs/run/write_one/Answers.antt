use Rattle.std.proofs.Common.{refl, sym, ap, ◌∙◌}
use Rattle.std.specs.Option.{option_map}
use Rattle.std.proofs.lemmas.Result.{err_from_is_err_and}
use Rattle.message_pipe.specs.Ends.{with_message}
use Rattle.message_pipe.specs.declared.message.Message.{Message}
use Rattle.pipe_runs.specs.declared.run.QueueCommand.TheVariants.{Write}
use Rattle.pipe_runs.proofs.Running.{full_left, full_told, moved, not_there, room_left, room_told, unmoved, unwritten}
use Rattle.pipe_runs.proofs.run.write_one.Goals as goal

pub returns-then-not-has_end-clause-told : goal.returns-then-not-has_end-clause-told
returns-then-not-has_end-clause-told g c =
    let before = g.Q.Queues.contents c.args.queues.now in
    unwritten c.args.end c.args.message.now (before c.args.end) (sym c.has_end.ensures ∙ c.if-not-has_end.true)

pub returns-then-not-has_end-clause-after : goal.returns-then-not-has_end-clause-after
returns-then-not-has_end-clause-after g c =
    let before = g.Q.Queues.contents c.args.queues.now in
    unmoved (Write c.args.end c.args.message.now) before
    (not_there (Write c.args.end c.args.message.now) (before c.args.end) (sym c.has_end.ensures ∙ c.if-not-has_end.true))

pub returns-then-is_refused-clause-told : goal.returns-then-is_refused-clause-told
returns-then-is_refused-clause-told g c =
    let before = g.Q.Queues.contents c.args.queues.now in
    full_told c.args.end c.args.message.now (before c.args.end) (sym c.has_end.ensures ∙ c.if-not-has_end.false)
    (sym c.is_refused.ensures ∙ c.if-is_refused.true)

pub returns-then-is_refused-clause-after : goal.returns-then-is_refused-clause-after
returns-then-is_refused-clause-after g c =
    let before = g.Q.Queues.contents c.args.queues.now in
    unmoved (Write c.args.end c.args.message.now) before
    (full_left c.args.end c.args.message.now (before c.args.end) (sym c.has_end.ensures ∙ c.if-not-has_end.false)
    (sym c.is_refused.ensures ∙ c.if-is_refused.true))

pub returns-in_err-copy-clause-err : goal.returns-in_err-copy-clause-err
returns-in_err-copy-clause-err g c =
    let p = err_from_is_err_and c.from_residual.result c.from_residual.ensures.1 in
    rw p.1 (λ x. refl)

pub write-requires : goal.write-requires
write-requires g c = sym c.has_end.ensures ∙ c.if-not-has_end.false

pub returns-in-Ok-clause-told : goal.returns-in-Ok-clause-told
returns-in-Ok-clause-told g c =
    let before = g.Q.Queues.contents c.args.queues.now in
    room_told c.args.end c.args.message.now (before c.args.end) (sym c.has_end.ensures ∙ c.if-not-has_end.false)
    (sym c.is_refused.ensures ∙ c.if-is_refused.false)

pub returns-in-Ok-clause-after : goal.returns-in-Ok-clause-after
returns-in-Ok-clause-after g c =
    let before = g.Q.Queues.contents c.args.queues.now in
    moved (Write c.args.end c.args.message.now) (with_message c.in_ok-copy.copy) before (g.Q.Queues.contents c.write.new.self) c.in-Ok.ensures.ok
    (ap (λ (m : Message). option_map (with_message m) (before c.args.end)) c.in_ok-copy.ensures
    ∙ room_left c.args.end c.args.message.now (before c.args.end) (sym c.is_refused.ensures ∙ c.if-is_refused.false))

pub returns-in-Err-clause-err : goal.returns-in-Err-clause-err
returns-in-Err-clause-err g c = c.in-Err.ensures.err.1
