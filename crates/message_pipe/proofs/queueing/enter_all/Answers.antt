use Rattle.std.proofs.Common.{refl, sym, ap, ◌∙◌}
use Rattle.std.proofs.lemmas.Result.{err_from_is_err_and}
use Rattle.message_pipe.specs.Mail.{are_emitted}
use Rattle.message_pipe.proofs.Entering.{all_entered, none_entered}
use Rattle.message_pipe.proofs.Places.{gone_again}
use Rattle.message_pipe.proofs.Seeing.{emitted-held}
use Rattle.message_pipe.proofs.queueing.enter_all.Goals as goal

pub returns-in_err-stored-clause-err : goal.returns-in_err-stored-clause-err
returns-in_err-stored-clause-err c =
    let p = err_from_is_err_and c.from_residual.result c.from_residual.ensures.1 in
    rw p.1 (refl, λ a. refl)

pub store_all-requires : goal.store_all-requires
store_all-requires c = c.in_ok-stored.ensures.items

pub queue_all-requires-clause-emitted : goal.queue_all-requires-clause-emitted
queue_all-requires-clause-emitted c =
    let gains = c.in-Ok.ensures.ok in
    sym (emitted-held c.store_all.new.messages c.store_all.new.stored.items gains.held) ∙ (ap are_emitted gains.are ∙ c.requires.emitted)

pub returns-in-Ok-clause-ok : goal.returns-in-Ok-clause-ok
returns-in-Ok-clause-ok c = all_entered c.queue_all.result c.args.end c.store_all.new.stored.items c.args.more.items c.args.keys.now c.queue_all.new.keys
    c.args.messages.now c.store_all.new.messages c.queue_all.new.messages c.in-Ok.ensures.ok c.queue_all.ensures.ok

pub returns-in-Ok-clause-err : goal.returns-in-Ok-clause-err
returns-in-Ok-clause-err c = none_entered c.queue_all.result c.store_all.new.stored.items c.args.more.items c.args.keys.now c.queue_all.new.keys
    c.args.messages.now c.store_all.new.messages c.queue_all.new.messages c.in-Ok.ensures.ok c.queue_all.ensures.err

pub returns-in-Err-clause-err : goal.returns-in-Err-clause-err
returns-in-Err-clause-err c =
    let some = c.in-Err.ensures.err in
    (refl, gone_again c.args.messages.now c.store_all.new.messages c.forget.new.messages c.store_all.new.stored.items some.0 some.1 c.forget.ensures)
