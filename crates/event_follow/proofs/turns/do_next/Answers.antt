use Rattle.std.proofs.Common.{◌<◌, ℕ, subst, sym}
use Rattle.std.proofs.lemmas.Result.{IfOk-weaker}
use Rattle.mj_schema.specs.declared.schema.Schema.{Schema}
use Rattle.call_script.specs.Sound.{IsReply}
use Rattle.script_run.specs.OfScript.{replied}
use Rattle.event_follow.proofs.Running.{did_of}
use Rattle.event_follow.proofs.Turning.{reply_next, reply_reads}
use Rattle.event_follow.proofs.turns.do_next.Goals as goal

pub send_reply-requires-clause-stands : goal.send_reply-requires-clause-stands
send_reply-requires-clause-stands c = c.requires.is.stands

pub send_reply-requires-clause-seq : goal.send_reply-requires-clause-seq
send_reply-requires-clause-seq c = subst (λ (n : ℕ). c.args.seq.0 < n) (sym c.requires.is.seqs) c.requires.seq

pub send_reply-requires-clause-reply : goal.send_reply-requires-clause-reply
send_reply-requires-clause-reply c =
    let come = c.requires.come in
    let schema = c.args.schema.now in
    let script = c.args.script.now in
    let reply = c.in-Some.due.reply.now in
    let reads = reply_reads schema script come.0 c.args.seq come.1 c.args.place.now come.2 c.in-Some.due c.in-Some.is (IsReply schema script.seqs)
    c.requires.script.autos in
    subst (λ (s : Schema). IsReply s c.args.machine.now.tables.seqs reply) (sym c.requires.is.schema)
    (subst (λ (n : ℕ). IsReply schema n reply) (sym c.requires.is.seqs) reads)

pub do_own-requires-clause-come : goal.do_own-requires-clause-come
do_own-requires-clause-come c =
    let come = c.requires.come in
    (come.0, c.args.seq, come.1, c.requires.seq, come.2)

pub returns-in_ok-send_reply-in-Some : goal.returns-in_ok-send_reply-in-Some
returns-in_ok-send_reply-in-Some c = λ after_joins own come.
    let schema = c.args.schema.now in
    let script = c.args.script.now in
    let before = c.args.machine.now in
    let after = c.send_reply.new.machine in
    let due = c.in-Some.due in
    reply_next schema script after_joins c.args.seq own c.args.place.now come due c.in-Some.is before after
    (did_of schema script before c.requires.is c.args.seq (replied (due.responder, due.reply.now)) after c.in_ok-send_reply-in-Some.ensures)

pub returns-in-None : goal.returns-in-None
returns-in-None c =
    IfOk-weaker c.do_own.result _ _ (λ goes did. λ after_joins own come. did after_joins c.args.seq own come) c.do_own.ensures
