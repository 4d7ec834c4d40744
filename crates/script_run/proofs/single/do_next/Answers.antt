use Rattle.std.proofs.Common.{◌<◌, ℕ, refl, sym, ap, subst}
use Rattle.std.specs.Prelude.{None}
use Rattle.std.specs.Option.{option_copied}
use Rattle.mj_schema.specs.declared.schema.Schema.{Schema}
use Rattle.call_script.specs.Sound.{IsReply}
use Rattle.script_run.proofs.OneEvent.{due_last, due_now, reply_next, reply_reads, went_on}
use Rattle.script_run.proofs.single.do_next.Goals as goal

pub send_reply-requires-clause-seq : goal.send_reply-requires-clause-seq
send_reply-requires-clause-seq c = subst (λ (n : ℕ). c.args.seq.0 < n) (sym c.requires.core.seqs) c.requires.seq

pub send_reply-requires-clause-reply : goal.send_reply-requires-clause-reply
send_reply-requires-clause-reply c =
    let come = c.requires.come.2 in
    let schema = c.args.schema.now in
    let script = c.args.script.now in
    let reply = c.in-Some.reply.now in
    let reads = reply_reads schema script c.requires.come.0 c.args.seq c.requires.come.1 c.args.room.now c.args.agenda.now come reply
    (ap option_copied c.in-Some.is) (IsReply schema script.seqs) c.requires.script.autos in
    subst (λ (x : Schema). IsReply x c.args.core.seqs reply) (sym c.requires.core.schema)
    (subst (λ (n : ℕ). IsReply schema n reply) (sym c.requires.core.seqs) reads)

pub send_reply-requires-clause-last : goal.send_reply-requires-clause-last
send_reply-requires-clause-last c =
    let come = c.requires.come.2 in
    due_last c.args.schema.now c.args.script.now c.requires.come.0 c.args.seq c.requires.come.1 c.args.room.now c.args.agenda.now come c.in-Some.reply.now
    (ap option_copied c.in-Some.is)

pub returns-in-Some-clause-did : goal.returns-in-Some-clause-did
returns-in-Some-clause-did c =
    let schema = c.args.schema.now in
    let script = c.args.script.now in
    let room = c.args.room.now in
    let agenda = c.args.agenda.now in
    let reply = c.in-Some.reply.now in
    let is = ap option_copied c.in-Some.is in
    went_on c.send_reply.result.1 _ _ _ _ _ c.send_reply.ensures.did c.send_reply.ensures.names c.send_reply.ensures.have c.send_reply.ensures.names
    c.send_reply.ensures.goes
    (λ did names have again. λ after_joins own come.
    let to = due_now schema script after_joins c.args.seq own room agenda come reply is in
    reply_next schema script after_joins c.args.seq own room agenda come reply is c.args.core c.send_reply.result.0 c.send_reply.new.rests
    c.send_reply.new.room (record agenda { due = None }) refl refl refl (have script.names come.names) names (did to.0 (come.last (to.0, reply) to.1)))
