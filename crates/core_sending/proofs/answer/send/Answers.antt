use Rattle.std.proofs.Common.{◌≡◌, [], ◌∷◌, ◌++◌, length, refl, sym, subst}
use Rattle.wire_model.specs.Message.{AreIds}
use Rattle.bind_model.specs.Replies.{ids_of}
use Rattle.bind_model.specs.declared.asked.Asked.TheVariants as asks
use Rattle.bind_model.specs.declared.endpoint.ResponderId.{ResponderId}
use Rattle.bind_model.specs.declared.told.Told.TheVariants as tells
use Rattle.bind_model.specs.declared.commands.Reply.TheVariants as replies
use Rattle.core_sending.specs.declared.carried.CarriedNames.{CarriedNames}
use Rattle.core_state.specs.declared.state.State.{State}
use Rattle.core_sending.specs.Answering.{command_of}
use Rattle.core_sending.specs.Calls.{AreOf, sealed_bytes}
use Rattle.core_state.specs.Doing.{Done}
use Rattle.core_sending.proofs.Replied.{answer_done, are_ids, room, spendable, there, wanted}
use Rattle.core_sending.proofs.answer.send.Goals as goal

pub writes_of-requires-clause-wanted : goal.writes_of-requires-clause-wanted
writes_of-requires-clause-wanted c =
    subst (λ (ns : CarriedNames). length (ids_of ns.pendings) ≡ length c.args.response.prepared.endpoints.items) (sym c.requires.same)
    (wanted c.args.state.now c.args.seq c.args.response c.requires.can c.args.peer c.requires.free)

pub writes_of-requires-clause-ids : goal.writes_of-requires-clause-ids
writes_of-requires-clause-ids c =
    subst (λ (ns : CarriedNames). AreIds (ids_of ns.pendings)) (sym c.requires.same)
    (are_ids c.args.state.now c.args.seq c.args.response c.requires.can c.args.peer c.requires.free)

pub put_message-requires-clause-there : goal.put_message-requires-clause-there
put_message-requires-clause-there c = there c.args.state.now c.args.seq c.args.response c.requires.can c.args.peer c.requires.free

pub put_message-requires-clause-room : goal.put_message-requires-clause-room
put_message-requires-clause-room c = room c.args.state.now c.args.seq c.args.response c.requires.can c.args.peer c.requires.free

pub spend-requires : goal.spend-requires
spend-requires c = spendable c.args.state.now c.args.seq c.args.response c.requires.can c.args.peer c.requires.free

pub returns-clause-done : goal.returns-clause-done
returns-clause-done c =
    let s = c.args.state.now in
    let r = c.args.response in
    let ns = c.args.names in
    let new : State = record {
      schema = s.schema;
      seqs = s.seqs;
      log = c.push_reserved.new.self;
      pipes = c.put_all.new.pipes;
      endpoints = s.endpoints;
      tables = s.tables;
      rights = record { responders = c.spend.new.self; pendings = c.spend_all.new.table };
    } in
    subst (λ (q : ResponderId). Done s new c.args.seq (command_of r) (replies.Sent q.request c.in-Ok.writes.told)) (sym c.id-id.ensures)
    (answer_done s c.args.seq r c.requires.can c.args.peer c.requires.free new refl refl refl refl ns c.in-Ok.writes c.put_message.new.pipes c.requires.same
    (subst (λ (q : ResponderId).
    AreOf r.prepared ns r.moment (sealed_bytes q.id q.request r.moment (ids_of ns.pendings) r.prepared) c.in-Ok.writes) c.id-id.ensures
    c.in-Ok.ensures)
    c.in-Ok-put_message.ensures.ok c.put_all.ensures c.spend_all.ensures c.spend.ensures
    (subst
    (λ (q : ResponderId). c.push_reserved.new.self.events ≡ s.log.events
    ++ record { seq = c.args.seq; asked = asks.Answer q c.in-Ok.writes.outgoing; told = tells.Sent q.request c.in-Ok.writes.noted } ∷ [])
    c.id-id.ensures c.push_reserved.ensures.events))
