use Rattle.std.proofs.Common.{◌≡◌, length, refl, subst, sym}
use Rattle.wire_model.specs.Message.{AreIds}
use Rattle.bind_model.specs.Replies.{ids_of}
use Rattle.core_sending.specs.declared.carried.CarriedNames.{CarriedNames}
use Rattle.core_sending.proofs.Called.{are_ids, call_done, may_send, room, row_here, there, wanted}
use Rattle.message_pipe.specs.Contents.{Contents}
use Rattle.core_state.specs.Agreement.{Holds}
use Rattle.core_state.proofs.Still.{unseen_holds}
use Rattle.core_sending.proofs.call.send.Goals as goal

pub writes_of-requires-clause-wanted : goal.writes_of-requires-clause-wanted
writes_of-requires-clause-wanted c =
    subst (λ (ns : CarriedNames). length (ids_of ns.pendings) ≡ length c.args.request.prepared.endpoints.items) (sym c.requires.same)
    (wanted c.args.state.now c.args.seq c.args.request c.requires.can c.args.peer c.requires.free)

pub writes_of-requires-clause-ids : goal.writes_of-requires-clause-ids
writes_of-requires-clause-ids c =
    subst (λ (ns : CarriedNames). AreIds (ids_of ns.pendings)) (sym c.requires.same)
    (are_ids c.args.state.now c.args.seq c.args.request c.requires.can c.args.peer c.requires.free)

pub reserve_sent-requires : goal.reserve_sent-requires
reserve_sent-requires c = row_here c.args.state.now c.args.seq c.args.request c.requires.can c.args.peer c.requires.free

pub put_message-requires-clause-there : goal.put_message-requires-clause-there
put_message-requires-clause-there c = there c.args.state.now c.args.seq c.args.request c.requires.can c.args.peer c.requires.free

pub put_message-requires-clause-room : goal.put_message-requires-clause-room
put_message-requires-clause-room c = room c.args.state.now c.args.seq c.args.request c.requires.can c.args.peer c.requires.free

pub note_sent-requires : goal.note_sent-requires
note_sent-requires c =
    may_send c.args.state.now c.args.seq c.args.request c.requires.can c.args.peer c.requires.free
    c.request_id_of-request_id.result c.reserve_sent.new.endpoints c.reserve_sent.ensures.same c.in-Ok-reserve_sent.ensures.room

pub returns-clause-done : goal.returns-clause-done
returns-clause-done c =
    call_done c.args.state.now c.args.seq c.args.request c.requires.can c.args.peer c.requires.free _ refl refl refl refl
    c.request_id_of-request_id.result c.args.names c.in-Ok.writes c.put_message.new.pipes c.reserve_sent.new.endpoints
    c.request_id_of-request_id.ensures c.requires.same c.in-Ok.ensures
    c.in-Ok-put_message.ensures.ok c.put_all.ensures c.spend_all.ensures c.push_reserved.ensures.events c.reserve_sent.ensures.same c.note_sent.ensures

pub returns-in_default-reserve_sent-clause-undone : goal.returns-in_default-reserve_sent-clause-undone
returns-in_default-reserve_sent-clause-undone c =
    let s = c.args.state.now in
    record {
      holds = unseen_holds s c.reserve_sent.new.endpoints s.rights c.reserve_sent.ensures.same (λ r. refl) (λ p. refl) c.requires.can.able.holds;
      schema = refl;
      seqs = refl;
      events = refl;
      back = c.into_command-in_default-reserve_sent.ensures;
      spent = c.requires.can.able.few;
    }

pub returns-in_default-put_message-clause-undone : goal.returns-in_default-put_message-clause-undone
returns-in_default-put_message-clause-undone c =
    let s = c.args.state.now in
    record {
      holds =
          subst (λ (pipes : Contents). Holds (record s { pipes = pipes; endpoints = c.reserve_sent.new.endpoints })) (sym c.in_default-put_message.ensures.err)
          (unseen_holds s c.reserve_sent.new.endpoints s.rights c.reserve_sent.ensures.same (λ r. refl) (λ p. refl) c.requires.can.able.holds);
      schema = refl;
      seqs = refl;
      events = refl;
      back = c.into_command-in_default-put_message.ensures;
      spent = c.requires.can.able.few;
    }
