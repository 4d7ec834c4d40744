-- What may go to another thread: commands, replies and events.
use denote.Param.Send.{IsSend, sendable}
use Rattle.std.proofs.Crossing as vecs
use Rattle.wire_model.proofs.value.Value.TheLaws.TheKnot as values
use Rattle.kept_values.proofs.Crossing.{kept_send, few_send}
use Rattle.bind_model.proofs.asked.Closing.TheSendSync as closing
use Rattle.bind_model.proofs.asked.Notice.TheSendSync as notice
use Rattle.bind_model.proofs.flow.Flow.TheSendSync as flow
use Rattle.bind_model.proofs.flow.Flowed.TheSendSync as flowed
use Rattle.bind_model.proofs.told.Noted.TheSendSync as noted
use Rattle.bind_model.proofs.told.Notified.TheSendSync as notified
use Rattle.bind_model.proofs.told.Why.TheSendSync as why
use Rattle.bind_model.proofs.told.BadWhy.TheSendSync as bad_why
use Rattle.bind_model.specs.contracts.event.Event as event
use Rattle.bind_model.specs.contracts.asked.Asked as asked
use Rattle.bind_model.specs.contracts.asked.Outgoing as outgoing
use Rattle.bind_model.specs.contracts.told.Told as told
use Rattle.bind_model.specs.contracts.told.Got as got
use Rattle.bind_model.specs.contracts.history.History as history
use Rattle.bind_model.specs.contracts.parameters.Parameters as parameters
use Rattle.wire_encoder.specs.contracts.prepared.Prepared as prepared
use Rattle.handle_table.proofs.handle.Handle.TheSendSync as handle
use Rattle.handle_table.proofs.handle.Handles.TheSendSync as handles
use Rattle.bind_model.proofs.pending.Pending.TheSendSync as pending
use Rattle.bind_model.proofs.pending.PendingList.TheSendSync as pending_list
use Rattle.bind_model.proofs.responder.Responder.TheSendSync as responder
use Rattle.bind_model.proofs.commands.ToClose.TheSendSync as to_close
use Rattle.bind_model.specs.contracts.commands.Command as command
use Rattle.bind_model.specs.contracts.commands.Received as received
use Rattle.bind_model.specs.contracts.commands.Reply as reply
use Rattle.bind_model.specs.contracts.commands.Refused as refused

pub parameters_send : IsSend parameters.the_field.row
parameters_send = search (values.crosses, vecs.crosses, sendable) depth 60 fits 20000

outgoing_send : IsSend outgoing.the_field.row
outgoing_send = search (kept_send, few_send, vecs.crosses, sendable) depth 60 fits 20000

got_send : IsSend got.the_field.row
got_send = search (kept_send, few_send, vecs.crosses, sendable) depth 60 fits 20000

asked_send : IsSend asked.the_field.row
asked_send = search (outgoing_send, closing.the_field_send, notice.the_field_send, flow.the_field_send, vecs.crosses, sendable) depth 60 fits 20000

told_send : IsSend told.the_field.row
told_send = search (
  got_send,
  why.the_field_send,
  bad_why.the_field_send,
  noted.the_field_send,
  notified.the_field_send,
  flowed.the_field_send,
  vecs.crosses,
  sendable,
) depth 60 fits 20000

event_send : IsSend event.the_field.row
event_send = search (asked_send, told_send, sendable) depth 20

pub history_send : IsSend history.the_field.row
history_send = search (event_send, vecs.crosses, sendable) depth 20

ruleset parts = (
  handle.the_send,
  handles.the_send,
  pending.the_send,
  pending_list.the_send,
  responder.the_send,
  to_close.the_field_send,
  notice.the_field_send,
  flow.the_field_send,
  flowed.the_field_send,
  why.the_field_send,
  bad_why.the_field_send,
  noted.the_field_send,
  notified.the_field_send,
)

prepared_send : IsSend prepared.the_field.row
prepared_send = search (values.crosses, vecs.crosses, sendable) depth 60 fits 20000

pub command_send : IsSend command.the_field.row
command_send = search (prepared_send, parts, vecs.crosses, sendable) depth 60 fits 20000

received_send : IsSend received.the_field.row
received_send = search (parameters_send, parts, vecs.crosses, sendable) depth 60 fits 20000

pub reply_send : IsSend reply.the_field.row
reply_send = search (command_send, received_send, parts, vecs.crosses, sendable) depth 60 fits 20000

pub refused_send : IsSend refused.the_field.row
refused_send = search (command_send, sendable) depth 20
