-- What a worker has may go to its thread, and threads may share a script.
use denote.Param.Send.{IsSend, IsSync, sendable}
use Rattle.std.proofs.Crossing as vecs
use Rattle.wire_model.proofs.value.Value.TheLaws.TheKnot as values
use Rattle.wire_encoder.specs.contracts.prepared.Prepared as prepared
use Rattle.handle_table.proofs.handle.Handle.TheSendSync as handle
use Rattle.handle_table.proofs.handle.Handles.TheSendSync as handles
use Rattle.bind_model.proofs.asked.Notice.TheSendSync as notice
use Rattle.bind_model.proofs.flow.Flow.TheSendSync as flow
use Rattle.bind_model.proofs.pending.Pending.TheSendSync as pending
use Rattle.bind_model.proofs.pending.PendingList.TheSendSync as pending_list
use Rattle.bind_model.proofs.responder.Responder.TheSendSync as responder
use Rattle.bind_model.proofs.Crossing.{command_send}
use Rattle.call_script.proofs.script.NameId.TheSendSync as name_id
use Rattle.call_script.specs.contracts.script.AutoReply as auto_reply
use Rattle.call_script.specs.contracts.script.Command as command
use Rattle.call_script.specs.contracts.script.Line as line
use Rattle.call_script.specs.contracts.script.Script as script
use Rattle.remote_receiver.proofs.desk.Desk.TheSendSync as desk
use Rattle.script_names.proofs.held.Held.TheSendSync as held
use Rattle.script_names.proofs.stands.Stands.TheSendSync as stands
use Rattle.script_names.specs.contracts.kept.Kept as kept
use Rattle.script_names.specs.contracts.rooms.Rooms as rooms
use Rattle.script_run.proofs.cut.Cut.TheSendSync as cut
use Rattle.script_run.proofs.plain.Plain.TheSendSync as plain

-- ## Scripts

prepared_sync : IsSync prepared.the_field.row
prepared_sync = search (values.crosses, vecs.crosses, sendable) depth 60 fits 20000

command_sync : IsSync command.the_field.row
command_sync = search (prepared_sync, notice.the_field_sync, flow.the_field_sync, name_id.the_field_sync, vecs.crosses, sendable) depth 60 fits 20000

line_sync : IsSync line.the_field.row
line_sync = search (command_sync, sendable) depth 20

auto_reply_sync : IsSync auto_reply.the_field.row
auto_reply_sync = search (prepared_sync, sendable) depth 20

pub script_sync : IsSync script.the_field.row
script_sync = search (line_sync, auto_reply_sync, vecs.crosses, sendable) depth 60 fits 20000

-- ## Workers

-- what there was no place for
kept_send : IsSend kept.the_field.row
kept_send = search (command_send, handles.the_send, pending_list.the_send, sendable) depth 60 fits 20000

-- the rooms themselves
pub rooms_send : IsSend rooms.the_field.row
rooms_send = search (
  kept_send,
  stands.the_field_send,
  held.the_field_send,
  handle.the_send,
  pending.the_send,
  responder.the_send,
  vecs.crosses,
  sendable,
) depth 60 fits 20000

pub ruleset crosses = (rooms_send, desk.the_field_send, plain.the_send, cut.the_field_send)
