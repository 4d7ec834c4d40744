-- What may go to another thread: parameters and things as histories keep them.
use denote.Param.Send.{IsSend, sendable}
use Rattle.std.proofs.Crossing as vecs
use Rattle.wire_model.proofs.value.Value.TheLaws.TheKnot as values
use Rattle.kept_values.specs.contracts.parts.Part as part
use Rattle.kept_values.specs.contracts.parts.Held as held
use Rattle.kept_values.specs.contracts.kept_parameters.KeptParameters as kept
use Rattle.kept_values.specs.contracts.few_things.FewThings as few

part_send : IsSend part.the_field.row
part_send = search (values.crosses, vecs.crosses, sendable) depth 60 fits 20000

held_send : IsSend held.the_field.row
held_send = search (part_send, values.crosses, vecs.crosses, sendable) depth 60 fits 20000

pub kept_send : IsSend kept.the_field.row
kept_send = search (held_send, vecs.crosses, sendable) depth 60 fits 20000

pub few_send : IsSend few.the_field.row
few_send = search (vecs.crosses, sendable) depth 60 fits 20000
