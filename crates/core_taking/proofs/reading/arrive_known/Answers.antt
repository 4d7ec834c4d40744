use Rattle.std.proofs.Common.{refl, ap, ◌∙◌}
use Rattle.wire_model.specs.Message.{moment_read, payload_start, request_read}
use Rattle.wire_model.specs.Tight.{value_of}
use Rattle.wire_model.specs.Trees.{view}
use Rattle.bind_model.specs.WireOf.{content_in}
use Rattle.core_taking.proofs.Arrives.{arrives, picked_same, target_is, unpicked_same}
use Rattle.core_taking.proofs.reading.arrive_known.Goals as goal

pub returns : goal.returns
returns c = λ wire past y arriving.
    let m = c.args.message.now in
    let checked = c.args.checked.now in
    let value = value_of checked.schema.now m.bytes (payload_start m.bytes) checked.number in
    arrives wire past y m c.args.header.now (content_in checked.schema.now checked.expected m.bytes checked.number) _ arriving c.requires.known refl
    (target_is checked.expected checked.method checked.bytes.now m.bytes checked.named c.requires.bytes)
    (c.new.ensures ∙ c.requires.value) (checked.asked ∙ ap request_read c.requires.bytes)
    (c.in_ok-named.ensures.named ∙ picked_same (view c.args.value) value c.as_slice.result.now m.handles c.requires.value c.as_slice.ensures)
    (c.in_ok-named.ensures.left ∙ unpicked_same (view c.args.value) value c.as_slice.result.now m.handles c.requires.value c.as_slice.ensures)
    (checked.timed ∙ ap moment_read c.requires.bytes)
