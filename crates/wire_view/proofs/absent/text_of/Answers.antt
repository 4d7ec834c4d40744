use Rattle.wire_view.proofs.Defaults.{whole_text}
use Rattle.wire_view.proofs.absent.text_of.Goals as goal

pub new-requires : goal.new-requires
new-requires c = rw c.as_slice.ensures (whole_text c.args.bytes.now c.requires)
