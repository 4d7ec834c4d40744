use Rattle.std.proofs.Common.{Bool, cond, None, sym, ap, ◌∙◌}
use Rattle.wire_view.specs.steps.Lists.{bytes_behind}
use Rattle.wire_view.proofs.places.list_bytes.Goals as goal

pub bytes_behind-requires-clause-within : goal.bytes_behind-requires-clause-within
bytes_behind-requires-clause-within c = (c.requires (sym c.if-is_byte.ensures)).0

pub bytes_behind-requires-clause-there : goal.bytes_behind-requires-clause-there
bytes_behind-requires-clause-there c = (c.requires (sym c.if-is_byte.ensures)).1

pub returns-then-is_byte : goal.returns-then-is_byte
returns-then-is_byte c = c.bytes_behind.ensures ∙ ap (λ (b : Bool). cond b (bytes_behind c.args.bytes.now c.args.at) None) c.if-is_byte.ensures

pub returns-else-is_byte : goal.returns-else-is_byte
returns-else-is_byte c = ap (λ (b : Bool). cond b (bytes_behind c.args.bytes.now c.args.at) None) c.if-is_byte.ensures
