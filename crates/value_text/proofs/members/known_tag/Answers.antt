use Rattle.std.proofs.Common.{sym}
use Rattle.std.specs.Prelude.{slice_get}
use Rattle.value_text.proofs.KnownNumbers.{known_tag_read}
use Rattle.value_text.proofs.members.known_tag.Goals as goal

pub returns-in-Some : goal.returns-in-Some
returns-in-Some c =
    known_tag_read (slice_get c.args.schema.now.unions c.args.number) c.args.bytes.now c.in-Ok.rest.now c.in-Ok.tag c.in-Some.field-0.now c.in-Ok.ensures
    c.in-Some.ensures (sym c.if-not-is_digit_next.ensures)
