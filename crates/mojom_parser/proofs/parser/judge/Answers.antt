use Rattle.mojom_parser.proofs.Places.{left_in, deep_in, rest_in}
use Rattle.mojom_parser.proofs.parser.judge.Goals as goal

pub place-requires : goal.place-requires
place-requires c = rest_in c.args.tokens.now _ c.in-Ok.rest.now c.in-Ok.ensures

pub place-requires-in-Err-Fault-Unexpected : goal.place-requires-in-Err-Fault-Unexpected
place-requires-in-Err-Fault-Unexpected c = left_in c.args.tokens.now c.in-Err-Fault-Unexpected.left
    (rw (c.in-Err-Fault-Unexpected.field-0-is, c.in-Err-Fault-Unexpected.field-0-0-is) at c.in-Err-Fault-Unexpected.ensures)

pub place-requires-in-Err-Fault-TooNested : goal.place-requires-in-Err-Fault-TooNested
place-requires-in-Err-Fault-TooNested c = deep_in c.args.tokens.now c.in-Err-Fault-TooNested.left
    (rw (c.in-Err-Fault-TooNested.field-0-is, c.in-Err-Fault-TooNested.field-0-0-is) at c.in-Err-Fault-TooNested.ensures)
