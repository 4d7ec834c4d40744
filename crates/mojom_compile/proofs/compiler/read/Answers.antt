use Rattle.mojom_compile.proofs.Readings.{unread}
use Rattle.mojom_compile.proofs.compiler.read.Goals as goal

pub returns-clause-refused : goal.returns-clause-refused
returns-clause-refused c =
    rw (c.of_parser.ensures, c.as_slice-in-Err-parse.ensures.value)
    (unread c.args.bytes.now c.in-Ok.tokens.items c.in-Err-parse.error c.in-Ok.ensures.tokens
    (rw c.as_slice.ensures.value at c.in-Err-parse.ensures.fault) (rw c.as_slice.ensures.value at c.in-Err-parse.ensures.deep))
