use Rattle.mojom_lexer.proofs.Standing.{blank_stands}
use Rattle.mojom_lexer.proofs.pieces.blank.Goals as goal

pub returns : goal.returns
returns c = blank_stands c.args.bytes.now c.run_len.result c.requires c.run_len.ensures
