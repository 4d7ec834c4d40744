use Rattle.std.proofs.Common.{inl, refl, sym, ◌∙◌}
use Rattle.mojom_lexer.proofs.Standing.{arrow_stands, symbol_stands, no_symbol}
use Rattle.mojom_lexer.proofs.pieces.sign.Goals as goal

pub returns-then-starts_with-clause-ok : goal.returns-then-starts_with-clause-ok
returns-then-starts_with-clause-ok c = arrow_stands c.args.bytes.now (sym c.starts_with.ensures.value ∙ c.if-starts_with.true)

pub returns-in-Some-clause-ok : goal.returns-in-Some-clause-ok
returns-in-Some-clause-ok c =
    symbol_stands c.args.bytes.now c.in-Some.symbol c.requires (sym c.starts_with.ensures.value ∙ c.if-starts_with.false) c.in-Some.ensures

pub returns-in-None-clause-refused : goal.returns-in-None-clause-refused
returns-in-None-clause-refused c = inl (no_symbol c.args.bytes.now c.requires c.in-None.ensures, refl)
