use Rattle.std.proofs.Common.{Vec, Global, arith, ap, ◌∙◌}
use Rattle.mojom_ast.specs.declared.token.Token.{Token}
use Rattle.mojom_lexer.proofs.Steps.{reaches_start, piece_room, passes_on, takes_on}
use Rattle.mojom_lexer.proofs.lexer.tokens.Goals as goal
use Rattle.mojom_lexer.proofs.lexer.tokens.Goals.{in-Some+in_ok-push, in_default}

pub loop-at-init : goal.loop-at-init
loop-at-init c = record { within = omega arith; reaches = reaches_start c.args.bytes.now c.new-tokens.result.items c.new-tokens.ensures.items }

pub loop-at-preserved : goal.loop-at-preserved
loop-at-preserved c = record {
  within = piece_room c.args.bytes.now c.loop-at.at c.in_ok-sort.field-0 c.loop-at.invariant.within c.in_ok-sort.ensures.ok;
  reaches = elim c.match-sort.branch [
    | in-Some+in_ok-push w ↦
        takes_on c.args.bytes.now c.loop-at.at c.in_ok-sort.field-0 w.in-Some.sort c.loop-at.tokens.items c.match-sort.tokens.items
        c.loop-at.invariant.reaches c.in_ok-sort.ensures.ok w.in-Some.is
        (ap (λ (v : Vec Token Global). v.items) w.tokens-is ∙ w.in_ok-push.ensures.items)
    | in_default w ↦
        passes_on c.args.bytes.now c.loop-at.at c.in_ok-sort.field-0 c.loop-at.tokens.items c.match-sort.tokens.items c.loop-at.invariant.reaches
        c.in_ok-sort.ensures.ok w.in_default.is (ap (λ (v : Vec Token Global). v.items) w.tokens-is)
  ];
}
