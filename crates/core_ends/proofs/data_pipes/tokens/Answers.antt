use Rattle.std.proofs.Common.{Some, ap, subst, ◌∙◌}
use Rattle.handle_table.specs.declared.thing.TokenId.{TokenId}
use Rattle.data_pipe.specs.Table.{Becomes, line_of}
use Rattle.data_pipe.proofs.Agreeing.{taken_back}
use Rattle.core_ends.proofs.data_pipes.tokens.Goals as goal

pub returns-in-Ok-clause-entered : goal.returns-in-Ok-clause-entered
returns-in-Ok-clause-entered c =
    subst (λ (p : TokenId). Becomes p (Some c.args.pipe) c.args.flows.now c.enter.new.self) c.next_token-producer.ensures c.in_ok-enter.ensures.ok

pub returns-in-Err-clause-left : goal.returns-in-Err-clause-left
returns-in-Err-clause-left c =
    taken_back c.next_token-producer.result c.args.pipe c.args.flows.now c.enter.new.self c.remove.new.self
    (ap (λ (p : TokenId). line_of c.args.flows.now p) c.next_token-producer.ensures ∙ c.requires.fresh) c.in_ok-enter.ensures.ok c.remove.ensures
