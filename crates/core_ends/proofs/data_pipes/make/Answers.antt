use Rattle.std.proofs.Common.{Some, refl, subst}
use Rattle.data_pipe.specs.Pipe.{Pipe}
use Rattle.data_pipe.specs.Table.{Becomes}
use Rattle.core_ends.specs.steps.Tokens.{next_token}
use Rattle.core_ends.proofs.Made.{few_made, few_tokens}
use Rattle.core_ends.proofs.Staying.{two_of}
use Rattle.core_ends.proofs.Twins.{data_done, fresh_line, made_right, unmade}
use Rattle.core_ends.proofs.data_pipes.make.Goals as goal

pub tokens-requires-clause-few : goal.tokens-requires-clause-few
tokens-requires-clause-few c = few_made c.args.state.now c.args.seq c.requires.able

pub tokens-requires-clause-count : goal.tokens-requires-clause-count
tokens-requires-clause-count c = few_tokens c.args.state.now c.args.seq c.requires.able c.args.seq.0

pub tokens-requires-clause-fresh : goal.tokens-requires-clause-fresh
tokens-requires-clause-fresh c = fresh_line c.args.state.now c.args.seq c.requires.able

pub returns-in-Ok-clause-done : goal.returns-in-Ok-clause-done
returns-in-Ok-clause-done c =
    let right = made_right c.args.size c.args.pipe c.requires.pipe in
    data_done c.args.state.now _ c.args.seq c.requires.able refl refl refl refl refl c.args.size c.in-Ok.two.0 c.in-Ok.two.1 c.in-Ok.ensures.made right.1
    (subst (λ (p : Pipe). Becomes (next_token c.args.state.now.pipes c.args.seq.0) (Some p) c.args.state.now.tables.flows c.tokens.new.flows) right.0
    c.in-Ok.ensures.entered)
    c.from_vec-in-Ok.result c.from_vec.result
    (two_of c.in_ok-things.things.items c.push_reserved.new.self.items c.push_reserved-in-Ok.new.self.items c.from_vec.result
    c.thing.result c.thing-in-Ok.result c.in-Ok.two.0 c.in-Ok.two.1 c.in_ok-things.ensures.items c.push_reserved.ensures.items
    c.push_reserved-in-Ok.ensures.items c.from_vec.ensures c.thing.ensures c.thing-in-Ok.ensures)
    (two_of c.in_ok-handles.handles.items c.push_reserved-in-Ok-2.new.self.items c.push_reserved-in-Ok-3.new.self.items c.from_vec-in-Ok.result
    c.in-Ok.two.0 c.in-Ok.two.1 c.in-Ok.two.0 c.in-Ok.two.1 c.in_ok-handles.ensures.items c.push_reserved-in-Ok-2.ensures.items
    c.push_reserved-in-Ok-3.ensures.items c.from_vec-in-Ok.ensures refl refl)
    c.push_reserved-in-Ok-4.ensures.events

pub returns-in-Err-clause-undone : goal.returns-in-Err-clause-undone
returns-in-Err-clause-undone c =
    unmade c.args.state.now c.tokens.new.pipes c.tokens.new.flows c.requires.able.holds c.in-Err.ensures.unmade c.in-Err.ensures.left
