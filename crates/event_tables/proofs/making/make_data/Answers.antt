use Rattle.std.proofs.Common.{◌<◌, ◌≤◌, Some, arith, refl, subst}
use Rattle.handle_table.specs.Places.{tokens_made}
use Rattle.handle_table.specs.declared.thing.TokenId.{TokenId}
use Rattle.data_pipe.specs.Pipe.{Pipe, empty_pipe}
use Rattle.data_pipe.specs.Table.{Becomes}
use Rattle.bind_model.specs.declared.commands.Command.TheVariants as commands
use Rattle.bind_model.specs.declared.commands.Reply.TheVariants as replies
use Rattle.core_ends.proofs.Made.{few_made, few_tokens}
use Rattle.core_ends.proofs.Twins.{data_done, made_right}
use Rattle.event_tables.specs.AsCore.{state_of}
use Rattle.event_tables.proofs.Stepping.{steps_of}
use Rattle.event_tables.proofs.making.make_data.Goals as goal

pub next_token-producer-requires : goal.next_token-producer-requires
next_token-producer-requires c =
    let s = state_of c.args.tables.now in
    let few : c.args.tables.now.pipes.made < 4294967294 = few_made s c.args.seq c.requires.able in
    let count : tokens_made c.args.tables.now.pipes.table c.args.seq.0 ≤ c.args.tables.now.pipes.made =
    few_tokens s c.args.seq c.requires.able c.args.seq.0 in
    omega (arith, few, count)

pub mint_two-requires : goal.mint_two-requires
mint_two-requires c = few_made (state_of c.args.tables.now) c.args.seq c.requires.able

pub returns : goal.returns
returns c =
    let s = state_of c.args.tables.now in
    let right = made_right c.args.size c.args.pipe c.requires.pipe in
    let made = c.in_ok-things.things in
    let two = c.in_ok-two.two in
    steps_of s _ c.args.seq (commands.Data c.args.size) (replies.Made made)
    (data_done s _ c.args.seq c.requires.able refl refl refl refl refl c.args.size two.0 two.1 c.in_ok-two.ensures.ok right.1
    (subst (λ (t : TokenId). Becomes t (Some (empty_pipe c.args.size)) s.tables.flows c.enter.new.self) c.next_token-producer.ensures
    (subst (λ (p : Pipe). Becomes c.next_token-producer.result (Some p) s.tables.flows c.enter.new.self) right.0 c.in_ok-enter.ensures.ok))
    made made c.in_ok-things.ensures c.in_ok-things.ensures c.push_reserved.ensures.events)
