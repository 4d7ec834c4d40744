use Rattle.std.proofs.Common.{refl}
use Rattle.bind_model.specs.declared.commands.Command.TheVariants as commands
use Rattle.bind_model.specs.declared.commands.Reply.TheVariants as replies
use Rattle.core_ends.proofs.Made.{few_made, token_done}
use Rattle.event_tables.specs.AsCore.{state_of}
use Rattle.event_tables.proofs.Stepping.{steps_of}
use Rattle.event_tables.proofs.making.mint.Goals as goal

pub mint-requires : goal.mint-requires
mint-requires c = few_made (state_of c.args.tables.now) c.args.seq c.requires

pub returns : goal.returns
returns c =
    steps_of (state_of c.args.tables.now) _ c.args.seq (commands.Mint c.args.sort) (replies.Made c.in_ok-things.things)
    (token_done (state_of c.args.tables.now) _ c.args.seq c.requires refl refl refl refl c.args.sort c.in_ok-things.things c.in_ok-things.things
    c.in_ok-token.token refl c.push_reserved.ensures.events c.in_ok-things.ensures c.in_ok-things.ensures c.in_ok-token.ensures.ok)
