use Rattle.std.proofs.Common.{◌≡◌, ap, refl, ◌∙◌, sym}
use Rattle.std.specs.Prelude.{is_some, Ok, Option}
use Rattle.std.proofs.lemmas.Result.{on_ok_weaker}
use Rattle.mj_base.specs.declared.ids.SeqId.{SeqId}
use Rattle.handle_table.specs.declared.thing.Thing.{Thing}
use Rattle.data_pipe.specs.Moving.{told, IsRefused}
use Rattle.data_pipe.specs.Pipe.{Pipe}
use Rattle.data_pipe.specs.Table.{pipe_at}
use Rattle.data_pipe.specs.declared.refused.DataRefused.{DataRefused}
use Rattle.data_pipe.specs.declared.refused.DataRefused.TheVariants.{No, Memory}
use Rattle.bind_model.specs.declared.asked.Asked.TheVariants as asks
use Rattle.bind_model.specs.declared.commands.Command.TheVariants as commands
use Rattle.bind_model.specs.declared.commands.Reply.TheVariants as replies
use Rattle.bind_model.specs.declared.flow.Flow.{Flow}
use Rattle.core_state.specs.Doing.{HasRoom}
use Rattle.core_state.specs.declared.state.State.{State}
use Rattle.core_data.specs.Spots.{spot_in}
use Rattle.core_data.specs.declared.spot.Spot.{Spot}
use Rattle.core_data.proofs.Flowing.{bytes_told, flow_done, flow_refused, line_there}
use Rattle.core_data.proofs.Staying.{can_still}
use Rattle.event_tables.specs.AsCore.{state_of}
use Rattle.event_tables.specs.steps.Moving.{SaysWhy}
use Rattle.event_tables.proofs.Stepping.{steps_from, steps_of}
use Rattle.event_tables.proofs.moving.move_at.Goals as goal

pub told_bytes-requires : goal.told_bytes-requires
told_bytes-requires c =
    ap (λ (o : Option Pipe). is_some o)
    (line_there (state_of c.args.tables.now) c.args.seq c.requires.able c.args.thing c.args.flow c.args.at c.requires.there)

pub flow-requires : goal.flow-requires
flow-requires c =
    ap (λ (o : Option Pipe). is_some o)
    (line_there (state_of c.args.tables.now) c.args.seq c.requires.able c.args.thing c.args.flow c.args.at c.requires.there)

pub returns-in-Ok : goal.returns-in-Ok
returns-in-Ok c =
    let s = state_of c.args.tables.now in
    steps_of s _ c.args.seq (commands.Flow c.args.thing c.args.flow) (replies.Flowed c.args.thing c.in-Ok.flowed)
    (flow_done s c.args.seq c.requires.able c.args.thing c.args.flow c.args.at c.requires.there
    _ c.in-Ok.flowed refl refl refl refl refl refl c.in-Ok.ensures.ok
    c.with_bytes.result
    (c.with_bytes.ensures ∙ (rw c.in_ok-bytes.ensures (bytes_told _ c.args.at.gone c.args.flow c.in-Ok.flowed c.in-Ok.ensures.ok.0)))
    c.push_reserved.ensures.events)

-- where a data pipe refuses for a reason, that is what the history tells
says_why : (s : State) (seq : SeqId) (able : HasRoom s seq) (thing : Thing) (flow : Flow) (at : Spot) (there : spot_in s thing flow ≡ Ok at)
    (refused : DataRefused) → IsRefused (told (pipe_at s.tables.flows at.producer) at.gone flow) refused → SaysWhy s seq thing flow at.token refused
says_why s seq able thing flow at there (No why) e = flow_refused s seq able thing flow at there why e
says_why s seq able thing flow at there Memory e = tt

-- where it is refused, all lines stay, and so there is room as before
pub unmoved-requires-clause-able : goal.unmoved-requires-clause-able
unmoved-requires-clause-able c =
    (can_still (state_of c.args.tables.now) c.flow.new.self c.in-Err.ensures.err.1 c.args.seq (commands.Flow c.args.thing c.args.flow)
    (record { able = c.requires.able; prepared = tt })).able

pub unmoved-requires-clause-why : goal.unmoved-requires-clause-why
unmoved-requires-clause-why c =
    says_why (state_of c.args.tables.now) c.args.seq c.requires.able c.args.thing c.args.flow c.args.at c.requires.there c.in-Err.refused
    c.in-Err.ensures.err.0

pub returns-in-Err : goal.returns-in-Err
returns-in-Err c =
    on_ok_weaker c.unmoved.result
    (steps_from (state_of c.args.tables.now) c.flow.new.self (state_of c.unmoved.new.tables) c.args.seq (asks.Flow c.args.thing c.args.flow))
    c.unmoved.ensures
