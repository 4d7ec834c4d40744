use Rattle.std.proofs.Common.{[], ◌∷◌, ◌++◌, List, refl, ap, subst, ◌∙◌}
use Rattle.mj_base.specs.declared.ids.EndId.{EndId}
use Rattle.handle_table.specs.declared.places.Place.TheVariants as places
use Rattle.handle_table.specs.declared.thing.Thing.{Thing}
use Rattle.bind_model.specs.declared.asked.Asked.TheVariants as asks
use Rattle.bind_model.specs.declared.commands.Reply.TheVariants as replies
use Rattle.bind_model.specs.declared.told.Told.TheVariants as tells
use Rattle.core_sending.specs.declared.raw.RawBytes.{RawBytes}
use Rattle.core_sending.specs.steps.Raw.{command_of}
use Rattle.core_state.specs.Placing.{PutsAll}
use Rattle.core_sending.proofs.RawWays.{raw_done, there}
use Rattle.event_tables.specs.AsCore.{state_of}
use Rattle.event_tables.proofs.Stepping.{steps_of}
use Rattle.event_tables.proofs.raw_bytes.write.Goals as goal

pub put_message-requires : goal.put_message-requires
put_message-requires c =
    there (state_of c.args.tables.now) c.args.seq (record { handle = c.args.thing; bytes = c.args.bytes; handles = c.args.things })
    (record { able = c.requires.able; prepared = tt }) c.args.peer c.requires.free

pub returns : goal.returns
returns c =
    let s = state_of c.args.tables.now in
    let r : RawBytes = record { handle = c.args.thing; bytes = c.args.bytes; handles = c.args.things } in
    steps_of s _ c.args.seq (command_of r) (replies.Wrote c.args.thing)
    (raw_done s c.args.seq r (record { able = c.requires.able; prepared = tt }) c.args.peer c.requires.free _ c.args.things
    c.in_ok-message.message c.put_message.new.pipes refl refl refl refl refl refl c.in_ok-message.ensures c.in_ok-put_message.ensures
    (subst (λ (zs : List Thing). PutsAll zs (places.Unread c.args.peer) c.put_message.new.pipes c.put_all.new.pipes) c.as_slice.ensures c.put_all.ensures)
    (c.push_reserved.ensures.events
    ∙ ap (λ (x : EndId). s.log.events ++ record { seq = c.args.seq; asked = asks.Raw c.args.thing c.args.bytes c.args.things; told = tells.Wrote x } ∷ [])
    c.end_written.ensures))
