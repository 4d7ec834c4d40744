use Rattle.std.proofs.Common.{◌≡◌, [], ◌∷◌, ◌++◌, refl, ap, ◌∙◌}
use Rattle.mj_base.specs.declared.ids.EndId.{EndId}
use Rattle.handle_table.specs.declared.thing.Thing.{Thing}
use Rattle.bind_model.specs.Plain.{end_written}
use Rattle.bind_model.specs.declared.asked.Asked.TheVariants as asks
use Rattle.bind_model.specs.declared.told.Told.TheVariants as tells
use Rattle.core_sending.proofs.RawWays.{raw_done, room, there}
use Rattle.core_sending.proofs.raw.write.Goals as goal

pub put_message-requires-clause-there : goal.put_message-requires-clause-there
put_message-requires-clause-there c = there c.args.state.now c.args.seq c.args.raw c.requires.can c.args.peer c.requires.free

pub put_message-requires-clause-room : goal.put_message-requires-clause-room
put_message-requires-clause-room c = room c.args.state.now c.args.seq c.args.raw c.requires.can c.args.peer c.requires.free

pub returns-clause-done : goal.returns-clause-done
returns-clause-done c =
    let s = c.args.state.now in
    let r = c.args.raw in
    let noted : c.end_written.result ≡ end_written r.handle = c.end_written.ensures ∙ ap (λ (z : Thing). end_written z) c.thing-thing.ensures in
    raw_done s c.args.seq r c.requires.can c.args.peer c.requires.free _ c.args.things c.in-Ok.message c.put_message.new.pipes refl refl refl refl refl
    c.requires.same c.in-Ok.ensures c.in-Ok-put_message.ensures.ok c.put_all.ensures
    (c.push_reserved.ensures.events
    ∙ (ap (λ (z : Thing).
    s.log.events ++ record { seq = c.args.seq; asked = asks.Raw z r.bytes c.args.things; told = tells.Wrote c.end_written.result } ∷ [])
    c.thing-thing.ensures
    ∙ ap (λ (x : EndId). s.log.events ++ record { seq = c.args.seq; asked = asks.Raw r.handle r.bytes c.args.things; told = tells.Wrote x } ∷ []) noted))
