use Rattle.std.proofs.Common.{[], ◌∷◌, ◌++◌, None, refl, sym, ap, ◌∙◌, subst, List}
use Rattle.handle_table.specs.Places.{place_of}
use Rattle.handle_table.specs.declared.thing.Thing.{Thing}
use Rattle.message_pipe.specs.Contents.{Closes}
use Rattle.message_pipe.specs.Ends.{carried_in, spread}
use Rattle.bind_model.specs.declared.asked.Asked.TheVariants.{Close}
use Rattle.bind_model.specs.declared.asked.Closing.TheVariants.{Handle}
use Rattle.bind_model.specs.declared.event.Event.{Event}
use Rattle.bind_model.specs.declared.told.Told.TheVariants.{Closed}
use Rattle.core_state.specs.Agreement.{is_out}
use Rattle.core_ends.proofs.Doing.{handle_done}
use Rattle.core_ends.proofs.close.close_handle.Goals as goal

pub returns-clause-done : goal.returns-clause-done
returns-clause-done c =
    let state = c.args.state.now in
    let goes = c.in-Ok.goes in
    let event : Thing → Event = λ z. record { seq = c.args.seq; asked = Close (Handle z); told = Closed goes.noted } in
    handle_done state _ c.args.seq c.requires.able refl refl refl refl goes.noted goes.told c.in-Ok.ensures.told c.args.handle c.put.new.self
    (ap (λ (z : Thing). is_out (place_of state.pipes.table z)) (sym c.thing-thing.ensures) ∙ (sym c.is_out.ensures ∙ c.if-not-is_out.false))
    (c.in-Ok.ensures.noted ∙ ap (λ (z : Thing). spread (carried_in state.pipes.ends None) state.pipes.made (z ∷ [])) c.thing-thing.ensures)
    refl
    (c.push_reserved.ensures.events ∙ ap (λ (z : Thing). state.log.events ++ event z ∷ []) c.thing-thing.ensures)
    c.put.ensures
    (subst (λ (things : List Thing). Closes things c.put.new.self c.close.new.self) c.as_slice.ensures c.close.ensures)
