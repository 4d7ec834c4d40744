-- That a binding is done, by what its parts did.
use Rattle.std.proofs.Common.{◌≡◌, ℕ, true, [], ◌∷◌, ◌++◌, refl, sym, subst}
use Rattle.mj_base.specs.declared.ids.EndId.{EndId}
use Rattle.mj_base.specs.declared.ids.SeqId.{SeqId}
use Rattle.handle_table.specs.Things.{has}
use Rattle.handle_table.specs.declared.places.Place.TheVariants as places
use Rattle.handle_table.specs.declared.thing.Thing.{Thing}
use Rattle.handle_table.specs.declared.thing.Thing.TheVariants.{End}
use Rattle.wire_encoder.specs.declared.endpoint.EndpointSide.{EndpointSide}
use Rattle.message_pipe.specs.Contents.{Puts}
use Rattle.bind_model.specs.declared.asked.Asked.TheVariants as asks
use Rattle.bind_model.specs.declared.told.Told.TheVariants as tells
use Rattle.bind_model.specs.Machine.{out, bound_on}
use Rattle.bind_model.specs.Replies.{bound_as}
use Rattle.bind_model.proofs.Fresh.{kept}
use Rattle.endpoint_router.proofs.Undrawn.{undrawn}
use Rattle.core_state.specs.Turns.{EntersAt}
use Rattle.core_state.specs.Agreement.{past_of, schema_of, wire_in}
use Rattle.core_state.specs.Doing.{HasRoom, Done, told_to}
use Rattle.bind_model.specs.declared.commands.Command.TheVariants as commands
use Rattle.bind_model.specs.declared.commands.Reply.TheVariants as replies
use Rattle.core_state.specs.declared.state.State.{State}
use Rattle.core_state.proofs.Held.{finish}
use Rattle.core_ends.proofs.Binding.{bound_agrees}
use Rattle.core_state.proofs.Facts.{out_unbound}

module _ (old new : State) (seq : SeqId) (able : HasRoom old seq) (schema : schema_of new ≡ schema_of old) (seqs : new.seqs ≡ old.seqs)
    (unmoved : new.rights ≡ old.rights) (unnoticed : new.tables ≡ old.tables) where
  abbrev done_with : Thing → EndId → EndpointSide → ℕ → Type 0
  done_with handle x side interface = Done old new seq (commands.Bind handle side interface) (replies.Bound x)

  pub bind_done : (handle : Thing) (x : EndId) (side : EndpointSide) (interface : ℕ) → handle ≡ End x → has (out (past_of old)) (End x) ≡ true
      → told_to old seq (asks.Bind (End x) side interface) ≡ bound_as (End x)
      → EntersAt (bound_on seq side interface) x 0 old.endpoints new.endpoints
      → Puts handle places.Bound old.pipes new.pipes
      → new.log.events ≡ old.log.events ++ record { seq = seq; asked = asks.Bind (End x) side interface; told = tells.Bound x } ∷ []
      → Done old new seq (commands.Bind handle side interface) (replies.Bound x)
  bind_done handle x side interface h o t g p events =
      let k = kept (wire_in old) old.seqs (past_of old) able.holds.legal in
      let q : Puts (End x) places.Bound old.pipes new.pipes = subst (λ (z : Thing). Puts z places.Bound old.pipes new.pipes) h p in
      subst (λ (z : Thing). done_with z x side interface) (sym h)
      (finish old new seq (commands.Bind (End x) side interface) (replies.Bound x) able schema seqs unmoved unnoticed
      (record { none = refl; handed = λ wire. refl; after = λ rs. refl; gives = refl; hands = refl; halves = λ wire past. refl })
      refl events (sym t)
      (bound_agrees (wire_in old) (past_of old) k seq x side interface o
      (undrawn (wire_in old) old.seqs (past_of old) able.holds.legal x 0
      (out_unbound (wire_in old) (past_of old) k x 0 o)) old.pipes new.pipes old.endpoints new.endpoints q g able.holds.agrees) tt)
