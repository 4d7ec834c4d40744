-- What an event is about is what its command names, for every command that can be asked.
use Rattle.std.proofs.Common.{◌≡◌, ℕ, true, false, List, [], ◌∷◌, refl, subst}
use Rattle.std.specs.Prelude.{Option, Some, None, ◌&&◌, nat_le, nat_lt, not, is_some, length}
use Rattle.mj_base.specs.declared.ids.EndId.{EndId}
use Rattle.mj_base.specs.declared.ids.SeqId.{SeqId}
use Rattle.handle_table.specs.Things.{has}
use Rattle.handle_table.specs.declared.thing.Thing.{Thing}
use Rattle.handle_table.specs.declared.thing.Thing.TheVariants.{End, Token}
use Rattle.wire_encoder.specs.declared.endpoint.EndpointSide.{EndpointSide}
use Rattle.bind_model.specs.declared.asked.Asked.{Asked}
use Rattle.bind_model.specs.declared.asked.Asked.TheVariants.{Answer, Associate, Attach, Bind, Call, Close, Join, Mint, Pipe, Raw, Skip, Take, Notify}
use Rattle.bind_model.specs.declared.asked.Asked.TheVariants.{Pause, Data, Flow}
use Rattle.bind_model.specs.declared.asked.Closing.TheVariants as closings
use Rattle.bind_model.specs.declared.event.Event.{Event}
use Rattle.bind_model.specs.declared.limits.TheConstants.{MAX_RAW_BYTES, MAX_RAW_HANDLES}
use Rattle.bind_model.specs.declared.told.Told.{Told}
use Rattle.bind_model.specs.declared.told.Told.TheVariants.{Associated, No, Wrote}
use Rattle.bind_model.specs.declared.told.Why.{Why}
use Rattle.bind_model.specs.declared.told.Why.TheVariants.{Disconnected, NoName, TooLong, TooManyHandles}
use Rattle.bind_model.specs.Machine.{endpoint_at, is_gone, out}
use Rattle.bind_model.specs.Replies.{all_out, answer, bound_as, cannot_write, first_of, next_id, unless, wrote_at}
use Rattle.bind_model.specs.Wire.{Wire}
use Rattle.bind_core.specs.steps.Watching.{is_near}
use Rattle.bind_core.proofs.Untouched.{about, associated_end, bound_end, written_end}

-- the end that a command names
abbrev pub end_asked : Asked → Option EndId
end_asked (Bind (End x) side interface) = Some x
end_asked (Associate x side interface) = Some x
end_asked (Attach p t) = Some p.end
end_asked (Call x id s) = Some x
end_asked (Answer r s) = Some r.end
end_asked (Raw (End x) bytes handles) = Some x
end_asked (Take x) = Some x
end_asked (Notify x notice) = Some x
end_asked (Close (closings.Endpoint x id)) = Some x
end_asked (Close (closings.Pending p)) = Some p.end
end_asked asked = None

module _ (past : List Event) (y : EndId) (f : Told → Option EndId) (none : (why : Why) → f (No why) ≡ None) where
  -- a refusal is about no end
  first_near : (tests : List (Option Why)) (done : Told) → is_near past (f (first_of tests done)) y ≡ true → is_near past (f done) y ≡ true
  first_near [] done h = h
  first_near (None ∷ tests) done h = first_near tests done h
  first_near (Some why ∷ tests) done h = absurd (
      let t : is_near past None y ≡ true = subst (λ (o : Option EndId). is_near past o y ≡ true) (none why) h in
      cc)

module _ (wire : Wire) (seqs : ℕ) (past : List Event) (seq : SeqId) (y : EndId) where
  bound_near : (z : Thing) (side : EndpointSide) (interface : ℕ)
      → is_near past (bound_end (bound_as z)) y ≡ true → is_near past (end_asked (Bind z side interface)) y ≡ true
  bound_near (End x) side interface h = h
  bound_near (Token t) side interface h = absurd cc

  wrote_near : (z : Thing) (bytes : List ℕ) (handles : List Thing) → is_near past (written_end (wrote_at wire past z bytes handles)) y ≡ true
      → is_near past (end_asked (Raw z bytes handles)) y ≡ true
  wrote_near (End x) bytes handles h = first_near past y written_end (λ why. refl)
      (unless (nat_le (length bytes) MAX_RAW_BYTES) TooLong ∷ unless (nat_le (length handles) MAX_RAW_HANDLES) TooManyHandles
      ∷ cannot_write wire past x false handles) (Wrote x) h
  wrote_near (Token t) bytes handles h = absurd cc

  pub near_asked : (asked : Asked) (told : Told) → told ≡ answer wire seqs past seq asked → is_near past (about asked told) y ≡ true
      → is_near past (end_asked asked) y ≡ true
  near_asked (Bind z side interface) told e h = bound_near z side interface (first_near past y bound_end (λ why. refl)
      (unless (has (out past) z && nat_lt interface wire.interfaces) NoName ∷ []) (bound_as z)
      (subst (λ (t : Told). is_near past (bound_end t) y ≡ true) e h))
  near_asked (Associate x side interface) told e h = first_near past y associated_end (λ why. refl)
      (unless (is_some (endpoint_at wire past x 0) && nat_lt interface wire.interfaces) NoName ∷ unless (not (is_gone past x)) Disconnected ∷ [])
      (Associated (record { end = x; id = next_id wire past x })) (subst (λ (t : Told). is_near past (associated_end t) y ≡ true) e h)
  near_asked (Raw z bytes handles) told e h = wrote_near z bytes handles (first_near past y written_end (λ why. refl)
      (unless (all_out past (z ∷ handles)) NoName ∷ []) (wrote_at wire past z bytes handles)
      (subst (λ (t : Told). is_near past (written_end t) y ≡ true) e h))
  near_asked Pipe told e h = h
  near_asked (Join other) told e h = h
  near_asked (Mint sort) told e h = h
  near_asked (Attach p t) told e h = h
  near_asked (Call x id s) told e h = h
  near_asked (Answer r s) told e h = h
  near_asked (Take x) told e h = h
  near_asked (Close (closings.Handle x)) told e h = h
  near_asked (Close (closings.Pending p)) told e h = h
  near_asked (Close (closings.Responder r)) told e h = h
  near_asked (Close (closings.Endpoint x id)) told e h = h
  near_asked (Skip line) told e h = h
  near_asked (Notify x notice) told e h = h
  near_asked (Pause b a k) told e h = h
  near_asked (Data size) told e h = h
  near_asked (Flow x f) told e h = h
