-- The data pipes of a legal history are small, where all that it asks is.
use Rattle.std.proofs.Common.{◌≡◌, ℕ, Bool, true, false, List, [], ◌∷◌, length, take, ap, subst, arith}
use Rattle.std.specs.Prelude.{Option, Some, if◌then◌else◌, ◌||◌}
use Rattle.handle_table.specs.declared.thing.Thing.TheVariants.{Token}
use Rattle.handle_table.specs.declared.thing.TokenId.{TokenId}
use Rattle.handle_table.specs.Things.{same_token}
use Rattle.wire_model.specs.Trees.{Tree}
use Rattle.wire_model.specs.declared.target.Target.{Target}
use Rattle.bind_model.specs.Data.{DataPipe, drained, filled, fills, pipe_by, pipe_of}
use Rattle.bind_model.specs.Replies.{legal}
use Rattle.bind_model.specs.Wire.{Wire}
use Rattle.bind_model.specs.declared.asked.Asked.{Asked}
use Rattle.bind_model.specs.declared.asked.Asked.TheVariants.{Data, Flow as Move}
use Rattle.bind_model.specs.declared.event.Event.{Event}
use Rattle.bind_model.specs.declared.flow.Flow.TheVariants as flows
use Rattle.bind_model.specs.declared.flow.Flowed.TheVariants as flowed
use Rattle.bind_model.specs.declared.told.Told.{Told}
use Rattle.bind_model.specs.declared.told.Told.TheVariants.{Made, Flowed}
use Rattle.bind_model.proofs.DataLemmas.{Flowing, data_kept, held_is}
use Rattle.history_reader.specs.Printable.{AreAll, AreBytes, IsSmall}
use Rattle.printed_histories.specs.Asked.{IsSmallAsked}
use Rattle.printed_histories.proofs.SmallLists.{all_both, all_dropped, all_taken}
use Rattle.printed_histories.proofs.SmallMoves.{IsByte, IsSmallPipe}
use Rattle.printed_histories.proofs.SmallSaid.{IsSmallEvent}

-- the first bytes, or none
some_bytes : (b : Bool) (n : ℕ) (bytes : List ℕ) → AreBytes bytes → AreBytes (if b then take n bytes else [])
some_bytes true n bytes are = all_taken IsByte n bytes are
some_bytes false n bytes are = tt

module _ (F : Target → Tree → Type 0) where
  -- ## What goes in is bytes

  fills_small : (told : Told) (asked : Asked) (t : TokenId) → IsSmallAsked F asked → AreBytes (fills told asked t)
  fills_small (Flowed u (flowed.Put n)) (Move x (flows.Put bytes all)) t i = some_bytes (same_token u t) n bytes i.1
  fills_small (Flowed u (flowed.Put n)) (Move x (flows.EndPut bytes)) t i = some_bytes (same_token u t) n bytes i.1
  fills_small told asked t i = tt

  filled_small : (past : List Event) → AreAll (IsSmallEvent F) past → (t : TokenId) → AreBytes (filled past t)
  filled_small [] a t = tt
  filled_small (event ∷ past) a t =
      all_both IsByte (filled past t) (fills event.told event.asked t) (filled_small past a.1 t) (fills_small event.told event.asked t a.0.1)

  -- ## How much a data pipe may hold

  capacity_by : (told : Told) (asked : Asked) (t : TokenId) (before : Option DataPipe) → IsSmallAsked F asked
      → ((d : DataPipe) → before ≡ Some d → IsSmall d.capacity) → (d : DataPipe) → pipe_by told asked t before ≡ Some d → IsSmall d.capacity
  capacity_by (Made (Token p ∷ Token c ∷ [])) (Data size) t before i rest d e = go (same_token p t || same_token c t) e
    where
      go : (b : Bool) → (if b then Some (record { capacity = size; producer = p; consumer = c }) else before) ≡ Some d → IsSmall d.capacity
      go true e =
          let same : record { capacity = size; producer = p; consumer = c } ≡ d = cc in subst (λ (x : DataPipe). IsSmall x.capacity) same i
      go false e = rest d e
  capacity_by told asked t before i rest d e = rest d e

  capacity_small : (past : List Event) → AreAll (IsSmallEvent F) past → (t : TokenId) (d : DataPipe) → pipe_of past t ≡ Some d → IsSmall d.capacity
  capacity_small [] a t d e = absurd cc
  capacity_small (event ∷ past) a t d e =
      capacity_by event.told event.asked t (pipe_of past t) a.0.1 (capacity_small past a.1 t) d e

  -- ## All of it

  pub small_pipes : (wire : Wire) (seqs : ℕ) (past : List Event) → legal wire seqs past → AreAll (IsSmallEvent F) past → (t : TokenId) (d : DataPipe)
      → pipe_of past t ≡ Some d → IsSmallPipe past d
  small_pipes wire seqs past h a t d e =
      let f : Flowing past d = (data_kept wire seqs past h).flowing t d e in
      let room = f.room in
      record {
        capacity = capacity_small past a t d e;
        held = omega (arith, room, ap length (held_is past d f));
        space = omega (arith, room);
        bytes = all_dropped IsByte (length (drained past d.consumer)) (filled past d.producer) (filled_small past a d.producer);
      }
