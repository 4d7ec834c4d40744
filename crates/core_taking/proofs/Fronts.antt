-- What a legal take says of the message that it consumed, and of its handles.
use Rattle.bind_model.specs.declared.told.Noted.{Noted}
use Rattle.std.proofs.Common.{◌≡◌, ◌≤◌, ◌<◌, ℕ, ◌+◌, true, false, List, [], ◌∷◌, drop, refl, ap, ◌∙◌, arith}
use Rattle.std.specs.Prelude.{if◌then◌else◌, is_some, IsSome, Option, Some, None}
use Rattle.mj_base.specs.declared.ids.EndId.{EndId}
use Rattle.mj_base.specs.declared.ids.SeqId.{SeqId}
use Rattle.handle_table.specs.Things.{has, same, same_end, times, without, is_distinct}
use Rattle.handle_table.specs.Places.{place_of, is_kept}
use Rattle.handle_table.specs.declared.places.Place.{Place}
use Rattle.handle_table.specs.declared.places.Place.TheVariants as places
use Rattle.handle_table.specs.declared.thing.Thing.{Thing}
use Rattle.handle_table.specs.declared.thing.Thing.TheVariants.{End, Token}
use Rattle.handle_table.proofs.ThingsLemmas.{same-refl}
use Rattle.message_pipe.specs.Contents.{Contents, Closes}
use Rattle.message_pipe.specs.Ends.{end_of, unread_of, carried_in, spread}
use Rattle.message_pipe.specs.Mail.{handles_of}
use Rattle.message_pipe.specs.declared.message.Message.{Message}
use Rattle.message_pipe.specs.declared.pipe_end.PipeEnd.{PipeEnd}
use Rattle.bind_model.specs.declared.asked.Asked.TheVariants.{Take}
use Rattle.bind_model.specs.declared.told.Got.{Got}
use Rattle.bind_model.specs.declared.told.Told.TheVariants.{Control, Taken, Dropped}
use Rattle.bind_model.specs.declared.event.Event.{Event}
use Rattle.bind_model.specs.Wire.{Wire}
use Rattle.bind_model.specs.Machine.{made, gone, out, unread, carried_behind, goes_behind}
use Rattle.bind_model.specs.Replies.{answer, legal}
use Rattle.bind_model.proofs.Balance.{Moves}
use Rattle.bind_model.proofs.Counting.{absent, present, times-append, times-present}
use Rattle.bind_model.proofs.Fresh.{kept}
use Rattle.bind_model.proofs.Kept.{Kept, most}
use Rattle.bind_model.proofs.Moving.{moves}
use Rattle.bind_model.proofs.Outcomes.{outcome}
use Rattle.bind_model.proofs.Responses.{all_stand}
use Rattle.core_state.specs.Routers.{Routers}
use Rattle.core_state.specs.Agreement.{Agrees, is_out, is_shut}
use Rattle.core_taking.specs.Taking.{LieThere}
use Rattle.core_state.proofs.Facts.{unread_is, spread_same}

-- where each thing stands once at most, all are distinct
distinct_times : (xs : List Thing) → ((z : Thing) → times z xs ≤ 1) → is_distinct xs ≡ true
distinct_times [] few = refl
distinct_times (x ∷ xs) few =
    let one : 1 + times x xs ≤ 1 = rw same-refl at (few x) in
    let none : has xs x ≡ false = absent x xs (omega arith) in
    let rest : is_distinct xs ≡ true = distinct_times xs (λ z. let f : (if same x z then 1 else 0) + times z xs ≤ 1 = few z in omega arith) in
    rw (none, rest) refl

-- an end with a message is there
some_front : (o : Option PipeEnd) (m : Message) (ms : List Message) → unread_of o ≡ m ∷ ms → IsSome o
some_front None m ms e = cc
some_front (Some end) m ms e = refl

-- a thing that is made and neither out nor closed is kept
kept_there : (o : Option Place) → is_out o ≡ false → is_shut o ≡ false → is_some o ≡ true → is_kept o ≡ true
kept_there None e f g = cc
kept_there (Some places.Out) e f g = cc
kept_there (Some (places.Unread end)) e f g = refl
kept_there (Some places.Bound) e f g = refl
kept_there (Some places.Closed) e f g = cc

module _ (wire : Wire) (seqs : ℕ) (past : List Event) (h : legal wire seqs past) (pipes : Contents) (endpoints : Routers)
    (a : Agrees wire past pipes endpoints) where
  -- what the code finds to go behind the front is what the events say
  pub goes_is : (y : EndId) (xs : List Thing) → spread (carried_in pipes.ends (Some y)) pipes.made xs ≡ goes_behind wire past y xs
  goes_is y xs =
      ap (λ n. spread (carried_in pipes.ends (Some y)) n xs) a.made
      ∙ spread_same (carried_in pipes.ends (Some y)) (carried_behind wire past y) each _ xs
    where
      each : (z : Thing) → carried_in pipes.ends (Some y) z ≡ carried_behind wire past y z
      each (End x) = ap (λ ms. handles_of (drop (if same_end y x then 1 else 0) ms)) (unread_is wire past (kept wire seqs past h) pipes endpoints a x)
      each (Token t) = refl

  there : (y : EndId) (m : Message) (ms : List Message) → unread wire past y ≡ m ∷ ms → IsSome (end_of pipes.ends y)
  there y m ms e = some_front (end_of pipes.ends y) m ms (unread_is wire past (kept wire seqs past h) pipes endpoints a y ∙ e)

  module _ (seq : SeqId) (within : seq.0 < seqs) (y : EndId) where
    pub dropped_there : (id : ℕ) (goes : List Thing) → Dropped id goes ≡ answer wire seqs past seq (Take y) → IsSome (end_of pipes.ends y)
    dropped_there id goes told =
        let f = (all_stand wire seqs (record { seq = seq; asked = Take y; told = Dropped id goes } ∷ past) (within, told, h)).0 in
        there y f.0 f.1 f.2

    pub control_there : (c : Noted) → Control c ≡ answer wire seqs past seq (Take y) → IsSome (end_of pipes.ends y)
    control_there c told =
        let f = (all_stand wire seqs (record { seq = seq; asked = Take y; told = Control c } ∷ past) (within, told, h)).0 in
        there y f.0 f.1 f.2

    module _ (g : Got) (told : Taken g ≡ answer wire seqs past seq (Take y)) where
      abbrev got_event : Event
      got_event = record { seq = seq; asked = Take y; told = Taken g }

      pub got_there : IsSome (end_of pipes.ends y)
      got_there =
          let f = (all_stand wire seqs (got_event ∷ past) (within, told, h)).0 in
          there y f.m f.front.0 f.front.1

      k : Kept wire past
      k = kept wire seqs past h

      after : Kept wire (got_event ∷ past)
      after = kept wire seqs (got_event ∷ past) (within, told, h)

      move : Moves wire past got_event
      move = moves wire seqs past seq k (outcome wire seqs past seq (Take y) (Taken g) told)

      balance : (z : Thing) → times z move.reads + times z move.leaves ≡ times z g.handles + (times z move.sends + times z move.starts)
      balance z = omega (arith, move.balance z)

      out_now : (z : Thing) → times z (out (got_event ∷ past)) ≡ times z (without [] (out past)) + times z g.handles
      out_now z = times-append z (without [] (out past)) g.handles

      once : is_distinct g.handles ≡ true
      once = distinct_times g.handles (λ z. omega (arith, out_now z, after.one z, most wire (got_event ∷ past) after z))

      -- what is handed out was in the message
      in_message : (z : Thing) → has g.handles z ≡ true → (has (out past) z ≡ false) × (has (gone past) z ≡ false) × (has (made past) z ≡ true)
      in_message z i =
          let one : 1 ≤ times z g.handles = times-present z g.handles i in
          let b = balance z in
          let u = move.unread z in
          let l = move.bound z in
          let p = k.one z in
          let m = most wire past k z in
          (absent z (out past) (omega arith), absent z (gone past) (omega arith), present z (made past) (omega arith))

      stays : (z : Thing) → has g.handles z ≡ true → has g.gone z ≡ false
      stays z i =
          let one : 1 ≤ times z g.handles = times-present z g.handles i in
          absent z g.gone (omega (arith, out_now z, times-append z (gone past) g.gone, after.one z, most wire (got_event ∷ past) after z))

      pub lie_there : (mid shut : Contents) → mid.table ≡ pipes.table → Closes g.gone mid shut → LieThere shut g.handles
      lie_there mid shut b c = record { once = once; kept = lies }
        where
          lies : (z : Thing) → has g.handles z ≡ true → is_kept (place_of shut.table z) ≡ true
          lies z i =
              let f = in_message z i in
              let same : place_of shut.table z ≡ place_of pipes.table z = c.places z ∙ rw (stays z i, b) refl in
              rw same (kept_there (place_of pipes.table z) (a.outs z ∙ f.0) (a.shuts z ∙ f.1) (a.there z ∙ f.2))
