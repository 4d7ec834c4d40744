-- The reply to what is asked of a data pipe has numbers of their widths and bytes, where the data pipe has.
use Rattle.std.proofs.Common.{◌≡◌, ◌<◌, ◌≤◌, ℕ, Bool, true, false, List, [], ◌∷◌, length, take, refl, ap, arith}
use Rattle.std.specs.Prelude.{Option, Some, None, if◌then◌else◌, not, ◌||◌, ◌==◌, nat_le, nat_lt}
use Rattle.std.proofs.lemmas.Bool.{leb-true}
use Rattle.std.proofs.lemmas.Bool.Decides.{nat_tests}
use Rattle.handle_table.specs.declared.thing.Thing.{Thing}
use Rattle.handle_table.specs.declared.thing.Thing.TheVariants.{End, Token}
use Rattle.handle_table.specs.declared.thing.TokenId.{TokenId}
use Rattle.handle_table.specs.Things.{has, same_token}
use Rattle.handle_table.proofs.ThingsLemmas.{same_token-true}
use Rattle.bind_model.specs.Data.{Begun, DataPipe, begun, data_free, data_held, is_busy, pipe_of}
use Rattle.bind_model.specs.Machine.{gone}
use Rattle.bind_model.specs.Moves.{begun_already, least_of, moved, moved_at, moved_by, nothing_begun, nothing_held, space_in, view_in}
use Rattle.bind_model.specs.Tests.{is_none, unless}
use Rattle.bind_model.specs.declared.event.Event.{Event}
use Rattle.bind_model.specs.declared.flow.Flow.{Flow}
use Rattle.bind_model.specs.declared.flow.Flow.TheVariants as flows
use Rattle.bind_model.specs.declared.flow.Flowed.TheVariants as flowed
use Rattle.bind_model.specs.declared.told.Told.TheVariants.{Flowed}
use Rattle.bind_model.specs.declared.told.Why.TheVariants.{Busy, Disconnected, Empty, Full, Idle, NotData, PeerClosed, Short, TooLong}
use Rattle.bind_model.proofs.Outcomes.{held}
use Rattle.history_reader.specs.Printable.{AreBytes, IsFlow, IsSmall, IsThing, IsToken}
use Rattle.printed_histories.proofs.SmallLists.{all_taken}
use Rattle.printed_histories.proofs.SmallSaid.{IsSmallTold}
use Rattle.printed_histories.proofs.SmallTests.{IsSmallTest, first_small, unless_small}

-- a byte
abbrev pub IsByte : ℕ → Type 0
IsByte b = b < 256

-- a data pipe of bytes, which holds no more than it may, so that numbers of 32 bits say how many
pub record IsSmallPipe (past : List Event) (d : DataPipe) : Type 0 where
  pub capacity : IsSmall d.capacity
  pub held : length (data_held past d) ≤ d.capacity
  pub space : space_in (begun past d.producer) ≤ d.capacity
  pub bytes : AreBytes (data_held past d)

least_below : (a b : ℕ) → least_of a b ≤ b
least_below a b = go (nat_le a b) refl
  where
    go : (c : Bool) → nat_le a b ≡ c → (if c then a else b) ≤ b
    go true e = grind (arith, nat_tests)
    go false e = omega arith

module _ (past : List Event) where
  already_small : (t : TokenId) → IsToken t → (b : Begun) → IsSmallTest (begun_already t b)
  already_small t i b = go (is_busy b)
    where
      go : (x : Bool) → IsSmallTest (if x then Some (Busy t) else None)
      go true = i
      go false = tt

  idle_small : (b : Begun) → IsSmallTest (nothing_begun b)
  idle_small b = go (is_busy b)
    where
      go : (x : Bool) → IsSmallTest (if x then None else Some Idle)
      go true = tt
      go false = tt

  nothing_small : (d : DataPipe) → IsSmallTest (nothing_held past d)
  nothing_small d = go (is_none (data_held past d)) (has (gone past) (Token d.producer))
    where
      go : (none lost : Bool) → IsSmallTest (if none then (if lost then Some PeerClosed else Some Empty) else None)
      go true true = tt
      go true false = tt
      go false lost = tt

  unless_none : (b : Bool) (d : DataPipe) → IsSmallTest (if b then None else nothing_held past d)
  unless_none true d = tt
  unless_none false d = nothing_small d

  module _ (t : TokenId) (d : DataPipe) (s : IsSmallPipe past d) (i : IsToken t) where
    free_small : IsSmall (data_free past d)
    free_small = let most = s.capacity in omega (arith, most)

    held_small : IsSmall (length (data_held past d))
    held_small = let most = s.capacity in let few = s.held in omega (arith, most, few)

    -- what is put in where it lies is no more than the space that was told
    ended_small : (n : ℕ) → same_token d.producer t ≡ true → nat_le n (space_in (begun past t)) ≡ true → IsSmall n
    ended_small n same fits =
        let most = s.capacity in
        let room = s.space in
        let few : n ≤ space_in (begun past t) = leb-true n (space_in (begun past t)) fits in
        let own : space_in (begun past d.producer) ≡ space_in (begun past t) =
        ap (λ (x : TokenId). space_in (begun past x)) (same_token-true d.producer t same) in
        omega (arith, most, room, few, own)

    moved_small : (f : Flow) → IsFlow f → IsSmallTold (moved past t d f)
    moved_small (flows.Put bytes all) j = first_small (
        unless (same_token d.producer t) NotData
        ∷ begun_already t (begun past t)
        ∷ unless (not (has (gone past) (Token d.consumer))) Disconnected
        ∷ unless (is_none bytes || nat_lt 0 (data_free past d)) Full
        ∷ unless (not all || nat_le (length bytes) (data_free past d)) (Short (data_free past d))
        ∷ [])
        (Flowed t (flowed.Put (least_of (length bytes) (data_free past d)))) (
          unless_small (same_token d.producer t) NotData tt,
          (
            already_small t i (begun past t),
            (
              unless_small (not (has (gone past) (Token d.consumer))) Disconnected tt,
              (
                unless_small (is_none bytes || nat_lt 0 (data_free past d)) Full tt,
                (unless_small (not all || nat_le (length bytes) (data_free past d)) (Short (data_free past d)) free_small, tt),
              ),
            ),
          ),
        )
        (λ p. (i, omega (arith, free_small, least_below (length bytes) (data_free past d))))
    moved_small (flows.Get n all) j = first_small (
        unless (same_token d.consumer t) NotData
        ∷ begun_already t (begun past t)
        ∷ (if n == 0 then None else nothing_held past d)
        ∷ unless (not all || nat_le n (length (data_held past d))) (Short (length (data_held past d)))
        ∷ [])
        (Flowed t (flowed.Bytes (take n (data_held past d)))) (
          unless_small (same_token d.consumer t) NotData tt,
          (
            already_small t i (begun past t),
            (
              unless_none (n == 0) d,
              (unless_small (not all || nat_le n (length (data_held past d))) (Short (length (data_held past d))) held_small, tt),
            ),
          ),
        )
        (λ p. (i, all_taken IsByte n (data_held past d) s.bytes))
    moved_small flows.BeginPut j = first_small (
        unless (same_token d.producer t) NotData
        ∷ begun_already t (begun past t)
        ∷ unless (not (has (gone past) (Token d.consumer))) Disconnected
        ∷ unless (nat_lt 0 (data_free past d)) Full
        ∷ [])
        (Flowed t (flowed.Space (data_free past d))) (
          unless_small (same_token d.producer t) NotData tt,
          (
            already_small t i (begun past t),
            (
              unless_small (not (has (gone past) (Token d.consumer))) Disconnected tt,
              (unless_small (nat_lt 0 (data_free past d)) Full tt, tt),
            ),
          ),
        )
        (λ p. (i, free_small))
    moved_small (flows.EndPut bytes) j = first_small (
        unless (same_token d.producer t) NotData
        ∷ nothing_begun (begun past t)
        ∷ unless (not (has (gone past) (Token d.consumer))) Disconnected
        ∷ unless (nat_le (length bytes) (space_in (begun past t))) TooLong
        ∷ [])
        (Flowed t (flowed.Put (length bytes))) (
          unless_small (same_token d.producer t) NotData tt,
          (
            idle_small (begun past t),
            (
              unless_small (not (has (gone past) (Token d.consumer))) Disconnected tt,
              (unless_small (nat_le (length bytes) (space_in (begun past t))) TooLong tt, tt),
            ),
          ),
        )
        (λ p. (
          i,
          ended_small (length bytes) (held (same_token d.producer t) NotData p.0)
              (held (nat_le (length bytes) (space_in (begun past t))) TooLong p.1.1.1.0),
        ))
    moved_small flows.BeginGet j = first_small (
        unless (same_token d.consumer t) NotData
        ∷ begun_already t (begun past t)
        ∷ nothing_held past d
        ∷ [])
        (Flowed t (flowed.View (data_held past d))) (
          unless_small (same_token d.consumer t) NotData tt,
          (already_small t i (begun past t), (nothing_small d, tt)),
        )
        (λ p. (i, s.bytes))
    moved_small (flows.EndGet n) j = first_small (
        unless (same_token d.consumer t) NotData
        ∷ nothing_begun (begun past t)
        ∷ unless (nat_le n (view_in (begun past t))) TooLong
        ∷ [])
        (Flowed t flowed.Ended) (
          unless_small (same_token d.consumer t) NotData tt,
          (idle_small (begun past t), (unless_small (nat_le n (view_in (begun past t))) TooLong tt, tt)),
        )
        (λ p. (i, tt))

  -- at a handle, which may be of no data pipe
  pub moved_by_small : ((t : TokenId) (d : DataPipe) → pipe_of past t ≡ Some d → IsSmallPipe past d) → (x : Thing) (f : Flow) → IsThing x → IsFlow f
      → IsSmallTold (moved_by past x f)
  moved_by_small small (End x) f i j = tt
  moved_by_small small (Token t) f i j = go (pipe_of past t) refl
    where
      go : (o : Option DataPipe) → pipe_of past t ≡ o → IsSmallTold (moved_at past t f o)
      go None e = tt
      go (Some d) e = moved_small t d (small t d e) i f j
