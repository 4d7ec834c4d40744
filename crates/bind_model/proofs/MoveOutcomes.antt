-- What is told of bytes that are moved is one of the cases.
use Rattle.std.proofs.Common.{◌≡◌, ℕ, true, List, [], ◌∷◌, length, refl, inl, inr}
use Rattle.std.specs.Prelude.{take, Option, Some, None, if◌then◌else◌, not, ◌||◌, ◌==◌, nat_le, nat_lt}
use Rattle.mj_base.specs.declared.ids.SeqId.{SeqId}
use Rattle.handle_table.specs.declared.thing.Thing.{Thing}
use Rattle.handle_table.specs.declared.thing.Thing.TheVariants.{End, Token}
use Rattle.bind_model.specs.declared.asked.Asked.{Asked}
use Rattle.bind_model.specs.declared.asked.Asked.TheVariants.{Flow as Move}
use Rattle.bind_model.specs.declared.flow.Flow.{Flow}
use Rattle.bind_model.specs.declared.flow.Flow.TheVariants as to_flow
use Rattle.bind_model.specs.declared.flow.Flowed.TheVariants as flowed
use Rattle.handle_table.specs.declared.thing.TokenId.{TokenId}
use Rattle.bind_model.specs.declared.told.Why.TheVariants.{Disconnected, TooLong, Full, NotData, Short}
use Rattle.bind_model.specs.declared.told.Told.{Told}
use Rattle.bind_model.specs.declared.told.Told.TheVariants.{Flowed}
use Rattle.bind_model.specs.declared.event.Event.{Event}
use Rattle.handle_table.specs.Things.{has, same_token}
use Rattle.bind_model.specs.Data.{DataPipe, pipe_of, Begun, Nothing, Space, View, begun, is_busy, data_held, data_free}
use Rattle.bind_model.specs.Wire.{Wire}
use Rattle.bind_model.specs.Machine.{gone, out}
use Rattle.bind_model.specs.Replies.{unless, is_none, begun_already, nothing_begun, space_in, view_in, nothing_held, least_of, moved, moved_at, moved_by}
use Rattle.bind_model.proofs.Cases.{Refused, first_cases, held, Outcome, flows, refuses}

module _ (wire : Wire) (seqs : ℕ) (past : List Event) (seq : SeqId) where
  no : {asked : Asked} {told : Told} → Refused told → Outcome wire seqs past seq asked told
  no r = rw r.1 refuses

  idle : (t : TokenId) (b : Begun) → begun_already t b ≡ None → b ≡ Nothing
  idle t Nothing h = refl
  idle t (Space n) h = absurd cc
  idle t (View bytes) h = absurd cc

  busy_then : (b : Begun) → nothing_begun b ≡ None → is_busy b ≡ true
  busy_then Nothing h = absurd cc
  busy_then (Space n) h = refl
  busy_then (View bytes) h = refl

  of_flow : (t : TokenId) (f : Flow) (told : Told) → has (out past) (Token t) ≡ true → (d : DataPipe) → pipe_of past t ≡ Some d → told ≡ moved past t d f
      → Outcome wire seqs past seq (Move (Token t) f) told
  of_flow t (to_flow.Put bytes all) told o d e h = elim (first_cases (
      unless (same_token d.producer t) NotData
      ∷ begun_already t (begun past t)
      ∷ unless (not (has (gone past) (Token d.consumer))) Disconnected
      ∷ unless (is_none bytes || nat_lt 0 (data_free past d)) Full
      ∷ unless (not all || nat_le (length bytes) (data_free past d)) (Short (data_free past d))
      ∷ [])
      (Flowed t (flowed.Put (least_of (length bytes) (data_free past d)))) told h) [
        | inl w ↦ no w
        | inr p ↦ rw p.1 (flows {f = to_flow.Put bytes all} {told = flowed.Put (least_of (length bytes) (data_free past d))} d o e
            (held (same_token d.producer t) NotData p.0.0, idle t (begun past t) p.0.1.0, refl))
      ]
  of_flow t (to_flow.Get n all) told o d e h = elim (first_cases (
      unless (same_token d.consumer t) NotData
      ∷ begun_already t (begun past t)
      ∷ (if n == 0 then None else nothing_held past d)
      ∷ unless (not all || nat_le n (length (data_held past d))) (Short (length (data_held past d)))
      ∷ [])
      (Flowed t (flowed.Bytes (take n (data_held past d)))) told h) [
        | inl w ↦ no w
        | inr p ↦ rw p.1 (flows {f = to_flow.Get n all} {told = flowed.Bytes (take n (data_held past d))} d o e
            (held (same_token d.consumer t) NotData p.0.0, idle t (begun past t) p.0.1.0, refl))
      ]
  of_flow t to_flow.BeginPut told o d e h = elim (first_cases (
      unless (same_token d.producer t) NotData
      ∷ begun_already t (begun past t)
      ∷ unless (not (has (gone past) (Token d.consumer))) Disconnected
      ∷ unless (nat_lt 0 (data_free past d)) Full
      ∷ [])
      (Flowed t (flowed.Space (data_free past d))) told h) [
        | inl w ↦ no w
        | inr p ↦ rw p.1 (flows {f = to_flow.BeginPut} {told = flowed.Space (data_free past d)} d o e
            (held (same_token d.producer t) NotData p.0.0, idle t (begun past t) p.0.1.0, refl))
      ]
  of_flow t (to_flow.EndPut bytes) told o d e h = elim (first_cases (
      unless (same_token d.producer t) NotData
      ∷ nothing_begun (begun past t)
      ∷ unless (not (has (gone past) (Token d.consumer))) Disconnected
      ∷ unless (nat_le (length bytes) (space_in (begun past t))) TooLong
      ∷ [])
      (Flowed t (flowed.Put (length bytes))) told h) [
        | inl w ↦ no w
        | inr p ↦ rw p.1 (flows {f = to_flow.EndPut bytes} {told = flowed.Put (length bytes)} d o e (
          held (same_token d.producer t) NotData p.0.0,
          busy_then (begun past t) p.0.1.0,
          refl,
          held (nat_le (length bytes) (space_in (begun past t))) TooLong p.0.1.1.1.0,
        ))
      ]
  of_flow t to_flow.BeginGet told o d e h = elim (first_cases (
      unless (same_token d.consumer t) NotData
      ∷ begun_already t (begun past t)
      ∷ nothing_held past d
      ∷ [])
      (Flowed t (flowed.View (data_held past d))) told h) [
        | inl w ↦ no w
        | inr p ↦ rw p.1 (flows {f = to_flow.BeginGet} {told = flowed.View (data_held past d)} d o e
            (held (same_token d.consumer t) NotData p.0.0, idle t (begun past t) p.0.1.0, refl))
      ]
  of_flow t (to_flow.EndGet n) told o d e h = elim (first_cases (
      unless (same_token d.consumer t) NotData
      ∷ nothing_begun (begun past t)
      ∷ unless (nat_le n (view_in (begun past t))) TooLong
      ∷ [])
      (Flowed t flowed.Ended) told h) [
        | inl w ↦ no w
        | inr p ↦ rw p.1 (flows {f = to_flow.EndGet n} {told = flowed.Ended} d o e (
          held (same_token d.consumer t) NotData p.0.0,
          busy_then (begun past t) p.0.1.0,
          held (nat_le n (view_in (begun past t))) TooLong p.0.1.1.0,
        ))
      ]

  of_token : (t : TokenId) (f : Flow) (told : Told) → has (out past) (Token t) ≡ true → (o : Option DataPipe) → pipe_of past t ≡ o
      → told ≡ moved_at past t f o → Outcome wire seqs past seq (Move (Token t) f) told
  of_token t f told out_here None e h = rw h refuses
  of_token t f told out_here (Some d) e h = of_flow t f told out_here d e h

  -- what is told of bytes that are moved is one of the cases
  pub of_move : (x : Thing) (f : Flow) (told : Told) → has (out past) x ≡ true → told ≡ moved_by past x f → Outcome wire seqs past seq (Move x f) told
  of_move (End x) f told o h = rw h refuses
  of_move (Token t) f told o h = of_token t f told o (pipe_of past t) refl h
