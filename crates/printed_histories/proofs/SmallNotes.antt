-- Callbacks and what is left have numbers of their widths.
use Rattle.std.proofs.Common.{◌<◌, ℕ, ◌^◌, Bool, true, false, List, [], ◌∷◌, ◌++◌, arith}
use Rattle.std.specs.Prelude.{◌==◌, not, if◌then◌else◌}
use Rattle.std.specs.List.{flat_map}
use Rattle.mj_base.specs.declared.ids.SeqId.{SeqId}
use Rattle.handle_table.specs.declared.thing.Thing.TheVariants.{End, Token}
use Rattle.handle_table.specs.Things.{has}
use Rattle.wire_model.specs.Trees.{Tree}
use Rattle.wire_model.specs.declared.target.Target.{Target}
use Rattle.bind_model.specs.Laws.{up_from}
use Rattle.bind_model.specs.Machine.{gone}
use Rattle.bind_model.specs.Replies.{serials, tokens}
use Rattle.bind_model.specs.declared.asked.Asked.{Asked}
use Rattle.bind_model.specs.declared.asked.Asked.TheVariants.{Call}
use Rattle.bind_model.specs.declared.event.Event.{Event}
use Rattle.bind_model.specs.declared.told.Told.{Told}
use Rattle.bind_model.specs.declared.told.Told.TheVariants.{Sent}
use Rattle.bind_model.specs.Left.{ends_by, tokens_by, left}
use Rattle.bind_model.specs.Seen.{own_of}
use Rattle.callback_laws.specs.Callbacks.{callback_of, callbacks_in, callbacks, fate_of, is_answered}
use Rattle.history_reader.specs.Printable.{IsSmall, IsSequence, IsThing, IsNote, AreAll}
use Rattle.printed_histories.proofs.SmallLists.{all_both, all_mapped, all_filtered, all_flat, all_up}
use Rattle.printed_histories.specs.Asked.{IsSmallAsked}
use Rattle.printed_histories.proofs.SmallSaid.{IsSmallTold, IsSmallEvent}

module _ (F : Target → Tree → Type 0) where
  callback_small : (seq : SeqId) (told : Told) (asked : Asked) (later : List Event) → IsSequence seq → IsSmallAsked F asked → IsSmallTold told
      → AreAll IsNote (callback_of seq told asked later)
  callback_small seq (Sent request bytes) (Call x id o) later s i t = go (request == 0)
    where
      go : (b : Bool) → AreAll IsNote (if b then []
          else record { seq = seq; end = x; id = id; request = request; fate = fate_of (is_answered x id request later) } ∷ [])
      go true = tt
      go false = ((s, (i.0, i.1), t.0), tt)
  callback_small seq told asked later s i t = tt

  in_small : (events : List Event) → AreAll (IsSmallEvent F) events → AreAll IsNote (callbacks_in events)
  in_small [] a = tt
  in_small (event ∷ later) a = all_both IsNote (callback_of event.seq event.told event.asked later) (callbacks_in later)
      (callback_small event.seq event.told event.asked later a.0.0 a.0.1 a.0.2) (in_small later a.1)

  pub notes_small : (seqs : ℕ) (history : List Event) → AreAll (IsSmallEvent F) history → AreAll IsNote (callbacks seqs history)
  notes_small seqs history a = all_flat (λ (n : ℕ). Unit {0}) IsNote (λ (n : ℕ). callbacks_in (own_of (record { 0 = n }) history))
      (λ n u. in_small (own_of (record { 0 = n }) history) (all_filtered (IsSmallEvent F) (λ (e : Event). e.seq.0 == n) history a))
      (up_from 0 seqs) (all_up (λ (n : ℕ). Unit {0}) 0 seqs (λ k b. tt))

module _ (past : List Event) (ends : (seq : ℕ) → serials past seq < 2 ^ 32) (others : (seq : ℕ) → tokens past seq < 2 ^ 32) where
  ends_small : (seq : ℕ) → IsSmall seq → AreAll IsThing (ends_by past seq)
  ends_small seq s = all_mapped IsSmall IsThing (λ (n : ℕ). End (record { seq = seq; serial = n })) (λ n i. (s, i)) (up_from 0 (serials past seq))
      (all_up IsSmall 0 (serials past seq) (λ n b. let e = ends seq in omega (arith, b, e)))

  tokens_small : (seq : ℕ) → IsSmall seq → AreAll IsThing (tokens_by past seq)
  tokens_small seq s = all_mapped IsSmall IsThing (λ (n : ℕ). Token (record { seq = seq; serial = n })) (λ n i. (s, i)) (up_from 0 (tokens past seq))
      (all_up IsSmall 0 (tokens past seq) (λ n b. let e = others seq in omega (arith, b, e)))

  pub left_small : (seqs : ℕ) → IsSmall seqs → AreAll IsThing (left seqs past)
  left_small seqs s =
      let rows : AreAll IsSmall (up_from 0 seqs) = all_up IsSmall 0 seqs (λ n b. omega (arith, b, s)) in
      all_filtered IsThing (λ x. not (has (gone past) x)) (flat_map (ends_by past) (up_from 0 seqs) ++ flat_map (tokens_by past) (up_from 0 seqs))
      (all_both IsThing (flat_map (ends_by past) (up_from 0 seqs)) (flat_map (tokens_by past) (up_from 0 seqs))
      (all_flat IsSmall IsThing (ends_by past) ends_small (up_from 0 seqs) rows)
      (all_flat IsSmall IsThing (tokens_by past) tokens_small (up_from 0 seqs) rows))
