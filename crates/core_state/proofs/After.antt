-- What one event makes of each thing: whether it was made, is out or gone, and what lies unread at an end.
use Rattle.std.proofs.Common.{◌≡◌, ◌≤◌, ℕ, ◌+◌, Bool, true, false, List, [], ◌∷◌, ◌++◌, length, drop, refl, ap, ◌∙◌, arith}
use Rattle.std.specs.Prelude.{if◌then◌else◌, ◌||◌, ◌&&◌, not}
use Rattle.std.proofs.lemmas.List.{append-nil, length-append, drop-append-le, drop-drop}
use Rattle.std.proofs.Math.Seq.{drop-nil}
use Rattle.mj_base.specs.declared.ids.EndId.{EndId}
use Rattle.handle_table.specs.Things.{has, without}
use Rattle.handle_table.specs.declared.thing.Thing.{Thing}
use Rattle.handle_table.specs.declared.thing.Thing.TheVariants.{End}
use Rattle.handle_table.proofs.ThingsLemmas.{has-append, has-without_is}
use Rattle.message_pipe.specs.declared.message.Message.{Message}
use Rattle.bind_model.specs.declared.event.Event.{Event}
use Rattle.bind_model.specs.Wire.{Wire}
use Rattle.core_state.specs.Agreement.{end_in, end_with}
use Rattle.bind_model.specs.Machine.{made, made_by, peer, gone, gone_by, is_gone, out, given, handed, taken, takes, written, puts, endpoint_at, unread}

-- ends of the same parts are the same
pub end_same : (t u : Bool) (p q : EndId) (c d : Bool) (ms ns : List Message) → t ≡ u → p ≡ q → c ≡ d → ms ≡ ns → end_with t p c ms ≡ end_with u q d ns
end_same t u p q c d ms ns e f g h = rw (e, f, g, h) refl

module _ (wire : Wire) (event : Event) (past : List Event) where
  pub made_after : (z : Thing) → has (made (event ∷ past)) z ≡ (has (made past) z || has (made_by event.told) z)
  made_after z = has-append (made past) (made_by event.told) z

  pub gone_after : (z : Thing) → has (gone (event ∷ past)) z ≡ (has (gone past) z || has (gone_by event.told) z)
  gone_after z = has-append (gone past) (gone_by event.told) z

  pub out_after : (z : Thing) → has (out (event ∷ past)) z ≡ ((has (out past) z && not (has (given event.told event.asked) z)) || has (handed event.told) z)
  out_after z =
      has-append (without (given event.told event.asked) (out past)) (handed event.told) z
      ∙ ap (λ b. b || has (handed event.told) z) (has-without_is (given event.told event.asked) (out past) z)

  drop_same : (n i : ℕ) (ws ps : List Message) → n + i ≤ length ws → drop (n + i) (ws ++ ps) ≡ drop i (drop n ws) ++ ps
  drop_same n i ws ps few = rw (drop-append-le (n + i) ws ps few, drop-drop i n ws) refl

  pub unread_after : (x : EndId) → length (taken past x ++ takes event.told event.asked x) ≤ length (written wire past x)
      → unread wire (event ∷ past) x
      ≡ (if has (gone_by event.told) (End x) then [] else drop (length (takes event.told event.asked x)) (unread wire past x)
      ++ (if is_gone past x then [] else puts wire past (written wire past) (endpoint_at wire past) event.told event.asked x))
  unread_after x few = rw (has-append (gone past) (gone_by event.told) (End x)) (go (is_gone past x) (has (gone_by event.told) (End x)))
    where
      count : length (taken past x ++ takes event.told event.asked x) ≡ length (taken past x) + length (takes event.told event.asked x)
      count = length-append (taken past x) (takes event.told event.asked x)

      go : (g h : Bool) → (if (g || h) then [] else drop (length (taken past x ++ takes event.told event.asked x))
          (written wire past x ++ puts wire past (written wire past) (endpoint_at wire past) event.told event.asked x))
          ≡ (if h then [] else drop (length (takes event.told event.asked x)) (if g then [] else drop (length (taken past x)) (written wire past x))
          ++ (if g then [] else puts wire past (written wire past) (endpoint_at wire past) event.told event.asked x))
      go true true = refl
      go true false = rw (drop-nil {A = Message} (length (takes event.told event.asked x))) refl
      go false true = refl
      go false false = rw count (drop_same (length (taken past x)) (length (takes event.told event.asked x)) (written wire past x)
          (puts wire past (written wire past) (endpoint_at wire past) event.told event.asked x) (omega (arith, few, count)))

  -- an event with which nothing goes, and one that reads and writes nothing at an end
  pub gone_still : gone_by event.told ≡ [] → gone (event ∷ past) ≡ gone past
  gone_still g = ap (λ xs. gone past ++ xs) g ∙ append-nil (gone past)

  pub unread_still : (x : EndId) → gone_by event.told ≡ [] → takes event.told event.asked x ≡ []
      → puts wire past (written wire past) (endpoint_at wire past) event.told event.asked x ≡ []
      → unread wire (event ∷ past) x ≡ unread wire past x
  unread_still x g t p =
      let same_taken : taken (event ∷ past) x ≡ taken past x = ap (λ xs. taken past x ++ xs) t ∙ append-nil (taken past x) in
      let same_written : written wire (event ∷ past) x ≡ written wire past x = ap (λ xs. written wire past x ++ xs) p ∙ append-nil (written wire past x) in
      ap (λ gs. if has gs (End x) then [] else drop (length (taken (event ∷ past) x)) (written wire (event ∷ past) x)) (gone_still g)
      ∙ (ap (λ ts. if has (gone past) (End x) then [] else drop (length ts) (written wire (event ∷ past) x)) same_taken
      ∙ ap (λ ms. if has (gone past) (End x) then [] else drop (length (taken past x)) ms) same_written)

  -- an end by what it is after the event
  pub end_after : (x : EndId) (t : Bool) (p : EndId) (c : Bool) (ms : List Message) → has (made (event ∷ past)) (End x) ≡ t → peer (event ∷ past) x ≡ p
      → is_gone (event ∷ past) x ≡ c → unread wire (event ∷ past) x ≡ ms
      → end_in wire (event ∷ past) x ≡ end_with t p c ms
  end_after x t p c ms e f g h = end_same (has (made (event ∷ past)) (End x)) t (peer (event ∷ past) x) p (is_gone (event ∷ past) x) c
      (unread wire (event ∷ past) x) ms e f g h

  -- an event that leaves an end as it was
  pub end_still : (x : EndId) → has (made (event ∷ past)) (End x) ≡ has (made past) (End x) → gone_by event.told ≡ [] → takes event.told event.asked x ≡ []
      → puts wire past (written wire past) (endpoint_at wire past) event.told event.asked x ≡ []
      → peer (event ∷ past) x ≡ peer past x → end_in wire (event ∷ past) x ≡ end_in wire past x
  end_still x m g t p q = end_after x (has (made past) (End x)) (peer past x) (is_gone past x) (unread wire past x) m q
      (ap (λ gs. has gs (End x)) (gone_still g)) (unread_still x g t p)
