-- Any number of turns that is enough finds the same that goes.
use Rattle.std.proofs.Common.{zero, ◌≡◌, ◌<◌, ◌≤◌, ℕ, suc, ◌+◌, true, List, [], ◌∷◌, ◌++◌, length, refl, ap, ◌∙◌, arith}
use Rattle.std.specs.List.{flat_map}
use Rattle.std.proofs.lemmas.List.{length-append}
use Rattle.handle_table.specs.declared.thing.Thing.{Thing}
use Rattle.handle_table.specs.Things.{times, without, is_distinct}
use Rattle.message_pipe.specs.Ends.{spread}
use Rattle.handle_table.proofs.ThingsLemmas.{same-refl}
use Rattle.bind_model.proofs.Counting.{Fits_in, absent, follow, pigeon, times-append, times-distinct}

module _ (c : Thing → List Thing) (all : List Thing) (distinct : is_distinct all ≡ true) where
  -- nothing is reached twice
  abbrev Fits : List Thing → List Thing → Type 0
  Fits done ends = Fits_in c all distinct done ends

  -- the thing that is followed next isn't among those that were
  head_times : (done ends : List Thing) (y : Thing) → Fits done (y ∷ ends) → (times y done ≡ 0) × (times y all ≡ 1)
  head_times done ends y fits =
      let f = fits y in
      let m : times y all ≤ 1 = times-distinct y all distinct in
      let a : times y (done ++ y ∷ ends) ≡ times y done + (1 + times y ends) = times-append y done (y ∷ ends) ∙ rw (same-refl y) refl in
      (omega arith, omega arith)

  turn_count : (done ends : List Thing) (y z : Thing) → Fits done (y ∷ ends)
      → times z ((done ++ y ∷ []) ++ (ends ++ c y)) + times z (flat_map c (without (done ++ y ∷ []) all)) ≡ times z (done ++ y ∷ ends)
      + times z (flat_map c (without done all))
  turn_count done ends y z fits =
      let h = head_times done ends y fits in
      let f = follow c done y z all (absent y done h.0) in
      let g : times z (flat_map c (without done all)) ≡ times z (flat_map c (without (done ++ y ∷ []) all)) + times z (c y) = f ∙ rw h.1 (omega arith) in
      omega (arith, g, times-append z (done ++ y ∷ []) (ends ++ c y), times-append z done (y ∷ []), times-append z ends (c y), times-append z done (y ∷ ends))

  -- no more are followed than there are
  room_left : (done ends : List Thing) (y : Thing) → Fits done (y ∷ ends) → length done < length all
  room_left done ends y fits =
      let few : length (done ++ y ∷ ends) ≤ length all = pigeon (done ++ y ∷ ends) all (λ z. omega (arith, fits z)) in
      omega (arith, length-append done (y ∷ ends))

  pub spread_enough : (n m : ℕ) (done ends : List Thing) → Fits done ends → length all ≤ n + length done → length all ≤ m + length done
      → spread c n ends ≡ spread c m ends
  spread_enough zero zero done ends fits room space = refl
  spread_enough zero (suc m) done [] fits room space = refl
  spread_enough (suc n) zero done [] fits room space = refl
  spread_enough (suc n) (suc m) done [] fits room space = refl
  spread_enough zero (suc m) done (y ∷ ends) fits room space = absurd (let few : length done < length all = room_left done ends y fits in omega arith)
  spread_enough (suc n) zero done (y ∷ ends) fits room space = absurd (let few : length done < length all = room_left done ends y fits in omega arith)
  spread_enough (suc n) (suc m) done (y ∷ ends) fits room space =
      let next : Fits (done ++ y ∷ []) (ends ++ c y) = λ w. omega (arith, turn_count done ends y w fits, fits w) in
      let more : length all ≤ n + length (done ++ y ∷ []) = omega (arith, length-append done (y ∷ [])) in
      let also : length all ≤ m + length (done ++ y ∷ []) = omega (arith, length-append done (y ∷ [])) in
      ap (λ xs. y ∷ xs) (spread_enough n m (done ++ y ∷ []) (ends ++ c y) next more also)
