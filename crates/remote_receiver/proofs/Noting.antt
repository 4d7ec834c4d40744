-- The notes behind one step more.
use Rattle.std.proofs.Common.{◌≡◌, ℕ, zero, suc, List, [], ◌∷◌, ◌++◌, ◌⊎◌, inl, inr, refl, sym, ap, ◌∙◌, subst}
use Rattle.std.specs.Prelude.{Option, Some, None, slice_set, length}
use Rattle.response_map.specs.declared.key.Key.{Key}
use Rattle.remote_receiver.specs.declared.job.Answered.{Answered}
use Rattle.remote_receiver.specs.declared.note.Note.{Note}
use Rattle.remote_receiver.specs.Stepped.{Step, given}
use Rattle.remote_receiver.specs.Notes.{unrun, first_told, response_in, IsOpen, Became, FirstNote, AreNotes, NumberedJob, IsWaiting}
use Rattle.remote_receiver.proofs.Later.{told_at, over_at, told_same, free_told, free_less}

module _ {C : Type 0} (promises : C → Answered → ℕ → Type 0) where
  -- no waiting job hears the step
  abbrev pub IsUnheard : List (Step C) → Step C → Type 0
  IsUnheard steps s = (key : Key) (job : C) (at : ℕ) → IsWaiting steps key job at → told_at key s ≡ None

  -- no waiting job but the one of this number hears it
  abbrev pub HearsOnly : ℕ → List (Step C) → Step C → Type 0
  HearsOnly n steps s = (key : Key) (job : C) (at : ℕ) → IsWaiting steps key job at → (told_at key s ≡ None) ⊎ (at ≡ n)

  -- the first note stays where the step doesn't respond to its request
  first_stays : (one : Key × C) (later : List (Step C)) (s : Step C) (note : Note) → (IsOpen one.0 later → told_at one.0 s ≡ None)
      → Became promises one.1 one.0 (response_in one.0 later) note → Became promises one.1 one.0 (response_in one.0 (later ++ s ∷ [])) note
  first_stays one later s note unheard became =
      subst (λ o. Became promises one.1 one.0 o note) (sym (told_same one.0 later s unheard)) became

  -- a step that gives no job, and that no waiting job hears
  pub notes_stay : (steps : List (Step C)) (s : Step C) (notes : List Note) → given s ≡ None → IsUnheard steps s
      → AreNotes promises steps notes → AreNotes promises (steps ++ s ∷ []) notes
  notes_stay [] s notes none unheard are = subst (λ o. FirstNote promises o (λ k. response_in {C = C} k []) (AreNotes promises []) notes) (sym none) are
  notes_stay (step ∷ steps) s notes none unheard are = by (given step) (λ ns u a. notes_stay steps s ns none u a) unheard are
    where
      by : (o : Option (Key × C)) → ((ns : List Note) → IsUnheard steps s → AreNotes promises steps ns → AreNotes promises (steps ++ s ∷ []) ns)
          → ((key : Key) (job : C) (at : ℕ) → NumberedJob o (λ k. IsOpen k steps) (IsWaiting steps) key job at → told_at key s ≡ None)
          → FirstNote promises o (λ k. response_in k steps) (AreNotes promises steps) notes
          → FirstNote promises o (λ k. response_in k (steps ++ s ∷ [])) (AreNotes promises (steps ++ s ∷ [])) notes
      by None stay u a = stay notes u a
      by (Some one) stay u a =
          (a.0, a.1, a.2, first_stays one steps s a.0 (λ free. u one.0 one.1 0 (refl, free)) a.3, stay a.1 (λ key job at w. u key job (suc at) w) a.4)

  no_suc : (n : ℕ) → suc n ≡ 0 → ⊥
  no_suc n e = cc

  no_zero : (n : ℕ) → 0 ≡ suc n → ⊥
  no_zero n e = cc

  same_pred : (a b : ℕ) → suc a ≡ suc b → a ≡ b
  same_pred a b e = cc

  left_of : {A : Type 0} (k : Key) (s : Step C) → (told_at k s ≡ None) ⊎ A → (A → ⊥) → told_at k s ≡ None
  left_of k s (inl e) never = e
  left_of k s (inr a) never = absurd (never a)

  pred_of : (k : Key) (s : Step C) (at m : ℕ) → (told_at k s ≡ None) ⊎ (suc at ≡ suc m) → (told_at k s ≡ None) ⊎ (at ≡ m)
  pred_of k s at m (inl e) = inl e
  pred_of k s at m (inr e) = inr (same_pred at m e)

  -- a step that gives no job, which just one waiting job hears
  pub note_set : (steps : List (Step C)) (s : Step C) (notes : List Note) (key : Key) (job : C) (n : ℕ) (got : Answered) (note : Note)
      → given s ≡ None → IsWaiting steps key job n → told_at key s ≡ Some got → Became promises job key (Some got) note → HearsOnly n steps s
      → AreNotes promises steps notes → AreNotes promises (steps ++ s ∷ []) (slice_set notes n note)
  note_set [] s notes key job n got note none waits told became only are = absurd waits
  note_set (step ∷ steps) s notes key job n got note none waits told became only are =
      by (given step) n (λ ns m w o a. note_set steps s ns key job m got note none w told became o a) waits only are
    where
      by : (o : Option (Key × C)) (m : ℕ)
          → ((ns : List Note) (k : ℕ) → IsWaiting steps key job k → HearsOnly k steps s → AreNotes promises steps ns
          → AreNotes promises (steps ++ s ∷ []) (slice_set ns k note))
          → NumberedJob o (λ k. IsOpen k steps) (IsWaiting steps) key job m
          → ((k : Key) (j : C) (at : ℕ) → NumberedJob o (λ k. IsOpen k steps) (IsWaiting steps) k j at → (told_at k s ≡ None) ⊎ (at ≡ m))
          → FirstNote promises o (λ k. response_in k steps) (AreNotes promises steps) notes
          → FirstNote promises o (λ k. response_in k (steps ++ s ∷ [])) (AreNotes promises (steps ++ s ∷ [])) (slice_set notes m note)
      by None m later w hears a = later notes m w hears a
      by (Some one) zero later w hears a =
          let responds : response_in one.0 (steps ++ s ∷ []) ≡ Some got =
          ap (λ (p : Key × C). response_in p.0 (steps ++ s ∷ [])) w.0
          ∙ free_told key steps s w.1
          ∙ ap (λ o. first_told o (over_at key s) None) told in
          let mine : Became promises one.1 one.0 (Some got) note = subst (λ (p : Key × C). Became promises p.1 p.0 (Some got) note) (sym w.0) became in (
            note,
            a.1,
            ap (λ ns. slice_set ns 0 note) a.2,
            subst (λ o. Became promises one.1 one.0 o note) (sym responds) mine,
            notes_stay steps s a.1 none (λ k j at v. left_of k s (hears k j (suc at) v) (no_suc at)) a.4,
          )
      by (Some one) (suc m) later w hears a = (
        a.0,
        slice_set a.1 m note,
        ap (λ ns. slice_set ns (suc m) note) a.2,
        first_stays one steps s a.0 (λ free. left_of one.0 s (hears one.0 one.1 0 (refl, free)) (no_zero m)) a.3,
        later a.1 m w (λ k j at v. pred_of k s at m (hears k j (suc at) v)) a.4,
      )

  -- a step that gives a job, and is no response
  pub note_more : (steps : List (Step C)) (s : Step C) (notes : List Note) (one : Key × C) → given s ≡ Some one
      → ((key : Key) → told_at key s ≡ None) → AreNotes promises steps notes → AreNotes promises (steps ++ s ∷ []) (notes ++ unrun one.0 ∷ [])
  note_more [] s notes one gives never are =
      subst (λ o. FirstNote promises o (λ k. response_in {C = C} k []) (AreNotes promises []) (notes ++ unrun one.0 ∷ [])) (sym gives)
      (unrun one.0, [], ap (λ (ns : List Note). ns ++ unrun one.0 ∷ []) are, refl, refl)
  note_more (step ∷ steps) s notes one gives never are = by (given step) (λ ns a. note_more steps s ns one gives never a) are
    where
      by : (o : Option (Key × C))
          → ((ns : List Note) → AreNotes promises steps ns → AreNotes promises (steps ++ s ∷ []) (ns ++ unrun one.0 ∷ []))
          → FirstNote promises o (λ k. response_in k steps) (AreNotes promises steps) notes
          → FirstNote promises o (λ k. response_in k (steps ++ s ∷ [])) (AreNotes promises (steps ++ s ∷ [])) (notes ++ unrun one.0 ∷ [])
      by None more a = more notes a
      by (Some first) more a = (
        a.0,
        a.1 ++ unrun one.0 ∷ [],
        ap (λ (ns : List Note). ns ++ unrun one.0 ∷ []) a.2,
        first_stays first steps s a.0 (λ free. never first.0) a.3,
        more a.1 a.4,
      )

  -- the job that a step gives waits, and its note is the last
  pub given_waits : (steps : List (Step C)) (s : Step C) (notes : List Note) (one : Key × C) → given s ≡ Some one → AreNotes promises steps notes
      → IsWaiting (steps ++ s ∷ []) one.0 one.1 (length notes)
  given_waits [] s notes one gives are =
      subst (IsWaiting (s ∷ []) one.0 one.1) (sym (ap length are))
      (subst (λ o. NumberedJob o (λ k. IsOpen {C = C} k []) (IsWaiting []) one.0 one.1 0) (sym gives) (refl, tt))
  given_waits (step ∷ steps) s notes one gives are = by (given step) (λ ns a. given_waits steps s ns one gives a) are
    where
      by : (o : Option (Key × C)) → ((ns : List Note) → AreNotes promises steps ns → IsWaiting (steps ++ s ∷ []) one.0 one.1 (length ns))
          → FirstNote promises o (λ k. response_in k steps) (AreNotes promises steps) notes
          → NumberedJob o (λ k. IsOpen k (steps ++ s ∷ [])) (IsWaiting (steps ++ s ∷ [])) one.0 one.1 (length notes)
      by None wait a = wait notes a
      by (Some first) wait a =
          subst (NumberedJob (Some first) (λ k. IsOpen k (steps ++ s ∷ [])) (IsWaiting (steps ++ s ∷ [])) one.0 one.1) (sym (ap length a.2))
          (wait a.1 a.4)

  -- a job that waits did before, or is the one that the step gave
  abbrev pub WaitedOrGiven : List (Step C) → Key × C → ℕ → Key → C → ℕ → Type 0
  WaitedOrGiven steps one count key job at = IsWaiting steps key job at ⊎ ((one ≡ (key, job)) × (at ≡ count))

  -- with a step that gives a job, that one waits and those that did
  pub waits_given : (steps : List (Step C)) (s : Step C) (notes : List Note) (one : Key × C) → given s ≡ Some one → AreNotes promises steps notes
      → (key : Key) (job : C) (at : ℕ) → IsWaiting (steps ++ s ∷ []) key job at → WaitedOrGiven steps one (length notes) key job at
  waits_given [] s notes one gives are key job at waits =
      by at (subst (λ o. NumberedJob o (λ k. IsOpen {C = C} k []) (IsWaiting []) key job at) gives waits)
    where
      by : (n : ℕ) → NumberedJob (Some one) (λ k. IsOpen {C = C} k []) (IsWaiting []) key job n → WaitedOrGiven [] one (length notes) key job n
      by zero w = inr (w.0, sym (ap length are))
      by (suc n) w = absurd w
  waits_given (step ∷ steps) s notes one gives are key job at waits =
      by (given step) at (λ ns n a w. waits_given steps s ns one gives a key job n w) are waits
    where
      next : (a b n : ℕ) → a ≡ suc b → WaitedOrGiven steps one b key job n → IsWaiting steps key job n ⊎ ((one ≡ (key, job)) × (suc n ≡ a))
      next a b n e (inl v) = inl v
      next a b n e (inr v) = inr (v.0, ap suc v.1 ∙ sym e)

      by : (o : Option (Key × C)) (n : ℕ)
          → ((ns : List Note) (m : ℕ) → AreNotes promises steps ns → IsWaiting (steps ++ s ∷ []) key job m → WaitedOrGiven steps one (length ns) key job m)
          → FirstNote promises o (λ k. response_in k steps) (AreNotes promises steps) notes
          → NumberedJob o (λ k. IsOpen k (steps ++ s ∷ [])) (IsWaiting (steps ++ s ∷ [])) key job n
          → NumberedJob o (λ k. IsOpen k steps) (IsWaiting steps) key job n ⊎ ((one ≡ (key, job)) × (n ≡ length notes))
      by None n before a w = before notes n a w
      by (Some first) zero before a w = inl (w.0, (free_less key steps s w.1).0)
      by (Some first) (suc n) before a w = next (length notes) (length a.1) n (ap length a.2) (before a.1 n a.4 w)
