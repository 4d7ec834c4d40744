-- One step more behind others: what is free, what responds, and which jobs wait.
use Rattle.std.proofs.Common.{◌≡◌, ℕ, zero, suc, Bool, true, false, List, [], ◌∷◌, ◌++◌, ◌⊎◌, inl, inr, refl, sym, ap, ◌∙◌, subst}
use Rattle.std.specs.Prelude.{Option, Some, None}
use Rattle.response_map.specs.declared.key.Key.{Key}
use Rattle.remote_receiver.specs.declared.job.Answered.{Answered}
use Rattle.remote_receiver.specs.Stepped.{Step, given, response_by, shows_end}
use Rattle.remote_receiver.specs.Notes.{first_told, response_in, IsOpen, NumberedJob, IsWaiting}

none_told : (b : Bool) → first_told None b None ≡ None
none_told true = refl
none_told false = refl

module _ {C : Type 0} where
  -- the response that a step is, and whether it shows the end
  abbrev pub told_at : Key → Step C → Option Answered
  told_at key step = response_by key step.asked step.told

  abbrev pub over_at : Key → Step C → Bool
  over_at key step = shows_end key step.asked step.told

  -- behind these steps nothing changes any more
  abbrev pub IsSettled : Key → List (Step C) → Type 0
  IsSettled key later = (s : Step C) → response_in key (later ++ s ∷ []) ≡ response_in key later

  -- a request is free, or settled
  pub free_or_settled : (key : Key) (later : List (Step C)) → IsOpen key later ⊎ IsSettled key later
  free_or_settled key [] = inl tt
  free_or_settled key (step ∷ later) = by (told_at key step) refl (over_at key step) refl (free_or_settled key later)
    where
      by : (o : Option Answered) → told_at key step ≡ o → (b : Bool) → over_at key step ≡ b
          → IsOpen key later ⊎ IsSettled key later → IsOpen key (step ∷ later) ⊎ IsSettled key (step ∷ later)
      by (Some got) e b f known = inr (λ s.
          ap (λ o. first_told o (over_at key step) (response_in key (later ++ s ∷ []))) e
          ∙ sym (ap (λ o. first_told o (over_at key step) (response_in key later)) e))
      by None e true f known = inr (λ s.
          ap (λ o. first_told o (over_at key step) (response_in key (later ++ s ∷ []))) e
          ∙ ap (λ b. first_told None b (response_in key (later ++ s ∷ []))) f
          ∙ sym (ap (λ o. first_told o (over_at key step) (response_in key later)) e ∙ ap (λ b. first_told None b (response_in key later)) f))
      by None e false f (inl free) = inl (e, f, free)
      by None e false f (inr same) = inr (λ s. ap (first_told (told_at key step) (over_at key step)) (same s))

  pub free_more : (key : Key) (later : List (Step C)) (s : Step C) → IsOpen key later → told_at key s ≡ None → over_at key s ≡ false
      → IsOpen key (later ++ s ∷ [])
  free_more key [] s free e f = (e, f, tt)
  free_more key (step ∷ later) s free e f = (free.0, free.1, free_more key later s free.2 e f)

  -- a free request was free before, and the step is neither its response nor its end
  pub free_less : (key : Key) (later : List (Step C)) (s : Step C) → IsOpen key (later ++ s ∷ [])
      → IsOpen key later × (told_at key s ≡ None) × (over_at key s ≡ false)
  free_less key [] s free = (tt, free.0, free.1)
  free_less key (step ∷ later) s free = let less = free_less key later s free.2 in ((free.0, free.1, less.0), less.1, less.2)

  -- behind a free request the step alone tells
  pub free_told : (key : Key) (later : List (Step C)) (s : Step C) → IsOpen key later
      → response_in key (later ++ s ∷ []) ≡ first_told (told_at key s) (over_at key s) None
  free_told key [] s free = refl
  free_told key (step ∷ later) s free =
      ap (λ o. first_told o (over_at key step) (response_in key (later ++ s ∷ []))) free.0
      ∙ ap (λ b. first_told None b (response_in key (later ++ s ∷ []))) free.1
      ∙ free_told key later s free.2

  pub free_none : (key : Key) (later : List (Step C)) → IsOpen key later → response_in key later ≡ None
  free_none key [] free = refl
  free_none key (step ∷ later) free =
      ap (λ o. first_told o (over_at key step) (response_in key later)) free.0
      ∙ ap (λ b. first_told None b (response_in key later)) free.1
      ∙ free_none key later free.2

  -- where the step doesn't respond to a request that is free, its response stays
  pub told_same : (key : Key) (later : List (Step C)) (s : Step C) → (IsOpen key later → told_at key s ≡ None)
      → response_in key (later ++ s ∷ []) ≡ response_in key later
  told_same key later s unheard = by (free_or_settled key later)
    where
      by : IsOpen key later ⊎ IsSettled key later → response_in key (later ++ s ∷ []) ≡ response_in key later
      by (inl free) = free_told key later s free ∙ ap (λ o. first_told o (over_at key s) None) (unheard free)
          ∙ none_told (over_at key s) ∙ sym (free_none key later free)
      by (inr same) = same s

  -- ---- jobs that wait

  -- a job that waits behind one step more did before, and the step doesn't settle it
  abbrev pub StaysOpen : List (Step C) → Step C → Key → C → ℕ → Type 0
  StaysOpen steps s key job at = IsWaiting steps key job at × (told_at key s ≡ None) × (over_at key s ≡ false)

  -- with a step that gives no job, those wait that did and that it doesn't settle
  pub waits_less : (steps : List (Step C)) (s : Step C) → given s ≡ None → (key : Key) (job : C) (at : ℕ) → IsWaiting (steps ++ s ∷ []) key job at
      → StaysOpen steps s key job at
  waits_less [] s none key job at h = absurd (subst (λ o. NumberedJob o (λ k. IsOpen {C = C} k []) (IsWaiting []) key job at) none h)
  waits_less (step ∷ steps) s none key job at h = by (given step) at (λ n w. waits_less steps s none key job n w) h
    where
      by : (o : Option (Key × C)) (n : ℕ) → ((m : ℕ) → IsWaiting (steps ++ s ∷ []) key job m → StaysOpen steps s key job m)
          → NumberedJob o (λ k. IsOpen k (steps ++ s ∷ [])) (IsWaiting (steps ++ s ∷ [])) key job n
          → NumberedJob o (λ k. IsOpen k steps) (IsWaiting steps) key job n × (told_at key s ≡ None) × (over_at key s ≡ false)
      by None n before w = before n w
      by (Some one) zero before w = let less = free_less key steps s w.1 in ((w.0, less.0), less.1, less.2)
      by (Some one) (suc n) before w = before n w

  pub waits_more : (steps : List (Step C)) (s : Step C) (key : Key) (job : C) (at : ℕ) → IsWaiting steps key job at
      → told_at key s ≡ None → over_at key s ≡ false → IsWaiting (steps ++ s ∷ []) key job at
  waits_more [] s key job at h e f = absurd h
  waits_more (step ∷ steps) s key job at h e f = by (given step) at (λ n w. waits_more steps s key job n w e f) h
    where
      by : (o : Option (Key × C)) (n : ℕ) → ((m : ℕ) → IsWaiting steps key job m → IsWaiting (steps ++ s ∷ []) key job m)
          → NumberedJob o (λ k. IsOpen k steps) (IsWaiting steps) key job n
          → NumberedJob o (λ k. IsOpen k (steps ++ s ∷ [])) (IsWaiting (steps ++ s ∷ [])) key job n
      by None n more w = more n w
      by (Some one) zero more w = (w.0, free_more key steps s w.1 e f)
      by (Some one) (suc n) more w = more n w
