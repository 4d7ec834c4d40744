-- A run stops at the first mark that isn't settled behind those before it.
use Rattle.std.proofs.Common.{◌≡◌, ℕ, List, [], ◌∷◌, ◌++◌, Result, Ok, Err, Some, None, refl, sym, ap, subst, ◌∙◌, append_assoc}
use Rattle.std.specs.Prelude.{◌↔◌}
use Rattle.std.proofs.lemmas.List.{append-nil}
use Rattle.mj_base.specs.declared.fault.Fault.{Fault}
use Rattle.wire_model.specs.Marks.{Mark}
use Rattle.bounds_claims.specs.Runs.{step, run, opening, first_fault, ◌>>=◌}
use Rattle.bounds_claims.specs.declared.claims.Claims.{Claims}
use Rattle.bounds_claims.proofs.Settles.{runs_where_settled, settled_where_runs}
use Rattle.bounds_claims.proofs.Steps.{run_nil, run_first, run_fails, run_on}
use Rattle.first_faults.specs.FirstFault.{IsFirstFault}
use Rattle.first_faults.proofs.Behind.{fault_of, claims_behind, told, advanced}

-- an answer with a fault
refused : (r : Result Claims Fault) (f : Fault) → fault_of r ≡ Some f → r ≡ Err f
refused (Ok c) f e = absurd cc
refused (Err g) f e = cc

module _ (start end handle_count id_count : ℕ) where
  abbrev behind : List Mark → Claims
  behind before = claims_behind start end handle_count id_count before

  -- a run that goes on
  went_on : (before : List Mark) (m : Mark) (d : Claims) → run (behind []) before ≡ Ok (behind before) → step (behind before) m ≡ Ok d
      → run (behind []) (before ++ (m ∷ [])) ≡ Ok (behind (before ++ (m ∷ [])))
  went_on before m d so e =
      run_on (behind []) (behind before) before (m ∷ []) so
      ∙ run_first (behind before) d m [] e
      ∙ run_nil d
      ∙ ap (λ (c : Claims). Ok c) (advanced start end handle_count id_count before m d e)

  -- the first fault of marks, behind those that were passed
  abbrev Found : List Mark → Fault → Type 0
  Found ms f = IsFirstFault ms start end handle_count id_count f

  by_answer : (before ms : List Mark) (m : Mark) (f : Fault) (r : Result Claims Fault) → run (behind []) before ≡ Ok (behind before)
      → step (behind before) m ≡ r
      → ((d : Claims) → step (behind before) m ≡ Ok d → run d ms ≡ Err f → Found (before ++ (m ∷ ms)) f)
      → (r >>= λ after. run after ms) ≡ Err f → Found (before ++ (m ∷ ms)) f
  by_answer before ms m f (Ok d) so s further e = further d s e
  by_answer before ms m f (Err g) so s further e = record {
    before = before;
    mark = m;
    after = ms;
    parts = refl;
    settled = settled_where_runs before start end handle_count id_count (behind before) so;
    fails =
        sym (told start end handle_count id_count before m)
        ∙ ap fault_of (s ∙ e);
  }

  found : (before ms : List Mark) (f : Fault) → run (behind []) before ≡ Ok (behind before) → run (behind before) ms ≡ Err f → Found (before ++ ms) f
  unfolding run
  found before [] f so e = absurd cc
  found before (m ∷ ms) f so e =
      by_answer before ms m f (step (behind before) m) so refl
      (λ d s rest.
      let is = advanced start end handle_count id_count before m d s in
      let later : Found ((before ++ (m ∷ [])) ++ ms) f =
      found (before ++ (m ∷ [])) ms f (went_on before m d so s) (subst (λ (c : Claims). run c ms ≡ Err f) is rest) in
      subst (λ (xs : List Mark). Found xs f) (append_assoc before (m ∷ []) ms) later)
      e

  -- where a run comes to
  passed_first : (c d : Claims) (m : Mark) (ms : List Mark) → run c (m ∷ ms) ≡ Ok d → (b : Claims) × (step c m ≡ Ok b) × (run b ms ≡ Ok d)
  unfolding run
  passed_first c d m ms e = by_first (step c m) refl e
    where
      by_first : (r : Result Claims Fault) → step c m ≡ r → (r >>= λ after. run after ms) ≡ Ok d → (b : Claims) × (step c m ≡ Ok b) × (run b ms ≡ Ok d)
      by_first (Ok b) s e = (b, s, e)
      by_first (Err g) s e = absurd cc

  comes_to : (before ms : List Mark) (d : Claims) → run (behind before) ms ≡ Ok d → d ≡ behind (before ++ ms)
  comes_to before [] d e =
      let is : Ok (behind before) ≡ Ok d = sym (run_nil (behind before)) ∙ e in
      let same : d ≡ behind before = cc in
      same ∙ ap behind (sym (append-nil before))
  comes_to before (m ∷ ms) d e =
      let p = passed_first (behind before) d m ms e in
      let is = advanced start end handle_count id_count before m p.0 p.1 in
      comes_to (before ++ (m ∷ [])) ms d (subst (λ (c : Claims). run c ms ≡ Ok d) is p.2)
      ∙ ap behind (append_assoc before (m ∷ []) ms)

  -- a run stops at a mark with a fault behind marks that are settled
  stops : (ms : List Mark) (f : Fault) → Found ms f → run (behind []) ms ≡ Err f
  stops ms f h =
      let r = runs_where_settled h.before start end handle_count id_count h.settled in
      let is = comes_to [] h.before r.0 r.1 in
      let fails = refused (step (behind h.before) h.mark) f (told start end handle_count id_count h.before h.mark ∙ h.fails) in
      ap (run (behind [])) h.parts
      ∙ run_on (behind []) r.0 h.before (h.mark ∷ h.after) r.1
      ∙ run_fails r.0 f h.mark h.after (subst (λ (c : Claims). step c h.mark ≡ Err f) (sym is) fails)

-- the first fault of a run
of_run : (r : Result Claims Fault) (f : Fault) → elim r [ Ok after ↦ None | Err fault ↦ Some fault ] ≡ Some f → r ≡ Err f
of_run (Ok c) f e = absurd cc
of_run (Err g) f e = cc

of_fault : (r : Result Claims Fault) (f : Fault) → r ≡ Err f → elim r [ Ok after ↦ None | Err fault ↦ Some fault ] ≡ Some f
of_fault (Ok c) f e = absurd cc
of_fault (Err g) f e = cc

-- for the law `first_fault_is_first`
pub is_first : (ms : List Mark) (start end handle_count id_count : ℕ) (f : Fault)
    → (first_fault (opening start end handle_count id_count) ms ≡ Some f) ↔ IsFirstFault ms start end handle_count id_count f
is_first ms start end handle_count id_count f = (
  λ e.
      found start end handle_count id_count [] ms f (run_nil (opening start end handle_count id_count))
      (of_run (run (opening start end handle_count id_count) ms) f e),
  λ h. of_fault (run (opening start end handle_count id_count) ms) f (stops start end handle_count id_count ms f h),
)
