-- What is claimed behind marks that are settled: it is their greatest end, and the index above all of theirs.
use Rattle.std.proofs.Common.{◌≡◌, ℕ, ◌+◌, ◌%◌, ◌≤◌, Bool, true, false, ◌&&◌, cond, List, [], ◌∷◌, ◌++◌, Result, Ok, Err, Option, Some, None, refl, sym, ap, ◌∙◌, arith}
use Rattle.std.specs.Prelude.{nat_le, nat_lt, ◌==◌}
use Rattle.std.proofs.lemmas.Bool.Decides.{nat_tests}
use Rattle.std.proofs.lemmas.List.{append-nil}
use Rattle.mj_base.specs.declared.fault.Fault.{Fault}
use Rattle.mj_base.specs.declared.fault.FaultKind.TheVariants.{MisalignedObject, IllegalMemoryRange, IllegalHandle, IllegalInterfaceId}
use Rattle.wire_model.specs.Marks.{Mark, Test, Object, Handle, Id}
use Rattle.wire_model.specs.Stands.{Extent, objects, handles, ids}
use Rattle.bounds_claims.specs.Runs.{fault, step}
use Rattle.bounds_claims.specs.declared.claims.Claims.{Claims}
use Rattle.message_header.specs.FirstFailed.{first_failed}
use Rattle.first_faults.specs.FirstFault.{greatest_end, next_index, tests_behind}

-- the fault of an answer
abbrev pub fault_of : Result Claims Fault → Option Fault
fault_of (Ok c) = None
fault_of (Err f) = Some f

-- the answer of one test, and of an object's four
one_fault : (holds : Bool) (c : Claims) (f : Fault) → fault_of (cond holds (Ok c) (Err f)) ≡ cond holds None (Some f)
one_fault true c f = refl
one_fault false c f = refl

one_passed : (holds : Bool) (c d : Claims) (f : Fault) → cond holds (Ok c) (Err f) ≡ Ok d → (holds ≡ true) × (d ≡ c)
one_passed true c d f e = (refl, cc)
one_passed false c d f e = absurd cc

abbrev four : Bool → Bool → Bool → Bool → Bool → Claims → Fault → Fault → Fault → Fault → Result Claims Fault
four aligned behind room large ends c f g h k =
    cond aligned (cond (behind && room) (cond large (cond (behind && ends) (Ok c) (Err k)) (Err h)) (Err g)) (Err f)

four_fault : (aligned behind room large ends : Bool) (c : Claims) (f g h k : Fault)
    → fault_of (four aligned behind room large ends c f g h k)
    ≡ cond aligned (cond (behind && room) (cond large (cond ends None (Some k)) (Some h)) (Some g)) (Some f)
four_fault false behind room large ends c f g h k = refl
four_fault true false room large ends c f g h k = refl
four_fault true true false large ends c f g h k = refl
four_fault true true true false ends c f g h k = refl
four_fault true true true true false c f g h k = refl
four_fault true true true true true c f g h k = refl

four_passed : (aligned behind room large ends : Bool) (c d : Claims) (f g h k : Fault)
    → four aligned behind room large ends c f g h k ≡ Ok d → (behind ≡ true) × (d ≡ c)
four_passed false behind room large ends c d f g h k e = absurd cc
four_passed true false room large ends c d f g h k e = absurd cc
four_passed true true false large ends c d f g h k e = absurd cc
four_passed true true true false ends c d f g h k e = absurd cc
four_passed true true true true false c d f g h k e = absurd cc
four_passed true true true true true c d f g h k e = (refl, cc)

left_true : (a b : Bool) → (a && b) ≡ true → a ≡ true
left_true true b e = refl
left_true false b e = absurd cc

below : (a b : ℕ) → nat_le a b ≡ true → a ≤ b
below a b e = grind (arith, nat_tests)

-- ---- objects and indexes of marks with one more

objects_more : (xs : List Mark) (m : Mark) → objects (xs ++ (m ∷ [])) ≡ objects xs ++ objects (m ∷ [])
objects_more [] m = refl
objects_more (Test b k at ∷ xs) m = objects_more xs m
objects_more (Object s z e f k ∷ xs) m = let one : Extent = record { start = s; size = z } in ap (λ (es : List Extent). one ∷ es) (objects_more xs m)
objects_more (Handle i at ∷ xs) m = objects_more xs m
objects_more (Id i at ∷ xs) m = objects_more xs m

handles_more : (xs : List Mark) (m : Mark) → handles (xs ++ (m ∷ [])) ≡ handles xs ++ handles (m ∷ [])
handles_more [] m = refl
handles_more (Test b k at ∷ xs) m = handles_more xs m
handles_more (Object s z e f k ∷ xs) m = handles_more xs m
handles_more (Handle i at ∷ xs) m = ap (λ (is : List ℕ). i ∷ is) (handles_more xs m)
handles_more (Id i at ∷ xs) m = handles_more xs m

ids_more : (xs : List Mark) (m : Mark) → ids (xs ++ (m ∷ [])) ≡ ids xs ++ ids (m ∷ [])
ids_more [] m = refl
ids_more (Test b k at ∷ xs) m = ids_more xs m
ids_more (Object s z e f k ∷ xs) m = ids_more xs m
ids_more (Handle i at ∷ xs) m = ids_more xs m
ids_more (Id i at ∷ xs) m = ap (λ (is : List ℕ). i ∷ is) (ids_more xs m)

-- an end that is no less than all before is the greatest
end_more : (start : ℕ) (es : List Extent) (e : Extent) → greatest_end start es ≤ e.start + e.size → greatest_end start (es ++ (e ∷ [])) ≡ e.start + e.size
end_more start [] e le = omega arith
end_more start (x ∷ xs) e le =
    let rest : greatest_end start (xs ++ (e ∷ [])) ≡ e.start + e.size = end_more start xs e (omega (arith, le)) in
    omega (arith, rest, le)

-- and so is an index
index_more : (is : List ℕ) (i : ℕ) → next_index is ≤ i → next_index (is ++ (i ∷ [])) ≡ i + 1
index_more [] i le = omega arith
index_more (x ∷ xs) i le =
    let rest : next_index (xs ++ (i ∷ [])) ≡ i + 1 = index_more xs i (omega (arith, le)) in
    omega (arith, rest, le)

module _ (start end handle_count id_count : ℕ) where
  -- what is claimed up to a place, an index of a handle and one of an id
  abbrev claims_at : ℕ → ℕ → ℕ → Claims
  claims_at next handle id =
      record { next = next; end = end; next_handle = handle; handles = handle_count; next_id = id; ids = id_count }

  at_same : (next next' handle handle' id id' : ℕ) → next ≡ next' → handle ≡ handle' → id ≡ id' → claims_at next handle id ≡ claims_at next' handle' id'
  at_same next next' handle handle' id id' a b c = rw (a, b, c) refl

  abbrev pub claims_behind : List Mark → Claims
  claims_behind before = claims_at (greatest_end start (objects before)) (next_index (handles before)) (next_index (ids before))

  -- the fault of a mark is that of the first of its tests that fails
  pub told : (before : List Mark) (m : Mark)
      → fault_of (step (claims_behind before) m) ≡ first_failed (tests_behind start end handle_count id_count before m)
  unfolding step
  told before (Test b k at) = one_fault b (claims_behind before) (fault k at)
  told before (Object at size extra fine header) =
      let from = greatest_end start (objects before) in
      let after : Claims = claims_at (at + size) (next_index (handles before)) (next_index (ids before)) in
      four_fault (at % 8 == 0) (nat_le from at) (nat_le (at + 8) end) (nat_le (8 + extra) size && fine) (nat_le (at + size) end) after
      (fault MisalignedObject at) (fault IllegalMemoryRange at) (fault header at) (fault IllegalMemoryRange at)
  told before (Handle index at) =
      let holds = nat_le (next_index (handles before)) index && nat_lt index handle_count in
      one_fault holds (claims_at (greatest_end start (objects before)) (index + 1) (next_index (ids before))) (fault IllegalHandle at)
  told before (Id index at) =
      let holds = nat_le (next_index (ids before)) index && nat_lt index id_count in
      one_fault holds (claims_at (greatest_end start (objects before)) (next_index (handles before)) (index + 1)) (fault IllegalInterfaceId at)

  -- behind a mark that passes
  module _ (before : List Mark) where
    abbrev from : ℕ
    from = greatest_end start (objects before)

    abbrev handle : ℕ
    handle = next_index (handles before)

    abbrev id : ℕ
    id = next_index (ids before)

    -- where a mark has no object, no handle or no id
    same_end : (m : Mark) → objects (m ∷ []) ≡ [] → from ≡ greatest_end start (objects (before ++ (m ∷ [])))
    same_end m none = sym (ap (greatest_end start) (objects_more before m ∙ ap (λ (es : List Extent). objects before ++ es) none ∙ append-nil (objects before)))

    same_handle : (m : Mark) → handles (m ∷ []) ≡ [] → handle ≡ next_index (handles (before ++ (m ∷ [])))
    same_handle m none = sym (ap next_index (handles_more before m ∙ ap (λ (is : List ℕ). handles before ++ is) none ∙ append-nil (handles before)))

    same_id : (m : Mark) → ids (m ∷ []) ≡ [] → id ≡ next_index (ids (before ++ (m ∷ [])))
    same_id m none = sym (ap next_index (ids_more before m ∙ ap (λ (is : List ℕ). ids before ++ is) none ∙ append-nil (ids before)))

    pub advanced : (m : Mark) (d : Claims) → step (claims_behind before) m ≡ Ok d → d ≡ claims_behind (before ++ (m ∷ []))
    unfolding step
    advanced (Test b k at) d e =
        let m = Test b k at in
        (one_passed b (claims_behind before) d (fault k at) e).1
        ∙ at_same from _ handle _ id _ (same_end m refl) (same_handle m refl) (same_id m refl)
    advanced (Object at size extra fine header) d e =
        let m = Object at size extra fine header in
        let one : Extent = record { start = at; size = size } in
        let p =
        four_passed (at % 8 == 0) (nat_le from at) (nat_le (at + 8) end) (nat_le (8 + extra) size && fine) (nat_le (at + size) end)
        (claims_at (at + size) handle id) d (fault MisalignedObject at) (fault IllegalMemoryRange at) (fault header at) (fault IllegalMemoryRange at) e in
        let after = below from at p.0 in
        let last : at + size ≡ greatest_end start (objects (before ++ (m ∷ []))) =
        sym (ap (greatest_end start) (objects_more before m) ∙ end_more start (objects before) one (omega (arith, after))) in
        p.1 ∙ at_same (at + size) _ handle _ id _ last (same_handle m refl) (same_id m refl)
    advanced (Handle index at) d e =
        let m = Handle index at in
        let p =
        one_passed (nat_le handle index && nat_lt index handle_count) (claims_at from (index + 1) id) d (fault IllegalHandle at) e in
        let above = below handle index (left_true (nat_le handle index) (nat_lt index handle_count) p.0) in
        let last : index + 1 ≡ next_index (handles (before ++ (m ∷ []))) =
        sym (ap next_index (handles_more before m) ∙ index_more (handles before) index above) in
        p.1 ∙ at_same from _ (index + 1) _ id _ (same_end m refl) last (same_id m refl)
    advanced (Id index at) d e =
        let m = Id index at in
        let p =
        one_passed (nat_le id index && nat_lt index id_count) (claims_at from handle (index + 1)) d (fault IllegalInterfaceId at) e in
        let above = below id index (left_true (nat_le id index) (nat_lt index id_count) p.0) in
        let last : index + 1 ≡ next_index (ids (before ++ (m ∷ []))) =
        sym (ap next_index (ids_more before m) ∙ index_more (ids before) index above) in
        p.1 ∙ at_same from _ handle _ (index + 1) _ (same_end m refl) (same_handle m refl) last
