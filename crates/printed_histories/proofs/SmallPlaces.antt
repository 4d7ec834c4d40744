-- The faults of a message lie at places of 64 bits.
use Rattle.std.proofs.Common.{◌≡◌, ◌<◌, ◌≤◌, ℕ, zero, suc, ◌+◌, ◌*◌, ◌^◌, Bool, true, false, List, [], ◌∷◌, length, refl, ap, subst, arith}
use Rattle.std.specs.Prelude.{Option, Some, None, Result, Ok, Err, ◌==◌, ◌&&◌, ◌%◌, nat_lt, if◌then◌else◌}
use Rattle.std.proofs.lemmas.Bool.{ltb-true}
use Rattle.std.proofs.lemmas.Bool.Decides.{nat_tests}
use Rattle.mj_base.specs.declared.fault.Fault.{Fault}
use Rattle.mj_base.specs.declared.fault.FaultKind.{FaultKind}
use Rattle.mj_base.specs.declared.fault.FaultKind.TheVariants.{IllegalInterfaceId, MessageHeaderInvalidFlags, MessageHeaderUnknownMethod}
use Rattle.mj_base.specs.Bytes.{number32, number64}
use Rattle.mj_schema.specs.KindTrees.{StructKind}
use Rattle.mj_schema.specs.declared.rows.MethodRow.{MethodRow}
use Rattle.mj_schema.specs.declared.schema.Schema.{Schema}
use Rattle.bounds_claims.specs.Runs.{first_fault, run, step}
use Rattle.bounds_claims.specs.declared.claims.Claims.{Claims}
use Rattle.control_bytes.specs.Controls.{control_marks, control_said}
use Rattle.message_header.specs.FirstFailed.{first_failed}
use Rattle.message_header.proofs.Facts.{ordered}
use Rattle.message_header.proofs.Fine.{AreTests, header_tests, passing_is_fine}
use Rattle.message_validator.specs.Before.{before_payload}
use Rattle.wire_model.specs.Expected.{flags_of, message_marks, method_marks, method_named, parameter_marks, struct_of}
use Rattle.wire_model.specs.HeaderMarks.{CONTROL_ID, header_marks, id_marks, ids_marks, payload_marks}
use Rattle.wire_model.specs.Marks.{Mark, Test, Object, Handle, Id, visit}
use Rattle.wire_model.specs.Message.{ids_read, payload_end, payload_start}
use Rattle.wire_model.specs.Stands.{IsFine}
use Rattle.wire_model.specs.Tight.{MAX_DEPTH}
use Rattle.wire_model.specs.declared.target.Expected.{Expected}
use Rattle.wire_model.specs.declared.target.MessageSide.{MessageSide}
use Rattle.bind_model.specs.Wire.{Header}
use Rattle.bind_model.specs.WireOf.{content_in, header_in, says_in, stands_in, struct_named, unless_fault}
use Rattle.history_reader.specs.Printable.{IsWide, AreBytes}
use Rattle.printed_histories.proofs.SmallFaults.{HasLowSlots, visit_near}
use Rattle.printed_histories.proofs.SmallRuns.{IsEnded, IsNear, near_none, near_both, near_test}
use Rattle.printed_histories.proofs.SmallWire.{number32_small}

-- ## Tests by themselves

-- each test that is reached lies at a place of 64 bits
record ArePlaced (ms : List Mark) : Type 0 where
  placed : (f : Fault) → first_failed ms ≡ Some f → IsWide f.at

placed_none : ArePlaced []
placed_none = record { placed = λ f e. absurd cc }

placed_test : (holds : Bool) (kind : FaultKind) (at : ℕ) (ms : List Mark) → IsWide at → (holds ≡ true → ArePlaced ms) → ArePlaced (Test holds kind at ∷ ms)
placed_test true kind at ms w rest = record { placed = (rest refl).placed }
placed_test false kind at ms w rest = record { placed = here }
  where
    here : (f : Fault) → Some (record { kind = kind; at = at }) ≡ Some f → IsWide f.at
    here f e = let same : record { kind = kind; at = at } ≡ f = cc in subst (λ (g : Fault). IsWide g.at) same w

placed_either : (b : Bool) (xs ys : List Mark) → (b ≡ true → ArePlaced xs) → (b ≡ false → ArePlaced ys) → ArePlaced (if b then xs else ys)
placed_either true xs ys x y = x refl
placed_either false xs ys x y = y refl

-- tests that hold end with no fault
fine_near : (end : ℕ) (ms : List Mark) → AreTests ms → IsFine ms → IsNear end ms
unfolding run step
fine_near end [] tests fine claims e = e
fine_near end (Test true kind at ∷ ms) tests fine claims e = fine_near end ms tests fine.1 claims e
fine_near end (Test false kind at ∷ ms) tests fine claims e = let no : false ≡ true = fine.0 in absurd cc
fine_near end (Object start size extra good header ∷ ms) tests fine claims e = absurd tests
fine_near end (Handle index at ∷ ms) tests fine claims e = absurd tests
fine_near end (Id index at ∷ ms) tests fine claims e = absurd tests

-- a fault is what is meant where there is one, and else there is none
fault_is : {A : Type 0} (o : Option Fault) (x : A) (f : Fault) → unless_fault o x ≡ Err f → o ≡ Some f
fault_is None x f e = absurd cc
fault_is (Some g) x f e = let same : g ≡ f = cc in ap (λ (h : Fault). Some h) same

none_is : {A : Type 0} (o : Option Fault) (x y : A) → unless_fault o x ≡ Ok y → o ≡ None
none_is None x y e = refl
none_is (Some g) x y e = absurd cc

-- ## The header

module _ (bytes : List ℕ) (are : AreBytes bytes) where
  ids_placed : (p n : ℕ) → p + 4 * n < 2 ^ 63 → ArePlaced (id_marks bytes p n)
  ids_placed p zero few = placed_none
  ids_placed p (suc n) few = placed_test (nat_lt 0 (number32 bytes p) && nat_lt (number32 bytes p) CONTROL_ID) IllegalInterfaceId p
      (id_marks bytes (p + 4) n) (omega (arith, few)) (λ h. ids_placed (p + 4) n (omega (arith, few)))

  array_placed : (s : ℕ) → ArePlaced (ids_marks bytes s)
  unfolding ids_marks
  array_placed s =
      let q = 40 + number64 bytes 40 in
      placed_either (number64 bytes 40 == 0) _ _ (λ none. placed_none)
      (λ some. placed_test _ _ 40 _ (omega arith)
      (λ small. let few : number64 bytes 40 < 2 ^ 32 = ltb-true (number64 bytes 40) (2 ^ 32) small in
      placed_test _ _ q _ (omega (arith, few))
      (λ a. placed_test _ _ q _ (omega (arith, few))
      (λ b. placed_test _ _ q _ (omega (arith, few))
      (λ c. placed_test _ _ q _ (omega (arith, few))
      (λ d. ids_placed (q + 8) (number32 bytes (q + 4)) (omega (arith, few, number32_small bytes are (q + 4)))))))))

  payload_placed : ArePlaced (payload_marks bytes)
  unfolding payload_marks
  payload_placed =
      let s = 32 + number64 bytes 32 in
      placed_either (number64 bytes 32 == 0) _ _ (λ none. placed_test _ _ 32 _ (omega arith) (λ no. placed_none))
      (λ some. placed_test _ _ 32 _ (omega arith)
      (λ small. let few : number64 bytes 32 < 2 ^ 32 = ltb-true (number64 bytes 32) (2 ^ 32) small in
      placed_test _ _ s _ (omega (arith, few)) (λ a. placed_test _ _ s _ (omega (arith, few)) (λ b. array_placed s))))

  tests_placed : ArePlaced (header_marks bytes)
  unfolding header_marks
  tests_placed = placed_test _ _ 0 _ (omega arith)
      (λ a. placed_test _ _ 0 _ (omega arith)
      (λ b. placed_test _ _ 0 _ (omega arith)
      (λ c. placed_test _ _ 0 _ (omega arith)
      (λ d. placed_test _ _ 16 _ (omega arith)
      (λ e. placed_test _ _ 16 _ (omega arith)
      (λ f. placed_either (nat_lt (number32 bytes 4) 2) _ _ (λ old. placed_none) (λ new. payload_placed)))))))

  pub header_placed : (f : Fault) → header_in bytes ≡ Err f → IsWide f.at
  header_placed f e = tests_placed.placed f
      (fault_is (first_failed (header_marks bytes)) (record { id = number32 bytes 8; ids = ids_read bytes }) f e)

  -- ## Behind a header that was read

  module _ (short : length bytes < 2 ^ 62) (h : Header) (headed : header_in bytes ≡ Ok h) where
    header_fine : IsFine (header_marks bytes)
    header_fine = passing_is_fine (header_marks bytes) (header_tests bytes)
        (none_is (first_failed (header_marks bytes)) (record { id = number32 bytes 8; ids = ids_read bytes }) h headed)

    start_low : payload_start bytes < 2 ^ 33
    start_low = go (nat_lt (number32 bytes 4) 2) refl
      where
        go : (b : Bool) → nat_lt (number32 bytes 4) 2 ≡ b → (if b then number32 bytes 0 else 32 + number64 bytes 32) < 2 ^ 33
        go true e = omega (arith, number32_small bytes are 0)
        go false e =
            let new : 2 ≤ number32 bytes 4 = grind (arith, nat_tests) in
            let few = (ordered bytes header_fine).payload new in
            omega (arith, few)

    end_low : payload_end bytes < 2 ^ 62
    end_low = go (nat_lt (number32 bytes 4) 2) (number64 bytes 40 == 0) refl
      where
        go : (b none : Bool) → nat_lt (number32 bytes 4) 2 ≡ b
            → (if b then length bytes else (if none then length bytes else 40 + number64 bytes 40)) < 2 ^ 62
        go true none e = short
        go false true e = short
        go false false e =
            let new : 2 ≤ number32 bytes 4 = grind (arith, nat_tests) in
            let few = (ordered bytes header_fine).ids new in
            omega (arith, few)

    control_placed : ArePlaced (control_marks bytes)
    unfolding control_marks
    control_placed =
        let p = payload_start bytes in
        let low = start_low in
        placed_test _ _ 12 _ (omega arith)
        (λ a. placed_test _ _ 16 _ (omega arith)
        (λ b. placed_test _ _ p _ (omega (arith, low))
        (λ c. placed_test _ _ p _ (omega (arith, low))
        (λ d. placed_test _ _ p _ (omega (arith, low))
        (λ e. placed_test _ _ p _ (omega (arith, low))
        (λ f. placed_test _ _ (p + 8) _ (omega (arith, low))
        (λ g. placed_test _ _ (p + 12) _ (omega (arith, low)) (λ h. placed_none))))))))

    pub says_placed : (f : Fault) → says_in bytes ≡ Err f → IsWide f.at
    says_placed f e = control_placed.placed f (fault_is (first_failed (control_marks bytes)) (control_said bytes) f e)

    module _ (schema : Schema) (low : HasLowSlots schema) where
      parameter_near : (side : MessageSide) (method : MethodRow) (o : Option ℕ) → IsNear (payload_end bytes) (parameter_marks schema side bytes method o)
      parameter_near side method None =
          near_test (payload_end bytes) false MessageHeaderUnknownMethod 12 [] (omega arith) (λ h. near_none (payload_end bytes))
      parameter_near side method (Some number) =
          let p = payload_start bytes in
          let start = start_low in
          near_test (payload_end bytes) (number32 bytes 16 % 4 == flags_of side method.response) MessageHeaderInvalidFlags 16
          (visit MAX_DEPTH schema bytes p p (StructKind number false)) (omega arith)
          (λ h. visit_near schema low bytes are (payload_end bytes) end_low MAX_DEPTH p p (StructKind number false) (omega (arith, start))
          (omega (arith, start)))

      method_near : (side : MessageSide) (o : Option MethodRow) → IsNear (payload_end bytes) (method_marks schema side bytes o)
      method_near side None =
          near_test (payload_end bytes) false MessageHeaderUnknownMethod 12 [] (omega arith) (λ h. near_none (payload_end bytes))
      method_near side (Some method) = parameter_near side method (struct_of side method)

      message_near : (expected : Expected) → IsNear (payload_end bytes) (message_marks schema expected bytes)
      unfolding message_marks
      message_near expected = near_both (payload_end bytes) (header_marks bytes) (method_marks schema expected.side bytes (method_named schema expected bytes))
          (fine_near (payload_end bytes) (header_marks bytes) (header_tests bytes) header_fine)
          (method_near expected.side (method_named schema expected bytes))

      pub stands_placed : (expected : Expected) (n : ℕ) (f : Fault) → stands_in schema expected bytes n ≡ Err f → IsWide f.at
      stands_placed expected n f e = go (run (before_payload bytes n) (message_marks schema expected bytes))
          (message_near expected (before_payload bytes n) refl)
          (fault_is (first_fault (before_payload bytes n) (message_marks schema expected bytes))
          (content_in schema expected bytes (struct_named schema expected bytes)) f e)
        where
          go : (r : Result Claims Fault) → IsEnded (payload_end bytes) r → ◌≡◌ {A = Option Fault} (elim r [ Ok after ↦ None | Err g ↦ Some g ]) (Some f)
              → IsWide f.at
          go (Ok after) i h = absurd cc
          go (Err g) i h = let same : g ≡ f = cc in subst (λ (h : Fault). IsWide h.at) same i
