-- The first fault of marks: that of the first mark that isn't settled behind those before it.
use Rattle.std.specs.Prelude.{◌≡◌, ℕ, ◌+◌, ◌%◌, max, nat_le, nat_lt, ◌==◌, ◌&&◌, List, [], ◌∷◌, ◌++◌, Some}
use Rattle.mj_base.specs.declared.fault.Fault.{Fault}
use Rattle.mj_base.specs.declared.fault.FaultKind.TheVariants.{MisalignedObject, IllegalMemoryRange, IllegalHandle, IllegalInterfaceId}
use Rattle.wire_model.specs.Marks.{Mark, Test, Object, Handle, Id}
use Rattle.wire_model.specs.Stands.{Extent, IsSettled, objects, handles, ids}
use Rattle.message_header.specs.FirstFailed.{first_failed}

-- where objects end: the greatest of their ends, and a start where there are none
abbrev pub greatest_end : ℕ → List Extent → ℕ
greatest_end start [] = start
greatest_end start (e ∷ es) = max (e.start + e.size) (greatest_end start es)

-- the least index above all of these
abbrev pub next_index : List ℕ → ℕ
next_index [] = 0
next_index (i ∷ is) = max (i + 1) (next_index is)

-- the tests of a mark behind others, in their order. An object is aligned, has room for its two numbers behind the objects before, is
-- large enough and fine, and ends in time; the index of a handle or of an id is above all before, and below their count.
abbrev pub tests_behind : ℕ → ℕ → ℕ → ℕ → List Mark → Mark → List Mark
tests_behind start end handle_count id_count before (Test holds kind at) = Test holds kind at ∷ []
tests_behind start end handle_count id_count before (Object at size extra fine header) =
    Test (at % 8 == 0) MisalignedObject at
    ∷ (Test (nat_le (greatest_end start (objects before)) at && nat_le (at + 8) end) IllegalMemoryRange at
    ∷ (Test (nat_le (8 + extra) size && fine) header at
    ∷ (Test (nat_le (at + size) end) IllegalMemoryRange at ∷ [])))
tests_behind start end handle_count id_count before (Handle index at) =
    Test (nat_le (next_index (handles before)) index && nat_lt index handle_count) IllegalHandle at ∷ []
tests_behind start end handle_count id_count before (Id index at) =
    Test (nat_le (next_index (ids before)) index && nat_lt index id_count) IllegalInterfaceId at ∷ []

-- the marks before one are settled, and this is the fault of the first of its tests that fails; those after it count for nothing
pub record IsFirstFault (ms : List Mark) (start end handle_count id_count : ℕ) (fault : Fault) : Type 0 where
  pub before : List Mark
  pub mark : Mark
  pub after : List Mark
  pub parts : ms ≡ before ++ (mark ∷ after)
  pub settled : IsSettled before start end handle_count id_count
  pub fails : first_failed (tests_behind start end handle_count id_count before mark) ≡ Some fault
