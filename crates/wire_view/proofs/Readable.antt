-- Readable marks as a test.
use Rattle.std.proofs.Common.{◌≡◌, ℕ, true, List, [], ◌∷◌, refl}
use Rattle.std.proofs.lemmas.Bool.{and_parts, and_from, leb-true, le-leb}
use Rattle.wire_model.specs.Marks.{Mark, Test, Object, Handle, Id}
use Rattle.readable_marks.specs.Readable.{AreReadable}
use Rattle.wire_view.specs.Readable.{are_readable}

-- the test, and what it says
pub to_readable : (n : ℕ) (ms : List Mark) → are_readable n ms ≡ true → AreReadable n ms
to_readable n [] h = tt
to_readable n (Test b k at ∷ ms) h = let p = and_parts b (are_readable n ms) h in (p.0, to_readable n ms p.1)
to_readable n (Object s z e f k ∷ ms) h =
    let p = and_parts _ _ h in
    let q = and_parts _ _ p.1 in
    (leb-true _ _ p.0, (leb-true _ _ q.0, to_readable n ms q.1))
to_readable n (Handle i at ∷ ms) h = to_readable n ms h
to_readable n (Id i at ∷ ms) h = to_readable n ms h

pub from_readable : (n : ℕ) (ms : List Mark) → AreReadable n ms → are_readable n ms ≡ true
from_readable n [] h = refl
from_readable n (Test b k at ∷ ms) h = and_from b _ h.0 (from_readable n ms h.1)
from_readable n (Object s z e f k ∷ ms) h = and_from _ _ (le-leb _ _ h.0) (and_from _ _ (le-leb _ _ h.1.0) (from_readable n ms h.1.1))
from_readable n (Handle i at ∷ ms) h = from_readable n ms h
from_readable n (Id i at ∷ ms) h = from_readable n ms h
