-- The ids that a message carries, as they are read one after the other.
use Rattle.std.proofs.Common.{◌≡◌, ℕ, zero, suc, ◌+◌, List, [], ◌∷◌, ◌++◌, sym, ap, ◌∙◌, arith, add-one}
use Rattle.std.specs.Prelude.{◌*◌}
use Rattle.mj_base.specs.Bytes.{number32}
use Rattle.wire_model.specs.Message.{ids_from}

from_more : (bytes : List ℕ) (p k : ℕ) → ids_from bytes p (suc k) ≡ ids_from bytes p k ++ number32 bytes (p + 4 * k) ∷ []
from_more bytes p zero = ap (λ (q : ℕ). number32 bytes q ∷ []) (omega arith)
from_more bytes p (suc k) =
    ap (λ (ns : List ℕ). number32 bytes p ∷ ns) (from_more bytes (p + 4) k
    ∙ ap (λ (q : ℕ). ids_from bytes (p + 4) k ++ number32 bytes q ∷ []) (omega arith))

-- one more
pub more_carried : (bytes ids next : List ℕ) (start k n : ℕ) → ids ≡ ids_from bytes start k → n ≡ number32 bytes (start + 4 * k) → next ≡ ids ++ n ∷ []
    → next ≡ ids_from bytes start (k + 1)
more_carried bytes ids next start k n e f g =
    g ∙ (ap (λ (ns : List ℕ). ns ++ n ∷ []) e
    ∙ (ap (λ (m : ℕ). ids_from bytes start k ++ m ∷ []) f
    ∙ (sym (from_more bytes start k) ∙ ap (ids_from bytes start) (sym (add-one k)))))
