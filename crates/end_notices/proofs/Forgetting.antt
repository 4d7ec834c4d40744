-- Waits of which the first so many are forgotten.
use Rattle.std.proofs.Common.{◌≡◌, ◌≤◌, ◌+◌, ℕ, List, length, drop, sym, ap, ◌∙◌}
use Rattle.std.proofs.lemmas.List.{drop-drop, drop_all}
use Rattle.end_notices.specs.declared.waits.Wait.{Wait}

-- one more is forgotten
pub one_less : (n : ℕ) (ws : List Wait) → drop 1 (drop n ws) ≡ drop (n + 1) ws
one_less n ws = drop-drop 1 n ws

-- where all are, no more can be
pub none_left : (n : ℕ) (ws : List Wait) → length ws ≤ n → drop 1 (drop n ws) ≡ drop n ws
none_left n ws most = ap (λ (left : List Wait). drop 1 left) (drop_all n ws most) ∙ sym (drop_all n ws most)
