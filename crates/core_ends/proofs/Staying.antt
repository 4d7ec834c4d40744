-- Lists of what was just made.
use Rattle.std.proofs.Common.{◌≡◌, List, [], ◌∷◌, ◌++◌, refl}
use Rattle.handle_table.specs.declared.thing.Thing.{Thing}

-- what was pushed one after the other
pub one_of : (none one all : List Thing) (x a : Thing) → none ≡ [] → one ≡ none ++ x ∷ [] → all ≡ one → x ≡ a → all ≡ a ∷ []
one_of none one all x a n o l e = rw (l, o, n, e) refl

pub two_of : (none one two all : List Thing) (x y a b : Thing) → none ≡ [] → one ≡ none ++ x ∷ [] → two ≡ one ++ y ∷ [] → all ≡ two → x ≡ a → y ≡ b
    → all ≡ a ∷ b ∷ []
two_of none one two all x y a b n o t l e f = rw (l, t, o, n, e, f) refl
