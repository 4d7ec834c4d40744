-- Lists that are paired.
use Rattle.std.proofs.Common.{List, [], ◌∷◌, ◌++◌}
use Rattle.written_laws.specs.Rows.{ArePaired}

-- lists that fit, behind one another
pub paired_append : {A B : Type 0} (Fits : A → B → Type 0) (xs ys : List A) (ps qs : List B) → ArePaired Fits xs ps → ArePaired Fits ys qs
    → ArePaired Fits (xs ++ ys) (ps ++ qs)
paired_append Fits [] ys [] qs one two = two
paired_append Fits [] ys (p ∷ ps) qs one two = absurd one
paired_append Fits (x ∷ xs) ys [] qs one two = absurd one
paired_append Fits (x ∷ xs) ys (p ∷ ps) qs one two = (one.0, paired_append Fits xs ys ps qs one.1 two)
