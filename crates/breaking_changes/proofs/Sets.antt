-- Sets of numbers, made one by one.
use Rattle.std.proofs.Common.{◌≡◌, ◌+◌, ◌<◌, ℕ, List, [], length, take, get_or, sym, ap, ◌∙◌}
use Rattle.std.specs.BTreeSet.{insert_key}
use Rattle.std.specs.List.{fold}
use Rattle.std.specs.declared.cmp.Ordering.{Ordering}
use Rattle.std.proofs.lemmas.List.Sums.{fold_more}

-- one number more
pub one_more : {K : Type 0} (cmp : K → K → Ordering) (numbers : List K) (i : ℕ) (d : K) (old new : List K) → i < length numbers
    → new ≡ insert_key cmp old (get_or numbers i d) → old ≡ fold (insert_key cmp) [] (take i numbers)
    → new ≡ fold (insert_key cmp) [] (take (i + 1) numbers)
one_more {K} cmp numbers i d old new lt is was =
    is ∙ (ap (λ (ks : List K). insert_key cmp ks (get_or numbers i d)) was ∙ sym (fold_more (insert_key cmp) [] numbers i d lt))
