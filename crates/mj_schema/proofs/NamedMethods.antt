-- The method of a name is the one of its ordinal.
use Rattle.std.proofs.Common.{◌≡◌, ℕ, zero, suc, List, [], ◌∷◌, map, refl, ap, subst, ◌∙◌}
use Rattle.std.specs.Prelude.{Bool, true, false, not, ◌||◌, ◌==◌, if◌then◌else◌, find, slice_get, Option, Some, None, option_and_then}
use Rattle.std.specs.List.{list_all, list_any}
use Rattle.std.specs.Str.{bytes_eq}
use Rattle.std.proofs.lemmas.Bool.{and_parts}
use Rattle.std.proofs.lemmas.Bool.Decides.{Decides-eqb}
use Rattle.mj_schema.specs.declared.rows.InterfaceRow.{InterfaceRow}
use Rattle.mj_schema.specs.declared.rows.MethodRow.{MethodRow}
use Rattle.mj_schema.specs.declared.schema.Schema.{Schema}
use Rattle.mj_schema.specs.Lookups.{method_in, method_called}
use Rattle.mj_schema.specs.WellFormed.{are_different, has_distinct_ordinals}
use Rattle.mj_schema.proofs.Clauses.{ordinals_differ}

abbrev ordinal_of : MethodRow → ℕ
ordinal_of method = method.ordinal

neither : (a b : Bool) → (a || b) ≡ false → (a ≡ false) × (b ≡ false)
neither false b e = (refl, e)
neither true b e = absurd cc

not_so : (b : Bool) → not b ≡ true → b ≡ false
not_so false e = refl
not_so true e = absurd cc

-- one that is found has none of the ordinals that none has
found_apart : (n : ℕ) (test : MethodRow → Bool) (ms : List MethodRow) (m : MethodRow) → find test ms ≡ Some m
    → list_any (λ (other : ℕ). n == other) (map ordinal_of ms) ≡ false → (n == m.ordinal) ≡ false
found_apart n test [] m e none = absurd cc
found_apart n test (x ∷ xs) m e none =
    let parts = neither (n == x.ordinal) (list_any (λ (other : ℕ). n == other) (map ordinal_of xs)) none in
    go parts.0 (λ later. found_apart n test xs m later parts.1) (test x) e
  where
    go : (n == x.ordinal) ≡ false → (find test xs ≡ Some m → (n == m.ordinal) ≡ false) → (b : Bool) → (if b then Some x else find test xs) ≡ Some m
        → (n == m.ordinal) ≡ false
    go here later true e = let same : x ≡ m = cc in subst (λ (r : MethodRow). (n == r.ordinal) ≡ false) same here
    go here later false e = later e

-- where ordinals differ, one that is found is the one of its ordinal
found_again : (test : MethodRow → Bool) (ms : List MethodRow) (m : MethodRow) → find test ms ≡ Some m → are_different (map ordinal_of ms) ≡ true
    → find (λ (o : MethodRow). o.ordinal == m.ordinal) ms ≡ Some m
found_again test [] m e differ = absurd cc
found_again test (x ∷ xs) m e differ =
    let parts = and_parts (not (list_any (λ (other : ℕ). x.ordinal == other) (map ordinal_of xs))) (are_different (map ordinal_of xs)) differ in
    let none = not_so (list_any (λ (other : ℕ). x.ordinal == other) (map ordinal_of xs)) parts.0 in
    go (λ later. found_again test xs m later parts.1) (λ later. found_apart x.ordinal test xs m later none) (test x) e
  where
    go : (find test xs ≡ Some m → find (λ (o : MethodRow). o.ordinal == m.ordinal) xs ≡ Some m) → (find test xs ≡ Some m → (x.ordinal == m.ordinal) ≡ false)
        → (b : Bool) → (if b then Some x else find test xs) ≡ Some m
        → (if x.ordinal == m.ordinal then Some x else find (λ (o : MethodRow). o.ordinal == m.ordinal) xs) ≡ Some m
    go again apart true e =
        let same : x ≡ m = cc in
        let equal : (x.ordinal == m.ordinal) ≡ true = (Decides-eqb x.ordinal m.ordinal).1 (ap ordinal_of same) in
        ap (λ (b : Bool). if b then Some x else find (λ (o : MethodRow). o.ordinal == m.ordinal) xs) equal ∙ e
    go again apart false e =
        ap (λ (b : Bool). if b then Some x else find (λ (o : MethodRow). o.ordinal == m.ordinal) xs) (apart e) ∙ again e

at_each : (rows : List InterfaceRow) (k : ℕ) (row : InterfaceRow) → list_all has_distinct_ordinals rows ≡ true → slice_get rows k ≡ Some row
    → has_distinct_ordinals row ≡ true
at_each [] k row all e = absurd cc
at_each (x ∷ xs) zero row all e =
    let same : x ≡ row = cc in
    subst (λ (r : InterfaceRow). has_distinct_ordinals r ≡ true) same (and_parts (has_distinct_ordinals x) (list_all has_distinct_ordinals xs) all).0
at_each (x ∷ xs) (suc k) row all e = at_each xs k row (and_parts (has_distinct_ordinals x) (list_all has_distinct_ordinals xs) all).1 e

-- for the law `named_method`
pub named_method : (schema : Schema) (interface : ℕ) (name : List ℕ) (method : MethodRow)
    → method_called schema.interfaces interface name ≡ Some method → method_in schema.interfaces interface method.ordinal ≡ Some method
named_method schema interface name method e = go (slice_get schema.interfaces interface) refl e
  where
    go : (o : Option InterfaceRow) → slice_get schema.interfaces interface ≡ o
        → option_and_then (λ (row : InterfaceRow). find (λ (m : MethodRow). bytes_eq m.name name) row.methods) o ≡ Some method
        → option_and_then (λ (row : InterfaceRow). find (λ (m : MethodRow). m.ordinal == method.ordinal) row.methods) o ≡ Some method
    go None at found = absurd cc
    go (Some row) at found =
        found_again (λ (m : MethodRow). bytes_eq m.name name) row.methods method found
        (at_each schema.interfaces interface row (ordinals_differ schema) at)
