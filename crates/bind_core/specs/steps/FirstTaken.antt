-- Ends in order, and the first of them where a take is ready.
use Rattle.std.specs.Prelude.{◌≡◌, ◌⊎◌, Bool, true, List, [], ◌∷◌, Option, Some, None, if◌then◌else◌, is_some}
use Rattle.mj_base.specs.declared.ids.EndId.{EndId}
use Rattle.mj_base.specs.declared.ids.SeqId.{SeqId}
use Rattle.bind_model.specs.Ready.{is_before}

-- an end comes before all of these
abbrev pub IsFirst : EndId → List EndId → Type 0
IsFirst x [] = Unit {0}
IsFirst x (y ∷ ys) = (is_before x y ≡ true) × IsFirst x ys

-- each end comes before those that stand behind it
abbrev pub Ascends : List EndId → Type 0
Ascends [] = Unit {0}
Ascends (x ∷ xs) = IsFirst x xs × Ascends xs

-- the first end that somebody takes at, behind who does
abbrev pub first_taken : (EndId → Option SeqId) → List EndId → Option (SeqId × EndId)
first_taken takes [] = None
first_taken takes (x ∷ xs) = elim (takes x) [ Some t ↦ Some (t, x) | None ↦ first_taken takes xs ]

-- ## Of ends in any order

-- the lesser of what was found and an end where a sequence takes
abbrev pub lesser_of : Option (SeqId × EndId) → Option SeqId → EndId → Option (SeqId × EndId)
lesser_of found None x = found
lesser_of None (Some t) x = Some (t, x)
lesser_of (Some (s, y)) (Some t) x = if is_before x y then Some (t, x) else Some (s, y)

-- the least of what was found and those of these where somebody takes
abbrev pub least_among : (EndId → Option SeqId) → Option (SeqId × EndId) → List EndId → Option (SeqId × EndId)
least_among takes found [] = found
least_among takes found (x ∷ xs) = least_among takes (lesser_of found (takes x) x) xs

-- what was found is the least of those that are meant where somebody takes
abbrev pub IsLeast : (EndId → Option SeqId) → (EndId → Bool) → Option (SeqId × EndId) → Type 0
IsLeast takes meant None = (x : EndId) → meant x ≡ true → takes x ≡ None
IsLeast takes meant (Some (t, x)) =
    (takes x ≡ Some t) × ((y : EndId) → meant y ≡ true → is_some (takes y) ≡ true → (y ≡ x) ⊎ (is_before x y ≡ true))
