-- A struct whose fields are those of another and more, by its fields.
use Rattle.std.specs.Prelude.{◌≡◌, ◌<◌, ℕ, List, [], ◌∷◌}
use Rattle.mj_schema.specs.declared.rows.FieldRow.{FieldRow}
use Rattle.wire_laws.specs.Carried.{Pair, KindFits}

-- each field of the older struct has one of the newer at its place in the list, which has its version and a kind that fits
abbrev pub FieldsFit : (Pair → Type 0) → List FieldRow → List FieldRow → Type 0
FieldsFit P [] gs = Unit {0}
FieldsFit P (f ∷ fs) [] = ⊥
FieldsFit P (f ∷ fs) (g ∷ gs) = KindFits P f.kind g.kind × (g.min_version ≡ f.min_version) × FieldsFit P fs gs

-- the fields that only the newer struct has are of later versions than this
abbrev pub AreLater : ℕ → List FieldRow → List FieldRow → Type 0
AreLater v [] [] = Unit {0}
AreLater v [] (g ∷ gs) = (v < g.min_version) × AreLater v [] gs
AreLater v (f ∷ fs) [] = Unit {0}
AreLater v (f ∷ fs) (g ∷ gs) = AreLater v fs gs
