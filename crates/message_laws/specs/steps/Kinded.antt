-- Kinds whose rows are there, and values of kinds that are not too deep.
use Rattle.std.specs.Prelude.{◌≡◌, ℕ, ◌≤◌, Bool, true, false, List, [], ◌∷◌}
use Rattle.mj_schema.specs.KindTrees as kinds
use Rattle.mj_schema.specs.KindTrees.{KindTree}
use Rattle.mj_schema.specs.WellFormed.{RowCounts, are_within, counts_of}
use Rattle.mj_schema.specs.declared.schema.Schema.{Schema}
use Rattle.wire_model.specs.Depth.{IsOfKind, AreOfKinds, levels, levels_in}
use Rattle.wire_model.specs.Marks.{Next}
use Rattle.wire_model.specs.Slots.{Slot}
use Rattle.wire_model.specs.Stands.{IsFine}
use Rattle.wire_model.specs.Trees.{Tree, Trees}
use Rattle.wire_model.specs.Values.{Behind}

-- how many rows a schema has
abbrev pub counts : Schema → RowCounts
counts schema = counts_of schema.structs schema.unions schema.enums schema.interfaces schema.consts

-- each row that a kind names is there
abbrev pub IsThere : Schema → KindTree → Type 0
IsThere schema k = are_within (counts schema) k ≡ true

-- and each that the kinds of slots name
abbrev pub AreThere : Schema → List Slot → Type 0
AreThere schema [] = Unit {0}
AreThere schema (s ∷ ss) = IsThere schema s.kind × AreThere schema ss

-- what stands behind a pointer
abbrev pub IsPointed : KindTree → Type 0
IsPointed (kinds.TextKind nullable) = Unit {0}
IsPointed (kinds.ArrayKind of count nullable) = Unit {0}
IsPointed (kinds.MapKind key value nullable) = Unit {0}
IsPointed (kinds.StructKind number nullable) = Unit {0}
IsPointed (kinds.UnionKind number nullable) = Unit {0}
IsPointed _ = ⊥

-- a value of a kind, at most so many objects deep
pub record IsValue (schema : Schema) (inline : Bool) (k : KindTree) (t : Tree) (most : ℕ) : Type 0 where
  pub kind : IsOfKind schema k t
  pub deep : levels inline t ≤ most

-- values for slots
pub record AreValues (schema : Schema) (ss : List Slot) (ts : Trees) (most : ℕ) : Type 0 where
  pub kinds : AreOfKinds schema ss ts
  pub deep : levels_in ts ≤ most

-- what is met behind pointers is a value of its kind, so deep
abbrev pub AreKindedBehind : Schema → Next → Behind → ℕ → Type 0
AreKindedBehind schema next then_ most =
    (from q : ℕ) (k : KindTree) → IsPointed k → IsThere schema k → IsFine (next from q k) → IsValue schema false k (then_ from q k) most
