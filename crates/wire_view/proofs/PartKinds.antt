-- The kinds of the parts of what a view stands on.
use Rattle.std.proofs.Common.{◌≡◌, ℕ, List, Option, Some, Bor, sym, ap, subst, ◌∙◌}
use Rattle.std.specs.Prelude.{slice_get, option_and_then}
use Rattle.std.specs.Option.{option_map}
use Rattle.mj_schema.specs.KindTrees.{KindTree, kind_view}
use Rattle.mj_schema.specs.declared.kind.KindNode.{KindNode}
use Rattle.mj_schema.specs.declared.rows.FieldRow.{FieldRow}
use Rattle.mj_schema.specs.declared.rows.StructRow.{StructRow}
use Rattle.mj_schema.specs.declared.schema.Schema.{Schema}
use Rattle.wire_model.specs.Marks.{Next}
use Rattle.wire_model.specs.Rows.{kind_in}
use Rattle.wire_model.specs.Trees.{Tree}
use Rattle.wire_model.specs.Values.{Behind}
use Rattle.wire_view.specs.Ons.{on_kind}
use Rattle.wire_view.specs.Parts.{kind_at, list_kind}
use Rattle.wire_view.specs.declared.on.On.{On}
use Rattle.wire_view.specs.declared.on.On.TheVariants as ons
use Rattle.wire_view.specs.declared.places.Place.{Place}
use Rattle.wire_view.specs.steps.Placed.{IsPlace}

module _ (schema : Schema) (on : On) (i : ℕ) where
  pub struct_kind : (number : ℕ) (row : StructRow) → on ≡ ons.Struct number → Some row ≡ slice_get schema.structs number
      → option_map (λ (field : FieldRow). field.kind) (slice_get row.fields i) ≡ kind_at schema (on_kind on) i
  struct_kind number row is found =
      ap (option_and_then (λ (r : StructRow). option_map (λ (field : FieldRow). field.kind) (slice_get r.fields i))) found
      ∙ ap (λ o. kind_at schema (on_kind o) i) (sym is)

  pub array_kind : (of : Bor KindNode) → on ≡ ons.Array of → Some (kind_view of.now) ≡ kind_at schema (on_kind on) i
  array_kind of is = ap (λ o. kind_at schema (on_kind o) i) (sym is)

  pub map_kind : (key one : Bor KindNode) → on ≡ ons.Map key one → list_kind (kind_view key.now) (kind_view one.now) i ≡ kind_at schema (on_kind on) i
  map_kind key one is = ap (λ o. kind_at schema (on_kind o) i) (sym is)

  pub union_kind : (number : ℕ) → on ≡ ons.Union number → kind_in (slice_get schema.unions number) i ≡ kind_at schema (on_kind on) i
  union_kind number is = ap (λ o. kind_at schema (on_kind o) i) (sym is)

-- a place is that of the same part of the same kind
pub moved : (n : ℕ) (marks : Next) (next : Behind) (schema : Schema) (bytes : List ℕ) (place : Place) (found there : Option Tree) (of kind : Option KindTree)
    → found ≡ there → of ≡ kind → IsPlace n marks next schema bytes found of place → IsPlace n marks next schema bytes there kind place
moved n marks next schema bytes place found there of kind same like h =
    subst (λ (o : Option Tree). IsPlace n marks next schema bytes o kind place) same
    (subst (λ (k : Option KindTree). IsPlace n marks next schema bytes found k place) like h)
