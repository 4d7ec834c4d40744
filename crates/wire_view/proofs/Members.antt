-- What a union holds, and the two lists of a map.
use Rattle.std.proofs.Common.{◌≡◌, ℕ, zero, suc, ◌+◌, ◌/◌, ◌≤◌, Bool, true, false, cond, List, Option, Some, None, refl, sym, ap, subst, arith}
use Rattle.std.specs.Prelude.{◌==◌}
use Rattle.std.proofs.lemmas.Bool.{eq-eqb}
use Rattle.std.proofs.lemmas.Bool.Decides.{nat_tests}
use Rattle.mj_base.specs.Bytes.{number32}
use Rattle.mj_schema.specs.KindTrees as kinds
use Rattle.mj_schema.specs.KindTrees.{KindTree}
use Rattle.mj_schema.specs.declared.kind.Width.TheVariants.{Bits8, Bits16, Bits32, Bits64}
use Rattle.mj_schema.specs.declared.rows.UnionRow.{UnionRow}
use Rattle.mj_schema.specs.declared.schema.Schema.{Schema}
use Rattle.wire_model.specs.Marks.{Next, member_marks, found_union_marks, cell_marks}
use Rattle.wire_model.specs.Rows.{kind_in, kind_of_tag}
use Rattle.wire_model.specs.Trees.{Tree, none, more}
use Rattle.wire_model.specs.Values.{Behind, found_union_value, member_value, cell_value}
use Rattle.wire_model.specs.steps.Cells.{cell_size}
use Rattle.readable_marks.specs.Readable.{AreReadable}
use Rattle.wire_view.specs.Parts.{nth, part, how_many, tag_of, is_object}

-- two numbers differ
differ : (a b : ℕ) → (a ≡ b → ⊥) → (a == b) ≡ false
differ a b h = grind (arith, nat_tests)

module _ (next : Behind) (bytes : List ℕ) (p : ℕ) where
  abbrev tag : ℕ
  tag = number32 bytes (p + 4)

  under : (i : ℕ) (k : KindTree) → (tag == i) ≡ true → Some (cell_value next bytes (p + 8) 0 k) ≡ part (member_value next bytes p tag (Some k)) i
  under i k same = ap (λ (b : Bool). cond b (Some (cell_value next bytes (p + 8) 0 k)) None) (sym same)

  not_under : (i : ℕ) (k : Option KindTree) → (tag == i) ≡ false → None ≡ part (member_value next bytes p tag k) i
  not_under i None other = refl
  not_under i (Some k) other = ap (λ (b : Bool). cond b (Some (cell_value next bytes (p + 8) 0 k)) None) (sym other)

  -- the part of the tag that is held
  pub member_found : (row : Option UnionRow) (i : ℕ) (k : KindTree) → tag ≡ i → Some k ≡ kind_in row tag
      → part (found_union_value next bytes p row) i ≡ Some (cell_value next bytes (p + 8) 0 k)
  member_found None i k e is = absurd cc
  member_found (Some row) i k e is =
      sym (subst (λ (o : Option KindTree). Some (cell_value next bytes (p + 8) 0 k) ≡ part (member_value next bytes p tag o) i) is
      (under i k (eq-eqb tag i e)))

  -- no part of another number
  pub other_member : (row : Option UnionRow) (i : ℕ) → (tag ≡ i → ⊥) → part (found_union_value next bytes p row) i ≡ None
  other_member None i h = refl
  other_member (Some row) i h = sym (not_under i (kind_of_tag row.fields tag) (differ tag i h))

  -- nor of a tag that is unknown
  pub unknown_member : (row : Option UnionRow) (i : ℕ) → None ≡ kind_in row tag → part (found_union_value next bytes p row) i ≡ None
  unknown_member None i is = refl
  unknown_member (Some row) i is = subst (λ (o : Option KindTree). part (member_value next bytes p tag o) i ≡ None) is refl

  -- how many parts there are
  pub one_member : (row : Option UnionRow) (k : KindTree) → Some k ≡ kind_in row tag → 1 ≡ how_many (found_union_value next bytes p row)
  one_member None k is = absurd cc
  one_member (Some row) k is = subst (λ (o : Option KindTree). 1 ≡ how_many (member_value next bytes p tag o)) is refl

  pub no_member : (row : Option UnionRow) → None ≡ kind_in row tag → 0 ≡ how_many (found_union_value next bytes p row)
  no_member None is = refl
  no_member (Some row) is = subst (λ (o : Option KindTree). 0 ≡ how_many (member_value next bytes p tag o)) is refl

  tag_held : (k : Option KindTree) → Some tag ≡ tag_of (member_value next bytes p tag k)
  tag_held None = refl
  tag_held (Some k) = refl

  -- the tag
  pub tag_found : (row : Option UnionRow) → is_object (found_union_value next bytes p row) ≡ true → Some tag ≡ tag_of (found_union_value next bytes p row)
  tag_found None whole = absurd cc
  tag_found (Some row) whole = tag_held (kind_of_tag row.fields tag)

-- its marks, and its room
pub member_readable : (n : ℕ) (next : Next) (schema : Schema) (bytes : List ℕ) (p : ℕ) (row : Option UnionRow) (k : KindTree)
    → Some k ≡ kind_in row (number32 bytes (p + 4)) → AreReadable n (found_union_marks next schema bytes p row)
    → AreReadable n (cell_marks next schema bytes (p + 8) k)
member_readable n next schema bytes p None k is h = absurd cc
member_readable n next schema bytes p (Some row) k is h =
    subst (λ (o : Option KindTree). AreReadable n (member_marks next schema bytes p o row.extensible)) (sym is) h

pub cell_fits : (k : KindTree) → (cell_size k + 7) / 8 ≤ 8
cell_fits (kinds.BoolKind x) = omega arith
cell_fits (kinds.IntKind Bits8 s x) = omega arith
cell_fits (kinds.IntKind Bits16 s x) = omega arith
cell_fits (kinds.IntKind Bits32 s x) = omega arith
cell_fits (kinds.IntKind Bits64 s x) = omega arith
cell_fits (kinds.EnumKind n x) = omega arith
cell_fits (kinds.TextKind x) = omega arith
cell_fits (kinds.HandleKind s x) = omega arith
cell_fits (kinds.ArrayKind of c x) = omega arith
cell_fits (kinds.MapKind k v x) = omega arith
cell_fits (kinds.StructKind n x) = omega arith
cell_fits (kinds.UnionKind n x) = omega arith
cell_fits (kinds.RemoteKind i x) = omega arith
cell_fits (kinds.ReceiverKind i x) = omega arith
cell_fits (kinds.AssociatedRemoteKind i x) = omega arith
cell_fits (kinds.AssociatedReceiverKind i x) = omega arith

-- the lists of a map
pub first_list : (a b : Tree) (i : ℕ) → i ≡ 0 → nth (more a (more b none)) i ≡ Some a
first_list a b i e = ap (nth (more a (more b none))) e

pub second_list : (a b : Tree) (i : ℕ) → i ≡ 1 → nth (more a (more b none)) i ≡ Some b
second_list a b i e = ap (nth (more a (more b none))) e

pub no_third : (a b : Tree) (i : ℕ) → (i ≡ 0 → ⊥) → (i ≡ 1 → ⊥) → nth (more a (more b none)) i ≡ None
no_third a b zero h g = absurd (h refl)
no_third a b (suc zero) h g = absurd (g refl)
no_third a b (suc (suc i)) h g = refl
