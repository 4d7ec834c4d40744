-- Nothing of a value is lost in what it grows to, if the rows are pairs that are closed.
use Rattle.std.proofs.Common.{◌≡◌, ℕ, zero, suc, true, false, List, [], ◌∷◌, drop, Option, Some, refl, sym, ap, subst, ◌∙◌}
use Rattle.std.specs.Prelude.{Bool, slice_get}
use Rattle.mj_schema.specs.KindTrees as kinds
use Rattle.mj_schema.specs.KindTrees.{KindTree}
use Rattle.mj_schema.specs.declared.rows.StructRow.{StructRow}
use Rattle.mj_schema.specs.declared.schema.Schema.{Schema}
use Rattle.wire_model.specs.Absent.{absent_values}
use Rattle.wire_model.specs.Fits.{Fits, AreFit}
use Rattle.wire_model.specs.Kinded.{OrNull}
use Rattle.wire_model.specs.Marks.{slots_up_to}
use Rattle.wire_model.specs.Rows.{member_kind, row_for, row_of}
use Rattle.wire_model.specs.Slots.{Slot, element_slots, map_slots, found_fields, found_version}
use Rattle.wire_model.specs.Trees as values
use Rattle.wire_model.specs.Trees.{Tree, Trees, none, more, count}
use Rattle.wire_laws.specs.Carried.{Pair, Structs, KindFits, SlotsFit, IsClosed}
use Rattle.wire_laws.specs.Grown.{grown, grown_slots, grown_parameters, as_member}
use Rattle.wire_laws.proofs.FlagReads.{flag_says, or_present, or_absent}
use Rattle.wire_laws.proofs.GoodRows.{good_schema}
use Rattle.wire_laws.proofs.CarriedObjects.{elements_from, map_fits, fit_count, slots_length, grown_fields}
use Rattle.compat_model.proofs.Lists.{by_test}
use Rattle.compat_laws.specs.Read.{GoesOn, GoOn}

module _ (w r : Schema) (P : Pair → Type 0) (closed : IsClosed w r P) where
  abbrev Kept : Tree → Type 0
  Kept t = (left : ℕ) (inline : Bool) (k k' : KindTree) → KindFits P k k' → Fits w left inline k t → GoesOn t (grown r k' t)

  abbrev SlotsKept : Trees → Type 0
  SlotsKept ts = (left : ℕ) (ss ss' : List Slot) (rest : Trees) → SlotsFit P ss ss' → AreFit w left ss ts → GoOn ts (grown_slots r ss' ts rest)

  -- as many values come out, where nothing stands behind them
  as_many : (ts : Trees) (left : ℕ) (ss ss' : List Slot) → SlotsFit P ss ss' → AreFit w left ss ts → count (grown_slots r ss' ts none) ≡ count ts
  unfolding Fits
  as_many none left ss ss' like fits = refl
  as_many (more t ts) left [] ss' like fits = absurd fits
  as_many (more t ts) left (s ∷ ss) [] like fits = absurd like
  as_many (more t ts) left (s ∷ ss) (s' ∷ ss') like fits = ap suc (as_many ts left ss ss' like.3 fits.1)

  items_kept : (ts : Trees) → SlotsKept ts → Kept (values.Items ts)
  unfolding Fits
  items_kept ts go zero inline k k' f fits = absurd fits.5
  items_kept ts go (suc left) inline k k' f fits =
      let g : KindFits P (kinds.ArrayKind fits.0 fits.1 fits.2) k' = subst (λ x. KindFits P x k') fits.3 f in
      let like = elements_from P fits.0 g.0 0 0 (count ts) g.4 refl in
      subst (λ (x : KindTree). GoesOn (values.Items ts) (grown r x (values.Items ts))) (sym g.3) (
        go left (element_slots fits.0 0 (count ts)) (element_slots g.0 0 (count ts)) none like fits.5,
        as_many ts left (element_slots fits.0 0 (count ts)) (element_slots g.0 0 (count ts)) like fits.5,
      )

  pairs_kept : (ts : Trees) → SlotsKept ts → Kept (values.Pairs ts)
  unfolding Fits
  pairs_kept ts go zero inline k k' f fits = absurd fits.5
  pairs_kept ts go (suc left) inline k k' f fits =
      let g : KindFits P (kinds.MapKind fits.0 fits.1 fits.2) k' = subst (λ x. KindFits P x k') fits.3 f in
      let like = map_fits P fits.0 fits.1 g.0 g.1 g.4 g.5 in
      subst (λ (x : KindTree). GoesOn (values.Pairs ts) (grown r x (values.Pairs ts))) (sym g.3) (
        go left (map_slots fits.0 fits.1) (map_slots g.0 g.1) none like fits.5,
        as_many ts left (map_slots fits.0 fits.1) (map_slots g.0 g.1) like fits.5,
      )

  -- the newer struct has a slot for each of the older one's newest version
  struct_kept : (ts : Trees) → SlotsKept ts → (left i j : ℕ) (n' : Bool) (row : StructRow) → slice_get w.structs i ≡ Some row → P (Structs i j)
      → AreFit w left (found_fields (Some row)) ts → GoesOn (values.Fields ts) (grown r (kinds.StructKind j n') (values.Fields ts))
  struct_kept ts go left i j n' row e pair fits =
      let there = closed.structs i j row pair e in
      let row' = there.0 in
      let version = found_version (Some row) in
      let ss' = slots_up_to row' version in
      let rest : Trees = absent_values r (drop (row_for row'.versions version).fields row'.fields) in
      let counted : count ts ≡ (row_for row'.versions version).fields = fit_count w left (found_fields (Some row)) ts fits ∙ slots_length row.fields
      ∙ sym there.2.fields in
      let same = grown_fields w r P closed [] (good_schema w) (good_schema r) j n' row' version ts there.1 counted in
      subst (λ (u : Tree). GoesOn (values.Fields ts) u) (sym same) (go left (found_fields (Some row)) ss' rest there.2.slots fits)

  struct_of_kept : (ts : Trees) → SlotsKept ts → (left : ℕ) (k k' : KindTree) (row : StructRow) → KindFits P k k' → row_of w k ≡ Some row
      → AreFit w left (found_fields (Some row)) ts → GoesOn (values.Fields ts) (grown r k' (values.Fields ts))
  struct_of_kept ts go left (kinds.StructKind i n) k' row f e fits =
      subst (λ (x : KindTree). GoesOn (values.Fields ts) (grown r x (values.Fields ts))) (sym f.2) (struct_kept ts go left i f.0 f.1 row e f.3 fits)
  struct_of_kept ts go left k k' row f e fits = absurd cc

  fields_kept : (ts : Trees) → SlotsKept ts → Kept (values.Fields ts)
  unfolding Fits
  fields_kept ts go zero inline k k' f fits = absurd fits.2
  fields_kept ts go (suc left) inline k k' f fits = struct_of_kept ts go left k k' fits.0 f fits.1 fits.2

  union_kept : (tag : ℕ) (t : Tree) → Kept t → (left : ℕ) (k k' m : KindTree) → KindFits P k k' → member_kind w k tag ≡ Some m → Fits w left false m t
      → GoesOn (values.Member tag t) (grown r k' (values.Member tag t))
  union_kept tag t go left (kinds.UnionKind u n) k' m f e fits =
      let there = closed.unions u f.0 tag m f.3 e in
      subst (λ (x : KindTree). GoesOn (values.Member tag t) (grown r x (values.Member tag t))) (sym f.2) (
        refl,
        subst (λ (o : Option KindTree). GoesOn t (as_member o t (λ x. grown r x t))) (sym there.1) (go left false m there.0 there.2 fits),
      )
  union_kept tag t go left k k' m f e fits = absurd cc

  member_kept : (tag : ℕ) (t : Tree) → Kept t → Kept (values.Member tag t)
  unfolding Fits
  member_kept tag t go left true k k' f fits = union_kept tag t go left k k' fits.0 f fits.1 fits.3
  member_kept tag t go zero false k k' f fits = absurd fits.3
  member_kept tag t go (suc left) false k k' f fits = union_kept tag t go left k k' fits.0 f fits.1 fits.3

  -- null stays null
  flagged_kept : (flag : Option ℕ) (t : Tree) (left : ℕ) (k k' : KindTree) → KindFits P k k' → Kept t → OrNull flag t (Fits w left true k t)
      → GoesOn t (grown r k' t)
  flagged_kept flag t left k k' f go fits =
      by_test (flag_says flag t) (λ _. GoesOn t (grown r k' t))
      (λ yes'. go left true k k' f (or_present flag t (Fits w left true k t) yes' fits))
      (λ no'. subst (λ (x : Tree). GoesOn x (grown r k' x)) (sym (or_absent flag t no')) refl)

  mutual
    unfolding Fits

    kept : (t : Tree) → Kept t
    kept (values.Flag b) = λ left inline k k' f fits. refl
    kept (values.Whole n) = λ left inline k k' f fits. refl
    kept (values.Text bs) = λ left inline k k' f fits. refl
    kept (values.Items ts) = items_kept ts (slots_kept ts)
    kept (values.Pairs ts) = pairs_kept ts (slots_kept ts)
    kept (values.Fields ts) = fields_kept ts (slots_kept ts)
    kept (values.Member tag t) = member_kept tag t (kept t)
    kept (values.Unknown tag) = λ left inline k k' f fits. refl
    kept (values.Handle i) = λ left inline k k' f fits. refl
    kept (values.Remote i v) = λ left inline k k' f fits. refl
    kept (values.EndpointRemote i v) = λ left inline k k' f fits. refl
    kept (values.Endpoint i) = λ left inline k k' f fits. refl
    kept values.Null = λ left inline k k' f fits. refl

    slots_kept : (ts : Trees) → SlotsKept ts
    slots_kept none left ss ss' rest like fits = tt
    slots_kept (more t ts) left [] ss' rest like fits = absurd fits
    slots_kept (more t ts) left (s ∷ ss) [] rest like fits = absurd like
    slots_kept (more t ts) left (s ∷ ss) (s' ∷ ss') rest like fits =
        (flagged_kept s.flag t left s.kind s'.kind like.2 (kept t) fits.0, slots_kept ts left ss ss' rest like.3 fits.1)

  -- so none of the parameters is lost
  pub parameters_kept : (i j left : ℕ) (ts : Trees) → P (Structs i j) → Fits w left false (kinds.StructKind i false) (values.Fields ts)
      → GoOn ts (grown_parameters r j ts)
  parameters_kept i j left ts pair fits =
      let like : KindFits P (kinds.StructKind i false) (kinds.StructKind j false) = (j, false, refl, pair, (λ n. n)) in
      kept (values.Fields ts) left false (kinds.StructKind i false) (kinds.StructKind j false) like fits
