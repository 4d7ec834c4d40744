-- Payloads and messages that one schema wrote, as another reads them.
use Rattle.std.proofs.Common.{◌≡◌, ℕ, zero, suc, ◌+◌, ◌%◌, ◌≤◌, Bool, true, false, List, [], ◌∷◌, ◌++◌, length, length-append, drop, Option, Some, refl, sym, ap, subst, ◌∙◌, arith}
use Rattle.std.specs.Prelude.{slice_get}
use Rattle.mj_schema.specs.declared.rows.StructRow.{StructRow}
use Rattle.mj_schema.specs.declared.schema.Schema.{Schema}
use Rattle.mj_schema.specs.KindTrees as kinds
use Rattle.mj_schema.specs.KindTrees.{KindTree, StructKind}
use Rattle.wire_model.specs.Absent.{absent_values}
use Rattle.wire_model.specs.Fits.{Fits, AreFit}
use Rattle.wire_model.specs.Kinded.{OrNull}
use Rattle.wire_laws.proofs.FlagReads.{flag_says, or_present, or_absent}
use Rattle.wire_model.specs.Indexes.{handles_of, handles_in, ids_of, ids_in}
use Rattle.wire_model.specs.Marks.{slots_up_to}
use Rattle.wire_model.specs.Rows.{member_kind, row_for, row_of}
use Rattle.wire_model.specs.Slots.{Slot, element_slots, map_slots, found_fields, found_version}
use Rattle.wire_model.specs.Stands.{up_from}
use Rattle.wire_model.specs.Tight.{IsEncodable, StandsFor, MAX_DEPTH, payload_of, marks_of}
use Rattle.wire_model.specs.Trees as values
use Rattle.wire_model.specs.Trees.{Tree, Trees, Fields, none, more, count}
use Rattle.wire_laws.specs.Carried.{Pair, Structs, KindFits, SlotsFit, IsClosed}
use Rattle.wire_laws.specs.Grown.{grown, grown_slots, grown_parameters, as_member}
use Rattle.wire_laws.proofs.Walked.{Walked, settled}
use Rattle.wire_laws.proofs.GoodRows.{good_schema}
use Rattle.wire_laws.proofs.Between.{stands_between}
use Rattle.wire_laws.proofs.CarriedObjects.{elements_from, map_fits, fit_count, slots_length, quiet_handles, quiet_ids, absent_quiet, grown_fields}
use Rattle.wire_laws.proofs.Carries.{carries}

module _ (w r : Schema) (P : Pair → Type 0) (closed : IsClosed w r P) where
  -- ---- what grows has the indexes that were written

  abbrev Kept : Tree → Type 0
  Kept t = (left : ℕ) (inline : Bool) (k k' : KindTree) → KindFits P k k' → Fits w left inline k t
      → (handles_of (grown r k' t) ≡ handles_of t) × (ids_of (grown r k' t) ≡ ids_of t)

  abbrev SlotsKept : Trees → Type 0
  SlotsKept ts = (left : ℕ) (ss ss' : List Slot) → SlotsFit P ss ss' → AreFit w left ss ts
      → (handles_in (grown_slots r ss' ts none) ≡ handles_in ts) × (ids_in (grown_slots r ss' ts none) ≡ ids_in ts)

  items_kept : (ts : Trees) → SlotsKept ts → Kept (values.Items ts)
  unfolding Fits
  items_kept ts go zero inline k k' f fits = absurd fits.5
  items_kept ts go (suc left) inline k k' f fits =
      let g : KindFits P (kinds.ArrayKind fits.0 fits.1 fits.2) k' = subst (λ x. KindFits P x k') fits.3 f in
      subst (λ (x : KindTree). (handles_of (grown r x (values.Items ts)) ≡ handles_in ts) × (ids_of (grown r x (values.Items ts)) ≡ ids_in ts)) (sym g.3)
      (go left (element_slots fits.0 0 (count ts)) (element_slots g.0 0 (count ts)) (elements_from P fits.0 g.0 0 0 (count ts) g.4 refl) fits.5)

  pairs_kept : (ts : Trees) → SlotsKept ts → Kept (values.Pairs ts)
  unfolding Fits
  pairs_kept ts go zero inline k k' f fits = absurd fits.5
  pairs_kept ts go (suc left) inline k k' f fits =
      let g : KindFits P (kinds.MapKind fits.0 fits.1 fits.2) k' = subst (λ x. KindFits P x k') fits.3 f in
      subst (λ (x : KindTree). (handles_of (grown r x (values.Pairs ts)) ≡ handles_in ts) × (ids_of (grown r x (values.Pairs ts)) ≡ ids_in ts)) (sym g.3)
      (go left (map_slots fits.0 fits.1) (map_slots g.0 g.1) (map_fits P fits.0 fits.1 g.0 g.1 g.4 g.5) fits.5)

  struct_kept : (ts : Trees) → SlotsKept ts → (left i j : ℕ) (n' : Bool) (row : StructRow) → slice_get w.structs i ≡ Some row → P (Structs i j)
      → AreFit w left (found_fields (Some row)) ts
      → (handles_of (grown r (StructKind j n') (Fields ts)) ≡ handles_in ts) × (ids_of (grown r (StructKind j n') (Fields ts)) ≡ ids_in ts)
  struct_kept ts go left i j n' row e pair fits =
      let there = closed.structs i j row pair e in
      let row' = there.0 in
      let version = found_version (Some row) in
      let ss' = slots_up_to row' version in
      let rest : Trees = absent_values r (drop (row_for row'.versions version).fields row'.fields) in
      let quiet = absent_quiet r (drop (row_for row'.versions version).fields row'.fields) in
      let counted : count ts ≡ (row_for row'.versions version).fields = fit_count w left (found_fields (Some row)) ts fits ∙ slots_length row.fields
      ∙ sym there.2.fields in
      let same = grown_fields w r P closed [] (good_schema w) (good_schema r) j n' row' version ts there.1 counted in
      let one = go left (found_fields (Some row)) ss' there.2.slots fits in (
        ap handles_of same ∙ sym (quiet_handles r ss' ts rest quiet.0) ∙ one.0,
        ap ids_of same ∙ sym (quiet_ids r ss' ts rest quiet.1) ∙ one.1,
      )

  struct_of_kept : (ts : Trees) → SlotsKept ts → (left : ℕ) (k k' : KindTree) (row : StructRow) → KindFits P k k' → row_of w k ≡ Some row
      → AreFit w left (found_fields (Some row)) ts
      → (handles_of (grown r k' (Fields ts)) ≡ handles_in ts) × (ids_of (grown r k' (Fields ts)) ≡ ids_in ts)
  struct_of_kept ts go left (kinds.StructKind i n) k' row f e fits =
      subst (λ (x : KindTree). (handles_of (grown r x (Fields ts)) ≡ handles_in ts) × (ids_of (grown r x (Fields ts)) ≡ ids_in ts)) (sym f.2)
      (struct_kept ts go left i f.0 f.1 row e f.3 fits)
  struct_of_kept ts go left k k' row f e fits = absurd cc

  fields_kept : (ts : Trees) → SlotsKept ts → Kept (Fields ts)
  unfolding Fits
  fields_kept ts go zero inline k k' f fits = absurd fits.2
  fields_kept ts go (suc left) inline k k' f fits = struct_of_kept ts go left k k' fits.0 f fits.1 fits.2

  union_kept : (tag : ℕ) (t : Tree) → Kept t → (left : ℕ) (k k' m : KindTree) → KindFits P k k' → member_kind w k tag ≡ Some m → Fits w left false m t
      → (handles_of (grown r k' (values.Member tag t)) ≡ handles_of t) × (ids_of (grown r k' (values.Member tag t)) ≡ ids_of t)
  union_kept tag t go left (kinds.UnionKind u n) k' m f e fits =
      let there = closed.unions u f.0 tag m f.3 e in
      let one = go left false m there.0 there.2 fits in
      subst (λ (x : KindTree). (handles_of (grown r x (values.Member tag t)) ≡ handles_of t) × (ids_of (grown r x (values.Member tag t)) ≡ ids_of t))
      (sym f.2) (
        ap (λ (o : Option KindTree). handles_of (as_member o t (λ x. grown r x t))) there.1 ∙ one.0,
        ap (λ (o : Option KindTree). ids_of (as_member o t (λ x. grown r x t))) there.1 ∙ one.1,
      )
  union_kept tag t go left k k' m f e fits = absurd cc

  member_kept : (tag : ℕ) (t : Tree) → Kept t → Kept (values.Member tag t)
  unfolding Fits
  member_kept tag t go left true k k' f fits = union_kept tag t go left k k' fits.0 f fits.1 fits.3
  member_kept tag t go zero false k k' f fits = absurd fits.3
  member_kept tag t go (suc left) false k k' f fits = union_kept tag t go left k k' fits.0 f fits.1 fits.3

  by_says : (b : Bool) (Q : Bool → Type 0) → Q true → Q false → Q b
  by_says true Q one two = one
  by_says false Q one two = two

  -- null holds no index
  flagged_kept : (flag : Option ℕ) (t : Tree) (left : ℕ) (k k' : KindTree) → KindFits P k k' → Kept t → OrNull flag t (Fits w left true k t)
      → (handles_of (grown r k' t) ≡ handles_of t) × (ids_of (grown r k' t) ≡ ids_of t)
  flagged_kept flag t left k k' f go fits =
      by_says (flag_says flag t)
      (λ b. flag_says flag t ≡ b → (handles_of (grown r k' t) ≡ handles_of t) × (ids_of (grown r k' t) ≡ ids_of t))
      (λ yes'. go left true k k' f (or_present flag t (Fits w left true k t) yes' fits))
      (λ no'. subst (λ (x : Tree). (handles_of (grown r k' x) ≡ handles_of x) × (ids_of (grown r k' x) ≡ ids_of x)) (sym (or_absent flag t no'))
      (refl, refl)) refl

  mutual
    unfolding Fits

    kept : (t : Tree) → Kept t
    kept (values.Flag b) = λ left inline k k' f fits. (refl, refl)
    kept (values.Whole n) = λ left inline k k' f fits. (refl, refl)
    kept (values.Text bs) = λ left inline k k' f fits. (refl, refl)
    kept (values.Items ts) = items_kept ts (slots_kept ts)
    kept (values.Pairs ts) = pairs_kept ts (slots_kept ts)
    kept (values.Fields ts) = fields_kept ts (slots_kept ts)
    kept (values.Member tag t) = member_kept tag t (kept t)
    kept (values.Unknown tag) = λ left inline k k' f fits. (refl, refl)
    kept (values.Handle i) = λ left inline k k' f fits. (refl, refl)
    kept (values.Remote i v) = λ left inline k k' f fits. (refl, refl)
    kept (values.EndpointRemote i v) = λ left inline k k' f fits. (refl, refl)
    kept (values.Endpoint i) = λ left inline k k' f fits. (refl, refl)
    kept values.Null = λ left inline k k' f fits. (refl, refl)

    slots_kept : (ts : Trees) → SlotsKept ts
    slots_kept none left ss ss' like fits = (refl, refl)
    slots_kept (more t ts) left [] ss' like fits = absurd fits
    slots_kept (more t ts) left (s ∷ ss) [] like fits = absurd like
    slots_kept (more t ts) left (s ∷ ss) (s' ∷ ss') like fits =
        let one = flagged_kept s.flag t left s.kind s'.kind like.2 (kept t) fits.0 in
        let rest = slots_kept ts left ss ss' like.3 fits.1 in (
          ap (λ (l : List ℕ). l ++ handles_in (grown_slots r ss' ts none)) one.0 ∙ ap (λ (l : List ℕ). handles_of t ++ l) rest.0,
          ap (λ (l : List ℕ). l ++ ids_in (grown_slots r ss' ts none)) one.1 ∙ ap (λ (l : List ℕ). ids_of t ++ l) rest.1,
        )

  -- ---- payloads and messages

  -- the tight bytes of parameters by one schema stand by the other for what the parameters grow to
  pub payload_carries : (i j : ℕ) (ts : Trees) (handle_count id_count : ℕ) (front back : List ℕ) → P (Structs i j)
      → IsEncodable w i ts handle_count id_count → length front % 8 ≡ 0
      → StandsFor r (front ++ (payload_of w i ts ++ back)) (length front) (length front + length (payload_of w i ts)) j (grown_parameters r j ts)
      handle_count id_count
  payload_carries i j ts handle_count id_count front back pair ok mult =
      let payload = payload_of w i ts in
      let bytes = front ++ (payload ++ back) in
      let start = length front in
      let room : start + length payload ≤ length bytes = omega (arith, length-append front (payload ++ back), length-append payload back) in
      let like : KindFits P (StructKind i false) (StructKind j false) = (j, false, refl, pair, (λ n. n)) in
      let found = (carries w r P closed bytes (good_schema w) (good_schema r) (Fields ts)).0 MAX_DEPTH (StructKind i false) (StructKind j false) like tt ok.fits
      start start (stands_between front payload back) mult room ok.short in
      let same = kept (Fields ts) MAX_DEPTH false (StructKind i false) (StructKind j false) like ok.fits in
      let us : Trees = grown_parameters r j ts in
      let hs : Walked (marks_of r bytes start j) start (start + length payload) (up_from 0 handle_count) (ids_in us) =
      subst (λ (l : List ℕ). Walked (marks_of r bytes start j) start (start + length payload) l (ids_in us)) (same.0 ∙ ok.handles_in_order) found.walk in
      let all : Walked (marks_of r bytes start j) start (start + length payload) (up_from 0 handle_count) (up_from 0 id_count) =
      subst (λ (l : List ℕ). Walked (marks_of r bytes start j) start (start + length payload) (up_from 0 handle_count) l) (same.1 ∙ ok.ids_in_order) hs in
      record {
        settled = settled (marks_of r bytes start j) start (start + length payload) handle_count id_count mult all;
        tight = all.tight;
        handles_are = all.handles_are;
        ids_are = all.ids_are;
        means = found.means;
      }
