-- What one schema writes stands for the value as it grows by another schema, if their rows are pairs that are closed.
use Rattle.std.proofs.Common.{◌≡◌, ℕ, zero, suc, ◌+◌, ◌*◌, ◌/◌, ◌%◌, ◌^◌, ◌<◌, ◌≤◌, Bool, true, false, List, [], ◌∷◌, ◌++◌, length, length-append, Some, refl, sym, ap, subst, ◌∙◌, arith}
use Rattle.mj_schema.specs.declared.schema.Schema.{Schema}
use Rattle.wire_model.specs.Cells.{put_slot, put_present}
use Rattle.wire_model.specs.Emit.{emit, behind}
use Rattle.wire_model.specs.Slots.{Slot}
use Rattle.wire_model.specs.Rows.{member_kind}
use Rattle.mj_schema.specs.KindTrees as kinds
use Rattle.mj_schema.specs.KindTrees.{KindTree}
use Rattle.wire_model.specs.Trees as values
use Rattle.wire_model.specs.Trees.{Tree, Trees, none, more}
use Rattle.wire_model.specs.Marks.{has_value, marks_if, slot_marks, slots_marks, visit}
use Rattle.wire_model.specs.Values.{slots_value, value}
use Rattle.wire_model.specs.Tight.{MAX_PAYLOAD_BYTES}
use Rattle.wire_model.specs.Stands.{objects}
use Rattle.wire_model.specs.Indexes.{handles_of, handles_in, ids_of, ids_in}
use Rattle.wire_model.specs.Fits.{ArePlaced, IsGoodSchema, Fits}
use Rattle.wire_laws.specs.Carried.{Pair, KindFits, IsClosed}
use Rattle.wire_laws.specs.Grown.{grown, grown_slots}
use Rattle.wire_laws.proofs.Bytes.{Holds, Holds-left, Holds-right}
use Rattle.wire_laws.proofs.Lengths.{slot_length, present_length}
use Rattle.wire_laws.proofs.Placed.{still_clear, first_shown, flag_shown, slot_placed, slot_clear, value_clear, all_parts, value_part}
use Rattle.wire_laws.proofs.FlagReads.{ReadsParts, said, flag_says, or_present, or_absent, with_value}
use Rattle.wire_laws.proofs.Walked.{walked_nil, walked_append, tight_whole}
use Rattle.wire_laws.proofs.CellReads.{ReadsSlot}
use Rattle.wire_laws.proofs.SlotReads.{SlotPut}
use Rattle.wire_laws.proofs.CarriedCells.{Found}
use Rattle.wire_laws.proofs.CarriedSlots.{FoundBehind, FoundInside, slot_carried}
use Rattle.wire_laws.proofs.CarriedObjects.{FoundSlots, SlotsFound, text_carried, array_carried, union_carried, struct_carried, map_carried}

module _ (w r : Schema) (P : Pair → Type 0) (closed : IsClosed w r P) (bytes : List ℕ) where
  module _ (good : IsGoodSchema w) (good' : IsGoodSchema r) where
    text_behind : (bs : List ℕ) → FoundBehind w r P closed bytes (values.Text bs)
    unfolding Fits emit
    text_behind bs zero k k' f is fits from p h mult room small = absurd fits.2
    text_behind bs (suc left) k k' f is fits from p h mult room small =
        let g : KindFits P (kinds.TextKind fits.0) k' = subst (λ x. KindFits P x k') fits.1 f in
        let there : (x : KindTree) → x ≡ kinds.TextKind fits.0 → Holds bytes p (emit w false x (values.Text bs))
        → p + length (emit w false x (values.Text bs)) ≤ length bytes → length (emit w false x (values.Text bs)) ≤ MAX_PAYLOAD_BYTES
        → Found w r P closed bytes (suc left) from p (kinds.TextKind g.0) (values.Text bs) (p + length (emit w false x (values.Text bs))) =
        λ x e. subst (λ (y : KindTree). Holds bytes p (emit w false y (values.Text bs))
        → p + length (emit w false y (values.Text bs)) ≤ length bytes → length (emit w false y (values.Text bs)) ≤ MAX_PAYLOAD_BYTES
        → Found w r P closed bytes (suc left) from p (kinds.TextKind g.0) (values.Text bs) (p + length (emit w false y (values.Text bs)))) (sym e)
        (λ h' room' small'. text_carried w r P closed bytes good good' bs left from p fits.0 g.0 fits.2 h' mult room' small') in
        subst (λ (x : KindTree). Found w r P closed bytes (suc left) from p x (values.Text bs) (p + length (emit w false k (values.Text bs)))) (sym g.1)
        (there k fits.1 h room small)

    items_behind : (ts : Trees) → SlotsFound w r P closed bytes ts → FoundBehind w r P closed bytes (values.Items ts)
    unfolding Fits
    items_behind ts read zero k k' f is fits from p h mult room small = absurd fits.5
    items_behind ts read (suc left) k k' f is fits from p h mult room small =
        let g : KindFits P (kinds.ArrayKind fits.0 fits.1 fits.2) k' = subst (λ x. KindFits P x k') fits.3 f in
        let k2 : KindTree = kinds.ArrayKind g.0 g.1 g.2 in
        let there : (x : KindTree) → x ≡ kinds.ArrayKind fits.0 fits.1 fits.2 → Holds bytes p (emit w false x (values.Items ts))
        → p + length (emit w false x (values.Items ts)) ≤ length bytes → length (emit w false x (values.Items ts)) ≤ MAX_PAYLOAD_BYTES
        → Found w r P closed bytes (suc left) from p k2 (grown r k2 (values.Items ts)) (p + length (emit w false x (values.Items ts))) =
        λ x e. subst (λ (y : KindTree). Holds bytes p (emit w false y (values.Items ts))
        → p + length (emit w false y (values.Items ts)) ≤ length bytes → length (emit w false y (values.Items ts)) ≤ MAX_PAYLOAD_BYTES
        → Found w r P closed bytes (suc left) from p k2 (grown r k2 (values.Items ts)) (p + length (emit w false y (values.Items ts)))) (sym e)
        (λ h' room' small'. array_carried w r P closed bytes good good' ts read left from p fits.0 g.0 fits.1 g.1 fits.2 g.2 g.4 g.5 fits.4 fits.5 h' mult
        room' small') in
        subst (λ (x : KindTree). Found w r P closed bytes (suc left) from p x (grown r x (values.Items ts)) (p + length (emit w false k (values.Items ts))))
        (sym g.3) (there k fits.3 h room small)

    pairs_behind : (ts : Trees) → SlotsFound w r P closed bytes ts → FoundBehind w r P closed bytes (values.Pairs ts)
    unfolding Fits
    pairs_behind ts read zero k k' f is fits from p h mult room small = absurd fits.5
    pairs_behind ts read (suc left) k k' f is fits from p h mult room small =
        let g : KindFits P (kinds.MapKind fits.0 fits.1 fits.2) k' = subst (λ x. KindFits P x k') fits.3 f in
        let k2 : KindTree = kinds.MapKind g.0 g.1 g.2 in
        let there : (x : KindTree) → x ≡ kinds.MapKind fits.0 fits.1 fits.2 → Holds bytes p (emit w false x (values.Pairs ts))
        → p + length (emit w false x (values.Pairs ts)) ≤ length bytes → length (emit w false x (values.Pairs ts)) ≤ MAX_PAYLOAD_BYTES
        → Found w r P closed bytes (suc left) from p k2 (grown r k2 (values.Pairs ts)) (p + length (emit w false x (values.Pairs ts))) =
        λ x e. subst (λ (y : KindTree). Holds bytes p (emit w false y (values.Pairs ts))
        → p + length (emit w false y (values.Pairs ts)) ≤ length bytes → length (emit w false y (values.Pairs ts)) ≤ MAX_PAYLOAD_BYTES
        → Found w r P closed bytes (suc left) from p k2 (grown r k2 (values.Pairs ts)) (p + length (emit w false y (values.Pairs ts)))) (sym e)
        (λ h' room' small'. map_carried w r P closed bytes good good' ts read left from p fits.0 fits.1 g.0 g.1 fits.2 g.2 g.4 g.5 fits.4 fits.5 h' mult
        room' small') in
        subst (λ (x : KindTree). Found w r P closed bytes (suc left) from p x (grown r x (values.Pairs ts)) (p + length (emit w false k (values.Pairs ts))))
        (sym g.3) (there k fits.3 h room small)

    fields_behind : (ts : Trees) → SlotsFound w r P closed bytes ts → FoundBehind w r P closed bytes (values.Fields ts)
    unfolding Fits
    fields_behind ts read zero k k' f is fits from p h mult room small = absurd fits.2
    fields_behind ts read (suc left) k k' f is fits from p h mult room small =
        struct_carried w r P closed bytes good good' ts read left from p k k' fits.0 f fits.1 fits.2 h mult room small

    member_at : (tag : ℕ) (t : Tree) → FoundBehind w r P closed bytes t → (left : ℕ) (k k' m : KindTree) → KindFits P k k'
        → member_kind w k tag ≡ Some m → tag < 2 ^ 32 → Fits w left false m t → (from p : ℕ) → Holds bytes p (emit w false k (values.Member tag t)) → p % 8 ≡ 0
        → p + length (emit w false k (values.Member tag t)) ≤ length bytes → length (emit w false k (values.Member tag t)) ≤ MAX_PAYLOAD_BYTES
        → Found w r P closed bytes (suc left) from p k' (grown r k' (values.Member tag t)) (p + length (emit w false k (values.Member tag t)))
    member_at tag t read left (kinds.UnionKind u n) k' m f e lt fits from p h mult room small =
        let there = closed.unions u f.0 tag m f.3 e in
        subst (λ (x : KindTree). Found w r P closed bytes (suc left) from p x (grown r x (values.Member tag t))
        (p + length (emit w false (kinds.UnionKind u n) (values.Member tag t)))) (sym f.2)
        (union_carried w r P closed bytes good good' t read left from p u f.0 n f.1 tag m there.0 e there.1 there.2 lt fits h mult room small)
    member_at tag t read left k k' m f e lt fits from p h mult room small = absurd cc

    member_behind : (tag : ℕ) (t : Tree) → FoundBehind w r P closed bytes t → FoundBehind w r P closed bytes (values.Member tag t)
    unfolding Fits
    member_behind tag t read zero k k' f is fits from p h mult room small = absurd fits.3
    member_behind tag t read (suc left) k k' f is fits from p h mult room small =
        member_at tag t read left k k' fits.0 f fits.1 fits.2 fits.3 from p h mult room small

    -- ---- slots, one after the other

    one_more : (left base : ℕ) (s' : Slot) (ss' : List Slot) (t : Tree) (ts : Trees) (p q end : ℕ)
        → ReadsParts r bytes left base s' (grown r s'.kind t) p q → FoundSlots w r P closed bytes left base ss' ts q end
        → FoundSlots w r P closed bytes left base (s' ∷ ss') (more t ts) p end
    unfolding slots_marks slots_value
    one_more left base s' ss' t ts p q end one rest =
        let u = grown r s'.kind t in
        let us = grown_slots r ss' ts none in
        record {
          walk =
              walked_append (marks_if (has_value bytes base s'.flag) (slot_marks (visit left r bytes) r bytes (base + s'.place / 8) s'.kind))
              (slots_marks (visit left r bytes) r bytes base ss') p q end (handles_of u) (ids_of u) (handles_in us) (ids_in us) one.walk rest.walk;
          means = λ x. ap (λ (y : Tree). more y (slots_value (value left r bytes) r bytes base ss' x)) one.means ∙ ap (more u) (rest.means x);
        }

    -- where the flag is 0 nothing was written behind the slot
    null_there : (left base : ℕ) (s s' : Slot) (t : Tree) (p : ℕ) → has_value bytes base s'.flag ≡ false → t ≡ values.Null
        → ReadsParts r bytes left base s' (grown r s'.kind t) p (p + length (emit w true s.kind t))
    unfolding emit
    null_there left base s s' t p has is =
        subst (λ (x : Tree). ReadsParts r bytes left base s' (grown r s'.kind x) p (p + length (emit w true s.kind x))) (sym is)
        (record { walk = rw has (walked_nil p (p + 0) (omega arith)); means = rw has refl })

    by_says : (b : Bool) (Q : Bool → Type 0) → Q true → Q false → Q b
    by_says true Q one two = one
    by_says false Q one two = two

    none_left : (left base p q : ℕ) → p ≡ q → FoundSlots w r P closed bytes left base [] none p q
    unfolding slots_marks slots_value
    none_left left base p q e = record { walk = walked_nil p q e; means = λ rest. refl }

    mutual
      unfolding Fits emit

      pub carries : (t : Tree) → FoundBehind w r P closed bytes t × FoundInside w r P closed bytes t
      carries (values.Flag b) = (λ left k k' f is fits from p h mult room small. absurd is, tt)
      carries (values.Whole n) = (λ left k k' f is fits from p h mult room small. absurd is, tt)
      carries (values.Text bs) = (text_behind bs, tt)
      carries (values.Items ts) = (items_behind ts (carries_slots ts), tt)
      carries (values.Pairs ts) = (pairs_behind ts (carries_slots ts), tt)
      carries (values.Fields ts) = (fields_behind ts (carries_slots ts), tt)
      carries (values.Member tag t) = (member_behind tag t (carries t).0, (carries t).0)
      carries (values.Unknown tag) = (λ left k k' f is fits from p h mult room small. absurd is, tt)
      carries (values.Handle i) = (λ left k k' f is fits from p h mult room small. absurd is, tt)
      carries (values.Remote i v) = (λ left k k' f is fits from p h mult room small. absurd is, tt)
      carries (values.EndpointRemote i v) = (λ left k k' f is fits from p h mult room small. absurd is, tt)
      carries (values.Endpoint i) = (λ left k k' f is fits from p h mult room small. absurd is, tt)
      carries values.Null = (λ left k k' f is fits from p h mult room small. absurd is, tt)

      pub carries_slots : (ts : Trees) → SlotsFound w r P closed bytes ts
      carries_slots none left base [] [] body at like fits placed clear le holds backs mult room small =
          none_left left base (base + at) (base + at + 0) (omega arith)
      carries_slots none left base [] (s' ∷ ss') body at like fits placed clear le holds backs mult room small = absurd like
      carries_slots none left base (s ∷ ss) ss' body at like fits placed clear le holds backs mult room small = absurd fits
      carries_slots (more t ts) left base [] ss' body at like fits placed clear le holds backs mult room small = absurd fits
      carries_slots (more t ts) left base (s ∷ ss) [] body at like fits placed clear le holds backs mult room small = absurd like
      carries_slots (more t ts) left base (s ∷ ss) (s' ∷ ss') body at like fits placed clear le holds backs mult room small =
          let child = emit w true s.kind t in
          let tail = behind w ss ts in
          let new = put_slot w s t body at in
          let first = put_present s.flag t body in
          let len = length-append child tail in
          let n : length new ≡ length body = slot_length w s t body at in
          let m : length first ≡ length body = present_length s.flag t body in
          let pl = slot_placed s.flag (value_part s) (all_parts ss) (8 * length body) placed in
          let cl = slot_clear body s.flag (value_part s) (all_parts ss) clear in
          let slot : SlotPut w bytes base first s.place s.kind t at = record {
            aligned = pl.aligned;
            room = rw m pl.value;
            clear = value_clear s.flag t body (value_part s) (all_parts ss) pl cl;
            shown = first_shown w s ss t ts body at base bytes placed holds;
            after = omega (arith, m, le);
            whole = mult;
            back = Holds-left bytes (base + at) child tail backs;
            ends = omega (arith, len, room);
            small = omega (arith, len, small);
          } in
          let has = ap (has_value bytes base) like.1
          ∙ said bytes base body s.flag t pl.within cl.flag_clear (flag_shown w s ss t ts body at base bytes placed holds) in
          let one : ReadsParts r bytes left base s' (grown r s'.kind t) (base + at) (base + at + length child) =
          by_says (flag_says s.flag t)
          (λ b. flag_says s.flag t ≡ b → ReadsParts r bytes left base s' (grown r s'.kind t) (base + at) (base + at + length (emit w true s.kind t)))
          (λ yes'. with_value r bytes left base s' (grown r s'.kind t) (base + at) (base + at + length (emit w true s.kind t)) (has ∙ yes')
          (subst (λ (x : ℕ). ReadsSlot r bytes left (base + x / 8) (x % 8) s'.kind (grown r s'.kind t) (base + at)
          (base + at + length (emit w true s.kind t))) (sym like.0)
          (slot_carried w r P closed bytes base first s.place left at s.kind s'.kind t like.2
          (or_present s.flag t (Fits w left true s.kind t) yes' fits.0) slot (carries t).0 (carries t).1)))
          (λ no'. null_there left base s s' t (base + at) (has ∙ no') (or_absent s.flag t no')) refl in
          let place : base + at + length child ≡ base + (at + length child) = omega arith in
          let whole : (base + at + length child) % 8 ≡ 0 = tight_whole (base + at) (base + at + length child)
          (objects (marks_if (has_value bytes base s'.flag) (slot_marks (visit left r bytes) r bytes (base + s'.place / 8) s'.kind)))
          one.walk.tight mult in
          let backs2 : Holds bytes (base + (at + length child)) tail = subst (λ (q : ℕ). Holds bytes q tail) place
          (Holds-right bytes (base + at) child tail backs) in
          let rest = carries_slots ts left base ss ss' new (at + length child) like.3 fits.1
          (subst (λ (x : ℕ). ArePlaced (all_parts ss) (8 * x)) (sym n) pl.later)
          (still_clear w s t body at (all_parts ss) pl.aligned pl.value pl.within pl.alone pl.apart cl.later)
          (omega (arith, n, le)) holds backs2 (omega (arith, whole)) (omega (arith, len, room)) (omega (arith, len, small)) in
          let limit : base + (at + length child) + length tail ≡ base + at + length (child ++ tail) = omega (arith, len) in
          let rest2 : FoundSlots w r P closed bytes left base ss' ts (base + at + length child) (base + at + length (child ++ tail)) =
          subst (λ (x : ℕ). FoundSlots w r P closed bytes left base ss' ts x (base + at + length (child ++ tail))) (sym place)
          (subst (λ (x : ℕ). FoundSlots w r P closed bytes left base ss' ts (base + (at + length child)) x) limit rest) in
          one_more left base s' ss' t ts (base + at) (base + at + length child) (base + at + length (child ++ tail)) one rest2
