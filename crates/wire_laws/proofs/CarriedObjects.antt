-- What is behind a pointer that one schema wrote, read by another whose kind fits.
use Rattle.mj_base.specs.declared.fault.FaultKind.TheVariants as faults
use Rattle.std.proofs.Common.{◌≡◌, ℕ, zero, suc, ◌+◌, ◌-◌, ◌*◌, ◌/◌, ◌%◌, ◌^◌, ◌<◌, ◌≤◌, Bool, true, false, List, [], ◌∷◌, ◌++◌, length, map, take, drop, Option, Some, None, refl, sym, ap, subst, ◌∙◌, arith}
use Rattle.std.specs.Prelude.{slice_get}
use Rattle.std.proofs.lemmas.List.{length-replicate}
use Rattle.mj_schema.specs.declared.rows.StructRow.{StructRow}
use Rattle.mj_schema.specs.declared.rows.FieldRow.{FieldRow}
use Rattle.mj_schema.specs.declared.schema.Schema.{Schema}
use Rattle.mj_base.specs.Bytes.{number32, rounded8}
use Rattle.mj_schema.specs.Sizes.{size_of}
use Rattle.wire_model.specs.Cells.{UNION_BYTES, put_cell, zeros}
use Rattle.wire_model.specs.Emit.{emit, body_of, behind, object, text_object, struct_object, member_object}
use Rattle.wire_model.specs.Slots.{Slot, field_slot, element_slots, element_bytes, map_slots, found_fields, found_size, found_version}
use Rattle.wire_model.specs.steps.Cells.{cell_size}
use Rattle.wire_model.specs.Rows.{member_kind, row_for, row_of}
use Rattle.mj_schema.specs.KindTrees as kinds
use Rattle.mj_schema.specs.KindTrees.{KindTree}
use Rattle.wire_model.specs.Trees as values
use Rattle.wire_model.specs.Trees.{Tree, Trees, none, more, count}
use Rattle.wire_model.specs.Marks.{slots_marks, array_marks, object_marks, union_marks, count_is, slots_up_to, visit}
use Rattle.wire_model.specs.Values.{slots_value, object_value, value}
use Rattle.mj_schema.specs.declared.rows.Literal.{Literal}
use Rattle.mj_schema.specs.declared.rows.Literal.TheVariants as literals
use Rattle.wire_model.specs.Absent.{absent_kind, absent_field, absent_values, literal_value}
use Rattle.wire_model.specs.Texts.{valid_len}
use Rattle.wire_model.specs.Tight.{MAX_PAYLOAD_BYTES}
use Rattle.wire_model.specs.Indexes.{handles_of, handles_in, ids_of, ids_in}
use Rattle.wire_model.specs.Fits.{ArePlaced, IsGoodSchema, Fits, AreFit}
use Rattle.wire_model.specs.Kinded.{ArePaired}
use Rattle.wire_laws.specs.Carried.{Pair, Structs, KindFits, SlotsFit, CountFits, IsClosed}
use Rattle.wire_laws.specs.Grown.{grown, grown_slots, all_fields, as_member}
use Rattle.wire_laws.proofs.Bytes.{Holds}
use Rattle.wire_laws.proofs.Shown.{shown_of}
use Rattle.wire_laws.proofs.Cells.{Put, cell_at}
use Rattle.wire_laws.proofs.Lengths.{cell_length, cell_fits, body_length}
use Rattle.wire_laws.proofs.Placed.{AreClear, all_parts, all_clear, zeros_clear, any_aligned}
use Rattle.wire_laws.proofs.Walked.{Walked, walked_object}
use Rattle.wire_laws.proofs.CellReads.{ReadsCell, union_reads}
use Rattle.wire_laws.proofs.Elements.{size_positive, elements_placed, start_aligned, count_fits, content_as_slots, map_placed}
use Rattle.wire_laws.proofs.Objects.{parts, moved, trimmed, object_length, good_row, text_at, struct_walked}
use Rattle.wire_laws.proofs.MapReads.{two_lists, same_counts, map_walked, map_means}
use Rattle.wire_laws.proofs.CarriedCells.{Found, cell_carried}
use Rattle.wire_laws.proofs.CarriedSlots.{FoundBehind}

-- ---- kinds that fit have one size, so elements of them lie alike

pub size_kept : (P : Pair → Type 0) (k k' : KindTree) → KindFits P k k' → size_of k' ≡ size_of k
size_kept P (kinds.BoolKind nb) k' f = ap size_of f
size_kept P (kinds.IntKind w s nb) k' f = ap size_of f
size_kept P (kinds.EnumKind i nb) k' f = ap size_of f.1
size_kept P (kinds.TextKind n) k' f = ap size_of f.1
size_kept P (kinds.HandleKind sort n) k' f = ap size_of f.1
size_kept P (kinds.ArrayKind o c n) k' f = ap size_of f.3
size_kept P (kinds.MapKind a b n) k' f = ap size_of f.3
size_kept P (kinds.StructKind i n) k' f = ap size_of f.2
size_kept P (kinds.UnionKind i n) k' f = ap size_of f.2
size_kept P (kinds.RemoteKind i n) k' f = ap size_of f.2
size_kept P (kinds.ReceiverKind i n) k' f = ap size_of f.2
size_kept P (kinds.AssociatedRemoteKind i n) k' f = ap size_of f.2
size_kept P (kinds.AssociatedReceiverKind i n) k' f = ap size_of f.2

pub elements_from : (P : Pair → Type 0) (e e' : KindTree) (place place' n : ℕ) → KindFits P e e' → place' ≡ place
    → SlotsFit P (element_slots e place n) (element_slots e' place' n)
elements_from P e e' place place' zero f same = tt
elements_from P e e' place place' (suc n) f same =
    let size = size_kept P e e' f in
    (same, refl, f, elements_from P e e' (place + size_of e) (place' + size_of e') n f (omega (arith, size, same)))

pub map_fits : (P : Pair → Type 0) (a b a' b' : KindTree) → KindFits P a a' → KindFits P b b' → SlotsFit P (map_slots a b) (map_slots a' b')
map_fits P a b a' b' f g =
    (refl, refl, (a', None, false, refl, f, (λ n ok. ok), (λ ok. ok)), (refl, refl, (b', None, false, refl, g, (λ n ok. ok), (λ ok. ok)), tt))

-- ---- what grows

-- each slot of a value has a tree
pub fit_count : (schema : Schema) (left : ℕ) (ss : List Slot) (ts : Trees) → AreFit schema left ss ts → count ts ≡ length ss
unfolding Fits
fit_count schema left [] none fits = refl
fit_count schema left [] (more t ts) fits = absurd fits
fit_count schema left (s ∷ ss) none fits = absurd fits
fit_count schema left (s ∷ ss) (more t ts) fits = ap suc (fit_count schema left ss ts fits.1)

pub slots_length : (fs : List FieldRow) → length (map field_slot fs) ≡ length fs
slots_length [] = refl
slots_length (f ∷ fs) = ap suc (slots_length fs)

-- what grows behind holds no index
pub quiet_handles : (schema : Schema) (ss : List Slot) (ts rest : Trees) → handles_in rest ≡ []
    → handles_in (grown_slots schema ss ts none) ≡ handles_in (grown_slots schema ss ts rest)
quiet_handles schema ss none rest e = sym e
quiet_handles schema [] (more t ts) rest e = sym e
quiet_handles schema (s ∷ ss) (more t ts) rest e = ap (λ (l : List ℕ). handles_of (grown schema s.kind t) ++ l) (quiet_handles schema ss ts rest e)

pub quiet_ids : (schema : Schema) (ss : List Slot) (ts rest : Trees) → ids_in rest ≡ []
    → ids_in (grown_slots schema ss ts none) ≡ ids_in (grown_slots schema ss ts rest)
quiet_ids schema ss none rest e = sym e
quiet_ids schema [] (more t ts) rest e = sym e
quiet_ids schema (s ∷ ss) (more t ts) rest e = ap (λ (l : List ℕ). ids_of (grown schema s.kind t) ++ l) (quiet_ids schema ss ts rest e)

kind_quiet : (schema : Schema) (k : KindTree) → (handles_of (absent_kind schema k) ≡ []) × (ids_of (absent_kind schema k) ≡ [])
kind_quiet schema (kinds.BoolKind true) = (refl, refl)
kind_quiet schema (kinds.BoolKind false) = (refl, refl)
kind_quiet schema (kinds.IntKind x s true) = (refl, refl)
kind_quiet schema (kinds.IntKind x s false) = (refl, refl)
kind_quiet schema (kinds.EnumKind i true) = (refl, refl)
kind_quiet schema (kinds.EnumKind i false) = (refl, refl)
kind_quiet schema k = (refl, refl)

literal_quiet : (l : Literal) → (handles_of (literal_value l) ≡ []) × (ids_of (literal_value l) ≡ [])
literal_quiet (literals.Bool b) = (refl, refl)
literal_quiet (literals.Whole n) = (refl, refl)
literal_quiet (literals.Text bs) = (refl, refl)

field_quiet : (schema : Schema) (d : Option Literal) (k : KindTree)
    → (handles_of (absent_field schema d k) ≡ []) × (ids_of (absent_field schema d k) ≡ [])
field_quiet schema None k = kind_quiet schema k
field_quiet schema (Some l) k = literal_quiet l

pub absent_quiet : (schema : Schema) (fs : List FieldRow) → (handles_in (absent_values schema fs) ≡ []) × (ids_in (absent_values schema fs) ≡ [])
absent_quiet schema [] = (refl, refl)
absent_quiet schema (f ∷ fs) =
    let one = field_quiet schema f.default f.kind in
    let rest = absent_quiet schema fs in (
      ap (λ (l : List ℕ). l ++ handles_in (absent_values schema fs)) one.0 ∙ rest.0,
      ap (λ (l : List ℕ). l ++ ids_in (absent_values schema fs)) one.1 ∙ rest.1,
    )

grown_count : (schema : Schema) (k : KindTree) (place : ℕ) (ts : Trees) → count (grown_slots schema (element_slots k place (count ts)) ts none) ≡ count ts
grown_count schema k place none = refl
grown_count schema k place (more t ts) = ap suc (grown_count schema k (place + size_of k) ts)

module _ (w r : Schema) (P : Pair → Type 0) (closed : IsClosed w r P) (bytes : List ℕ) where
  pub record FoundSlots (left base : ℕ) (ss : List Slot) (ts : Trees) (p end : ℕ) : Type 0 where
    pub walk : Walked (slots_marks (visit left r bytes) r bytes base ss) p end (handles_in (grown_slots r ss ts none)) (ids_in (grown_slots r ss ts none))
    pub means : (rest : Trees) → slots_value (value left r bytes) r bytes base ss rest ≡ grown_slots r ss ts rest

  -- the slots of an object are read by the other schema, wherever it stands
  abbrev pub SlotsFound : Trees → Type 0
  SlotsFound ts =
      (left base : ℕ) (ss ss' : List Slot) (body : List ℕ) (at : ℕ) → SlotsFit P ss ss' → AreFit w left ss ts → ArePlaced (all_parts ss) (8 * length body)
      → AreClear body (all_parts ss) → length body ≤ at → Holds bytes base (body_of w ss ts body at) → Holds bytes (base + at) (behind w ss ts)
      → (base + at) % 8 ≡ 0
      → base + at + length (behind w ss ts) ≤ length bytes → at + length (behind w ss ts) ≤ MAX_PAYLOAD_BYTES
      → FoundSlots left base ss' ts (base + at) (base + at + length (behind w ss ts))

  module _ (good : IsGoodSchema w) (good' : IsGoodSchema r) where
    pub text_carried : (bs : List ℕ) (left from p : ℕ) (n n' : Bool) → valid_len bs ≡ length bs → Holds bytes p (text_object (kinds.TextKind n) bs) → p % 8 ≡ 0
        → p + length (text_object (kinds.TextKind n) bs) ≤ length bytes → length (text_object (kinds.TextKind n) bs) ≤ MAX_PAYLOAD_BYTES
        → Found w r P closed bytes (suc left) from p (kinds.TextKind n') (values.Text bs) (p + length (text_object (kinds.TextKind n) bs))
    unfolding emit
    text_carried bs left from p n n' valid h mult room small =
        let one = text_at r bytes good' bs left from p n' valid h mult room small in
        record { walk = one.walk; means = one.means }

    pub array_carried : (ts : Trees) → SlotsFound ts → (left from p : ℕ) (e e' : KindTree) (c c' : Option ℕ) (n n' : Bool) → KindFits P e e' → CountFits c c'
        → count_is c (count ts) ≡ true → AreFit w left (element_slots e 0 (count ts)) ts
        → Holds bytes p (emit w false (kinds.ArrayKind e c n) (values.Items ts))
        → p % 8 ≡ 0 → p + length (emit w false (kinds.ArrayKind e c n) (values.Items ts)) ≤ length bytes
        → length (emit w false (kinds.ArrayKind e c n) (values.Items ts)) ≤ MAX_PAYLOAD_BYTES
        → Found w r P closed bytes (suc left) from p (kinds.ArrayKind e' c' n') (grown r (kinds.ArrayKind e' c' n') (values.Items ts))
        (p + length (emit w false (kinds.ArrayKind e c n) (values.Items ts)))
    unfolding visit object_marks array_marks value object_value emit
    array_carried ts read left from p e e' c c' n n' f cf counted fits h mult room small =
        let cnt = count ts in
        let eb = element_bytes e cnt in
        let room8 = rounded8 eb in
        let ss = element_slots e 0 cnt in
        let body = body_of w ss ts (zeros room8) room8 in
        let back = behind w ss ts in
        let n0 : length (zeros room8) ≡ room8 = length-replicate room8 0 in
        let n1 : length body ≡ room8 = body_length w ss ts (zeros room8) room8 ∙ n0 in
        let total = object_length (8 + eb) cnt body back in
        let bits : cnt * size_of e ≤ 8 * room8 = omega arith in
        let few : cnt ≤ cnt * size_of e = count_fits cnt (size_of e) (size_positive e) in
        let ps = parts w bytes p (8 + eb) cnt body back (omega (arith, total, n1, small)) (omega (arith, total, n1, few, bits, small)) h in
        let backs : Holds bytes (p + 8 + room8) back = subst (λ x. Holds bytes (p + 8 + x) back) n1 ps.back_holds in
        let ss' = element_slots e' 0 cnt in
        let slots = read left (p + 8) ss ss' (zeros room8) room8 (elements_from P e e' 0 0 cnt f refl) fits
        (elements_placed e 0 cnt (8 * length (zeros room8)) (start_aligned e) (omega (arith, n0, bits)))
        (all_clear room8 (all_parts ss)) (omega (arith, n0)) ps.body_holds backs (omega arith) (omega (arith, total, n1, room))
        (omega (arith, total, n1, small)) in
        let start : p + 8 + room8 ≡ p + rounded8 (8 + eb) = omega arith in
        let end : p + 8 + room8 + length back ≡ p + length (object (8 + eb) cnt body back) = omega (arith, total, n1) in
        let eb' : element_bytes e' cnt ≡ eb = ap (λ (x : ℕ). (cnt * x + 7) / 8) (size_kept P e e' f) in
        let ts' = grown_slots r ss' ts none in
        record {
          walk = rw (ps.first_is, ps.second_is, content_as_slots (visit left r bytes) r bytes (p + 8) e' cnt)
              (walked_object p (8 + eb) (element_bytes e' cnt) (count_is c' cnt) faults.UnexpectedArrayHeader
              (slots_marks (visit left r bytes) r bytes (p + 8) ss')
              (p + length (object (8 + eb) cnt body back)) (handles_in ts') (ids_in ts') (omega (arith, eb')) (cf cnt counted)
              (moved (slots_marks (visit left r bytes) r bytes (p + 8) ss') (p + 8 + room8) (p + 8 + room8 + length back) (p + rounded8 (8 + eb))
              (p + length (object (8 + eb) cnt body back)) (handles_in ts') (ids_in ts') start end slots.walk));
          means = rw ps.second_is (ap values.Items (slots.means none));
        }

    pub union_carried : (t : Tree) → FoundBehind w r P closed bytes t → (left from p u j : ℕ) (n n' : Bool) (tag : ℕ) (m m' : KindTree)
        → member_kind w (kinds.UnionKind u n) tag ≡ Some m → member_kind r (kinds.UnionKind j n') tag ≡ Some m' → KindFits P m m' → tag < 2 ^ 32
        → Fits w left false m t
        → Holds bytes p (emit w false (kinds.UnionKind u n) (values.Member tag t)) → p % 8 ≡ 0
        → p + length (emit w false (kinds.UnionKind u n) (values.Member tag t)) ≤ length bytes
        → length (emit w false (kinds.UnionKind u n) (values.Member tag t)) ≤ MAX_PAYLOAD_BYTES
        → Found w r P closed bytes (suc left) from p (kinds.UnionKind j n') (grown r (kinds.UnionKind j n') (values.Member tag t))
        (p + length (emit w false (kinds.UnionKind u n) (values.Member tag t)))
    unfolding visit object_marks value object_value emit
    union_carried t read left from p u j n n' tag m m' e e' f lt fits h mult room small =
        let body : List ℕ = put_cell 0 m t (zeros 8) 8 in
        let back = emit w false m t in
        let is : emit w false (kinds.UnionKind u n) (values.Member tag t) ≡ object UNION_BYTES tag body back = ap
        (λ (o : Option KindTree). member_object o false tag t (λ x. emit w false x t)) e in
        let n1 : length body ≡ 8 = cell_length 0 m t (zeros 8) 8 in
        let total = object_length 16 tag body back in
        let whole : length (emit w false (kinds.UnionKind u n) (values.Member tag t)) ≡ length (object UNION_BYTES tag body back) = ap length is in
        let ps = parts w bytes p UNION_BYTES tag body back (omega arith) lt (subst (λ (l : List ℕ). Holds bytes p l) is h) in
        let backs : Holds bytes (p + 16) back =
        let there : p + 8 + length body ≡ p + 16 = omega (arith, n1) in
        subst (λ x. Holds bytes x back) there ps.back_holds in
        let size = (cell_fits m).1 in
        let put : Put bytes (p + 8) (zeros 8) 0 m t 8 = record {
          aligned = any_aligned m 0 refl;
          room = omega (arith, size);
          clear = zeros_clear 8 0 (cell_size m);
          near = omega arith;
          shown = shown_of bytes (p + 8) body 0 (cell_size m) ps.body_holds (omega (arith, n1, size));
        } in
        let t' : Tree = grown r m' t in
        let end : ℕ = p + 16 + length back in
        let cell = cell_carried w r P closed bytes left (p + 8 + 0 / 8) (0 % 8) (8 - 0 / 8) (p + 16) end m m' t f fits
        (cell_at bytes (p + 8) (zeros 8) 0 w left false m t 8 fits put)
        (omega arith) (omega arith) (omega arith) refl
        (λ is'. read left m m' f is' fits (p + 8 + 0 / 8) (p + 16) backs (omega arith) (omega (arith, room, whole, total, n1))
        (omega (arith, small, whole, total, n1))) in
        let q0 : p + 8 + 0 / 8 ≡ p + 8 = omega arith in
        let cell8 : ReadsCell r bytes left (p + 8) 0 m' t' (p + 16) end = subst (λ q. ReadsCell r bytes left q 0 m' t' (p + 16) end) q0 cell in
        let union = union_reads r bytes left p j tag n' m' t' (p + 16) end e' ps.first_is ps.second_is cell8 in
        let limit : end ≡ p + length (emit w false (kinds.UnionKind u n) (values.Member tag t)) = omega (arith, whole, total, n1) in
        let filled : values.Member tag t' ≡ grown r (kinds.UnionKind j n') (values.Member tag t) =
        sym (ap (λ (o : Option KindTree). values.Member tag (as_member o t (λ x. grown r x t))) e') in
        subst (λ (x : Tree). Found w r P closed bytes (suc left) from p (kinds.UnionKind j n') x
        (p + length (emit w false (kinds.UnionKind u n) (values.Member tag t)))) filled
        (record {
          walk =
              walked_object p UNION_BYTES 8 true faults.IllegalMemoryRange (union_marks (visit left r bytes) r bytes p j n')
              (p + length (emit w false (kinds.UnionKind u n) (values.Member tag t))) (handles_of t') (ids_of t') (omega arith) refl
              (moved (union_marks (visit left r bytes) r bytes p j n') (p + 16) end (p + rounded8 16)
              (p + length (emit w false (kinds.UnionKind u n) (values.Member tag t))) (handles_of t') (ids_of t') (omega arith) limit union.walk);
          means = union.means;
        })

    -- ---- structs

    -- the slots that the newer struct has for the older one's version, and what it lacks behind them
    version_means : (left from p number : ℕ) (n : Bool) (row : StructRow) (version : ℕ) → slice_get r.structs number ≡ Some row
        → number32 bytes (p + 4) ≡ version
        → value (suc left) r bytes from p (kinds.StructKind number n)
        ≡ values.Fields (slots_value (value left r bytes) r bytes (p + 8) (slots_up_to row version)
        (absent_values r (drop (row_for row.versions version).fields row.fields)))
    unfolding value object_value
    version_means left from p number n row version e b = rw (e, b) refl

    pub grown_fields : (number : ℕ) (n : Bool) (row : StructRow) (version : ℕ) (ts : Trees) → slice_get r.structs number ≡ Some row
        → count ts ≡ (row_for row.versions version).fields
        → grown r (kinds.StructKind number n) (values.Fields ts)
        ≡ values.Fields (grown_slots r (slots_up_to row version) ts (absent_values r (drop (row_for row.versions version).fields row.fields)))
    grown_fields number n row version ts e counted =
        ap (λ (o : Option StructRow). values.Fields (grown_slots r (map field_slot (take (count ts) (all_fields o))) ts
        (absent_values r (drop (count ts) (all_fields o))))) e
        ∙ ap (λ (m : ℕ). values.Fields (grown_slots r (map field_slot (take m row.fields)) ts (absent_values r (drop m row.fields)))) counted

    struct_at : (ts : Trees) → SlotsFound ts → (left from p i j : ℕ) (n n' : Bool) (row : StructRow) → slice_get w.structs i ≡ Some row → P (Structs i j)
        → AreFit w left (found_fields (Some row)) ts → Holds bytes p (emit w false (kinds.StructKind i n) (values.Fields ts)) → p % 8 ≡ 0
        → p + length (emit w false (kinds.StructKind i n) (values.Fields ts)) ≤ length bytes
        → length (emit w false (kinds.StructKind i n) (values.Fields ts)) ≤ MAX_PAYLOAD_BYTES
        → Found w r P closed bytes (suc left) from p (kinds.StructKind j n') (grown r (kinds.StructKind j n') (values.Fields ts))
        (p + length (emit w false (kinds.StructKind i n) (values.Fields ts)))
    unfolding emit
    struct_at ts read left from p i j n n' row e pair fits h mult room small =
        let k : KindTree = kinds.StructKind i n in
        let there = closed.structs i j row pair e in
        let row' = there.0 in
        let g = good_row w i row good e in
        let header = g.header in
        let whole = g.whole in
        let size = found_size (Some row) in
        let version = found_version (Some row) in
        let room8 = size - 8 in
        let ss = found_fields (Some row) in
        let ss' = slots_up_to row' version in
        let body = body_of w ss ts (zeros room8) room8 in
        let back = behind w ss ts in
        let is : emit w false k (values.Fields ts) ≡ object size version body back =
        ap (λ (o : Option StructRow). struct_object o (λ ss1 size1. body_of w ss1 ts (zeros size1) size1) (λ ss1. behind w ss1 ts)) e in
        let n0 : length (zeros room8) ≡ room8 = length-replicate room8 0 in
        let n1 : length body ≡ room8 = body_length w ss ts (zeros room8) room8 ∙ n0 in
        let total = object_length size version body back in
        let long : length (emit w false k (values.Fields ts)) ≡ length (object size version body back) = ap length is in
        let ps = parts w bytes p size version body back (omega (arith, total, n1, long, small, header)) g.version
        (subst (λ (l : List ℕ). Holds bytes p l) is h) in
        let backs : Holds bytes (p + 8 + room8) back = subst (λ x. Holds bytes (p + 8 + x) back) n1 ps.back_holds in
        let slots = read left (p + 8) ss ss' (zeros room8) room8 there.2.slots fits
        (subst (λ x. ArePlaced (all_parts ss) (8 * x)) (sym n0) g.placed) (all_clear room8 (all_parts ss))
        (omega (arith, n0)) ps.body_holds backs (omega (arith, header, whole, mult)) (omega (arith, total, n1, long, room, header))
        (omega (arith, total, n1, long, small, header)) in
        let start : p + 8 + room8 ≡ p + rounded8 size = omega (arith, header, whole) in
        let end : ℕ = p + length (emit w false k (values.Fields ts)) in
        let ends : p + 8 + room8 + length back ≡ end = omega (arith, total, n1, long) in
        let rest : Trees = absent_values r (drop (row_for row'.versions version).fields row'.fields) in
        let quiet = absent_quiet r (drop (row_for row'.versions version).fields row'.fields) in
        let counted : count ts ≡ (row_for row'.versions version).fields =
        fit_count w left ss ts fits ∙ slots_length row.fields ∙ sym there.2.fields in
        let us : Trees = grown_slots r ss' ts rest in
        let w0 : Walked (slots_marks (visit left r bytes) r bytes (p + 8) ss') (p + 8 + room8) (p + 8 + room8 + length back)
        (handles_in us) (ids_in us) =
        subst (λ (l : List ℕ). Walked (slots_marks (visit left r bytes) r bytes (p + 8) ss') (p + 8 + room8) (p + 8 + room8 + length back) (handles_in us) l)
        (quiet_ids r ss' ts rest quiet.1)
        (subst (λ (l : List ℕ). Walked (slots_marks (visit left r bytes) r bytes (p + 8) ss') (p + 8 + room8) (p + 8 + room8 + length back) l
        (ids_in (grown_slots r ss' ts none))) (quiet_handles r ss' ts rest quiet.0) slots.walk) in
        subst (λ (x : Tree). Found w r P closed bytes (suc left) from p (kinds.StructKind j n') x end) (sym (grown_fields j n' row' version ts there.1 counted))
        (record {
          walk =
              struct_walked r bytes good' left from p j n' row' ss' size version end (handles_in us) (ids_in us) there.1 ps.first_is ps.second_is
              there.2.bytes refl header
              (moved (slots_marks (visit left r bytes) r bytes (p + 8) ss') (p + 8 + room8) (p + 8 + room8 + length back) (p + rounded8 size)
              end (handles_in us) (ids_in us) start ends w0);
          means = version_means left from p j n' row' version there.1 ps.second_is ∙ ap values.Fields (slots.means rest);
        })

    pub struct_carried : (ts : Trees) → SlotsFound ts → (left from p : ℕ) (k k' : KindTree) (row : StructRow) → KindFits P k k' → row_of w k ≡ Some row
        → AreFit w left (found_fields (Some row)) ts → Holds bytes p (emit w false k (values.Fields ts)) → p % 8 ≡ 0
        → p + length (emit w false k (values.Fields ts)) ≤ length bytes → length (emit w false k (values.Fields ts)) ≤ MAX_PAYLOAD_BYTES
        → Found w r P closed bytes (suc left) from p k' (grown r k' (values.Fields ts)) (p + length (emit w false k (values.Fields ts)))
    struct_carried ts read left from p (kinds.StructKind i n) k' row f e fits h mult room small =
        subst (λ (x : KindTree). Found w r P closed bytes (suc left) from p x (grown r x (values.Fields ts))
        (p + length (emit w false (kinds.StructKind i n) (values.Fields ts)))) (sym f.2)
        (struct_at ts read left from p i f.0 n f.1 row e f.3 fits h mult room small)
    struct_carried ts read left from p k k' row f e fits h mult room small = absurd cc

    -- ---- maps

    -- two lists that are equally long stay so
    paired_kept : (key value' : KindTree) (ts : Trees) → ArePaired ts → ArePaired (grown_slots r (map_slots key value') ts none)
    paired_kept key value' (more (values.Items ks) (more (values.Items vs) none)) same =
        grown_count r key 0 ks ∙ same ∙ sym (grown_count r value' 0 vs)
    paired_kept key value' ts same = absurd same

    pub map_carried : (ts : Trees) → SlotsFound ts → (left from p : ℕ) (key value' key2 value2 : KindTree) (n n' : Bool) → KindFits P key key2
        → KindFits P value' value2 → ArePaired ts → AreFit w left (map_slots key value') ts
        → Holds bytes p (emit w false (kinds.MapKind key value' n) (values.Pairs ts)) → p % 8 ≡ 0
        → p + length (emit w false (kinds.MapKind key value' n) (values.Pairs ts)) ≤ length bytes
        → length (emit w false (kinds.MapKind key value' n) (values.Pairs ts)) ≤ MAX_PAYLOAD_BYTES
        → Found w r P closed bytes (suc left) from p (kinds.MapKind key2 value2 n') (grown r (kinds.MapKind key2 value2 n') (values.Pairs ts))
        (p + length (emit w false (kinds.MapKind key value' n) (values.Pairs ts)))
    unfolding emit
    map_carried ts read left from p key value' key2 value2 n n' f g paired fits h mult room small =
        let ss = map_slots key value' in
        let ss' = map_slots key2 value2 in
        let body = body_of w ss ts (zeros 16) 16 in
        let back = behind w ss ts in
        let n1 : length body ≡ 16 = body_length w ss ts (zeros 16) 16 in
        let total = object_length 24 0 body back in
        let ps = parts w bytes p 24 0 body back (omega arith) (omega arith) h in
        let backs : Holds bytes (p + 8 + 16) back = subst (λ x. Holds bytes (p + 8 + x) back) n1 ps.back_holds in
        let slots = read left (p + 8) ss ss' (zeros 16) 16 (map_fits P key value' key2 value2 f g) fits (map_placed key value')
        (all_clear 16 (all_parts ss)) (omega arith)
        ps.body_holds backs (omega arith) (omega (arith, total, n1, room)) (omega (arith, total, n1, small)) in
        let us : Trees = grown_slots r ss' ts none in
        let two = two_lists r bytes left p key2 value2 us (slots.means none) in
        let counts = same_counts r bytes left p key2 value2 two.keys two.vals (subst ArePaired two.pair (paired_kept key2 value2 ts paired)) two.keys_are
        two.vals_are in
        let start : p + 8 + 16 ≡ p + 24 = omega arith in
        let end : p + 8 + 16 + length back ≡ p + length (object 24 0 body back) = omega (arith, total, n1) in
        let w1 = map_walked r bytes left from p key2 value2 n' (p + length (object 24 0 body back)) (handles_in us) (ids_in us) ps.first_is ps.second_is counts
        (moved (slots_marks (visit left r bytes) r bytes (p + 8) ss') (p + 8 + 16) (p + 8 + 16 + length back) (p + 24)
        (p + length (object 24 0 body back)) (handles_in us) (ids_in us) start end slots.walk) in
        record {
          walk =
              trimmed (visit (suc left) r bytes from p (kinds.MapKind key2 value2 n')) p (p + length (object 24 0 body back)) (handles_in us) (ids_in us)
              w1;
          means = map_means r bytes left from p key2 value2 n' us two;
        }
