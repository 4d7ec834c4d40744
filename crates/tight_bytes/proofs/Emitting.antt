-- One slot more of an object that is emitted.
use Rattle.std.proofs.Common.{◌≡◌, ℕ, zero, suc, ◌+◌, ◌-◌, ◌*◌, ◌/◌, ◌<◌, ◌≤◌, true, List, [], ◌∷◌, ◌++◌, length, length-append, length-take, length-drop, take, drop, get_or, map, Some, refl, sym, ap, subst, ◌∙◌, append_assoc, arith, add-one, drop-cons, None, false, Option, Bool}
use Rattle.std.proofs.lemmas.List.{append-nil, drop_all, take_at, drop_at, length-replicate, take-append-drop}
use Rattle.std.proofs.Math.Nat.{suc-mul}
use Rattle.mj_schema.specs.declared.rows.FieldRow.{FieldRow}
use Rattle.mj_schema.specs.declared.schema.Schema.{Schema}
use Rattle.wire_model.specs.declared.value.Value.{Value}
use Rattle.mj_base.specs.Bytes.{bytes32, bytes64, rounded8}
use Rattle.wire_model.specs.Bytes.{write}
use Rattle.mj_schema.specs.Sizes.{size_of}
use Rattle.wire_model.specs.Cells.{UNION_BYTES, put, put_slot, put_present, zeros, put_cell}
use Rattle.wire_model.specs.Emit.{emit, body_of, behind, object, struct_object, member_object}
use Rattle.wire_model.specs.Fits.{ArePlaced}
use Rattle.wire_model.specs.Rows.{row_of, member_kind}
use Rattle.wire_model.specs.Slots.{Slot, field_slot, element_slots, map_slots, element_bytes, found_size, found_version}
use Rattle.wire_model.specs.Trees.{Items, Fields, Pairs, Tree, Trees, view, trees, none, more, Member}
use Rattle.mj_schema.specs.declared.rows.StructRow.{StructRow}
use Rattle.mj_schema.specs.KindTrees as kinds
use Rattle.mj_schema.specs.KindTrees.{KindTree}
use Rattle.tight_bytes.specs.steps.Within.{AreWithin, FlagIn, shifted}
use Rattle.mj_schema.specs.Parts.{flag_place}
use Rattle.wire_laws.proofs.Placed.{FlagWithin, all_parts, value_part, slot_placed}
use Rattle.tight_bytes.proofs.Putting.{put_within, present_within, cell_within}
use Rattle.wire_laws.proofs.Lengths.{put_length, present_length, cell_fits}
use Rattle.wire_laws.proofs.Bytes.{write_length}
use Rattle.tight_bytes.proofs.Values.{next_value, last_value, count_is}

module _ (schema : Schema) (ss : List Slot) (ts : Trees) (old : List ℕ) (base : ℕ) where
  pub record Emitted (out : List ℕ) (rest : List Slot) (values : Trees) : Type 0 where
    pub body : List ℕ
    pub tail : List ℕ
    pub out_is : out ≡ take base old ++ (body ++ tail)
    pub long : length body ≡ length old - base
    pub body_on : body_of schema rest values body (length body + length tail) ≡ body_of schema ss ts (drop base old) (length old - base)
    pub tail_on : tail ++ behind schema rest values ≡ behind schema ss ts
    pub within : AreWithin rest (length old - base)

  pub emitted_length : (out : List ℕ) (rest : List Slot) (values : Trees) → base ≤ length old → (e : Emitted out rest values)
      → length out ≡ base + (length e.body + length e.tail)
  emitted_length out rest values le e =
      omega (arith, ap length e.out_is, length-append (take base old) (e.body ++ e.tail), length-append e.body e.tail, length-take base old)

  -- a slot lies within what there is by now
  pub slot_within : (out : List ℕ) (s : Slot) (rest : List Slot) (values : Trees) → base ≤ length old → Emitted out (s ∷ rest) values
      → s.place + size_of s.kind ≤ 8 * (length out - base)
  slot_within out s rest values le e =
      let n = emitted_length out (s ∷ rest) values le e in
      let long = e.long in
      omega (arith, n, long, e.within.0)

  pub behind_base : (out : List ℕ) (rest : List Slot) (values : Trees) → base ≤ length old → Emitted out rest values → base ≤ length out
  behind_base out rest values le e = let n = emitted_length out rest values le e in omega (arith, n)

  pub begins : base ≤ length old → AreWithin ss (length old - base) → Emitted old ss ts
  begins le within =
      let n : length (drop base old) ≡ length old - base = length-drop base old in
      let z : length (drop base old) + length {A = ℕ} [] ≡ length old - base = omega (arith, n) in
      record {
        body = drop base old;
        tail = [];
        out_is = sym (ap (λ l. take base old ++ l) (append-nil (drop base old)) ∙ take-append-drop base old);
        long = n;
        body_on = ap (body_of schema ss ts (drop base old)) z;
        tail_on = refl;
        within = within;
      }

  pub one_more : (out out3 : List ℕ) (s : Slot) (rest : List Slot) (t : Tree) (values : Trees) → base ≤ length old → Emitted out (s ∷ rest) (more t values)
      → out3 ≡ put schema (8 * base + s.place) s.kind t (put_present (shifted (8 * base) s.flag) t out) (length out) ++ emit schema true s.kind t
      → Emitted out3 rest values
  unfolding emit
  one_more out out3 s rest t values le e is3 =
      let n = emitted_length out (s ∷ rest) (more t values) le e in
      let pre : length (take base old) ≡ base = omega (arith, length-take base old) in
      let child = emit schema true s.kind t in
      let at = length e.body + length e.tail in
      let long = e.long in
      let fits : s.place + size_of s.kind ≤ 8 * length e.body = omega (arith, e.within.0) in
      let first = put_present s.flag t e.body in
      let f : length first ≡ length e.body = present_length s.flag t e.body in
      let new = put_slot schema s t e.body at in
      let flag : FlagIn s.flag (length e.body) = subst (FlagIn s.flag) (sym long) e.within.1 in
      let w : put schema (8 * base + s.place) s.kind t (put_present (shifted (8 * base) s.flag) t out) (length out) ≡ take base old ++ (new ++ e.tail) =
      ap (λ m. put schema (8 * base + s.place) s.kind t (put_present (shifted (8 * base) s.flag) t out) m) n
      ∙ ap (λ l. put schema (8 * base + s.place) s.kind t (put_present (shifted (8 * base) s.flag) t l) (base + at)) e.out_is
      ∙ ap (λ m. put schema (8 * m + s.place) s.kind t (put_present (shifted (8 * m) s.flag) t (take base old ++ (e.body ++ e.tail))) (m + at)) (sym pre)
      ∙ ap (λ l. put schema (8 * length (take base old) + s.place) s.kind t l (length (take base old) + at))
      (present_within (take base old) e.body e.tail s.flag t flag)
      ∙ put_within schema (take base old) first e.tail s.place s.kind t at (rw f fits) in
      let m : length new ≡ length e.body = put_length schema s.place s.kind t first at ∙ f in
      let next : length new + length (e.tail ++ child) ≡ at + length child = omega (arith, m, length-append e.tail child) in
      record {
        body = new;
        tail = e.tail ++ child;
        out_is = is3 ∙ ap (λ l. l ++ child) w ∙ append_assoc (take base old) (new ++ e.tail) child
            ∙ ap (λ l. take base old ++ l) (append_assoc new e.tail child);
        long = m ∙ long;
        body_on = ap (body_of schema rest values new) next ∙ e.body_on;
        tail_on = append_assoc e.tail child (behind schema rest values) ∙ e.tail_on;
        within = e.within.2;
      }

  pub none_left : (out : List ℕ) (rest : List Slot) → Emitted out rest none
      → out ≡ take base old ++ (body_of schema ss ts (drop base old) (length old - base) ++ behind schema ss ts)
  unfolding emit
  none_left out [] x =
      x.out_is ∙ ap (λ b. take base old ++ (b ++ x.tail)) x.body_on
      ∙ ap (λ t. take base old ++ (body_of schema ss ts (drop base old) (length old - base) ++ t)) (sym (append-nil x.tail) ∙ x.tail_on)
  none_left out (r ∷ rs) x =
      x.out_is ∙ ap (λ b. take base old ++ (b ++ x.tail)) x.body_on
      ∙ ap (λ t. take base old ++ (body_of schema ss ts (drop base old) (length old - base) ++ t)) (sym (append-nil x.tail) ∙ x.tail_on)

  pub any_left : (out : List ℕ) (values others : Trees) → Emitted out [] values → Emitted out [] others
  unfolding emit
  any_left out none none x =
      record { body = x.body; tail = x.tail; out_is = x.out_is; long = x.long; body_on = x.body_on; tail_on = x.tail_on; within = x.within }
  any_left out none (more t ts) x =
      record { body = x.body; tail = x.tail; out_is = x.out_is; long = x.long; body_on = x.body_on; tail_on = x.tail_on; within = x.within }
  any_left out (more t ts) none x =
      record { body = x.body; tail = x.tail; out_is = x.out_is; long = x.long; body_on = x.body_on; tail_on = x.tail_on; within = x.within }
  any_left out (more t ts) (more u us) x =
      record { body = x.body; tail = x.tail; out_is = x.out_is; long = x.long; body_on = x.body_on; tail_on = x.tail_on; within = x.within }

-- the field that comes next, and none
pub next_field : (fs : List FieldRow) (i : ℕ) (f : FieldRow) → i < length fs → f ≡ get_or fs i f
    → map field_slot (drop i fs) ≡ field_slot f ∷ map field_slot (drop (i + 1) fs)
next_field fs i f lt is =
    let e : drop i fs ≡ f ∷ drop (i + 1) fs = rw (add-one, drop-cons fs i f) (ap (λ g. g ∷ drop (suc i) fs) (sym is)) in
    ap (map field_slot) e

pub last_field : (fs : List FieldRow) (i : ℕ) → length fs ≤ i → map field_slot (drop i fs) ≡ []
last_field fs i le = ap (map field_slot) (drop_all i fs le)

pub next_element : (k : KindTree) (place n i : ℕ) → i < n
    → element_slots k place (n - i) ≡ record { place = place; kind = k; flag = None } ∷ element_slots k (place + size_of k) (n - (i + 1))
next_element k place n i lt = let e : n - i ≡ suc (n - (i + 1)) = omega arith in rw e refl

-- slots that are placed within so many bits lie within as many bytes
flag_in : (flag : Option ℕ) (bytes : ℕ) → FlagWithin flag (8 * bytes) → FlagIn flag bytes
flag_in None bytes w = tt
flag_in (Some flag) bytes w = w

pub placed_within : (ss : List Slot) (bytes : ℕ) → ArePlaced (all_parts ss) (8 * bytes) → AreWithin ss bytes
placed_within [] bytes placed = tt
placed_within (s ∷ ss) bytes placed =
    let p = slot_placed s.flag (value_part s) (all_parts ss) (8 * bytes) placed in
    (p.value, flag_in s.flag bytes p.within, placed_within ss bytes p.later)

pub elements_within : (k : KindTree) (place n bytes : ℕ) → place + n * size_of k ≤ 8 * bytes → AreWithin (element_slots k place n) bytes
elements_within k place zero bytes le = tt
elements_within k place (suc n) bytes le =
    let step : suc n * size_of k ≡ n * size_of k + size_of k = suc-mul n (size_of k) in
    let all : place + (n * size_of k + size_of k) ≤ 8 * bytes = rw step at le in
    (omega (arith, all), tt, elements_within k (place + size_of k) n bytes (omega (arith, all)))

-- an object that begins with two numbers and zeros
pub begun : (schema : Schema) (first second size : ℕ) (ss : List Slot) (ts : Trees) (old d : List ℕ) (base : ℕ) → base ≡ length old + 8
    → d ≡ old ++ (bytes32 first ++ (bytes32 second ++ zeros size))
    → (length d ≡ base + size) × (take base d ++ (body_of schema ss ts (drop base d) (length d - base) ++ behind schema ss ts) ≡ old ++ object first second
    (body_of schema ss ts (zeros size) size) (behind schema ss ts))
unfolding bytes32
begun schema first second size ss ts old d base base-is d-is =
    let b : List ℕ = old ++ (bytes32 first ++ bytes32 second) in
    let d2 : d ≡ b ++ zeros size = d-is ∙ sym (append_assoc old (bytes32 first ++ bytes32 second) (zeros size)) in
    let len : length b ≡ base = omega (arith, length-append old (bytes32 first ++ bytes32 second)) in
    let front : take base d ≡ b = ap (take base) d2 ∙ take_at b (zeros size) base len in
    let back : drop base d ≡ zeros size = ap (drop base) d2 ∙ drop_at b (zeros size) base len in
    let zn : length (zeros size) ≡ size = length-replicate size 0 in
    let dn : length d ≡ length b + length (zeros size) = ap length d2 ∙ length-append b (zeros size) in
    let n : length d - base ≡ size = omega (arith, len, zn, dn) in (
      omega (arith, len, zn, dn),
      rw (front, back, n)
          (append_assoc old (bytes32 first ++ bytes32 second) (body_of schema ss ts (zeros size) size ++ behind schema ss ts)),
    )

-- a text and the zeros behind it
pub text_is : (old text d : List ℕ) (padding : ℕ) → d ≡ ((old ++ (bytes32 (8 + length text) ++ bytes32 (length text))) ++ text)
    → padding ≡ rounded8 (length text) - length text
    → d ++ zeros padding ≡ old ++ object (8 + length text) (length text) text (zeros (rounded8 (length text) - length text))
text_is old text d padding d-is p-is =
    let z = zeros (rounded8 (length text) - length text) in
    ap (λ n. d ++ zeros n) p-is ∙ ap (λ l. l ++ z) d-is
    ∙ append_assoc (old ++ (bytes32 (8 + length text) ++ bytes32 (length text))) text z
    ∙ append_assoc old (bytes32 (8 + length text) ++ bytes32 (length text)) (text ++ z)
    ∙ ap (λ l. old ++ l) (append_assoc (bytes32 (8 + length text)) (bytes32 (length text)) (text ++ z))

-- the loop over elements
module _ (schema : Schema) (ss : List Slot) (ts : Trees) (old : List ℕ) (base : ℕ) where
  pub element_here : (k : KindTree) (place : ℕ) (vs : List Value) (i : ℕ) (v : Value) (out : List ℕ) → i < length vs → v ≡ get_or vs i v
      → Emitted schema ss ts old base out (element_slots k place (length vs - i)) (trees (map view (drop i vs)))
      → Emitted schema ss ts old base out (record { place = place; kind = k; flag = None } ∷ element_slots k (place + size_of k) (length vs - (i + 1)))
      (more (view v) (trees (map view (drop (i + 1) vs))))
  element_here k place vs i v out lt is e =
      subst (λ r. Emitted schema ss ts old base out r (more (view v) (trees (map view (drop (i + 1) vs))))) (next_element k place (length vs) i lt)
      (subst (λ w. Emitted schema ss ts old base out (element_slots k place (length vs - i)) w) (next_value vs i v lt is) e)

  pub elements_done : (k : KindTree) (place : ℕ) (vs : List Value) (i : ℕ) (out : List ℕ) → length vs ≤ i
      → Emitted schema ss ts old base out (element_slots k place (length vs - i)) (trees (map view (drop i vs)))
      → out ≡ take base old ++ (body_of schema ss ts (drop base old) (length old - base) ++ behind schema ss ts)
  elements_done k place vs i out le e =
      none_left schema ss ts old base out (element_slots k place (length vs - i))
      (subst (λ w. Emitted schema ss ts old base out (element_slots k place (length vs - i)) w) (last_value vs i le) e)

  pub field_here : (fs : List FieldRow) (f : FieldRow) (vs : List Value) (i : ℕ) (v : Value) (out : List ℕ) → i < length vs → v ≡ get_or vs i v
      → i < length fs → f ≡ get_or fs i f → Emitted schema ss ts old base out (map field_slot (drop i fs)) (trees (map view (drop i vs)))
      → Emitted schema ss ts old base out (field_slot f ∷ map field_slot (drop (i + 1) fs)) (more (view v) (trees (map view (drop (i + 1) vs))))
  field_here fs f vs i v out lt is ltf isf e =
      subst (λ r. Emitted schema ss ts old base out r (more (view v) (trees (map view (drop (i + 1) vs))))) (next_field fs i f ltf isf)
      (subst (λ w. Emitted schema ss ts old base out (map field_slot (drop i fs)) w) (next_value vs i v lt is) e)

  pub fields_over : (fs : List FieldRow) (vs : List Value) (i : ℕ) (out : List ℕ) → length fs ≤ i
      → Emitted schema ss ts old base out (map field_slot (drop i fs)) (trees (map view (drop i vs)))
      → Emitted schema ss ts old base out (map field_slot (drop (i + 1) fs)) (trees (map view (drop (i + 1) vs)))
  fields_over fs vs i out le e =
      let now = subst (λ r. Emitted schema ss ts old base out r (trees (map view (drop i vs)))) (last_field fs i le) e in
      subst (λ r. Emitted schema ss ts old base out r (trees (map view (drop (i + 1) vs)))) (sym (last_field fs (i + 1) (omega arith)))
      (any_left schema ss ts old base out (trees (map view (drop i vs))) (trees (map view (drop (i + 1) vs))) now)

  pub fields_done : (fs : List FieldRow) (vs : List Value) (i : ℕ) (out : List ℕ) → length vs ≤ i
      → Emitted schema ss ts old base out (map field_slot (drop i fs)) (trees (map view (drop i vs)))
      → out ≡ take base old ++ (body_of schema ss ts (drop base old) (length old - base) ++ behind schema ss ts)
  fields_done fs vs i out le e =
      none_left schema ss ts old base out (map field_slot (drop i fs))
      (subst (λ w. Emitted schema ss ts old base out (map field_slot (drop i fs)) w) (last_value vs i le) e)

module _ (schema : Schema) (ss : List Slot) (ts : Trees) (old : List ℕ) (base : ℕ) where
  pub element_room : (k : KindTree) (place : ℕ) (vs : List Value) (i : ℕ) (v : Value) (out : List ℕ) → i < length vs → v ≡ get_or vs i v
      → base ≤ length old → Emitted schema ss ts old base out (element_slots k place (length vs - i)) (trees (map view (drop i vs)))
      → (base ≤ length out) × (place + size_of k ≤ 8 * (length out - base))
  element_room k place vs i v out lt is le e =
      let here = element_here schema ss ts old base k place vs i v out lt is e in
      (behind_base schema ss ts old base out _ _ le here, slot_within schema ss ts old base out _ _ _ le here)

  pub field_room : (fs : List FieldRow) (f : FieldRow) (k : KindTree) (vs : List Value) (i : ℕ) (v : Value) (out : List ℕ) → i < length vs
      → v ≡ get_or vs i v → i < length fs → f ≡ get_or fs i f → k ≡ f.kind → base ≤ length old
      → Emitted schema ss ts old base out (map field_slot (drop i fs)) (trees (map view (drop i vs)))
      → (base ≤ length out) × (8 * f.offset + f.bit + size_of k ≤ 8 * (length out - base))
  field_room fs f k vs i v out lt is ltf isf kind le e =
      let here = field_here schema ss ts old base fs f vs i v out lt is ltf isf e in
      let room = slot_within schema ss ts old base out (field_slot f) _ _ le here in
      (behind_base schema ss ts old base out _ _ le here, rw kind room)

  pub field_more : (fs : List FieldRow) (f : FieldRow) (k : KindTree) (vs : List Value) (i : ℕ) (v : Value) (out out2 out3 : List ℕ) → i < length vs
      → v ≡ get_or vs i v → i < length fs → f ≡ get_or fs i f → k ≡ f.kind → base ≤ length old
      → Emitted schema ss ts old base out (map field_slot (drop i fs)) (trees (map view (drop i vs)))
      → out2 ≡ put_present (shifted (8 * base) (flag_place f.flag)) (view v) out
      → out3 ≡ put schema (8 * base + (8 * f.offset + f.bit)) k (view v) out2 (length out2) ++ emit schema true k (view v)
      → Emitted schema ss ts old base out3 (map field_slot (drop (i + 1) fs)) (trees (map view (drop (i + 1) vs)))
  field_more fs f k vs i v out out2 out3 lt is ltf isf kind le e marked done =
      let here = field_here schema ss ts old base fs f vs i v out lt is ltf isf e in
      let first = put_present (shifted (8 * base) (flag_place f.flag)) (view v) out in
      let done2 : out3 ≡ put schema (8 * base + (8 * f.offset + f.bit)) f.kind (view v) first (length out) ++ emit schema true f.kind (view v) = done
      ∙ ap (λ z. put schema (8 * base + (8 * f.offset + f.bit)) z (view v) out2 (length out2) ++ emit schema true z (view v)) kind
      ∙ ap (λ l. put schema (8 * base + (8 * f.offset + f.bit)) f.kind (view v) l (length l) ++ emit schema true f.kind (view v)) marked
      ∙ ap (λ m. put schema (8 * base + (8 * f.offset + f.bit)) f.kind (view v) first m ++ emit schema true f.kind (view v))
      (present_length (shifted (8 * base) (flag_place f.flag)) (view v) out) in
      one_more schema ss ts old base out out3 (field_slot f) (map field_slot (drop (i + 1) fs)) (view v) (trees (map view (drop (i + 1) vs))) le here done2

pub element_fits : (schema : Schema) (ss : List Slot) (ts : Trees) (old : List ℕ) (base : ℕ) (k : KindTree) (place : ℕ) (vs : List Value) (i : ℕ)
    (v : Value) (out : List ℕ) → Emitted schema ss ts old base out (element_slots k place (length vs - i)) (trees (map view (drop i vs))) → i < length vs
    → v ≡ get_or vs i v → base ≤ length old → 8 * base + place + size_of k ≤ 8 * length out
element_fits schema ss ts old base k place vs i v out e lt is le =
    let room = element_room schema ss ts old base k place vs i v out lt is le e in
    let more_room : place + size_of k ≤ 8 * (length out - base) = room.1 in
    let behind : base ≤ length out = room.0 in
    omega (arith, more_room, behind)

-- where elements lie is bounded by what there was at first
pub element_small : (schema : Schema) (ss : List Slot) (ts : Trees) (old : List ℕ) (base : ℕ) (k : KindTree) (place : ℕ) (vs : List Value) (i : ℕ)
    (v : Value) (out : List ℕ) → Emitted schema ss ts old base out (element_slots k place (length vs - i)) (trees (map view (drop i vs))) → i < length vs
    → v ≡ get_or vs i v → place + size_of k ≤ 8 * (length old - base)
element_small schema ss ts old base k place vs i v out e lt is = (element_here schema ss ts old base k place vs i v out lt is e).within.0

pub field_fits : (schema : Schema) (ss : List Slot) (ts : Trees) (old : List ℕ) (base : ℕ) (fs : List FieldRow) (f : FieldRow) (k : KindTree)
    (vs : List Value) (i : ℕ) (v : Value) (out : List ℕ) → Emitted schema ss ts old base out (map field_slot (drop i fs)) (trees (map view (drop i vs)))
    → i < length vs → v ≡ get_or vs i v → i < length fs → f ≡ get_or fs i f → k ≡ f.kind → base ≤ length old
    → 8 * base + (8 * f.offset + f.bit) + size_of k ≤ 8 * length out
field_fits schema ss ts old base fs f k vs i v out e lt is ltf isf kind le =
    let room = field_room schema ss ts old base fs f k vs i v out lt is ltf isf kind le e in
    let more_room : 8 * f.offset + f.bit + size_of k ≤ 8 * (length out - base) = room.1 in
    let behind : base ≤ length out = room.0 in
    omega (arith, more_room, behind)

-- where the flag of a field lies
shifted_in : (flag : Option ℕ) (base n m : ℕ) → FlagIn flag n → base + n ≤ m → FlagIn (shifted (8 * base) flag) m
shifted_in None base n m h le = tt
shifted_in (Some flag) base n m h le = omega (arith, h, le)

pub flag_fits : (schema : Schema) (ss : List Slot) (ts : Trees) (old : List ℕ) (base : ℕ) (fs : List FieldRow) (f : FieldRow)
    (vs : List Value) (i : ℕ) (v : Value) (out : List ℕ) → Emitted schema ss ts old base out (map field_slot (drop i fs)) (trees (map view (drop i vs)))
    → i < length vs → v ≡ get_or vs i v → i < length fs → f ≡ get_or fs i f → base ≤ length old
    → FlagIn (shifted (8 * base) (flag_place f.flag)) (length out)
flag_fits schema ss ts old base fs f vs i v out e lt is ltf isf le =
    let here = field_here schema ss ts old base fs f vs i v out lt is ltf isf e in
    let n = emitted_length schema ss ts old base out _ _ le here in
    let long = here.long in
    shifted_in (flag_place f.flag) base (length old - base) (length out) here.within.1 (omega (arith, n, long))

-- a field still fits where its flag was set
pub field_fits_marked : (schema : Schema) (ss : List Slot) (ts : Trees) (old : List ℕ) (base : ℕ) (fs : List FieldRow) (f : FieldRow) (k : KindTree)
    (vs : List Value) (i : ℕ) (v : Value) (out out2 : List ℕ) → Emitted schema ss ts old base out (map field_slot (drop i fs)) (trees (map view (drop i vs)))
    → i < length vs → v ≡ get_or vs i v → i < length fs → f ≡ get_or fs i f → k ≡ f.kind → base ≤ length old
    → out2 ≡ put_present (shifted (8 * base) (flag_place f.flag)) (view v) out
    → 8 * base + (8 * f.offset + f.bit) + size_of k ≤ 8 * length out2
field_fits_marked schema ss ts old base fs f k vs i v out out2 e lt is ltf isf kind le marked =
    let fits = field_fits schema ss ts old base fs f k vs i v out e lt is ltf isf kind le in
    omega (arith, fits, ap length marked, present_length (shifted (8 * base) (flag_place f.flag)) (view v) out)

pub array_is : (schema : Schema) (k : KindTree) (vs : List Value) (old d : List ℕ) (base size : ℕ) → size ≡ size_of k → base ≡ length old + 8
    → d ≡ old ++ (bytes32 (8 + (length vs * size + 7) / 8) ++ (bytes32 (length vs) ++ zeros (rounded8 ((length vs * size + 7) / 8))))
    → (length d ≡ base + rounded8 (element_bytes k (length vs))) ×
    (take base d ++ (body_of schema (element_slots k 0 (length vs)) (trees (map view vs)) (drop base d) (length d - base) ++ behind schema
    (element_slots k 0 (length vs)) (trees (map view vs))) ≡ old ++ emit schema true (kinds.ArrayKind k None false) (Items (trees (map view vs))))
unfolding emit
array_is schema k vs old d base size size-is base-is d-is =
    let n = length vs in
    let ts = trees (map view vs) in
    let e : d ≡ old ++ (bytes32 (8 + element_bytes k n) ++ (bytes32 n ++ zeros (rounded8 (element_bytes k n)))) =
    d-is ∙ ap (λ z. old ++ (bytes32 (8 + (n * z + 7) / 8) ++ (bytes32 n ++ zeros (rounded8 ((n * z + 7) / 8))))) size-is in
    let b = begun schema (8 + element_bytes k n) n (rounded8 (element_bytes k n)) (element_slots k 0 n) ts old d base base-is e in (
      b.0,
      b.1 ∙ ap (λ m. old ++ object (8 + element_bytes k m) m
          (body_of schema (element_slots k 0 m) ts (zeros (rounded8 (element_bytes k m))) (rounded8 (element_bytes k m)))
          (behind schema (element_slots k 0 m) ts)) (sym (count_is vs)),
    )

pub struct_is : (schema : Schema) (number : ℕ) (row : StructRow) (ts : Trees) (old d : List ℕ) (base : ℕ)
    → row_of schema (kinds.StructKind number false) ≡ Some row → base ≡ length old + 8
    → d ≡ old ++ (bytes32 (found_size (Some row)) ++ (bytes32 (found_version (Some row)) ++ zeros (found_size (Some row) - 8)))
    → (length d ≡ base + (found_size (Some row) - 8)) ×
    (take base d ++ (body_of schema (map field_slot row.fields) ts (drop base d) (length d - base) ++ behind schema (map field_slot row.fields) ts) ≡ old
    ++ emit schema true (kinds.StructKind number false) (Fields ts))
unfolding emit
struct_is schema number row ts old d base found base-is d-is =
    let b = begun schema (found_size (Some row)) (found_version (Some row)) (found_size (Some row) - 8) (map field_slot row.fields) ts old d base base-is
    d-is in
    (b.0, b.1 ∙ ap (λ o. old ++ struct_object o (λ zs n. body_of schema zs ts (zeros n) n) (λ zs. behind schema zs ts)) (sym found))

pub no_struct : (schema : Schema) (number : ℕ) (ts : Trees) (old : List ℕ) → row_of schema (kinds.StructKind number false) ≡ None
    → old ≡ old ++ emit schema true (kinds.StructKind number false) (Fields ts)
unfolding emit
no_struct schema number ts old missing =
    sym (append-nil old) ∙ ap (λ o. old ++ struct_object o (λ zs n. body_of schema zs ts (zeros n) n) (λ zs. behind schema zs ts)) (sym missing)

pub member_inline : (schema : Schema) (k m : KindTree) (tag : ℕ) (t : Tree) (old : List ℕ) → member_kind schema k tag ≡ Some m
    → old ++ emit schema false m t ≡ old ++ emit schema true k (Member tag t)
unfolding emit
member_inline schema k m tag t old found = ap (λ o. old ++ member_object o true tag t (λ n. emit schema false n t)) (sym found)

pub member_pointed : (schema : Schema) (k m : KindTree) (tag : ℕ) (t : Tree) (old : List ℕ) → member_kind schema k tag ≡ Some m
    → old ++ object UNION_BYTES tag (put_cell 0 m t (zeros 8) 8) (emit schema false m t) ≡ old ++ emit schema false k (Member tag t)
unfolding emit
member_pointed schema k m tag t old found = ap (λ o. old ++ member_object o false tag t (λ n. emit schema false n t)) (sym found)

pub no_member : (schema : Schema) (inline : Bool) (k : KindTree) (tag : ℕ) (t : Tree) (old : List ℕ) → member_kind schema k tag ≡ None
    → old ≡ old ++ emit schema inline k (Member tag t)
unfolding emit
no_member schema inline k tag t old missing = sym (append-nil old) ∙ ap (λ o. old ++ member_object o inline tag t (λ n. emit schema false n t)) (sym missing)

pub pointed_is : (schema : Schema) (m : KindTree) (tag : ℕ) (t : Tree) (old d out2 : List ℕ) (base at : ℕ) → base ≡ length old + 8
    → d ≡ old ++ (bytes32 UNION_BYTES ++ (bytes32 tag ++ zeros 8)) → at ≡ length d → out2 ≡ put_cell (8 * base + 0) m t d at
    → out2 ++ emit schema false m t ≡ old ++ object UNION_BYTES tag (put_cell 0 m t (zeros 8) 8) (emit schema false m t)
unfolding bytes32
pointed_is schema m tag t old d out2 base at base-is d-is at-is is =
    let head : List ℕ = bytes32 UNION_BYTES ++ bytes32 tag in
    let pre : List ℕ = old ++ head in
    let d2 : d ≡ pre ++ (zeros 8 ++ []) = d-is ∙ sym (append_assoc old head (zeros 8)) in
    let len : length pre ≡ base = omega (arith, length-append old head) in
    let dn : at ≡ length pre + 8 = omega (arith, at-is, ap length d2, length-append pre (zeros 8)) in
    let w : out2 ≡ pre ++ (put_cell 0 m t (zeros 8) 8 ++ []) =
    is ∙ ap (λ n. put_cell (8 * n + 0) m t d at) (sym len) ∙ ap (λ l. put_cell (8 * length pre + 0) m t l at) d2
    ∙ ap (λ n. put_cell (8 * length pre + 0) m t (pre ++ (zeros 8 ++ [])) n) dn ∙ cell_within pre (zeros 8) [] 0 m t 8 (omega (arith, (cell_fits m).1)) in
    let child = emit schema false m t in
    let cell = put_cell 0 m t (zeros 8) 8 in
    ap (λ l. l ++ child) (w ∙ ap (λ l. pre ++ l) (append-nil cell)) ∙ append_assoc pre cell child ∙ append_assoc old head (cell ++ child)

-- a map by its two lists
pub map_is : (schema : Schema) (inline : Bool) (key value : KindTree) (nullable : Bool) (ks vs : Trees) (old d d1 d2 : List ℕ) (base : ℕ)
    → base ≡ length old + 8 → d ≡ old ++ (bytes32 24 ++ (bytes32 0 ++ zeros 16))
    → d1 ≡ write d base (bytes64 (length d - base)) ++ emit schema true (kinds.ArrayKind key None false) (Items ks)
    → d2 ≡ write d1 (base + 8) (bytes64 (length d1 - (base + 8))) ++ emit schema true (kinds.ArrayKind value None false) (Items vs)
    → d2 ≡ old ++ emit schema inline (kinds.MapKind key value nullable) (Pairs (more (Items ks) (more (Items vs) none)))
unfolding emit
map_is schema inline key value nullable ks vs old d d1 d2 base base-is d-is is1 is2 =
    let ss = map_slots key value in
    let ts : Trees = more (Items ks) (more (Items vs) none) in
    let b = begun schema 24 0 16 ss ts old d base base-is d-is in
    let le : base ≤ length d = omega (arith, b.0) in
    let n : length d - base ≡ 16 = omega (arith, b.0) in
    let p0 : base ≡ (8 * base + 0) / 8 = omega arith in
    let p1 : base + 8 ≡ (8 * base + 64) / 8 = omega arith in
    let e0 = begins schema ss ts d base le (rw n (omega arith, tt, (omega arith, tt, tt))) in
    let e1 = one_more schema ss ts d base d d1 (record { place = 0; kind = kinds.ArrayKind key None false; flag = None })
    (record { place = 64; kind = kinds.ArrayKind value None false; flag = None } ∷ []) (Items ks) (more (Items vs) none) le e0 (is1
    ∙ ap (λ p. write d p (bytes64 (length d - p)) ++ emit schema true (kinds.ArrayKind key None false) (Items ks)) p0) in
    let e2 = one_more schema ss ts d base d1 d2 (record { place = 64; kind = kinds.ArrayKind value None false; flag = None }) [] (Items vs) none le e1 (is2
    ∙ ap (λ p. write d1 p (bytes64 (length d1 - p)) ++ emit schema true (kinds.ArrayKind value None false) (Items vs)) p1) in
    none_left schema ss ts d base d2 [] e2 ∙ b.1

-- the same, where kinds and lists are known by others that are equal
pub map_of : (schema : Schema) (inline : Bool) (key key2 value value2 : KindTree) (nullable : Bool) (ks ks2 vs vs2 : Trees) (old d d1 d2 : List ℕ)
    (base : ℕ) → key2 ≡ key → value2 ≡ value → ks2 ≡ ks → vs2 ≡ vs → base ≡ length old + 8 → d ≡ old ++ (bytes32 24 ++ (bytes32 0 ++ zeros 16))
    → d1 ≡ write d base (bytes64 (length d - base)) ++ emit schema true (kinds.ArrayKind key2 None false) (Items ks2)
    → d2 ≡ write d1 (base + 8) (bytes64 (length d1 - (base + 8))) ++ emit schema true (kinds.ArrayKind value2 None false) (Items vs2)
    → d2 ≡ old ++ emit schema inline (kinds.MapKind key value nullable) (Pairs (more (Items ks) (more (Items vs) none)))
map_of schema inline key key2 value value2 nullable ks ks2 vs vs2 old d d1 d2 base key-is value-is ks-is vs-is base-is d-is is1 is2 =
    map_is schema inline key value nullable ks vs old d d1 d2 base base-is d-is
    (is1 ∙ ap (λ k. write d base (bytes64 (length d - base)) ++ emit schema true (kinds.ArrayKind k None false) (Items ks2)) key-is
    ∙ ap (λ ts. write d base (bytes64 (length d - base)) ++ emit schema true (kinds.ArrayKind key None false) (Items ts)) ks-is)
    (is2 ∙ ap (λ k. write d1 (base + 8) (bytes64 (length d1 - (base + 8))) ++ emit schema true (kinds.ArrayKind k None false) (Items vs2)) value-is
    ∙ ap (λ ts. write d1 (base + 8) (bytes64 (length d1 - (base + 8))) ++ emit schema true (kinds.ArrayKind value None false) (Items ts)) vs-is)

-- how long an object is by its two numbers and its zeros
pub object_room : (old d : List ℕ) (first second size base : ℕ) → base ≡ length old + 8 → d ≡ old ++ (bytes32 first ++ (bytes32 second ++ zeros size))
    → length d ≡ base + size
unfolding bytes32
object_room old d first second size base base-is d-is =
    omega (arith, ap length d-is, length-append old (bytes32 first ++ (bytes32 second ++ zeros size)), length-replicate {A = ℕ} size 0)

pub list_room : (d d1 bytes back : List ℕ) (place : ℕ) → d1 ≡ write d place bytes ++ back → length d ≤ length d1
list_room d d1 bytes back place is = omega (arith, ap length is, length-append (write d place bytes) back, write_length d place bytes)
