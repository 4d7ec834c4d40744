-- A struct whose fields are those of another and more, all of later versions: the fields lie where they lay, and its row for the other's
-- newest version has the other's bytes.
use Rattle.std.proofs.Common.{◌≡◌, ℕ, suc, ◌+◌, ◌/◌, ◌%◌, ◌≤◌, Bool, true, false, cond, List, [], ◌∷◌, ◌++◌, length, take, map, Option, Some, refl, sym, ap, subst, ◌∙◌, arith}
use Rattle.std.specs.Prelude.{nat_le, ◌==◌, IsTrue, max}
use Rattle.std.specs.List.{filter}
use Rattle.std.proofs.lemmas.Bool.{and_parts, le-leb}
use Rattle.std.proofs.lemmas.Bool.Decides.{Decides-eqb, nat_tests}
use Rattle.mj_base.specs.Bytes.{rounded8}
use Rattle.mj_schema.specs.KindTrees as kinds
use Rattle.mj_schema.specs.KindTrees.{KindTree}
use Rattle.mj_schema.specs.Sizes.{size_of, alignment_of}
use Rattle.mj_schema.specs.Layout as layout
use Rattle.mj_schema.specs.Layout.{IsLaidOut, IsLeastPlace, IsFlagPlaced, IsPlaced, ArePacked, is_free, slot_at, flag_slots, part_slots, address_of, kind_of, place_of, never_fall}
use Rattle.mj_schema.specs.Parts.{has_flag, bit_address, flag_place}
use Rattle.mj_schema.specs.declared.rows.Flag.{Flag}
use Rattle.mj_schema.proofs.OneLayout.{same_place}
use Rattle.mj_schema.specs.Versions.{end_of, flag_end, bytes_of, greatest, fields_up_to, version_row, version_rows, versions_behind}
use Rattle.mj_schema.specs.declared.rows.FieldRow.{FieldRow}
use Rattle.mj_schema.specs.declared.rows.Place.{Place}
use Rattle.mj_schema.specs.declared.rows.StructRow.{StructRow}
use Rattle.mj_schema.specs.declared.rows.VersionRow.{VersionRow}
use Rattle.mj_schema.proofs.RisingRows.{rows_are_a_table}
use Rattle.wire_model.specs.Marks.{row_fits}
use Rattle.wire_model.specs.Rows.{row_for, last_or, newest_version, no_row}
use Rattle.wire_model.specs.Slots.{field_slot, found_size, found_version}
use Rattle.wire_laws.specs.Carried.{Pair, KindFits, SlotsFit, RowFits}
use Rattle.wire_laws.specs.steps.Prefixes.{FieldsFit, AreLater}
use Rattle.wire_laws.proofs.CarriedObjects.{size_kept}
use Rattle.wire_laws.proofs.VersionRows.{by_test, since, last_number, newest_of, newest_is_last, last_mapped, last_row, last_grows, all_fields}

-- ---- places

alignment_kept : (P : Pair → Type 0) (k k' : KindTree) → KindFits P k k' → alignment_of k' ≡ alignment_of k
alignment_kept P (kinds.BoolKind nb) k' f = ap alignment_of f
alignment_kept P (kinds.IntKind w s nb) k' f = ap alignment_of f
alignment_kept P (kinds.EnumKind i nb) k' f = ap alignment_of f.1
alignment_kept P (kinds.TextKind n) k' f = ap alignment_of f.1
alignment_kept P (kinds.HandleKind sort n) k' f = ap alignment_of f.1
alignment_kept P (kinds.ArrayKind o c n) k' f = ap alignment_of f.3
alignment_kept P (kinds.MapKind a b n) k' f = ap alignment_of f.3
alignment_kept P (kinds.StructKind i n) k' f = ap alignment_of f.2
alignment_kept P (kinds.UnionKind i n) k' f = ap alignment_of f.2
alignment_kept P (kinds.RemoteKind i n) k' f = ap alignment_of f.2
alignment_kept P (kinds.ReceiverKind i n) k' f = ap alignment_of f.2
alignment_kept P (kinds.AssociatedRemoteKind i n) k' f = ap alignment_of f.2
alignment_kept P (kinds.AssociatedReceiverKind i n) k' f = ap alignment_of f.2

slot_as : (k k' : KindTree) (a : ℕ) → size_of k' ≡ size_of k → slot_at k' a ≡ slot_at k a
slot_as k k' a same = ap (λ (n : ℕ). let s : layout.Slot = record { start = a; size = n } in s) same

flags_kept : (P : Pair → Type 0) (k k' : KindTree) → KindFits P k k' → has_flag k' ≡ has_flag k
flags_kept P (kinds.BoolKind nb) k' f = ap has_flag f
flags_kept P (kinds.IntKind w s nb) k' f = ap has_flag f
flags_kept P (kinds.EnumKind i nb) k' f = ap has_flag f.1
flags_kept P (kinds.TextKind n) k' f = ap has_flag f.1
flags_kept P (kinds.HandleKind sort n) k' f = ap has_flag f.1
flags_kept P (kinds.ArrayKind o c n) k' f = ap has_flag f.3
flags_kept P (kinds.MapKind a b n) k' f = ap has_flag f.3
flags_kept P (kinds.StructKind i n) k' f = ap has_flag f.2
flags_kept P (kinds.UnionKind i n) k' f = ap has_flag f.2
flags_kept P (kinds.RemoteKind i n) k' f = ap has_flag f.2
flags_kept P (kinds.ReceiverKind i n) k' f = ap has_flag f.2
flags_kept P (kinds.AssociatedRemoteKind i n) k' f = ap has_flag f.2
flags_kept P (kinds.AssociatedReceiverKind i n) k' f = ap has_flag f.2

-- kinds of one size and alignment have one least place
least_as : (taken : List layout.Slot) (k k' : KindTree) (offset bit : ℕ) → size_of k' ≡ size_of k → alignment_of k' ≡ alignment_of k
    → IsLeastPlace taken k' offset bit → IsLeastPlace taken k offset bit
least_as taken k k' offset bit size alignment l = record {
  bit_of_byte = l.bit_of_byte;
  aligned = subst (λ (n : ℕ). bit_address offset bit % n ≡ 0) alignment l.aligned;
  free = subst (λ (s : layout.Slot). IsTrue (is_free taken s)) (slot_as k k' (bit_address offset bit) size) l.free;
  least = λ other whole free.
      l.least other (subst (λ (n : ℕ). other % n ≡ 0) (sym alignment) whole)
      (subst (λ (s : layout.Slot). IsTrue (is_free taken s)) (sym (slot_as k k' other size)) free);
}

-- so a field of a kind that fits lies where one of the other would
placed_as : (P : Pair → Type 0) (taken : List layout.Slot) (k k' : KindTree) (place : Place) → KindFits P k k' → IsPlaced taken k' place
    → IsPlaced taken k place
placed_as P taken k k' place f placed = record {
  flag = subst (λ (has : Bool). IsFlagPlaced taken has place.flag) (flags_kept P k k' f) placed.flag;
  value =
      least_as (flag_slots place.flag ++ taken) k k' place.offset place.bit (size_kept P k k' f) (alignment_kept P k k' f) placed.value;
}

pub record SamePlaces (P : Pair → Type 0) (fs gs : List FieldRow) : Type 0 where
  pub slots : SlotsFit P (map field_slot fs) (map field_slot (take (length fs) gs))
  pub ends : greatest (map end_of (take (length fs) gs)) ≡ greatest (map end_of fs)

-- the places of the first fields depend on their sizes, alignments and flags alone
pub prefix_places : (P : Pair → Type 0) (taken taken' : List layout.Slot) (fs gs : List FieldRow) → taken' ≡ taken
    → ArePacked taken (map kind_of fs) (map place_of fs) → ArePacked taken' (map kind_of gs) (map place_of gs) → FieldsFit P fs gs → SamePlaces P fs gs
prefix_places P taken taken' [] gs same a b fit = record { slots = tt; ends = refl }
prefix_places P taken taken' (f ∷ fs) [] same a b fit = absurd fit
prefix_places P taken taken' (f ∷ fs) (g ∷ gs) same a b fit =
    let size = size_kept P f.kind g.kind fit.0 in
    let moved = placed_as P taken f.kind g.kind (place_of g) fit.0 (subst (λ (l : List layout.Slot). IsPlaced l g.kind (place_of g)) same b.0) in
    let at = same_place taken f.kind (place_of f) (place_of g) a.0 moved in
    let there : address_of (place_of g) ≡ address_of (place_of f) = omega (arith, at.0, at.1) in
    let slot : slot_at g.kind (address_of (place_of g)) ≡ slot_at f.kind (address_of (place_of f)) =
    ap (slot_at g.kind) there ∙ slot_as f.kind g.kind (address_of (place_of f)) size in
    let more_taken : part_slots g.kind (place_of g) ++ taken' ≡ part_slots f.kind (place_of f) ++ taken =
    ap (λ (s : layout.Slot). (s ∷ flag_slots g.flag) ++ taken') slot
    ∙ ap (λ (flag : Option Flag). (slot_at f.kind (address_of (place_of f)) ∷ flag_slots flag) ++ taken') (sym at.2)
    ∙ ap (λ (l : List layout.Slot). part_slots f.kind (place_of f) ++ l) same in
    let rest = prefix_places P (part_slots f.kind (place_of f) ++ taken) (part_slots g.kind (place_of g) ++ taken') fs gs more_taken a.1 b.1 fit.2 in
    let end : end_of g ≡ end_of f =
    ap (λ (flag : Option Flag). max (flag_end flag) (g.offset + bytes_of g.kind)) (sym at.2)
    ∙ ap (λ (n : ℕ). max (flag_end f.flag) (n + bytes_of g.kind)) (sym at.0)
    ∙ ap (λ (n : ℕ). max (flag_end f.flag) (f.offset + (n + 7) / 8)) size in
    record {
      slots = (there, ap flag_place (sym at.2), fit.0, rest.slots);
      ends =
          ap (λ (n : ℕ). max n (greatest (map end_of (take (length fs) gs)))) end ∙ ap (λ (n : ℕ). max (end_of f) n) rest.ends;
    }

-- ---- versions

-- none of the versions that are later is kept
none_later : (z v : ℕ) (hs : List FieldRow) → AreLater v [] hs → filter (λ (y : ℕ). nat_le y v) (versions_behind z hs) ≡ []
none_later z v [] later' = refl
none_later z v (h ∷ hs) later' =
    by_test (h.min_version == z) (λ t. filter (λ (y : ℕ). nat_le y v) (cond t (versions_behind z hs) (h.min_version ∷ versions_behind h.min_version hs)) ≡ [])
    (λ y. none_later z v hs later'.1)
    (λ n. let above : nat_le h.min_version v ≡ false = grind (arith, later'.0, nat_tests) in rw above (none_later h.min_version v hs later'.1))

-- the newest version of the first fields is among those of all, and no later one stands before it
found_last : (P : Pair → Type 0) (x v : ℕ) (fs gs : List FieldRow) → FieldsFit P fs gs → AreLater v fs gs → never_fall x (map since fs) ≡ true
    → last_number x (versions_behind x fs) ≡ v → last_number x (filter (λ (y : ℕ). nat_le y v) (versions_behind x gs)) ≡ v
found_last P x v [] [] fit later fall e = e
found_last P x v [] (g ∷ gs) fit later fall e =
    by_test (g.min_version == x) (λ t. last_number x (filter (λ (y : ℕ). nat_le y v) (cond t (versions_behind x gs)
    (g.min_version ∷ versions_behind g.min_version gs))) ≡ v)
    (λ y. found_last P x v [] gs fit later.1 fall e)
    (λ n. let above : nat_le g.min_version v ≡ false = grind (arith, later.0, nat_tests) in
    rw above (ap (last_number x) (none_later g.min_version v gs later.1) ∙ e))
found_last P x v (f ∷ fs) [] fit later fall e = absurd fit
found_last P x v (f ∷ fs) (g ∷ gs) fit later fall e =
    let parts = and_parts (nat_le x f.min_version) (never_fall f.min_version (map since fs)) fall in
    let here : (z : ℕ) → z ≡ f.min_version
    → last_number x (cond (f.min_version == x) (versions_behind x fs) (f.min_version ∷ versions_behind f.min_version fs)) ≡ v
    → last_number x (filter (λ (y : ℕ). nat_le y v) (cond (z == x) (versions_behind x gs) (z ∷ versions_behind z gs))) ≡ v =
    λ z same. subst (λ (z' : ℕ). last_number x (cond (f.min_version == x) (versions_behind x fs) (f.min_version ∷ versions_behind f.min_version fs)) ≡ v
    → last_number x (filter (λ (y : ℕ). nat_le y v) (cond (z' == x) (versions_behind x gs) (z' ∷ versions_behind z' gs))) ≡ v) (sym same)
    (by_test (f.min_version == x) (λ t. last_number x (cond t (versions_behind x fs) (f.min_version ∷ versions_behind f.min_version fs)) ≡ v
    → last_number x (filter (λ (y : ℕ). nat_le y v) (cond t (versions_behind x gs) (f.min_version ∷ versions_behind f.min_version gs))) ≡ v)
    (λ y e'. let is = (Decides-eqb f.min_version x).0 y in
    let fall' : never_fall x (map since fs) ≡ true = rw is at parts.1 in
    found_last P x v fs gs fit.2 later fall' e')
    (λ n e'. let old : nat_le f.min_version v ≡ true = le-leb _ _ (omega (arith, e', last_grows f.min_version fs parts.1)) in
    rw old (found_last P f.min_version v fs gs fit.2 later parts.1 e'))) in
    here g.min_version fit.1 e

-- the newest version of all is not before that of the first fields
last_over : (P : Pair → Type 0) (x : ℕ) (fs gs : List FieldRow) → FieldsFit P fs gs → never_fall x (map since gs) ≡ true
    → last_number x (versions_behind x fs) ≤ last_number x (versions_behind x gs)
last_over P x [] gs fit fall = last_grows x gs fall
last_over P x (f ∷ fs) [] fit fall = absurd fit
last_over P x (f ∷ fs) (g ∷ gs) fit fall =
    let parts = and_parts (nat_le x g.min_version) (never_fall g.min_version (map since gs)) fall in
    subst (λ (z : ℕ). last_number x (cond (z == x) (versions_behind x fs) (z ∷ versions_behind z fs))
    ≤ last_number x (cond (g.min_version == x) (versions_behind x gs) (g.min_version ∷ versions_behind g.min_version gs))) fit.1
    (by_test (g.min_version == x) (λ t. last_number x (cond t (versions_behind x fs) (g.min_version ∷ versions_behind g.min_version fs))
    ≤ last_number x (cond t (versions_behind x gs) (g.min_version ∷ versions_behind g.min_version gs)))
    (λ y. let is = (Decides-eqb g.min_version x).0 y in
    let fall' : never_fall x (map since gs) ≡ true = rw is at parts.1 in
    last_over P x fs gs fit.2 fall')
    (λ n. last_over P g.min_version fs gs fit.2 parts.1))

-- each field is of a version up to this one
abbrev AllUpTo : ℕ → List FieldRow → Type 0
AllUpTo v [] = Unit {0}
AllUpTo v (f ∷ fs) = (f.min_version ≤ v) × AllUpTo v fs

all_up_to : (x v : ℕ) (fs : List FieldRow) → never_fall x (map since fs) ≡ true → last_number x (versions_behind x fs) ≤ v → AllUpTo v fs
all_up_to x v [] fall le = tt
all_up_to x v (f ∷ fs) fall le =
    let parts = and_parts (nat_le x f.min_version) (never_fall f.min_version (map since fs)) fall in
    by_test (f.min_version == x) (λ t. last_number x (cond t (versions_behind x fs) (f.min_version ∷ versions_behind f.min_version fs)) ≤ v
    → AllUpTo v (f ∷ fs))
    (λ y le'. let is = (Decides-eqb f.min_version x).0 y in
    let fall' : never_fall x (map since fs) ≡ true = rw is at parts.1 in
    (omega (arith, is, le', last_grows x fs fall'), all_up_to x v fs fall' le'))
    (λ n le'. (omega (arith, le', last_grows f.min_version fs parts.1), all_up_to f.min_version v fs parts.1 le')) le

-- the fields up to the newest version of the first are the first
up_to_first : (P : Pair → Type 0) (v : ℕ) (fs gs : List FieldRow) → FieldsFit P fs gs → AreLater v fs gs → AllUpTo v fs
    → fields_up_to v gs ≡ take (length fs) gs
up_to_first P v [] [] fit later old = refl
up_to_first P v [] (g ∷ gs) fit later old =
    let above : nat_le g.min_version v ≡ false = grind (arith, later.0, nat_tests) in rw above (up_to_first P v [] gs fit later.1 old)
up_to_first P v (f ∷ fs) [] fit later old = absurd fit
up_to_first P v (f ∷ fs) (g ∷ gs) fit later old =
    let below : nat_le g.min_version v ≡ true = le-leb _ _ (omega (arith, old.0, fit.1)) in
    rw below (ap (λ (l : List FieldRow). g ∷ l) (up_to_first P v fs gs fit.2 later old.1))

first_length : (P : Pair → Type 0) (fs gs : List FieldRow) → FieldsFit P fs gs → length (take (length fs) gs) ≡ length fs
first_length P [] gs fit = refl
first_length P (f ∷ fs) [] fit = absurd fit
first_length P (f ∷ fs) (g ∷ gs) fit = ap suc (first_length P fs gs fit.2)

-- ---- rows

kept_rows : (fields : List FieldRow) (v : ℕ) (vs : List ℕ)
    → filter (λ (row : VersionRow). nat_le row.version v) (map (version_row fields) vs) ≡ map (version_row fields) (filter (λ (y : ℕ). nat_le y v) vs)
kept_rows fields v [] = refl
kept_rows fields v (x ∷ xs) =
    by_test (nat_le x v) (λ t. cond t (version_row fields x ∷ filter (λ (row : VersionRow). nat_le row.version v) (map (version_row fields) xs))
    (filter (λ (row : VersionRow). nat_le row.version v) (map (version_row fields) xs))
    ≡ map (version_row fields) (cond t (x ∷ filter (λ (y : ℕ). nat_le y v) xs) (filter (λ (y : ℕ). nat_le y v) xs)))
    (λ y. ap (λ (l : List VersionRow). version_row fields x ∷ l) (kept_rows fields v xs)) (λ n. kept_rows fields v xs)

-- the row for a version is that of the last version up to it
row_for_is : (fields : List FieldRow) (v : ℕ)
    → row_for (version_rows fields) v ≡ version_row fields (last_number 0 (filter (λ (y : ℕ). nat_le y v) (versions_behind 0 fields)))
row_for_is fields v =
    let zero_kept : nat_le 0 v ≡ true = le-leb _ _ (omega arith) in
    ap (last_or no_row) (kept_rows fields v (0 ∷ versions_behind 0 fields))
    ∙ ap (λ (t : Bool). last_or no_row (map (version_row fields) (cond t (0 ∷ filter (λ (y : ℕ). nat_le y v) (versions_behind 0 fields))
    (filter (λ (y : ℕ). nat_le y v) (versions_behind 0 fields))))) zero_kept
    ∙ last_mapped fields 0 (filter (λ (y : ℕ). nat_le y v) (versions_behind 0 fields))

-- a struct whose first fields fit those of another, and whose others are of later versions than the other has, has what it reads by
pub row_carried : (P : Pair → Type 0) (row row' : StructRow) → IsLaidOut row → IsLaidOut row' → FieldsFit P row.fields row'.fields
    → AreLater (newest_of row.fields) row.fields row'.fields → RowFits P row row'
unfolding row_fits
row_carried P row row' a b fit later =
    let fs = row.fields in
    let gs = row'.fields in
    let v = newest_of fs in
    let version : found_version (Some row) ≡ v =
    ap (λ (rows : List VersionRow). (last_or no_row rows).version) a.versions ∙ ap (λ (r : VersionRow). r.version) (last_row fs) in
    let newest : row_for row.versions (newest_version row.versions) ≡ version_row fs v =
    newest_is_last row.versions (rows_are_a_table row a) ∙ ap (λ (rows : List VersionRow). last_or no_row rows) a.versions ∙ last_row fs in
    let size : found_size (Some row) ≡ rounded8 (8 + greatest (map end_of fs)) =
    ap (λ (r : VersionRow). r.bytes) newest ∙ ap (λ (l : List FieldRow). rounded8 (8 + greatest (map end_of l))) (all_fields fs a.rising) in
    let first : fields_up_to v gs ≡ take (length fs) gs = up_to_first P v fs gs fit later (all_up_to 0 v fs a.rising (omega arith)) in
    let places = prefix_places P [] [] fs gs refl a.packed b.packed fit in
    let there : row_for row'.versions v ≡ version_row gs v =
    ap (λ (rows : List VersionRow). row_for rows v) b.versions ∙ row_for_is gs v ∙ ap (version_row gs) (found_last P 0 v fs gs fit later a.rising refl) in
    let fields : (row_for row'.versions v).fields ≡ length fs =
    ap (λ (r : VersionRow). r.fields) there ∙ ap length first ∙ first_length P fs gs fit in
    let bytes : (row_for row'.versions v).bytes ≡ rounded8 (8 + greatest (map end_of fs)) =
    ap (λ (r : VersionRow). r.bytes) there ∙ ap (λ (l : List FieldRow). rounded8 (8 + greatest (map end_of l))) first
    ∙ ap (λ (n : ℕ). rounded8 (8 + n)) places.ends in
    let last : newest_version row'.versions ≡ newest_of gs =
    ap (λ (rows : List VersionRow). (last_or no_row rows).version) b.versions ∙ ap (λ (r : VersionRow). r.version) (last_row gs) in
    let known : nat_le v (newest_version row'.versions) ≡ true = le-leb _ _ (omega (arith, last, last_over P 0 fs gs fit b.rising)) in
    let same : (found_size (Some row) == (row_for row'.versions v).bytes) ≡ true = (Decides-eqb (found_size (Some row)) (row_for row'.versions v).bytes).1
    (size ∙ sym bytes) in
    let fitting : (x : ℕ) → x ≡ v → row_fits row'.versions x (found_size (Some row)) ≡ true =
    λ x e. subst (λ (y : ℕ). row_fits row'.versions y (found_size (Some row)) ≡ true) (sym e) (rw known same) in
    record {
      bytes = fitting (found_version (Some row)) version;
      fields = ap (λ (x : ℕ). (row_for row'.versions x).fields) version ∙ fields;
      slots = subst (λ (x : ℕ). SlotsFit P (map field_slot fs) (map field_slot (take x gs)))
          (sym (ap (λ (x : ℕ). (row_for row'.versions x).fields) version ∙ fields)) places.slots;
    }
