-- A schema reads what itself writes: the pairs of each row with itself are closed, and nothing grows. So the law of one schema is the law of
-- two at these pairs.
use Rattle.std.proofs.Common.{◌≡◌, ℕ, zero, suc, ◌+◌, ◌%◌, Bool, true, false, List, [], ◌∷◌, ◌++◌, length, map, take, drop, Option, Some, refl, sym, ap, subst, ◌∙◌, arith}
use Rattle.std.specs.Prelude.{IsTrue, slice_get}
use Rattle.std.proofs.lemmas.List.{take_all, drop_all}
use Rattle.std.proofs.lemmas.List.Elements.{All-get_or, All-from_recursion}
use Rattle.std.proofs.lemmas.Option.{slice_get_within, get_or_from_slice_get}
use Rattle.mj_schema.specs.KindTrees as kinds
use Rattle.mj_schema.specs.KindTrees.{KindTree, StructKind}
use Rattle.mj_schema.specs.Layout.{IsLaidOut}
use Rattle.mj_schema.specs.declared.rows.FieldRow.{FieldRow}
use Rattle.mj_schema.specs.declared.rows.StructRow.{StructRow}
use Rattle.mj_schema.specs.declared.schema.Schema.{Schema}
use Rattle.wire_model.specs.Absent.{absent_values}
use Rattle.wire_model.specs.Fits.{Fits, AreFit}
use Rattle.wire_model.specs.Kinded.{OrNull}
use Rattle.wire_laws.proofs.FlagReads.{flag_says, or_present, or_absent}
use Rattle.wire_model.specs.Marks.{is_known}
use Rattle.wire_model.specs.Rows.{kind_in, row_of}
use Rattle.wire_model.specs.Slots.{Slot, field_slot, element_slots, map_slots, found_fields}
use Rattle.wire_model.specs.Tight.{IsEncodable, StandsFor, MAX_DEPTH, payload_of}
use Rattle.wire_model.specs.Trees as values
use Rattle.wire_model.specs.Trees.{Tree, Trees, Fields, none, more, count}
use Rattle.wire_laws.specs.Carried.{Pair, Structs, Unions, Enums, KindFits, IsClosed}
use Rattle.wire_laws.specs.steps.Prefixes.{FieldsFit, AreLater}
use Rattle.wire_laws.specs.Grown.{grown, grown_slots, grown_parameters, all_fields, as_member}
use Rattle.wire_laws.proofs.VersionRows.{newest_of}
use Rattle.wire_laws.proofs.CarriedObjects.{fit_count, slots_length}
use Rattle.wire_laws.proofs.CarriedWhole.{payload_carries}
use Rattle.wire_laws.proofs.Prefix.{row_carried}

-- ---- each row with itself

abbrev Same : Pair → Type 0
Same (Structs i j) = i ≡ j
Same (Unions i j) = i ≡ j
Same (Enums i j) = i ≡ j

kind_same : (k : KindTree) → KindFits Same k k
kind_same (kinds.BoolKind n) = refl
kind_same (kinds.IntKind w s n) = refl
kind_same (kinds.EnumKind i n) = (i, refl, refl)
kind_same (kinds.TextKind n) = (n, refl, λ h. h)
kind_same (kinds.HandleKind s n) = (n, refl, λ h. h)
kind_same (kinds.ArrayKind k c n) = (k, c, n, refl, kind_same k, (λ x h. h), λ h. h)
kind_same (kinds.MapKind k v n) = (k, v, n, refl, kind_same k, kind_same v, λ h. h)
kind_same (kinds.StructKind i n) = (i, n, refl, refl, λ h. h)
kind_same (kinds.UnionKind i n) = (i, n, refl, refl, λ h. h)
kind_same (kinds.RemoteKind i n) = (i, n, refl, λ h. h)
kind_same (kinds.ReceiverKind i n) = (i, n, refl, λ h. h)
kind_same (kinds.AssociatedRemoteKind i n) = (i, n, refl, λ h. h)
kind_same (kinds.AssociatedReceiverKind i n) = (i, n, refl, λ h. h)

fields_same : (fs : List FieldRow) → FieldsFit Same fs fs
fields_same [] = tt
fields_same (f ∷ fs) = (kind_same f.kind, refl, fields_same fs)

none_later : (v : ℕ) (fs : List FieldRow) → AreLater v fs fs
none_later v [] = tt
none_later v (f ∷ fs) = none_later v fs

laid_out : (schema : Schema) (i : ℕ) (row : StructRow) → slice_get schema.structs i ≡ Some row → IsLaidOut row
laid_out schema i row e =
    subst IsLaidOut (get_or_from_slice_get schema.structs i row row e)
    (All-get_or IsLaidOut schema.structs i row (slice_get_within schema.structs i row e) (All-from_recursion IsLaidOut schema.structs schema.laid_out))

closed : (schema : Schema) → IsClosed schema schema Same
closed schema = record {
  structs = λ i j row same e. (
    row,
    subst (λ (x : ℕ). slice_get schema.structs x ≡ Some row) same e,
    row_carried Same row row (laid_out schema i row e) (laid_out schema i row e) (fields_same row.fields) (none_later (newest_of row.fields) row.fields),
  );
  unions = λ i j tag k same e. (k, subst (λ (x : ℕ). kind_in (slice_get schema.unions x) tag ≡ Some k) same e, kind_same k);
  enums = λ i j n same known. subst (λ (x : ℕ). IsTrue (is_known (slice_get schema.enums x) n)) same known;
}

-- ---- nothing grows

module _ (schema : Schema) where
  abbrev Stays : Tree → Type 0
  Stays t = (left : ℕ) (inline : Bool) (k : KindTree) → Fits schema left inline k t → grown schema k t ≡ t

  abbrev SlotsStay : Trees → Type 0
  SlotsStay ts = (left : ℕ) (ss : List Slot) → AreFit schema left ss ts → grown_slots schema ss ts none ≡ ts

  items_stay : (ts : Trees) → SlotsStay ts → Stays (values.Items ts)
  unfolding Fits
  items_stay ts go zero inline k fits = absurd fits.5
  items_stay ts go (suc left) inline k fits =
      subst (λ (x : KindTree). grown schema x (values.Items ts) ≡ values.Items ts) (sym fits.3)
      (ap values.Items (go left (element_slots fits.0 0 (count ts)) fits.5))

  pairs_stay : (ts : Trees) → SlotsStay ts → Stays (values.Pairs ts)
  unfolding Fits
  pairs_stay ts go zero inline k fits = absurd fits.5
  pairs_stay ts go (suc left) inline k fits =
      subst (λ (x : KindTree). grown schema x (values.Pairs ts) ≡ values.Pairs ts) (sym fits.3) (ap values.Pairs (go left (map_slots fits.0 fits.1) fits.5))

  struct_stays : (ts : Trees) → SlotsStay ts → (left : ℕ) (o : Option StructRow) (row : StructRow) → o ≡ Some row
      → AreFit schema left (found_fields (Some row)) ts
      → grown_slots schema (map field_slot (take (count ts) (all_fields o))) ts (absent_values schema (drop (count ts) (all_fields o))) ≡ ts
  struct_stays ts go left o row e fits =
      let counted : count ts ≡ length row.fields = fit_count schema left (found_fields (Some row)) ts fits ∙ slots_length row.fields in
      ap (λ (x : Option StructRow). grown_slots schema (map field_slot (take (count ts) (all_fields x))) ts
      (absent_values schema (drop (count ts) (all_fields x)))) e
      ∙ ap (λ (fs : List FieldRow). grown_slots schema (map field_slot fs) ts (absent_values schema (drop (count ts) row.fields)))
      (take_all (count ts) row.fields (omega (arith, counted)))
      ∙ ap (λ (fs : List FieldRow). grown_slots schema (map field_slot row.fields) ts (absent_values schema fs))
      (drop_all (count ts) row.fields (omega (arith, counted)))
      ∙ go left (found_fields (Some row)) fits

  fields_stay : (ts : Trees) → SlotsStay ts → Stays (Fields ts)
  unfolding Fits
  fields_stay ts go zero inline k fits = absurd fits.2
  fields_stay ts go (suc left) inline k fits = ap Fields (struct_stays ts go left (row_of schema k) fits.0 fits.1 fits.2)

  member_stays : (tag : ℕ) (t : Tree) → Stays t → Stays (values.Member tag t)
  unfolding Fits
  member_stays tag t go left true k fits =
      ap (λ (o : Option KindTree). values.Member tag (as_member o t (λ m. grown schema m t))) fits.1 ∙ ap (values.Member tag) (go left false fits.0 fits.3)
  member_stays tag t go zero false k fits = absurd fits.3
  member_stays tag t go (suc left) false k fits =
      ap (λ (o : Option KindTree). values.Member tag (as_member o t (λ m. grown schema m t))) fits.1 ∙ ap (values.Member tag) (go left false fits.0 fits.3)

  by_says : (b : Bool) (Q : Bool → Type 0) → Q true → Q false → Q b
  by_says true Q one two = one
  by_says false Q one two = two

  flagged_stays : (flag : Option ℕ) (t : Tree) (left : ℕ) (k : KindTree) → Stays t → OrNull flag t (Fits schema left true k t) → grown schema k t ≡ t
  flagged_stays flag t left k go fits =
      by_says (flag_says flag t) (λ b. flag_says flag t ≡ b → grown schema k t ≡ t)
      (λ yes'. go left true k (or_present flag t (Fits schema left true k t) yes' fits))
      (λ no'. subst (λ (x : Tree). grown schema k x ≡ x) (sym (or_absent flag t no')) refl) refl

  mutual
    unfolding Fits

    stays : (t : Tree) → Stays t
    stays (values.Flag b) = λ left inline k fits. refl
    stays (values.Whole n) = λ left inline k fits. refl
    stays (values.Text bs) = λ left inline k fits. refl
    stays (values.Items ts) = items_stay ts (slots_stay ts)
    stays (values.Pairs ts) = pairs_stay ts (slots_stay ts)
    stays (values.Fields ts) = fields_stay ts (slots_stay ts)
    stays (values.Member tag t) = member_stays tag t (stays t)
    stays (values.Unknown tag) = λ left inline k fits. refl
    stays (values.Handle i) = λ left inline k fits. refl
    stays (values.Remote i v) = λ left inline k fits. refl
    stays (values.EndpointRemote i v) = λ left inline k fits. refl
    stays (values.Endpoint i) = λ left inline k fits. refl
    stays values.Null = λ left inline k fits. refl

    slots_stay : (ts : Trees) → SlotsStay ts
    slots_stay none left ss fits = refl
    slots_stay (more t ts) left [] fits = absurd fits
    slots_stay (more t ts) left (s ∷ ss) fits =
        ap (λ (x : Tree). more x (grown_slots schema ss ts none)) (flagged_stays s.flag t left s.kind (stays t) fits.0)
        ∙ ap (more t) (slots_stay ts left ss fits.1)

of_fields : (ts us : Trees) → Fields ts ≡ Fields us → ts ≡ us
of_fields ts us e = cc

-- the law of one schema again
pub emitted : (schema : Schema) (number : ℕ) (ts : Trees) (handle_count id_count : ℕ) (front back : List ℕ)
    → IsEncodable schema number ts handle_count id_count → length front % 8 ≡ 0
    → StandsFor schema (front ++ (payload_of schema number ts ++ back)) (length front) (length front + length (payload_of schema number ts))
    number ts handle_count id_count
emitted schema number ts handle_count id_count front back ok mult =
    let same : grown_parameters schema number ts ≡ ts = of_fields (grown_parameters schema number ts) ts
    (stays schema (Fields ts) MAX_DEPTH false (StructKind number false) ok.fits) in
    subst (λ (us : Trees). StandsFor schema (front ++ (payload_of schema number ts ++ back)) (length front)
    (length front + length (payload_of schema number ts)) number us handle_count id_count) same
    (payload_carries schema schema Same (closed schema) number number ts handle_count id_count front back refl ok mult)
