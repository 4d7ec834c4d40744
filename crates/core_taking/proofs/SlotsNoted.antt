-- Places that are noted one after the other.
use Rattle.std.proofs.Common.{◌≡◌, ◌<◌, ◌≤◌, ℕ, zero, suc, ◌+◌, Bool, true, false, List, [], ◌∷◌, ◌++◌, length, map, drop, take, replicate, get_or, Option}
use Rattle.std.proofs.Common.{Some, None, Vec, Global, refl, sym, ap, ◌∙◌, arith, rules, add-one, drop-cons}
use Rattle.std.specs.Prelude.{slice_set, slice_get, ◌==◌}
use Rattle.std.proofs.lemmas.Bool.{eqb-true, eq-eqb}
use Rattle.std.proofs.lemmas.List.{drop_all, take-append-le, take_all}
use Rattle.mj_schema.specs.KindTrees as kinds
use Rattle.mj_schema.specs.KindTrees.{KindTree}
use Rattle.mj_schema.specs.Layout.{kind_of}
use Rattle.mj_schema.specs.declared.rows.FieldRow.{FieldRow}
use Rattle.mj_schema.specs.declared.schema.Schema.{Schema}
use Rattle.wire_encoder.specs.declared.endpoint.WantedEndpoint.{WantedEndpoint}
use Rattle.wire_model.specs.Trees.{Tree, Trees, trees, view, none, more, Items, Pairs}
use Rattle.wire_model.specs.declared.value.Value.{Value, the_lemmas}
use Rattle.wire_model.specs.declared.value.Value.TheVariants as values
use Rattle.bind_model.specs.Machine.{closed_endpoint, endpoint_named, pending_as}
use Rattle.bind_model.specs.Wire.{Named}
use Rattle.bind_model.specs.declared.endpoint.Endpoint.{Endpoint}
use Rattle.core_taking.specs.Admits.{by_slot}
use Rattle.core_taking.specs.steps.Slots.{each_names, field_names, filled, is_vacant, names, noted}

-- places, and what is said of each
abbrev pub Places : Type 0
Places = List (Option WantedEndpoint)

-- ## One place

pub vacant_filled : (slots : Places) (i : ℕ) (w : WantedEndpoint) → is_vacant (slice_get slots i) ≡ true → slice_set slots i (Some w) ≡ filled slots i w
vacant_filled [] i w e = absurd cc
vacant_filled (None ∷ slots) zero w e = refl
vacant_filled (Some before ∷ slots) zero w e = absurd cc
vacant_filled (None ∷ slots) (suc i) w e = ap (λ (rest : Places). None ∷ rest) (vacant_filled slots i w e)
vacant_filled (Some before ∷ slots) (suc i) w e = ap (λ (rest : Places). Some before ∷ rest) (vacant_filled slots i w e)

pub taken_stays : (slots : Places) (i : ℕ) (w : WantedEndpoint) → is_vacant (slice_get slots i) ≡ false → slots ≡ filled slots i w
taken_stays [] i w e = refl
taken_stays (None ∷ slots) zero w e = absurd cc
taken_stays (Some before ∷ slots) zero w e = refl
taken_stays (None ∷ slots) (suc i) w e = ap (λ (rest : Places). None ∷ rest) (taken_stays slots i w e)
taken_stays (Some before ∷ slots) (suc i) w e = ap (λ (rest : Places). Some before ∷ rest) (taken_stays slots i w e)

-- ## The walk

-- what is named first is noted first
pub noted_append : (front back : List Named) (slots : Places) → noted (front ++ back) slots ≡ noted back (noted front slots)
noted_append [] back slots = refl
noted_append (n ∷ front) back slots = noted_append front back (filled slots n.index n.endpoint)

-- the trees from a value on
trees_from : (vs : List Value) (i : ℕ) (v : Value) → i < length vs → v ≡ get_or vs i v
    → trees (map view (drop i vs)) ≡ more (view v) (trees (map view (drop (i + 1) vs)))
trees_from vs i v lt e =
    let cut : drop i vs ≡ v ∷ drop (i + 1) vs = rw (add-one, drop-cons vs i v) (ap (λ g. g ∷ drop (suc i) vs) (sym e)) in
    ap (λ (l : List Value). trees (map view l)) cut

-- the kinds from a field on
kinds_from : (fs : List FieldRow) (i : ℕ) (f : FieldRow) → i < length fs → f ≡ get_or fs i f → map kind_of (drop i fs) ≡ f.kind ∷ map kind_of (drop (i + 1) fs)
kinds_from fs i f lt e =
    let cut : drop i fs ≡ f ∷ drop (i + 1) fs = rw (add-one, drop-cons fs i f) (ap (λ g. g ∷ drop (suc i) fs) (sym e)) in
    ap (map kind_of) cut

-- no fields name nothing
no_fields : (schema : Schema) (ts : Trees) → field_names schema [] ts ≡ []
no_fields schema none = refl
no_fields schema (more t ts) = refl

module _ (schema : Schema) where
  -- one value's, and then those of the rest
  pub each_on : (k : KindTree) (vs : List Value) (i : ℕ) (v : Value) (old new all : Places) → i < length vs → v ≡ get_or vs i v
      → new ≡ noted (names schema k (view v)) old → noted (each_names schema k (trees (map view (drop i vs)))) old ≡ all
      → noted (each_names schema k (trees (map view (drop (i + 1) vs)))) new ≡ all
  each_on k vs i v old new all lt is e before =
      ap (noted (each_names schema k (trees (map view (drop (i + 1) vs))))) e
      ∙ (sym (noted_append (names schema k (view v)) (each_names schema k (trees (map view (drop (i + 1) vs)))) old)
      ∙ (ap (λ ts. noted (each_names schema k ts) old) (sym (trees_from vs i v lt is)) ∙ before))

  -- one field's, and then those of the rest
  pub field_on : (fs : List FieldRow) (f : FieldRow) (k : KindTree) (vs : List Value) (i : ℕ) (v : Value) (old new all : Places) → i < length vs
      → v ≡ get_or vs i v → i < length fs → f ≡ get_or fs i f → k ≡ f.kind → new ≡ noted (names schema k (view v)) old
      → noted (field_names schema (map kind_of (drop i fs)) (trees (map view (drop i vs)))) old ≡ all
      → noted (field_names schema (map kind_of (drop (i + 1) fs)) (trees (map view (drop (i + 1) vs)))) new ≡ all
  field_on fs f k vs i v old new all lt is ltf isf kind e before =
      ap (noted (field_names schema (map kind_of (drop (i + 1) fs)) (trees (map view (drop (i + 1) vs)))))
      (e ∙ ap (λ z. noted (names schema z (view v)) old) kind)
      ∙ (sym (noted_append (names schema f.kind (view v)) (field_names schema (map kind_of (drop (i + 1) fs)) (trees (map view (drop (i + 1) vs)))) old)
      ∙ (ap (λ ts. noted (field_names schema (f.kind ∷ map kind_of (drop (i + 1) fs)) ts) old) (sym (trees_from vs i v lt is))
      ∙ (ap (λ ks. noted (field_names schema ks (trees (map view (drop i vs)))) old) (sym (kinds_from fs i f ltf isf)) ∙ before)))

  -- there are no more fields
  pub field_over : (fs : List FieldRow) (vs : List Value) (i : ℕ) (old all : Places) → length fs ≤ i
      → noted (field_names schema (map kind_of (drop i fs)) (trees (map view (drop i vs)))) old ≡ all
      → noted (field_names schema (map kind_of (drop (i + 1) fs)) (trees (map view (drop (i + 1) vs)))) old ≡ all
  field_over fs vs i old all le before =
      ap (λ (l : List FieldRow). noted (field_names schema (map kind_of l) (trees (map view (drop (i + 1) vs)))) old) (drop_all (i + 1) fs (omega (arith, le)))
      ∙ (ap (λ named. noted named old) (no_fields schema (trees (map view (drop (i + 1) vs))) ∙ sym (no_fields schema (trees (map view (drop i vs)))))
      ∙ (ap (λ (l : List FieldRow). noted (field_names schema (map kind_of l) (trees (map view (drop i vs)))) old) (sym (drop_all i fs le)) ∙ before))

-- the tree of a map
pub view_map : (ks vs : Vec Value Global) → view (values.Map ks vs)
    ≡ Pairs (more (Items (trees (map view ks.items))) (more (Items (trees (map view vs.items))) none))
view_map ks vs = search (rules, the_lemmas)

-- the keys of a map, and then its values
pub map_on : (schema : Schema) (k key of : KindTree) (nullable : Bool) (t : Tree) (ks vs : List Value) (old mid new : Places)
    → k ≡ kinds.MapKind key of nullable → t ≡ Pairs (more (Items (trees (map view ks))) (more (Items (trees (map view vs))) none))
    → mid ≡ noted (each_names schema key (trees (map view ks))) old → new ≡ noted (each_names schema of (trees (map view vs))) mid
    → new ≡ noted (names schema k t) old
map_on schema k key of nullable t ks vs old mid new kind tree e f =
    rw (kind, tree) (f ∙ (ap (noted (each_names schema of (trees (map view vs)))) e
    ∙ sym (noted_append (each_names schema key (trees (map view ks))) (each_names schema of (trees (map view vs))) old)))

-- ## What the places say in the end

-- what is said of a place in the end, by what was said of it before
abbrev said : List Named → ℕ → Option (Option WantedEndpoint) → Endpoint
said named k None = closed_endpoint
said named k (Some None) = endpoint_named named k
said named k (Some (Some wanted)) = pending_as wanted

-- a place once an index is noted there
abbrev turned : Option (Option WantedEndpoint) → WantedEndpoint → Option (Option WantedEndpoint)
turned None w = None
turned (Some None) w = Some (Some w)
turned (Some (Some before)) w = Some (Some before)

filled_same : (slots : Places) (k : ℕ) (w : WantedEndpoint) → slice_get (filled slots k w) k ≡ turned (slice_get slots k) w
filled_same [] k w = refl
filled_same (None ∷ slots) zero w = refl
filled_same (Some before ∷ slots) zero w = refl
filled_same (None ∷ slots) (suc k) w = filled_same slots k w
filled_same (Some before ∷ slots) (suc k) w = filled_same slots k w

filled_other : (slots : Places) (i k : ℕ) (w : WantedEndpoint) → ¬ (i ≡ k) → slice_get (filled slots i w) k ≡ slice_get slots k
filled_other [] i k w ne = refl
filled_other (None ∷ slots) zero zero w ne = absurd (ne refl)
filled_other (None ∷ slots) zero (suc k) w ne = refl
filled_other (Some before ∷ slots) zero k w ne = refl
filled_other (None ∷ slots) (suc i) zero w ne = refl
filled_other (None ∷ slots) (suc i) (suc k) w ne = filled_other slots i k w (λ e. ne (ap suc e))
filled_other (Some before ∷ slots) (suc i) zero w ne = refl
filled_other (Some before ∷ slots) (suc i) (suc k) w ne = filled_other slots i k w (λ e. ne (ap suc e))

-- what is named first is noted
said_more : (n : Named) (named : List Named) (slots : Places) (k : ℕ) → said named k (slice_get (filled slots n.index n.endpoint) k)
    ≡ said (n ∷ named) k (slice_get slots k)
said_more n named slots k = go (n.index == k) refl
  where
    same : (place : Option (Option WantedEndpoint)) → (n.index == k) ≡ true → said named k (turned place n.endpoint) ≡ said (n ∷ named) k place
    same None e = refl
    same (Some None) e = rw e refl
    same (Some (Some before)) e = refl

    other : (place : Option (Option WantedEndpoint)) → (n.index == k) ≡ false → said named k place ≡ said (n ∷ named) k place
    other None e = refl
    other (Some None) e = rw e refl
    other (Some (Some before)) e = refl

    go : (b : Bool) → (n.index == k) ≡ b → said named k (slice_get (filled slots n.index n.endpoint) k) ≡ said (n ∷ named) k (slice_get slots k)
    go true e =
        ap (λ i. said named k (slice_get (filled slots i n.endpoint) k)) (eqb-true n.index k e)
        ∙ (ap (said named k) (filled_same slots k n.endpoint) ∙ same (slice_get slots k) e)
    go false e =
        ap (said named k) (filled_other slots n.index k n.endpoint (λ is. absurd (let t : (n.index == k) ≡ true = eq-eqb n.index k is in cc)))
        ∙ other (slice_get slots k) e

noted_said : (named : List Named) (slots : Places) (k : ℕ) → by_slot (slice_get (noted named slots) k) ≡ said named k (slice_get slots k)
noted_said [] slots k = go (slice_get slots k)
  where
    go : (place : Option (Option WantedEndpoint)) → by_slot place ≡ said [] k place
    go None = refl
    go (Some None) = refl
    go (Some (Some wanted)) = refl
noted_said (n ∷ named) slots k = noted_said named (filled slots n.index n.endpoint) k ∙ said_more n named slots k

-- a place among vacant ones
vacant_at : (many k : ℕ) → k < many → slice_get (replicate {A = Option WantedEndpoint} many None) k ≡ Some None
vacant_at zero k lt = absurd (omega (arith, lt))
vacant_at (suc many) zero lt = refl
vacant_at (suc many) (suc k) lt = vacant_at many k (omega (arith, lt))

-- each place says what is named of it
pub places_say : (named : List Named) (many k : ℕ) → k < many → endpoint_named named k ≡ by_slot (slice_get (noted named (replicate many None)) k)
places_say named many k lt = sym (noted_said named (replicate many None) k ∙ ap (said named k) (vacant_at many k lt))

-- there are as many places as before
filled_length : (slots : Places) (i : ℕ) (w : WantedEndpoint) → length (filled slots i w) ≡ length slots
filled_length [] i w = refl
filled_length (None ∷ slots) zero w = refl
filled_length (Some before ∷ slots) zero w = refl
filled_length (None ∷ slots) (suc i) w = ap suc (filled_length slots i w)
filled_length (Some before ∷ slots) (suc i) w = ap suc (filled_length slots i w)

pub noted_length : (named : List Named) (slots : Places) → length (noted named slots) ≡ length slots
noted_length [] slots = refl
noted_length (n ∷ named) slots = noted_length named (filled slots n.index n.endpoint) ∙ filled_length slots n.index n.endpoint

-- a slice of as many places, written back whole
pub written_whole : (n : ℕ) (new old : Places) → length new ≡ n → take n (new ++ drop (length new) old) ≡ new
written_whole n new old e = take-append-le n new (drop (length new) old) (omega (arith, e)) ∙ take_all n new (omega (arith, e))
