-- Structs that nothing changes between: their fields fit, and the fields that only the newer one has are later.
use Rattle.std.proofs.Common.{◌≡◌, ℕ, ◌+◌, ◌<◌, ◌≤◌, true, false, inl, inr, List, [], ◌∷◌, ◌++◌, length, length-append, append_assoc, Option, Some, None, refl, sym, ap, subst, ◌∙◌, arith}
use Rattle.std.specs.Prelude.{◌==◌, is_some, nat_lt, option_and_then, slice_get}
use Rattle.std.proofs.lemmas.Bool.{and_parts, eqb-true, ltb-true}
use Rattle.std.proofs.lemmas.Option.{slice_get_past}
use Rattle.mj_schema.specs.Layout.{are_numbered}
use Rattle.mj_schema.specs.declared.rows.FieldRow.{FieldRow}
use Rattle.wire_laws.specs.Carried.{KindFits}
use Rattle.wire_laws.specs.steps.Prefixes.{FieldsFit, AreLater}
use Rattle.compat_model.specs.declared.pair.Pair.{Pair}
use Rattle.compat_model.specs.declared.reason.Change.TheVariants as changes
use Rattle.compat_model.specs.steps.Among.{IsAmong}
use Rattle.compat_model.specs.Kinds.{kinds_fit, named_in}
use Rattle.compat_model.specs.Members.{unless}
use Rattle.compat_model.specs.Changes.{field_gone, field_changed, field_moved, field_early}
use Rattle.compat_model.specs.Pairs.{field_pairs}
use Rattle.compat_model.proofs.Lists.{holds}
use Rattle.compat_laws.specs.steps.Reached.{carried}
use Rattle.compat_laws.proofs.FittingKinds.{AllPairs, kinds_view}

-- ## Where fields stand

pub at_back : {A : Type 0} (front : List A) (x : A) (back : List A) → slice_get (front ++ (x ∷ back)) (length front) ≡ Some x
at_back [] x back = refl
at_back (y ∷ front) x back = at_back front x back

past_back : {A : Type 0} (front : List A) → slice_get (front ++ []) (length front) ≡ None
past_back [] = refl
past_back (y ∷ front) = past_back front

pub longer : {A : Type 0} (front : List A) (x : A) (k : ℕ) → k ≡ length front → k + 1 ≡ length (front ++ (x ∷ []))
longer front x k e = omega (arith, e, length-append front (x ∷ []))

-- ## Fields that fit

-- the newer struct has a field of the ordinal that fits
pub record HasField (P : Pair → Type 0) (newer : List FieldRow) (field : FieldRow) : Type 0 where
  pub other : FieldRow
  pub there : slice_get newer field.ordinal ≡ Some other
  pub kind : KindFits (carried P) field.kind other.kind
  pub version : other.min_version ≡ field.min_version

module _ (namesakes : List (Option ℕ)) (P : Pair → Type 0) where
  field_at : (newer : List FieldRow) (field : FieldRow) (o : Option FieldRow) → slice_get newer field.ordinal ≡ o
      → unless (is_some o) (changes.FieldGone field.ordinal) ≡ None
      → option_and_then (λ (other : FieldRow). unless (kinds_fit namesakes field.kind other.kind) (changes.KindChanged field.ordinal)) o ≡ None
      → option_and_then (λ (other : FieldRow). unless (other.min_version == field.min_version) (changes.VersionChanged field.ordinal)) o ≡ None
      → AllPairs P (field_pairs newer field) → HasField P newer field
  field_at newer field None e gone changed moved ps = let no : false ≡ true = holds false (changes.FieldGone field.ordinal) gone in absurd cc
  field_at newer field (Some other) e gone changed moved ps =
      let pairs : field_pairs newer field ≡ named_in field.kind other.kind = rw e refl in
      record {
        other = other;
        there = e;
        kind = kinds_view namesakes P field.kind other.kind (holds (kinds_fit namesakes field.kind other.kind) (changes.KindChanged field.ordinal) changed)
            (subst (λ (l : List Pair). AllPairs P l) pairs ps);
        version = eqb-true other.min_version field.min_version (holds (other.min_version == field.min_version) (changes.VersionChanged field.ordinal) moved);
      }

  -- a field of which no change is found
  pub has_field : (newer : List FieldRow) (field : FieldRow) → field_gone newer field ≡ None → field_changed namesakes newer field ≡ None
      → field_moved newer field ≡ None → AllPairs P (field_pairs newer field) → HasField P newer field
  has_field newer field gone changed moved ps = field_at newer field (slice_get newer field.ordinal) refl gone changed moved ps

one_other : (P : Pair → Type 0) (newer : List FieldRow) (field g : FieldRow) (has : HasField P newer field) → slice_get newer field.ordinal ≡ Some g
    → has.other ≡ g
one_other P newer field g has e = let same : Some has.other ≡ Some g = sym has.there ∙ e in cc

-- the fields from one on, where so many stand before them
pub fields_fit : (P : Pair → Type 0) (fs front gs : List FieldRow) (k : ℕ) → k ≡ length front → are_numbered k fs ≡ true
    → ((f : FieldRow) → IsAmong fs f → HasField P (front ++ gs) f) → FieldsFit (carried P) fs gs
fields_fit P [] front gs k e n each = tt
fields_fit P (f ∷ fs) front [] k e n each =
    let parts = and_parts (f.ordinal == k) (are_numbered (k + 1) fs) n in
    let has = each f (inl refl) in
    let place : f.ordinal ≡ length front = eqb-true f.ordinal k parts.0 ∙ e in
    let none : None ≡ Some has.other = sym (ap (slice_get (front ++ [])) place ∙ past_back front) ∙ has.there in
    absurd cc
fields_fit P (f ∷ fs) front (g ∷ gs) k e n each =
    let parts = and_parts (f.ordinal == k) (are_numbered (k + 1) fs) n in
    let has = each f (inl refl) in
    let place : f.ordinal ≡ length front = eqb-true f.ordinal k parts.0 ∙ e in
    let same : has.other ≡ g = one_other P (front ++ (g ∷ gs)) f g has (ap (slice_get (front ++ (g ∷ gs))) place ∙ at_back front g gs) in
    let moved : (front ++ (g ∷ [])) ++ gs ≡ front ++ (g ∷ gs) = append_assoc front (g ∷ []) gs in (
      subst (λ (x : FieldRow). KindFits (carried P) f.kind x.kind) same has.kind,
      subst (λ (x : FieldRow). x.min_version ≡ f.min_version) same has.version,
      fields_fit P fs (front ++ (g ∷ [])) gs (k + 1) (longer front g k e) parts.1
          (λ x h. subst (λ (l : List FieldRow). HasField P l x) (sym moved) (each x (inr h))),
    )

-- ## Fields that are later

is_later : (newest : ℕ) (all : List FieldRow) (g : FieldRow) → slice_get all g.ordinal ≡ None → field_early newest all g ≡ None
    → newest < g.min_version
is_later newest all g e early =
    let none : unless (nat_lt newest g.min_version) (changes.EarlyField g.ordinal) ≡ None = rw e at early in
    ltb-true newest g.min_version (holds (nat_lt newest g.min_version) (changes.EarlyField g.ordinal) none)

tail_later : (newest : ℕ) (all gs : List FieldRow) (k : ℕ) → length all ≤ k → are_numbered k gs ≡ true
    → ((g : FieldRow) → IsAmong gs g → field_early newest all g ≡ None) → AreLater newest [] gs
tail_later newest all [] k le n each = tt
tail_later newest all (g ∷ gs) k le n each =
    let parts = and_parts (g.ordinal == k) (are_numbered (k + 1) gs) n in
    let past : slice_get all g.ordinal ≡ None = ap (slice_get all) (eqb-true g.ordinal k parts.0) ∙ slice_get_past all k le in
    (is_later newest all g past (each g (inl refl)), tail_later newest all gs (k + 1) (omega (arith, le)) parts.1 (λ x h. each x (inr h)))

pub fields_later : (newest : ℕ) (gs front fs : List FieldRow) (k : ℕ) → k ≡ length front → are_numbered k gs ≡ true
    → ((g : FieldRow) → IsAmong gs g → field_early newest (front ++ fs) g ≡ None) → AreLater newest fs gs
fields_later newest [] front [] k e n each = tt
fields_later newest [] front (f ∷ fs) k e n each = tt
fields_later newest (g ∷ gs) front [] k e n each =
    let none : length (front ++ []) ≤ k = omega (arith, e, length-append front []) in
    tail_later newest (front ++ []) (g ∷ gs) k none n each
fields_later newest (g ∷ gs) front (f ∷ fs) k e n each =
    let parts = and_parts (g.ordinal == k) (are_numbered (k + 1) gs) n in
    let moved : (front ++ (f ∷ [])) ++ fs ≡ front ++ (f ∷ fs) = append_assoc front (f ∷ []) fs in
    fields_later newest gs (front ++ (f ∷ [])) fs (k + 1) (longer front f k e) parts.1
    (λ x h. subst (λ (l : List FieldRow). field_early newest l x ≡ None) (sym moved) (each x (inr h)))
