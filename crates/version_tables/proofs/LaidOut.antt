-- Declared fields at their places are laid out.
use Rattle.std.proofs.Common.{◌≡◌, ℕ, suc, ◌+◌, ◌≤◌, true, List, [], ◌∷◌, ◌++◌, length, refl, ap, arith}
use Rattle.std.specs.Prelude.{Bool, map}
use Rattle.std.proofs.lemmas.Bool.{and_from}
use Rattle.std.proofs.lemmas.Bool.Decides.{Decides-eqb}
use Rattle.mj_base.specs.declared.limits.TheConstants.{MAX_FIELDS}
use Rattle.mj_schema.specs.KindTrees.{KindTree}
use Rattle.mj_schema.specs.declared.rows.DraftField.{DraftField}
use Rattle.mj_schema.specs.declared.rows.DraftStruct.{DraftStruct}
use Rattle.mj_schema.specs.declared.rows.FieldRow.{FieldRow}
use Rattle.mj_schema.specs.declared.rows.Place.{Place}
use Rattle.mj_schema.specs.declared.rows.VersionRow.{VersionRow}
use Rattle.mj_schema.specs.Layout.{Slot, part_slots, ArePacked, kind_of, place_of, are_numbered, never_fall, are_small, field_rows, draft_field, draft_of, IsLaidOut}
use Rattle.mj_schema.specs.Versions.{version_rows}
use Rattle.version_tables.proofs.Growing.{length-field_rows}

-- as many places as kinds: for `lay_out`
pub packed_length : (taken : List Slot) (ks : List KindTree) (ps : List Place) → ArePacked taken ks ps → length ps ≡ length ks
packed_length taken [] [] h = refl
packed_length taken [] (p ∷ ps) h = absurd h
packed_length taken (k ∷ ks) [] h = absurd h
packed_length taken (k ∷ ks) (p ∷ ps) h = ap suc (packed_length (part_slots k p ++ taken) ks ps h.1)

numbered : (k : ℕ) (fs : List DraftField) (ps : List Place) → are_numbered k (field_rows k fs ps) ≡ true
numbered k [] ps = refl
numbered k (f ∷ fs) [] = refl
numbered k (f ∷ fs) (p ∷ ps) = and_from _ _ ((Decides-eqb k k).1 refl) (numbered (k + 1) fs ps)

-- what the rows keep
record Kept (k : ℕ) (fs : List DraftField) (ps : List Place) : Type 0 where
  kinds : map kind_of (field_rows k fs ps) ≡ map (λ (f : DraftField). f.kind) fs
  places : map place_of (field_rows k fs ps) ≡ ps
  versions : map (λ (f : FieldRow). f.min_version) (field_rows k fs ps) ≡ map (λ (f : DraftField). f.min_version) fs
  drafts : map draft_field (field_rows k fs ps) ≡ fs

kept : (k : ℕ) (fs : List DraftField) (ps : List Place) → length ps ≡ length fs → Kept k fs ps
kept k [] [] same = record { kinds = refl; places = refl; versions = refl; drafts = refl }
kept k [] (p ∷ ps) same = absurd (omega arith)
kept k (f ∷ fs) [] same = absurd (omega arith)
kept k (f ∷ fs) (p ∷ ps) same =
    let rest = kept (k + 1) fs ps (omega arith) in
    record {
      kinds = ap (λ (ks : List KindTree). f.kind ∷ ks) rest.kinds;
      places = ap (λ (qs : List Place). p ∷ qs) rest.places;
      versions = ap (λ (vs : List ℕ). f.min_version ∷ vs) rest.versions;
      drafts = ap (λ (gs : List DraftField). f ∷ gs) rest.drafts;
    }

-- the struct that `lay_out` gives is laid out, and has its draft
pub laid_out : (name : List ℕ) (fs : List DraftField) (ps : List Place) (rows : List FieldRow) (versions : List VersionRow) (stable : Bool)
    → length fs ≤ MAX_FIELDS
    → never_fall 0 (map (λ (f : DraftField). f.min_version) fs) ≡ true
    → are_small (map (λ (f : DraftField). f.min_version) fs) ≡ true → ArePacked [] (map (λ (f : DraftField). f.kind) fs) ps → length ps ≡ length fs
    → rows ≡ field_rows 0 fs ps → versions ≡ version_rows (field_rows 0 fs ps)
    → IsLaidOut (record { name = name; fields = rows; versions = versions; stable = stable })
    × (draft_of (record { name = name; fields = rows; versions = versions; stable = stable }) ≡ record { name = name; fields = fs; stable = stable })
laid_out name fs ps rows versions stable few rising small packed same rows-is versions-is =
    let k = kept 0 fs ps same in
    let is : IsLaidOut (record { name = name; fields = field_rows 0 fs ps; versions = version_rows (field_rows 0 fs ps); stable = stable }) = record {
      few = omega (arith, length-field_rows 0 fs ps same);
      numbered = numbered 0 fs ps;
      rising = rw k.versions rising;
      small = rw k.versions small;
      packed = rw (k.kinds, k.places) packed;
      versions = refl;
    } in
    let same_draft : ◌≡◌ {A = DraftStruct} (record { name = name; fields = map draft_field (field_rows 0 fs ps); stable = stable })
    (record { name = name; fields = fs; stable = stable }) = ap (λ (gs : List DraftField). record { name = name; fields = gs; stable = stable }) k.drafts in
    rw (rows-is, versions-is) (is, same_draft)
