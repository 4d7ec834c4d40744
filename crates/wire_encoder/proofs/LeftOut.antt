-- Values in slots that may have a flag.
use Rattle.std.proofs.Common.{◌≡◌, ℕ, zero, suc, ◌+◌, Bool, true, false, List, [], ◌∷◌, length, map, replicate, Option, Some, None, Ok, refl, sym, ap, ◌∙◌}
use Rattle.std.specs.Prelude.{◌||◌, is_some}
use Rattle.mj_schema.specs.KindTrees.{KindTree}
use Rattle.mj_schema.specs.Parts.{flag_place}
use Rattle.mj_schema.specs.Sizes.{size_of}
use Rattle.mj_schema.specs.declared.rows.FieldRow.{FieldRow}
use Rattle.mj_schema.specs.declared.rows.Flag.{Flag}
use Rattle.wire_model.specs.Kinded.{OrNull}
use Rattle.wire_model.specs.Slots.{Slot, element_slots, field_slot}
use Rattle.wire_model.specs.Trees as values
use Rattle.wire_model.specs.Trees.{Tree}
use Rattle.wire_encoder.specs.Checks.{Check, Held, element_held, field_held, is_left_out, slot_checks}
use Rattle.wire_encoder.specs.FirstFailed.{Met, first_failed}
use Rattle.wire_encoder.proofs.Going.{none_left}

-- what stands in a slot
abbrev pub slot_held : Slot → Held
slot_held s = record { kind = s.kind; flagged = is_some s.flag }

pub elements_held : (k : KindTree) (place n : ℕ) → map slot_held (element_slots k place n) ≡ replicate n (element_held k)
elements_held k place zero = refl
elements_held k place (suc n) = ap (λ hs. element_held k ∷ hs) (elements_held k (place + size_of k) n)

placed_flag : (flag : Option Flag) → is_some (flag_place flag) ≡ is_some flag
placed_flag None = refl
placed_flag (Some flag) = refl

pub fields_held : (fs : List FieldRow) → map slot_held (map field_slot fs) ≡ map field_held fs
fields_held [] = refl
fields_held (f ∷ fs) =
    ap (λ b. record { kind = f.kind; flagged = b } ∷ map slot_held (map field_slot fs)) (placed_flag f.flag) ∙ ap (λ hs. field_held f ∷ hs) (fields_held fs)

pub element_count : (k : KindTree) (place n : ℕ) → length (element_slots k place n) ≡ n
element_count k place zero = refl
element_count k place (suc n) = ap suc (element_count k (place + size_of k) n)

pub field_count : (fs : List FieldRow) → length (map field_slot fs) ≡ length fs
field_count [] = refl
field_count (f ∷ fs) = ap suc (field_count fs)

-- a value that is left out has no checks, and one that isn't has its own
pub left_out : (m : Met) (flagged : Bool) (t : Tree) (cs : List Check) → is_left_out flagged t ≡ true → first_failed m (slot_checks flagged t cs) ≡ Ok m
left_out m flagged t cs e = rw e (none_left m)

pub not_left_out : (flagged : Bool) (t : Tree) (cs : List Check) → is_left_out flagged t ≡ false → slot_checks flagged t cs ≡ cs
not_left_out flagged t cs e = rw e refl

-- what stands in a slot: null that its flag tells, or what may stand there by itself
pub data Standing (flag : Option ℕ) (t : Tree) (P : Type 0) : Type 0 where
  Without : is_left_out (is_some flag) t ≡ true → t ≡ values.Null → OrNull flag t P → Standing flag t P
  With : is_left_out (is_some flag) t ≡ false → (OrNull flag t P → P) → (P → OrNull flag t P) → Standing flag t P

pub standing : (flag : Option ℕ) (t : Tree) (P : Type 0) → Standing flag t P
standing None t P = With refl (λ h. h) (λ h. h)
standing (Some flag) (values.Flag b) P = With refl (λ h. h) (λ h. h)
standing (Some flag) (values.Whole n) P = With refl (λ h. h) (λ h. h)
standing (Some flag) (values.Text bs) P = With refl (λ h. h) (λ h. h)
standing (Some flag) (values.Items ts) P = With refl (λ h. h) (λ h. h)
standing (Some flag) (values.Pairs ts) P = With refl (λ h. h) (λ h. h)
standing (Some flag) (values.Fields ts) P = With refl (λ h. h) (λ h. h)
standing (Some flag) (values.Member tag t) P = With refl (λ h. h) (λ h. h)
standing (Some flag) (values.Unknown tag) P = With refl (λ h. h) (λ h. h)
standing (Some flag) (values.Handle i) P = With refl (λ h. h) (λ h. h)
standing (Some flag) (values.Remote i v) P = With refl (λ h. h) (λ h. h)
standing (Some flag) (values.Endpoint i) P = With refl (λ h. h) (λ h. h)
standing (Some flag) (values.EndpointRemote i v) P = With refl (λ h. h) (λ h. h)
standing (Some flag) values.Null P = Without refl refl tt

-- what passes in a slot may stand there, and what may stand there passes
pub stands_there : (flag : Option ℕ) (t : Tree) (holds : Bool) (P : Type 0) → (holds ≡ true → P) → (is_left_out (is_some flag) t || holds) ≡ true
    → OrNull flag t P
stands_there flag t holds P f e = go (standing flag t P)
  where
    go : Standing flag t P → OrNull flag t P
    go (Without out is h) = h
    go (With is_in opened closed) = closed (f (ap (λ b. b || holds) (sym is_in) ∙ e))

pub passes_there : (flag : Option ℕ) (t : Tree) (holds : Bool) (P : Type 0) → (P → holds ≡ true) → OrNull flag t P
    → (is_left_out (is_some flag) t || holds) ≡ true
passes_there flag t holds P f h = go (standing flag t P)
  where
    go : Standing flag t P → (is_left_out (is_some flag) t || holds) ≡ true
    go (Without out is null) = ap (λ b. b || holds) out
    go (With is_in opened closed) = ap (λ b. b || holds) is_in ∙ f (opened h)
