-- The reading of a value tells of its bytes as a whole.
use Rattle.std.proofs.Common.{◌≡◌, ◌≤◌, ℕ, List, length, Result, Ok, Err, sym, ap, ◌∙◌, subst}
use Rattle.mj_schema.specs.KindTrees.{KindTree}
use Rattle.wire_model.specs.Trees.{Tree, view}
use Rattle.wire_model.specs.Trees as values
use Rattle.wire_model.specs.declared.value.Value.{Value}
use Rattle.mj_schema.specs.declared.schema.Schema.{Schema}
use Rattle.byte_rules.specs.Lang.{Read}
use Rattle.byte_rules.specs.Judged.{Spells}
use Rattle.byte_rules.specs.steps.Reading.{Judges, verdict}
use Rattle.byte_rules.proofs.Judging.{judged, reads, no_more_left}
use Rattle.value_text.specs.Rules.{value}
use Rattle.value_text.specs.Texts.{Tells}
use Rattle.value_text.specs.steps.Reading.{Agrees}
use Rattle.value_text.specs.declared.text_error.TextError.{TextError}
use Rattle.value_text.specs.declared.text_error.TextError.TheVariants as errors
use Rattle.value_text.proofs.KindLaws.{good_kind, value_starts}
use Rattle.value_text.specs.Numbers.{is_digit}

abbrev tree_in : Read Tree → Tree
tree_in (Ok x) = x.0
tree_in (Err n) = values.Null

pub tells_by : (schema : Schema) (left : ℕ) (k : KindTree) (bytes : List ℕ) (r : Result Value TextError)
    → Agrees r (verdict (length bytes) ((value schema left k).read bytes)) → Tells (value schema left k) bytes r
tells_by schema left k bytes (Ok v) h =
    let one = value schema left k in
    let spelled : Spells one (view v) bytes = subst (λ (j : Result Tree ℕ). Judges one bytes j) h (judged one (good_kind schema left k) bytes) in
    (spelled, λ tree s. ap tree_in (sym (reads one (good_kind schema left k) bytes tree s) ∙ reads one (good_kind schema left k) bytes (view v) spelled))
tells_by schema left k bytes (Err (errors.BadText at)) h =
    subst (λ (j : Result Tree ℕ). Judges (value schema left k) bytes j) h (judged (value schema left k) (good_kind schema left k) bytes)
tells_by schema left k bytes (Err errors.Memory) h = tt

pub rest_within : (schema : Schema) (left : ℕ) (k : KindTree) (bytes rest : List ℕ) (x : Tree) → (value schema left k).read bytes ≡ Ok (x, rest)
    → length rest ≤ length bytes
rest_within schema left k bytes rest x e = no_more_left Tree value_starts is_digit (value schema left k) (good_kind schema left k) bytes (Ok (x, rest)) e

pub left_within : (schema : Schema) (left : ℕ) (k : KindTree) (bytes : List ℕ) (n : ℕ) → (value schema left k).read bytes ≡ Err n → n ≤ length bytes
left_within schema left k bytes n e = no_more_left Tree value_starts is_digit (value schema left k) (good_kind schema left k) bytes (Err n) e
