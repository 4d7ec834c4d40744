-- What a script, a value and a message ask for is found out of all files.
use Rattle.std.proofs.Common.{ℕ, List, sym, subst, inl, inr, Some, None, Ok, Err}
use Rattle.std.specs.Prelude.{Option, Result}
use Rattle.hex.specs.Hex.{decode_of}
use Rattle.hex.specs.declared.error.FromHexError.{FromHexError}
use Rattle.mj_base.specs.declared.fault.Fault.{Fault}
use Rattle.mj_schema.specs.declared.schema.Schema.{Schema}
use Rattle.bounds_claims.specs.Runs.{first_fault}
use Rattle.message_validator.specs.Before.{before_payload}
use Rattle.wire_encoder.specs.FirstFailed.{Met, Refusal}
use Rattle.wire_encoder.specs.Prepared.{verdict}
use Rattle.wire_model.specs.Expected.{message_marks}
use Rattle.wire_model.specs.Trees.{Tree}
use Rattle.wire_model.specs.declared.target.Expected.{Expected}
use Rattle.wire_model.specs.declared.target.Target.{Target}
use Rattle.mojo_tool.specs.Work.{Work, Reading, Sealing, Preparing, Valuing, Writing, Unhexing, Judged, Judging, Showing, without_line_end}
use Rattle.mojo_tool.specs.steps.Made.{IsOfAll}

pub reading_late : (schema : Schema) (order : Option ℕ) (bytes : List ℕ) (work : Work) → Reading schema order bytes work → IsOfAll work
reading_late schema order bytes work (inl a) = subst IsOfAll (sym a.2) tt
reading_late schema order bytes work (inr a) = subst IsOfAll (sym a.3) tt

sealing_late : (schema : Schema) (target : Target) (tree : Tree) (r : Result Met Refusal) (work : Work) → Sealing schema target tree r work → IsOfAll work
sealing_late schema target tree (Err wrong) work a = subst IsOfAll (sym a) tt
sealing_late schema target tree (Ok met) work (inl a) = subst IsOfAll (sym a.1) tt
sealing_late schema target tree (Ok met) work (inr a) = subst IsOfAll (sym a.whole) tt

valuing_late : (schema : Schema) (number : ℕ) (next : Tree → Work → Type 0) (text : List ℕ) (work : Work) → ((tree : Tree) → next tree work → IsOfAll work)
    → Valuing schema number next text work → IsOfAll work
valuing_late schema number next text work late (inl a) = late a.0 a.2
valuing_late schema number next text work late (inr a) = subst IsOfAll (sym a.2) tt

pub writing_late : (schema : Schema) (found : Target × ℕ) (bytes : List ℕ) (work : Work) → Writing schema found bytes work → IsOfAll work
writing_late schema (target, number) bytes work =
    valuing_late schema number (Preparing schema target) (without_line_end bytes) work
    (λ tree. sealing_late schema target tree (verdict schema target tree) work)

judged_late : (schema : Schema) (expected : Expected) (name : List ℕ) (handles : ℕ) (bytes : List ℕ) (fault : Option Fault) (work : Work)
    → Judged schema expected name handles bytes fault work → IsOfAll work
judged_late schema expected name handles bytes None work a = subst IsOfAll (sym a.1.whole) tt
judged_late schema expected name handles bytes (Some fault) work a = subst IsOfAll (sym a) tt

unhexing_late : (next : List ℕ → Work → Type 0) (r : Result (List ℕ) FromHexError) (work : Work) → ((bytes : List ℕ) → next bytes work → IsOfAll work)
    → Unhexing next r work → IsOfAll work
unhexing_late next (Ok bytes) work late a = late bytes a
unhexing_late next (Err error) work late a = subst IsOfAll (sym a) tt

pub showing_late : (schema : Schema) (expected : Expected) (name : List ℕ) (handles : ℕ) (bytes : List ℕ) (work : Work)
    → Showing schema expected name handles bytes work → IsOfAll work
showing_late schema expected name handles bytes work =
    unhexing_late (Judging schema expected name handles) (decode_of (without_line_end bytes)) work
    (λ message. judged_late schema expected name handles message
    (first_fault (before_payload message handles) (message_marks schema expected message)) work)
