-- What was prepared goes out.
use Rattle.std.proofs.Common.{◌≡◌, ◌≤◌, ℕ, List, length, subst}
use Rattle.std.specs.Prelude.{Ok, Option}
use Rattle.mj_schema.specs.declared.schema.Schema.{Schema}
use Rattle.wire_model.specs.Tight.{MAX_PAYLOAD_BYTES}
use Rattle.wire_model.specs.Trees.{Tree}
use Rattle.wire_model.specs.declared.target.Target.{Target}
use Rattle.wire_encoder.specs.FirstFailed.{Met}
use Rattle.wire_encoder.specs.Prepared.{payload_for, verdict}
use Rattle.wire_encoder.specs.declared.prepared.Prepared.{Prepared}
use Rattle.load_run.specs.Messages.{Goes}
use Rattle.load_run.specs.steps.Doing.{IsFor}

pub goes : (schema : Schema) (found : Option Target) (value : Tree) (p : Prepared) → IsFor schema found value p → Goes schema found value p.target
goes schema found value p is =
    let met : Met = record { handles = p.handles; endpoints = p.endpoints.items } in
    record {
      there = is.there;
      met = met;
      passes = subst (λ (v : Tree). verdict schema p.target v ≡ Ok met) is.same is.prepared.passes;
      short = subst (λ (v : Tree). length (payload_for schema p.target v) ≤ MAX_PAYLOAD_BYTES) is.same
          (subst (λ (bs : List ℕ). length bs ≤ MAX_PAYLOAD_BYTES) is.prepared.payload p.short);
    }
