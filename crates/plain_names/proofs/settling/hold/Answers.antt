use Rattle.std.proofs.Common.{◌≡◌, ◌+◌, ◌∙◌, ℕ, List, ap, arith, drop, drop-drop, length}
use Rattle.handle_table.specs.declared.thing.Thing.{Thing}
use Rattle.bind_model.specs.Machine.{handed}
use Rattle.bind_model.specs.declared.endpoint.PendingId.{PendingId}
use Rattle.bind_model.specs.declared.endpoint.ResponderId.{ResponderId}
use Rattle.call_script.specs.declared.script.NameId.{NameId}
use Rattle.script_names.specs.Names.{pendings_handed}
use Rattle.script_names.specs.Tables.{given}
use Rattle.plain_names.proofs.settling.hold.Goals as goal

pub returns : goal.returns
returns c =
    let sets = c.args.sets.now in
    let told = c.args.told.now in
    let old = c.args.names.now in
    let came = c.handed-things.result.now in
    let others = c.in_ok-pendings.pendings in
    let things : came ≡ handed told = c.handed-things.ensures in
    let named : others.items ≡ pendings_handed told = c.in_ok-pendings.ensures in
    let many : length came + c.len.result ≡ length (handed told) + length (pendings_handed told) =
    omega (arith, c.len.ensures, others.ok.0, ap (λ (ts : List Thing). length ts) things, ap (λ (ps : List PendingId). length ps) named) in
    record {
      stands = c.stand_for.ensures ∙ ap (λ (ts : List Thing). given sets ts old.stands.things.items) things;
      handles = c.give.ensures ∙ ap (λ (ts : List Thing). given sets ts old.handles.items.items) (c.in_ok-copied.ensures.items ∙ things);
      pendings =
          c.give-2.ensures
          ∙ (ap (λ (ns : List NameId). given ns others.items old.pendings.items.items)
          (c.after-behind.ensures ∙ ap (λ (ts : List Thing). drop (length ts) sets) things)
          ∙ ap (λ (ps : List PendingId). given (drop (length (handed told)) sets) ps old.pendings.items.items) named);
      responders =
          c.give-3.ensures
          ∙ (ap (λ (ns : List NameId). given ns c.in_ok-rights.rights.items old.responders.items.items)
          (c.after-last.ensures
          ∙ (ap (drop c.len.result) c.after-behind.ensures
          ∙ (drop-drop c.len.result (length came) sets ∙ ap (λ (n : ℕ). drop n sets) many)))
          ∙ ap (λ (rs : List ResponderId). given (drop (length (handed told) + length (pendings_handed told)) sets) rs old.responders.items.items)
          c.in_ok-rights.ensures);
    }
