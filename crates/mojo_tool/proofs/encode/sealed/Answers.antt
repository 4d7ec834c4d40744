use Rattle.std.proofs.Common.{None, refl, ap, ◌∙◌, arith}
use Rattle.wire_model.specs.Stands.{up_from}
use Rattle.mojo_tool.proofs.Sealed.{sealed_work, ids_many, ids_are}
use Rattle.mojo_tool.proofs.encode.sealed.Goals as goal

pub seal-requires-clause-wanted : goal.seal-requires-clause-wanted
seal-requires-clause-wanted c =
    ids_many _ _ (c.as_slice.ensures.value ∙ c.in_ok-ids.ensures ∙ ap (up_from 1) (c.len.ensures ∙ c.args.prepared.now.endpoints.ok.0))

pub seal-requires-clause-ids : goal.seal-requires-clause-ids
seal-requires-clause-ids c =
    ids_are _ _ c.args.prepared.now.few_endpoints
    (c.as_slice.ensures.value ∙ c.in_ok-ids.ensures ∙ ap (up_from 1) (c.len.ensures ∙ c.args.prepared.now.endpoints.ok.0))

pub returns : goal.returns
returns c =
    sealed_work c.sealed_is_read.ensures.passed c.args.schema.now c.args.prepared.now
    (record { interface_id = 0; request_id = 1; moment = None; ids = c.as_slice.result })
    c.in_ok-message.message.items c.requires.there (omega arith) c.requires.prepared refl refl refl
    (c.as_slice.ensures.value ∙ c.in_ok-ids.ensures ∙ ap (up_from 1) (c.len.ensures ∙ c.args.prepared.now.endpoints.ok.0))
    c.in_ok-message.ensures.message
