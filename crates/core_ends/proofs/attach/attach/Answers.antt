use Rattle.std.proofs.Common.{ap, sym, subst, ◌∙◌, ◌≡◌}
use Rattle.std.specs.Prelude.{None}
use Rattle.bind_model.specs.declared.endpoint.PendingId.{PendingId}
use Rattle.bind_model.specs.declared.told.Told.TheVariants as tells
use Rattle.core_ends.proofs.Pended.{attach_told, told_of_why, why_here}
use Rattle.core_ends.proofs.attach.attach.Goals as goal

pub refuse-requires-clause-why : goal.refuse-requires-clause-why
refuse-requires-clause-why c =
    let s = c.args.state.now in
    let is : why_here s c.args.seq c.requires.able c.args.pending.name c.args.on ≡ c.why_not.result =
    subst (λ (p : PendingId). why_here s c.args.seq c.requires.able p c.args.on ≡ c.why_not.result) c.id-id.ensures (sym c.why_not.ensures) in
    sym (attach_told s c.args.seq c.requires.able c.args.pending.name c.args.on)
    ∙ ap (told_of_why (tells.Attached c.args.pending.name.id)) (is ∙ c.in-Some.is)

pub bind-requires-clause-free : goal.bind-requires-clause-free
bind-requires-clause-free c =
    let s = c.args.state.now in
    subst (λ (p : PendingId). why_here s c.args.seq c.requires.able p c.args.on ≡ None) c.id-id.ensures (sym c.why_not.ensures ∙ c.in-None.is)
