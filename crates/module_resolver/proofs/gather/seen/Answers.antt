use Rattle.std.proofs.Common.{◌∙◌, sym, ap, append-nil}
use Rattle.std.specs.Prelude.{true, false}
use Rattle.module_resolver.specs.NamesOf.{sees_number}
use Rattle.module_resolver.proofs.SeenNames.{seen_more}
use Rattle.module_resolver.proofs.gather.seen.Goals as goal
use Rattle.module_resolver.proofs.gather.seen.Goals.{then-sees_number+in_ok-push, else-sees_number}

pub loop-number-preserved : goal.loop-number-preserved
loop-number-preserved c =
    let test = sees_number c.args.files.now c.args.file.now in
    let seen = c.loop-number.seen.items in
    elim c.if-sees_number.branch [
      | then-sees_number+in_ok-push w ↦
          seen_more test c.args.order.now seen c.if-sees_number.seen.items c.loop-number.number-index true c.loop-number-test.true c.loop-number.invariant
          (sym w.if-sees_number.true ∙ c.sees_number.ensures) (ap (λ v. v.items) w.seen-is ∙ w.in_ok-push.ensures.items)
      | else-sees_number w ↦
          seen_more test c.args.order.now seen c.if-sees_number.seen.items c.loop-number.number-index false c.loop-number-test.true c.loop-number.invariant
          (sym w.if-sees_number.false ∙ c.sees_number.ensures) (ap (λ v. v.items) w.seen-is ∙ sym (append-nil seen))
    ]
