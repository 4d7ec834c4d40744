use Rattle.std.proofs.Common.{refl, subst, sym}
use Rattle.wire_encoder.specs.declared.refusal.PrepareError.{PrepareError}
use Rattle.load_run.specs.Messages.{IsRefusal}
use Rattle.load_run.proofs.outgoing.refused.Goals as goal

pub returns-in-Misfit : goal.returns-in-Misfit
returns-in-Misfit c = (refl, subst (λ (e : PrepareError). IsRefusal e) (sym c.in-Misfit.is) tt)

pub returns-in-TooDeep : goal.returns-in-TooDeep
returns-in-TooDeep c = (refl, subst (λ (e : PrepareError). IsRefusal e) (sym c.in-TooDeep.is) tt)

pub returns-in-TooManyHandles : goal.returns-in-TooManyHandles
returns-in-TooManyHandles c = (refl, subst (λ (e : PrepareError). IsRefusal e) (sym c.in-TooManyHandles.is) tt)

pub returns : goal.returns
returns c = (refl, subst (λ (e : PrepareError). IsRefusal e) (sym c.in-TooLong.is) tt)
