use Rattle.std.proofs.Common.{refl, sym, ap, ◌∙◌, length, Some}
use Rattle.std.proofs.lemmas.Option.{slice_get_read}
use Rattle.remote_receiver.specs.Held.{kept_of}
use Rattle.remote_receiver.specs.declared.rest.Rest.{Rest}
use Rattle.script_run.specs.declared.plain.Plain.{Plain}
use Rattle.script_run.specs.declared.seat.Seat.{Seat}
use Rattle.script_run.proofs.Ending.{is_woken}
use Rattle.script_run.proofs.desks.wake_one.Goals as goal

pub wake-requires : goal.wake-requires
wake-requires c =
    let rests = c.args.rests.now in
    let here = slice_get_read rests (length rests) c.args.seq.0 c.index-rests-seq.result refl c.requires.within c.index-rests-seq.is in
    c.requires.called c.replace-rest.result (here ∙ ap (λ (r : Rest Plain). Some r) (c.index-rests-seq.is ∙ sym c.replace-rest.ensures.value))

pub returns : goal.returns
returns c =
    let rests = c.args.rests.now in
    let here = slice_get_read rests (length rests) c.args.seq.0 c.index-rests-seq.result refl c.requires.within c.index-rests-seq.is in
    is_woken c.args.seq c.args.core rests _ c.replace-rest.result c.replace-rest.new.dest c.wake.result.stepper.core c.wake.result.stepper.seq
    (kept_of c.wake.result.jobs) (here ∙ ap (λ (r : Rest Plain). Some r) (c.index-rests-seq.is ∙ sym c.replace-rest.ensures.value)) refl
    (ap (λ (s : Seat). s.core) c.wake.ensures.stepper) (ap (λ (s : Seat). s.seq) c.wake.ensures.stepper) c.wake.ensures.kept
