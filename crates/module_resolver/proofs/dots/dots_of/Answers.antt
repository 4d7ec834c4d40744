use Rattle.std.proofs.Common.{◌+◌, ℕ, get_or, ◌∙◌, sym, ap}
use Rattle.std.specs.Prelude.{◌==◌, if◌then◌else◌}
use Rattle.std.proofs.lemmas.List.{take_all}
use Rattle.module_resolver.specs.NameDots.{dots_in}
use Rattle.module_resolver.proofs.DotCounts.{dots_more, step_small}
use Rattle.module_resolver.proofs.dots.dots_of.Goals as goal

pub loop-place-preserved : goal.loop-place-preserved
loop-place-preserved c =
    let bytes = c.args.bytes.now in
    let place = c.loop-place.place in
    let before = c.loop-place.invariant in
    record {
      is =
          c.dots_to-count.ensures
          ∙ (ap (λ (n : ℕ). n + (if get_or bytes place 0 == 46 then 1 else 0)) before.is ∙ sym (dots_more bytes place c.loop-place-test.true));
      small = step_small c.loop-place.count place c.dots_to-count.result (get_or bytes place 0 == 46) c.dots_to-count.ensures before.small;
    }

pub returns : goal.returns
returns c = c.loop-place.invariant.is ∙ ap dots_in (take_all c.loop-place.place c.args.bytes.now c.loop-place-test.false)
