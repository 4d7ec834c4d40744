use Rattle.module_resolver.specs.steps.Lengths.{IsLesser}
use Rattle.module_resolver.specs.Seats.{HaveDots, held}
use Rattle.module_resolver.proofs.LesserLengths.{have_dots}
use Rattle.module_resolver.proofs.Owned.{if_ok_then}
use Rattle.module_resolver.proofs.name_index.NameIndex.dots.Goals as goal

pub returns : goal.returns
returns c =
    if_ok_then (λ dots. IsLesser c.as_slice.result.now dots.items)
    (λ dots. HaveDots dots.items (held c.args.self.now)) c.lesser_of.result
    (λ dots is.
    have_dots c.args.self.now.dots.items dots.items (held c.args.self.now) c.requires.dotted (rw c.as_slice.ensures.value at is))
    c.lesser_of.ensures
