use Rattle.std.proofs.Common.{[], ◌∷◌, ◌∙◌, List, ap, sym}
use Rattle.handle_table.specs.declared.thing.Thing.{Thing}
use Rattle.bind_model.specs.declared.told.Told.TheVariants as tells
use Rattle.event_follow.proofs.Joining.{made_two, none_weaker, some_weaker}
use Rattle.event_follow.proofs.joins.ends_made.Goals as goal

pub returns-in-Made-clause-some : goal.returns-in-Made-clause-some
returns-in-Made-clause-some c =
    some_weaker c.both.result _ _
    (λ two is. c.in-Made.is ∙ ap (λ (things : List Thing). tells.Made things) (sym c.as_slice.ensures ∙ is))
    c.both.ensures.some

pub returns-in-Made-clause-none : goal.returns-in-Made-clause-none
returns-in-Made-clause-none c =
    none_weaker c.both.result _ _
    (λ never x y told. never x y (c.as_slice.ensures ∙ made_two c.in-Made.things x y c.args.event.now.told c.in-Made.is told))
    c.both.ensures.none

pub returns-in_default-clause-none : goal.returns-in_default-clause-none
returns-in_default-clause-none c = λ x y told. c.in_default.not-Made (x ∷ y ∷ []) told
