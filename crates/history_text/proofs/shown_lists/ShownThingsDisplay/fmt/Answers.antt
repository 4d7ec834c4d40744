use Rattle.std.proofs.Common.{◌∷◌, [], ap}
use Rattle.std.proofs.Output.{has_written_of_eq}
use Rattle.handle_table.specs.declared.thing.Thing.TheVariants.{End}
use Rattle.history_text.specs.History.{thing_text}
use Rattle.history_text.proofs.Lists.{joined_parts}
use Rattle.history_text.proofs.shown_lists.ShownThingsDisplay.fmt.Goals as goal

pub returns-in-len1-up-clause-writes : goal.returns-in-len1-up-clause-writes
returns-in-len1-up-clause-writes g c p o =
    has_written_of_eq _ _ _ _ _
    (ap (λ t. 91 ∷ t) (joined_parts 44 thing_text c.args.self.now.0.now (End (record { seq = 0; serial = 0 })) (93 ∷ []) c.in-len1-up.len_at_least))
    (c.write-in-len1-up.ensures.writes p o)
