use Rattle.std.proofs.Common.{◌≡◌, ◌∷◌, [], ap, length, arith}
use Rattle.std.proofs.Output.{has_written_of_eq}
use Rattle.handle_table.specs.declared.thing.Thing.TheVariants.{End}
use Rattle.history_text.specs.History.{thing_text, pending_text}
use Rattle.history_text.proofs.Lists.{joined_both, tokens_none}
use Rattle.history_text.proofs.shown_lists.ShownTokensDisplay.fmt.Goals as goal

pub returns-in-len1-up-clause-writes : goal.returns-in-len1-up-clause-writes
returns-in-len1-up-clause-writes g c p o =
    has_written_of_eq _ _ _ _ _
    (ap (λ t. 91 ∷ t) (joined_both thing_text pending_text c.args.self.now.handles.now c.args.self.now.pendings.now (End (record { seq = 0; serial = 0 }))
    (93 ∷ []) c.in-len1-up.len_at_least))
    (c.write-in-len1-up.ensures.writes p o)

pub returns-in-empty-clause-writes : goal.returns-in-empty-clause-writes
returns-in-empty-clause-writes g c p o =
    let none : length c.args.self.now.handles.now ≡ 0 = let below = c.in-empty.len_below in omega (arith, below) in
    has_written_of_eq _ _ _ _ _ (tokens_none c.args.self.now.handles.now c.args.self.now.pendings.now none) (c.write.ensures.writes p o)
