use Rattle.std.proofs.Common.{List, [], ◌∷◌, ◌++◌, drop, ap, ◌∙◌}
use Rattle.std.proofs.lemmas.List.{drop-append-le}
use Rattle.end_notices.specs.declared.waits.Wait.{Wait}
use Rattle.end_notices.proofs.waits.Waits.push.Goals as goal

pub returns-clause-ok : goal.returns-clause-ok
returns-clause-ok c =
    ap (λ (ws : List Wait). drop c.self.inside.forgotten ws) c.in_ok-push.ensures.items
    ∙ (drop-append-le c.self.inside.forgotten c.self.inside.items.items (c.args.wait ∷ []) c.self.invariant
    ∙ ap (λ (ws : List Wait). ws ++ c.args.wait ∷ []) c.self.view_is)
