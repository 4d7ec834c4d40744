use Rattle.std.proofs.Common.{Some, ap, ◌∙◌}
use Rattle.std.specs.Prelude.{◌==◌, ◌&&◌, cond}
use Rattle.handle_table.specs.Things.{same_end}
use Rattle.endpoint_router.specs.Slots.{Keys, key_in}
use Rattle.endpoint_router.proofs.Keys.{key_added}
use Rattle.endpoint_router.proofs.index.Index.add.Goals as goal

pub returns-clause-ok : goal.returns-clause-ok
returns-clause-ok c = λ y n.
    key_added c.self.inside.keys c.insert.new.self c.args.end c.args.id c.args.key c.in_ok-insert.ensures.updates y n
    ∙ ap (λ (keys : Keys). cond (same_end c.args.end y && (c.args.id == n)) (Some c.args.key) (key_in keys y n)) c.self.view_is
