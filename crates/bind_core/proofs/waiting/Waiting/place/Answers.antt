use Rattle.std.proofs.Common.{◌≡◌, ap, false, sym, ◌∙◌}
use Rattle.bind_core.specs.Causes.{Lists, ends_for, has_list}
use Rattle.bind_core.proofs.CauseLists.{placed, placed_same}
use Rattle.bind_core.proofs.waiting.Waiting.place.Goals as goal

pub returns-clause-same : goal.returns-clause-same
returns-clause-same c other =
    let absent : has_list c.self.inside.lists.entries c.args.cause ≡ false =
    ap (λ (lists : Lists). has_list lists c.args.cause) c.self.view_is ∙ (sym c.has_list.ensures ∙ c.if-has_list.false) in
    placed_same c.self.inside.lists c.insert.new.self c.args.cause c.new.result c.in_ok-insert.ensures.updates c.new.ensures absent other
    ∙ ap (λ (lists : Lists). ends_for lists other) c.self.view_is

pub returns-clause-there : goal.returns-clause-there
returns-clause-there c = placed c.self.inside.lists c.insert.new.self c.args.cause c.new.result c.in_ok-insert.ensures.updates
