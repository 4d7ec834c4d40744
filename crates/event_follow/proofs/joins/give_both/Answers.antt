use Rattle.std.proofs.Common.{List, ap, ◌∙◌}
use Rattle.std.specs.Prelude.{◌==◌, Option}
use Rattle.handle_table.specs.declared.thing.Thing.{Thing}
use Rattle.script_names.specs.Tables.{filled}
use Rattle.script_run.specs.Rooms.{filled_if}
use Rattle.event_follow.proofs.joins.give_both.Goals as goal

pub returns : goal.returns
returns c =
    let joint = c.args.joint in
    let first = c.args.first in
    record {
      stands = c.give-2.ensures.stands ∙ ap (λ (table : List (Option Thing)). filled table joint.first first) c.give.ensures.stands;
      handles =
          c.give-2.ensures.handles
          ∙ ap (λ (table : List (Option Thing)). filled_if (joint.seq.0 == c.args.number) table joint.first first) c.give.ensures.handles;
      pendings = c.give-2.ensures.pendings ∙ c.give.ensures.pendings;
      responders = c.give-2.ensures.responders ∙ c.give.ensures.responders;
    }
