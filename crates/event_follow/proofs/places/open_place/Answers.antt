use Rattle.std.proofs.Common.{ap, refl, ◌∙◌}
use Rattle.std.specs.Prelude.{filter}
use Rattle.script_run.specs.Order.{is_own}
use Rattle.script_run.specs.steps.Orders.{numbered}
use Rattle.event_follow.proofs.PlacesLemmas.{unnamed_new}
use Rattle.event_follow.proofs.places.open_place.Goals as goal

pub returns : goal.returns
returns c =
    let named = c.in-Ok.ensures in
    record {
      names =
          unnamed_new c.args.script.now.names c.new-names.result c.add_names.new.self c.new-names.ensures named.stands named.handles named.pendings
          named.responders;
      lines = c.in_ok-lines.ensures ∙ ap (filter (is_own (numbered c.args.seq))) c.as_slice.ensures;
      done = refl;
      due = refl;
    }
