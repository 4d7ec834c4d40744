use Rattle.std.proofs.Common.{Some, refl, ap, ◌∙◌}
use Rattle.message_pipe.specs.Ends.{carried_in, spread}
use Rattle.core_taking.specs.Taking.{noted_as}
use Rattle.event_takes.proofs.receiving.gather.Goals as goal

pub returns : goal.returns
returns c =
    let pipes = c.args.pipes.now in
    record {
      noted = c.in_ok-noted.ensures ∙ ap (noted_as c.args.end c.args.arrived.now) c.in_ok-told.ensures;
      gone =
          c.in_ok-gone.ensures
          ∙ ap (spread (carried_in pipes.ends (Some c.args.end)) pipes.made) (c.into_vec-left.ensures ∙ c.in_ok-copied.ensures);
      things = refl;
    }
