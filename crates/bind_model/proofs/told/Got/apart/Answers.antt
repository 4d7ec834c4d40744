use Rattle.std.proofs.Common.{List, ap, ◌∙◌}
use Rattle.handle_table.specs.declared.thing.Thing.{Thing}
use Rattle.bind_model.specs.declared.told.Got.{Got}
use Rattle.bind_model.proofs.told.Got.apart.Goals as goal

pub returns : goal.returns
returns c =
    let got : List Thing → List Thing → Got = λ hs gs. record {
      id = c.args.id;
      target = c.args.target;
      parameters = c.args.parameters;
      request = c.args.request;
      handles = hs;
      pendings = c.args.pendings;
      gone = gs;
      moment = c.args.moment;
    } in
    c.in_ok-apart.ensures
    ∙ (ap (λ (hs : List Thing). got hs c.in_ok-gone.gone) c.in_ok-handles.ensures ∙ ap (got c.args.handles) c.in_ok-gone.ensures)
