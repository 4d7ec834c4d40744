use Rattle.std.proofs.Common.{◌≡◌, Bool, true, false, [], refl, sym, ap, ◌∙◌}
use Rattle.std.specs.Prelude.{if◌then◌else◌}
use Rattle.script_names.specs.Names.{is_done}
use Rattle.script_names.specs.Tables.{left_by}
use Rattle.plain_names.specs.steps.Spent.{handles_gone, pendings_gone, responders_gone}
use Rattle.plain_names.proofs.spending.spend.Goals as goal

pub returns-then-is_done : goal.returns-then-is_done
returns-then-is_done c =
    let lists = c.args.lists.now in
    let event = c.args.event.now in
    let old = c.args.names.now in
    let done : is_done event.told ≡ true = sym c.is_done.ensures ∙ c.if-is_done.true in
    record {
      stands = c.spend_all.ensures.stands;
      handles =
          c.spend_all.ensures.handles
          ∙ ap (λ (b : Bool). left_by old.handles.items.items (if b then handles_gone lists event.asked else [])) (sym done);
      pendings =
          c.spend_all.ensures.pendings
          ∙ ap (λ (b : Bool). left_by old.pendings.items.items (if b then pendings_gone lists event.asked else [])) (sym done);
      responders =
          c.spend_all.ensures.responders
          ∙ ap (λ (b : Bool). left_by old.responders.items.items (if b then responders_gone lists event.asked else [])) (sym done);
    }

pub returns-else-is_done : goal.returns-else-is_done
returns-else-is_done c =
    let lists = c.args.lists.now in
    let event = c.args.event.now in
    let old = c.args.names.now in
    let none : is_done event.told ≡ false = sym c.is_done.ensures ∙ c.if-is_done.false in
    record {
      stands = refl;
      handles = ap (λ (b : Bool). left_by old.handles.items.items (if b then handles_gone lists event.asked else [])) (sym none);
      pendings = ap (λ (b : Bool). left_by old.pendings.items.items (if b then pendings_gone lists event.asked else [])) (sym none);
      responders = ap (λ (b : Bool). left_by old.responders.items.items (if b then responders_gone lists event.asked else [])) (sym none);
    }
