use Rattle.std.proofs.Common.{◌≡◌, ◌∙◌, ap, sym, None, Some}
use Rattle.std.specs.Option.{option_map}
use Rattle.script_names.specs.Tables.{given, left_by, taken_from}
use Rattle.script_names.proofs.TableLemmas.{all_back, all_taken, left_same, left_taken}
use Rattle.script_names.proofs.tokens.take_tokens.Goals as goal

pub returns-in-Ok-None-clause-took : goal.returns-in-Ok-None-clause-took
returns-in-Ok-None-clause-took c =
    let list = c.args.names.now.handles.items in
    let table = c.args.rooms.now.handles.named.items in
    let handles = c.from_vec-handles.result in
    let given_all : taken_from table list ≡ Some handles =
    all_taken table list c.as_slice.result.now _ handles c.as_slice.ensures.value c.in_ok-handles.ensures.things
    (ap (option_map (λ l. l.items)) c.in-Some.is ∙ ap (λ xs. Some xs) (sym c.from_vec-handles.ensures)) in
    let left : c.take_all.new.self.named.items ≡ left_by table list =
    left_taken table c.take_all.new.self.named.items list c.as_slice.result.now handles c.as_slice.ensures.value c.in_ok-handles.ensures.named given_all in
    let others = c.args.rooms.now.pendings.named.items in
    let under = c.args.names.now.pendings.items in
    let none : taken_from others under ≡ None =
    ap (taken_from others) (sym c.as_slice-2.ensures.value)
    ∙ (sym c.in-Ok-None.ensures.things ∙ ap (option_map (λ l. l.items)) c.in-Ok-None.field-0-is) in
    record {
      handles = c.give_handles.ensures.handles ∙ (ap (given list handles) left ∙ all_back list handles table given_all);
      pendings =
          rw c.give_handles.ensures.pendings
          (left_same others _ under c.as_slice-2.result.now c.as_slice-2.ensures.value c.in-Ok-None.ensures.named none);
      stands = c.give_handles.ensures.stands;
      responders = c.give_handles.ensures.responders;
      kept = c.give_handles.ensures.places;
    }
