use Rattle.std.proofs.Common.{◌≡◌, ◌∙◌, ap, refl, sym, Some}
use Rattle.std.specs.Option.{option_map}
use Rattle.script_names.specs.Held.{held_at}
use Rattle.script_names.specs.Tables.{emptied, given, left_by, taken_from}
use Rattle.script_names.proofs.NameLemmas.{with_first}
use Rattle.script_names.proofs.TableLemmas.{all_back, all_taken, left_emptied, left_taken, unchanged}
use Rattle.script_names.proofs.tokens.raw.Goals as goal

pub returns-in-Some-take-clause-took : goal.returns-in-Some-take-clause-took
returns-in-Some-take-clause-took c =
    let list = c.args.names.now.handles.items in
    let table = c.args.rooms.now.handles.named.items in
    let handles = c.from_vec-handles.result in
    let given_all : taken_from table list ≡ Some handles =
    all_taken table list c.as_slice.result.now _ handles c.as_slice.ensures.value c.in_ok-handles.ensures.things
    (ap (option_map (λ l. l.items)) c.in-Some.is ∙ ap (λ xs. Some xs) (sym c.from_vec-handles.ensures)) in
    let left : c.take_all.new.self.named.items ≡ left_by table list =
    left_taken table c.take_all.new.self.named.items list c.as_slice.result.now handles c.as_slice.ensures.value c.in_ok-handles.ensures.named given_all in
    let name = c.args.name in
    let held : held_at (left_by table list) name ≡ Some c.in-Some-take.end =
    ap (λ t. held_at t name) (sym left) ∙ (sym c.take.ensures.before ∙ c.in-Some-take.is) in
    record {
      handles = rw c.requires (with_first list table name c.in-Some-take.end handles given_all held);
      no_handles = rw c.requires (c.take.ensures.after ∙ (ap (λ t. emptied t name) left ∙ sym (left_emptied list table name)));
      pendings = refl;
      no_pendings = refl;
      responder = refl;
      no_responder = refl;
      stands = refl;
      kept = refl;
    }

pub returns-in-None-clause-took : goal.returns-in-None-clause-took
returns-in-None-clause-took c =
    let list = c.args.names.now.handles.items in
    let table = c.args.rooms.now.handles.named.items in
    let handles = c.from_vec-handles.result in
    let given_all : taken_from table list ≡ Some handles =
    all_taken table list c.as_slice.result.now _ handles c.as_slice.ensures.value c.in_ok-handles.ensures.things
    (ap (option_map (λ l. l.items)) c.in-Some.is ∙ ap (λ xs. Some xs) (sym c.from_vec-handles.ensures)) in
    let left : c.take_all.new.self.named.items ≡ left_by table list =
    left_taken table c.take_all.new.self.named.items list c.as_slice.result.now handles c.as_slice.ensures.value c.in_ok-handles.ensures.named given_all in
    let same =
    unchanged c.take_all.new.self.named.items c.take.new.self.named.items c.args.name (sym c.take.ensures.before ∙ c.in-None.is) c.take.ensures.after in
    record {
      handles = refl;
      no_handles = c.give_handles.ensures.handles ∙ (ap (given list handles) (same ∙ left) ∙ all_back list handles table given_all);
      pendings = refl;
      no_pendings = rw c.give_handles.ensures.pendings refl;
      responder = refl;
      no_responder = rw c.give_handles.ensures.responders refl;
      stands = c.give_handles.ensures.stands;
      kept = c.give_handles.ensures.places;
    }
