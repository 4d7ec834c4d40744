use Rattle.std.proofs.Common.{◌≡◌, ◌∙◌, List, ap, refl, sym, None, Some}
use Rattle.std.specs.Prelude.{Option}
use Rattle.std.specs.Option.{option_map}
use Rattle.std.proofs.lemmas.Result.{IfOk-weaker}
use Rattle.handle_table.specs.declared.thing.Thing.{Thing}
use Rattle.script_names.specs.Asking.{all_held}
use Rattle.script_names.specs.Held.{held_at}
use Rattle.plain_names.specs.steps.Sending.{both_of}
use Rattle.plain_names.proofs.lines.carried.Goals as goal

pub returns-in-Some-clause-carried : goal.returns-in-Some-clause-carried
returns-in-Some-clause-carried c =
    let names = c.args.names.now in
    let table = names.handles.items.items in
    let list = c.args.lists.now.handles.items in
    let things = c.from_vec.result in
    let found : all_held (held_at table) list ≡ Some things =
    ap (all_held (held_at table)) (sym c.as_slice.ensures.value)
    ∙ (sym c.in_ok-things.ensures.all ∙ (ap (option_map (λ l. l.items)) c.in-Some.is ∙ ap (λ xs. Some xs) (sym c.from_vec.ensures))) in
    let pendings = all_held (held_at names.pendings.items.items) c.args.lists.now.pendings.items in
    IfOk-weaker c.with_things.result _ _ (λ answer e. e ∙ sym (ap (λ (o : Option (List Thing)). both_of o pendings) found))
    c.with_things.ensures.carried

pub returns-in-None-clause-carried : goal.returns-in-None-clause-carried
returns-in-None-clause-carried c =
    let names = c.args.names.now in
    let table = names.handles.items.items in
    let list = c.args.lists.now.handles.items in
    let none : all_held (held_at table) list ≡ None =
    ap (all_held (held_at table)) (sym c.as_slice.ensures.value)
    ∙ (sym c.in_ok-things.ensures.all ∙ ap (option_map (λ l. l.items)) c.in-None.is) in
    let pendings = all_held (held_at names.pendings.items.items) c.args.lists.now.pendings.items in
    sym (ap (λ (o : Option (List Thing)). both_of o pendings) none)

pub returns-in-Some-clause-same : goal.returns-in-Some-clause-same
returns-in-Some-clause-same c =
    IfOk-weaker c.with_things.result _ _
    (λ answer s. record { stands = s.stands; handles = s.handles ∙ c.in_ok-things.ensures.same; pendings = s.pendings; responders = s.responders })
    c.with_things.ensures.same

pub returns-in-None-clause-same : goal.returns-in-None-clause-same
returns-in-None-clause-same c = record { stands = refl; handles = c.in_ok-things.ensures.same; pendings = refl; responders = refl }
