use Rattle.std.proofs.Common.{◌≡◌, ◌∙◌, ap, refl, sym, None, Some}
use Rattle.std.specs.Option.{option_map}
use Rattle.script_names.specs.Asking.{all_held}
use Rattle.script_names.specs.Held.{held_at}
use Rattle.plain_names.specs.steps.Sending.{both_of}
use Rattle.plain_names.proofs.lines.with_things.Goals as goal

pub returns-in-Some-clause-carried : goal.returns-in-Some-clause-carried
returns-in-Some-clause-carried c =
    let table = c.args.names.now.pendings.items.items in
    let list = c.args.lists.now.pendings.items in
    let pendings = c.from_vec.result in
    let found : all_held (held_at table) list ≡ Some pendings =
    ap (all_held (held_at table)) (sym c.as_slice.ensures.value)
    ∙ (sym c.in_ok-pendings.ensures.all ∙ (ap (option_map (λ l. l.items)) c.in-Some.is ∙ ap (λ xs. Some xs) (sym c.from_vec.ensures))) in
    sym (ap (both_of (Some c.args.things)) found)

pub returns-in-None-clause-carried : goal.returns-in-None-clause-carried
returns-in-None-clause-carried c =
    let table = c.args.names.now.pendings.items.items in
    let list = c.args.lists.now.pendings.items in
    let none : all_held (held_at table) list ≡ None =
    ap (all_held (held_at table)) (sym c.as_slice.ensures.value)
    ∙ (sym c.in_ok-pendings.ensures.all ∙ ap (option_map (λ l. l.items)) c.in-None.is) in
    sym (ap (both_of (Some c.args.things)) none)

pub returns-in-Some-clause-same : goal.returns-in-Some-clause-same
returns-in-Some-clause-same c = record { stands = refl; handles = refl; pendings = c.in_ok-pendings.ensures.same; responders = refl }

pub returns-in-None-clause-same : goal.returns-in-None-clause-same
returns-in-None-clause-same c = record { stands = refl; handles = refl; pendings = c.in_ok-pendings.ensures.same; responders = refl }
