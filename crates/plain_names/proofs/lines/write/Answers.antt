use Rattle.std.proofs.Common.{◌≡◌, ◌∙◌, ℕ, List, ap, refl, sym, None, Some}
use Rattle.std.specs.Option.{option_map}
use Rattle.bind_model.specs.declared.asked.Asked.TheVariants as asks
use Rattle.script_names.specs.Asking.{all_held}
use Rattle.script_names.specs.Held.{held_at}
use Rattle.plain_names.specs.steps.Sending.{written_from}
use Rattle.plain_names.proofs.lines.write.Goals as goal

pub returns-in-Some-clause-asked : goal.returns-in-Some-clause-asked
returns-in-Some-clause-asked c =
    let table = c.args.names.now.handles.items.items in
    let things = c.from_vec.result in
    let found : all_held (held_at table) c.args.list.now ≡ Some things =
    sym c.in_ok-things.ensures.all ∙ (ap (option_map (λ l. l.items)) c.in-Some.is ∙ ap (λ xs. Some xs) (sym c.from_vec.ensures)) in
    ap (λ (bytes : List ℕ). asks.Raw c.args.thing bytes things) c.in_ok-bytes.ensures
    ∙ sym (ap (written_from c.args.number c.args.thing c.args.bytes.now) found)

pub returns-in-None-clause-asked : goal.returns-in-None-clause-asked
returns-in-None-clause-asked c =
    let table = c.args.names.now.handles.items.items in
    let none : all_held (held_at table) c.args.list.now ≡ None =
    sym c.in_ok-things.ensures.all ∙ ap (option_map (λ l. l.items)) c.in-None.is in
    sym (ap (written_from c.args.number c.args.thing c.args.bytes.now) none)

pub returns-in-Some-clause-same : goal.returns-in-Some-clause-same
returns-in-Some-clause-same c = record { stands = refl; handles = c.in_ok-things.ensures.same; pendings = refl; responders = refl }

pub returns-in-None-clause-same : goal.returns-in-None-clause-same
returns-in-None-clause-same c = record { stands = refl; handles = c.in_ok-things.ensures.same; pendings = refl; responders = refl }
