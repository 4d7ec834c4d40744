use Rattle.std.proofs.Common.{◌≡◌, ◌∙◌, ap, refl, sym, None, Some}
use Rattle.std.specs.Option.{option_map}
use Rattle.script_names.specs.Tables.{given, left_by, taken_from}
use Rattle.script_names.proofs.TableLemmas.{all_back, left_same, left_taken, none_where, taken_from-all_held}
use Rattle.plain_names.proofs.slots.Slots.all.Goals as goal

-- without all of them none was taken
pub returns-in_default-clause-all : goal.returns-in_default-clause-all
returns-in_default-clause-all g c =
    sym (ap (option_map (λ l. l.items)) (none_where _ c.in_default.not-Some))
    ∙ (c.in_ok-taken.ensures.things ∙ taken_from-all_held c.args.self.now.items.items c.args.names.now)

pub returns-in_default-clause-same : goal.returns-in_default-clause-same
returns-in_default-clause-same g c =
    let table = c.args.self.now.items.items in
    let names = c.args.names.now in
    let none : taken_from table names ≡ None =
    sym c.in_ok-taken.ensures.things ∙ ap (option_map (λ l. l.items)) (none_where _ c.in_default.not-Some) in
    left_same table c.take_all.new.self.items.items names names refl c.in_ok-taken.ensures.left none

-- what was taken is given back
pub returns-clause-all : goal.returns-clause-all
returns-clause-all g c =
    sym (ap (option_map (λ l. l.items)) c.in-Some.is)
    ∙ (c.in_ok-taken.ensures.things ∙ taken_from-all_held c.args.self.now.items.items c.args.names.now)

pub returns-clause-same : goal.returns-clause-same
returns-clause-same g c =
    let table = c.args.self.now.items.items in
    let names = c.args.names.now in
    let taken = c.in-Some.taken.items in
    let some : taken_from table names ≡ Some taken = sym c.in_ok-taken.ensures.things ∙ ap (option_map (λ l. l.items)) c.in-Some.is in
    let left : c.take_all.new.self.items.items ≡ left_by table names =
    left_taken table c.take_all.new.self.items.items names names taken refl c.in_ok-taken.ensures.left some in
    let same : c.in_ok-back.back.items ≡ taken = c.in_ok-back.ensures.items ∙ c.as_slice.ensures.value in
    c.give.ensures
    ∙ (ap (λ things. given names things c.take_all.new.self.items.items) same
    ∙ (ap (given names taken) left ∙ all_back names taken table some))
