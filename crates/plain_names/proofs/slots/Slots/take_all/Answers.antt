use Rattle.std.proofs.Common.{sym, ◌∙◌, ◌≡◌, arith, length, Some, None, get_or}
use Rattle.std.specs.Prelude.{slice_get}
use Rattle.std.proofs.lemmas.Option.{slice_get-get_or}
use Rattle.call_script.specs.declared.script.NameId.{NameId}
use Rattle.script_names.specs.Held.{held_at}
use Rattle.script_names.specs.Tables.{taken_from}
use Rattle.script_names.proofs.TableLemmas.{back_more, back_whole, left_more, taken_more, taken_none}
use Rattle.plain_names.proofs.slots.Slots.take_all.Goals as goal

abbrev none : NameId
none = record { 0 = 0 }

pub returns-in-None-clause-things : goal.returns-in-None-clause-things
returns-in-None-clause-things g c =
    let names = c.args.names.now in
    let at = c.loop-name.name-index in
    sym (taken_none names c.args.self.now.items.items c.loop-name.self.items.items c.loop-name.taken.items at (get_or names at none)
    (slice_get-get_or names at none c.loop-name-test.true) (sym c.take.ensures.before ∙ c.in-None.is) c.loop-name.invariant.things)

pub returns-in-None-clause-left : goal.returns-in-None-clause-left
returns-in-None-clause-left g c =
    let names = c.args.names.now in
    let first = c.args.self.now.items.items in
    let table = c.loop-name.self.items.items in
    let at = c.loop-name.name-index in
    let name : NameId = get_or names at none in
    let held : held_at table name ≡ None = sym c.take.ensures.before ∙ c.in-None.is in
    let nothing : taken_from first names ≡ None =
    taken_none names first table c.loop-name.taken.items at name (slice_get-get_or names at none c.loop-name-test.true) held c.loop-name.invariant.things in
    rw nothing
    (back_whole names first table c.take.new.self.items.items c.give.new.self.items.items c.loop-name.taken.items name held c.take.ensures.after
    c.give.ensures c.loop-name.invariant.back)

pub loop-name-preserved : goal.loop-name-preserved
loop-name-preserved g c =
    let names = c.args.names.now in
    let first = c.args.self.now.items.items in
    let table = c.loop-name.self.items.items in
    let taken = c.loop-name.taken.items in
    let at = c.loop-name.name-index in
    let name : NameId = get_or names at none in
    let x = c.in-Some.one in
    let there : slice_get names at ≡ Some name = slice_get-get_or names at none c.loop-name-test.true in
    let held : held_at table name ≡ Some x = sym c.take.ensures.before ∙ c.in-Some.is in
    let i = c.loop-name.invariant in
    let after = c.take.ensures.after in
    let push = c.push_reserved.ensures.items in
    let count : length taken ≡ at = omega (arith, i.count) in
    record {
      count = omega (arith, i.count, c.push_reserved.ensures.len);
      things = rw (push, after) (taken_more names first table taken at name there x held i.things);
      left = rw after (left_more names first table taken at name there i.left);
      back = rw (push, after) (back_more names first table taken at name there x count held i.back);
      space = omega (arith, i.space, c.push_reserved.ensures.capacity);
    }
