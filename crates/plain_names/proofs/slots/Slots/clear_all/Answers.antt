use Rattle.std.proofs.Common.{sym, ap, ◌∙◌, ◌≡◌, [], arith, get_or, Some}
use Rattle.std.specs.Prelude.{slice_get}
use Rattle.std.proofs.lemmas.List.{drop_all}
use Rattle.std.proofs.lemmas.Option.{slice_get-get_or}
use Rattle.call_script.specs.declared.script.NameId.{NameId}
use Rattle.script_names.specs.Tables.{left_by}
use Rattle.script_names.proofs.TableLemmas.{left_more}
use Rattle.plain_names.proofs.slots.Slots.clear_all.Goals as goal

abbrev none : NameId
none = record { 0 = 0 }

pub loop-name-preserved : goal.loop-name-preserved
loop-name-preserved g c =
    let names = c.args.names.now in
    let at = c.loop-name.name-index in
    let name : NameId = get_or names at none in
    let there : slice_get names at ≡ Some name = slice_get-get_or names at none c.loop-name-test.true in
    record {
      left =
          rw c.take-before.ensures.after
          (left_more names c.args.self.now.items.items c.loop-name.self.items.items [] at name there c.loop-name.invariant.left);
    }

pub returns : goal.returns
returns g c =
    let table = c.loop-name.self.items.items in
    sym (c.loop-name.invariant.left
    ∙ ap (left_by table) (drop_all c.loop-name.name-index c.args.names.now (omega (arith, c.loop-name-test.false))))
