use Rattle.std.proofs.Common.{[], sym, ◌∙◌, ap}
use Rattle.std.specs.Prelude.{not}
use Rattle.script_words.specs.Letters.{is_name}
use Rattle.call_script.specs.Script.{has_name}
use Rattle.script_words.proofs.Slices.{all_at, words_more, words_around}
use Rattle.call_script.proofs.NameLemmas.{has_none, has_some}
use Rattle.call_script.proofs.TableLemmas.{any_more, any_at}
use Rattle.call_script.proofs.name_table.are_free.Goals as goal

pub text_of-requires : goal.text_of-requires
text_of-requires c = all_at is_name c.args.names.now c.loop-name.name-index (record { ref_ptr = (0, 0); now = [] }) c.requires c.loop-name-test.true

pub returns-in-Some : goal.returns-in-Some
returns-in-Some c names t =
    let found = rw c.text_of.ensures at (sym c.in-Some.ensures.value) in
    rw (words_around c.args.names.now c.loop-name.name-index (record { ref_ptr = (0, 0); now = [] }) c.loop-name-test.true)
    (ap not (any_at (has_name names) _ _ _ (has_some _ names _ (sym (t.numbers _) ∙ found))))

pub loop-name-preserved : goal.loop-name-preserved
loop-name-preserved c names t =
    let found = rw c.text_of.ensures at (sym c.in_default.ensures.value) in
    rw (words_more c.args.names.now c.loop-name.name-index (record { ref_ptr = (0, 0); now = [] }) c.loop-name-test.true)
    (any_more (has_name names) _ _ (c.loop-name.invariant names t) (has_none _ names (sym (t.numbers _) ∙ found)))
