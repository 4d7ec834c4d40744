use Rattle.std.proofs.Common.{[], take}
use Rattle.std.specs.Prelude.{map}
use Rattle.script_words.specs.Letters.{is_name}
use Rattle.script_words.proofs.Slices.{all_at, words_more, words_around}
use Rattle.call_script.proofs.TableLemmas.{add_next, add_fails}
use Rattle.call_script.proofs.name_table.add_all.Goals as goal

pub text_of-requires : goal.text_of-requires
text_of-requires c = all_at is_name c.args.names.now c.loop-name.name-index (record { ref_ptr = (0, 0); now = [] }) c.requires c.loop-name-test.true

pub returns-then-not-branch : goal.returns-then-not-branch
returns-then-not-branch c names t =
    let again = rw (c.if-not-branch.true, c.text_of.ensures) at c.in_ok-add.ensures in
    rw (words_around c.args.names.now c.loop-name.name-index (record { ref_ptr = (0, 0); now = [] }) c.loop-name-test.true)
    (add_fails c.args.table.now c.loop-name.table (map (λ name. name.now)
    (take c.loop-name.name-index c.args.names.now)) _ _ c.loop-name.invariant again names t)

pub loop-name-preserved : goal.loop-name-preserved
loop-name-preserved c names t =
    let more = rw (c.if-not-branch.false, c.text_of.ensures) at c.in_ok-add.ensures in
    rw (words_more c.args.names.now c.loop-name.name-index (record { ref_ptr = (0, 0); now = [] }) c.loop-name-test.true)
    (add_next c.args.table.now c.loop-name.table c.add.new.table _ _ c.loop-name.invariant more names t)
