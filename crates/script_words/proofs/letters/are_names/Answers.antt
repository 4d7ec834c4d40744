use Rattle.std.proofs.Common.{[], sym, ◌∙◌}
use Rattle.script_words.specs.Letters.{is_name}
use Rattle.script_words.proofs.Slices.{all_false, all_true}
use Rattle.script_words.proofs.letters.are_names.Goals as goal

pub returns-then-not-is_name : goal.returns-then-not-is_name
returns-then-not-is_name c =
    all_false is_name c.args.words.now c.loop-word.word-index (record { ref_ptr = (0, 0); now = [] }) c.loop-word-test.true
    (sym c.is_name.ensures ∙ c.if-not-is_name.true)

pub returns : goal.returns
returns c = all_true is_name c.args.words.now c.loop-word.word-index c.loop-word-test.false c.loop-word.invariant
