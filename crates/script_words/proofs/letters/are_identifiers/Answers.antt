use Rattle.std.proofs.Common.{[], sym, ◌∙◌}
use Rattle.script_words.specs.Letters.{is_identifier}
use Rattle.script_words.proofs.Slices.{all_false, all_true}
use Rattle.script_words.proofs.letters.are_identifiers.Goals as goal

pub returns-then-not-is_identifier : goal.returns-then-not-is_identifier
returns-then-not-is_identifier c =
    all_false is_identifier c.args.words.now c.loop-word.word-index (record { ref_ptr = (0, 0); now = [] }) c.loop-word-test.true
    (sym c.is_identifier.ensures ∙ c.if-not-is_identifier.true)

pub returns : goal.returns
returns c = all_true is_identifier c.args.words.now c.loop-word.word-index c.loop-word-test.false c.loop-word.invariant
