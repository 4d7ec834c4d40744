use Rattle.std.proofs.Common.{[], ◌++◌}
use Rattle.script_words.specs.Letters.{is_name}
use Rattle.call_script.specs.Script.{meant, is_set}
use Rattle.script_words.proofs.Slices.{all_at, words_more, words_around}
use Rattle.call_script.proofs.TableLemmas.{all_more, not_all, meant_more}
use Rattle.call_script.proofs.commands.find_all.Goals as goal

pub find_name-requires : goal.find_name-requires
find_name-requires c = all_at is_name c.args.names.now c.loop-name.name-index (record { ref_ptr = (0, 0); now = [] }) c.requires c.loop-name-test.true

pub returns-in-None : goal.returns-in-None
returns-in-None c names own t k =
    rw (words_around c.args.names.now c.loop-name.name-index (record { ref_ptr = (0, 0); now = [] }) c.loop-name-test.true)
    (not_all (is_set names c.args.scope.now.seq) _ _ _ ((rw c.in-None.is at c.in_ok-id.ensures) names own t k))

pub loop-name-preserved : goal.loop-name-preserved
loop-name-preserved c before own t k =
    let found = (rw c.in-Some.is at c.in_ok-id.ensures) before own t k in
    let so_far = c.loop-name.invariant before own t k in
    rw (words_more c.args.names.now c.loop-name.name-index (record { ref_ptr = (0, 0); now = [] }) c.loop-name-test.true, c.in_ok-push-in-Some.ensures.items) (
      all_more (is_set before c.args.scope.now.seq) _ _ so_far.0 found.0,
      meant_more (before ++ own) (meant before c.args.scope.now.seq) _ _ c.in-Some.id _ so_far.1 found.1,
    )
