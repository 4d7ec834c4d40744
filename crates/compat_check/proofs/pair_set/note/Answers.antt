use Rattle.std.proofs.Common.{true, cond, ap, ◌∙◌}
use Rattle.std.specs.Prelude.{not}
use Rattle.std.specs.BTreeMap.{is_at}
use Rattle.std.specs.BTreeSet.{contains}
use Rattle.compat_check.specs.declared.pair_set.Key.{Key}
use Rattle.compat_check.specs.steps.PairSets.{key_of, key_cmp, has_pair}
use Rattle.compat_check.proofs.pair_set.note.Goals as goal

pub returns-clause-answer : goal.returns-clause-answer
returns-clause-answer c = c.in_ok-insert.ensures.added ∙ ap (λ (k : Key). not (contains key_cmp c.args.seen.now.keys k)) c.key_of.ensures

pub returns-clause-noted : goal.returns-clause-noted
returns-clause-noted c q =
    c.in_ok-insert.ensures.updates.0 (key_of q)
    ∙ ap (λ (k : Key). cond (is_at (key_cmp k) (key_of q)) true (has_pair c.args.seen.now q)) c.key_of.ensures
