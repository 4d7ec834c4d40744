use Rattle.std.proofs.Common.{refl}
use Rattle.compat_model.specs.Pairs.{tag_pairs}
use Rattle.breaking_changes.proofs.Steps.{flat_step}
use Rattle.breaking_changes.proofs.unions.push_each.Goals as goal

pub loop-tag-preserved : goal.loop-tag-preserved
loop-tag-preserved c =
    flat_step (tag_pairs c.args.older.now.fields c.args.newer.now.fields) c.loop-tag.out.items c.push_tag.new.out.items _ c.args.tags.now c.loop-tag.tag-index
    _ 0 c.loop-tag-test.true refl c.loop-tag.invariant c.in_ok-push_tag.ensures
