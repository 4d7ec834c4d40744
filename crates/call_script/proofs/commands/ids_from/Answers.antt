use Rattle.std.proofs.Common.{refl}
use Rattle.call_script.proofs.TableLemmas.{ids_more}
use Rattle.call_script.proofs.commands.ids_from.Goals as goal

pub loop-k-preserved : goal.loop-k-preserved
loop-k-preserved c =
    ids_more c.loop-k.ids.items c.push.new.self.items _ c.args.first c.loop-k.k c.loop-k.invariant c.in_ok-push.ensures.items refl
