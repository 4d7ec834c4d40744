use Rattle.mojo_tool.proofs.Asking.{ok_goes, err_goes}
use Rattle.mojo_tool.proofs.Comparing.{said_text, said_stop}
use Rattle.mojo_tool.proofs.compat.judge.Goals as goal

pub returns-in-Ok-clause-text : goal.returns-in-Ok-clause-text
returns-in-Ok-clause-text c =
    ok_goes c.say.result _ _ (λ text says. said_text c.args.old.now c.args.new.now c.in-Ok.verdict text c.in-Ok.ensures.verdict says) c.say.ensures.text

pub returns-in-Ok-clause-stop : goal.returns-in-Ok-clause-stop
returns-in-Ok-clause-stop c =
    err_goes c.say.result _ _ (λ why says. said_stop c.args.old.now c.args.new.now c.in-Ok.verdict why c.in-Ok.ensures.verdict says) c.say.ensures.stop
