use Rattle.mojo_tool.specs.Work.{Comparing}
use Rattle.mojo_tool.proofs.Asking.{ok_goes, err_goes}
use Rattle.mojo_tool.proofs.Comparing.{alone_text, alone_leads, alone_refused}
use Rattle.mojo_tool.proofs.Messages.{of_none}
use Rattle.mojo_tool.proofs.compat.compare_with.Goals as goal

pub returns-in-Err-clause-stop : goal.returns-in-Err-clause-stop
returns-in-Err-clause-stop c = alone_refused c.args.sources.now (Comparing c.args.older.now) c.in-Err.stop c.in-Err.ensures.stop

pub returns-in-Ok-clause-text : goal.returns-in-Ok-clause-text
returns-in-Ok-clause-text c =
    ok_goes c.judge.result _ _
    (λ text is. alone_text c.args.sources.now c.in-Ok.newer (Comparing c.args.older.now) text c.in-Ok.ensures.schema is) c.judge.ensures.text

pub returns-in-Ok-clause-stop : goal.returns-in-Ok-clause-stop
returns-in-Ok-clause-stop c =
    err_goes c.judge.result _ _
    (λ why stops. alone_leads c.args.sources.now c.in-Ok.newer (Comparing c.args.older.now) why c.in-Ok.ensures.schema stops) c.judge.ensures.stop

pub returns-in-Ok-clause-named : goal.returns-in-Ok-clause-named
returns-in-Ok-clause-named c = err_goes c.judge.result _ _ (λ why is. of_none _ why is) c.judge.ensures.named
