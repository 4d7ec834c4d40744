use Rattle.load_run.proofs.sending.send.Goals as goal

pub call_if-requires-clause-prepared : goal.call_if-requires-clause-prepared
call_if-requires-clause-prepared c = c.in-Ok.ensures
