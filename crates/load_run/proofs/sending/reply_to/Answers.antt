use Rattle.load_run.proofs.sending.reply_to.Goals as goal

pub reply_with-requires-clause-prepared : goal.reply_with-requires-clause-prepared
reply_with-requires-clause-prepared c = c.in-Ok.ensures
