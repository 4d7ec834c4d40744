use Rattle.load_run.proofs.Replies.{last_of}
use Rattle.load_run.proofs.asking.settle.Goals as goal

pub returns-in-Ok-clause-last : goal.returns-in-Ok-clause-last
returns-in-Ok-clause-last c =
    last_of c.args.reply c.responder_of-found.result c.settle.new.self c.responder_of-found.ensures c.settle.ensures.last
