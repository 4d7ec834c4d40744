use Rattle.handle_table.proofs.NumberedLemmas.{put-changed}
use Rattle.message_pipe.specs.Ends.{without_front}
use Rattle.pipe_runs.proofs.end_list.EndList.pop_message.Goals as goal

pub returns-clause-rest : goal.returns-clause-rest
returns-clause-rest c = rw (← c.self.view_is) (put-changed without_front c.args.number c.self.inside.items.items c.index_mut.result.now c.pop.new.self
    (rw c.self.view_is c.requires) c.index_mut.ensures.value c.pop.ensures.rest)
