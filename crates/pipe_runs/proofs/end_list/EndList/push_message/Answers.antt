use Rattle.std.proofs.Common.{◌≡◌, ℕ, List, length, get_or, set, ◌<◌}
use Rattle.std.specs.Prelude.{Result, Ok, Err, OnOk}
use Rattle.handle_table.specs.Numbered.{changed_at}
use Rattle.handle_table.proofs.NumberedLemmas.{put-changed}
use Rattle.message_pipe.specs.Ends.{with_message}
use Rattle.message_pipe.specs.declared.message.Message.{Message}
use Rattle.message_pipe.specs.declared.pipe_end.PipeEnd.{PipeEnd}
use Rattle.pipe_runs.proofs.end_list.EndList.push_message.Goals as goal

pushed : (r : Result Unit Message) (m : Message) (n : ℕ) (xs : List PipeEnd) (x new : PipeEnd) → n < length xs → x ≡ get_or xs n x
    → OnOk r (new ≡ with_message m x) → OnOk r (set xs n new ≡ changed_at (with_message m) n xs)
pushed (Ok u) m n xs x new h is e = put-changed (with_message m) n xs x new h is e
pushed (Err back) m n xs x new h is e = tt

pub returns-clause-ok : goal.returns-clause-ok
returns-clause-ok c =
    rw (← c.self.view_is) (pushed c.push.result c.args.message c.args.number c.self.inside.items.items c.index_mut.result.now c.push.new.self
    (rw c.self.view_is c.requires) c.index_mut.ensures.value c.push.ensures.ok)
