use Rattle.std.proofs.Common.{◌≡◌, ℕ, List, length, get_or, set, ◌<◌}
use Rattle.std.specs.Prelude.{Result, Ok, Err, OnOk}
use Rattle.handle_table.specs.Numbered.{changed_at}
use Rattle.handle_table.proofs.NumberedLemmas.{put-changed}
use Rattle.queued_keys.specs.Ends.{with_key}
use Rattle.queued_keys.specs.declared.key.Key.{Key}
use Rattle.queued_keys.specs.declared.keyed_end.KeyedEnd.{KeyedEnd}
use Rattle.queued_keys.proofs.keyed_list.KeyedList.push_key.Goals as goal

pushed : (r : Result Unit Key) (k : Key) (n : ℕ) (xs : List KeyedEnd) (x new : KeyedEnd) → n < length xs → x ≡ get_or xs n x
    → OnOk r (new ≡ with_key k x) → OnOk r (set xs n new ≡ changed_at (with_key k) n xs)
pushed (Ok u) k n xs x new h is e = put-changed (with_key k) n xs x new h is e
pushed (Err back) k n xs x new h is e = tt

pub returns-clause-ok : goal.returns-clause-ok
returns-clause-ok c =
    rw (← c.self.view_is) (pushed c.push.result c.args.key c.args.number c.self.inside.items.items c.index_mut.result.now c.push.new.self
    (rw c.self.view_is c.requires) c.index_mut.ensures.value c.push.ensures.ok)
