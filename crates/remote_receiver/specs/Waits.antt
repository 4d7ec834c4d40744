-- What holds of the jobs that wait, whatever a desk's steps were.
use Rattle.std.specs.Prelude.{◌≡◌, ◌<◌, ◌≤◌, List, length, reverse, Some}
use Rattle.std.specs.FinMap.{FinMap, get}
use Rattle.bind_model.specs.Replies.{drawn}
use Rattle.bind_model.specs.declared.event.Event.{Event}
use Rattle.response_map.specs.Keys.{key_cmp}
use Rattle.response_map.specs.declared.key.Key.{Key}
use Rattle.remote_receiver.specs.declared.jobs.Waiting.{Waiting}
use Rattle.remote_receiver.specs.declared.note.Note.{Note}

module _ {C : Type 0} where
  -- the note of each is there
  abbrev pub AreNoted : FinMap key_cmp (Waiting C) → List Note → Type 0
  AreNoted waiting notes = (key : Key) (w : Waiting C) → get waiting key ≡ Some w → w.at < length notes

  -- as many requests were seen at its endpoint as the number of its request says
  abbrev pub AreDrawn : List Event → FinMap key_cmp (Waiting C) → Type 0
  AreDrawn seen waiting = (key : Key) (w : Waiting C) → get waiting key ≡ Some w → key.request ≤ length (drawn (reverse seen) key.end key.id)

  -- those that wait now did before
  abbrev pub IsPartOf : FinMap key_cmp (Waiting C) → FinMap key_cmp (Waiting C) → Type 0
  IsPartOf old new = (key : Key) (w : Waiting C) → get new key ≡ Some w → get old key ≡ Some w
