-- Keys of unread messages.
use Rattle.std.specs.Prelude.{ℕ, Bool, true, ◌+◌, ◌==◌, ◌&&◌, not, List, [], ◌∷◌, Option, Some, None, if◌then◌else◌}
use Rattle.std.specs.List.{list_any}
use Rattle.queued_keys.specs.declared.key.Key.{Key}

-- the oldest
abbrev pub front_of : List Key → Option Key
front_of [] = None
front_of (k ∷ ks) = Some k

-- how many count for the limit of an end: all of messages that the machine didn't emit by itself
abbrev pub weighs : List Key → ℕ
weighs [] = 0
weighs (k ∷ ks) = (if k.emitted then 0 else 1) + weighs ks

-- whether the machine emitted the messages of all of them by itself
abbrev pub are_emitted : List Key → Bool
are_emitted [] = true
are_emitted (k ∷ ks) = k.emitted && are_emitted ks

-- whether one of them is of this place
abbrev pub has_place : List Key → ℕ → Bool
has_place ks a = list_any (λ k. k.at == a) ks

-- whether no two are of one place
abbrev pub are_apart : List Key → Bool
are_apart [] = true
are_apart (k ∷ ks) = not (has_place ks k.at) && are_apart ks
