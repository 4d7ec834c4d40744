-- The ends of a sequence once a pipe is made.
use Rattle.std.specs.Prelude.{ℕ, ◌==◌, List, [], ◌∷◌, ◌++◌, if◌then◌else◌}
use Rattle.mj_base.specs.declared.ids.EndId.{EndId}
use Rattle.queued_keys.specs.declared.keyed_end.KeyedEnd.{KeyedEnd}
use Rattle.queued_keys.specs.Ends.{open_end}

-- one sequence's ends once the second end of a pipe of these two is made
abbrev pub with_second : EndId → EndId → ℕ → List KeyedEnd → List KeyedEnd
with_second one other s ends = if other.seq == s then ends ++ open_end one ∷ [] else ends

-- one sequence's ends once a pipe of these two is made
abbrev pub with_pair : EndId → EndId → ℕ → List KeyedEnd → List KeyedEnd
with_pair one other s ends = with_second one other s (if one.seq == s then ends ++ open_end other ∷ [] else ends)
