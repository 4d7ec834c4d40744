use Rattle.std.proofs.Common.{◌≡◌, ◌<◌, ℕ, get_or, length, false, take}
use Rattle.const_meanings.specs.steps.Reached.{is_reached}
use Rattle.const_meanings.proofs.meaning.reached.Given as goal

abbrev pub invariant-loop-reach : goal.invariant-loop-reach
invariant-loop-reach l = record {
  count : length l.marks.items ≡ l.things;
  marks : (thing : ℕ) → thing < l.things → get_or l.marks.items thing false ≡ is_reached (take l.reach-index l.reaches) thing;
}
