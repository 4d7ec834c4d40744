use Rattle.std.proofs.Common.{◌≡◌, ◌++◌, drop}
use Rattle.bind_model.specs.Ready.{ends_of}
use Rattle.core_state.specs.steps.Tokens.{tokens_of}
use Rattle.core_state.proofs.distinct.part.Given as goal

-- what is behind is parted, and the rest is still to be
abbrev pub invariant-loop-thing : goal.invariant-loop-thing
invariant-loop-thing l = record {
  ends : l.ends.items ++ ends_of (drop l.thing-index l.things) ≡ ends_of l.things;
  tokens : l.tokens.items ++ tokens_of (drop l.thing-index l.things) ≡ tokens_of l.things;
}
