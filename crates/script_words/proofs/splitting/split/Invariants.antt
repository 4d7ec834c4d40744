use Rattle.std.proofs.Common.{◌≡◌, ◌≤◌, ◌-◌, ◌++◌, take, drop}
use Rattle.std.specs.Prelude.{map}
use Rattle.script_words.specs.Pieces.{pieces, onto}
use Rattle.script_words.proofs.splitting.split.Given as goal

abbrev pub invariant-loop-at : goal.invariant-loop-at
invariant-loop-at l = record {
  within : l.from ≤ l.at;
  parts : pieces l.separator l.text ≡ map (λ part. part.now) l.parts.items
      ++ onto (take (l.at - l.from) (drop l.from l.text)) (pieces l.separator (drop l.at l.text));
}
