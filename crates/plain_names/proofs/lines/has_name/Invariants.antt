use Rattle.std.proofs.Common.{◌≡◌, drop}
use Rattle.script_names.specs.Names.{has_name}
use Rattle.plain_names.proofs.lines.has_name.Given as goal

-- it is in what is left
abbrev pub invariant-loop-other : goal.invariant-loop-other
invariant-loop-other l = has_name (drop l.other-index l.names) l.name ≡ has_name l.names l.name
