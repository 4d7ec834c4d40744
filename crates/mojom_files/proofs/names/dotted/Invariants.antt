use Rattle.std.proofs.Common.{◌≡◌, drop, ◌++◌}
use Rattle.std.specs.Prelude.{string_bytes, codes}
use Rattle.std.specs.List.{flat_map}
use Rattle.mojom_files.specs.Names.{dotted}
use Rattle.mojom_files.proofs.names.dotted.Given as goal

abbrev pub invariant-loop-part : goal.invariant-loop-part
invariant-loop-part l = string_bytes l.name ++ flat_map (λ part. codes "." ++ part.text) (drop l.part-index l.rest) ≡ dotted l.parts
