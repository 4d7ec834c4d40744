use Rattle.std.proofs.Common.{◌≡◌, take}
use Rattle.std.specs.List.{flat_map}
use Rattle.schema_text.specs.Listing.{definition_text}
use Rattle.schema_text.proofs.definitions.listing.Given as goal

abbrev pub invariant-loop-definition : goal.invariant-loop-definition
invariant-loop-definition l = l.out.items ≡ flat_map (definition_text l.schema) (take l.definition-index l.schema.order)
