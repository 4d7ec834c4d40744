use Rattle.std.proofs.Common.{◌≡◌, drop, map, ◌++◌}
use Rattle.const_eval.specs.Origins.{origin_of_definition}
use Rattle.const_eval.proofs.origins.Scope.add_definitions.Given as goal

abbrev pub invariant-loop-definition : goal.invariant-loop-definition
invariant-loop-definition l =
    l.origins.items
    ++ map (origin_of_definition l.self.things.now l.self.names.now.files l.self.file) (drop l.definition-index l.definitions)
    ≡ l.fn.origins.items ++ map (origin_of_definition l.self.things.now l.self.names.now.files l.self.file) l.definitions
