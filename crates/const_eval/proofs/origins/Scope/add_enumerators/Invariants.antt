use Rattle.std.proofs.Common.{◌≡◌, drop, ◌++◌}
use Rattle.std.specs.List.{flat_map}
use Rattle.const_eval.specs.Origins.{origins_of_enumerators}
use Rattle.const_eval.proofs.origins.Scope.add_enumerators.Given as goal

abbrev pub invariant-loop-definition : goal.invariant-loop-definition
invariant-loop-definition l =
    l.origins.items
    ++ flat_map (origins_of_enumerators l.self.things.now l.self.names.now.files l.self.file) (drop l.definition-index l.definitions)
    ≡ l.fn.origins.items
    ++ flat_map (origins_of_enumerators l.self.things.now l.self.names.now.files l.self.file) l.definitions
