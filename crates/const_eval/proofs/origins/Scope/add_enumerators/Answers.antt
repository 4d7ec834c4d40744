use Rattle.const_eval.specs.Origins.{origins_of_enumerators}
use Rattle.const_eval.proofs.Steps.{flat_step}
use Rattle.const_eval.proofs.origins.Scope.add_enumerators.Goals as goal

pub loop-definition-preserved : goal.loop-definition-preserved
loop-definition-preserved c =
    flat_step
    (origins_of_enumerators c.args.self.now.things.now c.args.self.now.names.now.files c.args.self.now.file)
    c.loop-definition.origins.items
    c.add_enumerators_of.new.origins.items
    _
    c.args.definitions.now
    c.loop-definition.definition-index
    c.definition-item.result
    _
    c.loop-definition-test.true
    c.definition-item.is
    c.loop-definition.invariant
    c.in_ok-add_enumerators_of.ensures
