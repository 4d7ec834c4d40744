use Rattle.std.proofs.Common.{◌∙◌}
use Rattle.wire_view.specs.Parts.{part, kind_at}
use Rattle.wire_view.specs.Views.{tree_of, kind_of, schema_of}
use Rattle.wire_view.proofs.KindsOf.{of_element}
use Rattle.wire_view.proofs.ObjectFacts.{items_of_part, no_items_of_part}
use Rattle.wire_view.proofs.view.View.element.Goals as goal

pub returns-in-Some-clause-value : goal.returns-in-Some-clause-value
returns-in-Some-clause-value c =
    c.item.ensures.value ∙ items_of_part (part (tree_of c.args.self.now) c.args.i) (tree_of c.in-Some.array) c.args.j c.in-Some.ensures.value

pub returns-in-None-clause-value : goal.returns-in-None-clause-value
returns-in-None-clause-value c = no_items_of_part (part (tree_of c.args.self.now) c.args.i) c.args.j c.in-None.ensures.value

pub returns-in-Some-clause-kind : goal.returns-in-Some-clause-kind
returns-in-Some-clause-kind c =
    let v = c.args.self.now in
    of_element (schema_of v) (kind_at (schema_of v) (kind_of v) c.args.i) c.in-Some.array c.args.j c.item.result c.in-Some.ensures.kind c.item.ensures.kind
