use Rattle.std.proofs.Common.{Some, None, cond, sym, ap, ◌∙◌}
use Rattle.wire_view.specs.Ons.{on_kind}
use Rattle.wire_view.specs.Parts.{is_array}
use Rattle.wire_view.specs.declared.on.On.{On}
use Rattle.wire_view.specs.declared.view.View.{View}
use Rattle.wire_view.proofs.array_view.ArrayView.from_view.Goals as goal

pub new-requires-clause-stands : goal.new-requires-clause-stands
new-requires-clause-stands c = ap (λ (o : On). is_array (on_kind o)) c.in-Array.is

pub new-requires-clause-counted : goal.new-requires-clause-counted
new-requires-clause-counted c = c.len.ensures

pub returns-in-Array : goal.returns-in-Array
returns-in-Array c =
    ap (λ (w : View). Some w) c.new.ensures ∙ ap (λ (o : On). cond (is_array (on_kind o)) (Some c.args.view.now) None) (sym c.in-Array.is)

pub returns-in-Struct : goal.returns-in-Struct
returns-in-Struct c = ap (λ (o : On). cond (is_array (on_kind o)) (Some c.args.view.now) None) (sym c.in-Struct.is)

pub returns-in-Map : goal.returns-in-Map
returns-in-Map c = ap (λ (o : On). cond (is_array (on_kind o)) (Some c.args.view.now) None) (sym c.in-Map.is)

pub returns-in-Union : goal.returns-in-Union
returns-in-Union c = ap (λ (o : On). cond (is_array (on_kind o)) (Some c.args.view.now) None) (sym c.in-Union.is)
