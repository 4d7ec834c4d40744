use Rattle.std.proofs.Common.{Some, None, cond, sym, ap, ◌∙◌}
use Rattle.wire_view.specs.Ons.{on_kind}
use Rattle.wire_view.specs.Parts.{is_struct}
use Rattle.wire_view.specs.declared.on.On.{On}
use Rattle.wire_view.specs.declared.view.View.{View}
use Rattle.wire_view.proofs.struct_view.StructView.from_view.Goals as goal

pub new-requires : goal.new-requires
new-requires c = ap (λ (o : On). is_struct (on_kind o)) c.in-Struct.is

pub returns-in-Struct : goal.returns-in-Struct
returns-in-Struct c =
    ap (λ (w : View). Some w) c.new.ensures ∙ ap (λ (o : On). cond (is_struct (on_kind o)) (Some c.args.view.now) None) (sym c.in-Struct.is)

pub returns-in-Array : goal.returns-in-Array
returns-in-Array c = ap (λ (o : On). cond (is_struct (on_kind o)) (Some c.args.view.now) None) (sym c.in-Array.is)

pub returns-in-Map : goal.returns-in-Map
returns-in-Map c = ap (λ (o : On). cond (is_struct (on_kind o)) (Some c.args.view.now) None) (sym c.in-Map.is)

pub returns-in-Union : goal.returns-in-Union
returns-in-Union c = ap (λ (o : On). cond (is_struct (on_kind o)) (Some c.args.view.now) None) (sym c.in-Union.is)
