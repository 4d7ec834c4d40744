use Rattle.std.proofs.Common.{◌+◌, None, false, ap, arith}
use Rattle.mj_schema.specs.KindTrees.{ArrayKind, kind_view}
use Rattle.wire_model.specs.Values.{value, pointer_value}
use Rattle.wire_view.specs.Parts.{list_kind}
use Rattle.wire_view.proofs.Members.{first_list, second_list, no_third}
use Rattle.wire_view.proofs.view.View.list_place.Goals as goal

pub returns-then-i-eq0 : goal.returns-then-i-eq0
returns-then-i-eq0 c =
    let v = c.args.self.now in
    let next = value v.left v.schema.now v.bytes.now in
    record {
      room = omega (arith, c.requires.within);
      readable = c.requires.keys;
      is = first_list (pointer_value next v.bytes.now (v.at + 8) (ArrayKind (kind_view c.args.key.now) None false))
          (pointer_value next v.bytes.now (v.at + 16) (ArrayKind (kind_view c.args.one.now) None false)) c.args.i c.if-i-eq0.true;
      kind = ap (list_kind (kind_view c.args.key.now) (kind_view c.args.one.now)) c.if-i-eq0.true;
    }

pub returns-then-i-eq1 : goal.returns-then-i-eq1
returns-then-i-eq1 c =
    let v = c.args.self.now in
    let next = value v.left v.schema.now v.bytes.now in
    record {
      room = omega (arith, c.requires.within);
      readable = c.requires.values;
      is = second_list (pointer_value next v.bytes.now (v.at + 8) (ArrayKind (kind_view c.args.key.now) None false))
          (pointer_value next v.bytes.now (v.at + 16) (ArrayKind (kind_view c.args.one.now) None false)) c.args.i c.if-i-eq1.true;
      kind = ap (list_kind (kind_view c.args.key.now) (kind_view c.args.one.now)) c.if-i-eq1.true;
    }

pub returns : goal.returns
returns c =
    let v = c.args.self.now in
    let next = value v.left v.schema.now v.bytes.now in
    no_third (pointer_value next v.bytes.now (v.at + 8) (ArrayKind (kind_view c.args.key.now) None false))
    (pointer_value next v.bytes.now (v.at + 16) (ArrayKind (kind_view c.args.one.now) None false)) c.args.i c.if-i-eq0.false c.if-i-eq1.false
