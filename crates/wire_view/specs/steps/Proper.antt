-- That fields are the same has one proof at most: each view owes this of its ghost field `kept`, which is why it stands here.
use Rattle.std.specs.Prelude.{◌≡◌, List}
use Rattle.std.specs.Coded.{Coded-set, codes}
use Rattle.std.proofs.Props.{props}
use Rattle.mj_schema.specs.KindTrees.{KindTree}
use Rattle.mj_schema.specs.declared.rows.FieldRow.{FieldRow}
use Rattle.mj_schema.specs.steps.KindCodes.{kind_code}

-- that kinds are the same
kind-set : IsSet KindTree
kind-set = Coded-set (kind_code (hlevel codes))

-- the proof that the ghost field `kept` of each view names
pub fields-prop : (xs ys : List FieldRow) → IsProp (xs ≡ ys)
fields-prop xs ys = hlevel (props, kind-set)
