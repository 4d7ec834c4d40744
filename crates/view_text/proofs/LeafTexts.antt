-- The texts of values that hold no values.
use Rattle.std.proofs.Common.{◌≡◌, Bool, true, false, cond, Some, None, refl}
use Rattle.std.specs.Prelude.{Result, Ok, Err, OnOk}
use Rattle.mj_schema.specs.KindTrees.{KindTree}
use Rattle.mj_schema.specs.declared.schema.Schema.{Schema}
use Rattle.value_text.specs.Spelling.{spell}
use Rattle.wire_model.specs.Trees.{Tree, Flag, Whole, Text, Items, Pairs, Fields, Member, Unknown, Handle, Remote, Endpoint, EndpointRemote, Null}
use Rattle.wire_view.specs.Parts.{is_object, held}

-- the same whatever the kind
pub leaf_spelled : (schema : Schema) (t : Tree) → is_object t ≡ false → (k l : KindTree) → spell schema k t ≡ spell schema l t
unfolding spell
leaf_spelled schema Null e k l = refl
leaf_spelled schema (Flag b) e k l = refl
leaf_spelled schema (Whole n) e k l = refl
leaf_spelled schema (Text bs) e k l = refl
leaf_spelled schema (Handle i) e k l = refl
leaf_spelled schema (Remote i v) e k l = refl
leaf_spelled schema (Endpoint i) e k l = refl
leaf_spelled schema (EndpointRemote i v) e k l = refl
leaf_spelled schema (Items ts) e k l = absurd cc
leaf_spelled schema (Pairs ts) e k l = absurd cc
leaf_spelled schema (Fields ts) e k l = absurd cc
leaf_spelled schema (Member tag t) e k l = absurd cc
leaf_spelled schema (Unknown tag) e k l = absurd cc

-- what is held is the value
pub held_is : (t u : Tree) → Some t ≡ held u → t ≡ u
held_is t u e = of (is_object u) e
  where
    of : (b : Bool) → Some t ≡ cond b (Some u) None → t ≡ u
    of true is = cc
    of false is = absurd cc

-- what isn't is no object
pub not_held : (u : Tree) → None ≡ held u → is_object u ≡ false
not_held u e = of (is_object u) e
  where
    of : (b : Bool) → None ≡ cond b (Some u) None → b ≡ false
    of true is = absurd cc
    of false is = refl

-- one fact for another, where it went well
pub on_ok : {A E : Type 0} (P Q : Type 0) (r : Result A E) → (P → Q) → OnOk r P → OnOk r Q
on_ok P Q (Ok x) f h = f h
on_ok P Q (Err e) f h = tt
