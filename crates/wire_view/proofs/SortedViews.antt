-- Views of a kind that is wanted.
use Rattle.std.proofs.Common.{◌≡◌, ℕ, Bool, true, false, cond, Option, Some, None, refl, ap, ◌∙◌}
use Rattle.std.specs.Prelude.{IfSome, option_and_then}
use Rattle.std.specs.Option.{option_map}
use Rattle.mj_schema.specs.KindTrees as kinds
use Rattle.mj_schema.specs.KindTrees.{KindTree}
use Rattle.mj_schema.specs.declared.schema.Schema.{Schema}
use Rattle.wire_model.specs.Trees.{Tree}
use Rattle.wire_view.specs.Ons.{on_kind}
use Rattle.wire_view.specs.Parts.{held, is_array, is_struct, of_kind, plain}
use Rattle.wire_view.specs.SortedViews.{only}
use Rattle.wire_view.specs.Views.{IsOf, kind_of, tree_of}
use Rattle.wire_view.specs.declared.on.On.{On}
use Rattle.wire_view.specs.declared.on.On.TheVariants as ons
use Rattle.wire_view.specs.declared.view.View.{View}

-- a view of a struct stands on one
pub struct_on : (on : On) → is_struct (on_kind on) ≡ true → (number : ℕ) × (on ≡ ons.Struct number)
struct_on (ons.Struct number) e = (number, refl)
struct_on (ons.Array of) e = absurd cc
struct_on (ons.Map key one) e = absurd cc
struct_on (ons.Union number) e = absurd cc

-- what holds no object holds none of a kind that is wanted
none_left : (b : Bool) (found : Option Tree) → None ≡ option_and_then held found → None ≡ option_and_then held (cond b found None)
none_left true found e = e
none_left false found e = refl

pub none_wanted : (wanted : KindTree → Bool) (of : Option KindTree) (found : Option Tree) → None ≡ option_and_then held found
    → None ≡ option_and_then held (of_kind wanted of found)
none_wanted wanted None found e = refl
none_wanted wanted (Some k) found e = none_left (wanted k) found e

-- what a kind says of a field alone makes it neither a struct nor an array
pub array_plain : (k : KindTree) → is_array (plain k) ≡ is_array k
array_plain (kinds.ArrayKind of n nullable) = refl
array_plain (kinds.MapKind key one nullable) = refl
array_plain (kinds.StructKind number nullable) = refl
array_plain (kinds.UnionKind number nullable) = refl
array_plain k = refl

pub struct_plain : (k : KindTree) → is_struct (plain k) ≡ is_struct k
struct_plain (kinds.ArrayKind of n nullable) = refl
struct_plain (kinds.MapKind key one nullable) = refl
struct_plain (kinds.StructKind number nullable) = refl
struct_plain (kinds.UnionKind number nullable) = refl
struct_plain k = refl

-- a view that was found is one of a kind that is wanted where the part is
by_kind : (b : Bool) (v : View) (found : Option Tree) → Some (tree_of v) ≡ option_and_then held found
    → option_map tree_of (cond b (Some v) None) ≡ option_and_then held (cond b found None)
by_kind true v found e = e
by_kind false v found e = refl

of_wanted : (wanted : KindTree → Bool) → ((k : KindTree) → wanted (plain k) ≡ wanted k) → (schema : Schema) (of : Option KindTree)
    (found : Option Tree) (o : Option View) → option_map tree_of o ≡ option_and_then held found → IfSome o (IsOf schema of)
    → option_map tree_of (option_and_then (only wanted) o) ≡ option_and_then held (of_kind wanted of found)
of_wanted wanted plainly schema of found None e is = none_wanted wanted of found e
of_wanted wanted plainly schema None found (Some v) e is =
    let whole : IsOf schema None v = is in
    let no : Some (kind_of v) ≡ None = whole.kind in
    absurd cc
of_wanted wanted plainly schema (Some k) found (Some v) e is =
    let whole : IsOf schema (Some k) v = is in
    let some : Some (kind_of v) ≡ Some (plain k) = whole.kind in
    let kinds-are : kind_of v ≡ plain k = cc in
    let same : wanted (kind_of v) ≡ wanted k = ap wanted kinds-are ∙ plainly k in
    ap (λ (b : Bool). option_map tree_of (cond b (Some v) None)) same ∙ by_kind (wanted k) v found e

module _ {W : Type 0} (itself : W → View) where
  seen_itself : (r : Option W) → option_map (λ (w : W). tree_of (itself w)) r ≡ option_map tree_of (option_map itself r)
  seen_itself None = refl
  seen_itself (Some w) = refl

  -- the view of a part, if it is of a kind that is wanted
  pub wanted_views : (wanted : KindTree → Bool) → ((k : KindTree) → wanted (plain k) ≡ wanted k) → (schema : Schema) (of : Option KindTree)
      (found : Option Tree) (o : Option View) (r : Option W) → option_map itself r ≡ option_and_then (only wanted) o
      → option_map tree_of o ≡ option_and_then held found → IfSome o (IsOf schema of)
      → option_map (λ (w : W). tree_of (itself w)) r ≡ option_and_then held (of_kind wanted of found)
  wanted_views wanted plainly schema of found o r h e is =
      seen_itself r ∙ ap (option_map tree_of) h ∙ of_wanted wanted plainly schema of found o e is
