-- What objects are, and what they aren't.
use Rattle.std.proofs.Common.{◌≡◌, ℕ, Bool, true, false, cond, Option, Some, None, refl, sym, ap, inl, inr, ◌⊎◌, subst, ◌∙◌}
use Rattle.std.specs.Prelude.{option_and_then}
use Rattle.wire_model.specs.Trees.{Tree, Trees, Fields, Items, Pairs, Member, Unknown}
use Rattle.wire_view.specs.Parts.{part, number_of, version_of, text_of, is_object, held, item_of, tag_of}
use Rattle.wire_view.specs.Views.{tree_of}
use Rattle.wire_view.specs.declared.view.View.{View}

object_number : (t : Tree) → is_object t ≡ true → None ≡ number_of t
object_number (Fields ts) e = refl
object_number (Items ts) e = refl
object_number (Pairs ts) e = refl
object_number (Member tag t) e = refl
object_number (Unknown tag) e = refl
object_number t e = absurd cc

object_version : (t : Tree) → is_object t ≡ true → None ≡ version_of t
object_version (Fields ts) e = refl
object_version (Items ts) e = refl
object_version (Pairs ts) e = refl
object_version (Member tag t) e = refl
object_version (Unknown tag) e = refl
object_version t e = absurd cc

object_text : (t : Tree) → is_object t ≡ true → None ≡ text_of t
object_text (Fields ts) e = refl
object_text (Items ts) e = refl
object_text (Pairs ts) e = refl
object_text (Member tag t) e = refl
object_text (Unknown tag) e = refl
object_text t e = absurd cc

-- an object is no number, no remote and no string
pub no_number : (v : View) → None ≡ number_of (tree_of v)
no_number v = object_number (tree_of v) v.whole

pub no_version : (v : View) → None ≡ version_of (tree_of v)
no_version v = object_version (tree_of v) v.whole

pub no_text : (v : View) → None ≡ text_of (tree_of v)
no_text v = object_text (tree_of v) v.whole

pub no_leaf : (v : View) → is_object (tree_of v) ≡ false → ⊥
no_leaf v e = let clash : true ≡ false = sym v.whole ∙ e in absurd cc

-- it is held where it is looked for
pub is_held : (v : View) → Some (tree_of v) ≡ held (tree_of v)
is_held v = ap (λ (b : Bool). cond b (Some (tree_of v)) None) (sym v.whole)

-- the elements of an array are its parts
pub array_items : (t : Tree) (ts : Trees) (j : ℕ) → t ≡ Items ts → option_and_then held (part t j) ≡ item_of t j
array_items t ts j e = subst (λ (u : Tree). option_and_then held (part u j) ≡ item_of u j) (sym e) refl

-- no other object has elements
pub struct_items : (t : Tree) (ts : Trees) (j : ℕ) → t ≡ Fields ts → None ≡ item_of t j
struct_items t ts j e = ap (λ (u : Tree). item_of u j) (sym e)

pub map_items : (t : Tree) (ts : Trees) (j : ℕ) → t ≡ Pairs ts → None ≡ item_of t j
map_items t ts j e = ap (λ (u : Tree). item_of u j) (sym e)

pub union_items : (t : Tree) (tag j : ℕ) → (t ≡ Unknown tag) ⊎ ((u : Tree) × (t ≡ Member tag u)) → None ≡ item_of t j
union_items t tag j (inl e) = ap (λ (u : Tree). item_of u j) (sym e)
union_items t tag j (inr m) = ap (λ (u : Tree). item_of u j) (sym m.1)

-- a part that is an object leads to its elements
held_items : (u t : Tree) (j : ℕ) → Some t ≡ held u → item_of t j ≡ item_of u j
held_items u t j e = of (is_object u) e
  where
    of : (b : Bool) → Some t ≡ cond b (Some u) None → item_of t j ≡ item_of u j
    of true is = let same : t ≡ u = cc in ap (λ (x : Tree). item_of x j) same
    of false is = absurd cc

pub items_of_part : (o : Option Tree) (t : Tree) (j : ℕ) → Some t ≡ option_and_then held o
    → item_of t j ≡ option_and_then (λ (array : Tree). item_of array j) o
items_of_part None t j e = absurd cc
items_of_part (Some u) t j e = held_items u t j e

-- what isn't one has none
no_items : (u : Tree) (j : ℕ) → None ≡ held u → None ≡ item_of u j
no_items (Items ts) j e = absurd cc
no_items t j e = refl

pub no_items_of_part : (o : Option Tree) (j : ℕ) → None ≡ option_and_then held o → None ≡ option_and_then (λ (array : Tree). item_of array j) o
no_items_of_part None j e = refl
no_items_of_part (Some u) j e = no_items u j e

-- what is no union has no tag
pub struct_tag : (t : Tree) (ts : Trees) → t ≡ Fields ts → None ≡ tag_of t
struct_tag t ts e = ap tag_of (sym e)
