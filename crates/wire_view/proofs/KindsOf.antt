-- Of which kind a view is.
use Rattle.std.proofs.Common.{◌≡◌, ℕ, Option, Some, None, refl, sym, ap, subst, ◌∙◌}
use Rattle.std.specs.Prelude.{IfSome, option_and_then}
use Rattle.mj_schema.specs.KindTrees as kinds
use Rattle.mj_schema.specs.KindTrees.{KindTree}
use Rattle.mj_schema.specs.declared.schema.Schema.{Schema}
use Rattle.wire_view.specs.Parts.{kind_at, plain}
use Rattle.wire_view.specs.Views.{IsOf, kind_of, schema_of}
use Rattle.wire_view.specs.declared.view.View.{View}

-- a view that stands on an object of a kind
pub stands : (schema : Schema) (k : KindTree) (v : View) → schema_of v ≡ schema → kind_of v ≡ k → plain k ≡ k → IsOf schema (Some k) v
stands schema k v same is whole = record { schema_is = same; kind = ap (λ (l : KindTree). Some l) (is ∙ sym whole) }

-- it is of each kind that differs in nothing else than what only a field says
pub like : (schema : Schema) (k l : KindTree) (v : View) → plain k ≡ plain l → IsOf schema (Some k) v → IsOf schema (Some l) v
like schema k l v same h = record { schema_is = h.schema_is; kind = h.kind ∙ ap (λ (m : KindTree). Some m) same }

pub like_part : (schema : Schema) (k l : KindTree) (o : Option View) → plain k ≡ plain l → IfSome o (IsOf schema (Some k)) → IfSome o (IsOf schema (Some l))
like_part schema k l None same h = tt
like_part schema k l (Some v) same h = like schema k l v same h

-- a part of the kind that is there
pub there : (schema : Schema) (l : Option KindTree) (k : KindTree) (o : Option View) → l ≡ Some k → IfSome o (IsOf schema (Some k)) → IfSome o (IsOf schema l)
there schema l k o is h = subst (λ (m : Option KindTree). IfSome o (IsOf schema m)) (sym is) h

-- what is no object is of no kind
pub no_object : (schema : Schema) (of : Option KindTree) (o : Option View) → o ≡ None → IfSome o (IsOf schema of)
no_object schema of o is = subst (λ (p : Option View). IfSome p (IsOf schema of)) (sym is) tt

pub same_object : (schema : Schema) (of : Option KindTree) (o p : Option View) → o ≡ p → IfSome p (IsOf schema of) → IfSome o (IsOf schema of)
same_object schema of o p is h = subst (λ (q : Option View). IfSome q (IsOf schema of)) (sym is) h

-- the kinds of its parts go by no more than what it says
kind_at_plain : (schema : Schema) (k : KindTree) (i : ℕ) → kind_at schema (plain k) i ≡ kind_at schema k i
kind_at_plain schema (kinds.ArrayKind of n nullable) i = refl
kind_at_plain schema (kinds.MapKind key one nullable) i = refl
kind_at_plain schema (kinds.StructKind number nullable) i = refl
kind_at_plain schema (kinds.UnionKind number nullable) i = refl
kind_at_plain schema k i = refl

-- the kind of an element of an array that is a part
pub of_element : (schema : Schema) (of : Option KindTree) (array : View) (j : ℕ) (o : Option View) → IsOf schema of array
    → IfSome o (IsOf (schema_of array) (kind_at (schema_of array) (kind_of array) j))
    → IfSome o (IsOf schema (option_and_then (λ (k : KindTree). kind_at schema k j) of))
of_element schema None array j o is h = let no : Some (kind_of array) ≡ None = is.kind in absurd cc
of_element schema (Some k) array j o is h =
    let some : Some (kind_of array) ≡ Some (plain k) = is.kind in
    let kinds-are : kind_of array ≡ plain k = cc in
    let whole : kind_at (schema_of array) (kind_of array) j ≡ kind_at schema k j =
    ap (λ (s : Schema). kind_at s (kind_of array) j) is.schema_is ∙ ap (λ (l : KindTree). kind_at schema l j) kinds-are ∙ kind_at_plain schema k j in
    subst (λ (s : Schema). IfSome o (IsOf s (kind_at schema k j))) is.schema_is
    (subst (λ (l : Option KindTree). IfSome o (IsOf (schema_of array) l)) whole h)
