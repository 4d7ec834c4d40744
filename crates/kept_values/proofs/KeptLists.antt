-- What a history keeps of values, and of lists of them, stands for the values.
use Rattle.std.proofs.Common.{◌≡◌, ℕ, ◌+◌, ◌<◌, ◌≤◌, ℤ, pos, true, List, [], ◌∷◌, ◌++◌, length, take, get_or, map, Some, None, Vec, Global}
use Rattle.std.proofs.Common.{sym, ap, subst, ◌∙◌, arith, rules}
use Rattle.std.specs.Prelude.{Option, Result, IfOk, IfSome, ◌==◌}
use Rattle.std.proofs.lemmas.Bool.Decides.{nat_tests}
use Rattle.std.proofs.lemmas.List.{map_more, map_push, take_all}
use Rattle.wire_model.specs.declared.value.Value.{Value, the_lemmas}
use Rattle.wire_model.specs.declared.value.Value.TheVariants as values
use Rattle.wire_model.specs.Trees.{Tree, Whole, Text, Items, Fields, trees, view}
use Rattle.handle_table.specs.declared.thing.Thing.{Thing}
use Rattle.kept_values.specs.KeptTrees.{byte_tree, part_tree}
use Rattle.kept_values.specs.declared.parts.Part.{Part}
use Rattle.kept_values.specs.declared.parts.Part.TheVariants as parts

-- lists that stand for the same, with one more on each side
pub map_grown : {X Y Z : Type 0} (f : X → Z) (g : Y → Z) (xs : List X) (ys : List Y) (i : ℕ) (x : X) (d : Y) (more : List X)
    → i < length ys → f x ≡ g (get_or ys i d) → more ≡ xs ++ x ∷ [] → map f xs ≡ map g (take i ys) → map f more ≡ map g (take (i + 1) ys)
map_grown f g xs ys i x d more lt same is so_far =
    ap (map f) is
    ∙ (map_push f xs x
    ∙ (ap (λ ts. ts ++ f x ∷ []) so_far
    ∙ (ap (λ t. map g (take i ys) ++ t ∷ []) same
    ∙ sym (map_more g ys i d lt))))

-- the same, where the one more was read
pub map_grown_read : {X Y Z : Type 0} (f : X → Z) (g : Y → Z) (xs : List X) (ys : List Y) (i : ℕ) (x : X) (y : Y) (more : List X)
    → i < length ys → y ≡ get_or ys i y → f x ≡ g y → more ≡ xs ++ x ∷ [] → map f xs ≡ map g (take i ys) → map f more ≡ map g (take (i + 1) ys)
map_grown_read f g xs ys i x y more lt here same is so_far = map_grown f g xs ys i x y more lt (same ∙ ap g here) is so_far

-- and all of them
pub map_whole : {X Y Z : Type 0} (f : X → Z) (g : Y → Z) (xs : List X) (ys : List Y) (i : ℕ)
    → length ys ≤ i → map f xs ≡ map g (take i ys) → map f xs ≡ map g ys
map_whole f g xs ys i le so_far = so_far ∙ ap (map g) (take_all i ys le)

-- the tree of a number
pub view_whole : (n : ℤ) → view (values.Whole n) ≡ Whole n
view_whole n = search (rules, the_lemmas)

-- of a string
pub view_text : (bytes : Vec ℕ Global) → view (values.Text bytes) ≡ Text bytes.items
view_text bytes = search (rules, the_lemmas)

-- of an array
pub view_list : (vs : Vec Value Global) → view (values.List vs) ≡ Items (trees (map view vs.items))
view_list vs = search (rules, the_lemmas)

-- of a struct
pub view_struct : (vs : Vec Value Global) → view (values.Struct vs) ≡ Fields (trees (map view vs.items))
view_struct vs = search (rules, the_lemmas)

-- the byte that a value is
pub byte_found : (v : Value) (n m : ℤ) (found : Option ℕ) → v ≡ values.Whole n → IfSome found (λ byte. pos byte ≡ m) → m ≡ n
    → IfSome found (λ byte. byte_tree byte ≡ view v)
byte_found v n m None is e same = tt
byte_found v n m (Some byte) is e same = ap Whole (e ∙ same) ∙ sym (ap view is ∙ view_whole n)

-- the part that is kept of a number
pub number_kept : (v : Value) (n m : ℤ) (found : Option Part) → v ≡ values.Whole n → IfSome found (λ part. part_tree part ≡ Whole m) → m ≡ n
    → IfSome found (λ part. part_tree part ≡ view v)
number_kept v n m None is e same = tt
number_kept v n m (Some part) is e same = e ∙ (ap Whole same ∙ sym (ap view is ∙ view_whole n))

-- the bytes that are kept of an array
pub bytes_kept : (found : Option (Vec ℕ Global)) (bytes : Vec ℕ Global) (ts : List Tree) → found ≡ Some bytes
    → IfSome found (λ those. map byte_tree those.items ≡ ts) → Items (trees (map byte_tree bytes.items)) ≡ Items (trees ts)
bytes_kept found bytes ts is e =
    let those : map byte_tree bytes.items ≡ ts = subst (λ (o : Option (Vec ℕ Global)). IfSome o (λ those. map byte_tree those.items ≡ ts)) is e in
    ap (λ (us : List Tree). Items (trees us)) those

-- one tree for another, of a part that may be kept
pub tree_kept : {E : Type 0} (r : Result (Option Part) E) (t u : Tree) → t ≡ u → IfOk r (λ found. IfSome found (λ part. part_tree part ≡ t))
    → IfOk r (λ found. IfSome found (λ part. part_tree part ≡ u))
tree_kept r t u e h = subst (λ (x : Tree). IfOk r (λ found. IfSome found (λ part. part_tree part ≡ x))) e h

-- the number that a part is kept of
pub whole_again : (part : Part) (n m : ℤ) (t : Tree) → part ≡ parts.Whole n → t ≡ Whole m → m ≡ n → t ≡ part_tree part
whole_again part n m t is e same = e ∙ (ap Whole same ∙ ap part_tree (sym is))

-- a list of no length is empty
pub nothing : (things read : List Thing) → read ≡ things → (length read == 0) ≡ true → [] ≡ things
nothing things [] e none = e
nothing things (thing ∷ read) e none = let z : length (thing ∷ read) ≡ 0 = grind (arith, nat_tests) in absurd (omega (arith, z))
