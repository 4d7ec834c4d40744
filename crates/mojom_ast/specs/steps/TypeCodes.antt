-- A type as the list of its parts, what is inside before what is around it. Rattle asks it of a type that contracts see
-- as a tree: two trees of the same parts are one, and so are two types that are seen as one tree.
use Rattle.std.specs.Prelude.{◌≡◌, Bool, Option, None, List, [], ◌∷◌, ◌++◌, refl}
use Rattle.std.proofs.Common.{ap, sym, ◌∙◌, append_assoc}
use Rattle.std.proofs.lemmas.List.{append-nil}
use Rattle.std.specs.Coded.{Coded, code_by, coded×, coded_bool}
use Rattle.mojom_ast.specs.declared.names.Name.{Name}
use Rattle.mojom_ast.specs.declared.names.Number.{Number}
use Rattle.mojom_ast.specs.declared.types.HandleSort.{HandleSort}
use Rattle.mojom_ast.specs.declared.types.PendingSort.{PendingSort}
use Rattle.mojom_ast.specs.TypeTrees.{BaseTree, TypeTree, Named, ArrayOf, MapOf, HandleOf, PendingOf}

-- a part of a type, without what stands inside it
pub data Part : Type 0 where
  NamePart : Name → Part
  ArrayPart : Bool → Option Number → Part
  MapPart : Bool → Bool → Part
  HandlePart : Option HandleSort → Part
  PendingPart : PendingSort → Name → Part

-- the parts of a type
abbrev pub parts_of : BaseTree → List Part
parts_of (Named n) = NamePart n ∷ []
parts_of (ArrayOf of n c) = parts_of of ++ ArrayPart n c ∷ []
parts_of (MapOf k n v m) = parts_of k ++ (parts_of v ++ MapPart n m ∷ [])
parts_of (HandleOf sort) = HandlePart sort ∷ []
parts_of (PendingOf sort name) = PendingPart sort name ∷ []

-- an array of the last type that was built
abbrev pub array_on : Bool → Option Number → List BaseTree → List BaseTree
array_on n c [] = []
array_on n c (b ∷ bs) = ArrayOf b n c ∷ bs

-- a map from the last type that was built, to a given one
abbrev pub map_over : Bool → Bool → BaseTree → List BaseTree → List BaseTree
map_over n m v [] = []
map_over n m v (k ∷ bs) = MapOf k n v m ∷ bs

-- a map from the last but one type that was built, to the last
abbrev pub map_on : Bool → Bool → List BaseTree → List BaseTree
map_on n m [] = []
map_on n m (v ∷ bs) = map_over n m v bs

-- one part more
abbrev pub part_on : Part → List BaseTree → List BaseTree
part_on (NamePart n) bs = Named n ∷ bs
part_on (ArrayPart n c) bs = array_on n c bs
part_on (MapPart n m) bs = map_on n m bs
part_on (HandlePart sort) bs = HandleOf sort ∷ bs
part_on (PendingPart sort name) bs = PendingOf sort name ∷ bs

-- the types of parts, the last one first, before those that there were
abbrev pub built : List Part → List BaseTree → List BaseTree
built [] bs = bs
built (p ∷ ps) bs = built ps (part_on p bs)

-- the last type that was built
abbrev pub first_tree : List BaseTree → BaseTree
first_tree [] = HandleOf None
first_tree (b ∷ bs) = b

-- what is built of a type's parts is the type
pub built_parts : (b : BaseTree) (ps : List Part) (bs : List BaseTree) → built (parts_of b ++ ps) bs ≡ built ps (b ∷ bs)
built_parts (Named n) ps bs = refl
built_parts (ArrayOf of n c) ps bs =
    ap (λ (l : List Part). built l bs) (append_assoc (parts_of of) (ArrayPart n c ∷ []) ps)
    ∙ built_parts of (ArrayPart n c ∷ ps) bs
built_parts (MapOf k n v m) ps bs =
    ap (λ (l : List Part). built l bs) (append_assoc (parts_of k) (parts_of v ++ MapPart n m ∷ []) ps)
    ∙ built_parts k ((parts_of v ++ MapPart n m ∷ []) ++ ps) bs
    ∙ ap (λ (l : List Part). built l (k ∷ bs)) (append_assoc (parts_of v) (MapPart n m ∷ []) ps)
    ∙ built_parts v (MapPart n m ∷ ps) (k ∷ bs)
built_parts (HandleOf sort) ps bs = refl
built_parts (PendingOf sort name) ps bs = refl

-- a type's parts give it back
pub same_tree : (b : BaseTree) → first_tree (built (parts_of b) []) ≡ b
same_tree b = ap (λ (l : List Part). first_tree (built l [])) (sym (append-nil (parts_of b))) ∙ ap first_tree (built_parts b [] [])

-- the code of a type: its parts, and whether `?` stands
abbrev pub type_code : Coded (List Part) → Coded TypeTree
type_code parts =
    code_by
    (List Part × Bool)
    (coded× parts coded_bool)
    (λ t. (parts_of t.base, t.nullable))
    (λ p. record { base = first_tree (built p.0 []); nullable = p.1 })
    (λ t. ap (λ (b : BaseTree). record { base = b; nullable = t.nullable }) (same_tree t.base))
