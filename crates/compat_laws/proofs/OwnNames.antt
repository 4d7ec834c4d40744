-- A definition that a name can mean is the one that its own name means, since no full name stands twice.
use Rattle.std.proofs.Common.{◌≡◌, ℕ, zero, suc, ◌+◌, Bool, true, false, cond, not, ◌||◌, List, [], ◌∷◌, ◌++◌, length, map, position, Option, Some, None, refl, sym, ap, subst, ◌∙◌, arith}
use Rattle.std.specs.Prelude.{◌==◌, if◌then◌else◌, slice_get}
use Rattle.std.specs.List.{list_all, list_any, position_from}
use Rattle.std.specs.Option.{option_map}
use Rattle.std.specs.Str.{bytes_eq}
use Rattle.std.proofs.lemmas.Bool.{and_from, and_parts, eq-eqb, eqb-true, or_left, or_parts, or_right}
use Rattle.std.proofs.lemmas.Iterator.Adapters.{position_from-zero}
use Rattle.std.proofs.lemmas.List.Folds.{list_any-append}
use Rattle.std.proofs.lemmas.Option.{slice_get-map}
use Rattle.std.proofs.lemmas.Slice.Eq.{bytes_eq-Decides}
use Rattle.mj_base.specs.Texts.{are_distinct}
use Rattle.mj_schema.specs.WellFormed.{all_kinds, are_allowed, are_within, has_distinct_ordinals, has_distinct_tags, has_members, has_structs, is_row, named_structs, structs_of_methods}
use Rattle.mj_schema.specs.declared.rows.ConstRow.{ConstRow}
use Rattle.mj_schema.specs.declared.rows.EnumRow.{EnumRow}
use Rattle.mj_schema.specs.declared.rows.InterfaceRow.{InterfaceRow}
use Rattle.mj_schema.specs.declared.rows.RowSort.TheVariants as sorts
use Rattle.mj_schema.specs.declared.rows.StructRow.{StructRow}
use Rattle.mj_schema.specs.declared.rows.UnionRow.{UnionRow}
use Rattle.mj_schema.specs.declared.schema.Schema.{Schema}
use Rattle.compat_model.specs.Verdicts.{is_name, names_of, partner_of, struct_names}
use Rattle.compat_model.proofs.Lists.{by_test}
use Rattle.compat_laws.proofs.Rows.{counts}

-- ## Names that stand once

-- the names by which something can be meant
abbrev meanings : List (Option (List ℕ)) → List (List ℕ)
meanings [] = []
meanings (None ∷ names) = meanings names
meanings (Some name ∷ names) = name ∷ meanings names

-- a name that stands in a list is met there
is_met : (name : List ℕ) (names : List (Option (List ℕ))) (i : ℕ) → slice_get names i ≡ Some (Some name) → list_any (bytes_eq name) (meanings names) ≡ true
is_met name [] i e = absurd cc
is_met name (None ∷ names) zero e = absurd cc
is_met name (None ∷ names) (suc i) e = is_met name names i e
is_met name (Some other ∷ names) zero e =
    let same : name ≡ other = cc in
    or_left (bytes_eq name other) (list_any (bytes_eq name) (meanings names)) ((bytes_eq-Decides name other).1 same)
is_met name (Some other ∷ names) (suc i) e =
    or_right (bytes_eq name other) (list_any (bytes_eq name) (meanings names)) (is_met name names i e)

-- what stands at a place is the first of its name
first_at : (name : List ℕ) (names : List (Option (List ℕ))) (k i : ℕ) → slice_get names i ≡ Some (Some name) → are_distinct (meanings names) ≡ true
    → position_from (is_name name) k names ≡ Some (k + i)
first_at name [] k i e once = absurd cc
first_at name (None ∷ names) k zero e once = absurd cc
first_at name (None ∷ names) k (suc i) e once =
    let place : k + 1 + i ≡ k + suc i = omega arith in first_at name names (k + 1) i e once ∙ ap (λ (n : ℕ). Some n) place
first_at name (Some other ∷ names) k zero e once =
    let same : name ≡ other = cc in
    let place : k ≡ k + 0 = omega arith in
    ap (λ (b : Bool). cond b (Some k) (position_from (is_name name) (k + 1) names)) ((bytes_eq-Decides name other).1 same)
    ∙ ap (λ (n : ℕ). Some n) place
first_at name (Some other ∷ names) k (suc i) e once =
    let parts = and_parts (not (list_any (bytes_eq other) (meanings names))) (are_distinct (meanings names)) once in
    let place : k + 1 + i ≡ k + suc i = omega arith in
    by_test (bytes_eq name other) (λ b. cond b (Some k) (position_from (is_name name) (k + 1) names) ≡ Some (k + suc i))
    (λ is.
    let same : name ≡ other = (bytes_eq-Decides name other).0 is in
    let met : list_any (bytes_eq other) (meanings names) ≡ true =
    subst (λ (n : List ℕ). list_any (bytes_eq n) (meanings names) ≡ true) same (is_met name names i e) in
    let no : false ≡ true = ap not (sym met) ∙ parts.0 in
    absurd cc)
    (λ _. first_at name names (k + 1) i e parts.1 ∙ ap (λ (n : ℕ). Some n) place)

own_place : (name : List ℕ) (names : List (Option (List ℕ))) (i : ℕ) → slice_get names i ≡ Some (Some name) → are_distinct (meanings names) ≡ true
    → position (is_name name) names ≡ Some i
own_place name names i e once =
    let place : 0 + i ≡ i = omega arith in
    position_from-zero (is_name name) names ∙ first_at name names 0 i e once ∙ ap (λ (n : ℕ). Some n) place

-- of rows that can all be meant
all_meant : {A : Type 0} (f : A → List ℕ) (xs : List A) → meanings (map (λ (x : A). Some (f x)) xs) ≡ map f xs
all_meant f [] = refl
all_meant f (x ∷ xs) = ap (λ (l : List (List ℕ)). f x ∷ l) (all_meant f xs)

own_one : {A : Type 0} (f : A → List ℕ) (xs : List A) (i : ℕ) (x : A) → slice_get xs i ≡ Some x → are_distinct (map f xs) ≡ true
    → position (is_name (f x)) (map (λ (y : A). Some (f y)) xs) ≡ Some i
own_one {A} f xs i x e once =
    let named : A → Option (List ℕ) = λ y. Some (f y) in
    own_place (f x) (map named xs) i (slice_get-map named xs i ∙ ap (option_map named) e) (ap are_distinct (all_meant f xs) ∙ once)

-- ## Names of structs

turned : (a b : ℕ) (p q : Bool) → (a == b) ≡ p → (b == a) ≡ q → p ≡ q
turned a b true true h g = refl
turned a b false false h g = refl
turned a b true false h g = sym (eq-eqb b a (sym (eqb-true a b h))) ∙ g
turned a b false true h g = sym h ∙ eq-eqb a b (sym (eqb-true b a g))

any_turned : (n : ℕ) (ms : List ℕ) → list_any (λ (other : ℕ). other == n) ms ≡ list_any (λ (other : ℕ). n == other) ms
any_turned n [] = refl
any_turned n (m ∷ ms) =
    ap (λ (b : Bool). b || list_any (λ (other : ℕ). other == n) ms) (turned m n (m == n) (n == m) refl refl)
    ∙ ap (λ (b : Bool). (n == m) || b) (any_turned n ms)

one_more : (b c : Bool) (name : List ℕ) (names : List (Option (List ℕ))) (texts : List (List ℕ)) → b ≡ c → meanings names ≡ texts
    → meanings ((if b then None else Some name) ∷ names) ≡ (if c then [] else name ∷ []) ++ texts
one_more true true name names texts e same = same
one_more false false name names texts e same = ap (λ (l : List (List ℕ)). name ∷ l) same
one_more true false name names texts e same = absurd cc
one_more false true name names texts e same = absurd cc

-- whether a struct is one of a method
abbrev is_of : List ℕ → ℕ → Bool
is_of methods number = list_any (λ (other : ℕ). other == number) methods

structs_meant : (methods : List ℕ) (k : ℕ) (rows : List StructRow) → meanings (struct_names (is_of methods) k rows) ≡ named_structs methods k rows
structs_meant methods k [] = refl
structs_meant methods k (row ∷ rows) =
    one_more (is_of methods k) (list_any (λ (other : ℕ). k == other) methods) row.name (struct_names (is_of methods) (k + 1) rows)
    (named_structs methods (k + 1) rows) (any_turned k methods) (structs_meant methods (k + 1) rows)

struct_at : (test : ℕ → Bool) (k : ℕ) (rows : List StructRow) (i : ℕ) (row : StructRow) → slice_get rows i ≡ Some row → test (k + i) ≡ false
    → slice_get (struct_names test k rows) i ≡ Some (Some row.name)
struct_at test k [] i row e plain = absurd cc
struct_at test k (r ∷ rows) zero row e plain =
    let same : r ≡ row = cc in
    let place : k ≡ k + 0 = omega arith in
    let as_named : Bool → Option (Option (List ℕ)) = λ b. Some (if b then None else Some r.name) in
    ap as_named (ap test place ∙ plain) ∙ ap (λ (x : StructRow). Some (Some x.name)) same
struct_at test k (r ∷ rows) (suc i) row e plain =
    let place : k + 1 + i ≡ k + suc i = omega arith in struct_at test (k + 1) rows i row e (ap test place ∙ plain)

-- ## Names of a schema

not_met : (b : Bool) → not b ≡ true → b ≡ false
not_met true e = absurd cc
not_met false e = refl

distinct_parts : (xs ys : List (List ℕ)) → are_distinct (xs ++ ys) ≡ true → (are_distinct xs ≡ true) × (are_distinct ys ≡ true)
distinct_parts [] ys e = (refl, e)
distinct_parts (x ∷ xs) ys e =
    let here = and_parts (not (list_any (bytes_eq x) (xs ++ ys))) (are_distinct (xs ++ ys)) e in
    let rest = distinct_parts xs ys here.1 in
    let none = or_parts (list_any (bytes_eq x) xs) (list_any (bytes_eq x) ys)
    (sym (list_any-append (bytes_eq x) xs ys) ∙ not_met (list_any (bytes_eq x) (xs ++ ys)) here.0) in
    (and_from (not (list_any (bytes_eq x) xs)) (are_distinct xs) (ap not none.0) rest.0, rest.1)

module _ (schema : Schema) where
  abbrev methods : List ℕ
  methods = structs_of_methods schema.interfaces

  abbrev structs : List (List ℕ)
  structs = named_structs methods 0 schema.structs

  abbrev unions : List (List ℕ)
  unions = map (λ (row : UnionRow). row.name) schema.unions

  abbrev enums : List (List ℕ)
  enums = map (λ (row : EnumRow). row.name) schema.enums

  abbrev interfaces : List (List ℕ)
  interfaces = map (λ (row : InterfaceRow). row.name) schema.interfaces

  abbrev consts : List (List ℕ)
  consts = map (λ (row : ConstRow). row.name) schema.consts

  all_once : are_distinct (structs ++ (unions ++ (enums ++ (interfaces ++ consts)))) ≡ true
  all_once =
      let one = and_parts (list_all (are_within (counts schema)) (all_kinds schema.structs schema.unions schema.consts)) _ schema.well_formed in
      let two = and_parts (list_all (λ (row : InterfaceRow). list_all (has_structs (length schema.structs)) row.methods) schema.interfaces) _ one.1 in
      let three = and_parts (list_all (is_row (counts schema)) schema.order) _ two.1 in
      let four = and_parts (are_allowed schema.structs schema.unions schema.consts) _ three.1 in
      let five = and_parts (list_all has_distinct_tags schema.unions) _ four.1 in
      let six = and_parts (list_all has_distinct_ordinals schema.interfaces) _ five.1 in
      (and_parts (list_all has_members schema.enums) _ six.1).1

  once : (are_distinct structs ≡ true) × (are_distinct unions ≡ true) × (are_distinct enums ≡ true) × (are_distinct interfaces ≡ true)
  once =
      let one = distinct_parts structs (unions ++ (enums ++ (interfaces ++ consts))) all_once in
      let two = distinct_parts unions (enums ++ (interfaces ++ consts)) one.1 in
      let three = distinct_parts enums (interfaces ++ consts) two.1 in
      (one.0, two.0, three.0, (distinct_parts interfaces consts three.1).0)

  pub own_struct : (i : ℕ) (row : StructRow) → slice_get schema.structs i ≡ Some row → is_of methods i ≡ false
      → partner_of schema sorts.Struct row.name ≡ Some i
  own_struct i row e plain =
      let place : 0 + i ≡ i = omega arith in
      own_place row.name (names_of schema sorts.Struct) i (struct_at (is_of methods) 0 schema.structs i row e (ap (is_of methods) place ∙ plain))
      (ap are_distinct (structs_meant methods 0 schema.structs) ∙ once.0)

  pub own_union : (i : ℕ) (row : UnionRow) → slice_get schema.unions i ≡ Some row → partner_of schema sorts.Union row.name ≡ Some i
  own_union i row e = own_one (λ (r : UnionRow). r.name) schema.unions i row e once.1

  pub own_enum : (i : ℕ) (row : EnumRow) → slice_get schema.enums i ≡ Some row → partner_of schema sorts.Enum row.name ≡ Some i
  own_enum i row e = own_one (λ (r : EnumRow). r.name) schema.enums i row e once.2

  pub own_interface : (i : ℕ) (row : InterfaceRow) → slice_get schema.interfaces i ≡ Some row → partner_of schema sorts.Interface row.name ≡ Some i
  own_interface i row e = own_one (λ (r : InterfaceRow). r.name) schema.interfaces i row e once.3
