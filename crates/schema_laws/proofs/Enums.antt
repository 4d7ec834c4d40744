-- Where nothing is refused of an enum, its row has members, and its default is the number of one.
use Rattle.std.proofs.Common.{◌≡◌, ℕ, ℤ, List, [], ◌∷◌, ◌++◌, map, length, drop, refl, subst, arith}
use Rattle.std.specs.Prelude.{Bool, true, false, ◌||◌, nat_lt, find, filter, Option, Some, None, if◌then◌else◌}
use Rattle.std.specs.List.{list_any}
use Rattle.std.specs.Option.{option_map, option_map_or}
use Rattle.std.specs.Ordering.{int_eq}
use Rattle.std.specs.Cmp.Derive.{both_true}
use Rattle.std.proofs.lemmas.Bool.{lt-ltb}
use Rattle.std.proofs.lemmas.Cmp.{int_eq_equiv}
use Rattle.std.proofs.lemmas.Option.{same_Some}
use Rattle.mojom_ast.specs.declared.attributes.Attribute.{Attribute}
use Rattle.mojom_ast.specs.declared.definitions.Enum.{Enum}
use Rattle.mojom_ast.specs.declared.definitions.Enumerator.{Enumerator}
use Rattle.mojom_files.specs.Causes.{EmptyEnum}
use Rattle.mojom_files.specs.Refusals.{where_true}
use Rattle.mj_schema.specs.WellFormed.{has_members}
use Rattle.mj_schema.specs.declared.rows.MemberRow.{MemberRow}
use Rattle.mj_base.specs.declared.limits.TheConstants.{MAX_ENUMERATORS}
use Rattle.kind_scope.specs.Scopes.{Scope, refused}
use Rattle.kind_refusals.specs.KindRefusals.{is_empty, refused_count, refused_default, refused_enum}
use Rattle.kind_scope.specs.Attributes.{is_default}
use Rattle.draft_rows.specs.Rows.{Valued, valued, member_row, default_in, enum_row}
use Rattle.schema_laws.proofs.Quiet.{both_empty, none_where}

-- the number is that of one of these
abbrev is_number : List Valued → ℤ → Bool
is_number ones number = list_any (λ (m : MemberRow). int_eq m.number number) (map member_row ones)

found_one : (one : Valued) (ones : List Valued) (v : Valued) (test : Bool) (rest : Option Valued) → (rest ≡ Some v → is_number ones v.number ≡ true)
    → (if test then Some one else rest) ≡ Some v → is_number (one ∷ ones) v.number ≡ true
found_one one ones v true rest more e =
    let same : one ≡ v = same_Some one v e in
    let equal : int_eq one.number v.number ≡ true =
    subst (λ (w : Valued). int_eq one.number w.number ≡ true) same (int_eq_equiv.refl one.number) in
    rw equal refl
found_one one ones v false rest more e = or_back (int_eq one.number v.number) (is_number ones v.number) (more e)
  where
    or_back : (b c : Bool) → c ≡ true → (b || c) ≡ true
    or_back true c e = refl
    or_back false c e = e

-- the number of what is found among these is that of one of them
found_number : (test : Valued → Bool) (ones : List Valued) (v : Valued) → find test ones ≡ Some v → is_number ones v.number ≡ true
found_number test [] v e = absurd cc
found_number test (one ∷ ones) v e = found_one one ones v (test one) (find test ones) (found_number test ones v) e

default_number : (ones : List Valued) → option_map_or (is_number ones) (default_in ones) true ≡ true
default_number ones = go (find (λ (v : Valued). is_default v.enumerator) ones) refl
  where
    go : (found : Option Valued) → find (λ (v : Valued). is_default v.enumerator) ones ≡ found
        → option_map_or (is_number ones) (option_map (λ (v : Valued). v.number) found) true ≡ true
    go None e = refl
    go (Some v) e = found_number (λ (w : Valued). is_default w.enumerator) ones v e

some_members : (scope : Scope) (es : List Enumerator) → is_empty es ≡ false → nat_lt 0 (length (map member_row (valued scope es))) ≡ true
some_members scope [] e = absurd cc
some_members scope (one ∷ es) e = lt-ltb 0 (length (map member_row (valued scope (one ∷ es)))) (omega arith)

pub enum_members : (scope outer : Scope) (full : List ℕ) (attributes : List Attribute) (item : Enum) → refused_enum outer item ≡ []
    → has_members (enum_row full attributes (valued scope item.enumerators)) ≡ true
enum_members scope outer full attributes item e =
    let rest = map (refused_default outer) (drop 1 (filter is_default item.enumerators)) in
    let few = both_empty (refused_count outer item.name MAX_ENUMERATORS (length item.enumerators))
    (where_true (is_empty item.enumerators) (refused outer item.name (EmptyEnum item.name.text)) ++ rest) e in
    let some = both_empty (where_true (is_empty item.enumerators) (refused outer item.name (EmptyEnum item.name.text))) rest few.1 in
    let there = none_where (is_empty item.enumerators) (refused outer item.name (EmptyEnum item.name.text)) some.0 in
    both_true (some_members scope item.enumerators there) (default_number (valued scope item.enumerators))
