-- What nothing refused of a list says, part by part.
use Rattle.std.proofs.Common.{◌≡◌, ◌≤◌, ℕ, List, [], ◌++◌, length, refl, ap}
use Rattle.std.specs.Prelude.{Bool, true, false, nat_lt, if◌then◌else◌, Option, Some, None}
use Rattle.std.specs.List.{flat_map}
use Rattle.std.proofs.lemmas.Bool.{ltb-false}
use Rattle.mojom_ast.specs.declared.names.Identifier.{Identifier}
use Rattle.mojom_files.specs.declared.refusal.Refusal.{Refusal}
use Rattle.kind_refusals.specs.declared.list_sort.ListSort.{ListSort}
use Rattle.kind_scope.specs.Scopes.{Scope}
use Rattle.kind_scope.specs.Members.{Member, numbered}
use Rattle.kind_refusals.specs.TypeRefusals.{refused_in_member}
use Rattle.kind_scope.specs.Members.{along_ordinals}
use Rattle.kind_refusals.specs.OrdinalRefusals.{lacking, doubled, refused_double, refused_doubles, refused_gap, refused_falls, refused_late, refused_order}
use Rattle.kind_refusals.specs.KindRefusals.{limit_of, is_struct, is_empty, refused_count, refused_struct, refused_numbers, refused_list}
use Rattle.schema_laws.proofs.Quiet.{both_empty, map_empty, none_where}

chosen : (b : Bool) (xs ys : List Refusal) → b ≡ true → (if b then xs else ys) ≡ [] → xs ≡ []
chosen true xs ys is e = e
chosen false xs ys is e = absurd cc

-- a list of which nothing is refused
pub record IsQuietList (sort : ListSort) (members : List Member) : Type 0 where
  pub few : length members ≤ limit_of sort
  pub distinct : doubled [] (numbered members) ≡ []

pub quiet_list : (scope : Scope) (owner : Identifier) (sort : ListSort) (members : List Member) → refused_list scope owner sort members ≡ []
    → IsQuietList sort members
quiet_list scope owner sort members e =
    let ones = numbered members in
    let types = flat_map (refused_in_member scope (is_struct sort)) members in
    let numbers = refused_numbers scope owner sort ones in
    let counted = both_empty (refused_count scope owner (limit_of sort) (length members)) (types ++ numbers) e in
    let listed = both_empty types numbers counted.1 in
    let ordinals = both_empty (refused_doubles scope ones) (if is_struct sort then refused_struct scope owner ones else []) listed.1 in
    record {
      few = ltb-false (limit_of sort) (length members) (none_where (nat_lt (limit_of sort) (length members)) _ counted.0);
      distinct = map_empty (refused_double scope) (doubled [] ones) ordinals.0;
    }

none_lacking : (scope : Scope) (owner : Identifier) (o : Option ℕ) → refused_gap scope owner o ≡ [] → o ≡ None
none_lacking scope owner None e = refl
none_lacking scope owner (Some ordinal) e = absurd cc

-- a list that stands for a struct: no ordinal is lacking, no version falls, and later members may be null
pub record IsQuietStruct (scope : Scope) (members : List Member) : Type 0 where
  pub whole : lacking (numbered members) ≡ None
  pub rising : refused_falls scope 0 (along_ordinals (numbered members)) ≡ []
  pub late : flat_map (refused_late scope) (numbered members) ≡ []

pub quiet_struct : (scope : Scope) (owner : Identifier) (sort : ListSort) (members : List Member) → is_struct sort ≡ true
    → refused_list scope owner sort members ≡ [] → IsQuietStruct scope members
quiet_struct scope owner sort members is e =
    let ones = numbered members in
    let numbers = refused_numbers scope owner sort ones in
    let types = flat_map (refused_in_member scope (is_struct sort)) members in
    let counted = both_empty (refused_count scope owner (limit_of sort) (length members)) (types ++ numbers) e in
    let listed = both_empty types numbers counted.1 in
    let tail = both_empty (refused_doubles scope ones) (if is_struct sort then refused_struct scope owner ones else []) listed.1 in
    let late = flat_map (refused_late scope) ones in
    let struct = chosen (is_struct sort) (refused_struct scope owner ones) [] is tail.1 in
    let order = both_empty (if is_empty (doubled [] ones) then refused_order scope owner ones else []) late struct in
    let apart : is_empty (doubled [] ones) ≡ true = ap is_empty (map_empty (refused_double scope) (doubled [] ones) tail.0) in
    let all = chosen (is_empty (doubled [] ones)) (refused_order scope owner ones) [] apart order.0 in
    let two = both_empty (refused_gap scope owner (lacking ones)) (refused_falls scope 0 (along_ordinals ones)) all in
    record { whole = none_lacking scope owner (lacking ones) two.0; rising = two.1; late = order.1 }
