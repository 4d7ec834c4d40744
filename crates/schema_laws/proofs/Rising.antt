-- A struct of whose members nothing is refused can be laid out.
use Rattle.std.proofs.Common.{◌≡◌, ◌<◌, ◌≤◌, ◌+◌, ◌^◌, ℕ, pos, negsuc, List, [], ◌∷◌, ◌++◌, length, map, refl, ap, arith}
use Rattle.std.specs.Prelude.{Bool, true, false, nat_lt, ◌==◌, Option, Some, None, if◌then◌else◌}
use Rattle.std.specs.List.{fold, flat_map}
use Rattle.std.specs.Option.{option_map, option_map_or, option_and_then, option_to_list}
use Rattle.std.specs.Cmp.Derive.{both_true}
use Rattle.std.proofs.lemmas.Bool.{ltb-false, le-leb, lt-ltb}
use Rattle.mj_base.specs.declared.limits.TheConstants.{MAX_FIELDS}
use Rattle.mojom_ast.specs.declared.names.Identifier.{Identifier}
use Rattle.mojom_files.specs.declared.refusal.Refusal.{Refusal}
use Rattle.mj_schema.specs.KindTrees.{KindTree}
use Rattle.mj_schema.specs.Layout.{never_fall, are_small}
use Rattle.mj_schema.specs.declared.rows.DraftField.{DraftField}
use Rattle.draft_rows.specs.declared.counts.FileRows.{FileRows}
use Rattle.kind_refusals.specs.declared.list_sort.ListSort.{ListSort}
use Rattle.const_meanings.specs.Known.{Known, TextValue, BoolValue, NumberValue, FloatValue}
use Rattle.kind_scope.specs.Scopes.{Scope, known_in}
use Rattle.kind_scope.specs.Members.{Member, Numbered, held, ordinal_at, numbered_from, numbered, place, along_ordinals}
use Rattle.kind_refusals.specs.TypeRefusals.{refused_in_member}
use Rattle.kind_scope.specs.Versions.{min_version, version_of_known, version_of}
use Rattle.kind_refusals.specs.OrdinalRefusals.{refused_fall, refused_falls, refused_gap, lacking, refused_order, refused_late, doubled, refused_double}
use Rattle.kind_refusals.specs.OrdinalRefusals.{refused_doubles}
use Rattle.kind_refusals.specs.KindRefusals.{limit_of, is_struct, is_empty, refused_count, refused_struct, refused_numbers, refused_list}
use Rattle.draft_rows.specs.Rows.{kind_in, field_with, field_row, found_of, struct_row}
use Rattle.schema_laws.specs.Whole.{CanBeLaidOut}
use Rattle.schema_laws.proofs.Quiet.{both_empty, map_empty, none_where}

-- how many

placed_length : {A : Type 0} (x y : A) (ys rest : List A) (less equal : Bool) → length rest ≤ length ys + 1
    → length (if less then x ∷ y ∷ ys else (if equal then x ∷ ys else y ∷ rest)) ≤ length (y ∷ ys) + 1
placed_length x y ys rest true equal few = omega arith
placed_length x y ys rest false true few = omega arith
placed_length x y ys rest false false few = omega arith

place_length : {A : Type 0} (number : A → ℕ) (xs : List A) (x : A) → length (place number xs x) ≤ length xs + 1
place_length number [] x = omega arith
place_length number (y ∷ ys) x =
    placed_length x y ys (place number ys x) (nat_lt (number x) (number y)) (number x == number y) (place_length number ys x)

along_length : {A : Type 0} (number : A → ℕ) (before xs : List A) → length (fold (place number) before xs) ≤ length before + length xs
along_length number before [] = omega arith
along_length number before (x ∷ xs) =
    let one = place_length number before x in
    let rest = along_length number (place number before x) xs in
    omega arith

numbered_length : (next : ℕ) (members : List Member) → length (numbered_from next members) ≡ length members
numbered_length next [] = refl
numbered_length next (m ∷ ms) = let rest = numbered_length (held (ordinal_at next m.ordinal + 1)) ms in omega arith

pub found_length : {A B : Type 0} (look : A → Option B) (xs : List A) → length (found_of look xs) ≤ length xs
found_length look [] = omega arith
found_length look (x ∷ xs) = go (look x) (found_of look xs) (found_length look xs)
  where
    go : {C : Type 0} (found : Option C) (rest : List C) → length rest ≤ length xs → length (option_to_list found ++ rest) ≤ length (x ∷ xs)
    go None rest few = omega arith
    go (Some y) rest few = omega arith

-- no struct has more fields than members
pub few_fields : (rows : List FileRows) (scope : Scope) (members : List Member)
    → length (found_of (field_row rows scope) (along_ordinals (numbered members))) ≤ length members
few_fields rows scope members =
    let found = found_length (field_row rows scope) (along_ordinals (numbered members)) in
    let sorted = along_length (λ (one : Numbered). one.ordinal) [] (numbered members) in
    let listed = numbered_length 0 members in
    omega arith

-- versions

abbrev versions : List DraftField → List ℕ
versions fields = map (λ (field : DraftField). field.min_version) fields

risen : (scope : Scope) (one : Numbered) (fields : List DraftField) (low : ℕ) (found : Option KindTree) → low ≤ version_of scope one.member
    → never_fall low (versions fields) ≡ true → never_fall (version_of scope one.member) (versions fields) ≡ true
    → never_fall low (versions (option_to_list (option_map (field_with scope one.member) found) ++ fields)) ≡ true
risen scope one fields low None up old new = old
risen scope one fields low (Some kind) up old new = both_true (le-leb low (version_of scope one.member) up) new

-- versions of which no fall is refused never fall, also where fields without kind are left out
rising : (rows : List FileRows) (scope : Scope) (ones : List Numbered) (before low : ℕ) → low ≤ before → refused_falls scope before ones ≡ []
    → never_fall low (versions (found_of (field_row rows scope) ones)) ≡ true
rising rows scope [] before low under e = refl
rising rows scope (one ∷ others) before low under e =
    let here = version_of scope one.member in
    let parts = both_empty (refused_fall scope before one.member.name here) (refused_falls scope here others) e in
    let up : before ≤ here = ltb-false here before (none_where (nat_lt here before) _ parts.0) in
    let above : low ≤ here = omega arith in
    risen scope one (found_of (field_row rows scope) others) low (kind_in rows scope one.member.kind) above
    (rising rows scope others here low above parts.1) (rising rows scope others here here (omega arith) parts.1)

-- each version is a number of 32 bits
known_small : (known : Known) → version_of_known known < 2 ^ 32
known_small (TextValue text) = omega arith
known_small (BoolValue b) = omega arith
known_small (NumberValue (pos n)) = omega arith
known_small (NumberValue (negsuc n)) = omega arith
known_small FloatValue = omega arith

small_or_none : (known : Option Known) → option_map_or version_of_known known 0 < 2 ^ 32
small_or_none None = omega arith
small_or_none (Some known) = known_small known

more_small : (scope : Scope) (one : Numbered) (fields : List DraftField) (found : Option KindTree) → are_small (versions fields) ≡ true
    → are_small (versions (option_to_list (option_map (field_with scope one.member) found) ++ fields)) ≡ true
more_small scope one fields None rest = rest
more_small scope one fields (Some kind) rest =
    both_true (lt-ltb (version_of scope one.member) (2 ^ 32) (small_or_none (option_and_then (known_in scope) (min_version one.member.attributes)))) rest

all_small : (rows : List FileRows) (scope : Scope) (ones : List Numbered) → are_small (versions (found_of (field_row rows scope) ones)) ≡ true
all_small rows scope [] = refl
all_small rows scope (one ∷ others) =
    more_small scope one (found_of (field_row rows scope) others) (kind_in rows scope one.member.kind) (all_small rows scope others)

-- structs

chosen : (b : Bool) (xs ys : List Refusal) → b ≡ true → (if b then xs else ys) ≡ [] → xs ≡ []
chosen true xs ys is e = e
chosen false xs ys is e = absurd cc

-- what is refused of a list, in parts: how many members there are, their types, their ordinals, and what is refused of structs alone
record IsQuiet (scope : Scope) (owner : Identifier) (sort : ListSort) (members : List Member) : Type 0 where
  few : refused_count scope owner (limit_of sort) (length members) ≡ []
  types : flat_map (refused_in_member scope (is_struct sort)) members ≡ []
  doubles : refused_doubles scope (numbered members) ≡ []
  order : (if is_struct sort then refused_struct scope owner (numbered members) else []) ≡ []

quiet_list : (scope : Scope) (owner : Identifier) (sort : ListSort) (members : List Member) → refused_list scope owner sort members ≡ []
    → IsQuiet scope owner sort members
quiet_list scope owner sort members e =
    let ones = numbered members in
    let types = flat_map (refused_in_member scope (is_struct sort)) members in
    let numbers = refused_numbers scope owner sort ones in
    let counted = both_empty (refused_count scope owner (limit_of sort) (length members)) (types ++ numbers) e in
    let listed = both_empty types numbers counted.1 in
    let ordinals = both_empty (refused_doubles scope ones) (if is_struct sort then refused_struct scope owner ones else []) listed.1 in
    record { few = counted.0; types = listed.0; doubles = ordinals.0; order = ordinals.1 }

-- where nothing is refused of a list of members, no ordinal of theirs stands twice
pub none_double : (scope : Scope) (owner : Identifier) (sort : ListSort) (members : List Member) → refused_list scope owner sort members ≡ []
    → doubled [] (numbered members) ≡ []
none_double scope owner sort members e =
    map_empty (refused_double scope) (doubled [] (numbered members)) (quiet_list scope owner sort members e).doubles

-- where nothing is refused of the members of a struct, no version of theirs falls
none_falls : (scope : Scope) (owner : Identifier) (sort : ListSort) (members : List Member) → is_struct sort ≡ true
    → refused_list scope owner sort members ≡ [] → refused_falls scope 0 (along_ordinals (numbered members)) ≡ []
none_falls scope owner sort members is e =
    let ones = numbered members in
    let late = flat_map (refused_late scope) ones in
    let struct = chosen (is_struct sort) (refused_struct scope owner ones) [] is (quiet_list scope owner sort members e).order in
    let order = both_empty (if is_empty (doubled [] ones) then refused_order scope owner ones else []) late struct in
    let distinct : is_empty (doubled [] ones) ≡ true = ap is_empty (none_double scope owner sort members e) in
    let whole = chosen (is_empty (doubled [] ones)) (refused_order scope owner ones) [] distinct order.0 in
    (both_empty (refused_gap scope owner (lacking ones)) (refused_falls scope 0 (along_ordinals ones)) whole).1

-- where nothing is refused of the members of a struct, they are few
few_members : (scope : Scope) (owner : Identifier) (sort : ListSort) (members : List Member) → refused_list scope owner sort members ≡ []
    → length members ≤ limit_of sort
few_members scope owner sort members e =
    ltb-false (limit_of sort) (length members)
    (none_where (nat_lt (limit_of sort) (length members)) _ (quiet_list scope owner sort members e).few)

pub laid_out : (rows : List FileRows) (scope : Scope) (full : List ℕ) (stable : Bool) (owner : Identifier) (sort : ListSort) (members : List Member)
    → is_struct sort ≡ true → limit_of sort ≤ MAX_FIELDS → refused_list scope owner sort members ≡ []
    → CanBeLaidOut (struct_row rows scope full stable members)
laid_out rows scope full stable owner sort members is limit e =
    let fields = few_fields rows scope members in
    let few = few_members scope owner sort members e in
    record {
      few = omega arith;
      rising = rising rows scope (along_ordinals (numbered members)) 0 0 (omega arith) (none_falls scope owner sort members is e);
      small = all_small rows scope (along_ordinals (numbered members));
    }
