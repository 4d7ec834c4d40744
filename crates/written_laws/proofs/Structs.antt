-- The rows of structs, unions and interfaces of which nothing is refused are as they are written.
use Rattle.std.proofs.Common.{◌≡◌, ℕ, zero, suc, List, [], ◌∷◌, ◌++◌, length, map, refl, ◌∙◌, ap, subst}
use Rattle.std.specs.Prelude.{Bool, true, slice_get, Option, Some, None}
use Rattle.std.specs.List.{AllByRecursion}
use Rattle.std.specs.Option.{option_map, option_to_list}
use Rattle.std.proofs.lemmas.Option.{none-some}
use Rattle.mojom_ast.specs.declared.names.Identifier.{Identifier}
use Rattle.mojom_ast.specs.declared.attributes.Attribute.{Attribute}
use Rattle.mj_schema.specs.KindTrees.{KindTree}
use Rattle.const_eval.specs.Refused.{refused_ordinals}
use Rattle.draft_rows.specs.declared.counts.FileRows.{FileRows}
use Rattle.kind_refusals.specs.declared.list_sort.ListSort.{ListSort}
use Rattle.kind_scope.specs.Scopes.{Scope}
use Rattle.kind_scope.specs.Members.{Member, Numbered, numbered}
use Rattle.kind_scope.specs.Members.{along_ordinals}
use Rattle.kind_refusals.specs.OrdinalRefusals.{refused_late}
use Rattle.kind_refusals.specs.KindRefusals.{is_struct, refused_list}
use Rattle.draft_rows.specs.Rows.{kind_in, field_with, field_row, found_of, struct_row, union_field_with, union_field_row, union_row}
use Rattle.schema_laws.proofs.Among.{each_at, each_where}
use Rattle.schema_laws.proofs.Each.{all_empty, all_so, all_map, all_along, all_numbered}
use Rattle.schema_laws.proofs.Kinded.{Has}
use Rattle.schema_laws.proofs.NothingLost.{IsKept}
use Rattle.written_laws.specs.Entries.{Counted}
use Rattle.written_laws.specs.Rows.{ArePaired, struct_text, HasField, IsStruct, IsUnionField, IsUnion}
use Rattle.written_laws.proofs.Apart.{distinct}
use Rattle.written_laws.proofs.Along.{along_long, each_stands}
use Rattle.written_laws.proofs.Counts.{entry_of, ordinal_part, counted_of, counted_same, as_many}
use Rattle.written_laws.proofs.ListsQuiet.{quiet_list, quiet_struct}
use Rattle.written_laws.proofs.Fields.{IsQuietMember, AllKnown, kind_kept, field_kept}
use Rattle.written_laws.proofs.NamedKindsKept.{site_of}

-- what is found of each, where something is of all

found_at : {A B : Type 0} (look : A → Option B) (xs : List A) → AllByRecursion (λ x. Has (look x)) xs → (p : ℕ) (x : A) → slice_get xs p ≡ Some x
    → slice_get (found_of look xs) p ≡ look x
found_at {A} {B} look [] all p x at = absurd (none-some x at)
found_at {A} {B} look (y ∷ ys) all zero x at = go (look y) all.0.one all.0.is ∙ ap look same
  where
    same : y ≡ x
    same = cc

    go : (o : Option B) (one : B) → o ≡ Some one → slice_get (option_to_list o ++ found_of look ys) zero ≡ o
    go None one is = absurd (none-some one is)
    go (Some b) one is = refl
found_at {A} {B} look (y ∷ ys) all (suc p) x at = go (look y) all.0.one all.0.is ∙ found_at look ys all.1 p x at
  where
    go : (o : Option B) (one : B) → o ≡ Some one → slice_get (option_to_list o ++ found_of look ys) (suc p) ≡ slice_get (found_of look ys) p
    go None one is = absurd (none-some one is)
    go (Some b) one is = refl

found_long : {A B : Type 0} (look : A → Option B) (xs : List A) → AllByRecursion (λ x. Has (look x)) xs → length (found_of look xs) ≡ length xs
found_long {A} {B} look [] all = refl
found_long {A} {B} look (y ∷ ys) all = go (look y) all.0.one all.0.is (found_long look ys all.1)
  where
    go : (o : Option B) (one : B) → o ≡ Some one → length (found_of look ys) ≡ length ys → length (option_to_list o ++ found_of look ys) ≡ suc (length ys)
    go None one is rest = absurd (none-some one is)
    go (Some b) one is rest = ap suc rest

map_has : {A B : Type 0} (make : A → B) (o : Option A) → Has o → Has (option_map make o)
map_has make o has = record { one = make has.one; is = ap (option_map make) has.is }

module _ (rows : List FileRows) (scope : Scope) where
  -- structs

  rows_found : (ones : List Numbered) → AllByRecursion (λ (one : Numbered). IsKept rows scope one.member) ones
      → AllByRecursion (λ (one : Numbered). Has (field_row rows scope one)) ones
  rows_found ones all =
      all_so (λ (one : Numbered). IsKept rows scope one.member) (λ (one : Numbered). Has (field_row rows scope one))
      (λ one kept. map_has (field_with scope one.member) (kind_in rows scope one.member.kind) kept) ones all

  pub struct_kept : AllKnown scope → (full : List ℕ) (stable : Bool) (owner : Identifier) (sort : ListSort) (ms : List Member) → is_struct sort ≡ true
      → refused_list scope owner sort ms ≡ [] → refused_ordinals scope.file 0 (map ordinal_part ms) ≡ [] → AllByRecursion (IsKept rows scope) ms
      → AllByRecursion (IsQuietMember scope) ms
      → IsStruct rows (struct_text (site_of scope) full (map entry_of ms) stable) (struct_row rows scope full stable ms)
  struct_kept known full stable owner sort ms is kinds values kept quiet =
      let ones = numbered ms in
      let differ = distinct ones (quiet_list scope owner sort ms kinds).distinct in
      let parts = quiet_struct scope owner sort ms is kinds in
      let keeps = all_numbered (IsKept rows scope) 0 ms kept in
      let quiets = all_numbered (IsQuietMember scope) 0 ms quiet in
      let late = all_empty (refused_late scope) ones parts.late in
      let sorted = all_along (λ (one : Numbered). IsKept rows scope one.member) (λ (one : Numbered). one.ordinal) ones keeps in
      let found = rows_found (along_ordinals ones) sorted in
      let row = struct_row rows scope full stable ms in
      let each = each_where (λ (one : Numbered). HasField rows (site_of scope) row (counted_of one)) ones
      (λ one among.
      let at = (each_stands ones differ parts.whole one among).at in
      let k = each_at (λ (o : Numbered). IsKept rows scope o.member) ones one keeps among in
      let there = found_at (field_row rows scope) (along_ordinals ones) found one.ordinal one at in
      record {
        field = field_with scope one.member k.one;
        there = there ∙ ap (option_map (field_with scope one.member)) k.is;
        is = field_kept rows scope known one k.one k.is (each_at (λ (o : Numbered). IsQuietMember scope o.member) ones one quiets among)
            (each_at (λ (o : Numbered). refused_late scope o ≡ []) ones one late among);
      }) in
      let one = found_long (field_row rows scope) (along_ordinals ones) found in
      let two = along_long ones differ in
      record {
        name = refl;
        count = one ∙ (two ∙ as_many ms);
        fields = subst (AllByRecursion (HasField rows (site_of scope) row)) (counted_same scope.file ms values)
            (all_map (HasField rows (site_of scope) row) counted_of ones each);
        stable = refl;
      }

  -- unions

  union_fields_kept : (ones : List Numbered) → AllByRecursion (λ (one : Numbered). IsKept rows scope one.member) ones
      → AllByRecursion (λ (one : Numbered). IsQuietMember scope one.member) ones
      → ArePaired (IsUnionField rows (site_of scope)) (map counted_of ones) (found_of (union_field_row rows scope) ones)
  union_fields_kept [] kept quiet = tt
  union_fields_kept (one ∷ others) kept quiet = go (kind_in rows scope one.member.kind) refl kept.0.one kept.0.is (union_fields_kept others kept.1 quiet.1)
    where
      go : (o : Option KindTree) → kind_in rows scope one.member.kind ≡ o → (k : KindTree) → o ≡ Some k
          → ArePaired (IsUnionField rows (site_of scope)) (map counted_of others) (found_of (union_field_row rows scope) others)
          → ArePaired (IsUnionField rows (site_of scope)) (counted_of one ∷ map counted_of others)
          (option_to_list (option_map (union_field_with one) o) ++ found_of (union_field_row rows scope) others)
      go None is k e rest = absurd (none-some k e)
      go (Some found) is k e rest = (record { name = refl; tag = refl; kind = kind_kept rows scope one.member found is quiet.0 }, rest)

  pub union_kept : (full : List ℕ) (attributes : List Attribute) (ms : List Member) → refused_ordinals scope.file 0 (map ordinal_part ms) ≡ []
      → AllByRecursion (IsKept rows scope) ms → AllByRecursion (IsQuietMember scope) ms
      → IsUnion rows (record { site = site_of scope; full = full; attributes = attributes; entries = map entry_of ms })
      (union_row rows scope full attributes ms)
  union_kept full attributes ms values kept quiet = record {
    name = refl;
    extensible = refl;
    fields = subst (λ (cs : List Counted). ArePaired (IsUnionField rows (site_of scope)) cs (found_of (union_field_row rows scope) (numbered ms)))
        (counted_same scope.file ms values)
        (union_fields_kept (numbered ms) (all_numbered (IsKept rows scope) 0 ms kept) (all_numbered (IsQuietMember scope) 0 ms quiet));
    stable = refl;
  }
