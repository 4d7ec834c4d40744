-- Each type has a kind where none of the names that it uses is refused, and nothing in it.
use Rattle.std.proofs.Common.{◌≡◌, ℕ, List, [], ◌∷◌, ◌++◌, refl, sym, ◌∙◌, ap}
use Rattle.std.specs.Prelude.{Bool, true, false, not, ◌&&◌, if◌then◌else◌, Option, Some, None, option_and_then, is_some}
use Rattle.std.specs.Option.{option_map, option_map_or, option_or}
use Rattle.std.proofs.lemmas.Grind.{flat_map-append}
use Rattle.mojom_ast.specs.declared.names.Identifier.{Identifier}
use Rattle.mojom_ast.specs.TypeTrees.{BaseTree, Named, ArrayOf, MapOf, HandleOf, PendingOf}
use Rattle.mojom_files.specs.declared.basic.Basic.{Basic}
use Rattle.mojom_files.specs.declared.basic.Basic.TheVariants as basics
use Rattle.mojom_files.specs.Causes.{FloatField, ZeroLengthArray}
use Rattle.mojom_files.specs.Names.{dotted}
use Rattle.mojom_files.specs.Refusals.{where_true}
use Rattle.module_resolver.specs.declared.target.Target.{Target}
use Rattle.module_resolver.specs.declared.target.Target.TheVariants as targets
use Rattle.module_resolver.specs.declared.target.DefinitionSort.{DefinitionSort}
use Rattle.module_resolver.specs.declared.target.DefinitionSort.TheVariants as sorts
use Rattle.module_resolver.specs.declared.file_names.FileNames.{FileNames}
use Rattle.name_refusals.specs.declared.uses.Wanted.{Wanted}
use Rattle.name_refusals.specs.declared.uses.Wanted.TheVariants as wants
use Rattle.module_resolver.specs.LookUp.{look_up, sort_of}
use Rattle.name_refusals.specs.NameRefusals.{fits_sort, fits, refused_meaning, refused_use, refused_uses}
use Rattle.name_refusals.specs.Uses.{Use, is_basic, uses_in_type}
use Rattle.mj_schema.specs.KindTrees.{KindTree, BoolKind, IntKind, EnumKind, TextKind, HandleKind, ArrayKind, MapKind, StructKind, UnionKind}
use Rattle.mj_schema.specs.declared.kind.Width.TheVariants.{Bits8, Bits16, Bits32, Bits64}
use Rattle.const_eval.specs.Kinds.{basic_of_parts}
use Rattle.draft_rows.specs.declared.counts.Counts.{Counts}
use Rattle.draft_rows.specs.declared.counts.FileRows.{FileRows}
use Rattle.kind_scope.specs.declared.meant.Meant.TheVariants as meant
use Rattle.draft_rows.specs.RowCounts.{rows_before}
use Rattle.kind_scope.specs.Scopes.{Scope, meant_in, refused}
use Rattle.kind_refusals.specs.TypeRefusals.{is_float, is_number, is_zero, refused_in_base}
use Rattle.draft_rows.specs.Kinds.{basic_kind, row_kind, meant_kind, sort_kind, handle_sort, pending_kind, count_of, with_value, kind_of_base, interface_at}
use Rattle.draft_rows.specs.Kinds.{sort_interface, target_interface}
use Rattle.schema_laws.proofs.Quiet.{both_empty, none_where}

-- there is one
pub record Has {A : Type 0} (found : Option A) : Type 0 where
  pub one : A
  pub is : found ≡ Some one

-- what is meant, and that it can stand where this is wanted
pub record Fits (names : List FileNames) (wanted : Wanted) (found : Option Target) : Type 0 where
  pub target : Target
  pub is : found ≡ Some target
  pub fits : fits names wanted target ≡ true

not_so : (b : Bool) → not b ≡ false → b ≡ true
not_so true e = refl
not_so false e = absurd cc

meaning_fits : (names : List FileNames) (file : ℕ) (used : Use) (found : Option Target) → refused_meaning names file used found ≡ []
    → Fits names used.wanted found
meaning_fits names file used None e = absurd cc
meaning_fits names file used (Some target) e = record {
  target = target;
  is = refl;
  fits = not_so (fits names used.wanted target) (none_where (not (fits names used.wanted target)) _ e);
}

-- a use of which nothing is refused
pub use_fits : (names : List FileNames) (file : ℕ) (used : Use) → refused_use names file used ≡ []
    → Fits names used.wanted (look_up names file used.enclosing (dotted used.parts))
use_fits names file used e = meaning_fits names file used (look_up names file used.enclosing (dotted used.parts)) e

pub uses_apart : (names : List FileNames) (file : ℕ) (one two : List Use) → refused_uses names file (one ++ two) ≡ []
    → (refused_uses names file one ≡ []) × (refused_uses names file two ≡ [])
uses_apart names file one two e =
    both_empty (refused_uses names file one) (refused_uses names file two) (sym (flat_map-append (refused_use names file) one two) ∙ e)

pub use_alone : (names : List FileNames) (file : ℕ) (used : Use) → refused_uses names file (used ∷ []) ≡ []
    → Fits names used.wanted (look_up names file used.enclosing (dotted used.parts))
use_alone names file used e = use_fits names file used (both_empty (refused_use names file used) [] e).0

-- names of basic kinds
pub basic_is : (parts : List Identifier) → is_basic parts ≡ is_some (basic_of_parts parts)
basic_is [] = refl
basic_is (part ∷ []) = refl
basic_is (part ∷ other ∷ parts) = refl

pub basic_has : (nullable : Bool) (basic : Basic) → is_float (Some (meant.Basic basic)) ≡ false → Has (basic_kind nullable basic)
basic_has nullable basics.Bool e = record { one = BoolKind nullable; is = refl }
basic_has nullable basics.Int8 e = record { one = IntKind Bits8 true nullable; is = refl }
basic_has nullable basics.Int16 e = record { one = IntKind Bits16 true nullable; is = refl }
basic_has nullable basics.Int32 e = record { one = IntKind Bits32 true nullable; is = refl }
basic_has nullable basics.Int64 e = record { one = IntKind Bits64 true nullable; is = refl }
basic_has nullable basics.Uint8 e = record { one = IntKind Bits8 false nullable; is = refl }
basic_has nullable basics.Uint16 e = record { one = IntKind Bits16 false nullable; is = refl }
basic_has nullable basics.Uint32 e = record { one = IntKind Bits32 false nullable; is = refl }
basic_has nullable basics.Uint64 e = record { one = IntKind Bits64 false nullable; is = refl }
basic_has nullable basics.Text e = record { one = TextKind nullable; is = refl }
basic_has nullable basics.Float e = absurd cc
basic_has nullable basics.Double e = absurd cc

row_has : (nullable : Bool) (sort : DefinitionSort) (counts : Counts) → fits_sort wants.Kind sort ≡ true → Has (row_kind nullable sort counts)
row_has nullable sorts.Struct counts e = record { one = StructKind counts.structs nullable; is = refl }
row_has nullable sorts.Union counts e = record { one = UnionKind counts.unions nullable; is = refl }
row_has nullable sorts.Enum counts e = record { one = EnumKind counts.enums nullable; is = refl }
row_has nullable sorts.Interface counts e = absurd cc
row_has nullable sorts.Const counts e = absurd cc

interface_has : (sort : DefinitionSort) (counts : Counts) → fits_sort wants.Interface sort ≡ true → Has (interface_at sort counts)
interface_has sorts.Struct counts e = absurd cc
interface_has sorts.Union counts e = absurd cc
interface_has sorts.Enum counts e = absurd cc
interface_has sorts.Interface counts e = record { one = counts.interfaces; is = refl }
interface_has sorts.Const counts e = absurd cc

-- what fits is of a sort that fits, where no enumerator does
pub sort_fits : (wanted : Wanted) (found : Option DefinitionSort) → option_map_or (fits_sort wanted) found false ≡ true
    → (sort : DefinitionSort) × (found ≡ Some sort) × (fits_sort wanted sort ≡ true)
sort_fits wanted None e = absurd cc
sort_fits wanted (Some sort) e = (sort, refl, e)

pub and_then_has : {A B : Type 0} (f : A → Option B) (found : Option A) (a : A) (b : B) → found ≡ Some a → f a ≡ Some b
    → option_and_then f found ≡ Some b
and_then_has f found a b is e = ap (option_and_then f) is ∙ e

module _ (rows : List FileRows) (scope : Scope)
    (there : (file number : ℕ) (sort : DefinitionSort) → sort_of scope.names (targets.Definition file number) ≡ Some sort
    → (counts : Counts) × (rows_before rows file number ≡ Some counts)) where
  target_has : (nullable : Bool) (target : Target) → fits scope.names wants.Kind target ≡ true → Has (meant_kind rows scope nullable (meant.Target target))
  target_has nullable (targets.Enumerator file number) e = absurd cc
  target_has nullable (targets.Definition file number) e =
      let sort = sort_fits wants.Kind (sort_of scope.names (targets.Definition file number)) e in
      let row = there file number sort.0 sort.1 in
      let kind = row_has nullable sort.0 row.0 sort.2 in
      let of_row : sort_kind rows nullable (targets.Definition file number) sort.0 ≡ Some kind.one =
      and_then_has (row_kind nullable sort.0) (rows_before rows file number) row.0 kind.one row.1 kind.is in
      record {
        one = kind.one;
        is = and_then_has (sort_kind rows nullable (targets.Definition file number))
            (sort_of scope.names (targets.Definition file number)) sort.0 kind.one sort.1 of_row;
      }

  target_end : (target : Target) → fits scope.names wants.Interface target ≡ true → Has (target_interface rows scope target)
  target_end (targets.Enumerator file number) e = absurd cc
  target_end (targets.Definition file number) e =
      let sort = sort_fits wants.Interface (sort_of scope.names (targets.Definition file number)) e in
      let row = there file number sort.0 sort.1 in
      let at = interface_has sort.0 row.0 sort.2 in
      let of_row : sort_interface rows (targets.Definition file number) sort.0 ≡ Some at.one =
      and_then_has (interface_at sort.0) (rows_before rows file number) row.0 at.one row.1 at.is in
      record {
        one = at.one;
        is = and_then_has (sort_interface rows (targets.Definition file number))
            (sort_of scope.names (targets.Definition file number)) sort.0 at.one sort.1 of_row;
      }

  -- what a name means, by what is basic and what is found
  meant_has : (nullable : Bool) (basic : Option Basic) (found : Option Target)
      → is_float (option_or (option_map meant.Basic basic) (option_map meant.Target found)) ≡ false
      → (is_some basic ≡ false → Fits scope.names wants.Kind found)
      → Has (option_and_then (meant_kind rows scope nullable) (option_or (option_map meant.Basic basic) (option_map meant.Target found)))
  meant_has nullable (Some basic) found e fit = basic_has nullable basic e
  meant_has nullable None found e fit =
      let f = fit refl in
      let kind = target_has nullable f.target f.fits in
      record {
        one = kind.one;
        is = and_then_has (meant_kind rows scope nullable) (option_map meant.Target found) (meant.Target f.target) kind.one
            (ap (option_map meant.Target) f.is) kind.is;
      }

  named_fits : (name : List Identifier) (b : Bool) → is_basic name ≡ b
      → refused_uses scope.names scope.file (if b then [] else record { enclosing = scope.enclosing; parts = name; wanted = wants.Kind } ∷ []) ≡ []
      → is_basic name ≡ false → Fits scope.names wants.Kind (look_up scope.names scope.file scope.enclosing (dotted name))
  named_fits name true is e plain = let bad : true ≡ false = sym is ∙ plain in absurd cc
  named_fits name false is e plain =
      use_alone scope.names scope.file (record { enclosing = scope.enclosing; parts = name; wanted = wants.Kind }) e

  -- a type has a kind
  pub has_kind : (member : Identifier) (field : Bool) (base : BaseTree) (nullable : Bool)
      → refused_uses scope.names scope.file (uses_in_type scope.enclosing base) ≡ [] → refused_in_base scope member field base nullable ≡ []
      → Has (kind_of_base rows scope base nullable)
  has_kind member field (Named name) nullable names e =
      let parts = both_empty _ (where_true (not field && (nullable && is_number scope (meant_in scope name.parts))) _) e in
      let plain = none_where (is_float (meant_in scope name.parts)) (refused scope member (FloatField member.text)) parts.0 in
      meant_has nullable (basic_of_parts name.parts) (look_up scope.names scope.file scope.enclosing (dotted name.parts)) plain
      (λ none. named_fits name.parts (is_basic name.parts) refl names (basic_is name.parts ∙ none))
  has_kind member field (ArrayOf of inner count) nullable names e =
      let parts = both_empty (where_true (is_zero count) (refused scope member (ZeroLengthArray member.text)))
      (refused_in_base scope member false of inner) e in
      let rest = has_kind member false of inner names parts.1 in
      record { one = ArrayKind rest.one (count_of count) nullable; is = ap (option_map (λ (k : KindTree). ArrayKind k (count_of count) nullable)) rest.is }
  has_kind member field (MapOf key of_key value of_value) nullable names e =
      let uses = uses_apart scope.names scope.file (uses_in_type scope.enclosing key) (uses_in_type scope.enclosing value) names in
      let one = both_empty _ _ e in
      let two = both_empty _ _ one.1 in
      let three = both_empty (refused_in_base scope member true key of_key) (refused_in_base scope member false value of_value) two.1 in
      let k = has_kind member true key of_key uses.0 three.0 in
      let v = has_kind member false value of_value uses.1 three.1 in
      record {
        one = MapKind k.one v.one nullable;
        is = and_then_has (λ (k : KindTree). with_value nullable k (kind_of_base rows scope value of_value)) (kind_of_base rows scope key of_key) k.one
            (MapKind k.one v.one nullable) k.is (ap (with_value nullable k.one) v.is);
      }
  has_kind member field (HandleOf sort) nullable names e = record { one = HandleKind (handle_sort sort) nullable; is = refl }
  has_kind member field (PendingOf sort interface) nullable names e =
      let fit = use_alone scope.names scope.file (record { enclosing = scope.enclosing; parts = interface.parts; wanted = wants.Interface }) names in
      let number = target_end fit.target fit.fits in
      record {
        one = pending_kind sort nullable number.one;
        is = ap (option_map (pending_kind sort nullable))
            (and_then_has (target_interface rows scope) (look_up scope.names scope.file scope.enclosing (dotted interface.parts)) fit.target
            number.one fit.is number.is);
      }
