-- The kind of a name is the one that the name gives.
use Rattle.std.proofs.Common.{◌≡◌, ℕ, List, refl, sym, ◌∙◌, ap, subst}
use Rattle.std.specs.Prelude.{Bool, true, false, Option, Some, None, option_and_then}
use Rattle.std.specs.Option.{option_map, option_or}
use Rattle.std.proofs.lemmas.Option.{same_Some, none-some}
use Rattle.mojom_ast.specs.TypeTrees.{Named}
use Rattle.mojom_ast.specs.declared.names.Identifier.{Identifier}
use Rattle.mojom_ast.specs.declared.names.Name.{Name}
use Rattle.mojom_ast.specs.declared.types.HandleSort.{HandleSort}
use Rattle.mojom_ast.specs.declared.types.HandleSort.TheVariants as written
use Rattle.mojom_ast.specs.declared.types.PendingSort.{PendingSort}
use Rattle.mojom_ast.specs.declared.types.PendingSort.TheVariants as pending
use Rattle.mojom_files.specs.declared.basic.Basic.{Basic}
use Rattle.mojom_files.specs.declared.basic.Basic.TheVariants as basics
use Rattle.mojom_files.specs.Names.{dotted}
use Rattle.module_resolver.specs.declared.target.Target.{Target}
use Rattle.module_resolver.specs.declared.target.Target.TheVariants as targets
use Rattle.module_resolver.specs.declared.target.DefinitionSort.{DefinitionSort}
use Rattle.module_resolver.specs.declared.target.DefinitionSort.TheVariants as sorts
use Rattle.module_resolver.specs.LookUp.{look_up, sort_of}
use Rattle.const_eval.specs.Kinds.{basic_of_parts}
use Rattle.mj_schema.specs.KindTrees.{KindTree, BoolKind, IntKind, EnumKind, TextKind, StructKind, UnionKind}
use Rattle.mj_schema.specs.declared.kind.Width.TheVariants.{Bits8, Bits16, Bits32, Bits64}
use Rattle.draft_rows.specs.declared.counts.Counts.{Counts}
use Rattle.draft_rows.specs.declared.counts.FileRows.{FileRows}
use Rattle.kind_scope.specs.declared.meant.Meant.TheVariants as meant
use Rattle.kind_scope.specs.Scopes.{Scope, meant_in}
use Rattle.draft_rows.specs.Kinds.{basic_kind, row_kind, rows_before_target, sort_kind, meant_kind, interface_at, sort_interface, target_interface, interface_number}
use Rattle.draft_rows.specs.Kinds.{handle_sort, pending_kind, kind_of_base}
use Rattle.schema_laws.proofs.FoundTargets.{and_then_by, map_by}
use Rattle.written_laws.specs.Values.{Site}
use Rattle.written_laws.specs.NamedKinds.{IsBasic, IsDefined, IsOfDefinition, IsNamed, IsHandle, IsEnd, IsOfInterface}
use Rattle.written_laws.proofs.FitsKept.{basic_found}

-- what stands around a name, as it is written
abbrev pub site_of : Scope → Site
site_of scope = record { names = scope.names; consts = scope.consts; file = scope.file; enclosing = scope.enclosing }

basic_is : (nullable : Bool) (b : Basic) (k : KindTree) → basic_kind nullable b ≡ Some k → IsBasic b k
basic_is nullable basics.Bool k e = subst (IsBasic basics.Bool) (same_Some (BoolKind nullable) k e) tt
basic_is nullable basics.Int8 k e = subst (IsBasic basics.Int8) (same_Some (IntKind Bits8 true nullable) k e) (refl, refl)
basic_is nullable basics.Int16 k e = subst (IsBasic basics.Int16) (same_Some (IntKind Bits16 true nullable) k e) (refl, refl)
basic_is nullable basics.Int32 k e = subst (IsBasic basics.Int32) (same_Some (IntKind Bits32 true nullable) k e) (refl, refl)
basic_is nullable basics.Int64 k e = subst (IsBasic basics.Int64) (same_Some (IntKind Bits64 true nullable) k e) (refl, refl)
basic_is nullable basics.Uint8 k e = subst (IsBasic basics.Uint8) (same_Some (IntKind Bits8 false nullable) k e) (refl, refl)
basic_is nullable basics.Uint16 k e = subst (IsBasic basics.Uint16) (same_Some (IntKind Bits16 false nullable) k e) (refl, refl)
basic_is nullable basics.Uint32 k e = subst (IsBasic basics.Uint32) (same_Some (IntKind Bits32 false nullable) k e) (refl, refl)
basic_is nullable basics.Uint64 k e = subst (IsBasic basics.Uint64) (same_Some (IntKind Bits64 false nullable) k e) (refl, refl)
basic_is nullable basics.Text k e = subst (IsBasic basics.Text) (same_Some (TextKind nullable) k e) tt
basic_is nullable basics.Float k e = absurd (none-some k e)
basic_is nullable basics.Double k e = absurd (none-some k e)

row_is : (nullable : Bool) (sort : DefinitionSort) (counts : Counts) (k : KindTree) → row_kind nullable sort counts ≡ Some k → IsDefined sort counts k
row_is nullable sorts.Struct counts k e = subst (IsDefined sorts.Struct counts) (same_Some (StructKind counts.structs nullable) k e) refl
row_is nullable sorts.Union counts k e = subst (IsDefined sorts.Union counts) (same_Some (UnionKind counts.unions nullable) k e) refl
row_is nullable sorts.Enum counts k e = subst (IsDefined sorts.Enum counts) (same_Some (EnumKind counts.enums nullable) k e) refl
row_is nullable sorts.Interface counts k e = absurd (none-some k e)
row_is nullable sorts.Const counts k e = absurd (none-some k e)

pub handle_is : (sort : Option HandleSort) → IsHandle sort (handle_sort sort)
handle_is None = tt
handle_is (Some written.MessagePipe) = tt
handle_is (Some written.DataPipeConsumer) = tt
handle_is (Some written.DataPipeProducer) = tt
handle_is (Some written.SharedBuffer) = tt
handle_is (Some written.Platform) = tt

end_sort : (sort : PendingSort) (nullable : Bool) (interface number : ℕ) → interface ≡ number → IsEnd sort number (pending_kind sort nullable interface)
end_sort pending.Remote nullable interface number e = e
end_sort pending.Receiver nullable interface number e = e
end_sort pending.AssociatedRemote nullable interface number e = e
end_sort pending.AssociatedReceiver nullable interface number e = e

module _ (rows : List FileRows) (scope : Scope) where
  abbrev meaning : List Identifier → Option Target
  meaning parts = look_up scope.names scope.file scope.enclosing (dotted parts)

  -- the kind of a definition that a name means
  definition_of : (nullable : Bool) (parts : List Identifier) (target : Target) → meaning parts ≡ Some target → (sort : DefinitionSort)
      → sort_of scope.names target ≡ Some sort → (before : Counts) → rows_before_target rows target ≡ Some before → (k : KindTree)
      → row_kind nullable sort before ≡ Some k → IsOfDefinition rows (site_of scope) parts k
  definition_of nullable parts (targets.Enumerator file number) found sort is before at k e = absurd (none-some before at)
  definition_of nullable parts (targets.Definition file number) found sort is before at k e = record {
    sort = sort;
    before = before;
    means = record { file = file; number = number; found = found; sort_is = is; before_is = at };
    is = row_is nullable sort before k e;
  }

  definition_is : (nullable : Bool) (parts : List Identifier) (k : KindTree)
      → option_and_then (meant_kind rows scope nullable) (option_map meant.Target (meaning parts)) ≡ Some k → IsOfDefinition rows (site_of scope) parts k
  definition_is nullable parts k e = go (meaning parts) refl e
    where
      go : (o : Option Target) → meaning parts ≡ o → option_and_then (meant_kind rows scope nullable) (option_map meant.Target o) ≡ Some k
          → IsOfDefinition rows (site_of scope) parts k
      go None found e = absurd (none-some k e)
      go (Some target) found e =
          let sort = and_then_by (sort_kind rows nullable target) (sort_of scope.names target) k e in
          let row = and_then_by (row_kind nullable sort.of) (rows_before_target rows target) k sort.makes in
          definition_of nullable parts target found sort.of sort.is row.of row.is k row.makes

  -- the kind of a name
  pub named_is : (name : Name) (nullable : Bool) (k : KindTree) → kind_of_base rows scope (Named name) nullable ≡ Some k
      → IsNamed rows (site_of scope) (basic_of_parts name.parts) name.parts k
  named_is name nullable k e = go (basic_of_parts name.parts) refl
    where
      go : (o : Option Basic) → basic_of_parts name.parts ≡ o → IsNamed rows (site_of scope) o name.parts k
      go (Some b) is = basic_is nullable b k (basic_found rows scope (Named name) nullable b k is e)
      go None is =
          let by : meant_in scope name.parts ≡ option_map meant.Target (meaning name.parts) =
          ap (λ (o : Option Basic). option_or (option_map meant.Basic o) (option_map meant.Target (meaning name.parts))) is in
          definition_is nullable name.parts k (sym (ap (option_and_then (meant_kind rows scope nullable)) by) ∙ e)

  -- the kind of an end of the interface that a name means
  end_of : (sort : PendingSort) (nullable : Bool) (parts : List Identifier) (target : Target) → meaning parts ≡ Some target → (of : DefinitionSort)
      → sort_of scope.names target ≡ Some of → (before : Counts) → rows_before_target rows target ≡ Some before → (number : ℕ)
      → interface_at of before ≡ Some number → IsOfInterface rows (site_of scope) sort parts (pending_kind sort nullable number)
  end_of sort nullable parts (targets.Enumerator file place) found of is before at number e = absurd (none-some before at)
  end_of sort nullable parts (targets.Definition file place) found sorts.Struct is before at number e = absurd (none-some number e)
  end_of sort nullable parts (targets.Definition file place) found sorts.Union is before at number e = absurd (none-some number e)
  end_of sort nullable parts (targets.Definition file place) found sorts.Enum is before at number e = absurd (none-some number e)
  end_of sort nullable parts (targets.Definition file place) found sorts.Const is before at number e = absurd (none-some number e)
  end_of sort nullable parts (targets.Definition file place) found sorts.Interface is before at number e = record {
    before = before;
    means = record { file = file; number = place; found = found; sort_is = is; before_is = at };
    is = end_sort sort nullable number before.interfaces (sym (same_Some before.interfaces number e));
  }

  pub end_is : (sort : PendingSort) (nullable : Bool) (parts : List Identifier) (k : KindTree)
      → option_map (pending_kind sort nullable) (interface_number rows scope parts) ≡ Some k → IsOfInterface rows (site_of scope) sort parts k
  end_is sort nullable parts k e =
      let number = map_by (pending_kind sort nullable) (interface_number rows scope parts) k e in
      let target = and_then_by (target_interface rows scope) (meaning parts) number.of number.is in
      let of = and_then_by (sort_interface rows target.of) (sort_of scope.names target.of) number.of target.makes in
      let row = and_then_by (interface_at of.of) (rows_before_target rows target.of) number.of of.makes in
      subst (IsOfInterface rows (site_of scope) sort parts) number.makes
      (end_of sort nullable parts target.of target.is of.of of.is row.of row.is number.of row.makes)
