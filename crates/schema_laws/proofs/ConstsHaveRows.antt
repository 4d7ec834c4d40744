-- Each constant of files of which no stage refuses anything has a row.
use Rattle.std.proofs.Common.{◌≡◌, ◌+◌, ℕ, List, [], refl, sym, ◌∙◌, ap, subst, inl}
use Rattle.std.specs.Prelude.{Bool, true, false, Option, Some, None, option_and_then, is_some, slice_get}
use Rattle.std.specs.Option.{option_map, option_map_or, option_or}
use Rattle.mojom_ast.specs.TypeTrees.{BaseTree, Named, ArrayOf, MapOf, HandleOf, PendingOf}
use Rattle.mojom_ast.specs.declared.names.Identifier.{Identifier}
use Rattle.mojom_ast.specs.declared.names.Value.{Value}
use Rattle.mojom_ast.specs.declared.names.Value.TheVariants as values
use Rattle.mojom_ast.specs.declared.definitions.Const.{Const}
use Rattle.mojom_ast.specs.declared.definitions.DefinitionItem.{DefinitionItem}
use Rattle.mojom_ast.specs.declared.definitions.DefinitionItem.TheVariants as items
use Rattle.mojom_files.specs.declared.named_file.NamedFile.{NamedFile}
use Rattle.mojom_files.specs.declared.basic.Basic.{Basic}
use Rattle.mojom_files.specs.declared.basic.Basic.TheVariants as basics
use Rattle.mojom_files.specs.Causes.{FloatField}
use Rattle.mojom_files.specs.Names.{dotted}
use Rattle.mojom_files.specs.Definitions.{Defined, definitions_of}
use Rattle.module_resolver.specs.declared.file_names.Names.{Names}
use Rattle.module_resolver.specs.LookUp.{look_up}
use Rattle.module_resolver.specs.NamesOf.{names_of}
use Rattle.name_refusals.specs.NameRefusals.{refused_uses}
use Rattle.name_refusals.specs.Uses.{uses_in_value}
use Rattle.const_eval.specs.declared.consts.Consts.{Consts}
use Rattle.const_eval.specs.declared.file_things.FileThings.{FileThings}
use Rattle.const_meanings.specs.declared.origin.Origin.{Origin}
use Rattle.const_meanings.specs.declared.origin.Origin.TheVariants.{Of}
use Rattle.const_meanings.specs.Known.{Known, TextValue, BoolValue, NumberValue, FloatValue, signed}
use Rattle.const_eval.specs.Kinds.{basic_of_parts, basic_of_base, refused_value}
use Rattle.const_meanings.specs.Needs.{needed_by, counts_on}
use Rattle.const_eval.specs.Consts.{AreConsts, value_at, value_of_target, value_in}
use Rattle.const_eval.specs.Things.{things_of_files, thing_of}
use Rattle.const_eval.specs.Origins.{of_thing, origin_of_value, origin_of_const}
use Rattle.const_eval.specs.Refused.{Site, place_of_value, refused_circle, refused_const_as, refused_const_value, refused_lengths}
use Rattle.mj_schema.specs.KindTrees.{KindTree}
use Rattle.mj_schema.specs.declared.rows.Literal.TheVariants as literals
use Rattle.draft_rows.specs.declared.counts.FileRows.{FileRows}
use Rattle.kind_scope.specs.declared.meant.Meant.TheVariants as meant
use Rattle.kind_scope.specs.Scopes.{Scope, meant_in, refused, around}
use Rattle.kind_refusals.specs.TypeRefusals.{is_float_basic, is_float, refused_in_base, refused_in_type}
use Rattle.kind_refusals.specs.KindRefusals.{refused_item}
use Rattle.draft_rows.specs.RowCounts.{definitions_at, rows_of}
use Rattle.draft_rows.specs.Kinds.{meant_kind, kind_of_base, kind_of}
use Rattle.draft_rows.specs.Rows.{literal_of, literal_in, const_with, const_row}
use Rattle.schema_laws.specs.Passed.{IsPassed}
use Rattle.schema_laws.proofs.Among.{IsAmong, place_of, among_at}
use Rattle.schema_laws.proofs.Quiet.{both_empty, none_where}
use Rattle.schema_laws.proofs.Kinded.{Has, basic_has, and_then_has}
use Rattle.schema_laws.proofs.QuietFiles.{AreQuiet, all_quiet}
use Rattle.schema_laws.proofs.Told.{IsConstAt, place, IsTold, name_means}
use Rattle.schema_laws.proofs.Totals.{HasRow, HaveRows}
use Rattle.schema_laws.proofs.AllSound.{const_quiet, const_uses, const_from, known_of, same_value}

abbrev pub is_float_value : Known → Bool
is_float_value FloatValue = true
is_float_value _ = false

-- the kind of a constant

-- a basic kind, not float, whose values this is one of
pub record IsBasic (basic : Option Basic) (known : Known) : Type 0 where
  pub kind : Basic
  pub is : basic ≡ Some kind
  pub plain : is_float_basic kind ≡ false
  pub value : is_float_value known ≡ false

pub no_float_value : (file : ℕ) (name : Identifier) (at : ℕ) (kind : Basic) (known : Known) → refused_value file name at kind known ≡ []
    → is_float_value known ≡ false
no_float_value file name at kind (TextValue bytes) e = refl
no_float_value file name at kind (BoolValue value) e = refl
no_float_value file name at kind (NumberValue number) e = refl
no_float_value file name at basics.Bool FloatValue e = absurd cc
no_float_value file name at basics.Int8 FloatValue e = absurd cc
no_float_value file name at basics.Int16 FloatValue e = absurd cc
no_float_value file name at basics.Int32 FloatValue e = absurd cc
no_float_value file name at basics.Int64 FloatValue e = absurd cc
no_float_value file name at basics.Uint8 FloatValue e = absurd cc
no_float_value file name at basics.Uint16 FloatValue e = absurd cc
no_float_value file name at basics.Uint32 FloatValue e = absurd cc
no_float_value file name at basics.Uint64 FloatValue e = absurd cc
no_float_value file name at basics.Text FloatValue e = absurd cc
no_float_value file name at basics.Float FloatValue e = absurd cc
no_float_value file name at basics.Double FloatValue e = absurd cc

is_basic : (file : ℕ) (name : Identifier) (at : ℕ) (basic : Option Basic) (known : Known)
    → ((b : Basic) → basic ≡ Some b → is_float_basic b ≡ false) → refused_const_as file name at basic (Some known) ≡ [] → IsBasic basic known
is_basic file name at None known plain e = absurd cc
is_basic file name at (Some basics.Float) known plain e = let bad : true ≡ false = plain basics.Float refl in absurd cc
is_basic file name at (Some basics.Double) known plain e = let bad : true ≡ false = plain basics.Double refl in absurd cc
is_basic file name at (Some basics.Bool) known plain e =
    record { kind = basics.Bool; is = refl; plain = refl; value = no_float_value file name at basics.Bool known e }
is_basic file name at (Some basics.Int8) known plain e =
    record { kind = basics.Int8; is = refl; plain = refl; value = no_float_value file name at basics.Int8 known e }
is_basic file name at (Some basics.Int16) known plain e =
    record { kind = basics.Int16; is = refl; plain = refl; value = no_float_value file name at basics.Int16 known e }
is_basic file name at (Some basics.Int32) known plain e =
    record { kind = basics.Int32; is = refl; plain = refl; value = no_float_value file name at basics.Int32 known e }
is_basic file name at (Some basics.Int64) known plain e =
    record { kind = basics.Int64; is = refl; plain = refl; value = no_float_value file name at basics.Int64 known e }
is_basic file name at (Some basics.Uint8) known plain e =
    record { kind = basics.Uint8; is = refl; plain = refl; value = no_float_value file name at basics.Uint8 known e }
is_basic file name at (Some basics.Uint16) known plain e =
    record { kind = basics.Uint16; is = refl; plain = refl; value = no_float_value file name at basics.Uint16 known e }
is_basic file name at (Some basics.Uint32) known plain e =
    record { kind = basics.Uint32; is = refl; plain = refl; value = no_float_value file name at basics.Uint32 known e }
is_basic file name at (Some basics.Uint64) known plain e =
    record { kind = basics.Uint64; is = refl; plain = refl; value = no_float_value file name at basics.Uint64 known e }
is_basic file name at (Some basics.Text) known plain e =
    record { kind = basics.Text; is = refl; plain = refl; value = no_float_value file name at basics.Text known e }

-- what a name of a basic kind means
basic_meant : (scope : Scope) (parts : List Identifier) (basic : Basic) → basic_of_parts parts ≡ Some basic → meant_in scope parts ≡ Some (meant.Basic basic)
basic_meant scope parts basic e =
    ap (λ (o : Option Basic). option_or (option_map meant.Basic o)
    (option_map meant.Target (look_up scope.names scope.file scope.enclosing (dotted parts)))) e

-- no constant of which nothing is refused is of float or double
no_float : (scope : Scope) (member : Identifier) (base : BaseTree) (nullable : Bool) → refused_in_base scope member false base nullable ≡ []
    → (basic : Basic) → basic_of_base base ≡ Some basic → is_float_basic basic ≡ false
no_float scope member (Named name) nullable e basic is =
    let none = none_where (is_float (meant_in scope name.parts)) (refused scope member (FloatField member.text)) (both_empty _ _ e).0 in
    sym (ap is_float (basic_meant scope name.parts basic is)) ∙ none
no_float scope member (ArrayOf of inner count) nullable e basic is = absurd cc
no_float scope member (MapOf key of_key value of_value) nullable e basic is = absurd cc
no_float scope member (HandleOf sort) nullable e basic is = absurd cc
no_float scope member (PendingOf sort interface) nullable e basic is = absurd cc

-- a type of a basic kind that isn't float has a kind
basic_kinded : (rows : List FileRows) (scope : Scope) (base : BaseTree) (nullable : Bool) (basic : Basic) → basic_of_base base ≡ Some basic
    → is_float_basic basic ≡ false → Has (kind_of_base rows scope base nullable)
basic_kinded rows scope (Named name) nullable basic is plain =
    let kind = basic_has nullable basic plain in
    record {
      one = kind.one;
      is = and_then_has (meant_kind rows scope nullable) (meant_in scope name.parts) (meant.Basic basic) kind.one
          (basic_meant scope name.parts basic is) kind.is;
    }
basic_kinded rows scope (ArrayOf of inner count) nullable basic is plain = absurd cc
basic_kinded rows scope (MapOf key of_key value of_value) nullable basic is plain = absurd cc
basic_kinded rows scope (HandleOf sort) nullable basic is plain = absurd cc
basic_kinded rows scope (PendingOf sort interface) nullable basic is plain = absurd cc

-- a constant of such a kind has the value that is written
plain_origin : (basic : Basic) (o : Origin) → is_float_basic basic ≡ false → origin_of_const (Some basic) o ≡ o
plain_origin basics.Float o e = absurd cc
plain_origin basics.Double o e = absurd cc
plain_origin basics.Bool o e = refl
plain_origin basics.Int8 o e = refl
plain_origin basics.Int16 o e = refl
plain_origin basics.Int32 o e = refl
plain_origin basics.Int64 o e = refl
plain_origin basics.Uint8 o e = refl
plain_origin basics.Uint16 o e = refl
plain_origin basics.Uint32 o e = refl
plain_origin basics.Uint64 o e = refl
plain_origin basics.Text o e = refl

-- what isn't float is a literal in a row
pub literal_is : (known : Known) → is_float_value known ≡ false → Has (literal_of known)
literal_is (TextValue bytes) e = record { one = literals.Text bytes; is = refl }
literal_is (BoolValue value) e = record { one = literals.Bool value; is = refl }
literal_is (NumberValue number) e = record { one = literals.Whole number; is = refl }
literal_is FloatValue e = absurd cc

-- a constant that has a kind and a literal has a row
both_found : (rows : List FileRows) (scope : Scope) (full : List ℕ) (c : Const) → Has (kind_of rows scope c.kind) → Has (literal_in scope c.value)
    → Has (const_row rows scope full c)
both_found rows scope full c kind literal =
    let row : option_map (const_with full kind.one) (literal_in scope c.value) ≡ Some (const_with full kind.one literal.one) =
    ap (option_map (const_with full kind.one)) literal.is in
    record {
      one = const_with full kind.one literal.one;
      is = and_then_has (λ (k : KindTree). option_map (const_with full k) (literal_in scope c.value)) (kind_of rows scope c.kind) kind.one
          (const_with full kind.one literal.one) kind.is row;
    }

module _ (files : List NamedFile) (order : List ℕ) (consts : Consts) (are : AreConsts files (names_of files order).files consts)
    (are_quiet : AreQuiet files (names_of files order).files consts) where
  -- what the value of a constant is, where it is known, is what the constant is
  written_known : (file : ℕ) (tree : NamedFile) (is : slice_get files file ≡ Some tree) (n : ℕ) (c : IsConstAt (definitions_of tree.tree) n) (basic : Basic)
      (known : Known) → basic_of_base c.constant.kind.base ≡ Some basic → is_float_basic basic ≡ false
      → value_at consts ((place files order file tree is).begin + n) ≡ Some known → is_float_value known ≡ false
      → (value : Value) → c.constant.value ≡ value
      → refused_uses (names_of files order).files file (uses_in_value c.definition.enclosing value) ≡ []
      → Has (option_and_then literal_of (value_in consts (names_of files order).files file c.definition.enclosing value))
  written_known file tree is n c basic known kind plain e real (values.String written) value uses =
      record { one = literals.Text written.bytes; is = refl }
  written_known file tree is n c basic known kind plain e real (values.Bool b span) value uses = record { one = literals.Bool b; is = refl }
  written_known file tree is n c basic known kind plain e real (values.Number negative magnitude span) value uses =
      record { one = literals.Whole (signed negative magnitude); is = refl }
  written_known file tree is n c basic known kind plain e real (values.Name name) value uses =
      let names = (names_of files order).files in
      let thing : ℕ = (place files order file tree is).begin + n in
      let m = name_means files order file c.definition.enclosing name uses in
      let by_name : origin_of_value (things_of_files files) names file c.definition.enclosing c.constant.value ≡ Of m.has.thing =
      ap (origin_of_value (things_of_files files) names file c.definition.enclosing) value
      ∙ ap of_thing (ap (option_and_then (thing_of (things_of_files files))) m.found ∙ m.has.is) in
      let written = origin_of_value (things_of_files files) names file c.definition.enclosing c.constant.value in
      let origin : origin_of_const (basic_of_base c.constant.kind.base) written ≡ Of m.has.thing =
      ap (λ (b : Option Basic). origin_of_const b written) kind
      ∙ (plain_origin basic _ plain ∙ by_name) in
      let from : slice_get consts.origins thing ≡ Some (Of m.has.thing) =
      const_from files order consts are are_quiet file tree is n c ∙ ap (λ (o : Origin). let w : Option Origin = Some o in w) origin in
      let told : IsTold files order thing = record { file = file; tree = tree; tree_is = is; n = n; thing_is = refl; which = inl c } in
      let same = same_value files order consts are are_quiet thing m.has.thing told (ap (needed_by thing) from) (ap counts_on from) in
      let there : value_of_target consts m.target ≡ Some known =
      ap (λ (ts : List FileThings). option_and_then (value_at consts) (thing_of ts m.target)) are.files_are
      ∙ (ap (option_and_then (value_at consts)) m.has.is ∙ (sym same ∙ e)) in
      let literal = literal_is known real in
      record {
        one = literal.one;
        is = ap (option_and_then literal_of) (ap (option_and_then (value_of_target consts)) m.found ∙ there) ∙ literal.is;
      }

  -- the kind of a constant is basic, and its value is one of that kind
  pub const_basic : (file : ℕ) (tree : NamedFile) (is : slice_get files file ≡ Some tree) (n : ℕ) (c : IsConstAt (definitions_of tree.tree) n) (known : Known)
      → value_at consts ((place files order file tree is).begin + n) ≡ Some known → IsBasic (basic_of_base c.constant.kind.base) known
  const_basic file tree is n c known e =
      let d = c.definition in
      let scope = around (names_of files order).files consts file d.enclosing in
      let thing : ℕ = (place files order file tree is).begin + n in
      let site : Site = record { consts = consts; names = (names_of files order).files; file = file } in
      let kinds : refused_in_type scope c.constant.name false c.constant.kind ≡ [] =
      subst (λ (i : DefinitionItem). refused_item scope d.full i ≡ []) c.is
      (are_quiet.kinds file tree is d (among_at (definitions_of tree.tree) n d c.there)) in
      let one = both_empty (refused_circle site thing c.constant.name) _ (const_quiet files order consts are are_quiet file tree is n c) in
      let two = both_empty (refused_const_value site thing c.constant) (refused_lengths file c.constant.kind.base) one.1 in
      let at : ℕ = place_of_value c.constant.value in
      let basic = basic_of_base c.constant.kind.base in
      let value : refused_const_as file c.constant.name at basic (Some known) ≡ [] = sym (ap (refused_const_as file c.constant.name at basic) e) ∙ two.0 in
      is_basic file c.constant.name at basic known
      (no_float scope c.constant.name c.constant.kind.base c.constant.kind.nullable kinds) value

  -- the constant that stands there has a row
  row_there : (rows : List FileRows) (file : ℕ) (tree : NamedFile) (is : slice_get files file ≡ Some tree) (n : ℕ) (c : IsConstAt (definitions_of tree.tree) n)
      (full : List ℕ) → Has (const_row rows (around (names_of files order).files consts file c.definition.enclosing) full c.constant)
  row_there rows file tree is n c full =
      let scope = around (names_of files order).files consts file c.definition.enclosing in
      let thing : ℕ = (place files order file tree is).begin + n in
      let told : IsTold files order thing = record { file = file; tree = tree; tree_is = is; n = n; thing_is = refl; which = inl c } in
      let known = known_of files order consts are are_quiet thing told in
      let basic = const_basic file tree is n c known.known known.is in
      let kind = basic_kinded rows scope c.constant.kind.base c.constant.kind.nullable basic.kind basic.is basic.plain in
      let literal = written_known file tree is n c basic.kind known.known basic.is basic.plain known.is basic.value c.constant.value refl
      (const_uses files order consts are are_quiet file tree is n c) in
      both_found rows scope full c.constant kind literal

pub found_file : (files : List NamedFile) (number : ℕ) (d : Defined) → IsAmong (definitions_at files number) d
    → (tree : NamedFile) × (slice_get files number ≡ Some tree) × IsAmong (definitions_of tree.tree) d
found_file files number d among = go (slice_get files number) refl among
  where
    go : (o : Option NamedFile) → slice_get files number ≡ o → IsAmong (option_map_or (λ (f : NamedFile). definitions_of f.tree) o []) d
        → (tree : NamedFile) × (slice_get files number ≡ Some tree) × IsAmong (definitions_of tree.tree) d
    go None is among = absurd among
    go (Some tree) is among = (tree, is, among)

has_const_row : (files : List NamedFile) (order : List ℕ) (consts : Consts) → IsPassed files order (names_of files order) consts
    → (rows : List FileRows) (number : ℕ) (d : Defined) (c : Const) (full : List ℕ) → IsAmong (definitions_at files number) d → d.item ≡ items.Const c
    → Has (const_row rows (around (names_of files order).files consts number d.enclosing) full c)
has_const_row files order consts passed rows number d c full among is =
    let there = found_file files number d among in
    let at = place_of (definitions_of there.0.tree) d there.2 in
    let one : IsConstAt (definitions_of there.0.tree) at.place = record { definition = d; there = at.is; constant = c; is = is } in
    row_there files order consts passed.evaluated.are (all_quiet files order consts passed) rows number there.0 there.1 at.place one full

-- each constant of files of which no stage refuses anything has a row
pub const_rows : (files : List NamedFile) (order : List ℕ) (names : Names) (consts : Consts) → IsPassed files order names consts
    → (rows : List FileRows) (number : ℕ) (d : Defined) (c : Const) (full : List ℕ) → IsAmong (definitions_at files number) d → d.item ≡ items.Const c
    → Has (const_row rows (around names.files consts number d.enclosing) full c)
const_rows files order names consts passed rows number d c full among is =
    subst (λ (all : Names). Has (const_row rows (around all.files consts number d.enclosing) full c)) (sym passed.named.are)
    (has_const_row files order consts (subst (λ (all : Names). IsPassed files order all consts) passed.named.are passed) rows number d c full among is)

item_has_row : (rows : List FileRows) (scope : Scope) (full : List ℕ) (item : DefinitionItem)
    → ((c : Const) → item ≡ items.Const c → Has (const_row rows scope full c)) → HasRow rows scope full item
item_has_row rows scope full (items.Const c) has = ap is_some (has c refl).is
item_has_row rows scope full (items.Struct s) has = tt
item_has_row rows scope full (items.Union u) has = tt
item_has_row rows scope full (items.Enum e) has = tt
item_has_row rows scope full (items.Interface i) has = tt

-- all constants of files of which no stage refuses anything have rows
pub have_rows : (files : List NamedFile) (order : List ℕ) (names : Names) (consts : Consts) → IsPassed files order names consts
    → HaveRows (rows_of files order) names.files consts files order
have_rows files order names consts passed number _ d among =
    item_has_row (rows_of files order) (around names.files consts number d.enclosing) d.full d.item
    (λ c is. const_rows files order names consts passed (rows_of files order) number d c d.full among is)
