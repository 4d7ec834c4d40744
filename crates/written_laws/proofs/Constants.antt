-- The rows of constants of which nothing is refused are as they are written, and their values fit their kinds.
use Rattle.std.proofs.Common.{◌≡◌, ◌+◌, ℕ, List, [], refl, ◌∙◌, ap, subst}
use Rattle.std.specs.Prelude.{Bool, Option, Some, None, option_and_then, slice_get}
use Rattle.std.specs.Option.{option_map}
use Rattle.std.proofs.lemmas.Option.{none-some, same_Some}
use Rattle.mojom_ast.specs.declared.names.Identifier.{Identifier}
use Rattle.mojom_files.specs.declared.named_file.NamedFile.{NamedFile}
use Rattle.mojom_files.specs.declared.basic.Basic.{Basic}
use Rattle.mojom_files.specs.declared.basic.Basic.TheVariants as basics
use Rattle.mojom_files.specs.Definitions.{definitions_of}
use Rattle.module_resolver.specs.NamesOf.{names_of}
use Rattle.const_eval.specs.declared.consts.Consts.{Consts}
use Rattle.const_meanings.specs.declared.origin.Origin.{Origin}
use Rattle.const_meanings.specs.Known.{Known}
use Rattle.const_eval.specs.Kinds.{basic_of_base, refused_value}
use Rattle.const_eval.specs.Origins.{origin_of_value, origin_of_const}
use Rattle.const_eval.specs.Things.{things_of_files}
use Rattle.const_eval.specs.Consts.{AreConsts, value_in}
use Rattle.const_eval.specs.Refused.{Site, place_of_value, refused_circle, refused_const_as, refused_const_value, refused_lengths}
use Rattle.mj_schema.specs.KindTrees.{KindTree}
use Rattle.mj_schema.specs.declared.rows.ConstRow.{ConstRow}
use Rattle.mj_schema.specs.declared.rows.Literal.{Literal}
use Rattle.draft_rows.specs.declared.counts.FileRows.{FileRows}
use Rattle.kind_scope.specs.Scopes.{Scope}
use Rattle.kind_scope.specs.Scopes.{around}
use Rattle.draft_rows.specs.Kinds.{basic_kind, kind_of}
use Rattle.draft_rows.specs.Rows.{literal_in, const_with, const_row}
use Rattle.schema_laws.proofs.Quiet.{both_empty}
use Rattle.schema_laws.proofs.QuietFiles.{AreQuiet}
use Rattle.schema_laws.proofs.Told.{IsConstAt, place}
use Rattle.schema_laws.proofs.AllSound.{const_quiet, const_uses, const_from}
use Rattle.written_laws.specs.Values.{known_of}
use Rattle.written_laws.specs.Literals.{ConstText, IsConst}
use Rattle.written_laws.specs.Fits.{Fits}
use Rattle.written_laws.proofs.Values.{literal_known, is_value}
use Rattle.written_laws.proofs.ValueThere.{value_there}
use Rattle.written_laws.proofs.KindsKept.{as_written}
use Rattle.written_laws.proofs.FitsKept.{fits_basic, basic_found}

-- a constant of a kind that is found has the value that is written
plain_origin : (nullable : Bool) (b : Basic) (k : KindTree) (o : Origin) → basic_kind nullable b ≡ Some k → origin_of_const (Some b) o ≡ o
plain_origin nullable basics.Bool k o e = refl
plain_origin nullable basics.Int8 k o e = refl
plain_origin nullable basics.Int16 k o e = refl
plain_origin nullable basics.Int32 k o e = refl
plain_origin nullable basics.Int64 k o e = refl
plain_origin nullable basics.Uint8 k o e = refl
plain_origin nullable basics.Uint16 k o e = refl
plain_origin nullable basics.Uint32 k o e = refl
plain_origin nullable basics.Uint64 k o e = refl
plain_origin nullable basics.Text k o e = refl
plain_origin nullable basics.Float k o e = absurd (none-some k e)
plain_origin nullable basics.Double k o e = absurd (none-some k e)

-- and it is tested as one of its kind
plain_value : (file : ℕ) (name : Identifier) (at : ℕ) (nullable : Bool) (b : Basic) (k : KindTree) (known : Known) → basic_kind nullable b ≡ Some k
    → refused_const_as file name at (Some b) (Some known) ≡ [] → refused_value file name at b known ≡ []
plain_value file name at nullable basics.Bool k known e quiet = quiet
plain_value file name at nullable basics.Int8 k known e quiet = quiet
plain_value file name at nullable basics.Int16 k known e quiet = quiet
plain_value file name at nullable basics.Int32 k known e quiet = quiet
plain_value file name at nullable basics.Int64 k known e quiet = quiet
plain_value file name at nullable basics.Uint8 k known e quiet = quiet
plain_value file name at nullable basics.Uint16 k known e quiet = quiet
plain_value file name at nullable basics.Uint32 k known e quiet = quiet
plain_value file name at nullable basics.Uint64 k known e quiet = quiet
plain_value file name at nullable basics.Text k known e quiet = quiet
plain_value file name at nullable basics.Float k known e quiet = absurd (none-some k e)
plain_value file name at nullable basics.Double k known e quiet = absurd (none-some k e)

module _ (files : List NamedFile) (order : List ℕ) (consts : Consts) (are : AreConsts files (names_of files order).files consts)
    (are_quiet : AreQuiet files (names_of files order).files consts) (rows : List FileRows) (file : ℕ) (tree : NamedFile)
    (is : slice_get files file ≡ Some tree) (n : ℕ) (c : IsConstAt (definitions_of tree.tree) n) where
  abbrev scope : Scope
  scope = around (names_of files order).files consts file c.definition.enclosing

  abbrev text : List ℕ → ConstText
  text full = record {
    site = record { names = (names_of files order).files; consts = consts; file = file; enclosing = c.definition.enclosing };
    full = full;
    constant = c.constant;
  }

  -- nothing is refused of its value by its kind
  quiet_as : (basic : Option Basic) → basic_of_base c.constant.kind.base ≡ basic → ((o : Origin) → origin_of_const basic o ≡ o) → (known : Known)
      → value_in consts (names_of files order).files file c.definition.enclosing c.constant.value ≡ Some known
      → refused_const_as file c.constant.name (place_of_value c.constant.value) basic (Some known) ≡ []
  quiet_as basic is_basic plain known value =
      let thing : ℕ = (place files order file tree is).begin + n in
      let written = origin_of_value (things_of_files files) (names_of files order).files file c.definition.enclosing c.constant.value in
      let same : origin_of_const (basic_of_base c.constant.kind.base) written ≡ written =
      ap (λ (o : Option Basic). origin_of_const o written) is_basic ∙ plain written in
      let from : slice_get consts.origins thing ≡ Some written =
      const_from files order consts are are_quiet file tree is n c ∙ ap (λ (o : Origin). let s : Option Origin = Some o in s) same in
      let there = value_there files order consts are are_quiet file c.definition.enclosing thing c.constant.value
      (const_uses files order consts are are_quiet file tree is n c) from known value in
      let site : Site = record { consts = consts; names = (names_of files order).files; file = file } in
      let one = both_empty (refused_circle site thing c.constant.name) _ (const_quiet files order consts are are_quiet file tree is n c) in
      let two = both_empty (refused_const_value site thing c.constant) (refused_lengths file c.constant.kind.base) one.1 in
      let quiet : refused_const_as file c.constant.name (place_of_value c.constant.value) (basic_of_base c.constant.kind.base) (Some known) ≡ [] =
      subst
      (λ (o : Option Known). refused_const_as file c.constant.name (place_of_value c.constant.value) (basic_of_base c.constant.kind.base) o ≡ []) there
      two.0 in
      subst (λ (o : Option Basic). refused_const_as file c.constant.name (place_of_value c.constant.value) o (Some known) ≡ []) is_basic quiet

  -- the lengths in its type
  lengths_kept : refused_lengths file c.constant.kind.base ≡ []
  lengths_kept =
      let thing : ℕ = (place files order file tree is).begin + n in
      let site : Site = record { consts = consts; names = (names_of files order).files; file = file } in
      let one = both_empty (refused_circle site thing c.constant.name) _ (const_quiet files order consts are are_quiet file tree is n c) in
      (both_empty (refused_const_value site thing c.constant) (refused_lengths file c.constant.kind.base) one.1).1

  fits_kind : (k : KindTree) (l : Literal) → kind_of rows scope c.constant.kind ≡ Some k
      → value_in consts (names_of files order).files file c.definition.enclosing c.constant.value ≡ Some (known_of l) → Fits k l
  fits_kind k l found value = go (basic_of_base c.constant.kind.base) refl
    where
      go : (basic : Option Basic) → basic_of_base c.constant.kind.base ≡ basic → Fits k l
      go None is_basic =
          let quiet = quiet_as None is_basic (λ o. refl) (known_of l) value in
          absurd cc
      go (Some b) is_basic =
          let kind = basic_found rows scope c.constant.kind.base c.constant.kind.nullable b k is_basic found in
          let quiet = quiet_as (Some b) is_basic (λ o. plain_origin c.constant.kind.nullable b k o kind) (known_of l) value in
          fits_basic file c.constant.name (place_of_value c.constant.value) c.constant.kind.nullable b k l kind
          (plain_value file c.constant.name (place_of_value c.constant.value) c.constant.kind.nullable b k (known_of l) kind quiet)

  made : (full : List ℕ) (k : KindTree) (l : Literal) → kind_of rows scope c.constant.kind ≡ Some k → literal_in scope c.constant.value ≡ Some l
      → IsConst rows (text full) (const_with full k l)
  made full k l found literal =
      let value = literal_known (value_in consts (names_of files order).files file c.definition.enclosing c.constant.value) l literal in
      record {
        name = refl;
        kind = as_written rows scope file c.constant.kind.base c.constant.kind.nullable k found lengths_kept;
        value = is_value (text full).site c.constant.value (known_of l) value;
        fits = fits_kind k l found value;
      }

  -- the row of a constant, where it has one
  pub const_kept : (full : List ℕ) (row : ConstRow) → const_row rows scope full c.constant ≡ Some row → IsConst rows (text full) row
  const_kept full row e = go (kind_of rows scope c.constant.kind) refl (literal_in scope c.constant.value) refl e
    where
      go : (o : Option KindTree) → kind_of rows scope c.constant.kind ≡ o → (p : Option Literal) → literal_in scope c.constant.value ≡ p
          → option_and_then (λ (k : KindTree). option_map (const_with full k) p) o ≡ Some row → IsConst rows (text full) row
      go None found p literal e = absurd (none-some row e)
      go (Some k) found None literal e = absurd (none-some row e)
      go (Some k) found (Some l) literal e = subst (IsConst rows (text full)) (same_Some (const_with full k l) row e) (made full k l found literal)
