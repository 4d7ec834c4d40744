-- The tables of files of which nothing is refused are sound.
use Rattle.std.proofs.Common.{◌≡◌, ◌<◌, ℕ, zero, suc, List, [], ◌∷◌, length, refl, sym, ap, subst, arith}
use Rattle.std.specs.Prelude.{Bool, true, false, not, ◌||◌, ◌==◌, Option, Some, None}
use Rattle.std.specs.List.{AllByRecursion, list_all}
use Rattle.std.proofs.lemmas.Bool.{and_from, le-leb}
use Rattle.mojom_files.specs.declared.named_file.NamedFile.{NamedFile}
use Rattle.module_resolver.specs.NamesOf.{names_of}
use Rattle.module_resolver.specs.declared.file_names.Names.{Names}
use Rattle.const_eval.specs.declared.consts.Consts.{Consts}
use Rattle.mj_base.specs.declared.limits.TheConstants.{MAX_FIELDS}
use Rattle.mj_schema.specs.KindTrees as kinds
use Rattle.mj_schema.specs.KindTrees.{KindTree}
use Rattle.mj_schema.specs.Parts.{has_flag}
use Rattle.mj_schema.specs.Sound.{are_sound, is_default_of, has_default, has_value, is_plain, may_be_null, can_be_absent, is_sound_field}
use Rattle.mj_schema.specs.Sound.{is_sound_struct, is_sound_union, is_sound_enum, is_sound_interface}
use Rattle.mj_schema.specs.declared.rows.DraftField.{DraftField}
use Rattle.mj_schema.specs.declared.rows.DraftStruct.{DraftStruct}
use Rattle.mj_schema.specs.declared.rows.EnumRow.{EnumRow}
use Rattle.mj_schema.specs.declared.rows.Literal.{Literal}
use Rattle.draft_rows.specs.Drafts.{draft_of}
use Rattle.schema_laws.specs.Passed.{IsPassed}
use Rattle.schema_laws.specs.Whole.{CanBeLaidOut}
use Rattle.schema_laws.proofs.Assembly.{whole_passed}
use Rattle.schema_laws.proofs.Each.{all_tested}
use Rattle.written_laws.proofs.Listed.{listed_once}
use Rattle.sound_laws.specs.Sound.{IsSound}
use Rattle.sound_laws.proofs.Defaults.{Holds, IsFine}
use Rattle.sound_laws.proofs.EnumDefaults.{IsEnumLiteral, hold}
use Rattle.sound_laws.proofs.FieldNames.{FieldsOnce, fields_once}
use Rattle.sound_laws.proofs.Fields.{StructFine, AreFine, files_fine}
use Rattle.sound_laws.proofs.Listing.{all_listed}
use Rattle.sound_laws.proofs.OtherRows.{unions_are_sound, interfaces_are_sound, enums_are_sound, consts_are_sound}

-- defaults

module _ (enums : List EnumRow) where
  enum_default : (kind : KindTree) (literal : Literal) → IsEnumLiteral enums kind literal → is_default_of enums kind literal ≡ true
  enum_default kind literal h =
      subst (λ (k : KindTree). is_default_of enums k literal ≡ true) (sym h.3)
      (subst (λ (l : Literal). is_default_of enums (kinds.EnumKind h.0 h.1) l ≡ true) (sym h.4) h.5)

  default_of : (kind : KindTree) (literal : Literal) → Holds (IsEnumLiteral enums) kind literal → is_default_of enums kind literal ≡ true
  default_of (kinds.BoolKind nullable) literal h = subst (λ (l : Literal). is_default_of enums (kinds.BoolKind nullable) l ≡ true) (sym h.1) refl
  default_of (kinds.IntKind width signed nullable) literal h =
      subst (λ (l : Literal). is_default_of enums (kinds.IntKind width signed nullable) l ≡ true) (sym h.1) h.2
  default_of (kinds.TextKind nullable) literal h = subst (λ (l : Literal). is_default_of enums (kinds.TextKind nullable) l ≡ true) (sym h.1) refl
  default_of (kinds.EnumKind n nullable) literal h = enum_default (kinds.EnumKind n nullable) literal h
  default_of (kinds.HandleKind sort nullable) literal h = enum_default (kinds.HandleKind sort nullable) literal h
  default_of (kinds.ArrayKind of count nullable) literal h = enum_default (kinds.ArrayKind of count nullable) literal h
  default_of (kinds.MapKind key one nullable) literal h = enum_default (kinds.MapKind key one nullable) literal h
  default_of (kinds.StructKind n nullable) literal h = enum_default (kinds.StructKind n nullable) literal h
  default_of (kinds.UnionKind n nullable) literal h = enum_default (kinds.UnionKind n nullable) literal h
  default_of (kinds.RemoteKind n nullable) literal h = enum_default (kinds.RemoteKind n nullable) literal h
  default_of (kinds.ReceiverKind n nullable) literal h = enum_default (kinds.ReceiverKind n nullable) literal h
  default_of (kinds.AssociatedRemoteKind n nullable) literal h = enum_default (kinds.AssociatedRemoteKind n nullable) literal h
  default_of (kinds.AssociatedReceiverKind n nullable) literal h = enum_default (kinds.AssociatedReceiverKind n nullable) literal h

  given : (kind : KindTree) (default : Option Literal) → ((literal : Literal) → default ≡ Some literal → Holds (IsEnumLiteral enums) kind literal)
      → ((literal : Literal) → default ≡ Some literal → has_flag kind ≡ false) → has_default enums kind default ≡ true
  given kind None holds flagless = refl
  given kind (Some literal) holds flagless =
      and_from (not (has_flag kind)) (is_default_of enums kind literal) (ap not (flagless literal refl)) (default_of kind literal (holds literal refl))

  or_right : (a b : Bool) → b ≡ true → (a || b) ≡ true
  or_right true b e = refl
  or_right false b e = e

  absent : (version : ℕ) (late : Bool) → (0 < version → late ≡ true) → (version == 0 || late) ≡ true
  absent zero late is = refl
  absent (suc version) late is = or_right (suc version == 0) late (is (omega arith))

  field_sound : (field : DraftField) → IsFine (IsEnumLiteral enums) field → is_sound_field enums field ≡ true
  field_sound field fine =
      and_from (can_be_absent field) (has_default enums field.kind field.default)
      (absent field.min_version (is_plain field.kind || may_be_null field.kind) fine.absent)
      (given field.kind field.default fine.given fine.flagless)

  fields_sound : (fields : List DraftField) → AllByRecursion (IsFine (IsEnumLiteral enums)) fields → list_all (is_sound_field enums) fields ≡ true
  fields_sound [] fine = refl
  fields_sound (f ∷ fs) fine = and_from (is_sound_field enums f) (list_all (is_sound_field enums) fs) (field_sound f fine.0) (fields_sound fs fine.1)

  structs_sound : (rows : List DraftStruct) → AllByRecursion CanBeLaidOut rows → AllByRecursion FieldsOnce rows
      → AllByRecursion (StructFine (IsEnumLiteral enums)) rows → list_all (is_sound_struct enums) rows ≡ true
  structs_sound [] can once fine = refl
  structs_sound (row ∷ rows) can once fine =
      and_from (is_sound_struct enums row) (list_all (is_sound_struct enums) rows)
      (and_from _ _ (le-leb (length row.fields) MAX_FIELDS can.0.few) (and_from _ _ once.0 (fields_sound row.fields fine.0)))
      (structs_sound rows can.1 once.1 fine.1)

-- files

sound_here : (files : List NamedFile) (order : List ℕ) (consts : Consts) → IsPassed files order (names_of files order) consts
    → IsSound (draft_of (names_of files order).files consts files order)
unfolding are_sound
sound_here files order consts passed =
    let names = names_of files order in
    let draft = draft_of names.files consts files order in
    let fine : AreFine (IsEnumLiteral draft.enums) draft =
    files_fine files order names consts passed (IsEnumLiteral draft.enums) (λ at enclosing. hold files order consts passed at enclosing) in
    let structs = structs_sound draft.enums draft.structs (whole_passed files order names consts passed).structs
    (fields_once files order names consts passed) fine.structs in
    let unions = all_tested is_sound_union draft.unions (unions_are_sound files order names consts passed) in
    let enums = all_tested is_sound_enum draft.enums (enums_are_sound files order names consts passed fine.enums) in
    let interfaces = all_tested is_sound_interface draft.interfaces (interfaces_are_sound files order names consts passed) in
    let values = all_tested has_value draft.consts (consts_are_sound files order names consts passed) in
    let listed = all_listed draft (listed_once files order names consts passed) in
    and_from _ _ structs (and_from _ _ unions (and_from _ _ enums (and_from _ _ interfaces (and_from _ _ values listed))))

-- the tables of files that pass are sound
pub sound_draft : (files : List NamedFile) (order : List ℕ) (names : Names) (consts : Consts) → IsPassed files order names consts
    → IsSound (draft_of names.files consts files order)
sound_draft files order names consts passed =
    subst (λ (all : Names). IsSound (draft_of all.files consts files order)) (sym passed.named.are)
    (sound_here files order consts (subst (λ (all : Names). IsPassed files order all consts) passed.named.are passed))
