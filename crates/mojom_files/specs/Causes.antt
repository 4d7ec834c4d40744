-- Why files of the grammar's form are refused.
use Rattle.std.specs.Prelude.{ℕ, ℤ, List}
use Rattle.mojom_files.specs.declared.basic.Basic.{Basic}
use Rattle.mojom_files.specs.declared.cause.NamedCause.{NamedCause}
use Rattle.mojom_files.specs.declared.cause.NamedCause.TheVariants as causes
use Rattle.mojom_files.specs.declared.cause.CauseParts.{CauseParts}
use Rattle.mojom_files.specs.declared.cause.CauseParts.TheVariants as parts

-- why a file is refused, in the order in which causes at one place are answered
pub data Cause : Type 0 where
  NoFile : (path : List ℕ) → Cause
  CircularImport : (names : List (List ℕ)) → Cause
  DuplicateName : (name : List ℕ) → Cause
  UnknownName : (name : List ℕ) → Cause
  WrongSort : (name : List ℕ) → Cause
  CircularConst : (name : List ℕ) → Cause
  WrongLiteral : (name : List ℕ) → Cause
  OutOfRange : (kind : Basic) → (value : ℤ) → Cause
  TooManyFields : (name : List ℕ) → Cause
  EmptyEnum : (name : List ℕ) → Cause
  DoubleDefault : (name : List ℕ) → Cause
  FloatField : (name : List ℕ) → Cause
  BadMapKey : (name : List ℕ) → Cause
  NullableKey : (name : List ℕ) → Cause
  BadNullable : (name : List ℕ) → Cause
  ZeroLengthArray : (name : List ℕ) → Cause
  OrdinalDouble : (name : List ℕ) → (ordinal : ℕ) → Cause
  OrdinalGap : (name : List ℕ) → (ordinal : ℕ) → Cause
  VersionFalls : (name : List ℕ) → (before : ℕ) → (here : ℕ) → Cause
  LateNotNullable : (name : List ℕ) → Cause

-- the cause that goes by a name
abbrev pub named : NamedCause → List ℕ → Cause
named causes.DuplicateName name = DuplicateName name
named causes.UnknownName name = UnknownName name
named causes.WrongSort name = WrongSort name
named causes.CircularConst name = CircularConst name
named causes.WrongLiteral name = WrongLiteral name
named causes.TooManyFields name = TooManyFields name
named causes.EmptyEnum name = EmptyEnum name
named causes.DoubleDefault name = DoubleDefault name
named causes.FloatField name = FloatField name
named causes.BadMapKey name = BadMapKey name
named causes.NullableKey name = NullableKey name
named causes.BadNullable name = BadNullable name
named causes.ZeroLengthArray name = ZeroLengthArray name
named (causes.OrdinalDouble ordinal) name = OrdinalDouble name ordinal
named (causes.OrdinalGap ordinal) name = OrdinalGap name ordinal
named (causes.VersionFalls before here) name = VersionFalls name before here
named causes.LateNotNullable name = LateNotNullable name

-- what the code has of a cause
abbrev pub cause_of : CauseParts → Cause
cause_of (parts.NoFile path) = NoFile path
cause_of (parts.CircularImport names) = CircularImport names
cause_of (parts.OutOfRange kind value) = OutOfRange kind value
cause_of (parts.Named cause name) = named cause name
