-- How the cause of a refused name, constant or kind stands in a line.
use Rattle.std.specs.Prelude.{ℕ, decimal, ◌++◌, List, codes}
use Rattle.std.specs.List.{flat_map}
use Rattle.std.specs.Fmt.{signed_decimal}
use Rattle.mojom_files.specs.Basics.{basic_name}
use Rattle.mojom_files.specs.Causes.{Cause}
use Rattle.mojom_files.specs.Causes.{NoFile, CircularImport, DuplicateName, UnknownName, WrongSort, CircularConst}
use Rattle.mojom_files.specs.Causes.{WrongLiteral, OutOfRange, TooManyFields, EmptyEnum, DoubleDefault}
use Rattle.mojom_files.specs.Causes.{FloatField, BadMapKey, NullableKey, BadNullable, ZeroLengthArray}
use Rattle.mojom_files.specs.Causes.{OrdinalDouble, OrdinalGap, VersionFalls, LateNotNullable}

-- names, with a blank before each
abbrev pub names_text : List (List ℕ) → List ℕ
names_text names = flat_map (λ (name : List ℕ). codes " " ++ name) names

-- its name, and then what it tells, with a blank before each part
abbrev pub language_text : Cause → List ℕ
language_text (NoFile path) = codes "NoFile " ++ path
language_text (CircularImport names) = codes "CircularImport" ++ names_text names
language_text (DuplicateName name) = codes "DuplicateName " ++ name
language_text (UnknownName name) = codes "UnknownName " ++ name
language_text (WrongSort name) = codes "WrongSort " ++ name
language_text (CircularConst name) = codes "CircularConst " ++ name
language_text (WrongLiteral name) = codes "WrongLiteral " ++ name
language_text (OutOfRange kind value) = codes "OutOfRange " ++ (basic_name kind ++ (codes " " ++ signed_decimal value))
language_text (TooManyFields name) = codes "TooManyFields " ++ name
language_text (EmptyEnum name) = codes "EmptyEnum " ++ name
language_text (DoubleDefault name) = codes "DoubleDefault " ++ name
language_text (FloatField name) = codes "FloatField " ++ name
language_text (BadMapKey name) = codes "BadMapKey " ++ name
language_text (NullableKey name) = codes "NullableKey " ++ name
language_text (BadNullable name) = codes "BadNullable " ++ name
language_text (ZeroLengthArray name) = codes "ZeroLengthArray " ++ name
language_text (OrdinalDouble name ordinal) = codes "OrdinalDouble " ++ (name ++ (codes " " ++ decimal ordinal))
language_text (OrdinalGap name ordinal) = codes "OrdinalGap " ++ (name ++ (codes " " ++ decimal ordinal))
language_text (VersionFalls name before here) = codes "VersionFalls " ++ (name ++ (codes " " ++ (decimal before ++ (codes " " ++ decimal here))))
language_text (LateNotNullable name) = codes "LateNotNullable " ++ name
