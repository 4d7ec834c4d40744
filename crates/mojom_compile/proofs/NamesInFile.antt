-- What is refused of the order and of the names of a file stands in it.
use Rattle.std.proofs.Common.{ℕ, List, refl}
use Rattle.std.specs.Prelude.{not, Option, Some, None, is_none, Bool}
use Rattle.std.specs.List.{flat_map}
use Rattle.mojom_files.specs.declared.named_file.NamedFile.{NamedFile}
use Rattle.mojom_files.specs.Causes.{DuplicateName, UnknownName, WrongSort}
use Rattle.mojom_files.specs.Names.{dotted}
use Rattle.mojom_files.specs.Definitions.{definitions_of}
use Rattle.module_resolver.specs.declared.target.Target.{Target}
use Rattle.module_resolver.specs.declared.file_names.FileNames.{FileNames}
use Rattle.module_resolver.specs.LookUp.{look_up}
use Rattle.import_order.specs.Order.{imported, missing_import, missing, is_given_before, given_refusals}
use Rattle.name_refusals.specs.NameRefusals.{duplicate, repeated_in, place_of, fits, refused_meaning, refused_use, refusals_in}
use Rattle.name_refusals.specs.Uses.{Use, uses_of}
use Rattle.mojom_compile.proofs.InFile.{AllIn, single, both, tested, said_of_each, one_of_each}

-- what is refused before any order
pub given_in : (names : List (List ℕ)) (number : ℕ) (file : NamedFile) → AllIn number (given_refusals names number file)
given_in names number file =
    both (tested (is_given_before names number file.name) (record { file = number; at = 0; cause = DuplicateName file.name }) refl)
    (said_of_each (missing names number) file.tree.imports (λ one. tested (is_none (imported names one)) (missing_import number one) refl))

of_meaning : (names : List FileNames) (number : ℕ) (used : Use) (meant : Option Target) → AllIn number (refused_meaning names number used meant)
of_meaning names number used None = single (record { file = number; at = place_of used.parts; cause = UnknownName (dotted used.parts) }) refl
of_meaning names number used (Some target) =
    tested (not (fits names used.wanted target)) (record { file = number; at = place_of used.parts; cause = WrongSort (dotted used.parts) }) refl

-- all refusals of names
pub names_in : (names : List FileNames) (known : List ℕ → Bool) (number : ℕ) (file : NamedFile) → AllIn number (refusals_in names known number file)
names_in names known number file =
    both (one_of_each (duplicate number) (repeated_in known (definitions_of file.tree)) (λ name. refl))
    (said_of_each (refused_use names number) (flat_map uses_of (definitions_of file.tree))
    (λ used. of_meaning names number used (look_up names number used.enclosing (dotted used.parts))))
