-- Where names stand.
use Rattle.std.specs.Prelude.{ℕ, List, Option}
use Rattle.module_resolver.specs.declared.file_names.FileNames.{FileNames}

-- where names stand: the names of all files, the number of the file, and the full name of the definition around them
pub record Spot : Type 0 where
  pub files : List FileNames
  pub file : ℕ
  pub enclosing : Option (List ℕ)
