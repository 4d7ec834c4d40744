-- A print of a print.
use Rattle.std.specs.Prelude.{◌≡◌}
use Rattle.mojom_ast.specs.declared.file.File.{File}
use Rattle.mojom_compile.specs.Compiled.{IsParsed}
use Rattle.mojom_print.specs.FileText.{file_text}
use Rattle.mojom_print.specs.Unplaced.{unplaced}

-- the text of the tree has a tree, and no other, that differs from this one in places alone and has the same text
pub record PrintsAgain (tree : File) : Type 0 where
  pub other : File
  pub parsed : IsParsed (file_text tree) other
  pub only : (another : File) → IsParsed (file_text tree) another → another ≡ other
  pub same : unplaced other ≡ unplaced tree
  pub text : file_text other ≡ file_text tree
