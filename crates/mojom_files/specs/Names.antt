-- Names: identifiers with dots between them (Mojom IDL, "Modules").
use Rattle.std.specs.Prelude.{ℕ, List, codes}
use Rattle.std.specs.List.{join_by}
use Rattle.mojom_ast.specs.declared.names.Identifier.{Identifier}

-- the text of a name: its identifiers with dots between them
abbrev pub dotted : List Identifier → List ℕ
dotted parts = join_by (λ (part : Identifier). part.text) (codes ".") parts
