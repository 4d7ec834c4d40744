use Rattle.std.proofs.Common.{◌∙◌, List, ap, refl, subst, sym, ℕ}
use Rattle.load_command.specs.LoadFile.{load_sources}
use Rattle.mojom_compile.specs.Schemas.{IsOfGiven}
use Rattle.mojom_compile.specs.declared.schema_error.SchemaError.{SchemaError}
use Rattle.mojo_tool.specs.Work.{Refuses, Rejects, unchecked}
use Rattle.mojo_tool.proofs.Loads.{first_name}
use Rattle.mojo_tool.proofs.load.load_refused.Goals as goal

pub returns-in-Unread : goal.returns-in-Unread
returns-in-Unread c =
    let name = first_name c.in-Unread._file (subst (λ (e : SchemaError). IsOfGiven load_sources e) c.in-Unread.is c.requires) in
    (ap (λ (n : List ℕ). Refuses n c.in-Unread.refusal) (sym name) ∙ ap (unchecked load_sources) (sym c.in-Unread.is), refl)

pub returns-in-Refused : goal.returns-in-Refused
returns-in-Refused c =
    let why = c.in-Refused.refusal in
    let name = first_name why.file (subst (λ (e : SchemaError). IsOfGiven load_sources e) c.in-Refused.is c.requires) in
    (ap (λ (n : List ℕ). Rejects n why.at why.cause) (sym name) ∙ ap (unchecked load_sources) (sym c.in-Refused.is), refl)
