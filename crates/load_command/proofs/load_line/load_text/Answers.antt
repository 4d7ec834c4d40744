use Rattle.std.proofs.Common.{◌≡◌, sym, subst, inl}
use Rattle.std.proofs.lemmas.Result.{IfErr-weaker, IfOk-weaker}
use Rattle.mojom_compile.specs.Schemas.{IsOfGiven, IsWhy}
use Rattle.mojom_compile.specs.declared.schema_error.SchemaError.{SchemaError}
use Rattle.mojom_compile.specs.declared.schema_error.SchemaError.TheVariants.{Memory}
use Rattle.load_command.specs.LoadFile.{load_sources}
use Rattle.load_command.specs.LoadLine.{Counted, HasCounts}
use Rattle.load_command.proofs.load_line.load_text.Goals as goal

pub returns-in-Ok-clause-text : goal.returns-in-Ok-clause-text
returns-in-Ok-clause-text c =
    IfOk-weaker c.run_load.result (Counted c.in-Ok.schema c.args.seed c.args.messages) (HasCounts c.args.seed c.args.messages)
    (λ text h. (c.in-Ok.schema, c.in-Ok.ensures.schema, h)) c.run_load.ensures.text

pub returns-in-Ok-clause-refused : goal.returns-in-Ok-clause-refused
returns-in-Ok-clause-refused c =
    IfErr-weaker c.run_load.result (λ error. error ≡ Memory) (IsWhy load_sources) (λ error is. inl is) c.run_load.ensures.memory

pub returns-in-Ok-clause-given : goal.returns-in-Ok-clause-given
returns-in-Ok-clause-given c =
    IfErr-weaker c.run_load.result (λ error. error ≡ Memory) (IsOfGiven load_sources)
    (λ error is. subst (λ (e : SchemaError). IsOfGiven load_sources e) (sym is) tt) c.run_load.ensures.memory
