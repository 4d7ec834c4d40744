use Rattle.std.proofs.Common.{List, ℕ, Bor, inl, inr}
use Rattle.mojo_tool.proofs.Fetching.{no_schema_reached, have_schema, refused_set, numbered}
use Rattle.mojo_tool.proofs.Made.{tabled_early}
use Rattle.mojo_tool.proofs.Fetching.{schema_read}
use Rattle.mojo_tool.proofs.From.{early_from, tabled_from}
use Rattle.mojo_tool.proofs.check.fetch_schema.Goals as goal

pub returns-in-Err-clause-stop : goal.returns-in-Err-clause-stop
returns-in-Err-clause-stop g c = inl c.in-Err.ensures.stop

pub returns-in-Err-clause-among : goal.returns-in-Err-clause-among
returns-in-Err-clause-among g c = no_schema_reached _ _ _ c.in-Err.stop (inl c.in-Err.ensures.stop)

pub returns-in-Ok-compile-clause-schema : goal.returns-in-Ok-compile-clause-schema
returns-in-Ok-compile-clause-schema g c =
    have_schema _ _ c.in-Ok.fetched.items c.in-Ok-compile.schema c.in-Ok.ensures.sources (rw c.as_slice.ensures.value at c.in-Ok-compile.ensures.schema)

pub refused-requires : goal.refused-requires
refused-requires g c =
    numbered (λ (name : Bor (List ℕ)). name.now) _ c.in-Ok.fetched.items c.args.names.now c.in-Err-compile.error c.as_slice.ensures.value
    c.in-Ok.ensures.named c.in-Err-compile.ensures.given

pub returns-clause-stop : goal.returns-clause-stop
returns-clause-stop g c =
    inr (refused_set _ _ c.in-Ok.fetched.items c.in-Err-compile.error c.refused.result c.in-Ok.ensures.sources
    (rw c.as_slice.ensures.value at c.in-Err-compile.ensures.refused) c.refused.ensures)

pub returns-clause-among : goal.returns-clause-among
returns-clause-among g c =
    no_schema_reached (g.F.Files.state c.args.files.now) (g.F.Files.state c.args.files.now) _ c.refused.result
    (inr (refused_set _ _ c.in-Ok.fetched.items c.in-Err-compile.error c.refused.result c.in-Ok.ensures.sources
    (rw c.as_slice.ensures.value at c.in-Err-compile.ensures.refused) c.refused.ensures))

pub returns-in-Ok-compile-clause-compiled : goal.returns-in-Ok-compile-clause-compiled
returns-in-Ok-compile-clause-compiled g c = (c.in-Ok.fetched.items, rw c.as_slice.ensures.value at c.in-Ok-compile.ensures.schema)

pub returns-clause-stopped : goal.returns-clause-stopped
returns-clause-stopped g c = tabled_early _ c.in-Err-compile.error c.refused.result _ _ c.refused.ensures c.in-Ok.ensures.whole

pub returns-in-Ok-compile-clause-from : goal.returns-in-Ok-compile-clause-from
returns-in-Ok-compile-clause-from g c =
    schema_read _ _ _ c.in-Ok.fetched.items c.in-Ok-compile.schema c.in-Ok.ensures.named c.in-Ok.ensures.came
    (rw c.as_slice.ensures.value at c.in-Ok-compile.ensures.schema)

pub returns-in-Err-clause-refused : goal.returns-in-Err-clause-refused
returns-in-Err-clause-refused g c = early_from _ _ _ c.in-Err.stop c.in-Err.ensures.long

pub returns-clause-refused : goal.returns-clause-refused
returns-clause-refused g c =
    tabled_from _ c.in-Ok.fetched.items _ _ c.in-Ok.ensures.named c.in-Ok.ensures.came c.in-Err-compile.error c.refused.result
    (rw c.as_slice.ensures.value at c.in-Err-compile.ensures.refused) c.refused.ensures
