use Rattle.std.proofs.Common.{◌≡◌, ◌<◌, sym, ◌∙◌, inl, inr, arith}
use Rattle.std.specs.Prelude.{◌==◌, false, vec_len}
use Rattle.std.proofs.lemmas.Result.{err_from_is_err_and}
use Rattle.call_script.proofs.AutoLemmas.{not_prepared, carries, some_there}
use Rattle.call_script.proofs.additions.reply_of.Goals as goal

pub returns-in_err-prepared : goal.returns-in_err-prepared
returns-in_err-prepared c =
    let p = err_from_is_err_and c.from_residual.result c.from_residual.ensures.1 in
    rw (p.1, p.2) (
    not_prepared c.args.indexed.now.schema.now c.args.seq c.args.method.now c.args.value.now c.in-Some.target c.in-Some.number
    (sym c.in-Some.ensures) _ c.in_err-prepared.ensures
    )

pub returns-then-prepared-gt0 : goal.returns-then-prepared-gt0
returns-then-prepared-gt0 c =
    carries c.args.indexed.now.schema.now c.args.seq c.args.method.now c.args.value.now c.in-Some.target c.in-Some.number
    (sym c.in-Some.ensures) c.in_ok-prepared.prepared c.in_ok-prepared.ensures (inl c.if-prepared-gt0.true)

pub returns-then-not-is_empty : goal.returns-then-not-is_empty
returns-then-not-is_empty c =
    let endpoints = c.in_ok-prepared.prepared.endpoints in
    let some : (vec_len endpoints == 0) ≡ false = sym c.is_empty.ensures ∙ c.if-not-is_empty.true in
    let there : 0 < vec_len endpoints = some_there (vec_len endpoints) some in
    carries c.args.indexed.now.schema.now c.args.seq c.args.method.now c.args.value.now c.in-Some.target c.in-Some.number
    (sym c.in-Some.ensures) c.in_ok-prepared.prepared c.in_ok-prepared.ensures (inr (omega (arith, there, endpoints.ok.0)))
