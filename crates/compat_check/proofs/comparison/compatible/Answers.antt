use Rattle.std.proofs.Common.{◌≡◌, List, length, subst, ap, sym, ◌∙◌, arith}
use Rattle.mj_schema.specs.declared.schema.Schema.{Schema}
use Rattle.compat_model.specs.declared.reason.Verdict.{Verdict}
use Rattle.compat_model.specs.declared.root.Root.{Root}
use Rattle.compat_model.specs.Verdicts.{namesakes, roots, Judges}
use Rattle.compat_laws.proofs.Stable.{reads_stable}
use Rattle.compat_check.proofs.Turns.{judged}
use Rattle.compat_check.proofs.comparison.compatible.Goals as goal

pub first_reason_of-requires-clause-names : goal.first_reason_of-requires-clause-names
first_reason_of-requires-clause-names c =
    c.as_slice.ensures.value
    ∙ (c.in_ok-names.ensures ∙ ap (λ (schema : Schema). namesakes c.args.old.now schema) c.in_ok-named.ensures.schema)

pub first_reason_of-requires-clause-roots : goal.first_reason_of-requires-clause-roots
first_reason_of-requires-clause-roots c =
    c.as_slice-2.ensures.value
    ∙ (c.in_ok-stable.ensures ∙ ap (λ (schema : Schema). roots c.args.old.now schema) c.in_ok-named.ensures.schema)

pub returns-clause-verdict : goal.returns-clause-verdict
returns-clause-verdict c =
    let old = c.args.old.now in
    let new = c.args.new.now in
    let listed : length c.in_ok-stable.stable.items ≡ length (roots old new) =
    ap (λ (rs : List Root). length rs) c.in_ok-stable.ensures
    ∙ ap (λ (schema : Schema). length (roots old schema)) c.in_ok-named.ensures.schema in
    let stable : c.len.result ≡ length (roots old new) = omega (arith, listed) in
    subst (λ (v : Verdict). Judges old new v) (sym c.in_ok-made.ensures)
    (judged old new c.in_ok-reason.reason c.len.result c.in_ok-reason.ensures stable)

pub returns-clause-reads : goal.returns-clause-reads
returns-clause-reads c stable is =
    let old = c.args.old.now in
    let new = c.args.new.now in
    reads_stable old new (subst (λ (v : Verdict). Judges old new v) is (returns-clause-verdict c)).0
