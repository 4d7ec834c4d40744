use Rattle.std.proofs.Common.{◌≡◌, sym, ◌∙◌}
use Rattle.mj_base.specs.Bytes.{number32}
use Rattle.wire_model.specs.Values.{value}
use Rattle.wire_view.proofs.Targets.{sized_value, null_union}
use Rattle.wire_view.proofs.objects.inline_at.Goals as goal

pub returns-then-le32-eq0-clause-value : goal.returns-then-le32-eq0-clause-value
returns-then-le32-eq0-clause-value c =
    null_union (value c.args.left c.args.schema.now c.args.bytes.now) c.args.schema.now c.args.bytes.now c.args.at c.args.number
    (sym c.le32.ensures ∙ c.if-le32-eq0.true)

pub union_at-requires-clause-some : goal.union_at-requires-clause-some
union_at-requires-clause-some c = λ e. c.if-le32-eq0.false (c.le32.ensures ∙ e)

pub union_at-requires-clause-readable : goal.union_at-requires-clause-readable
union_at-requires-clause-readable c = c.requires.readable (λ e. c.if-le32-eq0.false (c.le32.ensures ∙ e))

pub returns-clause-value : goal.returns-clause-value
returns-clause-value c =
    let some : number32 c.args.bytes.now c.args.at ≡ 0 → ⊥ = λ e. c.if-le32-eq0.false (c.le32.ensures ∙ e) in
    c.union_at.ensures.value
    ∙ sized_value c.args.schema.now c.args.bytes.now c.args.at c.args.number some (value c.args.left c.args.schema.now c.args.bytes.now)
