use Rattle.std.proofs.Common.{ap, sym, ◌∙◌}
use Rattle.mj_schema.specs.KindTrees.{kind_view}
use Rattle.mj_schema.specs.declared.kind.KindNode.{KindNode}
use Rattle.breaking_changes.specs.steps.Flat.{flat_fits}
use Rattle.breaking_changes.proofs.kinds.flat_fits.Goals as goal

pub returns-in-Bool : goal.returns-in-Bool
returns-in-Bool c =
    c.bools_fit.ensures c.args.namesakes.now
    ∙ ap (λ (k : KindNode). flat_fits c.args.namesakes.now (kind_view k) (kind_view c.args.b.now)) (sym c.in-Bool.is)

pub returns-in-Int : goal.returns-in-Int
returns-in-Int c =
    c.ints_fit.ensures c.args.namesakes.now
    ∙ ap (λ (k : KindNode). flat_fits c.args.namesakes.now (kind_view k) (kind_view c.args.b.now)) (sym c.in-Int.is)

pub returns-in-Enum : goal.returns-in-Enum
returns-in-Enum c =
    c.enums_fit.ensures c.args.namesakes.now c.in-Enum.number
    ∙ ap (λ (k : KindNode). flat_fits c.args.namesakes.now (kind_view k) (kind_view c.args.b.now)) (sym c.in-Enum.is)

pub returns-in-Text : goal.returns-in-Text
returns-in-Text c =
    c.texts_fit.ensures c.args.namesakes.now
    ∙ ap (λ (k : KindNode). flat_fits c.args.namesakes.now (kind_view k) (kind_view c.args.b.now)) (sym c.in-Text.is)

pub returns-in-Handle : goal.returns-in-Handle
returns-in-Handle c =
    c.handles_fit.ensures c.args.namesakes.now
    ∙ ap (λ (k : KindNode). flat_fits c.args.namesakes.now (kind_view k) (kind_view c.args.b.now)) (sym c.in-Handle.is)

pub returns-in-Struct : goal.returns-in-Struct
returns-in-Struct c =
    c.structs_fit.ensures c.args.namesakes.now c.in-Struct.number
    ∙ ap (λ (k : KindNode). flat_fits c.args.namesakes.now (kind_view k) (kind_view c.args.b.now)) (sym c.in-Struct.is)

pub returns-in-Union : goal.returns-in-Union
returns-in-Union c =
    c.unions_fit.ensures c.args.namesakes.now c.in-Union.number
    ∙ ap (λ (k : KindNode). flat_fits c.args.namesakes.now (kind_view k) (kind_view c.args.b.now)) (sym c.in-Union.is)
