use Rattle.std.proofs.Common.{Bool, Some, sym, ap, ◌∙◌}
use Rattle.mj_schema.specs.KindTrees.{kind_view}
use Rattle.wire_view.specs.Parts.{flag_number}
use Rattle.wire_view.specs.steps.SlotNumbers.{number_at}
use Rattle.wire_view.proofs.numbers.number_at.Goals as goal

pub returns-in-Bool : goal.returns-in-Bool
returns-in-Bool c =
    c.as_number.ensures ∙ ap (λ (b : Bool). Some (flag_number b)) c.bit_at.ensures
    ∙ ap (number_at c.args.bytes.now c.args.at c.args.bit) (sym (ap kind_view c.in-Bool.is))
