use Rattle.std.proofs.Common.{rules, codes, ◌∙◌, sym}
use Rattle.clap.specs.Words.{found_of}
use Rattle.clap.proofs.WalkLemmas.{first_value-rows}
use Rattle.command_line.proofs.Orders.{none_given, one_given}
use Rattle.command_line.specs.Asked.{OnWrongUse}
use Rattle.command_line.specs.declared.asked.WordsError.{WordsError}
use Rattle.command_line.specs.declared.asked.WordsError.TheVariants.{Memory, WrongUse}
use Rattle.command_line.proofs.read.found_order.Goals as goal

-- an error comes on a wrong use where that is one
wrong : (error : WordsError) (Such : Type 0) → Such → OnWrongUse Such error
wrong (WrongUse text) Such is = is
wrong Memory Such is = tt

pub returns-in_default-clause-ok : goal.returns-in_default-clause-ok
returns-in_default-clause-ok c =
    none_given c.get_str.result _ (c.get_str.ensures ∙ first_value-rows (found_of c.args.found.now) (codes "order")) (search rules)

pub returns-in-Some-2-clause-ok : goal.returns-in-Some-2-clause-ok
returns-in-Some-2-clause-ok c =
    one_given c.get_str.result _ c.in-Some.text _ (c.get_str.ensures ∙ first_value-rows (found_of c.args.found.now) (codes "order")) (search rules)
    (search rules)

pub returns-in_ok-wrong_number-in-None-clause-wrong_use : goal.returns-in_ok-wrong_number-in-None-clause-wrong_use
returns-in_ok-wrong_number-in-None-clause-wrong_use c =
    wrong c.in_ok-wrong_number-in-None.field-0 _
    (sym (one_given c.get_str.result _ c.in-Some.text _ (c.get_str.ensures ∙ first_value-rows (found_of c.args.found.now) (codes "order"))
    (search rules) (search rules)))
