use Rattle.std.proofs.Common.{◌≡◌, sym, ◌∙◌, arith}
use Rattle.std.proofs.lemmas.Fmt.{decimal_injective}
use Rattle.script_forms.proofs.sequences.sequence_number.Goals as goal

pub returns-in_default : goal.returns-in_default
returns-in_default c n h e =
    let spelled = rw c.in-Some.is at c.in_ok-seq.ensures in
    let same : n ≡ c.in-Some.seq = decimal_injective n c.in-Some.seq (omega arith) (omega arith) (sym e ∙ spelled) in
    omega arith
