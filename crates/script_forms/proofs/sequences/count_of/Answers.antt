use Rattle.std.proofs.Common.{◌≡◌, sym, ◌∙◌, subst, arith}
use Rattle.std.proofs.lemmas.Fmt.{decimal_injective}
use Rattle.script_forms.specs.Forms.{AreSequences}
use Rattle.script_forms.proofs.sequences.count_of.Goals as goal

pub returns-in_default : goal.returns-in_default
returns-in_default c n h e =
    let spelled = rw c.in-Some.is at c.in_ok-seqs.ensures in
    let same : n ≡ c.in-Some.seqs = decimal_injective n c.in-Some.seqs (omega (arith, h.1)) (omega arith) (sym e ∙ spelled) in
    let yes = c.are_sequences.ensures.1 (subst AreSequences same h) in
    let no = c.if-are_sequences.false in cc
