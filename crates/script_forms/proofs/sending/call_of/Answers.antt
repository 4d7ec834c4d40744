use Rattle.std.proofs.Common.{sym, ◌∙◌}
use Rattle.script_forms.proofs.Sendings.{joined, call_named, call_valued}
use Rattle.script_forms.proofs.sending.call_of.Goals as goal
use Rattle.script_forms.proofs.sending.call_of.Goals.{else-not-is_empty-via-then-not-is_empty+else-are_names, else-not-is_empty-via-else-not-is_empty}

pub returns-else-not-is_empty : goal.returns-else-not-is_empty
returns-else-not-is_empty c seqs said is there e =
    let are = joined _ _ _ _ _ _ _ c.in-Some.ensures.some c.in-Some-first_word.ensures.some c.in-Some-first_word-2.ensures.some in
    elim c.else-not-is_empty.branch [
      | else-not-is_empty-via-then-not-is_empty+else-are_names w ↦
          call_named c.args.moment _ said is _ _ _ _ are e (sym w.are_names.ensures ∙ w.if-are_names.false)
      | else-not-is_empty-via-else-not-is_empty w ↦ call_valued c.args.moment _ said is _ _ _ _ are e (sym c.is_empty.ensures ∙ w.if-not-is_empty.false)
    ]
