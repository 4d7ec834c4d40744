use Rattle.std.proofs.Common.{length, length-append, List, [], ◌∷◌, ◌++◌, take, get_or, sym, ap, subst, ◌∙◌}
use Rattle.std.proofs.lemmas.List.{take_more}
use Rattle.compat_model.specs.declared.pair.Pair.{Pair}
use Rattle.compat_model.specs.declared.pair.Pair.TheVariants.{Structs}
use Rattle.compat_check.specs.steps.PairSets.{count, IsSetOf}
use Rattle.compat_check.specs.steps.Skims.{Skims, with_seen}
use Rattle.compat_check.proofs.OneMore.{kept_on, passed_on, count_kept, count_passed}
use Rattle.compat_check.proofs.keep.keep_new.Goals as goal
use Rattle.compat_check.proofs.keep.keep_new.Goals.{then-branch+in_ok-push, else-branch}

pub loop-pair-preserved : goal.loop-pair-preserved
loop-pair-preserved c =
    let pair = get_or c.args.pairs.now c.loop-pair.pair-index (Structs 0 0) in
    let xs = take c.loop-pair.pair-index c.args.pairs.now in
    let more = take_more c.args.pairs.now c.loop-pair.pair-index (Structs 0 0) c.loop-pair-test.true in (
      λ list is.
          let before = c.loop-pair.invariant.0 list is in
          elim c.if-branch.branch [
            | then-branch+in_ok-push w ↦
                subst (λ (l : List Pair). Skims Pair list c.if-branch.kept.items l × IsSetOf c.note.new.seen (with_seen Pair c.if-branch.kept.items list))
                (sym more)
                (subst (λ (l : List Pair). Skims Pair list l (xs ++ (pair ∷ [])) × IsSetOf c.note.new.seen (with_seen Pair l list))
                (sym (ap (λ v. v.items) w.kept-is ∙ w.in_ok-push.ensures.items))
                (kept_on c.loop-pair.seen c.note.new.seen pair list c.loop-pair.kept.items xs before c.in_ok-note.ensures.noted))
            | else-branch w ↦
                subst (λ (l : List Pair). Skims Pair list c.if-branch.kept.items l × IsSetOf c.note.new.seen (with_seen Pair c.if-branch.kept.items list))
                (sym more)
                (subst (λ (l : List Pair). Skims Pair list l (xs ++ (pair ∷ [])) × IsSetOf c.note.new.seen (with_seen Pair l list))
                (sym (ap (λ v. v.items) w.kept-is))
                (passed_on c.loop-pair.seen c.note.new.seen pair list c.loop-pair.kept.items xs before (sym w.if-branch.false ∙ c.in_ok-note.ensures.answer)
                c.in_ok-note.ensures.noted))
          ],
      elim c.if-branch.branch [
        | then-branch+in_ok-push w ↦
            count_kept c.in_ok-note.field-0 _ (count c.loop-pair.seen) (count c.args.seen.now) (length c.loop-pair.kept.items) _ w.if-branch.true
            c.in_ok-note.ensures.counted c.loop-pair.invariant.1
            (ap (λ v. length v.items) w.kept-is ∙ ap length w.in_ok-push.ensures.items ∙ length-append c.loop-pair.kept.items (pair ∷ []))
        | else-branch w ↦
            count_passed c.in_ok-note.field-0 _ (count c.loop-pair.seen) (count c.args.seen.now) (length c.loop-pair.kept.items) _ w.if-branch.false
            c.in_ok-note.ensures.counted c.loop-pair.invariant.1 (ap (λ v. length v.items) w.kept-is)
      ],
    )
