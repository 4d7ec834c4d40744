use Rattle.std.proofs.Common.{sym, ◌∙◌, ap, arith, map}
use Rattle.script_words.proofs.Splits.{last_goes, last_stays, some_part}
use Rattle.script_words.proofs.splitting.text_lines.Goals.{in-Some+then-not-is_empty+in_ok-push, in-Some+else-not-is_empty, in_default}
use Rattle.script_words.proofs.splitting.text_lines.Goals as goal

pub returns : goal.returns
returns c = elim c.match-pop.branch [
  | in-Some+then-not-is_empty+in_ok-push w ↦
      ap (λ v. map (λ line. line.now) v.items) w.lines-is
      ∙ last_stays _ _ _ _ _ w.in-Some.ensures.items w.in_ok-push.ensures.items c.in_ok-lines.ensures
      (sym w.is_empty.ensures ∙ w.if-not-is_empty.true)
  | in-Some+else-not-is_empty w ↦
      ap (λ v. map (λ line. line.now) v.items) w.lines-is
      ∙ last_goes _ _ _ _ w.in-Some.ensures.items c.in_ok-lines.ensures (sym w.is_empty.ensures ∙ w.if-not-is_empty.false)
  | in_default w ↦ absurd (omega (arith, some_part c.in_ok-lines.lines.items 10 c.args.text.now c.in_ok-lines.ensures, w.in_default.ensures.cases.0))
]
