use Rattle.std.proofs.Common.{sym, ◌∙◌, ap, arith, lit≤, refl}
use Rattle.script_words.proofs.Parts.{noted_at, longer, none_before}
use Rattle.script_words.proofs.splitting.split.Goals.{then-byte-separator+in_ok-push, else-byte-separator}
use Rattle.script_words.proofs.splitting.split.Goals as goal

pub loop-at-init : goal.loop-at-init
loop-at-init c = record { within = lit≤ tt; parts = rw c.new-parts.ensures.items (sym (none_before c.args.separator c.args.text.now)) }

pub loop-at-preserved : goal.loop-at-preserved
loop-at-preserved c = elim c.if-byte-separator.branch [
  | then-byte-separator+in_ok-push w ↦ record {
    within = omega (arith, w.from-is);
    parts =
        noted_at c.args.separator c.args.text.now _ c.loop-at.parts.items _ _ c.loop-at.from c.loop-at.at _ c.loop-at-test.true
        w.if-byte-separator.true w.from-is (ap (λ v. v.items) w.parts-is ∙ w.in_ok-push.ensures.items) refl c.loop-at.invariant.parts;
  }
  | else-byte-separator w ↦ record {
    within = omega (arith, w.from-is);
    parts =
        rw (w.from-is, w.parts-is)
        (longer c.args.separator _ c.args.text.now _ _ c.loop-at.from c.loop-at.at c.loop-at-test.true c.loop-at.invariant.within refl
        w.if-byte-separator.false c.loop-at.invariant.parts);
  }
]
