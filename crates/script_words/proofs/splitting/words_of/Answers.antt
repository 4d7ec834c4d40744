use Rattle.std.proofs.Common.{sym, ◌∙◌, ap, arith, lit≤, refl}
use Rattle.script_words.specs.Pieces.{Outside}
use Rattle.script_words.specs.steps.Pieces.{place_view}
use Rattle.script_words.proofs.LineWords.{word_ends, word_grows, none_before}
use Rattle.script_words.proofs.splitting.words_of.Goals.{then-parts_words+in_ok-push, else-parts_words}
use Rattle.script_words.proofs.splitting.words_of.Goals as goal

pub loop-at-init : goal.loop-at-init
loop-at-init c = record { within = lit≤ tt; words = rw c.new-words.ensures.items (sym (none_before Outside c.args.line.now)) }

pub loop-at-preserved : goal.loop-at-preserved
loop-at-preserved c = elim c.if-parts_words.branch [
  | then-parts_words+in_ok-push w ↦ record {
    within = omega (arith, w.from-is);
    words =
        word_ends (place_view c.loop-at.place) (place_view c.behind-place.result) c.args.line.now _ c.loop-at.words.items _ _ c.loop-at.from c.loop-at.at _
        c.loop-at-test.true (sym c.parts_words.ensures ∙ w.if-parts_words.true) c.behind-place.ensures w.from-is
        (ap (λ v. v.items) w.words-is ∙ w.in_ok-push.ensures.items) refl c.loop-at.invariant.words;
  }
  | else-parts_words w ↦ record {
    within = omega (arith, w.from-is);
    words =
        rw (w.from-is, w.words-is)
        (word_grows (place_view c.loop-at.place) (place_view c.behind-place.result) c.args.line.now _ _ c.loop-at.from c.loop-at.at c.loop-at-test.true
        c.loop-at.invariant.within (sym c.parts_words.ensures ∙ w.if-parts_words.false) c.behind-place.ensures c.loop-at.invariant.words);
  }
]
