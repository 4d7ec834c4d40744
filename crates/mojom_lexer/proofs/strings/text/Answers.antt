use Rattle.std.proofs.Common.{ℕ, Vec, Global, refl, sym, ap, ◌∙◌}
use Rattle.mojom_lexer.specs.Strings.{text_of}
use Rattle.mojom_lexer.specs.steps.Scans.{parts_of}
use Rattle.std.specs.Prelude.{false}
use Rattle.mojom_lexer.proofs.Texts.{joined_escape, joined_slash, joined_plain, joined_bad}
use Rattle.mojom_lexer.proofs.strings.text.Goals as goal
use Rattle.mojom_lexer.proofs.strings.text.Goals.{then-after_backslash+in-Some+in_ok-push, else-after_backslash+then-byte-eq92, else-after_backslash+else-byte-eq92+in_ok-push-2}

pub loop-len-preserved : goal.loop-len-preserved
loop-len-preserved c = elim c.if-after_backslash.branch [
  | then-after_backslash+in-Some+in_ok-push w ↦
      joined_escape c.loop-len.len c.loop-len.text.items c.args.inside.now (text_of 1 (parts_of false c.args.inside.now)) c.loop-len-test.true
      c.loop-len.after_backslash c.if-after_backslash.after_backslash c.if-after_backslash.text.items w.in-Some.meant
      w.if-after_backslash.true w.after_backslash-is (ap (λ (v : Vec ℕ Global). v.items) w.text-is ∙ w.in_ok-push.ensures.items)
      c.loop-len.invariant (sym w.in-Some.ensures)
  | else-after_backslash+then-byte-eq92 w ↦
      joined_slash c.loop-len.len c.loop-len.text.items c.args.inside.now (text_of 1 (parts_of false c.args.inside.now)) c.loop-len-test.true
      c.loop-len.after_backslash c.if-after_backslash.after_backslash c.if-after_backslash.text.items
      w.if-after_backslash.false w.after_backslash-is (ap (λ (v : Vec ℕ Global). v.items) w.text-is) c.loop-len.invariant w.if-byte-eq92.true
  | else-after_backslash+else-byte-eq92+in_ok-push-2 w ↦
      joined_plain c.loop-len.len c.loop-len.text.items c.args.inside.now (text_of 1 (parts_of false c.args.inside.now)) c.loop-len-test.true
      c.loop-len.after_backslash c.if-after_backslash.after_backslash c.if-after_backslash.text.items
      w.if-after_backslash.false w.after_backslash-is (ap (λ (v : Vec ℕ Global). v.items) w.text-is ∙ w.in_ok-push-2.ensures.items)
      c.loop-len.invariant w.if-byte-eq92.false
]

pub returns-in_default-clause-refused : goal.returns-in_default-clause-refused
returns-in_default-clause-refused c = (
  c.loop-len.len,
  joined_bad c.loop-len.len c.loop-len.text.items c.args.inside.now (text_of 1 (parts_of false c.args.inside.now)) c.loop-len-test.true
      c.loop-len.after_backslash c.if-after_backslash.true c.loop-len.invariant (sym c.in_default.ensures),
  refl,
)
