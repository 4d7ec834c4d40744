use Rattle.std.proofs.Common.{arith, sym, ◌∙◌, inl, inr}
use Rattle.const_meanings.proofs.Reaching.{value_at, circular_at, nothing_at}
use Rattle.const_meanings.proofs.meaning.meaning_of.Goals as goal
use Rattle.const_meanings.proofs.meaning.meaning_of.Goals.{else-marks-number-via-then-marks-number+else-not-needs_nothing, else-marks-number-via-else-marks-number}

pub returns-then-is_written : goal.returns-then-is_written
returns-then-is_written c =
    value_at
    c.args.things.now
    4294967296
    (omega (arith, c.requires.few))
    c.args.reaches.now
    c.requires.far
    c.args.number
    c.requires.there
    _
    (sym c.is_written.ensures ∙ c.if-is_written.true)

pub returns-then-not-needs_nothing : goal.returns-then-not-needs_nothing
returns-then-not-needs_nothing c =
    circular_at
    c.args.things.now
    4294967296
    (omega (arith, c.requires.few))
    c.args.reaches.now
    c.requires.far
    c.args.number
    c.requires.there
    _
    (sym c.needs_nothing.ensures ∙ c.if-not-needs_nothing.true)
    (sym (c.requires.marks c.args.number c.requires.there) ∙ c.if-marks-number.true)

pub returns-else-marks-number : goal.returns-else-marks-number
returns-else-marks-number c =
    nothing_at
    c.args.things.now
    4294967296
    (omega (arith, c.requires.few))
    c.args.reaches.now
    c.requires.far
    c.args.number
    c.requires.there
    _
    (sym c.is_written.ensures ∙ c.if-is_written.false)
    (elim c.else-marks-number.branch [
      | else-marks-number-via-then-marks-number+else-not-needs_nothing w ↦ inl (sym w.needs_nothing.ensures
          ∙ w.if-not-needs_nothing.false)
      | else-marks-number-via-else-marks-number w ↦ inr (sym (c.requires.marks c.args.number c.requires.there) ∙ w.if-marks-number.false)
    ])
