use Rattle.std.proofs.Common.{arith, rules, ℕ, List, length, take, sym, ap, ◌∙◌, ◌++◌, ◌≡◌, ◌≤◌, Bool, true, false}
use Rattle.std.specs.Prelude.{if◌then◌else◌}
use Rattle.std.proofs.lemmas.List.{take-append-le, length-take}
use Rattle.mj_io.proofs.Streams.{takes_few, read_more}
use Rattle.mj_io.proofs.real.read_up_to.Goals as goal

pub returns-then-count-left-clause-took : goal.returns-then-count-left-clause-took
returns-then-count-left-clause-took g c =
    takes_few _ c.loop.left c.in-Ok.count _ _ _ _ _ (take c.in-Ok.count c.read.new.buf) c.loop.invariant (c.in-Ok.ensures.bytes.0)
    (sym (c.in-Ok.ensures.bound.1))
    (omega (arith, c.in-Ok.ensures.bound.0, c.read.auto.buf, length-take c.min-room.result c.loop.piece, c.saturating_add.ensures, c.min-room.ensures))

pub returns-then-is_err-clause-took : goal.returns-then-is_err-clause-took
returns-then-is_err-clause-took g c =
    takes_few _ c.loop.left c.in-Ok.count _ _ _ _ _ (take c.in-Ok.count c.read.new.buf) c.loop.invariant (c.in-Ok.ensures.bytes.0)
    (sym (c.in-Ok.ensures.bound.1))
    (omega arith)

-- what was appended is what was read
appended : (done : Bool) (n : ℕ) (old new buf rest : List ℕ) → new ≡ (if done then old ++ take n (buf ++ rest) else old) → done ≡ true
    → n ≤ length buf → new ≡ old ++ take n buf
appended true n old new buf rest e holds within = e ∙ ap (λ xs. old ++ xs) (take-append-le n buf rest within)
appended false n old new buf rest e holds within = absurd (cc)

pub loop-preserved : goal.loop-preserved
loop-preserved g c =
    rw (appended _ c.in-Ok.count c.loop.into.items _ c.read.new.buf _ c.extend_from_slice.ensures.items (search rules) (c.in-Ok.ensures.bound.0))
    (read_more _ c.loop.left c.in-Ok.count _ _ _ _ _ (take c.in-Ok.count c.read.new.buf) c.loop.invariant (c.in-Ok.ensures.bytes.0)
    (sym (c.in-Ok.ensures.bound.1)) c.if-count-left.false)
