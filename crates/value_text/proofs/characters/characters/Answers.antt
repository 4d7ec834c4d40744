use Rattle.std.proofs.Common.{length, sym, ◌∙◌}
use Rattle.std.proofs.lemmas.Result.{err_from_is_err_and}
use Rattle.byte_rules.specs.Lang.{as_value, many}
use Rattle.byte_rules.proofs.Loops.{halts_ok, done_ok, done_err, goes_behind, ends_behind}
use Rattle.value_text.specs.Characters.{character, all_of}
use Rattle.value_text.proofs.characters.characters.Goals as goal

pub returns-then-is_next : goal.returns-then-is_next
returns-then-is_next c = halts_ok (λ x. x) 34 character c.loop.out.items (length c.args.bytes.now) c.loop.counter c.loop.rest.now c.in_ok-rest.rest.now 34
    ((as_value all_of (many 34 character)).read c.args.bytes.now) (sym c.is_next.ensures ∙ c.if-is_next.true) c.in_ok-rest.ensures c.loop.invariant

pub returns-in_err-rest-2 : goal.returns-in_err-rest-2
returns-in_err-rest-2 c =
    let p = err_from_is_err_and c.from_residual-in_err-rest-2.result c.from_residual-in_err-rest-2.ensures.1 in
    rw (p.1, p.2) (ends_behind 34 character c.in_err-rest-2.field-0.0 c.loop.out.items (length c.args.bytes.now) c.loop.counter c.loop.rest.now
    ((as_value all_of (many 34 character)).read c.args.bytes.now) c.loop-test.true
    (sym c.is_next.ensures ∙ c.if-is_next.false) c.in_err-rest-2.ensures c.loop.invariant)

pub loop-preserved : goal.loop-preserved
loop-preserved c = goes_behind 34 character c.loop.out.items c.character.new.out.items
    (length c.args.bytes.now) c.loop.counter c.loop.rest.now c.in_ok-rest-2.rest.now
    ((as_value all_of (many 34 character)).read c.args.bytes.now) c.loop-test.true
    (sym c.is_next.ensures ∙ c.if-is_next.false) c.in_ok-rest-2.ensures c.loop.invariant

pub returns-in_err-rest-3 : goal.returns-in_err-rest-3
returns-in_err-rest-3 c =
    let p = err_from_is_err_and c.from_residual-in_err-rest-3.result c.from_residual-in_err-rest-3.ensures.1 in
    rw (p.1, p.2) (done_err (λ x. x) 34 character c.in_err-rest-3.field-0.0 c.loop.out.items (length c.args.bytes.now) c.loop.counter c.loop.rest.now
    ((as_value all_of (many 34 character)).read c.args.bytes.now) c.loop-test.false c.in_err-rest-3.ensures c.loop.invariant)

pub returns : goal.returns
returns c = done_ok (λ x. x) 34 character c.loop.out.items (length c.args.bytes.now) c.loop.counter c.loop.rest.now c.in_ok-rest-3.rest.now 34
    ((as_value all_of (many 34 character)).read c.args.bytes.now) c.loop-test.false c.in_ok-rest-3.ensures c.loop.invariant
