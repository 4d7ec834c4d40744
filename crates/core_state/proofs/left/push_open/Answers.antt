use Rattle.std.proofs.Common.{sym, ap, ◌∙◌, ◌≡◌, ◌++◌, [], ◌∷◌, arith, Some, None, Vec, Global}
use Rattle.handle_table.specs.declared.thing.Thing.{Thing}
use Rattle.handle_table.specs.Places.{place_of}
use Rattle.core_state.specs.Numbering.{count_by, numbered}
use Rattle.core_state.proofs.Leaving.{is_numbered, is_past, open_more, shut_more}
use Rattle.core_state.proofs.left.push_open.Goals as goal
use Rattle.core_state.proofs.left.push_open.Goals.{then-not-is_shut+in_ok-push, else-not-is_shut}

pub loop-place-preserved : goal.loop-place-preserved
loop-place-preserved c =
    let table = c.args.places.now in
    let there : place_of table (numbered c.args.sort c.args.seq c.loop-place.serial) ≡ Some c.in-Some.place =
    ap (place_of table) (sym c.numbered.ensures) ∙ (sym c.place.ensures ∙ c.in-Some.is) in
    record {
      most = let below = is_numbered c.args.sort table c.args.seq c.loop-place.serial c.in-Some.place there in omega arith;
      added = elim c.if-not-is_shut.branch [
        | then-not-is_shut+in_ok-push w ↦
            ap (λ (v : Vec Thing Global). v.items) w.left-is
            ∙ (w.in_ok-push.ensures.items
            ∙ (ap (λ (z : Thing). c.loop-place.left.items ++ z ∷ []) w.numbered-then-not-is_shut.ensures
            ∙ open_more c.args.sort table c.args.seq c.loop-place.serial c.args.left.now.items c.loop-place.left.items c.in-Some.place there
            (sym c.is_shut.ensures ∙ w.if-not-is_shut.true) c.loop-place.invariant.added))
        | else-not-is_shut w ↦
            ap (λ (v : Vec Thing Global). v.items) w.left-is
            ∙ shut_more c.args.sort table c.args.seq c.loop-place.serial c.args.left.now.items c.loop-place.left.items c.in-Some.place there
            (sym c.is_shut.ensures ∙ w.if-not-is_shut.false) c.loop-place.invariant.added
      ];
    }

pub returns : goal.returns
returns c =
    let table = c.args.places.now in
    let none : place_of table (numbered c.args.sort c.args.seq c.loop-place.serial) ≡ None =
    ap (place_of table) (sym c.numbered.ensures) ∙ (sym c.place.ensures ∙ c.in_default.is) in
    let past = is_past c.args.sort table c.args.seq c.loop-place.serial none in
    let all : c.loop-place.serial ≡ count_by c.args.sort table c.args.seq = omega (arith, c.loop-place.invariant.most) in
    rw (← all) c.loop-place.invariant.added
