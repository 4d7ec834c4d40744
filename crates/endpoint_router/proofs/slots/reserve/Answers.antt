use Rattle.std.proofs.Common.{refl, ◌∙◌}
use Rattle.std.specs.Prelude.{◌==◌, ◌&&◌, is_some}
use Rattle.std.proofs.lemmas.Result.{err_from_is_err_and}
use Rattle.handle_table.specs.Things.{same_end}
use Rattle.handle_table.proofs.ThingsLemmas.{or_left, or_right}
use Rattle.endpoint_router.specs.Slots.{key_in}
use Rattle.endpoint_router.proofs.SlotLemmas.{both_ways, indexed_same, kept_same, name_is, on_ok}
use Rattle.endpoint_router.proofs.slots.reserve.Goals as goal

pub make_place-requires : goal.make_place-requires
make_place-requires c = c.requires.named

pub returns-in_err-make_count-clause-sound : goal.returns-in_err-make_count-clause-sound
returns-in_err-make_count-clause-sound c =
    record { named = c.requires.named; counted = λ y n k l. c.make_count.ensures.keeps y (c.requires.counted y n k l) }

pub returns-in_err-make_count-clause-same : goal.returns-in_err-make_count-clause-same
returns-in_err-make_count-clause-same c = record { rows = λ y n. refl; stay = λ y n h. h; drawn = c.make_count.ensures.same }

pub returns-in_err-make_count-clause-err : goal.returns-in_err-make_count-clause-err
returns-in_err-make_count-clause-err c =
    let p = err_from_is_err_and c.from_residual.result c.from_residual.ensures.1 in
    rw p.1 (refl, refl)

pub returns-clause-sound : goal.returns-clause-sound
returns-clause-sound c =
    both_ways c.make_place.result c.make_place.ensures.ok c.make_place.ensures.err
    (λ p. record {
      named = p.named;
      counted =
          p.counted c.make_count.new.self (λ y n k l. c.make_count.ensures.keeps y (c.requires.counted y n k l)) c.in_ok-make_count.ensures.there;
    })
    (λ e. indexed_same c.args.index.now c.make_place.new.index c.args.rows.now.slots c.make_place.new.rows.slots e c.make_count.new.self
    (record { named = c.requires.named; counted = λ y n k l. c.make_count.ensures.keeps y (c.requires.counted y n k l) }))

pub returns-clause-same : goal.returns-clause-same
returns-clause-same c =
    both_ways c.make_place.result c.make_place.ensures.ok c.make_place.ensures.err
    (λ p. record {
      rows = p.rows;
      stay = λ y n h.
          p.places y n ∙ or_right (same_end c.args.end y && (c.args.id == n)) (is_some (key_in c.args.index.now y n)) h;
      drawn = c.make_count.ensures.same;
    })
    (λ e. kept_same c.args.index.now c.make_place.new.index c.args.rows.now.slots c.make_place.new.rows.slots e c.args.drawn.now c.make_count.new.self
    c.make_count.ensures.same)

pub returns-clause-there : goal.returns-clause-there
returns-clause-there c =
    on_ok c.make_place.result
    (λ p. p.places c.args.end c.args.id
    ∙ or_left (same_end c.args.end c.args.end && (c.args.id == c.args.id)) (is_some (key_in c.args.index.now c.args.end c.args.id))
    (name_is c.args.end c.args.id))
    c.make_place.ensures.ok
