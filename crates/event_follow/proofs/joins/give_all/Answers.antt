use Rattle.std.proofs.Common.{◌<◌, arith, length, refl}
use Rattle.std.proofs.lemmas.Option.{slice_get-get_or}
use Rattle.event_follow.proofs.Joining.{gave_all, gave_more, gave_none}
use Rattle.event_follow.proofs.joins.give_all.Goals as goal

pub loop-place-init : goal.loop-place-init
loop-place-init c = record { number = refl; given = gave_none c.args.joint c.args.first c.args.second c.args.places.now }

pub overflow_add-number : goal.overflow_add-number
overflow_add-number c = record {
  fits = omega (arith, c.loop-place.invariant.number, c.loop-place-test.true, c.loop-place.auto.places, c.requires.few);
}

pub loop-place-preserved : goal.loop-place-preserved
loop-place-preserved c =
    let joint = c.args.joint in
    let x = c.args.first in
    let y = c.args.second in
    let i = c.loop-place.place-index in
    let places = c.loop-place.places in
    let within : i < length places = omega (arith, c.loop-place-test.true, c.loop-place.auto.places) in
    let gave = rw c.loop-place.invariant.number at c.give_both.ensures in
    record {
      number = omega (arith, c.loop-place.invariant.number);
      given =
          gave_more joint x y i c.args.places.now places _ _ (slice_get-get_or places i c.place-item.result within)
          (record { names = gave; lines = refl; done = refl; due = refl }) c.loop-place.invariant.given;
    }

pub returns : goal.returns
returns c =
    gave_all c.args.joint c.args.first c.args.second c.loop-place.place-index c.args.places.now c.loop-place.places
    (omega (arith, c.loop-place-test.false, c.loop-place.auto.places)) c.loop-place.invariant.given
