use Rattle.std.proofs.Common.{arith, get_or}
use Rattle.std.proofs.lemmas.Option.{slice_get-get_or}
use Rattle.std.proofs.lemmas.Result.{IfOk-weaker}
use Rattle.bind_model.specs.Seen.{own_of}
use Rattle.event_follow.proofs.FollowingLemmas.{any_more}
use Rattle.event_follow.proofs.following.follow_one.Goals as goal

pub bounds-places-seq : goal.bounds-places-seq
bounds-places-seq c = omega (arith, c.if-seq-script.false, c.requires.amid.2.count)

pub do_next-requires-clause-is : goal.do_next-requires-clause-is
do_next-requires-clause-is c = c.requires.amid.2.is

pub do_next-requires-clause-come : goal.do_next-requires-clause-come
do_next-requires-clause-come c =
    let places = c.args.places.now in
    let seq = c.args.seq in
    let amid = c.requires.amid.2 in
    let here = slice_get-get_or places seq.0 c.index-places-seq.result (omega (arith, c.if-seq-script.false, amid.count)) in
    (c.requires.amid.0, own_of seq c.requires.amid.1, amid.each seq (get_or places seq.0 c.index-places-seq.result) here)

pub returns-then-seq-script : goal.returns-then-seq-script
returns-then-seq-script c = λ after_joins middle amid. record {
  none = λ w. absurd (omega (arith, w, c.if-seq-script.true));
  amid = amid;
}

pub returns : goal.returns
returns c =
    let places = c.args.places.now in
    let seq = c.args.seq in
    let place = get_or places seq.0 c.index-places-seq.result in
    IfOk-weaker c.do_next.result _ _
    (λ goes did. λ after_joins middle amid.
    let here = slice_get-get_or places seq.0 c.index-places-seq.result (omega (arith, c.if-seq-script.false, amid.count)) in
    any_more c.args.schema.now c.args.script.now after_joins middle c.args.machine.now c.do_next.new.machine places amid seq c.if-seq-script.false
    c.do_next.new.place goes (did after_joins _ (amid.each seq place here)))
    c.do_next.ensures
