use Rattle.std.proofs.Common.{get_or, arith}
use Rattle.std.proofs.lemmas.Option.{slice_get-get_or}
use Rattle.bind_model.specs.Seen.{own_of}
use Rattle.script_run.proofs.Traces.{any_more, ok_weaker}
use Rattle.script_run.proofs.tracing.follow_one.Goals as goal

pub bounds-rooms-seq : goal.bounds-rooms-seq
bounds-rooms-seq c = omega (arith, c.if-seq-script.false, c.requires.amid.2.rooms)

pub bounds-agendas-seq : goal.bounds-agendas-seq
bounds-agendas-seq c = omega (arith, c.if-seq-script.false, c.requires.amid.2.plans)

pub do_next-requires-clause-core : goal.do_next-requires-clause-core
do_next-requires-clause-core c = c.requires.amid.2.core

pub do_next-requires-clause-rested : goal.do_next-requires-clause-rested
do_next-requires-clause-rested c = c.requires.amid.2.rests

pub do_next-requires-clause-come : goal.do_next-requires-clause-come
do_next-requires-clause-come c =
    let rooms = c.args.rooms.now in
    let agendas = c.args.agendas.now in
    let seq = c.args.seq in
    let amid = c.requires.amid.2 in
    let room = get_or rooms seq.0 c.index-rooms-seq.result in
    let agenda = get_or agendas seq.0 c.index-agendas-seq.result in
    let hr = slice_get-get_or rooms seq.0 c.index-rooms-seq.result (omega (arith, c.if-seq-script.false, amid.rooms)) in
    let ha = slice_get-get_or agendas seq.0 c.index-agendas-seq.result (omega (arith, c.if-seq-script.false, amid.plans)) in
    (c.requires.amid.0, own_of seq c.requires.amid.1, amid.each seq room agenda hr ha)

pub returns-then-seq-script-clause-more : goal.returns-then-seq-script-clause-more
returns-then-seq-script-clause-more c = λ after_joins middle amid. record {
  none = λ w. absurd (omega (arith, w, c.if-seq-script.true));
  amid = amid;
}

pub returns-clause-more : goal.returns-clause-more
returns-clause-more c =
    let rooms = c.args.rooms.now in
    let agendas = c.args.agendas.now in
    let seq = c.args.seq in
    let room = get_or rooms seq.0 c.index-rooms-seq.result in
    let agenda = get_or agendas seq.0 c.index-agendas-seq.result in
    ok_weaker c.do_next.result.1 _ _
    (λ goes did. λ after_joins middle amid.
    let hr = slice_get-get_or rooms seq.0 c.index-rooms-seq.result (omega (arith, c.if-seq-script.false, amid.rooms)) in
    let ha = slice_get-get_or agendas seq.0 c.index-agendas-seq.result (omega (arith, c.if-seq-script.false, amid.plans)) in
    any_more c.args.schema.now c.args.script.now after_joins middle c.args.core c.do_next.result.0 c.args.rests.now c.do_next.new.rests rooms agendas
    amid seq c.if-seq-script.false c.do_next.new.room c.do_next.new.agenda goes (did after_joins _ (amid.each seq room agenda hr ha)))
    c.do_next.ensures.did
