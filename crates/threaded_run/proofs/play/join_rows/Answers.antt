use Rattle.std.proofs.Common.{rules, ◌≡◌, ◌++◌, List, [], length, take, drop, Some, arith, subst, sym}
use Rattle.std.specs.Prelude.{slice_get}
use Rattle.std.proofs.lemmas.Result.{on_ok_weaker}
use Rattle.bind_hub.specs.Hubs.{schema_in, seqs_in}
use Rattle.script_names.specs.declared.rooms.Rooms.{Rooms}
use Rattle.script_run.specs.Order.{joins_of}
use Rattle.script_run.specs.steps.Going.{HasJoined}
use Rattle.threaded_run.specs.steps.Joins.{HavePart, IsFull, core_of}
use Rattle.threaded_run.specs.steps.Passes.{HubPass}
use Rattle.threaded_run.proofs.Places.{taken_whole}
use Rattle.threaded_run.proofs.play.join_rows.Goals as goal

pub do_joins-requires-clause-script : goal.do_joins-requires-clause-script
do_joins-requires-clause-script g c = (c.args.script.now, c.requires.script, c.requires.seqs, c.as_slice-lines.ensures)

pub do_joins-requires-clause-passes : goal.do_joins-requires-clause-passes
do_joins-requires-clause-passes g c k p got =
    let is : c.as_mut_slice.result.now ≡ c.args.passes.now.items = search rules in
    c.requires.passes k p (subst (λ (ys : List HubPass). slice_get ys k ≡ Some p) is got)

pub do_joins-requires-clause-fresh : goal.do_joins-requires-clause-fresh
do_joins-requires-clause-fresh g c k p got =
    let is : c.as_mut_slice.result.now ≡ c.args.passes.now.items = search rules in
    c.requires.fresh k p (subst (λ (ys : List HubPass). slice_get ys k ≡ Some p) is got)

pub returns-clause-passes : goal.returns-clause-passes
returns-clause-passes g c k q got =
    let new = c.do_joins.new.passes in
    let n : c.args.passes.now.len ≡ length new = search rules in
    let is : take c.args.passes.now.len (new ++ drop (length new) c.args.passes.now.items) ≡ new =
    taken_whole new (drop (length new) c.args.passes.now.items) c.args.passes.now.len n in
    c.do_joins.ensures.passes k q (subst (λ (ys : List HubPass). slice_get ys k ≡ Some q) is got)

pub returns-clause-joined : goal.returns-clause-joined
returns-clause-joined g c rests first =
    let hub = c.args.hub.now in
    let S = schema_in hub in
    let N = seqs_in hub in
    let script = c.args.script.now in
    let passes = c.args.passes.now in
    let rooms = c.args.rooms.now in
    let new = c.do_joins.new.passes in
    let held = c.do_joins.new.rooms in
    let n : passes.len ≡ length new = search rules in
    let whole : take passes.len (new ++ drop (length new) passes.items) ≡ new = taken_whole new (drop (length new) passes.items) passes.len n in
    let old : c.as_mut_slice-2.result.now ≡ rooms.items = search rules in
    let began = subst (λ (os : List Rooms). HasJoined S script 0 (core_of S N []) rests os) (sym old) first in
    on_ok_weaker c.do_joins.result
    (λ done.
    let m : rooms.len ≡ length held = omega (arith, rooms.ok.0, c.requires.rooms, c.requires.seqs, done.2.rooms.count) in
    let all : take rooms.len (held ++ drop (length held) rooms.items) ≡ held = taken_whole held (drop (length held) rooms.items) rooms.len m in (
      done.0,
      (λ k q got. done.1 k q (subst (λ (ys : List HubPass). slice_get ys k ≡ Some q) whole got)),
      subst (λ (os : List Rooms). HasJoined S script (length (joins_of script)) (core_of S N done.0) rests os) (sym all) done.2,
    ))
    (c.do_joins.ensures.joined script rests c.requires.script c.as_slice-lines.ensures began)

pub returns-clause-spent : goal.returns-clause-spent
returns-clause-spent g c rests first spent =
    let hub = c.args.hub.now in
    let S = schema_in hub in
    let N = seqs_in hub in
    let script = c.args.script.now in
    let passes = c.args.passes.now in
    let new = c.do_joins.new.passes in
    let n : passes.len ≡ length new = search rules in
    let whole : take passes.len (new ++ drop (length new) passes.items) ≡ new = taken_whole new (drop (length new) passes.items) passes.len n in
    let old : c.as_mut_slice-2.result.now ≡ c.args.rooms.now.items = search rules in
    let began = subst (λ (os : List Rooms). HasJoined S script 0 (core_of S N []) rests os) (sym old) first in
    subst (λ (ys : List HubPass). HavePart hub.turn.board.shared.table_id S N script ys × IsFull ys) (sym whole)
    (c.do_joins.ensures.spent script rests c.requires.script c.as_slice-lines.ensures began spent)
