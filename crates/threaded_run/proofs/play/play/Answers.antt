use Rattle.std.proofs.Common.{◌∙◌, [], length, refl, subst, sym}
use Rattle.std.proofs.lemmas.Result.{on_ok_weaker}
use Rattle.mj_schema.specs.declared.schema.Schema.{Schema}
use Rattle.bind_hub.specs.Hubs.{schema_in, seqs_in}
use Rattle.call_script.specs.Sound.{IsScript}
use Rattle.script_run.specs.Order.{joins_of}
use Rattle.script_run.specs.Rooms.{AreUnnamed}
use Rattle.script_run.proofs.RunParts.{joined_none}
use Rattle.threaded_run.specs.steps.Crews.{ReturnedAll, ReturnedSpent}
use Rattle.threaded_run.specs.steps.Joins.{core_of}
use Rattle.threaded_run.proofs.Places.{ok_there}
use Rattle.threaded_run.proofs.Returning.{all_returned, drawn_at, names_at, spent_joining, spent_returned}
use Rattle.threaded_run.proofs.play.play.Goals as goal

pub join_rows-requires-clause-script : goal.join_rows-requires-clause-script
join_rows-requires-clause-script g c = subst (λ (s : Schema). IsScript s c.args.script.now) (sym c.requires.hub.0) c.requires.script

pub join_rows-requires-clause-rooms : goal.join_rows-requires-clause-rooms
join_rows-requires-clause-rooms g c =
    let rooms = c.open_rooms.new.rooms.items in
    let are = ok_there c.open_rooms.result (AreUnnamed c.args.script.now.seqs c.args.script.now.names rooms) c.open_rooms.ensures
    (sym c.is_err.ensures.value ∙ c.if-is_err.false) in
    are.count ∙ sym c.requires.hub.1

pub side_by_side-requires-clause-counts : goal.side_by_side-requires-clause-counts
side_by_side-requires-clause-counts g c κs within =
    let hub = c.args.hub.now in
    let S = schema_in hub in
    let N = seqs_in hub in
    let script = c.args.script.now in
    let opened = c.open_rooms.new.rooms.items in
    let are = ok_there c.open_rooms.result (AreUnnamed script.seqs script.names opened) c.open_rooms.ensures
    (sym c.is_err.ensures.value ∙ c.if-is_err.false) in
    let rests = c.args.crew.now.rests.items in
    let first = joined_none S script (core_of S N []) rests opened refl c.requires.hub.1 refl c.requires.rested are in
    let j = rw c.in-Ok.is at (c.join_rows.ensures.joined rests first) in
    let count = c.join_rows.ensures.len ∙ c.requires.count in
    (j.2.rests.count ∙ sym count, j.2.rooms.count ∙ (sym c.requires.hub.1 ∙ sym count))

pub side_by_side-requires-clause-drawn : goal.side_by_side-requires-clause-drawn
side_by_side-requires-clause-drawn g c κs within k p rest at there =
    let hub = c.args.hub.now in
    let S = schema_in hub in
    let N = seqs_in hub in
    let script = c.args.script.now in
    let opened = c.open_rooms.new.rooms.items in
    let are = ok_there c.open_rooms.result (AreUnnamed script.seqs script.names opened) c.open_rooms.ensures
    (sym c.is_err.ensures.value ∙ c.if-is_err.false) in
    let rests = c.args.crew.now.rests.items in
    let first = joined_none S script (core_of S N []) rests opened refl c.requires.hub.1 refl c.requires.rested are in
    let j = rw c.in-Ok.is at (c.join_rows.ensures.joined rests first) in
    drawn_at hub.turn.board.shared.table_id S N script j.0 c.join_rows.new.passes.items rests c.join_rows.new.rooms.items (length (joins_of script)) j.1 j.2
    k p rest at there

pub side_by_side-requires-clause-names : goal.side_by_side-requires-clause-names
side_by_side-requires-clause-names g c κs within k room at =
    let hub = c.args.hub.now in
    let S = schema_in hub in
    let N = seqs_in hub in
    let script = c.args.script.now in
    let opened = c.open_rooms.new.rooms.items in
    let are = ok_there c.open_rooms.result (AreUnnamed script.seqs script.names opened) c.open_rooms.ensures
    (sym c.is_err.ensures.value ∙ c.if-is_err.false) in
    let rests = c.args.crew.now.rests.items in
    let first = joined_none S script (core_of S N []) rests opened refl c.requires.hub.1 refl c.requires.rested are in
    let j = rw c.in-Ok.is at (c.join_rows.ensures.joined rests first) in
    names_at hub.turn.board.shared.table_id S N script j.0 c.join_rows.new.passes.items rests c.join_rows.new.rooms.items (length (joins_of script)) j.1 j.2
    k room at

pub returns-then-is_err-clause-spent : goal.returns-then-is_err-clause-spent
returns-then-is_err-clause-spent g c spent = absurd cc

pub returns-in-Ok-clause-count : goal.returns-in-Ok-clause-count
returns-in-Ok-clause-count g c = c.side_by_side.ensures.counts.0 ∙ (c.join_rows.ensures.len ∙ c.requires.count)

pub returns-in-Ok-clause-done : goal.returns-in-Ok-clause-done
returns-in-Ok-clause-done g c =
    let hub = c.args.hub.now in
    let S = schema_in hub in
    let N = seqs_in hub in
    let script = c.args.script.now in
    let opened = c.open_rooms.new.rooms.items in
    let are = ok_there c.open_rooms.result (AreUnnamed script.seqs script.names opened) c.open_rooms.ensures
    (sym c.is_err.ensures.value ∙ c.if-is_err.false) in
    let rests = c.args.crew.now.rests.items in
    let first = joined_none S script (core_of S N []) rests opened refl c.requires.hub.1 refl c.requires.rested are in
    let j = rw c.in-Ok.is at (c.join_rows.ensures.joined rests first) in
    let passes = c.join_rows.new.passes.items in
    let rooms = c.join_rows.new.rooms.items in
    let new = c.side_by_side.new.crew.passes.items in
    let desks = c.side_by_side.new.crew.rests.items in
    on_ok_weaker c.side_by_side.result
    (λ back. all_returned hub.turn.board.shared.table_id S N script j.0 passes rests rooms new desks (length (joins_of script)) j.1 j.2
    c.side_by_side.ensures.passes refl (c.side_by_side.ensures.counts.1 ∙ (c.join_rows.ensures.len ∙ c.requires.count))
    (subst (λ (s : Schema). ReturnedAll script s N passes rests rooms new desks) (sym c.requires.hub.0) back))
    c.side_by_side.ensures.done

pub returns-in-Ok-clause-spent : goal.returns-in-Ok-clause-spent
returns-in-Ok-clause-spent g c spent =
    let hub = c.args.hub.now in
    let S = schema_in hub in
    let N = seqs_in hub in
    let script = c.args.script.now in
    let opened = c.open_rooms.new.rooms.items in
    let are = ok_there c.open_rooms.result (AreUnnamed script.seqs script.names opened) c.open_rooms.ensures
    (sym c.is_err.ensures.value ∙ c.if-is_err.false) in
    let rests = c.args.crew.now.rests.items in
    let first = joined_none S script (core_of S N []) rests opened refl c.requires.hub.1 refl c.requires.rested are in
    let j = rw c.in-Ok.is at (c.join_rows.ensures.joined rests first) in
    let passes = c.join_rows.new.passes.items in
    let rooms = c.join_rows.new.rooms.items in
    let new = c.side_by_side.new.crew.passes.items in
    let desks = c.side_by_side.new.crew.rests.items in
    let counts = c.side_by_side.ensures.counts in
    spent_returned hub.turn.board.shared.table_id S N script j.0 passes rests rooms new desks (length (joins_of script)) j.1 j.2
    c.side_by_side.ensures.passes (counts.0 ∙ sym counts.1)
    (subst (λ (s : Schema). ReturnedSpent script s N passes rests rooms new desks) (sym c.requires.hub.0) (c.side_by_side.ensures.spent spent))

pub returns-in-Err-clause-spent : goal.returns-in-Err-clause-spent
returns-in-Err-clause-spent g c spent =
    let hub = c.args.hub.now in
    let S = schema_in hub in
    let N = seqs_in hub in
    let script = c.args.script.now in
    let opened = c.open_rooms.new.rooms.items in
    let are = ok_there c.open_rooms.result (AreUnnamed script.seqs script.names opened) c.open_rooms.ensures
    (sym c.is_err.ensures.value ∙ c.if-is_err.false) in
    let rests = c.args.crew.now.rests.items in
    let first = joined_none S script (core_of S N []) rests opened refl c.requires.hub.1 refl c.requires.rested are in
    let s = c.join_rows.ensures.spent rests first (c.in-Err.is ∙ spent) in
    spent_joining hub.turn.board.shared.table_id S N script c.join_rows.new.passes.items s.0 s.1
