use Rattle.std.proofs.Common.{ap, sym, ◌∙◌}
use Rattle.std.specs.Prelude.{is_some}
use Rattle.bind_model.specs.Machine.{is_own}
use Rattle.core_state.specs.Routers.{found_at}
use Rattle.core_taking.proofs.Admitting.{known_more, strange_more, unseen_row}
use Rattle.core_state.proofs.Routing.{on_ok}
use Rattle.core_taking.proofs.admit.admit_one.Goals as goal

pub enter_one-requires : goal.enter_one-requires
enter_one-requires c =
    unseen_row c.args.seen.now c.args.id (is_some (found_at c.args.endpoints.now c.args.end c.args.id))
    (is_own (found_at c.args.endpoints.now c.args.end) c.args.id) (sym c.is_strange.ensures ∙ c.if-is_strange.false)

pub returns-then-is_strange : goal.returns-then-is_strange
returns-then-is_strange c = λ named done e now.
    strange_more (found_at c.args.endpoints.now c.args.end) named done c.args.seen.now c.args.admitted.now c.args.id now
    (sym c.is_strange.ensures ∙ c.if-is_strange.true) c.note_strange.new.admitted c.note_strange.ensures.strange
    (ap (λ v. v.items) c.note_strange.ensures.entries) (ap (λ v. v.items) c.note_strange.ensures.closed)

pub returns : goal.returns
returns c = on_ok c.note_entry.result
    (λ gains named done e now.
    known_more (found_at c.args.endpoints.now c.args.end) named done c.args.seen.now c.args.admitted.now c.args.id now
    (sym c.is_strange.ensures ∙ c.if-is_strange.false) c.args.endpoint e c.enter_one.new.router c.note_entry.new.admitted
    c.in_ok-enter_one.ensures.ok.rows gains)
    c.note_entry.ensures
