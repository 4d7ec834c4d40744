use Rattle.std.proofs.Common.{rules, ℕ, length, sym, ◌∙◌, ap}
use Rattle.std.specs.Prelude.{None}
use Rattle.std.proofs.lemmas.Result.{err_from_is_err_and}
use Rattle.mojom_files.specs.Refusals.{best_of}
use Rattle.name_refusals.specs.steps.Trees.{knows}
use Rattle.name_refusals.specs.NameRefusals.{refusals_at}
use Rattle.name_refusals.proofs.Places.{at_place, known_more, next_place, found_place}
use Rattle.name_refusals.proofs.resolve_files.resolve.Goals as goal

pub loop-number-init : goal.loop-number-init
loop-number-init c = record { sound = c.new-known.ensures.known; known = c.new-known.ensures.none; left = search rules }

pub loop-number-preserved : goal.loop-number-preserved
loop-number-preserved c =
    let files = c.args.files.now in
    let order = c.args.order.now in
    let i = c.loop-number.number-index in
    let known = c.loop-number.invariant.known in
    let clauses = c.in_ok-refusal.ensures in
    let here = at_place files order i _ (knows c.loop-number.known) c.in_ok-names.ensures known in
    let first = λ (k : ℕ). best_of None (refusals_at files order k) in
    let none = sym (clauses.first ∙ ap (best_of None) here) ∙ c.in_default.is in
    record {
      sound = clauses.known;
      known = known_more files order i (knows c.loop-number.known) _ c.loop-number-test.true known clauses.added;
      left = c.loop-number.invariant.left ∙ next_place first i (length order) c.loop-number-test.true none;
    }

pub returns-in-Some-clause-refused : goal.returns-in-Some-clause-refused
returns-in-Some-clause-refused c =
    let files = c.args.files.now in
    let order = c.args.order.now in
    let i = c.loop-number.number-index in
    let here = at_place files order i _ (knows c.loop-number.known) c.in_ok-names.ensures c.loop-number.invariant.known in
    let first = λ (k : ℕ). best_of None (refusals_at files order k) in
    let some = sym (c.in_ok-refusal.ensures.first ∙ ap (best_of None) here) ∙ c.in-Some.is in
    c.loop-number.invariant.left ∙ found_place first i (length order) c.in-Some.refusal c.loop-number-test.true some

pub returns-in_err-refusal-clause-refused : goal.returns-in_err-refusal-clause-refused
returns-in_err-refusal-clause-refused c =
    let p = err_from_is_err_and c.from_residual-in_err-refusal.result c.from_residual-in_err-refusal.ensures.1 in rw (p.1, p.2) tt
