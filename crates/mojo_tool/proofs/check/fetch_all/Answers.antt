use Rattle.std.proofs.Common.{ℕ, List, Bor}
use Rattle.std.specs.Prelude.{map}
use Rattle.mojo_tool.proofs.Asking.{handed_on}
use Rattle.mojo_tool.proofs.Fetching.{shown_at, unfetched_at, fetched_up_to, named_up_to, came_up_to, all_up_to, stopped_at, goes_on}
use Rattle.mojo_tool.proofs.check.fetch_all.Goals as goal

pub returns-in_err-fetch_onto-clause-stop : goal.returns-in_err-fetch_onto-clause-stop
returns-in_err-fetch_onto-clause-stop g c =
    let now : Bor (List ℕ) → List ℕ = λ name. name.now in
    handed_on _ _ _ c.from_residual.ensures.1
    (unfetched_at _ (g.F.Files.state c.loop-name.files) _ (map now c.args.names.now) c.loop-name.name-index c.loop-name.sources.items _
    c.in_err-fetch_onto.field-0.0
    (shown_at now c.args.names.now c.loop-name.name-index _ c.loop-name-test.true) c.loop-name.invariant.are c.loop-name.invariant.on
    c.in_err-fetch_onto.ensures.stop)

pub returns-in_err-fetch_onto-clause-stopped : goal.returns-in_err-fetch_onto-clause-stopped
returns-in_err-fetch_onto-clause-stopped g c =
    let now : Bor (List ℕ) → List ℕ = λ name. name.now in
    handed_on _ _ _ c.from_residual.ensures.1
    (stopped_at (map now c.args.names.now) c.loop-name.name-index _ _ _ _ c.in_err-fetch_onto.field-0.0
    (shown_at now c.args.names.now c.loop-name.name-index _ c.loop-name-test.true) c.loop-name.invariant.whole c.in_err-fetch_onto.ensures.stopped)

pub loop-name-preserved : goal.loop-name-preserved
loop-name-preserved g c =
    let now : Bor (List ℕ) → List ℕ = λ name. name.now in
    let at = shown_at now c.args.names.now c.loop-name.name-index _ c.loop-name-test.true in
    record {
      on = goes_on _ _ _ c.loop-name.invariant.on c.in_ok-fetch_onto.ensures.on;
      named = named_up_to _ (map now c.args.names.now) c.loop-name.name-index _ _ _ c.loop-name.sources.items _ at c.loop-name.invariant.named
          c.in_ok-fetch_onto.ensures.sources;
      came = came_up_to _ _ _ _ _ c.loop-name.sources.items _ c.loop-name.invariant.came c.in_ok-fetch_onto.ensures.sources;
      are = fetched_up_to _ _ (map now c.args.names.now) c.loop-name.name-index _ _ _ c.loop-name.sources.items _ at
          c.loop-name.invariant.are c.loop-name.invariant.on.same c.in_ok-fetch_onto.ensures.sources;
      whole = all_up_to (map now c.args.names.now) c.loop-name.name-index _ _ _ _ at c.loop-name.invariant.whole c.in_ok-fetch_onto.ensures.whole;
    }

pub returns-in_err-fetch_onto-clause-long : goal.returns-in_err-fetch_onto-clause-long
returns-in_err-fetch_onto-clause-long g c = handed_on _ _ _ c.from_residual.ensures.1 c.in_err-fetch_onto.ensures.long
