use Rattle.std.proofs.Common.{List, ℕ, Bor, map, refl, sym, ap, ◌∙◌}
use Rattle.mojo_tool.proofs.Comparing.{alone_stops, alone_named}
use Rattle.mojo_tool.proofs.Fetching.{numbered}
use Rattle.mojo_tool.proofs.compat.table_alone.Goals as goal

pub refused-requires : goal.refused-requires
refused-requires c =
    let now : Bor (List ℕ) → List ℕ = λ name. name.now in
    numbered now c.args.sources.now c.args.sources.now c.as_slice.result.now c.in-Err.error refl
    (c.requires ∙ sym (ap (λ (names : List (Bor (List ℕ))). map now names) c.as_slice.ensures)) c.in-Err.ensures.given

pub returns-in-Err-clause-stop : goal.returns-in-Err-clause-stop
returns-in-Err-clause-stop c =
    alone_stops c.args.name.now c.args.sources.now c.requires c.in-Err.error c.refused.result c.in-Err.ensures.refused
    (rw c.as_slice.ensures at c.refused.ensures)

pub returns-in-Err-clause-named : goal.returns-in-Err-clause-named
returns-in-Err-clause-named c = alone_named c.args.name.now c.in-Err.error c.refused.result (rw c.as_slice.ensures at c.refused.ensures)
