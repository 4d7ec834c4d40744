use Rattle.std.proofs.Common.{rules}
use Rattle.bind_hub.proofs.Stepping.{first_pass}
use Rattle.bind_hub.proofs.shared.Hub.start.Goals as goal

pub returns-in-Ok-clause-passes : goal.returns-in-Ok-clause-passes
returns-in-Ok-clause-passes c =
    let made = c.in-Ok.ensures.passes in
    let len = made.0 in (
      len,
      λ k p h. let f = made.1 k p h in first_pass c.in-Ok.passes.items p _ _ _ c.args.seqs k p.number p.place.me.0 len h f.0 (search rules) (search rules)
          (search rules) (search rules),
    )
