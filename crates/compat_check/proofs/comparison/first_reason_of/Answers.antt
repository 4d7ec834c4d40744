use Rattle.std.proofs.Common.{List, ap, sym, ◌∙◌}
use Rattle.compat_model.specs.declared.root.Root.{Root}
use Rattle.compat_model.specs.Members.{first_found}
use Rattle.compat_model.specs.Verdicts.{root_reason}
use Rattle.compat_check.proofs.Turns.{root_broken}
use Rattle.compat_check.proofs.comparison.first_reason_of.Goals as goal

pub returns-in-Some : goal.returns-in-Some
returns-in-Some c =
    let old = c.args.old.now in
    let new = c.args.new.now in
    root_broken old new c.in-Some.reason
    (sym (c.in_ok-found.ensures ∙ ap (λ (rs : List Root). first_found (root_reason old new) rs) c.requires.roots) ∙ c.in-Some.is)

pub search_behind-requires-clause-none : goal.search_behind-requires-clause-none
search_behind-requires-clause-none c =
    let old = c.args.old.now in
    let new = c.args.new.now in
    sym (c.in_ok-found.ensures ∙ ap (λ (rs : List Root). first_found (root_reason old new) rs) c.requires.roots) ∙ c.in-None.is
