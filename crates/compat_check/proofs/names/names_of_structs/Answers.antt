use Rattle.std.proofs.Common.{ℕ, List, ap, ◌∙◌}
use Rattle.std.specs.BTreeSet.{contains}
use Rattle.std.specs.Ordering.{nat_cmp}
use Rattle.mj_schema.specs.WellFormed.{structs_of_methods}
use Rattle.compat_check.specs.steps.Names.{is_among}
use Rattle.compat_check.proofs.Named.{same_names}
use Rattle.compat_check.proofs.names.names_of_structs.Goals as goal

pub returns : goal.returns
returns c =
    c.in_ok-made.ensures
    ∙ same_names (contains nat_cmp c.in_ok-marks.marks) (λ (n : ℕ). is_among (structs_of_methods c.args.interfaces.now) n)
    (λ n. c.in_ok-marks.ensures n ∙ ap (λ (ns : List ℕ). is_among ns n) (c.as_slice.ensures.value ∙ c.in_ok-numbers.ensures)) 0 c.args.structs.now
