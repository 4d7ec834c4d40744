use Rattle.std.proofs.Common.{ℕ, List, ◌∙◌, ap}
use Rattle.std.specs.Str.{bytes_eq}
use Rattle.mj_base.specs.Names.{within}
use Rattle.mj_base.proofs.compare.is_named_in.Goals as goal

pub returns-in-Some : goal.returns-in-Some
returns-in-Some c =
    rw c.in-Some.is (c.is_within.ensures ∙ ap (λ (t : List ℕ). bytes_eq (within t c.args.name.now) c.args.bytes.now) c.as_str.ensures)
