use Rattle.std.proofs.Common.{ℕ, List, ◌∙◌, ap}
use Rattle.std.specs.Str.{bytes_eq}
use Rattle.mj_base.specs.Names.{within, named_in}
use Rattle.mj_base.proofs.full_name.is_full.Goals as goal

pub returns-in-Some : goal.returns-in-Some
returns-in-Some c =
    let name = c.args.name in
    rw c.in-Some.is
    (c.is_nested.ensures
    ∙ ap (λ (t : List ℕ). bytes_eq (within (named_in name.module_name.now t) name.name.now) c.args.bytes.now) c.as_str.ensures)
