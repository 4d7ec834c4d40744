use Rattle.std.proofs.Common.{◌≡◌, ◌++◌, ℕ, List, sym, subst}
use Rattle.std.specs.Prelude.{OnOk}
use Rattle.mj_base.proofs.full_name.FullName.push_to.Goals as goal

pub returns : goal.returns
returns c =
    subst (λ (t : List ℕ). OnOk c.push_full.result (c.push_full.new.out.items ≡ c.args.out.now.items ++ t)) (sym c.parts.ensures) c.push_full.ensures
