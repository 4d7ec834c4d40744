use Rattle.std.proofs.Common.{ℕ, List, sym, ◌∙◌, ap}
use Rattle.std.specs.Str.{bytes_eq}
use Rattle.mj_base.proofs.full_name.FullName.has_bytes.Goals as goal

pub returns : goal.returns
returns c = c.is_full.ensures ∙ ap (λ (t : List ℕ). bytes_eq t c.args.bytes.now) (sym c.parts.ensures)
