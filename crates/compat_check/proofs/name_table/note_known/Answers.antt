use Rattle.std.proofs.Common.{ℕ, List, Option, Some, None, sym, ap, ◌∙◌}
use Rattle.std.specs.Prelude.{if◌then◌else◌}
use Rattle.std.specs.Option.{option_or}
use Rattle.indexmap.specs.IndexMap.{get_by_text}
use Rattle.compat_model.specs.Verdicts.{is_name}
use Rattle.compat_check.proofs.Noted.{or_none}
use Rattle.compat_check.proofs.name_table.note_known.Goals as goal

pub returns-in-None : goal.returns-in-None
returns-in-None c = λ q.
    let was : Option ℕ = get_by_text c.args.numbers.now q in
    sym (or_none was)
    ∙ ap (λ (name : Option (List ℕ)). option_or was (if is_name q name then Some c.args.number else None)) (sym c.in-None.is)
