use Rattle.std.proofs.Common.{ℕ, ◌∙◌, sym, ap, map}
use Rattle.std.specs.Prelude.{Some}
use Rattle.module_resolver.proofs.Held.{fronts_turned}
use Rattle.module_resolver.proofs.module_nodes.front_nodes.Goals as goal

pub returns-clause-are : goal.returns-clause-are
returns-clause-are c =
    fronts_turned c.nodes_from.new.index c.args.parts.now c.first-item.result c.in_ok-nodes.nodes.items c.in-len1-up.len_at_least c.first-item.is
    c.in_ok-nodes.ensures.are
    ∙ ap (map (λ (n : ℕ). Some n)) (sym (c.from_vec.ensures ∙ c.reversed.ensures))
