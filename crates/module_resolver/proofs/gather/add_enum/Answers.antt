use Rattle.std.proofs.Common.{List, ℕ, map, ◌++◌, ◌∙◌, ap}
use Rattle.std.specs.List.{flat_map}
use Rattle.mojom_ast.specs.declared.definitions.Enumerator.{Enumerator}
use Rattle.mj_base.specs.Names.{within}
use Rattle.module_resolver.specs.Enums.{names_in_enum}
use Rattle.module_resolver.proofs.Held.{one_behind}
use Rattle.module_resolver.proofs.Enums.{flat_pushed}
use Rattle.module_resolver.proofs.gather.add_enum.Goals as goal

pub returns : goal.returns
returns c =
    let enumerators = c.args.enumerators.now in
    let old = c.args.enums.now.items in
    flat_pushed names_in_enum old c.push.new.self.items _ c.in_ok-push.ensures.items
    ∙ ap (λ (ns : List (List ℕ)). flat_map names_in_enum old ++ ns)
    (ap (λ (t : List ℕ). map (within t) c.in_ok-names.names) c.in_ok-outer.ensures
    ∙ (ap (map (within c.args.view.now.full)) c.in_ok-names.ensures ∙ one_behind (within c.args.view.now.full) (λ (e : Enumerator). e.name.text) enumerators))
