use Rattle.std.proofs.Common.{rules, ◌≡◌, sym, ◌∙◌, ap}
use Rattle.std.specs.Prelude.{Bool, false, ◌||◌}
use Rattle.std.specs.List.{list_any}
use Rattle.std.specs.Str.{bytes_eq}
use Rattle.mojom_ast.specs.declared.file.Import.{Import}
use Rattle.module_resolver.specs.steps.Seen.{is_kept}
use Rattle.module_resolver.proofs.gather.sees.Goals as goal

pub returns-else-eq : goal.returns-else-eq
returns-else-eq c =
    let name = c.args.other.now.name in
    let file = c.args.file.now in
    let imported = list_any (λ (i : Import). bytes_eq i.path.bytes name) file.tree.imports in
    let differs : bytes_eq name file.name ≡ false = search rules in
    c.contains.ensures
    ∙ (ap (is_kept c.args.paths.now.keys) (c.as_bytes.ensures.value ∙ c.as_str-name.ensures)
    ∙ (c.requires name ∙ ap (λ (b : Bool). b || imported) (sym differs)))
