use Rattle.std.proofs.Common.{map, ◌∙◌, ap}
use Rattle.std.proofs.lemmas.List.{take_all}
use Rattle.module_resolver.specs.NamesOf.{names_in}
use Rattle.module_resolver.proofs.gather.names_of.Goals as goal

pub new-requires : goal.new-requires
new-requires c =
    let files = c.args.files.now in
    let order = c.args.order.now in
    c.from_vec.ensures ∙ (c.loop-file.invariant ∙ ap (map (names_in files order)) (take_all c.loop-file.file-index files c.loop-file-test.false))
