use Rattle.std.specs.Str.{bytes_eq}
use Rattle.mojom_ast.specs.declared.file.Import.{Import}
use Rattle.module_resolver.proofs.SeenNames.{any_more, import_kept}
use Rattle.module_resolver.proofs.gather.paths_of.Goals as goal

pub loop-one-preserved : goal.loop-one-preserved
loop-one-preserved c = λ name.
    let test = λ (i : Import). bytes_eq i.path.bytes name in
    import_kept c.loop-one.paths.keys c.insert.new.self.keys c.as_slice.result c.one-item.result.path.bytes name _ _ c.in_ok-insert.ensures.keys
    c.as_slice.ensures (c.loop-one.invariant name)
    (any_more test c.args.imports.now c.loop-one.one-index c.one-item.result c.loop-one-test.true c.one-item.is)
