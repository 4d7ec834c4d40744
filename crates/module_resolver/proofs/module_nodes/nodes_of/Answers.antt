use Rattle.std.proofs.Common.{rules, ℕ, List, take, map}
use Rattle.std.specs.Prelude.{Some}
use Rattle.mojom_files.specs.declared.named_file.NamedFile.{NamedFile}
use Rattle.module_resolver.specs.NamesOf.{module_fronts}
use Rattle.module_resolver.specs.Seats.{node_of}
use Rattle.module_resolver.proofs.Held.{entered_none, entered_twice, all_kept, pushed_more}
use Rattle.module_resolver.proofs.module_nodes.nodes_of.Goals as goal

pub loop-file-init : goal.loop-file-init
loop-file-init c = record { entered = entered_none c.args.index.now c.requires; are = search rules }

pub loop-file-preserved : goal.loop-file-preserved
loop-file-preserved c =
    let old = c.loop-file.index in
    let new = c.module_nodes.new.index in
    let fronts = λ (f : NamedFile). module_fronts f.tree.module_statement in
    let files = c.args.files.now in
    let i = c.loop-file.file-index in
    let here = c.in_ok-module_nodes.ensures in
    record {
      entered = entered_twice c.args.index.now old new c.loop-file.invariant.entered here.entered;
      are =
          pushed_more (λ (f : NamedFile). map (node_of new 0) (fronts f)) (λ (ns : List ℕ). map (λ (n : ℕ). Some n) ns) files i c.file-item.result
          c.loop-file.nodes.items c.push.new.self.items _ c.loop-file-test.true c.file-item.is c.in_ok-push.ensures.items
          (all_kept fronts old new here.entered (take i files) c.loop-file.nodes.items c.loop-file.invariant.are) here.are;
    }
