use Rattle.std.proofs.Common.{◌≡◌, ◌+◌, ◌++◌, ℕ, List, [], ◌∷◌, length, take, refl, sym, subst, ap, ◌∙◌}
use Rattle.std.proofs.lemmas.List.{length_push}
use Rattle.std.proofs.lemmas.Option.{slice_get_read}
use Rattle.std.proofs.lemmas.Result.{err_from_is_err_and}
use Rattle.mojom_files.specs.declared.named_file.NamedFile.{NamedFile}
use Rattle.mojom_compile.specs.Schemas.{AreTreesOf}
use Rattle.mojom_compile.proofs.Trees.{trees_push, first_unread}
use Rattle.mojom_compile.proofs.schemas.read_all.Goals as goal

pub loop-number-preserved : goal.loop-number-preserved
loop-number-preserved c =
    let sources = c.args.sources.now in
    let files = c.loop-number.files.items in
    let k = c.loop-number.number in
    let source = c.index-sources-number.result in
    let file = c.in_ok-read_one.field-0 in
    let at = slice_get_read sources (length sources) k source refl c.loop-number-test.true c.index-sources-number.is in
    let trees = trees_push sources files k source file at c.loop-number.invariant.trees c.in_ok-read_one.ensures.tree in
    let items : c.push.new.self.items ≡ files ++ file ∷ [] = c.in_ok-push.ensures.items in
    record {
      trees = subst (λ (fs : List NamedFile). AreTreesOf (take (k + 1) sources) fs) (sym items) trees;
      count = ap length items ∙ (length_push files file ∙ ap (λ (n : ℕ). n + 1) c.loop-number.invariant.count);
    }

pub returns-in_err-read_one-clause-refused : goal.returns-in_err-read_one-clause-refused
returns-in_err-read_one-clause-refused c =
    let sources = c.args.sources.now in
    let k = c.loop-number.number in
    let source = c.index-sources-number.result in
    let at = slice_get_read sources (length sources) k source refl c.loop-number-test.true c.index-sources-number.is in
    let p = err_from_is_err_and c.from_residual.result c.from_residual.ensures.1 in
    rw (p.1, p.2) (first_unread sources c.loop-number.files.items k source c.in_err-read_one.field-0.0 at c.loop-number.invariant.trees
    c.in_err-read_one.ensures.unread)
