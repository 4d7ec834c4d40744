use Rattle.std.proofs.Common.{◌∙◌, ap, subst, sym, arith}
use Rattle.std.specs.Str.{IsUtf8}
use Rattle.std.proofs.lemmas.Grind.{common_steps}
use Rattle.std.proofs.lemmas.List.{take_all}
use Rattle.std.proofs.lemmas.List.Elements.{All-push}
use Rattle.import_order.specs.Order.{file_names}
use Rattle.import_order.specs.steps.Taking.{AreTexts}
use Rattle.import_order.proofs.given.file_names.Goals as goal

pub loop-file-preserved : goal.loop-file-preserved
loop-file-preserved c = record {
  are = grind (arith, common_steps);
  texts =
      rw c.in_ok-push.ensures.items
      (All-push IsUtf8 c.loop-file.names.items c.in_ok-from_str.field-0 c.loop-file.invariant.texts
      (subst IsUtf8 (sym c.in_ok-from_str.ensures) c.as_str.utf8));
}

pub returns-clause-texts : goal.returns-clause-texts
returns-clause-texts c =
    subst AreTexts
    (c.loop-file.invariant.are ∙ ap file_names (take_all c.loop-file.file-index c.args.files.now c.loop-file-test.false))
    c.loop-file.invariant.texts
