use Rattle.std.proofs.Common.{◌≡◌, ◌++◌, codes, subst}
use Rattle.std.specs.Prelude.{OnOk}
use Rattle.bind_model.specs.declared.told.Got.{Got}
use Rattle.history_text.specs.History.{at_text, got_text}
use Rattle.history_text.proofs.told_text.push_apart.Goals as goal

pub returns : goal.returns
returns c =
    subst (λ (g : Got). OnOk c.push_taken.result
    (c.push_taken.new.out.items ≡ c.args.out.now.items ++ (codes "got" ++ (at_text g.moment ++ (codes " " ++ got_text c.args.schema.now g)))))
    c.get.ensures c.push_taken.ensures
