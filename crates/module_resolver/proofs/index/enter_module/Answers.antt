use Rattle.std.proofs.Common.{rules, ◌≡◌, sym, subst}
use Rattle.std.specs.Prelude.{true}
use Rattle.std.specs.Str.{bytes_eq}
use Rattle.std.proofs.lemmas.Slice.Eq.{bytes_eq-Decides}
use Rattle.module_resolver.specs.steps.Held.{IsEntry}
use Rattle.module_resolver.proofs.Held.{entered_none}
use Rattle.module_resolver.proofs.index.enter_module.Goals as goal

pub returns-then-eq-clause-entered : goal.returns-then-eq-clause-entered
returns-then-eq-clause-entered c = entered_none c.args.index.now c.requires.sound

pub returns-then-eq-clause-is : goal.returns-then-eq-clause-is
returns-then-eq-clause-is c =
    let equal : bytes_eq c.args.name.now c.args.around.now ≡ true = search rules in
    let same = (bytes_eq-Decides c.args.name.now c.args.around.now).0 equal in
    subst (λ t. IsEntry c.args.index.now t c.args.at) (sym same) c.requires.at
