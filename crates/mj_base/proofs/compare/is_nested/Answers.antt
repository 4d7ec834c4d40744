use Rattle.std.proofs.Common.{sym, ◌∙◌, ap}
use Rattle.std.specs.Str.{bytes_eq}
use Rattle.mj_base.specs.Names.{within, named_in}
use Rattle.mj_base.proofs.Backs.{differs, outer_same}
use Rattle.mj_base.proofs.compare.is_nested.Goals as goal

pub returns-in-Some : goal.returns-in-Some
returns-in-Some c =
    let outer = named_in c.args.around.now c.args.outer.now in
    let name = c.args.name.now in
    c.is_named_in.ensures ∙ (sym (outer_same outer c.in-Some.front.now name) ∙ ap (bytes_eq (within outer name)) (sym c.in-Some.ensures))

pub returns-in-None : goal.returns-in-None
returns-in-None c =
    let outer = named_in c.args.around.now c.args.outer.now in
    sym (differs (within outer c.args.name.now) c.args.bytes.now (λ same. c.in-None.ensures outer (sym same)))
