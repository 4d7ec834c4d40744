use Rattle.std.proofs.Common.{List, map, subst, ap, ◌∙◌}
use Rattle.mojom_compile.specs.Schemas.{IsSchemaOfFiles}
use Rattle.mojom_compile.specs.declared.source.Source.{Source}
use Rattle.mojo_tool.specs.Work.{Comparing, Tabling}
use Rattle.mojo_tool.specs.steps.Pairs.{IsReadsText, Untabled}
use Rattle.mojo_tool.specs.steps.Stops.{StopsAt}
use Rattle.mojo_tool.proofs.Asking.{ok_goes, err_goes}
use Rattle.mojo_tool.proofs.Comparing.{two_long, front_named, rest_named, both_text, both_stop, first_stop, first_name, second_name}
use Rattle.mojo_tool.proofs.compat.compare.Goals as goal

pub front-requires : goal.front-requires
front-requires c = two_long c.args.old.now c.args.new.now c.args.fetched.now c.requires

pub rest-requires : goal.rest-requires
rest-requires c = two_long c.args.old.now c.args.new.now c.args.fetched.now c.requires

pub table_alone-requires : goal.table_alone-requires
table_alone-requires c =
    ap (λ (sources : List Source). map (λ (source : Source). source.name) sources) c.front.ensures
    ∙ front_named c.args.old.now c.args.new.now c.args.fetched.now c.requires

pub compare_with-requires : goal.compare_with-requires
compare_with-requires c =
    ap (λ (sources : List Source). map (λ (source : Source). source.name) sources) c.rest.ensures
    ∙ rest_named c.args.old.now c.args.new.now c.args.fetched.now c.requires

pub returns-in-Err-clause-stop : goal.returns-in-Err-clause-stop
returns-in-Err-clause-stop c =
    first_stop c.args.old.now c.args.new.now c.args.fetched.now c.in-Err.stop c.requires
    (subst (λ (sources : List Source). StopsAt (Untabled sources) c.in-Err.stop) c.front.ensures c.in-Err.ensures.stop)

pub returns-in-Err-clause-named : goal.returns-in-Err-clause-named
returns-in-Err-clause-named c = first_name c.args.old.now c.args.new.now c.in-Err.stop c.in-Err.ensures.named

pub returns-in-Ok-clause-text : goal.returns-in-Ok-clause-text
returns-in-Ok-clause-text c =
    ok_goes c.compare_with.result _ _
    (λ text is. both_text c.args.old.now c.args.new.now c.args.fetched.now c.in-Ok.older text c.requires
    (subst (λ (sources : List Source). IsSchemaOfFiles sources c.in-Ok.older) c.front.ensures c.in-Ok.ensures.schema)
    (subst (λ (sources : List Source). IsReadsText (Tabling (Comparing c.in-Ok.older) sources) text) c.rest.ensures is)) c.compare_with.ensures.text

pub returns-in-Ok-clause-stop : goal.returns-in-Ok-clause-stop
returns-in-Ok-clause-stop c =
    err_goes c.compare_with.result _ _
    (λ why stops. both_stop c.args.old.now c.args.new.now c.args.fetched.now c.in-Ok.older why c.requires
    (subst (λ (sources : List Source). IsSchemaOfFiles sources c.in-Ok.older) c.front.ensures c.in-Ok.ensures.schema)
    (subst (λ (sources : List Source). StopsAt (Tabling (Comparing c.in-Ok.older) sources) why) c.rest.ensures stops)) c.compare_with.ensures.stop

pub returns-in-Ok-clause-named : goal.returns-in-Ok-clause-named
returns-in-Ok-clause-named c =
    err_goes c.compare_with.result _ _ (λ why is. second_name c.args.old.now c.args.new.now why is) c.compare_with.ensures.named
