use Rattle.std.proofs.Common.{List, [], ◌∷◌, map, subst, ap, ◌∙◌}
use Rattle.mojom_compile.specs.declared.source.Source.{Source}
use Rattle.mojo_tool.specs.Work.{Pairing}
use Rattle.mojo_tool.specs.steps.Pairs.{IsReadsText}
use Rattle.mojo_tool.specs.steps.Stops.{StopsAt}
use Rattle.mojo_tool.proofs.Asking.{ok_goes, err_goes}
use Rattle.mojo_tool.proofs.Comparing.{both_asked, both_from, both_stopped, compat_text}
use Rattle.mojo_tool.proofs.Fetching.{not_all_reached, not_all_stops}
use Rattle.mojo_tool.proofs.From.{compat_early}
use Rattle.mojo_tool.proofs.Made.{early_stop, whatever}
use Rattle.mojo_tool.proofs.compat.decide_compat.Goals as goal

pub returns-in-Err-clause-stop : goal.returns-in-Err-clause-stop
returns-in-Err-clause-stop g c =
    not_all_stops _ _ (c.args.old.now ∷ c.args.new.now ∷ []) (λ files. Pairing) c.in-Err.stop c.in-Err.ensures.stop

pub returns-in-Err-clause-reached : goal.returns-in-Err-clause-reached
returns-in-Err-clause-reached g c = not_all_reached _ _ (c.args.old.now ∷ c.args.new.now ∷ []) c.in-Err.stop c.in-Err.ensures.stop

pub returns-in-Err-clause-stopped : goal.returns-in-Err-clause-stopped
returns-in-Err-clause-stopped g c = early_stop (c.args.old.now ∷ c.args.new.now ∷ []) [] _ _ c.in-Err.stop c.in-Err.ensures.stopped

pub returns-in-Err-clause-refused : goal.returns-in-Err-clause-refused
returns-in-Err-clause-refused g c = compat_early c.args.old.now c.args.new.now _ _ c.in-Err.stop c.in-Err.ensures.long

pub compare-requires : goal.compare-requires
compare-requires g c =
    ap (λ (sources : List Source). map (λ (source : Source). source.name) sources) c.as_slice.ensures.value ∙ c.in-Ok.ensures.named

pub returns-in-Ok-clause-text : goal.returns-in-Ok-clause-text
returns-in-Ok-clause-text g c =
    ok_goes c.compare.result _ _
    (λ text is. compat_text (c.args.old.now ∷ c.args.new.now ∷ []) c.in-Ok.fetched.items _ _ _ text
    c.in-Ok.ensures.sources c.in-Ok.ensures.named c.in-Ok.ensures.came
    (subst (λ (sources : List Source). IsReadsText (Pairing sources) text) c.as_slice.ensures.value is)) c.compare.ensures.text

pub returns-in-Ok-clause-stop : goal.returns-in-Ok-clause-stop
returns-in-Ok-clause-stop g c =
    err_goes c.compare.result _ _
    (λ why stops. both_asked (c.args.old.now ∷ c.args.new.now ∷ []) c.in-Ok.fetched.items _ _ why c.in-Ok.ensures.sources
    (subst (λ (sources : List Source). StopsAt (Pairing sources) why) c.as_slice.ensures.value stops)) c.compare.ensures.stop

pub returns-in-Ok-clause-reached : goal.returns-in-Ok-clause-reached
returns-in-Ok-clause-reached g c = err_goes c.compare.result _ _ (λ why is. is) c.compare.ensures.named

pub returns-in-Ok-clause-whole : goal.returns-in-Ok-clause-whole
returns-in-Ok-clause-whole g c = whatever c.compare.result _ c.in-Ok.ensures.whole

pub returns-in-Ok-clause-stopped : goal.returns-in-Ok-clause-stopped
returns-in-Ok-clause-stopped g c =
    err_goes c.compare.result _ _
    (λ why stops. both_stopped (c.args.old.now ∷ c.args.new.now ∷ []) c.in-Ok.fetched.items _ _ why
    (subst (λ (sources : List Source). StopsAt (Pairing sources) why) c.as_slice.ensures.value stops) c.in-Ok.ensures.whole) c.compare.ensures.stop

pub returns-in-Ok-clause-refused : goal.returns-in-Ok-clause-refused
returns-in-Ok-clause-refused g c =
    err_goes c.compare.result _ _
    (λ why stops. both_from (c.args.old.now ∷ c.args.new.now ∷ []) c.in-Ok.fetched.items _ _ why c.in-Ok.ensures.named c.in-Ok.ensures.came
    (subst (λ (sources : List Source). StopsAt (Pairing sources) why) c.as_slice.ensures.value stops)) c.compare.ensures.stop
