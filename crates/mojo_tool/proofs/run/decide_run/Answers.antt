use Rattle.std.proofs.Common.{List, [], ◌∷◌, ℕ, Bor, Some}
use Rattle.std.specs.Prelude.{map, Option}
use Rattle.command_line.specs.Asked.{RunWords, run_words}
use Rattle.mojo_tool.proofs.Asking.{ok_goes, err_goes}
use Rattle.mojo_tool.proofs.Running.{no_files, comes_to_file, run_stops, right_text, comes_to_script}
use Rattle.mojo_tool.proofs.Made.{early_stop, late_stops, all_more, also}
use Rattle.mojo_tool.proofs.From.{run_early, run_from}
use Rattle.mojo_tool.proofs.run.decide_run.Goals as goal

-- the words of a run
abbrev words_of : List ℕ → Option ℕ → List (Bor (List ℕ)) → RunWords
words_of script order names = run_words script order (map (λ (name : Bor (List ℕ)). name.now) names)

pub returns-in-Err-clause-stop : goal.returns-in-Err-clause-stop
returns-in-Err-clause-stop g c =
    let words = words_of c.args.script.now (Some c.args.order) c.args.names.now in
    no_files words _ _ c.in-Err.stop c.in-Err.ensures.stop

pub returns-in-Err-clause-reached : goal.returns-in-Err-clause-reached
returns-in-Err-clause-reached g c =
    let words = words_of c.args.script.now (Some c.args.order) c.args.names.now in
    comes_to_file words _ c.in-Err.stop c.in-Err.ensures.among

pub returns-in-Ok-clause-text : goal.returns-in-Ok-clause-text
returns-in-Ok-clause-text g c =
    let words = words_of c.args.script.now (Some c.args.order) c.args.names.now in
    ok_goes _ _ _
    (λ text is. right_text words _ _ _ c.in-Ok.schema text c.in-Ok.ensures.on c.in-Ok.ensures.schema
    c.in-Ok.ensures.from is)
    c.decide_script.ensures.text

pub returns-in-Ok-clause-stop : goal.returns-in-Ok-clause-stop
returns-in-Ok-clause-stop g c =
    let words = words_of c.args.script.now (Some c.args.order) c.args.names.now in
    err_goes _ _ _
    (λ why stops. run_stops words _ _ _ c.in-Ok.schema why c.in-Ok.ensures.on c.in-Ok.ensures.schema stops)
    c.decide_script.ensures.stop

pub returns-in-Ok-clause-reached : goal.returns-in-Ok-clause-reached
returns-in-Ok-clause-reached g c =
    let words = words_of c.args.script.now (Some c.args.order) c.args.names.now in
    err_goes _ _ _
    (λ why named. comes_to_script words _ c.in-Ok.schema why c.in-Ok.ensures.schema named)
    c.decide_script.ensures.named

pub returns-in-Err-clause-stopped : goal.returns-in-Err-clause-stopped
returns-in-Err-clause-stopped g c = early_stop _ (c.args.script.now ∷ []) _ _ c.in-Err.stop c.in-Err.ensures.stopped

pub returns-in-Ok-clause-whole : goal.returns-in-Ok-clause-whole
returns-in-Ok-clause-whole g c = also c.decide_script.result _ _ (all_more _ (c.args.script.now ∷ []) _ _ _ c.in-Ok.ensures.whole) c.decide_script.ensures.whole

pub returns-in-Ok-clause-stopped : goal.returns-in-Ok-clause-stopped
returns-in-Ok-clause-stopped g c =
    late_stops c.decide_script.result _ c.args.script.now _ _ _ c.in-Ok.ensures.whole c.decide_script.ensures.stopped

pub returns-in-Err-clause-refused : goal.returns-in-Err-clause-refused
returns-in-Err-clause-refused g c =
    let words = words_of c.args.script.now (Some c.args.order) c.args.names.now in
    run_early words _ _ c.in-Err.stop c.in-Err.ensures.refused

pub returns-in-Ok-clause-refused : goal.returns-in-Ok-clause-refused
returns-in-Ok-clause-refused g c =
    let words = words_of c.args.script.now (Some c.args.order) c.args.names.now in
    run_from c.decide_script.result words _ _ _ c.in-Ok.schema c.in-Ok.ensures.from
    c.decide_script.ensures.refused
