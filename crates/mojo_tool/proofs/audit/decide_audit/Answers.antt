use Rattle.std.proofs.Common.{List, [], ◌∷◌, ℕ, Bor}
use Rattle.std.specs.Prelude.{map}
use Rattle.command_line.specs.Asked.{AuditWords, audit_words}
use Rattle.mojo_tool.specs.Work.{AuditingAll}
use Rattle.mojo_tool.proofs.Asking.{ok_goes, err_goes}
use Rattle.mojo_tool.proofs.Fetching.{no_schema_stops}
use Rattle.mojo_tool.proofs.Histories.{audit_stops, audit_text, audit_reached, audit_among, audit_early, audit_from}
use Rattle.mojo_tool.proofs.Made.{early_stop, all_more, also}
use Rattle.mojo_tool.proofs.Seconds.{both_after}
use Rattle.mojo_tool.proofs.audit.decide_audit.Goals as goal

-- the words of an audit
abbrev words_of : List ℕ → List ℕ → List (Bor (List ℕ)) → AuditWords
words_of script history names = audit_words script history (map (λ (name : Bor (List ℕ)). name.now) names)

pub returns-in-Err-clause-stop : goal.returns-in-Err-clause-stop
returns-in-Err-clause-stop g c =
    no_schema_stops _ _ _ (λ files. AuditingAll files c.args.script.now c.args.history.now) c.in-Err.stop c.in-Err.ensures.stop

pub returns-in-Err-clause-reached : goal.returns-in-Err-clause-reached
returns-in-Err-clause-reached g c =
    audit_among (words_of c.args.script.now c.args.history.now c.args.names.now) _ c.in-Err.stop c.in-Err.ensures.among

pub returns-in-Ok-clause-text : goal.returns-in-Ok-clause-text
returns-in-Ok-clause-text g c =
    ok_goes _ _ _
    (λ text is. audit_text (words_of c.args.script.now c.args.history.now c.args.names.now) _ _ _ c.in-Ok.schema text c.in-Ok.ensures.on
    c.in-Ok.ensures.schema c.in-Ok.ensures.from is) c.audit_files.ensures.text

pub returns-in-Ok-clause-stop : goal.returns-in-Ok-clause-stop
returns-in-Ok-clause-stop g c =
    err_goes _ _ _
    (λ why stops. audit_stops (words_of c.args.script.now c.args.history.now c.args.names.now) _ _ _ c.in-Ok.schema why c.in-Ok.ensures.on
    c.in-Ok.ensures.schema stops) c.audit_files.ensures.stop

pub returns-in-Ok-clause-reached : goal.returns-in-Ok-clause-reached
returns-in-Ok-clause-reached g c =
    err_goes _ _ _
    (λ why named. audit_reached (words_of c.args.script.now c.args.history.now c.args.names.now) _ _ c.in-Ok.schema why c.in-Ok.ensures.on.same
    c.in-Ok.ensures.schema named) c.audit_files.ensures.named

pub returns-in-Err-clause-stopped : goal.returns-in-Err-clause-stopped
returns-in-Err-clause-stopped g c =
    early_stop _ (c.args.script.now ∷ c.args.history.now ∷ []) _ _ c.in-Err.stop c.in-Err.ensures.stopped

pub returns-in-Ok-clause-whole : goal.returns-in-Ok-clause-whole
returns-in-Ok-clause-whole g c =
    also c.audit_files.result _ _ (all_more _ (c.args.script.now ∷ c.args.history.now ∷ []) _ _ _ c.in-Ok.ensures.whole) c.audit_files.ensures.whole

pub returns-in-Ok-clause-stopped : goal.returns-in-Ok-clause-stopped
returns-in-Ok-clause-stopped g c =
    both_after c.audit_files.result _ c.args.script.now c.args.history.now _ _ _ c.in-Ok.ensures.whole c.audit_files.ensures.stopped

pub returns-in-Err-clause-refused : goal.returns-in-Err-clause-refused
returns-in-Err-clause-refused g c =
    audit_early (words_of c.args.script.now c.args.history.now c.args.names.now) _ _ c.in-Err.stop c.in-Err.ensures.refused

pub returns-in-Ok-clause-refused : goal.returns-in-Ok-clause-refused
returns-in-Ok-clause-refused g c =
    err_goes _ _ _
    (λ why from. audit_from (words_of c.args.script.now c.args.history.now c.args.names.now) _ _ _ c.in-Ok.schema why c.in-Ok.ensures.from from)
    c.audit_files.ensures.refused
