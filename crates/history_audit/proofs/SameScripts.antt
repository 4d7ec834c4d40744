-- What is said of a text is the same by scripts that are the same.
use Rattle.std.proofs.Common.{◌≡◌, ℕ, List, ◌++◌, sym, ap, ◌∙◌, subst}
use Rattle.std.specs.Prelude.{◌+◌, Result, Ok, Err, take}
use Rattle.mj_schema.specs.declared.schema.Schema.{Schema}
use Rattle.bind_model.specs.Replies.{Legal}
use Rattle.bind_model.specs.WireOf.{wire_of}
use Rattle.bind_model.specs.declared.event.Event.{Event}
use Rattle.call_script.specs.Same.{SameScript}
use Rattle.call_script.specs.declared.script.Script.{Script}
use Rattle.printed_histories.specs.Runs.{run_text}
use Rattle.script_run.proofs.Same.{history_same}
use Rattle.history_audit.specs.Audited.{Audits, BeginRun, IsRun, SayRun, first_differing}
use Rattle.history_audit.specs.declared.auditing.AuditFinding.{AuditFinding}
use Rattle.history_audit.specs.declared.auditing.AuditFinding.TheVariants.{Sound, Wrong, Short, Tail}
use Rattle.history_audit.specs.declared.auditing.AuditError.{AuditError}
use Rattle.history_audit.specs.declared.auditing.AuditError.TheVariants.{BadText, Memory}

run_same : (schema : Schema) (a b : Script) (history : List Event) → SameScript a b → IsRun schema a history → IsRun schema b history
run_same schema a b history same run = record {
  legal = subst (λ (n : ℕ). Legal (wire_of schema) n history) same.seqs run.legal;
  events = history_same schema a b history same run.events;
}

begin_same : (schema : Schema) (a b : Script) (events : List Event) → SameScript a b → BeginRun schema a events → BeginRun schema b events
begin_same schema a b events same begin = record {
  history = begin.history;
  more = begin.more;
  run = run_same schema a b (begin.history ++ begin.more) same begin.run;
  said = begin.said;
}

say_same : (schema : Schema) (a b : Script) (events history : List Event) → SameScript a b → SayRun schema a events history → SayRun schema b events history
say_same schema a b events history same whole = (run_same schema a b history same whole.0, whole.1)

text_same : (schema : Schema) (a b : Script) (history : List Event) → SameScript a b → run_text schema a.seqs history ≡ run_text schema b.seqs history
text_same schema a b history same = ap (λ (n : ℕ). run_text schema n history) same.seqs

-- each answer fits by the one where it fits by the other
pub audits_same : (schema : Schema) (a b : Script) (bytes : List ℕ) (result : Result AuditFinding AuditError) → SameScript a b → SameScript b a
    → Audits schema a bytes result → Audits schema b bytes result
audits_same schema a b bytes (Ok (Sound events)) same back is = record {
  history = is.history;
  run = run_same schema a b is.history same is.run;
  text = is.text ∙ text_same schema a b is.history same;
  count = is.count;
}
audits_same schema a b bytes (Ok (Wrong event)) same back is = record {
  printed = is.printed;
  says = is.says;
  there = is.there;
  begin = begin_same schema a b (take event is.printed.events) same is.begin;
  no_more = λ begin. is.no_more (begin_same schema b a (take (event + 1) is.printed.events) back begin);
}
audits_same schema a b bytes (Ok (Short events)) same back is = record {
  printed = is.printed;
  says = is.says;
  count = is.count;
  begin = begin_same schema a b is.printed.events same is.begin;
  not_whole = λ history whole. is.not_whole history (say_same schema b a is.printed.events history back whole);
}
audits_same schema a b bytes (Ok (Tail line)) same back is = record {
  printed = is.printed;
  says = is.says;
  history = is.history;
  whole = say_same schema a b is.printed.events is.history same is.whole;
  differs = λ e. is.differs (e ∙ sym (text_same schema a b is.history same));
  at = is.at ∙ ap (first_differing 1 bytes) (text_same schema a b is.history same);
}
audits_same schema a b bytes (Err (BadText at)) same back is = is
audits_same schema a b bytes (Err Memory) same back is = tt
