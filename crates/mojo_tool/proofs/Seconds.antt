-- What was fetched of a script and of a history behind it.
use Rattle.std.proofs.Common.{ℕ, List, [], ◌∷◌, ◌++◌, sym, subst, inl, inr, Ok, Err}
use Rattle.std.specs.Prelude.{Result, IfErr}
use Rattle.mj_io.specs.Outside.{Fetch}
use Rattle.mj_schema.specs.declared.schema.Schema.{Schema}
use Rattle.call_script.specs.declared.script.Script.{Script}
use Rattle.history_audit.specs.declared.auditing.AuditFinding.{AuditFinding}
use Rattle.history_audit.specs.declared.auditing.AuditFinding.TheVariants as said
use Rattle.mojo_tool.specs.Work.{Work, WrongWords, Missing, TooLong, Refuses, Rejects, RefusesLine, UnknownName, BadText, Unfit, BadHex, Faulty, Breaks}
use Rattle.mojo_tool.specs.Work.{Checks, Prints, Runs, Encodes, Decodes, Loads, Sounds, Unsounds, Reads, audited, Auditing}
use Rattle.mojo_tool.specs.Answers.{refused_work}
use Rattle.mojo_tool.specs.Fetched.{FetchedAll, FetchedFront, FetchedFor}
use Rattle.mojo_tool.specs.steps.Made.{EndedWith, Unfetched, IsOfLine, IsOfHistory, HistoryFor, BothFor, StoppedAfter, StoppedBoth, StoppedHistory}
use Rattle.mojo_tool.specs.steps.Stops.{NoScript, StopsAt}
use Rattle.mojo_tool.specs.declared.decide.Stop.{Stop}
use Rattle.mojo_tool.specs.declared.decide.Stop.TheVariants.{Refused, ReadFault, NoMemory}
use Rattle.mojo_tool.proofs.Made.{all_more, front_all, front_more, front_wider, one_unfetched, stopped_goes, unfetched_for, unfetched_more, unfetched_wider}

-- ## What is found out of a history

of_said : (answer : AuditFinding) → IsOfHistory (audited answer)
of_said (said.Sound events) = tt
of_said (said.Wrong event) = tt
of_said (said.Short events) = tt
of_said (said.Tail line) = tt

pub of_history : (schema : Schema) (script : Script) (bytes : List ℕ) (work : Work) → Auditing schema script bytes work → IsOfHistory work
of_history schema script bytes work (inl a) = subst IsOfHistory (sym a.2) (of_said a.0)
of_history schema script bytes work (inr a) = subst IsOfHistory (sym a.2) tt

-- ## The history

pub one_history : (name : List ℕ) (stop : Stop) (before now : List Fetch) → EndedWith name stop before now → StoppedHistory name before now stop
one_history name stop before now e =
    stopped_goes (λ work. Unfetched (name ∷ []) work before now) (HistoryFor name before now)
    (FetchedFront (name ∷ []) before now) (FetchedFront (name ∷ []) before now) stop (λ work is. inl is) (λ front. front)
    (one_unfetched name stop before now e)

pub asked_history : (ask : Work → Type 0) (name : List ℕ) (stop : Stop) (before now : List Fetch) → ((w : Work) → ask w → IsOfHistory w)
    → StopsAt ask stop → FetchedAll (name ∷ []) before now → StoppedHistory name before now stop
asked_history ask name (Refused refusal) before now of stops a = inr (of (refused_work refusal) stops, a)
asked_history ask name (ReadFault other) before now of stops a = absurd stops
asked_history ask name NoMemory before now of stops a = front_all (name ∷ []) before now a

-- ## The script, and the history behind it

-- the script isn't fetched
pub first_both : (script history : List ℕ) (stop : Stop) (before now : List Fetch) → EndedWith script stop before now
    → StoppedBoth script history before now stop
first_both script history stop before now e =
    stopped_goes (λ work. Unfetched (script ∷ []) work before now) (BothFor script history before now)
    (FetchedFront (script ∷ []) before now) (FetchedFront (script ∷ history ∷ []) before now) stop
    (λ work is. inl (unfetched_wider (script ∷ []) (history ∷ []) work before now is))
    (front_wider (script ∷ []) (history ∷ []) before now) (one_unfetched script stop before now e)

-- a line of it is refused
pub line_both : (script history : List ℕ) (schema : Schema) (bytes : List ℕ) (stop : Stop) (before now : List Fetch) → NoScript schema bytes stop
    → FetchedAll (script ∷ []) before now → StoppedBoth script history before now stop
line_both script history schema bytes (Refused refusal) before now not a = inr (inl (subst IsOfLine (sym not.3) tt, a))
line_both script history schema bytes (ReadFault name) before now not a = absurd not
line_both script history schema bytes NoMemory before now not a =
    front_wider (script ∷ []) (history ∷ []) before now (front_all (script ∷ []) before now a)

second_goes : (script history : List ℕ) (before mid now : List Fetch) (work : Work) → FetchedAll (script ∷ []) before mid
    → HistoryFor history mid now work → BothFor script history before now work
second_goes script history before mid now work a (inl e) = inl (unfetched_more (script ∷ []) (history ∷ []) work before mid now a e)
second_goes script history before mid now work a (inr e) = inr (inr (e.0, all_more (script ∷ []) (history ∷ []) before mid now a e.1))

-- the history stops it, whatever the answer
pub second_both : {A : Type 0} (r : Result A Stop) (script history : List ℕ) (before mid now : List Fetch) → FetchedAll (script ∷ []) before mid
    → IfErr r (StoppedHistory history mid now) → IfErr r (StoppedBoth script history before now)
second_both (Ok x) script history before mid now a stopped = tt
second_both (Err why) script history before mid now a stopped =
    stopped_goes (HistoryFor history mid now) (BothFor script history before now) (FetchedFront (history ∷ []) mid now)
    (FetchedFront (script ∷ history ∷ []) before now) why (λ work. second_goes script history before mid now work a)
    (front_more (script ∷ []) (history ∷ []) before mid now a) stopped

-- ## Behind the Mojom files

line_for : (mojoms : List (List ℕ)) (script history : List ℕ) (work : Work) (before now : List Fetch) → IsOfLine work
    → FetchedAll (mojoms ++ script ∷ []) before now → FetchedFor mojoms (script ∷ history ∷ []) work before now
line_for mojoms script history WrongWords before now is a = absurd is
line_for mojoms script history (Missing name) before now is a = absurd is
line_for mojoms script history (TooLong name) before now is a = absurd is
line_for mojoms script history (Refuses name refusal) before now is a = absurd is
line_for mojoms script history (Rejects name at cause) before now is a = absurd is
line_for mojoms script history (RefusesLine line why) before now is a = a
line_for mojoms script history (UnknownName name) before now is a = absurd is
line_for mojoms script history (BadText at) before now is a = absurd is
line_for mojoms script history (Unfit why) before now is a = absurd is
line_for mojoms script history BadHex before now is a = absurd is
line_for mojoms script history (Faulty fault) before now is a = absurd is
line_for mojoms script history (Breaks reason) before now is a = absurd is
line_for mojoms script history (Checks schema) before now is a = absurd is
line_for mojoms script history (Prints tree) before now is a = absurd is
line_for mojoms script history (Runs schema bytes order) before now is a = absurd is
line_for mojoms script history (Encodes message) before now is a = absurd is
line_for mojoms script history (Decodes interface method request value) before now is a = absurd is
line_for mojoms script history (Loads schema seed messages) before now is a = absurd is
line_for mojoms script history (Sounds events) before now is a = absurd is
line_for mojoms script history (Unsounds answer) before now is a = absurd is
line_for mojoms script history (Reads stable) before now is a = absurd is

history_for : (mojoms last : List (List ℕ)) (work : Work) (before now : List Fetch) → IsOfHistory work → FetchedAll (mojoms ++ last) before now
    → FetchedFor mojoms last work before now
history_for mojoms last WrongWords before now is a = absurd is
history_for mojoms last (Missing name) before now is a = absurd is
history_for mojoms last (TooLong name) before now is a = absurd is
history_for mojoms last (Refuses name refusal) before now is a = absurd is
history_for mojoms last (Rejects name at cause) before now is a = absurd is
history_for mojoms last (RefusesLine line why) before now is a = absurd is
history_for mojoms last (UnknownName name) before now is a = absurd is
history_for mojoms last (BadText at) before now is a = a
history_for mojoms last (Unfit why) before now is a = absurd is
history_for mojoms last BadHex before now is a = absurd is
history_for mojoms last (Faulty fault) before now is a = absurd is
history_for mojoms last (Breaks reason) before now is a = absurd is
history_for mojoms last (Checks schema) before now is a = absurd is
history_for mojoms last (Prints tree) before now is a = absurd is
history_for mojoms last (Runs schema bytes order) before now is a = absurd is
history_for mojoms last (Encodes message) before now is a = absurd is
history_for mojoms last (Decodes interface method request value) before now is a = absurd is
history_for mojoms last (Loads schema seed messages) before now is a = absurd is
history_for mojoms last (Sounds events) before now is a = a
history_for mojoms last (Unsounds answer) before now is a = a
history_for mojoms last (Reads stable) before now is a = absurd is

both_for : (mojoms : List (List ℕ)) (script history : List ℕ) (before mid now : List Fetch) (work : Work) → FetchedAll mojoms before mid
    → BothFor script history mid now work → FetchedFor mojoms (script ∷ history ∷ []) work before now
both_for mojoms script history before mid now work a (inl e) =
    unfetched_for mojoms (script ∷ history ∷ []) work before now (unfetched_more mojoms (script ∷ history ∷ []) work before mid now a e)
both_for mojoms script history before mid now work a (inr (inl e)) =
    line_for mojoms script history work before now e.0 (all_more mojoms (script ∷ []) before mid now a e.1)
both_for mojoms script history before mid now work a (inr (inr e)) =
    history_for mojoms (script ∷ history ∷ []) work before now e.0 (all_more mojoms (script ∷ history ∷ []) before mid now a e.1)

-- both stop a call, whatever the answer
pub both_after : {A : Type 0} (r : Result A Stop) (mojoms : List (List ℕ)) (script history : List ℕ) (before mid now : List Fetch)
    → FetchedAll mojoms before mid → IfErr r (StoppedBoth script history mid now) → IfErr r (StoppedAfter mojoms (script ∷ history ∷ []) before now)
both_after (Ok x) mojoms script history before mid now a stopped = tt
both_after (Err why) mojoms script history before mid now a stopped =
    stopped_goes (BothFor script history mid now) (λ work. FetchedFor mojoms (script ∷ history ∷ []) work before now)
    (FetchedFront (script ∷ history ∷ []) mid now) (FetchedFront (mojoms ++ script ∷ history ∷ []) before now) why
    (λ work. both_for mojoms script history before mid now work a) (front_more mojoms (script ∷ history ∷ []) before mid now a) stopped
