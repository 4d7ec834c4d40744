-- What was fetched, a file at a time.
use Rattle.std.proofs.Common.{◌≡◌, ℕ, List, [], ◌∷◌, ◌++◌, map, refl, sym, subst, ap, ◌∙◌, inl, inr}
use Rattle.std.proofs.Common.{append_assoc, append-nil, Ok, Err}
use Rattle.std.specs.Prelude.{Result, IfErr, OnOk, take}
use Rattle.std.proofs.lemmas.List.{map-append}
use Rattle.mj_io.specs.Outside.{Fetch, fetch_of}
use Rattle.mj_io.specs.declared.Fetched.{Fetched}
use Rattle.mj_io.specs.declared.Fetched.TheVariants.{Longer}
use Rattle.mj_io.specs.declared.FilesError.{FilesError}
use Rattle.mj_io.specs.declared.FilesError.TheVariants.{Failed, Memory}
use Rattle.mojom_compile.specs.declared.error.FileRefusal.{FileRefusal}
use Rattle.mojom_compile.specs.declared.schema_error.SchemaError.{SchemaError}
use Rattle.mojom_compile.specs.declared.schema_error.SchemaError.TheVariants as errors
use Rattle.mojo_tool.specs.Work.{Work, WrongWords, Missing, TooLong, Refuses, Rejects, RefusesLine, UnknownName, BadText, Unfit, BadHex, Faulty, Breaks}
use Rattle.mojo_tool.specs.Work.{Checks, Prints, Runs, Encodes, Decodes, Loads, Sounds, Unsounds, Reads}
use Rattle.mojo_tool.specs.Answers.{refused_work}
use Rattle.mojo_tool.specs.Fetched.{whole, FetchedAll, EndedAt, FetchedFront, FetchedFor}
use Rattle.mojo_tool.specs.steps.Stops.{NotCompiled, StopsAt}
use Rattle.mojo_tool.specs.steps.Fetches.{NotTabled}
use Rattle.mojo_tool.specs.steps.Made.{EndedWith, Unfetched, IsOfMojoms, IsOfAll, EarlyFor, LateFor}
use Rattle.mojo_tool.specs.steps.Made.{StoppedSo, StoppedEarly, StoppedLate, StoppedAfter}
use Rattle.mojo_tool.specs.declared.decide.Stop.{Stop}
use Rattle.mojo_tool.specs.declared.decide.Stop.TheVariants.{Refused, ReadFault, NoMemory}

-- lists of fetches

-- behind two lists
behind : (before : List Fetch) (first second : List (List ℕ)) (end : List Fetch)
    → (before ++ map whole first) ++ (map whole second ++ end) ≡ before ++ (map whole (first ++ second) ++ end)
behind before first second end =
    append_assoc before (map whole first) (map whole second ++ end)
    ∙ ap (λ (xs : List Fetch). before ++ xs)
    (sym (append_assoc (map whole first) (map whole second) end) ∙ ap (λ (xs : List Fetch). xs ++ end) (sym (map-append whole first second)))

-- names, and names behind them
pub all_more : (first second : List (List ℕ)) (before mid now : List Fetch) → FetchedAll first before mid → FetchedAll second mid now
    → FetchedAll (first ++ second) before now
all_more first second before mid now a b =
    b ∙ ap (λ (xs : List Fetch). xs ++ map whole second) a ∙ append_assoc before (map whole first) (map whole second)
    ∙ ap (λ (xs : List Fetch). before ++ xs) (sym (map-append whole first second))

-- a name behind names that were fetched
pub ended_more : (first rest : List (List ℕ)) (name : List ℕ) (answer : Result Fetched FilesError) (before mid now : List Fetch) → FetchedAll first before mid
    → EndedAt rest name answer mid now → EndedAt (first ++ rest) name answer before now
ended_more first rest name answer before mid now a e = record {
  first = first ++ e.first;
  left = e.left;
  all = ap (λ (xs : List (List ℕ)). first ++ xs) e.all ∙ sym (append_assoc first e.first (name ∷ e.left));
  made = e.made ∙ ap (λ (xs : List Fetch). xs ++ (map whole e.first ++ fetch_of name answer ∷ [])) a
      ∙ behind before first e.first (fetch_of name answer ∷ []);
}

-- with names behind it that were not
pub ended_wider : (names more : List (List ℕ)) (name : List ℕ) (answer : Result Fetched FilesError) (before now : List Fetch)
    → EndedAt names name answer before now → EndedAt (names ++ more) name answer before now
ended_wider names more name answer before now e = record {
  first = e.first;
  left = e.left ++ more;
  all = ap (λ (xs : List (List ℕ)). xs ++ more) e.all ∙ append_assoc e.first (name ∷ e.left) more;
  made = e.made;
}

-- a name alone
pub ended_one : (name : List ℕ) (answer : Result Fetched FilesError) (before now : List Fetch) → now ≡ before ++ fetch_of name answer ∷ []
    → EndedAt (name ∷ []) name answer before now
ended_one name answer before now e = record { first = []; left = []; all = refl; made = e }

-- fronts

pub front_none : (names : List (List ℕ)) (before now : List Fetch) → now ≡ before → FetchedFront names before now
front_none names before now e = inl (record { first = []; left = names; all = refl; made = e ∙ sym (append-nil before) })

pub front_all : (names : List (List ℕ)) (before now : List Fetch) → FetchedAll names before now → FetchedFront names before now
front_all names before now a = inl (record { first = names; left = []; all = sym (append-nil names); made = a })

pub front_wider : (names more : List (List ℕ)) (before now : List Fetch) → FetchedFront names before now → FetchedFront (names ++ more) before now
front_wider names more before now (inl some) = inl (record {
  first = some.first;
  left = some.left ++ more;
  all = ap (λ (xs : List (List ℕ)). xs ++ more) some.all ∙ append_assoc some.first some.left more;
  made = some.made;
})
front_wider names more before now (inr ended) = inr (ended.0, ended.1, ended_wider names more ended.0 ended.1 before now ended.2)

pub front_more : (first rest : List (List ℕ)) (before mid now : List Fetch) → FetchedAll first before mid → FetchedFront rest mid now
    → FetchedFront (first ++ rest) before now
front_more first rest before mid now a (inl some) = inl (record {
  first = first ++ some.first;
  left = some.left;
  all = ap (λ (xs : List (List ℕ)). first ++ xs) some.all ∙ sym (append_assoc first some.first some.left);
  made = all_more first some.first before mid now a some.made;
})
front_more first rest before mid now a (inr ended) = inr (ended.0, ended.1, ended_more first rest ended.0 ended.1 before mid now a ended.2)

-- works

pub unfetched_more : (first rest : List (List ℕ)) (work : Work) (before mid now : List Fetch) → FetchedAll first before mid → Unfetched rest work mid now
    → Unfetched (first ++ rest) work before now
unfetched_more first rest work before mid now a (inl e) = inl (e.0, e.1, ended_more first rest e.0 (Err Failed) before mid now a e.2)
unfetched_more first rest work before mid now a (inr e) = inr (e.0, e.1, ended_more first rest e.0 (Ok Longer) before mid now a e.2)

pub unfetched_wider : (names more : List (List ℕ)) (work : Work) (before now : List Fetch) → Unfetched names work before now
    → Unfetched (names ++ more) work before now
unfetched_wider names more work before now (inl e) = inl (e.0, e.1, ended_wider names more e.0 (Err Failed) before now e.2)
unfetched_wider names more work before now (inr e) = inr (e.0, e.1, ended_wider names more e.0 (Ok Longer) before now e.2)

pub unfetched_for : (mojoms last : List (List ℕ)) (work : Work) (before now : List Fetch) → Unfetched (mojoms ++ last) work before now
    → FetchedFor mojoms last work before now
unfetched_for mojoms last work before now (inl e) = subst (λ (w : Work). FetchedFor mojoms last w before now) (sym e.1) e.2
unfetched_for mojoms last work before now (inr e) = subst (λ (w : Work). FetchedFor mojoms last w before now) (sym e.1) e.2

pub mojoms_for : (mojoms last : List (List ℕ)) (work : Work) (before now : List Fetch) → IsOfMojoms work → FetchedAll mojoms before now
    → FetchedFor mojoms last work before now
mojoms_for mojoms last WrongWords before now is a = absurd is
mojoms_for mojoms last (Missing name) before now is a = absurd is
mojoms_for mojoms last (TooLong name) before now is a = absurd is
mojoms_for mojoms last (Refuses name refusal) before now is a = a
mojoms_for mojoms last (Rejects name at cause) before now is a = a
mojoms_for mojoms last (RefusesLine line why) before now is a = absurd is
mojoms_for mojoms last (UnknownName name) before now is a = a
mojoms_for mojoms last (BadText at) before now is a = absurd is
mojoms_for mojoms last (Unfit why) before now is a = absurd is
mojoms_for mojoms last BadHex before now is a = absurd is
mojoms_for mojoms last (Faulty fault) before now is a = absurd is
mojoms_for mojoms last (Breaks reason) before now is a = absurd is
mojoms_for mojoms last (Checks schema) before now is a = absurd is
mojoms_for mojoms last (Prints tree) before now is a = absurd is
mojoms_for mojoms last (Runs schema script order) before now is a = absurd is
mojoms_for mojoms last (Encodes message) before now is a = absurd is
mojoms_for mojoms last (Decodes interface method request value) before now is a = absurd is
mojoms_for mojoms last (Loads schema seed messages) before now is a = absurd is
mojoms_for mojoms last (Sounds events) before now is a = absurd is
mojoms_for mojoms last (Unsounds answer) before now is a = absurd is
mojoms_for mojoms last (Reads stable) before now is a = absurd is

-- found out of all files, of which one at most comes behind the Mojom files
pub all_for : (mojoms last : List (List ℕ)) (work : Work) (before now : List Fetch) → take 1 last ≡ last → IsOfAll work
    → FetchedAll (mojoms ++ last) before now → FetchedFor mojoms last work before now
all_for mojoms last WrongWords before now one is a = absurd is
all_for mojoms last (Missing name) before now one is a = absurd is
all_for mojoms last (TooLong name) before now one is a = absurd is
all_for mojoms last (Refuses name refusal) before now one is a = absurd is
all_for mojoms last (Rejects name at cause) before now one is a = absurd is
all_for mojoms last (RefusesLine line why) before now one is a =
    subst (λ (names : List (List ℕ)). FetchedAll (mojoms ++ names) before now) (sym one) a
all_for mojoms last (UnknownName name) before now one is a = absurd is
all_for mojoms last (BadText at) before now one is a = a
all_for mojoms last (Unfit why) before now one is a = a
all_for mojoms last BadHex before now one is a = a
all_for mojoms last (Faulty fault) before now one is a = a
all_for mojoms last (Breaks reason) before now one is a = a
all_for mojoms last (Checks schema) before now one is a = a
all_for mojoms last (Prints tree) before now one is a = a
all_for mojoms last (Runs schema script order) before now one is a = a
all_for mojoms last (Encodes message) before now one is a = a
all_for mojoms last (Decodes interface method request value) before now one is a = a
all_for mojoms last (Loads schema seed messages) before now one is a = a
all_for mojoms last (Sounds events) before now one is a = a
all_for mojoms last (Unsounds answer) before now one is a = a
all_for mojoms last (Reads stable) before now one is a = a

early_for : (mojoms last : List (List ℕ)) (before now : List Fetch) (work : Work) → EarlyFor mojoms before now work → FetchedFor mojoms last work before now
early_for mojoms last before now work (inl e) = unfetched_for mojoms last work before now (unfetched_wider mojoms last work before now e)
early_for mojoms last before now work (inr e) = mojoms_for mojoms last work before now e.0 e.1

late_for : (mojoms : List (List ℕ)) (name : List ℕ) (before mid now : List Fetch) (work : Work) → FetchedAll mojoms before mid
    → LateFor name mid now work → FetchedFor mojoms (name ∷ []) work before now
late_for mojoms name before mid now work a (inl e) =
    unfetched_for mojoms (name ∷ []) work before now (unfetched_more mojoms (name ∷ []) work before mid now a e)
late_for mojoms name before mid now work a (inr e) =
    all_for mojoms (name ∷ []) work before now refl e.0 (all_more mojoms (name ∷ []) before mid now a e.1)

-- the Mojom files and the first behind them
front_first : (mojoms last : List (List ℕ)) (before now : List Fetch) → FetchedAll (mojoms ++ take 1 last) before now → FetchedFront (mojoms ++ last) before now
front_first mojoms [] before now a = front_all (mojoms ++ []) before now a
front_first mojoms (name ∷ left) before now a = inl (record {
  first = mojoms ++ name ∷ [];
  left = left;
  all = sym (append_assoc mojoms (name ∷ []) left);
  made = a;
})

-- what was fetched where a work was found out is a front
pub front_for : (mojoms last : List (List ℕ)) (work : Work) (before now : List Fetch) → FetchedFor mojoms last work before now
    → FetchedFront (mojoms ++ last) before now
front_for mojoms last WrongWords before now e = front_none (mojoms ++ last) before now e
front_for mojoms last (Missing name) before now e = inr (name, Err Failed, e)
front_for mojoms last (TooLong name) before now e = inr (name, Ok Longer, e)
front_for mojoms last (Refuses name refusal) before now a = front_wider mojoms last before now (front_all mojoms before now a)
front_for mojoms last (Rejects name at cause) before now a = front_wider mojoms last before now (front_all mojoms before now a)
front_for mojoms last (RefusesLine line why) before now a = front_first mojoms last before now a
front_for mojoms last (UnknownName name) before now a = front_wider mojoms last before now (front_all mojoms before now a)
front_for mojoms last (BadText at) before now a = front_all (mojoms ++ last) before now a
front_for mojoms last (Unfit why) before now a = front_all (mojoms ++ last) before now a
front_for mojoms last BadHex before now a = front_all (mojoms ++ last) before now a
front_for mojoms last (Faulty fault) before now a = front_all (mojoms ++ last) before now a
front_for mojoms last (Breaks reason) before now a = front_all (mojoms ++ last) before now a
front_for mojoms last (Checks schema) before now a = front_all (mojoms ++ last) before now a
front_for mojoms last (Prints tree) before now a = front_all (mojoms ++ last) before now a
front_for mojoms last (Runs schema script order) before now a = front_all (mojoms ++ last) before now a
front_for mojoms last (Encodes message) before now a = front_all (mojoms ++ last) before now a
front_for mojoms last (Decodes interface method request value) before now a = front_all (mojoms ++ last) before now a
front_for mojoms last (Loads schema seed messages) before now a = front_all (mojoms ++ last) before now a
front_for mojoms last (Sounds events) before now a = front_all (mojoms ++ last) before now a
front_for mojoms last (Unsounds answer) before now a = front_all (mojoms ++ last) before now a
front_for mojoms last (Reads stable) before now a = front_all (mojoms ++ last) before now a

-- stops

pub stopped_goes : (P Q : Work → Type 0) (S T : Type 0) (stop : Stop) → ((w : Work) → P w → Q w) → (S → T) → StoppedSo P S stop → StoppedSo Q T stop
stopped_goes P Q S T (Refused refusal) goes short stopped = goes (refused_work refusal) stopped
stopped_goes P Q S T (ReadFault name) goes short stopped = goes (Missing name.now) stopped
stopped_goes P Q S T NoMemory goes short stopped = short stopped

-- where the Mojom files stop a call, the file behind them isn't fetched
pub early_stop : (mojoms last : List (List ℕ)) (before now : List Fetch) (stop : Stop) → StoppedEarly mojoms before now stop
    → StoppedAfter mojoms last before now stop
early_stop mojoms last before now stop stopped =
    stopped_goes (EarlyFor mojoms before now) (λ work. FetchedFor mojoms last work before now) (FetchedFront mojoms before now)
    (FetchedFront (mojoms ++ last) before now) stop (early_for mojoms last before now) (front_wider mojoms last before now) stopped

-- the file behind them
late_stop : (mojoms : List (List ℕ)) (name : List ℕ) (before mid now : List Fetch) (stop : Stop) → FetchedAll mojoms before mid
    → StoppedLate name mid now stop → StoppedAfter mojoms (name ∷ []) before now stop
late_stop mojoms name before mid now stop a stopped =
    stopped_goes (LateFor name mid now) (λ work. FetchedFor mojoms (name ∷ []) work before now) (FetchedFront (name ∷ []) mid now)
    (FetchedFront (mojoms ++ name ∷ []) before now) stop (λ work. late_for mojoms name before mid now work a)
    (front_more mojoms (name ∷ []) before mid now a) stopped

-- whatever the answer is of the file behind them
pub late_stops : {A : Type 0} (r : Result A Stop) (mojoms : List (List ℕ)) (name : List ℕ) (before mid now : List Fetch) → FetchedAll mojoms before mid
    → IfErr r (StoppedLate name mid now) → IfErr r (StoppedAfter mojoms (name ∷ []) before now)
late_stops (Ok x) mojoms name before mid now a stopped = tt
late_stops (Err why) mojoms name before mid now a stopped = late_stop mojoms name before mid now why a stopped

-- a name behind names that were fetched
early_more : (first rest : List (List ℕ)) (before mid now : List Fetch) (work : Work) → FetchedAll first before mid → EarlyFor rest mid now work
    → EarlyFor (first ++ rest) before now work
early_more first rest before mid now work a (inl e) = inl (unfetched_more first rest work before mid now a e)
early_more first rest before mid now work a (inr e) = inr (e.0, all_more first rest before mid now a e.1)

early_wider : (names more : List (List ℕ)) (before now : List Fetch) (work : Work) → Unfetched names work before now → EarlyFor (names ++ more) before now work
early_wider names more before now work e = inl (unfetched_wider names more work before now e)

-- one fetch that stopped the call
pub one_unfetched : (name : List ℕ) (stop : Stop) (before now : List Fetch) → EndedWith name stop before now
    → StoppedSo (λ work. Unfetched (name ∷ []) work before now) (FetchedFront (name ∷ []) before now) stop
one_unfetched name (Refused refusal) before now e = inr (name, e.0, ended_one name (Ok Longer) before now e.1)
one_unfetched name (ReadFault other) before now e = inl (name, ap Missing e.0, ended_one name (Err Failed) before now e.1)
one_unfetched name NoMemory before now e = inr (name, Err Memory, ended_one name (Err Memory) before now e)

pub one_late : (name : List ℕ) (stop : Stop) (before now : List Fetch) → EndedWith name stop before now → StoppedLate name before now stop
one_late name stop before now e =
    stopped_goes (λ work. Unfetched (name ∷ []) work before now) (LateFor name before now)
    (FetchedFront (name ∷ []) before now) (FetchedFront (name ∷ []) before now) stop (λ work is. inl is) (λ front. front)
    (one_unfetched name stop before now e)

pub one_after : (name : List ℕ) (stop : Stop) (before now : List Fetch) → EndedWith name stop before now → StoppedAfter (name ∷ []) [] before now stop
one_after name stop before now e =
    stopped_goes (λ work. Unfetched (name ∷ []) work before now) (λ work. FetchedFor (name ∷ []) [] work before now)
    (FetchedFront (name ∷ []) before now) (FetchedFront (name ∷ []) before now) stop
    (λ work. unfetched_for (name ∷ []) [] work before now) (λ front. front) (one_unfetched name stop before now e)

-- one of several
pub one_of_all : (first left : List (List ℕ)) (name : List ℕ) (before mid now : List Fetch) (stop : Stop) → FetchedAll first before mid
    → StoppedSo (λ work. Unfetched (name ∷ []) work mid now) (FetchedFront (name ∷ []) mid now) stop
    → StoppedEarly (first ++ name ∷ left) before now stop
one_of_all first left name before mid now stop a stopped =
    stopped_goes (λ work. Unfetched (name ∷ []) work mid now) (EarlyFor (first ++ name ∷ left) before now)
    (FetchedFront (name ∷ []) mid now) (FetchedFront (first ++ name ∷ left) before now) stop
    (λ work is. early_more first (name ∷ left) before mid now work a (early_wider (name ∷ []) left mid now work is))
    (λ front. front_more first (name ∷ left) before mid now a (front_wider (name ∷ []) left mid now front)) stopped

-- files that were fetched, and have no schema
pub tabled_early : (names : List (List ℕ)) (error : SchemaError) (stop : Stop) (before now : List Fetch) → NotTabled names error stop
    → FetchedAll names before now → StoppedEarly names before now stop
tabled_early names (errors.Unread file why) (Refused refusal) before now not a = inr (subst IsOfMojoms (sym not.2) tt, a)
tabled_early names (errors.Refused why) (Refused refusal) before now not a = inr (subst IsOfMojoms (sym not.2) tt, a)
tabled_early names errors.Memory (Refused refusal) before now not a = absurd not
tabled_early names error (ReadFault name) before now not a = absurd not
tabled_early names error NoMemory before now not a = front_all names before now a

-- a file that was fetched, and has no tree
pub untreed_after : (Such : FileRefusal → Type 0) (name : List ℕ) (stop : Stop) (before now : List Fetch) → NotCompiled Such name stop
    → FetchedAll (name ∷ []) before now → StoppedAfter (name ∷ []) [] before now stop
untreed_after Such name (Refused refusal) before now not a =
    subst (λ (w : Work). FetchedFor (name ∷ []) [] w before now) (sym not.2) a
untreed_after Such name (ReadFault other) before now not a = absurd not
untreed_after Such name NoMemory before now not a = front_all (name ∷ []) before now a

-- want of memory behind all
pub short_after : (mojoms last : List (List ℕ)) (stop : Stop) (before now : List Fetch) → stop ≡ NoMemory → FetchedAll (mojoms ++ last) before now
    → StoppedAfter mojoms last before now stop
short_after mojoms last stop before now e a =
    subst (StoppedAfter mojoms last before now) (sym e) (front_all (mojoms ++ last) before now a)

pub short_late : (name : List ℕ) (stop : Stop) (before now : List Fetch) → stop ≡ NoMemory → FetchedAll (name ∷ []) before now
    → StoppedLate name before now stop
short_late name stop before now e a = subst (StoppedLate name before now) (sym e) (front_all (name ∷ []) before now a)

-- what the bytes of the file behind the Mojom files ask for
pub asked_late : (ask : Work → Type 0) (name : List ℕ) (stop : Stop) (before now : List Fetch) → ((w : Work) → ask w → IsOfAll w) → StopsAt ask stop
    → FetchedAll (name ∷ []) before now → StoppedLate name before now stop
asked_late ask name (Refused refusal) before now late stops a = inr (late (refused_work refusal) stops, a)
asked_late ask name (ReadFault other) before now late stops a = absurd stops
asked_late ask name NoMemory before now late stops a = front_all (name ∷ []) before now a

-- Mojom files alone
pub all_alone : (names : List (List ℕ)) (before now : List Fetch) → FetchedAll names before now → FetchedAll (names ++ []) before now
all_alone names before now a = subst (λ (ns : List (List ℕ)). FetchedAll ns before now) (sym (append-nil names)) a

-- whatever the answer
pub whatever : {A E : Type 0} (r : Result A E) (P : Type 0) → P → OnOk r P
whatever (Ok x) P p = p
whatever (Err e) P p = tt

-- and where there is one, what more holds
pub also : {A E : Type 0} (r : Result A E) (P Q : Type 0) → (P → Q) → OnOk r P → OnOk r Q
also (Ok x) P Q goes p = goes p
also (Err e) P Q goes p = tt
