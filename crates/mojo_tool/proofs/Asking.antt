-- What is asked for, found out a file at a time.
use Rattle.std.proofs.Common.{◌≡◌, ◌≤◌, ℕ, List, [], ◌∷◌, ◌++◌, length, refl, sym, subst, inl, inr, Some, None}
use Rattle.std.specs.Prelude.{Option, Result, Ok, Err, IfOk, IfErr}
use Rattle.std.specs.Result.{IsErrAnd}
use Rattle.mj_base.specs.declared.limits.TheConstants.{MAX_FILE_BYTES}
use Rattle.mj_io.specs.Outside.{Named, FilesState}
use Rattle.mojom_ast.specs.declared.file.File.{File}
use Rattle.mojom_compile.specs.declared.error.FileRefusal.{FileRefusal}
use Rattle.mojom_compile.specs.Compiled.{IsParsed, IsUnread}
use Rattle.mojom_print.specs.FileText.{file_text}
use Rattle.mojo_tool.specs.Work.{Work, Missing, TooLong, Refuses, Prints, Fetching, Leads, Parsing, Printing, AskedFor}
use Rattle.mojo_tool.specs.Answers.{ReadFailed, refused_work, IsPrintText}
use Rattle.mojo_tool.specs.steps.Stops.{Stops, HasBytes, IsLonger, IsLost, NotFetched, NotCompiled}
use Rattle.mojo_tool.specs.declared.decide.Stop.{Stop}
use Rattle.mojo_tool.specs.declared.decide.Stop.TheVariants.{Refused, ReadFault, NoMemory}

asked_longer : (held : Option (List Named)) (name : List ℕ) (next : List Named → List ℕ → Work → Type 0) (work : Work) → IsLonger held name
    → work ≡ TooLong name → AskedFor held (λ files w. Fetching files name (next files) w) work
asked_longer None name next work longer e = tt
asked_longer (Some files) name next work longer e = subst (λ (found : Option (List ℕ)). Leads name (next files) found work) (sym longer.1) (inl (longer.2, e))

asked_lost : (held : Option (List Named)) (name : List ℕ) (next : List Named → List ℕ → Work → Type 0) (before now : ℕ) → IsLost held name before now
    → ReadFailed held (λ files w. Fetching files name (next files) w) name before now
asked_lost None name next before now lost = tt
asked_lost (Some files) name next before now (inl none) =
    inl (subst (λ (found : Option (List ℕ)). Leads name (next files) found (Missing name)) (sym none) refl)
asked_lost (Some files) name next before now (inr rose) = inr rose

-- why a file was not fetched is why there is no text
pub stopped : (before now : FilesState) (name : List ℕ) (next : List Named → List ℕ → Work → Type 0) (stop : Stop) → NotFetched before now name stop
    → Stops before now (λ files w. Fetching files name (next files) w) stop
stopped before now name next (Refused refusal) why = asked_longer before.held name next (refused_work refusal) why.0 why.1
stopped before now name next (ReadFault other) why =
    record { rose = why.1; failed = rw why.0 (asked_lost before.held name next before.faults_on_present now.faults_on_present why.2) }
stopped before now name next NoMemory why = tt

-- with the bytes of a file that is there, its work is what they lead on to
leads_on : (held : Option (List Named)) (name bytes : List ℕ) (next : List Named → List ℕ → Work → Type 0) (work : Work) → HasBytes held name bytes
    → length bytes ≤ MAX_FILE_BYTES
    → AskedFor held (λ files w. next files bytes w) work → AskedFor held (λ files w. Fetching files name (next files) w) work
leads_on None name bytes next work has short asked = tt
leads_on (Some files) name bytes next work has short asked =
    subst (λ (found : Option (List ℕ)). Leads name (next files) found work) (sym has) (inr (short, asked))

untreed : (held : Option (List Named)) (name bytes : List ℕ) (work : Work) (why : FileRefusal) → IsUnread bytes why → work ≡ Refuses name why
    → AskedFor held (λ files w. Parsing name bytes w) work
untreed None name bytes work why is e = tt
untreed (Some files) name bytes work why is e = inr (why, is, e)

treed : (held : Option (List Named)) (name bytes : List ℕ) (tree : File) → IsParsed bytes tree → AskedFor held (λ files w. Parsing name bytes w) (Prints tree)
treed None name bytes tree is = tt
treed (Some files) name bytes tree is = inl (tree, is, refl)

-- a file without a tree
pub no_tree : (before now : FilesState) (name bytes : List ℕ) (stop : Stop) → HasBytes before.held name bytes → length bytes ≤ MAX_FILE_BYTES
    → NotCompiled (IsUnread bytes) name stop
    → Stops before now (λ files w. Printing files name w) stop
no_tree before now name bytes (Refused refusal) has short why =
    leads_on before.held name bytes (λ files. Parsing name) (refused_work refusal) has short
    (untreed before.held name bytes (refused_work refusal) why.0 why.1 why.2)
no_tree before now name bytes (ReadFault other) has short why = absurd why
no_tree before now name bytes NoMemory has short why = tt

-- the text of a tree
pub tree_text : (held : Option (List Named)) (before now : List Named) (name bytes text : List ℕ) (tree : File) → HasBytes held name bytes
    → length bytes ≤ MAX_FILE_BYTES → now ≡ before ++ record { name = name; bytes = bytes } ∷ [] → IsParsed bytes tree → text ≡ file_text tree
    → IsPrintText name before now held (λ files w. Printing files name w) text
tree_text held before now name bytes text tree has short came is e = record {
  tree = tree;
  bytes = bytes;
  came = came;
  parsed = is;
  asked = leads_on held name bytes (λ files. Parsing name) (Prints tree) has short (treed held name bytes tree is);
  text_of = e;
}

-- what holds of an answer, holds in another form
pub ok_goes : {A E : Type 0} (r : Result A E) (P Q : A → Type 0) → ((x : A) → P x → Q x) → IfOk r P → IfOk r Q
ok_goes (Ok x) P Q f h = f x h
ok_goes (Err e) P Q f h = tt

-- and of an error
pub err_goes : {A E : Type 0} (r : Result A E) (P Q : E → Type 0) → ((e : E) → P e → Q e) → IfErr r P → IfErr r Q
err_goes (Ok x) P Q f h = tt
err_goes (Err e) P Q f h = f e h

-- the error that `?` hands on
pub handed_on : {A E : Type 0} (r : Result A E) (e : E) (P : E → Type 0) → IsErrAnd r (λ made. made ≡ e) → P e → IfErr r P
handed_on (Ok x) e P h p = tt
handed_on (Err made) e P h p = subst P (sym h) p
