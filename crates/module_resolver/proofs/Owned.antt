-- What has a name, and what is found of it in the files that are seen.
use Rattle.std.proofs.Common.{◌≡◌, ℕ, ◌+◌, ◌<◌, List, [], ◌∷◌, ◌++◌, length, take, get_or, refl, sym, ◌∙◌, ap, subst}
use Rattle.std.specs.Prelude.{Bool, true, false, cond, ◌||◌, ◌&&◌, ◌==◌, filter, map, slice_get, Option, Some, None, Result, Ok, Err, OnOk, IfOk, if◌then◌else◌}
use Rattle.std.proofs.Math.Path.{fun_ext}
use Rattle.std.specs.List.{list_any}
use Rattle.std.specs.Option.{option_map, option_or, unwrap_or}
use Rattle.std.specs.Str.{bytes_eq}
use Rattle.std.specs.Map.{update}
use Rattle.std.proofs.lemmas.Bool.{eq-eqb, eqb-true}
use Rattle.std.proofs.lemmas.Map.Views.{any-filter_same}
use Rattle.std.proofs.lemmas.Slice.Eq.{bytes_eq-Decides}
use Rattle.std.proofs.lemmas.List.Elements.{filter_more}
use Rattle.std.proofs.lemmas.List.Folds.{find-append}
use Rattle.std.proofs.lemmas.Option.{slice_get-map, same_Some}
use Rattle.mojom_files.specs.declared.named_file.NamedFile.{NamedFile}
use Rattle.mojom_files.specs.Refusals.{first_of}
use Rattle.module_resolver.specs.declared.target.Target.{Target}
use Rattle.module_resolver.specs.declared.file_names.FileNames.{FileNames}
use Rattle.import_order.specs.Imports.{has}
use Rattle.import_order.specs.Numbers.{number_of}
use Rattle.module_resolver.specs.LookUp.{candidates, look_up}
use Rattle.module_resolver.specs.NamesOf.{sees_number, names_in}
use Rattle.module_resolver.specs.Seats.{AreOwners, file_of, first_seen, owner}
use Rattle.module_resolver.specs.steps.Owners.{where_seen, Notes, SeeInOrder}
use Rattle.import_order.proofs.Positions.{same_order, number_more}

-- nothing more than what there is
pub or_none : {A : Type 0} (o : Option A) → option_or o None ≡ o
or_none None = refl
or_none (Some x) = refl

pub or_assoc : {A : Type 0} (o e f : Option A) → option_or (option_or o e) f ≡ option_or o (option_or e f)
or_assoc None e f = refl
or_assoc (Some x) e f = refl

-- where one of the targets is seen, none behind them is found
pub seen_before : (p : ℕ → Bool) (targets : List Target) (e : Option Target)
    → list_any (λ (t : Target). p (file_of t)) targets ≡ true → option_or (first_seen p targets) e ≡ first_seen p targets
seen_before p [] e h = absurd (cc)
seen_before p (t ∷ ts) e h = go (p (file_of t)) (seen_before p ts e) h
  where
    go : (b : Bool) → (list_any (λ (t : Target). p (file_of t)) ts ≡ true → option_or (first_seen p ts) e ≡ first_seen p ts)
        → (b || list_any (λ (t : Target). p (file_of t)) ts) ≡ true
        → option_or (cond b (Some t) (first_seen p ts)) e ≡ cond b (Some t) (first_seen p ts)
    go true later h = refl
    go false later h = later h

-- another target in a file of which one was there already is found nowhere
pub again : (p : ℕ → Bool) (targets : List Target) (file : ℕ) (e : Option Target)
    → (p file ≡ true → list_any (λ (t : Target). p (file_of t)) targets ≡ true)
    → first_seen p targets ≡ option_or (first_seen p targets) (where_seen p file e)
again p targets file e h = go (p file) h
  where
    go : (b : Bool) → (b ≡ true → list_any (λ (t : Target). p (file_of t)) targets ≡ true)
        → first_seen p targets ≡ option_or (first_seen p targets) (if b then e else None)
    go true h = sym (seen_before p targets e (h refl))
    go false h = sym (or_none (first_seen p targets))

-- another target is found where none before it is
pub behind : (p : ℕ → Bool) (targets : List Target) (target : Target)
    → first_seen p (targets ++ target ∷ []) ≡ option_or (first_seen p targets) (where_seen p (file_of target) (Some target))
behind p targets target = find-append (λ (t : Target). p (file_of t)) targets (target ∷ [])

-- the owners of one name are written
pub written : (old new : List ℕ → Option (List Target)) (name : List ℕ) (list : List Target) (target : Target)
    → ((p : ℕ → Bool) → first_seen p list ≡ option_or (owner old p name) (where_seen p (file_of target) (Some target)))
    → ((q : List ℕ) → new q ≡ update bytes_eq old name (Some list) q)
    → Notes old new (λ (p : ℕ → Bool) (q : List ℕ). if bytes_eq q name then where_seen p (file_of target) (Some target) else None)
written old new name list target is e = λ p q. go p q (bytes_eq q name) refl
  where
    go : (p : ℕ → Bool) (q : List ℕ) (b : Bool) → bytes_eq q name ≡ b
        → owner new p q ≡ option_or (owner old p q) (if b then where_seen p (file_of target) (Some target) else None)
    go p q true h =
        let same : q ≡ name = (bytes_eq-Decides q name).0 h in
        let back : bytes_eq name q ≡ true = (bytes_eq-Decides name q).1 (sym same) in
        let there : new q ≡ Some list = rw back at (e q) in
        ap (λ (o : Option (List Target)). first_seen p (unwrap_or o [])) there
        ∙ (is p ∙ ap (λ (n : List ℕ). option_or (owner old p n) (where_seen p (file_of target) (Some target))) (sym same))
    go p q false h =
        let back : bytes_eq name q ≡ false = sym (same_order q name false (bytes_eq name q) h refl) in
        let kept : new q ≡ old q = rw back at (e q) in
        ap (λ (o : Option (List Target)). first_seen p (unwrap_or o [])) kept ∙ sym (or_none (owner old p q))

one_more : (o : Option Target) (make : ℕ → Target) (n : Option ℕ) (number : ℕ) (b c : Bool)
    → option_or (option_or o (if c then option_map make n else None)) (if b then (if c then Some (make number) else None) else None)
    ≡ option_or o (if c then option_map make (option_or n (if b then Some number else None)) else None)
one_more (Some x) make n number b c = refl
one_more None make (Some m) number true true = refl
one_more None make (Some m) number true false = refl
one_more None make (Some m) number false true = refl
one_more None make (Some m) number false false = refl
one_more None make None number true true = refl
one_more None make None number true false = refl
one_more None make None number false true = refl
one_more None make None number false false = refl

-- one name more of a file is noted
pub number_noted : (old mid new : List ℕ → Option (List Target)) (make : ℕ → Target) (file : ℕ) (names : List (List ℕ)) (number : ℕ) (d : List ℕ)
    → file_of (make number) ≡ file → number < length names
    → Notes old mid (λ (p : ℕ → Bool) (q : List ℕ). where_seen p file (option_map make (number_of q (take number names))))
    → Notes mid new
    (λ (p : ℕ → Bool) (q : List ℕ). if bytes_eq q (get_or names number d) then where_seen p (file_of (make number)) (Some (make number)) else None)
    → Notes old new (λ (p : ℕ → Bool) (q : List ℕ). where_seen p file (option_map make (number_of q (take (number + 1) names))))
number_noted old mid new make file names number d at lt before here = λ p q.
    let more = number_more q names number d lt in
    let one = if bytes_eq q (get_or names number d) then where_seen p (file_of (make number)) (Some (make number)) else None in
    here p q
    ∙ (ap (λ (o : Option Target). option_or o one) (before p q)
    ∙ (ap
    (λ (f : ℕ).
    option_or (option_or (owner old p q) (where_seen p file (option_map make (number_of q (take number names)))))
    (if bytes_eq q (get_or names number d) then where_seen p f (Some (make number)) else None)) at
    ∙ (one_more (owner old p q) make (number_of q (take number names)) number (bytes_eq q (get_or names number d)) (p file)
    ∙ ap (λ (n : Option ℕ). option_or (owner old p q) (where_seen p file (option_map make n))) (sym more))))

pub first_append : {A B : Type 0} (look : A → Option B) (xs ys : List A) → first_of look (xs ++ ys) ≡ option_or (first_of look xs) (first_of look ys)
first_append look [] ys = refl
first_append look (x ∷ xs) ys = ap (option_or (look x)) (first_append look xs ys) ∙ sym (or_assoc (look x) (first_of look xs) (first_of look ys))

alone : {B : Type 0} (look : ℕ → Option B) (b : Bool) (x : ℕ) → first_of look (cond b (x ∷ []) []) ≡ (if b then look x else None)
alone look true x = or_none (look x)
alone look false x = refl

-- one file more is noted
pub file_noted : (old mid new : List ℕ → Option (List Target)) (look : List ℕ → ℕ → Option Target) (order : List ℕ) (i : ℕ)
    → i < length order
    → Notes old mid (λ (p : ℕ → Bool) (q : List ℕ). first_of (look q) (filter p (take i order)))
    → Notes mid new (λ (p : ℕ → Bool) (q : List ℕ). where_seen p (get_or order i 0) (look q (get_or order i 0)))
    → Notes old new (λ (p : ℕ → Bool) (q : List ℕ). first_of (look q) (filter p (take (i + 1) order)))
file_noted old mid new look order i lt before here = λ p q.
    let x = get_or order i 0 in
    let more : first_of (look q) (filter p (take (i + 1) order)) ≡ option_or (first_of (look q) (filter p (take i order))) (where_seen p x (look q x)) =
    ap (first_of (look q)) (filter_more p order i 0 lt)
    ∙ (first_append (look q) (filter p (take i order)) (cond (p x) (x ∷ []) [])
    ∙ ap (option_or (first_of (look q) (filter p (take i order)))) (alone (look q) (p x) x)) in
    here p q
    ∙ (ap (λ (o : Option Target). option_or o (where_seen p x (look q x))) (before p q)
    ∙ (or_assoc (owner old p q) (first_of (look q) (filter p (take i order))) (where_seen p x (look q x))
    ∙ ap (option_or (owner old p q)) (sym more)))

-- nothing more is noted
pub none_noted : (p : ℕ → Bool) (file : ℕ) (o : Option Target) → o ≡ option_or o (where_seen p file None)
none_noted p file o = go (p file)
  where
    go : (b : Bool) → o ≡ option_or o (if b then None else None)
    go true = sym (or_none o)
    go false = sym (or_none o)

or_true : (b : Bool) → (b || true) ≡ true
or_true true = refl
or_true false = refl

and_true : (b : Bool) → (b && true) ≡ b
and_true true = refl
and_true false = refl

-- two tests that agree at each number of a list keep the same numbers
agree : (p r : ℕ → Bool) (xs : List ℕ) → ((x : ℕ) → has xs x ≡ true → p x ≡ r x) → filter p xs ≡ filter r xs
agree p r [] h = refl
agree p r (x ∷ xs) h =
    let here : p x ≡ r x = h x (ap (λ (b : Bool). b || has xs x) (eq-eqb x x refl)) in
    let later : filter p xs ≡ filter r xs = agree p r xs (λ y is. h y (ap (λ (b : Bool). (x == y) || b) is ∙ or_true (x == y))) in
    ap (λ (b : Bool). cond b (x ∷ filter p xs) (filter p xs)) here ∙ ap (λ (ys : List ℕ). cond (r x) (x ∷ ys) ys) later

has_filter : (p : ℕ → Bool) (xs : List ℕ) (x : ℕ) → has (filter p xs) x ≡ (p x && has xs x)
has_filter p xs x = any-filter_same (λ (other : ℕ). other == x) p (p x) (λ k is. ap p (eqb-true k x is)) xs

-- those that pass a test are those that are among these
filter_again : (p : ℕ → Bool) (xs : List ℕ) → filter (has (filter p xs)) xs ≡ filter p xs
filter_again p xs = agree (has (filter p xs)) p xs (λ x is. has_filter p xs x ∙ (ap (λ (b : Bool). p x && b) is ∙ and_true (p x)))

-- the files that a file sees are seen in the order of all files
pub in_order : (files : List NamedFile) (order : List ℕ) → SeeInOrder (map (names_in files order) files) order
in_order files order = λ file here is. go here (slice_get files file) (sym (slice_get-map (names_in files order) files file) ∙ is)
  where
    go : (here : FileNames) (found : Option NamedFile) → option_map (names_in files order) found ≡ Some here → filter (has here.seen) order ≡ here.seen
    go here None is = absurd (cc)
    go here (Some one) is =
        let same : names_in files order one ≡ here = same_Some (names_in files order one) here is in
        subst (λ (f : FileNames). filter (has f.seen) order ≡ f.seen) same (filter_again (sees_number files one) order)

-- what follows from what holds of an answer
pub on_ok_then : {T E P Q : Type 0} (r : Result T E) → (P → Q) → OnOk r P → OnOk r Q
on_ok_then (Ok x) f h = f h
on_ok_then (Err e) f h = tt

pub if_ok_then : {T E : Type 0} (P Q : T → Type 0) (r : Result T E) → ((x : T) → P x → Q x) → IfOk r P → IfOk r Q
if_ok_then P Q (Ok x) f h = f x h
if_ok_then P Q (Err e) f h = tt

-- the first owner of a candidate is what the name means in the file
pub found_is : (files : List FileNames) (owners : List ℕ → Option (List Target)) (file : ℕ) (here : FileNames) (enclosing : Option (List ℕ)) (name : List ℕ)
    → AreOwners files owners → slice_get files file ≡ Some here
    → first_of (owner owners (has here.seen)) (candidates enclosing here.fronts name) ≡ look_up files file enclosing name
found_is files owners file here enclosing name are is =
    rw is (ap (λ (look : List ℕ → Option Target). first_of look (candidates enclosing here.fronts name)) (fun_ext (are file here is)))
