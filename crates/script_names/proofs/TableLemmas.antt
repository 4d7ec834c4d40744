-- What stands in a table after one thing is taken from it, or given to it.
use Rattle.std.proofs.Common.{◌≡◌, ◌<◌, ◌+◌, ℕ, zero, suc, Bool, true, false, List, [], ◌∷◌, ◌++◌, length, drop, take, append_assoc, refl, sym, ap, ◌∙◌}
use Rattle.std.proofs.Common.{arith}
use Rattle.std.specs.Prelude.{◌==◌, ◌||◌, Option, Some, None, slice_get, option_and_then, if◌then◌else◌, set}
use Rattle.std.specs.Option.{option_map}
use Rattle.std.proofs.Math.Path.{fun_ext}
use Rattle.std.proofs.lemmas.Bool.{eqb-true, eq-eqb}
use Rattle.std.proofs.Math.Seq.{take-nil}
use Rattle.std.proofs.lemmas.List.{set-set}
use Rattle.handle_table.proofs.NumberedLemmas.{get-set}
use Rattle.call_script.specs.declared.script.NameId.{NameId}
use Rattle.script_names.specs.Names.{has_name}
use Rattle.script_names.specs.Asking.{all_held}
use Rattle.script_names.specs.Held.{held_at}
use Rattle.script_names.specs.Tables.{emptied, filled, given, taken_from, left_by, left_where}

-- a name is itself
pub same_name : (m n : NameId) → (m.0 == n.0) ≡ true → m ≡ n
same_name m n e = ap (λ (k : ℕ). record { 0 = k }) (eqb-true m.0 n.0 e)

pub eqb-turned : (m n : ℕ) → (m == n) ≡ (n == m)
eqb-turned m n = go (m == n) (n == m) refl refl
  where
    go : (b c : Bool) → (m == n) ≡ b → (n == m) ≡ c → b ≡ c
    go true true e h = refl
    go false false e h = refl
    go true false e h = let t : (n == m) ≡ true = eq-eqb n m (sym (eqb-true m n e)) in cc
    go false true e h = let t : (m == n) ≡ true = eq-eqb m n (sym (eqb-true n m h)) in cc

-- an item that stands at a number
pub there : {A : Type 0} (xs : List A) (n : ℕ) → n < length xs → (x : A) × (slice_get xs n ≡ Some x)
there [] n h = absurd (omega arith)
there (x ∷ xs) zero h = (x, refl)
there (x ∷ xs) (suc n) h = there xs n (omega arith)

pub set_own : {A : Type 0} (xs : List A) (n : ℕ) (x : A) → slice_get xs n ≡ Some x → set xs n x ≡ xs
set_own [] n x e = refl
set_own (y ∷ xs) zero x e = let same : y ≡ x = cc in rw same refl
set_own (y ∷ xs) (suc n) x e = ap (λ ys. y ∷ ys) (set_own xs n x e)

pub set_past : {A : Type 0} (xs : List A) (n : ℕ) (x : A) → slice_get xs n ≡ None → set xs n x ≡ xs
set_past [] n x e = refl
set_past (y ∷ xs) zero x e = absurd cc
set_past (y ∷ xs) (suc n) x e = ap (λ ys. y ∷ ys) (set_past xs n x e)

-- two places that get the same
pub set_swap : {A : Type 0} (xs : List A) (i j : ℕ) (a : A) → set (set xs i a) j a ≡ set (set xs j a) i a
set_swap [] i j a = refl
set_swap (x ∷ xs) zero zero a = refl
set_swap (x ∷ xs) zero (suc j) a = refl
set_swap (x ∷ xs) (suc i) zero a = refl
set_swap (x ∷ xs) (suc i) (suc j) a = ap (λ ys. x ∷ ys) (set_swap xs i j a)

pub drop_at : {A : Type 0} (xs : List A) (k : ℕ) (x : A) → slice_get xs k ≡ Some x → drop k xs ≡ x ∷ drop (k + 1) xs
drop_at [] k x e = absurd cc
drop_at (y ∷ xs) zero x e = let same : y ≡ x = cc in rw same refl
drop_at (y ∷ xs) (suc k) x e = let next : suc k + 1 ≡ suc (k + 1) = omega arith in rw next (drop_at xs k x e)

module _ {X : Type 0} where
  -- ## One name

  held-set : (table : List (Option X)) (n : NameId) (s : Option X) (m : NameId) → held_at (set table n.0 s) m
      ≡ (if n.0 == m.0 then option_and_then (λ (t : Option X). s) (slice_get table m.0) else held_at table m)
  held-set table n s m = ap (option_and_then (λ (t : Option X). t)) (get-set s table n.0 m.0) ∙ go (n.0 == m.0) (slice_get table m.0)
    where
      go : (b : Bool) (o : Option (Option X))
          → option_and_then (λ (t : Option X). t) (if b then option_map (λ (before : Option X). s) o else o)
          ≡ (if b then option_and_then (λ (t : Option X). s) o else option_and_then (λ (t : Option X). t) o)
      go true None = refl
      go true (Some t) = refl
      go false o = refl

  -- what is held under names but one
  abbrev pub but : NameId → (NameId → Option X) → NameId → Option X
  but n holds m = if n.0 == m.0 then None else holds m

  pub held_emptied : (table : List (Option X)) (n m : NameId) → held_at (emptied table n) m ≡ but n (held_at table) m
  held_emptied table n m = held-set table n None m ∙ go (n.0 == m.0) (slice_get table m.0)
    where
      go : (b : Bool) (o : Option (Option X)) → ◌≡◌ {A = Option X} (if b then option_and_then (λ (t : Option X). None) o else held_at table m)
          (if b then None else held_at table m)
      go true None = refl
      go true (Some t) = refl
      go false o = refl

  pub held_filled : (table : List (Option X)) (n : NameId) (x : X) → n.0 < length table → (m : NameId)
      → held_at (filled table n x) m ≡ (if n.0 == m.0 then Some x else held_at table m)
  held_filled table n x h m = held-set table n (Some x) m ∙ go (n.0 == m.0) refl
    where
      go : (b : Bool) → (n.0 == m.0) ≡ b
          → (if b then option_and_then (λ (t : Option X). Some x) (slice_get table m.0) else held_at table m) ≡ (if b then Some x else held_at table m)
      go true e = let s = there table n.0 h in rw (← same_name n m e, s.1) refl
      go false e = refl

  -- what is taken and given back
  pub back : (table : List (Option X)) (n : NameId) (x : X) → held_at table n ≡ Some x → filled (emptied table n) n x ≡ table
  back table n x h = set-set table n.0 None (Some x) ∙ go (slice_get table n.0) refl h
    where
      go : (o : Option (Option X)) → slice_get table n.0 ≡ o → option_and_then (λ (s : Option X). s) o ≡ Some x → set table n.0 (Some x) ≡ table
      go None e p = absurd cc
      go (Some s) e p = set_own table n.0 (Some x) (e ∙ ap (λ (t : Option X). Some t) p)

  -- where nothing is held, nothing is taken away
  pub none_taken : (table : List (Option X)) (n : NameId) → held_at table n ≡ None → emptied table n ≡ table
  none_taken table n h = go (slice_get table n.0) refl h
    where
      go : (o : Option (Option X)) → slice_get table n.0 ≡ o → option_and_then (λ (s : Option X). s) o ≡ None → emptied table n ≡ table
      go None e p = set_past table n.0 None e
      go (Some s) e p = set_own table n.0 None (e ∙ ap (λ (t : Option X). Some t) p)

  -- ## What is taken from under names

  -- given with one more thing at the end
  pub given-snoc : (names : List NameId) (things : List X) (n : NameId) (x : X) (table : List (Option X)) → slice_get names (length things) ≡ Some n
      → given names (things ++ x ∷ []) table ≡ given names things (filled table n x)
  given-snoc [] things n x table e = absurd cc
  given-snoc (m ∷ names) [] n x table e = let same : m ≡ n = cc in rw same refl
  given-snoc (m ∷ names) (y ∷ things) n x table e = ap (λ s. filled s m y) (given-snoc names things n x table e)

  pub given_over : (names : List NameId) (things : List X) (x : X) (table : List (Option X)) → slice_get names (length things) ≡ None
      → given names (things ++ x ∷ []) table ≡ given names things table
  given_over [] [] x table e = refl
  given_over [] (y ∷ things) x table e = refl
  given_over (m ∷ names) [] x table e = absurd cc
  given_over (m ∷ names) (y ∷ things) x table e = ap (λ s. filled s m y) (given_over names things x table e)

  -- what is held under names in order, each but under those before it
  abbrev pub took : (NameId → Option X) → List NameId → Option (List X)
  took holds [] = Some []
  took holds (n ∷ names) = option_and_then (λ (x : X). option_map (λ (xs : List X). x ∷ xs) (took (but n holds) names)) (holds n)

  but_but : (m n : NameId) (holds : NameId → Option X) → but m (but n holds) ≡ but n (but m holds)
  but_but m n holds = fun_ext (λ k. go (m.0 == k.0) (n.0 == k.0) (holds k))
    where
      go : (b c : Bool) (o : Option X) → (if b then None else (if c then None else o)) ≡ (if c then None else (if b then None else o))
      go true true o = refl
      go true false o = refl
      go false true o = refl
      go false false o = refl

  none_in : (x : Option X) → option_and_then (λ (y : X). option_map (λ (xs : List X). y ∷ xs) None) x ≡ None
  none_in None = refl
  none_in (Some y) = refl

  -- one name more
  but_step : (n : NameId) (holds : NameId → Option X) (m : NameId) (names : List NameId)
      → took (but m (but n holds)) names ≡ (if has_name names n then None else took (but m holds) names)
      → took (but n holds) (m ∷ names) ≡ (if has_name (m ∷ names) n then None else took holds (m ∷ names))
  but_step n holds m names rest = first (n.0 == m.0) refl
    where
      second : (c : Bool) → option_and_then (λ (x : X). option_map (λ (xs : List X). x ∷ xs) (if c then None else took (but m holds) names)) (holds m)
          ≡ (if c then None else option_and_then (λ (x : X). option_map (λ (xs : List X). x ∷ xs) (took (but m holds) names)) (holds m))
      second true = none_in (holds m)
      second false = refl

      first : (b : Bool) → (n.0 == m.0) ≡ b
          → option_and_then (λ (x : X). option_map (λ (xs : List X). x ∷ xs) (took (but m (but n holds)) names)) (if n.0 == m.0 then None else holds m)
          ≡ (if (m.0 == n.0) || has_name names n then None
          else option_and_then (λ (x : X). option_map (λ (xs : List X). x ∷ xs) (took (but m holds) names)) (holds m))
      first true e = rw (eqb-turned m.0 n.0, e) refl
      first false e = rw (eqb-turned m.0 n.0, e, rest) (second (has_name names n))

  pub took-but : (n : NameId) (holds : NameId → Option X) (names : List NameId)
      → took (but n holds) names ≡ (if has_name names n then None else took holds names)
  took-but n holds [] = refl
  took-but n holds (m ∷ names) =
      but_step n holds m names (ap (λ h. took h names) (but_but m n holds) ∙ took-but n (but m holds) names)

  took-all_held : (holds : NameId → Option X) (names : List NameId) → took holds names ≡ all_held holds names
  took-all_held holds [] = refl
  took-all_held holds (n ∷ names) = rw (took-but n holds names, took-all_held holds names) (go (has_name names n))
    where
      go : (c : Bool) → option_and_then (λ (x : X). option_map (λ (xs : List X). x ∷ xs) (if c then None else all_held holds names)) (holds n)
          ≡ (if c then None else option_and_then (λ (x : X). option_map (λ (xs : List X). x ∷ xs) (all_held holds names)) (holds n))
      go true = none_in (holds n)
      go false = refl

  pub taken_from-took : (table : List (Option X)) (names : List NameId) → taken_from table names ≡ took (held_at table) names
  taken_from-took table [] = refl
  taken_from-took table (n ∷ names) = rw (taken_from-took (emptied table n) names, fun_ext (held_emptied table n)) refl

  -- what is taken from names one after the other is what they hold, where none stands twice
  pub taken_from-all_held : (table : List (Option X)) (names : List NameId) → taken_from table names ≡ all_held (held_at table) names
  taken_from-all_held table names = taken_from-took table names ∙ took-all_held (held_at table) names

  -- ## Given back

  pub parts : (o : Option X) (rest : Option (List X)) (things : List X)
      → option_and_then (λ (x : X). option_map (λ (xs : List X). x ∷ xs) rest) o ≡ Some things
      → (x : X) × (xs : List X) × (o ≡ Some x) × (rest ≡ Some xs) × (things ≡ x ∷ xs)
  parts None rest things e = absurd cc
  parts (Some x) None things e = absurd cc
  parts (Some x) (Some xs) things e = (x, xs, refl, refl, cc)

  -- all that was taken is given back
  pub all_back : (names : List NameId) (things : List X) (table : List (Option X)) → taken_from table names ≡ Some things
      → given names things (left_by table names) ≡ table
  all_back [] things table e = let none : things ≡ [] = cc in rw none refl
  all_back (n ∷ names) things table e =
      let p = parts (held_at table n) (taken_from (emptied table n) names) things e in
      rw p.4 (ap (λ s. filled s n p.0) (all_back names p.1 (emptied table n) p.3) ∙ back table n p.0 p.2)

  -- ## Taken one after the other

  more_taken : (before : List X) (x : X) (o : Option (List X))
      → option_map (λ (more : List X). before ++ more) (option_map (λ (xs : List X). x ∷ xs) o)
      ≡ option_map (λ (more : List X). (before ++ x ∷ []) ++ more) o
  more_taken before x None = refl
  more_taken before x (Some xs) = ap (λ (ys : List X). Some ys) (sym (append_assoc before (x ∷ []) xs))

  module _ (names : List NameId) (first table : List (Option X)) (taken : List X) (k : ℕ) (n : NameId) (here : slice_get names k ≡ Some n) where
    taken_next : taken_from table (drop k names)
        ≡ option_and_then (λ (x : X). option_map (λ (xs : List X). x ∷ xs) (taken_from (emptied table n) (drop (k + 1) names))) (held_at table n)
    taken_next = ap (taken_from table) (drop_at names k n here)

    -- one thing more is taken
    pub taken_more : (x : X) → held_at table n ≡ Some x
        → taken_from first names ≡ option_map (λ (more : List X). taken ++ more) (taken_from table (drop k names))
        → taken_from first names ≡ option_map (λ (more : List X). (taken ++ x ∷ []) ++ more) (taken_from (emptied table n) (drop (k + 1) names))
    taken_more x h e =
        e ∙ (ap (option_map (λ (more : List X). taken ++ more)) (taken_next ∙ rw h refl)
        ∙ more_taken taken x (taken_from (emptied table n) (drop (k + 1) names)))

    -- the next holds nothing
    pub taken_none : held_at table n ≡ None
        → taken_from first names ≡ option_map (λ (more : List X). taken ++ more) (taken_from table (drop k names))
        → taken_from first names ≡ None
    taken_none h e =
        let none : taken_from table (drop k names) ≡ None = taken_next ∙ rw h refl in
        e ∙ ap (option_map (λ (more : List X). taken ++ more)) none

    pub left_more : left_by first names ≡ left_by table (drop k names) → left_by first names ≡ left_by (emptied table n) (drop (k + 1) names)
    left_more e = e ∙ ap (left_by table) (drop_at names k n here)

    -- what was taken is given back
    pub back_more : (x : X) → length taken ≡ k → held_at table n ≡ Some x → given names taken table ≡ first
        → given names (taken ++ x ∷ []) (emptied table n) ≡ first
    back_more x count h e =
        given-snoc names taken n x (emptied table n) (ap (slice_get names) count ∙ here) ∙ (ap (given names taken) (back table n x h) ∙ e)

  -- what was taken from under a list's names, where the list was read so
  pub all_taken : (table : List (Option X)) (list read : List NameId) (o : Option (List X)) (things : List X) → read ≡ list → o ≡ taken_from table read
      → o ≡ Some things → taken_from table list ≡ Some things
  all_taken table list read o things same e h = ap (taken_from table) (sym same) ∙ (sym e ∙ h)

  -- the table then
  pub left_taken : (table new : List (Option X)) (list read : List NameId) (things : List X) → read ≡ list
      → new ≡ left_where (taken_from table read) table read → taken_from table list ≡ Some things → new ≡ left_by table list
  left_taken table new list read things same e h =
      e
      ∙ (ap (λ (ns : List NameId). left_where (taken_from table ns) table ns) same
      ∙ ap (λ (o : Option (List X)). left_where o table list) h)

  -- none was taken, and nothing is left behind
  pub left_same : (table new : List (Option X)) (list read : List NameId) → read ≡ list
      → new ≡ left_where (taken_from table read) table read → taken_from table list ≡ None → new ≡ table
  left_same table new list read same e h =
      e
      ∙ (ap (λ (ns : List NameId). left_where (taken_from table ns) table ns) same
      ∙ ap (λ (o : Option (List X)). left_where o table list) h)

  -- the next name holds nothing, and what was taken before is given back
  pub back_whole : (names : List NameId) (first table mid new : List (Option X)) (taken : List X) (n : NameId) → held_at table n ≡ None
      → mid ≡ emptied table n → new ≡ given names taken mid → given names taken table ≡ first → new ≡ first
  back_whole names first table mid new taken n h a g e = g ∙ (ap (given names taken) (a ∙ none_taken table n h) ∙ e)

  -- ## Given one after the other, the last one first

  pub given_nil : (things : List X) (table : List (Option X)) → given [] things table ≡ table
  given_nil [] table = refl
  given_nil (x ∷ things) table = refl

  pub given_last : (names : List NameId) (things : List X) (k : ℕ) (n : NameId) (x : X) (table : List (Option X))
      → slice_get things k ≡ Some x → slice_get names k ≡ Some n
      → given names (take (suc k) things) table ≡ given names (take k things) (filled table n x)
  given_last names [] k n x table e h = absurd cc
  given_last [] (y ∷ things) k n x table e h = absurd cc
  given_last (m ∷ names) (y ∷ things) zero n x table e h = let a : y ≡ x = cc in let b : m ≡ n = cc in rw (a, b) refl
  given_last (m ∷ names) (y ∷ things) (suc k) n x table e h = ap (λ s. filled s m y) (given_last names things k n x table e h)

  pub given_none : (names : List NameId) (things : List X) (k : ℕ) (table : List (Option X)) → slice_get names k ≡ None
      → given names (take (suc k) things) table ≡ given names (take k things) table
  given_none [] things k table h = given_nil (take (suc k) things) table ∙ sym (given_nil (take k things) table)
  given_none (m ∷ names) [] k table h = rw (take-nil (suc k), take-nil k) refl
  given_none (m ∷ names) (y ∷ things) zero table h = absurd cc
  given_none (m ∷ names) (y ∷ things) (suc k) table h = ap (λ s. filled s m y) (given_none names things k table h)

  -- where none was there, none was taken
  pub none_where : (o : Option X) → ((x : X) → o ≡ Some x → ⊥) → o ≡ None
  none_where None h = refl
  none_where (Some x) h = absurd (h x refl)

  -- a table after something was looked for under a name that holds nothing
  pub unchanged : (table new : List (Option X)) (n : NameId) → held_at table n ≡ None → new ≡ emptied table n → new ≡ table
  unchanged table new n none e = e ∙ none_taken table n none

  -- what is taken first may be taken last
  pub left_emptied : (names : List NameId) (table : List (Option X)) (n : NameId) → left_by (emptied table n) names ≡ emptied (left_by table names) n
  left_emptied [] table n = refl
  left_emptied (m ∷ names) table n =
      ap (λ (t : List (Option X)). left_by t names) (set_swap table n.0 m.0 None) ∙ left_emptied names (emptied table m) n
