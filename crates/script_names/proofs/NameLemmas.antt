-- What is held under each name once things came under names, or were taken from them.
use Rattle.std.proofs.Common.{◌≡◌, ◌<◌, ℕ, zero, suc, Bool, true, false, List, [], ◌∷◌, length, drop, refl, sym, ap, ◌∙◌, subst, length-set}
use Rattle.std.specs.Prelude.{◌==◌, ◌||◌, Option, Some, None, slice_get, if◌then◌else◌}
use Rattle.std.specs.List.{AllByRecursion}
use Rattle.std.proofs.Math.Path.{fun_ext}
use Rattle.std.proofs.Math.Seq.{drop-nil}
use Rattle.call_script.specs.declared.script.NameId.{NameId}
use Rattle.script_names.specs.Names.{came, has_name, or_before, then_held}
use Rattle.script_names.specs.Held.{held_at}
use Rattle.script_names.specs.Tables.{emptied, filled, filled_one, given, left_by, taken_from}
use Rattle.script_names.proofs.TableLemmas.{back, held_emptied, held_filled, left_emptied, parts, taken_from-took, took, took-but}

-- names that are left
pub within_drop : {A : Type 0} (P : A → Type 0) (k : ℕ) (xs : List A) → AllByRecursion P xs → AllByRecursion P (drop k xs)
within_drop P zero xs h = h
within_drop P (suc k) [] h = tt
within_drop P (suc k) (x ∷ xs) h = within_drop P k xs h.1

module _ {X : Type 0} where
  -- a table is as long as before
  pub length_given : (names : List NameId) (things : List X) (table : List (Option X)) → length (given names things table) ≡ length table
  length_given [] [] table = refl
  length_given [] (x ∷ things) table = refl
  length_given (m ∷ names) [] table = refl
  length_given (m ∷ names) (x ∷ things) table = length-set (given names things table) m.0 (Some x) ∙ length_given names things table

  pub length_left : (names : List NameId) (table : List (Option X)) → length (left_by table names) ≡ length table
  length_left [] table = refl
  length_left (m ∷ names) table = length_left names (emptied table m) ∙ length-set table m.0 None

  pub length_filled : (name : Option NameId) (x : X) (table : List (Option X)) → length (filled_one name x table) ≡ length table
  length_filled None x table = refl
  length_filled (Some m) x table = length-set table m.0 (Some x)

  -- ## Things that came

  came_step : (b : Bool) (x : X) (later before : Option X)
      → (if b then Some x else or_before later before) ≡ or_before (if b then Some x else later) before
  came_step true x later before = refl
  came_step false x later before = refl

  pub held_given : (names : List NameId) (things : List X) (table : List (Option X)) → AllByRecursion (λ (m : NameId). m.0 < length table) names
      → (n : NameId) → held_at (given names things table) n ≡ or_before (came names things n) (held_at table n)
  held_given [] [] table within n = refl
  held_given [] (x ∷ things) table within n = refl
  held_given (m ∷ names) [] table within n = refl
  held_given (m ∷ names) (x ∷ things) table within n =
      let there : m.0 < length (given names things table) = subst (λ (k : ℕ). m.0 < k) (sym (length_given names things table)) within.0 in
      held_filled (given names things table) m x there n
      ∙ (ap (λ (o : Option X). if m.0 == n.0 then Some x else o) (held_given names things table within.1 n)
      ∙ came_step (m.0 == n.0) x (came names things n) (held_at table n))

  pub came_none : (names : List NameId) (n : NameId) → ◌≡◌ {A = Option X} (came names [] n) None
  came_none [] n = refl
  came_none (m ∷ names) n = refl

  -- one thing under the name of a number
  pub given_one : (names : List NameId) (k : ℕ) (x : X) (table : List (Option X))
      → given (drop k names) (x ∷ []) table ≡ filled_one (slice_get names k) x table
  given_one [] k x table = ap (λ (ns : List NameId). given ns (x ∷ []) table) (drop-nil k)
  given_one (m ∷ names) zero x table = refl
  given_one (m ∷ names) (suc k) x table = given_one names k x table

  -- without names nothing is given
  pub given_nowhere : (names : List NameId) (things : List X) (table : List (Option X)) → names ≡ [] → given names things table ≡ table
  given_nowhere names things table e = ap (λ (ns : List NameId). given ns things table) e ∙ go things
    where
      go : (things : List X) → given [] things table ≡ table
      go [] = refl
      go (x ∷ things) = refl

  -- ## Things that were taken

  left_step : (b c : Bool) (o : Option X) → (if c then None else (if b then None else o)) ≡ (if b || c then None else o)
  left_step true true o = refl
  left_step true false o = refl
  left_step false true o = refl
  left_step false false o = refl

  pub held_left : (names : List NameId) (table : List (Option X)) (n : NameId)
      → held_at (left_by table names) n ≡ (if has_name names n then None else held_at table n)
  held_left [] table n = refl
  held_left (m ∷ names) table n =
      held_left names (emptied table m) n
      ∙ (ap (λ (o : Option X). if has_name names n then None else o) (held_emptied table m n)
      ∙ left_step (m.0 == n.0) (has_name names n) (held_at table n))

  -- what is taken without one name's is taken as before where that name isn't among the others
  apart : (names : List NameId) (table : List (Option X)) (n : NameId)
      → taken_from (emptied table n) names ≡ (if has_name names n then None else taken_from table names)
  apart names table n =
      taken_from-took (emptied table n) names
      ∙ (ap (λ (holds : NameId → Option X). took holds names) (fun_ext (held_emptied table n))
      ∙ (took-but n (held_at table) names
      ∙ ap (λ (o : Option (List X)). if has_name names n then None else o) (sym (taken_from-took table names))))

  -- one that is held besides those of a list stands before them
  pub with_first : (names : List NameId) (table : List (Option X)) (n : NameId) (x : X) (xs : List X) → taken_from table names ≡ Some xs
      → held_at (left_by table names) n ≡ Some x → taken_from table (n ∷ names) ≡ Some (x ∷ xs)
  with_first names table n x xs e h = go (has_name names n) refl (sym (held_left names table n) ∙ h)
    where
      go : (b : Bool) → has_name names n ≡ b → (if b then None else held_at table n) ≡ Some x → taken_from table (n ∷ names) ≡ Some (x ∷ xs)
      go true e1 here = absurd cc
      go false e1 here =
          let rest : taken_from (emptied table n) names ≡ Some xs =
          apart names table n ∙ (ap (λ (b : Bool). if b then None else taken_from table names) e1 ∙ e) in
          rw (here, rest) refl

  -- it is held besides them
  pub first_held : (names : List NameId) (table : List (Option X)) (n : NameId) (x : X) (xs : List X) → taken_from table (n ∷ names) ≡ Some (x ∷ xs)
      → held_at (left_by table names) n ≡ Some x
  first_held names table n x xs e =
      let p = parts (held_at table n) (taken_from (emptied table n) names) (x ∷ xs) e in
      let same : p.0 ≡ x = let rest = p.4 in cc in
      held_left names table n ∙ go (has_name names n) refl (sym (apart names table n) ∙ p.3) (p.2 ∙ ap (λ (y : X). Some y) same)
    where
      go : {ys : List X} (b : Bool) → has_name names n ≡ b → (if b then None else taken_from table names) ≡ Some ys → held_at table n ≡ Some x
          → (if b then None else held_at table n) ≡ Some x
      go true e1 rest here = absurd cc
      go false e1 rest here = here

  -- given back, it is as if the others alone were taken
  pub first_back : (names : List NameId) (table : List (Option X)) (n : NameId) (x : X) (xs : List X) → taken_from table (n ∷ names) ≡ Some (x ∷ xs)
      → filled (left_by table (n ∷ names)) n x ≡ left_by table names
  first_back names table n x xs e =
      ap (λ (t : List (Option X)). filled t n x) (left_emptied names table n) ∙ back (left_by table names) n x (first_held names table n x xs e)

  -- ## Both

  pub then_given : (names spent : List NameId) (things : List X) (table : List (Option X)) → AllByRecursion (λ (m : NameId). m.0 < length table) names
      → (n : NameId) → held_at (given names things (left_by table spent)) n ≡ then_held names things spent (held_at table) n
  then_given names spent things table within n =
      held_given names things (left_by table spent)
      (subst (λ (k : ℕ). AllByRecursion (λ (m : NameId). m.0 < k) names) (sym (length_left spent table)) within) n
      ∙ ap (λ (o : Option X). or_before (came names things n) o) (held_left spent table n)

  pub then_left : (names spent : List NameId) (table : List (Option X)) (n : NameId)
      → held_at (left_by table spent) n ≡ then_held names [] spent (held_at table) n
  then_left names spent table n =
      held_left spent table n
      ∙ sym (ap (λ (o : Option X). or_before o (if has_name spent n then None else held_at table n)) (came_none names n))

  pub then_same : (names : List NameId) (holds : NameId → Option X) (n : NameId) → holds n ≡ then_held names [] [] holds n
  then_same names holds n = sym (ap (λ (o : Option X). or_before o (holds n)) (came_none names n))
