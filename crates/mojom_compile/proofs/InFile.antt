-- Refusals that all stand in one file.
use Rattle.std.proofs.Common.{◌≡◌, ℕ, ◌+◌, List, [], ◌∷◌, ◌++◌, subst, inl, inr}
use Rattle.std.specs.Prelude.{Bool, true, false, if◌then◌else◌, Option, Some, None, map}
use Rattle.std.specs.List.{flat_map, AllByRecursion}
use Rattle.std.specs.Option.{option_map_or}
use Rattle.mojom_files.specs.declared.refusal.Refusal.{Refusal}
use Rattle.mojom_files.specs.Refusals.{IsAmong, where_true}
use Rattle.const_eval.specs.Things.{numbered}

-- each stands in the file of this number
pub record AllIn (file : ℕ) (refusals : List Refusal) : Type 0 where
  pub all : AllByRecursion (λ (r : Refusal). r.file ≡ file) refusals

-- one among them does
pub file_is : (file : ℕ) (refusals : List Refusal) (one : Refusal) → AllIn file refusals → IsAmong refusals one → one.file ≡ file
file_is file [] one are among = absurd among
file_is file (r ∷ rs) one are (inl same) = subst (λ (x : Refusal). x.file ≡ file) same are.all.0
file_is file (r ∷ rs) one are (inr among) = file_is file rs one (record { all = are.all.1 }) among

-- no refusal
pub nothing : {file : ℕ} → AllIn file []
nothing = record { all = tt }

-- a single one
pub single : {file : ℕ} (r : Refusal) → r.file ≡ file → AllIn file (r ∷ [])
single r is = record { all = (is, tt) }

append : (file : ℕ) (xs ys : List Refusal) → AllIn file xs → AllIn file ys → AllIn file (xs ++ ys)
append file [] ys a b = b
append file (x ∷ xs) ys a b = record { all = (a.all.0, (append file xs ys (record { all = a.all.1 }) b).all) }

-- some, and more behind them
pub both : {file : ℕ} {xs ys : List Refusal} → AllIn file xs → AllIn file ys → AllIn file (xs ++ ys)
both {file = file} {xs = xs} {ys = ys} a b = append file xs ys a b

-- one where a test says so
pub tested : {file : ℕ} (test : Bool) (r : Refusal) → r.file ≡ file → AllIn file (where_true test r)
tested true r is = single r is
tested false r is = nothing

-- these or those, by a test
pub chosen : {file : ℕ} {xs ys : List Refusal} (test : Bool) → AllIn file xs → AllIn file ys → AllIn file (if test then xs else ys)
chosen true a b = a
chosen false a b = b

-- what is said of each of a list
pub said_of_each : {A : Type 0} {file : ℕ} (say : A → List Refusal) (xs : List A) → ((x : A) → AllIn file (say x)) → AllIn file (flat_map say xs)
said_of_each say [] each = nothing
said_of_each say (x ∷ xs) each = both (each x) (said_of_each say xs each)

-- one for each of a list
pub one_of_each : {A : Type 0} {file : ℕ} (say : A → Refusal) (xs : List A) → ((x : A) → (say x).file ≡ file) → AllIn file (map say xs)
one_of_each say [] each = nothing
one_of_each say (x ∷ xs) each = record { all = (each x, (one_of_each say xs each).all) }

-- what is said of each of a list and its number
pub said_of_numbered : {A : Type 0} {file : ℕ} (say : ℕ → A → List Refusal) (number : ℕ) (xs : List A)
    → ((n : ℕ) (x : A) → AllIn file (say n x)) → AllIn file (numbered say number xs)
said_of_numbered say number [] each = nothing
said_of_numbered say number (x ∷ xs) each = both (each number x) (said_of_numbered say (number + 1) xs each)

-- what is said of something, or else these
pub said_or : {A : Type 0} {file : ℕ} {others : List Refusal} (say : A → List Refusal) (o : Option A)
    → ((x : A) → AllIn file (say x)) → AllIn file others → AllIn file (option_map_or say o others)
said_or say None each rest = rest
said_or say (Some x) each rest = each x
