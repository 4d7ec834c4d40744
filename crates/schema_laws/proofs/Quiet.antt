-- Where no stage refuses anything, nothing is refused of any definition.
use Rattle.std.proofs.Common.{◌≡◌, ◌<◌, ℕ, ◌+◌, zero, suc, List, [], ◌∷◌, ◌++◌, refl, subst, inl, inr, map, length, arith}
use Rattle.std.specs.Prelude.{Bool, true, false, slice_get, Option, Some, None}
use Rattle.std.specs.List.{flat_map, range_with_len}
use Rattle.std.specs.Option.{option_map_or, option_or}
use Rattle.mojom_files.specs.declared.named_file.NamedFile.{NamedFile}
use Rattle.mojom_files.specs.declared.refusal.Refusal.{Refusal}
use Rattle.mojom_files.specs.Definitions.{Defined, definitions_of}
use Rattle.mojom_files.specs.Refusals.{where_true, best_of, IsAnswered, first_refusal}
use Rattle.mojom_files.proofs.Best.{best_is_first}
use Rattle.module_resolver.specs.declared.file_names.FileNames.{FileNames}
use Rattle.name_refusals.specs.NameRefusals as resolver
use Rattle.name_refusals.specs.NameRefusals.{names_refusal}
use Rattle.const_eval.specs.declared.consts.Consts.{Consts}
use Rattle.const_eval.specs.Evaluated.{const_refusals, const_refusal}
use Rattle.kind_refusals.specs.KindRefusals.{refused_definition, refusals_in, refusals_at, kinds_refusal}
use Rattle.draft_rows.specs.RowCounts.{definitions_at}
use Rattle.schema_laws.proofs.Among.{IsAmong}

-- lists in which nothing is

pub both_empty : {A : Type 0} (xs ys : List A) → xs ++ ys ≡ [] → (xs ≡ []) × (ys ≡ [])
both_empty [] ys e = (refl, e)
both_empty (x ∷ xs) ys e = absurd cc

pub each_empty : {A B : Type 0} (f : A → List B) (xs : List A) (x : A) → flat_map f xs ≡ [] → IsAmong xs x → f x ≡ []
each_empty f [] x e among = absurd among
each_empty f (y ∷ ys) x e (inl same) = subst (λ z. f z ≡ []) same (both_empty (f y) (flat_map f ys) e).0
each_empty f (y ∷ ys) x e (inr among) = each_empty f ys x (both_empty (f y) (flat_map f ys) e).1 among

pub map_empty : {A B : Type 0} (f : A → B) (xs : List A) → map f xs ≡ [] → xs ≡ []
map_empty f [] e = refl
map_empty f (x ∷ xs) e = absurd cc

pub none_where : (test : Bool) (refusal : Refusal) → where_true test refusal ≡ [] → test ≡ false
none_where false refusal e = refl
none_where true refusal e = absurd cc

-- the first refusal of files

-- none is kept only where there is none
pub none_kept : (refusals : List Refusal) → best_of None refusals ≡ None → refusals ≡ []
none_kept refusals e = subst (λ (o : Option Refusal). IsAnswered o refusals) e (best_is_first refusals)

neither : {A : Type 0} (one other : Option A) → option_or one other ≡ None → (one ≡ None) × (other ≡ None)
neither None other e = (refl, e)
neither (Some x) other e = absurd cc

-- where no file has a first refusal, none has any
pub nowhere : (refusals : ℕ → List Refusal) (order : List ℕ) (number : ℕ) → first_refusal refusals order ≡ None → IsAmong order number → refusals number ≡ []
nowhere refusals [] number e among = absurd among
nowhere refusals (file ∷ order) number e (inl same) =
    let none = neither (best_of None (refusals file)) (first_refusal refusals order) e in
    subst (λ (n : ℕ). refusals n ≡ []) same (none_kept (refusals file) none.0)
nowhere refusals (file ∷ order) number e (inr among) =
    let none = neither (best_of None (refusals file)) (first_refusal refusals order) e in nowhere refusals order number none.1 among

-- kinds

quiet_file : (names : List FileNames) (consts : Consts) (number : ℕ) (found : Option NamedFile) (d : Defined)
    → option_map_or (refusals_in names consts number) found [] ≡ []
    → IsAmong (option_map_or (λ (file : NamedFile). definitions_of file.tree) found []) d → refused_definition names consts number d ≡ []
quiet_file names consts number None d e among = absurd among
quiet_file names consts number (Some file) d e among = each_empty (refused_definition names consts number) (definitions_of file.tree) d e among

-- nothing is refused of the kinds, the ordinals and the versions of a definition
pub quiet : (names : List FileNames) (consts : Consts) (files : List NamedFile) (order : List ℕ) (number : ℕ) (d : Defined)
    → kinds_refusal names consts files order ≡ None → IsAmong order number → IsAmong (definitions_at files number) d
    → refused_definition names consts number d ≡ []
quiet names consts files order number d e among of =
    quiet_file names consts number (slice_get files number) d (nowhere (refusals_at names consts files) order number e among) of

-- constants

-- nothing is refused of the values of a file
pub quiet_consts : (names : List FileNames) (consts : Consts) (files : List NamedFile) (order : List ℕ) (number : ℕ)
    → const_refusal files order names consts ≡ None → IsAmong order number → const_refusals files names consts number ≡ []
quiet_consts names consts files order number e among = nowhere (const_refusals files names consts) order number e among

-- names

-- each number from one on, as many as there are
pub among_range : (from count k : ℕ) → k < count → IsAmong (range_with_len from count) (from + k)
among_range from zero k below = absurd (omega arith)
among_range from (suc count) zero below = inl (omega arith)
among_range from (suc count) (suc k) below =
    let same : from + 1 + k ≡ from + suc k = omega arith in
    inr (subst (IsAmong (range_with_len (from + 1) count)) same (among_range (from + 1) count k (omega arith)))

-- nothing is refused of the names of the file at a place of the order
pub quiet_names : (files : List NamedFile) (order : List ℕ) (place : ℕ) → names_refusal files order ≡ None → place < length order
    → resolver.refusals_at files order place ≡ []
quiet_names files order place e below =
    let same : 0 + place ≡ place = omega arith in
    nowhere (resolver.refusals_at files order) (range_with_len 0 (length order)) place e
    (subst (IsAmong (range_with_len 0 (length order))) same (among_range 0 (length order) place below))
