-- Files are evaluated in one way.
use Rattle.std.proofs.Common.{◌≡◌, ◌<◌, ℕ, zero, suc, List, [], ◌∷◌, length, get_or, refl, sym, ◌∙◌, ap, subst, arith}
use Rattle.std.specs.Prelude.{Option, Some, None, slice_get}
use Rattle.std.specs.Option.{option_or}
use Rattle.std.proofs.lemmas.List.{same_lists}
use Rattle.std.proofs.lemmas.Option.{slice_get-get_or}
use Rattle.mojom_files.specs.declared.named_file.NamedFile.{NamedFile}
use Rattle.mojom_files.specs.declared.refusal.Refusal.{Refusal}
use Rattle.mojom_files.specs.Refusals.{best_of, IsAnswered, first_refusal}
use Rattle.mojom_files.proofs.Best.{best_is_first}
use Rattle.module_resolver.specs.declared.file_names.FileNames.{FileNames}
use Rattle.const_eval.specs.declared.consts.Consts.{Consts}
use Rattle.const_eval.specs.declared.file_things.FileThings.{FileThings}
use Rattle.const_meanings.specs.declared.meaning.Meaning.{Meaning}
use Rattle.const_meanings.specs.declared.origin.Origin.{Origin}
use Rattle.const_meanings.specs.Meanings.{AreMeanings}
use Rattle.const_eval.specs.Consts.{AreConsts}
use Rattle.const_eval.specs.Evaluated.{const_refusals, const_refusal, IsEvaluated, IsConstRefused}
use Rattle.const_meanings.proofs.Reaching.{one_meaning}

one_meanings : (things : List Origin) (one two : List Meaning) → AreMeanings things one → AreMeanings things two → one ≡ two
one_meanings things one two a b = same_lists one two (a.count ∙ sym b.count) at
  where
    at : (k : ℕ) (d : Meaning) → k < length one → get_or one k d ≡ get_or two k d
    at k d lt =
        let there : k < length things = omega (arith, lt, a.count) in
        let first = a.each k there (get_or one k d) (slice_get-get_or one k d lt) in
        let second = b.each k there (get_or two k d) (slice_get-get_or two k d (omega (arith, lt, a.count, b.count))) in
        one_meaning things k (get_or one k d) (get_or two k d) first second

same_parts : (f g : List FileThings) (o p : List Origin) (m n : List Meaning) → f ≡ g → o ≡ p → m ≡ n
    → ◌≡◌ {A = Consts} (record { files = f; origins = o; meanings = m }) (record { files = g; origins = p; meanings = n })
same_parts f g o p m n a b c = cc

pub one_consts : (files : List NamedFile) (names : List FileNames) (one two : Consts) → AreConsts files names one → AreConsts files names two → one ≡ two
one_consts files names one two a b =
    let origins = a.origins_are ∙ sym b.origins_are in
    let meant : AreMeanings two.origins one.meanings = subst (λ (o : List Origin). AreMeanings o one.meanings) origins a.meanings_are in
    same_parts one.files two.files one.origins two.origins one.meanings two.meanings (a.files_are
    ∙ sym b.files_are) origins (one_meanings two.origins one.meanings two.meanings meant b.meanings_are)

pub one_refusal : (files : List NamedFile) (order : List ℕ) (names : List FileNames) (one two : Refusal) → IsConstRefused files order names one
    → IsConstRefused files order names two → one ≡ two
one_refusal files order names one two a b =
    let same = one_consts files names a.consts b.consts a.are b.are in
    let both : ◌≡◌ {A = Option Refusal} (Some one) (Some two) = sym a.first ∙ (ap (const_refusal files order names) same ∙ b.first) in
    cc

pub not_both : (files : List NamedFile) (order : List ℕ) (names : List FileNames) (consts : Consts) (refusal : Refusal)
    → IsEvaluated files order names consts → IsConstRefused files order names refusal → ⊥
not_both files order names consts refusal a b =
    let same = one_consts files names consts b.consts a.are b.are in
    let both : ◌≡◌ {A = Option Refusal} None (Some refusal) = sym a.none ∙ (ap (const_refusal files order names) same ∙ b.first) in
    absurd cc

-- none is kept only where there is none
none_kept : (refusals : List Refusal) → best_of None refusals ≡ None → refusals ≡ []
none_kept refusals e = subst (λ (o : Option Refusal). IsAnswered o refusals) e (best_is_first refusals)

-- where neither is, none is
neither : {A : Type 0} (one other : Option A) → option_or one other ≡ None → (one ≡ None) × (other ≡ None)
neither None other e = (refl, e)
neither (Some x) other e = absurd cc

-- where no file has a first refusal, none has any
nowhere : (refusals : ℕ → List Refusal) (order : List ℕ) → first_refusal refusals order ≡ None → (k number : ℕ) → slice_get order k ≡ Some number
    → refusals number ≡ []
nowhere refusals [] e k number is = absurd cc
nowhere refusals (file ∷ order) e zero number is =
    let same : file ≡ number = cc in
    let none = neither (best_of None (refusals file)) (first_refusal refusals order) e in
    none_kept (refusals number) (subst (λ (n : ℕ). best_of None (refusals n) ≡ None) same none.0)
nowhere refusals (file ∷ order) e (suc k) number is =
    let none = neither (best_of None (refusals file)) (first_refusal refusals order) e in nowhere refusals order none.1 k number is

pub nothing_refused : (files : List NamedFile) (order : List ℕ) (names : List FileNames) (consts : Consts) → IsEvaluated files order names consts
    → (k number : ℕ) → slice_get order k ≡ Some number → const_refusals files names consts number ≡ []
nothing_refused files order names consts is = nowhere (const_refusals files names consts) order is.none
