-- A list of tokens spells at most one tree, however deep its types nest.
use Rattle.std.proofs.Common.{◌≡◌, ℕ, zero, suc, ◌+◌, List, [], ◌++◌, length, Ok, Err, inl, inr, refl, sym, ap, ◌∙◌, subst, arith}
use Rattle.std.proofs.lemmas.List.{append-nil}
use Rattle.mojom_ast.specs.declared.token.Token.{Token}
use Rattle.mojom_ast.specs.declared.file.File.{File}
use Rattle.mojom_ast.specs.Lang.{Whole, Read}
use Rattle.mojom_ast.specs.Grammar.{file}
use Rattle.mojom_ast.specs.Parsed.{SpellsWithin, Spells}
use Rattle.grammar_laws.specs.steps.Factored.{factored}
use Rattle.grammar_laws.proofs.Asks.{Sure}
use Rattle.grammar_laws.proofs.Finds.{Outcome}
use Rattle.grammar_laws.proofs.Statements.{good_factored}
use Rattle.grammar_laws.proofs.Same.{to_factored}
use Rattle.grammar_laws.proofs.Carries.{more}
use Rattle.grammar_laws.proofs.Raised.{raised}

more_is : (levels n : ℕ) → more levels n ≡ levels + n
more_is levels zero = omega arith
more_is levels (suc n) = let e : more levels n ≡ levels + n = more_is levels n in omega arith

abbrev IsTree : File → File → List Token → Type 0
IsTree tree f rest = (rest ≡ []) × (f ≡ tree)

-- what is spelled with so many levels is read with them
pub read_at : (n : ℕ) (tree : File) (ts : List Token) → SpellsWithin n tree ts → (factored n).read ts ≡ Ok (tree, [])
read_at n tree ts h =
    let o : Outcome Sure (IsTree tree) [] ((factored n).read (ts ++ [])) = (good_factored n n).finds (length (ts ++ [])) Sure refl (IsTree tree)
    (λ x t us k. absurd (cc)) ts [] (omega arith) refl (to_factored n Whole (IsTree tree) ts h) in
    elim (subst (λ (l : List Token). Outcome Sure (IsTree tree) [] ((factored n).read l)) (append-nil ts) o) [
      | inl r ↦ r.3 ∙ ap (λ (q : List Token). Ok (r.0, q ++ [])) r.2.0 ∙ ap (λ (f : File). Ok (f, [])) r.2.1
      | inr p ↦ absurd p
    ]

tree_in : File → Read File → File
tree_in other (Ok x) = x.0
tree_in other (Err e) = other

-- for the law of this name
pub one_tree : (ts : List Token) (x y : File) → Spells x ts → Spells y ts → x ≡ y
unfolding tree_in
one_tree ts x y s t =
    let first : (factored (more t.0 s.0)).read ts ≡ Ok (x, []) = read_at (more t.0 s.0) x ts (raised t.0 s.0 (IsTree x) ts s.1) in
    let levels : more s.0 t.0 ≡ more t.0 s.0 = omega (arith, more_is s.0 t.0, more_is t.0 s.0) in
    let second : (factored (more t.0 s.0)).read ts ≡ Ok (y, []) = read_at (more t.0 s.0) y ts
    (subst (λ (n : ℕ). (file n).followed Whole (IsTree y) ts) levels (raised s.0 t.0 (IsTree y) ts t.1)) in
    ap (tree_in x) (sym first ∙ second)
