-- What the reading of a file says of its tokens.
use Rattle.std.proofs.Common.{◌≡◌, List, [], ◌++◌, length, Ok, ◌⊎◌, inl, inr, refl, sym, ap, ◌∙◌, subst, arith}
use Rattle.std.proofs.lemmas.List.{append-nil}
use Rattle.mj_base.specs.declared.limits.TheConstants.{MAX_NESTED_TYPES}
use Rattle.mojom_ast.specs.declared.token.Token.{Token}
use Rattle.mojom_ast.specs.declared.file.File.{File}
use Rattle.mojom_ast.specs.Lang.{Whole, Begun, Deep, Read}
use Rattle.mojom_ast.specs.Grammar.{file}
use Rattle.mojom_ast.specs.Parsed.{SpellsWithin, Spells, Begins, EndsTooDeep}
use Rattle.grammar_laws.specs.steps.Factored.{factored}
use Rattle.grammar_laws.proofs.Asks.{Spelled, Beginning, TooDeep}
use Rattle.grammar_laws.proofs.Shows.{Shown}
use Rattle.grammar_laws.proofs.Finds.{Passes, Outcome}
use Rattle.grammar_laws.proofs.Statements.{good_factored}
use Rattle.grammar_laws.proofs.Same.{to_factored, from_factored}

-- what a reading shows of the tokens
pub shown : (ts : List Token) (r : Read File) → (factored MAX_NESTED_TYPES).read ts ≡ r → Shown (factored MAX_NESTED_TYPES) ts r
shown ts r e = subst (λ (x : Read File). Shown (factored MAX_NESTED_TYPES) ts x) e ((good_factored MAX_NESTED_TYPES MAX_NESTED_TYPES).shows ts)

-- what is read to the end is spelled with the levels that reading has
pub found_within : (ts : List Token) (f : File) → (factored MAX_NESTED_TYPES).read ts ≡ Ok (f, []) → SpellsWithin MAX_NESTED_TYPES f ts
found_within ts f e =
    let t = shown ts (Ok (f, [])) e in
    let h : (file MAX_NESTED_TYPES).followed Whole (λ g rest. (rest ≡ []) × (g ≡ f)) (t.0 ++ []) = from_factored MAX_NESTED_TYPES Whole
    (λ g rest. (rest ≡ []) × (g ≡ f)) (t.0 ++ []) (t.2 Whole (λ g rest. (rest ≡ []) × (g ≡ f)) [] (refl, refl)) in
    subst (λ (l : List Token). SpellsWithin MAX_NESTED_TYPES f l) (sym t.1) h

-- what is read to the end is spelled
pub found : (ts : List Token) (f : File) → (factored MAX_NESTED_TYPES).read ts ≡ Ok (f, []) → Spells f ts
found ts f e = (MAX_NESTED_TYPES, found_within ts f e)

-- what is spelled is read to the end, or reading stops at a type too deep
pub whole : (ts : List Token) (tree : File) → Spells tree ts → ((factored MAX_NESTED_TYPES).read ts ≡ Ok (tree, [])) ⊎ Passes Spelled []
    ((factored MAX_NESTED_TYPES).read ts)
whole ts tree s =
    let o : Outcome Spelled (λ g rest. (rest ≡ []) × (g ≡ tree)) [] ((factored MAX_NESTED_TYPES).read (ts ++ [])) = (good_factored s.0 MAX_NESTED_TYPES).finds
    (length (ts ++ [])) Spelled tt (λ g rest. (rest ≡ []) × (g ≡ tree)) (λ x t us k. absurd (cc)) ts [] (omega arith) refl
    (to_factored s.0 Whole (λ g rest. (rest ≡ []) × (g ≡ tree)) ts s.1) in
    let same : ts ++ [] ≡ ts = append-nil ts in
    elim (subst (λ (l : List Token). Outcome Spelled (λ g rest. (rest ≡ []) × (g ≡ tree)) [] ((factored MAX_NESTED_TYPES).read l)) same o) [
      | inl r ↦ inl (r.3 ∙ ap (λ (q : List Token). Ok (r.0, q ++ [])) r.2.0 ∙ ap (λ (f : File). Ok (f, [])) r.2.1)
      | inr p ↦ inr p
    ]

-- a beginning is read, or reading passes it
pub begun : (p u : List Token) → Begins p → ((x : File) × ((factored MAX_NESTED_TYPES).read (p ++ u) ≡ Ok (x, u))) ⊎ Passes Beginning u
    ((factored MAX_NESTED_TYPES).read (p ++ u))
begun p u b =
    elim ((good_factored b.0 MAX_NESTED_TYPES).finds (length (p ++ u)) Beginning tt (λ g rest. rest ≡ []) (λ x t us k. absurd (cc)) p u (omega arith) tt
    (to_factored b.0 Begun (λ g rest. rest ≡ []) p b.1)) [
      | inl r ↦ inl (r.0, r.3 ∙ ap (λ (q : List Token). Ok (r.0, q ++ u)) r.2)
      | inr s ↦ inr s
    ]

-- what ends too deep is not read past
pub too_deep : (p u : List Token) → EndsTooDeep p → Passes TooDeep u ((factored MAX_NESTED_TYPES).read (p ++ u))
too_deep p u d =
    elim ((good_factored MAX_NESTED_TYPES MAX_NESTED_TYPES).finds (length (p ++ u)) TooDeep refl (λ g rest. ⊥) (λ x t us k. absurd k) p u (omega arith)
    (λ x k. k) (to_factored MAX_NESTED_TYPES Deep (λ g rest. ⊥) p d)) [
      | inl r ↦ absurd r.2
      | inr s ↦ s
    ]
