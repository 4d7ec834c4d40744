-- The rule of a file and the factored one are one.
use Rattle.std.proofs.Common.{ℕ, zero, suc, List, [], ◌∷◌, Some, None, ◌⊎◌, inl, inr}
use Rattle.mojom_ast.specs.declared.token.Token.{Token}
use Rattle.mojom_ast.specs.declared.file.File.{File}
use Rattle.mojom_ast.specs.declared.file.ModuleStatement.{ModuleStatement}
use Rattle.mojom_ast.specs.Trees.{make_module, make_import, make_file}
use Rattle.mojom_ast.specs.Lang.{Mode, times, many}
use Rattle.mojom_ast.specs.Grammar.{definition, module_name, module_of, import_path, import_of, file}
use Rattle.grammar_laws.specs.steps.Factored.{Statements, OtherLine, opened_by, attributed, definition_line, import_line, module_line, statement, statements, opening, factored}
use Rattle.grammar_laws.proofs.Plain.{plain_attributes, plain_module_name, plain_module, plain_import_path, plain_import, plain_times, decide}

module _ (k : ℕ) (m : Mode) where
  -- imports and then definitions, as the grammar has them
  abbrev Lines : ℕ → ℕ → (Statements → List Token → Type 0) → List Token → Type 0
  Lines n l K ts = (times n import_of).followed m (λ imports. (times l (definition k)).followed m (λ definitions. K (imports, definitions))) ts

  lines_of : (n l : ℕ) (K : Statements → List Token → Type 0) (ts : List Token) → (statements n l k).followed m K ts → Lines n (suc l) K ts
  unfolding statements times import_of definition
  lines_of zero l K ts h = inr h
  lines_of (suc n) l K ts (inr h) = inr (inr h)
  lines_of (suc n) l K ts (inl h) = elim (decide plain_attributes m (λ a. (definition_line l k).followed m (λ s. K (attributed a s)))
      (λ a. (import_line (statements n l k)).followed m (λ s. K (attributed a s))) ts h) [
        | inl d ↦ inr (inl d)
        | inr i ↦ inl (plain_attributes.weaken m (λ a. import_path.followed m (λ p. (statements n l k).followed m (λ r. K (make_import (a, p) ∷ r.0, r.1))))
            (λ a. import_path.followed m (λ p. Lines n (suc l) (λ r. K (make_import (a, p) ∷ r.0, r.1))))
            (λ a q x. plain_import_path.weaken m (λ p. (statements n l k).followed m (λ r. K (make_import (a, p) ∷ r.0, r.1)))
            (λ p. Lines n (suc l) (λ r. K (make_import (a, p) ∷ r.0, r.1)))
            (λ p z y. lines_of n l (λ r. K (make_import (a, p) ∷ r.0, r.1)) z y) q x) ts i)
      ]

  -- only definitions
  definitions_only : (n l : ℕ) (K : Statements → List Token → Type 0) (ts : List Token) → (times l (definition k)).followed m
      (λ definitions. K ([], definitions)) ts → (l' : ℕ) × (statements (suc n) l' k).followed m K ts
  unfolding statements times definition
  definitions_only n zero K ts h = (zero, inr h)
  definitions_only n (suc l) K ts (inr h) = (l, inr h)
  definitions_only n (suc l) K ts (inl d) = (
    l,
    inl (plain_attributes.weaken m (λ a. (definition_line l k).followed m (λ s. K (attributed a s)))
        (λ a. (statement (statements n l k) l k).followed m (λ s. K (attributed a s))) (λ a q x. inl x) ts d),
  )

  statements_of : (n l : ℕ) (K : Statements → List Token → Type 0) (ts : List Token) → Lines n l K ts → (l' : ℕ) × (statements (suc n) l' k).followed m K ts
  unfolding statements times import_of
  statements_of zero l K ts h = definitions_only zero l K ts h
  statements_of (suc n) l K ts (inr h) = definitions_only (suc n) l K ts h
  statements_of (suc n) l K ts (inl i) =
      let step : (import_of).followed m (λ x q. (l' : ℕ) × (statements (suc n) l' k).followed m (λ r. K (x ∷ r.0, r.1)) q) ts
      = plain_import.weaken m (λ x. Lines n l (λ r. K (x ∷ r.0, r.1))) (λ x q. (l' : ℕ) × (statements (suc n) l' k).followed m (λ r. K (x ∷ r.0, r.1)) q)
      (λ x q y. statements_of n l (λ r. K (x ∷ r.0, r.1)) q y) ts i in
      let c = plain_import.choose zero m (λ l' x. (statements (suc n) l' k).followed m (λ r. K (x ∷ r.0, r.1))) ts step in (
        c.0,
        inl (plain_attributes.weaken m (λ a. import_path.followed m (λ p. (statements (suc n) c.0 k).followed m (λ r. K (make_import (a, p) ∷ r.0, r.1))))
            (λ a. (statement (statements (suc n) c.0 k) c.0 k).followed m (λ s. K (attributed a s))) (λ a q x. inr x) ts c.1),
      )

  -- however many of them
  abbrev AllLines : (Statements → List Token → Type 0) → List Token → Type 0
  AllLines K ts = (many import_of).followed m (λ imports. (many (definition k)).followed m (λ definitions. K (imports, definitions))) ts

  all_statements : (K : Statements → List Token → Type 0) (ts : List Token) → AllLines K ts → (nl : ℕ × ℕ) × (statements (suc nl.0) nl.1 k).followed m K ts
  all_statements K ts h =
      let c = (plain_times h.0 import_of plain_import).choose zero m (λ l imports. (times l (definition k)).followed m
      (λ definitions. K (imports, definitions))) ts h.1 in
      let s = statements_of h.0 c.0 K ts c.1 in
      ((h.0, s.0), s.1)

  all_lines : (n l : ℕ) (K : Statements → List Token → Type 0) (ts : List Token) → (statements n l k).followed m K ts → AllLines K ts
  all_lines n l K ts h = (
    n,
    (plain_times n import_of plain_import).weaken m
        (λ imports. (times (suc l) (definition k)).followed m (λ definitions. K (imports, definitions)))
        (λ imports. (many (definition k)).followed m (λ definitions. K (imports, definitions))) (λ imports q x. (suc l, x)) ts (lines_of n l K ts h),
  )

  -- what comes after a module statement, and what comes without one
  abbrev After : (File → List Token → Type 0) → ModuleStatement → Statements → List Token → Type 0
  After K s r = K (make_file (Some s, r))

  abbrev Without : (File → List Token → Type 0) → Statements → List Token → Type 0
  Without K r = K (make_file (None, r))

  with_module : (K : File → List Token → Type 0) (ts : List Token) → module_of.followed m (λ s. AllLines (After K s)) ts → (factored k).followed m K ts
  unfolding factored opening module_of
  with_module K ts h =
      let step : module_of.followed m (λ s q. (nl : ℕ × ℕ) × (statements (suc nl.0) nl.1 k).followed m (After K s) q) ts
      = plain_module.weaken m (λ s. AllLines (After K s)) (λ s q. (nl : ℕ × ℕ) × (statements (suc nl.0) nl.1 k).followed m (After K s) q)
      (λ s q x. all_statements (After K s) q x) ts h in
      let c = plain_module.choose (zero, zero) m (λ nl s. (statements (suc nl.0) nl.1 k).followed m (After K s)) ts step in (
        c.0.1,
        (
          suc c.0.0,
          inl (plain_attributes.weaken m (λ a. module_name.followed m
              (λ x. (statements (suc c.0.0) c.0.1 k).followed m (After K (make_module (a, x)))))
              (λ a q. (module_line (statements (suc c.0.0) c.0.1 k)).followed m (λ s. K (opened_by a s)) q
              ⊎ (statement (statements (suc c.0.0) c.0.1 k) c.0.1 k).followed m (λ s. K (opened_by a (OtherLine s))) q) (λ a q x. inl x) ts c.1),
        ),
      )

  no_module : (n l : ℕ) (K : File → List Token → Type 0) (ts : List Token) → (statements (suc n) l k).followed m (Without K) ts
      → (opening n l k).followed m K ts
  unfolding opening statements
  no_module n l K ts (inr h) = inr h
  no_module n l K ts (inl h) = inl (plain_attributes.weaken m (λ a. (statement (statements n l k) l k).followed m (λ s. K (opened_by a (OtherLine s))))
      (λ a q. (module_line (statements n l k)).followed m (λ s. K (opened_by a s)) q ⊎ (statement (statements n l k) l k).followed m
      (λ s. K (opened_by a (OtherLine s))) q) (λ a q x. inr x) ts h)

  -- What the grammar follows, the factored rule follows.
  pub to_factored : (K : File → List Token → Type 0) (ts : List Token) → (file k).followed m K ts → (factored k).followed m K ts
  unfolding file factored
  to_factored K ts (inl h) = with_module K ts h
  to_factored K ts (inr h) = let s = all_statements (Without K) ts h in (s.0.1, (s.0.0, no_module s.0.0 s.0.1 K ts s.1))

  opening_of : (n l : ℕ) (K : File → List Token → Type 0) (ts : List Token) → (opening n l k).followed m K ts → (file k).followed m K ts
  unfolding file opening module_of statements
  opening_of n l K ts (inr h) = inr (all_lines zero l (Without K) ts h)
  opening_of n l K ts (inl h) = elim (decide plain_attributes m (λ a. (module_line (statements n l k)).followed m (λ s. K (opened_by a s)))
      (λ a. (statement (statements n l k) l k).followed m (λ s. K (opened_by a (OtherLine s)))) ts h) [
        | inl x ↦ inl (plain_attributes.weaken m (λ a. module_name.followed m (λ x. (statements n l k).followed m (After K (make_module (a, x)))))
            (λ a. module_name.followed m (λ x. AllLines (After K (make_module (a, x)))))
            (λ a q y. plain_module_name.weaken m (λ x. (statements n l k).followed m (After K (make_module (a, x))))
            (λ x. AllLines (After K (make_module (a, x)))) (λ x r z. all_lines n l (After K (make_module (a, x))) r z) q y) ts x)
        | inr s ↦ inr (all_lines (suc n) l (Without K) ts (inl s))
      ]

  -- And back.
  pub from_factored : (K : File → List Token → Type 0) (ts : List Token) → (factored k).followed m K ts → (file k).followed m K ts
  unfolding factored
  from_factored K ts h = opening_of h.1.0 h.0 K ts h.1.1
