-- What is spelled is spelled with more levels of types.
use Rattle.std.proofs.Common.{ℕ, List, [], ◌∷◌}
use Rattle.mojom_ast.specs.declared.token.Token.{Token}
use Rattle.mojom_ast.specs.declared.file.File.{File}
use Rattle.mojom_ast.specs.TypeTrees.{TypeTree}
use Rattle.mojom_ast.specs.Lang.{Whole, tok}
use Rattle.mojom_ast.specs.Grammar.{type_at, file}
use Rattle.grammar_laws.proofs.Carries.{Change, more}
use Rattle.grammar_laws.proofs.CarriesFiles.{carry_file}

token : (classes : List ℕ) (K L : Token → List Token → Type 0) → ((x : Token) (q : List Token) → K x q → L x q)
    → (p : List Token) → (tok classes).followed Whole K p → (tok classes).followed Whole L p
token classes K L f [] h = h
token classes K L f (t ∷ ts) h = (h.0, f t ts h.1)

deepest : (levels : ℕ) (K L : TypeTree → List Token → Type 0) (p : List Token) → (type_at 0).followed Whole K p → (type_at levels).followed Whole L p
unfolding type_at
deepest levels K L [] h = absurd h
deepest levels K L (t ∷ ts) h = absurd h.1

abbrev raise : ℕ → Change
raise levels = record { known = Whole; wanted = Whole; extended = λ p. p; levels = levels; token = token; deepest = deepest levels }

-- for the law of one tree: two spellings get one number of levels
pub raised : (levels n : ℕ) (K : File → List Token → Type 0) (ts : List Token) → (file n).followed Whole K ts → (file (more levels n)).followed Whole K ts
raised levels n K ts h = (carry_file (raise levels) n).carry K K (λ f q k. k) ts h
