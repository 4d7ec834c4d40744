-- A front of a file's beginning is a beginning.
use Rattle.std.proofs.Common.{◌≡◌, ℕ, List, [], ◌∷◌, ◌++◌, refl}
use Rattle.mojom_ast.specs.declared.token.Token.{Token}
use Rattle.mojom_ast.specs.TypeTrees.{TypeTree}
use Rattle.mojom_ast.specs.Lang.{Begun, tok}
use Rattle.mojom_ast.specs.Grammar.{type_at}
use Rattle.mojom_ast.specs.Parsed.{Begins}
use Rattle.grammar_laws.proofs.Carries.{Change, more}
use Rattle.grammar_laws.proofs.CarriesFiles.{carry_file}

token : (r : List Token) (classes : List ℕ) (K L : Token → List Token → Type 0) → ((x : Token) (q : List Token) → K x (q ++ r) → L x q)
    → (p : List Token) → (tok classes).followed Begun K (p ++ r) → (tok classes).followed Begun L p
token r classes K L f [] h = tt
token r classes K L f (t ∷ ts) h = (h.0, f t ts h.1)

deepest : (r : List Token) (K L : TypeTree → List Token → Type 0) (p : List Token) → (type_at 0).followed Begun K (p ++ r) → (type_at 0).followed Begun L p
unfolding type_at
deepest r K L [] h = tt
deepest r K L (t ∷ ts) h = absurd h.1

abbrev front : List Token → Change
front r = record { known = Begun; wanted = Begun; extended = λ p. p ++ r; levels = 0; token = token r; deepest = deepest r }

nothing_more : (q r : List Token) → q ++ r ≡ [] → q ≡ []
nothing_more [] r e = refl
nothing_more (t ∷ ts) r e = absurd cc

-- for the place of a refusal: beginnings up to it, none behind it
pub front_begins : (p r : List Token) → Begins (p ++ r) → Begins p
front_begins p r b = (more 0 b.0, (carry_file (front r) b.0).carry (λ f rest. rest ≡ []) (λ f rest. rest ≡ []) (λ f q. nothing_more q r) p b.1)
