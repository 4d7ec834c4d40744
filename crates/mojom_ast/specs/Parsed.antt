-- What a list of tokens is to the grammar.
use Rattle.std.specs.Prelude.{◌≡◌, ℕ, List, []}
use Rattle.mj_base.specs.declared.limits.TheConstants.{MAX_NESTED_TYPES}
use Rattle.mojom_ast.specs.declared.token.Token.{Token}
use Rattle.mojom_ast.specs.declared.file.File.{File}
use Rattle.mojom_ast.specs.Lang.{Whole, Begun, Deep}
use Rattle.mojom_ast.specs.Grammar.{file}

-- The tokens are a file of this tree, with at most so many types round one another.
abbrev pub SpellsWithin : ℕ → File → List Token → Type 0
SpellsWithin n tree ts = (file n).followed Whole (λ f rest. (rest ≡ []) × (f ≡ tree)) ts

-- The tokens are a file of this tree, however deep its types nest.
abbrev pub Spells : File → List Token → Type 0
Spells tree ts = (n : ℕ) × SpellsWithin n tree ts

-- The tokens are a file, or end inside of one: the first parts of each form whole, and then a beginning of the next.
abbrev pub Begins : List Token → Type 0
Begins ts = (n : ℕ) × (file n).followed Begun (λ f rest. rest ≡ []) ts

-- The last token begins a type that stands inside 32 others.
abbrev pub EndsTooDeep : List Token → Type 0
EndsTooDeep ts = (file MAX_NESTED_TYPES).followed Deep (λ f rest. ⊥) ts
