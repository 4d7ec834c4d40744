-- What a function of the parser answers.
use Rattle.std.specs.Prelude.{◌≡◌, ℕ, List, ◌∷◌, ◌++◌, Result, Ok, Err, true}
use Rattle.mj_base.specs.declared.ids.Span.{Span}
use Rattle.mj_base.specs.declared.limits.TheConstants.{MAX_NESTED_TYPES}
use Rattle.mojom_ast.specs.declared.token.Token.{Token}
use Rattle.mojom_ast.specs.declared.attributes.Attribute.{Attribute}
use Rattle.mojom_ast.specs.declared.definitions.Definition.{Definition}
use Rattle.mojom_ast.specs.declared.definitions.Parameter.{Parameter}
use Rattle.mojom_ast.specs.declared.file.File.{File}
use Rattle.mojom_ast.specs.declared.names.Identifier.{Identifier}
use Rattle.mojom_ast.specs.declared.fault.Fault.{Fault}
use Rattle.mojom_ast.specs.Classes.{class, identifiers}
use Rattle.mojom_ast.specs.Trees.{text_in, make_definition}
use Rattle.mojom_ast.specs.Lang.{Lang, Read, ◌>>=◌, has, ◌▹◌, as_value, maybe, times, many, joined}
use Rattle.mojom_ast.specs.Grammar.{parameter, next_parameter, definition_item, definition}
use Rattle.grammar_laws.specs.steps.Factored.{Statements, Statement, OtherLine, Opening, opened_by, statements}
use Rattle.mojom_parser.specs.declared.error.ReadError.{ReadError}
use Rattle.mojom_parser.specs.declared.error.ReadError.TheVariants as stops

-- the identifier of a text and its place
abbrev pub identifier_at : List ℕ → Span → Identifier
identifier_at text span = record { text = text; span = span }

-- why it stopped: at a fault, or for want of memory
abbrev pub Fails : {Y : Type 0} → ReadError → Result Y Fault → Type 0
Fails stops.Memory read = Unit {0}
Fails (stops.Fault f) read = read ≡ Err f

-- What was returned, seen by view, is what reading gives, unless memory ran out.
abbrev pub Gives : {X Y : Type 0} → (X → Y) → Result X ReadError → Result Y Fault → Type 0
Gives view (Ok x) read = read ≡ Ok (view x)
Gives view (Err e) read = Fails e read

-- what was read before, and what is still read
abbrev pub with_front : {A : Type 0} → List A → Read (List A) → Read (List A)
with_front front read = read >>= λ x. Ok (front ++ x.0, x.1)

-- the imports before, and the imports and definitions that are still read
abbrev pub with_imports : {A B : Type 0} → List A → Read (List A × List B) → Read (List A × List B)
with_imports front read = read >>= λ x. Ok ((front ++ x.0.0, x.0.1), x.1)

-- the token is an identifier of this text
abbrev pub IsTextOf : Token → List ℕ → Type 0
IsTextOf token text = (has identifiers (class token) ≡ true) × (text ≡ text_in token.sort)

-- what stands between the parentheses of a parameter list
abbrev pub parameter_list : Lang (List Parameter)
parameter_list = as_value joined (maybe (parameter MAX_NESTED_TYPES ▹ many (next_parameter MAX_NESTED_TYPES)))

-- the definition that has these attributes, and at most so many after it
abbrev pub definitions_with : List Attribute → ℕ → Lang (List Definition)
definitions_with as_given limit = as_value (λ x. make_definition (as_given, x.0) ∷ x.1)
    (definition_item MAX_NESTED_TYPES ▹ times limit (definition MAX_NESTED_TYPES))

-- at most so many imports, and then at most one more definition than so many
abbrev pub lines : ℕ → Lang Statements
lines limit = statements limit limit MAX_NESTED_TYPES

-- a file whose first attributes are these, with what they belong to
abbrev pub file_with : List Attribute → Lang Opening → Lang File
file_with as_given one = as_value (λ s. opened_by as_given s) one

-- the same, without a module statement
abbrev pub file_without : List Attribute → Lang Statement → Lang File
file_without as_given one = as_value (λ s. opened_by as_given (OtherLine s)) one
