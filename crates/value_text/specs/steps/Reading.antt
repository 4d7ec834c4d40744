-- How values are read: parts of their rules, and what a reading owes.
use Rattle.wire_model.specs.Trees as values
use Rattle.value_text.specs.declared.text_error.TextError.TheVariants as errors
use Rattle.std.specs.Prelude.{ℕ, zero, suc, ◌++◌, Bool, true, false, List, ◌≡◌, Result, Ok, Err}
use Rattle.mj_schema.specs.KindTrees.{KindTree}
use Rattle.mj_schema.specs.declared.schema.Schema.{Schema}
use Rattle.wire_model.specs.Trees.{Tree, view}
use Rattle.byte_rules.specs.Lang.{Lang, never, ◌▸◌, many}
use Rattle.value_text.specs.Signs.{comma, close_square, close_curly}
use Rattle.value_text.specs.Rules.{pair, keys_of, values_of, base, slot_value}
use Rattle.wire_model.specs.declared.value.Value.{Value}
use Rattle.value_text.specs.declared.text_error.TextError.{TextError}

-- whether a bracket may be opened
abbrev pub has_room : ℕ → Bool
has_room zero = false
has_room (suc left) = true

-- the values of slots behind a bracket, of which none may stand where no bracket may be opened
abbrev pub inside : Schema → ℕ → Bool → KindTree → Lang Tree
inside schema zero = λ flagged k. never values.Null
inside schema (suc left) = slot_value schema left

-- the values of a slot without a flag
abbrev pub inner : Schema → ℕ → KindTree → Lang Tree
inner schema left k = slot_value schema left false k

-- a value that isn't null, where so many brackets may be open at once
abbrev pub base_at : Schema → ℕ → KindTree → Lang Tree
base_at schema left k = base schema (has_room left) (inside schema left) k

-- what follows in an array, behind its first element
abbrev pub more_of : Schema → ℕ → KindTree → Lang (List Tree)
more_of schema left k = many close_square (comma ▸ inner schema left k)

-- a key and its value
abbrev pub pair_of : Schema → ℕ → KindTree → KindTree → Lang (Tree × Tree)
pair_of schema left key one = pair (inner schema left key) (inner schema left one)

-- what follows in a map, behind its first pair
abbrev pub more_pairs_of : Schema → ℕ → KindTree → KindTree → Lang (List (Tree × Tree))
more_pairs_of schema left key one = many close_curly (comma ▸ pair_of schema left key one)

-- keys and values with those of more pairs behind them
abbrev pub add_pairs : List Tree × List Tree → List (Tree × Tree) → List Tree × List Tree
add_pairs (ks, vs) ps = (ks ++ keys_of ps, vs ++ values_of ps)

-- the same answer as this one
abbrev pub Agrees : Result Value TextError → Result Tree ℕ → Type 0
Agrees (Ok v) judged = judged ≡ Ok (view v)
Agrees (Err (errors.BadText at)) judged = judged ≡ Err at
Agrees (Err errors.Memory) judged = Unit {0}
