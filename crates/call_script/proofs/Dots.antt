-- The last dot of a word.
use Rattle.std.proofs.Common.{◌≡◌, ◌+◌, ◌<◌, ◌≤◌, ℕ, zero, suc, List, [], ◌∷◌, length, take, Bool, true, false, Bor, Some, None, refl, sym}
use Rattle.std.proofs.Common.{ap, ◌∙◌, add-one, arith}
use Rattle.std.specs.Prelude.{Option, option_map, option_and_then, slice_index, ◌==◌, if◌then◌else◌}
use Rattle.mj_schema.specs.declared.schema.Schema.{Schema}
use Rattle.wire_model.specs.declared.target.MessageSide.{MessageSide}
use Rattle.wire_model.specs.declared.target.Target.{Target}
use Rattle.call_script.specs.Targets.{dot, later_dot, last_dot, split_word, target_between, target_named}

-- one byte more
pub dot_more : (word : List ℕ) (place : ℕ) (before after : Option ℕ) → before ≡ last_dot word place → after ≡ later_dot word place before
    → after ≡ last_dot word (place + 1)
dot_more word place before after known more = rw (add-one place) (more ∙ ap (later_dot word place) known)

-- it is one of the bytes
step_within : (is : Bool) (count place : ℕ) (before : Option ℕ) → (before ≡ Some place → place < count)
    → (if is then Some count else before) ≡ Some place → place < suc count
step_within true count place before inner e = let f : count ≡ place = cc in omega (arith, f)
step_within false count place before inner e = let f : place < count = inner e in omega (arith, f)

within : (word : List ℕ) (count place : ℕ) → last_dot word count ≡ Some place → place < count
within word zero place e = absurd cc
within word (suc count) place e =
    step_within (slice_index word count == dot) count place (last_dot word count) (λ f. within word count place f) e

-- and so many bytes stand before it
take_whole : (n : ℕ) (bytes : List ℕ) → n ≤ length bytes → n ≡ length (take n bytes)
take_whole zero bytes le = refl
take_whole (suc n) [] le = absurd (omega (arith, le))
take_whole (suc n) (b ∷ bytes) le = ap suc (take_whole n bytes (omega (arith, le)))

pub dot_place : (word : List ℕ) (place : ℕ) (found : Option ℕ) → found ≡ last_dot word (length word) → found ≡ Some place
    → place ≡ length (take place word)
dot_place word place found is e =
    let below : place < length word = within word (length word) place (sym is ∙ e) in
    take_whole place word (omega (arith, below))

pub dot_within : (word : List ℕ) (count place : ℕ) (found : Option ℕ) → found ≡ last_dot word count → found ≡ Some place → place < count
dot_within word count place found is e = within word count place (sym is ∙ e)

-- what the parts of a word name
pub target_is : (schema : Schema) (side : MessageSide) (word : List ℕ) (parts : Option (Bor (List ℕ) × Bor (List ℕ)))
    (interface method : Bor (List ℕ)) (result : Option Target)
    → option_map (λ (p : Bor (List ℕ) × Bor (List ℕ)). (p.0.now, p.1.now)) parts ≡ split_word word → parts ≡ Some (interface, method)
    → result ≡ target_between schema side (interface.now, method.now) → result ≡ target_named schema side word
target_is schema side word parts interface method result split is e =
    e ∙ ap (option_and_then (target_between schema side)) (sym (ap (option_map (λ (p : Bor (List ℕ) × Bor (List ℕ)). (p.0.now, p.1.now))) is) ∙ split)

pub no_target : (schema : Schema) (side : MessageSide) (word : List ℕ) (parts : Option (Bor (List ℕ) × Bor (List ℕ)))
    → option_map (λ (p : Bor (List ℕ) × Bor (List ℕ)). (p.0.now, p.1.now)) parts ≡ split_word word → parts ≡ None
    → None ≡ target_named schema side word
no_target schema side word parts split is =
    ap (option_and_then (target_between schema side)) (sym (ap (option_map (λ (p : Bor (List ℕ) × Bor (List ℕ)). (p.0.now, p.1.now))) is) ∙ split)
