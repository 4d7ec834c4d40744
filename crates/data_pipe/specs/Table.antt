-- All data pipes in one table, by the tokens of their producers.
use Rattle.std.specs.Prelude.{ℕ, ◌≡◌, ◌+◌, ◌-◌, ◌==◌, Bool, false, List, [], ◌∷◌, take, Option, Some, None, Ok, if◌then◌else◌, is_some}
use Rattle.std.specs.Map.{lookup}
use Rattle.handle_table.specs.Things.{same_token}
use Rattle.handle_table.specs.declared.thing.Thing.{Thing}
use Rattle.handle_table.specs.declared.thing.Thing.TheVariants.{End, Token}
use Rattle.handle_table.specs.declared.thing.TokenId.{TokenId}
use Rattle.bind_model.specs.declared.flow.Flow.{Flow}
use Rattle.bind_model.specs.declared.flow.Flow.TheVariants as flows
use Rattle.bind_model.specs.declared.flow.Flowed.{Flowed}
use Rattle.bind_model.specs.Data.{Begun, is_busy}
use Rattle.data_pipe.specs.declared.refused.DataRefused.{DataRefused}
use Rattle.data_pipe.specs.declared.side.DataToken.{DataToken}
use Rattle.data_pipe.specs.declared.side.Side.{Side}
use Rattle.data_pipe.specs.declared.side.Side.TheVariants.{Producer, Consumer}
use Rattle.data_pipe.specs.Moving.{after, told, IsRefused}
use Rattle.data_pipe.specs.Pipe.{Pipe, empty_pipe}

-- a line for each data pipe
abbrev pub Lines : Type 0
Lines = List (TokenId × Pipe)

-- the line of a producer
abbrev pub line_of : Lines → TokenId → Option Pipe
line_of lines t = lookup (same_token t) lines

-- whether a token is a producer
abbrev pub has_line : Lines → TokenId → Bool
has_line lines t = is_some (line_of lines t)

-- the data pipe of a line; an empty one where there is none
abbrev pub pipe_in_line : Option Pipe → Pipe
pipe_in_line None = empty_pipe 0
pipe_in_line (Some pipe) = pipe

-- the data pipe of a producer; an empty one where it has no line
abbrev pub pipe_at : Lines → TokenId → Pipe
pipe_at lines t = pipe_in_line (line_of lines t)

-- the token whose number is one more: the consumer's is behind that of its producer
abbrev pub behind : TokenId → TokenId
behind t = record { seq = t.seq; serial = t.serial + 1 }

-- the token whose number is one less
abbrev pub in_front : TokenId → TokenId
in_front t = record { seq = t.seq; serial = t.serial - 1 }

-- of which data pipe a token is, and of which side
abbrev pub side_in : Lines → TokenId → Option DataToken
side_in lines t =
    if has_line lines t then Some (record { producer = t; side = Producer })
    else (if t.serial == 0 then None
    else (if has_line lines (in_front t) then Some (record { producer = in_front t; side = Consumer }) else None))

-- what was begun at a side
abbrev pub begun_at : Side → Pipe → Begun
begun_at Producer pipe = pipe.producer
begun_at Consumer pipe = pipe.consumer

-- whether something was begun there, and didn't end
abbrev pub is_begun_at : Side → Option Pipe → Bool
is_begun_at side None = false
is_begun_at side (Some pipe) = is_busy (begun_at side pipe)

-- and at the side that a token is, if it is one
abbrev pub is_begun_in : Lines → Option DataToken → Bool
is_begun_in lines None = false
is_begun_in lines (Some token) = is_begun_at token.side (line_of lines token.producer)

-- whether something was begun at a token, and didn't end
abbrev pub is_begun : Lines → TokenId → Bool
is_begun lines t = is_begun_in lines (side_in lines t)

-- the token that a thing is, where something was begun there
abbrev pub begun_token : Lines → Thing → Option TokenId
begun_token lines (End x) = None
begun_token lines (Token t) = if is_begun lines t then Some t else None

-- the first of two tokens that is there
abbrev pub or_token : Option TokenId → Option TokenId → Option TokenId
or_token None other = other
or_token (Some t) other = Some t

-- the first of these that is such a token
abbrev pub first_begun : Lines → List Thing → Option TokenId
first_begun lines [] = None
first_begun lines (x ∷ xs) = or_token (begun_token lines x) (first_begun lines xs)

-- the bytes that are told of what is asked, where nothing refuses it
abbrev pub bytes_for : Pipe → Flow → List ℕ
bytes_for pipe (flows.Get n all) = take n pipe.held
bytes_for pipe flows.BeginGet = pipe.held
bytes_for pipe f = []

-- each line says what it said
abbrev pub AllStay : Lines → Lines → Type 0
AllStay old new = (t : TokenId) → line_of new t ≡ line_of old t

-- the line of a producer becomes this, or goes, and all others stay
abbrev pub Becomes : TokenId → Option Pipe → Lines → Lines → Type 0
Becomes producer line old new = (t : TokenId) → line_of new t ≡ (if same_token producer t then line else line_of old t)

-- this is told, and the line becomes what it is after that
abbrev pub Moves : TokenId → Bool → Flow → Flowed → Lines → Lines → Type 0
Moves producer gone f w old new = (told (pipe_at old producer) gone f ≡ Ok w) × Becomes producer (Some (after f w (pipe_at old producer))) old new

-- nothing is, and all lines stay
abbrev pub Refuses : TokenId → Bool → Flow → DataRefused → Lines → Lines → Type 0
Refuses producer gone f refused old new = IsRefused (told (pipe_at old producer) gone f) refused × AllStay old new
