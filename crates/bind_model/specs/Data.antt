-- Data pipes, read off the list of events, the newest first: for each, the bytes that went in and the bytes that came out.
use Rattle.std.specs.Prelude.{ℕ, ◌-◌, Bool, true, false, ◌||◌, ◌++◌, List, [], ◌∷◌, length, drop, take, Option, Some, None, if◌then◌else◌}
use Rattle.handle_table.specs.declared.thing.TokenId.{TokenId}
use Rattle.handle_table.specs.declared.thing.Thing.TheVariants.{Token}
use Rattle.handle_table.specs.Things.{same_token}
use Rattle.bind_model.specs.declared.asked.Asked.{Asked}
use Rattle.bind_model.specs.declared.asked.Asked.TheVariants.{Data, Flow}
use Rattle.bind_model.specs.declared.flow.Flow.TheVariants as flows
use Rattle.bind_model.specs.declared.flow.Flowed.TheVariants as flowed
use Rattle.bind_model.specs.declared.told.Told.{Told}
use Rattle.bind_model.specs.declared.told.Told.TheVariants.{Made, Flowed}
use Rattle.bind_model.specs.declared.event.Event.{Event}

-- a data pipe: how many bytes it holds at most, and the tokens of its two sides
pub record DataPipe : Type 0 where
  pub capacity : ℕ
  pub producer : TokenId
  pub consumer : TokenId

-- the data pipe of a token; none where it is a token of another sort
abbrev pub pipe_by : Told → Asked → TokenId → Option DataPipe → Option DataPipe
pipe_by (Made (Token p ∷ Token c ∷ [])) (Data size) t before =
    if same_token p t || same_token c t then Some (record { capacity = size; producer = p; consumer = c }) else before
pipe_by told asked t before = before

-- the data pipe of a token, by the events
abbrev pub pipe_of : List Event → TokenId → Option DataPipe
pipe_of [] t = None
pipe_of (event ∷ past) t = pipe_by event.told event.asked t (pipe_of past t)

-- the bytes that went in at a producer
abbrev pub fills : Told → Asked → TokenId → List ℕ
fills (Flowed t (flowed.Put n)) (Flow x (flows.Put bytes all)) p = if same_token t p then take n bytes else []
fills (Flowed t (flowed.Put n)) (Flow x (flows.EndPut bytes)) p = if same_token t p then take n bytes else []
fills told asked p = []

-- all that went in at a producer, in order
abbrev pub filled : List Event → TokenId → List ℕ
filled [] p = []
filled (event ∷ past) p = filled past p ++ fills event.told event.asked p

-- what was begun at a token: so many bytes may be put in, or these may be read
pub data Begun : Type 0 where
  Nothing : Begun
  Space : (bytes : ℕ) → Begun
  View : (bytes : List ℕ) → Begun

-- what an event leaves begun at a token, by what was begun there before
abbrev pub begun_by : Told → Asked → TokenId → Begun → Begun
begun_by (Flowed t (flowed.Space n)) asked p before = if same_token t p then Space n else before
begun_by (Flowed t (flowed.View bytes)) asked p before = if same_token t p then View bytes else before
begun_by (Flowed t flowed.Ended) asked p before = if same_token t p then Nothing else before
begun_by (Flowed t (flowed.Put n)) (Flow x (flows.EndPut bytes)) p before = if same_token t p then Nothing else before
begun_by told asked p before = before

-- what is begun at a token
abbrev pub begun : List Event → TokenId → Begun
begun [] p = Nothing
begun (event ∷ past) p = begun_by event.told event.asked p (begun past p)

-- whether anything is begun
abbrev pub is_busy : Begun → Bool
is_busy Nothing = false
is_busy (Space n) = true
is_busy (View bytes) = true

-- the bytes that may be read where they lie
abbrev pub viewed : Begun → List ℕ
viewed Nothing = []
viewed (Space n) = []
viewed (View bytes) = bytes

-- the bytes that came out at a consumer, by what was begun there before
abbrev pub drains : Told → Asked → TokenId → Begun → List ℕ
drains (Flowed t (flowed.Bytes bytes)) asked c before = if same_token t c then bytes else []
drains (Flowed t flowed.Ended) (Flow x (flows.EndGet n)) c before = if same_token t c then take n (viewed before) else []
drains told asked c before = []

-- all that came out at a consumer, in order
abbrev pub drained : List Event → TokenId → List ℕ
drained [] c = []
drained (event ∷ past) c = drained past c ++ drains event.told event.asked c (begun past c)

-- what is held: what went in and didn't come out yet, in order
abbrev pub data_held : List Event → DataPipe → List ℕ
data_held past d = drop (length (drained past d.consumer)) (filled past d.producer)

-- for how many more bytes there is room
abbrev pub data_free : List Event → DataPipe → ℕ
data_free past d = d.capacity - length (data_held past d)
