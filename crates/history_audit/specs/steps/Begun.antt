-- How events begin a run: each is what its sequence asks next, whatever comes after. A past is a list of events, the newest first.
use Rattle.std.specs.Prelude.{ℕ, zero, suc, Bool, true, false, ◌≡◌, ◌<◌, ◌==◌, ◌||◌, ◌++◌, List, [], ◌∷◌, Option, Some, None, is_some, if◌then◌else◌}
use Rattle.mj_base.specs.declared.ids.SeqId.{SeqId}
use Rattle.bind_model.specs.declared.asked.Asked.{Asked}
use Rattle.bind_model.specs.declared.event.Event.{Event}
use Rattle.bind_model.specs.Seen.{own_of}
use Rattle.script_run.specs.OfScript.{Next}

-- the events so far, of the joins, of the lines and of the drain, each the newest first
pub record Parts : Type 0 where
  pub joins : List Event
  pub middle : List Event
  pub taken : List Event

-- the sequence of a number
abbrev pub seq_at : ℕ → SeqId
seq_at n = record { 0 = n }

-- whether a number below n passes
abbrev pub any_below : (ℕ → Bool) → ℕ → Bool
any_below p zero = false
any_below p (suc n) = p n || any_below p n

-- what this sequence asks, where it is the one whose turn it is
abbrev pub asks_by : Option Next → SeqId → Option Asked
asks_by None s = None
asks_by (Some next) s = if next.0.0 == s.0 then Some next.1 else None

-- by what is joined next, what a sequence asks next behind the joins, and what is taken next behind these
module _ (seqs : ℕ) (join : List Event → Option Next) (line : List Event → SeqId → List Event → Option Asked)
    (drain : List Event → List Event → Option Next) where
  -- whether a sequence has anything to ask yet behind the joins
  abbrev pub is_left : Parts → Bool
  is_left p = any_below (λ n. is_some (line p.joins (seq_at n) (own_of (seq_at n) p.middle))) seqs

  -- what a sequence may ask, by whether a join is left, and whether one has anything to ask yet behind the joins
  abbrev pub next_at : Bool → Bool → Parts → SeqId → Option Asked
  next_at true left p s = asks_by (join p.joins) s
  next_at false true p s = line p.joins s (own_of s p.middle)
  next_at false false p s = asks_by (drain (p.middle ++ p.joins) p.taken) s

  -- what a sequence may ask next: the joins come first, then the lines of all sequences, then the drain
  abbrev pub next_in : Parts → SeqId → Option Asked
  next_in p s = next_at (is_some (join p.joins)) (is_left p) p s

  -- with an event, by the same two
  abbrev pub put_at : Bool → Bool → Event → Parts → Parts
  put_at true left event p = record { joins = event ∷ p.joins; middle = []; taken = [] }
  put_at false true event p = record { joins = p.joins; middle = event ∷ p.middle; taken = [] }
  put_at false false event p = record { joins = p.joins; middle = p.middle; taken = event ∷ p.taken }

  -- with the event that comes next
  abbrev pub put : Event → Parts → Parts
  put event p = put_at (is_some (join p.joins)) (is_left p) event p

  -- a past as its joins, its lines and its drain
  abbrev pub parts : List Event → Parts
  parts [] = record { joins = []; middle = []; taken = [] }
  parts (event ∷ past) = put event (parts past)

  -- each event is what its sequence may ask next
  abbrev pub AsksOn : List Event → Type 0
  AsksOn [] = Unit {0}
  AsksOn (event ∷ past) = (next_in (parts past) event.seq ≡ Some event.asked) × AsksOn past

  -- there is nothing to be asked any more
  pub record AsksNoMore (p : Parts) : Type 0 where
    pub joined : join p.joins ≡ None
    pub done : is_left p ≡ false
    pub drained : drain (p.middle ++ p.joins) p.taken ≡ None
