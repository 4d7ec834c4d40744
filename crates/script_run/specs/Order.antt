-- Which sequence does its next line.
use Rattle.std.specs.Prelude.{ℕ, ◌≡◌, ◌<◌, ◌∷◌, zero, suc, ◌+◌, ◌*◌, ◌/◌, ◌%◌, ◌^◌, nat_lt, Bool}
use Rattle.std.specs.Prelude.{true, false, ◌&&◌, List, [], filter, length, map, not, Option, Some, None, slice_get}
use Rattle.std.specs.List.{AllByRecursion}
use Rattle.mj_base.specs.declared.ids.SeqId.{SeqId}
use Rattle.bind_model.specs.declared.event.Event.{Event}
use Rattle.bind_model.specs.Laws.{up_from}
use Rattle.bind_model.specs.Seen.{own_of}
use Rattle.bind_model.specs.Wire.{Wire}
use Rattle.call_script.specs.declared.script.Command.{Command}
use Rattle.call_script.specs.declared.script.Command.TheVariants.{Join}
use Rattle.call_script.specs.declared.script.Line.{Line}
use Rattle.call_script.specs.declared.script.Script.{Script}
use Rattle.script_names.specs.Autos.{Due, due, lines_done}
use Rattle.script_names.specs.Names.{is_seq}

-- ## The lines of a sequence

-- a command that joins two sequences
abbrev pub is_join : Command → Bool
is_join (Join other first second) = true
is_join command = false

-- the lines that join
abbrev pub joins_of : Script → List Line
joins_of script = filter (λ (line : Line). is_join line.command) script.lines

-- whether a line is one of this sequence's own, behind the joins
abbrev pub is_own : SeqId → Line → Bool
is_own s line = is_seq s line.seq && not (is_join line.command)

-- a sequence's own lines
abbrev pub lines_of : Script → SeqId → List Line
lines_of script s = filter (is_own s) script.lines

-- ## Draws

-- the number that is drawn after another
abbrev pub next_draw : ℕ → ℕ
next_draw g = (g * 6364136223846793005 + 1442695040888963407) % (2 ^ 64)

-- the numbers that are drawn one after the other, behind the one that is given
abbrev pub drawn : ℕ → ℕ → ℕ
drawn order zero = next_draw order
drawn order (suc n) = next_draw (drawn order n)

-- ## Turns

-- all sequences, in rising order
abbrev pub sequences : Script → List SeqId
sequences script = map (λ (n : ℕ). record { 0 = n }) (up_from 0 script.seqs)

-- whether a sequence has lines left behind these events
abbrev pub has_left : Wire → Script → List Event → SeqId → Bool
has_left wire script past s = nat_lt (lines_done wire script.autos (own_of s past)) (length (lines_of script s))

-- those that have
abbrev pub with_lines : Wire → Script → List Event → List SeqId
with_lines wire script past = filter (has_left wire script past) (sequences script)

-- of some sequences the one of a number that was drawn, counted round
abbrev pub counted_round : List SeqId → ℕ → Option SeqId
counted_round seqs g = slice_get seqs (g / (2 ^ 32) % length seqs)

-- the sequence whose turn it is: for each line a number is drawn
abbrev pub next_drawn : Wire → Script → ℕ → List Event → Option SeqId
next_drawn wire script order past = counted_round (with_lines wire script past) (drawn order (lines_done wire script.autos past))

-- the one that an automatic reply is due of goes first
abbrev pub due_first : Option Due → Option SeqId → Option SeqId
due_first (Some (r, reply)) other = Some reply.seq
due_first None other = other

-- whose turn it is behind these events of lines and automatic replies, the newest first
abbrev pub turn : Wire → Script → ℕ → List Event → Option SeqId
turn wire script order past = due_first (due wire script.autos past) (next_drawn wire script order past)

-- each of these events, the newest first, is of the sequence whose turn it is
abbrev pub InTurns : (List Event → Option SeqId) → List Event → Type 0
InTurns whose [] = Unit {0}
InTurns whose (event ∷ past) = (whose past ≡ Some event.seq) × InTurns whose past

-- the sequences of a script take these turns, the newest first: by this order, or whichever they take side by side, where there is none
abbrev pub TakeTurns : Wire → Script → Option ℕ → List Event → Type 0
TakeTurns wire script (Some order) past = InTurns (turn wire script order) past
TakeTurns wire script None past = AllByRecursion (λ (event : Event). event.seq.0 < script.seqs) past
