-- The lines in the order of the draws, as queues give them.
use Rattle.std.specs.Prelude.{ℕ, ◌+◌, ◌-◌, ◌≡◌, ◌≤◌, ◌<◌, ◌++◌, nat_lt, Bool, List, [], ◌∷◌, map, take, filter, length}
use Rattle.std.specs.Prelude.{Option, Some, slice_get, option_and_then, sum_by, if◌then◌else◌}
use Rattle.mj_base.specs.declared.ids.SeqId.{SeqId}
use Rattle.call_script.specs.declared.script.Line.{Line}
use Rattle.call_script.specs.declared.script.Script.{Script}
use Rattle.script_run.specs.declared.order.Queue.{Queue}
use Rattle.script_run.specs.Order.{counted_round, drawn, is_own, lines_of, sequences}

-- how many of these lines are a sequence's
abbrev pub count_of : SeqId → List Line → ℕ
count_of s lines = length (filter (is_own s) lines)

-- whose turn it is behind these lines: of the sequences that have lines left
abbrev pub whose : Script → ℕ → List Line → Option SeqId
whose script order before = counted_round
    (filter (λ (s : SeqId). nat_lt (count_of s before) (length (lines_of script s))) (sequences script))
    (drawn order (length before))

-- the line that comes behind these
abbrev pub next_in_order : Script → ℕ → List Line → Option Line
next_in_order script order before = option_and_then (λ (s : SeqId). slice_get (lines_of script s) (count_of s before)) (whose script order before)

-- these are the lines but the joins in the order
abbrev pub AreInOrder : Script → ℕ → List Line → Type 0
AreInOrder script order lines = (k : ℕ) → k ≤ length lines → slice_get lines k ≡ next_in_order script order (take k lines)

-- ## Queues

-- the sequence of a number
abbrev pub numbered : ℕ → SeqId
numbered n = record { 0 = n }

-- the lines of a queue
abbrev pub queued : Queue → List Line
queued queue = map (λ line. line.now) queue.lines.items

-- whether a queue has lines left
abbrev pub has_more : Queue → Bool
has_more queue = nat_lt queue.done (length queue.lines.items)

-- the sequences whose queues have lines left, where the first queue is that of this number
abbrev pub left_from : ℕ → List Queue → List SeqId
left_from first [] = []
left_from first (queue ∷ queues) = if has_more queue then numbered first ∷ left_from (first + 1) queues else left_from (first + 1) queues

-- how many lines are left in all
abbrev pub waiting : List Queue → ℕ
waiting queues = sum_by (λ (queue : Queue). length queue.lines.items - queue.done) queues

-- a queue has the lines of the sequence of this number, as many of them done as are among these
pub record IsQueue (script : Script) (before : List Line) (n : ℕ) (queue : Queue) : Type 0 where
  pub lines : queued queue ≡ lines_of script (numbered n)
  pub done : queue.done ≡ count_of (numbered n) before

-- each sequence has its queue
pub record AreQueues (script : Script) (before : List Line) (queues : List Queue) : Type 0 where
  pub count : length queues ≡ script.seqs
  pub each : (n : ℕ) (queue : Queue) → slice_get queues n ≡ Some queue → IsQueue script before n queue

-- queues give the line that comes behind these, and go on behind it
pub record GivesNext (script : Script) (order : ℕ) (before : List Line) (line : Option Line) (new : List Queue) : Type 0 where
  pub next : next_in_order script order before ≡ line
  pub after : (l : Line) → line ≡ Some l → AreQueues script (before ++ l ∷ []) new

-- so they do wherever they are those behind some lines
abbrev pub Takes : List Queue → ℕ → Option Line → List Queue → Type 0
Takes old draw line new = (script : Script) (order : ℕ) (before : List Line) → AreQueues script before old
    → draw ≡ drawn order (length before) → GivesNext script order before line new

-- these lines are the first in the order, behind which queues and draws go on
pub record HasTaken (script : Script) (order draw : ℕ) (taken : List Line) (queues : List Queue) : Type 0 where
  pub left : AreQueues script taken queues
  pub number : draw ≡ drawn order (length taken)
  pub first : (k : ℕ) → k < length taken → slice_get taken k ≡ next_in_order script order (take k taken)
