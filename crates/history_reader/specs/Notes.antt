-- How the callbacks of calls stand in lines of their own, behind those of events.
use Rattle.std.specs.Prelude.{ℕ, [], ◌∷◌, codes}
use Rattle.mj_base.specs.declared.ids.EndId.{EndId}
use Rattle.mj_base.specs.declared.ids.SeqId.{SeqId}
use Rattle.byte_rules.specs.Lang.{Lang, closed, ◌then◌, ◌▸◌}
use Rattle.history_text.specs.declared.notes.Fate.{Fate}
use Rattle.history_text.specs.declared.notes.Fate.TheVariants.{Ran, Dropped}
use Rattle.history_text.specs.declared.notes.Note.{Note}
use Rattle.line_parts.specs.Signs.{line_end, blank}
use Rattle.line_parts.specs.Keywords.{keyword, word}
use Rattle.line_parts.specs.Ids.{wide, sequence, endpoint}

-- what became of a callback
unfoldable pub fate : Lang Fate
fate = keyword ((Ran, codes "ran") ∷ (Dropped, codes "dropped") ∷ [])

-- the callback of a request of an endpoint, and what became of it
abbrev pub note_of : SeqId → EndId × ℕ → ℕ → Fate → Note
note_of seq (x, id) request became = record { seq = seq; end = x; id = id; request = request; fate = became }

-- the line of a callback
unfoldable pub note_line : Lang Note
note_line = word (codes "callback") then λ u. blank ▸ sequence then λ seq. blank ▸ endpoint then λ p. blank ▸ wide then λ request.
    blank ▸ fate then λ became. closed line_end (note_of seq p request became)
