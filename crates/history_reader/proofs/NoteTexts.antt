-- The texts of callbacks, both ways.
use Rattle.std.proofs.Common.{◌≡◌, ℕ, ◌++◌, ◌∷◌, [], inl, inr, List, refl, ap, ◌∙◌}
use Rattle.std.specs.Prelude.{codes, decimal}
use Rattle.mj_base.specs.declared.ids.EndId.{EndId}
use Rattle.mj_base.specs.declared.ids.SeqId.{SeqId}
use Rattle.byte_rules.specs.Among.{IsAmong}
use Rattle.byte_rules.specs.Lang.{closed, ◌then◌, ◌▸◌}
use Rattle.history_text.specs.declared.notes.Fate.{Fate}
use Rattle.history_text.specs.declared.notes.Fate.TheVariants.{Ran, Dropped}
use Rattle.history_text.specs.declared.notes.Note.{Note}
use Rattle.history_text.specs.History.{endpoint_text, note_line}
use Rattle.history_text.specs.Words.{fate_word}
use Rattle.line_parts.specs.Signs.{blank, line_end}
use Rattle.line_parts.specs.Ids.{wide, sequence, endpoint}
use Rattle.history_reader.specs.Notes as notes
use Rattle.history_reader.specs.Notes.{fate, note_of}
use Rattle.history_reader.specs.Printable.{IsWide, IsNote}
use Rattle.line_parts.proofs.BothWays.{HasTexts, Is, texts_closed, texts_before, texts_then, texts_fine}
use Rattle.line_parts.proofs.KeywordTexts.{texts_keyword, texts_word}
use Rattle.line_parts.proofs.IdTexts.{IsEndpoint, texts_wide, texts_sequence, texts_endpoint}

-- the words of what became of a callback
abbrev fates : List (Fate × List ℕ)
fates = (Ran, codes "ran") ∷ (Dropped, codes "dropped") ∷ []

all_fates : (f : Fate) → IsAmong (f, fate_word f) fates
all_fates Ran = inl refl
all_fates Dropped = inr (inl refl)

texts_fate : HasTexts (Is (λ (f : Fate). Unit {0}) fate_word) fate
unfolding fate
texts_fate = texts_keyword fate_word fates (refl, (refl, tt)) all_fates

-- what became of it, behind its request
abbrev of_fate : Note → List ℕ
of_fate n = blank ∷ (fate_word n.fate ++ line_end ∷ [])

fate_behind : (seq : SeqId) (p : EndId × ℕ) (request : ℕ)
    → HasTexts (Is (λ (n : Note). (n.request ≡ request) × ((n.end, n.id) ≡ p) × (n.seq ≡ seq)) of_fate)
    (blank ▸ fate then λ became. closed line_end (note_of seq p request became))
fate_behind seq p request = texts_fine there back (λ n h. refl)
    (texts_before blank (texts_then (λ (n : Note). n.fate) (λ f n h. ap (λ (n : Note). n.fate) h) texts_fate
    (λ became. texts_closed line_end (note_of seq p request became))))
  where
    there : (n : Note) → Unit {0} × (n ≡ note_of seq p request n.fate) → (n.request ≡ request) × ((n.end, n.id) ≡ p) × (n.seq ≡ seq)
    there n h = (ap (λ (n : Note). n.request) h.1, ap (λ (n : Note). (n.end, n.id)) h.1, ap (λ (n : Note). n.seq) h.1)

    back : (n : Note) → (n.request ≡ request) × ((n.end, n.id) ≡ p) × (n.seq ≡ seq) → Unit {0} × (n ≡ note_of seq p request n.fate)
    back n h = (
      tt,
      ap (λ (s : SeqId). note_of s (n.end, n.id) n.request n.fate) h.2 ∙ ap (λ (q : EndId × ℕ). note_of seq q n.request n.fate) h.1
          ∙ ap (λ (r : ℕ). note_of seq p r n.fate) h.0,
    )

-- its request, behind the endpoint
abbrev of_request : Note → List ℕ
of_request n = blank ∷ (decimal n.request ++ of_fate n)

request_behind : (seq : SeqId) (p : EndId × ℕ) → HasTexts (Is (λ (n : Note). IsWide n.request × ((n.end, n.id) ≡ p) × (n.seq ≡ seq)) of_request)
    (blank ▸ wide then λ request. blank ▸ fate then λ became. closed line_end (note_of seq p request became))
request_behind seq p = texts_fine (λ n h. (h.0, h.1.1, h.1.2)) (λ n h. (h.0, (refl, h.1, h.2))) (λ n h. refl)
    (texts_before blank (texts_then (λ (n : Note). n.request) (λ r n h. h.0) texts_wide (fate_behind seq p)))

-- the endpoint, behind the sequence
abbrev of_endpoint : Note → List ℕ
of_endpoint n = blank ∷ (endpoint_text n.end n.id ++ of_request n)

endpoint_behind : (seq : SeqId) → HasTexts (Is (λ (n : Note). IsEndpoint (n.end, n.id) × IsWide n.request × (n.seq ≡ seq)) of_endpoint)
    (blank ▸ endpoint then λ p. blank ▸ wide then λ request. blank ▸ fate then λ became. closed line_end (note_of seq p request became))
endpoint_behind seq = texts_fine (λ n h. (h.0, h.1.0, h.1.2)) (λ n h. (h.0, (h.1, refl, h.2))) (λ n h. refl)
    (texts_before blank (texts_then (λ (n : Note). (n.end, n.id)) (λ p n h. h.1) texts_endpoint (request_behind seq)))

-- the text of a callback behind its word
abbrev of_sequence : Note → List ℕ
of_sequence n = blank ∷ (decimal n.seq.0 ++ of_endpoint n)

sequence_behind : HasTexts (Is IsNote of_sequence)
    (blank ▸ sequence then λ seq. blank ▸ endpoint then λ p. blank ▸ wide then λ request. blank ▸ fate then λ became.
    closed line_end (note_of seq p request became))
sequence_behind = texts_fine (λ n h. (h.0, h.1.0, h.1.1)) (λ n h. (h.0, (h.1, h.2, refl))) (λ n h. refl)
    (texts_before blank (texts_then (λ (n : Note). n.seq) (λ s n h. h.2) texts_sequence endpoint_behind))

pub texts_note_line : HasTexts (Is IsNote note_line) notes.note_line
unfolding notes.note_line
texts_note_line = texts_fine (λ n h. h.1) (λ n h. (tt, h)) (λ n h. refl)
    (texts_then (λ (n : Note). tt) (λ u n h. refl) (texts_word (codes "callback")) (λ u. sequence_behind))
