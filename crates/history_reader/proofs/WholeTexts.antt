-- The texts of histories, both ways.
use Rattle.std.proofs.Common.{◌≡◌, ℕ, ◌+◌, ◌^◌, ◌++◌, ◌∷◌, [], List, Bool, true, false, refl, sym, ap, ◌∙◌, subst, append_assoc, arith}
use Rattle.std.proofs.Common.{add-one}
use Rattle.std.specs.Prelude.{codes, decimal, nat_lt}
use Rattle.std.specs.List.{flat_map}
use Rattle.std.proofs.lemmas.List.{append-nil}
use Rattle.std.proofs.lemmas.Bool.{false≢true}
use Rattle.std.proofs.lemmas.Bool.Decides.{nat_tests}
use Rattle.mj_base.specs.declared.ids.SeqId.{SeqId}
use Rattle.mj_schema.specs.declared.schema.Schema.{Schema}
use Rattle.handle_table.specs.declared.thing.Thing.{Thing}
use Rattle.bind_model.specs.declared.asked.Asked.{Asked}
use Rattle.bind_model.specs.declared.event.Event.{Event}
use Rattle.byte_rules.specs.Lang.{Lang, Whole, as_value, ◌then◌, ◌▸◌}
use Rattle.byte_rules.specs.Judged.{Spells}
use Rattle.byte_rules.proofs.Parts.{parts_never}
use Rattle.history_text.specs.History.{asked_text, told_text, event_line, event_lines, note_line, left_line, done_line}
use Rattle.history_text.specs.declared.notes.Note.{Note}
use Rattle.line_parts.specs.Signs.{blank, line_end, letter_d}
use Rattle.line_parts.specs.Names.{names_of}
use Rattle.history_reader.specs.Commands.{asked}
use Rattle.history_reader.specs.Replies.{told}
use Rattle.line_parts.specs.Ids.{sequence}
use Rattle.history_reader.specs.Whole as whole
use Rattle.history_reader.specs.Whole.{event_of, number_if, event_number, done_after, tail, begins_tail, behind, begins_behind, printed_of, history_with}
use Rattle.history_reader.specs.Whole.{history}
use Rattle.history_reader.specs.Notes as notes
use Rattle.history_reader.specs.Printable.{IsWide, IsThing, IsNote, AreAll, IsAsked, IsTold, IsEvent, AreEvents, IsPrintable, printed_text}
use Rattle.history_reader.specs.declared.printed.Printed.{Printed}
use Rattle.line_parts.proofs.BothWays.{HasTexts, Is, texts_closed, texts_before, texts_value, texts_then, texts_fine, texts_many}
use Rattle.line_parts.proofs.KeywordTexts.{texts_word}
use Rattle.line_parts.proofs.IdTexts.{texts_wide, texts_sequence, texts_thing}
use Rattle.history_reader.proofs.CommandTexts.{texts_asked}
use Rattle.history_reader.proofs.ReplyTexts.{texts_told}
use Rattle.history_reader.proofs.NoteTexts.{texts_note_line}
use Rattle.line_parts.proofs.SeriesTexts as series

-- the number of an event
texts_number_if : (v : Bool) (k : ℕ) → nat_lt k (2 ^ 64) ≡ v → HasTexts (Is (λ (u : Unit {0}). IsWide k) (λ (u : Unit {0}). decimal k)) (number_if v k)
texts_number_if true k e = texts_fine (λ u h. grind (arith, nat_tests)) (λ u h. tt) (λ u h. refl) (texts_word (decimal k))
texts_number_if false k e = record {
  from = parts_never (Is (λ (u : Unit {0}). IsWide k) (λ (u : Unit {0}). decimal k)) tt;
  to = λ u w h. absurd (let small : nat_lt k (2 ^ 64) ≡ true = (let lt = h.0 in grind (arith, nat_tests)) in false≢true (sym e ∙ small));
}

texts_event_number : (k : ℕ) → HasTexts (Is (λ (u : Unit {0}). IsWide k) (λ (u : Unit {0}). decimal k)) (event_number k)
unfolding event_number
texts_event_number k = texts_number_if (nat_lt k (2 ^ 64)) k refl

module _ (schema : Schema) where
  told_behind : (seq : SeqId) (a : Asked) → HasTexts (Is (λ (e : Event). (e.seq ≡ seq) × (e.asked ≡ a) × IsTold schema e.told)
      (λ (e : Event). told_text schema e.told ++ line_end ∷ [])) (as_value (event_of seq a) (told schema (names_of schema)))
  told_behind seq a = texts_value (event_of seq a) (λ (e : Event). (e.seq ≡ seq) × (e.asked ≡ a) × IsTold schema e.told)
      (λ (e : Event). told_text schema e.told ++ line_end ∷ []) (λ t h. (refl, refl, h)) (λ t h. refl)
      (λ e h. (e.told, h.2, ap (λ (s : SeqId). event_of s a e.told) (sym h.0) ∙ ap (λ (b : Asked). event_of e.seq b e.told) (sym h.1))) (texts_told schema)

  asked_behind : (seq : SeqId) → HasTexts (Is (λ (e : Event). IsAsked schema e.asked × (e.seq ≡ seq) × (e.asked ≡ e.asked) × IsTold schema e.told)
      (λ (e : Event). blank ∷ ((asked_text schema e.asked ++ codes " -> ") ++ (told_text schema e.told ++ line_end ∷ []))))
      (blank ▸ asked schema (names_of schema) then λ a. as_value (event_of seq a) (told schema (names_of schema)))
  asked_behind seq = texts_fine (λ e h. (h.0, h.1.0, h.1.1, h.1.2)) (λ e h. (h.0, (h.1, h.2, h.3))) (λ e h. refl)
      (texts_before blank (texts_then (λ (e : Event). e.asked) (λ a e h. h.1) (texts_asked schema) (told_behind seq)))

  seq_behind : HasTexts (Is (IsEvent schema)
      (λ (e : Event). blank ∷ (decimal e.seq.0 ++ blank ∷ ((asked_text schema e.asked ++ codes " -> ") ++ (told_text schema e.told ++ line_end ∷ [])))))
      (blank ▸ sequence then λ seq. blank ▸ asked schema (names_of schema) then λ a. as_value (event_of seq a) (told schema (names_of schema)))
  seq_behind = texts_fine (λ e h. (h.0, h.1.0, h.1.3)) (λ e h. (h.0, (h.1, refl, refl, h.2))) (λ e h. refl)
      (texts_before blank (texts_then (λ (e : Event). e.seq) (λ seq e h. h.1) texts_sequence asked_behind))

  -- an event where it has a number of 64 bits
  abbrev pub Numbered : ℕ → Event → Type 0
  Numbered k e = IsWide k × IsEvent schema e

  line_is : (k : ℕ) (e : Event)
      → decimal k ++ blank ∷ (decimal e.seq.0 ++ blank ∷ ((asked_text schema e.asked ++ codes " -> ") ++ (told_text schema e.told ++ line_end ∷ [])))
      ≡ event_line schema k e
  line_is k e = simp append_assoc refl

  pub texts_event : (k : ℕ) → HasTexts (Is (Numbered k) (event_line schema k)) (whole.event_line schema (names_of schema) k)
  unfolding whole.event_line
  texts_event k = texts_fine (λ e h. h) (λ e h. h) (λ e h. line_is k e)
      (texts_then (λ (e : Event). tt) (λ u e h. refl) (texts_event_number k) (λ u. seq_behind))

-- what is left
texts_left_line : HasTexts (Is IsThing left_line) whole.left_line
unfolding whole.left_line
texts_left_line = texts_fine (λ x h. h.1.0) (λ x h. (tt, (h, refl))) (λ x h. refl) (texts_then (λ (x : Thing). tt) (λ u x h. refl) (texts_word (codes "left"))
    (λ u. texts_before blank (texts_then (λ (x : Thing). x) (λ x y h. h) texts_thing (λ x. texts_closed line_end x))))

-- what is left, and the count
abbrev Tail : Type 0
Tail = List Thing × ℕ

count_behind : (left : List Thing) → HasTexts (Is (λ (t : Tail). IsWide t.1 × (t.0 ≡ left)) (λ (t : Tail). codes "one " ++ (decimal t.1 ++ line_end ∷ [])))
    (done_after left)
count_behind left = texts_fine (λ t h. (h.1.0, ap (λ (t : Tail). t.0) h.1.1)) (λ t h. (tt, (h.0, ap (λ (l : List Thing). (l, t.1)) h.1))) (λ t h. refl)
    (texts_then (λ (t : Tail). tt) (λ u t h. refl) (texts_word (codes "one"))
    (λ u. texts_before blank (texts_then (λ (t : Tail). t.1) (λ n t h. ap (λ (t : Tail). t.1) h) texts_wide (λ count. texts_closed line_end (left, count)))))

-- they are of their widths
abbrev IsTail : Tail → Type 0
IsTail t = AreAll IsThing t.0 × IsWide t.1

-- their text
abbrev tail_text : Tail → List ℕ
tail_text t = flat_map left_line t.0 ++ done_line t.1

texts_tail : HasTexts (Is IsTail tail_text) tail
unfolding tail
texts_tail = texts_fine (λ t h. (h.0, h.1.0)) (λ t h. (h.0, (h.1, refl)))
    (λ t h. append_assoc (flat_map left_line t.0) (letter_d ∷ []) (codes "one " ++ (decimal t.1 ++ line_end ∷ [])))
    (texts_then (λ (t : Tail). t.0) (λ left t h. h.1) (texts_many letter_d texts_left_line) count_behind)

-- callbacks
abbrev callback : Unit {0} → Lang Note
callback u = notes.note_line

-- nothing is kept from line to line
abbrev same : Unit {0} → Note → Unit {0}
same u note = u

-- callbacks one after the other
abbrev Notes : Unit {0} → List Note → Type 0
Notes = series.Run begins_tail callback same tail (λ u. texts_note_line) texts_tail

-- their text
abbrev notes_text : Unit {0} → List Note → List ℕ
notes_text = series.run begins_tail callback same tail (λ u. texts_note_line) texts_tail

notes_are : (ns : List Note) → notes_text tt ns ≡ flat_map note_line ns
notes_are [] = refl
notes_are (n ∷ ns) = ap (λ (l : List ℕ). note_line n ++ l) (notes_are ns)

all_notes : (ns : List Note) → Notes tt ns → AreAll IsNote ns
all_notes [] h = tt
all_notes (n ∷ ns) h = (h.0, all_notes ns h.1)

notes_of : (ns : List Note) → AreAll IsNote ns → Notes tt ns
notes_of [] h = tt
notes_of (n ∷ ns) h = (h.0, notes_of ns h.1)

-- callbacks, and what stands behind them
abbrev Behind : Type 0
Behind = List Note × Tail

-- they are of their widths
abbrev IsBehind : Behind → Type 0
IsBehind b = AreAll IsNote b.0 × IsTail b.1

-- their text
abbrev behind_text : Behind → List ℕ
behind_text b = flat_map note_line b.0 ++ tail_text b.1

texts_behind : HasTexts (Is IsBehind behind_text) behind
unfolding behind
texts_behind = texts_fine (λ b h. (all_notes b.0 h.0, h.1)) (λ b h. (notes_of b.0 h.0, h.1))
    (λ b h. ap (λ (l : List ℕ). l ++ tail_text b.1) (notes_are b.0))
    (series.texts_series begins_tail callback same tail (λ u. texts_note_line) texts_tail tt)

module _ (schema : Schema) where
  -- events are numbered
  abbrev next : ℕ → Event → ℕ
  next k event = k + 1

  -- events one after the other
  abbrev Run : ℕ → List Event → Type 0
  Run = series.Run begins_behind (whole.event_line schema (names_of schema)) next behind (texts_event schema) texts_behind

  -- their text
  abbrev run : ℕ → List Event → List ℕ
  run = series.run begins_behind (whole.event_line schema (names_of schema)) next behind (texts_event schema) texts_behind

  run_is : (k : ℕ) (events : List Event) → run k events ≡ event_lines schema k events
  run_is k [] = refl
  run_is k (e ∷ events) = ap (λ (l : List ℕ). event_line schema k e ++ l) (run_is (k + 1) events
      ∙ ap (λ (n : ℕ). event_lines schema n events) (add-one k))

  runs : (k : ℕ) (events : List Event) → AreEvents schema k events → Run k events
  runs k [] h = tt
  runs k (e ∷ events) h = ((h.0, h.1), runs (k + 1) events h.2)

  events_of : (k : ℕ) (events : List Event) → Run k events → AreEvents schema k events
  events_of k [] h = tt
  events_of k (e ∷ events) h = (h.0.0, h.0.1, events_of (k + 1) events h.1)

  pub texts_history : HasTexts (Is (IsPrintable schema) (printed_text schema)) (history schema)
  unfolding history_with
  texts_history = texts_value printed_of (IsPrintable schema) (printed_text schema) (λ r h. (events_of 0 r.0 h.0, h.1.0, h.1.1.0, h.1.1.1))
      (λ r h. ap (λ (l : List ℕ). l ++ behind_text r.1) (sym (run_is 0 r.0)))
      (λ p h. ((p.events, (p.notes, (p.left, p.count))), (runs 0 p.events h.0, (h.1, (h.2, h.3))), refl))
      (series.texts_series begins_behind (whole.event_line schema (names_of schema)) next behind (texts_event schema) texts_behind 0)

  -- the bytes that say this are its text, where it has one
  pub spelled : (p : Printed) → IsPrintable schema p → Spells (history schema) p (printed_text schema p)
  spelled p h = subst (λ (l : List ℕ). Spells (history schema) p l) (append-nil (printed_text schema p))
      (texts_history.to p (printed_text schema p) (h, refl) Whole (λ v rest. (rest ≡ []) × (v ≡ p)) [] (refl, refl))

  pub its_text : (p : Printed) (bytes : List ℕ) → Spells (history schema) p bytes → IsPrintable schema p × (bytes ≡ printed_text schema p)
  its_text p bytes h =
      let k = texts_history.from (λ v rest. (rest ≡ []) × (v ≡ p)) bytes h in
      let e : bytes ≡ k.1 = k.4 ∙ ap (λ (q : List ℕ). k.1 ++ q) k.5.0 ∙ append-nil k.1 in
      subst (λ (x : Printed). IsPrintable schema x × (bytes ≡ printed_text schema x)) k.5.1 (k.3.0, e ∙ k.3.1)
