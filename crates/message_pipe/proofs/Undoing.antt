-- What the ends are without the last one of a sequence, whose messages go with it.
use Rattle.std.proofs.Common.{◌≡◌, ℕ, zero, suc, ◌+◌, ◌-◌, ◌<◌, ◌≤◌, Bool, true, false, List, [], ◌∷◌, length, map, take, refl, sym, ap, subst, ◌∙◌, append-nil, arith}
use Rattle.std.specs.Prelude.{◌==◌, ◌&&◌, Some, slice_get, if◌then◌else◌}
use Rattle.std.proofs.lemmas.Bool.{and_left, and_right, eq-eqb, eqb-true, ne_eqb}
use Rattle.std.proofs.lemmas.List.{length-map}
use Rattle.std.proofs.Math.Dec.{eqb-suc-suc}
use Rattle.mj_base.specs.declared.ids.EndId.{EndId}
use Rattle.slab.specs.Slab.{Slab}
use Rattle.handle_table.specs.Numbered.{listed}
use Rattle.handle_table.specs.Things.{same_end}
use Rattle.queued_keys.specs.Ends as keyed
use Rattle.queued_keys.specs.declared.keyed_end.KeyedEnd.{KeyedEnd}
use Rattle.message_pipe.specs.declared.message.Message.{Message}
use Rattle.message_pipe.specs.declared.pipe_end.PipeEnd.{PipeEnd}
use Rattle.message_pipe.specs.Slots.{AllKept, seen_end, seen_ends}
use Rattle.message_pipe.specs.steps.SlotChanges.{Loses}
use Rattle.message_pipe.proofs.Keeping.{less_kept, other_stays}
use Rattle.message_pipe.proofs.Places.{messages-still}
use Rattle.message_pipe.proofs.Seeing.{listed-seen, with_mail}
use Rattle.message_pipe.proofs.Turning.{of_row}

-- the first so many of a list have the keys that they had
cut : (n : ℕ) (list : List KeyedEnd) (k : ℕ) → length list ≤ n + 1 → (n == k) ≡ false
    → keyed.keys_of (slice_get (take n list) k) ≡ keyed.keys_of (slice_get list k)
cut zero [] k h f = refl
cut zero (x ∷ list) zero h f = let t : (zero == zero) ≡ true = eq-eqb zero zero refl in cc
cut zero (x ∷ []) (suc k) h f = refl
cut zero (x ∷ y ∷ list) (suc k) h f = absurd (omega arith)
cut (suc n) [] k h f = refl
cut (suc n) (x ∷ list) zero h f = refl
cut (suc n) (x ∷ list) (suc k) h f = cut n list k (omega arith) (sym (eqb-suc-suc n k) ∙ f)

-- and none stands behind them
cut-end : (n : ℕ) (list : List KeyedEnd) → keyed.keys_of (slice_get (take n list) n) ≡ []
cut-end zero list = refl
cut-end (suc n) [] = refl
cut-end (suc n) (x ∷ list) = cut-end n list

first-same : (h g : KeyedEnd → PipeEnd) (n : ℕ) (list : List KeyedEnd)
    → ((k : ℕ) (row : KeyedEnd) → k < n → slice_get list k ≡ Some row → g row ≡ h row) → map g (take n list) ≡ take n (map h list)
first-same h g zero list e = refl
first-same h g (suc n) [] e = refl
first-same h g (suc n) (x ∷ list) e = ap (λ (y : PipeEnd). y ∷ map g (take n list)) (e zero x (omega arith) refl)
    ∙ ap (λ (ys : List PipeEnd). h x ∷ ys) (first-same h g n list (λ k row less w. e (suc k) row (omega arith) w))

all-same : (h g : KeyedEnd → PipeEnd) (list : List KeyedEnd) → ((k : ℕ) (row : KeyedEnd) → slice_get list k ≡ Some row → g row ≡ h row)
    → map g list ≡ map h list
all-same h g [] e = refl
all-same h g (x ∷ list) e = ap (λ (y : PipeEnd). y ∷ map g list) (e zero x refl)
    ∙ ap (λ (ys : List PipeEnd). h x ∷ ys) (all-same h g list (λ k row w. e (suc k) row w))

-- the last end of a sequence
abbrev last_of : List (List KeyedEnd) → ℕ → EndId
last_of ends seq = record { seq = seq; serial = length (listed ends seq) - 1 }

module _ (seq : ℕ) (ends after : List (List KeyedEnd)) (old new : Slab Message) (kept : AllKept old ends)
    (loses : Loses old new (keyed.keys_of (slice_get (listed ends seq) (length (listed ends seq) - 1))))
    (e : (s : ℕ) → listed after s ≡ (if seq == s then take (length (listed ends s) - 1) (listed ends s) else listed ends s)) where
  here : keyed.keys_at after (last_of ends seq) ≡ []
  here = ap (λ (list : List KeyedEnd). keyed.keys_of (slice_get list (length (listed ends seq) - 1))) (e seq)
      ∙ (ap (λ (b : Bool). keyed.keys_of (slice_get (if b then take (length (listed ends seq) - 1) (listed ends seq) else listed ends seq)
      (length (listed ends seq) - 1))) (eq-eqb seq seq refl)
      ∙ cut-end (length (listed ends seq) - 1) (listed ends seq))

  others : (x : EndId) → same_end (last_of ends seq) x ≡ false → keyed.keys_at after x ≡ keyed.keys_at ends x
  others x f = ap (λ (list : List KeyedEnd). keyed.keys_of (slice_get list x.serial)) (e x.seq) ∙ go (seq == x.seq) refl
    where
      go : (b : Bool) → (seq == x.seq) ≡ b
          → keyed.keys_of (slice_get (if b then take (length (listed ends x.seq) - 1) (listed ends x.seq) else listed ends x.seq) x.serial)
          ≡ keyed.keys_at ends x
      go true q =
          let apart : ((length (listed ends seq) - 1) == x.serial) ≡ false =
          ap (λ (b : Bool). b && ((length (listed ends seq) - 1) == x.serial)) (sym q) ∙ f in
          cut (length (listed ends x.seq) - 1) (listed ends x.seq) x.serial (omega arith)
          (subst (λ (t : ℕ). ((length (listed ends t) - 1) == x.serial) ≡ false) (eqb-true seq x.seq q) apart)
      go false q = refl

  pub cut_kept : AllKept new after
  cut_kept = less_kept old new (keyed.keys_at ends) (keyed.keys_at after) (last_of ends seq)
      (keyed.keys_of (slice_get (listed ends seq) (length (listed ends seq) - 1))) [] kept
      (sym (append-nil (keyed.keys_of (slice_get (listed ends seq) (length (listed ends seq) - 1))))) loses here others

  others_seen : (x : EndId) (row : KeyedEnd) → same_end (last_of ends seq) x ≡ false → keyed.end_of ends x ≡ Some row → seen_end new row ≡ seen_end old row
  others_seen x row q w = ap (with_mail row) (messages-still old new row.unread
      (λ a p. other_stays old new (keyed.keys_at ends) (keyed.keys_at after) (last_of ends seq)
      (keyed.keys_of (slice_get (listed ends seq) (length (listed ends seq) - 1))) [] kept
      (sym (append-nil (keyed.keys_of (slice_get (listed ends seq) (length (listed ends seq) - 1))))) loses here others x q a
      (of_row ends x row w a p)))

  below : (s k : ℕ) → (seq == s) ≡ true → k < length (listed ends s) - 1 → same_end (last_of ends seq) (record { seq = s; serial = k }) ≡ false
  below s k q less =
      let less-here : k < length (listed ends seq) - 1 = subst (λ (t : ℕ). k < length (listed ends t) - 1) (sym (eqb-true seq s q)) less in
      and_right (seq == s) ((length (listed ends seq) - 1) == k) (ne_eqb (length (listed ends seq) - 1) k (λ same. omega arith))

  list-seen : (s : ℕ) (b : Bool) → (seq == s) ≡ b
      → map (seen_end new) (if b then take (length (listed ends s) - 1) (listed ends s) else listed ends s)
      ≡ (if b then take (length (map (seen_end old) (listed ends s)) - 1) (map (seen_end old) (listed ends s)) else map (seen_end old) (listed ends s))
  list-seen s true q = first-same (seen_end old) (seen_end new) (length (listed ends s) - 1) (listed ends s)
      (λ k row less w. others_seen (record { seq = s; serial = k }) row (below s k q less) w)
      ∙ ap (λ (n : ℕ). take (n - 1) (map (seen_end old) (listed ends s))) (sym (length-map (listed ends s) (seen_end old)))
  list-seen s false q = all-same (seen_end old) (seen_end new) (listed ends s)
      (λ k row w. others_seen (record { seq = s; serial = k }) row (and_left (seq == s) ((length (listed ends seq) - 1) == k) q) w)

  pub cut_seen : (s : ℕ) → listed (seen_ends new after) s
      ≡ (if seq == s then take (length (listed (seen_ends old ends) s) - 1) (listed (seen_ends old ends) s) else listed (seen_ends old ends) s)
  cut_seen s = listed-seen new after s ∙ (ap (λ (list : List KeyedEnd). map (seen_end new) list) (e s)
      ∙ (list-seen s (seq == s) refl
      ∙ ap (λ (list : List PipeEnd). if seq == s then take (length list - 1) list else list) (sym (listed-seen old ends s))))
