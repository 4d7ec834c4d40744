-- Reading a series in a loop, each value put behind those before it.
use Rattle.std.proofs.Common.{◌≡◌, ℕ, ◌-◌, ◌+◌, ◌≤◌, ◌<◌, ◌⊎◌, List, [], ◌∷◌, ◌++◌, Ok, Err, Bool, true, false, refl, sym, ◌∙◌, append_assoc}
use Rattle.std.proofs.lemmas.List.{append-nil}
use Rattle.byte_rules.specs.declared.stop.Stop.{Stop}
use Rattle.byte_rules.specs.declared.stop.Stop.TheVariants as stops
use Rattle.byte_rules.specs.Lang.{Lang, Read, ◌>>=◌, front_is}
use Rattle.byte_rules.specs.Reading.{Fails}
use Rattle.line_parts.specs.Series.{at_most, series}
use Rattle.line_parts.specs.steps.Reading.{gathered}
use Rattle.line_parts.proofs.SeriesLoops as loops

module _ {S A B : Type 0} (ends : ℕ → Bool) (one : S → Lang A) (next : S → A → S) (last : Lang B) (start : S) (bytes : List ℕ) where
  -- some behind those in front
  abbrev add : List A → List A → List A
  add front xs = front ++ xs

  -- none more change nothing
  abbrev nothing : (front : List A) → add front [] ≡ front
  nothing front = append-nil front

  -- one more stands before the rest
  abbrev one_more : (front : List A) (x : A) (xs : List A) → add front (x ∷ xs) ≡ add (add front (x ∷ [])) xs
  one_more front x xs = sym (append_assoc front (x ∷ []) xs)

  -- what the bytes read as in all
  abbrev pub all : Read (List A × B)
  all = (series ends one next last start).read bytes

  -- with what was read before, what is read of so many more is all
  abbrev pub Going : List A → ℕ → S → List ℕ → Type 0
  Going front n s rest = gathered (λ (front xs : List A). front ++ xs) front ((at_most ends one next last n s).read rest)
      ≡ gathered (λ (front xs : List A). front ++ xs) [] all

  no_front : (r : Read (List A × B)) → gathered add [] r ≡ r
  no_front (Ok x) = refl
  no_front (Err n) = refl

  module _ (front : List A) (count i : ℕ) (s : S) (rest : List ℕ) (so_far : Going front (count - i) s rest) where
    -- what comes behind them
    pub whole : (count ≤ i) ⊎ (front_is ends rest ≡ true) → all ≡ (last.read rest >>= λ y. Ok ((front, y.0), y.1))
    whole h = sym (no_front all) ∙ loops.halts add nothing one_more ends one next last front count i s rest (gathered add [] all) h so_far

    -- another one, or none
    pub broken : (e : Stop) → i < count → front_is ends rest ≡ false → Fails e ((one s).read rest) → Fails e all
    broken stops.Memory lt f r = tt
    broken (stops.Left n) lt f r =
        sym (no_front all) ∙ loops.breaks add nothing one_more ends one next last (stops.Left n) front count i s rest (gathered add [] all) lt f r so_far

    pub goes : (x : A) (after : List ℕ) → i < count → front_is ends rest ≡ false → (one s).read rest ≡ Ok (x, after)
        → Going (front ++ x ∷ []) (count - (i + 1)) (next s x) after
    goes x after lt f r =
        loops.goes_on add nothing one_more ends one next last front count i s rest x after (gathered add [] all) lt f r so_far
