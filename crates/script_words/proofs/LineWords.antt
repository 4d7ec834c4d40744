-- The words of a line, byte by byte.
use Rattle.std.proofs.Common.{◌≡◌, ◌<◌, ◌≤◌, ◌+◌, ◌-◌, ℕ, List, [], ◌∷◌, ◌++◌, length, take, drop, get_or, refl, sym, ap, ◌∙◌, arith, append_assoc}
use Rattle.std.proofs.Common.{append-nil, Bool, true, false, add-one, drop-cons, length-drop}
use Rattle.std.specs.Prelude.{map, if◌then◌else◌}
use Rattle.std.proofs.lemmas.List.{map-append, take_more, get_or-drop}
use denote.Ref.{Bor}
use Rattle.script_words.specs.Pieces.{Place, words_at, onto, behind, parts_words}

onto_none : (p : Place) (bytes : List ℕ) → onto [] (words_at p bytes) ≡ words_at p bytes
onto_none p [] = refl
onto_none p (b ∷ bytes) = go (parts_words p b) (words_at (behind p b) bytes)
  where
    go : (t : Bool) (ps : List (List ℕ)) → onto [] (if t then [] ∷ ps else onto (b ∷ []) ps) ≡ (if t then [] ∷ ps else onto (b ∷ []) ps)
    go true ps = refl
    go false [] = refl
    go false (q ∷ ps) = refl

onto_twice : (xs ys : List ℕ) (ps : List (List ℕ)) → onto xs (onto ys ps) ≡ onto (xs ++ ys) ps
onto_twice xs ys [] = refl
onto_twice xs ys (p ∷ ps) = ap (λ q. q ∷ ps) (sym (append_assoc xs ys p))

-- at a blank that parts words a word ends
part_ends : (p : Place) (text part : List ℕ) (at : ℕ) → at < length text → parts_words p (get_or text at 0) ≡ true
    → onto part (words_at p (drop at text)) ≡ part ∷ words_at (behind p (get_or text at 0)) (drop (at + 1) text)
part_ends p text part at h t =
    let d : drop at text ≡ get_or text at 0 ∷ drop (at + 1) text = rw add-one (drop-cons text at 0 h) in
    rw (d, t) (ap (λ q. q ∷ words_at (behind p (get_or text at 0)) (drop (at + 1) text)) (append-nil part))

-- any other byte belongs to the word
part_grows : (p : Place) (text part : List ℕ) (at : ℕ) → at < length text → parts_words p (get_or text at 0) ≡ false
    → onto part (words_at p (drop at text)) ≡ onto (part ++ get_or text at 0 ∷ []) (words_at (behind p (get_or text at 0)) (drop (at + 1) text))
part_grows p text part at h t =
    let d : drop at text ≡ get_or text at 0 ∷ drop (at + 1) text = rw add-one (drop-cons text at 0 h) in
    rw (d, t) (onto_twice part (get_or text at 0 ∷ []) (words_at (behind p (get_or text at 0)) (drop (at + 1) text)))

-- with nothing before them, the words stay as they are
pub none_before : (p : Place) (text : List ℕ) → onto [] (words_at p text) ≡ words_at p text
none_before p text = onto_none p text

-- the word is noted, and the next begins behind the blank
pub word_ends : (p q : Place) (text : List ℕ) (whole : List (List ℕ)) (words items : List (Bor (List ℕ))) (w : Bor (List ℕ)) (from at start : ℕ)
    → at < length text
    → parts_words p (get_or text at 0) ≡ true
    → q ≡ behind p (get_or text at 0)
    → start ≡ at + 1 → items ≡ words ++ w ∷ [] → w.now ≡ take (at - from) (drop from text)
    → whole ≡ map (λ (word : Bor (List ℕ)). word.now) words ++ onto (take (at - from) (drop from text)) (words_at p (drop at text))
    → whole ≡ map (λ (word : Bor (List ℕ)). word.now) items ++ onto (take (at + 1 - start) (drop start text)) (words_at q (drop (at + 1) text))
word_ends p q text whole words items w from at start h t e s i n k =
    let none : take (at + 1 - start) (drop start text) ≡ [] = let z : at + 1 - start ≡ 0 = omega (arith, s) in rw z refl in
    let said : map (λ (word : Bor (List ℕ)). word.now) items ≡ map (λ (word : Bor (List ℕ)). word.now) words ++ w.now ∷ [] = rw (i, map-append) refl in
    k
    ∙ rw (none, said, n, e, part_ends p text (take (at - from) (drop from text)) at h t, onto_none (behind p (get_or text at 0)) (drop (at + 1) text))
    (sym (append_assoc (map (λ (word : Bor (List ℕ)). word.now) words) (take (at - from) (drop from text) ∷ [])
    (words_at (behind p (get_or text at 0)) (drop (at + 1) text))))

-- a byte more in the word
pub word_grows : (p q : Place) (text : List ℕ) (whole done : List (List ℕ)) (from at : ℕ) → at < length text → from ≤ at
    → parts_words p (get_or text at 0) ≡ false
    → q ≡ behind p (get_or text at 0)
    → whole ≡ done ++ onto (take (at - from) (drop from text)) (words_at p (drop at text))
    → whole ≡ done ++ onto (take (at + 1 - from) (drop from text)) (words_at q (drop (at + 1) text))
word_grows p q text whole done from at h f t e w =
    let m : from + (at - from) ≡ at = omega (arith, f) in
    let n : at + 1 - from ≡ (at - from) + 1 = omega (arith, f) in
    let within : at - from < length (drop from text) = rw length-drop (omega (arith, h, f)) in
    let there : get_or (drop from text) (at - from) 0 ≡ get_or text at 0 = get_or-drop from text (at - from) 0 ∙ ap (λ i. get_or text i 0) m in
    w ∙ rw (part_grows p text (take (at - from) (drop from text)) at h t, n, take_more (drop from text) (at - from) 0 within, there, e) refl
