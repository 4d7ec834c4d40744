-- A word that spells a number, and parts between separators.
use Rattle.std.proofs.Common.{◌≡◌, ◌<◌, ◌+◌, ◌-◌, ℕ, List, [], ◌∷◌, ◌++◌, length, take, drop, get_or, refl, sym, ap, ◌∙◌, arith, rules, length-drop}
use Rattle.std.proofs.Common.{append_assoc, append-nil, true, false, add-one, drop-cons}
use Rattle.std.specs.Prelude.{Bool, ◌==◌, if◌then◌else◌, ◌≤◌}
use Rattle.std.specs.Str.{bytes_eq}
use Rattle.std.proofs.lemmas.Bool.Decides.{nat_tests}
use Rattle.std.proofs.lemmas.Slice.Eq.{bytes_eq-Decides}
use Rattle.std.proofs.lemmas.List.{take_more, get_or-drop}
use Rattle.std.proofs.lemmas.List.{map-append}
use Rattle.std.specs.Prelude.{map}
use denote.Ref.{Bor}
use Rattle.script_words.specs.Pieces.{pieces, onto}

-- lists that are equal test so
pub never_false : (a b : List ℕ) → a ≡ b → false ≡ bytes_eq a b → ⊥
never_false a b e f = let t : true ≡ bytes_eq a b = rw e (same b) in cc
  where
    same : (xs : List ℕ) → true ≡ bytes_eq xs xs
    same xs = search (rules, bytes_eq-Decides)

onto_none : (c : ℕ) (bytes : List ℕ) → onto [] (pieces c bytes) ≡ pieces c bytes
onto_none c [] = refl
onto_none c (b ∷ bytes) = go (b == c) (pieces c bytes)
  where
    go : (t : Bool) (ps : List (List ℕ)) → onto [] (if t then [] ∷ ps else onto (b ∷ []) ps) ≡ (if t then [] ∷ ps else onto (b ∷ []) ps)
    go true ps = refl
    go false [] = refl
    go false (p ∷ ps) = refl

onto_twice : (xs ys : List ℕ) (ps : List (List ℕ)) → onto xs (onto ys ps) ≡ onto (xs ++ ys) ps
onto_twice xs ys [] = refl
onto_twice xs ys (p ∷ ps) = ap (λ q. q ∷ ps) (sym (append_assoc xs ys p))

-- at a separator a part ends
pub part_ends : (c b : ℕ) (text part : List ℕ) (at : ℕ) → at < length text → b ≡ get_or text at 0 → b ≡ c
    → onto part (pieces c (drop at text)) ≡ part ∷ pieces c (drop (at + 1) text)
part_ends c b text part at h g e =
    let d : drop at text ≡ get_or text at 0 ∷ drop (at + 1) text = rw add-one (drop-cons text at 0 h) in
    let t : (get_or text at 0 == c) ≡ true = grind (arith, nat_tests) in
    rw (d, t) (ap (λ p. p ∷ pieces c (drop (at + 1) text)) (append-nil part))

-- any other byte belongs to the part
pub part_grows : (c b : ℕ) (text part : List ℕ) (at : ℕ) → at < length text → b ≡ get_or text at 0 → (b ≡ c → ⊥)
    → onto part (pieces c (drop at text)) ≡ onto (part ++ b ∷ []) (pieces c (drop (at + 1) text))
part_grows c b text part at h g e =
    let d : drop at text ≡ get_or text at 0 ∷ drop (at + 1) text = rw add-one (drop-cons text at 0 h) in
    let t : (get_or text at 0 == c) ≡ false = grind (arith, nat_tests) in
    rw (d, t, g) (onto_twice part (get_or text at 0 ∷ []) (pieces c (drop (at + 1) text)))

-- with nothing before them, the parts of a text stay as they are
pub none_before : (c : ℕ) (text : List ℕ) → onto [] (pieces c text) ≡ pieces c text
none_before c text = onto_none c text

-- the part is noted at a separator, and the next begins behind it
pub noted : (c b : ℕ) (text part : List ℕ) (whole done : List (List ℕ)) (at : ℕ) → at < length text → b ≡ get_or text at 0 → b ≡ c
    → whole ≡ done ++ onto part (pieces c (drop at text)) → whole ≡ (done ++ part ∷ []) ++ onto [] (pieces c (drop (at + 1) text))
noted c b text part whole done at h g e w =
    w ∙ rw (part_ends c b text part at h g e, onto_none c (drop (at + 1) text)) (sym (append_assoc done (part ∷ []) (pieces c (drop (at + 1) text))))

-- a byte more in the part
pub longer : (c b : ℕ) (text : List ℕ) (whole done : List (List ℕ)) (from at : ℕ) → at < length text → from ≤ at → b ≡ get_or text at 0 → (b ≡ c → ⊥)
    → whole ≡ done ++ onto (take (at - from) (drop from text)) (pieces c (drop at text))
    → whole ≡ done ++ onto (take (at + 1 - from) (drop from text)) (pieces c (drop (at + 1) text))
longer c b text whole done from at h f g e w =
    let m : from + (at - from) ≡ at = omega arith in
    let n : at + 1 - from ≡ (at - from) + 1 = omega arith in
    let within : at - from < length (drop from text) = rw length-drop (omega arith) in
    let there : get_or (drop from text) (at - from) 0 ≡ b = get_or-drop from text (at - from) 0 ∙ ap (λ i. get_or text i 0) m ∙ sym g in
    w ∙ rw (part_grows c b text (take (at - from) (drop from text)) at h g e, n, take_more (drop from text) (at - from) 0 within, there) refl

-- the same for parts that are borrowed
pub noted_at : (c : ℕ) (text : List ℕ) (whole : List (List ℕ)) (parts items : List (Bor (List ℕ))) (p : Bor (List ℕ)) (from at start : ℕ)
    → at < length text
    → get_or text at 0 ≡ c
    → start ≡ at + 1 → items ≡ parts ++ p ∷ [] → p.now ≡ take (at - from) (drop from text)
    → whole ≡ map (λ (part : Bor (List ℕ)). part.now) parts ++ onto (take (at - from) (drop from text)) (pieces c (drop at text))
    → whole ≡ map (λ (part : Bor (List ℕ)). part.now) items ++ onto (take (at + 1 - start) (drop start text)) (pieces c (drop (at + 1) text))
noted_at c text whole parts items p from at start h g s i n w =
    let none : take (at + 1 - start) (drop start text) ≡ [] = let z : at + 1 - start ≡ 0 = omega arith in rw z (take_none (drop start text)) in
    let said : map (λ (part : Bor (List ℕ)). part.now) items ≡ map (λ (part : Bor (List ℕ)). part.now) parts ++ p.now ∷ [] = rw (i, map-append) refl in
    rw (none, said, n) (noted c (get_or text at 0) text (take (at - from) (drop from text)) whole (map (λ (part : Bor (List ℕ)). part.now) parts) at h refl g w)
  where
    take_none : (xs : List ℕ) → take 0 xs ≡ []
    take_none xs = refl
