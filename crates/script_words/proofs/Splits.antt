-- A text and its parts, one from the other.
use Rattle.std.proofs.Common.{◌≡◌, ◌<◌, ℕ, List, [], ◌∷◌, ◌++◌, length, refl, sym, ap, ◌∙◌, arith, append_assoc, append-nil, Bool, true, false}
use Rattle.std.specs.Prelude.{◌==◌, ◌&&◌, not, if◌then◌else◌, map}
use Rattle.std.specs.List.{list_all, flat_map, join_by, AllByRecursion}
use Rattle.std.proofs.lemmas.Bool.Decides.{nat_tests}
use Rattle.std.proofs.lemmas.List.{map-append}
use denote.Ref.{Bor}
use Rattle.script_words.specs.Pieces.{pieces, onto, without_empty_last}

-- parts with a separator between each two
abbrev pub joined : ℕ → List (List ℕ) → List ℕ
joined c ps = join_by (λ p. p) (c ∷ []) ps

-- a part, and the separator behind it
joined_onto : (c : ℕ) (xs : List ℕ) (ps : List (List ℕ)) → joined c (onto xs ps) ≡ xs ++ joined c ps
joined_onto c xs [] = refl
joined_onto c xs (p ∷ ps) = append_assoc xs p (flat_map (λ q. c ∷ q) ps)

pub onto_some : (xs : List ℕ) (ps : List (List ℕ)) → 0 < length (onto xs ps)
onto_some xs [] = omega arith
onto_some xs (p ∷ ps) = omega arith

pub pieces_some : (c : ℕ) (bytes : List ℕ) → 0 < length (pieces c bytes)
pieces_some c [] = omega arith
pieces_some c (b ∷ bytes) = go (b == c)
  where
    go : (t : Bool) → 0 < length (if t then [] ∷ pieces c bytes else onto (b ∷ []) (pieces c bytes))
    go true = omega arith
    go false = onto_some (b ∷ []) (pieces c bytes)

pub joined_more : (c : ℕ) (p : List ℕ) (ps : List (List ℕ)) → 0 < length ps → joined c (p ∷ ps) ≡ p ++ c ∷ joined c ps
joined_more c p [] h = absurd (omega arith)
joined_more c p (q ∷ ps) h = refl

-- the parts of a text, joined, are the text
pub joined_pieces : (c : ℕ) (bytes : List ℕ) → joined c (pieces c bytes) ≡ bytes
joined_pieces c [] = refl
joined_pieces c (b ∷ bytes) = go (b == c) refl (joined_pieces c bytes)
  where
    go : (t : Bool) → (b == c) ≡ t → joined c (pieces c bytes) ≡ bytes
        → joined c (if t then [] ∷ pieces c bytes else onto (b ∷ []) (pieces c bytes)) ≡ b ∷ bytes
    go true e ih = let same : b ≡ c = grind (arith, nat_tests) in rw (joined_more c [] (pieces c bytes) (pieces_some c bytes), ih, same) refl
    go false e ih = rw (joined_onto c (b ∷ []) (pieces c bytes), ih) refl

-- the last part goes exactly where it is empty
pub without_last : (xs : List (List ℕ)) (p : List ℕ) → without_empty_last (xs ++ p ∷ []) ≡ (if length p == 0 then xs else xs ++ p ∷ [])
without_last [] p = refl
without_last (x ∷ []) p = go (length p == 0)
  where
    go : (t : Bool) → (x ∷ (if t then [] else p ∷ [])) ≡ (if t then x ∷ [] else x ∷ p ∷ [])
    go true = refl
    go false = refl
without_last (x ∷ y ∷ xs) p = rw (without_last (y ∷ xs) p) (go (length p == 0))
  where
    go : (t : Bool) → (x ∷ (if t then y ∷ xs else (y ∷ xs) ++ p ∷ [])) ≡ (if t then x ∷ y ∷ xs else (x ∷ y ∷ xs) ++ p ∷ [])
    go true = refl
    go false = refl

-- a part that lacks the separator
abbrev pub lacks : ℕ → List ℕ → Type 0
lacks c p = list_all (λ b. not (b == c)) p ≡ true

-- two tests that both hold, each by itself
pub both : (a b : Bool) → (a && b) ≡ true → (a ≡ true) × (b ≡ true)
both true b h = (refl, h)
both false b h = absurd cc

-- two tests that hold, together
pub and_true : (a b : Bool) → a ≡ true → b ≡ true → (a && b) ≡ true
and_true a b h k = rw (h, k) refl

-- a test whose negation holds doesn't hold
pub negated : (a : Bool) → not a ≡ true → a ≡ false
negated true h = absurd cc
negated false h = refl

-- the parts before a separator, and the last part
pub one_part : (c : ℕ) (p : List ℕ) → lacks c p → pieces c p ≡ p ∷ []
one_part c [] h = refl
one_part c (b ∷ p) h =
    let k = both (not (b == c)) (list_all (λ b. not (b == c)) p) h in
    rw (negated (b == c) k.0, one_part c p k.1) refl

first_part : (c : ℕ) (p rest : List ℕ) → lacks c p → pieces c (p ++ c ∷ rest) ≡ p ∷ pieces c rest
first_part c [] rest h = let same : (c == c) ≡ true = grind (arith, nat_tests) in rw same refl
first_part c (b ∷ p) rest h =
    let k = both (not (b == c)) (list_all (λ b. not (b == c)) p) h in
    rw (negated (b == c) k.0, first_part c p rest k.1) refl

-- parts that lack the separator are read back
pub pieces_joined : (c : ℕ) (ps : List (List ℕ)) → 0 < length ps → AllByRecursion (lacks c) ps → pieces c (joined c ps) ≡ ps
pieces_joined c [] h all = absurd (omega arith)
pieces_joined c (p ∷ []) h all = ap (pieces c) (append-nil p) ∙ one_part c p all.0
pieces_joined c (p ∷ q ∷ ps) h all = rw (first_part c p (joined c (q ∷ ps)) all.0, pieces_joined c (q ∷ ps) (omega arith) all.1) refl

-- the parts without the last, and with it
now_more : (olds : List (Bor (List ℕ))) (last : Bor (List ℕ))
    → map (λ (part : Bor (List ℕ)). part.now) (olds ++ last ∷ []) ≡ map (λ (part : Bor (List ℕ)). part.now) olds ++ last.now ∷ []
now_more olds last = map-append (λ (part : Bor (List ℕ)). part.now) olds (last ∷ [])

-- an empty last part is dropped
pub last_goes : (items olds : List (Bor (List ℕ))) (last : Bor (List ℕ)) (ps : List (List ℕ))
    → items ≡ olds ++ last ∷ [] → map (λ (part : Bor (List ℕ)). part.now) items ≡ ps
    → (length last.now == 0) ≡ true
    → map (λ (part : Bor (List ℕ)). part.now) olds ≡ without_empty_last ps
last_goes items olds last ps i s z =
    let w = without_last (map (λ (part : Bor (List ℕ)). part.now) olds) last.now in
    let t = now_more olds last in
    sym (ap without_empty_last (sym s ∙ (ap (map (λ (part : Bor (List ℕ)). part.now)) i ∙ t)) ∙ rw z at w)

-- a last part that isn't empty stays
pub last_stays : (items olds news : List (Bor (List ℕ))) (last : Bor (List ℕ)) (ps : List (List ℕ))
    → items ≡ olds ++ last ∷ [] → news ≡ olds ++ last ∷ [] → map (λ (part : Bor (List ℕ)). part.now) items ≡ ps
    → (length last.now == 0) ≡ false
    → map (λ (part : Bor (List ℕ)). part.now) news ≡ without_empty_last ps
last_stays items olds news last ps i n s z =
    let w = without_last (map (λ (part : Bor (List ℕ)). part.now) olds) last.now in
    let t = now_more olds last in
    ap (map (λ (part : Bor (List ℕ)). part.now)) n
    ∙ (t ∙ sym (ap without_empty_last (sym s ∙ (ap (map (λ (part : Bor (List ℕ)). part.now)) i ∙ t)) ∙ rw z at w))

-- a text has one part at least
pub some_part : (items : List (Bor (List ℕ))) (c : ℕ) (bytes : List ℕ) → map (λ (part : Bor (List ℕ)). part.now) items ≡ pieces c bytes → 0 < length items
some_part [] c bytes e = let h : 0 < length (pieces c bytes) = pieces_some c bytes in absurd (omega (arith, ap length e))
some_part (x ∷ items) c bytes e = omega arith
