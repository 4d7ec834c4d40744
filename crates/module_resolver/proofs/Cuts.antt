-- Fronts of a text, by the places where they end.
use Rattle.std.proofs.Common.{◌≡◌, ℕ, ◌+◌, ◌<◌, ◌≤◌, List, [], ◌∷◌, ◌++◌, length, take, get_or, refl, sym, ◌∙◌, ap, subst, inl, inr, arith, length-append, append_assoc, add-one, drop, drop-cons}
use Rattle.std.specs.Prelude.{◌⊎◌, reverse, codes}
use Rattle.std.specs.List.{All}
use Rattle.std.specs.Str.{IsCharBoundary}
use Rattle.std.proofs.lemmas.Str.{IsCharBoundary-end, IsCharBoundary-before_ascii}
use Rattle.std.proofs.lemmas.List.{take-append-le, get_or_append_left, reverse-append, drop_all}
use Rattle.std.proofs.lemmas.List.Elements.{All-head, All-tail, All-push, All-weaker}
use Rattle.std.proofs.Math.Seq.{take-append_seam, take-length, get_or-append_seam}
use Rattle.std.proofs.Math.Nat.{eq-or-lt_of_le}
use Rattle.mojom_ast.specs.declared.names.Identifier.{Identifier}
use Rattle.mj_base.specs.Names.{within}
use Rattle.module_resolver.specs.NamesOf.{texts_from}
use Rattle.module_resolver.specs.steps.Cuts.{cut_at, AreCuts}

cut_longer : (text more ends : List ℕ) → AreCuts text ends → cut_at (text ++ more) ends ≡ cut_at text ends
cut_longer text more [] cuts = refl
cut_longer text more (end ∷ ends) cuts =
    let here = All-head (IsCharBoundary text) end ends cuts in
    let later = cut_longer text more ends (All-tail (IsCharBoundary text) end ends cuts) in
    let first : take end (text ++ more) ≡ take end text = take-append-le end text more here.0 in
    rw (first, later) refl

cut_push : (text ends : List ℕ) (end : ℕ) → cut_at text (ends ++ end ∷ []) ≡ cut_at text ends ++ take end text ∷ []
cut_push text [] end = refl
cut_push text (first ∷ ends) end = ap (λ (fronts : List (List ℕ)). take first text ∷ fronts) (cut_push text ends end)

-- a text to which a part is added can be cut before the dot
dot_boundary : (text inner : List ℕ) → IsCharBoundary (within text inner) (length text)
dot_boundary text inner =
    IsCharBoundary-before_ascii (within text inner) (length text) (let n = length-append text (codes "." ++ inner) in omega (arith, n))
    (let is : get_or (within text inner) (length text) 0 ≡ 46 = get_or-append_seam text 46 inner 0 in omega (arith, is))

longer_boundary : (text inner : List ℕ) (end : ℕ) → IsCharBoundary text end → IsCharBoundary (within text inner) end
longer_boundary text inner end cut = go (eq-or-lt_of_le cut.0)
  where
    go : (end ≡ length text) ⊎ (end < length text) → IsCharBoundary (within text inner) end
    go (inl same) = subst (IsCharBoundary (within text inner)) (sym same) (dot_boundary text inner)
    go (inr lt) =
        let same : get_or (within text inner) end 0 ≡ get_or text end 0 = get_or_append_left text (codes "." ++ inner) 0 end lt in
        let n = length-append text (codes "." ++ inner) in
        (omega (arith, n, lt), λ less high. rw same (cut.1 lt (rw same at high)))

-- the fronts before a part is added are those from before, and the text of before
pub fronts_part : (text inner ends : List ℕ) → AreCuts text ends
    → cut_at (within text inner) (ends ++ length text ∷ []) ≡ cut_at text ends ++ text ∷ []
fronts_part text inner ends cuts =
    let front : take (length text) (within text inner) ≡ text = take-append_seam text (codes "." ++ inner) in
    cut_push (within text inner) ends (length text)
    ∙ (ap (λ (last : List ℕ). cut_at (within text inner) ends ++ last ∷ []) front
    ∙ ap (λ (fronts : List (List ℕ)). fronts ++ text ∷ []) (cut_longer text (codes "." ++ inner) ends cuts))

-- with the part, the text can be cut there
pub cuts_part : (text inner ends : List ℕ) → AreCuts text ends → AreCuts (within text inner) (ends ++ length text ∷ [])
cuts_part text inner ends cuts =
    All-push (IsCharBoundary (within text inner)) ends (length text)
    (All-weaker (IsCharBoundary text) (IsCharBoundary (within text inner)) (longer_boundary text inner) ends cuts)
    (dot_boundary text inner)

cut_reverse : (text ends : List ℕ) → cut_at text (reverse ends) ≡ reverse (cut_at text ends)
cut_reverse text [] = refl
cut_reverse text (end ∷ ends) =
    ap (cut_at text) (reverse-append (end ∷ []) ends)
    ∙ (cut_push text (reverse ends) end
    ∙ (ap (λ (fronts : List (List ℕ)). fronts ++ take end text ∷ []) (cut_reverse text ends)
    ∙ sym (reverse-append (take end text ∷ []) (cut_at text ends))))

-- the fronts and the whole text, the longest first
pub fronts_whole : (text ends : List ℕ) → cut_at text (reverse (ends ++ length text ∷ [])) ≡ reverse (cut_at text ends ++ text ∷ [])
fronts_whole text ends =
    cut_reverse text (ends ++ length text ∷ [])
    ∙ ap reverse (cut_push text ends (length text) ∙ ap (λ (last : List ℕ). cut_at text ends ++ last ∷ []) (take-length text))

All-reverse : (P : ℕ → Type 0) (xs : List ℕ) → All P xs → All P (reverse xs)
All-reverse P [] all = all
All-reverse P (x ∷ xs) all =
    let e : reverse (x ∷ xs) ≡ reverse xs ++ x ∷ [] = reverse-append (x ∷ []) xs in
    rw e (All-push P (reverse xs) x (All-reverse P xs (All-tail P x xs all)) (All-head P x xs all))

-- the text can be cut at each place, the last first
pub cuts_whole : (text ends : List ℕ) → AreCuts text ends → AreCuts text (reverse (ends ++ length text ∷ []))
cuts_whole text ends cuts =
    All-reverse (IsCharBoundary text) (ends ++ length text ∷ [])
    (All-push (IsCharBoundary text) ends (length text) cuts (IsCharBoundary-end text))

-- one part more
pub part_added : (text more ends longer : List ℕ) (rest : List Identifier) (i : ℕ) (part : Identifier) (fronts : List (List ℕ))
    → i < length rest → part ≡ get_or rest i part → more ≡ within text part.text → longer ≡ ends ++ length text ∷ [] → AreCuts text ends
    → reverse (cut_at text ends ++ texts_from text (drop i rest)) ≡ fronts
    → (reverse (cut_at more longer ++ texts_from more (drop (i + 1) rest)) ≡ fronts) × AreCuts more longer
part_added text more ends longer rest i part fronts lt item is_more is_longer cuts are =
    let next : drop i rest ≡ part ∷ drop (i + 1) rest = rw (add-one, item) (drop-cons rest i part lt) in
    let later : cut_at more longer ++ texts_from more (drop (i + 1) rest) ≡ cut_at text ends ++ texts_from text (drop i rest) =
    rw (is_more, is_longer, fronts_part text part.text ends cuts, next)
    (append_assoc (cut_at text ends) (text ∷ []) (texts_from (within text part.text) (drop (i + 1) rest))) in
    (ap reverse later ∙ are, rw (is_more, is_longer) (cuts_part text part.text ends cuts))

-- where no part is left
pub parts_ended : (text ends longer : List ℕ) (rest : List Identifier) (i : ℕ) (fronts : List (List ℕ))
    → length rest ≤ i → longer ≡ reverse (ends ++ length text ∷ []) → reverse (cut_at text ends ++ texts_from text (drop i rest)) ≡ fronts
    → cut_at text longer ≡ fronts
parts_ended text ends longer rest i fronts le is are =
    let none : drop i rest ≡ [] = drop_all i rest le in
    let whole : reverse (cut_at text ends ++ text ∷ []) ≡ fronts = rw none at are in
    rw is (fronts_whole text ends ∙ whole)
