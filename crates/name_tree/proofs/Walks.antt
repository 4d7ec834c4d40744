-- Walks in trees of names.
use Rattle.std.proofs.Common.{◌≡◌, ℕ, zero, suc, ◌<◌, List, [], ◌∷◌, ◌++◌}
use Rattle.std.proofs.Common.{length, get_or, refl, sym, ◌∙◌, ap, inl, inr, arith, append_assoc, append-nil}
use Rattle.std.specs.Prelude.{Bool, true, false, ◌==◌, ◌⊎◌, if◌then◌else◌, Option, Some, None, option_and_then}
use Rattle.std.proofs.lemmas.Bool.{ne_eqb, eqb-true}
use Rattle.std.proofs.lemmas.Option.{none-some}
use Rattle.name_tree.specs.Walks.{walk, IsTree}

abbrev pub Step : Type 0
Step = ℕ → List ℕ → Option ℕ

-- no byte of the text is a dot
abbrev pub HasNoDot : List ℕ → Type 0
HasNoDot text = (i : ℕ) → i < length text → get_or text i 0 ≡ 46 → ⊥

-- a text without a dot is one part
pub one_part : (step : ℕ → List ℕ → Option ℕ) (node : ℕ) (part text : List ℕ) → HasNoDot text → walk step node part text ≡ step node (part ++ text)
one_part step node part [] none = ap (step node) (sym (append-nil part))
one_part step node part (byte ∷ text) none =
    let plain : (byte == 46) ≡ false = ne_eqb byte 46 (none 0 (omega arith)) in
    rw plain
    (one_part step node (part ++ byte ∷ []) text (λ i lt. none (suc i) (omega (arith, lt))) ∙ ap (step node) (append_assoc part (byte ∷ []) text))

through : (step : Step) (front back : List ℕ) (o : Option ℕ)
    → ((below : ℕ) → walk step below [] (front ++ 46 ∷ back) ≡ option_and_then (λ (k : ℕ). walk step k [] back) (walk step below [] front))
    → option_and_then (λ (k : ℕ). walk step k [] (front ++ 46 ∷ back)) o
    ≡ option_and_then (λ (k : ℕ). walk step k [] back) (option_and_then (λ (k : ℕ). walk step k [] front) o)
through step front back None h = refl
through step front back (Some k) h = h k

dot_or_not : (step : Step) (node byte : ℕ) (part front back : List ℕ) (b : Bool)
    → ((below : ℕ) → walk step below [] (front ++ 46 ∷ back) ≡ option_and_then (λ (k : ℕ). walk step k [] back) (walk step below [] front))
    → walk step node (part ++ byte ∷ []) (front ++ 46 ∷ back) ≡ option_and_then (λ (k : ℕ). walk step k [] back) (walk step node (part ++ byte ∷ []) front)
    → (if b then option_and_then (λ (k : ℕ). walk step k [] (front ++ 46 ∷ back)) (step node part) else walk step node (part ++ byte ∷ []) (front ++ 46 ∷ back))
    ≡ option_and_then (λ (k : ℕ). walk step k [] back)
    (if b then option_and_then (λ (k : ℕ). walk step k [] front) (step node part) else walk step node (part ++ byte ∷ []) front)
dot_or_not step node byte part front back true later here = through step front back (step node part) later
dot_or_not step node byte part front back false later here = here

-- two texts with a dot between them are two walks, one behind the other
pub two_walks : (step : ℕ → List ℕ → Option ℕ) (node : ℕ) (part front back : List ℕ)
    → walk step node part (front ++ 46 ∷ back) ≡ option_and_then (λ (k : ℕ). walk step k [] back) (walk step node part front)
two_walks step node part [] back = refl
two_walks step node part (byte ∷ front) back =
    dot_or_not step node byte part front back (byte == 46) (λ below. two_walks step below [] front back) (two_walks step node (part ++ byte ∷ []) front back)

-- the first part of a text, and what is behind its dot
pub first_part : (step : ℕ → List ℕ → Option ℕ) (node : ℕ) (part rest : List ℕ) → HasNoDot part
    → walk step node [] (part ++ 46 ∷ rest) ≡ option_and_then (λ (k : ℕ). walk step k [] rest) (step node part)
first_part step node part rest none =
    two_walks step node [] part rest ∙ ap (option_and_then (λ (k : ℕ). walk step k [] rest)) (one_part step node [] part none)

-- what leads somewhere still does where the tree has grown
kept_through : (old new : Step) (text : List ℕ) (found : ℕ) (o more : Option ℕ) → ((k : ℕ) → o ≡ Some k → more ≡ Some k)
    → ((k : ℕ) → walk old k [] text ≡ Some found → walk new k [] text ≡ Some found)
    → option_and_then (λ (k : ℕ). walk old k [] text) o ≡ Some found → option_and_then (λ (k : ℕ). walk new k [] text) more ≡ Some found
kept_through old new text found None more keep later h = absurd (none-some found h)
kept_through old new text found (Some k) more keep later h = ap (option_and_then (λ (k : ℕ). walk new k [] text)) (keep k refl) ∙ later k h

kept_either : (old new : Step) (node byte : ℕ) (part text : List ℕ) (found : ℕ) (b : Bool) → ((k : ℕ) → old node part ≡ Some k → new node part ≡ Some k)
    → ((k : ℕ) → walk old k [] text ≡ Some found → walk new k [] text ≡ Some found)
    → (walk old node (part ++ byte ∷ []) text ≡ Some found → walk new node (part ++ byte ∷ []) text ≡ Some found)
    → (if b then option_and_then (λ (k : ℕ). walk old k [] text) (old node part) else walk old node (part ++ byte ∷ []) text) ≡ Some found
    → (if b then option_and_then (λ (k : ℕ). walk new k [] text) (new node part) else walk new node (part ++ byte ∷ []) text) ≡ Some found
kept_either old new node byte part text found true keep later here h = kept_through old new text found (old node part) (new node part) keep later h
kept_either old new node byte part text found false keep later here h = here h

pub kept_walk : (old new : ℕ → List ℕ → Option ℕ) → ((node : ℕ) (part : List ℕ) (below : ℕ) → old node part ≡ Some below → new node part ≡ Some below)
    → (node : ℕ) (part text : List ℕ) (found : ℕ) → walk old node part text ≡ Some found → walk new node part text ≡ Some found
kept_walk old new keep node part [] found h = keep node part found h
kept_walk old new keep node part (byte ∷ text) found h =
    kept_either old new node byte part text found (byte == 46) (keep node part) (λ k. kept_walk old new keep k [] text found)
    (kept_walk old new keep node (part ++ byte ∷ []) text found) h

further_through : (step : Step) (node : ℕ) (text : List ℕ) (found : ℕ) (o : Option ℕ) → ((k : ℕ) → o ≡ Some k → node < k)
    → ((k : ℕ) → walk step k [] text ≡ Some found → k < found)
    → option_and_then (λ (k : ℕ). walk step k [] text) o ≡ Some found → node < found
further_through step node text found None less later h = absurd (none-some found h)
further_through step node text found (Some k) less later h = let one = less k refl in let two = later k h in omega (arith, one, two)

further_either : (step : Step) (node byte : ℕ) (part text : List ℕ) (found : ℕ) (b : Bool) → ((k : ℕ) → step node part ≡ Some k → node < k)
    → ((k : ℕ) → walk step k [] text ≡ Some found → k < found)
    → (walk step node (part ++ byte ∷ []) text ≡ Some found → node < found)
    → (if b then option_and_then (λ (k : ℕ). walk step k [] text) (step node part) else walk step node (part ++ byte ∷ []) text) ≡ Some found
    → node < found
further_either step node byte part text found true less later here h = further_through step node text found (step node part) less later h
further_either step node byte part text found false less later here h = here h

-- a walk leads to a node of a greater number
pub further : (step : ℕ → List ℕ → Option ℕ) (count : ℕ) → IsTree step count
    → (node : ℕ) (part text : List ℕ) (found : ℕ) → walk step node part text ≡ Some found → node < found
further step count tree node part [] found h = (tree.later node part found h).0
further step count tree node part (byte ∷ text) found h =
    further_either step node byte part text found (byte == 46) (λ k is. (tree.later node part k is).0) (λ k. further step count tree k [] text found)
    (further step count tree node (part ++ byte ∷ []) text found) h

below_through : (step : Step) (count : ℕ) (text : List ℕ) (found : ℕ) (o : Option ℕ)
    → ((k : ℕ) → walk step k [] text ≡ Some found → found < count)
    → option_and_then (λ (k : ℕ). walk step k [] text) o ≡ Some found → found < count
below_through step count text found None later h = absurd (none-some found h)
below_through step count text found (Some k) later h = later k h

below_either : (step : Step) (count node byte : ℕ) (part text : List ℕ) (found : ℕ) (b : Bool)
    → ((k : ℕ) → walk step k [] text ≡ Some found → found < count)
    → (walk step node (part ++ byte ∷ []) text ≡ Some found → found < count)
    → (if b then option_and_then (λ (k : ℕ). walk step k [] text) (step node part) else walk step node (part ++ byte ∷ []) text) ≡ Some found
    → found < count
below_either step count node byte part text found true later here h = below_through step count text found (step node part) later h
below_either step count node byte part text found false later here h = here h

-- a walk leads to a node of the tree
pub in_tree : (step : ℕ → List ℕ → Option ℕ) (count : ℕ) → IsTree step count
    → (node : ℕ) (part text : List ℕ) (found : ℕ) → walk step node part text ≡ Some found → found < count
in_tree step count tree node part [] found h = (tree.later node part found h).1
in_tree step count tree node part (byte ∷ text) found h =
    below_either step count node byte part text found (byte == 46) (λ k. in_tree step count tree k [] text found)
    (in_tree step count tree node (part ++ byte ∷ []) text found) h

-- a text whose last part stands behind a dot
pub record Cut (step : Step) (node : ℕ) (part text : List ℕ) (found : ℕ) : Type 0 where
  front : List ℕ
  back : List ℕ
  above : ℕ
  is : text ≡ front ++ 46 ∷ back
  leads : walk step node part front ≡ Some above
  last : step above back ≡ Some found

cut_through : (step : Step) (node byte : ℕ) (part text : List ℕ) (found : ℕ) (o : Option ℕ) → step node part ≡ o → (byte == 46) ≡ true
    → ((k : ℕ) → walk step k [] text ≡ Some found → (step k text ≡ Some found) ⊎ Cut step k [] text found)
    → option_and_then (λ (k : ℕ). walk step k [] text) o ≡ Some found
    → Cut step node part (byte ∷ text) found
cut_through step node byte part text found None e dot later h = absurd (none-some found h)
cut_through step node byte part text found (Some k) e dot later h =
    let same : byte ≡ 46 = eqb-true byte 46 dot in
    elim (later k h) [
      | inl one ↦ record { front = []; back = text; above = k; is = ap (λ (b : ℕ). b ∷ text) same; leads = e; last = one }
      | inr cut ↦ record {
        front = byte ∷ cut.front;
        back = cut.back;
        above = cut.above;
        is = ap (λ (t : List ℕ). byte ∷ t) cut.is;
        leads = rw (dot, e) cut.leads;
        last = cut.last;
      }
    ]

cut_plain : (step : Step) (node byte : ℕ) (part text : List ℕ) (found : ℕ) → (byte == 46) ≡ false
    → (step node ((part ++ byte ∷ []) ++ text) ≡ Some found) ⊎ Cut step node (part ++ byte ∷ []) text found
    → (step node (part ++ byte ∷ text) ≡ Some found) ⊎ Cut step node part (byte ∷ text) found
cut_plain step node byte part text found plain (inl one) = inl (ap (step node) (sym (append_assoc part (byte ∷ []) text)) ∙ one)
cut_plain step node byte part text found plain (inr cut) = inr (record {
  front = byte ∷ cut.front;
  back = cut.back;
  above = cut.above;
  is = ap (λ (t : List ℕ). byte ∷ t) cut.is;
  leads = rw plain cut.leads;
  last = cut.last;
})

cut_either : (step : Step) (node byte : ℕ) (part text : List ℕ) (found : ℕ) (b : Bool) → (byte == 46) ≡ b
    → ((k : ℕ) → walk step k [] text ≡ Some found → (step k text ≡ Some found) ⊎ Cut step k [] text found)
    → (walk step node (part ++ byte ∷ []) text ≡ Some found
    → (step node ((part ++ byte ∷ []) ++ text) ≡ Some found) ⊎ Cut step node (part ++ byte ∷ []) text found)
    → (if b then option_and_then (λ (k : ℕ). walk step k [] text) (step node part) else walk step node (part ++ byte ∷ []) text) ≡ Some found
    → (step node (part ++ byte ∷ text) ≡ Some found) ⊎ Cut step node part (byte ∷ text) found
cut_either step node byte part text found true is later here h =
    inr (cut_through step node byte part text found (step node part) refl is later h)
cut_either step node byte part text found false is later here h = cut_plain step node byte part text found is (here h)

last_part : (step : Step) (node : ℕ) (part text : List ℕ) (found : ℕ) → walk step node part text ≡ Some found
    → (step node (part ++ text) ≡ Some found) ⊎ Cut step node part text found
last_part step node part [] found h = inl (ap (step node) (append-nil part) ∙ h)
last_part step node part (byte ∷ text) found h =
    cut_either step node byte part text found (byte == 46) refl (λ k. last_part step k [] text found)
    (last_part step node (part ++ byte ∷ []) text found) h

apart_at : (step : Step) (count : ℕ) → IsTree step count → (found : ℕ) (one two : List ℕ)
    → ((above : ℕ) → above < found → (front other : List ℕ) → walk step 0 [] front ≡ Some above → walk step 0 [] other ≡ Some above → front ≡ other)
    → (step 0 one ≡ Some found) ⊎ Cut step 0 [] one found → (step 0 two ≡ Some found) ⊎ Cut step 0 [] two found
    → one ≡ two
apart_at step count tree found one two before (inl x) (inl y) = (tree.apart 0 0 one two found x y).1
apart_at step count tree found one two before (inl x) (inr cut) =
    let top : 0 ≡ cut.above = (tree.apart 0 cut.above one cut.back found x cut.last).0 in
    let deep = further step count tree 0 [] cut.front cut.above cut.leads in
    absurd (let bad : ⊥ = omega (arith, top, deep) in bad)
apart_at step count tree found one two before (inr cut) (inl y) =
    let top : 0 ≡ cut.above = (tree.apart 0 cut.above two cut.back found y cut.last).0 in
    let deep = further step count tree 0 [] cut.front cut.above cut.leads in
    absurd (let bad : ⊥ = omega (arith, top, deep) in bad)
apart_at step count tree found one two before (inr cut) (inr other) =
    let same = tree.apart cut.above other.above cut.back other.back found cut.last other.last in
    let less = (tree.later cut.above cut.back found cut.last).0 in
    let fronts : cut.front ≡ other.front = before cut.above less cut.front other.front cut.leads (other.leads ∙ ap (λ (k : ℕ). Some k) (sym same.0)) in
    cut.is ∙ (ap (λ (t : List ℕ). t ++ 46 ∷ cut.back) fronts ∙ (ap (λ (t : List ℕ). other.front ++ 46 ∷ t) same.1 ∙ sym other.is))

apart_below : (step : Step) (count : ℕ) → IsTree step count → (bound found : ℕ) → found < bound → (one two : List ℕ)
    → walk step 0 [] one ≡ Some found → walk step 0 [] two ≡ Some found → one ≡ two
apart_below step count tree zero found lt one two h g = absurd (let bad : ⊥ = omega (arith, lt) in bad)
apart_below step count tree (suc bound) found lt one two h g =
    apart_at step count tree found one two (λ above less. apart_below step count tree bound above (omega (arith, lt, less)))
    (last_part step 0 [] one found h) (last_part step 0 [] two found g)

-- a node stands for one text
pub one_text : (step : ℕ → List ℕ → Option ℕ) (count : ℕ) → IsTree step count → (found : ℕ) (one two : List ℕ)
    → walk step 0 [] one ≡ Some found → walk step 0 [] two ≡ Some found → one ≡ two
one_text step count tree found one two h g = apart_below step count tree (suc found) found (omega arith) one two h g

-- a walk goes on behind its first part
pub goes_on : (step : ℕ → List ℕ → Option ℕ) (node below : ℕ) (text part rest : List ℕ) → HasNoDot part → text ≡ part ++ 46 ∷ rest
    → step node part ≡ Some below → walk step node [] text ≡ walk step below [] rest
goes_on step node below text part rest none is found =
    ap (walk step node []) is ∙ (first_part step node part rest none ∙ ap (option_and_then (λ (k : ℕ). walk step k [] rest)) found)

-- a walk ends where there is no node for its first part
pub ends_there : (step : ℕ → List ℕ → Option ℕ) (node : ℕ) (text part rest : List ℕ) → HasNoDot part → text ≡ part ++ 46 ∷ rest
    → step node part ≡ None → walk step node [] text ≡ None
ends_there step node text part rest none is found =
    ap (walk step node []) is ∙ (first_part step node part rest none ∙ ap (option_and_then (λ (k : ℕ). walk step k [] rest)) found)
