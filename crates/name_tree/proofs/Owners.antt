-- What is kept at the nodes of a tree of names, found by texts.
use Rattle.std.proofs.Common.{◌≡◌, ℕ, List, [], ◌∷◌, ◌++◌, refl, sym, ◌∙◌, ap}
use Rattle.std.specs.Prelude.{Bool, true, false, ◌==◌, Option, Some, None, if◌then◌else◌, option_and_then}
use Rattle.std.specs.Str.{bytes_eq}
use Rattle.std.specs.Map.{update}
use Rattle.std.proofs.lemmas.Bool.{eqb-true, eq-eqb}
use Rattle.std.proofs.lemmas.Slice.Eq.{bytes_eq-Decides}
use Rattle.name_tree.specs.Walks.{walk, IsTree}
use Rattle.name_tree.proofs.Walks.{two_walks, one_text}

-- a name within another is found from the node of that other
pub walk_within : (step : ℕ → List ℕ → Option ℕ) (outer name : List ℕ) (node : ℕ) → walk step 0 [] outer ≡ Some node
    → walk step 0 [] (outer ++ 46 ∷ name) ≡ walk step node [] name
walk_within step outer name node is = two_walks step 0 [] outer name ∙ ap (option_and_then (λ (k : ℕ). walk step k [] name)) is

-- a value is kept at the node of a name: that name has it, and all others have what they had
pub value_kept : {X : Type 0} (step : ℕ → List ℕ → Option ℕ) (count : ℕ) (old new : ℕ → Option X) (node : ℕ) (name : List ℕ) (value : X)
    → IsTree step count → walk step 0 [] name ≡ Some node → ((n : ℕ) → new n ≡ (if node == n then Some value else old n))
    → (q : List ℕ)
    → option_and_then new (walk step 0 [] q) ≡ update bytes_eq (λ (p : List ℕ). option_and_then old (walk step 0 [] p)) name (Some value) q
value_kept {X} step count old new node name value tree is writes q = go (bytes_eq name q) refl
  where
    other : (o : Option ℕ) → walk step 0 [] q ≡ o → bytes_eq name q ≡ false → option_and_then new o ≡ option_and_then old o
    other None e differs = refl
    other (Some k) e differs = apart (node == k) refl
      where
        apart : (b : Bool) → (node == k) ≡ b → new k ≡ old k
        apart true same =
            let here : node ≡ k = eqb-true node k same in
            let texts : name ≡ q = one_text step count tree k name q (is ∙ ap (λ (n : ℕ). Some n) here) e in
            absurd (let clash : true ≡ false = sym ((bytes_eq-Decides name q).1 texts) ∙ differs in cc)
        apart false differs_at = writes k ∙ ap (λ (b : Bool). if b then Some value else old k) differs_at

    go : (b : Bool) → bytes_eq name q ≡ b
        → option_and_then new (walk step 0 [] q) ≡ (if b then Some value else option_and_then old (walk step 0 [] q))
    go true same =
        let texts : name ≡ q = (bytes_eq-Decides name q).0 same in
        ap (λ (p : List ℕ). option_and_then new (walk step 0 [] p)) (sym texts)
        ∙ (ap (option_and_then new) is ∙ (writes node ∙ ap (λ (b : Bool). if b then Some value else old node) (eq-eqb node node refl)))
    go false differs = other (walk step 0 [] q) refl differs
