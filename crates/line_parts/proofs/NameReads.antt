-- How one of some texts is read: the bytes that it has in front are the text.
use Rattle.std.proofs.Common.{◌≡◌, ℕ, suc, ◌-◌, ◌≤◌, List, [], ◌∷◌, length, map, take, drop, Option, Some, None, Ok, Err}
use Rattle.std.proofs.Common.{Bool, true, false, cond, ◌==◌, refl, sym, ap, ◌∙◌, arith}
use Rattle.std.specs.Prelude.{nat_lt}
use Rattle.std.specs.Option.{option_map}
use Rattle.std.proofs.lemmas.Bool.{eqb-true}
use Rattle.byte_rules.specs.Among.{common, Near, nearer, nearest, found, among}
use Rattle.byte_rules.proofs.Fronts.{among_read}
use Rattle.line_parts.specs.steps.Reading.{nearest_in}
use Rattle.line_parts.proofs.KeywordReads.{entries, all_rows}

-- a word that goes as far as it is long is what the bytes have in front
in_front : (w bs : List ℕ) → length w ≡ common w bs → w ≡ take (common w bs) bs
in_front [] bs e = refl
in_front (a ∷ w) [] e = absurd (omega (arith, e))
in_front (a ∷ w) (b ∷ bs) e = of (a == b) refl e (λ k. in_front w bs k)
  where
    of : (v : Bool) → (a == b) ≡ v → suc (length w) ≡ cond v (suc (common w bs)) 0 → (length w ≡ common w bs → w ≡ take (common w bs) bs)
        → a ∷ w ≡ take (cond v (suc (common w bs)) 0) (b ∷ bs)
    of true s e on = ap (λ (c : ℕ). c ∷ w) (eqb-true a b s) ∙ ap (λ (l : List ℕ). b ∷ l) (on (omega (arith, e)))
    of false s e on = absurd (omega (arith, e))

module _ (bs : List ℕ) where
  -- the word that was found stands in front of the bytes
  abbrev IsFront : Near (List ℕ) → Type 0
  IsFront (n, None) = Unit {0}
  IsFront (n, Some w) = w ≡ take n bs

  front_nearer : (w : List ℕ) (near : Near (List ℕ)) → IsFront near → IsFront (nearer w bs w near)
  front_nearer w near f = of (nat_lt n near.0) (length w == n) (n == near.0) refl
    where
      n : ℕ
      n = common w bs

      of : (u v x : Bool) → (length w == n) ≡ v → IsFront (cond u near (cond v (n, Some w) (cond x near (n, None))))
      of true v x e = f
      of false true x e = in_front w bs (eqb-true (length w) n e)
      of false false true e = f
      of false false false e = tt

  front_nearest : (ws : List (List ℕ)) (near : Near (List ℕ)) → IsFront near → IsFront (nearest (λ (w : List ℕ). w) bs near ws)
  front_nearest [] near f = f
  front_nearest (w ∷ ws) near f = front_nearest ws (nearer w bs w near) (front_nearer w near f)

  -- whether some word ends there
  abbrev near_unit : Near (List ℕ) → Near (Unit {0})
  near_unit (n, w) = (n, option_map (λ (w : List ℕ). tt) w)

  unit_nearer : (w : List ℕ) (near : Near (List ℕ)) → nearer w bs tt (near_unit near) ≡ near_unit (nearer w bs w near)
  unit_nearer w near = of (nat_lt n near.0) (length w == n) (n == near.0)
    where
      n : ℕ
      n = common w bs

      of : (u v x : Bool) → cond u (near_unit near) (cond v (n, Some tt) (cond x (near_unit near) (n, None)))
          ≡ near_unit (cond u near (cond v (n, Some w) (cond x near (n, None))))
      of true v x = refl
      of false true x = refl
      of false false true = refl
      of false false false = refl

  module _ {R : Type 0} (text : R → List ℕ) where
    unit_nearest : (rows : List R) (near : Near (List ℕ))
        → nearest_in bs (near_unit near) (entries (λ (row : R). tt) text rows) ≡ near_unit (nearest (λ (w : List ℕ). w) bs near (map text rows))
    unit_nearest [] near = refl
    unit_nearest (r ∷ rs) near =
        ap (λ (near : Near (Unit {0})). nearest_in bs near (entries (λ (row : R). tt) text rs)) (unit_nearer (text r) near)
        ∙ unit_nearest rs (nearer (text r) bs (text r) near)

    text_found : (near : Near (List ℕ)) (n : ℕ) → IsFront near → near_unit near ≡ (n, Some tt) → found bs near ≡ Ok (take n bs, drop n bs)
    text_found (m, None) n f e = let k : ◌≡◌ {A = Option (Unit {0})} None (Some tt) = ap (λ (near : Near (Unit {0})). near.1) e in absurd (cc)
    text_found (m, Some w) n f e = let k : m ≡ n = ap (λ (near : Near (Unit {0})). near.0) e in
        ap (λ (w : List ℕ). Ok (w, drop m bs)) f ∙ ap (λ (k : ℕ). Ok (take k bs, drop k bs)) k

    none_found : (near : Near (List ℕ)) (n : ℕ) → near_unit near ≡ (n, None) → found bs near ≡ Err (length bs - n)
    none_found (m, None) n e = let k : m ≡ n = ap (λ (near : Near (Unit {0})). near.0) e in ap (λ (k : ℕ). Err (length bs - k)) k
    none_found (m, Some w) n e = let k : ◌≡◌ {A = Option (Unit {0})} (Some tt) None = ap (λ (near : Near (Unit {0})). near.1) e in absurd (cc)

    all_texts : (rows : List R) → Near (List ℕ)
    all_texts rows = nearest (λ (w : List ℕ). w) bs (0, None) (map text rows)

    is_all : (rows : List R) (i : ℕ) (near : Near (Unit {0})) → length rows ≤ i
        → nearest_in bs near (entries (λ (row : R). tt) text (drop i rows)) ≡ nearest_in bs (0, None) (entries (λ (row : R). tt) text rows)
        → near_unit (all_texts rows) ≡ near
    unfolding all_texts
    is_all rows i near le so_far =
        sym (all_rows (λ (row : R). tt) text rows i bs near (nearest_in bs (0, None) (entries (λ (row : R). tt) text rows)) le so_far
        ∙ unit_nearest rows (0, None))

    pub text_ok : (rows : List R) (i : ℕ) (near : Near (Unit {0})) → length rows ≤ i
        → nearest_in bs near (entries (λ (row : R). tt) text (drop i rows)) ≡ nearest_in bs (0, None) (entries (λ (row : R). tt) text rows)
        → near.1 ≡ Some tt → (among [] (λ (w : List ℕ). w) (map text rows)).read bs ≡ Ok (take near.0 bs, drop near.0 bs)
    unfolding all_texts
    text_ok rows i near le so_far some = among_read [] (λ (w : List ℕ). w) (map text rows) bs
        ∙ text_found (all_texts rows) near.0 (front_nearest (map text rows) (0, None) tt)
        (is_all rows i near le so_far ∙ ap (λ o. (near.0, o)) some)

    pub text_err : (rows : List R) (i : ℕ) (near : Near (Unit {0})) → length rows ≤ i
        → nearest_in bs near (entries (λ (row : R). tt) text (drop i rows)) ≡ nearest_in bs (0, None) (entries (λ (row : R). tt) text rows)
        → near.1 ≡ None → (among [] (λ (w : List ℕ). w) (map text rows)).read bs ≡ Err (length bs - near.0)
    unfolding all_texts
    text_err rows i near le so_far none = among_read [] (λ (w : List ℕ). w) (map text rows) bs
        ∙ none_found (all_texts rows) near.0 (is_all rows i near le so_far ∙ ap (λ o. (near.0, o)) none)
