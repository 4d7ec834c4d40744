-- How the word of a table is read, entry by entry.
use Rattle.std.proofs.Common.{◌≡◌, ℕ, zero, suc, ◌-◌, ◌+◌, ◌<◌, ◌≤◌, List, [], ◌∷◌, length, map, take, drop, get_or, Option, Some, None, Ok, Err}
use Rattle.std.proofs.Common.{Bool, true, false, cond, ◌==◌, refl, sym, ap, ◌∙◌, subst, arith, add-one, drop-cons}
use Rattle.std.specs.Prelude.{nat_lt}
use Rattle.std.specs.Option.{option_map}
use Rattle.std.proofs.lemmas.List.{take_rest}
use Rattle.byte_rules.specs.Lang.{◌>>=◌}
use Rattle.byte_rules.specs.Among.{common, Near, nearer, nearest, found}
use Rattle.byte_rules.proofs.Fronts.{nearer_within}
use Rattle.line_parts.specs.Keywords.{keyword}
use Rattle.line_parts.specs.steps.Reading.{nearest_in}

-- the value alone
abbrev near_value : {T : Type 0} → Near (T × List ℕ) → Near T
near_value {T} (n, entry) = (n, option_map (λ (e : T × List ℕ). e.0) entry)

module _ {T : Type 0} (bs : List ℕ) where
  value_nearer : (e : T × List ℕ) (near : Near (T × List ℕ)) → nearer e.1 bs e.0 (near_value near) ≡ near_value (nearer e.1 bs e near)
  value_nearer e near = of (nat_lt n near.0) (length e.1 == n) (n == near.0)
    where
      n : ℕ
      n = common e.1 bs

      of : (u v w : Bool) → cond u (near_value near) (cond v (n, Some e.0) (cond w (near_value near) (n, None)))
          ≡ near_value (cond u near (cond v (n, Some e) (cond w near (n, None))))
      of true v w = refl
      of false true w = refl
      of false false true = refl
      of false false false = refl

  value_nearest : (table : List (T × List ℕ)) (near : Near (T × List ℕ))
      → nearest_in bs (near_value near) table ≡ near_value (nearest (λ (e : T × List ℕ). e.1) bs near table)
  value_nearest [] near = refl
  value_nearest (e ∷ es) near =
      ap (λ (near : Near T). nearest_in bs near es) (value_nearer e near) ∙ value_nearest es (nearer e.1 bs e near)

  found_value : (near : Near (T × List ℕ)) → (found bs near >>= λ x. Ok (x.0.0, x.1)) ≡ found bs (near_value near)
  found_value (n, Some e) = refl
  found_value (n, None) = refl

  -- the value of the nearest word, and the bytes behind it
  pub found_some : (near : Near T) (v : T) → near.1 ≡ Some v → found bs near ≡ Ok (v, take (length bs - near.0) (drop near.0 bs))
  found_some near v e = ap (λ (o : Option T). found bs (near.0, o)) e ∙ ap (λ (l : List ℕ). Ok (v, l)) (sym (take_rest bs near.0))

  pub found_none : (near : Near T) → near.1 ≡ None → found bs near ≡ Err (length bs - near.0)
  found_none near e = ap (λ (o : Option T). found bs (near.0, o)) e

  pub keyword_read : (table : List (T × List ℕ)) → (keyword table).read bs ≡ found bs (nearest_in bs (0, None) table)
  keyword_read table = found_value (nearest (λ (e : T × List ℕ). e.1) bs (0, None) table) ∙ ap (found bs) (sym (value_nearest table (0, None)))

pub within_on : {T : Type 0} (word bs : List ℕ) (v : T) (near new : Near T) → new ≡ nearer word bs v near → near.0 ≤ length bs → new.0 ≤ length bs
within_on {T} word bs v near new is le = subst (λ (near : Near T). near.0 ≤ length bs) (sym is) (nearer_within word bs v near le)

-- rows that have a value and a word
module _ {R T : Type 0} (value : R → T) (text : R → List ℕ) where
  -- the values of rows with their texts
  abbrev pub entries : List R → List (T × List ℕ)
  entries rows = map (λ (row : R). (value row, text row)) rows

  -- one row more
  pub row_on : (rows : List R) (i : ℕ) (row : R) (v : T) (word bs : List ℕ) (near new total : Near T) → i < length rows → row ≡ get_or rows i row
      → v ≡ value row → word ≡ text row → new ≡ nearer word bs v near → nearest_in bs near (entries (drop i rows)) ≡ total
      → nearest_in bs new (entries (drop (i + 1) rows)) ≡ total
  row_on rows i row v word bs near new total lt e n t is so_far =
      let cut : drop i rows ≡ get_or rows i row ∷ drop (i + 1) rows = rw (add-one, drop-cons rows i row) refl in
      ap (λ (near : Near T). nearest_in bs near (entries (drop (i + 1) rows)))
      (is ∙ ap (λ (w : List ℕ). nearer w bs v near) t ∙ ap (λ (v : T). nearer (text row) bs v near) n
      ∙ ap (λ (row : R). nearer (text row) bs (value row) near) e)
      ∙ sym (ap (λ (rows : List R). nearest_in bs near (entries rows)) cut) ∙ so_far

  rows_end : (rows : List R) (i : ℕ) → length rows ≤ i → entries (drop i rows) ≡ []
  rows_end [] i le = of i
    where
      of : (i : ℕ) → entries (drop i []) ≡ []
      of zero = refl
      of (suc i) = refl
  rows_end (r ∷ rs) zero le = absurd (omega (arith, le))
  rows_end (r ∷ rs) (suc i) le = rows_end rs i (omega (arith, le))

  -- no row more
  pub all_rows : (rows : List R) (i : ℕ) (bs : List ℕ) (near total : Near T) → length rows ≤ i → nearest_in bs near (entries (drop i rows)) ≡ total
      → near ≡ total
  all_rows rows i bs near total le so_far = sym (ap (nearest_in bs near) (rows_end rows i le)) ∙ so_far

  pub last_row : (rows : List R) (i : ℕ) (bs : List ℕ) (near : Near T) → length rows ≤ i
      → nearest_in bs near (entries (drop i rows)) ≡ nearest_in bs (0, None) (entries rows) → (keyword (entries rows)).read bs ≡ found bs near
  last_row rows i bs near le so_far = keyword_read bs (entries rows)
      ∙ ap (found bs) (sym (all_rows rows i bs near (nearest_in bs (0, None) (entries rows)) le so_far))
