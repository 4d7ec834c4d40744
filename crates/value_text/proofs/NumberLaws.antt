-- Numbers: what reading digit by digit says of decimal texts.
use Rattle.std.proofs.Common.{◌≡◌, ℕ, zero, suc, ◌+◌, ◌-◌, ◌*◌, ◌^◌, ◌≤◌, ◌<◌, List, [], ◌∷◌, ◌++◌, length, get_or, Ok, Err, Bool, true, false, cond, ◌==◌}
use Rattle.std.proofs.Common.{◌&&◌, refl, sym, ap, ◌∙◌, subst, arith, length-append, rules, drop, add-one, drop-cons}
use Rattle.std.proofs.Math.Seq.{drop-length}
use Rattle.std.specs.Prelude.{decimal, nat_le}
use Rattle.std.specs.List.{list_all}
use Rattle.std.proofs.lemmas.List.{append-nil}
use Rattle.std.proofs.lemmas.Bool.{eqb-true}
use Rattle.std.proofs.lemmas.Bool.Decides.{nat_tests}
use Rattle.std.proofs.lemmas.Fmt.{decimal_digit, decimal_nonempty, first_decimal, digits_decimal, digits_value-decimal, decimal-digits_value}
use Rattle.std.proofs.lemmas.Str.Parse.{IsNumeralModel, numerals_by_fold}
use Rattle.byte_rules.specs.Lang.{Read, words, Begun}
use Rattle.byte_rules.proofs.Tells.{Scanned, tells_words}
use Rattle.byte_rules.proofs.Finds.{Passes, FindsWords, beyond}
use Rattle.byte_rules.proofs.Good.{Good, good_words}
use Rattle.value_text.specs.Numbers.{is_digit, scan_on, scan_number, numbers, number}

-- digits, and their value behind digits of the value v
abbrev pub digits : List ℕ → Bool
digits ds = list_all is_digit ds

abbrev pub worth : ℕ → List ℕ → ℕ
worth v [] = v
worth v (d ∷ ds) = worth (v * 10 + (d - 48)) ds

pub own : IsNumeralModel (λ ds. digits ds ≡ true) (worth 0)
own = numerals_by_fold _ (search rules) worth (search rules)

pub both_left : (v w : Bool) → (v && w) ≡ true → v ≡ true
both_left true w e = refl
both_left false w e = absurd (cc)

pub both_right : (v w : Bool) → (v && w) ≡ true → w ≡ true
both_right true w e = e
both_right false w e = absurd (cc)

both : (v w : Bool) → v ≡ true → w ≡ true → (v && w) ≡ true
both true w e f = f
both false w e f = absurd (cc)

worth_grows : (v : ℕ) (ds : List ℕ) → v ≤ worth v ds
worth_grows v [] = omega arith
worth_grows v (d ∷ ds) = let k = worth_grows (v * 10 + (d - 48)) ds in omega arith

-- a number's digits: the first, and the others, none behind a 0
pub record Numeral (n : ℕ) (w : List ℕ) : Type 0 where
  pub first : ℕ
  pub others : List ℕ
  pub is : w ≡ first ∷ others
  pub digit : is_digit first ≡ true
  pub rest : digits others ≡ true
  pub value : worth (first - 48) others ≡ n
  pub lead : first ≡ 48 → others ≡ []

numeral_of : (n : ℕ) (w : List ℕ) → decimal n ≡ w → digits w ≡ true → worth 0 w ≡ n → 0 < length w → (0 < n → 48 < get_or w 0 0) → (n ≡ 0 → w ≡ 48 ∷ [])
    → Numeral n w
numeral_of n [] e d v some high low = absurd (omega (arith, some))
numeral_of n (b ∷ bs) e d v some high low = record {
  first = b;
  others = bs;
  is = refl;
  digit = both_left (is_digit b) (digits bs) d;
  rest = both_right (is_digit b) (digits bs) d;
  value = subst (λ (k : ℕ). worth k bs ≡ n) (let z : 0 * 10 + (b - 48) ≡ b - 48 = omega arith in z) v;
  lead = λ same. zero_alone n refl same;
}
  where
    zero_alone : (k : ℕ) → n ≡ k → b ≡ 48 → bs ≡ []
    zero_alone zero z same = ap (λ l. tail l) (low z)
      where
        tail : List ℕ → List ℕ
        tail [] = []
        tail (c ∷ cs) = cs
    zero_alone (suc k) z same = let h : 48 < b = high (omega (arith, z)) in absurd (omega (arith, h, same))

pub numeral : (n : ℕ) → n < 2 ^ 64 → Numeral n (decimal n)
numeral n h = numeral_of n (decimal n) refl (digits_decimal own n h) (digits_value-decimal own n h) (decimal_nonempty n h) (λ some. first_decimal n some h)
    (λ z. ap decimal z ∙ decimal_digit 0 (omega arith))

spelled_by : (b : ℕ) (bs : List ℕ) → is_digit b ≡ true → digits bs ≡ true → (b ≡ 48 → bs ≡ []) → worth (b - 48) bs < 2 ^ 64
    → decimal (worth (b - 48) bs) ≡ b ∷ bs
spelled_by b bs d ds lead small =
    let z : 0 * 10 + (b - 48) ≡ b - 48 = omega arith in
    let w : worth 0 (b ∷ bs) ≡ worth (b - 48) bs = ap (λ (k : ℕ). worth k bs) z in
    ap decimal (sym w) ∙ decimal-digits_value own (b ∷ bs) (both (is_digit b) (digits bs) d ds) (omega arith) (λ same. rw (lead same) refl)
    (omega (arith, w, small))

-- nothing that goes on with a number
abbrev Stops : List ℕ → Type 0
Stops [] = Unit {0}
Stops (b ∷ bs) = is_digit b ≡ false

on_on : (high v b : ℕ) (bs : List ℕ) → is_digit b ≡ true → v * 10 + (b - 48) ≤ high → scan_on high v (b ∷ bs) ≡ scan_on high (v * 10 + (b - 48)) bs
on_on high v b bs d le = let e : nat_le (v * 10 + (b - 48)) high ≡ true = grind (arith, nat_tests) in rw (d, e) refl

on_stop : (high v : ℕ) (rest : List ℕ) → Stops rest → scan_on high v rest ≡ Ok (v, rest)
on_stop high v [] s = refl
on_stop high v (b ∷ bs) s = rw s refl

on_whole : (high v : ℕ) (ds rest : List ℕ) → digits ds ≡ true → worth v ds ≤ high → Stops rest → scan_on high v (ds ++ rest) ≡ Ok (worth v ds, rest)
on_whole high v [] rest d le s = on_stop high v rest s
on_whole high v (b ∷ bs) rest d le s =
    let k = worth_grows (v * 10 + (b - 48)) bs in
    on_on high v b (bs ++ rest) (both_left (is_digit b) (digits bs) d) (omega arith)
    ∙ on_whole high (v * 10 + (b - 48)) bs rest (both_right (is_digit b) (digits bs) d) le s

-- the digits that were read, and the bytes behind them
record Went (high v : ℕ) (bs : List ℕ) : Type 0 where
  pub ds : List ℕ
  pub rest : List ℕ
  pub is : bs ≡ ds ++ rest
  pub digits : list_all is_digit ds ≡ true
  pub low : worth v ds ≤ high
  pub gives : scan_on high v bs ≡ Ok (worth v ds, rest)

went_step : (high v b : ℕ) (bs : List ℕ) → v ≤ high → ((k : ℕ) → k ≤ high → Went high k bs) → (t : Bool)
    → (is_digit b && nat_le (v * 10 + (b - 48)) high) ≡ t → Went high v (b ∷ bs)
went_step high v b bs le next true e =
    let d : is_digit b ≡ true = both_left (is_digit b) (nat_le (v * 10 + (b - 48)) high) e in
    let f : nat_le (v * 10 + (b - 48)) high ≡ true = both_right (is_digit b) (nat_le (v * 10 + (b - 48)) high) e in
    let k : v * 10 + (b - 48) ≤ high = grind (arith, nat_tests) in
    let w = next (v * 10 + (b - 48)) k in
    record {
      ds = b ∷ w.ds;
      rest = w.rest;
      is = ap (λ l. b ∷ l) w.is;
      digits = both (is_digit b) (list_all is_digit w.ds) d w.digits;
      low = w.low;
      gives =
          on_on high v b bs d k ∙ w.gives;
    }
went_step high v b bs le next false e = record { ds = []; rest = b ∷ bs; is = refl; digits = refl; low = le; gives = rw e refl }

went : (high v : ℕ) (bs : List ℕ) → v ≤ high → Went high v bs
went high v [] le = record { ds = []; rest = []; is = refl; digits = refl; low = le; gives = refl }
went high v (b ∷ bs) le = went_step high v b bs le (λ k h. went high k bs h) (is_digit b && nat_le (v * 10 + (b - 48)) high) refl

passes_on : (high v : ℕ) (u : List ℕ) → v ≤ high → Passes Begun u (scan_on high v u)
passes_on high v u le = let w = went high v u le in
    subst (λ (r : Read ℕ). Passes Begun u r) (sym w.gives) (omega (arith, ap length w.is, length-append w.ds w.rest))

on_front : (high v : ℕ) (p more u : List ℕ) → v ≤ high → digits (p ++ more) ≡ true → worth v (p ++ more) ≤ high → Passes Begun u (scan_on high v (p ++ u))
on_front high v [] more u le d w = passes_on high v u le
on_front high v (b ∷ bs) more u le d w =
    let k = worth_grows (v * 10 + (b - 48)) (bs ++ more) in
    let step : v * 10 + (b - 48) ≤ high = omega arith in
    subst (λ (r : Read ℕ). Passes Begun u r) (sym (on_on high v b (bs ++ u) (both_left (is_digit b) (digits (bs ++ more)) d) step))
    (on_front high (v * 10 + (b - 48)) bs more u step (both_right (is_digit b) (digits (bs ++ more)) d) w)

-- the same, for a loop over places
pub goes_at : (high v : ℕ) (bs : List ℕ) (i : ℕ) (total : Read ℕ) → i < length bs → is_digit (get_or bs i 0) ≡ true → v * 10 + (get_or bs i 0 - 48) ≤ high
    → scan_on high v (drop i bs) ≡ total → scan_on high (v * 10 + (get_or bs i 0 - 48)) (drop (i + 1) bs) ≡ total
goes_at high v bs i total lt d le e =
    let cut : drop i bs ≡ get_or bs i 0 ∷ drop (i + 1) bs = rw (add-one, drop-cons bs i 0) refl in
    sym (ap (scan_on high v) cut ∙ on_on high v (get_or bs i 0) (drop (i + 1) bs) d le) ∙ e

pub stops_at : (high v : ℕ) (bs : List ℕ) (i : ℕ) (total : Read ℕ) → i < length bs → is_digit (get_or bs i 0) ≡ false → scan_on high v (drop i bs) ≡ total
    → total ≡ Ok (v, drop i bs)
stops_at high v bs i total lt d e =
    let cut : drop i bs ≡ get_or bs i 0 ∷ drop (i + 1) bs = rw (add-one, drop-cons bs i 0) refl in
    sym e ∙ on_stop high v (drop i bs) (rw cut d)

pub full_at : (high v : ℕ) (bs : List ℕ) (i : ℕ) (total : Read ℕ) → i < length bs → high < v * 10 + (get_or bs i 0 - 48)
    → scan_on high v (drop i bs) ≡ total → total ≡ Ok (v, drop i bs)
full_at high v bs i total lt le e =
    let cut : drop i bs ≡ get_or bs i 0 ∷ drop (i + 1) bs = rw (add-one, drop-cons bs i 0) refl in
    let n : nat_le (v * 10 + (get_or bs i 0 - 48)) high ≡ false = grind (arith, nat_tests) in
    sym e ∙ ap (scan_on high v) cut ∙ full (is_digit (get_or bs i 0)) n ∙ sym (ap (λ (l : List ℕ). Ok (v, l)) cut)
  where
    full : (t : Bool) → nat_le (v * 10 + (get_or bs i 0 - 48)) high ≡ false
        → cond (t && nat_le (v * 10 + (get_or bs i 0 - 48)) high) (scan_on high (v * 10 + (get_or bs i 0 - 48)) (drop (i + 1) bs))
        (Ok (v, get_or bs i 0 ∷ drop (i + 1) bs)) ≡ Ok (v, get_or bs i 0 ∷ drop (i + 1) bs)
    full true n = rw n refl
    full false n = refl

pub done_at : (high v : ℕ) (bs : List ℕ) (total : Read ℕ) → scan_on high v (drop (length bs) bs) ≡ total → total ≡ Ok (v, [])
done_at high v bs total e = sym e ∙ ap (scan_on high v) (drop-length bs)

-- how digits are read on, and where they end
pub ruleset digits_at = (goes_at, stops_at, full_at, done_at)

module _ (low high : ℕ) (small : low ≤ 1) (some : low ≤ high) (top : high < 2 ^ 64) where
  at_zero : (bs : List ℕ) → low ≡ 0 → scan_number low high (48 ∷ bs) ≡ Ok (0, bs)
  at_zero bs z = rw z refl

  at_digit : (b : ℕ) (bs : List ℕ) → (b == 48) ≡ false → is_digit b ≡ true → b - 48 ≤ high → scan_number low high (b ∷ bs) ≡ scan_on high (b - 48) bs
  at_digit b bs n d le = let e : nat_le (b - 48) high ≡ true = grind (arith, nat_tests) in rw (n, d, e) refl

  begins : (u : List ℕ) → Scanned (numbers low high) u (Err (length u))
  begins u = ([], u, refl, refl, (high, decimal high, (some, omega arith), refl))

  scanned_on : (b : ℕ) (bs : List ℕ) → (b == 48) ≡ false → is_digit b ≡ true → b - 48 ≤ high
      → Scanned (numbers low high) (b ∷ bs) (scan_on high (b - 48) bs)
  scanned_on b bs n d le =
      let w = went high (b - 48) bs le in
      let k = worth_grows (b - 48) w.ds in
      let one : 1 ≤ b - 48 = grind (arith, nat_tests) in
      let e : decimal (worth (b - 48) w.ds) ≡ b ∷ w.ds = spelled_by b w.ds d w.digits (λ same. absurd (clash same)) (omega (arith, w.low, top)) in
      subst (λ (r : Read ℕ). Scanned (numbers low high) (b ∷ bs) r) (sym w.gives)
      ((omega (arith, k, one, small), w.low), ap (λ l. b ∷ l) w.is ∙ ap (λ l. l ++ w.rest) (sym e))
    where
      clash : b ≡ 48 → ⊥
      clash same = let e : (b == 48) ≡ true = grind (arith, nat_tests) in absurd (cc)

  pub scanned : (ts : List ℕ) → Scanned (numbers low high) ts (scan_number low high ts)
  scanned [] = begins []
  scanned (b ∷ bs) = of (b == 48) refl
    where
      zeros : (v : Bool) → (low == 0) ≡ v → b ≡ 48 → Scanned (numbers low high) (b ∷ bs) (cond v (Ok (0, bs)) (Err (length (b ∷ bs))))
      zeros true z e = (
        (omega (arith, eqb-true low 0 z), omega arith),
        subst (λ (k : ℕ). k ∷ bs ≡ decimal 0 ++ bs) (sym e)
            (ap (λ l. l ++ bs) (sym (decimal_digit 0 (omega arith)))),
      )
      zeros false z e = begins (b ∷ bs)

      others : (v : Bool) → (is_digit b && nat_le (b - 48) high) ≡ v → (b == 48) ≡ false
          → Scanned (numbers low high) (b ∷ bs) (cond v (scan_on high (b - 48) bs) (Err (length (b ∷ bs))))
      others true e n = scanned_on b bs n (both_left (is_digit b) (nat_le (b - 48) high) e)
          (let f : nat_le (b - 48) high ≡ true = both_right (is_digit b) (nat_le (b - 48) high) e in grind (arith, nat_tests))
      others false e n = begins (b ∷ bs)

      of : (v : Bool) → (b == 48) ≡ v → Scanned (numbers low high) (b ∷ bs)
          (cond v (cond (low == 0) (Ok (0, bs)) (Err (length (b ∷ bs))))
          (cond (is_digit b && nat_le (b - 48) high) (scan_on high (b - 48) bs) (Err (length (b ∷ bs)))))
      of true e = zeros (low == 0) refl (eqb-true b 48 e)
      of false e = others (is_digit b && nat_le (b - 48) high) refl e

  whole : (x : ℕ) (rest : List ℕ) → low ≤ x → x ≤ high → Stops rest → scan_number low high (decimal x ++ rest) ≡ Ok (x, rest)
  whole x rest l h s = let n = numeral x (omega (arith, h, top)) in of n (n.first == 48) refl
    where
      of : (n : Numeral x (decimal x)) (v : Bool) → (n.first == 48) ≡ v → scan_number low high (decimal x ++ rest) ≡ Ok (x, rest)
      of n true e =
          let f : n.first ≡ 48 = eqb-true n.first 48 e in
          let o : n.others ≡ [] = n.lead f in
          let z : 0 ≡ x = subst (λ (ds : List ℕ). worth 0 ds ≡ x) o (subst (λ (k : ℕ). worth (k - 48) n.others ≡ x) f n.value) in
          let w : decimal x ≡ 48 ∷ [] = n.is ∙ ap (λ (k : ℕ). k ∷ n.others) f ∙ ap (λ (ds : List ℕ). 48 ∷ ds) o in
          ap (λ (l : List ℕ). scan_number low high (l ++ rest)) w ∙ at_zero rest (omega (arith, z, l)) ∙ ap (λ (k : ℕ). Ok (k, rest)) z
      of n false e =
          let k = worth_grows (n.first - 48) n.others in
          ap (λ (l : List ℕ). scan_number low high (l ++ rest)) n.is ∙ at_digit n.first (n.others ++ rest) e n.digit (omega (arith, k, n.value, h))
          ∙ on_whole high (n.first - 48) n.others rest n.rest (omega (arith, n.value, h)) s ∙ ap (λ (k : ℕ). Ok (k, rest)) n.value

  front : (x : ℕ) (p rest u : List ℕ) → (low ≤ x) × (x ≤ high) → decimal x ≡ p ++ rest → Passes Begun u (scan_number low high (p ++ u))
  front x [] rest u i e = beyond (words (numbers low high)) (tells_words (numbers low high) scanned) u u (omega arith)
  front x (b ∷ bs) rest u i e = let n = numeral x (omega (arith, i.1, top)) in
      of n (ap (λ l. head l) (sym n.is ∙ e)) (ap (λ l. tail l) (sym n.is ∙ e)) (b == 48) refl
    where
      head : List ℕ → ℕ
      head [] = 0
      head (c ∷ cs) = c

      tail : List ℕ → List ℕ
      tail [] = []
      tail (c ∷ cs) = cs

      nothing_left : (bs : List ℕ) → [] ≡ bs ++ rest → bs ≡ []
      nothing_left [] e = refl
      nothing_left (c ∷ cs) e = absurd (cc)

      of : (n : Numeral x (decimal x)) → n.first ≡ b → n.others ≡ bs ++ rest → (v : Bool) → (b == 48) ≡ v
          → Passes Begun u (scan_number low high (b ∷ bs ++ u))
      of n f o true t =
          let g : b ≡ 48 = eqb-true b 48 t in
          let a : n.others ≡ [] = n.lead (f ∙ g) in
          let c : bs ≡ [] = nothing_left bs (sym a ∙ o) in
          let z : 0 ≡ x = subst (λ (ds : List ℕ). worth 0 ds ≡ x) a (subst (λ (k : ℕ). worth (k - 48) n.others ≡ x) (f ∙ g) n.value) in
          subst (λ (r : Read ℕ). Passes Begun u r)
          (sym (ap (λ (k : ℕ). scan_number low high (k ∷ bs ++ u)) g ∙ ap (λ (l : List ℕ). scan_number low high (48 ∷ l ++ u)) c
          ∙ at_zero u (omega (arith, z, i.0)))) (omega arith)
      of n f o false t =
          let d : is_digit b ≡ true = subst (λ (k : ℕ). is_digit k ≡ true) f n.digit in
          let w : worth (b - 48) (bs ++ rest) ≡ x =
          subst (λ (l : List ℕ). worth (b - 48) l ≡ x) o (subst (λ (k : ℕ). worth (k - 48) n.others ≡ x) f n.value) in
          let k = worth_grows (b - 48) (bs ++ rest) in
          let le : b - 48 ≤ high = omega (arith, k, w, i.1) in
          subst (λ (r : Read ℕ). Passes Begun u r) (sym (at_digit b (bs ++ u) t d le))
          (on_front high (b - 48) bs rest u le (subst (λ (l : List ℕ). digits l ≡ true) o n.rest) (omega (arith, w, i.1)))

  finds : FindsWords is_digit (numbers low high)
  finds = record {
    at_end = λ x i. subst (λ (l : List ℕ). scan_number low high l ≡ Ok (x, [])) (append-nil (decimal x)) (whole x [] i.0 i.1 tt);
    before = λ x b bs i e. whole x (b ∷ bs) i.0 i.1 e;
    front = front;
  }

  pub good_number : Good is_digit is_digit (number low high)
  good_number = good_words is_digit (numbers low high) scanned finds
      (λ x i. let n = numeral x (omega (arith, i.1, top)) in (n.first, n.others, n.is, n.digit))
