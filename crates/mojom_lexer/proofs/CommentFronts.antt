-- Comments at the front.
use Rattle.std.proofs.Common.{◌≡◌, ℕ, zero, suc, ◌+◌, ◌≤◌, List, [], ◌∷◌, ◌++◌, length, take, drop, Bool, true, false, cond, ◌==◌, ◌&&◌, ◌||◌, inl, inr, Some, None, nat_eq, codes, refl, sym, ap, ◌∙◌, subst, arith, append_assoc, length-append}
use Rattle.std.specs.List.{list_all, starts_with}
use Rattle.std.specs.Option.{option_map}
use Rattle.std.proofs.lemmas.List.{take-append-drop, length-take-le}
use Rattle.std.proofs.lemmas.Bool.Decides.{nat_tests}
use Rattle.mojom_lexer.specs.Bytes.{stays_on_line}
use Rattle.mojom_lexer.specs.Pieces.{Is, IsLongest, BeginsNone, is_line_comment, has_close, IsBlockCommentOf}
use Rattle.mojom_lexer.specs.Pieces.Kind.{Comment}
use Rattle.mojom_lexer.specs.steps.Scans.{kind_at, run_len, before_close}
use Rattle.mojom_lexer.proofs.Runs.{left, right, both, run_within, run_passes, run_most}
use Rattle.mojom_lexer.proofs.FirstBytes.{longest_of, none_of}
use Rattle.mojom_lexer.proofs.Closes.{behind_first}
use Rattle.mojom_lexer.proofs.QuoteFronts.{found_later, number_in}

-- `*/` stands at the front
abbrev at_close : List ℕ → Bool
at_close bs = starts_with nat_eq bs (codes "*/")

-- bytes that the test of std calls equal are the same
pub same_as : (a b : ℕ) → nat_eq a b ≡ true → b ≡ a
same_as a b e = grind (arith, nat_tests)

close_bytes : (c : ℕ) (cs : List ℕ) → at_close (c ∷ cs) ≡ true → take 2 (c ∷ cs) ≡ 42 ∷ 47 ∷ []
close_bytes c [] e = let f : false ≡ true = right (nat_eq 42 c) false e in absurd (cc)
close_bytes c (d ∷ ds) e =
    let a : c ≡ 42 = same_as 42 c (left (nat_eq 42 c) (nat_eq 47 d && true) e) in
    let b : d ≡ 47 = same_as 47 d (left (nat_eq 47 d) true (right (nat_eq 42 c) (nat_eq 47 d && true) e)) in
    rw (a, b) refl

close_room : (c : ℕ) (cs : List ℕ) → at_close (c ∷ cs) ≡ true → 2 ≤ length (c ∷ cs)
close_room c [] e = let f : false ≡ true = right (nat_eq 42 c) false e in absurd (cc)
close_room c (d ∷ ds) e = omega arith

falls : (v : Bool) → (v && false) ≡ false
falls true = refl
falls false = refl

-- the bytes before the next `*/`
pub record ClosesAt (bs : List ℕ) (n : ℕ) : Type 0 where
  pub room : suc (suc n) ≤ length bs
  pub close : take (suc (suc n)) bs ≡ take n bs ++ 42 ∷ 47 ∷ []
  pub next : has_close (take n bs ++ 42 ∷ []) ≡ false

later_close : (c : ℕ) (cs : List ℕ) (m : ℕ) → at_close (c ∷ cs) ≡ false → ClosesAt cs m → ClosesAt (c ∷ cs) (suc m)
later_close c cs m e h = record {
  room = let r = h.room in omega arith;
  close = ap (λ (bs : List ℕ). c ∷ bs) h.close;
  next = rw (not_here cs m e) h.next;
}
  where
    not_here : (ds : List ℕ) (k : ℕ) → at_close (c ∷ ds) ≡ false → at_close (c ∷ (take k ds ++ 42 ∷ [])) ≡ false
    not_here ds zero f = falls (nat_eq 42 c)
    not_here [] (suc k) f = falls (nat_eq 42 c)
    not_here (d ∷ ds) (suc k) f = f

pub close_tells : (bs : List ℕ) (n : ℕ) → before_close bs ≡ Some n → ClosesAt bs n
close_tells [] n e = absurd (cc)
close_tells (c ∷ cs) n e = step (close_tells cs) (at_close (c ∷ cs)) refl e
  where
    step : ((m : ℕ) → before_close cs ≡ Some m → ClosesAt cs m)
        → (v : Bool) → at_close (c ∷ cs) ≡ v → cond v (Some 0) (option_map suc (before_close cs)) ≡ Some n → ClosesAt (c ∷ cs) n
    step others true f g =
        subst (λ (k : ℕ). ClosesAt (c ∷ cs) k) (ap number_in g) (record { room = close_room c cs f; close = close_bytes c cs f; next = refl })
    step others false f g =
        let x = found_later (before_close cs) n g in
        subst (λ (k : ℕ). ClosesAt (c ∷ cs) k) (sym x.2) (later_close c cs x.0 f (others x.0 x.1))

either_false : (a b : Bool) → (a || b) ≡ false → (a ≡ false) × (b ≡ false)
either_false true b e = absurd (cc)
either_false false b e = (refl, e)

pub close_again : (inside rest : List ℕ) → has_close (inside ++ 42 ∷ []) ≡ false → before_close (inside ++ 42 ∷ 47 ∷ rest) ≡ Some (length inside)
close_again [] rest e = refl
close_again (c ∷ cs) rest e =
    let f = either_false (at_close (c ∷ (cs ++ 42 ∷ []))) (has_close (cs ++ 42 ∷ [])) e in
    let here : at_close (c ∷ (cs ++ 42 ∷ 47 ∷ rest)) ≡ false = not_here cs f.0 in
    rw here (ap (option_map suc) (close_again cs rest f.1))
  where
    not_here : (ds : List ℕ) → at_close (c ∷ (ds ++ 42 ∷ [])) ≡ false → at_close (c ∷ (ds ++ 42 ∷ 47 ∷ rest)) ≡ false
    not_here [] g = g
    not_here (d ∷ ds) g = g

-- `//`
line_each : (bs : List ℕ) → is_line_comment bs ≡ true → list_all stays_on_line bs ≡ true
line_each [] e = refl
line_each (c ∷ []) e = absurd (cc)
line_each (c ∷ d ∷ cs) e =
    let a : (c == 47 && d == 47) ≡ true = left (c == 47 && d == 47) (list_all stays_on_line cs) e in
    let x : c ≡ 47 = same_as 47 c (flip c (left (c == 47) (d == 47) a)) in
    let y : d ≡ 47 = same_as 47 d (flip d (right (c == 47) (d == 47) a)) in
    rw (x, y) (right (c == 47 && d == 47) (list_all stays_on_line cs) e)
  where
    flip : (b : ℕ) → (b == 47) ≡ true → nat_eq 47 b ≡ true
    flip b f = grind (arith, nat_tests)

abbrev second_of : List ℕ → ℕ
second_of [] = 0
second_of (c ∷ []) = 0
second_of (c ∷ d ∷ cs) = d

slash_no_star : ◌≡◌ {A = ℕ} 47 42 → ⊥
slash_no_star e = omega arith

none_no_star : ◌≡◌ {A = ℕ} 0 42 → ⊥
none_no_star e = omega arith

line_no_block : (cs : List ℕ) (more : ℕ) (inside : List ℕ) → IsBlockCommentOf inside (take more (47 ∷ 47 ∷ cs)) → ⊥
line_no_block cs zero inside h = none_no_star (ap second_of h.is_spelled)
line_no_block cs (suc zero) inside h = none_no_star (ap second_of h.is_spelled)
line_no_block cs (suc (suc m)) inside h = slash_no_star (ap second_of h.is_spelled)

line_most : (cs : List ℕ) (more : ℕ) → more ≤ suc (suc (length cs)) → Is Comment (take more (47 ∷ 47 ∷ cs)) → more ≤ run_len stays_on_line (47 ∷ 47 ∷ cs)
line_most cs more le (inl e) = run_most stays_on_line (47 ∷ 47 ∷ cs) more le (line_each (take more (47 ∷ 47 ∷ cs)) e)
line_most cs more le (inr e) = absurd (line_no_block cs more e.0 e.1)

-- a comment to the end of its line is the longest piece
pub line_longest : (bs : List ℕ)
    → kind_at bs ≡ Some Comment → starts_with nat_eq bs (codes "//") ≡ true
    → IsLongest bs (run_len stays_on_line bs) × Is Comment (take (run_len stays_on_line bs) bs)
line_longest [] e f = absurd (cc)
line_longest (c ∷ []) e f = let g : false ≡ true = right (nat_eq 47 c) false f in absurd (cc)
line_longest (c ∷ d ∷ cs) e f =
    let a : c ≡ 47 = same_as 47 c (left (nat_eq 47 c) (nat_eq 47 d && true) f) in
    let b : d ≡ 47 = same_as 47 d (left (nat_eq 47 d) true (right (nat_eq 47 c) (nat_eq 47 d && true) f)) in
    subst (λ (bs : List ℕ). IsLongest bs (run_len stays_on_line bs) × Is Comment (take (run_len stays_on_line bs) bs))
    (ap (λ (x : ℕ). x ∷ 47 ∷ cs) (sym a) ∙ ap (λ (x : ℕ). c ∷ x ∷ cs) (sym b)) (
      longest_of Comment (47 ∷ 47 ∷ cs) (run_len stays_on_line (47 ∷ 47 ∷ cs)) refl (run_within stays_on_line (47 ∷ 47 ∷ cs))
          (inl (run_passes stays_on_line cs)) (line_most cs),
      inl (run_passes stays_on_line cs),
    )

-- `/*`
block_no_line : (cs : List ℕ) (more : ℕ) → is_line_comment (take more (47 ∷ 42 ∷ cs)) ≡ true → ⊥
block_no_line cs zero e = absurd (cc)
block_no_line cs (suc zero) e = absurd (cc)
block_no_line cs (suc (suc m)) e = absurd (cc)

block_scan : (cs : List ℕ) (len : ℕ) (inside : List ℕ) → IsBlockCommentOf inside (take len (47 ∷ 42 ∷ cs)) → before_close cs ≡ Some (length inside)
block_scan cs len inside h =
    let rest : List ℕ = drop len (47 ∷ 42 ∷ cs) in
    let whole : 47 ∷ 42 ∷ cs ≡ 47 ∷ 42 ∷ (inside ++ 42 ∷ 47 ∷ []) ++ rest =
    sym (take-append-drop len (47 ∷ 42 ∷ cs)) ∙ ap (λ (bs : List ℕ). bs ++ rest) h.is_spelled in
    let behind : cs ≡ inside ++ (42 ∷ 47 ∷ rest) = ap behind_first (ap behind_first whole) ∙ append_assoc inside (42 ∷ 47 ∷ []) rest in
    ap before_close behind ∙ close_again inside rest h.is_next

block_len : (bs : List ℕ) (len : ℕ) (inside : List ℕ) → len ≤ length bs → IsBlockCommentOf inside (take len bs) → len ≡ length inside + 4
block_len bs len inside le h =
    let a : length (take len bs) ≡ len = length-take-le len bs le in
    let b : length (take len bs) ≡ suc (suc (length (inside ++ 42 ∷ 47 ∷ []))) = ap length h.is_spelled in
    let d : length (inside ++ 42 ∷ 47 ∷ []) ≡ length inside + 2 = length-append inside (42 ∷ 47 ∷ []) in
    omega arith

block_most : (cs : List ℕ) (n : ℕ)
    → before_close cs ≡ Some n → (more : ℕ) → more ≤ suc (suc (length cs)) → Is Comment (take more (47 ∷ 42 ∷ cs)) → more ≤ n + 4
block_most cs n e more le (inl h) = absurd (block_no_line cs more h)
block_most cs n e more le (inr h) =
    let f : n ≡ length h.0 = ap number_in (sym e ∙ block_scan cs more h.0 h.1) in
    let g : more ≡ length h.0 + 4 = block_len (47 ∷ 42 ∷ cs) more h.0 le h.1 in
    omega arith

at_block : (bs : List ℕ) → starts_with nat_eq bs (codes "/*") ≡ true → bs ≡ 47 ∷ 42 ∷ drop 2 bs
at_block [] f = absurd (cc)
at_block (c ∷ []) f = let g : false ≡ true = right (nat_eq 47 c) false f in absurd (cc)
at_block (c ∷ d ∷ cs) f =
    let a : c ≡ 47 = same_as 47 c (left (nat_eq 47 c) (nat_eq 42 d && true) f) in
    let b : d ≡ 42 = same_as 42 d (left (nat_eq 42 d) true (right (nat_eq 47 c) (nat_eq 42 d && true) f)) in
    rw (a, b) refl

-- a comment up to its `*/` is the longest piece
pub block_longest : (bs : List ℕ) (n : ℕ)
    → starts_with nat_eq bs (codes "/*") ≡ true → before_close (drop 2 bs) ≡ Some n → IsLongest bs (n + 4) × Is Comment (take (n + 4) bs)
block_longest bs n f e = subst (λ (b : List ℕ). IsLongest b (n + 4) × Is Comment (take (n + 4) b)) (sym (at_block bs f)) (step (drop 2 bs) e)
  where
    step : (cs : List ℕ) → before_close cs ≡ Some n → IsLongest (47 ∷ 42 ∷ cs) (n + 4) × Is Comment (take (n + 4) (47 ∷ 42 ∷ cs))
    step cs g =
        let h : ClosesAt cs n = close_tells cs n g in
        let four : suc (suc (suc (suc n))) ≡ n + 4 = omega arith in
        let block : IsBlockCommentOf (take n cs) (47 ∷ 42 ∷ take (suc (suc n)) cs) =
        record { is_spelled = ap (λ (b : List ℕ). 47 ∷ 42 ∷ b) h.close; is_next = h.next } in
        let is : Is Comment (take (n + 4) (47 ∷ 42 ∷ cs)) = subst (λ (k : ℕ). Is Comment (take k (47 ∷ 42 ∷ cs))) four (inr (take n cs, block)) in (
          longest_of Comment (47 ∷ 42 ∷ cs) (n + 4) refl (let r = h.room in omega arith) is (block_most cs n g),
          is,
        )

-- where `/*` is never closed no piece begins
pub block_none : (bs : List ℕ) → starts_with nat_eq bs (codes "/*") ≡ true → before_close (drop 2 bs) ≡ None → BeginsNone bs
block_none bs f e = subst BeginsNone (sym (at_block bs f)) (none_of Comment (47 ∷ 42 ∷ drop 2 bs) refl (step (drop 2 bs) e))
  where
    step : (cs : List ℕ) → before_close cs ≡ None → (len : ℕ) → Is Comment (take len (47 ∷ 42 ∷ cs)) → ⊥
    step cs g len (inl h) = block_no_line cs len h
    step cs g len (inr h) = let s = block_scan cs len h.0 h.1 in absurd (cc)

-- neither
starts_line : (bs : List ℕ) (len : ℕ) → is_line_comment (take len bs) ≡ true → starts_with nat_eq bs (codes "//") ≡ true
starts_line [] zero e = absurd (cc)
starts_line [] (suc len) e = absurd (cc)
starts_line (c ∷ cs) zero e = absurd (cc)
starts_line (c ∷ cs) (suc zero) e = absurd (cc)
starts_line (c ∷ []) (suc (suc len)) e = absurd (cc)
starts_line (c ∷ d ∷ cs) (suc (suc len)) e =
    let a : (c == 47 && d == 47) ≡ true = left (c == 47 && d == 47) (list_all stays_on_line (take len cs)) e in
    both (nat_eq 47 c) (nat_eq 47 d && true) (flip c (left (c == 47) (d == 47) a)) (both (nat_eq 47 d) true (flip d (right (c == 47) (d == 47) a)) refl)
  where
    flip : (b : ℕ) → (b == 47) ≡ true → nat_eq 47 b ≡ true
    flip b f = grind (arith, nat_tests)

starts_block : (bs : List ℕ) (len : ℕ) (inside : List ℕ) → take len bs ≡ 47 ∷ 42 ∷ inside → starts_with nat_eq bs (codes "/*") ≡ true
starts_block [] zero inside e = absurd (cc)
starts_block [] (suc len) inside e = absurd (cc)
starts_block (c ∷ cs) zero inside e = absurd (cc)
starts_block (c ∷ cs) (suc zero) inside e = absurd (cc)
starts_block (c ∷ []) (suc (suc len)) inside e = absurd (cc)
starts_block (c ∷ d ∷ cs) (suc (suc len)) inside e =
    let b : d ≡ 42 = ap second_of e in
    let a : c ≡ 47 = ap first e in
    rw (a, b) refl
  where
    first : List ℕ → ℕ
    first [] = 0
    first (x ∷ xs) = x

-- where a slash begins no comment no piece begins
pub slash_none : (bs : List ℕ)
    → kind_at bs ≡ Some Comment → starts_with nat_eq bs (codes "//") ≡ false → starts_with nat_eq bs (codes "/*") ≡ false → BeginsNone bs
slash_none bs e f g = none_of Comment bs e step
  where
    step : (len : ℕ) → Is Comment (take len bs) → ⊥
    step len (inl h) = let s = starts_line bs len h in absurd (cc)
    step len (inr h) = let s = starts_block bs len (h.0 ++ 42 ∷ 47 ∷ []) h.1.is_spelled in absurd (cc)
