-- Strings at the front: where the closing quote is, and the parts before it.
use Rattle.std.proofs.Common.{◌≡◌, ℕ, suc, ◌+◌, ◌≤◌, List, [], ◌∷◌, ◌++◌, length, take, drop, Bool, true, false, cond, not, ◌==◌, ◌&&◌, ◌||◌, Option, Some, None, refl, sym, ap, ◌∙◌, subst, arith, append_assoc, length-append}
use Rattle.std.specs.List.{list_all, flat_map}
use Rattle.std.specs.Option.{option_map}
use Rattle.std.proofs.lemmas.List.{take-append-drop, length-take-le}
use Rattle.mojom_lexer.specs.Strings.{Part, spelled, is_part, quoted, IsStringOf}
use Rattle.mojom_lexer.specs.Strings.Part.{Literal, Escape}
use Rattle.mojom_lexer.specs.Pieces.{Is, IsLongest, BeginsNone}
use Rattle.mojom_lexer.specs.Pieces.Kind.{Quoted}
use Rattle.mojom_lexer.specs.steps.Scans.{kind_at, before_quote, parts_of}
use Rattle.mojom_lexer.proofs.Runs.{left, right, both}
use Rattle.mojom_lexer.proofs.FirstBytes.{longest_of, none_of, begins_quoted, eqb_same}
use Rattle.mojom_lexer.proofs.Closes.{behind_first}

-- the number that was found
abbrev pub number_in : Option ℕ → ℕ
number_in (Some x) = x
number_in None = 0

falls : (v : Bool) → (v && false) ≡ false
falls true = refl
falls false = refl

-- what is found one byte later
pub found_later : (r : Option ℕ) (n : ℕ) → option_map suc r ≡ Some n → (m : ℕ) × (r ≡ Some m) × (n ≡ suc m)
found_later (Some m) n e = (m, refl, sym (ap number_in e))
found_later None n e = absurd (cc)

-- the bytes before the closing quote are parts; one that began with a backslash may be open
pub record Closes (after_backslash : Bool) (bs : List ℕ) (n : ℕ) : Type 0 where
  pub room : suc n ≤ length bs
  pub close : take (suc n) bs ≡ take n bs ++ 34 ∷ []
  pub parts : list_all is_part (parts_of after_backslash (take n bs)) ≡ true
  pub spells : flat_map spelled (parts_of after_backslash (take n bs)) ≡ cond after_backslash (92 ∷ take n bs) (take n bs)

closed_now : (c : ℕ) (cs : List ℕ) → (c == 34) ≡ true → Closes false (c ∷ cs) 0
closed_now c cs e = let q : c ≡ 34 = eqb_same c 34 e in record {
  room = omega arith;
  close = ap (λ (b : ℕ). b ∷ []) q;
  parts = refl;
  spells = refl;
}

plain_ok : (c : ℕ) → (c == 10) ≡ false → (c == 34) ≡ false → (c == 92) ≡ false → is_part (Literal c) ≡ true
plain_ok c e f g = rw (e, f, g) refl

after_escape : (c : ℕ) (cs : List ℕ) (m : ℕ) → (c == 10) ≡ false → Closes false cs m → Closes true (c ∷ cs) (suc m)
after_escape c cs m e h = record {
  room = let r = h.room in omega arith;
  close = ap (λ (bs : List ℕ). c ∷ bs) h.close;
  parts = both (not (c == 10)) (list_all is_part (parts_of false (take m cs))) (ap not e) h.parts;
  spells = ap (λ (bs : List ℕ). 92 ∷ c ∷ bs) h.spells;
}

after_slash : (c : ℕ) (cs : List ℕ) (m : ℕ) → (c == 92) ≡ true → Closes true cs m → Closes false (c ∷ cs) (suc m)
after_slash c cs m e h = let s : c ≡ 92 = eqb_same c 92 e in record {
  room = let r = h.room in omega arith;
  close = ap (λ (bs : List ℕ). c ∷ bs) h.close;
  parts = rw e h.parts;
  spells = rw e (h.spells ∙ ap (λ (b : ℕ). b ∷ take m cs) (sym s));
}

after_plain : (c : ℕ) (cs : List ℕ) (m : ℕ) → (c == 10) ≡ false → (c == 34) ≡ false → (c == 92) ≡ false → Closes false cs m → Closes false (c ∷ cs) (suc m)
after_plain c cs m e f g h = record {
  room = let r = h.room in omega arith;
  close = ap (λ (bs : List ℕ). c ∷ bs) h.close;
  parts = rw g (both (is_part (Literal c)) (list_all is_part (parts_of false (take m cs))) (plain_ok c e f g) h.parts);
  spells = rw g (ap (λ (bs : List ℕ). c ∷ bs) h.spells);
}

pub quote_tells : (b : Bool) (bs : List ℕ) (n : ℕ) → before_quote b bs ≡ Some n → Closes b bs n
quote_tells b [] n e = absurd (cc)
quote_tells b (c ∷ cs) n e = step (λ v. quote_tells v cs) b (c == 10) (c == 34) (c == 92) refl refl refl e
  where
    next : (v : Bool)
        → ((m : ℕ) → before_quote v cs ≡ Some m → Closes v cs m) → option_map suc (before_quote v cs) ≡ Some n → (m : ℕ) × Closes v cs m × (n ≡ suc m)
    next v others f = let g = found_later (before_quote v cs) n f in (g.0, others g.0 g.1, g.2)

    step : ((v : Bool) (m : ℕ) → before_quote v cs ≡ Some m → Closes v cs m)
        → (v l q s : Bool) → (c == 10) ≡ l → (c == 34) ≡ q → (c == 92) ≡ s
        → cond l None (cond (q && not v) (Some 0) (option_map suc (before_quote (s && not v) cs))) ≡ Some n → Closes v (c ∷ cs) n
    step others v true q s hl hq hs f = absurd (cc)
    step others false false true s hl hq hs f = subst (λ (k : ℕ). Closes false (c ∷ cs) k) (ap number_in f) (closed_now c cs hq)
    step others true false true s hl hq hs f =
        let g = next (s && false) (others (s && false)) f in
        subst (λ (k : ℕ). Closes true (c ∷ cs) k) (sym g.2) (after_escape c cs g.0 hl (subst (λ (w : Bool). Closes w cs g.0) (falls s) g.1))
    step others true false false s hl hq hs f =
        let g = next (s && false) (others (s && false)) f in
        subst (λ (k : ℕ). Closes true (c ∷ cs) k) (sym g.2) (after_escape c cs g.0 hl (subst (λ (w : Bool). Closes w cs g.0) (falls s) g.1))
    step others false false false true hl hq hs f =
        let g = next true (others true) f in
        subst (λ (k : ℕ). Closes false (c ∷ cs) k) (sym g.2) (after_slash c cs g.0 hs g.1)
    step others false false false false hl hq hs f =
        let g = next false (others false) f in
        subst (λ (k : ℕ). Closes false (c ∷ cs) k) (sym g.2) (after_plain c cs g.0 hl hq hs g.1)

-- and parts before a quote are found
not_true : (v : Bool) → not v ≡ true → v ≡ false
not_true true e = absurd (cc)
not_true false e = refl

none_of_three : (p q r : Bool) → not (p || q || r) ≡ true → (p ≡ false) × (q ≡ false) × (r ≡ false)
none_of_three true q r e = absurd (cc)
none_of_three false true r e = absurd (cc)
none_of_three false false true e = absurd (cc)
none_of_three false false false e = (refl, refl, refl)

over_plain : (c : ℕ) (cs : List ℕ) → is_part (Literal c) ≡ true → before_quote false (c ∷ cs) ≡ option_map suc (before_quote false cs)
over_plain c cs e =
    let h = none_of_three (c == 34) (c == 92) (c == 10) e in
    let a : (c == 34) ≡ false = h.0 in
    let b : (c == 92) ≡ false = h.1 in
    let d : (c == 10) ≡ false = h.2 in
    rw (d, a, b) refl

over_escape : (c : ℕ) (cs : List ℕ) → is_part (Escape c) ≡ true → before_quote false (92 ∷ c ∷ cs) ≡ option_map suc (option_map suc (before_quote false cs))
over_escape c cs e = let d : (c == 10) ≡ false = not_true (c == 10) e in rw (d, falls (c == 34), falls (c == 92)) refl

-- behind good parts the first quote closes the string
pub quote_again : (parts : List Part) (rest : List ℕ)
    → list_all is_part parts ≡ true → before_quote false (flat_map spelled parts ++ 34 ∷ rest) ≡ Some (length (flat_map spelled parts))
quote_again [] rest e = refl
quote_again (Literal c ∷ ps) rest e =
    over_plain c (flat_map spelled ps ++ 34 ∷ rest) (left (is_part (Literal c)) (list_all is_part ps) e)
    ∙ ap (option_map suc) (quote_again ps rest (right (is_part (Literal c)) (list_all is_part ps) e))
quote_again (Escape c ∷ ps) rest e =
    over_escape c (flat_map spelled ps ++ 34 ∷ rest) (left (is_part (Escape c)) (list_all is_part ps) e)
    ∙ ap (λ (r : Option ℕ). option_map suc (option_map suc r)) (quote_again ps rest (right (is_part (Escape c)) (list_all is_part ps) e))

-- a string at the front closes where the scan says
string_scan : (cs : List ℕ) (len : ℕ) (parts : List Part)
    → IsStringOf parts (take len (34 ∷ cs)) → before_quote false cs ≡ Some (length (flat_map spelled parts))
string_scan cs len parts h =
    let rest : List ℕ = drop len (34 ∷ cs) in
    let whole : 34 ∷ cs ≡ quoted parts ++ rest = sym (take-append-drop len (34 ∷ cs)) ∙ ap (λ (bs : List ℕ). bs ++ rest) h.is_spelled in
    let inside : cs ≡ flat_map spelled parts ++ (34 ∷ rest) = ap behind_first whole ∙ append_assoc (flat_map spelled parts) (34 ∷ []) rest in
    ap (before_quote false) inside ∙ quote_again parts rest h.are_parts

string_len : (bs : List ℕ) (len : ℕ) (parts : List Part) → len ≤ length bs → IsStringOf parts (take len bs) → len ≡ length (flat_map spelled parts) + 2
string_len bs len parts le h =
    let a : length (take len bs) ≡ len = length-take-le len bs le in
    let b : length (take len bs) ≡ suc (length (flat_map spelled parts ++ 34 ∷ [])) = ap length h.is_spelled in
    let d : length (flat_map spelled parts ++ 34 ∷ []) ≡ length (flat_map spelled parts) + 1 = length-append (flat_map spelled parts) (34 ∷ []) in
    omega arith

string_front : (cs : List ℕ) (n : ℕ) → Closes false cs n → IsStringOf (parts_of false (take n cs)) (take (suc (suc n)) (34 ∷ cs))
string_front cs n h = record {
  are_parts = h.parts;
  is_spelled = ap (λ (bs : List ℕ). 34 ∷ bs) (h.close ∙ ap (λ (bs : List ℕ). bs ++ 34 ∷ []) (sym h.spells));
}

quote_most : (cs : List ℕ) (n : ℕ) → before_quote false cs ≡ Some n → (more : ℕ) → more ≤ suc (length cs) → Is Quoted (take more (34 ∷ cs)) → more ≤ n + 2
quote_most cs n e more le h =
    let f : n ≡ length (flat_map spelled h.0) = ap number_in (sym e ∙ string_scan cs more h.0 h.1) in
    let g : more ≡ length (flat_map spelled h.0) + 2 = string_len (34 ∷ cs) more h.0 le h.1 in
    omega arith

at_quote : (bs : List ℕ) → kind_at bs ≡ Some Quoted → bs ≡ 34 ∷ drop 1 bs
at_quote [] e = absurd (cc)
at_quote (c ∷ cs) e = ap (λ (b : ℕ). b ∷ cs) (begins_quoted c e)

-- a string whose closing quote is found is the longest piece
pub quote_longest : (bs : List ℕ) (n : ℕ)
    → kind_at bs ≡ Some Quoted → before_quote false (drop 1 bs) ≡ Some n
    → IsLongest bs (n + 2) × IsStringOf (parts_of false (take n (drop 1 bs))) (take (n + 2) bs)
quote_longest bs n e f =
    subst (λ (b : List ℕ). IsLongest b (n + 2) × IsStringOf (parts_of false (take n (drop 1 bs))) (take (n + 2) b)) (sym (at_quote bs e)) (step (drop 1 bs) f)
  where
    step : (cs : List ℕ) → before_quote false cs ≡ Some n → IsLongest (34 ∷ cs) (n + 2) × IsStringOf (parts_of false (take n cs)) (take (n + 2) (34 ∷ cs))
    step cs g =
        let h : Closes false cs n = quote_tells false cs n g in
        let two : suc (suc n) ≡ n + 2 = omega arith in
        let is : IsStringOf (parts_of false (take n cs)) (take (n + 2) (34 ∷ cs)) =
        subst (λ (k : ℕ). IsStringOf (parts_of false (take n cs)) (take k (34 ∷ cs))) two (string_front cs n h) in (
          longest_of Quoted (34 ∷ cs) (n + 2) refl (let r = h.room in omega arith) (parts_of false (take n cs), is) (quote_most cs n g),
          is,
        )

-- and where there is none, no piece begins
pub quote_none : (bs : List ℕ) → kind_at bs ≡ Some Quoted → before_quote false (drop 1 bs) ≡ None → BeginsNone bs
quote_none bs e f = none_of Quoted bs e (λ len h. step (drop 1 bs) f len (subst (λ (b : List ℕ). Is Quoted (take len b)) (at_quote bs e) h))
  where
    step : (cs : List ℕ) → before_quote false cs ≡ None → (len : ℕ) → Is Quoted (take len (34 ∷ cs)) → ⊥
    step cs g len h = let s = string_scan cs len h.0 h.1 in absurd (cc)
