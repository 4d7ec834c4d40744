-- Lists of a rule, and the bundle of laws that each rule has.
use Rattle.std.proofs.Common.{◌≡◌, ℕ, zero, suc, ◌-◌, ◌≤◌, ◌<◌, List, [], ◌∷◌, ◌++◌, length, Ok, Bool, true, false, nat_eq, cond, inl, inr, refl, sym, ap, ◌∙◌, subst, arith, length-append}
use Rattle.mojom_ast.specs.declared.classes.TheConstants.{COMMA}
use Rattle.mojom_ast.specs.declared.token.Token.{Token}
use Rattle.mojom_ast.specs.Classes.{class}
use Rattle.mojom_ast.specs.Lang.{Lang, Whole, Read, has, tok, ◌▹◌, as_value, ◌or◌, maybe, maybe_read, times, commas, joined, listed, any, many, list}
use Rattle.grammar_laws.proofs.Asks.{Ask, Spelled, Sure, Beginning, TooDeep, mode_of}
use Rattle.grammar_laws.proofs.Shows.{Shown, Shows, shows_tok, shows_value, shows_seq, shows_or, shows_maybe, shows_times, shows_commas, shows_any}
use Rattle.grammar_laws.proofs.Opens.{Front, Opens, opens_tok, opens_value, opens_seq, opens_or, opens_maybe, opens_times, opens_commas}
use Rattle.grammar_laws.proofs.Finds.{Fits, Asked, Finds, disjoint, lacks_left, lacks_right, cut, cut_of, value_outcome, finds_tok, finds_value, finds_seq, finds_or, skipped, finds_maybe}

-- What the laws need of a rule with one number of levels, and of the same rule with another.
pub record Good {A : Type 0} (D : Type 0) (more : List ℕ) (one two : Lang A) : Type 1 where
  pub same : one.starts ≡ two.starts
  pub null : one.null ≡ two.null
  pub opens : Opens one
  pub opens_two : Opens two
  pub shows : Shows two
  pub finds : (b : ℕ) → Finds b D more one two

-- a rule that isn't nothing takes a token
takes_at : {A : Type 0} (two : Lang A) → Opens two → two.null ≡ false → (ts : List Token) (x : A) (rest f : List Token) → ts ≡ f ++ rest → two.followed Whole
    (λ a q. q ≡ []) (f ++ []) → length rest < length ts
takes_at two o e ts x rest [] eq h = absurd (cut_of two o e Whole (λ a q. q ≡ []) h)
takes_at two o e ts x rest (t ∷ f) eq h = omega (arith, ap length eq, length-append (t ∷ f) rest)

takes_told : {A : Type 0} (two : Lang A) → Opens two → two.null ≡ false → (ts : List Token) (x : A) (rest : List Token) → Shown two ts (Ok (x, rest))
    → length rest < length ts
takes_told two o e ts x rest t = takes_at two o e ts x rest t.0 t.1 (t.2 Whole (λ a q. q ≡ []) [] refl)

-- a rule that is not nothing takes a token
pub takes : {A : Type 0} (two : Lang A) → Opens two → two.null ≡ false → Shows two → (ts : List Token) (x : A) (rest : List Token) → two.read ts ≡ Ok
    (x, rest) → length rest < length ts
takes two o e t ts x rest eq = takes_told two o e ts x rest (subst (λ (r : Read _). Shown two ts r) eq (t ts))

not_null : (v : Bool) (a b : List ℕ) → v ≡ false → cond v (a ++ b) a ≡ a
not_null v a b e = rw e refl

no_in_both : (v w w' : Bool) → (w ≡ false → w' ≡ false) → cond v true w ≡ false → cond v true w' ≡ false
no_in_both true w w' h e = absurd (cc)
no_in_both false w w' h e = h e

-- what each of two lists lacks, both lack
pub lacks_both : (a b : List ℕ) (c : ℕ) → has a c ≡ false → has b c ≡ false → has (a ++ b) c ≡ false
lacks_both [] b c e f = f
lacks_both (x ∷ xs) b c e f = no_in_both (nat_eq c x) (has xs c) (has (xs ++ b) c) (λ h. lacks_both xs b c h f) e

-- the same of the starts of one rule after another
pub lacks_cond : (v : Bool) (a b : List ℕ) (c : ℕ) → has a c ≡ false → has b c ≡ false → has (cond v (a ++ b) a) c ≡ false
lacks_cond true a b c e f = lacks_both a b c e f
lacks_cond false a b c e f = e

-- more may follow
pub finds_more : {A : Type 0} (b : ℕ) (D : Type 0) (more all : List ℕ) (one two : Lang A) → ((c : ℕ) → has all c ≡ false → has more c ≡ false)
    → Finds b D more one two → Finds b D all one two
finds_more b D more all one two sub f m ask K free p u le fits h = f m ask K (λ x t ts k. sub (class t) (free x t ts k)) p u le fits h

-- the rest fits with another value
pub fits_map : {A B : Type 0} (g : A → B) (m : Ask) (u : List Token) (K : B → List Token → Type 0) → Fits m u K → Fits m u (λ x. K (g x))
fits_map g Spelled u K e = e
fits_map g Sure u K e = e
fits_map g Beginning u K e = tt
fits_map g TooDeep u K e = λ x. e (g x)

-- a list may be nothing
pub times_null : {A : Type 0} (n : ℕ) (one : Lang A) → (times n one).null ≡ true
unfolding times
times_null zero one = refl
times_null (suc n) one = refl

-- a list begins as its items do
pub times_starts : {A : Type 0} (n : ℕ) (one : Lang A) → one.null ≡ false → (times n one).starts ≡ one.starts
unfolding times
times_starts zero one e = refl
times_starts (suc n) one e = not_null one.null one.starts (times n one).starts e

-- a list with commas may be nothing
pub commas_null : {A : Type 0} (n : ℕ) (one : Lang A) → (commas n one).null ≡ true
unfolding commas
commas_null zero one = refl
commas_null (suc n) one = refl

-- a list with commas begins as its items do
pub commas_starts : {A : Type 0} (n : ℕ) (one : Lang A) → one.null ≡ false → (commas n one).starts ≡ one.starts
unfolding commas
commas_starts zero one e = refl
commas_starts (suc n) one e = not_null one.null one.starts (COMMA ∷ []) e

module _ {A : Type 0} (D : Type 0) (more : List ℕ) (one two : Lang A) (g : Good D more one two) (n1 : one.null ≡ false) (n2 : two.null ≡ false) where
  -- a list begins as its items do, or is nothing
  pub opens_all : (n : ℕ) → Opens (times n one)
  opens_all n m K p h = elim (opens_times n one n1 g.opens m K p h) [
    | inl f ↦ inl (subst (λ (cs : List ℕ). Front m cs p) (sym (times_starts n one n1)) f)
    | inr k ↦ inr (times_null n one, k)
  ]

  shrinks : (b k : ℕ) → b ≤ suc k → (ts : List Token) (x : A) (rest : List Token) → two.read ts ≡ Ok (x, rest) → length ts ≤ b → length rest ≤ b - 1
  shrinks b k bk ts x rest eq le = let less : length rest < length ts = takes two g.opens_two n2 g.shows ts x rest eq in omega arith

  shows_pair : (k : ℕ) → Shows (two ▹ times k two)
  shows_pair k = shows_seq two (times k two) g.shows (shows_times k two g.shows)

  -- at most so many
  pub finds_times : disjoint more one.starts ≡ true → (n k b : ℕ) → b ≤ k → Finds b D (two.starts ++ more) (times n one) (times k two)
  unfolding times
  finds_times apt zero zero b bk m ask K free p u le fits h = inl ([], p, h, refl)
  finds_times apt zero (suc k) b bk m ask K free p u le fits h =
      value_outcome m K u joined (maybe_read (two ▹ times k two) (p ++ u)) (skipped m (λ o. K (joined o)) (two ▹ times k two) (shows_pair k)
      (λ o t ts r. subst (λ (cs : List ℕ). has cs (class t) ≡ false) (sym (not_null two.null two.starts (times k two).starts n2))
      (lacks_left two.starts more (class t) (free (joined o) t ts r))) p u (fits_map joined m u K fits) h)
  finds_times apt (suc n) zero b bk m ask K free [] u le fits (inl h) = cut m K (times zero two) (shows_times zero two g.shows) u
      (cut_of one g.opens n1 (mode_of m) (λ x. (times n one).followed (mode_of m) (λ xs. K (x ∷ xs))) h)
  finds_times apt (suc n) zero b bk m ask K free [] u le fits (inr h) = inl ([], [], h, refl)
  finds_times apt (suc n) zero b bk m ask K free (t ∷ ts) u le fits h = absurd (omega (arith, length-append ts u))
  finds_times apt (suc n) (suc k) b bk m ask K free p u le fits h =
      finds_more b D _ (two.starts ++ more) (times (suc n) one) (times (suc k) two)
      (λ c e. lacks_both (two ▹ times k two).starts _ c
      (subst (λ (cs : List ℕ). has cs c ≡ false) (sym (not_null two.null two.starts (times k two).starts n2)) (lacks_left two.starts more c e))
      (lacks_cond (times n one).null (two.starts ++ more) more c e (lacks_right two.starts more c e)))
      (finds_value b D _ joined (maybe (one ▹ times n one)) (maybe (two ▹ times k two))
      (finds_maybe b D _ (one ▹ times n one) (two ▹ times k two)
      (finds_seq b (b - 1) D more (two.starts ++ more) one two (times n one) (times k two) (opens_all n) (rw (times_starts n one n1) apt)
      (g.finds b) (finds_times apt n k (b - 1) (omega arith)) (shows_times k two g.shows) (shrinks b k bk))
      (opens_seq one (times n one) g.opens (opens_all n)) (shows_pair k) (rw n1 refl)
      (not_null one.null one.starts (times n one).starts n1 ∙ g.same ∙ sym (not_null two.null two.starts (times k two).starts n2))))
      m ask K free p u le fits h

  -- lists with commas
  shows_comma : (k : ℕ) → Shows (tok (COMMA ∷ []) ▹ commas k two)
  shows_comma k = shows_seq (tok (COMMA ∷ [])) (commas k two) (shows_tok (COMMA ∷ [])) (shows_commas k two g.shows)

  shows_item : (k : ℕ) → Shows (two ▹ maybe (tok (COMMA ∷ []) ▹ commas k two))
  shows_item k = shows_seq two (maybe (tok (COMMA ∷ []) ▹ commas k two)) g.shows (shows_maybe (tok (COMMA ∷ []) ▹ commas k two) (shows_comma k))

  -- a list with commas begins as its items do, or is nothing
  pub opens_each : (n : ℕ) → Opens (commas n one)
  opens_each n m K p h = elim (opens_commas n one n1 g.opens m K p h) [
    | inl f ↦ inl (subst (λ (cs : List ℕ). Front m cs p) (sym (commas_starts n one n1)) f)
    | inr k ↦ inr (commas_null n one, k)
  ]

  opens_comma : (n : ℕ) → Opens (tok (COMMA ∷ []) ▹ commas n one)
  opens_comma n = opens_seq (tok (COMMA ∷ [])) (commas n one) (opens_tok (COMMA ∷ [])) (opens_each n)

  -- at most so many, with commas
  pub finds_commas : disjoint more (COMMA ∷ []) ≡ true → (n k b : ℕ) → b ≤ k → Finds b D (two.starts ++ (COMMA ∷ more)) (commas n one) (commas k two)
  unfolding commas
  finds_commas apt zero zero b bk m ask K free p u le fits h = inl ([], p, h, refl)
  finds_commas apt zero (suc k) b bk m ask K free p u le fits h =
      value_outcome m K u listed (maybe_read (two ▹ maybe (tok (COMMA ∷ []) ▹ commas k two)) (p ++ u))
      (skipped m (λ o. K (listed o)) (two ▹ maybe (tok (COMMA ∷ []) ▹ commas k two)) (shows_item k)
      (λ o t ts r. subst (λ (cs : List ℕ). has cs (class t) ≡ false) (sym (not_null two.null two.starts (COMMA ∷ []) n2))
      (lacks_left two.starts (COMMA ∷ more) (class t) (free (listed o) t ts r))) p u (fits_map listed m u K fits) h)
  finds_commas apt (suc n) zero b bk m ask K free [] u le fits (inl h) = cut m K (commas zero two) (shows_commas zero two g.shows) u
      (cut_of one g.opens n1 (mode_of m) _ h)
  finds_commas apt (suc n) zero b bk m ask K free [] u le fits (inr h) = inl ([], [], h, refl)
  finds_commas apt (suc n) zero b bk m ask K free (t ∷ ts) u le fits h = absurd (omega (arith, length-append ts u))
  finds_commas apt (suc n) (suc k) b bk m ask K free p u le fits h =
      let sub : (c : ℕ) → has (two.starts ++ (COMMA ∷ more)) c ≡ false → has
      (cond (commas n one).null ((two.starts ++ (COMMA ∷ more)) ++ []) (two.starts ++ (COMMA ∷ more))) c ≡ false
      = λ c e. lacks_cond (commas n one).null (two.starts ++ (COMMA ∷ more)) [] c e refl in
      finds_more b D _ (two.starts ++ (COMMA ∷ more)) (commas (suc n) one) (commas (suc k) two)
      (λ c e. lacks_both (two ▹ maybe (tok (COMMA ∷ []) ▹ commas k two)).starts _ c
      (subst (λ (cs : List ℕ). has cs c ≡ false) (sym (not_null two.null two.starts (COMMA ∷ []) n2)) (lacks_left two.starts (COMMA ∷ more) c e))
      (lacks_both (COMMA ∷ cond (commas n one).null ((two.starts ++ (COMMA ∷ more)) ++ []) (two.starts ++ (COMMA ∷ more))) more c
      (lacks_both (COMMA ∷ []) (cond (commas n one).null ((two.starts ++ (COMMA ∷ more)) ++ []) (two.starts ++ (COMMA ∷ more))) c
      (lacks_left (COMMA ∷ []) more c (lacks_right two.starts (COMMA ∷ more) c e)) (sub c e))
      (lacks_right (COMMA ∷ []) more c (lacks_right two.starts (COMMA ∷ more) c e))))
      (finds_value b D _ listed (maybe (one ▹ maybe (tok (COMMA ∷ []) ▹ commas n one))) (maybe (two ▹ maybe (tok (COMMA ∷ []) ▹ commas k two)))
      (finds_maybe b D ((COMMA ∷ cond (commas n one).null ((two.starts ++ (COMMA ∷ more)) ++ []) (two.starts ++ (COMMA ∷ more))) ++ more)
      (one ▹ maybe (tok (COMMA ∷ []) ▹ commas n one)) (two ▹ maybe (tok (COMMA ∷ []) ▹ commas k two))
      (finds_seq b (b - 1) D more (COMMA ∷ cond (commas n one).null ((two.starts ++ (COMMA ∷ more)) ++ []) (two.starts ++ (COMMA ∷ more))) one two
      (maybe (tok (COMMA ∷ []) ▹ commas n one)) (maybe (tok (COMMA ∷ []) ▹ commas k two))
      (opens_maybe (tok (COMMA ∷ []) ▹ commas n one) (opens_comma n)) apt
      (g.finds b)
      (finds_maybe (b - 1) D (cond (commas n one).null ((two.starts ++ (COMMA ∷ more)) ++ []) (two.starts ++ (COMMA ∷ more)))
      (tok (COMMA ∷ []) ▹ commas n one) (tok (COMMA ∷ []) ▹ commas k two)
      (finds_seq (b - 1) (b - 1) D [] (two.starts ++ (COMMA ∷ more)) (tok (COMMA ∷ [])) (tok (COMMA ∷ [])) (commas n one) (commas k two) (opens_each n) refl
      (finds_tok (b - 1) D (COMMA ∷ [])) (finds_commas apt n k (b - 1) (omega arith)) (shows_commas k two g.shows)
      (λ ts x rest eq short. let less : length rest < length ts = takes (tok (COMMA ∷ [])) (opens_tok (COMMA ∷ [])) refl
      (shows_tok (COMMA ∷ [])) ts x rest eq in omega arith))
      (opens_comma n) (shows_comma k) refl refl)
      (shows_maybe (tok (COMMA ∷ []) ▹ commas k two) (shows_comma k)) (shrinks b k bk))
      (opens_seq one (maybe (tok (COMMA ∷ []) ▹ commas n one)) g.opens (opens_maybe (tok (COMMA ∷ []) ▹ commas n one) (opens_comma n))) (shows_item k)
      (rw n1 refl)
      (not_null one.null one.starts (COMMA ∷ []) n1 ∙ g.same ∙ sym (not_null two.null two.starts (COMMA ∷ []) n2))))
      m ask K free p u le fits h

-- The bundle, for each way to make a rule.
pub good_tok : (D : Type 0) (c : List ℕ) → Good D [] (tok c) (tok c)
good_tok D c = record { same = refl; null = refl; opens = opens_tok c; opens_two = opens_tok c; shows = shows_tok c; finds = λ b. finds_tok b D c }

-- the same with another value
pub good_value : {A B : Type 0} {D : Type 0} {more : List ℕ} {one two : Lang A} (f : A → B) → Good D more one two → Good D more (as_value f one)
    (as_value f two)
good_value {D = D} {more = more} {one = one} {two = two} f g = record {
  same = g.same;
  null = g.null;
  opens = opens_value f one g.opens;
  opens_two = opens_value f two g.opens_two;
  shows = shows_value f two g.shows;
  finds = λ b. finds_value b D more f one two (g.finds b);
}

shorter_told : {A : Type 0} (two : Lang A) (ts : List Token) (x : A) (rest : List Token) → Shown two ts (Ok (x, rest)) → length rest ≤ length ts
shorter_told two ts x rest t = omega (arith, ap length t.1, length-append t.0 rest)

-- reading leaves no more than there is
pub shorter : {A : Type 0} (two : Lang A) → Shows two → (ts : List Token) (x : A) (rest : List Token) → two.read ts ≡ Ok (x, rest) → length rest ≤ length ts
shorter two t ts x rest eq = shorter_told two ts x rest (subst (λ (r : Read _). Shown two ts r) eq (t ts))

-- one rule after the other
pub good_seq : {A B : Type 0} {D : Type 0} {m1 m2 : List ℕ} {a1 a2 : Lang A} {c1 c2 : Lang B} → Good D m1 a1 a2 → Good D m2 c1 c2
    → disjoint m1 c1.starts ≡ true → Good D (cond c1.null (m2 ++ m1) m2) (a1 ▹ c1) (a2 ▹ c2)
good_seq {D = D} {m1 = m1} {m2 = m2} {a1 = a1} {a2 = a2} {c1 = c1} {c2 = c2} g h apt = record {
  same = rw (g.null, g.same, h.same) refl;
  null = rw (g.null, h.null) refl;
  opens = opens_seq a1 c1 g.opens h.opens;
  opens_two = opens_seq a2 c2 g.opens_two h.opens_two;
  shows = shows_seq a2 c2 g.shows h.shows;
  finds = λ b. finds_seq b b D m1 m2 a1 a2 c1 c2 h.opens apt (g.finds b) (h.finds b) h.shows
      (λ ts x rest eq le. let short : length rest ≤ length ts = shorter a2 g.shows ts x rest eq in omega arith);
}

-- one rule or the other
pub good_or : {A : Type 0} {D : Type 0} {m1 m2 : List ℕ} {a1 a2 c1 c2 : Lang A} → Good D m1 a1 a2 → Good D m2 c1 c2 → a1.null ≡ false → c1.null ≡ false
    → disjoint a1.starts c1.starts ≡ true → Good D (m1 ++ m2) (a1 or c1) (a2 or c2)
good_or {D = D} {m1 = m1} {m2 = m2} {a1 = a1} {a2 = a2} {c1 = c1} {c2 = c2} g h na nc apt = record {
  same = rw (g.same, h.same) refl;
  null = rw (g.null, h.null) refl;
  opens = opens_or a1 c1 g.opens h.opens;
  opens_two = opens_or a2 c2 g.opens_two h.opens_two;
  shows = shows_or a2 c2 g.shows h.shows;
  finds = λ b. finds_or b D m1 m2 a1 a2 c1 c2 (g.finds b) (h.finds b) g.opens h.opens g.shows h.shows na nc g.same apt;
}

-- at most one
pub good_maybe : {A : Type 0} {D : Type 0} {more : List ℕ} {one two : Lang A} → Good D more one two → one.null ≡ false → Good D (two.starts ++ more)
    (maybe one) (maybe two)
good_maybe {D = D} {more = more} {one = one} {two = two} g e = record {
  same = g.same;
  null = refl;
  opens = opens_maybe one g.opens;
  opens_two = opens_maybe two g.opens_two;
  shows = shows_maybe two g.shows;
  finds = λ b. finds_maybe b D more one two (g.finds b) g.opens g.shows e g.same;
}

-- a family of lists begins as one of them does
pub opens_any : {A : Type 0} (some : ℕ → Lang A) → ((n : ℕ) → Opens (some n)) → ((n : ℕ) → (some n).starts ≡ (some 1).starts) → Opens (any some)
opens_any some o same m K p h = elim (o h.0 m K p h.1) [ inl f ↦ inl (subst (λ (cs : List ℕ). Front m cs p) (same h.0) f) | inr k ↦ inr (refl, k.1) ]

-- both rules are not nothing
pub flip : {A : Type 0} {D : Type 0} {more : List ℕ} {one two : Lang A} → Good D more one two → one.null ≡ false → two.null ≡ false
flip g e = sym g.null ∙ e

opens_pair : {A : Type 0} (two : Lang A) → two.null ≡ false → Opens two → (n : ℕ) → Opens (times n two)
opens_pair two e o n m K p h = elim (opens_times n two e o m K p h) [
  | inl f ↦ inl (subst (λ (cs : List ℕ). Front m cs p) (sym (times_starts n two e)) f)
  | inr k ↦ inr (times_null n two, k)
]

opens_items : {A : Type 0} (two : Lang A) → two.null ≡ false → Opens two → (n : ℕ) → Opens (commas n two)
opens_items two e o n m K p h = elim (opens_commas n two e o m K p h) [
  | inl f ↦ inl (subst (λ (cs : List ℕ). Front m cs p) (sym (commas_starts n two e)) f)
  | inr k ↦ inr (commas_null n two, k)
]

-- however many
pub good_many : {A : Type 0} {D : Type 0} {more : List ℕ} {one two : Lang A} → Good D more one two → one.null ≡ false → disjoint more one.starts ≡ true
    → Good D (two.starts ++ more) (many one) (many two)
good_many {D = D} {more = more} {one = one} {two = two} g e apt = record {
  same = times_starts 1 one e ∙ g.same ∙ sym (times_starts 1 two (flip g e));
  null = refl;
  opens = opens_any (λ n. times n one) (opens_pair one e g.opens) (λ n. times_starts n one e ∙ sym (times_starts 1 one e));
  opens_two = opens_any (λ n. times n two) (opens_pair two (flip g e) g.opens_two) (λ n. times_starts n two (flip g e) ∙ sym (times_starts 1 two (flip g e)));
  shows = shows_any (λ n. times n two) (λ n. shows_times n two g.shows);
  finds = λ b m ask K free p u le fits h. finds_times D more one two g e (flip g e) apt h.0 (length (p ++ u)) (length (p ++ u)) (omega arith) m ask K free p u
      (omega arith) fits h.1;
}

-- however many, with commas
pub good_list : {A : Type 0} {D : Type 0} {more : List ℕ} {one two : Lang A} → Good D more one two → one.null ≡ false → disjoint more (COMMA ∷ []) ≡ true
    → Good D (two.starts ++ (COMMA ∷ more)) (list one) (list two)
good_list {D = D} {more = more} {one = one} {two = two} g e apt = record {
  same = commas_starts 1 one e ∙ g.same ∙ sym (commas_starts 1 two (flip g e));
  null = refl;
  opens = opens_any (λ n. commas n one) (opens_items one e g.opens) (λ n. commas_starts n one e ∙ sym (commas_starts 1 one e));
  opens_two = opens_any (λ n. commas n two) (opens_items two (flip g e) g.opens_two)
      (λ n. commas_starts n two (flip g e) ∙ sym (commas_starts 1 two (flip g e)));
  shows = shows_any (λ n. commas n two) (λ n. shows_commas n two g.shows);
  finds = λ b m ask K free p u le fits h. finds_commas D more one two g e (flip g e) apt h.0 (length (p ++ u)) (length (p ++ u))
      (omega arith) m ask K free p u (omega arith) fits h.1;
}

asked_less : (D D' : Type 0) → (D' → D) → (m : Ask) → Asked D' m → Asked D m
asked_less D D' f Spelled a = tt
asked_less D D' f Sure a = f a
asked_less D D' f Beginning a = tt
asked_less D D' f TooDeep a = f a

-- for fewer askings
pub good_asked : {A : Type 0} {D D' : Type 0} {more : List ℕ} {one two : Lang A} → (D' → D) → Good D more one two → Good D' more one two
good_asked {D = D} {D' = D'} f g = record {
  same = g.same;
  null = g.null;
  opens = g.opens;
  opens_two = g.opens_two;
  shows = g.shows;
  finds = λ b m ask.
      g.finds b m (asked_less D D' f m ask);
}
