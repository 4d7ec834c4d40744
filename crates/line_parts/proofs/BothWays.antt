-- The texts that a rule has for its values, both ways: what is followed whole is such a text, and such a text is followed.
use Rattle.std.proofs.Common.{◌≡◌, ℕ, zero, suc, List, [], ◌∷◌, ◌++◌, ◌⊎◌, inl, inr, Bool, true, refl, sym, ap, ◌∙◌, subst, append_assoc}
use Rattle.std.specs.List.{flat_map}
use Rattle.byte_rules.specs.Lang.{Lang, Whole, byte_in, as_value, closed, choice, ◌then◌, ◌▸◌, Words, words, until, many}
use Rattle.byte_rules.proofs.Parts.{Parts, AllOf, parts_byte, parts_value, parts_choice, parts_words, parts_closed, parts_before, parts_many, parts_wider}
use Rattle.byte_rules.proofs.Shown.{Shown, shown_value, shown_then, shown_before, shown_first, shown_second, shown_words, shown_closed, shown_none}
use Rattle.byte_rules.proofs.Shown.{shown_more, shown_many}
use Rattle.line_parts.specs.Printable.{AreAll}

-- a rule that reads just these values from just these texts
pub record HasTexts {A : Type 0} (R : A → List ℕ → Type 0) (one : Lang A) : Type 1 where
  pub from : Parts R one
  pub to : (x : A) (w : List ℕ) → R x w → Shown one x w

-- the values that are fine have this text, and no others have one
abbrev pub Is : {A : Type 0} → (A → Type 0) → (A → List ℕ) → A → List ℕ → Type 0
Is ok text x w = ok x × (w ≡ text x)

pub texts_as : {A : Type 0} {R Q : A → List ℕ → Type 0} {one : Lang A} → ((x : A) (w : List ℕ) → R x w → Q x w) → ((x : A) (w : List ℕ) → Q x w → R x w)
    → HasTexts R one → HasTexts Q one
texts_as {A} {R} {Q} {one} there back t = record { from = parts_wider R Q one there t.from; to = λ x w q. t.to x w (back x w q) }

pub texts_words : {A : Type 0} (w : Words A) → HasTexts (Is w.In w.spelled) (words w)
texts_words {A} w = record {
  from = parts_words w;
  to = λ x v h. subst (λ (l : List ℕ). Shown (words w) x l) (sym h.1) (shown_words w x h.0);
}

pub texts_byte : (p : ℕ → Bool) → HasTexts (Is (λ (b : ℕ). p b ≡ true) (λ (b : ℕ). b ∷ [])) (byte_in p)
texts_byte p = record {
  from = parts_byte p;
  to = λ b w h. subst (λ (l : List ℕ). Shown (byte_in p) b l) (sym h.1) (λ m K q k. (h.0, k));
}

pub texts_closed : {A : Type 0} (c : ℕ) (x : A) → HasTexts (Is (λ (y : A). y ≡ x) (λ (y : A). c ∷ [])) (closed c x)
texts_closed {A} c x = record {
  from = parts_closed c x;
  to = λ y w h. subst (λ (l : List ℕ). Shown (closed c x) y l) (sym h.1) (subst (λ (z : A). Shown (closed c x) z (c ∷ [])) (sym h.0) (shown_closed c x));
}

-- the same with another value
pub texts_map : {A B : Type 0} {R : A → List ℕ → Type 0} {one : Lang A} (g : A → B) → HasTexts R one
    → HasTexts (λ y w. (x : A) × R x w × (g x ≡ y)) (as_value g one)
texts_map {A} {B} {R} {one} g t = record {
  from = parts_value R g one t.from;
  to = λ y w h. subst (λ (z : B). Shown (as_value g one) z w) h.2 (shown_value g one h.0 w (t.to h.0 w h.1));
}

pub texts_before : {A : Type 0} {ok : A → Type 0} {text : A → List ℕ} {one : Lang A} (c : ℕ) → HasTexts (Is ok text) one
    → HasTexts (Is ok (λ (x : A). c ∷ text x)) (c ▸ one)
texts_before {A} {ok} {text} {one} c t = record {
  from = parts_wider (λ x w. (v : List ℕ) × Is ok text x v × (w ≡ c ∷ v)) (Is ok (λ (x : A). c ∷ text x)) (c ▸ one)
      (λ x w h. (h.1.0, h.2 ∙ ap (λ (l : List ℕ). c ∷ l) h.1.1)) (parts_before (Is ok text) c one t.from);
  to = λ x w h. subst (λ (l : List ℕ). Shown (c ▸ one) x l) (sym h.1) (shown_before c one x (text x) (t.to x (text x) (h.0, refl)));
}

-- the same with another value: each that is fine comes of one
pub texts_value : {A B : Type 0} {ok : A → Type 0} {text : A → List ℕ} {one : Lang A} (g : A → B) (fine : B → Type 0) (spelled : B → List ℕ)
    → ((x : A) → ok x → fine (g x)) → ((x : A) → ok x → spelled (g x) ≡ text x) → ((y : B) → fine y → (x : A) × ok x × (g x ≡ y)) → HasTexts (Is ok text) one
    → HasTexts (Is fine spelled) (as_value g one)
texts_value {A} {B} {ok} {text} {one} g fine spelled there same back t = record {
  from = parts_wider (λ y w. (x : A) × Is ok text x w × (g x ≡ y)) (Is fine spelled) (as_value g one)
      (λ y w h. (subst (λ (z : B). fine z) h.2 (there h.0 h.1.0), h.1.1 ∙ sym (same h.0 h.1.0) ∙ ap spelled h.2)) (parts_value (Is ok text) g one t.from);
  to = λ y w h. let b = back y h.0 in
      subst (λ (l : List ℕ). Shown (as_value g one) y l) (sym (same b.0 b.1) ∙ ap spelled b.2 ∙ sym h.1)
      (subst (λ (z : B). Shown (as_value g one) z (text b.0)) b.2 (shown_value g one b.0 (text b.0) (t.to b.0 (text b.0) (b.1, refl))));
}

-- one, and then what its value asks for
module _ {A B : Type 0} {ok : A → Type 0} {text : A → List ℕ} {one : Lang A} {two : A → Lang B} {fine : A → B → Type 0} {spelled : A → B → List ℕ}
    (o : HasTexts (Is ok text) one) (s : (x : A) → ok x → HasTexts (Is (fine x) (spelled x)) (two x)) where
  -- a value with its text, and one that goes by it with its own
  abbrev Followed : B → List ℕ → Type 0
  Followed y w = (x : A) × ok x × fine x y × (w ≡ text x ++ spelled x y)

  from_both : Parts Followed (one then two)
  from_both K p h =
      let k = o.from (λ x. (two x).followed Whole K) p h in
      let l = (s k.0 k.3.0).from K k.2 k.5 in (
        l.0,
        text k.0 ++ spelled k.0 l.0,
        l.2,
        (k.0, k.3.0, l.3.0, refl),
        k.4 ∙ ap (λ (v : List ℕ). v ++ k.2) k.3.1 ∙ ap (λ (v : List ℕ). text k.0 ++ v) (l.4 ∙ ap (λ (v : List ℕ). v ++ l.2) l.3.1)
            ∙ sym (append_assoc (text k.0) (spelled k.0 l.0) l.2),
        l.5,
      )

  pub texts_follow : HasTexts (λ y w. (x : A) × ok x × fine x y × (w ≡ text x ++ spelled x y)) (one then two)
  texts_follow = record {
    from = from_both;
    to = λ y w h. subst (λ (l : List ℕ). Shown (one then two) y l) (sym h.3)
        (shown_then one two h.0 y (text h.0) (spelled h.0 y) (o.to h.0 (text h.0) (h.1, refl)) ((s h.0 h.1).to y (spelled h.0 y) (h.2, refl)));
  }

-- the same where the second has other texts
module _ {A B : Type 0} {ok : A → Type 0} {text : A → List ℕ} {one : Lang A} {two : A → Lang B} {R : A → B → List ℕ → Type 0}
    (o : HasTexts (Is ok text) one) (s : (x : A) → ok x → HasTexts (R x) (two x)) where
  -- a value with its text, and what stands in a relation to it behind
  abbrev pub Chain : B → List ℕ → Type 0
  Chain y w = (x : A) × ok x × (v : List ℕ) × R x y v × (w ≡ text x ++ v)

  chain_from : Parts Chain (one then two)
  chain_from K p h =
      let k = o.from (λ x. (two x).followed Whole K) p h in
      let l = (s k.0 k.3.0).from K k.2 k.5 in (
        l.0,
        text k.0 ++ l.1,
        l.2,
        (k.0, k.3.0, l.1, l.3, refl),
        k.4 ∙ ap (λ (v : List ℕ). v ++ k.2) k.3.1 ∙ ap (λ (v : List ℕ). text k.0 ++ v) l.4
            ∙ sym (append_assoc (text k.0) l.1 l.2),
        l.5,
      )

  pub texts_chain : HasTexts (λ y w. (x : A) × ok x × (v : List ℕ) × R x y v × (w ≡ text x ++ v)) (one then two)
  texts_chain = record {
    from = chain_from;
    to = λ y w h. subst (λ (l : List ℕ). Shown (one then two) y l) (sym h.4)
        (shown_then one two h.0 y (text h.0) h.2 (o.to h.0 (text h.0) (h.1, refl)) ((s h.0 h.1).to y h.2 h.3));
  }

-- the same where both have other texts
module _ {A B : Type 0} {R : A → List ℕ → Type 0} {Q : A → B → List ℕ → Type 0} {one : Lang A} {two : A → Lang B}
    (o : HasTexts R one) (s : (x : A) (v : List ℕ) → R x v → HasTexts (Q x) (two x)) where
  -- two that stand in relations to their texts, one behind the other
  abbrev pub Link : B → List ℕ → Type 0
  Link y w = (x : A) × (v : List ℕ) × (u : List ℕ) × R x v × Q x y u × (w ≡ v ++ u)

  link_from : Parts Link (one then two)
  link_from K p h =
      let k = o.from (λ x. (two x).followed Whole K) p h in
      let l = (s k.0 k.1 k.3).from K k.2 k.5 in
      (l.0, k.1 ++ l.1, l.2, (k.0, k.1, l.1, k.3, l.3, refl), k.4 ∙ ap (λ (v : List ℕ). k.1 ++ v) l.4 ∙ sym (append_assoc k.1 l.1 l.2), l.5)

  pub texts_link : HasTexts (λ y w. (x : A) × (v : List ℕ) × (u : List ℕ) × R x v × Q x y u × (w ≡ v ++ u)) (one then two)
  texts_link = record {
    from = link_from;
    to = λ y w h. subst (λ (l : List ℕ). Shown (one then two) y l) (sym h.5)
        (shown_then one two h.0 y h.1 h.2 (o.to h.0 h.1 h.3) ((s h.0 h.1 h.3).to y h.2 h.4));
  }

-- behind a byte
pub texts_behind : {A : Type 0} {R : A → List ℕ → Type 0} {one : Lang A} (c : ℕ) → HasTexts R one
    → HasTexts (λ x w. (v : List ℕ) × R x v × (w ≡ c ∷ v)) (c ▸ one)
texts_behind {A} {R} {one} c t = record {
  from = parts_before R c one t.from;
  to = λ x w h. subst (λ (l : List ℕ). Shown (c ▸ one) x l) (sym h.2) (shown_before c one x h.0 (t.to x h.0 h.1));
}

-- the same where the value of one is a part of the whole
pub texts_then : {A B : Type 0} {ok : A → Type 0} {text : A → List ℕ} {one : Lang A} {two : A → Lang B} {fine : A → B → Type 0} {spelled : A → B → List ℕ}
    (part : B → A) → ((x : A) (y : B) → fine x y → part y ≡ x) → HasTexts (Is ok text) one → ((x : A) → HasTexts (Is (fine x) (spelled x)) (two x))
    → HasTexts (Is (λ (y : B). ok (part y) × fine (part y) y) (λ (y : B). text (part y) ++ spelled (part y) y)) (one then two)
texts_then {A} {B} {ok} {text} {one} {two} {fine} {spelled} part same o s = texts_as there (λ y w h. (part y, h.0.0, h.0.1, h.1)) (texts_follow o (λ x k. s x))
  where
    there : (y : B) (w : List ℕ) → (x : A) × ok x × fine x y × (w ≡ text x ++ spelled x y)
        → Is (λ (y : B). ok (part y) × fine (part y) y) (λ (y : B). text (part y) ++ spelled (part y) y) y w
    there y w h = subst (λ (x : A). Is (λ (z : B). ok x × fine x z) (λ (z : B). text x ++ spelled x z) y w) (sym (same h.0 y h.2)) ((h.1, h.2), h.3)

-- one or the other
pub texts_either : {A : Type 0} {R Q : A → List ℕ → Type 0} {one two : Lang A} (p : ℕ → Bool) → HasTexts R one → HasTexts Q two
    → HasTexts (λ x w. R x w ⊎ Q x w) (choice p one two)
texts_either {A} {R} {Q} {one} {two} p o s = record { from = parts_choice R Q p one two o.from s.from; to = back }
  where
    back : (x : A) (w : List ℕ) → R x w ⊎ Q x w → Shown (choice p one two) x w
    back x w (inl h) = shown_first p one two x w (o.to x w h)
    back x w (inr h) = shown_second p one two x w (s.to x w h)

-- one or the other, whose texts are given together
pub texts_choice : {A : Type 0} {ok fine : A → Type 0} {text : A → List ℕ} {one two : Lang A} (p : ℕ → Bool) → HasTexts (Is ok text) one
    → HasTexts (Is fine text) two → HasTexts (Is (λ (x : A). ok x ⊎ fine x) text) (choice p one two)
texts_choice {A} {ok} {fine} {text} {one} {two} p o s = record {
  from = parts_wider (λ x w. Is ok text x w ⊎ Is fine text x w) (Is (λ (x : A). ok x ⊎ fine x) text) (choice p one two) there
      (parts_choice (Is ok text) (Is fine text) p one two o.from s.from);
  to = λ x w h. back x w h.0 h.1;
}
  where
    there : (x : A) (w : List ℕ) → Is ok text x w ⊎ Is fine text x w → Is (λ (x : A). ok x ⊎ fine x) text x w
    there x w (inl h) = (inl h.0, h.1)
    there x w (inr h) = (inr h.0, h.1)

    back : (x : A) (w : List ℕ) → ok x ⊎ fine x → w ≡ text x → Shown (choice p one two) x w
    back x w (inl h) e = shown_first p one two x w (o.to x w (h, e))
    back x w (inr h) e = shown_second p one two x w (s.to x w (h, e))

-- other words for the same
pub texts_fine : {A : Type 0} {ok fine : A → Type 0} {text spelled : A → List ℕ} {one : Lang A} → ((x : A) → ok x → fine x) → ((x : A) → fine x → ok x)
    → ((x : A) → ok x → text x ≡ spelled x) → HasTexts (Is ok text) one → HasTexts (Is fine spelled) one
texts_fine there back same t = texts_as (λ x w h. (there x h.0, h.1 ∙ same x h.0)) (λ x w h. (back x h.0, h.1 ∙ sym (same x (back x h.0)))) t

-- however many, and the byte that ends them
module _ {A : Type 0} {ok : A → Type 0} {text : A → List ℕ} {one : Lang A} (c : ℕ) (t : HasTexts (Is ok text) one) where
  -- the texts of all, and the byte that ends them
  abbrev spelled : List A → List ℕ
  spelled xs = flat_map text xs ++ c ∷ []

  all_from : (xs : List A) (w : List ℕ) → AllOf (Is ok text) c xs w → Is (AreAll ok) spelled xs w
  all_from [] w h = (tt, h)
  all_from (x ∷ xs) w h =
      let k = all_from xs h.1 h.3 in (
        (h.2.0, k.0),
        h.4 ∙ ap (λ (l : List ℕ). l ++ h.1) h.2.1 ∙ ap (λ (l : List ℕ). text x ++ l) k.1
            ∙ sym (append_assoc (text x) (flat_map text xs) (c ∷ [])),
      )

  length_of : List A → ℕ
  length_of [] = zero
  length_of (x ∷ xs) = suc (length_of xs)

  all_to : (xs : List A) → AreAll ok xs → Shown (until c (length_of xs) one) xs (spelled xs)
  unfolding length_of
  all_to [] h = shown_none c one zero
  all_to (x ∷ xs) h = subst (λ (l : List ℕ). Shown (until c (suc (length_of xs)) one) (x ∷ xs) l)
      (sym (append_assoc (text x) (flat_map text xs) (c ∷ [])))
      (shown_more c one (length_of xs) x xs (text x) (spelled xs) (t.to x (text x) (h.0, refl)) (all_to xs h.1))

  pub texts_many : HasTexts (Is (AreAll ok) (λ (xs : List A). flat_map text xs ++ c ∷ [])) (many c one)
  texts_many = record {
    from = parts_wider (AllOf (Is ok text) c) (Is (AreAll ok) spelled) (many c one) all_from (parts_many (Is ok text) c one t.from);
    to = λ xs w h. subst (λ (l : List ℕ). Shown (many c one) xs l) (sym h.1) (shown_many c one (length_of xs) xs (spelled xs) (all_to xs h.0));
  }
