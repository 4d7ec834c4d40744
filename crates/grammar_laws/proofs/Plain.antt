-- What follows a rule may be weakened, and a choice in it made before the rule.
use Rattle.std.proofs.Common.{ℕ, zero, suc, List, [], ◌∷◌, Option, Some, None, Bool, true, false, ◌⊎◌, inl, inr}
use Rattle.std.specs.Prelude.{unwrap_or}
use Rattle.mojom_ast.specs.declared.classes.TheConstants.{COMMA, NUMBER, STRING, DOT, TRUE, FALSE, PLUS, MINUS, EQUALS, OPEN_BRACKET, CLOSE_BRACKET, MODULE, SEMICOLON, IMPORT}
use Rattle.mojom_ast.specs.declared.token.Token.{Token}
use Rattle.mojom_ast.specs.declared.names.Value.TheVariants as values
use Rattle.mojom_ast.specs.Classes.{identifiers}
use Rattle.mojom_ast.specs.Trees.{identifier_of, number_of, string_of, make_name, make_true, make_false, make_number, make_plus, make_minus, make_attribute, make_module, make_import, inner, behind}
use Rattle.mojom_ast.specs.Lang.{Lang, Mode, tok, ◌▹◌, as_value, ◌or◌, maybe, times, commas, joined, listed, many, list}
use Rattle.mojom_ast.specs.Grammar.{identifier, number, string, dotted, name, boolean, signed, value, assigned, attribute, bracketed, attributes, module_name, module_of, import_path, import_of}

-- What may be weakened behind a rule, and chosen before it.
pub record Plain {A : Type 0} (one : Lang A) : Type 1 where
  pub weaken : (m : Mode) (K L : A → List Token → Type 0) → ((x : A) (q : List Token) → K x q → L x q) → (p : List Token) → one.followed m K p
      → one.followed m L p
  pub choose : {I : Type 0} (i : I) (m : Mode) (Q : I → A → List Token → Type 0) (p : List Token) → one.followed m (λ x q. (i : I) × Q i x q) p → (i : I)
      × one.followed m (Q i) p

weaken_tok : (c : List ℕ) (m : Mode) (K L : Token → List Token → Type 0) → ((x : Token) (q : List Token) → K x q → L x q) → (p : List Token)
    → (tok c).followed m K p → (tok c).followed m L p
weaken_tok c m K L f [] h = h
weaken_tok c m K L f (t ∷ ts) h = (h.0, f t ts h.1)

choose_tok : (c : List ℕ) {I : Type 0} (i : I) (m : Mode) (Q : I → Token → List Token → Type 0) (p : List Token) → (tok c).followed m
    (λ x q. (i : I) × Q i x q) p → (i : I) × (tok c).followed m (Q i) p
choose_tok c i m Q [] h = (i, h)
choose_tok c i m Q (t ∷ ts) h = (h.1.0, (h.0, h.1.1))

-- one token
pub plain_tok : (c : List ℕ) → Plain (tok c)
plain_tok c = record { weaken = weaken_tok c; choose = choose_tok c }

-- the same with another value
pub plain_value : {A B : Type 0} {one : Lang A} (f : A → B) → Plain one → Plain (as_value f one)
plain_value f s = record {
  weaken = λ m K L g p h. s.weaken m (λ x. K (f x)) (λ x. L (f x)) (λ x. g (f x)) p h;
  choose = λ i m Q p h. s.choose i m
      (λ j x. Q j (f x)) p h;
}

-- one rule after the other
infixr 20 ◌next◌
pub ◌next◌ : {A B : Type 0} {one : Lang A} {two : Lang B} → Plain one → Plain two → Plain (one ▹ two)
◌next◌ {one = one} {two = two} s t = record {
  weaken = λ m K L f p h. s.weaken m (λ x. two.followed m (λ y. K (x, y))) (λ x. two.followed m (λ y. L (x, y)))
      (λ x q k. t.weaken m (λ y. K (x, y)) (λ y. L (x, y)) (λ y. f (x, y)) q k) p h;
  choose = λ {I} i m Q p h. s.choose i m (λ j x. two.followed m (λ y. Q j (x, y))) p
      (s.weaken m (λ x. two.followed m (λ y q. (j : I) × Q j (x, y) q)) (λ x q. (j : I) × two.followed m (λ y. Q j (x, y)) q)
      (λ x q k. t.choose i m (λ j y. Q j (x, y)) q k) p h);
}

or_choose : {A : Type 0} (one two : Lang A) → Plain one → Plain two → {I : Type 0} (i : I) (m : Mode) (Q : I → A → List Token → Type 0) (p : List Token)
    → (one or two).followed m (λ x q. (i : I) × Q i x q) p → (i : I) × (one or two).followed m (Q i) p
or_choose one two s t i m Q p (inl a) = let c = s.choose i m Q p a in (c.0, inl c.1)
or_choose one two s t i m Q p (inr b) = let c = t.choose i m Q p b in (c.0, inr c.1)

-- one rule or the other
infixr 15 ◌otherwise◌
pub ◌otherwise◌ : {A : Type 0} {one two : Lang A} → Plain one → Plain two → Plain (one or two)
◌otherwise◌ {one = one} {two = two} s t = record {
  weaken = λ m K L f p h. elim h [ inl a ↦ inl (s.weaken m K L f p a) | inr b ↦ inr (t.weaken m K L f p b) ];
  choose = λ {I} i m Q p h. or_choose one two s t i m Q p h;
}

maybe_choose : {A : Type 0} (one : Lang A) → Plain one → {I : Type 0} (i : I) (m : Mode) (Q : I → Option A → List Token → Type 0) (p : List Token)
    → (maybe one).followed m (λ x q. (i : I) × Q i x q) p → (i : I) × (maybe one).followed m (Q i) p
maybe_choose one s i m Q p (inl a) = let c = s.choose i m (λ j x. Q j (Some x)) p a in (c.0, inl c.1)
maybe_choose one s i m Q p (inr b) = (b.0, inr b.1)

-- at most one
pub plain_maybe : {A : Type 0} {one : Lang A} → Plain one → Plain (maybe one)
plain_maybe {one = one} s = record {
  weaken = λ m K L f p h. elim h [ inl a ↦ inl (s.weaken m (λ x. K (Some x)) (λ x. L (Some x)) (λ x. f (Some x)) p a) | inr b ↦ inr (f None p b) ];
  choose = λ {I} i m Q p h. maybe_choose one s i m Q p h;
}

-- at most so many
pub plain_times : {A : Type 0} (n : ℕ) (one : Lang A) → Plain one → Plain (times n one)
unfolding times
plain_times zero one s = record { weaken = λ m K L f p h. f [] p h; choose = λ i m Q p h. h }
plain_times (suc n) one s = let t = plain_value joined (plain_maybe (s next plain_times n one s)) in record { weaken = t.weaken; choose = t.choose }

plain_commas : {A : Type 0} (n : ℕ) (one : Lang A) → Plain one → Plain (commas n one)
unfolding commas
plain_commas zero one s = record { weaken = λ m K L f p h. f [] p h; choose = λ i m Q p h. h }
plain_commas (suc n) one s = let t = plain_value listed (plain_maybe (s next plain_maybe (plain_tok (COMMA ∷ []) next plain_commas n one s))) in record
    { weaken = t.weaken; choose = t.choose }

any_choose : {A : Type 0} (some : ℕ → Lang A) → ((n : ℕ) → Plain (some n)) → {I : Type 0} (i : I) (m : Mode) (Q : I → A → List Token → Type 0)
    (p : List Token) → ((n : ℕ) × (some n).followed m (λ x q. (i : I) × Q i x q) p) → (i : I) × ((n : ℕ) × (some n).followed m (Q i) p)
any_choose some s i m Q p h = let c = (s h.0).choose i m Q p h.1 in (c.0, (h.0, c.1))

plain_many : {A : Type 0} {one : Lang A} → Plain one → Plain (many one)
plain_many {one = one} s = record {
  weaken = λ m K L f p h. (h.0, (plain_times h.0 one s).weaken m K L f p h.1);
  choose = λ {I} i m Q p h. any_choose (λ n. times n one) (λ n. plain_times n one s) i m Q p h;
}

plain_list : {A : Type 0} {one : Lang A} → Plain one → Plain (list one)
plain_list {one = one} s = record {
  weaken = λ m K L f p h. (h.0, (plain_commas h.0 one s).weaken m K L f p h.1);
  choose = λ {I} i m Q p h. any_choose (λ n. commas n one) (λ n. plain_commas n one s) i m Q p h;
}

plain_identifier : Plain identifier
unfolding identifier
plain_identifier = plain_value identifier_of (plain_tok identifiers)

plain_number : Plain number
unfolding number
plain_number = plain_value number_of (plain_tok (NUMBER ∷ []))

plain_string : Plain string
unfolding string
plain_string = plain_value string_of (plain_tok (STRING ∷ []))

plain_name : Plain name
unfolding name dotted
plain_name = plain_value make_name (plain_identifier next plain_many (plain_value behind (plain_tok (DOT ∷ []) next plain_identifier)))

plain_given : Plain value
unfolding value boolean signed
plain_given = plain_value values.String plain_string
    otherwise (plain_value make_true (plain_tok (TRUE ∷ [])) otherwise plain_value make_false (plain_tok (FALSE ∷ [])))
    otherwise (plain_value make_number plain_number otherwise plain_value make_plus (plain_tok (PLUS ∷ []) next plain_number) otherwise plain_value make_minus
    (plain_tok (MINUS ∷ []) next plain_number))
    otherwise plain_value values.Name plain_name

plain_attribute : Plain attribute
unfolding attribute assigned
plain_attribute = plain_value make_attribute (plain_identifier next plain_maybe (plain_value behind (plain_tok (EQUALS ∷ []) next plain_given)))

-- for what attributes belong to
pub plain_attributes : Plain attributes
unfolding attributes bracketed
plain_attributes = plain_value (λ o. unwrap_or o []) (plain_maybe (plain_value inner
    (plain_tok (OPEN_BRACKET ∷ []) next plain_list plain_attribute next plain_tok (CLOSE_BRACKET ∷ []))))

-- for the statement of a module
pub plain_module_name : Plain module_name
unfolding module_name
plain_module_name = plain_value inner (plain_tok (MODULE ∷ []) next plain_name next plain_tok (SEMICOLON ∷ []))

-- for imports
pub plain_import_path : Plain import_path
unfolding import_path
plain_import_path = plain_value inner (plain_tok (IMPORT ∷ []) next plain_string next plain_tok (SEMICOLON ∷ []))

-- for files
pub plain_module : Plain module_of
unfolding module_of
plain_module = plain_value make_module (plain_attributes next plain_module_name)

-- for files
pub plain_import : Plain import_of
unfolding import_of
plain_import = plain_value make_import (plain_attributes next plain_import_path)

abbrev side : {A : Type 0} → (A → List Token → Type 0) → (A → List Token → Type 0) → Bool → A → List Token → Type 0
side K L true = K
side K L false = L

side_of : {A : Type 0} (K L : A → List Token → Type 0) (x : A) (q : List Token) → K x q ⊎ L x q → (b : Bool) × side K L b x q
side_of K L x q (inl a) = (true, a)
side_of K L x q (inr b) = (false, b)

by_side : {A : Type 0} (one : Lang A) (m : Mode) (K L : A → List Token → Type 0) (p : List Token) (b : Bool) → one.followed m (side K L b) p
    → one.followed m K p ⊎ one.followed m L p
by_side one m K L p true h = inl h
by_side one m K L p false h = inr h

-- A choice of two made before the rule.
pub decide : {A : Type 0} {one : Lang A} → Plain one → (m : Mode) (K L : A → List Token → Type 0) (p : List Token) → one.followed m (λ x q. K x q ⊎ L x q) p
    → one.followed m K p ⊎ one.followed m L p
decide {one = one} s m K L p h = let c = s.choose true m (side K L) p (s.weaken m (λ x q. K x q ⊎ L x q) (λ x q. (b : Bool) × side K L b x q)
    (side_of K L) p h) in by_side one m K L p c.0 c.1
