-- From one question on a list of tokens to another, on it or on a front of it: what leads over at a token and at a
-- type that stands too deep leads over at each way to put rules together.
use Rattle.std.proofs.Common.{ℕ, zero, suc, List, [], ◌∷◌, Some, None, inl, inr}
use Rattle.mojom_ast.specs.declared.classes.TheConstants.{COMMA}
use Rattle.mojom_ast.specs.declared.token.Token.{Token}
use Rattle.mojom_ast.specs.TypeTrees.{TypeTree}
use Rattle.mojom_ast.specs.Lang.{Mode, Lang, tok, ◌▹◌, as_value, ◌or◌, maybe, times, commas, joined, listed, many, list}
use Rattle.mojom_ast.specs.Grammar.{type_at}

-- What is known of the extended list is wanted of the list, with so many more levels of types.
pub record Change : Type 1 where
  pub known : Mode
  pub wanted : Mode
  pub extended : List Token → List Token
  pub levels : ℕ
  pub token : (classes : List ℕ) (K L : Token → List Token → Type 0) → ((x : Token) (q : List Token) → K x (extended q) → L x q)
      → (p : List Token) → (tok classes).followed known K (extended p) → (tok classes).followed wanted L p
  pub deepest : (K L : TypeTree → List Token → Type 0) (p : List Token) → (type_at 0).followed known K (extended p) → (type_at levels).followed wanted L p

-- levels more than n
abbrev pub more : ℕ → ℕ → ℕ
more levels zero = levels
more levels (suc n) = suc (more levels n)

-- what is known by one rule is wanted by the other
pub record Carries {A : Type 0} (c : Change) (one two : Lang A) : Type 1 where
  pub carry : (K L : A → List Token → Type 0) → ((x : A) (q : List Token) → K x (c.extended q) → L x q)
      → (p : List Token) → one.followed c.known K (c.extended p) → two.followed c.wanted L p

-- one token
pub carry_tok : {c : Change} (classes : List ℕ) → Carries c (tok classes) (tok classes)
carry_tok {c} classes = record { carry = c.token classes }

-- the same with another value
pub carry_value : {A B : Type 0} {c : Change} {one two : Lang A} (g : A → B) → Carries c one two → Carries c (as_value g one) (as_value g two)
carry_value g s = record { carry = λ K L f p h. s.carry (λ x. K (g x)) (λ x. L (g x)) (λ x. f (g x)) p h }

-- one rule after the other
infixr 20 ◌then◌
pub ◌then◌ : {A B : Type 0} {c : Change} {a1 a2 : Lang A} {b1 b2 : Lang B} → Carries c a1 a2 → Carries c b1 b2 → Carries c (a1 ▹ b1) (a2 ▹ b2)
◌then◌ {c = c} {b1 = b1} {b2 = b2} s t = record {
  carry = λ K L f p h. s.carry (λ x. b1.followed c.known (λ y. K (x, y))) (λ x. b2.followed c.wanted (λ y. L (x, y)))
      (λ x q k. t.carry (λ y. K (x, y)) (λ y. L (x, y)) (λ y. f (x, y)) q k) p h;
}

-- one rule or the other
infixr 15 ◌or_else◌
pub ◌or_else◌ : {A : Type 0} {c : Change} {a1 a2 b1 b2 : Lang A} → Carries c a1 a2 → Carries c b1 b2 → Carries c (a1 or b1) (a2 or b2)
s or_else t = record { carry = λ K L f p h. elim h [ inl a ↦ inl (s.carry K L f p a) | inr b ↦ inr (t.carry K L f p b) ] }

-- at most one
pub carry_maybe : {A : Type 0} {c : Change} {one two : Lang A} → Carries c one two → Carries c (maybe one) (maybe two)
carry_maybe s = record {
  carry = λ K L f p h. elim h [ inl a ↦ inl (s.carry (λ x. K (Some x)) (λ x. L (Some x)) (λ x. f (Some x)) p a) | inr b ↦ inr (f None p b) ];
}

carry_times : {A : Type 0} {c : Change} (n : ℕ) (one two : Lang A) → Carries c one two → Carries c (times n one) (times n two)
unfolding times
carry_times zero one two s = record { carry = λ K L f p h. f [] p h }
carry_times (suc n) one two s = record { carry = (carry_value joined (carry_maybe (s then carry_times n one two s))).carry }

carry_commas : {A : Type 0} {c : Change} (n : ℕ) (one two : Lang A) → Carries c one two → Carries c (commas n one) (commas n two)
unfolding commas
carry_commas zero one two s = record { carry = λ K L f p h. f [] p h }
carry_commas (suc n) one two s = record {
  carry = (carry_value listed (carry_maybe (s then carry_maybe (carry_tok (COMMA ∷ []) then carry_commas n one two s)))).carry;
}

-- however many
pub carry_many : {A : Type 0} {c : Change} {one two : Lang A} → Carries c one two → Carries c (many one) (many two)
carry_many {one = one} {two = two} s = record { carry = λ K L f p h. (h.0, (carry_times h.0 one two s).carry K L f p h.1) }

-- however many, with commas
pub carry_list : {A : Type 0} {c : Change} {one two : Lang A} → Carries c one two → Carries c (list one) (list two)
carry_list {one = one} {two = two} s = record { carry = λ K L f p h. (h.0, (carry_commas h.0 one two s).carry K L f p h.1) }
