-- What a rule is: which bytes it spells, which are a beginning of it, and how it is read from left to right.
use Rattle.std.specs.Prelude.{◌≡◌, ℕ, zero, suc, List, [], ◌∷◌, length, Result, Ok, Err, Bool, true, false, ◌==◌, if◌then◌else◌, ◌++◌, ◌⊎◌}

-- Two questions on bytes, with one answer by cases on the rules: are they spelled whole, are they a beginning.
pub data Mode : Type 0 where
  Whole : Mode
  Begun : Mode

-- what holds where the bytes end before the rule does
abbrev pub Cut : Mode → Type 0
Cut Whole = ⊥
Cut Begun = Unit {0}

-- A value and the bytes after it; or how many bytes are left at the first with which nothing goes on.
abbrev pub Read : Type 0 → Type 0
Read A = Result (A × List ℕ) ℕ

-- on with what was read
infixl 10 ◌>>=◌
abbrev pub ◌>>=◌ : {A B : Type 0} → Result A ℕ → (A → Result B ℕ) → Result B ℕ
(Ok x) >>= f = f x
(Err e) >>= f = Err e

-- followed m Rest bs: bs is the rule with some value, and then what Rest says of that value and the bytes left.
pub record Lang (A : Type 0) : Type 1 where
  pub followed : Mode → (A → List ℕ → Type 0) → List ℕ → Type 0
  pub read : List ℕ → Read A

-- whether there is a next byte that passes
abbrev pub front_is : (ℕ → Bool) → List ℕ → Bool
front_is p [] = false
front_is p (b ∷ bs) = p b

-- one byte that passes
abbrev pub byte_followed : (ℕ → Bool) → Mode → (ℕ → List ℕ → Type 0) → List ℕ → Type 0
byte_followed p m Rest [] = Cut m
byte_followed p m Rest (b ∷ bs) = (p b ≡ true) × Rest b bs

-- the next byte, if it passes
abbrev pub byte_read : (ℕ → Bool) → List ℕ → Read ℕ
byte_read p [] = Err 0
byte_read p (b ∷ bs) = if p b then Ok (b, bs) else Err (length (b ∷ bs))

-- a byte that passes
abbrev pub byte_in : (ℕ → Bool) → Lang ℕ
byte_in p = record { followed = byte_followed p; read = byte_read p }

-- this byte
abbrev pub byte : ℕ → Lang ℕ
byte c = byte_in (λ b. b == c)

-- the same with another value
abbrev pub as_value : {A B : Type 0} → (A → B) → Lang A → Lang B
as_value f one = record { followed = λ m Rest. one.followed m (λ x. Rest (f x)); read = λ bs. one.read bs >>= λ x. Ok (f x.0, x.1) }

-- one, and then what its value asks for
infixr 20 ◌then◌
abbrev pub ◌then◌ : {A B : Type 0} → Lang A → (A → Lang B) → Lang B
one then two = record { followed = λ m Rest. one.followed m (λ x. (two x).followed m Rest); read = λ bs. one.read bs >>= λ x. (two x.0).read x.1 }

-- a byte, and then one
infixr 20 ◌▸◌
abbrev pub ◌▸◌ : {A : Type 0} → ℕ → Lang A → Lang A
c ▸ one = byte c then λ b. one

-- one or the other; one where its first byte passes
abbrev pub choice : {A : Type 0} → (ℕ → Bool) → Lang A → Lang A → Lang A
choice p one two = record {
  followed = λ m Rest bs. one.followed m Rest bs
      ⊎ two.followed m Rest bs;
  read = λ bs. if front_is p bs then one.read bs else two.read bs;
}

-- nothing at all: no byte goes on
abbrev pub never : {A : Type 0} → A → Lang A
never x = as_value (λ b. x) (byte_in (λ b. false))

-- a byte that ends something
abbrev pub closed : {A : Type 0} → ℕ → A → Lang A
closed c x = as_value (λ b. x) (byte c)

-- at most n of one, and then a byte that ends them
unfoldable pub until : {A : Type 0} → ℕ → ℕ → Lang A → Lang (List A)
until c zero one = closed c []
until c (suc n) one = choice (λ b. b == c) (closed c []) (one then λ x. as_value (λ xs. x ∷ xs) (until c n one))

-- however many of one, and then a byte that ends them
abbrev pub many : {A : Type 0} → ℕ → Lang A → Lang (List A)
many c one = record { followed = λ m Rest bs. (n : ℕ) × (until c n one).followed m Rest bs; read = λ bs. (until c (length bs) one).read bs }

-- however many of one with commas between, and then a byte that ends them
abbrev pub listed : {A : Type 0} → ℕ → Lang A → Lang (List A)
listed c one = choice (λ b. b == c) (closed c []) (one then λ x. as_value (λ xs. x ∷ xs) (many c (44 ▸ one)))

-- exactly n of one, each after a comma, and then a byte that ends them
unfoldable pub rest_of : {A : Type 0} → ℕ → ℕ → Lang A → Lang (List A)
rest_of c zero one = closed c []
rest_of c (suc n) one = 44 ▸ one then λ x. as_value (λ xs. x ∷ xs) (rest_of c n one)

-- exactly n of one with commas between, and then a byte that ends them
unfoldable pub exactly : {A : Type 0} → ℕ → ℕ → Lang A → Lang (List A)
exactly c zero one = closed c []
exactly c (suc n) one = one then λ x. as_value (λ xs. x ∷ xs) (rest_of c n one)

-- one of words: each value x with In x has its word; how it is read is given
pub record Words (A : Type 0) : Type 1 where
  pub In : A → Type 0
  pub spelled : A → List ℕ
  pub scan : List ℕ → Read A

-- a word of these: it stands whole, or is cut
abbrev pub words : {A : Type 0} → Words A → Lang A
words {A} w = record {
  followed = λ m Rest bs. ((x : A) × (rest : List ℕ) × w.In x × (bs ≡ w.spelled x ++ rest) × Rest x rest)
      ⊎ (Cut m × ((x : A) × (more : List ℕ) × w.In x × (w.spelled x ≡ bs ++ more)));
  read = w.scan;
}
