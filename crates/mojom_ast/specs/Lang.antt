-- What a rule of the grammar is: which lists of tokens it spells, begins or nests too deep, and how it is read from
-- left to right. The promises of public calls speak of `followed` alone. `null`, `starts` and `read` (with `Read`, `front_in`
-- and what ends in `_read`) are the reading by one token ahead: they stand with the rule that they read, since each rule is
-- written once, and only private calls and proofs speak of them.
use Rattle.std.specs.Prelude.{◌≡◌, ℕ, zero, suc, List, [], ◌∷◌, length, Option, Some, None, Result, Ok, Err, Bool, true, false, nat_eq, if◌then◌else◌, ◌++◌, ◌⊎◌}
use Rattle.mojom_ast.specs.declared.fault.Fault.{Fault}
use Rattle.mojom_ast.specs.declared.fault.Fault.TheVariants.{Unexpected, TooNested}
use Rattle.mojom_ast.specs.declared.token.Token.{Token}
use Rattle.mojom_ast.specs.declared.token.Keyword.{Keyword}
use Rattle.mojom_ast.specs.declared.token.Symbol.{Symbol}
use Rattle.mojom_ast.specs.declared.token.Symbol.TheVariants.{Comma}
use Rattle.mojom_ast.specs.Classes.{class, keyword_class, symbol_class}

-- Three questions on a list of tokens, with one answer by cases on the grammar: is it spelled whole, is it a
-- beginning, does it end with the first token of a type that stands inside too many others.
pub data Mode : Type 0 where
  Whole : Mode
  Begun : Mode
  Deep : Mode

-- what holds where the list ends before the rule does
abbrev pub Cut : Mode → Type 0
Cut Whole = ⊥
Cut Begun = Unit {0}
Cut Deep = ⊥

-- what holds at the first token of a type inside too many others
abbrev pub Over : Mode → Type 0
Over Whole = ⊥
Over Begun = ⊥
Over Deep = Unit {0}

-- A value and the tokens after it, or the first fault.
abbrev pub Read : Type 0 → Type 0
Read A = Result (A × List Token) Fault

-- what is read next, where nothing was at fault before
infixl 10 ◌>>=◌
abbrev pub ◌>>=◌ : {A B : Type 0} → Result A Fault → (A → Result B Fault) → Result B Fault
(Ok x) >>= f = f x
(Err e) >>= f = Err e

-- followed m Rest ts: ts is the rule with some value, and then what Rest says of that value and the tokens left.
-- null: whether the rule may be nothing; starts: the classes of its first tokens; read: the reading by one token ahead.
pub record Lang (A : Type 0) : Type 1 where
  pub null : Bool
  pub starts : List ℕ
  pub followed : Mode → (A → List Token → Type 0) → List Token → Type 0
  pub read : List Token → Read A

-- whether a class is among these
abbrev pub has : List ℕ → ℕ → Bool
has [] c = false
has (x ∷ xs) c = if nat_eq c x then true else has xs c

-- whether the next token is of one of these classes
abbrev pub front_in : List ℕ → List Token → Bool
front_in cs [] = false
front_in cs (t ∷ ts) = has cs (class t)

-- one token of these classes
abbrev pub tok_followed : List ℕ → Mode → (Token → List Token → Type 0) → List Token → Type 0
tok_followed cs m Rest [] = Cut m
tok_followed cs m Rest (t ∷ ts) = (has cs (class t) ≡ true) × Rest t ts

-- that token, or a fault at it
abbrev pub tok_read : List ℕ → List Token → Read Token
tok_read cs [] = Err (Unexpected 0)
tok_read cs (t ∷ ts) = if has cs (class t) then Ok (t, ts) else Err (Unexpected (length (t ∷ ts)))

-- the rule of one token of these classes
abbrev pub tok : List ℕ → Lang Token
tok cs = record { null = false; starts = cs; followed = tok_followed cs; read = tok_read cs }

-- the rule of a keyword
abbrev pub keyword : Keyword → Lang Token
keyword k = tok (keyword_class k ∷ [])

-- the rule of a symbol
abbrev pub symbol : Symbol → Lang Token
symbol s = tok (symbol_class s ∷ [])

-- reading one and then the other
abbrev pub seq_read : {A B : Type 0} → Lang A → Lang B → List Token → Read (A × B)
seq_read one two ts = do
  x ← one.read ts
  y ← two.read x.1
  Ok ((x.0, y.0), y.1)

-- one after the other
infixr 20 ◌▹◌
abbrev pub ◌▹◌ : {A B : Type 0} → Lang A → Lang B → Lang (A × B)
one ▹ two = record {
  null = if one.null then two.null else false;
  starts = if one.null then one.starts ++ two.starts else one.starts;
  followed = λ m Rest. one.followed m (λ x. two.followed m (λ y. Rest (x, y)));
  read = seq_read one two;
}

-- the same with another value
abbrev pub as_value : {A B : Type 0} → (A → B) → Lang A → Lang B
as_value f one = record {
  null = one.null;
  starts = one.starts;
  followed = λ m Rest. one.followed m (λ x. Rest (f x));
  read = λ ts. one.read ts >>= λ x. Ok (f x.0, x.1);
}

-- reading one where it begins with the next token, and else the other
abbrev pub either_read : {A : Type 0} → Lang A → Lang A → List Token → Read A
either_read one two ts = if front_in one.starts ts then one.read ts else two.read ts

-- one or the other
infixr 15 ◌or◌
abbrev pub ◌or◌ : {A : Type 0} → Lang A → Lang A → Lang A
one or two = record {
  null = if one.null then true else two.null;
  starts = one.starts ++ two.starts;
  followed = λ m Rest ts. one.followed m Rest ts ⊎ two.followed m Rest ts;
  read = either_read one two;
}

-- reading one where it begins with the next token, and else nothing
abbrev pub maybe_read : {A : Type 0} → Lang A → List Token → Read (Option A)
maybe_read one ts = if front_in one.starts ts then (one.read ts >>= λ x. Ok (Some x.0, x.1)) else Ok (None, ts)

-- at most one
abbrev pub maybe : {A : Type 0} → Lang A → Lang (Option A)
maybe one = record {
  null = true;
  starts = one.starts;
  followed = λ m Rest ts. one.followed m (λ x. Rest (Some x)) ts ⊎ Rest None ts;
  read = maybe_read one;
}

-- nothing
abbrev pub none : {A : Type 0} → A → Lang A
none x = record { null = true; starts = []; followed = λ m Rest. Rest x; read = λ ts. Ok (x, ts) }

-- the list of a first and others, where there are any
abbrev pub joined : {A : Type 0} → Option (A × List A) → List A
joined None = []
joined (Some x) = x.0 ∷ x.1

-- at most n of one, one after the other
unfoldable pub times : {A : Type 0} → ℕ → Lang A → Lang (List A)
times zero one = record (none []) { starts = one.starts }
times (suc n) one = as_value joined (maybe (one ▹ times n one))

-- what stands behind a comma, where there is one
abbrev pub after_comma : {A : Type 0} → Option (Token × List A) → List A
after_comma None = []
after_comma (Some y) = y.1

-- the list of a first and what stands behind its comma, where there are any
abbrev pub listed : {A : Type 0} → Option (A × Option (Token × List A)) → List A
listed None = []
listed (Some x) = x.0 ∷ after_comma x.1

-- at most n of one with commas between them, and maybe one after the last
unfoldable pub commas : {A : Type 0} → ℕ → Lang A → Lang (List A)
commas zero one = record (none []) { starts = one.starts }
commas (suc n) one = as_value listed (maybe (one ▹ maybe (symbol Comma ▹ commas n one)))

-- one of these rules, whichever the number
abbrev pub any : {A : Type 0} → (ℕ → Lang A) → Lang A
any some = record {
  null = true;
  starts = (some 1).starts;
  followed = λ m Rest ts. (n : ℕ) × (some n).followed m Rest ts;
  read = λ ts. (some (length ts)).read ts;
}

-- however many, one after the other
abbrev pub many : {A : Type 0} → Lang A → Lang (List A)
many one = any (λ n. times n one)

-- however many with commas between them, and maybe one after the last
abbrev pub list : {A : Type 0} → Lang A → Lang (List A)
list one = any (λ n. commas n one)

-- nothing but the first token of one, which stands too deep
abbrev pub deep_followed : {A : Type 0} → List ℕ → Mode → (A → List Token → Type 0) → List Token → Type 0
deep_followed cs m Rest [] = Cut m
deep_followed cs m Rest (t ∷ ts) = (has cs (class t) ≡ true) × Over m × (ts ≡ [])

-- the fault at that token
abbrev pub deep_read : {A : Type 0} → List ℕ → List Token → Read A
deep_read cs ts = if front_in cs ts then Err (TooNested (length ts)) else Err (Unexpected (length ts))

-- the rule of what stands inside too many others
abbrev pub deep : {A : Type 0} → List ℕ → Lang A
deep cs = record { null = false; starts = cs; followed = deep_followed cs; read = deep_read cs }

-- the same, with what it begins with written out
abbrev pub labelled : {A : Type 0} → List ℕ → Lang A → Lang A
labelled cs one = record { null = false; starts = cs; followed = one.followed; read = one.read }
