-- What a rule spells is spelled again by the sorts that its value shows.
use Rattle.std.proofs.Common.{◌≡◌, ℕ, zero, suc, List, [], ◌∷◌, ◌++◌, Option, Some, None, true, inl, inr, refl, ap, subst}
use Rattle.std.specs.Prelude.{map, IsUtf8}
use Rattle.std.specs.Option.{option_map}
use Rattle.std.specs.List.{flat_map}
use Rattle.mojom_ast.specs.declared.token.Keyword.{Keyword}
use Rattle.mojom_ast.specs.declared.token.Symbol.{Symbol}
use Rattle.mojom_ast.specs.declared.token.Sort.{Sort}
use Rattle.mojom_ast.specs.declared.token.Sort.TheVariants as sorts
use Rattle.mojom_ast.specs.declared.token.Token.{Token}
use Rattle.mojom_ast.specs.Classes.{class, keyword_class, symbol_class}
use Rattle.mojom_ast.specs.Lang.{Lang, Whole, has, tok, keyword, symbol, ◌▹◌, as_value, ◌or◌, maybe, times, many, joined}
use Rattle.mojom_lexer.specs.Lexed.{SpellsSort}
use Rattle.mojom_print.proofs.Shows.{sort_of, token_off, both_off, Shows, shows_tok, shows_sorts, shows_seq, shows_value, shows_left, shows_right, shows_some, shows_none, shows_no_times, shows_many}
use Rattle.mojom_print.proofs.FixedSorts.{keyword_sort, symbol_sort}

-- what a string stands for is a text
abbrev pub IsText : Sort → Type 0
IsText (sorts.Identifier text) = Unit {0}
IsText (sorts.Keyword k) = Unit {0}
IsText (sorts.Number n) = Unit {0}
IsText (sorts.String bytes) = IsUtf8 bytes
IsText (sorts.Symbol s) = Unit {0}

-- bytes are a token of the sort
pub record Lexical (s : Sort) : Type 0 where
  pub bytes : List ℕ
  pub spelled : SpellsSort s bytes
  pub text : IsText s

-- each sort has bytes
abbrev pub AllLexical : List Sort → Type 0
AllLexical [] = Unit {0}
AllLexical (s ∷ ss) = Lexical s × AllLexical ss

-- for rules one after the other
pub lexical_both : (xs ys : List Sort) → AllLexical xs → AllLexical ys → AllLexical (xs ++ ys)
lexical_both [] ys h k = k
lexical_both (x ∷ xs) ys h k = (h.0, lexical_both xs ys h.1 k)

-- a rule's value, of which the sorts spell it, and the tokens left
pub record Printed {A : Type 0} (one : Lang A) (off : A → A) (sorts_of : A → List Sort) (K : A → List Token → Type 0) : Type 1 where
  pub value : A
  pub left : List Token
  pub next : K value left
  pub all : AllLexical (map sort_of left)
  pub good : AllLexical (sorts_of value)
  pub shows : Shows one off value (sorts_of value)

-- what a rule spells it spells again by the sorts of the value
pub record Prints {A : Type 0} (one : Lang A) (off : A → A) (sorts_of : A → List Sort) : Type 1 where
  pub printed : (K : A → List Token → Type 0) (ts : List Token) → AllLexical (map sort_of ts) → one.followed Whole K ts → Printed one off sorts_of K

-- a token
token_printed : (cs : List ℕ) (sorts_of : Token → List Sort) → ((t : Token) → has cs (class t) ≡ true → t.sort ∷ [] ≡ sorts_of t)
    → (K : Token → List Token → Type 0) (ts : List Token) → AllLexical (map sort_of ts) → (tok cs).followed Whole K ts → Printed (tok cs) token_off sorts_of K
token_printed cs sorts_of is K [] all h = absurd h
token_printed cs sorts_of is K (t ∷ ts) all h = record {
  value = t;
  left = ts;
  next = h.1;
  all = all.1;
  good = subst AllLexical (is t h.0) (all.0, tt);
  shows = shows_sorts (t.sort ∷ []) (sorts_of t) (is t h.0) (shows_tok cs t h.0);
}

-- for rules of one token
pub prints_tok : (cs : List ℕ) (sorts_of : Token → List Sort) → ((t : Token) → has cs (class t) ≡ true → t.sort ∷ [] ≡ sorts_of t)
    → Prints (tok cs) token_off sorts_of
prints_tok cs sorts_of is = record { printed = token_printed cs sorts_of is }

-- for the rules that have a keyword
pub prints_keyword : (k : Keyword) → Prints (keyword k) token_off (λ t. sorts.Keyword k ∷ [])
prints_keyword k = prints_tok (keyword_class k ∷ []) (λ t. sorts.Keyword k ∷ []) (λ t h. ap (λ (s : Sort). s ∷ []) (keyword_sort k t.sort h))

-- for the rules that have a symbol
pub prints_symbol : (k : Symbol) → Prints (symbol k) token_off (λ t. sorts.Symbol k ∷ [])
prints_symbol k = prints_tok (symbol_class k ∷ []) (λ t. sorts.Symbol k ∷ []) (λ t h. ap (λ (s : Sort). s ∷ []) (symbol_sort k t.sort h))

-- one after the other
infixr 20 ◌then◌
pub ◌then◌ : {A B : Type 0} {one : Lang A} {two : Lang B} {o : A → A} {p : B → B} {s : A → List Sort} {t : B → List Sort} → Prints one o s
    → Prints two p t → Prints (one ▹ two) (both_off o p) (λ v. s v.0 ++ t v.1)
◌then◌ {A = A} {B = B} {one = one} {two = two} {o = o} {p = p} {s = s} {t = t} a b = record { printed = of }
  where
    of : (K : A × B → List Token → Type 0) (ts : List Token) → AllLexical (map sort_of ts) → (one ▹ two).followed Whole K ts
        → Printed (one ▹ two) (both_off o p) (λ v. s v.0 ++ t v.1) K
    of K ts all h =
        let f : Printed one o s (λ x. two.followed Whole (λ y. K (x, y))) = a.printed (λ x. two.followed Whole (λ y. K (x, y))) ts all h in
        let g : Printed two p t (λ y. K (f.value, y)) = b.printed (λ y. K (f.value, y)) f.left f.all f.next in
        record {
          value = (f.value, g.value);
          left = g.left;
          next = g.next;
          all = g.all;
          good = lexical_both (s f.value) (t g.value) f.good g.good;
          shows = shows_seq f.shows g.shows;
        }

-- the same with another value
pub prints_value : {A B : Type 0} {one : Lang A} {o : A → A} {s : A → List Sort} (f : A → B) (q : B → B) (t : B → List Sort)
    → ((v : A) → q (f v) ≡ f (o v)) → ((v : A) → s v ≡ t (f v)) → Prints one o s → Prints (as_value f one) q t
prints_value {A = A} {B = B} {one = one} {o = o} {s = s} f q t commutes sorts_are a = record { printed = of }
  where
    of : (K : B → List Token → Type 0) (ts : List Token) → AllLexical (map sort_of ts) → (as_value f one).followed Whole K ts → Printed (as_value f one) q t K
    of K ts all h =
        let g : Printed one o s (λ x. K (f x)) = a.printed (λ x. K (f x)) ts all h in
        record {
          value = f g.value;
          left = g.left;
          next = g.next;
          all = g.all;
          good = subst AllLexical (sorts_are g.value) g.good;
          shows = shows_sorts (s g.value) (t (f g.value)) (sorts_are g.value) (shows_value f q commutes g.shows);
        }

-- one or the other
infixr 15 ◌or_else◌
pub ◌or_else◌ : {A : Type 0} {one two : Lang A} {o : A → A} {s : A → List Sort} → Prints one o s → Prints two o s → Prints (one or two) o s
◌or_else◌ {A = A} {one = one} {two = two} {o = o} {s = s} a b = record { printed = of }
  where
    first : (K : A → List Token → Type 0) → Printed one o s K → Printed (one or two) o s K
    first K g = record { value = g.value; left = g.left; next = g.next; all = g.all; good = g.good; shows = shows_left two g.shows }

    second : (K : A → List Token → Type 0) → Printed two o s K → Printed (one or two) o s K
    second K g = record { value = g.value; left = g.left; next = g.next; all = g.all; good = g.good; shows = shows_right one g.shows }

    of : (K : A → List Token → Type 0) (ts : List Token) → AllLexical (map sort_of ts) → (one or two).followed Whole K ts → Printed (one or two) o s K
    of K ts all (inl h) = first K (a.printed K ts all h)
    of K ts all (inr h) = second K (b.printed K ts all h)

-- at most one
abbrev pub option_sorts : {A : Type 0} → (A → List Sort) → Option A → List Sort
option_sorts s None = []
option_sorts s (Some x) = s x

-- for rules of which at most one stands
pub prints_maybe : {A : Type 0} {one : Lang A} {o : A → A} {s : A → List Sort} → Prints one o s → Prints (maybe one) (option_map o) (option_sorts s)
prints_maybe {A = A} {one = one} {o = o} {s = s} a = record { printed = of }
  where
    some : (K : Option A → List Token → Type 0) → Printed one o s (λ x. K (Some x)) → Printed (maybe one) (option_map o) (option_sorts s) K
    some K g = record { value = Some g.value; left = g.left; next = g.next; all = g.all; good = g.good; shows = shows_some g.shows }

    of : (K : Option A → List Token → Type 0) (ts : List Token) → AllLexical (map sort_of ts) → (maybe one).followed Whole K ts
        → Printed (maybe one) (option_map o) (option_sorts s) K
    of K ts all (inl h) = some K (a.printed (λ x. K (Some x)) ts all h)
    of K ts all (inr h) = record { value = None; left = ts; next = h; all = all; good = tt; shows = shows_none one o }

-- however many
joined_off : {A : Type 0} (o : A → A) (v : Option (A × List A)) → map o (joined v) ≡ joined (option_map (both_off o (map o)) v)
joined_off o None = refl
joined_off o (Some x) = refl

joined_sorts : {A : Type 0} (s : A → List Sort) (v : Option (A × List A)) → option_sorts (λ x. s x.0 ++ flat_map s x.1) v ≡ flat_map s (joined v)
joined_sorts s None = refl
joined_sorts s (Some x) = refl

prints_times : {A : Type 0} {one : Lang A} {o : A → A} {s : A → List Sort} (n : ℕ) → Prints one o s → Prints (times n one) (map o) (flat_map s)
unfolding times
prints_times {one = one} {o = o} zero a =
    record { printed = λ K ts all h. record { value = []; left = ts; next = h; all = all; good = tt; shows = shows_no_times one o } }
prints_times {o = o} {s = s} (suc n) a = prints_value joined (map o) (flat_map s) (joined_off o) (joined_sorts s) (prints_maybe (a then prints_times n a))

-- for rules of which many stand
pub prints_many : {A : Type 0} {one : Lang A} {o : A → A} {s : A → List Sort} → Prints one o s → Prints (many one) (map o) (flat_map s)
prints_many {A = A} {one = one} {o = o} {s = s} a = record { printed = of }
  where
    wide : (n : ℕ) (K : List A → List Token → Type 0) → Printed (times n one) (map o) (flat_map s) K → Printed (many one) (map o) (flat_map s) K
    wide n K g = record { value = g.value; left = g.left; next = g.next; all = g.all; good = g.good; shows = shows_many one n g.shows }

    of : (K : List A → List Token → Type 0) (ts : List Token) → AllLexical (map sort_of ts) → (many one).followed Whole K ts
        → Printed (many one) (map o) (flat_map s) K
    of K ts all h = wide h.0 K ((prints_times h.0 a).printed K ts all h.1)
