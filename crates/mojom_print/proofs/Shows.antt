-- Which sorts of tokens spell a value of a rule, wherever the tokens stand.
use Rattle.std.proofs.Common.{◌≡◌, ℕ, zero, suc, List, [], ◌∷◌, ◌++◌, Some, None, true, inl, inr, refl, sym, ◌∙◌, ap, subst, append_assoc}
use Rattle.std.specs.Prelude.{map}
use Rattle.std.specs.Option.{option_map}
use Rattle.mojom_ast.specs.declared.token.Sort.{Sort}
use Rattle.mojom_ast.specs.declared.token.Token.{Token}
use Rattle.mojom_ast.specs.Classes.{class, class_of}
use Rattle.mojom_ast.specs.Lang.{Lang, Mode, has, tok, ◌▹◌, as_value, ◌or◌, maybe, times, commas, many, list}
use Rattle.mojom_print.specs.Unplaced.{nowhere}

-- what a token is
abbrev pub sort_of : Token → Sort
sort_of t = t.sort

-- tokens, pairs without places
abbrev pub token_off : Token → Token
token_off t = record { sort = t.sort; span = nowhere }

-- a pair without places
abbrev pub both_off : {A B : Type 0} → (A → A) → (B → B) → A × B → A × B
both_off o p x = (o x.0, p x.1)

-- tokens begin with a value that is the same but for places, and the other tokens have the other sorts
pub record Found {A : Type 0} (one : Lang A) (off : A → A) (x : A) (ts : List Token) (rest : List Sort) : Type 1 where
  pub value : A
  pub left : List Token
  pub same : off value ≡ off x
  pub sorts : map sort_of left ≡ rest
  pub follows : (m : Mode) (K : A → List Token → Type 0) → K value left → one.followed m K ts

-- all tokens of these sorts are the value but for places
pub record Shows {A : Type 0} (one : Lang A) (off : A → A) (x : A) (sorts : List Sort) : Type 1 where
  pub shown : (ts : List Token) (rest : List Sort) → map sort_of ts ≡ sorts ++ rest → Found one off x ts rest

-- a token
token_found : (cs : List ℕ) (t : Token) → has cs (class t) ≡ true → (ts : List Token) (rest : List Sort) → map sort_of ts ≡ t.sort ∷ rest
    → Found (tok cs) token_off t ts rest
token_found cs t h [] rest e = absurd (cc)
token_found cs t h (u ∷ us) rest e =
    let s : u.sort ≡ t.sort = cc in
    let r : map sort_of us ≡ rest = cc in
    record {
      value = u;
      left = us;
      same = ap (λ (x : Sort). record { sort = x; span = nowhere }) s;
      sorts = r;
      follows = λ m K k. (subst (λ (x : Sort). has cs (class_of x) ≡ true) (sym s) h, k);
    }

-- for rules of one token
pub shows_tok : (cs : List ℕ) (t : Token) → has cs (class t) ≡ true → Shows (tok cs) token_off t (t.sort ∷ [])
shows_tok cs t h = record { shown = λ ts rest e. token_found cs t h ts rest e }

-- sorts put together otherwise
pub shows_sorts : {A : Type 0} {one : Lang A} {off : A → A} {x : A} (xs ys : List Sort) → xs ≡ ys → Shows one off x xs → Shows one off x ys
shows_sorts {one = one} {off = off} {x = x} xs ys e s = subst (λ (l : List Sort). Shows one off x l) e s

-- a value that is the same but for places
pub shows_same : {A : Type 0} {one : Lang A} {off : A → A} {s : List Sort} (x y : A) → off x ≡ off y → Shows one off x s → Shows one off y s
shows_same {A = A} {one = one} {off = off} {s = s} x y e a = record { shown = of }
  where
    of : (ts : List Token) (rest : List Sort) → map sort_of ts ≡ s ++ rest → Found one off y ts rest
    of ts rest h =
        let g : Found one off x ts rest = a.shown ts rest h in
        record { value = g.value; left = g.left; same = g.same ∙ e; sorts = g.sorts; follows = g.follows }

-- one after the other
pub shows_seq : {A B : Type 0} {one : Lang A} {two : Lang B} {o : A → A} {p : B → B} {x : A} {y : B} {xs ys : List Sort} → Shows one o x xs
    → Shows two p y ys → Shows (one ▹ two) (both_off o p) (x, y) (xs ++ ys)
shows_seq {A = A} {B = B} {one = one} {two = two} {o = o} {p = p} {x = x} {y = y} {xs = xs} {ys = ys} a b = record { shown = both }
  where
    both : (ts : List Token) (rest : List Sort) → map sort_of ts ≡ (xs ++ ys) ++ rest → Found (one ▹ two) (both_off o p) (x, y) ts rest
    both ts rest e =
        let f : Found one o x ts (ys ++ rest) = a.shown ts (ys ++ rest) (e ∙ append_assoc xs ys rest) in
        let g : Found two p y f.left rest = b.shown f.left rest f.sorts in
        record {
          value = (f.value, g.value);
          left = g.left;
          same = ap (λ (v : A). let w : A × B = (v, p g.value) in w) f.same ∙ ap (λ (w : B). let v : A × B = (o x, w) in v) g.same;
          sorts = g.sorts;
          follows = λ m K k. f.follows m (λ v. two.followed m (λ w. K (v, w))) (g.follows m (λ w. K (f.value, w)) k);
        }

-- the same with another value
pub shows_value : {A B : Type 0} {one : Lang A} {o : A → A} {x : A} {xs : List Sort} (f : A → B) (q : B → B) → ((v : A) → q (f v) ≡ f (o v))
    → Shows one o x xs → Shows (as_value f one) q (f x) xs
shows_value {A = A} {B = B} {one = one} {o = o} {x = x} {xs = xs} f q commutes a = record { shown = of }
  where
    of : (ts : List Token) (rest : List Sort) → map sort_of ts ≡ xs ++ rest → Found (as_value f one) q (f x) ts rest
    of ts rest e =
        let g : Found one o x ts rest = a.shown ts rest e in
        record {
          value = f g.value;
          left = g.left;
          same = commutes g.value ∙ ap f g.same ∙ sym (commutes x);
          sorts = g.sorts;
          follows = λ m K k. g.follows m (λ v. K (f v)) k;
        }

-- one or the other
pub shows_left : {A : Type 0} {one : Lang A} {o : A → A} {x : A} {xs : List Sort} (two : Lang A) → Shows one o x xs → Shows (one or two) o x xs
shows_left {one = one} {o = o} {x = x} {xs = xs} two a = record { shown = of }
  where
    of : (ts : List Token) (rest : List Sort) → map sort_of ts ≡ xs ++ rest → Found (one or two) o x ts rest
    of ts rest e =
        let g : Found one o x ts rest = a.shown ts rest e in
        record { value = g.value; left = g.left; same = g.same; sorts = g.sorts; follows = λ m K k. inl (g.follows m K k) }

-- for rules of which the second holds
pub shows_right : {A : Type 0} {two : Lang A} {o : A → A} {x : A} {xs : List Sort} (one : Lang A) → Shows two o x xs → Shows (one or two) o x xs
shows_right {two = two} {o = o} {x = x} {xs = xs} one a = record { shown = of }
  where
    of : (ts : List Token) (rest : List Sort) → map sort_of ts ≡ xs ++ rest → Found (one or two) o x ts rest
    of ts rest e =
        let g : Found two o x ts rest = a.shown ts rest e in
        record { value = g.value; left = g.left; same = g.same; sorts = g.sorts; follows = λ m K k. inr (g.follows m K k) }

-- at most one
pub shows_some : {A : Type 0} {one : Lang A} {o : A → A} {x : A} {xs : List Sort} → Shows one o x xs → Shows (maybe one) (option_map o) (Some x) xs
shows_some {one = one} {o = o} {x = x} {xs = xs} a = record { shown = of }
  where
    of : (ts : List Token) (rest : List Sort) → map sort_of ts ≡ xs ++ rest → Found (maybe one) (option_map o) (Some x) ts rest
    of ts rest e =
        let g : Found one o x ts rest = a.shown ts rest e in
        record { value = Some g.value; left = g.left; same = ap Some g.same; sorts = g.sorts; follows = λ m K k. inl (g.follows m (λ v. K (Some v)) k) }

-- for rules of which none stands
pub shows_none : {A : Type 0} (one : Lang A) (o : A → A) → Shows (maybe one) (option_map o) None []
shows_none one o = record { shown = λ ts rest e. record { value = None; left = ts; same = refl; sorts = e; follows = λ m K k. inr k } }

-- none of many
pub shows_no_times : {A : Type 0} (one : Lang A) (o : A → A) → Shows (times 0 one) (map o) [] []
unfolding times
shows_no_times one o = record { shown = λ ts rest e. record { value = []; left = ts; same = refl; sorts = e; follows = λ m K k. k } }

-- for lists of none
pub shows_no_commas : {A : Type 0} (n : ℕ) (one : Lang A) (o : A → A) → Shows (commas n one) (map o) [] []
unfolding commas
shows_no_commas zero one o = record { shown = λ ts rest e. record { value = []; left = ts; same = refl; sorts = e; follows = λ m K k. k } }
shows_no_commas (suc n) one o = record { shown = λ ts rest e. record { value = []; left = ts; same = refl; sorts = e; follows = λ m K k. inr k } }

-- however many
pub shows_many : {A : Type 0} {o : A → A} {x : List A} {xs : List Sort} (one : Lang A) (n : ℕ) → Shows (times n one) (map o) x xs
    → Shows (many one) (map o) x xs
shows_many {A = A} {o = o} {x = x} {xs = xs} one n a = record { shown = of }
  where
    of : (ts : List Token) (rest : List Sort) → map sort_of ts ≡ xs ++ rest → Found (many one) (map o) x ts rest
    of ts rest e =
        let g : Found (times n one) (map o) x ts rest = a.shown ts rest e in
        record { value = g.value; left = g.left; same = g.same; sorts = g.sorts; follows = λ m K k. (n, g.follows m K k) }

-- for lists of however many
pub shows_list : {A : Type 0} {o : A → A} {x : List A} {xs : List Sort} (one : Lang A) (n : ℕ) → Shows (commas n one) (map o) x xs
    → Shows (list one) (map o) x xs
shows_list {A = A} {o = o} {x = x} {xs = xs} one n a = record { shown = of }
  where
    of : (ts : List Token) (rest : List Sort) → map sort_of ts ≡ xs ++ rest → Found (list one) (map o) x ts rest
    of ts rest e =
        let g : Found (commas n one) (map o) x ts rest = a.shown ts rest e in
        record { value = g.value; left = g.left; same = g.same; sorts = g.sorts; follows = λ m K k. (n, g.follows m K k) }
