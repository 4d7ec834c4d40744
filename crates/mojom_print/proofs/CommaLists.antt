-- Lists with commas: a last comma is as none, and one behind each item is as one between them.
use Rattle.std.proofs.Common.{◌≡◌, ℕ, zero, suc, List, [], ◌∷◌, ◌++◌, Option, Some, None, inl, inr, refl, sym, subst, append_assoc}
use Rattle.std.specs.Prelude.{map}
use Rattle.std.specs.Option.{option_map}
use Rattle.std.specs.List.{flat_map}
use Rattle.mojom_ast.specs.declared.token.Symbol.TheVariants.{Comma}
use Rattle.mojom_ast.specs.declared.token.Sort.{Sort}
use Rattle.mojom_ast.specs.declared.token.Sort.TheVariants as sorts
use Rattle.mojom_ast.specs.declared.token.Token.{Token}
use Rattle.mojom_ast.specs.Lang.{Lang, Whole, symbol, ◌▹◌, maybe, commas, list, listed, after_comma}
use Rattle.mojom_print.specs.Unplaced.{nowhere}
use Rattle.mojom_print.proofs.Shows.{sort_of, token_off, both_off, Shows, shows_tok, shows_sorts, shows_seq, shows_value, shows_some, shows_none, shows_no_commas, shows_list}
use Rattle.mojom_print.proofs.Prints.{AllLexical, lexical_both, Printed, Prints, prints_symbol}

-- the sort of a comma
abbrev pub comma : List Sort
comma = sorts.Symbol Comma ∷ []

a_comma : Token
a_comma = record { sort = sorts.Symbol Comma; span = nowhere }

shows_comma : Shows (symbol Comma) token_off a_comma comma
unfolding a_comma
shows_comma = shows_tok _ a_comma refl

-- each item behind a comma, or before one
abbrev pub led : {A : Type 0} → (A → List Sort) → List A → List Sort
led s xs = flat_map (λ x. comma ++ s x) xs

-- for enums: a comma behind each
abbrev pub ended : {A : Type 0} → (A → List Sort) → List A → List Sort
ended s xs = flat_map (λ x. s x ++ comma) xs

-- commas between items
abbrev pub between : {A : Type 0} → (A → List Sort) → List A → List Sort
between s [] = []
between s (x ∷ xs) = s x ++ led s xs

module _ {A : Type 0} (one : Lang A) (o : A → A) where
  listed_off : (v : Option (A × Option (Token × List A))) → map o (listed v) ≡ listed (option_map (both_off o (option_map (both_off token_off (map o)))) v)
  listed_off None = refl
  listed_off (Some x) = of x.1
    where
      of : (y : Option (Token × List A)) → o x.0 ∷ map o (after_comma y) ≡ o x.0 ∷ after_comma (option_map (both_off token_off (map o)) y)
      of None = refl
      of (Some z) = refl

  -- an item and a comma, and then items
  pub shows_item : (n : ℕ) (x : A) (xs : List A) (s ss : List Sort) → Shows one o x s → Shows (commas n one) (map o) xs ss
      → Shows (commas (suc n) one) (map o) (x ∷ xs) (s ++ (comma ++ ss))
  unfolding commas
  shows_item n x xs s ss a b = shows_value listed (map o) listed_off (shows_some (shows_seq a (shows_some (shows_seq shows_comma b))))

  -- the last item
  pub shows_last : (n : ℕ) (x : A) (s : List Sort) → Shows one o x s → Shows (commas (suc n) one) (map o) (x ∷ []) (s ++ [])
  unfolding commas
  shows_last n x s a = shows_value listed (map o) listed_off (shows_some (shows_seq a (shows_none (symbol Comma ▹ commas n one) (both_off token_off (map o)))))

module _ {A : Type 0} {one : Lang A} {o : A → A} {s : A → List Sort} (a : Prints one o s) where
  none_printed : (n : ℕ) (t : List A → List Sort) → [] ≡ t [] → (K : List A → List Token → Type 0) (ts : List Token) → AllLexical (map sort_of ts)
      → K [] ts → Printed (commas n one) (map o) t K
  none_printed n t e K ts all h =
      record { value = []; left = ts; next = h; all = all; good = subst AllLexical e tt; shows = shows_sorts [] (t []) e (shows_no_commas n one o) }

  -- what may follow an item
  Tail : ℕ → (List A → List Token → Type 0) → A → List Token → Type 0
  Tail n K x ts = (maybe (symbol Comma ▹ commas n one)).followed Whole (λ y. K (x ∷ after_comma y)) ts

  one_more : (n : ℕ) (t : List A → List Sort) (K : List A → List Token → Type 0)
      → ((x : A) (left : List Token) → K (x ∷ []) left → AllLexical (map sort_of left) → AllLexical (s x) → Shows one o x (s x)
      → Printed (commas (suc n) one) (map o) t K)
      → ((x : A) (ys : List A) (left : List Token) → K (x ∷ ys) left → AllLexical (map sort_of left) → AllLexical (s x) → AllLexical comma
      → AllLexical (t ys) → Shows one o x (s x) → Shows (commas n one) (map o) ys (t ys) → Printed (commas (suc n) one) (map o) t K)
      → Prints (commas n one) (map o) t
      → (ts : List Token) → AllLexical (map sort_of ts) → (one ▹ maybe (symbol Comma ▹ commas n one)).followed Whole (λ v. K (listed (Some v))) ts
      → Printed (commas (suc n) one) (map o) t K
  unfolding Tail
  one_more n t K last more others ts all h = step (a.printed (Tail n K) ts all h)
    where
      tail : (p : Printed one o s (Tail n K)) → Tail n K p.value p.left → Printed (commas (suc n) one) (map o) t K
      tail p (inr k) = last p.value p.left k p.all p.good p.shows
      tail p (inl k) =
          let c : Printed (symbol Comma) token_off (λ t. comma) (λ t. (commas n one).followed Whole (λ ys. K (p.value ∷ ys))) =
          (prints_symbol Comma).printed (λ t. (commas n one).followed Whole (λ ys. K (p.value ∷ ys))) p.left p.all k in
          let r : Printed (commas n one) (map o) t (λ ys. K (p.value ∷ ys)) = others.printed (λ ys. K (p.value ∷ ys)) c.left c.all c.next in
          more p.value r.value r.left r.next r.all p.good c.good r.good p.shows r.shows

      step : Printed one o s (Tail n K) → Printed (commas (suc n) one) (map o) t K
      step p = tail p p.next

  -- a comma behind each item
  ended_more : (n : ℕ) (K : List A → List Token → Type 0) (x : A) (ys : List A) (left : List Token) → K (x ∷ ys) left → AllLexical (map sort_of left)
      → AllLexical (s x) → AllLexical comma → AllLexical (ended s ys) → Shows one o x (s x) → Shows (commas n one) (map o) ys (ended s ys)
      → Printed (commas (suc n) one) (map o) (ended s) K
  ended_more n K x ys left next all g c gs b bs = record {
    value = x ∷ ys;
    left = left;
    next = next;
    all = all;
    good = lexical_both (s x ++ comma) (ended s ys) (lexical_both (s x) comma g c) gs;
    shows =
        shows_sorts (s x ++ (comma ++ ended s ys)) ((s x ++ comma) ++ ended s ys) (sym (append_assoc (s x) comma (ended s ys)))
        (shows_item one o n x ys (s x) (ended s ys) b bs);
  }

  prints_ended : (n : ℕ) → AllLexical comma → Prints (commas n one) (map o) (ended s)
  unfolding commas
  prints_ended zero c = record { printed = λ K ts all h. none_printed 0 (ended s) refl K ts all h }
  prints_ended (suc n) c = record { printed = of (prints_ended n c) }
    where
      of : Prints (commas n one) (map o) (ended s) → (K : List A → List Token → Type 0) (ts : List Token) → AllLexical (map sort_of ts)
          → (commas (suc n) one).followed Whole K ts → Printed (commas (suc n) one) (map o) (ended s) K
      of others K ts all (inr h) = none_printed (suc n) (ended s) refl K ts all h
      of others K ts all (inl h) =
          one_more n (ended s) K (λ x left next all g b. ended_more n K x [] left next all g c tt b (shows_no_commas n one o)) (ended_more n K) others ts all h

  -- commas between items
  between_last : (n : ℕ) (K : List A → List Token → Type 0) (x : A) (left : List Token) → K (x ∷ []) left → AllLexical (map sort_of left)
      → AllLexical (s x) → Shows one o x (s x) → Printed (commas (suc n) one) (map o) (between s) K
  between_last n K x left next all g b = record {
    value = x ∷ [];
    left = left;
    next = next;
    all = all;
    good = lexical_both (s x) [] g tt;
    shows = shows_last one o n x (s x) b;
  }

  between_more : (n : ℕ) (K : List A → List Token → Type 0) (x : A) (ys : List A) (left : List Token) → K (x ∷ ys) left
      → AllLexical (map sort_of left) → AllLexical (s x) → AllLexical comma → AllLexical (between s ys) → Shows one o x (s x)
      → Shows (commas n one) (map o) ys (between s ys) → Printed (commas (suc n) one) (map o) (between s) K
  between_more n K x [] left next all g c gs b bs = between_last n K x left next all g b
  between_more n K x (y ∷ ys) left next all g c gs b bs = record {
    value = x ∷ y ∷ ys;
    left = left;
    next = next;
    all = all;
    good = lexical_both (s x) (led s (y ∷ ys)) g (c.0, gs);
    shows = shows_item one o n x (y ∷ ys) (s x) (between s (y ∷ ys)) b bs;
  }

  prints_between : (n : ℕ) → Prints (commas n one) (map o) (between s)
  unfolding commas
  prints_between zero = record { printed = λ K ts all h. none_printed 0 (between s) refl K ts all h }
  prints_between (suc n) = record { printed = of (prints_between n) }
    where
      of : Prints (commas n one) (map o) (between s) → (K : List A → List Token → Type 0) (ts : List Token) → AllLexical (map sort_of ts)
          → (commas (suc n) one).followed Whole K ts → Printed (commas (suc n) one) (map o) (between s) K
      of others K ts all (inr h) = none_printed (suc n) (between s) refl K ts all h
      of others K ts all (inl h) = one_more n (between s) K (between_last n K) (between_more n K) others ts all h

  list_printed : (t : List A → List Sort) (n : ℕ) (K : List A → List Token → Type 0) → Printed (commas n one) (map o) t K → Printed (list one) (map o) t K
  list_printed t n K g = record { value = g.value; left = g.left; next = g.next; all = g.all; good = g.good; shows = shows_list one n g.shows }

  -- for both lists: what of so many is proved holds of however many
  pub prints_list : (t : List A → List Sort) → ((n : ℕ) → Prints (commas n one) (map o) t) → Prints (list one) (map o) t
  prints_list t each = record { printed = of }
    where
      of : (K : List A → List Token → Type 0) (ts : List Token) → AllLexical (map sort_of ts) → (list one).followed Whole K ts → Printed (list one) (map o) t K
      of K ts all h = list_printed t h.0 K ((each h.0).printed K ts all h.1)

  -- for attributes and parameters: a list with commas between
  pub prints_comma_between : Prints (list one) (map o) (between s)
  prints_comma_between = prints_list (between s) prints_between

  -- for enumerators: a list with a comma behind each
  pub prints_comma_ended : AllLexical comma → Prints (list one) (map o) (ended s)
  prints_comma_ended c = prints_list (ended s) (λ n. prints_ended n c)
