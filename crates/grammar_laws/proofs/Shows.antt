-- What reading by a rule says of the tokens before the place where it stopped.
use Rattle.std.proofs.Common.{◌≡◌, ℕ, zero, suc, List, [], ◌∷◌, ◌++◌, length, Some, None, Ok, Err, Bool, true, false, cond, inl, inr, refl, sym, ap, ◌∙◌, subst, append_assoc}
use Rattle.mojom_ast.specs.declared.classes.TheConstants.{COMMA}
use Rattle.mojom_ast.specs.declared.fault.Fault.TheVariants.{Unexpected, TooNested}
use Rattle.mojom_ast.specs.declared.token.Token.{Token}
use Rattle.mojom_ast.specs.Classes.{class}
use Rattle.mojom_ast.specs.Lang.{Lang, Mode, Begun, Deep, Read, ◌>>=◌, has, front_in, tok, ◌▹◌, as_value, ◌or◌, maybe, times, commas, joined, listed, any, deep}

-- A value read is spelled, whatever follows; what stands before a fault is a beginning, and ends too deep.
abbrev pub Shown : {A : Type 0} → Lang A → List Token → Read A → Type 1
Shown {A} one ts (Ok x) = (f : List Token) × (ts ≡ f ++ x.1) × ((m : Mode) (K : A → List Token → Type 0) (q : List Token) → K x.0 q → one.followed m K (f ++ q))
Shown {A} one ts (Err (Unexpected left)) = (f u : List Token) × (ts ≡ f ++ u) × (length u ≡ left) × ((K : A → List Token → Type 0) → one.followed Begun K f)
Shown {A} one ts (Err (TooNested left)) = (f u : List Token) × (ts ≡ f ++ u) × (suc (length u) ≡ left) × ((K : A → List Token → Type 0) → one.followed Deep K f)

-- each reading by the rule shows this
abbrev pub Shows : {A : Type 0} → Lang A → Type 1
Shows one = (ts : List Token) → Shown one ts (one.read ts)

shown_tok : (c : List ℕ) (t : Token) (ts : List Token) (b : Bool) → has c (class t) ≡ b → Shown (tok c) (t ∷ ts)
    (cond b (Ok (t, ts)) (Err (Unexpected (length (t ∷ ts)))))
shown_tok c t ts true e = (t ∷ [], refl, λ m K q k. (e, k))
shown_tok c t ts false e = ([], t ∷ ts, refl, refl, λ K. tt)

-- one token
pub shows_tok : (c : List ℕ) → Shows (tok c)
shows_tok c [] = ([], [], refl, refl, λ K. tt)
shows_tok c (t ∷ ts) = shown_tok c t ts (has c (class t)) refl

-- a reading with another value
pub shown_value : {A B : Type 0} (g : A → B) (one : Lang A) (ts : List Token) (r : Read A) → Shown one ts r → Shown (as_value g one) ts
    (r >>= λ x. Ok (g x.0, x.1))
shown_value g one ts (Ok x) t = (t.0, t.1, λ m K q k. t.2 m (λ a. K (g a)) q k)
shown_value g one ts (Err (Unexpected l)) t = (t.0, t.1, t.2, t.3, λ K. t.4 (λ a. K (g a)))
shown_value g one ts (Err (TooNested l)) t = (t.0, t.1, t.2, t.3, λ K. t.4 (λ a. K (g a)))

-- the same with another value
pub shows_value : {A B : Type 0} (g : A → B) (one : Lang A) → Shows one → Shows (as_value g one)
shows_value g one t ts = shown_value g one ts (one.read ts) (t ts)

shown_second : {A B : Type 0} (one : Lang A) (two : Lang B) (ts : List Token) (x : A × List Token) → Shown one ts (Ok x) → (r : Read B) → Shown two x.1 r
    → Shown (one ▹ two) ts (r >>= λ y. Ok ((x.0, y.0), y.1))
shown_second one two ts x t (Ok y) s = (
  t.0 ++ s.0,
  t.1 ∙ ap (λ l. t.0 ++ l) s.1 ∙ sym (append_assoc t.0 s.0 y.1),
  λ m K q k. subst (λ (l : List Token). one.followed m (λ a. two.followed m (λ b. K (a, b))) l) (sym (append_assoc t.0 s.0 q))
      (t.2 m (λ a. two.followed m (λ b. K (a, b))) (s.0 ++ q) (s.2 m (λ b. K (x.0, b)) q k)),
)
shown_second one two ts x t (Err (Unexpected l)) s = (
  t.0 ++ s.0,
  s.1,
  t.1 ∙ ap (λ l. t.0 ++ l) s.2 ∙ sym (append_assoc t.0 s.0 s.1),
  s.3,
  λ K. t.2 Begun (λ a. two.followed Begun (λ b. K (a, b))) s.0 (s.4 (λ b. K (x.0, b))),
)
shown_second one two ts x t (Err (TooNested l)) s = (
  t.0 ++ s.0,
  s.1,
  t.1 ∙ ap (λ l. t.0 ++ l) s.2 ∙ sym (append_assoc t.0 s.0 s.1),
  s.3,
  λ K. t.2 Deep (λ a. two.followed Deep (λ b. K (a, b))) s.0 (s.4 (λ b. K (x.0, b))),
)

shown_seq : {A B : Type 0} (one : Lang A) (two : Lang B) → Shows two → (ts : List Token) (r : Read A) → Shown one ts r → Shown (one ▹ two) ts
    (r >>= λ x. two.read x.1 >>= λ y. Ok ((x.0, y.0), y.1))
shown_seq one two s ts (Ok x) t = shown_second one two ts x t (two.read x.1) (s x.1)
shown_seq one two s ts (Err (Unexpected l)) t = (t.0, t.1, t.2, t.3, λ K. t.4 (λ a. two.followed Begun (λ b. K (a, b))))
shown_seq one two s ts (Err (TooNested l)) t = (t.0, t.1, t.2, t.3, λ K. t.4 (λ a. two.followed Deep (λ b. K (a, b))))

-- one rule after the other
pub shows_seq : {A B : Type 0} (one : Lang A) (two : Lang B) → Shows one → Shows two → Shows (one ▹ two)
shows_seq one two t s ts = shown_seq one two s ts (one.read ts) (t ts)

shown_left : {A : Type 0} (one two : Lang A) (ts : List Token) (r : Read A) → Shown one ts r → Shown (one or two) ts r
shown_left one two ts (Ok x) t = (t.0, t.1, λ m K q k. inl (t.2 m K q k))
shown_left one two ts (Err (Unexpected l)) t = (t.0, t.1, t.2, t.3, λ K. inl (t.4 K))
shown_left one two ts (Err (TooNested l)) t = (t.0, t.1, t.2, t.3, λ K. inl (t.4 K))

shown_right : {A : Type 0} (one two : Lang A) (ts : List Token) (r : Read A) → Shown two ts r → Shown (one or two) ts r
shown_right one two ts (Ok x) t = (t.0, t.1, λ m K q k. inr (t.2 m K q k))
shown_right one two ts (Err (Unexpected l)) t = (t.0, t.1, t.2, t.3, λ K. inr (t.4 K))
shown_right one two ts (Err (TooNested l)) t = (t.0, t.1, t.2, t.3, λ K. inr (t.4 K))

shown_or : {A : Type 0} (one two : Lang A) → Shows one → Shows two → (ts : List Token) (b : Bool) → Shown (one or two) ts (cond b (one.read ts) (two.read ts))
shown_or one two t s ts true = shown_left one two ts (one.read ts) (t ts)
shown_or one two t s ts false = shown_right one two ts (two.read ts) (s ts)

-- one rule or the other
pub shows_or : {A : Type 0} (one two : Lang A) → Shows one → Shows two → Shows (one or two)
shows_or one two t s ts = shown_or one two t s ts (front_in one.starts ts)

shown_some : {A : Type 0} (one : Lang A) (ts : List Token) (r : Read A) → Shown one ts r → Shown (maybe one) ts (r >>= λ x. Ok (Some x.0, x.1))
shown_some one ts (Ok x) t = (t.0, t.1, λ m K q k. inl (t.2 m (λ a. K (Some a)) q k))
shown_some one ts (Err (Unexpected l)) t = (t.0, t.1, t.2, t.3, λ K. inl (t.4 (λ a. K (Some a))))
shown_some one ts (Err (TooNested l)) t = (t.0, t.1, t.2, t.3, λ K. inl (t.4 (λ a. K (Some a))))

shown_maybe : {A : Type 0} (one : Lang A) → Shows one → (ts : List Token) (b : Bool) → Shown (maybe one) ts
    (cond b (one.read ts >>= λ x. Ok (Some x.0, x.1)) (Ok (None, ts)))
shown_maybe one t ts true = shown_some one ts (one.read ts) (t ts)
shown_maybe one t ts false = ([], refl, λ m K q k. inr k)

-- at most one
pub shows_maybe : {A : Type 0} (one : Lang A) → Shows one → Shows (maybe one)
shows_maybe one t ts = shown_maybe one t ts (front_in one.starts ts)

-- at most so many
pub shows_times : {A : Type 0} (n : ℕ) (one : Lang A) → Shows one → Shows (times n one)
unfolding times
shows_times zero one t ts = ([], refl, λ m K q k. k)
shows_times (suc n) one t ts = shows_value joined (maybe (one ▹ times n one))
    (shows_maybe (one ▹ times n one) (shows_seq one (times n one) t (shows_times n one t))) ts

-- at most so many, with commas
pub shows_commas : {A : Type 0} (n : ℕ) (one : Lang A) → Shows one → Shows (commas n one)
unfolding commas
shows_commas zero one t ts = ([], refl, λ m K q k. k)
shows_commas (suc n) one t ts =
    shows_value listed (maybe (one ▹ maybe (tok (COMMA ∷ []) ▹ commas n one)))
    (shows_maybe (one ▹ maybe (tok (COMMA ∷ []) ▹ commas n one)) (shows_seq one (maybe (tok (COMMA ∷ []) ▹ commas n one)) t
    (shows_maybe (tok (COMMA ∷ []) ▹ commas n one) (shows_seq (tok (COMMA ∷ [])) (commas n one) (shows_tok (COMMA ∷ [])) (shows_commas n one t))))) ts

shown_any : {A : Type 0} (some : ℕ → Lang A) (n : ℕ) (ts : List Token) (r : Read A) → Shown (some n) ts r → Shown (any some) ts r
shown_any some n ts (Ok x) t = (t.0, t.1, λ m K q k. (n, t.2 m K q k))
shown_any some n ts (Err (Unexpected l)) t = (t.0, t.1, t.2, t.3, λ K. (n, t.4 K))
shown_any some n ts (Err (TooNested l)) t = (t.0, t.1, t.2, t.3, λ K. (n, t.4 K))

-- a family of rules
pub shows_any : {A : Type 0} (some : ℕ → Lang A) → ((n : ℕ) → Shows (some n)) → Shows (any some)
shows_any some t ts = shown_any some (length ts) ts ((some (length ts)).read ts) (t (length ts) ts)

shown_deep : (A : Type 0) (cs : List ℕ) (ts : List Token) (b : Bool) → front_in cs ts ≡ b → Shown {A = A} (deep cs) ts
    (cond b (Err (TooNested (length ts))) (Err (Unexpected (length ts))))
shown_deep A cs [] true e = absurd (cc)
shown_deep A cs (t ∷ ts) true e = (t ∷ [], ts, refl, refl, λ K. (e, tt, refl))
shown_deep A cs ts false e = ([], ts, refl, refl, λ K. tt)

-- a type too deep
pub shows_deep : (A : Type 0) (cs : List ℕ) → Shows {A = A} (deep cs)
shows_deep A cs ts = shown_deep A cs ts (front_in cs ts) refl
