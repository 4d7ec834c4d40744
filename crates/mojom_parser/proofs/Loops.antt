-- Reading a list of a rule in a loop, with or without commas.
use Rattle.std.proofs.Common.{◌≡◌, ℕ, suc, ◌-◌, ◌+◌, ◌≤◌, ◌<◌, List, [], ◌∷◌, ◌++◌, Option, Some, Ok, Err, true, false, refl, sym, ap, ◌∙◌, append_assoc, arith}
use Rattle.std.proofs.lemmas.List.{append-nil}
use Rattle.mojom_ast.specs.declared.classes.TheConstants.{COMMA}
use Rattle.mojom_ast.specs.declared.fault.Fault.{Fault}
use Rattle.mojom_ast.specs.declared.token.Token.{Token}
use Rattle.mojom_ast.specs.Lang.{Lang, Read, ◌>>=◌, front_in, tok, tok_read, ◌▹◌, as_value, maybe, times, joined, commas, listed}
use Rattle.mojom_parser.specs.declared.error.ReadError.{ReadError}
use Rattle.mojom_parser.specs.declared.error.ReadError.TheVariants as causes
use Rattle.mojom_parser.specs.steps.Reading.{Fails, with_front}

-- what a stop says of a reading, for one that names its fault
pub fault_of : {A : Type 0} (e : ReadError) (f : Fault) (r : Read A) → e ≡ causes.Fault f → Fails e r → r ≡ Err f
fault_of causes.Memory f r same h = absurd cc
fault_of (causes.Fault g) f r same h = h ∙ cc

-- one step of a list, whatever reads the rest of it
module _ {A : Type 0} (one : Lang A) (n1 : one.null ≡ false) (others : Lang (List A)) where
  collapse : (x : A) (r : Read (List A))
      → ◌>>=◌ {A = Option (A × List A) × List Token} {B = List A × List Token}
      (◌>>=◌ {A = (A × List A) × List Token} {B = Option (A × List A) × List Token}
      (◌>>=◌ {A = List A × List Token} {B = (A × List A) × List Token} r (λ y. Ok ((x, y.0), y.1)))
      (λ z. Ok (Some z.0, z.1)))
      (λ z. Ok (joined z.0, z.1))
      ≡ (r >>= λ y. Ok (x ∷ y.0, y.1))
  collapse x (Ok y) = refl
  collapse x (Err f) = refl

  -- a rule and others of it: the rule begins; for lists in a loop, and for the first of the parameters
  pub pair_on : (ts : List Token) (x : A) (after : List Token) → front_in one.starts ts ≡ true → one.read ts ≡ Ok (x, after)
      → (as_value joined (maybe (one ▹ others))).read ts ≡ (others.read after >>= λ y. Ok (x ∷ y.0, y.1))
  pair_on ts x after b h = rw (n1, b, h) (collapse x (others.read after))

  -- it does not begin
  pub pair_off : (ts : List Token) → front_in one.starts ts ≡ false → (as_value joined (maybe (one ▹ others))).read ts ≡ Ok ([], ts)
  pair_off ts b = rw (n1, b) refl

  pair_end : (ts : List Token) (f : Fault) → front_in one.starts ts ≡ true → one.read ts ≡ Err f → (as_value joined (maybe (one ▹ others))).read ts ≡ Err f
  pair_end ts f b h = rw (n1, b, h) refl

  -- it begins and stops
  pub pair_fails : (ts : List Token) (e : ReadError) → front_in one.starts ts ≡ true → Fails e (one.read ts)
      → Fails e ((as_value joined (maybe (one ▹ others))).read ts)
  pair_fails ts causes.Memory b h = tt
  pair_fails ts (causes.Fault f) b h = pair_end ts f b h

-- one step of a list with commas
module _ {A : Type 0} (one : Lang A) (n1 : one.null ≡ false) (others : Lang (List A)) where
  abbrev item : Lang (List A)
  item = as_value listed (maybe (one ▹ maybe (tok (COMMA ∷ []) ▹ others)))

  gather : (x : A) (c : Token) (r : Read (List A))
      → ◌>>=◌ {A = Option (A × Option (Token × List A)) × List Token} {B = List A × List Token}
      (◌>>=◌ {A = (A × Option (Token × List A)) × List Token} {B = Option (A × Option (Token × List A)) × List Token}
      (◌>>=◌ {A = Option (Token × List A) × List Token} {B = (A × Option (Token × List A)) × List Token}
      (◌>>=◌ {A = (Token × List A) × List Token} {B = Option (Token × List A) × List Token}
      (◌>>=◌ {A = List A × List Token} {B = (Token × List A) × List Token} r (λ y. Ok ((c, y.0), y.1)))
      (λ y. Ok (Some y.0, y.1)))
      (λ y. Ok ((x, y.0), y.1)))
      (λ z. Ok (Some z.0, z.1)))
      (λ z. Ok (listed z.0, z.1))
      ≡ (r >>= λ y. Ok (x ∷ y.0, y.1))
  gather x c (Ok y) = refl
  gather x c (Err f) = refl

  item_on : (ts : List Token) (x : A) (after : List Token) (c : Token) (next : List Token) → front_in one.starts ts ≡ true → one.read ts ≡ Ok (x, after)
      → front_in (COMMA ∷ []) after ≡ true → tok_read (COMMA ∷ []) after ≡ Ok (c, next) → item.read ts ≡ (others.read next >>= λ y. Ok (x ∷ y.0, y.1))
  item_on ts x after c next b h d k = rw (n1, b, h, d, k) (gather x c (others.read next))

  item_last : (ts : List Token) (x : A) (after : List Token) → front_in one.starts ts ≡ true → one.read ts ≡ Ok (x, after)
      → front_in (COMMA ∷ []) after ≡ false → item.read ts ≡ Ok (x ∷ [], after)
  item_last ts x after b h d = rw (n1, b, h, d) refl

  item_off : (ts : List Token) → front_in one.starts ts ≡ false → item.read ts ≡ Ok ([], ts)
  item_off ts b = rw (n1, b) refl

  item_end : (ts : List Token) (f : Fault) → front_in one.starts ts ≡ true → one.read ts ≡ Err f → item.read ts ≡ Err f
  item_end ts f b h = rw (n1, b, h) refl

-- A loop over the lists of a family, at most so many items: what was read, and what is still read from here, make what
-- is to be read.
pub record Reads {A : Type 0} (some : ℕ → Lang (List A)) (front : List A) (count i : ℕ) (ts : List Token) (total : Read (List A)) : Type 0 where
  pub so_far : with_front front ((some (count - i)).read ts) ≡ total

regroup : {A : Type 0} (front : List A) (x : A) (read : Read (List A)) → with_front front (read >>= λ y. Ok (x ∷ y.0, y.1)) ≡ with_front (front ++ x ∷ []) read
regroup {A} front x (Ok y) = ap (λ (xs : List A). Ok (xs, y.1)) (simp append_assoc)
regroup front x (Err f) = refl

module _ {A : Type 0} {some : ℕ → Lang (List A)} {front : List A} {count i : ℕ} {ts : List Token} {total : Read (List A)} where
  goes_on : Reads some front count i ts total → i < count → (x : A) (after : List Token) (pushed : List A) → pushed ≡ front ++ x ∷ []
      → ((n : ℕ) → (some (suc n)).read ts ≡ ((some n).read after >>= λ y. Ok (x ∷ y.0, y.1))) → Reads some pushed count (i + 1) after total
  goes_on r lt x after pushed p step =
      let k : count - i ≡ suc (count - (i + 1)) = omega arith in
      let one_more : with_front front ((some (count - i)).read ts) ≡ with_front (front ++ x ∷ []) ((some (count - (i + 1))).read after)
      = rw (k, step (count - (i + 1))) (regroup front x ((some (count - (i + 1))).read after)) in
      record { so_far = rw p (sym one_more ∙ r.so_far) }

  finishes : Reads some front count i ts total → i < count → (result : Read (List A)) → ((n : ℕ) → (some (suc n)).read ts ≡ result)
      → total ≡ with_front front result
  finishes r lt result step =
      let k : count - i ≡ suc (count - (i + 1)) = omega arith in
      let last : with_front front ((some (count - i)).read ts) ≡ with_front front result = rw (k, step (count - (i + 1))) refl in
      sym r.so_far ∙ last

  ends : Reads some front count i ts total → i < count → (e : ReadError) → ((f : Fault) → e ≡ causes.Fault f → (n : ℕ) → (some (suc n)).read ts ≡ Err f)
      → Fails e total
  ends r lt causes.Memory step = tt
  ends r lt (causes.Fault f) step = finishes r lt (Err f) (step f refl)

  halts : Reads some front count i ts total → i < count → ((n : ℕ) → (some (suc n)).read ts ≡ Ok ([], ts)) → total ≡ Ok (front, ts)
  halts r lt step = finishes r lt (Ok ([], ts)) step ∙ ap (λ (xs : List A). Ok (xs, ts)) (append-nil front)

  runs_out : Reads some front count i ts total → count ≤ i → (some 0).read ts ≡ Ok ([], ts) → total ≡ Ok (front, ts)
  runs_out r le none =
      let k : count - i ≡ 0 = omega arith in
      let last : with_front front ((some (count - i)).read ts) ≡ Ok (front, ts) = rw (k, none) (ap (λ (xs : List A). Ok (xs, ts)) (append-nil front)) in
      sym r.so_far ∙ last

-- what is left when a loop starts is all
all : {A : Type 0} (some : ℕ → Lang (List A)) (count : ℕ) (ts : List Token) → (some (count - 0)).read ts ≡ (some count).read ts
all some count ts = let k : count - 0 ≡ count = omega arith in ap (λ (n : ℕ). (some n).read ts) k

-- a loop starts, behind what was read before
pub starts : {A : Type 0} (some : ℕ → Lang (List A)) (front : List A) (count : ℕ) (ts : List Token) → Reads some front count 0 ts
    (with_front front ((some count).read ts))
starts some front count ts = record { so_far = ap (with_front front) (all some count ts) }

-- a loop starts with nothing
pub starts_empty : {A : Type 0} (some : ℕ → Lang (List A)) (front : List A) (count : ℕ) (ts : List Token) → front ≡ [] → Reads some front count 0 ts
    ((some count).read ts)
starts_empty {A} some front count ts e = record { so_far = rw e (nothing ((some (count - 0)).read ts) ∙ all some count ts) }
  where
    nothing : (r : Read (List A)) → with_front [] r ≡ r
    nothing (Ok y) = refl
    nothing (Err f) = refl

-- The rounds of a loop over a rule's list without commas.
module _ {A : Type 0} (one : Lang A) (n1 : one.null ≡ false) {front : List A} {count i : ℕ} {ts : List Token} {total : Read (List A)} where
  -- the rule does not begin
  pub times_halt : Reads (λ n. times n one) front count i ts total → i < count → front_in one.starts ts ≡ false → total ≡ Ok (front, ts)
  unfolding times
  times_halt r lt b = halts r lt (λ n. pair_off one n1 (times n one) ts b)

  -- it begins and stops
  pub times_fail : Reads (λ n. times n one) front count i ts total → i < count → front_in one.starts ts ≡ true → (e : ReadError) → Fails e (one.read ts)
      → Fails e total
  unfolding times
  times_fail r lt b e h = ends r lt e (λ f same n. pair_end one n1 (times n one) ts f b (fault_of e f (one.read ts) same h))

  -- it is read
  pub times_go_on : Reads (λ n. times n one) front count i ts total → i < count → front_in one.starts ts ≡ true → (x : A) (after : List Token)
      → one.read ts ≡ Ok (x, after)
      → (pushed : List A) → pushed ≡ front ++ x ∷ [] → Reads (λ n. times n one) pushed count (i + 1) after total
  unfolding times
  times_go_on r lt b x after h pushed p = goes_on r lt x after pushed p (λ n. pair_on one n1 (times n one) ts x after b h)

-- The rounds of a loop over a rule's list with commas.
module _ {A : Type 0} (one : Lang A) (n1 : one.null ≡ false) {front : List A} {count i : ℕ} {ts : List Token} {total : Read (List A)} where
  -- the rule does not begin
  pub commas_halt : Reads (λ n. commas n one) front count i ts total → i < count → front_in one.starts ts ≡ false → total ≡ Ok (front, ts)
  unfolding commas
  commas_halt r lt b = halts r lt (λ n. item_off one n1 (commas n one) ts b)

  -- it begins and stops
  pub commas_fail : Reads (λ n. commas n one) front count i ts total → i < count → front_in one.starts ts ≡ true → (e : ReadError) → Fails e (one.read ts)
      → Fails e total
  unfolding commas
  commas_fail r lt b e h = ends r lt e (λ f same n. item_end one n1 (commas n one) ts f b (fault_of e f (one.read ts) same h))

  -- it is read, and no comma is behind it
  pub commas_last : Reads (λ n. commas n one) front count i ts total → i < count → front_in one.starts ts ≡ true → (x : A) (after : List Token)
      → one.read ts ≡ Ok (x, after)
      → front_in (COMMA ∷ []) after ≡ false → (pushed : List A) → pushed ≡ front ++ x ∷ [] → total ≡ Ok (pushed, after)
  unfolding commas
  commas_last r lt b x after h d pushed p = rw p (finishes r lt (Ok (x ∷ [], after)) (λ n. item_last one n1 (commas n one) ts x after b h d))

  -- it is read, and a comma
  pub commas_go_on : Reads (λ n. commas n one) front count i ts total → i < count → front_in one.starts ts ≡ true → (x : A) (after : List Token)
      → one.read ts ≡ Ok (x, after)
      → front_in (COMMA ∷ []) after ≡ true → (c : Token) (next : List Token) → tok_read (COMMA ∷ []) after ≡ Ok (c, next)
      → (pushed : List A) → pushed ≡ front ++ x ∷ [] → Reads (λ n. commas n one) pushed count (i + 1) next total
  unfolding commas
  commas_go_on r lt b x after h d c next k pushed p = goes_on r lt x next pushed p (λ n. item_on one n1 (commas n one) ts x after c next b h d k)

-- a loop without commas came to its last round
pub times_done : {A : Type 0} (one : Lang A) {front : List A} {count i : ℕ} {ts : List Token} {total : Read (List A)}
    → Reads (λ n. times n one) front count i ts total → count ≤ i → total ≡ Ok (front, ts)
unfolding times
times_done one r le = runs_out r le refl

-- and one with commas
pub commas_done : {A : Type 0} (one : Lang A) {front : List A} {count i : ℕ} {ts : List Token} {total : Read (List A)}
    → Reads (λ n. commas n one) front count i ts total → count ≤ i → total ≡ Ok (front, ts)
unfolding commas
commas_done one r le = runs_out r le refl
