-- The views of the sequences, put together into one history.
use Rattle.std.proofs.Common.{◌≡◌, ◌≢◌, ℕ, ◌<◌, ◌+◌, ◌++◌, eqb, Bool, true, false, true≢false, List, [], ◌∷◌, length, reverse, if◌then◌else◌, refl, sym, ap, ◌∙◌, subst, arith, eq-eqb, ne_eqb}
use Rattle.std.specs.Prelude.{filter}
use Rattle.std.proofs.lemmas.List.{append-nil, append_cancel_left, length-append, nil_from_length, reverse-append, reverse-reverse}
use Rattle.std.proofs.lemmas.Bool.{eqb-true}
use Rattle.std.proofs.lemmas.List.Elements.{filter-append}
use Rattle.mj_base.specs.declared.ids.SeqId.{SeqId}
use Rattle.bind_model.specs.declared.event.Event.{Event}
use Rattle.bind_model.specs.Seen.{own_of}
use Rattle.turn_lock.specs.Lists.{Begins}
use Rattle.bind_hub.specs.Passes.{seq_at}

-- each event is of one of so many sequences, as in every legal history
abbrev pub AreOf : ℕ → List Event → Type 0
AreOf seqs [] = Unit {0}
AreOf seqs (event ∷ events) = (event.seq.0 < seqs) × AreOf seqs events

own-append : (s : SeqId) (xs ys : List Event) → own_of s (xs ++ ys) ≡ own_of s xs ++ own_of s ys
own-append s xs ys = filter-append (λ (e : Event). eqb e.seq.0 s.0) xs ys

single : {X : Type 0} (x : X) (b : Bool) → (if b then x ∷ [] else []) ≡ reverse (if b then x ∷ [] else [])
single x true = refl
single x false = refl

filter-reverse : {X : Type 0} (p : X → Bool) (xs : List X) → filter p (reverse xs) ≡ reverse (filter p xs)
filter-reverse p [] = refl
filter-reverse p (x ∷ xs) =
    ap (filter p) (reverse-append (x ∷ []) xs)
    ∙ (filter-append p (reverse xs) (x ∷ [])
    ∙ (ap (λ ys. ys ++ filter p (x ∷ [])) (filter-reverse p xs)
    ∙ (ap (λ ys. reverse (filter p xs) ++ ys) (single x (p x))
    ∙ (sym (reverse-append (filter p (x ∷ [])) (filter p xs)) ∙ ap reverse (sym (filter-append p (x ∷ []) xs))))))

own-reverse : (s : SeqId) (xs : List Event) → own_of s (reverse xs) ≡ reverse (own_of s xs)
own-reverse s xs = filter-reverse (λ (e : Event). eqb e.seq.0 s.0) xs

-- where the history that the hub leaves begins with the events of the joins, and has behind them of a sequence just what it did, so do the
-- events behind the joins, the newest first, in whatever interleaving
module _ (joins whole : List Event) (begins : Begins joins whole) where
  abbrev pub middle : List Event
  middle = reverse begins.0

  pub whole_is : whole ≡ joins ++ reverse middle
  whole_is = begins.1 ∙ ap (λ xs. joins ++ xs) (sym (reverse-reverse begins.0))

  pub own_middle : (s : SeqId) (own : List Event) → own_of s whole ≡ own_of s joins ++ reverse own → own_of s middle ≡ own
  own_middle s own all =
      let rest = begins.0 in
      let has : own_of s joins ++ own_of s rest ≡ own_of s joins ++ reverse own = sym (own-append s joins rest) ∙ (ap (own_of s) (sym begins.1) ∙ all) in
      let mine : own_of s rest ≡ reverse own = append_cancel_left (own_of s joins) (own_of s rest) (reverse own) has in
      own-reverse s rest ∙ (ap reverse mine ∙ reverse-reverse own)

-- where another has seen a history that begins with a second one, and both have of its sequence just what it made, all between them has none
pub met_none : (t : SeqId) (old new seen : List Event) → Begins old new → Begins new seen → own_of t seen ≡ own_of t old → own_of t new ≡ own_of t old
met_none t old new seen b c same =
    let x = own_of t b.0 in
    let y = own_of t c.0 in
    let new_is : own_of t new ≡ own_of t old ++ x = ap (own_of t) b.1 ∙ own-append t old b.0 in
    let seen_is : own_of t seen ≡ (own_of t old ++ x) ++ y = ap (own_of t) c.1 ∙ (own-append t new c.0 ∙ ap (λ xs. xs ++ y) new_is) in
    let lens : length (own_of t old) ≡ (length (own_of t old) + length x) + length y =
    ap length (sym same ∙ seen_is) ∙ (length-append (own_of t old ++ x) y ∙ ap (λ n. n + length y) (length-append (own_of t old) x)) in
    let none : x ≡ [] = nil_from_length x (omega arith) in
    new_is ∙ (ap (λ xs. own_of t old ++ xs) none ∙ append-nil (own_of t old))

cons-not-nil : (x : Event) (xs : List Event) → x ∷ xs ≡ [] → ⊥
cons-not-nil x xs e = absurd (cc)

-- a list with none of any sequence is empty
nothing_of : (seqs : ℕ) (rest : List Event) → AreOf seqs rest → ((t : ℕ) → t < seqs → own_of (seq_at t) rest ≡ []) → rest ≡ []
nothing_of seqs [] are none = refl
nothing_of seqs (x ∷ xs) are none =
    absurd (cons-not-nil x (own_of (seq_at x.seq.0) xs)
    (ap (λ b. if b then x ∷ own_of (seq_at x.seq.0) xs else own_of (seq_at x.seq.0) xs) (sym (eq-eqb x.seq.0 x.seq.0 refl)) ∙ none x.seq.0 are.0))

pub are_behind : (seqs : ℕ) (xs ys : List Event) → AreOf seqs (xs ++ ys) → AreOf seqs ys
are_behind seqs [] ys are = are
are_behind seqs (x ∷ xs) ys are = are_behind seqs xs ys are.1

head_is : (x y : Event) (xs ys : List Event) → x ∷ xs ≡ y ∷ ys → x ≡ y
head_is x y xs ys e = cc

tail_is : (x y : Event) (xs ys : List Event) → x ∷ xs ≡ y ∷ ys → xs ≡ ys
tail_is x y xs ys e = cc

only_one : (seqs k : ℕ) (rest : List Event) (e : Event) → AreOf seqs rest → k < seqs → own_of (seq_at k) rest ≡ e ∷ []
    → ((t : ℕ) → t < seqs → t ≢ k → own_of (seq_at t) rest ≡ []) → rest ≡ e ∷ []
only_one seqs k [] e are below one none = absurd (cons-not-nil e [] (sym one))
only_one seqs k (x ∷ xs) e are below one none = by_test (eqb x.seq.0 k) refl
  where
    by_test : (b : Bool) → eqb x.seq.0 k ≡ b → x ∷ xs ≡ e ∷ []
    by_test true is =
        let here : x ∷ own_of (seq_at k) xs ≡ e ∷ [] = ap (λ b. if b then x ∷ own_of (seq_at k) xs else own_of (seq_at k) xs) (sym is) ∙ one in
        let first : x ≡ e = head_is x e (own_of (seq_at k) xs) [] here in
        let more : own_of (seq_at k) xs ≡ [] = tail_is x e (own_of (seq_at k) xs) [] here in
        let empty : xs ≡ [] = nothing_of seqs xs are.1 (λ t lt. by_seq t lt (eqb t k) refl more) in
        ap (λ y. y ∷ xs) first ∙ ap (λ ys. e ∷ ys) empty
      where
        by_seq : (t : ℕ) → t < seqs → (b : Bool) → eqb t k ≡ b → own_of (seq_at k) xs ≡ [] → own_of (seq_at t) xs ≡ []
        by_seq t lt true same more = ap (λ n. own_of (seq_at n) xs) (eqb-true t k same) ∙ more
        by_seq t lt false apart more =
            let x_at : x.seq.0 ≡ k = eqb-true x.seq.0 k is in
            let t_not : t ≢ k = λ q. absurd (true≢false (sym (eq-eqb t k q) ∙ apart)) in
            let x_not : x.seq.0 ≢ t = λ q. t_not (sym q ∙ x_at) in
            ap (λ b. if b then x ∷ own_of (seq_at t) xs else own_of (seq_at t) xs) (sym (ne_eqb x.seq.0 t x_not)) ∙ none t lt t_not
    by_test false is =
        let away : x.seq.0 ≢ k = λ q. absurd (true≢false (sym (eq-eqb x.seq.0 k q) ∙ is)) in
        absurd (cons-not-nil x (own_of (seq_at x.seq.0) xs)
        (ap (λ b. if b then x ∷ own_of (seq_at x.seq.0) xs else own_of (seq_at x.seq.0) xs) (sym (eq-eqb x.seq.0 x.seq.0 refl)) ∙ none x.seq.0 are.0 away))

-- a history that begins with another, and has of one sequence just one event more, and of all others none, is the other with this event
-- behind it
pub one_more : (seqs k : ℕ) (old new : List Event) (event : Event) → AreOf seqs new → Begins old new
    → k < seqs → own_of (seq_at k) new ≡ own_of (seq_at k) old ++ event ∷ []
    → ((t : ℕ) → t < seqs → t ≢ k → own_of (seq_at t) new ≡ own_of (seq_at t) old)
    → new ≡ old ++ event ∷ []
one_more seqs k old new event are b below one none =
    let rest = b.0 in
    let rest_are : AreOf seqs rest = are_behind seqs old rest (subst (AreOf seqs) b.1 are) in
    let mine : own_of (seq_at k) rest ≡ event ∷ [] = append_cancel_left (own_of (seq_at k) old) (own_of (seq_at k) rest) (event ∷ [])
    (sym (own-append (seq_at k) old rest) ∙ (ap (own_of (seq_at k)) (sym b.1) ∙ one)) in
    let others : (t : ℕ) → t < seqs → t ≢ k → own_of (seq_at t) rest ≡ [] = λ t lt not. append_cancel_left (own_of (seq_at t) old) (own_of (seq_at t) rest) []
    (sym (own-append (seq_at t) old rest) ∙ (ap (own_of (seq_at t)) (sym b.1) ∙ (none t lt not ∙ sym (append-nil (own_of (seq_at t) old))))) in
    b.1 ∙ ap (λ xs. old ++ xs) (only_one seqs k rest event rest_are below mine others)
