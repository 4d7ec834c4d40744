-- The laws of types, put together as the rules are.
use Rattle.std.proofs.Common.{◌≡◌, ℕ, zero, suc, List, [], ◌∷◌, ◌++◌, length, Err, false, inl, inr, refl, subst, arith}
use Rattle.mojom_ast.specs.declared.classes.TheConstants.{MESSAGE_PIPE, DATA_PIPE_CONSUMER, DATA_PIPE_PRODUCER, SHARED_BUFFER, PLATFORM, LESS, GREATER, HANDLE, PENDING_REMOTE, PENDING_RECEIVER, PENDING_ASSOCIATED_REMOTE, PENDING_ASSOCIATED_RECEIVER, COMMA, QUESTION, DOT, ARRAY, MAP}
use Rattle.mojom_ast.specs.declared.fault.Fault.TheVariants.{Unexpected, TooNested}
use Rattle.mojom_ast.specs.declared.types.HandleSort.TheVariants.{MessagePipe, DataPipeConsumer, DataPipeProducer, SharedBuffer, Platform}
use Rattle.mojom_ast.specs.declared.types.PendingSort.TheVariants.{Remote, Receiver, AssociatedRemote, AssociatedReceiver}
use Rattle.mojom_ast.specs.Classes.{class}
use Rattle.mojom_ast.specs.TypeTrees.{TypeTree, Named, HandleOf}
use Rattle.mojom_ast.specs.Trees.{inner, behind, make_array, make_map, make_pending, make_type}
use Rattle.mojom_ast.specs.Lang.{Lang, has, deep, labelled}
use Rattle.mojom_ast.specs.Grammar.{identifier, number, name, handle_sort, sort_given, handle, pending_sort, pending, count, array, map_of, base, type_starts, type_at, type_within}
use Rattle.grammar_laws.proofs.Asks.{Spelled, Sure, Beginning, TooDeep, mode_of}
use Rattle.grammar_laws.proofs.Shows.{Shows, shows_deep}
use Rattle.grammar_laws.proofs.Opens.{Front, Opens, opens_deep}
use Rattle.grammar_laws.proofs.Finds.{Passes, Finds, cut, cut_of, front_has, pick_true}
use Rattle.grammar_laws.proofs.Lists.{Good, good_tok, good_value, good_seq, good_or, good_maybe, good_asked}
use Rattle.grammar_laws.proofs.Values.{good_number, good_name}

-- a rule with its starts written out
pub good_labelled : {A : Type 0} {D : Type 0} {more : List ℕ} {one two : Lang A} (cs : List ℕ) → Good D more one two → one.starts ≡ cs → two.starts ≡ cs
    → one.null ≡ false → two.null ≡ false → Good D more (labelled cs one) (labelled cs two)
good_labelled {one = one} {two = two} cs g s1 s2 n1 n2 = record {
  same = refl;
  null = refl;
  opens = λ m K p h. elim (g.opens m K p h) [ inl f ↦ inl (subst (λ (xs : List ℕ). Front m xs p) s1 f) | inr n ↦ absurd (cc) ];
  opens_two = λ m K p h. elim (g.opens_two m K p h) [ inl f ↦ inl (subst (λ (xs : List ℕ). Front m xs p) s2 f) | inr n ↦ absurd (cc) ];
  shows = g.shows;
  finds = g.finds;
}

finds_deep : (A : Type 0) (cs : List ℕ) (b : ℕ) (D : Type 0) (more : List ℕ) → Finds {A = A} b D more (deep cs) (deep cs)
finds_deep A cs b D more m ask K free [] u le fits h = cut m K (deep cs) (shows_deep A cs) u h
finds_deep A cs b D more Spelled ask K free (t ∷ ts) u le fits h = absurd h.1
finds_deep A cs b D more Sure ask K free (t ∷ ts) u le fits h = absurd h.1
finds_deep A cs b D more Beginning ask K free (t ∷ ts) u le fits h = absurd h.1
finds_deep A cs b D more TooDeep ask K free (t ∷ ts) u le fits h = inr (pick_true (Passes {A = A} TooDeep u) (has cs (class t))
    (Err (TooNested (length (t ∷ ts ++ u)))) (Err (Unexpected (length (t ∷ ts ++ u)))) h.0 (rw h.2 refl))

finds_from_deep : {A : Type 0} (cs : List ℕ) (b : ℕ) (D : Type 0) (more : List ℕ) (two : Lang A) → Shows two → (D → ⊥) → Finds b D more (deep cs) two
finds_from_deep cs b D more two t never m ask K free [] u le fits h = cut m K two t u h
finds_from_deep cs b D more two t never Spelled ask K free (s ∷ ss) u le fits h = absurd h.1
finds_from_deep cs b D more two t never Sure ask K free (s ∷ ss) u le fits h = absurd h.1
finds_from_deep cs b D more two t never Beginning ask K free (s ∷ ss) u le fits h = absurd h.1
finds_from_deep cs b D more two t never TooDeep ask K free (s ∷ ss) u le fits h = absurd (never ask)

finds_to_deep : {A : Type 0} (cs : List ℕ) (b : ℕ) (D : Type 0) (more : List ℕ) (one : Lang A) → Opens one → one.null ≡ false → one.starts ≡ cs → (D → ⊥)
    → Finds b D more one (deep cs)
finds_to_deep {A} cs b D more one o e same never m ask K free [] u le fits h = cut m K (deep cs) (shows_deep A cs) u (cut_of one o e (mode_of m) K h)
finds_to_deep {A} cs b D more one o e same never Spelled ask K free (t ∷ ts) u le fits h = inr
    (pick_true (Passes {A = A} Spelled u) (has cs (class t)) (Err (TooNested (length (t ∷ ts ++ u)))) (Err (Unexpected (length (t ∷ ts ++ u))))
    (front_has one (deep cs) o e same (mode_of Spelled) K t ts h) tt)
finds_to_deep cs b D more one o e same never Sure ask K free (t ∷ ts) u le fits h = absurd (never ask)
finds_to_deep {A} cs b D more one o e same never Beginning ask K free (t ∷ ts) u le fits h = inr
    (pick_true (Passes {A = A} Beginning u) (has cs (class t)) (Err (TooNested (length (t ∷ ts ++ u)))) (Err (Unexpected (length (t ∷ ts ++ u))))
    (front_has one (deep cs) o e same (mode_of Beginning) K t ts h) tt)
finds_to_deep cs b D more one o e same never TooDeep ask K free (t ∷ ts) u le fits h = absurd (never ask)

module _ (D : Type 0) where
  good_handle_sort : Good D [] handle_sort handle_sort
  unfolding handle_sort
  good_handle_sort = good_or (good_value (λ t. MessagePipe) (good_tok D (MESSAGE_PIPE ∷ [])))
      (good_or (good_value (λ t. DataPipeConsumer) (good_tok D (DATA_PIPE_CONSUMER ∷ [])))
      (good_or (good_value (λ t. DataPipeProducer) (good_tok D (DATA_PIPE_PRODUCER ∷ [])))
      (good_or (good_value (λ t. SharedBuffer) (good_tok D (SHARED_BUFFER ∷ []))) (good_value (λ t. Platform) (good_tok D (PLATFORM ∷ []))) refl refl refl)
      refl refl refl) refl refl refl) refl refl refl

  good_sort_given : Good D [] sort_given sort_given
  unfolding sort_given handle_sort
  good_sort_given = good_value inner (good_seq (good_tok D (LESS ∷ [])) (good_seq good_handle_sort (good_tok D (GREATER ∷ [])) refl) refl)

  good_handle : Good D (LESS ∷ []) handle handle
  unfolding handle sort_given
  good_handle = good_value (λ x. HandleOf x.1) (good_seq (good_tok D (HANDLE ∷ [])) (good_maybe good_sort_given refl) refl)

  good_pending_sort : Good D [] pending_sort pending_sort
  unfolding pending_sort
  good_pending_sort = good_or (good_value (λ t. Remote) (good_tok D (PENDING_REMOTE ∷ [])))
      (good_or (good_value (λ t. Receiver) (good_tok D (PENDING_RECEIVER ∷ [])))
      (good_or (good_value (λ t. AssociatedRemote) (good_tok D (PENDING_ASSOCIATED_REMOTE ∷ [])))
      (good_value (λ t. AssociatedReceiver) (good_tok D (PENDING_ASSOCIATED_RECEIVER ∷ []))) refl refl refl) refl refl refl) refl refl refl

  good_pending : Good D [] pending pending
  unfolding pending pending_sort name identifier
  good_pending = good_value make_pending (good_seq good_pending_sort (good_seq (good_tok D (LESS ∷ []))
      (good_seq (good_name D) (good_tok D (GREATER ∷ [])) refl) refl) refl)

  good_count : Good D [] count count
  unfolding count number
  good_count = good_value behind (good_seq (good_tok D (COMMA ∷ [])) (good_number D) refl)

-- what a type goes on with: a question mark, a handle's sort, or a dot of a name
abbrev pub type_more : List ℕ
type_more = QUESTION ∷ LESS ∷ DOT ∷ []

module _ (D : Type 0) (one two : Lang TypeTree) (g : Good D type_more (labelled type_starts one) (labelled type_starts two)) where
  good_array : Good D [] (array (labelled type_starts one)) (array (labelled type_starts two))
  unfolding array count
  good_array = good_value make_array (good_seq (good_tok D (ARRAY ∷ []))
      (good_seq (good_tok D (LESS ∷ [])) (good_seq g (good_seq (good_maybe (good_count D) refl) (good_tok D (GREATER ∷ [])) refl) refl) refl) refl)

  good_map_of : Good D [] (map_of (labelled type_starts one)) (map_of (labelled type_starts two))
  unfolding map_of
  good_map_of = good_value make_map (good_seq (good_tok D (MAP ∷ [])) (good_seq (good_tok D (LESS ∷ []))
      (good_seq g (good_seq (good_tok D (COMMA ∷ [])) (good_seq g (good_tok D (GREATER ∷ [])) refl) refl) refl) refl) refl)

  good_base : Good D (LESS ∷ DOT ∷ []) (base (labelled type_starts one)) (base (labelled type_starts two))
  unfolding base array map_of handle pending pending_sort name identifier
  good_base = good_or good_array (good_or good_map_of (good_or (good_handle D)
      (good_or (good_pending D) (good_value Named (good_name D)) refl refl refl) refl refl refl) refl refl refl) refl refl refl

type_at_starts : (n : ℕ) → (type_at n).starts ≡ type_starts
unfolding type_at base array map_of handle pending pending_sort name identifier
type_at_starts zero = refl
type_at_starts (suc n) = refl

type_at_null : (n : ℕ) → (type_at n).null ≡ false
unfolding type_at base array map_of handle pending pending_sort name identifier
type_at_null zero = refl
type_at_null (suc n) = refl

-- one type more round it
wrapped : (j k : ℕ) → Good (j ≡ k) type_more (type_at j) (type_at k) → Good (j ≡ k) type_more (type_at (suc j)) (type_at (suc k))
unfolding type_at base array map_of handle pending pending_sort name identifier
wrapped j k g = good_value make_type (good_seq (good_base (j ≡ k) (type_at j) (type_at k)
    (good_labelled type_starts g (type_at_starts j) (type_at_starts k) (type_at_null j) (type_at_null k)))
    (good_maybe (good_tok (j ≡ k) (QUESTION ∷ [])) refl) refl)

same_type : (k : ℕ) → Good (k ≡ k) type_more (type_at k) (type_at k)
unfolding type_at base array map_of handle pending pending_sort name identifier
same_type zero = record {
  same = refl;
  null = refl;
  opens = opens_deep TypeTree type_starts;
  opens_two = opens_deep TypeTree type_starts;
  shows = shows_deep TypeTree type_starts;
  finds = λ b. finds_deep TypeTree type_starts b (◌≡◌ {A = ℕ} zero zero) type_more;
}
same_type (suc k) = good_asked (λ e. refl) (wrapped k k (same_type k))

-- for types, level by level
pub good_type_at : (j k : ℕ) → Good (j ≡ k) type_more (type_at j) (type_at k)
unfolding type_at base array map_of handle pending pending_sort name identifier
good_type_at zero zero = record {
  same = refl;
  null = refl;
  opens = opens_deep TypeTree type_starts;
  opens_two = opens_deep TypeTree type_starts;
  shows = shows_deep TypeTree type_starts;
  finds = λ b. finds_deep TypeTree type_starts b (◌≡◌ {A = ℕ} zero zero) type_more;
}
good_type_at zero (suc k) = let w = wrapped k k (same_type k) in record {
  same = refl;
  null = refl;
  opens = opens_deep TypeTree type_starts;
  opens_two = w.opens_two;
  shows = w.shows;
  finds = λ b. finds_from_deep type_starts b (zero ≡ suc k) type_more (type_at (suc k)) w.shows (λ e. absurd (cc));
}
good_type_at (suc j) zero = let w = wrapped j j (same_type j) in record {
  same = refl;
  null = refl;
  opens = w.opens;
  opens_two = opens_deep TypeTree type_starts;
  shows = shows_deep TypeTree type_starts;
  finds = λ b. finds_to_deep type_starts b (suc j ≡ zero) type_more (type_at (suc j)) w.opens refl refl (λ e. absurd (cc));
}
good_type_at (suc j) (suc k) = good_asked (λ (e : suc j ≡ suc k). omega arith) (wrapped j k (good_type_at j k))

-- for what has a type
pub good_type : (j k : ℕ) → Good (j ≡ k) type_more (type_within j) (type_within k)
good_type j k = good_labelled type_starts (good_type_at j k) (type_at_starts j) (type_at_starts k) (type_at_null j) (type_at_null k)
