-- Lists of a group's things, pendings and responders.
use Rattle.std.proofs.Common.{◌≡◌, ℕ, suc, Bool, true, false, List, [], ◌∷◌, refl, ap, ◌∙◌, inl, inr}
use Rattle.std.specs.Prelude.{if◌then◌else◌, ◌||◌, ◌&&◌, ◌==◌, filter}
use Rattle.std.specs.List.{list_any}
use Rattle.mj_base.specs.declared.ids.EndId.{EndId}
use Rattle.handle_table.specs.declared.thing.Thing.{Thing}
use Rattle.bind_model.specs.declared.endpoint.PendingId.{PendingId}
use Rattle.bind_model.specs.declared.endpoint.ResponderId.{ResponderId}
use Rattle.handle_table.specs.Things.{same, same_end, has}
use Rattle.group_laws.specs.Apart.{seqs_of_pendings}
use Rattle.group_laws.proofs.Holding.{AllIn}
use Rattle.bind_model.specs.Replies.{picked, unpicked, has_pending, same_responder, less_one}
use Rattle.handle_table.proofs.ThingsLemmas.{same_end-true, or_cases, or_left, or_right, and_left}
use Rattle.group_laws.proofs.Agrees.{is_mine, answers_here}
use Rattle.group_laws.proofs.Sides.{two_ways, Side, other, side_first, side_rest}

pub has_picked : (at : List ℕ) (k : ℕ) (xs : List Thing) (z : Thing) → has (picked at k xs) z ≡ true → has xs z ≡ true
has_picked at k [] z h = h
has_picked at k (x ∷ xs) z h = go (has_picked at (suc k) xs z) (list_any (λ n. n == k) at) h
  where
    go : (has (picked at (suc k) xs) z ≡ true → has xs z ≡ true) → (b : Bool)
        → has (if b then x ∷ picked at (suc k) xs else picked at (suc k) xs) z ≡ true → has (x ∷ xs) z ≡ true
    go rest true h = elim (or_cases (same x z) (has (picked at (suc k) xs) z) h) [
      | inl s ↦ or_left (same x z) (has xs z) s
      | inr s ↦ or_right (same x z) (has xs z) (rest s)
    ]
    go rest false h = or_right (same x z) (has xs z) (rest h)

pub has_unpicked : (at : List ℕ) (k : ℕ) (xs : List Thing) (z : Thing) → has (unpicked at k xs) z ≡ true → has xs z ≡ true
has_unpicked at k [] z h = h
has_unpicked at k (x ∷ xs) z h = go (has_unpicked at (suc k) xs z) (list_any (λ n. n == k) at) h
  where
    go : (has (unpicked at (suc k) xs) z ≡ true → has xs z ≡ true) → (b : Bool)
        → has (if b then unpicked at (suc k) xs else x ∷ unpicked at (suc k) xs) z ≡ true → has (x ∷ xs) z ≡ true
    go rest false h = elim (or_cases (same x z) (has (unpicked at (suc k) xs) z) h) [
      | inl s ↦ or_left (same x z) (has xs z) s
      | inr s ↦ or_right (same x z) (has xs z) (rest s)
    ]
    go rest true h = or_right (same x z) (has xs z) (rest h)

module _ (inside : ℕ → Bool) where
  pub filter_none : (xs : List Thing) → Side inside false xs → filter (is_mine inside) xs ≡ []
  filter_none [] s = refl
  filter_none (x ∷ xs) s = rw (side_first inside false x xs s) (filter_none xs (side_rest inside false x xs s))

  pub filter_all : (xs : List Thing) → Side inside true xs → filter (is_mine inside) xs ≡ xs
  filter_all [] s = refl
  filter_all (x ∷ xs) s = rw (side_first inside true x xs s) (ap (λ ys. x ∷ ys) (filter_all xs (side_rest inside true x xs s)))

  pub picked_side : (b : Bool) (at : List ℕ) (k : ℕ) (xs : List Thing) → Side inside b xs → Side inside b (picked at k xs)
  picked_side b at k xs s z e = s z (has_picked at k xs z e)

  pub unpicked_side : (b : Bool) (at : List ℕ) (k : ℕ) (xs : List Thing) → Side inside b xs → Side inside b (unpicked at k xs)
  unpicked_side b at k xs s z e = s z (has_unpicked at k xs z e)

  -- pendings that others name are none of the group's
  pub no_pending : (s : ℕ) (ps : List PendingId) (p : PendingId) → inside s ≡ false → AllIn inside s (seqs_of_pendings ps) → inside p.end.seq ≡ true
      → has_pending ps p ≡ false
  no_pending s [] p f h i = refl
  no_pending s (q ∷ ps) p f h i = rw (other inside q.end p.end (h.0 ∙ f) i, no_pending s ps p f h.1 i) refl

  pub one_pending : (q p : PendingId) → inside q.end.seq ≡ false → inside p.end.seq ≡ true → has_pending (q ∷ []) p ≡ false
  one_pending q p f i = rw (other inside q.end p.end f i) refl

  pub same_at : (r s : ResponderId) → same_responder s r ≡ true → inside s.end.seq ≡ inside r.end.seq
  same_at r s h =
      let a : (same_end s.end r.end && (s.id == r.id) && (s.request == r.request) && (s.interface == r.interface)) ≡ true = and_left
      (same_end s.end r.end && (s.id == r.id) && (s.request == r.request) && (s.interface == r.interface)) (s.method == r.method) h in
      let b : (same_end s.end r.end && (s.id == r.id) && (s.request == r.request)) ≡ true = and_left
      (same_end s.end r.end && (s.id == r.id) && (s.request == r.request)) (s.interface == r.interface) a in
      let c : (same_end s.end r.end && (s.id == r.id)) ≡ true = and_left (same_end s.end r.end && (s.id == r.id)) (s.request == r.request) b in
      ap (λ (x : EndId). inside x.seq) (same_end-true s.end r.end (and_left (same_end s.end r.end) (s.id == r.id) c))

  -- a responder of others is spent
  pub less_out : (r : ResponderId) (rs : List ResponderId) → inside r.end.seq ≡ false
      → filter (answers_here inside) (less_one r rs) ≡ filter (answers_here inside) rs
  less_out r [] f = refl
  less_out r (s ∷ rs) f = go (same_responder s r) refl (less_out r rs f)
    where
      go : (b : Bool) → same_responder s r ≡ b → filter (answers_here inside) (less_one r rs) ≡ filter (answers_here inside) rs
          → filter (answers_here inside) (if b then rs else s ∷ less_one r rs)
          ≡ (if answers_here inside s then s ∷ filter (answers_here inside) rs else filter (answers_here inside) rs)
      go true e rest = rw (same_at r s e ∙ f) refl
      go false e rest = rw rest refl

  -- one of the group's is spent
  pub less_in : (r : ResponderId) (rs : List ResponderId) → inside r.end.seq ≡ true
      → filter (answers_here inside) (less_one r rs) ≡ less_one r (filter (answers_here inside) rs)
  less_in r [] t = refl
  less_in r (s ∷ rs) t = go (same_responder s r) (answers_here inside s) refl refl (less_in r rs t)
    where
      go : (b c : Bool) → same_responder s r ≡ b → answers_here inside s ≡ c
          → filter (answers_here inside) (less_one r rs) ≡ less_one r (filter (answers_here inside) rs)
          → filter (answers_here inside) (if b then rs else s ∷ less_one r rs)
          ≡ less_one r (if c then s ∷ filter (answers_here inside) rs else filter (answers_here inside) rs)
      go true true e k rest = rw e refl
      go true false e k rest = absurd (two_ways (inside s.end.seq) (same_at r s e ∙ t) k)
      go false true e k rest = rw (e, k, rest) refl
      go false false e k rest = rw (k, rest) refl

  -- whether one of the group's stands in a list is told by the group's part of it
  pub found_in : (r : ResponderId) (rs : List ResponderId) → inside r.end.seq ≡ true
      → list_any (λ q. same_responder q r) rs ≡ list_any (λ q. same_responder q r) (filter (answers_here inside) rs)
  found_in r [] t = refl
  found_in r (s ∷ rs) t = go (same_responder s r) (answers_here inside s) refl refl (found_in r rs t)
    where
      go : (b c : Bool) → same_responder s r ≡ b → answers_here inside s ≡ c
          → list_any (λ q. same_responder q r) rs ≡ list_any (λ q. same_responder q r) (filter (answers_here inside) rs)
          → (b || list_any (λ q. same_responder q r) rs)
          ≡ list_any (λ q. same_responder q r) (if c then s ∷ filter (answers_here inside) rs else filter (answers_here inside) rs)
      go true true e k rest = rw e refl
      go true false e k rest = absurd (two_ways (inside s.end.seq) (same_at r s e ∙ t) k)
      go false true e k rest = rw (e, rest) refl
      go false false e k rest = rest
