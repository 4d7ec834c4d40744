-- New things have new names; every legal history keeps what Kept says.
use Rattle.std.proofs.Common.{sym, ◌≡◌, ◌<◌, ℕ, ◌+◌, Bool, true, false, List, [], ◌∷◌, ◌++◌, refl, ap, ◌∙◌, arith, inl, inr}
use Rattle.std.specs.Prelude.{if◌then◌else◌, not, ◌&&◌, ◌||◌, ◌==◌}
use Rattle.std.specs.List.{count_by}
use Rattle.std.proofs.lemmas.List.{append-nil}
use Rattle.std.proofs.lemmas.List.Sums.{sum_by-append}
use Rattle.std.proofs.lemmas.Bool.{eqb-true, eq-eqb}
use Rattle.std.proofs.lemmas.Bool.Decides.{nat_tests}
use Rattle.mj_base.specs.declared.ids.EndId.{EndId}
use Rattle.mj_base.specs.declared.ids.SeqId.{SeqId}
use Rattle.handle_table.specs.declared.thing.TokenId.{TokenId}
use Rattle.handle_table.specs.declared.thing.Thing.{Thing}
use Rattle.handle_table.specs.declared.thing.Thing.TheVariants.{End, Token}
use Rattle.bind_model.specs.declared.asked.Asked.{Asked}
use Rattle.bind_model.specs.declared.told.Told.{Told}
use Rattle.bind_model.specs.declared.event.Event.{Event}
use Rattle.handle_table.specs.Things.{same, same_end, same_token, has, is_distinct, is_end, seq_of}
use Rattle.bind_model.specs.Wire.{Wire}
use Rattle.bind_model.specs.Machine.{made, made_by}
use Rattle.bind_model.specs.Replies.{serials, tokens, legal}
use Rattle.bind_model.specs.Laws.{OnePlace}
use Rattle.handle_table.proofs.ThingsLemmas.{same-sym, same_end-true, same_token-true, has-append, has-cases, or_cases, and_left, and_right, not_left, not_right, not-true}
use Rattle.bind_model.proofs.Balance.{conserved}
use Rattle.bind_model.proofs.Kept.{Kept}
use Rattle.bind_model.proofs.Moving.{moves, new_end, new_token}
use Rattle.bind_model.proofs.Keeping.{rows_step, pendings_step, peers_step, mail_step, counted_step}
use Rattle.bind_model.proofs.Outcomes.{Outcome, outcome, joins, mints, binds, associates, attaches, calls, answers, writes, gets, drops, controls, spoils, closes, closes_pending, closes_responder, closes_end, closes_endpoint, notifies, pauses, pipes, flows, skips, refuses}

module _ (wire : Wire) (seqs : ℕ) (past : List Event) (seq : SeqId) (k : Kept wire past) where
  ends_same : (x : EndId) → has (made past ++ []) (End x) ≡ true → x.serial < count_by (λ y. is_end y && (seq_of y == x.seq)) (made past ++ [])
  ends_same x h = rw append-nil (k.ends x (rw append-nil at h))

  tokens_same : (t : TokenId) → has (made past ++ []) (Token t) ≡ true → t.serial < count_by (λ y. not (is_end y) && (seq_of y == t.seq)) (made past ++ [])
  tokens_same t h = rw append-nil (k.tokens t (rw append-nil at h))

  ends_two : (t : ℕ) (a b x : EndId) → a ≡ record { seq = seq.0; serial = serials past seq.0 }
      → b ≡ record { seq = t; serial = serials past t + (if t == seq.0 then 1 else 0) }
      → has (made past ++ End a ∷ End b ∷ []) (End x) ≡ true
      → x.serial < serials past x.seq + ((if a.seq == x.seq then 1 else 0) + (if b.seq == x.seq then 1 else 0))
  ends_two t a b x p q h =
      let qa : a.seq ≡ seq.0 = ap (λ e. e.seq) p in
      let na : a.serial ≡ serials past seq.0 = ap (λ e. e.serial) p in
      let qb : b.seq ≡ t = ap (λ e. e.seq) q in
      let nb : b.serial ≡ serials past t + (if t == seq.0 then 1 else 0) = ap (λ e. e.serial) q in
      elim (has-cases (made past) (End a ∷ End b ∷ []) (End x) h) [
        | inl s ↦ omega (arith, k.ends x s)
        | inr s ↦ elim (or_cases (same_end a x) (same_end b x || false) s) [
          | inl u ↦ rw (← same_end-true a x u, eq-eqb a.seq a.seq refl) (omega (arith, ap (serials past) qa))
          | inr u ↦ elim (or_cases (same_end b x) false u) [
            | inl v ↦ rw (← same_end-true b x v, eq-eqb b.seq b.seq refl, qa, qb)
                (let n : serials past b.seq ≡ serials past t = ap (serials past) qb in grind (arith, nat_tests))
            | inr v ↦ absurd (let none : false ≡ true = v in cc)
          ]
        ]
      ]

  ends_step : {asked : Asked} {told : Told} → Outcome wire seqs past seq asked told → (x : EndId) → has (made past ++ made_by told) (End x) ≡ true
      → x.serial < count_by (λ y. is_end y && (seq_of y == x.seq)) (made past ++ made_by told)
  ends_step (joins {a = a} {b = b} t j p q) x h =
      let n = ends_two t a b x p q h in
      omega (arith, n, sum_by-append (λ y. if is_end y && (seq_of y == x.seq) then 1 else 0) (made past) (End a ∷ End b ∷ []))
  ends_step mints x h = elim (has-cases (made past) (Token (record { seq = seq.0; serial = tokens past seq.0 }) ∷ []) (End x) h) [
    | inl s ↦ omega (
      arith,
      k.ends x s,
      sum_by-append (λ y. if is_end y && (seq_of y == x.seq) then 1 else 0) (made past)
          (Token (record { seq = seq.0; serial = tokens past seq.0 }) ∷ []),
    )
    | inr s ↦ absurd cc
  ]
  ends_step (pipes {p = a} {q = b} z p q) x h = elim (has-cases (made past) (Token a ∷ Token b ∷ []) (End x) h) [
    | inl s ↦ omega (arith, k.ends x s, sum_by-append (λ y. if is_end y && (seq_of y == x.seq) then 1 else 0) (made past) (Token a ∷ Token b ∷ []))
    | inr s ↦ absurd cc
  ]
  ends_step (binds o) x h = ends_same x h
  ends_step (associates main e g q) x h = ends_same x h
  ends_step (attaches o g l e) x h = ends_same x h
  ends_step (calls r o ps mk e w b) x h = ends_same x h
  ends_step (answers r o rs ps e w b) x h = ends_same x h
  ends_step (writes o w) x h = ends_same x h
  ends_step (gets m hd r c f e) x h = ends_same x h
  ends_step (drops m f e d) x h = ends_same x h
  ends_step (controls m f e d) x h = ends_same x h
  ends_step (spoils m f e) x h = ends_same x h
  ends_step (closes o e) x h = ends_same x h
  ends_step (closes_pending o e) x h = ends_same x h
  ends_step (closes_responder e) x h = ends_same x h
  ends_step (closes_end r i o e) x h = ends_same x h
  ends_step (closes_endpoint r i o e) x h = ends_same x h
  ends_step (notifies n_r n_o n_e n_w n_s n_f n_p) x h = ends_same x h
  ends_step (pauses n_b n_a n_e n_f n_g n_s) x h = ends_same x h
  ends_step (flows n_d n_o n_e n_f) x h = ends_same x h
  ends_step skips x h = ends_same x h
  ends_step refuses x h = ends_same x h

  abbrev new_seq : TokenId
  new_seq = record { seq = seq.0; serial = tokens past seq.0 }

  tokens_two : (a b t : TokenId) → a ≡ record { seq = seq.0; serial = tokens past seq.0 } → b ≡ record { seq = seq.0; serial = tokens past seq.0 + 1 }
      → has (made past ++ Token a ∷ Token b ∷ []) (Token t) ≡ true
      → t.serial < tokens past t.seq + ((if a.seq == t.seq then 1 else 0) + (if b.seq == t.seq then 1 else 0))
  tokens_two a b t p q h =
      let qa : a.seq ≡ seq.0 = ap (λ e. e.seq) p in
      let na : a.serial ≡ tokens past seq.0 = ap (λ e. e.serial) p in
      let qb : b.seq ≡ seq.0 = ap (λ e. e.seq) q in
      let nb : b.serial ≡ tokens past seq.0 + 1 = ap (λ e. e.serial) q in
      elim (has-cases (made past) (Token a ∷ Token b ∷ []) (Token t) h) [
        | inl s ↦ omega (arith, k.tokens t s)
        | inr s ↦ elim (or_cases (same_token a t) (same_token b t || false) s) [
          | inl u ↦ rw (← same_token-true a t u, eq-eqb a.seq a.seq refl) (omega (arith, ap (tokens past) qa))
          | inr u ↦ elim (or_cases (same_token b t) false u) [
            | inl v ↦ rw (← same_token-true b t v, eq-eqb b.seq b.seq refl, qa, eq-eqb seq.0 b.seq (sym qb)) (omega (arith, ap (tokens past) qb))
            | inr v ↦ absurd (let none : false ≡ true = v in cc)
          ]
        ]
      ]

  tokens_step : {asked : Asked} {told : Told} → Outcome wire seqs past seq asked told → (t : TokenId) → has (made past ++ made_by told) (Token t) ≡ true
      → t.serial < count_by (λ y. not (is_end y) && (seq_of y == t.seq)) (made past ++ made_by told)
  tokens_step (joins {a = a} {b = b} n j p q) t h = elim (has-cases (made past) (End a ∷ End b ∷ []) (Token t) h) [
    | inl s ↦ omega (arith, k.tokens t s, sum_by-append (λ y. if not (is_end y) && (seq_of y == t.seq) then 1 else 0) (made past) (End a ∷ End b ∷ []))
    | inr s ↦ absurd cc
  ]
  tokens_step mints t h =
      let sum = sum_by-append (λ y. if not (is_end y) && (seq_of y == t.seq) then 1 else 0) (made past) (Token new_seq ∷ []) in
      elim (has-cases (made past) (Token new_seq ∷ []) (Token t) h) [
        | inl s ↦ omega (arith, k.tokens t s, sum)
        | inr s ↦ elim (or_cases (same_token new_seq t) false s) [
          | inl u ↦ rw sum (rw (← same_token-true new_seq t u, eq-eqb seq.0 seq.0 refl) (omega arith))
          | inr u ↦ absurd (let none : false ≡ true = u in cc)
        ]
      ]
  tokens_step (pipes {p = a} {q = b} z p q) t h =
      let n = tokens_two a b t p q h in
      omega (arith, n, sum_by-append (λ y. if not (is_end y) && (seq_of y == t.seq) then 1 else 0) (made past) (Token a ∷ Token b ∷ []))
  tokens_step (binds o) x h = tokens_same x h
  tokens_step (associates main e g q) x h = tokens_same x h
  tokens_step (attaches o g l e) x h = tokens_same x h
  tokens_step (calls r o ps mk e w b) x h = tokens_same x h
  tokens_step (answers r o rs ps e w b) x h = tokens_same x h
  tokens_step (writes o w) x h = tokens_same x h
  tokens_step (gets m hd r c f e) x h = tokens_same x h
  tokens_step (drops m f e d) x h = tokens_same x h
  tokens_step (controls m f e d) x h = tokens_same x h
  tokens_step (spoils m f e) x h = tokens_same x h
  tokens_step (closes o e) x h = tokens_same x h
  tokens_step (closes_pending o e) x h = tokens_same x h
  tokens_step (closes_responder e) x h = tokens_same x h
  tokens_step (closes_end r i o e) x h = tokens_same x h
  tokens_step (closes_endpoint r i o e) x h = tokens_same x h
  tokens_step (notifies n_r n_o n_e n_w n_s n_f n_p) x h = tokens_same x h
  tokens_step (pauses n_b n_a n_e n_f n_g n_s) x h = tokens_same x h
  tokens_step (flows n_d n_o n_e n_f) x h = tokens_same x h
  tokens_step skips x h = tokens_same x h
  tokens_step refuses x h = tokens_same x h

  apart_two : (t : ℕ) (a b : EndId) → a ≡ record { seq = seq.0; serial = serials past seq.0 }
      → b ≡ record { seq = t; serial = serials past t + (if t == seq.0 then 1 else 0) } → same_end a b ≡ false
  apart_two t a b p q = rw (p, q) (go (seq.0 == t) refl)
    where
      go : (c : Bool) → (seq.0 == t) ≡ c → (c && (serials past seq.0 == (serials past t + (if t == seq.0 then 1 else 0)))) ≡ false
      go true e = let s : seq.0 ≡ t = eqb-true seq.0 t e in let n : serials past seq.0 ≡ serials past t = ap (serials past) s in grind (arith, nat_tests)
      go false e = refl

  distinct_one : (xs : List Thing) (a : Thing) → is_distinct xs ≡ true → has xs a ≡ false → is_distinct (xs ++ a ∷ []) ≡ true
  distinct_one [] a d h = refl
  distinct_one (x ∷ xs) a d h =
      let rest : is_distinct (xs ++ a ∷ []) ≡ true = distinct_one xs a (and_right (not (has xs x)) (is_distinct xs) d) (not_right (same x a) (has xs a) h) in
      let none : has xs x ≡ false = not-true (has xs x) (and_left (not (has xs x)) (is_distinct xs) d) in
      let na : same a x ≡ false = same-sym a x ∙ not_left (same x a) (has xs a) h in
      rw (has-append xs (a ∷ []) x, none, na, rest) refl

  distinct_two : (xs : List Thing) (a b : Thing) → is_distinct xs ≡ true → has xs a ≡ false → has xs b ≡ false → same a b ≡ false
      → is_distinct (xs ++ a ∷ b ∷ []) ≡ true
  distinct_two [] a b d ha hb e = rw (same-sym b a, e) refl
  distinct_two (x ∷ xs) a b d ha hb e =
      let rest : is_distinct (xs ++ a ∷ b ∷ []) ≡ true = distinct_two xs a b (and_right (not (has xs x)) (is_distinct xs) d)
      (not_right (same x a) (has xs a) ha) (not_right (same x b) (has xs b) hb) e in
      let none : has xs x ≡ false = not-true (has xs x) (and_left (not (has xs x)) (is_distinct xs) d) in
      let na : same a x ≡ false = same-sym a x ∙ not_left (same x a) (has xs a) ha in
      let nb : same b x ≡ false = same-sym b x ∙ not_left (same x b) (has xs b) hb in
      rw (has-append xs (a ∷ b ∷ []) x, none, na, nb, rest) refl

  distinct_step : {asked : Asked} {told : Told} → Outcome wire seqs past seq asked told → is_distinct (made past ++ made_by told) ≡ true
  distinct_step (joins {a = a} {b = b} t j p q) = distinct_two (made past) (End a) (End b) k.distinct (new_end wire seqs past seq k a (rw p (omega arith)))
      (new_end wire seqs past seq k b (rw q (omega arith))) (apart_two t a b p q)
  distinct_step mints = distinct_one (made past) (Token new_seq) k.distinct (new_token wire seqs past seq k new_seq (omega arith))
  distinct_step (pipes {p = a} {q = b} z p q) = distinct_two (made past) (Token a) (Token b) k.distinct
      (new_token wire seqs past seq k a (rw p (omega arith))) (new_token wire seqs past seq k b (rw q (omega arith)))
      (rw (p, q) (go (seq.0 == seq.0)))
    where
      go : (c : Bool) → (c && (tokens past seq.0 == (tokens past seq.0 + 1))) ≡ false
      go true = grind (arith, nat_tests)
      go false = refl
  distinct_step (binds o) = rw append-nil k.distinct
  distinct_step (associates main e g q) = rw append-nil k.distinct
  distinct_step (attaches o g l e) = rw append-nil k.distinct
  distinct_step (calls r o ps mk e w b) = rw append-nil k.distinct
  distinct_step (answers r o rs ps e w b) = rw append-nil k.distinct
  distinct_step (writes o w) = rw append-nil k.distinct
  distinct_step (gets m hd r c f e) = rw append-nil k.distinct
  distinct_step (drops m f e d) = rw append-nil k.distinct
  distinct_step (controls m f e d) = rw append-nil k.distinct
  distinct_step (spoils m f e) = rw append-nil k.distinct
  distinct_step (closes o e) = rw append-nil k.distinct
  distinct_step (closes_pending o e) = rw append-nil k.distinct
  distinct_step (closes_responder e) = rw append-nil k.distinct
  distinct_step (closes_end r i o e) = rw append-nil k.distinct
  distinct_step (closes_endpoint r i o e) = rw append-nil k.distinct
  distinct_step (notifies n_r n_o n_e n_w n_s n_f n_p) = rw append-nil k.distinct
  distinct_step (pauses n_b n_a n_e n_f n_g n_s) = rw append-nil k.distinct
  distinct_step (flows n_d n_o n_e n_f) = rw append-nil k.distinct
  distinct_step skips = rw append-nil k.distinct
  distinct_step refuses = rw append-nil k.distinct

  kept_step : {asked : Asked} {told : Told} → Outcome wire seqs past seq asked told → Kept wire (record { seq = seq; asked = asked; told = told } ∷ past)
  kept_step {asked} {told} o = record {
    one = conserved wire past (record { seq = seq; asked = asked; told = told }) (moves wire seqs past seq k o) k.one k.distinct (distinct_step o);
    distinct = distinct_step o;
    ends = ends_step o;
    tokens = tokens_step o;
    endpoints = rows_step wire seqs past seq k o;
    pendings = pendings_step wire seqs past seq k o;
    peers = peers_step wire seqs past seq k o;
    mail = mail_step wire seqs past seq k o;
    counted = counted_step wire seqs past seq k o;
  }

pub kept : (wire : Wire) (seqs : ℕ) (past : List Event) → legal wire seqs past → Kept wire past
kept wire seqs [] h = record {
  one = λ z. refl;
  distinct = refl;
  ends = λ x e. absurd cc;
  tokens = λ t e. absurd cc;
  endpoints = λ x id r e. absurd cc;
  pendings = λ p e. absurd cc;
  peers = λ x e. absurd cc;
  mail = λ x e. refl;
  counted = λ x. omega arith;
}
kept wire seqs (event ∷ past) h = kept_step wire seqs past event.seq (kept wire seqs past h.2) (outcome wire seqs past event.seq event.asked event.told h.1)

-- each thing has one place
pub one_place : (wire : Wire) (seqs : ℕ) (past : List Event) → legal wire seqs past → OnePlace wire past
one_place wire seqs past h = (kept wire seqs past h).one
