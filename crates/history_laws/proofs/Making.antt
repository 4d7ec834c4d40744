-- A legal history made what it numbered: each thing whose sequence is there and has numbered so far, once.
use Rattle.std.proofs.Common.{◌≡◌, ◌<◌, ℕ, ◌+◌, Bool, true, false, List, [], ◌∷◌, ◌++◌, refl, arith}
use Rattle.std.specs.Prelude.{if◌then◌else◌, ◌&&◌, ◌==◌, nat_lt}
use Rattle.std.proofs.lemmas.Bool.{eqb-true, eq-eqb, ltb-true}
use Rattle.std.proofs.lemmas.Bool.Decides.{nat_tests}
use Rattle.std.proofs.lemmas.List.{append-nil}
use Rattle.std.proofs.lemmas.List.Sums.{sum_by-append}
use Rattle.mj_base.specs.declared.ids.EndId.{EndId}
use Rattle.mj_base.specs.declared.ids.SeqId.{SeqId}
use Rattle.handle_table.specs.declared.thing.TokenId.{TokenId}
use Rattle.handle_table.specs.declared.thing.Thing.{Thing}
use Rattle.handle_table.specs.declared.thing.Thing.TheVariants.{End, Token}
use Rattle.handle_table.specs.Things.{times, is_end, seq_of, alike}
use Rattle.bind_model.specs.declared.asked.Asked.{Asked}
use Rattle.bind_model.specs.declared.asked.Asked.TheVariants.{Pipe, Join}
use Rattle.bind_model.specs.declared.told.Told.{Told}
use Rattle.bind_model.specs.declared.told.Told.TheVariants.{Made}
use Rattle.bind_model.specs.declared.told.Why.TheVariants.{NoName}
use Rattle.bind_model.specs.declared.event.Event.{Event}
use Rattle.bind_model.specs.Wire.{Wire}
use Rattle.bind_model.specs.Machine.{made, made_by}
use Rattle.bind_model.specs.Replies.{serials, tokens, joined, first_of, unless, legal, answer}
use Rattle.bind_model.proofs.Counting.{times-append}
use Rattle.bind_model.proofs.Outcomes.{Outcome, AsksJoin, outcome, joins, mints, binds, associates, attaches, calls, answers, writes, gets, drops, controls, spoils, closes, closes_pending, closes_responder, closes_end, closes_endpoint, notifies, pauses, pipes, flows, skips, refuses}
use Rattle.history_laws.proofs.Numbers.{one_if, serial_of, count}

-- one number more of the first sequence
one_more : (counts : ℕ → ℕ) (seqs first s n : ℕ) → first < seqs
    → one_if (nat_lt s seqs && nat_lt n (counts s)) + (one_if ((first == s) && (counts first == n)) + 0)
    ≡ one_if (nat_lt s seqs && nat_lt n (counts s + (one_if (first == s) + 0)))
one_more counts seqs first s n there = go (first == s) refl
  where
    go : (here : Bool) → (first == s) ≡ here
        → one_if (nat_lt s seqs && nat_lt n (counts s)) + (one_if (here && (counts first == n)) + 0)
        ≡ one_if (nat_lt s seqs && nat_lt n (counts s + (one_if here + 0)))
    go true e = rw (← eqb-true first s e) (grind (arith, nat_tests))
    go false e = grind (arith, nat_tests)

-- and another of the other one, which may be the same sequence
two_more : (counts : ℕ → ℕ) (seqs first other s n : ℕ) → first < seqs → other < seqs
    → one_if (nat_lt s seqs && nat_lt n (counts s))
    + (one_if ((first == s) && (counts first == n)) + (one_if ((other == s) && ((counts other + one_if (other == first)) == n)) + 0))
    ≡ one_if (nat_lt s seqs && nat_lt n (counts s + (one_if (first == s) + (one_if (other == s) + 0))))
two_more counts seqs first other s n a b = go (first == s) (other == s) refl refl
  where
    go : (here there : Bool) → (first == s) ≡ here → (other == s) ≡ there
        → one_if (nat_lt s seqs && nat_lt n (counts s))
        + (one_if (here && (counts first == n)) + (one_if (there && ((counts other + one_if (other == first)) == n)) + 0))
        ≡ one_if (nat_lt s seqs && nat_lt n (counts s + (one_if here + (one_if there + 0))))
    go true true e f = rw (eqb-true first s e, eqb-true other s f, eq-eqb s s refl)
        (let k : s < seqs = rw (eqb-true first s e) at a in grind (arith, nat_tests))
    go true false e f = rw (eqb-true first s e) (let k : s < seqs = rw (eqb-true first s e) at a in grind (arith, nat_tests))
    go false true e f =
        let k : s < seqs = rw (eqb-true other s f) at b in
        let apart : (s == first) ≡ false = grind (arith, nat_tests) in
        rw (eqb-true other s f, apart) (grind (arith, nat_tests))
    go false false e f = grind (arith, nat_tests)

-- of these things each one is there once, whose sequence is one of so many and numbered so far, and no other
abbrev pub AreNumbered : ℕ → List Thing → Type 0
AreNumbered seqs things =
    (z : Thing) → times z things ≡ one_if (nat_lt (seq_of z) seqs && nat_lt (serial_of z) (count (is_end z) things (seq_of z)))

counted : (ends : Bool) (seq : ℕ) (xs ys : List Thing) → count ends (xs ++ ys) seq ≡ count ends xs seq + count ends ys seq
counted ends seq xs ys = sum_by-append (λ x. if alike ends (is_end x) && (seq_of x == seq) then 1 else 0) xs ys

two_counted : (a b : EndId) (seq : ℕ) (xs : List Thing)
    → count true (xs ++ End a ∷ End b ∷ []) seq ≡ count true xs seq + (one_if (a.seq == seq) + (one_if (b.seq == seq) + 0))
two_counted a b seq xs = omega (arith, counted true seq xs (End a ∷ End b ∷ []))

one_counted : (t : TokenId) (seq : ℕ) (xs : List Thing) → count false (xs ++ Token t ∷ []) seq ≡ count false xs seq + (one_if (t.seq == seq) + 0)
one_counted t seq xs = omega (arith, counted false seq xs (Token t ∷ []))

module _ (wire : Wire) (seqs : ℕ) (past : List Event) (seq : SeqId) (here : seq.0 < seqs) (before : AreNumbered seqs (made past)) where
  -- the other sequence of a join is one of so many
  other_below : (asked : Asked) (t : ℕ) (things : List Thing) → AsksJoin asked seq.0 t → Made things ≡ answer wire seqs past seq asked → t < seqs
  other_below Pipe t things j h = rw j here
  other_below (Join u) t things j h = rw j (go (nat_lt u.0 seqs) refl h)
    where
      go : (b : Bool) → nat_lt u.0 seqs ≡ b → Made things ≡ first_of (unless b NoName ∷ []) (joined past seq.0 u.0) → u.0 < seqs
      go true e h = ltb-true u.0 seqs e
      go false e h = absurd cc
  other_below asked t things j h = absurd j

  joined_step : (a b : EndId) (t : ℕ) → t < seqs → a ≡ record { seq = seq.0; serial = serials past seq.0 }
      → b ≡ record { seq = t; serial = serials past t + one_if (t == seq.0) } → AreNumbered seqs (made past ++ End a ∷ End b ∷ [])
  joined_step a b t below p q (End x) = rw (times-append (End x) (made past) (End a ∷ End b ∷ []), two_counted a b x.seq (made past), before (End x), p, q)
      (two_more (serials past) seqs seq.0 t x.seq x.serial here below)
  joined_step a b t below p q (Token x) =
      let same : count false (made past ++ End a ∷ End b ∷ []) x.seq
      ≡ tokens past x.seq = omega (arith, counted false x.seq (made past) (End a ∷ End b ∷ [])) in
      rw (times-append (Token x) (made past) (End a ∷ End b ∷ []), same, before (Token x)) (omega arith)

  abbrev token : TokenId
  token = record { seq = seq.0; serial = tokens past seq.0 }

  minted_step : AreNumbered seqs (made past ++ Token token ∷ [])
  minted_step (End x) =
      let same : count true (made past ++ Token token ∷ []) x.seq ≡ serials past x.seq = omega (arith, counted true x.seq (made past) (Token token ∷ [])) in
      rw (times-append (End x) (made past) (Token token ∷ []), same, before (End x)) (omega arith)
  minted_step (Token x) = rw (times-append (Token x) (made past) (Token token ∷ []), one_counted token x.seq (made past), before (Token x))
      (one_more (tokens past) seqs seq.0 x.seq x.serial here)

  two_tokens : (a b : TokenId) (seq : ℕ) (xs : List Thing)
      → count false (xs ++ Token a ∷ Token b ∷ []) seq ≡ count false xs seq + (one_if (a.seq == seq) + (one_if (b.seq == seq) + 0))
  two_tokens a b s xs = omega (arith, counted false s xs (Token a ∷ Token b ∷ []))

  -- two tokens of one sequence
  data_step : (a b : TokenId) → a ≡ record { seq = seq.0; serial = tokens past seq.0 } → b ≡ record { seq = seq.0; serial = tokens past seq.0 + 1 }
      → AreNumbered seqs (made past ++ Token a ∷ Token b ∷ [])
  data_step a b p q (End x) =
      let same : count true (made past ++ Token a ∷ Token b ∷ []) x.seq
      ≡ serials past x.seq = omega (arith, counted true x.seq (made past) (Token a ∷ Token b ∷ [])) in
      rw (times-append (End x) (made past) (Token a ∷ Token b ∷ []), same, before (End x)) (omega arith)
  data_step a b p q (Token x) =
      let second : b ≡ record { seq = seq.0; serial = tokens past seq.0 + one_if (seq.0 == seq.0) } = rw (eq-eqb seq.0 seq.0 refl) q in
      rw (times-append (Token x) (made past) (Token a ∷ Token b ∷ []), two_tokens a b x.seq (made past), before (Token x), p, second)
      (two_more (tokens past) seqs seq.0 seq.0 x.seq x.serial here here)

  none_step : AreNumbered seqs (made past ++ [])
  none_step z = rw append-nil (before z)

  step : {asked : Asked} {told : Told} → Outcome wire seqs past seq asked told
      → told ≡ answer wire seqs past seq asked → AreNumbered seqs (made past ++ made_by told)
  step {asked} (joins {a = a} {b = b} t j p q) h = joined_step a b t (other_below asked t (End a ∷ End b ∷ []) j h) p q
  step mints h = minted_step
  step (pipes {p = a} {q = b} z p q) h = data_step a b p q
  step (binds o) h = none_step
  step (associates main e g q) h = none_step
  step (attaches o g l e) h = none_step
  step (calls r o ps mk e w b) h = none_step
  step (answers r o rs ps e w b) h = none_step
  step (writes o w) h = none_step
  step (gets m hd r c f e) h = none_step
  step (drops m f e d) h = none_step
  step (controls m f e d) h = none_step
  step (spoils m f e) h = none_step
  step (closes o e) h = none_step
  step (closes_pending o e) h = none_step
  step (closes_responder e) h = none_step
  step (closes_end r i o e) h = none_step
  step (closes_endpoint r i o e) h = none_step
  step (notifies n_r n_o n_e n_w n_s n_f n_p) h = none_step
  step (pauses n_b n_a n_e n_f n_g n_s) h = none_step
  step (flows n_d n_o n_e n_f) h = none_step
  step skips h = none_step
  step refuses h = none_step

-- what a legal history made
pub are_numbered : (wire : Wire) (seqs : ℕ) (past : List Event) → legal wire seqs past → AreNumbered seqs (made past)
are_numbered wire seqs [] h = λ z. none (nat_lt (seq_of z) seqs) (serial_of z)
  where
    none : (there : Bool) (n : ℕ) → ◌≡◌ {A = ℕ} 0 (one_if (there && nat_lt n 0))
    none true n = grind (arith, nat_tests)
    none false n = refl
are_numbered wire seqs (event ∷ past) h =
    step wire seqs past event.seq h.0 (are_numbered wire seqs past h.2) (outcome wire seqs past event.seq event.asked event.told h.1) h.1
