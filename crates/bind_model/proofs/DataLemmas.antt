-- What comes out of a data pipe is the beginning of what went in, and the rest, which it holds, is never too much.
use Rattle.std.proofs.Common.{append_assoc, ◌≡◌, ◌≤◌, ℕ, ◌+◌, Bool, true, false, List, [], ◌∷◌, ◌++◌, length, drop, take, refl, sym, ap, ◌∙◌, subst, arith, ◌⊎◌, inl, inr}
use Rattle.std.specs.Prelude.{◌-◌, ◌||◌, ◌&&◌, ◌==◌, nat_le, Option, Some, if◌then◌else◌}
use Rattle.std.proofs.lemmas.List.{append-nil, length-append, length-drop, take-append-drop, take-append-le}
use Rattle.std.proofs.Math.Seq.{drop-append_seam}
use Rattle.std.proofs.lemmas.List.{length-take}
use Rattle.std.proofs.lemmas.Bool.Decides.{nat_tests}
use Rattle.mj_base.specs.declared.ids.SeqId.{SeqId}
use Rattle.handle_table.specs.declared.thing.TokenId.{TokenId}
use Rattle.handle_table.specs.declared.thing.Thing.{Thing}
use Rattle.handle_table.specs.declared.thing.Thing.TheVariants.{Token}
use Rattle.handle_table.specs.Things.{same_token, has}
use Rattle.bind_model.specs.declared.asked.Asked.{Asked}
use Rattle.bind_model.specs.declared.asked.Asked.TheVariants.{Data, Flow as Move}
use Rattle.bind_model.specs.declared.flow.Flow.{Flow}
use Rattle.bind_model.specs.declared.flow.Flow.TheVariants as to_flow
use Rattle.bind_model.specs.declared.flow.Flowed.{Flowed as FlowedType}
use Rattle.bind_model.specs.declared.flow.Flowed.TheVariants as flowed
use Rattle.bind_model.specs.declared.told.Told.{Told}
use Rattle.bind_model.specs.declared.told.Told.TheVariants.{Made, Flowed}
use Rattle.bind_model.specs.declared.event.Event.{Event}
use Rattle.bind_model.specs.Wire.{Wire}
use Rattle.bind_model.specs.Machine.{made, made_by}
use Rattle.bind_model.specs.Data.{DataPipe, pipe_of, pipe_by, filled, fills, drained, drains, Begun, Nothing, Space, View, begun, begun_by, viewed, data_held, data_free}
use Rattle.bind_model.specs.Replies.{tokens, space_in, view_in, least_of, legal}
use Rattle.bind_model.specs.Laws.{DataInOrder}
use Rattle.handle_table.proofs.ThingsLemmas.{same-sym, same-refl, same_token-true, has-front, has-back, has-not_front, or_left, or_right}
use Rattle.bind_model.proofs.Kept.{Kept, out_made}
use Rattle.bind_model.proofs.Moving.{new_token}
use Rattle.bind_model.proofs.Fresh.{kept}
use Rattle.bind_model.proofs.Outcomes.{Outcome, Flows, outcome, joins, mints, binds, associates, attaches, calls, answers, writes, gets, drops, controls, spoils, closes, closes_pending, closes_responder, closes_end, closes_endpoint, notifies, pauses, pipes, flows, skips, refuses}

-- of one data pipe: what went in is what came out and the rest, for which, and for what may be put in, there is room, and which begins with what may be read
pub record Flowing (past : List Event) (d : DataPipe) : Type 0 where
  pub rest : List ℕ
  pub all : filled past d.producer ≡ drained past d.consumer ++ rest
  pub room : length rest + space_in (begun past d.producer) ≤ d.capacity
  pub shown : (more : List ℕ) × (rest ≡ viewed (begun past d.consumer) ++ more)

-- the rest is what is held
pub held_is : (past : List Event) (d : DataPipe) (f : Flowing past d) → data_held past d ≡ f.rest
held_is past d f = rw f.all (drop-append_seam (drained past d.consumer) f.rest)

pub record DataKept (past : List Event) : Type 0 where
  pub own : (t : TokenId) (d : DataPipe) → pipe_of past t ≡ Some d → (pipe_of past d.producer ≡ Some d) × (pipe_of past d.consumer ≡ Some d)
      × (same_token d.producer d.consumer ≡ false) × (has (made past) (Token d.producer) ≡ true) × (has (made past) (Token d.consumer) ≡ true)
  pub new : (t : TokenId) → has (made past) (Token t) ≡ false → (filled past t ≡ []) × (drained past t ≡ []) × (begun past t ≡ Nothing)
  pub flowing : (t : TokenId) (d : DataPipe) → pipe_of past t ≡ Some d → Flowing past d

-- ## At another token nothing changes

fills_else : (t p : TokenId) → same_token t p ≡ false → (w : FlowedType) (x : Thing) (f : Flow) → fills (Flowed t w) (Move x f) p ≡ []
fills_else t p e (flowed.Put n) x (to_flow.Put bytes all) = rw e refl
fills_else t p e (flowed.Put n) x (to_flow.EndPut bytes) = rw e refl
fills_else t p e (flowed.Put n) x (to_flow.Get k all) = refl
fills_else t p e (flowed.Put n) x to_flow.BeginPut = refl
fills_else t p e (flowed.Put n) x to_flow.BeginGet = refl
fills_else t p e (flowed.Put n) x (to_flow.EndGet k) = refl
fills_else t p e (flowed.Bytes bytes) x f = refl
fills_else t p e (flowed.Space n) x f = refl
fills_else t p e (flowed.View bytes) x f = refl
fills_else t p e flowed.Ended x f = refl

drains_else : (t p : TokenId) → same_token t p ≡ false → (w : FlowedType) (x : Thing) (f : Flow) (b : Begun) → drains (Flowed t w) (Move x f) p b ≡ []
drains_else t p e flowed.Ended x (to_flow.EndGet k) b = rw e refl
drains_else t p e flowed.Ended x (to_flow.Put bytes all) b = refl
drains_else t p e flowed.Ended x (to_flow.EndPut bytes) b = refl
drains_else t p e flowed.Ended x (to_flow.Get k all) b = refl
drains_else t p e flowed.Ended x to_flow.BeginPut b = refl
drains_else t p e flowed.Ended x to_flow.BeginGet b = refl
drains_else t p e (flowed.Bytes bytes) x f b = rw e refl
drains_else t p e (flowed.Put n) x f b = refl
drains_else t p e (flowed.Space n) x f b = refl
drains_else t p e (flowed.View bytes) x f b = refl

begun_else : (t p : TokenId) → same_token t p ≡ false → (w : FlowedType) (x : Thing) (f : Flow) (b : Begun) → begun_by (Flowed t w) (Move x f) p b ≡ b
begun_else t p e (flowed.Put n) x (to_flow.EndPut bytes) b = rw e refl
begun_else t p e (flowed.Put n) x (to_flow.Put bytes all) b = refl
begun_else t p e (flowed.Put n) x (to_flow.Get k all) b = refl
begun_else t p e (flowed.Put n) x to_flow.BeginPut b = refl
begun_else t p e (flowed.Put n) x to_flow.BeginGet b = refl
begun_else t p e (flowed.Put n) x (to_flow.EndGet k) b = refl
begun_else t p e (flowed.Space n) x f b = rw e refl
begun_else t p e (flowed.View bytes) x f b = rw e refl
begun_else t p e flowed.Ended x f b = rw e refl
begun_else t p e (flowed.Bytes bytes) x f b = refl

-- where none of this changes at the two tokens of a pipe, it flows as before
same_flow : (past : List Event) (event : Event) (d : DataPipe) → Flowing past d
    → fills event.told event.asked d.producer ≡ [] → drains event.told event.asked d.consumer (begun past d.consumer) ≡ []
    → begun_by event.told event.asked d.producer (begun past d.producer) ≡ begun past d.producer
    → begun_by event.told event.asked d.consumer (begun past d.consumer) ≡ begun past d.consumer → Flowing (event ∷ past) d
same_flow past event d f a b c g = record {
  rest = f.rest;
  all = rw (a, b, append-nil (filled past d.producer), append-nil (drained past d.consumer)) f.all;
  room = rw c f.room;
  shown = rw g f.shown;
}

-- an event that no data pipe sees
still : (past : List Event) (event : Event) → ((t : TokenId) (o : Option DataPipe) → pipe_by event.told event.asked t o ≡ o)
    → ((t : TokenId) → fills event.told event.asked t ≡ []) → ((t : TokenId) (b : Begun) → drains event.told event.asked t b ≡ [])
    → ((t : TokenId) (b : Begun) → begun_by event.told event.asked t b ≡ b) → DataKept past → DataKept (event ∷ past)
still past event p a b c k = record {
  own = λ t d e.
      let o = k.own t d (sym (p t (pipe_of past t)) ∙ e) in (
        p d.producer (pipe_of past d.producer) ∙ o.0,
        p d.consumer (pipe_of past d.consumer) ∙ o.1,
        o.2,
        has-front (made past) (made_by event.told) (Token d.producer) o.3,
        has-front (made past) (made_by event.told) (Token d.consumer) o.4,
      );
  new = λ t e.
      let n = k.new t (has-not_front (made past) (made_by event.told) (Token t) e) in
      (rw (a t, append-nil (filled past t)) n.0, rw (b t (begun past t), append-nil (drained past t)) n.1, c t (begun past t) ∙ n.2);
  flowing = λ t d e. same_flow past event d (k.flowing t d (sym (p t (pipe_of past t)) ∙ e)) (a d.producer) (b d.consumer (begun past d.consumer))
      (c d.producer (begun past d.producer)) (c d.consumer (begun past d.consumer));
}

-- ## A new data pipe

some_same : (a b : DataPipe) → ◌≡◌ {A = Option DataPipe} (Some a) (Some b) → a ≡ b
some_same a b e = cc

module _ (past : List Event) (seq : SeqId) (k : DataKept past) (size : ℕ) (p q : TokenId) (new_p : has (made past) (Token p) ≡ false)
    (new_q : has (made past) (Token q) ≡ false) (apart : same_token p q ≡ false) where
  abbrev fresh : DataPipe
  fresh = record { capacity = size; producer = p; consumer = q }

  abbrev event : Event
  event = record { seq = seq; asked = Data size; told = Made (Token p ∷ Token q ∷ []) }

  at_p : pipe_of (event ∷ past) p ≡ Some fresh
  at_p = rw (same-refl (Token p)) refl

  at_q : pipe_of (event ∷ past) q ≡ Some fresh
  at_q = rw (apart, same-refl (Token q)) refl

  -- a token that was there is none of the two
  other : (t : TokenId) → has (made past) (Token t) ≡ true → pipe_of (event ∷ past) t ≡ pipe_of past t
  other t there = rw (not_same p new_p, not_same q new_q) refl
    where
      not_same : (s : TokenId) → has (made past) (Token s) ≡ false → same_token s t ≡ false
      not_same s none = go (same_token s t) refl
        where
          go : (b : Bool) → same_token s t ≡ b → b ≡ false
          go true e = absurd (let h : has (made past) (Token s) ≡ true = rw (same_token-true s t e) there in let f : false ≡ true = sym none ∙ h in cc)
          go false e = refl

  cases : (t : TokenId) (d : DataPipe) → pipe_of (event ∷ past) t ≡ Some d → (d ≡ fresh) ⊎ (pipe_of past t ≡ Some d)
  cases t d e = go (same_token p t || same_token q t) e
    where
      go : (b : Bool) → ◌≡◌ {A = Option DataPipe} (if b then Some fresh else pipe_of past t) (Some d) → (d ≡ fresh) ⊎ (pipe_of past t ≡ Some d)
      go true e = inl (sym (some_same fresh d e))
      go false e = inr e

  fresh_flow : Flowing (event ∷ past) fresh
  fresh_flow = record {
    rest = [];
    all = rw ((k.new p new_p).0, (k.new q new_q).1) refl;
    room = rw ((k.new p new_p).2) (omega arith);
    shown = ([], rw ((k.new q new_q).2) refl);
  }

  with_fresh : DataKept (event ∷ past)
  with_fresh = record {
    own = λ t d e. elim (cases t d e) [
      | inl s ↦ rw s (
        at_p,
        at_q,
        apart,
        has-back (made past) (Token p ∷ Token q ∷ []) (Token p)
            (or_left (same_token p p) (same_token q p || false) (same-refl (Token p))),
        has-back (made past) (Token p ∷ Token q ∷ []) (Token q)
            (or_right (same_token p q) (same_token q q || false) (or_left (same_token q q) false (same-refl (Token q)))),
      )
      | inr s ↦
          let o = k.own t d s in (
            other d.producer o.3 ∙ o.0,
            other d.consumer o.4 ∙ o.1,
            o.2,
            has-front (made past) (Token p ∷ Token q ∷ []) (Token d.producer) o.3,
            has-front (made past) (Token p ∷ Token q ∷ []) (Token d.consumer) o.4,
          )
    ];
    new = λ t e.
        let n = k.new t (has-not_front (made past) (Token p ∷ Token q ∷ []) (Token t) e) in
        (append-nil (filled past t) ∙ n.0, append-nil (drained past t) ∙ n.1, n.2);
    flowing = λ t d e. elim (cases t d e) [
      | inl s ↦ rw s fresh_flow
      | inr s ↦ same_flow past event d (k.flowing t d s) refl refl refl refl
    ];
  }

-- ## Bytes are moved

view_fits : (b : Begun) → view_in b ≤ length (viewed b)
view_fits Nothing = omega arith
view_fits (Space n) = omega arith
view_fits (View bytes) = omega arith

least_second : (a b : ℕ) → least_of a b ≤ b
least_second a b = go (nat_le a b) refl
  where
    go : (c : Bool) → nat_le a b ≡ c → (if c then a else b) ≤ b
    go true e = grind (arith, nat_tests)
    go false e = omega arith

module _ (past : List Event) (seq : SeqId) (k : DataKept past) (t : TokenId) (d : DataPipe) (at : pipe_of past t ≡ Some d) where
  abbrev by_flow : Flow → FlowedType → Event
  by_flow f w = record { seq = seq; asked = Move (Token t) f; told = Flowed t w }

  now : Flowing past d
  now = k.flowing t d at

  apart : same_token d.producer d.consumer ≡ false
  apart = (k.own t d at).2

  -- what holds at the token's own side and at the other one
  at_producer : same_token d.producer t ≡ true → (same_token t d.producer ≡ true) × (same_token t d.consumer ≡ false)
  at_producer e = (same-sym (Token t) (Token d.producer) ∙ e, ap (λ s. same_token s d.consumer) (sym (same_token-true d.producer t e)) ∙ apart)

  at_consumer : same_token d.consumer t ≡ true → (same_token t d.consumer ≡ true) × (same_token t d.producer ≡ false)
  at_consumer e = (
    same-sym (Token t) (Token d.consumer) ∙ e,
    ap (λ s. same_token s d.producer) (sym (same_token-true d.consumer t e))
        ∙ (same-sym (Token d.consumer) (Token d.producer) ∙ apart),
  )

  produced : same_token d.producer t ≡ true → begun past d.producer ≡ begun past t
  produced e = ap (begun past) (same_token-true d.producer t e)

  consumed_at : same_token d.consumer t ≡ true → begun past d.consumer ≡ begun past t
  consumed_at e = ap (begun past) (same_token-true d.consumer t e)

  put_all : (bytes : List ℕ) → filled past d.producer ++ bytes ≡ (drained past d.consumer ++ []) ++ (now.rest ++ bytes)
  put_all bytes = rw (append-nil (drained past d.consumer), now.all) (append_assoc (drained past d.consumer) now.rest bytes)

  put_shown : (bytes : List ℕ) → (more : List ℕ) × (now.rest ++ bytes ≡ viewed (begun past d.consumer) ++ more)
  put_shown bytes = (now.shown.0 ++ bytes, ap (λ xs. xs ++ bytes) now.shown.1 ∙ append_assoc (viewed (begun past d.consumer)) now.shown.0 bytes)

  got_all : (n : ℕ) → filled past d.producer ++ [] ≡ (drained past d.consumer ++ take n now.rest) ++ drop n now.rest
  got_all n = rw (append-nil (filled past d.producer), now.all)
      (ap (λ xs. drained past d.consumer ++ xs) (sym (take-append-drop n now.rest))
      ∙ sym (append_assoc (drained past d.consumer) (take n now.rest) (drop n now.rest)))

  less_room : (n : ℕ) → length (drop n now.rest) + space_in (begun past d.producer) ≤ d.capacity
  less_room n = omega (arith, now.room, length-drop n now.rest)

  pub of_put : (bytes : List ℕ) (all : Bool) (n : ℕ) → Flows past t d (to_flow.Put bytes all) (flowed.Put n)
      → Flowing (by_flow (to_flow.Put bytes all) (flowed.Put n) ∷ past) d
  of_put bytes all n w =
      let s = at_producer w.0 in
      let free : n ≤ d.capacity - length now.rest = rw w.2 (rw (← ap length (held_is past d now)) (least_second (length bytes) (data_free past d))) in
      record {
        rest = now.rest ++ take n bytes;
        all = rw (s.0) (put_all (take n bytes));
        room = rw (produced w.0, w.1) (omega (arith, free, now.room, length-append now.rest (take n bytes), length-take n bytes));
        shown = put_shown (take n bytes);
      }

  pub of_end_put : (bytes : List ℕ) (n : ℕ) → Flows past t d (to_flow.EndPut bytes) (flowed.Put n)
      → Flowing (by_flow (to_flow.EndPut bytes) (flowed.Put n) ∷ past) d
  of_end_put bytes n w =
      let s = at_producer w.0 in
      let few : length bytes ≤ space_in (begun past d.producer) = rw (produced w.0) (grind (arith, nat_tests, w.3)) in
      record {
        rest = now.rest ++ take n bytes;
        all = rw (s.0) (put_all (take n bytes));
        room = rw (s.0) (omega (arith, few, now.room, length-append now.rest (take n bytes), length-take n bytes));
        shown = rw (s.1) (put_shown (take n bytes));
      }

  pub of_space : (n : ℕ) → Flows past t d to_flow.BeginPut (flowed.Space n) → Flowing (by_flow to_flow.BeginPut (flowed.Space n) ∷ past) d
  of_space n w =
      let s = at_producer w.0 in
      let free : n ≡ d.capacity - length now.rest = w.2 ∙ ap (λ xs. d.capacity - length xs) (held_is past d now) in
      record {
        rest = now.rest;
        all = rw (append-nil (filled past d.producer), append-nil (drained past d.consumer)) now.all;
        room = rw (s.0) (omega (arith, free, now.room));
        shown = rw (s.1) now.shown;
      }

  pub of_get : (n : ℕ) (all : Bool) (bytes : List ℕ) → Flows past t d (to_flow.Get n all) (flowed.Bytes bytes)
      → Flowing (by_flow (to_flow.Get n all) (flowed.Bytes bytes) ∷ past) d
  of_get n all bytes w =
      let s = at_consumer w.0 in
      let is : bytes ≡ take n now.rest = w.2 ∙ ap (take n) (held_is past d now) in
      record {
        rest = drop n now.rest;
        all = rw (s.0, is) (got_all n);
        room = less_room n;
        shown = (drop n now.rest, rw (consumed_at w.0, w.1) refl);
      }

  pub of_view : (bytes : List ℕ) → Flows past t d to_flow.BeginGet (flowed.View bytes) → Flowing (by_flow to_flow.BeginGet (flowed.View bytes) ∷ past) d
  of_view bytes w =
      let s = at_consumer w.0 in
      record {
        rest = now.rest;
        all = rw (append-nil (filled past d.producer), append-nil (drained past d.consumer)) now.all;
        room = rw (s.1) now.room;
        shown = ([], rw (s.0, w.2, held_is past d now) (sym (append-nil now.rest)));
      }

  pub of_end_get : (n : ℕ) → Flows past t d (to_flow.EndGet n) flowed.Ended → Flowing (by_flow (to_flow.EndGet n) flowed.Ended ∷ past) d
  of_end_get n w =
      let s = at_consumer w.0 in
      let few : n ≤ view_in (begun past d.consumer) = rw (consumed_at w.0) (grind (arith, nat_tests, w.2)) in
      let is : take n (viewed (begun past d.consumer)) ≡ take n now.rest = sym (ap (take n) now.shown.1
      ∙ take-append-le n (viewed (begun past d.consumer)) now.shown.0 (omega (arith, few, view_fits (begun past d.consumer)))) in
      record {
        rest = drop n now.rest;
        all = rw (s.0, is) (got_all n);
        room = rw (s.1) (less_room n);
        shown = rw (s.0) (drop n now.rest, refl);
      }

  flow_on : (f : Flow) (w : FlowedType) → Flows past t d f w → Flowing (by_flow f w ∷ past) d
  flow_on (to_flow.Put bytes all) (flowed.Put n) h = of_put bytes all n h
  flow_on (to_flow.EndPut bytes) (flowed.Put n) h = of_end_put bytes n h
  flow_on to_flow.BeginPut (flowed.Space n) h = of_space n h
  flow_on (to_flow.Get n all) (flowed.Bytes bytes) h = of_get n all bytes h
  flow_on to_flow.BeginGet (flowed.View bytes) h = of_view bytes h
  flow_on (to_flow.EndGet n) flowed.Ended h = of_end_get n h
  flow_on f w h = absurd h

  -- another pipe has other tokens
  flow_at : (f : Flow) (w : FlowedType) → Flows past t d f w → (s : TokenId) (o : DataPipe) → pipe_of past s ≡ Some o → Flowing (by_flow f w ∷ past) o
  flow_at f w h s o e = go (same_token t o.producer) (same_token t o.consumer) refl refl
    where
      is_d : (p : TokenId) → same_token t p ≡ true → pipe_of past p ≡ Some o → d ≡ o
      is_d p same there = some_same d o (sym at ∙ (ap (pipe_of past) (same_token-true t p same) ∙ there))

      go : (a b : Bool) → same_token t o.producer ≡ a → same_token t o.consumer ≡ b → Flowing (by_flow f w ∷ past) o
      go true b x y = subst (λ (p : DataPipe). Flowing (by_flow f w ∷ past) p) (is_d o.producer x (k.own s o e).0) (flow_on f w h)
      go false true x y = subst (λ (p : DataPipe). Flowing (by_flow f w ∷ past) p) (is_d o.consumer y (k.own s o e).1) (flow_on f w h)
      go false false x y = same_flow past (by_flow f w) o (k.flowing s o e) (fills_else t o.producer x w (Token t) f)
          (drains_else t o.consumer y w (Token t) f (begun past o.consumer)) (begun_else t o.producer x w (Token t) f (begun past o.producer))
          (begun_else t o.consumer y w (Token t) f (begun past o.consumer))

  with_flow : has (made past) (Token t) ≡ true → (f : Flow) (w : FlowedType) → Flows past t d f w → DataKept (by_flow f w ∷ past)
  with_flow there f w h = record {
    own = λ s o e.
        let c = k.own s o e in
        (c.0, c.1, c.2, has-front (made past) [] (Token o.producer) c.3, has-front (made past) [] (Token o.consumer) c.4);
    new = λ s e.
        let none : has (made past) (Token s) ≡ false = has-not_front (made past) [] (Token s) e in
        let n = k.new s none in
        let other : same_token t s ≡ false = not_it s none (same_token t s) refl in (
          rw (fills_else t s other w (Token t) f, append-nil (filled past s)) n.0,
          rw (drains_else t s other w (Token t) f (begun past s), append-nil (drained past s)) n.1,
          begun_else t s other w (Token t) f (begun past s) ∙ n.2,
        );
    flowing = λ s o e. flow_at f w h s o e;
  }
    where
      not_it : (s : TokenId) → has (made past) (Token s) ≡ false → (b : Bool) → same_token t s ≡ b → b ≡ false
      not_it s none true e = absurd (let m : has (made past) (Token s) ≡ true = rw (← same_token-true t s e) there in let f : false ≡ true = sym none ∙ m in cc)
      not_it s none false e = refl

-- ## What a data pipe holds, one event later: what a core keeps of it

abbrev pub held_after : Flow → FlowedType → List ℕ → List ℕ
held_after (to_flow.Put bytes all) (flowed.Put n) held = held ++ take n bytes
held_after (to_flow.EndPut bytes) (flowed.Put n) held = held ++ take n bytes
held_after (to_flow.Get n all) (flowed.Bytes bytes) held = drop n held
held_after (to_flow.EndGet n) flowed.Ended held = drop n held
held_after f w held = held

module _ (past : List Event) (seq : SeqId) (k : DataKept past) (t : TokenId) (d : DataPipe) (at : pipe_of past t ≡ Some d) where
  abbrev next : Flow → FlowedType → List Event
  next f w = record { seq = seq; asked = Move (Token t) f; told = Flowed t w } ∷ past

  was : data_held past d ≡ (k.flowing t d at).rest
  was = held_is past d (k.flowing t d at)

  pub held_next : (f : Flow) (w : FlowedType) → Flows past t d f w → data_held (next f w) d ≡ held_after f w (data_held past d)
  unfolding of_put now of_get of_space of_end_put of_view of_end_get
  held_next (to_flow.Put bytes all) (flowed.Put n) h =
      held_is (next (to_flow.Put bytes all) (flowed.Put n)) d (of_put past seq k t d at bytes all n h) ∙ ap (λ xs. xs ++ take n bytes) (sym was)
  held_next (to_flow.EndPut bytes) (flowed.Put n) h =
      held_is (next (to_flow.EndPut bytes) (flowed.Put n)) d (of_end_put past seq k t d at bytes n h) ∙ ap (λ xs. xs ++ take n bytes) (sym was)
  held_next to_flow.BeginPut (flowed.Space n) h = held_is (next to_flow.BeginPut (flowed.Space n)) d (of_space past seq k t d at n h) ∙ sym was
  held_next (to_flow.Get n all) (flowed.Bytes bytes) h =
      held_is (next (to_flow.Get n all) (flowed.Bytes bytes)) d (of_get past seq k t d at n all bytes h) ∙ ap (drop n) (sym was)
  held_next to_flow.BeginGet (flowed.View bytes) h = held_is (next to_flow.BeginGet (flowed.View bytes)) d (of_view past seq k t d at bytes h) ∙ sym was
  held_next (to_flow.EndGet n) flowed.Ended h =
      held_is (next (to_flow.EndGet n) flowed.Ended) d (of_end_get past seq k t d at n h) ∙ ap (drop n) (sym was)
  held_next f w h = absurd h

-- ## Every event

next_apart : (n s : ℕ) (a b : TokenId) → a ≡ record { seq = s; serial = n } → b ≡ record { seq = s; serial = n + 1 } → same_token a b ≡ false
next_apart n s a b p q = rw (p, q) (go (s == s))
  where
    go : (c : Bool) → (c && (n == (n + 1))) ≡ false
    go true = grind (arith, nat_tests)
    go false = refl

module _ (wire : Wire) (seqs : ℕ) (past : List Event) (seq : SeqId) (k : Kept wire past) (d : DataKept past) where
  data_step : {asked : Asked} {told : Told} → Outcome wire seqs past seq asked told → DataKept (record { seq = seq; asked = asked; told = told } ∷ past)
  data_step {asked} {told} (joins t j p q) =
      still past (record { seq = seq; asked = asked; told = told }) (λ t o. refl) (λ t. refl) (λ t b. refl) (λ t b. refl) d
  data_step (pipes {size = size} {p = p} {q = q} z e f) = with_fresh past seq d size p q (new_token wire seqs past seq k p (rw e (omega arith)))
      (new_token wire seqs past seq k q (rw f (omega arith))) (next_apart (tokens past seq.0) seq.0 p q e f)
  data_step (flows {t = t} {f = f} {told = w} c o e h) = with_flow past seq d t c e (out_made wire past k (Token t) o) f w h
  data_step {asked} {told} mints = still past (record { seq = seq; asked = asked; told = told }) (λ t o. refl) (λ t. refl) (λ t b. refl) (λ t b. refl) d
  data_step {asked} {told} (binds o) = still past (record { seq = seq; asked = asked; told = told }) (λ t o. refl) (λ t. refl) (λ t b. refl) (λ t b. refl) d
  data_step {asked} {told} (associates main e g q) =
      still past (record { seq = seq; asked = asked; told = told }) (λ t o. refl) (λ t. refl) (λ t b. refl) (λ t b. refl) d
  data_step {asked} {told} (attaches o g l e) =
      still past (record { seq = seq; asked = asked; told = told }) (λ t o. refl) (λ t. refl) (λ t b. refl) (λ t b. refl) d
  data_step {asked} {told} (calls r o ps mk e w b) =
      still past (record { seq = seq; asked = asked; told = told }) (λ t o. refl) (λ t. refl) (λ t b. refl) (λ t b. refl) d
  data_step {asked} {told} (answers r o rs ps e w b) =
      still past (record { seq = seq; asked = asked; told = told }) (λ t o. refl) (λ t. refl) (λ t b. refl) (λ t b. refl) d
  data_step {asked} {told} (writes o w) = still past (record { seq = seq; asked = asked; told = told }) (λ t o. refl) (λ t. refl) (λ t b. refl) (λ t b. refl) d
  data_step {asked} {told} (gets m hd r c f e) =
      still past (record { seq = seq; asked = asked; told = told }) (λ t o. refl) (λ t. refl) (λ t b. refl) (λ t b. refl) d
  data_step {asked} {told} (drops m f e w) =
      still past (record { seq = seq; asked = asked; told = told }) (λ t o. refl) (λ t. refl) (λ t b. refl) (λ t b. refl) d
  data_step {asked} {told} (controls m f e w) =
      still past (record { seq = seq; asked = asked; told = told }) (λ t o. refl) (λ t. refl) (λ t b. refl) (λ t b. refl) d
  data_step {asked} {told} (spoils m f e) =
      still past (record { seq = seq; asked = asked; told = told }) (λ t o. refl) (λ t. refl) (λ t b. refl) (λ t b. refl) d
  data_step {asked} {told} (closes o e) = still past (record { seq = seq; asked = asked; told = told }) (λ t o. refl) (λ t. refl) (λ t b. refl) (λ t b. refl) d
  data_step {asked} {told} (closes_pending o e) =
      still past (record { seq = seq; asked = asked; told = told }) (λ t o. refl) (λ t. refl) (λ t b. refl) (λ t b. refl) d
  data_step {asked} {told} (closes_responder e) =
      still past (record { seq = seq; asked = asked; told = told }) (λ t o. refl) (λ t. refl) (λ t b. refl) (λ t b. refl) d
  data_step {asked} {told} (closes_end r i o e) =
      still past (record { seq = seq; asked = asked; told = told }) (λ t o. refl) (λ t. refl) (λ t b. refl) (λ t b. refl) d
  data_step {asked} {told} (closes_endpoint r i o e) =
      still past (record { seq = seq; asked = asked; told = told }) (λ t o. refl) (λ t. refl) (λ t b. refl) (λ t b. refl) d
  data_step {asked} {told} (notifies r o e w s f p) =
      still past (record { seq = seq; asked = asked; told = told }) (λ t o. refl) (λ t. refl) (λ t b. refl) (λ t b. refl) d
  data_step {asked} {told} (pauses rb ra e f g s) =
      still past (record { seq = seq; asked = asked; told = told }) (λ t o. refl) (λ t. refl) (λ t b. refl) (λ t b. refl) d
  data_step {asked} {told} skips = still past (record { seq = seq; asked = asked; told = told }) (λ t o. refl) (λ t. refl) (λ t b. refl) (λ t b. refl) d
  data_step {asked} {told} refuses = still past (record { seq = seq; asked = asked; told = told }) (λ t o. refl) (λ t. refl) (λ t b. refl) (λ t b. refl) d

pub data_kept : (wire : Wire) (seqs : ℕ) (past : List Event) → legal wire seqs past → DataKept past
data_kept wire seqs [] h = record { own = λ t d e. absurd cc; new = λ t e. (refl, refl, refl); flowing = λ t d e. absurd cc }
data_kept wire seqs (event ∷ past) h = data_step wire seqs past event.seq (kept wire seqs past h.2) (data_kept wire seqs past h.2)
    (outcome wire seqs past event.seq event.asked event.told h.1)

pub data_in_order : (wire : Wire) (seqs : ℕ) (past : List Event) → legal wire seqs past → DataInOrder past
data_in_order wire seqs past h t d e =
    let f = (data_kept wire seqs past h).flowing t d e in
    (f.all ∙ ap (λ xs. drained past d.consumer ++ xs) (sym (held_is past d f)), rw (held_is past d f) (omega (arith, f.room)))
