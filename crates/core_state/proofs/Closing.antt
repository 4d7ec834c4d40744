-- What a closing makes of pipes and places.
use Rattle.std.proofs.Common.{◌≡◌, ◌≤◌, ℕ, zero, suc, Bool, true, false, List, [], ◌∷◌, ◌++◌, length, refl, sym, ap, ◌∙◌, subst}
use Rattle.std.specs.Prelude.{if◌then◌else◌, ◌||◌, ◌&&◌, not, ◌==◌, is_some, Option, Some, None}
use Rattle.std.specs.Option.{option_map}
use Rattle.std.specs.List.{count_by}
use Rattle.std.proofs.lemmas.List.{append-nil}
use Rattle.mj_base.specs.declared.ids.EndId.{EndId}
use Rattle.handle_table.specs.Things.{has, same, is_end, seq_of}
use Rattle.handle_table.specs.Places.{place_of}
use Rattle.handle_table.specs.declared.places.Place.{Place}
use Rattle.handle_table.specs.declared.places.Place.TheVariants as places
use Rattle.handle_table.specs.declared.thing.Thing.{Thing}
use Rattle.handle_table.specs.declared.thing.Thing.TheVariants.{End}
use Rattle.handle_table.proofs.ThingsLemmas.{same-true, same-refl, or_left, or_right}
use Rattle.message_pipe.specs.Contents.{Contents, Closes, Puts}
use Rattle.message_pipe.specs.Ends.{closed_by, spread}
use Rattle.message_pipe.specs.declared.message.Message.{Message}
use Rattle.bind_model.specs.declared.event.Event.{Event}
use Rattle.bind_model.specs.Wire.{Wire}
use Rattle.bind_model.specs.Machine.{made, made_by, peer, peer_by, gone, gone_by, is_gone, out, given, handed, taken, takes, written, puts, endpoint_at}
use Rattle.bind_model.specs.Machine.{unread}
use Rattle.bind_model.proofs.Kept.{Kept}
use Rattle.core_state.specs.Routers.{Routers}
use Rattle.core_state.specs.Agreement.{Agrees, end_in, end_with, is_out, is_shut}
use Rattle.core_state.proofs.After.{gone_after, out_after, unread_after, end_after}
use Rattle.core_state.proofs.Facts.{gone_out, gone_made}
use Rattle.core_state.proofs.Steady.{AllAgree}

-- the place of a thing once it is closed; none where it was never made
abbrev closed_place : Option Place → Option Place
closed_place o = option_map (λ (before : Place). places.Closed) o

-- a handle that is put as closed, where its thing is closed afterwards
module _ (x : Thing) (goes : List Thing) (old mid new : Contents) (p : Puts x places.Closed old mid) (c : Closes goes mid new) (h : has goes x ≡ true) where
  twice : (o : Option Place) (b : Bool) → closed_place (if b then closed_place o else o) ≡ closed_place o
  twice None true = refl
  twice (Some q) true = refl
  twice o false = refl

  place : (z : Thing) → place_of new.table z ≡ (if has goes z then closed_place (place_of old.table z) else place_of old.table z)
  place z = c.places z ∙ (ap (λ o. if has goes z then closed_place o else o) (p.table.places z) ∙ go (has goes z) (same x z) refl refl)
    where
      go : (b d : Bool) → has goes z ≡ b → same x z ≡ d
          → (if b then closed_place (if d then closed_place (place_of old.table z) else place_of old.table z)
          else (if d then closed_place (place_of old.table z) else place_of old.table z))
          ≡ (if b then closed_place (place_of old.table z) else place_of old.table z)
      go true d e f = twice (place_of old.table z) d
      go false false e f = refl
      go false true e f = absurd (
          let g : has goes z ≡ true = subst (λ w. has goes w ≡ true) (same-true x z f) h in
          let t : false ≡ true = sym e ∙ g in
          cc
          )

  pub closes_put : Closes goes old new
  closes_put = record {
    ends = λ y. c.ends y ∙ ap (option_map (closed_by goes y)) (p.ends y);
    places = place;
    ends_made = λ s. c.ends_made s ∙ p.table.ends s;
    tokens_made = λ s. c.tokens_made s ∙ p.table.tokens s;
    made = c.made ∙ p.made;
  }

-- what begins to go goes
pub spread_first : (c : Thing → List Thing) (n : ℕ) (x : Thing) (xs : List Thing) → has (spread c n (x ∷ xs)) x ≡ true
spread_first c zero x xs = or_left (same x x) (has xs x) (same-refl x)
spread_first c (suc n) x xs = or_left (same x x) (has (spread c n (xs ++ c x)) x) (same-refl x)

-- an event with which these go, and which makes, hands out, reads and writes nothing
pub record IsClosing (wire : Wire) (event : Event) (past : List Event) (goes : List Thing) : Type 0 where
  pub made : made_by event.told ≡ []
  pub gone : gone_by event.told ≡ goes
  pub given : (z : Thing) → has goes z ≡ false → has (given event.told event.asked) z ≡ false
  pub handed : handed event.told ≡ []
  pub takes : (x : EndId) → takes event.told event.asked x ≡ []
  pub puts : (x : EndId) → puts wire past (written wire past) (endpoint_at wire past) event.told event.asked x ≡ []
  pub peer : (x : EndId) → peer_by event.told x (peer past x) ≡ peer past x

module _ (wire : Wire) (event : Event) (past : List Event) (k : Kept wire past) (after : Kept wire (event ∷ past)) (goes : List Thing)
    (s : IsClosing wire event past goes) where
  same_made : made (event ∷ past) ≡ made past
  same_made = ap (λ xs. made past ++ xs) s.made ∙ append-nil (made past)

  gone_now : (z : Thing) → has (gone (event ∷ past)) z ≡ (has (gone past) z || has goes z)
  gone_now z = gone_after wire event past z ∙ ap (λ gs. has (gone past) z || has gs z) s.gone

  goes_gone : (z : Thing) → has goes z ≡ true → has (gone (event ∷ past)) z ≡ true
  goes_gone z h = gone_now z ∙ or_right (has (gone past) z) (has goes z) h

  -- ## Ends

  few : (x : EndId) → length (taken past x ++ takes event.told event.asked x) ≤ length (written wire past x)
  few x = rw (s.takes x, append-nil (taken past x)) (k.counted x)

  tail : (g h : Bool) (ms : List Message) → (if h then [] else ms ++ (if g then [] else [])) ≡ (if h then [] else ms)
  tail g true ms = refl
  tail true false ms = append-nil ms
  tail false false ms = append-nil ms

  unread_now : (x : EndId) → unread wire (event ∷ past) x ≡ (if has goes (End x) then [] else unread wire past x)
  unread_now x =
      unread_after wire event past x (few x)
      ∙ rw (s.gone, s.takes x, s.puts x) (tail (is_gone past x) (has goes (End x)) (unread wire past x))

  closed_end : (x : EndId) (m g h : Bool) → has goes (End x) ≡ h
      → option_map (closed_by goes x) (end_with m (peer past x) g (unread wire past x))
      ≡ end_with m (peer past x) (g || h) (if h then [] else unread wire past x)
  closed_end x false g h e = refl
  closed_end x true true true e = rw e refl
  closed_end x true false true e = rw e refl
  closed_end x true true false e = rw e refl
  closed_end x true false false e = rw e refl

  ends_now : (x : EndId) → option_map (closed_by goes x) (end_in wire past x) ≡ end_in wire (event ∷ past) x
  ends_now x =
      closed_end x (has (made past) (End x)) (is_gone past x) (has goes (End x)) refl
      ∙ sym (end_after wire event past x
      (has (made past) (End x)) (peer past x) (is_gone past x || has goes (End x)) (if has goes (End x) then [] else unread wire past x)
      (ap (λ ms. has ms (End x)) same_made) (s.peer x) (gone_now (End x)) (unread_now x))

  -- ## Places

  keep : (b g : Bool) → g ≡ false → ((b && not g) || false) ≡ b
  keep true g e = rw e refl
  keep false g e = refl

  not_out : (o : Option Place) → is_out (closed_place o) ≡ false
  not_out None = refl
  not_out (Some p) = refl

  outs_now : (z : Thing) (o : Option Place) → is_out o ≡ has (out past) z → is_out (if has goes z then closed_place o else o) ≡ has (out (event ∷ past)) z
  outs_now z o e = go (has goes z) refl
    where
      go : (b : Bool) → has goes z ≡ b → is_out (if b then closed_place o else o) ≡ has (out (event ∷ past)) z
      go false f =
          let kept = keep (has (out past) z) (has (given event.told event.asked) z) (s.given z f) in
          e ∙ sym (out_after wire event past z ∙ rw s.handed kept)
      go true f = not_out o ∙ sym (gone_out wire (event ∷ past) after z (goes_gone z f))

  there : (o : Option Place) → is_some o ≡ true → is_shut (closed_place o) ≡ true
  there None h = absurd cc
  there (Some p) h = refl

  or_false : (b : Bool) → (b || false) ≡ b
  or_false true = refl
  or_false false = refl

  shuts_now : (z : Thing) (o : Option Place) → is_some o ≡ has (made past) z → is_shut o ≡ has (gone past) z
      → is_shut (if has goes z then closed_place o else o) ≡ has (gone (event ∷ past)) z
  shuts_now z o m e = go (has goes z) refl
    where
      go : (b : Bool) → has goes z ≡ b → is_shut (if b then closed_place o else o) ≡ has (gone (event ∷ past)) z
      go false f = e ∙ sym (gone_now z ∙ rw f (or_false (has (gone past) z)))
      go true f =
          let g : has (gone (event ∷ past)) z ≡ true = goes_gone z f in
          let was_made : has (made past) z ≡ true = sym (ap (λ ms. has ms z) same_made) ∙ gone_made wire (event ∷ past) after z g in
          there o (m ∙ was_made) ∙ sym g

  still_some : (o : Option Place) (b : Bool) → is_some (if b then closed_place o else o) ≡ is_some o
  still_some o false = refl
  still_some None true = refl
  still_some (Some p) true = refl

  -- what agreed agrees with the longer history, once these are closed and the endpoints are as it says
  pub closed_agrees : (old new : Contents) (before now : Routers) → Closes goes old new
      → AllAgree wire (event ∷ past) now
      → Agrees wire past old before → Agrees wire (event ∷ past) new now
  closed_agrees old new before now c e a = record {
    ends = λ x. c.ends x ∙ (ap (option_map (closed_by goes x)) (a.ends x) ∙ ends_now x);
    outs = λ z. ap is_out (c.places z) ∙ outs_now z (place_of old.table z) (a.outs z);
    there = λ z.
        ap (λ (o : Option Place). is_some o) (c.places z)
        ∙ (still_some (place_of old.table z) (has goes z) ∙ (a.there z ∙ sym (ap (λ ms. has ms z) same_made)));
    shuts = λ z. ap is_shut (c.places z) ∙ shuts_now z (place_of old.table z) (a.there z) (a.shuts z);
    made = c.made ∙ (a.made ∙ sym (ap length same_made));
    serials = λ n. c.ends_made n ∙ (a.serials n ∙ sym (ap (λ ms. count_by (λ x. is_end x && (seq_of x == n)) ms) same_made));
    tokens = λ n. c.tokens_made n ∙ (a.tokens n ∙ sym (ap (λ ms. count_by (λ x. not (is_end x) && (seq_of x == n)) ms) same_made));
    routers = e;
  }
