-- What comes out and what goes at an event that makes nothing and takes in nothing.
use Rattle.std.proofs.Common.{◌≡◌, Bool, true, false, List, [], ◌∷◌, length, drop, refl, sym, ap, ◌∙◌}
use Rattle.std.specs.Prelude.{if◌then◌else◌, ◌||◌, ◌&&◌, not, is_some, Option, Some, None}
use Rattle.std.specs.Option.{option_map}
use Rattle.mj_base.specs.declared.ids.EndId.{EndId}
use Rattle.handle_table.specs.Things.{has}
use Rattle.handle_table.specs.declared.places.Place.{Place}
use Rattle.handle_table.specs.declared.places.Place.TheVariants as places
use Rattle.handle_table.specs.declared.thing.Thing.{Thing}
use Rattle.handle_table.specs.declared.thing.Thing.TheVariants.{End}
use Rattle.handle_table.proofs.ThingsLemmas.{or_right}
use Rattle.message_pipe.specs.Ends.{closed_by, without_front}
use Rattle.message_pipe.specs.declared.message.Message.{Message}
use Rattle.bind_model.specs.declared.event.Event.{Event}
use Rattle.bind_model.specs.Wire.{Wire}
use Rattle.bind_model.specs.Machine.{made, peer, gone, gone_by, out, given, handed}
use Rattle.bind_model.proofs.Kept.{Kept, out_made}
use Rattle.core_state.specs.Agreement.{end_with, is_out, is_shut}
use Rattle.core_state.proofs.After.{gone_after, out_after}
use Rattle.core_state.proofs.Facts.{gone_out, gone_made}

-- a place that is another where this holds
abbrev pub moved : Bool → Place → Option Place → Option Place
moved b place o = if b then option_map (λ (before : Place). place) o else o

pub some_moved : (b : Bool) (place : Place) (o : Option Place) → is_some (moved b place o) ≡ is_some o
some_moved false place o = refl
some_moved true place None = refl
some_moved true place (Some p) = refl

-- how many messages are taken where one is, or none
pub one_taken : {A : Type 0} (b : Bool) (a : A) → length (if b then a ∷ [] else []) ≡ (if b then 1 else 0)
one_taken true a = refl
one_taken false a = refl

module _ (event : Event) (past : List Event) (x : EndId) where
  -- an end whose oldest message is taken away, and which goes or stays
  pub front_shut : (m g b h : Bool) → has (gone_by event.told) (End x) ≡ h → (ms : List Message)
      → option_map (closed_by (gone_by event.told) x)
      (if b then option_map without_front (end_with m (peer past x) g ms) else end_with m (peer past x) g ms)
      ≡ end_with m (peer past x) (g || h) (if h then [] else (if b then drop 1 ms else ms))
  front_shut false g true h e ms = refl
  front_shut false g false h e ms = refl
  front_shut true true true true e ms = rw e refl
  front_shut true true true false e ms = rw e refl
  front_shut true true false true e ms = rw e refl
  front_shut true true false false e ms = rw e refl
  front_shut true false true true e ms = rw e refl
  front_shut true false true false e ms = rw e refl
  front_shut true false false true e ms = rw e refl
  front_shut true false false false e ms = rw e refl

module _ (wire : Wire) (event : Event) (past : List Event) (after : Kept wire (event ∷ past)) (same_made : made (event ∷ past) ≡ made past)
    (none_given : given event.told event.asked ≡ []) where
  -- what comes out was made and isn't gone
  handed_out : (z : Thing) → has (handed event.told) z ≡ true → has (out (event ∷ past)) z ≡ true
  handed_out z h =
      out_after wire event past z ∙ or_right (has (out past) z && not (has (given event.told event.asked) z)) (has (handed event.told) z) h

  handed_made : (z : Thing) → has (handed event.told) z ≡ true → has (made past) z ≡ true
  handed_made z h = sym (ap (λ ms. has ms z) same_made) ∙ out_made wire (event ∷ past) after z (handed_out z h)

  handed_kept : (z : Thing) → has (handed event.told) z ≡ true → has (gone (event ∷ past)) z ≡ false
  handed_kept z h = go (has (gone (event ∷ past)) z) refl
    where
      go : (b : Bool) → has (gone (event ∷ past)) z ≡ b → b ≡ false
      go false e = refl
      go true e = absurd (let t : true ≡ false = sym (handed_out z h) ∙ gone_out wire (event ∷ past) after z e in cc)

  gone_now : (z : Thing) → has (gone_by event.told) z ≡ true → has (gone (event ∷ past)) z ≡ true
  gone_now z h = gone_after wire event past z ∙ or_right (has (gone past) z) (has (gone_by event.told) z) h

  goes_made : (z : Thing) → has (gone_by event.told) z ≡ true → has (made past) z ≡ true
  goes_made z h = sym (ap (λ ms. has ms z) same_made) ∙ gone_made wire (event ∷ past) after z (gone_now z h)

  -- what is out now
  pub outs_now : (z : Thing) (o : Option Place) → is_out o ≡ has (out past) z → is_some o ≡ has (made past) z
      → is_out (moved (has (handed event.told) z) places.Out (moved (has (gone_by event.told) z) places.Closed o)) ≡ has (out (event ∷ past)) z
  outs_now z o e m = go (has (handed event.told) z) (has (gone_by event.told) z) refl refl
    where
      is : (p : Option Place) → is_some p ≡ true → is_out (option_map (λ (before : Place). places.Out) p) ≡ true
      is None h = cc
      is (Some q) h = refl

      nowhere : (p : Option Place) → is_out (option_map (λ (before : Place). places.Closed) p) ≡ false
      nowhere None = refl
      nowhere (Some q) = refl

      plain : (b : Bool) → ((b && true) || false) ≡ b
      plain true = refl
      plain false = refl

      go : (h g : Bool) → has (handed event.told) z ≡ h → has (gone_by event.told) z ≡ g
          → is_out (moved h places.Out (moved g places.Closed o)) ≡ has (out (event ∷ past)) z
      go true g i j = is (moved g places.Closed o) (some_moved g places.Closed o ∙ (m ∙ handed_made z i)) ∙ sym (handed_out z i)
      go false true i j = nowhere o ∙ sym (gone_out wire (event ∷ past) after z (gone_now z j))
      go false false i j = e ∙ sym (out_after wire event past z ∙ rw (none_given, i) (plain (has (out past) z)))

  -- what is closed now
  pub shuts_now : (z : Thing) (o : Option Place) → is_shut o ≡ has (gone past) z → is_some o ≡ has (made past) z
      → is_shut (moved (has (handed event.told) z) places.Out (moved (has (gone_by event.told) z) places.Closed o)) ≡ has (gone (event ∷ past)) z
  shuts_now z o e m = go (has (handed event.told) z) (has (gone_by event.told) z) refl refl
    where
      nowhere : (p : Option Place) → is_shut (option_map (λ (before : Place). places.Out) p) ≡ false
      nowhere None = refl
      nowhere (Some q) = refl

      is : (p : Option Place) → is_some p ≡ true → is_shut (option_map (λ (before : Place). places.Closed) p) ≡ true
      is None h = cc
      is (Some q) h = refl

      plain : (b : Bool) → (b || false) ≡ b
      plain true = refl
      plain false = refl

      go : (h g : Bool) → has (handed event.told) z ≡ h → has (gone_by event.told) z ≡ g
          → is_shut (moved h places.Out (moved g places.Closed o)) ≡ has (gone (event ∷ past)) z
      go true g i j = nowhere (moved g places.Closed o) ∙ sym (handed_kept z i)
      go false true i j = is o (m ∙ goes_made z j) ∙ sym (gone_now z j)
      go false false i j = e ∙ sym (gone_after wire event past z ∙ rw j (plain (has (gone past) z)))
