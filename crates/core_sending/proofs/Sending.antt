-- What a message that is written makes of pipes, places and endpoints.
use Rattle.std.proofs.Common.{◌≡◌, ◌≤◌, ℕ, Bool, true, false, List, [], ◌∷◌, ◌++◌, length, drop, refl, sym, ap, ◌∙◌, arith, subst}
use Rattle.std.specs.Prelude.{if◌then◌else◌, ◌||◌, ◌&&◌, not, ◌==◌, is_some, Option, Some, None}
use Rattle.std.specs.Option.{option_map}
use Rattle.std.specs.List.{count_by}
use Rattle.std.proofs.lemmas.List.{append-nil}
use Rattle.mj_base.specs.declared.ids.EndId.{EndId}
use Rattle.mj_base.specs.declared.ids.SeqId.{SeqId}
use Rattle.handle_table.specs.Things.{has, same_end, is_end, seq_of}
use Rattle.handle_table.specs.Places.{place_of}
use Rattle.handle_table.specs.declared.places.Place.{Place}
use Rattle.handle_table.specs.declared.places.Place.TheVariants as places
use Rattle.handle_table.specs.declared.thing.Thing.{Thing}
use Rattle.handle_table.specs.declared.thing.Thing.TheVariants.{End}
use Rattle.handle_table.proofs.ThingsLemmas.{same_end-true}
use Rattle.message_pipe.specs.Contents.{Contents, Becomes}
use Rattle.message_pipe.specs.Ends.{with_message}
use Rattle.message_pipe.specs.declared.message.Message.{Message}
use Rattle.message_pipe.specs.declared.pipe_end.PipeEnd.{PipeEnd}
use Rattle.bind_model.specs.declared.asked.Asked.{Asked}
use Rattle.bind_model.specs.declared.told.Told.{Told}
use Rattle.bind_model.specs.declared.event.Event.{Event}
use Rattle.bind_model.specs.Wire.{Wire}
use Rattle.bind_model.specs.Machine.{made, made_by, peer, peer_by, gone, gone_by, is_gone, given, handed, lands, out, puts, taken, takes, written, unread}
use Rattle.bind_model.specs.Machine.{endpoint_at}
use Rattle.bind_model.specs.Replies.{all_out}
use Rattle.bind_model.proofs.Kept.{Kept, most, own_times}
use Rattle.bind_model.proofs.Counting.{absent, times-present}
use Rattle.core_state.specs.Routers.{Routers}
use Rattle.core_state.specs.Placing.{PutsAll}
use Rattle.core_state.specs.Agreement.{Agrees, end_in, end_with, is_out, is_shut}
use Rattle.core_state.proofs.After.{out_after, unread_after, end_after, gone_still}
use Rattle.core_state.proofs.Steady.{AllAgree}

-- what an event is that writes a message: it makes, hands out and reads nothing, and nothing goes with it
pub record IsWriting (told : Told) (asked : Asked) : Type 0 where
  pub made : made_by told ≡ []
  pub gone : gone_by told ≡ []
  pub handed : handed told ≡ []
  pub takes : (x : EndId) → takes told asked x ≡ []
  pub peer : (x before : EndId) → peer_by told x before ≡ before

-- an event that takes these handles in and writes this message at y
module _ (wire : Wire) (past : List Event) (k : Kept wire past) (seq : SeqId) (asked : Asked) (told : Told) (y : EndId) (handles : List Thing)
    (bytes : List ℕ) (w : IsWriting told asked)
    (gives : given told asked ≡ handles)
    (lays : (x : EndId) → puts wire past (written wire past) (endpoint_at wire past) told asked x ≡ lands past y bytes handles x)
    (own : all_out past handles ≡ true) (alive : is_gone past (peer past y) ≡ false) where
  abbrev pub sent_event : Event
  sent_event = record { seq = seq; asked = asked; told = told }

  abbrev pub sent_message : Message
  sent_message = record { bytes = bytes; handles = handles; emitted = false }

  few : (x : EndId) → length (taken past x ++ takes told asked x) ≤ length (written wire past x)
  few x =
      subst (λ (ts : List Told). length (taken past x ++ ts) ≤ length (written wire past x)) (sym (w.takes x))
      (rw (append-nil (taken past x)) (k.counted x))

  unread_now : (x : EndId) → unread wire (sent_event ∷ past) x ≡ unread wire past x
      ++ (if is_gone past x then [] else (if same_end (peer past y) x then sent_message ∷ [] else []))
  unread_now x =
      unread_after wire sent_event past x (few x)
      ∙ go (gone_by told) (takes told asked x) (puts wire past (written wire past) (endpoint_at wire past) told asked x) w.gone (w.takes x) (lays x)
    where
      go : (gs : List Thing) (ts : List Told) (ps : List Message) → gs ≡ [] → ts ≡ [] → ps ≡ lands past y bytes handles x
          → (if has gs (End x) then [] else drop (length ts) (unread wire past x) ++ (if is_gone past x then [] else ps))
          ≡ unread wire past x ++ (if is_gone past x then [] else (if same_end (peer past y) x then sent_message ∷ [] else []))
      go gs ts ps e f g = rw (e, f, g) refl

  gone_now : gone (sent_event ∷ past) ≡ gone past
  gone_now = gone_still wire sent_event past w.gone

  made_now : made (sent_event ∷ past) ≡ made past
  made_now = ap (λ (ms : List Thing). made past ++ ms) w.made ∙ append-nil (made past)

  outs_now : (z : Thing) → has (out (sent_event ∷ past)) z ≡ ((has (out past) z && not (has handles z)) || false)
  outs_now z =
      out_after wire sent_event past z
      ∙ (ap (λ (hs : List Thing). (has (out past) z && not (has hs z)) || has (handed told) z) gives
      ∙ ap (λ (hs : List Thing). (has (out past) z && not (has handles z)) || has hs z) w.handed)

  end_now : (x : EndId) → end_in wire (sent_event ∷ past) x
      ≡ end_with (has (made past) (End x)) (peer past x) (is_gone past x)
      (unread wire past x ++ (if is_gone past x then [] else (if same_end (peer past y) x then sent_message ∷ [] else [])))
  end_now x = end_after wire sent_event past x (has (made past) (End x)) (peer past x) (is_gone past x)
      (unread wire past x ++ (if is_gone past x then [] else (if same_end (peer past y) x then sent_message ∷ [] else [])))
      (ap (λ ms. has ms (End x)) made_now) (w.peer x (peer past x)) (ap (λ gs. has gs (End x)) gone_now) (unread_now x)

  added : (m : Bool) (p : EndId) (ms : List Message) → option_map (with_message sent_message) (end_with m p false ms)
      ≡ end_with m p false (ms ++ sent_message ∷ [])
  added true p ms = refl
  added false p ms = refl

  ends_now : (x : EndId) → (if same_end (peer past y) x then option_map (with_message sent_message) (end_in wire past x) else end_in wire past x)
      ≡ end_in wire (sent_event ∷ past) x
  ends_now x = go (same_end (peer past y) x) (is_gone past x) (unread wire past x) refl refl ∙ sym (end_now x)
    where
      go : (b c : Bool) (ms : List Message) → same_end (peer past y) x ≡ b → is_gone past x ≡ c
          → (if b then option_map (with_message sent_message) (end_with (has (made past) (End x)) (peer past x) c ms) else end_with (has (made past) (End x))
          (peer past x) c ms)
          ≡ end_with (has (made past) (End x)) (peer past x) c (ms ++ (if c then [] else (if b then sent_message ∷ [] else [])))
      go true true ms e f = absurd (let t : is_gone past x
          ≡ false = subst (λ w. is_gone past w ≡ false) (same_end-true (peer past y) x e) alive in let u : false ≡ true = sym t ∙ f in cc)
      go true false ms e f = added (has (made past) (End x)) (peer past x) ms
      go false true ms e f = rw (append-nil ms) refl
      go false false ms e f = rw (append-nil ms) refl

  not_gone_own : (z : Thing) → has handles z ≡ true → has (gone past) z ≡ false
  not_gone_own z h = absent z (gone past) (omega (arith, k.one z, times-present z handles h, own_times wire past k handles own z, most wire past k z))

  out_now : (q : Place) (b o : Bool) (p : Option Place) → is_out (Some q) ≡ false → is_out p ≡ o
      → is_out (if b then option_map (λ (before : Place). q) p else p) ≡ ((o && not b) || false)
  out_now q true o p n e = nowhere p ∙ sym (both o)
    where
      nowhere : (p : Option Place) → is_out (option_map (λ (before : Place). q) p) ≡ false
      nowhere None = refl
      nowhere (Some r) = n

      both : (o : Bool) → ((o && false) || false) ≡ false
      both true = refl
      both false = refl
  out_now q false true p n e = e
  out_now q false false p n e = e

  some_now : (q : Place) (b : Bool) (p : Option Place) → is_some (if b then option_map (λ (before : Place). q) p else p) ≡ is_some p
  some_now q false p = refl
  some_now q true None = refl
  some_now q true (Some r) = refl

  shut_now : (q : Place) (b g : Bool) (p : Option Place) → is_shut (Some q) ≡ false → is_shut p ≡ g → (b ≡ true → g ≡ false)
      → is_shut (if b then option_map (λ (before : Place). q) p else p) ≡ g
  shut_now q false g p n e f = e
  shut_now q true g p n e f = nowhere p ∙ sym (f refl)
    where
      nowhere : (p : Option Place) → is_shut (option_map (λ (before : Place). q) p) ≡ false
      nowhere None = refl
      nowhere (Some r) = n

  pub sent_agrees : (old mid new : Contents) (before now : Routers) → Becomes (peer past y) (with_message sent_message) old mid
      → PutsAll handles (places.Unread (peer past y)) mid new
      → AllAgree wire (sent_event ∷ past) now → Agrees wire past old before → Agrees wire (sent_event ∷ past) new now
  sent_agrees old mid new before now b p r a = record {
    ends = λ x. p.ends x ∙ (b.ends x ∙ (ap (λ (o : Option PipeEnd). if same_end (peer past y) x then option_map (with_message sent_message) o else o)
        (a.ends x) ∙ ends_now x));
    outs = λ z. ap is_out (at z) ∙ (out_now (places.Unread (peer past y)) (has handles z) (has (out past) z) (place_of old.table z) refl (a.outs z)
        ∙ sym (outs_now z));
    there = λ z. ap (λ (o : Option Place). is_some o) (at z)
        ∙ (some_now (places.Unread (peer past y)) (has handles z) (place_of old.table z) ∙ (a.there z ∙ ap (λ ms. has ms z) (sym made_now)));
    shuts = λ z. ap is_shut (at z) ∙ (shut_now (places.Unread (peer past y)) (has handles z) (has (gone past) z) (place_of old.table z) refl (a.shuts z)
        (not_gone_own z) ∙ ap (λ gs. has gs z) (sym gone_now));
    made = p.made ∙ (b.made ∙ (a.made ∙ ap length (sym made_now)));
    serials = λ n. p.ends_made n ∙ (rw b.table (a.serials n ∙ ap (λ ms. count_by (λ z. is_end z && (seq_of z == n)) ms) (sym made_now)));
    tokens = λ n. p.tokens_made n ∙ (rw b.table (a.tokens n ∙ ap (λ ms. count_by (λ z. not (is_end z) && (seq_of z == n)) ms) (sym made_now)));
    routers = r;
  }
    where
      at : (z : Thing) → place_of new.table z ≡ (if has handles z then option_map (λ (before : Place). places.Unread (peer past y))
          (place_of old.table z) else place_of old.table z)
      at z = rw b.table at (p.places z)
