-- What an event that only writes, and changes endpoints, makes of pipes and places.
use Rattle.std.proofs.Common.{◌≡◌, ◌≤◌, Bool, true, false, List, [], ◌∷◌, ◌++◌, length, refl, sym, ap, ◌∙◌}
use Rattle.std.specs.Prelude.{if◌then◌else◌, ◌||◌, ◌&&◌, not, ◌==◌, is_some, Option, Some, None}
use Rattle.std.specs.Option.{option_map}
use Rattle.std.specs.List.{count_by}
use Rattle.std.proofs.lemmas.List.{append-nil}
use Rattle.mj_base.specs.declared.ids.EndId.{EndId}
use Rattle.handle_table.specs.Things.{has, is_end, seq_of}
use Rattle.handle_table.specs.Places.{ends_made, place_of, tokens_made}
use Rattle.handle_table.specs.declared.thing.Thing.{Thing}
use Rattle.handle_table.specs.declared.thing.Thing.TheVariants.{End}
use Rattle.message_pipe.specs.Contents.{Contents}
use Rattle.message_pipe.specs.Ends.{end_of, with_messages}
use Rattle.message_pipe.specs.declared.message.Message.{Message}
use Rattle.message_pipe.specs.declared.pipe_end.PipeEnd.{PipeEnd}
use Rattle.bind_model.specs.declared.event.Event.{Event}
use Rattle.bind_model.specs.Wire.{Wire}
use Rattle.bind_model.specs.Machine.{endpoint_at, given, gone, gone_by, handed, is_gone, made, made_by, out, peer, peer_by, puts, taken, takes, unread, written}
use Rattle.bind_model.proofs.Kept.{Kept}
use Rattle.core_state.specs.Agreement.{Agrees, end_in, end_with, is_out, is_shut}
use Rattle.core_state.specs.Routers.{Routers}
use Rattle.core_state.specs.steps.Posted.{Adds}
use Rattle.core_state.proofs.After.{end_after, gone_still, out_after, unread_after}
use Rattle.core_state.proofs.Steady.{AllAgree}

-- an event that makes, moves and reads nothing, and puts these messages, none where an end is gone
pub record IsAdding (wire : Wire) (event : Event) (past : List Event) (added : EndId → List Message) : Type 0 where
  pub made : made_by event.told ≡ []
  pub gone : gone_by event.told ≡ []
  pub given : given event.told event.asked ≡ []
  pub handed : handed event.told ≡ []
  pub takes : (x : EndId) → takes event.told event.asked x ≡ []
  pub puts : (x : EndId) → puts wire past (written wire past) (endpoint_at wire past) event.told event.asked x ≡ added x
  pub none : (x : EndId) → is_gone past x ≡ true → added x ≡ []
  pub peer : (x : EndId) → peer_by event.told x (peer past x) ≡ peer past x

-- nothing is put anywhere
pub adds_nothing : (old : Contents) → Adds (λ x. []) old old
adds_nothing old = record { ends = λ x. go (end_of old.ends x); table = refl; made = refl }
  where
    go : (o : Option PipeEnd) → o ≡ option_map (with_messages []) o
    go None = refl
    go (Some e) = ap (λ (us : List Message). Some (record { peer = e.peer; closed = e.closed; unread = us })) (sym (append-nil e.unread))

and_nothing : (b : Bool) → ((b && true) || false) ≡ b
and_nothing true = refl
and_nothing false = refl

module _ (wire : Wire) (event : Event) (past : List Event) (added : EndId → List Message) (k : Kept wire past) (s : IsAdding wire event past added) where
  same_made : made (event ∷ past) ≡ made past
  same_made = ap (λ xs. made past ++ xs) s.made ∙ append-nil (made past)

  same_gone : gone (event ∷ past) ≡ gone past
  same_gone = gone_still wire event past s.gone

  same_out : (z : Thing) → has (out (event ∷ past)) z ≡ has (out past) z
  same_out z = out_after wire event past z ∙ rw (s.given, s.handed) (and_nothing (has (out past) z))

  few : (x : EndId) → length (taken past x ++ takes event.told event.asked x) ≤ length (written wire past x)
  few x = rw (s.takes x, append-nil (taken past x)) (k.counted x)

  unread_now : (x : EndId) → unread wire (event ∷ past) x ≡ unread wire past x ++ added x
  unread_now x = unread_after wire event past x (few x) ∙ rw (s.gone, s.takes x, s.puts x) (go (is_gone past x) refl (unread wire past x))
    where
      go : (g : Bool) → is_gone past x ≡ g → (ms : List Message) → ms ++ (if g then [] else added x) ≡ ms ++ added x
      go true e ms = ap (λ (us : List Message). ms ++ us) (sym (s.none x e))
      go false e ms = refl

  ends_now : (x : EndId) → option_map (with_messages (added x)) (end_in wire past x) ≡ end_in wire (event ∷ past) x
  ends_now x =
      go (has (made past) (End x))
      ∙ sym (end_after wire event past x (has (made past) (End x)) (peer past x) (is_gone past x) (unread wire past x ++ added x)
      (ap (λ ms. has ms (End x)) same_made) (s.peer x) (ap (λ gs. has gs (End x)) same_gone) (unread_now x))
    where
      go : (m : Bool) → option_map (with_messages (added x)) (end_with m (peer past x) (is_gone past x) (unread wire past x))
          ≡ end_with m (peer past x) (is_gone past x) (unread wire past x ++ added x)
      go true = refl
      go false = refl

  -- what agreed agrees with the longer history, once the messages lie there and the routers are as the event has them
  pub adds_agree : (old new : Contents) (before now : Routers) → Adds added old new → AllAgree wire (event ∷ past) now
      → Agrees wire past old before → Agrees wire (event ∷ past) new now
  adds_agree old new before now e r a = record {
    ends = λ x. e.ends x ∙ (ap (λ (o : Option PipeEnd). option_map (with_messages (added x)) o) (a.ends x) ∙ ends_now x);
    outs = λ z. ap (λ t. is_out (place_of t z)) e.table ∙ (a.outs z ∙ sym (same_out z));
    there = λ z. ap (λ t. is_some (place_of t z)) e.table ∙ (a.there z ∙ sym (ap (λ ms. has ms z) same_made));
    shuts = λ z. ap (λ t. is_shut (place_of t z)) e.table ∙ (a.shuts z ∙ sym (ap (λ gs. has gs z) same_gone));
    made = e.made ∙ (a.made ∙ sym (ap length same_made));
    serials = λ n. ap (λ t. ends_made t n) e.table ∙ (a.serials n ∙ sym (ap (λ ms. count_by (λ x. is_end x && (seq_of x == n)) ms) same_made));
    tokens = λ n. ap (λ t. tokens_made t n) e.table ∙ (a.tokens n ∙ sym (ap (λ ms. count_by (λ x. not (is_end x) && (seq_of x == n)) ms) same_made));
    routers = r;
  }
