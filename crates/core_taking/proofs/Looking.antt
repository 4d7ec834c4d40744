-- What a take is told, by what is found at the end.
use Rattle.bind_model.specs.Notices.{first_unmet, waits}
use Rattle.std.proofs.Common.{◌≡◌, Bool, true, false, List, [], ◌∷◌, refl, sym, ap, ◌∙◌}
use Rattle.std.specs.Prelude.{if◌then◌else◌, not, is_some, Option, Some, None, Result, Ok, Err}
use Rattle.mj_base.specs.declared.ids.EndId.{EndId}
use Rattle.mj_base.specs.declared.ids.SeqId.{SeqId}
use Rattle.handle_table.specs.Things.{has}
use Rattle.handle_table.specs.declared.thing.Thing.TheVariants.{End}
use Rattle.message_pipe.specs.Contents.{Contents}
use Rattle.message_pipe.specs.Mail.{front_of}
use Rattle.message_pipe.specs.declared.message.Message.{Message}
use Rattle.bind_model.specs.declared.asked.Asked.TheVariants as asks
use Rattle.bind_model.specs.declared.endpoint.Endpoint.{Endpoint}
use Rattle.bind_model.specs.declared.told.Told.{Told}
use Rattle.bind_model.specs.declared.told.Told.TheVariants.{No}
use Rattle.bind_model.specs.declared.told.Why.{Why}
use Rattle.bind_model.specs.declared.told.Why.TheVariants.{NoName, Disconnected, Empty, PeerClosed, Paused}
use Rattle.bind_model.specs.declared.event.Event.{Event}
use Rattle.bind_model.specs.Wire.{Wire}
use Rattle.bind_model.specs.Machine.{made, peer, is_gone, unread, endpoint_at}
use Rattle.bind_model.specs.Replies.{first_of, unless, headed, pause_of, took, took_front}
use Rattle.bind_model.proofs.Fresh.{kept}
use Rattle.bind_model.proofs.Kept.{Kept, bound_made}
use Rattle.core_state.specs.Routers.{Routers}
use Rattle.core_state.specs.Agreement.{Agrees, Holds, past_of, wire_in}
use Rattle.core_state.specs.Doing.{told_to}
use Rattle.core_taking.specs.Taking.{front_bound, front_found, front_in, front_open}
use Rattle.core_state.specs.declared.state.State.{State}
use Rattle.core_state.proofs.Facts.{closed_is, unread_is, peer_is}
use Rattle.core_state.proofs.Steady.{found_is}

-- the reply to what is found
abbrev pub told_of_front : (Message → Told) → Result Message Why → Told
told_of_front next (Ok m) = next m
told_of_front next (Err why) = No why

module _ (wire : Wire) (past : List Event) (k : Kept wire past) (pipes : Contents) (endpoints : Routers)
    (a : Agrees wire past pipes endpoints) (seq : SeqId) (y : EndId) where
  abbrev next : Message → Told
  next m = headed wire past seq y m (wire.header m.bytes)

  nothing_told : has (made past) (End y) ≡ true → told_of_front next (front_open pipes y None) ≡ took_front wire past seq y []
  nothing_told m = rw (peer_is wire past k pipes endpoints a y m, closed_is wire past k pipes endpoints a (peer past y)) (go (is_gone past (peer past y)))
    where
      go : (b : Bool) → No (if b then PeerClosed else Empty) ≡ (if b then No PeerClosed else No Empty)
      go true = refl
      go false = refl

  open_told : has (made past) (End y) ≡ true → (ms : List Message)
      → told_of_front next (front_open pipes y (front_of ms)) ≡ took_front wire past seq y ms
  open_told m [] = nothing_told m
  open_told m (n ∷ ms) = refl

  bound_told : (pause : Option EndId) (o : Option Endpoint) → endpoint_at wire past y 0 ≡ o
      → told_of_front next (front_bound pipes y pause o)
      ≡ first_of (unless (is_some o) NoName ∷ unless (not (is_gone past y)) Disconnected ∷ pause_of pause ∷ [])
      (took_front wire past seq y (unread wire past y))
  bound_told pause None e = refl
  bound_told None (Some main) e =
      rw (closed_is wire past k pipes endpoints a y, unread_is wire past k pipes endpoints a y) (go (is_gone past y))
    where
      m : has (made past) (End y) ≡ true
      m = bound_made wire past k (End y) (k.endpoints y 0 main e)

      go : (b : Bool) → told_of_front next (if b then Err Disconnected else front_open pipes y (front_of (unread wire past y)))
          ≡ first_of (unless true NoName ∷ unless (not b) Disconnected ∷ None ∷ []) (took_front wire past seq y (unread wire past y))
      go true = refl
      go false = open_told m (unread wire past y)
  bound_told (Some x) (Some main) e = rw (closed_is wire past k pipes endpoints a y) (go (is_gone past y))
    where
      go : (b : Bool) → told_of_front next (if b then Err Disconnected else Err (Paused x))
          ≡ first_of (unless true NoName ∷ unless (not b) Disconnected ∷ Some (Paused x) ∷ []) (took_front wire past seq y (unread wire past y))
      go true = refl
      go false = refl

  pub front_told : told_of_front next (front_found pipes endpoints y (first_unmet past (waits past y))) ≡ took wire past seq y
  front_told = rw (found_is a y 0) (bound_told (first_unmet past (waits past y)) (endpoint_at wire past y 0) refl)

-- what a state says of a take, by what is found
module _ (s : State) (h : Holds s) (y : EndId) where
  kept_here : Kept (wire_in s) (past_of s)
  kept_here = kept (wire_in s) s.seqs (past_of s) h.legal

  pub front_read : (seq : SeqId) (m : Message) → front_in s y ≡ Ok m
      → headed (wire_in s) (past_of s) seq y m ((wire_in s).header m.bytes) ≡ told_to s seq (asks.Take y)
  front_read seq m e =
      ap (told_of_front (λ (n : Message). headed (wire_in s) (past_of s) seq y n ((wire_in s).header n.bytes))) (sym e)
      ∙ front_told (wire_in s) (past_of s) kept_here s.pipes s.endpoints h.agrees seq y

  pub front_refused : (seq : SeqId) (why : Why) → front_in s y ≡ Err why → told_to s seq (asks.Take y) ≡ No why
  front_refused seq why e =
      sym (front_told (wire_in s) (past_of s) kept_here s.pipes s.endpoints h.agrees seq y)
      ∙ ap (told_of_front (λ (n : Message). headed (wire_in s) (past_of s) seq y n ((wire_in s).header n.bytes))) e
