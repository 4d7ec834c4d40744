-- Each message is the one that its writer says.
use Rattle.std.proofs.Common.{◌≡◌, ℕ, Bool, true, false, List, [], ◌∷◌, refl, ap}
use Rattle.std.specs.Prelude.{Some, None, if◌then◌else◌, not, ◌&&◌, ◌||◌, ◌==◌, map, filter}
use Rattle.std.proofs.lemmas.List.{map-append}
use Rattle.mj_base.specs.declared.ids.EndId.{EndId}
use Rattle.mj_base.specs.declared.ids.SeqId.{SeqId}
use Rattle.handle_table.specs.declared.thing.Thing.{Thing}
use Rattle.message_pipe.specs.declared.message.Message.{Message}
use Rattle.bind_model.specs.declared.asked.Asked.{Asked}
use Rattle.bind_model.specs.declared.told.Told.{Told}
use Rattle.bind_model.specs.declared.told.Told.TheVariants.{Taken, Dropped}
use Rattle.control_bytes.specs.declared.control.Control.{Control as ControlType}
use Rattle.control_bytes.specs.declared.control.Control.TheVariants as says
use Rattle.bind_model.specs.declared.told.Noted.{Noted}
use Rattle.bind_model.specs.declared.told.Noted.TheVariants as noted
use Rattle.bind_model.specs.declared.event.Event.{Event}
use Rattle.handle_table.specs.Things.{same_end}
use Rattle.bind_model.specs.Wire.{Wire}
use Rattle.bind_model.specs.Machine.{peer, is_gone, is_local, is_peer_closed, written, endpoint_at, puts, emits, emits_for, control_of, enters, closed_ids}
use Rattle.bind_model.specs.Replies.{ids_of, legal}
use Rattle.bind_model.specs.Origins.{Origin, OfCall, OfAnswer, OfRaw, OfNotice, OfMachine, message_of, from_machine, from_query, writers, origins, HaveWriters}
use Rattle.bind_model.proofs.Outcomes.{Outcome, outcome, joins, mints, binds, associates, attaches, calls, answers, writes, gets, drops, controls, spoils, closes, closes_pending, closes_responder, closes_end, closes_endpoint, notifies, pauses, pipes, flows, skips, refuses}

of_ids : (wire : Wire) (control : ℕ → ControlType) (ids : List ℕ)
    → map (λ id. record { bytes = wire.control (control id); handles = []; emitted = true }) ids
    ≡ map (message_of wire) (map (λ id. OfMachine (control id)) ids)
of_ids wire control [] = refl
of_ids wire control (id ∷ ids) = ap (λ ms. record { bytes = wire.control (control id); handles = []; emitted = true } ∷ ms) (of_ids wire control ids)

module _ (wire : Wire) (seqs : ℕ) (past : List Event) (seq : SeqId) where
  by_machine : (y : EndId) (control : ℕ → ControlType) (ids : List ℕ) (x : EndId) → emits wire past y (endpoint_at wire past y) control ids x
      ≡ map (message_of wire) (from_machine past y (endpoint_at wire past y) control ids x)
  by_machine y control ids x = go (same_end (peer past y) x && not (is_gone past x))
    where
      left : List ℕ
      left = filter (λ id. not (is_peer_closed (endpoint_at wire past y id))) ids

      go : (b : Bool) → (if b then map (λ id. record { bytes = wire.control (control id); handles = []; emitted = true }) left else [])
          ≡ map (message_of wire) (if b then map (λ id. OfMachine (control id)) left else [])
      go true = of_ids wire control left
      go false = refl

  by_query : (y : EndId) (c : Noted) (x : EndId) → emits_for wire past y (endpoint_at wire past y) c x
      ≡ map (message_of wire) (from_query past y (endpoint_at wire past y) c x)
  by_query y (noted.Queried id (Some v)) x = by_machine y (λ n. says.Version n v) (id ∷ []) x
  by_query y (noted.Queried id None) x = refl
  by_query y (noted.Closed id) x = refl
  by_query y (noted.Version id v) x = refl
  by_query y (noted.Required id v) x = refl
  by_query y (noted.Flushed k) x = refl

  by_peer : (m : Message) (o : Origin) (b : Bool) → m ≡ message_of wire o → (if b then m ∷ [] else []) ≡ map (message_of wire) (if b then o ∷ [] else [])
  by_peer m o true e = ap (λ n. n ∷ []) e
  by_peer m o false e = refl

  unless_shut : (b : Bool) (y : EndId) (ids : List ℕ) (x : EndId)
      → (if b then [] else emits wire past y (endpoint_at wire past y) says.Closed ids x)
      ≡ map (message_of wire) (if b then [] else from_machine past y (endpoint_at wire past y) says.Closed ids x)
  unless_shut true y ids x = refl
  unless_shut false y ids x = by_machine y says.Closed ids x

  said : (bytes tight : List ℕ) (handles : List Thing) → bytes ≡ tight
      → ◌≡◌ {A = Message} (record { bytes = bytes; handles = handles; emitted = false }) (record { bytes = tight; handles = handles; emitted = false })
  said bytes tight handles e = ap (λ b. record { bytes = b; handles = handles; emitted = false }) e

  writer_step : {asked : Asked} {told : Told} → Outcome wire seqs past seq asked told → (x : EndId)
      → puts wire past (written wire past) (endpoint_at wire past) told asked x ≡ map (message_of wire) (writers wire past told asked x)
  writer_step (joins t j p q) x = refl
  writer_step mints x = refl
  writer_step (binds o) x = refl
  writer_step (associates main e g q) x = refl
  writer_step (attaches o g l e) x = refl
  writer_step (calls {y = y} {id = id} {s = s} {request = request} {bytes = bytes} r o ps mk e w b) x =
      by_peer (record { bytes = bytes; handles = s.handles; emitted = false })
      (OfCall y s (record { id = id; request = request; ids = ids_of s.pendings; moment = s.moment }))
      (same_end (peer past y) x)
      (said bytes (wire.sealed s.target s.parameters (record { id = id; request = request; ids = ids_of s.pendings; moment = s.moment })) s.handles b)
  writer_step (answers {q = q} {s = s} {request = request} {bytes = bytes} r o rs ps e w b) x =
      by_peer (record { bytes = bytes; handles = s.handles; emitted = false })
      (OfAnswer q s (record { id = q.id; request = request; ids = ids_of s.pendings; moment = s.moment })) (same_end (peer past q.end) x)
      (said bytes (wire.sealed s.target s.parameters (record { id = q.id; request = request; ids = ids_of s.pendings; moment = s.moment })) s.handles b)
  writer_step (writes {x = z} {bytes = bytes} {handles = handles} o w) x = by_peer (record { bytes = bytes; handles = handles; emitted = false })
      (OfRaw bytes handles) (same_end (peer past z) x) refl
  writer_step (gets {y = y} m hd r c f {g = g} e) x =
      by_machine y says.Closed (closed_ids (enters wire past y (written wire past y) (endpoint_at wire past y) (Taken g))) x
  writer_step (drops {y = y} {id = n} {goes = goes} m f e d) x = by_machine y says.Closed
      (closed_ids (enters wire past y (written wire past y) (endpoint_at wire past y) (Dropped n goes))) x
  writer_step (controls {y = y} {c = c} m f e d) x = by_query y c x
  writer_step (notifies {y = y} {notice = notice} {told = told} r o e w s f p) x = by_peer
      (record { bytes = wire.control (control_of notice told); handles = []; emitted = false }) (OfNotice y (control_of notice told))
      (same_end (peer past y) x) refl
  writer_step (spoils m f e) x = refl
  writer_step (closes o e) x = refl
  writer_step (closes_pending {p = p} o e) x = unless_shut (is_gone past p.end || is_local past p) p.end (p.id ∷ []) x
  writer_step (closes_responder e) x = refl
  writer_step (closes_end {y = y} {id = n} r i o e) x = unless_shut (n == 0) y (n ∷ []) x
  writer_step (closes_endpoint {y = y} {id = n} r i o e) x = unless_shut (n == 0) y (n ∷ []) x
  writer_step (pauses n_b n_a n_e n_f n_g n_s) x = refl
  writer_step (pipes n_z n_p n_q) x = refl
  writer_step (flows n_d n_o n_e n_f) x = refl
  writer_step skips x = refl
  writer_step refuses x = refl

pub have_writers : (wire : Wire) (seqs : ℕ) (past : List Event) → legal wire seqs past → HaveWriters wire past
have_writers wire seqs [] h x = refl
have_writers wire seqs (event ∷ past) h x =
    rw (
      map-append (message_of wire) (origins wire past x)
          (writers wire past event.told event.asked x),
      have_writers wire seqs past h.2 x,
      writer_step wire seqs past event.seq
          (outcome wire seqs past event.seq event.asked event.told h.1) x,
    ) refl
