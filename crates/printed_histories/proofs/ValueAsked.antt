-- What a legal history sends of values is bytes.
use Rattle.std.proofs.Common.{ℕ, List, [], ◌∷◌, false, Option, sym, subst}
use Rattle.mj_base.specs.declared.ids.SeqId.{SeqId}
use Rattle.mj_schema.specs.KindTrees.{StructKind}
use Rattle.mj_schema.specs.declared.schema.Schema.{Schema}
use Rattle.wire_model.specs.Emit.{emit}
use Rattle.wire_model.specs.Trees.{Tree}
use Rattle.wire_model.specs.declared.target.MessageSide.{MessageSide}
use Rattle.wire_model.specs.declared.target.MessageSide.TheVariants.{Request, Response}
use Rattle.wire_model.specs.declared.target.Target.{Target}
use Rattle.wire_encoder.specs.Prepared.{flags_for, kind_for, method_of, payload_for}
use Rattle.message_laws.specs.Filled.{AreBytes}
use Rattle.bind_model.specs.Replies.{ids_of, legal}
use Rattle.bind_model.specs.Wire.{Head}
use Rattle.bind_model.specs.WireOf.{wire_of}
use Rattle.bind_model.specs.declared.asked.Asked.{Asked}
use Rattle.bind_model.specs.declared.event.Event.{Event}
use Rattle.bind_model.specs.declared.told.Told.{Told}
use Rattle.bind_model.proofs.Outcomes.{Outcome, outcome, joins, mints, binds, associates, attaches, calls, answers, writes, gets, drops, controls, spoils}
use Rattle.bind_model.proofs.Outcomes.{closes, closes_pending, closes_responder, closes_end, closes_endpoint, notifies, pauses, pipes, flows, skips, refuses}
use Rattle.printed_histories.specs.Asked.{AllAskSaid, AsksSaid, IsSending}
use Rattle.printed_histories.proofs.ValueBytes.{of_message, of_value}
use Rattle.printed_histories.proofs.ValueGot.{AllSendBytes, SendsBytes}

module _ (schema : Schema) where
  sealed_bytes : (side : MessageSide) (target : Target) (t : Tree) (head : Head) → IsSending schema side target t
      → AreBytes ((wire_of schema).sealed target t head)
  unfolding wire_of
  sealed_bytes side target t head is =
      of_message (record {
        interface = head.id;
        name = target.method;
        flags = flags_for (method_of schema target) target;
        nonce = 0;
        request = head.request;
        moment = head.moment;
        ids = head.ids;
      }) (payload_for schema target t)
      (subst (λ (o : Option ℕ). AreBytes (emit schema false (kind_for o) t)) (sym is.parameters)
      (of_value schema false (StructKind is.number false) t is.said.kind))

  bytes_step : (seqs : ℕ) (past : List Event) (seq : SeqId) {asked : Asked} {told : Told} → Outcome (wire_of schema) seqs past seq asked told
      → AsksSaid schema asked → SendsBytes told asked
  bytes_step seqs past seq (calls {id = id} {s = s} {request = request} r o ps mk e w b) is =
      subst AreBytes (sym b)
      (sealed_bytes Request s.target s.parameters (record { id = id; request = request; ids = ids_of s.pendings; moment = s.moment }) is.0)
  bytes_step seqs past seq (answers {q = q} {s = s} {request = request} r o rs ps e w b) is =
      subst AreBytes (sym b)
      (sealed_bytes Response s.target s.parameters (record { id = q.id; request = request; ids = ids_of s.pendings; moment = s.moment }) is.0)
  bytes_step seqs past seq (writes o w) is = is
  bytes_step seqs past seq (joins t j p q) is = tt
  bytes_step seqs past seq mints is = tt
  bytes_step seqs past seq (binds o) is = tt
  bytes_step seqs past seq (associates main e g q) is = tt
  bytes_step seqs past seq (attaches o g l e) is = tt
  bytes_step seqs past seq (gets m hd r c f e) is = tt
  bytes_step seqs past seq (drops m f e d) is = tt
  bytes_step seqs past seq (controls m f e d) is = tt
  bytes_step seqs past seq (spoils m f e) is = tt
  bytes_step seqs past seq (closes o e) is = tt
  bytes_step seqs past seq (closes_pending o e) is = tt
  bytes_step seqs past seq (closes_responder e) is = tt
  bytes_step seqs past seq (closes_end r i o e) is = tt
  bytes_step seqs past seq (closes_endpoint r i o e) is = tt
  bytes_step seqs past seq (notifies r o e w s f p) is = tt
  bytes_step seqs past seq (pauses rb ra e f g s) is = tt
  bytes_step seqs past seq (pipes z e f) is = tt
  bytes_step seqs past seq (flows d o e f) is = tt
  bytes_step seqs past seq skips is = tt
  bytes_step seqs past seq refuses is = tt

  -- what a legal history sends of values is bytes
  pub sent_bytes : (seqs : ℕ) (past : List Event) → legal (wire_of schema) seqs past → AllAskSaid schema past → AllSendBytes past
  sent_bytes seqs [] h all = tt
  sent_bytes seqs (event ∷ past) h all = (
    bytes_step seqs past event.seq (outcome (wire_of schema) seqs past event.seq event.asked event.told h.1) all.0,
    sent_bytes seqs past h.2 all.1,
  )
