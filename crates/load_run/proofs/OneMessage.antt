-- One message: what came of its call, of the take, and of the right to answer.
use Rattle.std.proofs.Common.{◌≡◌, ◌++◌, inl, inr, ℕ, Bool, List, [], ◌∷◌, refl, sym, ap, ◌∙◌, subst, arith, append_assoc}
use Rattle.std.specs.Prelude.{Option, Some, None}
use Rattle.std.proofs.lemmas.List.{append-nil}
use Rattle.mj_schema.specs.declared.schema.Schema.{Schema}
use Rattle.wire_model.specs.Trees.{Tree, view}
use Rattle.wire_encoder.specs.declared.prepared.Prepared.{Prepared}
use Rattle.bind_core.specs.Play.{Play}
use Rattle.bind_model.specs.Replies.{responders_handed}
use Rattle.bind_model.specs.WireOf.{wire_of}
use Rattle.bind_model.specs.declared.asked.Asked.TheVariants as asks
use Rattle.bind_model.specs.declared.endpoint.ResponderId.{ResponderId}
use Rattle.bind_model.specs.declared.event.Event.{Event}
use Rattle.script_run.specs.OfScript.{Next}
use Rattle.load_run.specs.Commands.{Asks, IsAnswered, alone, caller, end_of, event_of, taker}
use Rattle.load_run.specs.Messages.{Stays, answer_tree, request_target, request_tree, targets_in}
use Rattle.load_run.specs.declared.messages.Message.{Message}
use Rattle.load_run.specs.declared.targets.Targets.{Targets}
use Rattle.load_run.specs.steps.Doing.{Answered, AskedOne, Came, IsFor, RepliedIf, RepliedTo, ToldOne, TookAll, Went}
use Rattle.load_run.proofs.PreparedGoes.{goes}

came_none : (second : Bool) (most : ℕ) (core : Play) → Came second most core core []
came_none second most core = record {
  schema = refl;
  seqs = refl;
  events = sym (append-nil core.events);
  few = omega arith;
  are = tt;
}

module _ (schema : Schema) (m : Message) (targets : Targets) (same : targets ≡ targets_in schema) where
  -- ## The answer

  -- it went out
  pub replied_goes : (r : ResponderId) (p : Prepared) (before after : Play) → IsFor schema targets.answer (answer_tree m.number) p
      → Answered m.is_second r (alone p.target (view p.value)) before after → RepliedTo schema m r before after
  replied_goes r p before after is answered = (own, came, λ rs. inl (p.target, goes schema _ _ p here, asked))
    where
      here : IsFor schema (targets_in schema).answer (answer_tree m.number) p
      here = subst (λ (t : Targets). IsFor schema t.answer (answer_tree m.number) p) same is

      answer : Event
      answer = event_of (taker m.is_second) (asks.Answer r (alone p.target (view p.value))) answered.answer.0

      heard : Event
      heard = event_of (caller m.is_second) (asks.Take (end_of (caller m.is_second))) answered.heard.0

      own : List Event
      own = answer ∷ heard ∷ []

      came : Came m.is_second 2 before after own
      came = record {
        schema = answered.heard.1.schema ∙ answered.answer.1.schema;
        seqs = answered.heard.1.seqs ∙ answered.answer.1.seqs;
        events =
            answered.heard.1.events
            ∙ (ap (λ (es : List Event). es ++ heard ∷ []) answered.answer.1.events ∙ append_assoc before.events (answer ∷ []) (heard ∷ []));
        few = omega arith;
        are = (inr refl, (inl refl, tt));
      }

      asked : Asks ((taker m.is_second, asks.Answer r (alone p.target (answer_tree m.number)))
          ∷ (caller m.is_second, asks.Take (end_of (caller m.is_second))) ∷ []) own
      asked =
          ap {B = List Next} (λ (v : Tree). (taker m.is_second, asks.Answer r (alone p.target v))
          ∷ (caller m.is_second, asks.Take (end_of (caller m.is_second))) ∷ []) is.same

  -- it didn't
  pub replied_stays : (r : ResponderId) (core : Play) → Stays schema targets.answer (answer_tree m.number) → RepliedTo schema m r core core
  replied_stays r core stays = (
    [],
    came_none m.is_second 2 core,
    λ rs. inr (subst (λ (t : Targets). Stays schema t.answer (answer_tree m.number)) same stays, refl),
  )

  -- what came of the right
  pub replied_some : (before after : Play) (r : ResponderId) → RepliedTo schema m r before after → RepliedIf schema m (Some r) before after
  replied_some before after r replied = (replied.0, replied.1, replied.2 [])

  pub replied_none : (core : Play) → RepliedIf schema m None core core
  replied_none core = ([], came_none m.is_second 2 core, refl)

  -- ## The take

  pub took_all : (before between after : Play) (found : Option ResponderId) → before.schema ≡ schema
      → ToldOne (taker m.is_second) (asks.Take (end_of (taker m.is_second))) found before between → RepliedIf schema m found between after
      → TookAll schema m before after
  took_all before between after found is took replied = record {
    got = took.0;
    rest = replied.0;
    came = record {
      schema = replied.1.schema ∙ took.1.schema;
      seqs = replied.1.seqs ∙ took.1.seqs;
      events =
          replied.1.events
          ∙ (ap (λ (es : List Event). es ++ replied.0) took.1.events
          ∙ append_assoc before.events (event_of (taker m.is_second) (asks.Take (end_of (taker m.is_second))) took.0 ∷ []) replied.0);
      few = let short = replied.1.few in omega (arith, short);
      are = (inr refl, replied.1.are);
    };
    answered = subst (λ (rs : List ResponderId). IsAnswered schema m rs replied.0)
        (took.2 ∙ ap (λ (s : Schema). responders_handed (wire_of s) took.0 (asks.Take (end_of (taker m.is_second)))) is)
        replied.2;
  }

  -- ## The whole

  -- the request went out
  pub went_goes : (p : Prepared) (before between after : Play) → IsFor schema (request_target targets m) (request_tree m) p
      → AskedOne (caller m.is_second) (asks.Call (end_of (caller m.is_second)) 0 (alone p.target (view p.value))) before between
      → TookAll schema m between after → Went schema m before after
  went_goes p before between after is called taken = (
    called_so (view p.value) ∷ took ∷ taken.rest,
    record {
      schema = taken.came.schema ∙ called.1.schema;
      seqs = taken.came.seqs ∙ called.1.seqs;
      events =
          taken.came.events
          ∙ (ap (λ (es : List Event). es ++ took ∷ taken.rest) called.1.events
          ∙ append_assoc before.events (called_so (view p.value) ∷ []) (took ∷ taken.rest));
      few = let short = taken.came.few in omega (arith, short);
      are = (inl refl, taken.came.are);
    },
    inl (
      p.target,
      goes schema _ _ p here,
      record {
        sent = called.0;
        got = taken.got;
        rest = taken.rest;
        whole = ap (λ (v : Tree). called_so v ∷ took ∷ taken.rest) is.same;
        answered = taken.answered;
      },
    ),
  )
    where
      here : IsFor schema (request_target (targets_in schema) m) (request_tree m) p
      here = subst (λ (t : Targets). IsFor schema (request_target t m) (request_tree m) p) same is

      called_so : Tree → Event
      called_so v = event_of (caller m.is_second) (asks.Call (end_of (caller m.is_second)) 0 (alone p.target v)) called.0

      took : Event
      took = event_of (taker m.is_second) (asks.Take (end_of (taker m.is_second))) taken.got

  -- it didn't
  pub went_stays : (core : Play) → Stays schema (request_target targets m) (request_tree m) → Went schema m core core
  went_stays core stays = (
    [],
    came_none m.is_second 4 core,
    inr (subst (λ (t : Targets). Stays schema (request_target t m) (request_tree m)) same stays, refl),
  )
