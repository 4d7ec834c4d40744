-- Events with which no right comes out or is spent.
use Rattle.std.proofs.Common.{◌≡◌, ℕ, Bool, true, false, List, [], ◌∷◌, refl, sym, ap, ◌∙◌}
use Rattle.std.specs.Prelude.{◌&&◌, ◌||◌, not}
use Rattle.std.specs.List.{count_by}
use Rattle.std.proofs.lemmas.List.{append-nil}
use Rattle.bind_model.specs.declared.endpoint.PendingId.{PendingId}
use Rattle.bind_model.specs.declared.endpoint.ResponderId.{ResponderId}
use Rattle.bind_model.specs.declared.event.Event.{Event}
use Rattle.core_state.specs.steps.Spends.{SpendsAll}
use Rattle.bind_model.specs.Replies.{has_pending, pendings_given, pendings_handed, pendings_out, responders_after, responders_handed, responders_out}
use Rattle.bind_model.specs.Replies.{same_responder}
use Rattle.bind_model.specs.Wire.{Wire}
use Rattle.bind_model.specs.Plain.{HandsPendings, asked_of, told_of, responders_in}
use Rattle.bind_model.specs.Pendings.{KnowsPendings}
use Rattle.bind_model.specs.Responders.{CountsResponders}
use Rattle.bind_model.specs.declared.names.EndpointName.{EndpointName}
use Rattle.bind_model.proofs.PendingLists.{more_is}
use Rattle.bind_model.specs.declared.commands.Command.{Command}
use Rattle.bind_model.specs.declared.commands.Reply.{Reply}
use Rattle.bind_model.specs.declared.responder.ResponderName.{ResponderName}

-- a command and a reply that move no responder and no pending
pub record IsQuiet (command : Command) (reply : Reply) : Type 0 where
  pub none : responders_in reply ≡ []
  pub handed : (wire : Wire) → responders_handed wire (told_of reply) (asked_of command) ≡ []
  pub after : (rs : List ResponderId) → responders_after (told_of reply) (asked_of command) rs ≡ rs
  pub gives : pendings_given (told_of reply) (asked_of command) ≡ []
  pub hands : pendings_handed (told_of reply) ≡ []
  pub halves : (wire : Wire) (past : List Event) → HandsPendings wire past command reply

-- the responders that are out stay
still_out : (wire : Wire) (event : Event) (past : List Event) → responders_handed wire event.told event.asked ≡ []
    → responders_after event.told event.asked (responders_out wire past) ≡ responders_out wire past
    → responders_out wire (event ∷ past) ≡ responders_out wire past
still_out wire event past h a = rw (h, a) (append-nil (responders_out wire past))

pub counts_still : (wire : Wire) (event : Event) (past : List Event) (counts : List (ResponderName × ℕ)) → responders_handed wire event.told event.asked ≡ []
    → responders_after event.told event.asked (responders_out wire past) ≡ responders_out wire past
    → CountsResponders wire past counts → CountsResponders wire (event ∷ past) counts
counts_still wire event past counts h a c r =
    c r ∙ sym (ap (λ (rs : List ResponderId). count_by (λ (q : ResponderId). same_responder q r) rs) (still_out wire event past h a))

-- the pendings that are out stay
pub pendings_still : (event : Event) (past : List Event) (names : List (EndpointName × Bool)) → pendings_given event.told event.asked ≡ []
    → pendings_handed event.told ≡ [] → KnowsPendings past names → KnowsPendings (event ∷ past) names
pendings_still event past names g h k p =
    k p
    ∙ sym (more_is (pendings_given event.told event.asked) (pendings_out past) (pendings_handed event.told) p
    ∙ rw (g, h) (plain (has_pending (pendings_out past) p)))
  where
    plain : (b : Bool) → ((b && true) || false) ≡ b
    plain true = refl
    plain false = refl

-- the pendings that go with what is sent are out no longer
pub pendings_spent : (event : Event) (past : List Event) (ps : List PendingId) (old new : List (EndpointName × Bool))
    → pendings_given event.told event.asked ≡ ps → pendings_handed event.told ≡ [] → SpendsAll ps old new → KnowsPendings past old
    → KnowsPendings (event ∷ past) new
pendings_spent event past ps old new g h less k p =
    less p
    ∙ (ap (λ (b : Bool). b && not (has_pending ps p)) (k p)
    ∙ sym (more_is (pendings_given event.told event.asked) (pendings_out past) (pendings_handed event.told) p
    ∙ rw (g, h) (plain (has_pending (pendings_out past) p && not (has_pending ps p)))))
  where
    plain : (b : Bool) → (b || false) ≡ b
    plain true = refl
    plain false = refl
