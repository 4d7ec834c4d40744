-- The right to answer that comes with a reply.
use Rattle.std.proofs.Common.{◌≡◌, ◌++◌, List, [], ◌∷◌, refl, sym, ap, ◌∙◌}
use Rattle.std.specs.Prelude.{Option, Some, None, true}
use Rattle.std.proofs.lemmas.List.{same_from_push}
use Rattle.bind_model.specs.Plain.{responders_in}
use Rattle.bind_model.specs.declared.commands.Received.{Received}
use Rattle.bind_model.specs.declared.commands.Reply.{Reply}
use Rattle.bind_model.specs.declared.commands.Reply.TheVariants.{Got}
use Rattle.bind_model.specs.declared.endpoint.ResponderId.{ResponderId}
use Rattle.script_names.specs.Settling.{EndsWith, LeavesLast}
use Rattle.script_names.specs.declared.rooms.Rooms.{Rooms}
use Rattle.load_run.specs.steps.Doing.{IsLast, handed}

-- one that a take got is the take's
of_got : (g : Received) (r : ResponderId) → r ∷ [] ≡ responders_in (Got g) → g.responder ≡ Some r
of_got g r e = by g.responder refl
  where
    by : (o : Option ResponderId) → g.responder ≡ o → g.responder ≡ Some r
    by (Some q) f =
        let both : ◌≡◌ {A = List ResponderId} (r ∷ []) (q ∷ []) = rw f at e in
        let same : q ≡ r = cc in
        f ∙ ap (λ (x : ResponderId). Some x) same
    by None f =
        let none : ◌≡◌ {A = List ResponderId} (r ∷ []) [] = rw f at e in
        absurd cc

-- once the reply is settled it is the last that is held
pub last_of : (reply : Reply) (found : Option ResponderId) (rooms : Rooms) → handed found ≡ responders_in reply → LeavesLast true reply rooms
    → IsLast rooms found
last_of reply None rooms e last = tt
last_of (Got g) (Some r) rooms e last = last r (of_got g r e)
last_of reply (Some r) rooms e last =
    let none : ◌≡◌ {A = List ResponderId} (r ∷ []) [] = e in
    absurd cc

-- the one that is taken from the end is the last one
pub taken_last : (held left : List ResponderId) (one r : ResponderId) → held ≡ left ++ one ∷ [] → EndsWith r held → one ≡ r
taken_last held left one r taken ends = (same_from_push left ends.0 one r (sym taken ∙ ends.1)).1
