-- Events that change nothing but the history, and changes of the state that nobody sees.
use Rattle.std.proofs.Common.{◌≡◌, Bool, true, false, List, [], ◌∷◌, ◌++◌, length, refl, sym, ap, ◌∙◌}
use Rattle.std.specs.Prelude.{◌||◌, ◌&&◌, not, ◌==◌}
use Rattle.std.specs.List.{count_by}
use Rattle.std.proofs.lemmas.List.{append-nil}
use Rattle.mj_base.specs.declared.ids.EndId.{EndId}
use Rattle.mj_base.specs.declared.ids.SeqId.{SeqId}
use Rattle.handle_table.specs.Things.{has, is_end, seq_of}
use Rattle.handle_table.specs.declared.thing.Thing.{Thing}
use Rattle.handle_table.specs.declared.thing.Thing.TheVariants.{End}
use Rattle.message_pipe.specs.Contents.{Contents}
use Rattle.bind_model.specs.declared.asked.Asked.{Asked}
use Rattle.bind_model.specs.declared.told.Told.TheVariants.{No, Skipped}
use Rattle.bind_model.specs.declared.told.Why.{Why}
use Rattle.bind_model.specs.declared.event.Event.{Event}
use Rattle.bind_model.specs.declared.endpoint.PendingId.{PendingId}
use Rattle.bind_model.specs.declared.endpoint.ResponderId.{ResponderId}
use Rattle.bind_model.specs.Pendings.{is_out}
use Rattle.bind_model.specs.Responders.{count_of}
use Rattle.bind_model.specs.Wire.{Wire}
use Rattle.bind_model.specs.Machine.{made, made_by, peer, peer_by, gone, gone_by, out, given, handed, takes, written, puts, endpoint_at}
use Rattle.core_state.specs.Routers.{Routers, router_at}
use Rattle.endpoint_router.specs.Turns.{IsSame}
use Rattle.core_state.specs.declared.state.Rights.{Rights}
use Rattle.core_state.specs.declared.state.State.{State}
use Rattle.core_state.specs.Agreement.{Agrees, Holds, end_in, past_of, wire_in}
use Rattle.core_state.proofs.After.{out_after, gone_still, end_still}
use Rattle.core_state.proofs.Steady.{AllAgree, IsSteady, all_same, steady}

-- what an event is that makes, moves, reads and writes nothing
pub record IsStill (wire : Wire) (event : Event) (past : List Event) : Type 0 where
  pub made : made_by event.told ≡ []
  pub gone : gone_by event.told ≡ []
  pub given : given event.told event.asked ≡ []
  pub handed : handed event.told ≡ []
  pub takes : (x : EndId) → takes event.told event.asked x ≡ []
  pub puts : (x : EndId) → puts wire past (written wire past) (endpoint_at wire past) event.told event.asked x ≡ []
  pub peer : (x : EndId) → peer_by event.told x (peer past x) ≡ peer past x

and_nothing : (b : Bool) → ((b && true) || false) ≡ b
and_nothing true = refl
and_nothing false = refl

module _ (wire : Wire) (event : Event) (past : List Event) (s : IsStill wire event past) where
  same_made : made (event ∷ past) ≡ made past
  same_made = ap (λ xs. made past ++ xs) s.made ∙ append-nil (made past)

  same_gone : gone (event ∷ past) ≡ gone past
  same_gone = gone_still wire event past s.gone

  same_out : (z : Thing) → has (out (event ∷ past)) z ≡ has (out past) z
  same_out z = out_after wire event past z ∙ rw (s.given, s.handed) (and_nothing (has (out past) z))

  same_end_in : (x : EndId) → end_in wire (event ∷ past) x ≡ end_in wire past x
  same_end_in x = end_still wire event past x (ap (λ ms. has ms (End x)) same_made) s.gone (s.takes x) (s.puts x) (s.peer x)

  -- where the routers are as the event has them
  pub still_with : (pipes : Contents) (before now : Routers) → AllAgree wire (event ∷ past) now → Agrees wire past pipes before
      → Agrees wire (event ∷ past) pipes now
  still_with pipes before now r a = record {
    ends = λ x. a.ends x ∙ sym (same_end_in x);
    outs = λ z. a.outs z ∙ sym (same_out z);
    there = λ z. a.there z ∙ sym (ap (λ ms. has ms z) same_made);
    shuts = λ z. a.shuts z ∙ sym (ap (λ gs. has gs z) same_gone);
    made = a.made ∙ sym (ap length same_made);
    serials = λ n. a.serials n ∙ sym (ap (λ ms. count_by (λ x. is_end x && (seq_of x == n)) ms) same_made);
    tokens = λ n. a.tokens n ∙ sym (ap (λ ms. count_by (λ x. not (is_end x) && (seq_of x == n)) ms) same_made);
    routers = r;
  }

-- where they stay as they were
pub still : (wire : Wire) (event : Event) (past : List Event) → IsStill wire event past → IsSteady wire event past → (pipes : Contents) (endpoints : Routers)
    → Agrees wire past pipes endpoints → Agrees wire (event ∷ past) pipes endpoints
still wire event past s t pipes endpoints a =
    still_with wire event past s pipes endpoints endpoints (steady wire event past t endpoints a.routers) a

-- a refusal changes nothing
pub refused : (wire : Wire) (past : List Event) (seq : SeqId) (asked : Asked) (why : Why) (pipes : Contents) (endpoints : Routers)
    → Agrees wire past pipes endpoints → Agrees wire (record { seq = seq; asked = asked; told = No why } ∷ past) pipes endpoints
refused wire past seq asked why pipes endpoints a =
    still wire (record { seq = seq; asked = asked; told = No why }) past
    (record { made = refl; gone = refl; given = refl; handed = refl; takes = λ x. refl; puts = λ x. refl; peer = λ x. refl })
    (record { draws = λ x id. refl; answers = λ x id. refl; associates = λ x. refl; endpoints = λ x id. refl }) pipes endpoints a

pub skipped : (wire : Wire) (past : List Event) (seq : SeqId) (asked : Asked) (pipes : Contents) (endpoints : Routers)
    → Agrees wire past pipes endpoints → Agrees wire (record { seq = seq; asked = asked; told = Skipped } ∷ past) pipes endpoints
skipped wire past seq asked pipes endpoints a =
    still wire (record { seq = seq; asked = asked; told = Skipped }) past
    (record { made = refl; gone = refl; given = refl; handed = refl; takes = λ x. refl; puts = λ x. refl; peer = λ x. refl })
    (record { draws = λ x id. refl; answers = λ x id. refl; associates = λ x. refl; endpoints = λ x id. refl }) pipes endpoints a

-- routers that look the same agree too
pub unseen : (wire : Wire) (past : List Event) (pipes : Contents) (before after : Routers) → ((x : EndId) → IsSame (router_at before x) (router_at after x))
    → Agrees wire past pipes before → Agrees wire past pipes after
unseen wire past pipes before after s a = record {
  ends = a.ends;
  outs = a.outs;
  there = a.there;
  shuts = a.shuts;
  made = a.made;
  serials = a.serials;
  tokens = a.tokens;
  routers = all_same wire past before after s a.routers;
}

-- a state holds where its routers look the same, and the rights are out that were
pub unseen_holds : (s : State) (endpoints : Routers) (rights : Rights) → ((x : EndId) → IsSame (router_at s.endpoints x) (router_at endpoints x))
    → ((r : ResponderId) → count_of rights.responders r ≡ count_of s.rights.responders r)
    → ((p : PendingId) → is_out rights.pendings p ≡ is_out s.rights.pendings p) → Holds s → Holds (record s { endpoints = endpoints; rights = rights })
unseen_holds s endpoints rights same counts outs h = record {
  legal = h.legal;
  agrees = unseen (wire_in s) (past_of s) s.pipes s.endpoints endpoints same h.agrees;
  tables = h.tables;
  responders = λ r. counts r ∙ h.responders r;
  pendings = λ p. outs p ∙ h.pendings p;
  few = h.few;
}
