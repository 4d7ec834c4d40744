-- That an endpoint is made, or bound, by what its parts did.
use Rattle.std.proofs.Common.{◌≡◌, ◌<◌, ℕ, ◌+◌, Bool, true, false, List, [], ◌∷◌, ◌++◌, length, refl, sym, ap, ◌∙◌, subst, arith}
use Rattle.std.specs.Prelude.{if◌then◌else◌, ◌&&◌, ◌||◌, not, ◌==◌, nat_lt, Option, Some, None, is_some, IsSome, IsTrue}
use Rattle.std.specs.Option.{option_map}
use Rattle.std.proofs.lemmas.List.{append-nil, length-append, length-reverse}
use Rattle.mj_base.specs.declared.ids.EndId.{EndId}
use Rattle.mj_base.specs.declared.ids.SeqId.{SeqId}
use Rattle.mj_base.specs.declared.limits.TheConstants.{MAX_EVENTS}
use Rattle.handle_table.specs.Things.{same_end}
use Rattle.handle_table.proofs.ThingsLemmas.{same_end-true}
use Rattle.message_pipe.specs.Contents.{Contents}
use Rattle.message_pipe.specs.Ends.{end_of, is_closed}
use Rattle.wire_encoder.specs.declared.endpoint.EndpointSide.{EndpointSide}
use Rattle.bind_model.specs.Machine.{associated, bound_on, endpoint_at, is_gone, is_local, other_side}
use Rattle.bind_model.specs.Pendings.{Half, KnowsPendings, is_out}
use Rattle.bind_model.specs.Replies.{first_of, half_closed, has_pending, next_id, pendings_out, same_pending, unless}
use Rattle.bind_model.specs.Responders.{CountsResponders}
use Rattle.bind_model.specs.declared.responder.ResponderName.{ResponderName}
use Rattle.bind_model.specs.declared.asked.Asked.TheVariants as asks
use Rattle.bind_model.specs.declared.commands.Command.TheVariants as commands
use Rattle.bind_model.specs.declared.commands.Reply.TheVariants as replies
use Rattle.bind_model.specs.declared.endpoint.Endpoint.{Endpoint}
use Rattle.bind_model.specs.declared.endpoint.PendingId.{PendingId}
use Rattle.bind_model.specs.declared.endpoint.State.{State as EndpointState}
use Rattle.bind_model.specs.declared.endpoint.State.TheVariants as states
use Rattle.bind_model.specs.declared.event.Event.{Event}
use Rattle.bind_model.specs.declared.names.EndpointName.{EndpointName}
use Rattle.bind_model.specs.declared.told.Told.{Told}
use Rattle.bind_model.specs.declared.told.Told.TheVariants as tells
use Rattle.bind_model.specs.declared.told.Why.{Why}
use Rattle.bind_model.specs.declared.told.Why.TheVariants.{Disconnected, NoName, WrongPipe}
use Rattle.bind_model.proofs.Fresh.{kept}
use Rattle.bind_model.proofs.Outcomes.{Outcome, outcome, associates}
use Rattle.bind_model.proofs.PendingLists.{more_is}
use Rattle.bind_model.proofs.PendingFacts.{next_unused, pending_there}
use Rattle.bind_model.proofs.TurnOf.{associated_few}
use Rattle.bind_model.proofs.Entering.{is_pending_state}
use Rattle.endpoint_router.specs.Agreement.{row_told}
use Rattle.endpoint_router.specs.Changes.{IsPending, in_state}
use Rattle.endpoint_router.specs.Rows.{RowSeen, has_place, own_id, row_at, row_of}
use Rattle.endpoint_router.proofs.Agreeing.{own_id_told, row_there}
use Rattle.endpoint_router.proofs.Turning.{associated_row, attached_row}
use Rattle.endpoint_router.proofs.Undrawn.{undrawn}
use Rattle.core_state.specs.Agreement.{Agrees, past_of, schema_of, wire_in}
use Rattle.core_state.specs.Routers.{Routers, found_at, router_at}
use Rattle.core_ends.specs.steps.Associating.{why_not}
use Rattle.core_ends.specs.steps.Attaching as attaching
use Rattle.core_state.specs.Doing.{Done, HasRoom, told_to}
use Rattle.endpoint_router.specs.Turns.{CanAssociate, IsSame}
use Rattle.core_state.specs.Turns.{AssociatesAt, TurnsAt}
use Rattle.core_state.specs.declared.state.State.{State}
use Rattle.core_ends.proofs.Binding.{interfaces_of}
use Rattle.core_state.proofs.Facts.{closed_is}
use Rattle.core_state.proofs.Held.{event_of, finish_with, unstirred}
use Rattle.core_state.proofs.Quiet.{counts_still}
use Rattle.core_state.proofs.Steady.{AllAgree, found_is}
use Rattle.core_state.proofs.Still.{still_with}
use Rattle.core_state.proofs.Turned.{found_row, no_row, own_same}

-- what is told, by why it isn't done
abbrev pub told_of_why : Told → Option Why → Told
told_of_why done None = done
told_of_why done (Some why) = tells.No why

-- ## An endpoint that is made

module _ (s : State) (seq : SeqId) (able : HasRoom s seq) (y : EndId) (side : EndpointSide) (interface : ℕ) where
  -- the name of the next one
  abbrev pub next : PendingId
  next = record { end = y; id = next_id (wire_in s) (past_of s) y }

  by_tests : (a g : Bool) (done : Told) → told_of_why done (if not a then Some NoName else (if g then Some Disconnected else None))
      ≡ first_of (unless a NoName ∷ unless (not g) Disconnected ∷ []) done
  by_tests true true done = refl
  by_tests true false done = refl
  by_tests false g done = refl

  pub made_told : told_of_why (tells.Associated next) (why_not (length (schema_of s).interfaces) s.pipes s.endpoints y interface)
      ≡ told_to s seq (asks.Associate y side interface)
  made_told =
      ap (λ (n : ℕ). told_of_why (tells.Associated next) (why_not n s.pipes s.endpoints y interface)) (sym (interfaces_of (schema_of s)))
      ∙ rw (
        closed_is (wire_in s) (past_of s) (kept (wire_in s) s.seqs (past_of s) able.holds.legal) s.pipes s.endpoints able.holds.agrees y,
        found_is able.holds.agrees y 0,
      )
      (by_tests (is_some (endpoint_at (wire_in s) (past_of s) y 0) && nat_lt interface (wire_in s).interfaces) (is_gone (past_of s) y)
      (tells.Associated next))

  -- there are fewer ids than events
  pub few_drawn : (router_at s.endpoints y).drawn < MAX_EVENTS
  few_drawn =
      let drawn = (able.holds.agrees.routers y).drawn in
      let least = able.few in
      omega (arith, drawn, least, associated_few (past_of s) y, length-reverse s.log.events)

  pub id_is : own_id (router_at s.endpoints y) ≡ next_id (wire_in s) (past_of s) y
  id_is = own_id_told (wire_in s) (past_of s) y (router_at s.endpoints y) (able.holds.agrees.routers y)

  unused : endpoint_at (wire_in s) (past_of s) y (next_id (wire_in s) (past_of s) y) ≡ None
  unused =
      let few = able.holds.few in
      next_unused (wire_in s) s.seqs (past_of s) able.holds.legal (omega (arith, few, length-reverse s.log.events)) y

  -- it may enter where there is a place for it
  pub may_enter : (mid : Routers) → ((x : EndId) → IsSame (router_at s.endpoints x) (router_at mid x)) → (id : ℕ) → id ≡ own_id (router_at s.endpoints y)
      → IsTrue (has_place (router_at mid y) id) → CanAssociate (router_at mid y)
  may_enter mid same id e place =
      let own : own_id (router_at mid y) ≡ own_id (router_at s.endpoints y) = own_same (router_at s.endpoints y) (router_at mid y) (same y) in
      record {
        few = subst (λ (n : ℕ). n < MAX_EVENTS) (sym (same y).drawn) few_drawn;
        absent =
            (same y).rows (own_id (router_at mid y))
            ∙ (ap (row_at (router_at s.endpoints y)) (own ∙ id_is)
            ∙ no_row (router_at s.endpoints y) (next_id (wire_in s) (past_of s) y)
            (found_is able.holds.agrees y (next_id (wire_in s) (past_of s) y) ∙ unused));
        place = subst (λ (n : ℕ). IsTrue (has_place (router_at mid y) n)) (e ∙ sym own) place;
      }

  -- ## What is told

  module _ (told : told_to s seq (asks.Associate y side interface) ≡ tells.Associated next) where
    -- the end has an endpoint 0
    pub main_here : IsSome (row_at (router_at s.endpoints y) 0)
    main_here =
        main_of (outcome (wire_in s) s.seqs (past_of s) seq (asks.Associate y side interface) (tells.Associated next) (sym told))
      where
        main_of : Outcome (wire_in s) s.seqs (past_of s) seq (asks.Associate y side interface) (tells.Associated next)
            → IsSome (row_at (router_at s.endpoints y) 0)
        main_of (associates main e g q) = found_row (router_at s.endpoints y) 0 main (found_is able.holds.agrees y 0 ∙ e)

    abbrev event : Event
    event = record { seq = seq; asked = asks.Associate y side interface; told = tells.Associated next }

    abbrev half : Half
    half = record { name = next; side = other_side side; interface = interface }

    module _ (mid new : Routers) (same : (x : EndId) → IsSame (router_at s.endpoints x) (router_at mid x))
        (t : AssociatesAt (bound_on seq side interface) y mid new) where
      row_now : (x : EndId) (n : ℕ) → row_at (router_at mid x) n ≡ row_told (wire_in s) (past_of s) x n
      row_now x n = (same x).rows n ∙ (able.holds.agrees.routers x).rows n

      rows_now : (x : EndId) (n : ℕ) (b : Bool) → same_end y x ≡ b
          → (if b && (own_id (router_at mid x) == n) then Some (row_of (bound_on seq side interface)) else row_at (router_at mid x) n)
          ≡ (if b && (next.id == n) then Some (row_of (bound_on seq side interface)) else row_told (wire_in s) (past_of s) x n)
      rows_now x n false h = row_now x n
      rows_now x n true h =
          let own : own_id (router_at mid y) ≡ next.id = own_same (router_at s.endpoints y) (router_at mid y) (same y) ∙ id_is in
          let here : own_id (router_at mid x) ≡ next.id = subst (λ (z : EndId). own_id (router_at mid z) ≡ next.id) (same_end-true y x h) own in
          ap (λ (k : ℕ). if k == n then Some (row_of (bound_on seq side interface)) else row_at (router_at mid x) n) here
          ∙ ap (λ (o : Option RowSeen). if next.id == n then Some (row_of (bound_on seq side interface)) else o) (row_now x n)

      drawn_now : (x : EndId) → (router_at mid x).drawn + (if same_end y x then 1 else 0) ≡ length (associated (event ∷ past_of s) x)
      drawn_now x =
          ap (λ (n : ℕ). n + (if same_end y x then 1 else 0)) ((same x).drawn ∙ (able.holds.agrees.routers x).drawn)
          ∙ (ap (λ (n : ℕ). length (associated (past_of s) x) + n) (one (same_end y x))
          ∙ sym (length-append (associated (past_of s) x) (if same_end y x then next.id ∷ [] else [])))
        where
          one : (b : Bool) → (if b then 1 else 0) ≡ length {A = ℕ} (if b then next.id ∷ [] else [])
          one true = refl
          one false = refl

      all_now : AllAgree (wire_in s) (event ∷ past_of s) new
      all_now = λ x.
          record {
            rows = λ n.
                (t x).rows n
                ∙ (rows_now x n (same_end y x) refl
                ∙ sym (associated_row (wire_in s) (past_of s) seq next y side interface
                (undrawn (wire_in s) s.seqs (past_of s) able.holds.legal y next.id unused) x n));
            drawn = (t x).drawn ∙ drawn_now x;
          }

      pub made_agrees : Agrees (wire_in s) (event ∷ past_of s) s.pipes new
      made_agrees =
          still_with (wire_in s) event (past_of s)
          (record { made = refl; gone = refl; given = refl; handed = refl; takes = λ x. refl; puts = λ x. refl; peer = λ x. refl })
          s.pipes s.endpoints new all_now able.holds.agrees

    -- the pendings that are out
    outs_now : (names after : List (EndpointName × Bool)) → ((p : PendingId) → is_out names p ≡ is_out s.rights.pendings p)
        → ((p : PendingId) → is_out after p ≡ (same_pending next p || is_out names p)) → KnowsPendings (event ∷ past_of s) after
    outs_now names after same more p =
        more p
        ∙ (ap (λ (b : Bool). same_pending next p || b) (same p ∙ able.holds.pendings p)
        ∙ (swap (same_pending next p) (has_pending (pendings_out (past_of s)) p)
        ∙ sym (more_is [] (pendings_out (past_of s)) (next ∷ []) p)))
      where
        swap : (a b : Bool) → (a || b) ≡ ((b && true) || (a || false))
        swap true true = refl
        swap true false = refl
        swap false true = refl
        swap false false = refl

    abbrev half_of : ℕ → Half
    half_of n = record { name = record { end = y; id = n }; side = other_side side; interface = interface }

    abbrev noted : ℕ → List Event
    noted n = s.log.events ++ record { seq = seq; asked = asks.Associate y side interface; told = tells.Associated (record { end = y; id = n }) } ∷ []

    pub associate_done : (new : State) (id : ℕ) (pending : Half) (mid : Routers) (names : List (EndpointName × Bool))
        → schema_of new ≡ schema_of s → new.seqs ≡ s.seqs → new.pipes ≡ s.pipes → new.rights.responders ≡ s.rights.responders
        → new.tables ≡ s.tables → id ≡ own_id (router_at s.endpoints y)
        → ((x : EndId) → IsSame (router_at s.endpoints x) (router_at mid x))
        → AssociatesAt (bound_on seq side interface) y mid new.endpoints
        → pending ≡ record { name = record { end = y; id = id }; side = other_side side; interface = interface }
        → ((p : PendingId) → is_out names p ≡ is_out s.rights.pendings p)
        → ((p : PendingId) → is_out new.rights.pendings p ≡ (same_pending (record { end = y; id = id }) p || is_out names p))
        → new.log.events ≡ s.log.events
        ++ record { seq = seq; asked = asks.Associate y side interface; told = tells.Associated (record { end = y; id = id }) } ∷ []
        → Done s new seq (commands.Associate y side interface) (replies.Associated pending)
    associate_done new id pending mid names schema seqs pipes kept unnoticed own same t given before more events =
        let e : id ≡ next.id = own ∙ id_is in
        let is : pending ≡ half =
        given ∙ ap (λ (n : ℕ). half_of n) e in
        subst (λ (h : Half). Done s new seq (commands.Associate y side interface) (replies.Associated h)) (sym is)
        (finish_with s new seq (commands.Associate y side interface) (replies.Associated half) able schema seqs
        (events ∙ ap (λ (n : ℕ). noted n) e)
        (sym told)
        (subst (λ (c : Contents). Agrees (wire_in s) (event ∷ past_of s) c new.endpoints) (sym pipes) (made_agrees mid new.endpoints same t))
        (subst (λ (counts : List (ResponderName × ℕ)). CountsResponders (wire_in s) (event ∷ past_of s) counts) (sym kept)
        (counts_still (wire_in s) event (past_of s) s.rights.responders refl refl able.holds.responders))
        tt
        refl
        (outs_now names new.rights.pendings before
        (subst (λ (n : ℕ). (p : PendingId) → is_out new.rights.pendings p ≡ (same_pending (record { end = y; id = n }) p || is_out names p)) e more))
        refl
        (unstirred s new seq (commands.Associate y side interface) (replies.Associated half) able unnoticed refl))

-- ## An endpoint that was received is bound

module _ (s : State) (seq : SeqId) (able : HasRoom s seq) (p : PendingId) (t : SeqId) where
  -- why it isn't, as the code finds it
  abbrev pub why_here : Option Why
  why_here =
      attaching.why_not (is_out s.rights.pendings p && nat_lt t.0 s.seqs) (is_closed (end_of s.pipes.ends p.end)) p.id (found_at s.endpoints p.end p.id)

  in_state_told : (r : Endpoint) (state : EndpointState) → r.state ≡ state → is_pending_state state ≡ not (is_local (past_of s) p)
      → told_of_why (tells.Attached p.id) (attaching.why_in p.id state)
      ≡ first_of (unless (not (false || (elim state [ states.Closed ↦ true | states.Pending ↦ false | states.Bound u ↦ false ]))) Disconnected
      ∷ unless (not (is_local (past_of s) p)) (WrongPipe p.id) ∷ []) (tells.Attached p.id)
  in_state_told r states.Closed e l = refl
  in_state_told r states.Pending e l = rw (← l) refl
  in_state_told r (states.Bound u) e l = rw (← l) refl

  found_told : (g : Bool) → has_pending (pendings_out (past_of s)) p ≡ true
      → told_of_why (tells.Attached p.id)
      (if g then Some Disconnected else attaching.why_found p.id (endpoint_at (wire_in s) (past_of s) p.end p.id))
      ≡ first_of (unless (not (g || half_closed (endpoint_at (wire_in s) (past_of s) p.end p.id))) Disconnected
      ∷ unless (not (is_local (past_of s) p)) (WrongPipe p.id) ∷ []) (tells.Attached p.id)
  found_told true o = refl
  found_told false o =
      let few = able.holds.few in
      let there = pending_there (wire_in s) s.seqs (past_of s) able.holds.legal (omega (arith, few, length-reverse s.log.events)) p o in
      rw (there.1) (in_state_told there.0 there.0.state refl there.2)

  each_told : (b w g : Bool) → has_pending (pendings_out (past_of s)) p ≡ b
      → told_of_why (tells.Attached p.id) (attaching.why_not (b && w) g p.id (endpoint_at (wire_in s) (past_of s) p.end p.id))
      ≡ first_of (unless (b && w) NoName ∷ unless (not (g || half_closed (endpoint_at (wire_in s) (past_of s) p.end p.id))) Disconnected
      ∷ unless (not (is_local (past_of s) p)) (WrongPipe p.id) ∷ []) (tells.Attached p.id)
  each_told true true g o = found_told g o
  each_told true false g o = refl
  each_told false w g o = refl

  pub attach_told : told_of_why (tells.Attached p.id) why_here ≡ told_to s seq (asks.Attach p t)
  attach_told =
      rw (
        closed_is (wire_in s) (past_of s) (kept (wire_in s) s.seqs (past_of s) able.holds.legal) s.pipes s.endpoints able.holds.agrees p.end,
        found_is able.holds.agrees p.end p.id,
        able.holds.pendings p,
      )
      (each_told (has_pending (pendings_out (past_of s)) p) (nat_lt t.0 s.seqs) (is_gone (past_of s) p.end) refl)

  module _ (free : why_here ≡ None) where
    -- the endpoint is there, and pending
    is_free : (there closed : Bool) (o : Option Endpoint) → attaching.why_not there closed p.id o ≡ None
        → (e : Endpoint) × (o ≡ Some e) × (e.state ≡ states.Pending)
    is_free true false (Some e) h = (e, refl, at e.state h)
      where
        at : (state : EndpointState) → attaching.why_in p.id state ≡ None → state ≡ states.Pending
        at states.Pending f = refl
        at states.Closed f = absurd cc
        at (states.Bound u) f = absurd cc
    is_free true false None h = absurd cc
    is_free true true o h = absurd cc
    is_free false closed o h = absurd cc

    here : (e : Endpoint) × (found_at s.endpoints p.end p.id ≡ Some e) × (e.state ≡ states.Pending)
    here = is_free (is_out s.rights.pendings p && nat_lt t.0 s.seqs) (is_closed (end_of s.pipes.ends p.end)) (found_at s.endpoints p.end p.id) free

    pub may_attach : IsPending (row_at (router_at s.endpoints p.end) p.id)
    may_attach =
        let row = row_there (wire_in s) (past_of s) p.end (router_at s.endpoints p.end) (able.holds.agrees.routers p.end) p.id here.0
        (sym (found_is able.holds.agrees p.end p.id) ∙ here.1) in
        subst (λ (o : Option RowSeen). IsPending o) (sym row) here.2

    told : told_to s seq (asks.Attach p t) ≡ tells.Attached p.id
    told = sym attach_told ∙ ap (told_of_why (tells.Attached p.id)) free

    abbrev attach_event : Event
    attach_event = record { seq = seq; asked = asks.Attach p t; told = tells.Attached p.id }

    turned_now : (new : Routers) → TurnsAt (in_state (states.Bound t)) p.end p.id s.endpoints new → AllAgree (wire_in s) (attach_event ∷ past_of s) new
    turned_now new u = λ x.
        record {
          rows = λ n.
              (u x).rows n
              ∙ (ap (λ (o : Option RowSeen). if same_end p.end x && (p.id == n) then option_map (in_state (states.Bound t)) o else o)
              ((able.holds.agrees.routers x).rows n)
              ∙ sym (attached_row (wire_in s) (past_of s) seq p t p.id x n));
          drawn = (u x).drawn ∙ ((able.holds.agrees.routers x).drawn ∙ sym (ap (λ (ids : List ℕ). length ids) (append-nil (associated (past_of s) x))));
        }

    spent_now : (after : List (EndpointName × Bool)) → ((q : PendingId) → is_out after q ≡ (is_out s.rights.pendings q && not (same_pending p q)))
        → KnowsPendings (attach_event ∷ past_of s) after
    spent_now after less q =
        less q
        ∙ (ap (λ (b : Bool). b && not (same_pending p q)) (able.holds.pendings q)
        ∙ (plain (has_pending (pendings_out (past_of s)) q) (same_pending p q)
        ∙ sym (more_is (p ∷ []) (pendings_out (past_of s)) [] q)))
      where
        plain : (a b : Bool) → (a && not b) ≡ ((a && not (b || false)) || false)
        plain true true = refl
        plain true false = refl
        plain false b = refl

    pub attach_done : (new : State) (pending : Half) → pending.name ≡ p
        → schema_of new ≡ schema_of s → new.seqs ≡ s.seqs → new.pipes ≡ s.pipes → new.rights.responders ≡ s.rights.responders
        → new.tables ≡ s.tables → TurnsAt (in_state (states.Bound t)) p.end p.id s.endpoints new.endpoints
        → ((q : PendingId) → is_out new.rights.pendings q ≡ (is_out s.rights.pendings q && not (same_pending p q)))
        → new.log.events ≡ s.log.events ++ record { seq = seq; asked = asks.Attach p t; told = tells.Attached p.id } ∷ []
        → Done s new seq (commands.Attach pending t) (replies.Attached p.id)
    attach_done new pending name schema seqs pipes kept unnoticed u less events =
        finish_with s new seq (commands.Attach pending t) (replies.Attached p.id) able schema seqs
        (events ∙ ap (λ (q : PendingId). s.log.events ++ record { seq = seq; asked = asks.Attach q t; told = tells.Attached p.id } ∷ []) (sym name))
        (sym told ∙ ap (λ (q : PendingId). told_to s seq (asks.Attach q t)) (sym name))
        (subst (λ (q : PendingId).
        Agrees (wire_in s) (record { seq = seq; asked = asks.Attach q t; told = tells.Attached p.id } ∷ past_of s) new.pipes new.endpoints) (sym name)
        (subst (λ (c : Contents). Agrees (wire_in s) (attach_event ∷ past_of s) c new.endpoints) (sym pipes)
        (still_with (wire_in s) attach_event (past_of s)
        (record { made = refl; gone = refl; given = refl; handed = refl; takes = λ x. refl; puts = λ x. refl; peer = λ x. refl })
        s.pipes s.endpoints new.endpoints (turned_now new.endpoints u) able.holds.agrees)))
        (subst (λ (counts : List (ResponderName × ℕ)).
        CountsResponders (wire_in s) (event_of seq (commands.Attach pending t) (replies.Attached p.id) ∷ past_of s) counts) (sym kept)
        (counts_still (wire_in s) (event_of seq (commands.Attach pending t) (replies.Attached p.id)) (past_of s) s.rights.responders refl refl
        able.holds.responders))
        tt
        refl
        (subst (λ (q : PendingId).
        KnowsPendings (record { seq = seq; asked = asks.Attach q t; told = tells.Attached p.id } ∷ past_of s) new.rights.pendings) (sym name)
        (spent_now new.rights.pendings less))
        refl
        (unstirred s new seq (commands.Attach pending t) (replies.Attached p.id) able unnoticed refl)
