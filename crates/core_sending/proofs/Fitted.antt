-- What calls, answers and raw bytes share: the tests of what goes with a message, and of the pipe.
use Rattle.bind_model.specs.Replies.{busy, all_suit, cannot_write, distinct_pendings, first_of, has_pending, ids_of, legal, pendings_out, same_side}
use Rattle.bind_model.specs.Replies.{tokens_right, unless, wrong_tokens}
use Rattle.std.proofs.Common.{◌≡◌, ◌≤◌, ◌<◌, ℕ, Bool, true, false, List, [], ◌∷◌, length, refl, sym, ap, ◌∙◌, subst, arith}
use Rattle.std.specs.Prelude.{if◌then◌else◌, ◌||◌, ◌&&◌, not, ◌==◌, nat_le, Option, Some, None, Result, Ok, Err}
use Rattle.std.specs.List.{list_all}
use Rattle.std.proofs.lemmas.Bool.{leb-false}
use Rattle.mj_base.specs.declared.limits.TheConstants.{MAX_EVENTS, MAX_UNREAD_MESSAGES}
use Rattle.mj_base.specs.declared.ids.EndId.{EndId}
use Rattle.mj_schema.specs.declared.schema.Schema.{Schema}
use Rattle.handle_table.specs.Places.{place_of}
use Rattle.handle_table.specs.Things.{has, is_distinct, same_end}
use Rattle.handle_table.specs.declared.thing.Thing.{Thing}
use Rattle.handle_table.specs.declared.thing.Thing.TheVariants.{End}
use Rattle.handle_table.proofs.ThingsLemmas.{and_left, and_right}
use Rattle.message_pipe.specs.Contents.{Contents}
use Rattle.message_pipe.specs.Ends.{end_of, is_closed, peer_of, unread_at}
use Rattle.message_pipe.specs.Mail.{weighs}
use Rattle.wire_encoder.specs.Prepared.{IsPrepared}
use Rattle.wire_encoder.specs.declared.endpoint.EndpointSide.{EndpointSide}
use Rattle.wire_encoder.specs.declared.endpoint.WantedEndpoint.{WantedEndpoint}
use Rattle.wire_encoder.specs.declared.prepared.Prepared.{Prepared}
use Rattle.wire_model.specs.Message.{AreIds}
use Rattle.wire_model.specs.Trees.{view}
use Rattle.bind_model.specs.declared.endpoint.Endpoint.{Endpoint}
use Rattle.bind_model.specs.declared.endpoint.PendingId.{PendingId}
use Rattle.bind_model.specs.declared.endpoint.State.{State as EndpointState}
use Rattle.bind_model.specs.declared.endpoint.State.TheVariants as states
use Rattle.bind_model.specs.declared.event.Event.{Event}
use Rattle.bind_model.specs.declared.names.EndpointName.{EndpointName}
use Rattle.bind_model.specs.declared.told.Told.{Told}
use Rattle.bind_model.specs.declared.told.Told.TheVariants.{No}
use Rattle.bind_model.specs.declared.told.Why.{Why}
use Rattle.bind_model.specs.declared.told.Why.TheVariants.{Disconnected, SelfSend, Full, WrongPipe, WrongTokens}
use Rattle.bind_model.specs.Machine.{endpoint_at, is_gone, is_local, made, other_side, out, peer, unread}
use Rattle.bind_model.specs.Pendings.{KnowsPendings, is_out as is_pending_out}
use Rattle.bind_model.specs.Replies as machine
use Rattle.bind_model.specs.Wire.{Wire}
use Rattle.bind_model.specs.WireOf.{wire_of, handles_met, endpoints_met}
use Rattle.bind_model.proofs.Entering.{is_pending_state}
use Rattle.bind_model.proofs.Kept.{Kept}
use Rattle.bind_model.proofs.PendingFacts.{next_below, own_below, own_first, pending_there}
use Rattle.core_state.specs.Agreement.{Agrees, is_out}
use Rattle.core_state.specs.Routers.{Routers, found_at}
use Rattle.core_sending.specs.Calls.{outgoing_named}
use Rattle.core_sending.specs.Carrying.{all_fit, all_own, all_pending, fits, is_made_at, side_of, wrong_pipe}
use Rattle.core_sending.specs.Fitting.{suits, way_with}
use Rattle.core_state.specs.Unsent.{is_received}
use Rattle.core_state.specs.Placing.{all_out}
use Rattle.core_sending.specs.Ways.{busy_in, way_at, way_to, way_unless}
use Rattle.core_sending.specs.declared.carried.CarriedNames.{CarriedNames}
use Rattle.core_state.proofs.Facts.{closed_is, peer_is, unread_is}
use Rattle.core_state.proofs.Steady.{found_is}
use Rattle.data_pipe.specs.Table.{Lines}

-- ## Tests, as the code has them and as the machine does

abbrev pub told_of_way : Told → Result EndId Why → Told
told_of_way done (Ok x) = done
told_of_way done (Err why) = No why

pub test_if : (b : Bool) (why : Why) (rest : Result EndId Why) (tests : List (Option Why)) (done : Told) → told_of_way done rest ≡ first_of tests done
    → told_of_way done (if b then Err why else rest) ≡ first_of (unless (not b) why ∷ tests) done
test_if true why rest tests done h = refl
test_if false why rest tests done h = h

pub test_not : (b : Bool) (why : Why) (rest : Result EndId Why) (tests : List (Option Why)) (done : Told) → told_of_way done rest ≡ first_of tests done
    → told_of_way done (if not b then Err why else rest) ≡ first_of (unless b why ∷ tests) done
test_not true why rest tests done h = h
test_not false why rest tests done h = refl

-- where what follows needs the test
pub test_own : (b : Bool) (why : Why) (rest : Result EndId Why) (tests : List (Option Why)) (done : Told)
    → (b ≡ true → told_of_way done rest ≡ first_of tests done)
    → told_of_way done (if not b then Err why else rest) ≡ first_of (unless b why ∷ tests) done
test_own true why rest tests done h = h refl
test_own false why rest tests done h = refl

test_unless : (o : Option Why) (rest : Result EndId Why) (tests : List (Option Why)) (done : Told) → told_of_way done rest ≡ first_of tests done
    → told_of_way done (way_unless o rest) ≡ first_of (o ∷ tests) done
test_unless None rest tests done h = h
test_unless (Some why) rest tests done h = refl

-- a test that was passed
pub passed : (b : Bool) (why : Why) (rest : Result EndId Why) (x : EndId) → (if b then Err why else rest) ≡ Ok x → (b ≡ false) × (rest ≡ Ok x)
passed true why rest x h = absurd cc
passed false why rest x h = (refl, h)

passed_unless : (o : Option Why) (rest : Result EndId Why) (x : EndId) → way_unless o rest ≡ Ok x → (o ≡ None) × (rest ≡ Ok x)
passed_unless None rest x h = (refl, h)
passed_unless (Some why) rest x h = absurd cc

pub held_not : (b : Bool) → not b ≡ false → b ≡ true
held_not true h = refl
held_not false h = cc

all_same : {A : Type 0} (p q : A → Bool) → ((z : A) → p z ≡ q z) → (xs : List A) → list_all p xs ≡ list_all q xs
all_same p q e [] = refl
all_same p q e (x ∷ xs) = rw (e x, all_same p q e xs) refl

-- ## A schema's wire

handles_of_wire : (schema : Schema) (prepared : Prepared) → IsPrepared schema prepared
    → (wire_of schema).handles prepared.target (view prepared.value) ≡ prepared.handles
unfolding wire_of
handles_of_wire schema prepared p = ap handles_met p.passes

wants_of_wire : (schema : Schema) (prepared : Prepared) → IsPrepared schema prepared
    → (wire_of schema).wants prepared.target (view prepared.value) ≡ prepared.endpoints.items
unfolding wire_of
wants_of_wire schema prepared p = ap endpoints_met p.passes

-- ## Pendings

module _ (wire : Wire) (seqs : ℕ) (past : List Event) (h : legal wire seqs past) (few : length past ≤ MAX_EVENTS) where
  received_at : (state : EndpointState)
      → (elim state [ states.Pending ↦ true | states.Bound t ↦ false | states.Closed ↦ false ]) ≡ is_pending_state state
  received_at states.Pending = refl
  received_at (states.Bound t) = refl
  received_at states.Closed = refl

  -- one that is out was received unless it was made here
  received_is : (p : PendingId) → has_pending (pendings_out past) p ≡ true → is_received (endpoint_at wire past p.end p.id) ≡ not (is_local past p)
  received_is p o =
      let t = pending_there wire seqs past h few p o in
      ap is_received t.1 ∙ (received_at t.0.state ∙ t.2)

  received_as : (p : PendingId) (r : Endpoint) → has_pending (pendings_out past) p ≡ true → endpoint_at wire past p.end p.id ≡ Some r
      → is_received (Some r) ≡ not (is_local past p)
  received_as p r o e = ap is_received (sym e) ∙ received_is p o

  side_is : (p : PendingId) (r : Endpoint) → is_received (Some r) ≡ not (is_local past p) → side_of r ≡ machine.pending_side past p r.side
  side_is p r e = ap (λ (b : Bool). if b then r.side else other_side r.side) e ∙ go (is_local past p)
    where
      go : (b : Bool) → (if◌then◌else◌ {A = EndpointSide} (not b) r.side (other_side r.side)) ≡ (if b then other_side r.side else r.side)
      go true = refl
      go false = refl

  fits_is : (p : PendingId) (w : WantedEndpoint) → has_pending (pendings_out past) p ≡ true
      → fits (endpoint_at wire past p.end p.id) w ≡ machine.suits wire past p w
  fits_is p w o = at (endpoint_at wire past p.end p.id) refl
    where
      at : (e : Option Endpoint) → endpoint_at wire past p.end p.id ≡ e → fits e w
          ≡ (elim e [ None ↦ false | Some r ↦ same_side (machine.pending_side past p r.side) w.side && (r.interface == w.interface) ])
      at None e = refl
      at (Some r) e = ap (λ (s : EndpointSide). same_side s w.side && (r.interface == w.interface)) (side_is p r (received_as p r o e))

  module _ (endpoints : Routers) (found : (x : EndId) (id : ℕ) → found_at endpoints x id ≡ endpoint_at wire past x id) where
    -- as many as are wanted, and each as its place wants it
    fit_is : (ps : List PendingId) (wants : List WantedEndpoint) → list_all (λ p. has_pending (pendings_out past) p) ps ≡ true
        → all_fit endpoints ps wants ≡ all_suit wire past ps wants
    fit_is [] [] o = refl
    fit_is [] (w ∷ wants) o = refl
    fit_is (p ∷ ps) [] o = refl
    fit_is (p ∷ ps) (w ∷ wants) o =
        let here : has_pending (pendings_out past) p ≡ true =
        and_left (has_pending (pendings_out past) p) (list_all (λ q. has_pending (pendings_out past) q) ps) o in
        let rest : all_fit endpoints ps wants ≡ all_suit wire past ps wants =
        fit_is ps wants (and_right (has_pending (pendings_out past) p) (list_all (λ q. has_pending (pendings_out past) q) ps) o) in
        ap (λ (e : Option Endpoint). fits e w && all_fit endpoints ps wants) (found p.end p.id)
        ∙ (ap (λ (b : Bool). b && all_fit endpoints ps wants) (fits_is p w here)
        ∙ ap (λ (b : Bool). machine.suits wire past p w && b) rest)

    made_is : (y : EndId) (p : PendingId) → has_pending (pendings_out past) p ≡ true → is_made_at endpoints y p ≡ (same_end p.end y && is_local past p)
    made_is y p o =
        ap (λ (e : Option Endpoint). same_end p.end y && not (is_received e)) (found p.end p.id)
        ∙ (ap (λ (b : Bool). same_end p.end y && not b) (received_is p o) ∙ ap (λ (b : Bool). same_end p.end y && b) (twice (is_local past p)))
      where
        twice : (b : Bool) → not (not b) ≡ b
        twice true = refl
        twice false = refl

    pipe_is : (y : EndId) (ps : List PendingId) → list_all (λ p. has_pending (pendings_out past) p) ps ≡ true
        → wrong_pipe endpoints y ps ≡ machine.wrong_pipe past y ps
    pipe_is y [] o = refl
    pipe_is y (p ∷ ps) o =
        let here : has_pending (pendings_out past) p ≡ true =
        and_left (has_pending (pendings_out past) p) (list_all (λ q. has_pending (pendings_out past) q) ps) o in
        let rest : wrong_pipe endpoints y ps ≡ machine.wrong_pipe past y ps =
        pipe_is y ps (and_right (has_pending (pendings_out past) p) (list_all (λ q. has_pending (pendings_out past) q) ps) o) in
        ap (λ (b : Bool). if b then wrong_pipe endpoints y ps else Some (WrongPipe p.id)) (made_is y p here)
        ∙ ap (λ (w : Option Why). if same_end p.end y && is_local past p then w else Some (WrongPipe p.id)) rest

  -- ids of pendings that were made here are ids
  ids_are : (y : EndId) (ps : List PendingId) → machine.wrong_pipe past y ps ≡ None → AreIds (ids_of ps)
  ids_are y [] e = tt
  ids_are y (p ∷ ps) e = go (same_end p.end y && is_local past p) refl e (ids_are y ps)
    where
      go : (b : Bool) → (same_end p.end y && is_local past p) ≡ b → (if b then machine.wrong_pipe past y ps else Some (WrongPipe p.id)) ≡ None
          → (machine.wrong_pipe past y ps ≡ None → AreIds (ids_of ps)) → (0 < p.id) × ((p.id < 4294967295) × AreIds (ids_of ps))
      go false f g rest = absurd cc
      go true f g rest =
          let local : is_local past p ≡ true = and_right (same_end p.end y) (is_local past p) f in (
            omega (arith, own_first wire seqs past h few p.end p.id local),
            (omega (arith, own_below wire seqs past h few p.end p.id local, next_below wire past few p.end), rest g),
          )

-- as many ids as endpoints are wanted
fit_length : (endpoints : Routers) (ps : List PendingId) (wants : List WantedEndpoint) → all_fit endpoints ps wants ≡ true → length (ids_of ps) ≡ length wants
fit_length endpoints [] [] h = refl
fit_length endpoints [] (w ∷ wants) h = absurd cc
fit_length endpoints (p ∷ ps) [] h = absurd cc
fit_length endpoints (p ∷ ps) (w ∷ wants) h =
    let rest = fit_length endpoints ps wants (and_right (fits (found_at endpoints p.end p.id) w) (all_fit endpoints ps wants) h) in
    omega (arith, rest)

-- and as many pendings
fit_count : (endpoints : Routers) (ps : List PendingId) (wants : List WantedEndpoint) → all_fit endpoints ps wants ≡ true → length ps ≡ length wants
fit_count endpoints [] [] h = refl
fit_count endpoints [] (w ∷ wants) h = absurd cc
fit_count endpoints (p ∷ ps) [] h = absurd cc
fit_count endpoints (p ∷ ps) (w ∷ wants) h =
    let rest = fit_count endpoints ps wants (and_right (fits (found_at endpoints p.end p.id) w) (all_fit endpoints ps wants) h) in
    omega (arith, rest)

pub fit_apart : (endpoints : Routers) (ps : List PendingId) (wants : List WantedEndpoint) → (length ps ≡ length wants → ⊥)
    → false ≡ all_fit endpoints ps wants
fit_apart endpoints ps wants h = go (all_fit endpoints ps wants) refl
  where
    go : (b : Bool) → all_fit endpoints ps wants ≡ b → false ≡ b
    go false e = refl
    go true e = absurd (h (fit_count endpoints ps wants e))

-- ## The last tests

module _ (wire : Wire) (past : List Event) (k : Kept wire past) (pipes : Contents) (endpoints : Routers)
    (a : Agrees wire past pipes endpoints) (things : List Thing) where
  pub last : (flows : Lines) → busy past things ≡ busy_in flows things → (y : EndId) (done : Told) (peer_closed : Bool)
      → told_of_way done (way_at pipes flows peer_closed things (peer past y))
      ≡ first_of (cannot_write wire past y peer_closed things) done
  last flows free y done peer_closed =
      rw (free, closed_is wire past k pipes endpoints a (peer past y), unread_is wire past k pipes endpoints a (peer past y))
      (test_if (has things (End (peer past y))) SelfSend _ _ done
      (test_unless (busy_in flows things) _ _ done
      (test_if (is_gone past (peer past y) || peer_closed) Disconnected _ _ done
      (test_if (nat_le MAX_UNREAD_MESSAGES (weighs (unread wire past (peer past y)))) Full (Ok (peer past y)) [] done refl))))

  pub last_to : (flows : Lines) → busy past things ≡ busy_in flows things → (y : EndId) → has (made past) (End y) ≡ true → (done : Told) (peer_closed : Bool)
      → told_of_way done (way_to pipes flows peer_closed things (peer_of (end_of pipes.ends y)))
      ≡ first_of (cannot_write wire past y peer_closed things) done
  last_to flows free y m done peer_closed =
      ap (λ (o : Option EndId). told_of_way done (way_to pipes flows peer_closed things o)) (peer_is wire past k pipes endpoints a y m)
      ∙ last flows free y done peer_closed

  -- the handles of all are with callers
  pub outs_is : all_out pipes things ≡ machine.all_out past things
  outs_is = ap (λ b. b && is_distinct things) (all_same (λ (z : Thing). is_out (place_of pipes.table z)) (λ z. has (out past) z) a.outs things)

-- the end that a message goes to
module _ (pipes : Contents) (flows : Lines) (things : List Thing) where
  at_is : (peer_closed : Bool) (z x : EndId) → way_at pipes flows peer_closed things z ≡ Ok x → z ≡ x
  at_is peer_closed z x h =
      let a = passed (has things (End z)) SelfSend _ x h in
      let o = passed_unless (busy_in flows things) _ x a.1 in
      let b = passed (is_closed (end_of pipes.ends z) || peer_closed) Disconnected _ x o.1 in
      let c = passed (nat_le MAX_UNREAD_MESSAGES (weighs (unread_at pipes.ends z))) Full _ x b.1 in
      let d : ◌≡◌ {A = Result EndId Why} (Ok z) (Ok x) = c.1 in cc

  -- that end isn't full
  at_room : (peer_closed : Bool) (z x : EndId) → way_at pipes flows peer_closed things z ≡ Ok x → weighs (unread_at pipes.ends x) < MAX_UNREAD_MESSAGES
  at_room peer_closed z x h =
      let a = passed (has things (End z)) SelfSend _ x h in
      let o = passed_unless (busy_in flows things) _ x a.1 in
      let b = passed (is_closed (end_of pipes.ends z) || peer_closed) Disconnected _ x o.1 in
      let c = passed (nat_le MAX_UNREAD_MESSAGES (weighs (unread_at pipes.ends z))) Full _ x b.1 in
      subst (λ (w : EndId). weighs (unread_at pipes.ends w) < MAX_UNREAD_MESSAGES) (at_is peer_closed z x h)
      (leb-false MAX_UNREAD_MESSAGES (weighs (unread_at pipes.ends z)) c.0)

  pub to_room : (peer_closed : Bool) (o : Option EndId) (x : EndId) → way_to pipes flows peer_closed things o ≡ Ok x
      → weighs (unread_at pipes.ends x) < MAX_UNREAD_MESSAGES
  to_room peer_closed None x h = absurd cc
  to_room peer_closed (Some z) x h = at_room peer_closed z x h

  pub to_is : (peer_closed : Bool) (o : Option EndId) (x : EndId) → way_to pipes flows peer_closed things o ≡ Ok x → o ≡ Some x
  to_is peer_closed None x h = absurd cc
  to_is peer_closed (Some z) x h = ap (λ (w : EndId). Some w) (at_is peer_closed z x h)

-- ## What goes with a message

-- what is known where it fits: the end that the message goes to, which isn't full, and that its ids may be written
pub record Fits (past : List Event) (pipes : Contents) (y : EndId) (prepared : Prepared) (names : CarriedNames) (x : EndId) : Type 0 where
  pub peer : peer_of (end_of pipes.ends y) ≡ Some x
  pub room : weighs (unread_at pipes.ends x) < MAX_UNREAD_MESSAGES
  pub wanted : length (ids_of names.pendings) ≡ length prepared.endpoints.items
  pub ids : AreIds (ids_of names.pendings)

module _ (schema : Schema) (seqs : ℕ) (past : List Event) (k : Kept (wire_of schema) past) (pipes : Contents) (endpoints : Routers)
    (a : Agrees (wire_of schema) past pipes endpoints) (h : legal (wire_of schema) seqs past) (few : length past ≤ MAX_EVENTS)
    (prepared : Prepared) (p : IsPrepared schema prepared) (names : CarriedNames) where
  module _ (table : List (EndpointName × Bool)) (known : KnowsPendings past table) where
    -- whether all is with the caller
    pub own_is : all_own pipes table names ≡ (machine.all_out past names.things && machine.all_pending past names.pendings)
    own_is =
        ap (λ (b : Bool). b && all_pending table names.pendings) (outs_is (wire_of schema) past k pipes endpoints a names.things)
        ∙ ap (λ (b : Bool). machine.all_out past names.things && (b && distinct_pendings names.pendings))
        (all_same (λ (q : PendingId). is_pending_out table q) (λ q. has_pending (pendings_out past) q) known names.pendings)

  module _ (flows : Lines) (y : EndId) (peer_closed : Bool) (own : list_all (λ q. has_pending (pendings_out past) q) names.pendings ≡ true) where
    found : (x : EndId) (id : ℕ) → found_at endpoints x id ≡ endpoint_at (wire_of schema) past x id
    found x id = found_is a x id

    suits_is : suits prepared names endpoints ≡ tokens_right (wire_of schema) past (outgoing_named prepared names None)
    suits_is =
        ap (λ (n : ℕ). (length names.things == n) && all_fit endpoints names.pendings prepared.endpoints.items) (sym (handles_of_wire schema prepared p))
        ∙ (ap (λ (ws : List WantedEndpoint). (length names.things == (wire_of schema).handles prepared.target (view prepared.value))
        && all_fit endpoints names.pendings ws) (sym (wants_of_wire schema prepared p))
        ∙ ap (λ (b : Bool). (length names.things == (wire_of schema).handles prepared.target (view prepared.value)) && b)
        (fit_is (wire_of schema) seqs past h few endpoints found names.pendings ((wire_of schema).wants prepared.target (view prepared.value)) own))

    abbrev rest : Result EndId Why
    rest = way_to pipes flows peer_closed names.things (peer_of (end_of pipes.ends y))

    abbrev tests : List (Option Why)
    tests = cannot_write (wire_of schema) past y peer_closed names.things

    pipe_tests : busy past names.things ≡ busy_in flows names.things → has (made past) (End y) ≡ true → (done : Told)
        → told_of_way done (way_unless (wrong_pipe endpoints y names.pendings) rest) ≡ first_of (machine.wrong_pipe past y names.pendings ∷ tests) done
    pipe_tests free m done =
        ap (λ (o : Option Why). told_of_way done (way_unless o rest)) (pipe_is (wire_of schema) seqs past h few endpoints found y names.pendings own)
        ∙ test_unless (machine.wrong_pipe past y names.pendings) rest tests done
        (last_to (wire_of schema) past k pipes endpoints a names.things flows free y m done peer_closed)

    pub with_told : busy past names.things ≡ busy_in flows names.things → has (made past) (End y) ≡ true → (done : Told)
        → told_of_way done (way_with prepared names pipes flows endpoints y peer_closed)
        ≡ first_of (wrong_tokens (wire_of schema) past (outgoing_named prepared names None) ∷ machine.wrong_pipe past y names.pendings ∷ tests) done
    with_told free m done =
        ap (λ (b : Bool). told_of_way done (if not b then Err WrongTokens else way_unless (wrong_pipe endpoints y names.pendings) rest)) suits_is
        ∙ test_not (tokens_right (wire_of schema) past (outgoing_named prepared names None)) WrongTokens
        (way_unless (wrong_pipe endpoints y names.pendings) rest) (machine.wrong_pipe past y names.pendings ∷ tests) done (pipe_tests free m done)

    pub with_fits : (x : EndId) → way_with prepared names pipes flows endpoints y peer_closed ≡ Ok x → Fits past pipes y prepared names x
    with_fits x e =
        let t = passed (not (suits prepared names endpoints)) WrongTokens _ x e in
        let u = passed_unless (wrong_pipe endpoints y names.pendings) rest x t.1 in
        record {
          peer = to_is pipes flows names.things peer_closed (peer_of (end_of pipes.ends y)) x u.1;
          room = to_room pipes flows names.things peer_closed (peer_of (end_of pipes.ends y)) x u.1;
          wanted = fit_length endpoints names.pendings prepared.endpoints.items
              (and_right (length names.things == prepared.handles) (all_fit endpoints names.pendings prepared.endpoints.items)
              (held_not (suits prepared names endpoints) t.0));
          ids = ids_are (wire_of schema) seqs past h few y names.pendings
              (sym (pipe_is (wire_of schema) seqs past h few endpoints found y names.pendings own) ∙ u.0);
        }
