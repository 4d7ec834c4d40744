-- A command that isn't refused names things of sequences that are there.
use Rattle.std.proofs.Common.{◌≡◌, ◌<◌, ℕ, Bool, true, false, List, [], ◌∷◌, ◌++◌, refl, ◌⊎◌, inl, inr}
use Rattle.std.specs.Prelude.{if◌then◌else◌, ◌||◌, ◌&&◌, ◌==◌, not, nat_lt, Option, Some, None, is_some}
use Rattle.std.specs.List.{list_any, list_all}
use Rattle.std.proofs.lemmas.Bool.{ltb-true}
use Rattle.std.proofs.lemmas.List.Folds.{list_any-append}
use Rattle.mj_base.specs.declared.ids.EndId.{EndId}
use Rattle.mj_base.specs.declared.ids.SeqId.{SeqId}
use Rattle.handle_table.specs.declared.thing.Thing.{Thing}
use Rattle.handle_table.specs.declared.thing.Thing.TheVariants.{End, Token}
use Rattle.wire_model.specs.declared.target.MessageSide.TheVariants.{Response}
use Rattle.bind_model.specs.declared.endpoint.PendingId.{PendingId}
use Rattle.bind_model.specs.declared.endpoint.ResponderId.{ResponderId}
use Rattle.bind_model.specs.declared.endpoint.Endpoint.{Endpoint}
use Rattle.bind_model.specs.declared.asked.Outgoing.{Outgoing}
use Rattle.bind_model.specs.declared.asked.Closing.{Closing}
use Rattle.bind_model.specs.declared.asked.Closing.TheVariants as closings
use Rattle.bind_model.specs.declared.asked.Asked.{Asked}
use Rattle.bind_model.specs.declared.asked.Asked.TheVariants.{Pipe, Join, Mint, Bind, Associate, Attach, Call, Answer, Raw, Take, Close, Notify, Pause, Data}
use Rattle.bind_model.specs.declared.asked.Asked.TheVariants.{Flow as Move, Skip}
use Rattle.bind_model.specs.declared.asked.Notice.{Notice}
use Rattle.bind_model.specs.declared.told.Why.TheVariants.{NoName, Disconnected, WrongSide, WrongMethod, WrongPipe}
use Rattle.bind_model.specs.declared.told.Told.{Told}
use Rattle.bind_model.specs.declared.told.Told.TheVariants.{Made, Associated, Attached, Closed, No}
use Rattle.bind_model.specs.declared.event.Event.{Event}
use Rattle.handle_table.specs.Things.{same, same_end, has, seq_of, is_distinct}
use Rattle.bind_model.specs.Wire.{Wire}
use Rattle.bind_model.specs.Machine.{made, made_by, is_gone, is_local, out, bounds, bound_by, endpoint_at, is_closed, goes_with, unread}
use Rattle.bind_model.specs.Replies.{legal, answer, joined, bound_as, next_id, unless, unbound, elsewhere, is_receiver, is_response, same_target}
use Rattle.bind_model.specs.Replies.{wrong_tokens, wrong_pipe, cannot_write, all_out, all_pending, has_pending, pendings_out, distinct_pendings}
use Rattle.bind_model.specs.Replies.{same_responder, responders_out, responders_after, responders_handed, less_one, half_closed, called, answered_with}
use Rattle.bind_model.specs.Replies.{closed_at, closed, paused, took_front, sent, request_of, wrote_at, from_id, notified, pausing, moved_by}
use Rattle.group_laws.specs.Apart.{names, seqs_of, seqs_of_pendings}
use Rattle.handle_table.proofs.ThingsLemmas.{same-true, same_end-true, has-cases, has-front, or_cases, or_left, or_right, and_left, and_right}
use Rattle.bind_model.proofs.Fresh.{kept}
use Rattle.bind_model.proofs.Kept.{Kept, out_made, bound_made}
use Rattle.bind_model.proofs.Outcomes.{Outcome, Refused, first_cases, held, there, AsksJoin, outcome, joins, mints, answers, gets, closes_responder, pipes}

-- these are sequences
abbrev pub AllReal : ℕ → List ℕ → Type 0
AllReal seqs [] = Unit {0}
AllReal seqs (t ∷ ts) = (t < seqs) × AllReal seqs ts

real_both : (seqs : ℕ) (ts us : List ℕ) → AllReal seqs ts → AllReal seqs us → AllReal seqs (ts ++ us)
real_both seqs [] us f g = g
real_both seqs (t ∷ ts) us f g = (f.0, real_both seqs ts us f.1 g)

-- ## What was made is of sequences that are there

join_real : (wire : Wire) (seqs : ℕ) (past : List Event) (seq : SeqId) → seq.0 < seqs → (asked : Asked) (things : List Thing) (t : ℕ)
    → AsksJoin asked seq.0 t → Made things ≡ answer wire seqs past seq asked → t < seqs
join_real wire seqs past seq low Pipe things t j e = rw j low
join_real wire seqs past seq low (Join u) things t j e = elim
    (first_cases (unless (nat_lt u.0 seqs) NoName ∷ []) (joined past seq.0 u.0) (Made things) e) [
      | inl r ↦ absurd (let f : Made things ≡ No r.0 = r.1 in cc)
      | inr p ↦ rw j (ltb-true u.0 seqs (held (nat_lt u.0 seqs) NoName p.0.0))
    ]
join_real wire seqs past seq low asked things t j e = absurd j

new_real : (wire : Wire) (seqs : ℕ) (past : List Event) (seq : SeqId) → seq.0 < seqs → {asked : Asked} {told : Told} → Outcome wire seqs past seq asked told
    → told ≡ answer wire seqs past seq asked → (z : Thing) → has (made_by told) z ≡ true → seq_of z < seqs
new_real wire seqs past seq low (joins {asked = asked} {a = a} {b = b} t j p q) e z h = elim (or_cases (same (End a) z) (has (End b ∷ []) z) h) [
  | inl s ↦ rw (← same-true (End a) z s, p) low
  | inr s ↦ elim (or_cases (same (End b) z) false s) [
    | inl k ↦ rw (← same-true (End b) z k, q) (join_real wire seqs past seq low asked (End a ∷ End b ∷ []) t j e)
    | inr k ↦ absurd cc
  ]
]
new_real wire seqs past seq low mints e z h = elim
    (or_cases (same (Token (record { seq = seq.0; serial = _ })) z) false h) [
      | inl s ↦ rw (← same-true (Token (record { seq = seq.0; serial = _ })) z s) low
      | inr k ↦ absurd cc
    ]
new_real wire seqs past seq low (pipes {p = a} {q = b} s p q) e z h = elim (or_cases (same (Token a) z) (has (Token b ∷ []) z) h) [
  | inl k ↦ rw (← same-true (Token a) z k, p) low
  | inr k ↦ elim (or_cases (same (Token b) z) false k) [
    | inl i ↦ rw (← same-true (Token b) z i, q) low
    | inr i ↦ absurd cc
  ]
]
new_real wire seqs past seq low o e z h = absurd cc

pub real_made : (wire : Wire) (seqs : ℕ) (past : List Event) → legal wire seqs past → (z : Thing) → has (made past) z ≡ true → seq_of z < seqs
real_made wire seqs [] l z h = absurd cc
real_made wire seqs (event ∷ past) l z h = elim (has-cases (made past) (made_by event.told) z h) [
  | inl k ↦ real_made wire seqs past l.2 z k
  | inr k ↦ new_real wire seqs past event.seq l.0 (outcome wire seqs past event.seq event.asked event.told l.1) l.1 z k
]

-- ## Responders are of bound ends

less_has : (q r : ResponderId) (rs : List ResponderId) → list_any (λ s. same_responder s r) (less_one q rs) ≡ true
    → list_any (λ s. same_responder s r) rs ≡ true
less_has q r [] h = h
less_has q r (s ∷ rs) h = go (same_responder s q) (less_has q r rs) h
  where
    go : (b : Bool) → (list_any (λ s. same_responder s r) (less_one q rs) ≡ true → list_any (λ s. same_responder s r) rs ≡ true)
        → list_any (λ s. same_responder s r) (if b then rs else s ∷ less_one q rs) ≡ true
        → (same_responder s r || list_any (λ s. same_responder s r) rs) ≡ true
    go true rest h = or_right (same_responder s r) (list_any (λ s. same_responder s r) rs) h
    go false rest h = elim (or_cases (same_responder s r) (list_any (λ s. same_responder s r) (less_one q rs)) h) [
      | inl k ↦ or_left (same_responder s r) (list_any (λ s. same_responder s r) rs) k
      | inr k ↦ or_right (same_responder s r) (list_any (λ s. same_responder s r) rs) (rest k)
    ]

responder_end : (r s : ResponderId) → same_responder s r ≡ true → s.end ≡ r.end
responder_end r s h =
    let a = and_left (same_end s.end r.end && (s.id == r.id) && (s.request == r.request) && (s.interface == r.interface)) (s.method == r.method) h in
    let b = and_left (same_end s.end r.end && (s.id == r.id) && (s.request == r.request)) (s.interface == r.interface) a in
    let c = and_left (same_end s.end r.end && (s.id == r.id)) (s.request == r.request) b in
    same_end-true s.end r.end (and_left (same_end s.end r.end) (s.id == r.id) c)

after_has : (wire : Wire) (seqs : ℕ) (past : List Event) (seq : SeqId) {asked : Asked} {told : Told} → Outcome wire seqs past seq asked told
    → (r : ResponderId) (rs : List ResponderId) → list_any (λ s. same_responder s r) (responders_after told asked rs) ≡ true
    → list_any (λ s. same_responder s r) rs ≡ true
after_has wire seqs past seq (answers {q = q} r0 o qs ps e w b) r rs h = less_has q r rs h
after_has wire seqs past seq (closes_responder {q = q} e) r rs h = less_has q r rs h
after_has wire seqs past seq o r rs h = h

handed_has : (wire : Wire) (seqs : ℕ) (past : List Event) (seq : SeqId) (k : Kept wire past) {asked : Asked} {told : Told}
    → Outcome wire seqs past seq asked told → (r : ResponderId) → list_any (λ s. same_responder s r) (responders_handed wire told asked) ≡ true
    → has (bounds past) (End r.end) ≡ true
handed_has wire seqs past seq k (gets {y = y} m hd e0 c f {g = g} e) r h =
    go (not (is_response g.target.side) && wire.responds g.target.interface g.target.method) h
  where
    go : (b : Bool) → list_any (λ s. same_responder s r)
        (if b then record { end = y; id = g.id; request = g.request; interface = g.target.interface; method = g.target.method } ∷ [] else []) ≡ true
        → has (bounds past) (End r.end) ≡ true
    go true h = elim (or_cases
        (same_responder (record { end = y; id = g.id; request = g.request; interface = g.target.interface; method = g.target.method }) r) false h) [
          | inl s ↦ rw (← responder_end r
              (record { end = y; id = g.id; request = g.request; interface = g.target.interface; method = g.target.method }) s)
              (k.endpoints y 0 f.front.main f.front.bound)
          | inr s ↦ absurd cc
        ]
    go false h = absurd cc
handed_has wire seqs past seq k o r h = absurd cc

pub responder_bound : (wire : Wire) (seqs : ℕ) (past : List Event) → legal wire seqs past → (r : ResponderId)
    → list_any (λ s. same_responder s r) (responders_out wire past) ≡ true → has (bounds past) (End r.end) ≡ true
responder_bound wire seqs [] l r h = absurd cc
responder_bound wire seqs (event ∷ past) l r h =
    let o = outcome wire seqs past event.seq event.asked event.told l.1 in
    elim (or_cases (list_any (λ s. same_responder s r) (responders_after event.told event.asked (responders_out wire past)))
    (list_any (λ s. same_responder s r) (responders_handed wire event.told event.asked))
    (rw list_any-append at h)) [
      | inl k ↦ has-front (bounds past) (bound_by event.told) (End r.end)
          (responder_bound wire seqs past l.2 r (after_has wire seqs past event.seq o r (responders_out wire past) k))
      | inr k ↦ has-front (bounds past) (bound_by event.told) (End r.end)
          (handed_has wire seqs past event.seq (kept wire seqs past l.2) o r k)
    ]

-- ## What a command names

module _ (wire : Wire) (seqs : ℕ) (past : List Event) (l : legal wire seqs past) (seq : SeqId) where
  real_out : (x : Thing) → has (out past) x ≡ true → seq_of x < seqs
  real_out x h = real_made wire seqs past l x (out_made wire past (kept wire seqs past l) x h)

  real_bound : (x : EndId) → has (bounds past) (End x) ≡ true → x.seq < seqs
  real_bound x h = real_made wire seqs past l (End x) (bound_made wire past (kept wire seqs past l) (End x) h)

  real_at : (x : EndId) (id : ℕ) (r : Endpoint) → endpoint_at wire past x id ≡ Some r → x.seq < seqs
  real_at x id r e = real_bound x ((kept wire seqs past l).endpoints x id r e)

  real_pending : (p : PendingId) → has_pending (pendings_out past) p ≡ true → p.end.seq < seqs
  real_pending p h = real_bound p.end ((kept wire seqs past l).pendings p h)

  real_each : (xs : List Thing) → list_all (λ x. has (out past) x) xs ≡ true → AllReal seqs (seqs_of xs)
  real_each [] h = tt
  real_each (x ∷ xs) h = (
    real_out x (and_left (has (out past) x) (list_all (λ y. has (out past) y) xs) h),
    real_each xs (and_right (has (out past) x) (list_all (λ y. has (out past) y) xs) h),
  )

  real_all : (xs : List Thing) → all_out past xs ≡ true → AllReal seqs (seqs_of xs)
  real_all xs h = real_each xs (and_left (list_all (λ x. has (out past) x) xs) (is_distinct xs) h)

  real_pendings : (ps : List PendingId) → list_all (λ p. has_pending (pendings_out past) p) ps ≡ true → AllReal seqs (seqs_of_pendings ps)
  real_pendings [] h = tt
  real_pendings (p ∷ ps) h = (
    real_pending p (and_left (has_pending (pendings_out past) p) (list_all (λ q. has_pending (pendings_out past) q) ps) h),
    real_pendings ps (and_right (has_pending (pendings_out past) p) (list_all (λ q. has_pending (pendings_out past) q) ps) h),
  )

  real_sent : (s : Outgoing) → all_out past s.handles ≡ true → all_pending past s.pendings ≡ true
      → AllReal seqs (seqs_of s.handles ++ seqs_of_pendings s.pendings)
  real_sent s h p = real_both seqs (seqs_of s.handles) (seqs_of_pendings s.pendings) (real_all s.handles h)
      (real_pendings s.pendings (and_left (list_all (λ q. has_pending (pendings_out past) q) s.pendings) (distinct_pendings s.pendings) p))

  -- a reply refuses, or all that the command names is of sequences that are there
  abbrev Real : Asked → Told → Type 0
  Real asked told = Refused told ⊎ AllReal seqs (names asked)

  of_call : (y : EndId) (id : ℕ) (s : Outgoing) (told : Told) (o : Option Endpoint) → endpoint_at wire past y id ≡ o → told ≡ called wire past seq y id s o
      → Real (Call y id s) told
  of_call y id s told None e h = inl (NoName, h)
  of_call y id s told (Some r) e h = elim (first_cases (
      unless (all_out past s.handles && all_pending past s.pendings) NoName
      ∷ unless (not (is_gone past y || is_closed r)) Disconnected
      ∷ unbound id r
      ∷ elsewhere seq r
      ∷ unless (not (is_receiver r.side)) WrongSide
      ∷ unless ((s.target.interface == r.interface) && not (is_response s.target.side)) WrongMethod
      ∷ wrong_tokens wire past s
      ∷ wrong_pipe past y s.pendings
      ∷ cannot_write wire past y r.peer_closed s.handles)
      (sent wire id s (request_of wire past y id s.target)) told h) [
        | inl r0 ↦ inl r0
        | inr p ↦
            let own : (all_out past s.handles && all_pending past s.pendings)
            ≡ true = held (all_out past s.handles && all_pending past s.pendings) NoName p.0.0 in
            inr (
              real_at y id r e,
              real_sent s (and_left (all_out past s.handles) (all_pending past s.pendings) own)
                  (and_right (all_out past s.handles) (all_pending past s.pendings) own),
            )
      ]

  of_answer : (q : ResponderId) (s : Outgoing) (told : Told) (o : Option Endpoint) → endpoint_at wire past q.end q.id ≡ o
      → told ≡ answered_with wire past seq q s o → Real (Answer q s) told
  of_answer q s told None e h = inl (NoName, h)
  of_answer q s told (Some r) e h = elim (first_cases (
      unless (list_any (λ p. same_responder p q) (responders_out wire past) && all_out past s.handles && all_pending past s.pendings) NoName
      ∷ unless (not (is_gone past q.end || is_closed r)) Disconnected
      ∷ elsewhere seq r
      ∷ unless (same_target s.target (record { interface = q.interface; method = q.method; side = Response })) WrongMethod
      ∷ wrong_tokens wire past s
      ∷ wrong_pipe past q.end s.pendings
      ∷ cannot_write wire past q.end r.peer_closed s.handles)
      (sent wire q.id s q.request) told h) [
        | inl r0 ↦ inl r0
        | inr p ↦
            let right : Bool = list_any (λ p. same_responder p q) (responders_out wire past) in
            let own = held (right && all_out past s.handles && all_pending past s.pendings) NoName p.0.0 in
            let first = and_left (right && all_out past s.handles) (all_pending past s.pendings) own in
            inr (
              real_at q.end q.id r e,
              real_sent s (and_right right (all_out past s.handles) first) (and_right (right && all_out past s.handles) (all_pending past s.pendings) own),
            )
      ]

  of_endpoint : (y : EndId) (id : ℕ) (told : Told) (o : Option Endpoint) → endpoint_at wire past y id ≡ o → told ≡ closed_at wire past seq y id o
      → Real (Close (closings.Endpoint y id)) told
  of_endpoint y id told None e h = inl (NoName, h)
  of_endpoint y id told (Some r) e h = inr (real_at y id r e, tt)

  of_close : (thing : Closing) (told : Told) → told ≡ closed wire past seq thing → Real (Close thing) told
  of_close (closings.Handle x) told h = elim (first_cases (unless (has (out past) x) NoName ∷ []) (Closed (goes_with wire past (x ∷ []))) told h) [
    | inl r ↦ inl r
    | inr p ↦ inr (real_out x (held (has (out past) x) NoName p.0.0), tt)
  ]
  of_close (closings.Pending p) told h = elim (first_cases (unless (has_pending (pendings_out past) p) NoName ∷ []) (Closed []) told h) [
    | inl r ↦ inl r
    | inr q ↦ inr (real_pending p (held (has_pending (pendings_out past) p) NoName q.0.0), tt)
  ]
  of_close (closings.Responder q) told h = elim (first_cases (unless (list_any (λ p. same_responder p q) (responders_out wire past)) NoName ∷ [])
      (Closed []) told h) [
        | inl r ↦ inl r
        | inr p ↦ inr (
          real_bound q.end (responder_bound wire seqs past l q
              (held (list_any (λ p. same_responder p q) (responders_out wire past)) NoName p.0.0)),
          tt,
        )
      ]
  of_close (closings.Endpoint y id) told h = of_endpoint y id told (endpoint_at wire past y id) refl h

  of_notice : (y : EndId) (notice : Notice) (told : Told) (o : Option Endpoint) → endpoint_at wire past y (from_id notice) ≡ o
      → told ≡ notified wire past seq y notice o → Real (Notify y notice) told
  of_notice y notice told None e h = inl (NoName, h)
  of_notice y notice told (Some r) e h = inr (real_at y (from_id notice) r e, tt)

  of_pause : (b a : EndId) (k : ℕ) (told : Told) (ob oa : Option Endpoint) → endpoint_at wire past b 0 ≡ ob → endpoint_at wire past a 0 ≡ oa
      → told ≡ pausing past seq b a ob oa → Real (Pause b a k) told
  of_pause b a k told None oa e f h = inl (NoName, h)
  of_pause b a k told (Some rb) None e f h = inl (NoName, h)
  of_pause b a k told (Some rb) (Some ra) e f h = inr (real_at b 0 rb e, (real_at a 0 ra f, tt))

  -- a command is refused, or all that it names is of sequences that are there
  pub real : (asked : Asked) (told : Told) → told ≡ answer wire seqs past seq asked → Real asked told
  real Pipe told h = inr tt
  real (Join t) told h = elim (first_cases (unless (nat_lt t.0 seqs) NoName ∷ []) (joined past seq.0 t.0) told h) [
    | inl r ↦ inl r
    | inr p ↦ inr (ltb-true t.0 seqs (held (nat_lt t.0 seqs) NoName p.0.0), tt)
  ]
  real (Mint sort) told h = inr tt
  real (Bind x side interface) told h = elim (first_cases (unless (has (out past) x && nat_lt interface wire.interfaces) NoName ∷ []) (bound_as x) told h) [
    | inl r ↦ inl r
    | inr p ↦ inr (
      real_out x (and_left (has (out past) x) (nat_lt interface wire.interfaces)
          (held (has (out past) x && nat_lt interface wire.interfaces) NoName p.0.0)),
      tt,
    )
  ]
  real (Associate y side interface) told h = elim (first_cases (
      unless (is_some (endpoint_at wire past y 0) && nat_lt interface wire.interfaces) NoName
      ∷ unless (not (is_gone past y)) Disconnected
      ∷ [])
      (Associated (record { end = y; id = next_id wire past y })) told h) [
        | inl r ↦ inl r
        | inr p ↦
            let main = there (endpoint_at wire past y 0)
            (and_left (is_some (endpoint_at wire past y 0)) (nat_lt interface wire.interfaces)
            (held (is_some (endpoint_at wire past y 0) && nat_lt interface wire.interfaces) NoName p.0.0)) in
            inr (real_at y 0 main.0 main.1, tt)
      ]
  real (Attach p t) told h = elim (first_cases (
      unless (has_pending (pendings_out past) p && nat_lt t.0 seqs) NoName
      ∷ unless (not (is_gone past p.end || half_closed (endpoint_at wire past p.end p.id))) Disconnected
      ∷ unless (not (is_local past p)) (WrongPipe p.id)
      ∷ [])
      (Attached p.id) told h) [
        | inl r ↦ inl r
        | inr q ↦
            let own = held (has_pending (pendings_out past) p && nat_lt t.0 seqs) NoName q.0.0 in
            inr (
              real_pending p (and_left (has_pending (pendings_out past) p) (nat_lt t.0 seqs) own),
              (ltb-true t.0 seqs (and_right (has_pending (pendings_out past) p) (nat_lt t.0 seqs) own), tt),
            )
      ]
  real (Call y id outgoing) told h = of_call y id outgoing told (endpoint_at wire past y id) refl h
  real (Answer q outgoing) told h = of_answer q outgoing told (endpoint_at wire past q.end q.id) refl h
  real (Raw x bytes handles) told h = elim (first_cases (unless (all_out past (x ∷ handles)) NoName ∷ []) (wrote_at wire past x bytes handles) told h) [
    | inl r ↦ inl r
    | inr p ↦ inr (real_all (x ∷ handles) (held (all_out past (x ∷ handles)) NoName p.0.0))
  ]
  real (Take y) told h = elim (first_cases (
      unless (is_some (endpoint_at wire past y 0)) NoName
      ∷ unless (not (is_gone past y)) Disconnected
      ∷ paused past y
      ∷ [])
      (took_front wire past seq y (unread wire past y)) told h) [
        | inl r ↦ inl r
        | inr p ↦
            let main = there (endpoint_at wire past y 0) (held (is_some (endpoint_at wire past y 0)) NoName p.0.0) in
            inr (real_at y 0 main.0 main.1, tt)
      ]
  real (Close thing) told h = of_close thing told h
  real (Notify y notice) told h = of_notice y notice told (endpoint_at wire past y (from_id notice)) refl h
  real (Pause b a k) told h = of_pause b a k told (endpoint_at wire past b 0) (endpoint_at wire past a 0) refl refl h
  real (Data size) told h = inr tt
  real (Move x f) told h = elim (first_cases (unless (has (out past) x) NoName ∷ []) (moved_by past x f) told h) [
    | inl r ↦ inl r
    | inr p ↦ inr (real_out x (held (has (out past) x) NoName p.0.0), tt)
  ]
  real (Skip line) told h = inr tt
