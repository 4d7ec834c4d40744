-- An event of another group changes nothing at the things of this one.
use Rattle.std.proofs.Common.{◌≡◌, ℕ, ◌+◌, Bool, true, false, List, [], ◌∷◌, ◌++◌, length, drop, refl, sym, ap, subst, ◌∙◌}
use Rattle.std.specs.Prelude.{Option, Some, if◌then◌else◌, ◌||◌, ◌&&◌, ◌==◌, not, filter, map}
use Rattle.mj_base.specs.declared.ids.EndId.{EndId}
use Rattle.mj_base.specs.declared.ids.SeqId.{SeqId}
use Rattle.handle_table.specs.declared.thing.Thing.{Thing}
use Rattle.handle_table.specs.declared.thing.Thing.TheVariants.{End, Token}
use Rattle.handle_table.specs.declared.thing.TokenId.{TokenId}
use Rattle.message_pipe.specs.declared.message.Message.{Message}
use Rattle.bind_model.specs.declared.endpoint.PendingId.{PendingId}
use Rattle.bind_model.specs.declared.endpoint.ResponderId.{ResponderId}
use Rattle.bind_model.specs.declared.asked.Asked.{Asked}
use Rattle.bind_model.specs.declared.asked.Asked.TheVariants.{Pipe, Join}
use Rattle.control_bytes.specs.declared.control.Control.{Control as ControlType}
use Rattle.control_bytes.specs.declared.control.Control.TheVariants as says
use Rattle.bind_model.specs.declared.told.Noted.{Noted}
use Rattle.bind_model.specs.declared.told.Noted.TheVariants as noted
use Rattle.bind_model.specs.declared.told.Told.{Told}
use Rattle.bind_model.specs.declared.event.Event.{Event}
use Rattle.handle_table.specs.Things.{same_end, seq_of}
use Rattle.bind_model.specs.Wire.{Wire, Named}
use Rattle.bind_model.specs.Data.{DataPipe, pipe_by, Begun, fills, begun_by, drains}
use Rattle.bind_model.specs.Notices.{queries, versions, flushes, meets, waits_by}
use Rattle.bind_model.specs.Machine.{bound_by, made, made_by, peer, peer_by, gone_by, is_gone, is_local, given, handed, takes, consumed, associates}
use Rattle.bind_model.specs.Machine.{written, endpoint_at, puts, changes, emits, emits_for, control_of, lands, handles_of, unread, carried, carried_behind, spread}
use Rattle.bind_model.specs.Replies.{tokens, draws, answers as answered_by, pendings_given, pendings_handed, has_pending, responders_after, responders_handed, picked, unpicked, is_response}
use Rattle.group_laws.specs.Apart.{seqs_of, seqs_of_pendings, names}
use Rattle.handle_table.proofs.ThingsLemmas.{has-front}
use Rattle.bind_model.proofs.PendingLists.{at_is}
use Rattle.group_laws.proofs.Holding.{AllIn, Holds}
use Rattle.bind_model.proofs.Outcomes.{Outcome, AsksJoin, joins, mints, binds, associates as associating, attaches, calls, answers, writes, gets, drops, controls, spoils, closes, closes_pending, closes_responder, closes_end, closes_endpoint, notifies, pauses, pipes, flows}
use Rattle.group_laws.proofs.Agrees.{answers_here}
use Rattle.group_laws.proofs.Elsewhere.{marks_else, queries_else, versions_else, flushes_else, meets_else, fills_else, drains_else, begun_else}
use Rattle.group_laws.proofs.Sides.{Side, other, other_token, side_none, side_one, side_more, side_drop, side_named, side_names, spread_side}
use Rattle.group_laws.proofs.Lists.{picked_side, unpicked_side, no_pending, one_pending, less_out}

module _ (inside : ℕ → Bool) (wire : Wire) (past : List Event) (so : Holds inside wire past) where
  -- ## What lies unread on a side

  pub written_side : (b : Bool) (x : EndId) → inside x.seq ≡ b → Side inside b (handles_of (written wire past x))
  written_side b x i z e = so.mail x z e ∙ i

  pub unread_side : (b : Bool) (x : EndId) → inside x.seq ≡ b → Side inside b (handles_of (unread wire past x))
  unread_side b x i = go (is_gone past x)
    where
      go : (g : Bool) → Side inside b (handles_of (if g then [] else drop (consumed past x) (written wire past x)))
      go true = side_none inside b
      go false = side_drop inside b (consumed past x) (written wire past x) (written_side b x i)

  pub carried_side : (b : Bool) (y : Thing) → inside (seq_of y) ≡ b → Side inside b (carried wire past y)
  carried_side b (End x) i = unread_side b x i
  carried_side b (Token t) i = side_none inside b

  pub behind_side : (b : Bool) (x : EndId) (y : Thing) → inside (seq_of y) ≡ b → Side inside b (carried_behind wire past x y)
  behind_side b x (End w) i = side_drop inside b (if same_end x w then 1 else 0) (unread wire past w) (unread_side b w i)
  behind_side b x (Token t) i = side_none inside b

  pub front_side : (b : Bool) (y : EndId) (m : Message) (rest : List Message) → unread wire past y ≡ m ∷ rest → inside y.seq ≡ b
      → Side inside b m.handles
  front_side b y m rest u i z e = unread_side b y i z (rw u (has-front m.handles (handles_of rest) z e))

  with_side : (b : Bool) (xs : List Thing) → Side inside b xs → Side inside b (spread (carried wire past) (length (made past)) xs)
  with_side b xs s = spread_side inside (carried wire past) b (carried_side b) (length (made past)) xs s

  after_side : (b : Bool) (y : EndId) (xs : List Thing) → Side inside b xs → Side inside b (spread (carried_behind wire past y) (length (made past)) xs)
  after_side b y xs s = spread_side inside (carried_behind wire past y) b (behind_side b y) (length (made past)) xs s

  module _ (seqs : ℕ) (seq : SeqId) (b : Bool) (far : inside seq.0 ≡ b) where
    pub joined_seq : (asked : Asked) (t : ℕ) → AsksJoin asked seq.0 t → AllIn inside seq.0 (names asked) → inside t ≡ b
    joined_seq Pipe t j h = ap inside j ∙ far
    joined_seq (Join u) t j h = ap inside j ∙ (h.0 ∙ far)
    joined_seq asked t j h = absurd j

    two_tokens : (p q : TokenId) (n m : ℕ) → p ≡ record { seq = seq.0; serial = n } → q ≡ record { seq = seq.0; serial = m }
        → Side inside b (Token p ∷ Token q ∷ [])
    two_tokens p q n m e f =
        let fp : inside p.seq ≡ b = rw e far in
        let fq : inside q.seq ≡ b = rw f far in
        side_more inside b (Token p ∷ []) (Token q ∷ []) (side_one inside b (Token p) fp) (side_one inside b (Token q) fq)

    -- ## What a reply makes, hands out and lets go is of its sequence's side

    pub made_side : {asked : Asked} {told : Told} → Outcome wire seqs past seq asked told → AllIn inside seq.0 (names asked) → Side inside b (made_by told)
    made_side (joins {asked = asked} {a = a} {b = c} t j p q) h =
        let fa : inside a.seq ≡ b = rw p far in
        let fb : inside c.seq ≡ b = rw q (joined_seq asked t j h) in
        side_more inside b (End a ∷ []) (End c ∷ []) (side_one inside b (End a) fa) (side_one inside b (End c) fb)
    made_side mints h = side_one inside b (Token (record { seq = seq.0; serial = tokens past seq.0 })) far
    made_side (pipes {p = p} {q = q} z e f) h = two_tokens p q (tokens past seq.0) (tokens past seq.0 + 1) e f
    made_side o h = side_none inside b

    pub handed_side : {asked : Asked} {told : Told} → Outcome wire seqs past seq asked told → AllIn inside seq.0 (names asked) → Side inside b (handed told)
    handed_side (joins {asked = asked} {a = a} {b = c} t j p q) h =
        let fa : inside a.seq ≡ b = rw p far in
        let fb : inside c.seq ≡ b = rw q (joined_seq asked t j h) in
        side_more inside b (End a ∷ []) (End c ∷ []) (side_one inside b (End a) fa) (side_one inside b (End c) fb)
    handed_side mints h = side_one inside b (Token (record { seq = seq.0; serial = tokens past seq.0 })) far
    handed_side (pipes {p = p} {q = q} z e f) h = two_tokens p q (tokens past seq.0) (tokens past seq.0 + 1) e f
    handed_side (gets {y = y} m hd r c f e) h = subst (λ t. Side inside b (handed t)) (sym e)
        (picked_side inside b c.handles 0 m.handles (front_side b y m f.front.rest f.front.stands (h.0 ∙ far)))
    handed_side o h = side_none inside b

    pub goes_side : {asked : Asked} {told : Told} → Outcome wire seqs past seq asked told → AllIn inside seq.0 (names asked) → Side inside b (gone_by told)
    goes_side (gets {y = y} m hd r c f e) h = subst (λ t. Side inside b (gone_by t)) (sym e)
        (after_side b y (unpicked c.handles 0 m.handles)
        (unpicked_side inside b c.handles 0 m.handles (front_side b y m f.front.rest f.front.stands (h.0 ∙ far))))
    goes_side (drops {y = y} m f e d) h = subst (λ g. Side inside b g) (sym e)
        (after_side b y m.handles (front_side b y m f.rest f.stands (h.0 ∙ far)))
    goes_side (spoils {y = y} m f e) h = subst (λ g. Side inside b g) (sym e) (with_side b (End y ∷ []) (side_one inside b (End y) (h.0 ∙ far)))
    goes_side (closes {x = x} o e) h = subst (λ g. Side inside b g) (sym e) (with_side b (x ∷ []) (side_one inside b x (h.0 ∙ far)))
    goes_side (closes_pending o e) h = subst (λ g. Side inside b g) (sym e) (side_none inside b)
    goes_side (closes_responder e) h = subst (λ g. Side inside b g) (sym e) (side_none inside b)
    goes_side (closes_end {y = y} r i o e) h = subst (λ g. Side inside b g) (sym e)
        (with_side b (End y ∷ []) (side_one inside b (End y) (h.0 ∙ far)))
    goes_side (closes_endpoint r i o e) h = subst (λ g. Side inside b g) (sym e) (side_none inside b)
    goes_side o h = side_none inside b

    pub given_side : {asked : Asked} {told : Told} → Outcome wire seqs past seq asked told → AllIn inside seq.0 (names asked)
        → Side inside b (given told asked)
    given_side (binds {x = x} o) h = side_one inside b (End x) (h.0 ∙ far)
    given_side (calls {s = s} r o ps mk e w bs) h = side_named inside seq.0 b s.handles (seqs_of_pendings s.pendings) far h.1
    given_side (answers {s = s} r o rs ps e w bs) h = side_named inside seq.0 b s.handles (seqs_of_pendings s.pendings) far h.1
    given_side (writes {handles = handles} o w) h = side_names inside seq.0 b handles far h.1
    given_side (closes {x = x} o e) h = side_one inside b x (h.0 ∙ far)
    given_side o h = side_none inside b

    pub bound_side : {asked : Asked} {told : Told} → Outcome wire seqs past seq asked told → AllIn inside seq.0 (names asked) → Side inside b (bound_by told)
    bound_side (binds {x = x} o) h = side_one inside b (End x) (h.0 ∙ far)
    bound_side o h = side_none inside b

  module _ (seqs : ℕ) (seq : SeqId) (far : inside seq.0 ≡ false) where
    pub peer_out : {asked : Asked} {told : Told} → Outcome wire seqs past seq asked told → AllIn inside seq.0 (names asked) → (x : EndId)
        → inside x.seq ≡ true → peer_by told x (peer past x) ≡ peer past x
    peer_out (joins {asked = asked} {a = a} {b = c} t j p q) h x i =
        let fa : inside a.seq ≡ false = rw p far in
        let fb : inside c.seq ≡ false = rw q (joined_seq seqs seq false far asked t j h) in
        rw (other inside a x fa i, other inside c x fb i) refl
    peer_out o h x i = refl

    pub takes_out : {asked : Asked} {told : Told} → Outcome wire seqs past seq asked told → AllIn inside seq.0 (names asked) → (x : EndId)
        → inside x.seq ≡ true → takes told asked x ≡ []
    takes_out (gets {y = y} m hd r c f e) h x i = rw (other inside y x (h.0 ∙ far) i) refl
    takes_out (drops {y = y} m f e d) h x i = rw (other inside y x (h.0 ∙ far) i) refl
    takes_out (controls {y = y} m f e d) h x i = rw (other inside y x (h.0 ∙ far) i) refl
    takes_out o h x i = refl

    pub associates_out : {asked : Asked} {told : Told} → Outcome wire seqs past seq asked told → AllIn inside seq.0 (names asked) → (x : EndId)
        → inside x.seq ≡ true → associates told x ≡ []
    associates_out (associating {y = y} main e g q) h x i = rw (q, other inside y x (h.0 ∙ far) i) refl
    associates_out o h x i = refl

    lands_none : (y x : EndId) (bytes : List ℕ) (handles : List Thing) → inside y.seq ≡ false → inside x.seq ≡ true
        → lands past y bytes handles x ≡ []
    lands_none y x bytes handles f i = rw (other inside (peer past y) x (so.peers y ∙ f) i) refl

    emits_out : (y x : EndId) (control : ℕ → ControlType) (ids : List ℕ) → inside y.seq ≡ false → inside x.seq ≡ true
        → emits wire past y (endpoint_at wire past y) control ids x ≡ []
    emits_out y x control ids f i = rw (other inside (peer past y) x (so.peers y ∙ f) i) refl

    maybe_out : (b : Bool) (y x : EndId) (ids : List ℕ) → inside y.seq ≡ false → inside x.seq ≡ true
        → (if b then [] else emits wire past y (endpoint_at wire past y) says.Closed ids x) ≡ []
    maybe_out true y x ids f i = refl
    maybe_out false y x ids f i = emits_out y x says.Closed ids f i

    heard_out : (y x : EndId) (c : Noted) → inside y.seq ≡ false → inside x.seq ≡ true → emits_for wire past y (endpoint_at wire past y) c x ≡ []
    heard_out y x (noted.Queried id (Some v)) f i = emits_out y x (λ n. says.Version n v) (id ∷ []) f i
    heard_out y x c f i = refl

    pub puts_out : {asked : Asked} {told : Told} → Outcome wire seqs past seq asked told → AllIn inside seq.0 (names asked) → (x : EndId)
        → inside x.seq ≡ true → puts wire past (written wire past) (endpoint_at wire past) told asked x ≡ []
    puts_out (calls {y = y} {s = s} {bytes = bytes} r o ps mk e w bs) h x i = lands_none y x bytes s.handles (h.0 ∙ far) i
    puts_out (answers {q = q} {s = s} {bytes = bytes} r o rs ps e w bs) h x i = lands_none q.end x bytes s.handles (h.0 ∙ far) i
    puts_out (writes {x = y} {bytes = bytes} {handles = handles} o w) h x i = lands_none y x bytes handles (h.0 ∙ far) i
    puts_out (gets {y = y} m hd r c f e) h x i = rw (other inside (peer past y) x (so.peers y ∙ (h.0 ∙ far)) i) refl
    puts_out (drops {y = y} m f e d) h x i = rw (other inside (peer past y) x (so.peers y ∙ (h.0 ∙ far)) i) refl
    puts_out (controls {y = y} {c = c} m f e d) h x i = heard_out y x c (h.0 ∙ far) i
    puts_out (notifies {y = y} {notice = notice} {told = told} r o e w s f p) h x i =
        lands_none y x (wire.control (control_of notice told)) [] (h.0 ∙ far) i
    puts_out (closes_pending {p = p} o e) h x i = maybe_out (is_gone past p.end || is_local past p) p.end x (p.id ∷ []) (h.0 ∙ far) i
    puts_out (closes_end {y = y} {id = n} r k o e) h x i = maybe_out (n == 0) y x (n ∷ []) (h.0 ∙ far) i
    puts_out (closes_endpoint {y = y} {id = n} r k o e) h x i = maybe_out (n == 0) y x (n ∷ []) (h.0 ∙ far) i
    puts_out o h x i = refl

    pub changes_out : {asked : Asked} {told : Told} → Outcome wire seqs past seq asked told → AllIn inside seq.0 (names asked) → (x : EndId) (id : ℕ)
        → inside x.seq ≡ true → changes wire past (written wire past) (endpoint_at wire past) seq told asked x id ≡ endpoint_at wire past x id
    changes_out (binds {x = y} o) h x id i = rw (other inside y x (h.0 ∙ far) i) refl
    changes_out (associating {y = y} main e g q) h x id i = rw (q, other inside y x (h.0 ∙ far) i) refl
    changes_out (attaches {p = p} o g l e) h x id i = rw (other inside p.end x (h.0 ∙ far) i) refl
    changes_out (gets {y = y} m hd r c f e) h x id i = rw (other inside y x (h.0 ∙ far) i) refl
    changes_out (drops {y = y} m f e d) h x id i = rw (other inside y x (h.0 ∙ far) i) refl
    changes_out (controls {y = y} {c = c} m f e d) h x id i = marks_else y x id (endpoint_at wire past x id) (other inside y x (h.0 ∙ far) i) c
    changes_out (closes_pending {p = p} o e) h x id i = rw (other inside p.end x (h.0 ∙ far) i) refl
    changes_out (closes_end {y = y} r k o e) h x id i = rw (other inside y x (h.0 ∙ far) i) refl
    changes_out (closes_endpoint {y = y} r k o e) h x id i = rw (other inside y x (h.0 ∙ far) i) refl
    changes_out o h x id i = refl

    pub draws_out : {asked : Asked} {told : Told} → Outcome wire seqs past seq asked told → AllIn inside seq.0 (names asked) → (x : EndId) (id : ℕ)
        → inside x.seq ≡ true → draws told asked x id ≡ []
    draws_out (calls {y = y} r o ps mk e w bs) h x id i = rw (other inside y x (h.0 ∙ far) i) refl
    draws_out o h x id i = refl

    pub answers_out : {asked : Asked} {told : Told} → Outcome wire seqs past seq asked told → AllIn inside seq.0 (names asked) → (x : EndId) (id : ℕ)
        → inside x.seq ≡ true → answered_by told asked x id ≡ []
    answers_out (gets {y = y} m hd r c f e) h x id i = rw (other inside y x (h.0 ∙ far) i) refl
    answers_out o h x id i = refl

    behind_all : (xs : List Thing) (ts : List ℕ) → AllIn inside seq.0 (seqs_of xs ++ ts) → AllIn inside seq.0 ts
    behind_all [] ts h = h
    behind_all (x ∷ xs) ts h = behind_all xs ts h.1

    pub gives_out : {asked : Asked} {told : Told} → Outcome wire seqs past seq asked told → AllIn inside seq.0 (names asked) → (p : PendingId)
        → inside p.end.seq ≡ true → has_pending (pendings_given told asked) p ≡ false
    gives_out (attaches {p = q} o g l e) h p i = one_pending inside q p (h.0 ∙ far) i
    gives_out (calls {s = s} r o ps mk e w bs) h p i =
        no_pending inside seq.0 s.pendings p far (behind_all s.handles (seqs_of_pendings s.pendings) h.1) i
    gives_out (answers {s = s} r o rs ps e w bs) h p i =
        no_pending inside seq.0 s.pendings p far (behind_all s.handles (seqs_of_pendings s.pendings) h.1) i
    gives_out (closes_pending {p = q} o e) h p i = one_pending inside q p (h.0 ∙ far) i
    gives_out o h p i = refl

    pub hands_out : {asked : Asked} {told : Told} → Outcome wire seqs past seq asked told → AllIn inside seq.0 (names asked) → (p : PendingId)
        → inside p.end.seq ≡ true → has_pending (pendings_handed told) p ≡ false
    hands_out (associating {y = y} {p = q} main e g k) h p i = one_pending inside q p (rw k (h.0 ∙ far)) i
    hands_out (gets {y = y} m hd r c f e) h p i = subst (λ t. has_pending (pendings_handed t) p ≡ false) (sym e) (
        at_is y (picked (map (λ (n : Named). n.index) c.ids) 0 hd.ids) p ∙ rw (other inside y p.end (h.0 ∙ far) i) refl)
    hands_out o h p i = refl

    pub after_out : {asked : Asked} {told : Told} → Outcome wire seqs past seq asked told → AllIn inside seq.0 (names asked) → (rs : List ResponderId)
        → filter (answers_here inside) (responders_after told asked rs) ≡ filter (answers_here inside) rs
    after_out (answers {q = q} r o qs ps e w bs) h rs = less_out inside q rs (h.0 ∙ far)
    after_out (closes_responder {q = q} e) h rs = less_out inside q rs (h.0 ∙ far)
    after_out o h rs = refl

    pub responders_none : {asked : Asked} {told : Told} → Outcome wire seqs past seq asked told → AllIn inside seq.0 (names asked)
        → filter (answers_here inside) (responders_handed wire told asked) ≡ []
    responders_none (gets {y = y} m hd r c f {g = g} e) h = go (not (is_response g.target.side) && wire.responds g.target.interface g.target.method)
      where
        go : (b : Bool) → filter (answers_here inside)
            (if b then record { end = y; id = g.id; request = g.request; interface = g.target.interface; method = g.target.method } ∷ [] else []) ≡ []
        go true = rw (h.0 ∙ far) refl
        go false = refl
    responders_none o h = refl

    -- ## Queries, flushes and waits

    pub queries_out : {asked : Asked} {told : Told} → Outcome wire seqs past seq asked told → AllIn inside seq.0 (names asked) → (x : EndId) (id : ℕ)
        → inside x.seq ≡ true → queries told asked x id ≡ 0
    queries_out (notifies {y = y} {notice = notice} {told = told} r o e w s f p) h x id i = queries_else y x id (other inside y x (h.0 ∙ far) i) told notice
    queries_out o h x id i = refl

    pub versions_out : {asked : Asked} {told : Told} → Outcome wire seqs past seq asked told → AllIn inside seq.0 (names asked) → (x : EndId) (id : ℕ)
        → inside x.seq ≡ true → versions told asked x id ≡ 0
    versions_out (controls {y = y} {c = c} m f e d) h x id i = versions_else y x id (other inside y x (h.0 ∙ far) i) c
    versions_out o h x id i = refl

    pub flushes_out : {asked : Asked} {told : Told} → Outcome wire seqs past seq asked told → AllIn inside seq.0 (names asked) → (x : EndId)
        → inside x.seq ≡ true → flushes told asked x ≡ []
    flushes_out (notifies {y = y} {notice = notice} {told = told} r o e w s f p) h x i = flushes_else y x (other inside y x (h.0 ∙ far) i) told notice
    flushes_out o h x i = refl

    pub meets_out : {asked : Asked} {told : Told} → Outcome wire seqs past seq asked told → AllIn inside seq.0 (names asked) → (x : EndId) (k : ℕ)
        → inside x.seq ≡ true → meets told asked x k ≡ false
    meets_out (controls {y = y} {c = c} m f e d) h x k i = meets_else y x k (other inside y x (h.0 ∙ far) i) c
    meets_out o h x k i = refl

    pub waits_out : {asked : Asked} {told : Told} → Outcome wire seqs past seq asked told → AllIn inside seq.0 (names asked) → (x : EndId)
        → inside x.seq ≡ true → waits_by told asked x ≡ []
    waits_out (pauses {b = y} rb ra e f g s) h x i = rw (other inside y x (h.0 ∙ far) i) refl
    waits_out o h x i = refl

    -- ## Data pipes

    pub pipe_out : {asked : Asked} {told : Told} → Outcome wire seqs past seq asked told → AllIn inside seq.0 (names asked) → (t : TokenId)
        → inside t.seq ≡ true → (before : Option DataPipe) → pipe_by told asked t before ≡ before
    pipe_out (pipes {p = p} {q = q} z e f) h t i before =
        let fp : inside p.seq ≡ false = rw e far in
        let fq : inside q.seq ≡ false = rw f far in
        rw (other_token inside p t fp i, other_token inside q t fq i) refl
    pipe_out o h t i before = refl

    pub fills_out : {asked : Asked} {told : Told} → Outcome wire seqs past seq asked told → AllIn inside seq.0 (names asked) → (t : TokenId)
        → inside t.seq ≡ true → fills told asked t ≡ []
    fills_out (flows {t = u} {f = f} {told = w} d o e k) h t i = fills_else u t (other_token inside u t (h.0 ∙ far) i) w (Token u) f
    fills_out o h t i = refl

    pub drains_out : {asked : Asked} {told : Told} → Outcome wire seqs past seq asked told → AllIn inside seq.0 (names asked) → (t : TokenId)
        → inside t.seq ≡ true → (before : Begun) → drains told asked t before ≡ []
    drains_out (flows {t = u} {f = f} {told = w} d o e k) h t i before = drains_else u t (other_token inside u t (h.0 ∙ far) i) w (Token u) f before
    drains_out o h t i before = refl

    pub begun_out : {asked : Asked} {told : Told} → Outcome wire seqs past seq asked told → AllIn inside seq.0 (names asked) → (t : TokenId)
        → inside t.seq ≡ true → (before : Begun) → begun_by told asked t before ≡ before
    begun_out (flows {t = u} {f = f} {told = w} d o e k) h t i before = begun_else u t (other_token inside u t (h.0 ∙ far) i) w (Token u) f before
    begun_out o h t i before = refl
