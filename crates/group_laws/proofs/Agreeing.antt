-- What a history says at the things of a group is what the group's own events say.
use Rattle.std.proofs.Common.{◌≡◌, ℕ, ◌+◌, Bool, true, false, List, [], ◌∷◌, ◌++◌, refl, sym, ap, ◌∙◌, arith}
use Rattle.std.specs.Prelude.{if◌then◌else◌, ◌||◌, ◌&&◌, ◌==◌, not, filter, Option, Some}
use Rattle.std.proofs.Math.Path.{fun_ext}
use Rattle.std.proofs.lemmas.List.{append-nil}
use Rattle.std.proofs.lemmas.List.Elements.{filter-append}
use Rattle.std.specs.List.{list_any}
use Rattle.mj_base.specs.declared.ids.EndId.{EndId}
use Rattle.mj_base.specs.declared.ids.SeqId.{SeqId}
use Rattle.handle_table.specs.declared.thing.Thing.{Thing}
use Rattle.handle_table.specs.declared.thing.Thing.TheVariants.{End}
use Rattle.bind_model.specs.declared.endpoint.PendingId.{PendingId}
use Rattle.bind_model.specs.declared.endpoint.ResponderId.{ResponderId}
use Rattle.bind_model.specs.declared.endpoint.Endpoint.{Endpoint}
use Rattle.bind_model.specs.declared.asked.Asked.{Asked}
use Rattle.control_bytes.specs.declared.control.Control.{Control as ControlType}
use Rattle.control_bytes.specs.declared.control.Control.TheVariants as says
use Rattle.bind_model.specs.declared.told.Noted.{Noted}
use Rattle.bind_model.specs.declared.told.Noted.TheVariants as noted
use Rattle.bind_model.specs.declared.told.Told.{Told}
use Rattle.bind_model.specs.declared.told.Told.TheVariants.{Taken, Dropped}
use Rattle.bind_model.specs.declared.event.Event.{Event}
use Rattle.handle_table.specs.Things.{same_end, has, without}
use Rattle.bind_model.specs.Wire.{Wire}
use Rattle.bind_model.specs.Data.{pipe_of, pipe_by, filled, fills, begun, begun_by, drained, drains}
use Rattle.bind_model.specs.Notices.{queried, queries, versioned, versions, flushed, flushes, has_met, meets, waits, waits_by}
use Rattle.bind_model.specs.Machine.{bounds, bound_by, made, made_by, peer_by, gone, gone_by, is_gone, is_local, out, given, handed, taken, takes}
use Rattle.bind_model.specs.Machine.{associated, associates, written, endpoint_at, puts, changes, emits, emits_for, enters, entry_in, marks, closed_ids}
use Rattle.bind_model.specs.Machine.{Endpoints, Entry}
use Rattle.bind_model.specs.Replies.{drawn, draws, answered, answers as answered_by, pendings_given, pendings_handed, pendings_out, has_pending}
use Rattle.bind_model.specs.Replies.{responders_after, responders_handed, responders_out, is_response}
use Rattle.group_laws.specs.Apart.{names}
use Rattle.handle_table.proofs.ThingsLemmas.{has-append, has-without_is}
use Rattle.bind_model.proofs.PendingLists.{more_is}
use Rattle.group_laws.proofs.Holding.{AllIn, Holds}
use Rattle.bind_model.proofs.Outcomes.{Outcome, binds, associates as associating, attaches, calls, answers, writes, gets, drops, controls, closes_pending, closes_responder, closes_end, closes_endpoint, notifies}
use Rattle.group_laws.proofs.Sides.{no_other}
use Rattle.group_laws.proofs.Agrees.{Agrees, is_mine, answers_here}
use Rattle.group_laws.proofs.Lists.{filter_none, filter_all, less_in}
use Rattle.group_laws.proofs.Outside.{bound_side, made_side, handed_side, goes_side, given_side, peer_out, takes_out, associates_out, puts_out, changes_out}
use Rattle.group_laws.proofs.Outside.{draws_out, answers_out, gives_out, hands_out, after_out, responders_none, queries_out, versions_out, flushes_out}
use Rattle.group_laws.proofs.Outside.{meets_out, waits_out, pipe_out, fills_out, drains_out, begun_out}

out_is : (gives xs hands : List Thing) (z : Thing) → has (without gives xs ++ hands) z ≡ ((has xs z && not (has gives z)) || has hands z)
out_is gives xs hands z = has-append (without gives xs) hands z ∙ ap (λ b. b || has hands z) (has-without_is gives xs z)

or_none : (b : Bool) → (b || false) ≡ b
or_none true = refl
or_none false = refl

stays_out : (b : Bool) → ((b && true) || false) ≡ b
stays_out true = refl
stays_out false = refl

more_none : (n m : ℕ) → m ≡ 0 → n + m ≡ n
more_none n m e = omega (arith, e)

pub agrees_none : (inside : ℕ → Bool) (wire : Wire) → Agrees inside wire [] []
agrees_none inside wire = record {
  peers = λ x i. refl;
  gone = λ z i. refl;
  out = λ z i. refl;
  bounds = λ z i. refl;
  taken = λ x i. refl;
  associated = λ x i. refl;
  written = λ x i. refl;
  endpoints = λ x i. refl;
  drawn = λ x id i. refl;
  answered = λ x id i. refl;
  pendings = λ p i. refl;
  responders = refl;
  made = refl;
  queried = λ x id i. refl;
  versioned = λ x id i. refl;
  flushed = λ x i. refl;
  met = λ x k i. refl;
  waits = λ x i. refl;
  pipes = λ t i. refl;
  begun = λ t i. refl;
  filled = λ t i. refl;
  drained = λ t i. refl;
}

module _ (inside : ℕ → Bool) (wire : Wire) (seqs : ℕ) (past sub : List Event) (event : Event) (so : Holds inside wire past)
    (ag : Agrees inside wire past sub) (o : Outcome wire seqs past event.seq event.asked event.told)
    (h : AllIn inside event.seq.0 (names event.asked)) where
  abbrev asked : Asked
  asked = event.asked

  abbrev told : Told
  told = event.told

  -- an event of others
  pub agrees_out : inside event.seq.0 ≡ false → Agrees inside wire (event ∷ past) sub
  agrees_out far = record {
    peers = λ x i. peer_out inside wire past so seqs event.seq far o h x i ∙ ag.peers x i;
    gone = λ z i.
        has-append (gone past) (gone_by told) z
        ∙ (ap (λ b. has (gone past) z || b) (no_other inside (gone_by told) z (goes_side inside wire past so seqs event.seq false far o h) i)
        ∙ (or_none (has (gone past) z) ∙ ag.gone z i));
    out = λ z i.
        out_is (given told asked) (out past) (handed told) z
        ∙ (ap (λ b. (has (out past) z && not b) || has (handed told) z)
        (no_other inside (given told asked) z (given_side inside wire past so seqs event.seq false far o h) i)
        ∙ (ap (λ b. (has (out past) z && true) || b) (no_other inside (handed told) z (handed_side inside wire past so seqs event.seq false far o h) i)
        ∙ (stays_out (has (out past) z) ∙ ag.out z i)));
    bounds = λ z i.
        has-append (bounds past) (bound_by told) z
        ∙ (ap (λ b. has (bounds past) z || b) (no_other inside (bound_by told) z (bound_side inside wire past so seqs event.seq false far o h) i)
        ∙ (or_none (has (bounds past) z) ∙ ag.bounds z i));
    taken = λ x i.
        ap (λ ts. taken past x ++ ts) (takes_out inside wire past so seqs event.seq far o h x i) ∙ (append-nil (taken past x) ∙ ag.taken x i);
    associated = λ x i.
        ap (λ ts. associated past x ++ ts) (associates_out inside wire past so seqs event.seq far o h x i)
        ∙ (append-nil (associated past x) ∙ ag.associated x i);
    written = λ x i.
        ap (λ ms. written wire past x ++ ms) (puts_out inside wire past so seqs event.seq far o h x i)
        ∙ (append-nil (written wire past x) ∙ ag.written x i);
    endpoints = λ x i.
        let e : endpoint_at wire (event ∷ past) x
        ≡ endpoint_at wire past x = fun_ext (λ id. changes_out inside wire past so seqs event.seq far o h x id i) in
        e ∙ ag.endpoints x i;
    drawn = λ x id i.
        ap (λ ts. drawn past x id ++ ts) (draws_out inside wire past so seqs event.seq far o h x id i)
        ∙ (append-nil (drawn past x id) ∙ ag.drawn x id i);
    answered = λ x id i.
        ap (λ ts. answered past x id ++ ts) (answers_out inside wire past so seqs event.seq far o h x id i)
        ∙ (append-nil (answered past x id) ∙ ag.answered x id i);
    pendings = λ p i.
        more_is (pendings_given told asked) (pendings_out past) (pendings_handed told) p
        ∙ (ap (λ b. (has_pending (pendings_out past) p && not b) || has_pending (pendings_handed told) p)
        (gives_out inside wire past so seqs event.seq far o h p i)
        ∙ (ap (λ b. (has_pending (pendings_out past) p && true) || b) (hands_out inside wire past so seqs event.seq far o h p i)
        ∙ (stays_out (has_pending (pendings_out past) p) ∙ ag.pendings p i)));
    responders =
        filter-append (answers_here inside) (responders_after told asked (responders_out wire past)) (responders_handed wire told asked)
        ∙ (ap (λ rs. rs ++ filter (answers_here inside) (responders_handed wire told asked))
        (after_out inside wire past so seqs event.seq far o h (responders_out wire past))
        ∙ (ap (λ rs. filter (answers_here inside) (responders_out wire past) ++ rs) (responders_none inside wire past so seqs event.seq far o h)
        ∙ (append-nil (filter (answers_here inside) (responders_out wire past)) ∙ ag.responders)));
    made =
        filter-append (is_mine inside) (made past) (made_by told)
        ∙ (ap (λ xs. filter (is_mine inside) (made past) ++ xs)
        (filter_none inside (made_by told) (made_side inside wire past so seqs event.seq false far o h))
        ∙ (append-nil (filter (is_mine inside) (made past)) ∙ ag.made));
    queried = λ x id i.
        more_none (queried past x id) (queries told asked x id) (queries_out inside wire past so seqs event.seq far o h x id i) ∙ ag.queried x id i;
    versioned = λ x id i.
        more_none (versioned past x id) (versions told asked x id) (versions_out inside wire past so seqs event.seq far o h x id i)
        ∙ ag.versioned x id i;
    flushed = λ x i.
        ap (λ ks. flushed past x ++ ks) (flushes_out inside wire past so seqs event.seq far o h x i) ∙ (append-nil (flushed past x) ∙ ag.flushed x i);
    met = λ x k i.
        ap (λ b. has_met past x k || b) (meets_out inside wire past so seqs event.seq far o h x k i) ∙ (or_none (has_met past x k) ∙ ag.met x k i);
    waits = λ x i. ap (λ ws. waits past x ++ ws) (waits_out inside wire past so seqs event.seq far o h x i) ∙ (append-nil (waits past x) ∙ ag.waits x i);
    pipes = λ t i. pipe_out inside wire past so seqs event.seq far o h t i (pipe_of past t) ∙ ag.pipes t i;
    begun = λ t i. begun_out inside wire past so seqs event.seq far o h t i (begun past t) ∙ ag.begun t i;
    filled = λ t i.
        ap (λ bs. filled past t ++ bs) (fills_out inside wire past so seqs event.seq far o h t i) ∙ (append-nil (filled past t) ∙ ag.filled t i);
    drained = λ t i.
        ap (λ bs. drained past t ++ bs) (drains_out inside wire past so seqs event.seq far o h t i (begun past t))
        ∙ (append-nil (drained past t) ∙ ag.drained t i);
  }

-- ## An event of the group

module _ (inside : ℕ → Bool) (wire : Wire) (past sub : List Event) (ag : Agrees inside wire past sub) where
  pub local_same : (p : PendingId) → inside p.end.seq ≡ true → is_local past p ≡ is_local sub p
  local_same p i = ap (λ ids. list_any (λ id. id == p.id) ids) (ag.associated p.end i)

  pub at_same : (x : EndId) (id : ℕ) → inside x.seq ≡ true → endpoint_at wire past x id ≡ endpoint_at wire sub x id
  at_same x id i = ap (λ (e : Endpoints). e id) (ag.endpoints x i)

  emits_same : (y x : EndId) (control : ℕ → ControlType) (ids : List ℕ) → inside y.seq ≡ true → inside x.seq ≡ true
      → emits wire past y (endpoint_at wire past y) control ids x ≡ emits wire sub y (endpoint_at wire sub y) control ids x
  emits_same y x control ids j i = rw (ag.peers y j, ag.gone (End x) i, ag.endpoints y j) refl

  maybe_same : (b : Bool) (y x : EndId) (ids : List ℕ) → inside y.seq ≡ true → inside x.seq ≡ true
      → (if b then [] else emits wire past y (endpoint_at wire past y) says.Closed ids x)
      ≡ (if b then [] else emits wire sub y (endpoint_at wire sub y) says.Closed ids x)
  maybe_same true y x ids j i = refl
  maybe_same false y x ids j i = emits_same y x says.Closed ids j i

  heard_same : (y x : EndId) (c : Noted) → inside y.seq ≡ true → inside x.seq ≡ true
      → emits_for wire past y (endpoint_at wire past y) c x ≡ emits_for wire sub y (endpoint_at wire sub y) c x
  heard_same y x (noted.Queried id (Some v)) j i = emits_same y x (λ n. says.Version n v) (id ∷ []) j i
  heard_same y x c j i = refl

  enters_same : (y : EndId) (told : Told) → inside y.seq ≡ true
      → enters wire past y (written wire past y) (endpoint_at wire past y) told ≡ enters wire sub y (written wire sub y) (endpoint_at wire sub y) told
  enters_same y told j = rw (ag.gone (End y) j, ag.taken y j, ag.written y j, ag.endpoints y j) refl

  read_same : (y x : EndId) (told : Told) → inside y.seq ≡ true → inside x.seq ≡ true
      → emits wire past y (endpoint_at wire past y) says.Closed (closed_ids (enters wire past y (written wire past y) (endpoint_at wire past y) told)) x
      ≡ emits wire sub y (endpoint_at wire sub y) says.Closed (closed_ids (enters wire sub y (written wire sub y) (endpoint_at wire sub y) told)) x
  read_same y x told j i =
      ap (λ (es : List Entry). emits wire past y (endpoint_at wire past y) says.Closed (closed_ids es) x) (enters_same y told j)
      ∙ emits_same y x says.Closed (closed_ids (enters wire sub y (written wire sub y) (endpoint_at wire sub y) told)) j i

  entry_same : (y x : EndId) (id : ℕ) (told : Told) → inside y.seq ≡ true → inside x.seq ≡ true
      → (if same_end y x then entry_in (enters wire past y (written wire past y) (endpoint_at wire past y) told) id (endpoint_at wire past x id)
      else endpoint_at wire past x id)
      ≡ (if same_end y x then entry_in (enters wire sub y (written wire sub y) (endpoint_at wire sub y) told) id (endpoint_at wire sub x id)
      else endpoint_at wire sub x id)
  entry_same y x id told j i =
      ap (λ (es : List Entry). if same_end y x then entry_in es id (endpoint_at wire past x id) else endpoint_at wire past x id) (enters_same y told j)
      ∙ ap (λ (e : Option Endpoint). if same_end y x then entry_in (enters wire sub y (written wire sub y) (endpoint_at wire sub y) told) id e else e)
      (at_same x id i)

  module _ (seqs : ℕ) (seq : SeqId) (near : inside seq.0 ≡ true) where
    puts_same : {asked : Asked} {told : Told} → Outcome wire seqs past seq asked told → AllIn inside seq.0 (names asked) → (x : EndId)
        → inside x.seq ≡ true
        → puts wire past (written wire past) (endpoint_at wire past) told asked x ≡ puts wire sub (written wire sub) (endpoint_at wire sub) told asked x
    puts_same (calls {y = y} r o ps mk e w bs) h x i = rw (ag.peers y (h.0 ∙ near)) refl
    puts_same (answers {q = q} r o rs ps e w bs) h x i = rw (ag.peers q.end (h.0 ∙ near)) refl
    puts_same (writes {x = y} o w) h x i = rw (ag.peers y (h.0 ∙ near)) refl
    puts_same (gets {y = y} m hd r c f {g = g} e) h x i = read_same y x (Taken g) (h.0 ∙ near) i
    puts_same (drops {y = y} {id = n} {goes = goes} m f e d) h x i = read_same y x (Dropped n goes) (h.0 ∙ near) i
    puts_same (controls {y = y} {c = c} m f e d) h x i = heard_same y x c (h.0 ∙ near) i
    puts_same (notifies {y = y} r o e w s f p) h x i = rw (ag.peers y (h.0 ∙ near)) refl
    puts_same (closes_pending {p = p} o e) h x i =
        let j : inside p.end.seq ≡ true = h.0 ∙ near in
        ap (λ b. if b then [] else emits wire past p.end (endpoint_at wire past p.end) says.Closed (p.id ∷ []) x) (shut j)
        ∙ maybe_same (is_gone sub p.end || is_local sub p) p.end x (p.id ∷ []) j i
      where
        shut : inside p.end.seq ≡ true → (is_gone past p.end || is_local past p) ≡ (is_gone sub p.end || is_local sub p)
        shut j = ap (λ b. b || is_local past p) (ag.gone (End p.end) j) ∙ ap (λ b. is_gone sub p.end || b) (local_same p j)
    puts_same (closes_end {y = y} {id = n} r k o e) h x i = maybe_same (n == 0) y x (n ∷ []) (h.0 ∙ near) i
    puts_same (closes_endpoint {y = y} {id = n} r k o e) h x i = maybe_same (n == 0) y x (n ∷ []) (h.0 ∙ near) i
    puts_same o h x i = refl

    changes_same : {asked : Asked} {told : Told} → Outcome wire seqs past seq asked told → AllIn inside seq.0 (names asked) → (x : EndId) (id : ℕ)
        → inside x.seq ≡ true → changes wire past (written wire past) (endpoint_at wire past) seq told asked x id
        ≡ changes wire sub (written wire sub) (endpoint_at wire sub) seq told asked x id
    changes_same (binds {x = y} k) h x id i = rw (at_same x id i) refl
    changes_same (associating main e g q) h x id i = rw (at_same x id i) refl
    changes_same (attaches k g l e) h x id i = rw (at_same x id i) refl
    changes_same (gets {y = y} m hd r c f {g = g} e) h x id i = entry_same y x id (Taken g) (h.0 ∙ near) i
    changes_same (drops {y = y} {id = n} {goes = goes} m f e d) h x id i = entry_same y x id (Dropped n goes) (h.0 ∙ near) i
    changes_same (controls {y = y} {c = c} m f e d) h x id i = ap (λ o. marks y c x id o) (at_same x id i)
    changes_same (closes_pending {p = p} k e) h x id i = rw (at_same x id i, local_same p (h.0 ∙ near)) refl
    changes_same (closes_end r k o e) h x id i = rw (at_same x id i) refl
    changes_same (closes_endpoint r k o e) h x id i = rw (at_same x id i) refl
    changes_same o h x id i = at_same x id i

    after_in : {asked : Asked} {told : Told} → Outcome wire seqs past seq asked told → AllIn inside seq.0 (names asked) → (rs : List ResponderId)
        → filter (answers_here inside) (responders_after told asked rs) ≡ responders_after told asked (filter (answers_here inside) rs)
    after_in (answers {q = q} r o qs ps e w bs) h rs = less_in inside q rs (h.0 ∙ near)
    after_in (closes_responder {q = q} e) h rs = less_in inside q rs (h.0 ∙ near)
    after_in o h rs = refl

    responders_all : {asked : Asked} {told : Told} → Outcome wire seqs past seq asked told → AllIn inside seq.0 (names asked)
        → filter (answers_here inside) (responders_handed wire told asked) ≡ responders_handed wire told asked
    responders_all (gets {y = y} m hd r c f {g = g} e) h = go (not (is_response g.target.side) && wire.responds g.target.interface g.target.method)
      where
        go : (b : Bool) → filter (answers_here inside)
            (if b then record { end = y; id = g.id; request = g.request; interface = g.target.interface; method = g.target.method } ∷ [] else [])
            ≡ (if b then record { end = y; id = g.id; request = g.request; interface = g.target.interface; method = g.target.method } ∷ [] else [])
        go true = rw (h.0 ∙ near) refl
        go false = refl
    responders_all o h = refl

module _ (inside : ℕ → Bool) (wire : Wire) (seqs : ℕ) (past sub : List Event) (event : Event) (so : Holds inside wire past)
    (ag : Agrees inside wire past sub) (o : Outcome wire seqs past event.seq event.asked event.told)
    (h : AllIn inside event.seq.0 (names event.asked)) where
  pub agrees_in : inside event.seq.0 ≡ true → Agrees inside wire (event ∷ past) (event ∷ sub)
  agrees_in near = record {
    peers = λ x i. ap (λ y. peer_by event.told x y) (ag.peers x i);
    gone = λ z i.
        has-append (gone past) (gone_by event.told) z
        ∙ (ap (λ b. b || has (gone_by event.told) z) (ag.gone z i) ∙ sym (has-append (gone sub) (gone_by event.told) z));
    out = λ z i.
        out_is (given event.told event.asked) (out past) (handed event.told) z
        ∙ (ap (λ b. (b && not (has (given event.told event.asked) z)) || has (handed event.told) z) (ag.out z i)
        ∙ sym (out_is (given event.told event.asked) (out sub) (handed event.told) z));
    bounds = λ z i.
        has-append (bounds past) (bound_by event.told) z
        ∙ (ap (λ b. b || has (bound_by event.told) z) (ag.bounds z i) ∙ sym (has-append (bounds sub) (bound_by event.told) z));
    taken = λ x i. ap (λ ts. ts ++ takes event.told event.asked x) (ag.taken x i);
    associated = λ x i. ap (λ ts. ts ++ associates event.told x) (ag.associated x i);
    written = λ x i.
        ap (λ ms. ms ++ puts wire past (written wire past) (endpoint_at wire past) event.told event.asked x) (ag.written x i)
        ∙ ap (λ ms. written wire sub x ++ ms) (puts_same inside wire past sub ag seqs event.seq near o h x i);
    endpoints = λ x i. fun_ext (λ id. changes_same inside wire past sub ag seqs event.seq near o h x id i);
    drawn = λ x id i. ap (λ ts. ts ++ draws event.told event.asked x id) (ag.drawn x id i);
    answered = λ x id i. ap (λ ts. ts ++ answered_by event.told event.asked x id) (ag.answered x id i);
    pendings = λ p i.
        more_is (pendings_given event.told event.asked) (pendings_out past) (pendings_handed event.told) p
        ∙ (ap (λ b. (b && not (has_pending (pendings_given event.told event.asked) p)) || has_pending (pendings_handed event.told) p) (ag.pendings p i)
        ∙ sym (more_is (pendings_given event.told event.asked) (pendings_out sub) (pendings_handed event.told) p));
    responders =
        filter-append (answers_here inside) (responders_after event.told event.asked (responders_out wire past))
        (responders_handed wire event.told event.asked)
        ∙ (ap (λ rs. rs ++ filter (answers_here inside) (responders_handed wire event.told event.asked))
        (after_in inside wire past sub ag seqs event.seq near o h (responders_out wire past))
        ∙ (ap (λ rs. responders_after event.told event.asked (filter (answers_here inside) (responders_out wire past)) ++ rs)
        (responders_all inside wire past sub ag seqs event.seq near o h)
        ∙ ap (λ rs. responders_after event.told event.asked rs ++ responders_handed wire event.told event.asked) ag.responders));
    made =
        filter-append (is_mine inside) (made past) (made_by event.told)
        ∙ (ap (λ xs. filter (is_mine inside) (made past) ++ xs)
        (filter_all inside (made_by event.told) (made_side inside wire past so seqs event.seq true near o h))
        ∙ ap (λ xs. xs ++ made_by event.told) ag.made);
    queried = λ x id i. ap (λ n. n + queries event.told event.asked x id) (ag.queried x id i);
    versioned = λ x id i. ap (λ n. n + versions event.told event.asked x id) (ag.versioned x id i);
    flushed = λ x i. ap (λ ks. ks ++ flushes event.told event.asked x) (ag.flushed x i);
    met = λ x k i. ap (λ b. b || meets event.told event.asked x k) (ag.met x k i);
    waits = λ x i. ap (λ ws. ws ++ waits_by event.told event.asked x) (ag.waits x i);
    pipes = λ t i. ap (λ o. pipe_by event.told event.asked t o) (ag.pipes t i);
    begun = λ t i. ap (λ b. begun_by event.told event.asked t b) (ag.begun t i);
    filled = λ t i. ap (λ bs. bs ++ fills event.told event.asked t) (ag.filled t i);
    drained = λ t i.
        ap (λ bs. bs ++ drains event.told event.asked t (begun past t)) (ag.drained t i)
        ∙ ap (λ b. drained sub t ++ drains event.told event.asked t b) (ag.begun t i);
  }
