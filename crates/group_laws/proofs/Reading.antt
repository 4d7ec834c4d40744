-- What the tests of a command of a group read is what the group's own events say.
use Rattle.std.proofs.Common.{◌≡◌, ℕ, ◌+◌, Bool, true, false, List, [], ◌∷◌, length, refl, sym, ap, ◌∙◌}
use Rattle.std.specs.Prelude.{if◌then◌else◌, ◌&&◌, ◌==◌, not, filter, Option, Some, None}
use Rattle.std.specs.List.{list_any, list_all, count_by}
use Rattle.std.proofs.lemmas.List.Sums.{length-filter}
use Rattle.std.proofs.lemmas.Bool.{eqb-true}
use Rattle.mj_base.specs.declared.ids.EndId.{EndId}
use Rattle.handle_table.specs.declared.thing.Thing.{Thing}
use Rattle.handle_table.specs.declared.thing.Thing.TheVariants.{End, Token}
use Rattle.handle_table.specs.declared.thing.TokenId.{TokenId}
use Rattle.wire_encoder.specs.declared.endpoint.WantedEndpoint.{WantedEndpoint}
use Rattle.bind_model.specs.declared.asked.Notice.{Notice}
use Rattle.bind_model.specs.declared.asked.Notice.TheVariants.{Query, Require, Flush}
use Rattle.bind_model.specs.declared.asked.Outgoing.{Outgoing}
use Rattle.bind_model.specs.declared.endpoint.Endpoint.{Endpoint}
use Rattle.bind_model.specs.declared.endpoint.PendingId.{PendingId}
use Rattle.bind_model.specs.declared.endpoint.ResponderId.{ResponderId}
use Rattle.bind_model.specs.declared.event.Event.{Event}
use Rattle.bind_model.specs.declared.flow.Flow.{Flow}
use Rattle.bind_model.specs.declared.flow.Flow.TheVariants as to_flow
use Rattle.bind_model.specs.declared.told.Notified.TheVariants.{Flushing}
use Rattle.handle_table.specs.Things.{has, seq_of, is_end, is_distinct}
use Rattle.bind_model.specs.Data.{DataPipe, pipe_of, data_held}
use Rattle.bind_model.specs.Machine.{made, peer, is_gone, is_local, out, endpoint_at, unread, other_side}
use Rattle.bind_model.specs.Notices.{query_pends, Wait, waits, first_unmet}
use Rattle.bind_model.specs.Replies.{serials, tokens, joined, all_out, all_pending, has_pending, pendings_out, distinct_pendings, suits, all_suit}
use Rattle.bind_model.specs.Replies.{same_side, wrong_pipe, is_full, busy, cannot_write, wrong_tokens, same_responder, responders_out, is_asked, pause_of}
use Rattle.bind_model.specs.Replies.{paused, told_of, moved, moved_at, moved_by}
use Rattle.bind_model.specs.Wire.{Wire}
use Rattle.group_laws.specs.Apart.{seqs_of_pendings}
use Rattle.group_laws.proofs.Agrees.{Agrees, is_mine, answers_here}
use Rattle.group_laws.proofs.Agreeing.{local_same, at_same}
use Rattle.group_laws.proofs.Holding.{AllIn, Holds, Piped, Waiting}
use Rattle.group_laws.proofs.Lists.{same_at, found_in}
use Rattle.group_laws.proofs.Sides.{Side, side_first, side_rest}

-- what is picked or counted is of the group
pick_mine : {X : Type 0} (mine p : X → Bool) → ((x : X) → p x ≡ true → mine x ≡ true) → (xs : List X) → filter p xs ≡ filter p (filter mine xs)
pick_mine mine p all [] = refl
pick_mine mine p all (x ∷ xs) = go (p x) (mine x) refl refl (pick_mine mine p all xs)
  where
    go : (b c : Bool) → p x ≡ b → mine x ≡ c → filter p xs ≡ filter p (filter mine xs)
        → (if b then x ∷ filter p xs else filter p xs) ≡ filter p (if c then x ∷ filter mine xs else filter mine xs)
    go true true e k rest = rw (e, rest) refl
    go true false e k rest = absurd (let t : mine x ≡ true = all x e in cc)
    go false true e k rest = rw e rest
    go false false e k rest = rest

pub count_mine : {X : Type 0} (mine p : X → Bool) → ((x : X) → p x ≡ true → mine x ≡ true) → (xs : List X) → count_by p xs ≡ count_by p (filter mine xs)
count_mine mine p all xs = sym (length-filter p xs) ∙ (ap length (pick_mine mine p all xs) ∙ length-filter p (filter mine xs))

-- whether an endpoint, of a pending that was made here or wasn't, is of the side and interface that are wanted
abbrev suits_by : WantedEndpoint → Bool → Option Endpoint → Bool
suits_by n local o = elim o [ None ↦ false | Some r ↦ same_side (if local then other_side r.side else r.side) n.side && (r.interface == n.interface) ]

module _ (inside : ℕ → Bool) (wire : Wire) (past sub : List Event) (so : Holds inside wire past) (ag : Agrees inside wire past sub) where
  -- ## What tests read

  pub gone_same : (x : EndId) → inside x.seq ≡ true → is_gone past x ≡ is_gone sub x
  gone_same x i = ag.gone (End x) i

  pub unread_same : (x : EndId) → inside x.seq ≡ true → unread wire past x ≡ unread wire sub x
  unread_same x i = rw (ag.gone (End x) i, ag.taken x i, ag.written x i) refl

  pub peer_in : (x : EndId) → inside x.seq ≡ true → inside (peer sub x).seq ≡ true
  peer_in x i = ap (λ (y : EndId). inside y.seq) (sym (ag.peers x i)) ∙ (so.peers x ∙ i)

  each_out : (xs : List Thing) → Side inside true xs → list_all (λ x. has (out past) x) xs ≡ list_all (λ x. has (out sub) x) xs
  each_out [] s = refl
  each_out (x ∷ xs) s = rw (ag.out x (side_first inside true x xs s), each_out xs (side_rest inside true x xs s)) refl

  pub all_out_same : (xs : List Thing) → Side inside true xs → all_out past xs ≡ all_out sub xs
  all_out_same xs s = ap (λ b. b && is_distinct xs) (each_out xs s)

  each_pending : (s : ℕ) (ps : List PendingId) → inside s ≡ true → AllIn inside s (seqs_of_pendings ps)
      → list_all (λ p. has_pending (pendings_out past) p) ps ≡ list_all (λ p. has_pending (pendings_out sub) p) ps
  each_pending s [] i h = refl
  each_pending s (p ∷ ps) i h = rw (ag.pendings p (h.0 ∙ i), each_pending s ps i h.1) refl

  pub all_pending_same : (s : ℕ) (ps : List PendingId) → inside s ≡ true → AllIn inside s (seqs_of_pendings ps) → all_pending past ps ≡ all_pending sub ps
  all_pending_same s ps i h = ap (λ b. b && distinct_pendings ps) (each_pending s ps i h)

  suits_same : (p : PendingId) (n : WantedEndpoint) → inside p.end.seq ≡ true → suits wire past p n ≡ suits wire sub p n
  suits_same p n i =
      ap (λ b. suits_by n b (endpoint_at wire past p.end p.id)) (local_same inside wire past sub ag p i)
      ∙ ap (λ o. suits_by n (is_local sub p) o) (at_same inside wire past sub ag p.end p.id i)

  all_suit_same : (s : ℕ) (ps : List PendingId) (ns : List WantedEndpoint) → inside s ≡ true → AllIn inside s (seqs_of_pendings ps)
      → all_suit wire past ps ns ≡ all_suit wire sub ps ns
  all_suit_same s [] [] i h = refl
  all_suit_same s [] (n ∷ ns) i h = refl
  all_suit_same s (p ∷ ps) [] i h = refl
  all_suit_same s (p ∷ ps) (n ∷ ns) i h =
      ap (λ b. b && all_suit wire past ps ns) (suits_same p n (h.0 ∙ i)) ∙ ap (λ b. suits wire sub p n && b) (all_suit_same s ps ns i h.1)

  pub wrong_pipe_same : (y : EndId) (s : ℕ) (ps : List PendingId) → inside s ≡ true → AllIn inside s (seqs_of_pendings ps)
      → wrong_pipe past y ps ≡ wrong_pipe sub y ps
  wrong_pipe_same y s [] i h = refl
  wrong_pipe_same y s (p ∷ ps) i h = rw (local_same inside wire past sub ag p (h.0 ∙ i), wrong_pipe_same y s ps i h.1) refl

  pub wrong_tokens_same : (s : ℕ) (o : Outgoing) → inside s ≡ true → AllIn inside s (seqs_of_pendings o.pendings)
      → wrong_tokens wire past o ≡ wrong_tokens wire sub o
  wrong_tokens_same s o i h = rw (all_suit_same s o.pendings (wire.wants o.target o.parameters) i h) refl

  full_same : (x : EndId) → inside x.seq ≡ true → is_full wire past x ≡ is_full wire sub x
  full_same x i = rw (unread_same x i) refl

  pub busy_same : (xs : List Thing) → Side inside true xs → busy past xs ≡ busy sub xs
  busy_same [] s = refl
  busy_same (End x ∷ xs) s = busy_same xs (side_rest inside true (End x) xs s)
  busy_same (Token t ∷ xs) s = rw (ag.begun t (side_first inside true (Token t) xs s), busy_same xs (side_rest inside true (Token t) xs s)) refl

  pub cannot_write_same : (y : EndId) (b : Bool) (xs : List Thing) → inside y.seq ≡ true → Side inside true xs
      → cannot_write wire past y b xs ≡ cannot_write wire sub y b xs
  cannot_write_same y b xs i s =
      rw (ag.peers y i, busy_same xs s, full_same (peer sub y) (peer_in y i), gone_same (peer sub y) (peer_in y i)) refl

  pub asked_same : (x : EndId) (id request method : ℕ) → inside x.seq ≡ true → is_asked past x id request method ≡ is_asked sub x id request method
  asked_same x id request method i = rw (ag.drawn x id i, ag.answered x id i) refl

  pub responder_same : (r : ResponderId) → inside r.end.seq ≡ true
      → list_any (λ q. same_responder q r) (responders_out wire past) ≡ list_any (λ q. same_responder q r) (responders_out wire sub)
  responder_same r i = found_in inside r (responders_out wire past) i ∙ ap (λ rs. list_any (λ q. same_responder q r) rs) ag.responders

  pub responders_same : (r : ResponderId) → inside r.end.seq ≡ true
      → count_by (λ q. same_responder q r) (responders_out wire past) ≡ count_by (λ q. same_responder q r) (responders_out wire sub)
  responders_same r i =
      count_mine (answers_here inside) (λ q. same_responder q r) (λ q e. same_at inside r q e ∙ i) (responders_out wire past)
      ∙ ap (λ rs. count_by (λ q. same_responder q r) rs) ag.responders

  pub serials_same : (s : ℕ) → inside s ≡ true → serials past s ≡ serials sub s
  serials_same s i =
      count_mine (is_mine inside) (λ x. is_end x && (seq_of x == s)) of (made past) ∙ ap (λ xs. count_by (λ x. is_end x && (seq_of x == s)) xs) ag.made
    where
      of : (x : Thing) → (is_end x && (seq_of x == s)) ≡ true → inside (seq_of x) ≡ true
      of (End x) e = ap inside (eqb-true x.seq s e) ∙ i
      of (Token t) e = absurd cc

  pub tokens_same : (s : ℕ) → inside s ≡ true → tokens past s ≡ tokens sub s
  tokens_same s i =
      count_mine (is_mine inside) (λ x. not (is_end x) && (seq_of x == s)) of (made past)
      ∙ ap (λ xs. count_by (λ x. not (is_end x) && (seq_of x == s)) xs) ag.made
    where
      of : (x : Thing) → (not (is_end x) && (seq_of x == s)) ≡ true → inside (seq_of x) ≡ true
      of (End x) e = absurd cc
      of (Token t) e = ap inside (eqb-true t.seq s e) ∙ i

  pub joined_same : (s t : ℕ) → inside s ≡ true → inside t ≡ true → joined past s t ≡ joined sub s t
  joined_same s t i j = rw (serials_same s i, serials_same t j) refl

  -- ## Queries, flushes and waits

  pub pends_same : (y : EndId) (id : ℕ) → inside y.seq ≡ true
      → query_pends past y id (endpoint_at wire past y id) ≡ query_pends sub y id (endpoint_at wire sub y id)
  pends_same y id i =
      at_row (endpoint_at wire past y id) ∙ ap (λ o. query_pends sub y id o) (at_same inside wire past sub ag y id i)
    where
      at_row : (o : Option Endpoint) → query_pends past y id o ≡ query_pends sub y id o
      at_row None = refl
      at_row (Some r) = rw (ag.versioned y id i, ag.queried y id i) refl

  pub told_same : (y : EndId) (notice : Notice) → inside y.seq ≡ true → told_of past y notice ≡ told_of sub y notice
  told_same y (Query id) i = refl
  told_same y (Require id v) i = refl
  told_same y Flush i = ap (λ ks. Flushing (length ks + 1)) (ag.flushed y i)

  unmet_same : (s : ℕ) (ws : List Wait) → inside s ≡ true → Waiting inside s ws → first_unmet past ws ≡ first_unmet sub ws
  unmet_same s [] i h = refl
  unmet_same s (w ∷ ws) i h = rw (gone_same w.end (h.0 ∙ i), ag.met w.end w.flush (h.0 ∙ i), unmet_same s ws i h.1) refl

  pub paused_same : (y : EndId) → inside y.seq ≡ true → paused past y ≡ paused sub y
  paused_same y i =
      ap pause_of (unmet_same y.seq (waits past y) i (so.waiting y)) ∙ ap (λ ws. pause_of (first_unmet sub ws)) (ag.waits y i)

  -- ## Data pipes

  moved_same : (t : TokenId) (d : DataPipe) (f : Flow) → inside t.seq ≡ true → inside d.producer.seq ≡ true → inside d.consumer.seq ≡ true
      → moved past t d f ≡ moved sub t d f
  moved_same t d (to_flow.Put bytes all) i p c =
      rw (ag.begun t i, ag.gone (Token d.consumer) c, ag.drained d.consumer c, ag.filled d.producer p) refl
  moved_same t d (to_flow.Get n all) i p c = rw (ag.begun t i, ag.gone (Token d.producer) p, ag.drained d.consumer c, ag.filled d.producer p) refl
  moved_same t d to_flow.BeginPut i p c = rw (ag.begun t i, ag.gone (Token d.consumer) c, ag.drained d.consumer c, ag.filled d.producer p) refl
  moved_same t d (to_flow.EndPut bytes) i p c = rw (ag.begun t i, ag.gone (Token d.consumer) c) refl
  moved_same t d to_flow.BeginGet i p c = rw (ag.begun t i, ag.gone (Token d.producer) p, ag.drained d.consumer c, ag.filled d.producer p) refl
  moved_same t d (to_flow.EndGet n) i p c = rw (ag.begun t i) refl

  moved_at_same : (t : TokenId) (f : Flow) → inside t.seq ≡ true → (o : Option DataPipe) → pipe_of past t ≡ o → moved_at past t f o ≡ moved_at sub t f o
  moved_at_same t f i None e = refl
  moved_at_same t f i (Some d) e =
      let s : Piped inside t d = so.piped t d e in
      moved_same t d f i (s.0 ∙ i) (s.1 ∙ i)

  pub moved_by_same : (x : Thing) (f : Flow) → inside (seq_of x) ≡ true → moved_by past x f ≡ moved_by sub x f
  moved_by_same (End x) f i = refl
  moved_by_same (Token t) f i = moved_at_same t f i (pipe_of past t) refl ∙ ap (λ o. moved_at sub t f o) (ag.pipes t i)

  pub held_same : (t : TokenId) (d : DataPipe) → inside t.seq ≡ true → pipe_of past t ≡ Some d → data_held past d ≡ data_held sub d
  held_same t d i e =
      let s : Piped inside t d = so.piped t d e in
      rw (ag.drained d.consumer (s.1 ∙ i), ag.filled d.producer (s.0 ∙ i)) refl
