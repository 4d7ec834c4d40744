-- What is told at a data pipe by itself is what the events give, and so is what it is after that.
use Rattle.std.proofs.Common.{◌≡◌, ℕ, Bool, true, false, List, [], ◌∷◌, length, refl, ◌∙◌, subst, Some, None}
use Rattle.std.specs.Prelude.{◌||◌, ◌==◌, nat_le, nat_lt, not, if◌then◌else◌, Result, Ok}
use Rattle.std.proofs.lemmas.List.{append-nil}
use Rattle.mj_base.specs.declared.ids.SeqId.{SeqId}
use Rattle.handle_table.specs.declared.thing.TokenId.{TokenId}
use Rattle.handle_table.specs.declared.thing.Thing.TheVariants.{Token}
use Rattle.handle_table.specs.Things.{same_token, has}
use Rattle.handle_table.proofs.ThingsLemmas.{same-sym, same-refl, same_token-true}
use Rattle.bind_model.specs.declared.asked.Asked.TheVariants.{Data, Flow as Move}
use Rattle.bind_model.specs.declared.event.Event.{Event}
use Rattle.bind_model.specs.declared.flow.Flow.{Flow}
use Rattle.bind_model.specs.declared.flow.Flow.TheVariants as flows
use Rattle.bind_model.specs.declared.flow.Flowed.{Flowed as FlowedType}
use Rattle.bind_model.specs.declared.flow.Flowed.TheVariants as flowed
use Rattle.bind_model.specs.declared.told.Told.TheVariants.{Made, Flowed, No}
use Rattle.bind_model.specs.declared.told.Why.TheVariants as whys
use Rattle.bind_model.specs.Data.{DataPipe, pipe_of, filled, fills, drained, drains, Begun, Nothing, Space, View, begun, begun_by, is_busy, data_held, data_free}
use Rattle.bind_model.specs.Machine.{gone, made}
use Rattle.bind_model.specs.Moves.{moved, moved_by, space_in, view_in, least_of}
use Rattle.bind_model.specs.Tests.{first_of as first_why, unless as unless_why, is_none}
use Rattle.bind_model.proofs.Cases.{Flows}
use Rattle.bind_model.proofs.DataLemmas.{DataKept, held_next}
use Rattle.data_pipe.specs.declared.refused.DataWhy.{DataWhy}
use Rattle.data_pipe.specs.declared.refused.DataWhy.TheVariants.{Busy, Idle, Disconnected, Full, Short, Empty, PeerClosed, TooLong}
use Rattle.data_pipe.specs.Pipe.{Pipe, empty_pipe, room}
use Rattle.data_pipe.specs.Moving.{unless, first_of, nothing_held, begun_already, nothing_begun, told, after}
use Rattle.data_pipe.specs.History.{told_at, side_of, other_of, pipe_in}
use Rattle.data_pipe.proofs.Flowing.{passed, holds}

-- ## What is told

module _ (t : TokenId) (w : FlowedType) where
  put_told : (busy lost room fits : Bool) (free : ℕ) → told_at t (first_of (
      (if busy then Some Busy else None) ∷ unless (not lost) Disconnected ∷ unless room Full ∷ unless fits (Short free) ∷ []) w)
      ≡ first_why ((if busy then Some (whys.Busy t) else None) ∷ unless_why (not lost) whys.Disconnected ∷ unless_why room whys.Full
      ∷ unless_why fits (whys.Short free) ∷ []) (Flowed t w)
  put_told true lost room fits free = refl
  put_told false true room fits free = refl
  put_told false false false fits free = refl
  put_told false false true false free = refl
  put_told false false true true free = refl

  begin_put_told : (busy lost room : Bool) → told_at t (first_of (
      (if busy then Some Busy else None) ∷ unless (not lost) Disconnected ∷ unless room Full ∷ []) w)
      ≡ first_why ((if busy then Some (whys.Busy t) else None) ∷ unless_why (not lost) whys.Disconnected ∷ unless_why room whys.Full ∷ []) (Flowed t w)
  begin_put_told true lost room = refl
  begin_put_told false true room = refl
  begin_put_told false false false = refl
  begin_put_told false false true = refl

  end_put_told : (busy lost fits : Bool) → told_at t (first_of (
      (if busy then None else Some Idle) ∷ unless (not lost) Disconnected ∷ unless fits TooLong ∷ []) w)
      ≡ first_why ((if busy then None else Some whys.Idle) ∷ unless_why (not lost) whys.Disconnected ∷ unless_why fits whys.TooLong ∷ []) (Flowed t w)
  end_put_told false lost fits = refl
  end_put_told true true fits = refl
  end_put_told true false false = refl
  end_put_told true false true = refl

  get_told : (busy no_bytes nothing lost fits : Bool) (held : ℕ) → told_at t (first_of (
      (if busy then Some Busy else None)
      ∷ (if no_bytes then None else (if nothing then (if lost then Some PeerClosed else Some Empty) else None))
      ∷ unless fits (Short held) ∷ []) w)
      ≡ first_why ((if busy then Some (whys.Busy t) else None)
      ∷ (if no_bytes then None else (if nothing then (if lost then Some whys.PeerClosed else Some whys.Empty) else None))
      ∷ unless_why fits (whys.Short held) ∷ []) (Flowed t w)
  get_told true no_bytes nothing lost fits held = refl
  get_told false true nothing lost false held = refl
  get_told false true nothing lost true held = refl
  get_told false false true true fits held = refl
  get_told false false true false fits held = refl
  get_told false false false lost false held = refl
  get_told false false false lost true held = refl

  begin_get_told : (busy nothing lost : Bool) → told_at t (first_of (
      (if busy then Some Busy else None) ∷ (if nothing then (if lost then Some PeerClosed else Some Empty) else None) ∷ []) w)
      ≡ first_why ((if busy then Some (whys.Busy t) else None)
      ∷ (if nothing then (if lost then Some whys.PeerClosed else Some whys.Empty) else None) ∷ []) (Flowed t w)
  begin_get_told true nothing lost = refl
  begin_get_told false true true = refl
  begin_get_told false true false = refl
  begin_get_told false false lost = refl

  end_get_told : (busy fits : Bool) → told_at t (first_of ((if busy then None else Some Idle) ∷ unless fits TooLong ∷ []) w)
      ≡ first_why ((if busy then None else Some whys.Idle) ∷ unless_why fits whys.TooLong ∷ []) (Flowed t w)
  end_get_told false fits = refl
  end_get_told true false = refl
  end_get_told true true = refl

module _ (past : List Event) (d : DataPipe) where
  -- what is told of the data pipe as the events leave it
  abbrev pub told_in : Flow → Result FlowedType DataWhy
  told_in f = told (pipe_in past d) (has (gone past) (Token (other_of f d))) f

  abbrev lost : TokenId → Bool
  lost t = has (gone past) (Token t)

  told_here : (f : Flow) → told_at (side_of f d) (told_in f) ≡ moved past (side_of f d) d f
  told_here (flows.Put bytes all) = rw (same-refl (Token d.producer))
      (put_told d.producer (flowed.Put (least_of (length bytes) (data_free past d))) (is_busy (begun past d.producer)) (lost d.consumer)
      (is_none bytes || nat_lt 0 (data_free past d)) (not all || nat_le (length bytes) (data_free past d)) (data_free past d))
  told_here (flows.Get n all) = rw (same-refl (Token d.consumer))
      (get_told d.consumer _ (is_busy (begun past d.consumer)) (n == 0) (is_none (data_held past d)) (lost d.producer)
      (not all || nat_le n (length (data_held past d))) (length (data_held past d)))
  told_here flows.BeginPut = rw (same-refl (Token d.producer))
      (begin_put_told d.producer (flowed.Space (data_free past d)) (is_busy (begun past d.producer)) (lost d.consumer) (nat_lt 0 (data_free past d)))
  told_here (flows.EndPut bytes) = rw (same-refl (Token d.producer))
      (end_put_told d.producer (flowed.Put (length bytes)) (is_busy (begun past d.producer)) (lost d.consumer)
      (nat_le (length bytes) (space_in (begun past d.producer))))
  told_here flows.BeginGet = rw (same-refl (Token d.consumer))
      (begin_get_told d.consumer (flowed.View (data_held past d)) (is_busy (begun past d.consumer)) (is_none (data_held past d)) (lost d.producer))
  told_here (flows.EndGet n) = rw (same-refl (Token d.consumer))
      (end_get_told d.consumer flowed.Ended (is_busy (begun past d.consumer)) (nat_le n (view_in (begun past d.consumer))))

  -- at the token that it is asked at, the reply is the one that the events give
  pub told_is_moved : (t : TokenId) (f : Flow) → same_token (side_of f d) t ≡ true → told_at t (told_in f) ≡ moved past t d f
  told_is_moved t f e = subst (λ (s : TokenId). told_at s (told_in f) ≡ moved past s d f) (same_token-true (side_of f d) t e) (told_here f)

  -- so is the reply to the command
  pub told_is_reply : (t : TokenId) (f : Flow) → pipe_of past t ≡ Some d → same_token (side_of f d) t ≡ true
      → told_at t (told_in f) ≡ moved_by past (Token t) f
  told_is_reply t f at e = rw at (told_is_moved t f e)

  -- at the token of the other side nothing is moved
  pub wrong_side : (t : TokenId) (f : Flow) → same_token (side_of f d) t ≡ false → moved past t d f ≡ No whys.NotData
  wrong_side t (flows.Put bytes all) e = rw e refl
  wrong_side t (flows.Get n all) e = rw e refl
  wrong_side t flows.BeginPut e = rw e refl
  wrong_side t (flows.EndPut bytes) e = rw e refl
  wrong_side t flows.BeginGet e = rw e refl
  wrong_side t (flows.EndGet n) e = rw e refl

-- ## What it is after that

abbrev pipe : ℕ → List ℕ → Begun → Begun → Pipe
pipe c h p q = record { capacity = c; held = h; producer = p; consumer = q }

same_pipe : (c : ℕ) (h i : List ℕ) (p r q s : Begun) → h ≡ i → p ≡ r → q ≡ s → pipe c h p q ≡ pipe c i r s
same_pipe c h i p r q s a b e = rw (a, b, e) refl

idle_at : (b : Begun) → begun_already b ≡ None → b ≡ Nothing
idle_at Nothing e = refl
idle_at (Space n) e = absurd cc
idle_at (View bytes) e = absurd cc

busy_at : (b : Begun) → nothing_begun b ≡ None → is_busy b ≡ true
busy_at Nothing e = absurd cc
busy_at (Space n) e = refl
busy_at (View bytes) e = refl

module _ (past : List Event) (d : DataPipe) where
  -- where nothing refuses, bytes are moved as the events have it
  flows_as : (gone : Bool) (f : Flow) (w : FlowedType) → told (pipe_in past d) gone f ≡ Ok w → Flows past (side_of f d) d f w
  flows_as gone (flows.Put bytes all) w e =
      let p = passed (begun_already (begun past d.producer) ∷ unless (not gone) Disconnected ∷ unless (is_none bytes || nat_lt 0 (data_free past d)) Full
      ∷ unless (not all || nat_le (length bytes) (data_free past d)) (Short (data_free past d)) ∷ [])
      (flowed.Put (least_of (length bytes) (data_free past d))) w e in
      rw p.0 (same-refl (Token d.producer), idle_at (begun past d.producer) p.1.0, refl)
  flows_as gone (flows.Get n all) w e =
      let p = passed (begun_already (begun past d.consumer) ∷ (if n == 0 then None else nothing_held (pipe_in past d) gone)
      ∷ unless (not all || nat_le n (length (data_held past d))) (Short (length (data_held past d))) ∷ []) _ w e in
      rw p.0 (same-refl (Token d.consumer), idle_at (begun past d.consumer) p.1.0, refl)
  flows_as gone flows.BeginPut w e =
      let p = passed (begun_already (begun past d.producer) ∷ unless (not gone) Disconnected ∷ unless (nat_lt 0 (data_free past d)) Full ∷ [])
      (flowed.Space (data_free past d)) w e in
      rw p.0 (same-refl (Token d.producer), idle_at (begun past d.producer) p.1.0, refl)
  flows_as gone (flows.EndPut bytes) w e =
      let p = passed (nothing_begun (begun past d.producer) ∷ unless (not gone) Disconnected
      ∷ unless (nat_le (length bytes) (space_in (begun past d.producer))) TooLong ∷ []) (flowed.Put (length bytes)) w e in
      rw p.0 (
        same-refl (Token d.producer),
        busy_at (begun past d.producer) p.1.0,
        refl,
        holds (nat_le (length bytes) (space_in (begun past d.producer))) TooLong p.1.1.1.0,
      )
  flows_as gone flows.BeginGet w e =
      let p = passed (begun_already (begun past d.consumer) ∷ nothing_held (pipe_in past d) gone ∷ []) (flowed.View (data_held past d)) w e in
      rw p.0 (same-refl (Token d.consumer), idle_at (begun past d.consumer) p.1.0, refl)
  flows_as gone (flows.EndGet n) w e =
      let p = passed (nothing_begun (begun past d.consumer) ∷ unless (nat_le n (view_in (begun past d.consumer))) TooLong ∷ []) flowed.Ended w e in
      rw p.0 (same-refl (Token d.consumer), busy_at (begun past d.consumer) p.1.0, holds (nat_le n (view_in (begun past d.consumer))) TooLong p.1.1.0)

  -- an event that moves none of its bytes, and begins and ends nothing at it
  pub pipe_stays : (event : Event) → fills event.told event.asked d.producer ≡ []
      → drains event.told event.asked d.consumer (begun past d.consumer) ≡ []
      → begun_by event.told event.asked d.producer (begun past d.producer) ≡ begun past d.producer
      → begun_by event.told event.asked d.consumer (begun past d.consumer) ≡ begun past d.consumer → pipe_in (event ∷ past) d ≡ pipe_in past d
  pipe_stays event a b p q = same_pipe d.capacity (data_held (event ∷ past) d) (data_held past d) (begun (event ∷ past) d.producer)
      (begun past d.producer) (begun (event ∷ past) d.consumer) (begun past d.consumer)
      (rw (a, b, append-nil (filled past d.producer), append-nil (drained past d.consumer)) refl) p q

module _ (past : List Event) (seq : SeqId) (k : DataKept past) (d : DataPipe) where
  abbrev pub event_of : Flow → FlowedType → Event
  event_of f w = record { seq = seq; asked = Move (Token (side_of f d)) f; told = Flowed (side_of f d) w }

  after_flow : same_token d.producer d.consumer ≡ false → (f : Flow) (w : FlowedType) → pipe_of past (side_of f d) ≡ Some d
      → Flows past (side_of f d) d f w → pipe_in (event_of f w ∷ past) d ≡ after f w (pipe_in past d)
  after_flow apart (flows.Put bytes all) (flowed.Put n) at h =
      same_pipe d.capacity _ _ _ _ _ _ (held_next past seq k d.producer d at (flows.Put bytes all) (flowed.Put n) h) refl refl
  after_flow apart (flows.Get n all) (flowed.Bytes bytes) at h =
      same_pipe d.capacity _ _ _ _ _ _ (held_next past seq k d.consumer d at (flows.Get n all) (flowed.Bytes bytes) h) refl refl
  after_flow apart flows.BeginPut (flowed.Space n) at h =
      same_pipe d.capacity _ _ _ _ _ _ (held_next past seq k d.producer d at flows.BeginPut (flowed.Space n) h)
      (rw (same-refl (Token d.producer)) refl) (rw apart refl)
  after_flow apart (flows.EndPut bytes) (flowed.Put n) at h =
      same_pipe d.capacity _ _ _ _ _ _ (held_next past seq k d.producer d at (flows.EndPut bytes) (flowed.Put n) h)
      (rw (same-refl (Token d.producer)) refl) (rw apart refl)
  after_flow apart flows.BeginGet (flowed.View bytes) at h =
      same_pipe d.capacity _ _ _ _ _ _ (held_next past seq k d.consumer d at flows.BeginGet (flowed.View bytes) h)
      (rw (same-sym (Token d.consumer) (Token d.producer) ∙ apart) refl) (rw (same-refl (Token d.consumer)) refl)
  after_flow apart (flows.EndGet n) flowed.Ended at h =
      same_pipe d.capacity _ _ _ _ _ _ (held_next past seq k d.consumer d at (flows.EndGet n) flowed.Ended h)
      (rw (same-sym (Token d.consumer) (Token d.producer) ∙ apart) refl) (rw (same-refl (Token d.consumer)) refl)
  after_flow apart f w at h = absurd h

  -- what it is after what was told is what the events leave then
  pub pipe_next : (gone : Bool) (f : Flow) (w : FlowedType) → pipe_of past (side_of f d) ≡ Some d → told (pipe_in past d) gone f ≡ Ok w
      → pipe_in (event_of f w ∷ past) d ≡ after f w (pipe_in past d)
  pipe_next gone f w at e = after_flow (k.own (side_of f d) d at).2 f w at (flows_as past d gone f w e)

  -- a new one holds nothing
  pub pipe_new : has (made past) (Token d.producer) ≡ false → has (made past) (Token d.consumer) ≡ false
      → pipe_in (record { seq = seq; asked = Data d.capacity; told = Made (Token d.producer ∷ Token d.consumer ∷ []) } ∷ past) d ≡ empty_pipe d.capacity
  pipe_new p c = let a = k.new d.producer p in let b = k.new d.consumer c in
      same_pipe d.capacity _ _ _ _ _ _ (rw (a.0, b.1) refl) a.2 b.2

-- ## What moves at another one

fills_else : (t p : TokenId) → same_token t p ≡ false → (w : FlowedType) (f : Flow) → fills (Flowed t w) (Move (Token t) f) p ≡ []
fills_else t p e (flowed.Put n) (flows.Put bytes all) = rw e refl
fills_else t p e (flowed.Put n) (flows.EndPut bytes) = rw e refl
fills_else t p e (flowed.Put n) (flows.Get k all) = refl
fills_else t p e (flowed.Put n) flows.BeginPut = refl
fills_else t p e (flowed.Put n) flows.BeginGet = refl
fills_else t p e (flowed.Put n) (flows.EndGet k) = refl
fills_else t p e (flowed.Bytes bytes) f = refl
fills_else t p e (flowed.Space n) f = refl
fills_else t p e (flowed.View bytes) f = refl
fills_else t p e flowed.Ended f = refl

drains_else : (t p : TokenId) → same_token t p ≡ false → (w : FlowedType) (f : Flow) (b : Begun) → drains (Flowed t w) (Move (Token t) f) p b ≡ []
drains_else t p e flowed.Ended (flows.EndGet k) b = rw e refl
drains_else t p e flowed.Ended (flows.Put bytes all) b = refl
drains_else t p e flowed.Ended (flows.EndPut bytes) b = refl
drains_else t p e flowed.Ended (flows.Get k all) b = refl
drains_else t p e flowed.Ended flows.BeginPut b = refl
drains_else t p e flowed.Ended flows.BeginGet b = refl
drains_else t p e (flowed.Bytes bytes) f b = rw e refl
drains_else t p e (flowed.Put n) f b = refl
drains_else t p e (flowed.Space n) f b = refl
drains_else t p e (flowed.View bytes) f b = refl

pub begun_else : (t p : TokenId) → same_token t p ≡ false → (w : FlowedType) (f : Flow) (b : Begun) → begun_by (Flowed t w) (Move (Token t) f) p b ≡ b
begun_else t p e (flowed.Put n) (flows.EndPut bytes) b = rw e refl
begun_else t p e (flowed.Put n) (flows.Put bytes all) b = refl
begun_else t p e (flowed.Put n) flows.BeginPut b = refl
begun_else t p e (flowed.Put n) flows.BeginGet b = refl
begun_else t p e (flowed.Put n) (flows.Get k all) b = refl
begun_else t p e (flowed.Put n) (flows.EndGet k) b = refl
begun_else t p e (flowed.Space n) f b = rw e refl
begun_else t p e (flowed.View bytes) f b = rw e refl
begun_else t p e flowed.Ended f b = rw e refl
begun_else t p e (flowed.Bytes bytes) f b = refl

-- bytes that are moved at a token of another data pipe
pub pipe_apart : (past : List Event) (seq : SeqId) (d : DataPipe) (t : TokenId) (f : Flow) (w : FlowedType)
    → same_token t d.producer ≡ false → same_token t d.consumer ≡ false
    → pipe_in (record { seq = seq; asked = Move (Token t) f; told = Flowed t w } ∷ past) d ≡ pipe_in past d
pipe_apart past seq d t f w p c = pipe_stays past d (record { seq = seq; asked = Move (Token t) f; told = Flowed t w })
    (fills_else t d.producer p w f) (drains_else t d.consumer c w f (begun past d.consumer))
    (begun_else t d.producer p w f (begun past d.producer)) (begun_else t d.consumer c w f (begun past d.consumer))
