-- What two histories say at the things of a group, where it is the same.
use Rattle.std.specs.Prelude.{ℕ, ◌≡◌, Bool, true, List, Some}
use Rattle.std.specs.List.{count_by}
use Rattle.mj_base.specs.declared.ids.EndId.{EndId}
use Rattle.handle_table.specs.declared.thing.Thing.{Thing}
use Rattle.handle_table.specs.declared.thing.TokenId.{TokenId}
use Rattle.bind_model.specs.declared.endpoint.PendingId.{PendingId}
use Rattle.bind_model.specs.declared.endpoint.ResponderId.{ResponderId}
use Rattle.bind_model.specs.declared.event.Event.{Event}
use Rattle.handle_table.specs.Things.{has, seq_of}
use Rattle.bind_model.specs.Data.{DataPipe, pipe_of, filled, begun, drained, data_held}
use Rattle.bind_model.specs.Machine.{held_bound, peer, gone, out, taken, associated, written, unread, endpoint_at}
use Rattle.bind_model.specs.Notices.{queried, versioned, flushed, has_met, waits}
use Rattle.bind_model.specs.Replies.{serials, tokens, drawn, answered, pendings_out, has_pending, responders_out, same_responder}
use Rattle.bind_model.specs.Wire.{Wire}
use Rattle.group_laws.specs.Apart.{Apart, events_of}

-- two histories say the same at each thing that a sequence of the group numbered
pub record Alike (inside : ℕ → Bool) (wire : Wire) (past sub : List Event) : Type 0 where
  -- how many ends and tokens a sequence has numbered
  pub serials : (s : ℕ) → inside s ≡ true → serials past s ≡ serials sub s
  pub tokens : (s : ℕ) → inside s ≡ true → tokens past s ≡ tokens sub s
  -- the other end of a pipe; what was written for reading at an end, what was told of the takes there, and what is unread
  pub peers : (x : EndId) → inside x.seq ≡ true → peer past x ≡ peer sub x
  pub written : (x : EndId) → inside x.seq ≡ true → written wire past x ≡ written wire sub x
  pub taken : (x : EndId) → inside x.seq ≡ true → taken past x ≡ taken sub x
  pub unread : (x : EndId) → inside x.seq ≡ true → unread wire past x ≡ unread wire sub x
  -- what is gone, what is with callers, and what is bound and isn't gone
  pub gone : (z : Thing) → inside (seq_of z) ≡ true → has (gone past) z ≡ has (gone sub) z
  pub out : (z : Thing) → inside (seq_of z) ≡ true → has (out past) z ≡ has (out sub) z
  pub bound : (z : Thing) → inside (seq_of z) ≡ true → has (held_bound past) z ≡ has (held_bound sub) z
  pub pendings : (p : PendingId) → inside p.end.seq ≡ true → has_pending (pendings_out past) p ≡ has_pending (pendings_out sub) p
  pub responders : (r : ResponderId) → inside r.end.seq ≡ true
      → count_by (λ q. same_responder q r) (responders_out wire past) ≡ count_by (λ q. same_responder q r) (responders_out wire sub)
  -- the table of an end, the ids that it gave, and the requests of its endpoints
  pub endpoints : (x : EndId) (id : ℕ) → inside x.seq ≡ true → endpoint_at wire past x id ≡ endpoint_at wire sub x id
  pub associated : (x : EndId) → inside x.seq ≡ true → associated past x ≡ associated sub x
  pub drawn : (x : EndId) (id : ℕ) → inside x.seq ≡ true → drawn past x id ≡ drawn sub x id
  pub answered : (x : EndId) (id : ℕ) → inside x.seq ≡ true → answered past x id ≡ answered sub x id
  -- how often the version was asked for at an endpoint and told, the flushes of an end, those that it consumed, and its waits
  pub queried : (x : EndId) (id : ℕ) → inside x.seq ≡ true → queried past x id ≡ queried sub x id
  pub versioned : (x : EndId) (id : ℕ) → inside x.seq ≡ true → versioned past x id ≡ versioned sub x id
  pub flushed : (x : EndId) → inside x.seq ≡ true → flushed past x ≡ flushed sub x
  pub met : (x : EndId) (k : ℕ) → inside x.seq ≡ true → has_met past x k ≡ has_met sub x k
  pub waits : (x : EndId) → inside x.seq ≡ true → waits past x ≡ waits sub x
  -- the data pipe of a token, what it holds, what was begun at the token, and what went in and came out there
  pub pipes : (t : TokenId) → inside t.seq ≡ true → pipe_of past t ≡ pipe_of sub t
  pub held : (t : TokenId) (d : DataPipe) → inside t.seq ≡ true → pipe_of past t ≡ Some d → data_held past d ≡ data_held sub d
  pub begun : (t : TokenId) → inside t.seq ≡ true → begun past t ≡ begun sub t
  pub filled : (t : TokenId) → inside t.seq ≡ true → filled past t ≡ filled sub t
  pub drained : (t : TokenId) → inside t.seq ≡ true → drained past t ≡ drained sub t

-- what the events say at a thing of a group apart is what its own events say
abbrev pub ThingsApart : Wire → ℕ → List Event → Type 0
ThingsApart wire seqs past = (inside : ℕ → Bool) → Apart seqs inside past → Alike inside wire past (events_of inside past)
