-- Two histories that say the same at the things of a group, as the proofs go on with it.
use Rattle.std.specs.Prelude.{ℕ, ◌≡◌, Bool, true, List, filter}
use Rattle.mj_base.specs.declared.ids.EndId.{EndId}
use Rattle.handle_table.specs.declared.thing.Thing.{Thing}
use Rattle.handle_table.specs.declared.thing.TokenId.{TokenId}
use Rattle.bind_model.specs.declared.endpoint.PendingId.{PendingId}
use Rattle.bind_model.specs.declared.endpoint.ResponderId.{ResponderId}
use Rattle.bind_model.specs.declared.event.Event.{Event}
use Rattle.handle_table.specs.Things.{has, seq_of}
use Rattle.bind_model.specs.Data.{pipe_of, filled, begun, drained}
use Rattle.bind_model.specs.Machine.{made, peer, gone, out, bounds, taken, associated, written, endpoint_at}
use Rattle.bind_model.specs.Notices.{queried, versioned, flushed, has_met, waits}
use Rattle.bind_model.specs.Replies.{drawn, answered, pendings_out, has_pending, responders_out}
use Rattle.bind_model.specs.Wire.{Wire}

-- whether a thing is of the group
abbrev pub is_mine : (ℕ → Bool) → Thing → Bool
is_mine inside z = inside (seq_of z)

-- whether a responder is of the group
abbrev pub answers_here : (ℕ → Bool) → ResponderId → Bool
answers_here inside r = inside r.end.seq

-- two histories say the same at the things of a group
pub record Agrees (inside : ℕ → Bool) (wire : Wire) (past sub : List Event) : Type 0 where
  pub peers : (x : EndId) → inside x.seq ≡ true → peer past x ≡ peer sub x
  pub gone : (z : Thing) → inside (seq_of z) ≡ true → has (gone past) z ≡ has (gone sub) z
  pub out : (z : Thing) → inside (seq_of z) ≡ true → has (out past) z ≡ has (out sub) z
  pub bounds : (z : Thing) → inside (seq_of z) ≡ true → has (bounds past) z ≡ has (bounds sub) z
  pub taken : (x : EndId) → inside x.seq ≡ true → taken past x ≡ taken sub x
  pub associated : (x : EndId) → inside x.seq ≡ true → associated past x ≡ associated sub x
  pub written : (x : EndId) → inside x.seq ≡ true → written wire past x ≡ written wire sub x
  pub endpoints : (x : EndId) → inside x.seq ≡ true → endpoint_at wire past x ≡ endpoint_at wire sub x
  pub drawn : (x : EndId) (id : ℕ) → inside x.seq ≡ true → drawn past x id ≡ drawn sub x id
  pub answered : (x : EndId) (id : ℕ) → inside x.seq ≡ true → answered past x id ≡ answered sub x id
  pub pendings : (p : PendingId) → inside p.end.seq ≡ true → has_pending (pendings_out past) p ≡ has_pending (pendings_out sub) p
  pub responders : filter (answers_here inside) (responders_out wire past) ≡ responders_out wire sub
  pub made : filter (is_mine inside) (made past) ≡ made sub
  pub queried : (x : EndId) (id : ℕ) → inside x.seq ≡ true → queried past x id ≡ queried sub x id
  pub versioned : (x : EndId) (id : ℕ) → inside x.seq ≡ true → versioned past x id ≡ versioned sub x id
  pub flushed : (x : EndId) → inside x.seq ≡ true → flushed past x ≡ flushed sub x
  pub met : (x : EndId) (k : ℕ) → inside x.seq ≡ true → has_met past x k ≡ has_met sub x k
  pub waits : (x : EndId) → inside x.seq ≡ true → waits past x ≡ waits sub x
  pub pipes : (t : TokenId) → inside t.seq ≡ true → pipe_of past t ≡ pipe_of sub t
  pub begun : (t : TokenId) → inside t.seq ≡ true → begun past t ≡ begun sub t
  pub filled : (t : TokenId) → inside t.seq ≡ true → filled past t ≡ filled sub t
  pub drained : (t : TokenId) → inside t.seq ≡ true → drained past t ≡ drained sub t
