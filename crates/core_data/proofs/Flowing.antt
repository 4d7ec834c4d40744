-- That bytes are moved, by what the data pipe did.
use Rattle.std.proofs.Common.{◌≡◌, Bool, true, false, [], ◌∷◌, ◌++◌, refl, sym, ap, ◌∙◌, subst, length, Some, None}
use Rattle.std.specs.Prelude.{◌||◌, ◌==◌, nat_le, nat_lt, not, if◌then◌else◌, Option, Result, Ok, Err}
use Rattle.std.specs.Option.{option_map}
use Rattle.handle_table.specs.Places.{place_of}
use Rattle.handle_table.specs.Things.{has, same_token}
use Rattle.handle_table.specs.declared.thing.Thing.{Thing}
use Rattle.handle_table.specs.declared.thing.Thing.TheVariants.{End, Token}
use Rattle.handle_table.specs.declared.thing.TokenId.{TokenId}
use Rattle.handle_table.proofs.ThingsLemmas.{same_token-true}
use Rattle.mj_base.specs.declared.ids.SeqId.{SeqId}
use Rattle.message_pipe.specs.Contents.{Contents}
use Rattle.bind_model.specs.Data.{DataPipe, pipe_of}
use Rattle.bind_model.specs.Machine.{gone, out}
use Rattle.bind_model.specs.Moves.{moved_by, least_of, space_in, view_in}
use Rattle.bind_model.specs.Tests.{is_none}
use Rattle.bind_model.specs.declared.asked.Asked.TheVariants as asks
use Rattle.bind_model.specs.declared.commands.Command.TheVariants as commands
use Rattle.bind_model.specs.declared.commands.Reply.TheVariants as replies
use Rattle.bind_model.specs.declared.event.Event.{Event}
use Rattle.bind_model.specs.declared.flow.Flow.{Flow}
use Rattle.bind_model.specs.declared.flow.Flow.TheVariants as flows
use Rattle.bind_model.specs.declared.flow.Flowed.{Flowed as FlowedType}
use Rattle.bind_model.specs.declared.flow.Flowed.TheVariants as flowed
use Rattle.bind_model.specs.declared.told.Told.TheVariants as tells
use Rattle.bind_model.specs.declared.told.Why.TheVariants.{NoName, NotData}
use Rattle.data_pipe.specs.Agreement.{DataAgrees}
use Rattle.data_pipe.specs.History.{other_of, pipe_in, side_of, told_at, why_at}
use Rattle.data_pipe.specs.Moving.{after, begun_already, nothing_begun, nothing_held, told, unless, IsRefused}
use Rattle.data_pipe.specs.Pipe.{Pipe, room}
use Rattle.data_pipe.specs.Table.{Becomes, Moves, bytes_for, line_of, pipe_at, pipe_in_line}
use Rattle.data_pipe.specs.declared.refused.DataRefused.{DataRefused}
use Rattle.data_pipe.specs.declared.refused.DataRefused.TheVariants.{No, Memory}
use Rattle.data_pipe.specs.declared.refused.DataWhy.{DataWhy}
use Rattle.data_pipe.specs.declared.refused.DataWhy.TheVariants.{Disconnected, Full, Short, TooLong}
use Rattle.data_pipe.proofs.Agreeing.{data_flowed, line_here, side_is, token_of}
use Rattle.data_pipe.proofs.Flowing.{passed}
use Rattle.data_pipe.proofs.InHistory.{told_in, told_is_reply}
use Rattle.end_notices.specs.Agreement.{AllAgree as NoticesAgree}
use Rattle.end_notices.specs.Table.{Lines as NoticeLines}
use Rattle.end_notices.proofs.Quieting.{all_quiet}
use Rattle.core_state.specs.Agreement.{Agrees, Holds, TablesAgree, is_out, past_of, schema_of, wire_in}
use Rattle.core_state.specs.Doing.{Done, HasRoom, told_to}
use Rattle.core_state.specs.Routers.{Routers}
use Rattle.core_state.specs.declared.state.State.{State}
use Rattle.core_state.proofs.Held.{finish_noting}
use Rattle.core_state.proofs.Still.{still}
use Rattle.core_data.specs.declared.moving.Moved.{Moved}
use Rattle.core_data.specs.declared.spot.Spot.{Spot}
use Rattle.core_data.specs.steps.Moved.{with_bytes, SaysWhy}
use Rattle.core_data.specs.Spots.{is_shut_at, other_token, same_side, side_asked, spot_at, spot_in, spot_of}
use Rattle.core_data.proofs.Spotted.{kept, other_is, side_by, side_fits}

-- what is known of where bytes are moved
pub record IsSpot (s : State) (x : Thing) (f : Flow) (at : Spot) : Type 0 where
  pub pipe : DataPipe
  pub thing : x ≡ Token at.token
  pub here : pipe_of (past_of s) at.token ≡ Some pipe
  pub producer : at.producer ≡ pipe.producer
  pub other : at.gone ≡ has (gone (past_of s)) (Token (other_of f pipe))
  pub side : same_token (side_of f pipe) at.token ≡ true
  pub held : has (out (past_of s)) x ≡ true

module _ (s : State) (seq : SeqId) (h : Holds s) (f : Flow) where
  by_pipe : (t : TokenId) (at : Spot) (o : Option DataPipe) → has (out (past_of s)) (Token t) ≡ true → pipe_of (past_of s) t ≡ o
      → spot_of s.pipes t f (option_map (token_of t) o) ≡ Ok at → IsSpot s (Token t) f at
  by_pipe t at None held e g = absurd cc
  by_pipe t at (Some d) held e g = go (same_side (side_by (same_token d.producer t)) (side_asked f)) refl g
    where
      go : (fits : Bool) → same_side (side_by (same_token d.producer t)) (side_asked f) ≡ fits
          → (if not fits then Err NotData
          else Ok (record { token = t; producer = d.producer; gone = is_shut_at s.pipes (other_token (token_of t d)) })) ≡ Ok at
          → IsSpot s (Token t) f at
      go false fits g = absurd cc
      go true fits g =
          let same : at ≡ record { token = t; producer = d.producer; gone = is_shut_at s.pipes (other_token (token_of t d)) } = cc in
          subst (λ (a : Spot). IsSpot s (Token t) f a) (sym same)
          (record {
            pipe = d;
            thing = refl;
            here = e;
            producer = refl;
            other = h.agrees.shuts (Token (other_token (token_of t d)))
                ∙ ap (λ (z : TokenId). has (gone (past_of s)) (Token z)) (other_is d f (same_token d.producer t) (h.tables.flows.next t d e) fits);
            side = side_fits s seq h f t d e ∙ fits;
            held = held;
          })

  pub spot_is : (x : Thing) (at : Spot) → spot_in s x f ≡ Ok at → IsSpot s x f at
  spot_is x at e = go (is_out (place_of s.pipes.table x)) (h.agrees.outs x) e
    where
      by_thing : (x : Thing) → has (out (past_of s)) x ≡ true → spot_at s f x ≡ Ok at → IsSpot s x f at
      by_thing (End x) held e = absurd cc
      by_thing (Token t) held e =
          by_pipe t at (pipe_of (past_of s) t) held refl
          (ap (spot_of s.pipes t f) (sym (side_is (past_of s) s.tables.flows (kept s seq h f) h.tables.flows t)) ∙ e)

      go : (b : Bool) → b ≡ has (out (past_of s)) x → (if not b then Err NoName else spot_at s f x) ≡ Ok at → IsSpot s x f at
      go true held e = by_thing x (sym held) e
      go false held e = absurd cc

-- what is told has the bytes that are told of what is asked
pub bytes_told : (pipe : Pipe) (gone : Bool) (f : Flow) (w : FlowedType) → told pipe gone f ≡ Ok w → with_bytes (bytes_for pipe f) w ≡ w
bytes_told pipe gone (flows.Put bytes all) w e =
    let p = passed (begun_already pipe.producer ∷ unless (not gone) Disconnected ∷ unless (is_none bytes || nat_lt 0 (room pipe)) Full
    ∷ unless (not all || nat_le (length bytes) (room pipe)) (Short (room pipe)) ∷ []) (flowed.Put (least_of (length bytes) (room pipe))) w e in
    rw p.0 refl
bytes_told pipe gone (flows.Get n all) w e =
    let p = passed (begun_already pipe.consumer ∷ (if n == 0 then None else nothing_held pipe gone)
    ∷ unless (not all || nat_le n (length pipe.held)) (Short (length pipe.held)) ∷ []) _ w e in
    rw p.0 refl
bytes_told pipe gone flows.BeginPut w e =
    let p = passed (begun_already pipe.producer ∷ unless (not gone) Disconnected ∷ unless (nat_lt 0 (room pipe)) Full ∷ []) (flowed.Space (room pipe)) w e in
    rw p.0 refl
bytes_told pipe gone (flows.EndPut bytes) w e =
    let p = passed (nothing_begun pipe.producer ∷ unless (not gone) Disconnected ∷ unless (nat_le (length bytes) (space_in pipe.producer)) TooLong ∷ [])
    (flowed.Put (length bytes)) w e in
    rw p.0 refl
bytes_told pipe gone flows.BeginGet w e =
    let p = passed (begun_already pipe.consumer ∷ nothing_held pipe gone ∷ []) (flowed.View pipe.held) w e in
    rw p.0 refl
bytes_told pipe gone (flows.EndGet n) w e =
    let p = passed (nothing_begun pipe.consumer ∷ unless (nat_le n (view_in pipe.consumer)) TooLong ∷ []) flowed.Ended w e in
    rw p.0 refl

module _ (old : State) (seq : SeqId) (able : HasRoom old seq) (x : Thing) (f : Flow) (at : Spot) (there : spot_in old x f ≡ Ok at) where
  abbrev i : IsSpot old x f at
  i = spot_is old seq able.holds f x at there

  -- its data pipe is that of the events
  pipe_is : pipe_at old.tables.flows at.producer ≡ pipe_in (past_of old) i.pipe
  pipe_is =
      ap (λ (t : TokenId). pipe_at old.tables.flows t) i.producer
      ∙ ap pipe_in_line (line_here (past_of old) old.tables.flows (kept old seq able.holds f) able.holds.tables.flows at.token i.pipe i.here)

  -- the line is there
  pub line_there : line_of old.tables.flows at.producer ≡ Some (pipe_in (past_of old) i.pipe)
  line_there =
      ap (λ (t : TokenId). line_of old.tables.flows t) i.producer
      ∙ line_here (past_of old) old.tables.flows (kept old seq able.holds f) able.holds.tables.flows at.token i.pipe i.here

  -- what the data pipe tells is what the events tell
  told_is : (r : Result FlowedType DataWhy) → told (pipe_at old.tables.flows at.producer) at.gone f ≡ r → told_in (past_of old) i.pipe f ≡ r
  told_is r e =
      ap (λ (pipe : Pipe). told pipe (has (gone (past_of old)) (Token (other_of f i.pipe))) f) (sym pipe_is)
      ∙ (ap (λ (b : Bool). told (pipe_at old.tables.flows at.producer) b f) (sym i.other) ∙ e)

  reply_is : (r : Result FlowedType DataWhy) → told (pipe_at old.tables.flows at.producer) at.gone f ≡ r
      → told_to old seq (asks.Flow x f) ≡ told_at at.token r
  reply_is r e =
      rw i.held
      (ap (λ (z : Thing). moved_by (past_of old) z f) i.thing
      ∙ (sym (told_is_reply (past_of old) i.pipe at.token f i.here i.side)
      ∙ ap (told_at at.token) (told_is r e)))

  -- a refusal
  pub flow_refused : (why : DataWhy) → told (pipe_at old.tables.flows at.producer) at.gone f ≡ Err why
      → told_to old seq (asks.Flow x f) ≡ tells.No (why_at at.token why)
  flow_refused why e = reply_is (Err why) e

  module _ (new : State) (w : FlowedType) (schema : schema_of new ≡ schema_of old) (seqs : new.seqs ≡ old.seqs) (unmoved : new.rights ≡ old.rights)
      (pipes : new.pipes ≡ old.pipes) (endpoints : new.endpoints ≡ old.endpoints) (unnoticed : new.tables.notices ≡ old.tables.notices)
      (moves : Moves at.producer at.gone f w old.tables.flows new.tables.flows) where
    abbrev event : Event
    event = record { seq = seq; asked = asks.Flow (Token at.token) f; told = tells.Flowed at.token w }

    -- the data pipe is the one that the events give then
    flows_now : DataAgrees (event ∷ past_of old) new.tables.flows
    flows_now =
        let token : side_of f i.pipe ≡ at.token = same_token-true (side_of f i.pipe) at.token i.side in
        let becomes : Becomes i.pipe.producer (Some (after f w (pipe_in (past_of old) i.pipe))) old.tables.flows new.tables.flows =
        subst (λ (p : Pipe). Becomes i.pipe.producer (Some (after f w p)) old.tables.flows new.tables.flows) pipe_is
        (subst (λ (t : TokenId). Becomes t (Some (after f w (pipe_at old.tables.flows at.producer))) old.tables.flows new.tables.flows)
        i.producer moves.1) in
        subst
        (λ (t : TokenId). DataAgrees (record { seq = seq; asked = asks.Flow (Token t) f; told = tells.Flowed t w } ∷ past_of old) new.tables.flows) token
        (data_flowed (past_of old) seq i.pipe f w (has (gone (past_of old)) (Token (other_of f i.pipe))) old.tables.flows new.tables.flows
        (kept old seq able.holds f) able.holds.tables.flows
        (ap (λ (t : TokenId). pipe_of (past_of old) t) token ∙ i.here) (told_is (Ok w) moves.0) becomes)

    tables_now : TablesAgree (event ∷ past_of old) new.tables
    tables_now = record {
      notices = subst (λ (lines : NoticeLines). NoticesAgree (event ∷ past_of old) lines) (sym unnoticed)
          (all_quiet event (past_of old) old.tables.notices refl able.holds.tables.notices);
      flows = flows_now;
    }

    agrees_now : Agrees (wire_in old) (event ∷ past_of old) new.pipes new.endpoints
    agrees_now =
        subst (λ (c : Contents). Agrees (wire_in old) (event ∷ past_of old) c new.endpoints) (sym pipes)
        (subst (λ (all : Routers). Agrees (wire_in old) (event ∷ past_of old) old.pipes all) (sym endpoints)
        (still (wire_in old) event (past_of old)
        (record { made = refl; gone = refl; given = refl; handed = refl; takes = λ x. refl; puts = λ x. refl; peer = λ x. refl })
        (record { draws = λ x id. refl; answers = λ x id. refl; associates = λ x. refl; endpoints = λ x id. refl })
        old.pipes old.endpoints able.holds.agrees))

    -- bytes are moved, and the history keeps them
    pub flow_done : (noted : FlowedType) → noted ≡ w
        → new.log.events ≡ old.log.events ++ record { seq = seq; asked = asks.Flow (Token at.token) f; told = tells.Flowed at.token noted } ∷ []
        → Done old new seq (commands.Flow x f) (replies.Flowed x w)
    flow_done noted same events =
        subst (λ (z : Thing). Done old new seq (commands.Flow z f) (replies.Flowed z w)) (sym i.thing)
        (finish_noting old new seq (commands.Flow (Token at.token) f) (replies.Flowed (Token at.token) w) able schema seqs unmoved
        (record { none = refl; handed = λ wire. refl; after = λ rs. refl; gives = refl; hands = refl; halves = λ wire past. refl })
        (events
        ∙ ap (λ (v : FlowedType). old.log.events ++ record { seq = seq; asked = asks.Flow (Token at.token) f; told = tells.Flowed at.token v } ∷ []) same)
        (sym (ap (λ (z : Thing). told_to old seq (asks.Flow z f)) (sym i.thing) ∙ reply_is (Ok w) moves.0))
        agrees_now refl tables_now)

-- a data pipe that refuses for a reason says which
pub says_why : (old : State) (seq : SeqId) (able : HasRoom old seq) (m : Moved) (at : Spot) (there : spot_in old m.handle m.flow ≡ Ok at)
    (refused : DataRefused) → IsRefused (told (pipe_at old.tables.flows at.producer) at.gone m.flow) refused → SaysWhy old seq m at.token refused
says_why old seq able m at there (No why) e = flow_refused old seq able m.handle m.flow at there why e
says_why old seq able m at there Memory e = tt
