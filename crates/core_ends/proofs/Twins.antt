-- That the making of a data pipe is done, by what its parts did.
use Rattle.std.proofs.Common.{◌≡◌, ℕ, true, false, List, [], ◌∷◌, ◌++◌, refl, sym, ap, ◌∙◌, subst, Some, None, arith}
use Rattle.std.specs.Prelude.{Option, Ok, is_some}
use Rattle.std.specs.Option.{option_map}
use Rattle.mj_base.specs.declared.ids.SeqId.{SeqId}
use Rattle.handle_table.specs.Things.{has}
use Rattle.handle_table.specs.declared.thing.Thing.{Thing}
use Rattle.handle_table.specs.declared.thing.Thing.TheVariants.{Token}
use Rattle.handle_table.specs.declared.thing.TokenId.{TokenId}
use Rattle.handle_table.specs.declared.places.Place.{Place}
use Rattle.message_pipe.specs.Contents.{Contents, MakesTokens, Same}
use Rattle.bind_model.specs.Machine.{made}
use Rattle.bind_model.specs.Moves.{is_right_size}
use Rattle.bind_model.specs.declared.asked.Asked.TheVariants as asks
use Rattle.bind_model.specs.declared.commands.Command.TheVariants as commands
use Rattle.bind_model.specs.declared.commands.Reply.TheVariants as replies
use Rattle.bind_model.specs.declared.event.Event.{Event}
use Rattle.bind_model.specs.declared.told.Told.TheVariants as tells
use Rattle.bind_model.proofs.DataLemmas.{data_kept}
use Rattle.bind_model.proofs.Fresh.{kept}
use Rattle.bind_model.proofs.Moving.{new_token}
use Rattle.bind_model.specs.Data.{DataPipe}
use Rattle.data_pipe.specs.Agreement.{if_producer}
use Rattle.data_pipe.specs.History.{pipe_in}
use Rattle.data_pipe.specs.Moving.{made as pipe_made, unless}
use Rattle.data_pipe.specs.Pipe.{Pipe, empty_pipe}
use Rattle.data_pipe.specs.Table.{AllStay, Becomes, Lines, behind, line_of}
use Rattle.data_pipe.specs.declared.refused.DataWhy.TheVariants.{BadSize}
use Rattle.data_pipe.proofs.Agreeing.{data_made as flows_made, flows_same, fresh_none}
use Rattle.data_pipe.proofs.Flowing.{holds, passed}
use Rattle.end_notices.specs.Agreement.{AllAgree as NoticesAgree}
use Rattle.end_notices.specs.Table.{Lines as NoticeLines}
use Rattle.end_notices.proofs.Quieting.{all_quiet}
use Rattle.core_state.specs.Agreement.{Agrees, Holds, TablesAgree, is_out, is_shut, past_of, schema_of, wire_in}
use Rattle.core_state.specs.Doing.{Done, HasRoom, told_to}
use Rattle.core_state.specs.Routers.{Routers}
use Rattle.core_state.specs.declared.state.State.{State}
use Rattle.core_state.proofs.Held.{finish_noting}
use Rattle.core_ends.specs.steps.Tokens.{next_token}
use Rattle.core_ends.specs.steps.Unchanged.{Stays}
use Rattle.core_ends.proofs.Making.{first_new, second_new, two_agrees, two_told}

-- the size is right, and the data pipe is empty
pub made_right : (size : ℕ) (pipe : Pipe) → pipe_made size ≡ Ok pipe → (pipe ≡ empty_pipe size) × (is_right_size size ≡ true)
made_right size pipe e =
    let p = passed (unless (is_right_size size) (BadSize size) ∷ []) (empty_pipe size) pipe e in (p.0, holds (is_right_size size) (BadSize size) p.1.0)

-- where the tokens can't be made all stays
pub unmade : (s : State) (pipes : Contents) (flows : Lines) → Holds s → Same s.pipes pipes → AllStay s.tables.flows flows
    → Stays s (record s { pipes = pipes; tables = record s.tables { flows = flows } })
unmade s pipes flows h same stay = record {
  holds = record {
    legal = h.legal;
    agrees = record {
      ends = λ x. same.ends x ∙ h.agrees.ends x;
      outs = λ x. ap (λ (o : Option Place). is_out o) (same.table.places x) ∙ h.agrees.outs x;
      there = λ x. ap (λ (o : Option Place). is_some o) (same.table.places x) ∙ h.agrees.there x;
      shuts = λ x. ap (λ (o : Option Place). is_shut o) (same.table.places x) ∙ h.agrees.shuts x;
      made = same.made ∙ h.agrees.made;
      serials = λ q. same.table.ends q ∙ h.agrees.serials q;
      tokens = λ q. same.table.tokens q ∙ h.agrees.tokens q;
      routers = h.agrees.routers;
    };
    tables = record { notices = h.tables.notices; flows = flows_same (past_of s) s.tables.flows flows stay h.tables.flows };
    responders = h.responders;
    pendings = h.pendings;
    few = h.few;
  };
  schema = refl;
  seqs = refl;
  events = refl;
}

-- no data pipe has the token that is made next
pub fresh_line : (s : State) (seq : SeqId) → HasRoom s seq → line_of s.tables.flows (next_token s.pipes seq.0) ≡ None
fresh_line s seq able =
    let p : TokenId = next_token s.pipes seq.0 in
    let new : has (made (past_of s)) (Token p) ≡ false =
    new_token (wire_in s) s.seqs (past_of s) seq (kept (wire_in s) s.seqs (past_of s) able.holds.legal) p (omega (arith, able.holds.agrees.tokens seq.0)) in
    able.holds.tables.flows.lines p
    ∙ ap (λ (o : Option DataPipe). option_map (pipe_in (past_of s)) (if_producer p o))
    (fresh_none (past_of s) (data_kept (wire_in s) s.seqs (past_of s) able.holds.legal) p new)

module _ (old new : State) (seq : SeqId) (able : HasRoom old seq) (schema : schema_of new ≡ schema_of old) (seqs : new.seqs ≡ old.seqs)
    (unmoved : new.rights ≡ old.rights) (unnoticed : new.tables.notices ≡ old.tables.notices) (same : new.endpoints ≡ old.endpoints)
    (size : ℕ) (x y : Thing) (m : MakesTokens seq.0 x y old.pipes new.pipes) (right : is_right_size size ≡ true)
    (entered : Becomes (next_token old.pipes seq.0) (Some (empty_pipe size)) old.tables.flows new.tables.flows) where
  abbrev p : TokenId
  p = next_token old.pipes seq.0

  abbrev event : Event
  event = record { seq = seq; asked = asks.Data size; told = tells.Made (Token p ∷ Token (behind p) ∷ []) }

  -- the two tokens
  both : (xs : List Thing) → xs ≡ x ∷ y ∷ [] → xs ≡ Token p ∷ Token (behind p) ∷ []
  both xs e = e ∙ (ap (λ (z : Thing). z ∷ y ∷ []) m.table.one ∙ ap (λ (z : Thing). Token p ∷ z ∷ []) m.table.other)

  -- neither was made
  fresh_one : has (made (past_of old)) (Token p) ≡ false
  fresh_one =
      ap (λ (z : Thing). has (made (past_of old)) z) (sym m.table.one)
      ∙ first_new (wire_in old) old.seqs (past_of old) (kept (wire_in old) old.seqs (past_of old) able.holds.legal) seq (asks.Data size) old.pipes new.pipes
      old.endpoints able.holds.agrees x y m

  fresh_other : has (made (past_of old)) (Token (behind p)) ≡ false
  fresh_other =
      ap (λ (z : Thing). has (made (past_of old)) z) (sym m.table.other)
      ∙ second_new (wire_in old) old.seqs (past_of old) (kept (wire_in old) old.seqs (past_of old) able.holds.legal) seq (asks.Data size) old.pipes new.pipes
      old.endpoints able.holds.agrees x y m

  tables_now : TablesAgree (event ∷ past_of old) new.tables
  tables_now = record {
    notices = subst (λ (lines : NoticeLines). NoticesAgree (event ∷ past_of old) lines) (sym unnoticed)
        (all_quiet event (past_of old) old.tables.notices refl able.holds.tables.notices);
    flows = flows_made (past_of old) seq size p old.tables.flows new.tables.flows (data_kept (wire_in old) old.seqs (past_of old) able.holds.legal)
        able.holds.tables.flows fresh_one fresh_other entered;
  }

  -- what is told
  told_is : tells.Made (Token p ∷ Token (behind p) ∷ []) ≡ told_to old seq (asks.Data size)
  told_is =
      ap (λ (xs : List Thing). tells.Made xs) (sym (both (x ∷ y ∷ []) refl))
      ∙ (two_told (wire_in old) old.seqs (past_of old) (kept (wire_in old) old.seqs (past_of old) able.holds.legal) seq (asks.Data size) old.pipes new.pipes
      old.endpoints able.holds.agrees x y m
      ∙ rw right refl)

  agrees_now : Agrees (wire_in old) (event ∷ past_of old) new.pipes new.endpoints
  agrees_now =
      subst (λ (all : Routers). Agrees (wire_in old) (event ∷ past_of old) new.pipes all) (sym same)
      (subst
      (λ (xs : List Thing). Agrees (wire_in old) (record { seq = seq; asked = asks.Data size; told = tells.Made xs } ∷ past_of old) new.pipes old.endpoints)
      (both (x ∷ y ∷ []) refl)
      (two_agrees (wire_in old) old.seqs (past_of old) (kept (wire_in old) old.seqs (past_of old) able.holds.legal) seq (asks.Data size) old.pipes new.pipes
      old.endpoints able.holds.agrees x y m))

  pub data_done : (handles things : List Thing) → things ≡ x ∷ y ∷ [] → handles ≡ x ∷ y ∷ []
      → new.log.events ≡ old.log.events ++ record { seq = seq; asked = asks.Data size; told = tells.Made things } ∷ []
      → Done old new seq (commands.Data size) (replies.Made handles)
  data_done handles things e1 e2 events =
      subst (λ (hs : List Thing). Done old new seq (commands.Data size) (replies.Made hs)) (sym (both handles e2))
      (finish_noting old new seq (commands.Data size) (replies.Made (Token p ∷ Token (behind p) ∷ [])) able schema seqs unmoved
      (record { none = refl; handed = λ wire. refl; after = λ rs. refl; gives = refl; hands = refl; halves = λ wire past. refl })
      (events
      ∙ ap (λ (xs : List Thing). old.log.events ++ record { seq = seq; asked = asks.Data size; told = tells.Made xs } ∷ []) (both things e1))
      told_is agrees_now tt tables_now)
