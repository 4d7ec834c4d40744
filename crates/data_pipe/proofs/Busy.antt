-- What was begun at a token, by the table of data pipes.
use Rattle.std.proofs.Common.{◌≡◌, ℕ, Bool, true, false, List, [], ◌∷◌, refl, sym, ap, ◌∙◌, Some, None}
use Rattle.std.specs.Prelude.{◌||◌, if◌then◌else◌, Option}
use Rattle.std.specs.Option.{option_map}
use Rattle.mj_base.specs.declared.ids.SeqId.{SeqId}
use Rattle.handle_table.specs.declared.thing.Thing.{Thing}
use Rattle.handle_table.specs.declared.thing.Thing.TheVariants.{End, Token}
use Rattle.handle_table.specs.declared.thing.TokenId.{TokenId}
use Rattle.handle_table.specs.Things.{same_token}
use Rattle.handle_table.proofs.ThingsLemmas.{same_token-true}
use Rattle.bind_model.specs.declared.asked.Asked.{Asked}
use Rattle.bind_model.specs.declared.asked.Asked.TheVariants.{Data, Flow as Move}
use Rattle.bind_model.specs.declared.event.Event.{Event}
use Rattle.bind_model.specs.declared.flow.Flow.{Flow}
use Rattle.bind_model.specs.declared.flow.Flowed.{Flowed as FlowedType}
use Rattle.bind_model.specs.declared.told.Told.{Told}
use Rattle.bind_model.specs.declared.told.Told.TheVariants.{Made, Flowed}
use Rattle.bind_model.specs.declared.told.Why.TheVariants as whys
use Rattle.bind_model.specs.Data.{Begun, DataPipe, Nothing, begun, begun_by, is_busy, pipe_by, pipe_of}
use Rattle.bind_model.specs.Replies.{legal}
use Rattle.bind_model.specs.Tests.{busy}
use Rattle.bind_model.specs.Wire.{Wire}
use Rattle.bind_model.proofs.DataLemmas.{DataKept}
use Rattle.bind_model.proofs.Outcomes.{Outcome, flows, outcome}
use Rattle.data_pipe.specs.Agreement.{DataAgrees}
use Rattle.data_pipe.specs.History.{pipe_in}
use Rattle.data_pipe.specs.Pipe.{Pipe}
use Rattle.data_pipe.specs.declared.side.Side.TheVariants.{Producer, Consumer}
use Rattle.data_pipe.specs.Table.{Lines, first_begun, is_begun, is_begun_at, is_begun_in, or_token}
use Rattle.data_pipe.proofs.Agreeing.{is_side, line_here, side_is, token_of}
use Rattle.data_pipe.proofs.InHistory.{begun_else}

-- ## At a token of no data pipe nothing is begun

flowed_else : (past : List Event) (x t : TokenId) (f : Flow) (w : FlowedType) (b : Begun) (d : DataPipe) → pipe_of past x ≡ Some d → pipe_of past t ≡ None
    → begun_by (Flowed x w) (Move (Token x) f) t b ≡ b
flowed_else past x t f w b d there none = begun_else x t (go (same_token x t) refl) w f b
  where
    go : (same : Bool) → same_token x t ≡ same → same ≡ false
    go true e = let here : pipe_of past t ≡ Some d = ap (λ (y : TokenId). pipe_of past y) (sym (same_token-true x t e)) ∙ there in absurd cc
    go false e = refl

idle_by : (wire : Wire) (seqs : ℕ) (past : List Event) (seq : SeqId) {asked : Asked} {told : Told} → Outcome wire seqs past seq asked told → (t : TokenId)
    → pipe_of past t ≡ None → (b : Begun) → begun_by told asked t b ≡ b
idle_by wire seqs past seq (flows {t = x} {f = f} {told = w} d o e g) t none b = flowed_else past x t f w b d e none
idle_by wire seqs past seq o t none b = refl

some_stays : (told : Told) (asked : Asked) (t : TokenId) (d : DataPipe) → pipe_by told asked t (Some d) ≡ None → ⊥
some_stays (Made (Token p ∷ Token c ∷ [])) (Data size) t d e = go (same_token p t || same_token c t) e
  where
    go : (b : Bool) → (if b then Some (record { capacity = size; producer = p; consumer = c }) else Some d) ≡ None → ⊥
    go true e = cc
    go false e = cc
some_stays told asked t d e = cc

-- a token that is of none was of none
none_before : (told : Told) (asked : Asked) (t : TokenId) (before : Option DataPipe) → pipe_by told asked t before ≡ None → before ≡ None
none_before told asked t None e = refl
none_before told asked t (Some d) e = absurd (some_stays told asked t d e)

idle : (wire : Wire) (seqs : ℕ) (past : List Event) → legal wire seqs past → (t : TokenId) → pipe_of past t ≡ None → begun past t ≡ Nothing
idle wire seqs [] h t e = refl
idle wire seqs (event ∷ past) h t e =
    let none = none_before event.told event.asked t (pipe_of past t) e in
    idle_by wire seqs past event.seq (outcome wire seqs past event.seq event.asked event.told h.1) t none (begun past t) ∙ idle wire seqs past h.2 t none

-- ## The first token that is busy

module _ (wire : Wire) (seqs : ℕ) (past : List Event) (h : legal wire seqs past) (lines : Lines) (k : DataKept past) (a : DataAgrees past lines) where
  -- what was begun at a token is what the events say
  pub begun_is : (t : TokenId) → is_begun lines t ≡ is_busy (begun past t)
  begun_is t = ap (is_begun_in lines) (side_is past lines k a t) ∙ go (pipe_of past t) refl
    where
      sided : (d : DataPipe) → pipe_of past t ≡ Some d → (b : Bool) → same_token d.producer t ≡ b
          → is_begun_at (if b then Producer else Consumer) (Some (pipe_in past d)) ≡ is_busy (begun past t)
      sided d e true s = ap (λ (x : TokenId). is_busy (begun past x)) (same_token-true d.producer t s)
      sided d e false s =
          let other : same_token d.consumer t ≡ true = rw s at (is_side past t d e) in
          ap (λ (x : TokenId). is_busy (begun past x)) (same_token-true d.consumer t other)

      go : (o : Option DataPipe) → pipe_of past t ≡ o
          → is_begun_in lines (option_map (token_of t) o) ≡ is_busy (begun past t)
      go None e = sym (ap is_busy (idle wire seqs past h t e))
      go (Some d) e =
          ap (λ (line : Option Pipe). is_begun_at (token_of t d).side line) (line_here past lines k a t d e)
          ∙ sided d e (same_token d.producer t) refl

  pub busy_is : (things : List Thing) → busy past things ≡ option_map (λ (t : TokenId). whys.Busy t) (first_begun lines things)
  busy_is [] = refl
  busy_is (End x ∷ things) = busy_is things
  busy_is (Token t ∷ things) =
      go (is_busy (begun past t)) (busy_is things)
      ∙ ap (λ (b : Bool). option_map (λ (x : TokenId). whys.Busy x) (or_token (if b then Some t else None) (first_begun lines things))) (sym (begun_is t))
    where
      go : (b : Bool) → busy past things ≡ option_map (λ (x : TokenId). whys.Busy x) (first_begun lines things)
          → (if b then Some (whys.Busy t) else busy past things)
          ≡ option_map (λ (x : TokenId). whys.Busy x) (or_token (if b then Some t else None) (first_begun lines things))
      go true rest = refl
      go false rest = rest
