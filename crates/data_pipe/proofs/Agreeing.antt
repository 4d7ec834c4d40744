-- The table of data pipes stays what the events say.
use Rattle.std.proofs.Common.{◌≡◌, ℕ, zero, suc, Bool, true, false, List, [], ◌∷◌, refl, sym, ap, subst, ◌∙◌, Some, None, arith, inl, inr}
use Rattle.std.specs.Prelude.{◌+◌, ◌-◌, ◌==◌, ◌||◌, if◌then◌else◌, is_some, Option, Ok}
use Rattle.std.specs.Option.{option_map}
use Rattle.std.proofs.lemmas.Bool.{eqb-true}
use Rattle.mj_base.specs.declared.ids.SeqId.{SeqId}
use Rattle.handle_table.specs.declared.thing.Thing.TheVariants.{Token}
use Rattle.handle_table.specs.declared.thing.TokenId.{TokenId}
use Rattle.handle_table.specs.Things.{same_token, has}
use Rattle.handle_table.proofs.ThingsLemmas.{or_cases, same-refl, same_token-true}
use Rattle.bind_model.specs.declared.asked.Asked.{Asked}
use Rattle.bind_model.specs.declared.asked.Asked.TheVariants.{Data}
use Rattle.bind_model.specs.declared.event.Event.{Event}
use Rattle.bind_model.specs.declared.flow.Flow.{Flow}
use Rattle.bind_model.specs.declared.flow.Flowed.{Flowed as FlowedType}
use Rattle.bind_model.specs.declared.told.Told.{Told}
use Rattle.bind_model.specs.declared.told.Told.TheVariants.{Made, Flowed}
use Rattle.bind_model.specs.Data.{Begun, DataPipe, begun, begun_by, drains, fills, pipe_by, pipe_of}
use Rattle.bind_model.specs.Machine.{made}
use Rattle.bind_model.proofs.DataLemmas.{DataKept}
use Rattle.data_pipe.specs.declared.side.DataToken.{DataToken}
use Rattle.data_pipe.specs.declared.side.Side.TheVariants.{Producer, Consumer}
use Rattle.data_pipe.specs.Agreement.{DataAgrees, if_producer, produced}
use Rattle.data_pipe.specs.History.{pipe_in, side_of}
use Rattle.data_pipe.specs.steps.MovesData.{moves_data}
use Rattle.data_pipe.specs.Moving.{after, told}
use Rattle.data_pipe.specs.Pipe.{Pipe, empty_pipe}
use Rattle.data_pipe.specs.Table.{Lines, behind, has_line, in_front, line_of, side_in, AllStay, Becomes}
use Rattle.data_pipe.proofs.InHistory.{event_of, pipe_apart, pipe_new, pipe_next, pipe_stays}

-- ## A token is of one side of its data pipe

sides_by : (told : Told) (asked : Asked) (t : TokenId) (before : Option DataPipe) (d : DataPipe)
    → (before ≡ Some d → (same_token d.producer t || same_token d.consumer t) ≡ true)
    → pipe_by told asked t before ≡ Some d → (same_token d.producer t || same_token d.consumer t) ≡ true
sides_by (Made (Token p ∷ Token c ∷ [])) (Data size) t before d rest e = go (same_token p t || same_token c t) refl e
  where
    go : (b : Bool) → (same_token p t || same_token c t) ≡ b
        → (if b then Some (record { capacity = size; producer = p; consumer = c }) else before) ≡ Some d
        → (same_token d.producer t || same_token d.consumer t) ≡ true
    go true here e =
        let same : d ≡ record { capacity = size; producer = p; consumer = c } = cc in
        subst (λ (x : DataPipe). (same_token x.producer t || same_token x.consumer t) ≡ true) (sym same) here
    go false here e = rest e
sides_by told asked t before d rest e = rest e

pub is_side : (past : List Event) (t : TokenId) (d : DataPipe) → pipe_of past t ≡ Some d
    → (same_token d.producer t || same_token d.consumer t) ≡ true
is_side [] t d e = absurd cc
is_side (event ∷ past) t d e = sides_by event.told event.asked t (pipe_of past t) d (is_side past t d) e

-- a token behind another has that in front of it, and isn't the first
front_behind : (t : TokenId) → in_front (behind t) ≡ t
front_behind t = ap (λ (n : ℕ). record { seq = t.seq; serial = n }) (take_one t.serial)
  where
    take_one : (n : ℕ) → (n + 1) - 1 ≡ n
    take_one n = omega arith

never_first : (t : TokenId) → ((behind t).serial == 0) ≡ false
never_first t = go (t.serial + 1 == 0) refl
  where
    go : (b : Bool) → (t.serial + 1 == 0) ≡ b → b ≡ false
    go true e = absurd (omega (arith, eqb-true (t.serial + 1) 0 e))
    go false e = refl

behind_front : (t : TokenId) → (t.serial == 0) ≡ false → behind (in_front t) ≡ t
behind_front t other = go t.serial refl
  where
    go : (n : ℕ) → t.serial ≡ n → behind (in_front t) ≡ t
    go zero e = absurd (let none : (t.serial == 0) ≡ true = rw e refl in cc)
    go (suc n) e = ap (λ (m : ℕ). record { seq = t.seq; serial = m }) (omega (arith, e))

-- a token of a data pipe
abbrev pub token_of : TokenId → DataPipe → DataToken
token_of t d = record { producer = d.producer; side = if same_token d.producer t then Producer else Consumer }

-- how a token is looked for: as a producer, and else behind the token in front of it
abbrev looks : Bool → Bool → TokenId → Option DataToken
looks first there x = if first then None else (if there then Some (record { producer = x; side = Consumer }) else None)

abbrev sides : Bool → TokenId → Option DataToken → Option DataToken
sides here t other = if here then Some (record { producer = t; side = Producer }) else other

abbrev side_with : TokenId → Bool → Option DataToken
side_with x is = Some (record { producer = x; side = if is then Producer else Consumer })

module _ (past : List Event) (lines : Lines) (k : DataKept past) (a : DataAgrees past lines) where
  -- the line of a data pipe
  pub line_here : (t : TokenId) (d : DataPipe) → pipe_of past t ≡ Some d → line_of lines d.producer ≡ Some (pipe_in past d)
  line_here t d e =
      a.lines d.producer
      ∙ (ap (λ (o : Option DataPipe). option_map (pipe_in past) (if_producer d.producer o)) (k.own t d e).0
      ∙ rw (same-refl (Token d.producer)) refl)

  -- no line where no data pipe is produced
  no_line : (t : TokenId) → produced past t ≡ None → has_line lines t ≡ false
  no_line t e = ap (λ (o : Option Pipe). is_some o) (a.lines t ∙ ap (option_map (pipe_in past)) e)

  -- that there is none where a data pipe of the token in front would be its own
  none_before : (t : TokenId) → pipe_of past t ≡ None → (t.serial == 0) ≡ false → (o : Option DataPipe) → pipe_of past (in_front t) ≡ o
      → if_producer (in_front t) o ≡ None
  none_before t none other None e = refl
  none_before t none other (Some d) e = go (same_token d.producer (in_front t)) refl
    where
      go : (b : Bool) → same_token d.producer (in_front t) ≡ b → (if b then Some d else None) ≡ None
      go true h =
          let same : d.producer ≡ in_front t = same_token-true d.producer (in_front t) h in
          let own : d.consumer ≡ t = a.next (in_front t) d e ∙ (ap behind same ∙ behind_front t other) in
          let there : pipe_of past t ≡ Some d = ap (λ (x : TokenId). pipe_of past x) (sym own) ∙ (k.own (in_front t) d e).1 in
          absurd cc
      go false h = refl

  -- a token is found in the table as the events have it
  pub side_is : (t : TokenId) → side_in lines t ≡ option_map (token_of t) (pipe_of past t)
  side_is t = found (pipe_of past t) refl
    where
      lacks : pipe_of past t ≡ None → has_line lines t ≡ false
      lacks e = no_line t (ap (if_producer t) e)

      first : (b : Bool) → (t.serial == 0) ≡ b → pipe_of past t ≡ None → looks b (has_line lines (in_front t)) (in_front t) ≡ None
      first true h e = refl
      first false h e =
          ap (λ (x : Bool). looks false x (in_front t)) (no_line (in_front t) (none_before t e h (pipe_of past (in_front t)) refl))

      second : (d : DataPipe) → pipe_of past t ≡ Some d → same_token d.consumer t ≡ true
          → looks (t.serial == 0) (has_line lines (in_front t)) (in_front t) ≡ side_with d.producer false
      second d e h =
          let own : t ≡ behind d.producer = sym (same_token-true d.consumer t h) ∙ a.next t d e in
          let there : has_line lines d.producer ≡ true = ap (λ (o : Option Pipe). is_some o) (line_here t d e) in
          let least : (t.serial == 0) ≡ false = ap (λ (x : TokenId). x.serial == 0) own ∙ never_first d.producer in
          let before : in_front t ≡ d.producer = ap in_front own ∙ front_behind d.producer in
          let line : has_line lines (in_front t) ≡ true = ap (λ (x : TokenId). has_line lines x) before ∙ there in
          ap (λ (x : Bool). looks x (has_line lines (in_front t)) (in_front t)) least
          ∙ (ap (λ (x : Bool). looks false x (in_front t)) line ∙ ap (λ (x : TokenId). looks false true x) before)

      sided : (d : DataPipe) → pipe_of past t ≡ Some d → (b : Bool) → same_token d.producer t ≡ b → side_in lines t ≡ side_with d.producer b
      sided d e true h =
          let same : d.producer ≡ t = same_token-true d.producer t h in
          let there : has_line lines t ≡ true =
          ap (λ (x : TokenId). has_line lines x) (sym same) ∙ ap (λ (o : Option Pipe). is_some o) (line_here t d e) in
          ap (λ (x : Bool). sides x t (looks (t.serial == 0) (has_line lines (in_front t)) (in_front t))) there
          ∙ ap (λ (x : TokenId). side_with x true) (sym same)
      sided d e false h =
          let away : has_line lines t ≡ false = no_line t (ap (if_producer t) e ∙ rw h refl) in
          let other : same_token d.consumer t ≡ true = rw h at (is_side past t d e) in
          ap (λ (x : Bool). sides x t (looks (t.serial == 0) (has_line lines (in_front t)) (in_front t))) away ∙ second d e other

      found : (o : Option DataPipe) → pipe_of past t ≡ o → side_in lines t ≡ option_map (token_of t) o
      found None e =
          ap (λ (x : Bool). sides x t (looks (t.serial == 0) (has_line lines (in_front t)) (in_front t))) (lacks e) ∙ first (t.serial == 0) refl e
      found (Some d) e = sided d e (same_token d.producer t) refl

-- ## Other events leave the table

stays_pipe : (told : Told) (asked : Asked) (t : TokenId) (before : Option DataPipe) → moves_data told asked ≡ false → pipe_by told asked t before ≡ before
stays_pipe (Made (Token p ∷ Token c ∷ [])) (Data size) t before h = absurd cc
stays_pipe told asked t before h = refl

stays_filled : (told : Told) (asked : Asked) (t : TokenId) → moves_data told asked ≡ false → fills told asked t ≡ []
stays_filled (Flowed x w) asked t h = absurd cc
stays_filled told asked t h = refl

stays_drained : (told : Told) (asked : Asked) (t : TokenId) (before : Begun) → moves_data told asked ≡ false → drains told asked t before ≡ []
stays_drained (Flowed x w) asked t before h = absurd cc
stays_drained told asked t before h = refl

stays_begun : (told : Told) (asked : Asked) (t : TokenId) (before : Begun) → moves_data told asked ≡ false → begun_by told asked t before ≡ before
stays_begun (Flowed x w) asked t before h = absurd cc
stays_begun told asked t before h = refl

pub data_quiet : (event : Event) (past : List Event) (lines : Lines) → moves_data event.told event.asked ≡ false → DataAgrees past lines
    → DataAgrees (event ∷ past) lines
data_quiet event past lines h a = record {
  lines = λ t. a.lines t ∙ (lines_of (produced past t) ∙ ap (λ (o : Option DataPipe). option_map (pipe_in (event ∷ past)) (if_producer t o)) (sym (same t)));
  next = λ t d e. a.next t d (sym (same t) ∙ e);
}
  where
    same : (t : TokenId) → pipe_of (event ∷ past) t ≡ pipe_of past t
    same t = stays_pipe event.told event.asked t (pipe_of past t) h

    lines_of : (o : Option DataPipe) → option_map (pipe_in past) o ≡ option_map (pipe_in (event ∷ past)) o
    lines_of None = refl
    lines_of (Some d) =
        ap Some
        (sym
        (pipe_stays past d event (stays_filled event.told event.asked d.producer h)
        (stays_drained event.told event.asked d.consumer (begun past d.consumer) h)
        (stays_begun event.told event.asked d.producer (begun past d.producer) h)
        (stays_begun event.told event.asked d.consumer (begun past d.consumer) h)))

-- a line that was entered and taken away again
pub taken_back : (p : TokenId) (pipe : Pipe) (old mid new : Lines) → line_of old p ≡ None → Becomes p (Some pipe) old mid → Becomes p None mid new
    → AllStay old new
taken_back p pipe old mid new fresh entered taken t = taken t ∙ go (same_token p t) refl
  where
    go : (x : Bool) → same_token p t ≡ x → (if x then None else line_of mid t) ≡ line_of old t
    go true e = sym (ap (λ (y : TokenId). line_of old y) (sym (same_token-true p t e)) ∙ fresh)
    go false e = entered t ∙ ap (λ (y : Bool). if y then Some pipe else line_of old t) e

-- no lines agree with no events
pub none_agree : DataAgrees [] []
none_agree = record { lines = λ t. refl; next = λ t d e. absurd cc }

-- lines that say the same agree too
pub flows_same : (past : List Event) (old new : Lines) → AllStay old new → DataAgrees past old → DataAgrees past new
flows_same past old new same a = record { lines = λ t. same t ∙ a.lines t; next = a.next }

-- ## A data pipe that is made

module _ (past : List Event) (k : DataKept past) where
  made_there : (x t : TokenId) → x ≡ t → has (made past) (Token t) ≡ false → has (made past) (Token x) ≡ true → ⊥
  made_there x t same fresh there =
      let here : has (made past) (Token t) ≡ true = ap (λ (y : TokenId). has (made past) (Token y)) (sym same) ∙ there in cc

  -- a token that isn't made yet is of none
  pub fresh_none : (t : TokenId) → has (made past) (Token t) ≡ false → pipe_of past t ≡ None
  fresh_none t fresh = go (pipe_of past t) refl
    where
      go : (o : Option DataPipe) → pipe_of past t ≡ o → o ≡ None
      go None e = refl
      go (Some d) e = absurd (elim (or_cases (same_token d.producer t) (same_token d.consumer t) (is_side past t d e)) [
        | inl s ↦ made_there d.producer t (same_token-true d.producer t s) fresh (k.own t d e).3
        | inr s ↦ made_there d.consumer t (same_token-true d.consumer t s) fresh (k.own t d e).4
      ])

module _ (past : List Event) (seq : SeqId) (size : ℕ) (p : TokenId) (lines new : Lines) (k : DataKept past) (a : DataAgrees past lines)
    (fresh_one : has (made past) (Token p) ≡ false) (fresh_other : has (made past) (Token (behind p)) ≡ false)
    (b : Becomes p (Some (empty_pipe size)) lines new) where
  abbrev one : DataPipe
  one = record { capacity = size; producer = p; consumer = behind p }

  abbrev event : Event
  event = record { seq = seq; asked = Data size; told = Made (Token p ∷ Token (behind p) ∷ []) }

  -- the others stay
  others : (o : Option DataPipe) → option_map (pipe_in past) o ≡ option_map (pipe_in (event ∷ past)) o
  others None = refl
  others (Some d) = ap Some (sym (pipe_stays past d event refl refl refl refl))

  line_next : (t : TokenId) (first second : Bool) → same_token p t ≡ first → same_token (behind p) t ≡ second
      → (if first then Some (empty_pipe size) else line_of lines t)
      ≡ option_map (pipe_in (event ∷ past)) (if_producer t (if first || second then Some one else pipe_of past t))
  line_next t true second h g =
      ap Some (sym (pipe_new past seq k one fresh_one fresh_other))
      ∙ ap (λ (x : Bool). option_map (pipe_in (event ∷ past)) (if x then Some one else None)) (sym h)
  line_next t false true h g =
      let fresh : has (made past) (Token t) ≡ false =
      ap (λ (x : TokenId). has (made past) (Token x)) (sym (same_token-true (behind p) t g)) ∙ fresh_other in
      a.lines t
      ∙ (ap (λ (o : Option DataPipe). option_map (pipe_in past) (if_producer t o)) (fresh_none past k t fresh)
      ∙ ap (λ (x : Bool). option_map (pipe_in (event ∷ past)) (if x then Some one else None)) (sym h))
  line_next t false false h g = a.lines t ∙ others (produced past t)

  pub data_made : DataAgrees (event ∷ past) new
  data_made = record {
    lines = λ t. b t ∙ line_next t (same_token p t) (same_token (behind p) t) refl refl;
    next = λ t d e. next_of t d (same_token p t || same_token (behind p) t) e;
  }
    where
      next_of : (t : TokenId) (d : DataPipe) (own : Bool) → (if own then Some one else pipe_of past t) ≡ Some d → d.consumer ≡ behind d.producer
      next_of t d true e = let same : one ≡ d = cc in subst (λ (x : DataPipe). x.consumer ≡ behind x.producer) same refl
      next_of t d false e = a.next t d e

-- ## Bytes that are moved

module _ (past : List Event) (seq : SeqId) (d : DataPipe) (f : Flow) (w : FlowedType) (gone : Bool) (lines new : Lines) (k : DataKept past)
    (a : DataAgrees past lines) (at : pipe_of past (side_of f d) ≡ Some d) (e : told (pipe_in past d) gone f ≡ Ok w)
    (b : Becomes d.producer (Some (after f w (pipe_in past d))) lines new) where
  abbrev moved : Event
  moved = event_of past seq k d f w

  -- a token of this data pipe is of no other
  one_pipe : (o : DataPipe) (t : TokenId) → pipe_of past t ≡ Some o → same_token (side_of f d) t ≡ true → o ≡ d
  one_pipe o t there h =
      let here : pipe_of past t ≡ Some d = ap (λ (x : TokenId). pipe_of past x) (sym (same_token-true (side_of f d) t h)) ∙ at in cc

  unlike : (o : DataPipe) (t : TokenId) → pipe_of past t ≡ Some o → (o ≡ d → ⊥) → same_token (side_of f d) t ≡ false
  unlike o t there other = go (same_token (side_of f d) t) refl
    where
      go : (x : Bool) → same_token (side_of f d) t ≡ x → x ≡ false
      go true h = absurd (other (one_pipe o t there h))
      go false h = refl

  flowed_elsewhere : (t : TokenId) → same_token d.producer t ≡ false → (o : Option DataPipe) → pipe_of past t ≡ o
      → option_map (pipe_in past) (if_producer t o) ≡ option_map (pipe_in (moved ∷ past)) (if_producer t o)
  flowed_elsewhere t h None there = refl
  flowed_elsewhere t h (Some o) there = go (same_token o.producer t) refl
    where
      another : same_token o.producer t ≡ true → o ≡ d → ⊥
      another s same = let mine : same_token d.producer t ≡ true = ap (λ (x : DataPipe). same_token x.producer t) (sym same) ∙ s in cc

      go : (x : Bool) → same_token o.producer t ≡ x
          → option_map (pipe_in past) (if x then Some o else None) ≡ option_map (pipe_in (moved ∷ past)) (if x then Some o else None)
      go true s =
          ap Some
          (sym
          (pipe_apart past seq o (side_of f d) f w (unlike o o.producer (k.own t o there).0 (another s))
          (unlike o o.consumer (k.own t o there).1 (another s))))
      go false s = refl

  line_moved : (t : TokenId) (mine : Bool) → same_token d.producer t ≡ mine
      → (if mine then Some (after f w (pipe_in past d)) else line_of lines t) ≡ option_map (pipe_in (moved ∷ past)) (produced past t)
  line_moved t true h =
      let here : produced past t ≡ Some d =
      ap (if_producer t) (ap (λ (x : TokenId). pipe_of past x) (sym (same_token-true d.producer t h)) ∙ (k.own (side_of f d) d at).0) ∙ rw h refl in
      ap Some (sym (pipe_next past seq k d gone f w at e)) ∙ ap (option_map (pipe_in (moved ∷ past))) (sym here)
  line_moved t false h = a.lines t ∙ flowed_elsewhere t h (pipe_of past t) refl

  pub data_flowed : DataAgrees (moved ∷ past) new
  data_flowed = record { lines = λ t. b t ∙ line_moved t (same_token d.producer t) refl; next = a.next }
