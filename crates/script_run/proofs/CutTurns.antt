-- Turns that are cut off by the number of events, as the desks see it that were woken for them.
use Rattle.std.proofs.Common.{◌≡◌, ◌≤◌, inl, inr, List, length, ◌∙◌, subst}
use Rattle.std.specs.Prelude.{Option, Some, Result, Ok, Err, IfErr, IsOkUnless, slice_get}
use Rattle.mj_base.specs.declared.ids.EndId.{EndId}
use Rattle.mj_base.specs.declared.ids.SeqId.{SeqId}
use Rattle.mj_base.specs.declared.limits.TheConstants.{MAX_EVENTS}
use Rattle.bind_core.specs.Play.{Play}
use Rattle.bind_model.specs.Replies.{Legal}
use Rattle.bind_model.specs.WireOf.{wire_of}
use Rattle.bind_model.specs.declared.asked.Asked.{Asked}
use Rattle.bind_model.specs.declared.asked.Asked.TheVariants as asks
use Rattle.call_script.specs.declared.script.AutoReply.{AutoReply}
use Rattle.call_script.specs.declared.script.Line.{Line}
use Rattle.call_script.specs.declared.script.Script.{Script}
use Rattle.remote_receiver.specs.Notes.{Kept}
use Rattle.remote_receiver.specs.declared.rest.Rest.{Rest}
use Rattle.script_names.specs.Asking.{asked_by}
use Rattle.script_run.specs.declared.cut.Cut.{Cut}
use Rattle.script_run.specs.declared.cut.Cut.TheVariants as cuts
use Rattle.script_run.specs.declared.plain.Plain.{Plain}
use Rattle.script_names.specs.declared.rooms.Rooms.{Rooms}
use Rattle.script_run.specs.Draining.{IsUnspent}
use Rattle.script_run.specs.steps.Cutting.{CameTaking, CutJoin, CutLine, CutTake, PartTake}
use Rattle.script_run.specs.AtDesk.{IsLater, Seen}
use Rattle.script_run.specs.steps.Desks.{CameTo, CutIn, IfSpent, IsFull}
use Rattle.script_run.specs.steps.Going.{IsWoken}
use Rattle.script_names.specs.Held.{names_in}
use Rattle.script_run.specs.steps.Running.{seat_of}
use Rattle.script_run.proofs.Coming.{at_seat}

-- a cut that can't be for the number of events
pub unspent_of : (cut : Cut) (P : Type 0) → IfSpent cut P → (P → ⊥) → IsUnspent cut
unspent_of cuts.Memory P full never = tt
unspent_of cuts.Spent P full never = never full

module _ (script : Script) (autos : List AutoReply) (core at there after : Play) (of on : SeqId) (rests woken : List (Rest Plain)) (kept : Kept Plain)
    (by : autos ≡ script.autos) (same : after ≡ there) (legal : Legal (wire_of after.schema) after.seqs after.events) where
  me_of : (asked : Asked) (b a : Seen) → CutIn script.autos asked b a kept → a.me ≡ b.me
  me_of asked b a (inl full) = full.same.me
  me_of asked b a (inr behind) = behind.full.same.me ∙ behind.went.same.me

  -- by the core that the desk was woken with
  cut_in : (asked : Asked) (seq : SeqId) → IsWoken seq core rests woken at of kept → CutIn autos asked (seat_of at of) (seat_of there on) kept
      → CutIn script.autos asked (seat_of core seq) (seat_of after seq) kept
  cut_in asked seq is full =
      (at_seat (λ b a. CutIn script.autos asked b a kept) (λ b a d. me_of asked b a d) core at there after seq of on is.core is.seq same
      (subst (λ (all : List AutoReply). CutIn all asked (seat_of at of) (seat_of there on) kept) by full)).1

  pub cut_line : (line : Line) (rooms : List Rooms) (room : Rooms) → IsWoken line.seq core rests woken at of kept → slice_get rooms line.seq.0 ≡ Some room
      → (cut : Cut) → IfSpent cut (CutIn autos (asked_by (names_in room) line) (seat_of at of) (seat_of there on) kept)
      → IfSpent cut (CutLine script line core after rooms)
  cut_line line rooms room is here cuts.Memory full = tt
  cut_line line rooms room is here cuts.Spent full = record {
    legal = legal;
    room = room;
    here = here;
    kept = kept;
    cut = cut_in (asked_by (names_in room) line) line.seq is full;
  }

  pub cut_take : (seq : SeqId) (end : EndId) → IsWoken seq core rests woken at of kept → (cut : Cut)
      → IfSpent cut (CutIn autos (asks.Take end) (seat_of at of) (seat_of there on) kept) → IfSpent cut (CutTake script seq end core after)
  cut_take seq end is cuts.Memory full = tt
  cut_take seq end is cuts.Spent full = record { legal = legal; kept = kept; cut = cut_in (asks.Take end) seq is full }

  -- or how far it came
  pub part_take : (seq : SeqId) (end : EndId) → IsWoken seq core rests woken at of kept → IsLater (seat_of at of) (seat_of there on)
      → CameTo autos (asks.Take end) (seat_of at of) (seat_of there on) → PartTake script seq end core after
  part_take seq end is later came = record {
    legal = legal;
    came = (at_seat (CameTaking script end) (λ b a c. c.0.same.me) core at there after seq of on is.core is.seq same
        (later, subst (λ (all : List AutoReply). CameTo all (asks.Take end) (seat_of at of) (seat_of there on)) by came)).1;
  }

-- a join's
pub cut_join : (seq : SeqId) (core at there after : Play) (of on : SeqId) (rests woken : List (Rest Plain)) (kept : Kept Plain) → after ≡ there
    → Legal (wire_of after.schema) after.seqs after.events → IsWoken seq core rests woken at of kept → (cut : Cut)
    → IfSpent cut (IsFull (seat_of at of) (seat_of there on)) → IfSpent cut (CutJoin seq core after)
cut_join seq core at there after of on rests woken kept same legal is cuts.Memory full = tt
cut_join seq core at there after of on rests woken kept same legal is cuts.Spent full = record {
  legal = legal;
  cut = (at_seat (λ b a. IsFull b a) (λ b a f. f.same.me) core at there after seq of on is.core is.seq same full).1;
}

-- what can only be cut off by want of memory
pub memory_only : (result : Result (Unit {0}) Cut) (P : Type 0) → IsOkUnless result cuts.Memory → IfErr result (λ cut. IfSpent cut P)
memory_only (Ok done) P only = tt
memory_only (Err cuts.Memory) P only = tt
memory_only (Err cuts.Spent) P only = absurd (let none : cuts.Spent ≡ cuts.Memory = only in cc)

-- the history is full where a turn is cut off for it
pub take_full : (script : Script) (seq : SeqId) (end : EndId) (before after : Play) → CutTake script seq end before after → MAX_EVENTS ≤ length after.events
take_full script seq end before after cut = go cut.cut
  where
    go : CutIn script.autos (asks.Take end) (seat_of before seq) (seat_of after seq) cut.kept → MAX_EVENTS ≤ length after.events
    go (inl full) = full.full
    go (inr behind) = behind.full.full

pub spent_full : (cut : Cut) (P Q : Type 0) → IfSpent cut P → (P → Q) → ◌≡◌ {A = Result (Unit {0}) Cut} (Err cut) (Err cuts.Spent) → Q
spent_full cuts.Memory P Q full f e = absurd cc
spent_full cuts.Spent P Q full f e = f full

-- a cut is which it is
pub cut_is : (one other : Cut) → ◌≡◌ {A = Option Cut} (Some one) (Some other) → one ≡ other
cut_is one other e = cc
