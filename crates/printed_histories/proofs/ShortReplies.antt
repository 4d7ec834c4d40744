-- What was written raw isn't too long.
use Rattle.std.proofs.Common.{◌≤◌, ℕ, false, List, [], ◌∷◌, length, refl, arith}
use Rattle.std.specs.Prelude.{Option, Some, None, nat_le}
use Rattle.std.proofs.lemmas.Bool.{leb-true}
use Rattle.mj_base.specs.declared.ids.SeqId.{SeqId}
use Rattle.handle_table.specs.declared.thing.Thing.{Thing}
use Rattle.handle_table.specs.declared.thing.Thing.TheVariants.{End, Token}
use Rattle.bind_model.specs.declared.asked.Asked.{Asked}
use Rattle.bind_model.specs.declared.asked.Asked.TheVariants.{Pipe, Join, Mint, Bind, Associate, Attach, Call, Answer, Raw, Take, Close, Notify, Pause}
use Rattle.bind_model.specs.declared.asked.Asked.TheVariants.{Data, Flow as Move, Skip}
use Rattle.bind_model.specs.declared.event.Event.{Event}
use Rattle.bind_model.specs.declared.limits.TheConstants.{MAX_RAW_BYTES, MAX_RAW_HANDLES}
use Rattle.bind_model.specs.declared.told.Told.{Told}
use Rattle.bind_model.specs.declared.told.Told.TheVariants.{Wrote}
use Rattle.bind_model.specs.declared.told.Why.{Why}
use Rattle.bind_model.specs.declared.told.Why.TheVariants.{NoName, TooLong, TooManyHandles}
use Rattle.bind_model.specs.Replies.{all_out, answer, cannot_write, first_of, unless, wrote_at}
use Rattle.bind_model.specs.Wire.{Wire}
use Rattle.bind_model.proofs.Outcomes.{Passes, held}
use Rattle.printed_histories.proofs.SmallSaid.{IsShort}

module _ (wire : Wire) (past : List Event) (seq : SeqId) where
  -- what is written isn't too long
  first_short : (y : Thing) (bytes : List ℕ) (handles : List Thing) (tests : List (Option Why)) (done : Told)
      → (Passes tests → IsShort (Raw y bytes handles) done) → IsShort (Raw y bytes handles) (first_of tests done)
  first_short y bytes handles [] done d = d tt
  first_short y bytes handles (None ∷ ts) done d = first_short y bytes handles ts done (λ p. d (refl, p))
  first_short y bytes handles (Some why ∷ ts) done d = tt

  wrote_short : (y x : Thing) (bytes : List ℕ) (handles : List Thing) → IsShort (Raw y bytes handles) (wrote_at wire past x bytes handles)
  wrote_short y (Token t) bytes handles = tt
  wrote_short y (End x) bytes handles = first_short y bytes handles (
      unless (nat_le (length bytes) MAX_RAW_BYTES) TooLong
      ∷ unless (nat_le (length handles) MAX_RAW_HANDLES) TooManyHandles
      ∷ cannot_write wire past x false handles)
      (Wrote x)
      (λ p. let few : length bytes ≤ MAX_RAW_BYTES = leb-true (length bytes) MAX_RAW_BYTES (held (nat_le (length bytes) MAX_RAW_BYTES) TooLong p.0) in
      omega (arith, few))

  pub short_answer : (seqs : ℕ) (asked : Asked) → IsShort asked (answer wire seqs past seq asked)
  short_answer seqs Pipe = tt
  short_answer seqs (Join t) = tt
  short_answer seqs (Mint sort) = tt
  short_answer seqs (Bind x side interface) = tt
  short_answer seqs (Associate y side interface) = tt
  short_answer seqs (Attach p t) = tt
  short_answer seqs (Call y id o) = tt
  short_answer seqs (Answer r o) = tt
  short_answer seqs (Raw x bytes handles) = first_short x bytes handles (unless (all_out past (x ∷ handles)) NoName ∷ []) (wrote_at wire past x bytes handles)
      (λ p. wrote_short x x bytes handles)
  short_answer seqs (Take y) = tt
  short_answer seqs (Close closing) = tt
  short_answer seqs (Notify y notice) = tt
  short_answer seqs (Pause b a flush) = tt
  short_answer seqs (Data size) = tt
  short_answer seqs (Move x flow) = tt
  short_answer seqs (Skip line) = tt
