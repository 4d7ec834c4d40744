-- What comes and goes with replies was made.
use Rattle.std.proofs.Common.{ℕ, List, ◌∷◌, arith}
use Rattle.handle_table.specs.Things.{without}
use Rattle.handle_table.proofs.ThingsLemmas.{has-back}
use Rattle.mj_schema.specs.declared.schema.Schema.{Schema}
use Rattle.bind_model.specs.declared.event.Event.{Event}
use Rattle.bind_model.specs.declared.told.Told.{Told}
use Rattle.bind_model.specs.declared.told.Told.TheVariants.{Made, Bound, Associated, Attached, Sent, Wrote, Taken, Dropped, Control, Bad, Closed, Notified as Informed, Pausing, Flowed, Skipped, No}
use Rattle.bind_model.specs.Machine.{made, out, gone, given, handed, gone_by}
use Rattle.bind_model.specs.Replies.{legal}
use Rattle.bind_model.specs.Wire.{Wire}
use Rattle.bind_model.proofs.Counting.{times-present, present}
use Rattle.bind_model.proofs.Fresh.{kept}
use Rattle.bind_model.proofs.Kept.{Kept, out_made}
use Rattle.history_reader.specs.Printable.{IsThing, AreAll, IsMessage, IsTold}
use Rattle.printed_histories.proofs.SmallLists.{all_standing, standing}
use Rattle.printed_histories.proofs.SmallSaid.{IsSmallTold}

module _ (wire : Wire) (seqs : ℕ) (event : Event) (past : List Event) (h : legal wire seqs (event ∷ past)) (a : AreAll IsThing (made (event ∷ past))) where
  k : Kept wire (event ∷ past)
  k = kept wire seqs (event ∷ past) h

  pub all_handed : AreAll IsThing (handed event.told)
  all_handed = all_standing IsThing (handed event.told) (λ z e. standing IsThing (made (event ∷ past)) a z
      (out_made wire (event ∷ past) k z (has-back (without (given event.told event.asked) (out past)) (handed event.told) z e)))

  pub all_gone : AreAll IsThing (gone_by event.told)
  all_gone = all_standing IsThing (gone_by event.told) (λ z e. standing IsThing (made (event ∷ past)) a z
      (present z (made (event ∷ past))
      (omega (arith, times-present z (gone (event ∷ past)) (has-back (gone past) (gone_by event.told) z e), k.one z))))

-- the message of what was got is one that a text can say
abbrev pub IsGotMessage : Schema → Told → Type 0
IsGotMessage schema (Taken g) = IsMessage schema g.target.side g.target g.parameters
IsGotMessage schema told = Unit {0}

-- what is told can be said
pub told_said : (schema : Schema) (told : Told) → IsSmallTold told → IsGotMessage schema told → AreAll IsThing (handed told)
    → AreAll IsThing (gone_by told) → IsTold schema told
told_said schema (Made things) i m h g = i.0
told_said schema (Bound x) i m h g = i
told_said schema (Associated q) i m h g = i
told_said schema (Attached id) i m h g = i
told_said schema (Sent request bytes) i m h g = (i.0, i.1.0)
told_said schema (Wrote x) i m h g = i
told_said schema (Taken got) i m h g = (i.0, m, i.2, h, i.3, g, i.4)
told_said schema (Dropped id things) i m h g = (i, g)
told_said schema (Control noted) i m h g = i
told_said schema (Bad why things) i m h g = (i, g)
told_said schema (Closed things) i m h g = g
told_said schema (Informed notified) i m h g = i
told_said schema Pausing i m h g = tt
told_said schema (Flowed t flowed) i m h g = i
told_said schema Skipped i m h g = tt
told_said schema (No why) i m h g = i
