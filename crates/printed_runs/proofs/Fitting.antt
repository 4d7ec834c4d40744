-- What a script's run sends fits its methods: it was prepared, and the ordinals of methods are numbers of 32 bits.
use Rattle.std.proofs.Common.{ℕ, List, [], ◌∷◌, Option, reverse}
use Rattle.mj_schema.specs.declared.schema.Schema.{Schema}
use Rattle.wire_model.specs.declared.target.MessageSide.{MessageSide}
use Rattle.wire_model.specs.declared.target.MessageSide.TheVariants.{Request, Response}
use Rattle.bind_model.specs.declared.asked.Asked.{Asked}
use Rattle.bind_model.specs.declared.asked.Asked.TheVariants as asks
use Rattle.bind_model.specs.declared.asked.Outgoing.{Outgoing}
use Rattle.bind_model.specs.declared.event.Event.{Event}
use Rattle.reply_laws.specs.Own.{FitsMethod}
use Rattle.line_parts.specs.Schemas.{IsPrintableSchema}
use Rattle.call_script.specs.Script.{IsScriptOf}
use Rattle.call_script.specs.declared.script.Script.{Script}
use Rattle.script_run.specs.OfScript.{OfScript}
use Rattle.printed_histories.specs.Asked.{AllAskSaid, AsksSaid, Sends}
use Rattle.printed_histories.proofs.ValueSent.{PassedIsEncodable, has_struct}
use Rattle.printed_runs.specs.Fitting.{AsksFit, AllFit}
use Rattle.printed_runs.proofs.ValueScript.{script_asks}

module _ (schema : Schema) (words : IsPrintableSchema schema) where
  sending_fits : (side : MessageSide) (s : Outgoing) → Sends schema side s → FitsMethod schema s
  sending_fits side s (is, moment) =
      let has = has_struct schema s.target is.number is.parameters in
      record {
        met = is.met;
        passes = is.passes;
        short = is.short;
        method = words.ordinals s.target.interface s.target.method has.method has.found;
        moment = moment;
      }

  asked_fits : (asked : Asked) → AsksSaid schema asked → AsksFit schema asked
  asked_fits asks.Pipe is = tt
  asked_fits (asks.Join t) is = tt
  asked_fits (asks.Mint sort) is = tt
  asked_fits (asks.Bind x side interface) is = tt
  asked_fits (asks.Associate x side interface) is = tt
  asked_fits (asks.Attach p t) is = tt
  asked_fits (asks.Call y id s) is = sending_fits Request s is
  asked_fits (asks.Answer r s) is = sending_fits Response s is
  asked_fits (asks.Raw x bytes handles) is = tt
  asked_fits (asks.Take x) is = tt
  asked_fits (asks.Close closing) is = tt
  asked_fits (asks.Notify y notice) is = tt
  asked_fits (asks.Pause b a flush) is = tt
  asked_fits (asks.Data size) is = tt
  asked_fits (asks.Flow x flow) is = tt
  asked_fits (asks.Skip line) is = tt

  all_fit : (past : List Event) → AllAskSaid schema past → AllFit schema past
  all_fit [] all = tt
  all_fit (event ∷ past) all = (asked_fits event.asked all.0, all_fit past all.1)

-- what a script's run sends fits its methods
pub run_fits : PassedIsEncodable → (schema : Schema) (bytes : List ℕ) (script : Script) (order : Option ℕ) (history : List Event) → IsPrintableSchema schema
    → IsScriptOf schema bytes script → OfScript schema script order history → AllFit schema (reverse history)
run_fits law schema bytes script order history words read of =
    all_fit schema words (reverse history) (script_asks law schema bytes script order (reverse history) read of)
