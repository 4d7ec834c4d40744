use Rattle.std.proofs.Common.{◌∙◌, []}
use Rattle.mojo_tool.specs.Work.{Listing}
use Rattle.mojo_tool.proofs.Fetching.{no_schema_stops, tables_text}
use Rattle.mojo_tool.proofs.Made.{early_stop, all_alone}
use Rattle.mojo_tool.proofs.check.decide_check.Goals as goal

pub returns-in-Err-clause-stop : goal.returns-in-Err-clause-stop
returns-in-Err-clause-stop g c = no_schema_stops _ _ _ (λ files. Listing) c.in-Err.stop c.in-Err.ensures.stop

pub returns-in-Ok-listing-clause-text : goal.returns-in-Ok-listing-clause-text
returns-in-Ok-listing-clause-text g c =
    tables_text _ _ _ _ c.in-Ok.schema _ c.in-Ok.ensures.schema c.in-Ok.ensures.from (c.from_vec.ensures ∙ c.in-Ok-listing.ensures)

pub returns-in-Err-clause-stopped : goal.returns-in-Err-clause-stopped
returns-in-Err-clause-stopped g c = early_stop _ [] _ _ c.in-Err.stop c.in-Err.ensures.stopped

pub returns-in-Ok-listing-clause-whole : goal.returns-in-Ok-listing-clause-whole
returns-in-Ok-listing-clause-whole g c = all_alone _ _ _ c.in-Ok.ensures.whole

pub returns-in-Err-clause-refused : goal.returns-in-Err-clause-refused
returns-in-Err-clause-refused g c = c.in-Err.ensures.refused
