use Rattle.std.proofs.Common.{length, refl}
use Rattle.std.proofs.lemmas.Option.{slice_get_read}
use Rattle.event_notes.proofs.notes.event_at.Goals as goal

pub returns : goal.returns
returns c =
    slice_get_read c.args.events.now (length c.args.events.now) c.args.at c.index-events-at.result refl c.requires c.index-events-at.is
