use Rattle.std.proofs.Common.{rules}
use Rattle.turn_lock.proofs.Steps.{notes_entry}
use Rattle.turn_lock.proofs.turn.note.Goals as goal

pub fetch_add-requires : goal.fetch_add-requires
fetch_add-requires g c =
    let v = c.requires.value in
    let m = v.2 in (
      c.requires.table.0,
      search rules,
      notes_entry g.T.Entries.entries g.T.Entries.number g.T.Entries.basis g.T.Entries.lawful _ _ _ _ m.pass v.0 m.entry m.has m.holds v.1 m.grows m.names
          m.base m.based m.legal m.few,
    )
