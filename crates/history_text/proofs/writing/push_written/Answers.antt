use Rattle.history_text.proofs.writing.push_written.Goals as goal

pub returns-in-Ok : goal.returns-in-Ok
returns-in-Ok g c =
    let wrote = rw c.in-Ok.is at c.written-bytes.ensures in
    rw c.replace-before.ensures.value at wrote
