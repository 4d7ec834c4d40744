use Rattle.std.proofs.Common.{refl}
use Rattle.pipe_runs.proofs.run.run_one.Goals as goal

pub returns-in-Write-clause-told : goal.returns-in-Write-clause-told
returns-in-Write-clause-told g c = rw c.in-Write.is c.write_one.ensures.told

pub returns-in-Write-clause-after : goal.returns-in-Write-clause-after
returns-in-Write-clause-after g c = rw c.in-Write.is c.write_one.ensures.after

pub returns-in-Read-clause-told : goal.returns-in-Read-clause-told
returns-in-Read-clause-told g c = rw c.in-Read.is c.read_one.ensures.told

pub returns-in-Read-clause-after : goal.returns-in-Read-clause-after
returns-in-Read-clause-after g c = rw c.in-Read.is c.read_one.ensures.after

pub returns-in-Close-clause-told : goal.returns-in-Close-clause-told
returns-in-Close-clause-told g c = rw c.in-Close.is refl

pub returns-in-Close-clause-after : goal.returns-in-Close-clause-after
returns-in-Close-clause-after g c = rw c.in-Close.is c.close.ensures
