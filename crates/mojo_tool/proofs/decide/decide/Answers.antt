use Rattle.mojo_tool.proofs.Loads.{load_from, load_reached, load_right, load_stopped, load_stops, load_whole, stays_on}
use Rattle.mojo_tool.proofs.decide.decide.Goals as goal

pub returns-in-Run-clause-text : goal.returns-in-Run-clause-text
returns-in-Run-clause-text g c = rw c.in-Run.is (rw c.as_slice.ensures.value at c.decide_run.ensures.text)

pub returns-in-Run-clause-stop : goal.returns-in-Run-clause-stop
returns-in-Run-clause-stop g c = rw c.in-Run.is (rw c.as_slice.ensures.value at c.decide_run.ensures.stop)

pub returns-in-Run-clause-reached : goal.returns-in-Run-clause-reached
returns-in-Run-clause-reached g c = rw c.in-Run.is (rw c.as_slice.ensures.value at c.decide_run.ensures.reached)

pub returns-in-Run-clause-whole : goal.returns-in-Run-clause-whole
returns-in-Run-clause-whole g c = rw c.in-Run.is (rw c.as_slice.ensures.value at c.decide_run.ensures.whole)

pub returns-in-Run-clause-stopped : goal.returns-in-Run-clause-stopped
returns-in-Run-clause-stopped g c = rw c.in-Run.is (rw c.as_slice.ensures.value at c.decide_run.ensures.stopped)

pub returns-in-Run-clause-refused : goal.returns-in-Run-clause-refused
returns-in-Run-clause-refused g c = rw c.in-Run.is (rw c.as_slice.ensures.value at c.decide_run.ensures.refused)

pub returns-in-Load-clause-on : goal.returns-in-Load-clause-on
returns-in-Load-clause-on g c = stays_on (g.F.Files.state c.args.files.now)

pub returns-in-Load-clause-text : goal.returns-in-Load-clause-text
returns-in-Load-clause-text g c =
    rw c.in-Load.is
    (load_right c.in-Load.seed c.in-Load.messages.count (g.F.Files.state c.args.files.now) c.decide_load.result c.decide_load.ensures.text)

pub returns-in-Load-clause-stop : goal.returns-in-Load-clause-stop
returns-in-Load-clause-stop g c =
    rw c.in-Load.is
    (load_stops c.in-Load.seed c.in-Load.messages.count (g.F.Files.state c.args.files.now) c.decide_load.result c.decide_load.ensures.stop)

pub returns-in-Load-clause-reached : goal.returns-in-Load-clause-reached
returns-in-Load-clause-reached g c =
    rw c.in-Load.is
    (load_reached c.in-Load.seed c.in-Load.messages.count (g.F.Files.state c.args.files.now) c.decide_load.result c.decide_load.ensures.stop)

pub returns-in-Load-clause-whole : goal.returns-in-Load-clause-whole
returns-in-Load-clause-whole g c = rw c.in-Load.is (load_whole c.decide_load.result (g.F.Files.state c.args.files.now).fetches)

pub returns-in-Load-clause-stopped : goal.returns-in-Load-clause-stopped
returns-in-Load-clause-stopped g c =
    rw c.in-Load.is (load_stopped c.decide_load.result (g.F.Files.state c.args.files.now).fetches c.decide_load.ensures.stop)

pub returns-in-Load-clause-refused : goal.returns-in-Load-clause-refused
returns-in-Load-clause-refused g c =
    rw c.in-Load.is
    (load_from c.in-Load.seed c.in-Load.messages.count (g.F.Files.state c.args.files.now) c.decide_load.result c.decide_load.ensures.stop)

pub returns-in-Audit-clause-text : goal.returns-in-Audit-clause-text
returns-in-Audit-clause-text g c = rw c.in-Audit.is (rw c.as_slice-in-Audit.ensures.value at c.decide_audit.ensures.text)

pub returns-in-Audit-clause-stop : goal.returns-in-Audit-clause-stop
returns-in-Audit-clause-stop g c = rw c.in-Audit.is (rw c.as_slice-in-Audit.ensures.value at c.decide_audit.ensures.stop)

pub returns-in-Audit-clause-reached : goal.returns-in-Audit-clause-reached
returns-in-Audit-clause-reached g c = rw c.in-Audit.is (rw c.as_slice-in-Audit.ensures.value at c.decide_audit.ensures.reached)

pub returns-in-Audit-clause-whole : goal.returns-in-Audit-clause-whole
returns-in-Audit-clause-whole g c = rw c.in-Audit.is (rw c.as_slice-in-Audit.ensures.value at c.decide_audit.ensures.whole)

pub returns-in-Audit-clause-stopped : goal.returns-in-Audit-clause-stopped
returns-in-Audit-clause-stopped g c = rw c.in-Audit.is (rw c.as_slice-in-Audit.ensures.value at c.decide_audit.ensures.stopped)

pub returns-in-Audit-clause-refused : goal.returns-in-Audit-clause-refused
returns-in-Audit-clause-refused g c = rw c.in-Audit.is (rw c.as_slice-in-Audit.ensures.value at c.decide_audit.ensures.refused)

pub returns-in-Compat-clause-text : goal.returns-in-Compat-clause-text
returns-in-Compat-clause-text g c = rw c.in-Compat.is c.decide_compat.ensures.text

pub returns-in-Compat-clause-stop : goal.returns-in-Compat-clause-stop
returns-in-Compat-clause-stop g c = rw c.in-Compat.is c.decide_compat.ensures.stop

pub returns-in-Compat-clause-reached : goal.returns-in-Compat-clause-reached
returns-in-Compat-clause-reached g c = rw c.in-Compat.is c.decide_compat.ensures.reached

pub returns-in-Compat-clause-whole : goal.returns-in-Compat-clause-whole
returns-in-Compat-clause-whole g c = rw c.in-Compat.is c.decide_compat.ensures.whole

pub returns-in-Compat-clause-stopped : goal.returns-in-Compat-clause-stopped
returns-in-Compat-clause-stopped g c = rw c.in-Compat.is c.decide_compat.ensures.stopped

pub returns-in-Compat-clause-refused : goal.returns-in-Compat-clause-refused
returns-in-Compat-clause-refused g c = rw c.in-Compat.is c.decide_compat.ensures.refused
