use Rattle.mojo_tool.proofs.compat.fetch_two.Goals as goal

pub returns-clause-sources : goal.returns-clause-sources
returns-clause-sources g c = rw c.as_slice.ensures at c.fetch_all.ensures.sources

pub returns-clause-named : goal.returns-clause-named
returns-clause-named g c = rw c.as_slice.ensures at c.fetch_all.ensures.named

pub returns-clause-stop : goal.returns-clause-stop
returns-clause-stop g c = rw c.as_slice.ensures at c.fetch_all.ensures.stop

pub returns-clause-whole : goal.returns-clause-whole
returns-clause-whole g c = rw c.as_slice.ensures at c.fetch_all.ensures.whole

pub returns-clause-stopped : goal.returns-clause-stopped
returns-clause-stopped g c = rw c.as_slice.ensures at c.fetch_all.ensures.stopped
