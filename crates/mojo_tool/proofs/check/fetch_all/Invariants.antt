use Rattle.std.proofs.Common.{◌≡◌, ◌++◌, map, take}
use Rattle.mj_io.specs.Outside.{FilesGoOn}
use Rattle.mojo_tool.specs.Answers.{read_as}
use Rattle.mojo_tool.specs.Fetched.{FetchedAll}
use Rattle.mojo_tool.specs.steps.Fetches.{AreBytes}
use Rattle.mojo_tool.proofs.check.fetch_all.Given as goal

-- the names so far were fetched
abbrev pub invariant-loop-name : goal.invariant-loop-name
invariant-loop-name g l = record {
  on : FilesGoOn (g.F.Files.state l.fn.files) (g.F.Files.state l.files);
  are : AreBytes (g.F.Files.state l.fn.files).held (take l.name-index (map (λ name. name.now) l.names)) l.sources.items;
  named : map (λ source. source.name) l.sources.items ≡ take l.name-index (map (λ name. name.now) l.names);
  came : (g.F.Files.state l.files).read ≡ (g.F.Files.state l.fn.files).read ++ map read_as l.sources.items;
  whole : FetchedAll (take l.name-index (map (λ name. name.now) l.names)) (g.F.Files.state l.fn.files).fetches (g.F.Files.state l.files).fetches;
}
