-- What files and sinks in memory hold, and what each of their calls does.
use Rattle.std.specs.Prelude.{ℕ, ◌≡◌, ◌+◌, ◌-◌, ◌^◌, List, [], Contains, map, min, Some, None, string_bytes}
use Rattle.mj_io.specs.Outside.{Named, FilesState, SinkState, find_file}
use Rattle.mj_io.specs.Fetches.{fetches_of, read_of}
use Rattle.mj_io.specs.declared.memory.NamedFile.{NamedFile}
use Rattle.mj_io.specs.declared.memory.MemoryFiles.{MemoryFiles}
use Rattle.mj_io.specs.declared.steady.SteadyFiles.{SteadyFiles}
use Rattle.mj_io.specs.declared.memory_sink.MemorySink.{MemorySink}

-- a file by its name and bytes
abbrev pub named : NamedFile → Named
named file = record { name = string_bytes file.name; bytes = file.bytes.items }

-- what files that hold these say before the first fetch
abbrev pub unfetched : List Named → FilesState
unfetched files = record { held = Some files; faults = 0; faults_on_present = 0; fetches = []; read = [] }

-- files in memory say all that they hold
abbrev pub memory_state : MemoryFiles → FilesState
memory_state files = record {
  held = Some (map named files.files.items);
  faults = files.faults;
  faults_on_present = files.faults_on_present;
  fetches = fetches_of files.made;
  read = read_of files.made;
}

-- no fault is ever counted on a name that is there
abbrev pub steady_state : SteadyFiles → FilesState
steady_state files = record {
  held = Some (map named files.files.items);
  faults = files.faults;
  faults_on_present = 0;
  fetches = fetches_of files.made;
  read = read_of files.made;
}

-- a sink in memory says what was written
abbrev pub sink_state : MemorySink → SinkState
sink_state sink = record { held = Some sink.text.items; faults = sink.faults }

-- the calls so far, and the numbers of the calls that are to fail, counted from 0
pub record Plan : Type 0 where
  pub calls : ℕ
  pub failing : List ℕ

-- the plan behind a call more: the count of calls stops at its last value
abbrev pub after_call : Plan → Plan
after_call plan = record { calls = min (plan.calls + 1) (2 ^ 64 - 1); failing = plan.failing }

-- the next call is one of those that are to fail
abbrev pub IsToFail : Plan → Type 0
IsToFail plan = Contains plan.failing plan.calls

-- the plan of files in memory
abbrev pub plan_of_files : MemoryFiles → Plan
plan_of_files files = record { calls = files.calls; failing = files.failing.items }

-- the plan of a sink in memory
abbrev pub plan_of_sink : MemorySink → Plan
plan_of_sink sink = record { calls = sink.calls; failing = sink.failing.items }

-- how many bytes a write takes at most
abbrev pub most_of : MemorySink → ℕ
most_of sink = sink.most

-- the name isn't there
abbrev pub IsAbsent : List Named → List ℕ → Type 0
IsAbsent files name = find_file files name ≡ None

-- the files that files in memory hold
abbrev pub files_of : MemoryFiles → List Named
files_of files = map named files.files.items

-- the files that steady files in memory hold
abbrev pub steady_files_of : SteadyFiles → List Named
steady_files_of files = map named files.files.items
