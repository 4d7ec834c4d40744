-- What has each full name, as the code keeps it for look-ups.
use Rattle.std.specs.Prelude.{ℕ, ◌≡◌, Bool, false, if◌then◌else◌, List, filter, get_or, slice_get, Option, Some, None}
use Rattle.std.specs.Option.{option_or}
use Rattle.import_order.specs.Imports.{has}
use Rattle.module_resolver.specs.NameDots.{dots_in}
use Rattle.module_resolver.specs.Seats.{owner}
use Rattle.module_resolver.specs.declared.target.Target.{Target}
use Rattle.module_resolver.specs.declared.file_names.FileNames.{FileNames}

-- what is found in a file, where the file is seen
abbrev pub where_seen : (ℕ → Bool) → ℕ → Option Target → Option Target
where_seen seen file found = if seen file then found else None

-- more is noted, behind all that had a name already
abbrev pub Notes : (List ℕ → Option (List Target)) → (List ℕ → Option (List Target)) → ((ℕ → Bool) → List ℕ → Option Target) → Type 0
Notes old new more = (seen : ℕ → Bool) (name : List ℕ) → owner new seen name ≡ option_or (owner old seen name) (more seen name)

-- each file sees files in this order
abbrev pub SeeInOrder : List FileNames → List ℕ → Type 0
SeeInOrder files order = (file : ℕ) (here : FileNames) → slice_get files file ≡ Some here → filter (has here.seen) order ≡ here.seen

-- where the number of a name's dots has no mark, nothing has the name
abbrev pub HaveDotMarks : List Bool → (List ℕ → Option (List Target)) → Type 0
HaveDotMarks marks owners = (name : List ℕ) → get_or marks (dots_in name) false ≡ false → owners name ≡ None
