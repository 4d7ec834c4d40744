-- The names of a line, by what it has them for.
use Rattle.std.specs.Prelude.{◌≡◌, Bool, true, false, List, [], filter, not, Option, Some, None}
use Rattle.call_script.specs.declared.script.Command.{Command}
use Rattle.call_script.specs.declared.script.Command.TheVariants.{Bind, Attach, Call, Answer, Raw, CloseToken, Flow}
use Rattle.call_script.specs.declared.script.NameId.{NameId}
use Rattle.call_script.specs.Sound.{sets}
use Rattle.script_names.specs.declared.names.Names.{Names}

-- the name whose handle, pending or responder a command needs by itself
abbrev pub needed : Command → Option NameId
needed (Bind n side interface) = Some n
needed (Attach n seq) = Some n
needed (Answer n prepared names moment) = Some n
needed (Raw n bytes names) = Some n
needed (CloseToken n) = Some n
needed (Flow n flow) = Some n
needed command = None

-- of the names in a command's list those whose handles it needs, and those whose pendings
module _ (is_thing : NameId → Bool) where
  -- whether the handle of a name is needed, or else whether its pending is
  abbrev pub chosen : Bool → NameId → Bool
  chosen true n = is_thing n
  chosen false n = not (is_thing n)

  -- of these names those whose handles are needed, or else those whose pendings are
  abbrev pub selected : Bool → List NameId → List NameId
  selected stand names = filter (λ (n : NameId). chosen stand n) names

  -- the names in a command's list whose handles it needs: all of them where it writes bytes
  abbrev pub handles_needed : Command → List NameId
  handles_needed (Call n id prepared names moment) = filter is_thing names
  handles_needed (Answer n prepared names moment) = filter is_thing names
  handles_needed (Raw n bytes names) = names
  handles_needed command = []

  -- the names in a command's list whose pendings it needs
  abbrev pub pendings_needed : Command → List NameId
  pendings_needed (Call n id prepared names moment) = filter (λ n. not (is_thing n)) names
  pendings_needed (Answer n prepared names moment) = filter (λ n. not (is_thing n)) names
  pendings_needed command = []

  -- they are the names of this command
  pub record AreNames (command : Command) (names : Names) : Type 0 where
    pub sets : names.sets.items ≡ sets command
    pub one : names.one ≡ needed command
    pub handles : names.handles.items ≡ handles_needed command
    pub pendings : names.pendings.items ≡ pendings_needed command

-- there are none
pub record AreNone (names : Names) : Type 0 where
  pub sets : names.sets.items ≡ []
  pub one : names.one ≡ None
  pub handles : names.handles.items ≡ []
  pub pendings : names.pendings.items ≡ []
