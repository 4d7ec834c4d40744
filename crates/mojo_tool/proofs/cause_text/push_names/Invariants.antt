use Rattle.std.proofs.Common.{◌≡◌, ◌++◌, take}
use Rattle.mojo_tool.specs.LanguageCauses.{names_text}
use Rattle.mojo_tool.proofs.cause_text.push_names.Given as goal

-- the names so far were written
abbrev pub invariant-loop-name : goal.invariant-loop-name
invariant-loop-name l = l.out.items ≡ l.fn.out.items ++ names_text (take l.name-index l.names)
