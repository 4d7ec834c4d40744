-- The versions of interfaces.
use Rattle.std.specs.Prelude.{ℕ, max, List, map}
use Rattle.std.specs.List.{fold, flat_map}
use Rattle.std.specs.Option.{option_map_or}
use Rattle.mojom_ast.specs.declared.definitions.InterfaceMember.{InterfaceMember}
use Rattle.mojom_ast.specs.declared.definitions.Method.{Method}
use Rattle.mojom_ast.specs.declared.definitions.Parameter.{Parameter}
use Rattle.kind_scope.specs.Members.{Member, method_of, parameter_of}
use Rattle.kind_scope.specs.Scopes.{Scope}
use Rattle.kind_scope.specs.Versions.{version_of}
use Rattle.draft_rows.specs.RowCounts.{methods_in}

-- the greatest version since which one of these members is there, 0 where there is none
abbrev pub latest : Scope → List Member → ℕ
latest scope members = fold max 0 (map (version_of scope) members)

-- the same of the parameters of a list
abbrev pub latest_parameter : Scope → List Parameter → ℕ
latest_parameter scope parameters = latest scope (map parameter_of parameters)

-- the same of the parameters of a method, those of its response among them
abbrev pub latest_of_method : Scope → Method → ℕ
latest_of_method scope m = max (latest_parameter scope m.request) (option_map_or (latest_parameter scope) m.response 0)

-- the version of an interface of these members: the greatest since which one of its methods or of their parameters is there
abbrev pub interface_version : Scope → List InterfaceMember → ℕ
interface_version scope members =
    max (latest scope (flat_map method_of members)) (fold max 0 (map (latest_of_method scope) (methods_in members)))
