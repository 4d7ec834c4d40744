-- The versions of interfaces in tables of files are numbers of 32 bits.
use Rattle.std.proofs.Common.{ℕ, ◌<◌, ◌^◌, max, List, [], ◌∷◌, map, arith}
use Rattle.std.specs.List.{fold, flat_map}
use Rattle.std.specs.Option.{option_map_or}
use Rattle.std.specs.Prelude.{ℤ, pos, negsuc, Option, Some, None, option_and_then}
use Rattle.mojom_ast.specs.declared.definitions.InterfaceMember.{InterfaceMember}
use Rattle.mojom_ast.specs.declared.definitions.Method.{Method}
use Rattle.mojom_ast.specs.declared.definitions.Parameter.{Parameter}
use Rattle.const_meanings.specs.Known.{Known, TextValue, BoolValue, NumberValue, FloatValue}
use Rattle.kind_scope.specs.Members.{Member, method_of, parameter_of}
use Rattle.kind_scope.specs.Scopes.{Scope, known_in}
use Rattle.kind_scope.specs.Versions.{held_whole, min_version, version_of, version_of_known}
use Rattle.draft_rows.specs.InterfaceVersions.{interface_version, latest_of_method, latest_parameter}
use Rattle.draft_rows.specs.RowCounts.{methods_in}

whole_small : (n : ℤ) → held_whole n < 2 ^ 32
whole_small (pos n) = omega arith
whole_small (negsuc n) = omega arith

known_small : (o : Option Known) → option_map_or version_of_known o 0 < 2 ^ 32
known_small None = omega arith
known_small (Some (TextValue bytes)) = omega arith
known_small (Some (BoolValue b)) = omega arith
known_small (Some (NumberValue n)) = whole_small n
known_small (Some FloatValue) = omega arith

since_small : (scope : Scope) (m : Member) → version_of scope m < 2 ^ 32
since_small scope m = known_small (option_and_then (known_in scope) (min_version m.attributes))

-- the greatest of numbers of 32 bits is one
greatest_small : {A : Type 0} (f : A → ℕ) → ((x : A) → f x < 2 ^ 32) → (n : ℕ) (xs : List A) → n < 2 ^ 32 → fold max n (map f xs) < 2 ^ 32
greatest_small f each n [] small = small
greatest_small f each n (x ∷ xs) small = let one = each x in greatest_small f each (max n (f x)) xs (omega (arith, small, one))

module _ (scope : Scope) where
  members_small : (ms : List Member) → fold max 0 (map (version_of scope) ms) < 2 ^ 32
  members_small ms = greatest_small (version_of scope) (since_small scope) 0 ms (omega arith)

  response_small : (response : Option (List Parameter)) → option_map_or (latest_parameter scope) response 0 < 2 ^ 32
  response_small None = omega arith
  response_small (Some ps) = members_small (map parameter_of ps)

  method_small : (m : Method) → latest_of_method scope m < 2 ^ 32
  method_small m =
      let request = members_small (map parameter_of m.request) in
      let response = response_small m.response in
      omega (arith, request, response)

  pub version_small : (members : List InterfaceMember) → interface_version scope members < 2 ^ 32
  version_small members =
      let own = members_small (flat_map method_of members) in
      let behind = greatest_small (latest_of_method scope) method_small 0 (methods_in members) (omega arith) in
      omega (arith, own, behind)
