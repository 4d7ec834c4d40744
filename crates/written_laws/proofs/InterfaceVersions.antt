-- The version of an interface of which nothing is refused is the greatest that is written before its methods and their parameters.
use Rattle.std.proofs.Common.{◌≡◌, ℕ, max, List, [], ◌∷◌, ◌++◌, map, refl, sym, subst, arith}
use Rattle.std.specs.Prelude.{Option, Some, None}
use Rattle.std.specs.List.{AllByRecursion, flat_map, fold}
use Rattle.std.specs.Option.{option_map_or}
use Rattle.mojom_ast.specs.declared.attributes.Attribute.{Attribute}
use Rattle.mojom_ast.specs.declared.definitions.InterfaceItem.{InterfaceItem}
use Rattle.mojom_ast.specs.declared.definitions.InterfaceItem.TheVariants as interface_items
use Rattle.mojom_ast.specs.declared.definitions.InterfaceMember.{InterfaceMember}
use Rattle.mojom_ast.specs.declared.definitions.Method.{Method}
use Rattle.mojom_ast.specs.declared.definitions.Parameter.{Parameter}
use Rattle.name_refusals.specs.NameRefusals.{refused_uses}
use Rattle.name_refusals.specs.Uses.{response_of, uses_in_attributes, uses_in_parameter, uses_in_method, uses_in_interface}
use Rattle.const_eval.specs.Refused.{refused_ordinals, refused_parameter, refused_parameters, refused_interface_member, refused_method, refused_versions, parameter_members}
use Rattle.mj_schema.specs.Versions.{greatest}
use Rattle.kind_scope.specs.Scopes.{Scope}
use Rattle.kind_scope.specs.Members.{method_in, method_of, parameter_of}
use Rattle.kind_scope.specs.Versions.{version_of}
use Rattle.draft_rows.specs.InterfaceVersions.{latest_parameter, latest_of_method, interface_version}
use Rattle.draft_rows.specs.RowCounts.{method_among, methods_in}
use Rattle.schema_laws.proofs.Each.{all_empty}
use Rattle.schema_laws.proofs.Kinded.{uses_apart}
use Rattle.schema_laws.proofs.Quiet.{both_empty}
use Rattle.written_laws.specs.Rows.{ArePaired, marks_of, IsLatest}
use Rattle.written_laws.specs.Values.{version_in, IsVersion}
use Rattle.written_laws.proofs.Fields.{AllKnown, IsQuietMember}
use Rattle.written_laws.proofs.Members.{site, each_use, parameters_quiet}
use Rattle.written_laws.proofs.NamedKindsKept.{site_of}
use Rattle.written_laws.proofs.Pairs.{paired_append}
use Rattle.written_laws.proofs.Values.{version_kept}

-- the greatest of lists

fold_greatest : (n : ℕ) (ns : List ℕ) → fold max n ns ≡ max n (greatest ns)
fold_greatest n [] = omega arith
fold_greatest n (m ∷ ns) = let rest = fold_greatest (max n m) ns in omega (arith, rest)

from_zero : (ns : List ℕ) → fold max 0 ns ≡ greatest ns
from_zero ns = let e = fold_greatest 0 ns in omega (arith, e)

greatest_both : (ns ms : List ℕ) → greatest (ns ++ ms) ≡ max (greatest ns) (greatest ms)
greatest_both [] ms = omega arith
greatest_both (n ∷ ns) ms = let rest = greatest_both ns ms in omega (arith, rest)

module _ (scope : Scope) where
  -- since which versions parameters are there
  abbrev versions : List Parameter → List ℕ
  versions ps = map (version_of scope) (map parameter_of ps)

  -- since which versions a method and its parameters are there
  abbrev item_versions : List Attribute → InterfaceItem → List ℕ
  item_versions attributes (interface_items.Method m) =
      version_of scope (record { name = m.name; attributes = attributes; kind = None; ordinal = m.ordinal; default = None })
      ∷ (versions m.request ++ versions (response_of m.response))
  item_versions attributes (interface_items.Const c) = []
  item_versions attributes (interface_items.Enum e) = []

  abbrev all_versions : List InterfaceMember → List ℕ
  all_versions members = flat_map (λ (m : InterfaceMember). item_versions m.attributes m.item) members

  response_latest : (response : Option (List Parameter)) → option_map_or (latest_parameter scope) response 0 ≡ greatest (versions (response_of response))
  response_latest None = refl
  response_latest (Some ps) = from_zero (versions ps)

  method_latest : (m : Method) → latest_of_method scope m ≡ max (greatest (versions m.request)) (greatest (versions (response_of m.response)))
  method_latest m =
      let request = from_zero (versions m.request) in
      let response = response_latest m.response in
      omega (arith, request, response)

  item_greatest : (attributes : List Attribute) (item : InterfaceItem) (ms : List InterfaceMember)
      → greatest (all_versions ms)
      ≡ max (greatest (map (version_of scope) (flat_map method_of ms))) (greatest (map (latest_of_method scope) (methods_in ms)))
      → greatest (item_versions attributes item ++ all_versions ms)
      ≡ max (greatest (map (version_of scope) (method_in attributes item ++ flat_map method_of ms)))
      (greatest (map (latest_of_method scope) (method_among item ++ methods_in ms)))
  item_greatest attributes (interface_items.Method m) ms rest =
      let parameters = versions m.request ++ versions (response_of m.response) in
      let one = greatest_both parameters (all_versions ms) in
      let two = greatest_both (versions m.request) (versions (response_of m.response)) in
      let three = method_latest m in
      omega (arith, one, two, three, rest)
  item_greatest attributes (interface_items.Const c) ms rest = rest
  item_greatest attributes (interface_items.Enum e) ms rest = rest

  all_greatest : (members : List InterfaceMember)
      → greatest (all_versions members)
      ≡ max (greatest (map (version_of scope) (flat_map method_of members))) (greatest (map (latest_of_method scope) (methods_in members)))
  all_greatest [] = omega arith
  all_greatest (m ∷ ms) = item_greatest m.attributes m.item ms (all_greatest ms)

  version_is : (members : List InterfaceMember) → interface_version scope members ≡ greatest (all_versions members)
  version_is members =
      let own = from_zero (map (version_of scope) (flat_map method_of members)) in
      let behind = from_zero (map (latest_of_method scope) (methods_in members)) in
      let all = all_greatest members in
      omega (arith, own, behind, all)

  -- what is written

  abbrev IsSince : List Attribute → ℕ → Type 0
  IsSince attributes since = IsVersion (site_of scope) (version_in attributes) since

  parameters_since : AllKnown scope → (ps : List Parameter) → AllByRecursion (IsQuietMember scope) (map parameter_of ps)
      → ArePaired IsSince (map (λ (p : Parameter). p.attributes) ps) (versions ps)
  parameters_since known [] quiet = tt
  parameters_since known (p ∷ ps) quiet =
      (version_kept (site_of scope) known p.name p.attributes quiet.0.versions quiet.0.uses, parameters_since known ps quiet.1)

  same_response : (response : Option (List Parameter)) → option_map_or (λ (ps : List Parameter). ps) response [] ≡ response_of response
  same_response None = refl
  same_response (Some ps) = refl

  item_since : AllKnown scope → (attributes : List Attribute) (item : InterfaceItem) → refused_method (site scope) scope.enclosing attributes item ≡ []
      → refused_uses scope.names scope.file (uses_in_method scope.enclosing attributes item) ≡ []
      → ArePaired IsSince (marks_of attributes item) (item_versions attributes item)
  item_since known attributes (interface_items.Method m) values uses =
      let all = both_empty (refused_versions (site scope) scope.enclosing m.name attributes) _ values in
      let v = both_empty (refused_parameters (site scope) scope.enclosing m.request)
      (refused_parameters (site scope) scope.enclosing (response_of m.response)) all.1 in
      let one = uses_apart scope.names scope.file (uses_in_attributes scope.enclosing attributes) _ uses in
      let u = uses_apart scope.names scope.file (flat_map (uses_in_parameter scope.enclosing) m.request)
      (flat_map (uses_in_parameter scope.enclosing) (response_of m.response)) one.1 in
      let request = parameters_since known m.request (list_quiet m.request v.0 u.0) in
      let response = parameters_since known (response_of m.response) (list_quiet (response_of m.response) v.1 u.1) in
      let both = paired_append IsSince (map (λ (p : Parameter). p.attributes) m.request)
      (map (λ (p : Parameter). p.attributes) (response_of m.response)) (versions m.request) (versions (response_of m.response)) request response in (
        version_kept (site_of scope) known m.name attributes all.0 one.0,
        subst (λ (ps : List Parameter). ArePaired IsSince
            (map (λ (p : Parameter). p.attributes) m.request ++ map (λ (p : Parameter). p.attributes) ps)
            (versions m.request ++ versions (response_of m.response))) (sym (same_response m.response)) both,
      )
    where
      list_quiet : (ps : List Parameter) → refused_parameters (site scope) scope.enclosing ps ≡ []
          → refused_uses scope.names scope.file (flat_map (uses_in_parameter scope.enclosing) ps) ≡ []
          → AllByRecursion (IsQuietMember scope) (map parameter_of ps)
      list_quiet ps values uses =
          let v = both_empty (flat_map (refused_parameter (site scope) scope.enclosing) ps) (refused_ordinals scope.file 0 (parameter_members ps)) values in
          parameters_quiet scope ps (all_empty (refused_parameter (site scope) scope.enclosing) ps v.0)
          (each_use scope.names scope.file (uses_in_parameter scope.enclosing) ps uses)
  item_since known attributes (interface_items.Const c) values uses = tt
  item_since known attributes (interface_items.Enum e) values uses = tt

  all_since : AllKnown scope → (members : List InterfaceMember)
      → AllByRecursion (λ (m : InterfaceMember). refused_interface_member (site scope) scope.enclosing m ≡ []) members
      → AllByRecursion (λ (m : InterfaceMember). refused_uses scope.names scope.file (uses_in_interface scope.enclosing m) ≡ []) members
      → ArePaired IsSince (flat_map (λ (m : InterfaceMember). marks_of m.attributes m.item) members) (all_versions members)
  all_since known [] values uses = tt
  all_since known (m ∷ ms) values uses =
      paired_append IsSince (marks_of m.attributes m.item) (flat_map (λ (m : InterfaceMember). marks_of m.attributes m.item) ms)
      (item_versions m.attributes m.item) (all_versions ms) (item_since known m.attributes m.item values.0 uses.0) (all_since known ms values.1 uses.1)

  -- the version of an interface is the greatest that is written
  pub latest_kept : AllKnown scope → (members : List InterfaceMember)
      → AllByRecursion (λ (m : InterfaceMember). refused_interface_member (site scope) scope.enclosing m ≡ []) members
      → AllByRecursion (λ (m : InterfaceMember). refused_uses scope.names scope.file (uses_in_interface scope.enclosing m) ≡ []) members
      → IsLatest (site_of scope) (flat_map (λ (m : InterfaceMember). marks_of m.attributes m.item) members) (interface_version scope members)
  latest_kept known members values uses = record {
    versions = all_versions members;
    written = all_since known members values uses;
    is = version_is members;
  }
