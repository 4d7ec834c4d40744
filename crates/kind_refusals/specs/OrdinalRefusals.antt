-- What is refused of the ordinals and the versions of a list of members.
use Rattle.std.specs.Prelude.{ℕ, Bool, true, false, not, ◌&&◌, ◌==◌, nat_lt, if◌then◌else◌, List, [], ◌∷◌, ◌++◌, map, length, find, Option, Some, None}
use Rattle.std.specs.List.{list_any, range_with_len}
use Rattle.mojom_ast.specs.TypeTrees.{BaseTree, Named, TypeTree}
use Rattle.mojom_ast.specs.declared.names.Identifier.{Identifier}
use Rattle.mojom_files.specs.Causes.{OrdinalDouble, OrdinalGap, VersionFalls, LateNotNullable}
use Rattle.mojom_files.specs.declared.refusal.Refusal.{Refusal}
use Rattle.mojom_files.specs.Refusals.{where_true}
use Rattle.kind_scope.specs.Scopes.{Scope, meant_in, refused}
use Rattle.kind_scope.specs.Members.{Numbered, held, along_ordinals}
use Rattle.kind_refusals.specs.TypeRefusals.{is_object}
use Rattle.kind_scope.specs.Versions.{version_of}

-- ordinals that stand twice

-- the ordinal is one of these
abbrev pub is_among : List ℕ → ℕ → Bool
is_among ordinals ordinal = list_any (λ (other : ℕ). other == ordinal) ordinals

-- those of a list of members whose ordinal one before them has, where these ordinals stand before the list
abbrev pub doubled : List ℕ → List Numbered → List Numbered
doubled before [] = []
doubled before (one ∷ others) =
    (if is_among before one.ordinal then one ∷ [] else []) ++ doubled (before ++ one.ordinal ∷ []) others

-- the refusal of a member whose ordinal stands before it already
abbrev pub refused_double : Scope → Numbered → Refusal
refused_double scope one = refused scope one.member.name (OrdinalDouble one.member.name.text one.ordinal)

-- all refusals of ordinals that stand twice
abbrev pub refused_doubles : Scope → List Numbered → List Refusal
refused_doubles scope members = map (refused_double scope) (doubled [] members)

-- ordinals that are lacking

-- the ordinals that members have, in order
abbrev pub ordinals_of : List Numbered → List ℕ
ordinals_of members = map (λ (one : Numbered). one.ordinal) members

-- the least ordinal below the number of members that none of them has
abbrev pub lacking : List Numbered → Option ℕ
lacking members = find (λ (ordinal : ℕ). not (is_among (ordinals_of members) ordinal)) (range_with_len 0 (length members))

-- the refusal of a gap, which goes by the identifier of the struct or the method
abbrev pub refused_gap : Scope → Identifier → Option ℕ → List Refusal
refused_gap scope owner None = []
refused_gap scope owner (Some ordinal) = refused scope owner (OrdinalGap owner.text (held ordinal)) ∷ []

-- versions

-- the refusal of a version that is below the one before
abbrev pub refused_fall : Scope → ℕ → Identifier → ℕ → List Refusal
refused_fall scope before name here = where_true (nat_lt here before) (refused scope name (VersionFalls name.text before here))

-- all refusals of versions that fall, where this version stands before the list
abbrev pub refused_falls : Scope → ℕ → List Numbered → List Refusal
refused_falls scope before [] = []
refused_falls scope before (one ∷ others) =
    refused_fall scope before one.member.name (version_of scope one.member) ++ refused_falls scope (version_of scope one.member) others

-- string, array, map, struct, union, handle or endpoint
abbrev pub is_behind : Scope → BaseTree → Bool
is_behind scope (Named name) = is_object scope (meant_in scope name.parts)
is_behind scope _ = true

-- such a kind without `?`
abbrev pub needs_null : Scope → Option TypeTree → Bool
needs_null scope None = false
needs_null scope (Some kind) = not kind.nullable && is_behind scope kind.base

-- the refusal of a member of a later version whose kind can't be null
abbrev pub refused_late : Scope → Numbered → List Refusal
refused_late scope one =
    where_true (nat_lt 0 (version_of scope one.member) && needs_null scope one.member.kind)
    (refused scope one.member.name (LateNotNullable one.member.name.text))

-- all refusals of gaps and of versions that fall, where no two ordinals are equal
abbrev pub refused_order : Scope → Identifier → List Numbered → List Refusal
refused_order scope owner members = refused_gap scope owner (lacking members) ++ refused_falls scope 0 (along_ordinals members)
