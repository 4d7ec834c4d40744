-- Whether a newer schema reads all that the stable definitions of an older one write, and else the first reason why it doesn't. The stable
-- definitions are looked at first, in the order of the file, and then pair after pair breadth first: all that follow from them, all that
-- follow from these, and so on.
use Rattle.std.specs.Prelude.{◌≡◌, ◌<◌, ◌+◌, ℕ, zero, suc, ◌==◌, Bool, false, List, [], ◌∷◌, length, map, position, if◌then◌else◌, Option, Some, None, slice_get}
use Rattle.std.specs.List.{flat_map, list_any, filter}
use Rattle.std.specs.Option.{option_map_or}
use Rattle.std.specs.Str.{bytes_eq}
use Rattle.mj_schema.specs.declared.rows.DefinitionRow.{DefinitionRow}
use Rattle.mj_schema.specs.declared.rows.EnumRow.{EnumRow}
use Rattle.mj_schema.specs.declared.rows.InterfaceRow.{InterfaceRow}
use Rattle.mj_schema.specs.declared.rows.RowSort.{RowSort}
use Rattle.mj_schema.specs.declared.rows.RowSort.TheVariants as sorts
use Rattle.mj_schema.specs.declared.rows.StructRow.{StructRow}
use Rattle.mj_schema.specs.declared.rows.UnionRow.{UnionRow}
use Rattle.mj_schema.specs.declared.schema.Schema.{Schema}
use Rattle.mj_schema.specs.WellFormed.{structs_of_methods}
use Rattle.compat_model.specs.declared.pair.Pair.{Pair}
use Rattle.compat_model.specs.declared.pair.Pair.TheVariants.{Structs, Unions, Enums, Interfaces}
use Rattle.compat_model.specs.declared.reason.Change.TheVariants as changes
use Rattle.compat_model.specs.declared.reason.Reason.{Reason}
use Rattle.compat_model.specs.declared.reason.Verdict.{Verdict}
use Rattle.compat_model.specs.declared.reason.Verdict.TheVariants.{Compatible, Broken}
use Rattle.compat_model.specs.declared.root.Root.{Root}
use Rattle.compat_model.specs.Members.{first_found}
use Rattle.compat_model.specs.Pairs.{pair_reason, follows}

-- ## Definitions

-- whether the definition of this sort and number is stable
abbrev pub is_stable : Schema → RowSort → ℕ → Bool
is_stable schema sorts.Struct number = option_map_or (λ (row : StructRow). row.stable) (slice_get schema.structs number) false
is_stable schema sorts.Union number = option_map_or (λ (row : UnionRow). row.stable) (slice_get schema.unions number) false
is_stable schema sorts.Enum number = option_map_or (λ (row : EnumRow). row.stable) (slice_get schema.enums number) false
is_stable schema sorts.Interface number = option_map_or (λ (row : InterfaceRow). row.stable) (slice_get schema.interfaces number) false
is_stable schema sorts.Const number = false

-- the full name of a definition
abbrev pub name_of : Schema → RowSort → ℕ → List ℕ
name_of schema sorts.Struct number = option_map_or (λ (row : StructRow). row.name) (slice_get schema.structs number) []
name_of schema sorts.Union number = option_map_or (λ (row : UnionRow). row.name) (slice_get schema.unions number) []
name_of schema sorts.Enum number = option_map_or (λ (row : EnumRow). row.name) (slice_get schema.enums number) []
name_of schema sorts.Interface number = option_map_or (λ (row : InterfaceRow). row.name) (slice_get schema.interfaces number) []
name_of schema sorts.Const number = []

-- the full names of structs, the first of which has this number; those of methods have none by which they can be meant
abbrev pub struct_names : (ℕ → Bool) → ℕ → List StructRow → List (Option (List ℕ))
struct_names is_of_method number [] = []
struct_names is_of_method number (row ∷ rows) = (if is_of_method number then None else Some row.name) ∷ struct_names is_of_method (number + 1) rows

-- the full names by which the definitions of a sort can be meant
abbrev pub names_of : Schema → RowSort → List (Option (List ℕ))
names_of schema sorts.Struct = struct_names (λ (n : ℕ). list_any (λ (other : ℕ). other == n) (structs_of_methods schema.interfaces)) 0 schema.structs
names_of schema sorts.Union = map (λ (row : UnionRow). Some row.name) schema.unions
names_of schema sorts.Enum = map (λ (row : EnumRow). Some row.name) schema.enums
names_of schema sorts.Interface = map (λ (row : InterfaceRow). Some row.name) schema.interfaces
names_of schema sorts.Const = []

-- whether a full name is there, and is this one
abbrev pub is_name : List ℕ → Option (List ℕ) → Bool
is_name name other = option_map_or (λ (one : List ℕ). bytes_eq name one) other false

-- the definition of a sort and full name
abbrev pub partner_of : Schema → RowSort → List ℕ → Option ℕ
partner_of new sort name = position (is_name name) (names_of new sort)

-- for each interface of the older schema the number of the newer one's of that name
abbrev pub namesakes : Schema → Schema → List (Option ℕ)
namesakes old new = map (λ (row : InterfaceRow). partner_of new sorts.Interface row.name) old.interfaces

-- ## Stable definitions

-- a definition of the older schema, with the number of the newer one's of its sort and full name
abbrev pub root_of : Schema → Schema → DefinitionRow → Root
root_of old new d = record { definition = d; partner = partner_of new d.sort (name_of old d.sort d.number) }

-- the stable definitions of the older schema in the order of the file
abbrev pub roots : Schema → Schema → List Root
roots old new = map (root_of old new) (filter (λ (d : DefinitionRow). is_stable old d.sort d.number) old.order)

-- two definitions of one sort
abbrev pub paired : RowSort → ℕ → ℕ → List Pair
paired sorts.Struct i j = Structs i j ∷ []
paired sorts.Union i j = Unions i j ∷ []
paired sorts.Enum i j = Enums i j ∷ []
paired sorts.Interface i j = Interfaces i j ∷ []
paired sorts.Const i j = []

-- the pair of a root, where it has a partner
abbrev pub root_pairs : Root → List Pair
root_pairs root = option_map_or (paired root.definition.sort root.definition.number) root.partner []

-- why a root with this partner is broken: it isn't there, it isn't stable, or the pair is broken
abbrev pub partner_reason : Schema → Schema → DefinitionRow → Option ℕ → Option Reason
partner_reason old new d None = Some (record { change = changes.Missing; name = name_of old d.sort d.number })
partner_reason old new d (Some j) =
    if is_stable new d.sort j
    then first_found (pair_reason old new (namesakes old new)) (paired d.sort d.number j)
    else Some (record { change = changes.NotStable; name = name_of old d.sort d.number })

-- why a root is broken, where it is
abbrev pub root_reason : Schema → Schema → Root → Option Reason
root_reason old new root = partner_reason old new root.definition root.partner

-- ## Pair after pair

-- the pairs that follow from the roots in so many steps, in order, each as often as it follows
abbrev pub reached : Schema → Schema → ℕ → List Pair
reached old new zero = flat_map root_pairs (roots old new)
reached old new (suc n) = flat_map (follows old new) (reached old new n)

-- the first reason of those that so many steps lead to
abbrev pub reason_at : Schema → Schema → ℕ → Option Reason
reason_at old new zero = first_found (root_reason old new) (roots old new)
reason_at old new (suc n) = first_found (pair_reason old new (namesakes old new)) (reached old new (suc n))

-- nothing that is reached has a reason
abbrev pub IsCompatible : Schema → Schema → Type 0
IsCompatible old new = (n : ℕ) → reason_at old new n ≡ None

-- the first reason there is
pub record IsBroken (old new : Schema) (reason : Reason) : Type 0 where
  pub steps : ℕ
  pub before : (n : ℕ) → n < steps → reason_at old new n ≡ None
  pub first : reason_at old new steps ≡ Some reason

-- what is answered
abbrev pub Judges : Schema → Schema → Verdict → Type 0
Judges old new (Compatible stable) = IsCompatible old new × (stable ≡ length (roots old new))
Judges old new (Broken reason) = IsBroken old new reason
