-- The members of rows in the order of their numbers, and the first of which something is found.
use Rattle.std.specs.Prelude.{ℕ, ℤ, Bool, ◌==◌, List, [], ◌∷◌, map, find, Option, None, Some, if◌then◌else◌}
use Rattle.std.specs.BTreeSet.{insert_key}
use Rattle.std.specs.List.{fold}
use Rattle.std.specs.Option.{option_or}
use Rattle.std.specs.Ordering.{int_cmp, nat_cmp}
use Rattle.mj_schema.specs.declared.rows.MemberRow.{MemberRow}
use Rattle.mj_schema.specs.declared.rows.MethodRow.{MethodRow}
use Rattle.mj_schema.specs.declared.rows.UnionFieldRow.{UnionFieldRow}
use Rattle.compat_model.specs.declared.reason.Change.{Change}

-- numbers as they rise, each once
abbrev pub rising : List ℕ → List ℕ
rising ns = fold (insert_key nat_cmp) [] ns

-- the same of numbers with a sign
abbrev pub rising_signed : List ℤ → List ℤ
rising_signed ns = fold (insert_key int_cmp) [] ns

-- the tags of a union's fields
abbrev pub tags_of : List UnionFieldRow → List ℕ
tags_of fields = rising (map (λ (field : UnionFieldRow). field.tag) fields)

-- the ordinals of an interface's methods
abbrev pub ordinals_of : List MethodRow → List ℕ
ordinals_of methods = rising (map (λ (method : MethodRow). method.ordinal) methods)

-- the numbers of an enum's members
abbrev pub numbers_of : List MemberRow → List ℤ
numbers_of members = rising_signed (map (λ (member : MemberRow). member.number) members)

-- an interface's method of an ordinal
abbrev pub method_at : List MethodRow → ℕ → Option MethodRow
method_at methods ordinal = find (λ (method : MethodRow). method.ordinal == ordinal) methods

-- what is found of the first of which something is found
abbrev pub first_found : {A B : Type 0} → (A → Option B) → List A → Option B
first_found look [] = None
first_found look (x ∷ xs) = option_or (look x) (first_found look xs)

-- a change, unless a test holds
abbrev pub unless : Bool → Change → Option Change
unless holds change = if holds then None else Some change
