-- That the numbers of methods are those of their structs.
use Rattle.std.specs.Prelude.{ℕ, ◌≡◌, codes, List, slice_get, Option, Some, None}
use Rattle.std.specs.List.{AllByRecursion}
use Rattle.mj_base.specs.Names.{within}
use Rattle.mj_schema.specs.declared.rows.DraftStruct.{DraftStruct}
use Rattle.mj_schema.specs.declared.rows.InterfaceRow.{InterfaceRow}
use Rattle.mj_schema.specs.declared.rows.MethodRow.{MethodRow}
use Rattle.draft_rows.specs.declared.draft.Draft.{Draft}

-- the struct of a number has this full name
pub record HasStruct (structs : List DraftStruct) (name : List ℕ) (number : ℕ) : Type 0 where
  pub row : DraftStruct
  pub there : slice_get structs number ≡ Some row
  pub is : row.name ≡ name

-- the same where there is a number
abbrev pub HasStructIfAny : List DraftStruct → List ℕ → Option ℕ → Type 0
HasStructIfAny structs name None = Unit {0}
HasStructIfAny structs name (Some number) = HasStruct structs name number

-- the numbers of a method of the interface of this full name are those of the structs of its parameters and of its response
pub record HasStructs (structs : List DraftStruct) (full : List ℕ) (method : MethodRow) : Type 0 where
  pub request : HasStruct structs (within (within full method.name) (codes "request")) method.request
  pub response : HasStructIfAny structs (within (within full method.name) (codes "response")) method.response

-- the same of all methods of tables
abbrev pub AllHaveStructs : Draft → Type 0
AllHaveStructs draft =
    AllByRecursion (λ (row : InterfaceRow). AllByRecursion (HasStructs draft.structs row.name) row.methods) draft.interfaces
