-- The numbers of methods are those of their structs.
use Rattle.std.proofs.Common.{◌≡◌, ◌+◌, ℕ, List, [], ◌∷◌, ◌++◌, length, refl, ◌∙◌, ap, subst, arith}
use Rattle.std.specs.Prelude.{codes, slice_get, Option, Some, None}
use Rattle.std.specs.List.{AllByRecursion}
use Rattle.std.specs.Option.{option_map, option_to_list}
use Rattle.mojom_ast.specs.declared.attributes.Attribute.{Attribute}
use Rattle.mojom_ast.specs.declared.definitions.DefinitionItem.{DefinitionItem}
use Rattle.mojom_ast.specs.declared.definitions.DefinitionItem.TheVariants as items
use Rattle.mojom_ast.specs.declared.definitions.Method.{Method}
use Rattle.mojom_ast.specs.declared.definitions.Parameter.{Parameter}
use Rattle.mojom_files.specs.declared.named_file.NamedFile.{NamedFile}
use Rattle.mojom_files.specs.Definitions.{Defined}
use Rattle.mj_base.specs.Names.{within}
use Rattle.module_resolver.specs.declared.file_names.Names.{Names}
use Rattle.const_eval.specs.declared.consts.Consts.{Consts}
use Rattle.mj_schema.specs.declared.rows.DraftStruct.{DraftStruct}
use Rattle.mj_schema.specs.declared.rows.InterfaceRow.{InterfaceRow}
use Rattle.mj_schema.specs.declared.rows.MethodRow.{MethodRow}
use Rattle.draft_rows.specs.declared.counts.Counts.{Counts}
use Rattle.draft_rows.specs.declared.counts.FileRows.{FileRows}
use Rattle.draft_rows.specs.declared.draft.Draft.{Draft}
use Rattle.kind_scope.specs.Scopes.{Scope, inside}
use Rattle.kind_scope.specs.Members.{held, ordinal_at}
use Rattle.draft_rows.specs.RowCounts.{methods_in, structs_of, no_rows, rows_of}
use Rattle.draft_rows.specs.Rows.{parameters_row, response_row, method_structs, structs_of_methods, method_rows}
use Rattle.draft_rows.specs.Drafts.{join, enclosed, draft_of_item, draft_of}
use Rattle.schema_laws.proofs.Among.{each_append}
use Rattle.schema_laws.proofs.Each.{all_so}
use Rattle.schema_laws.proofs.Places.{at_front, at_behind}
use Rattle.schema_laws.proofs.Numbering.{structs_of_method, Lifts, in_files}
use Rattle.written_laws.specs.Methods.{HasStruct, HasStructIfAny, HasStructs, AllHaveStructs}

-- structs, the first of which has a number

-- the struct of a number has this full name
record StandsAt (first : ℕ) (structs : List DraftStruct) (name : List ℕ) (number : ℕ) : Type 0 where
  place : ℕ
  row : DraftStruct
  is : number ≡ first + place
  there : slice_get structs place ≡ Some row
  named : row.name ≡ name

abbrev StandsIfAny : ℕ → List DraftStruct → List ℕ → Option ℕ → Type 0
StandsIfAny first structs name None = Unit {0}
StandsIfAny first structs name (Some number) = StandsAt first structs name number

record Stand (first : ℕ) (structs : List DraftStruct) (full : List ℕ) (method : MethodRow) : Type 0 where
  request : StandsAt first structs (within (within full method.name) (codes "request")) method.request
  response : StandsIfAny first structs (within (within full method.name) (codes "response")) method.response

abbrev AllStand : ℕ → List DraftStruct → List InterfaceRow → Type 0
AllStand first structs interfaces =
    AllByRecursion (λ (row : InterfaceRow). AllByRecursion (Stand first structs row.name) row.methods) interfaces

-- others behind them

front_at : (first : ℕ) (s t : List DraftStruct) (name : List ℕ) (number : ℕ) → StandsAt first s name number → StandsAt first (s ++ t) name number
front_at first s t name number at =
    record { place = at.place; row = at.row; is = at.is; there = at_front s t at.place at.row at.there; named = at.named }

front : (first : ℕ) (s t : List DraftStruct) (full : List ℕ) (method : MethodRow) → Stand first s full method → Stand first (s ++ t) full method
front first s t full method stand =
    record { request = front_at first s t _ method.request stand.request; response = go method.response stand.response }
  where
    go : (o : Option ℕ) → StandsIfAny first s (within (within full method.name) (codes "response")) o
        → StandsIfAny first (s ++ t) (within (within full method.name) (codes "response")) o
    go None at = tt
    go (Some number) at = front_at first s t _ number at

-- others before them

behind_at : (first : ℕ) (s t : List DraftStruct) (name : List ℕ) (number : ℕ) → StandsAt (first + length s) t name number
    → StandsAt first (s ++ t) name number
behind_at first s t name number at = record {
  place = length s + at.place;
  row = at.row;
  is = omega (arith, at.is);
  there = at_behind s t (length s + at.place) at.place refl ∙ at.there;
  named = at.named;
}

behind : (first : ℕ) (s t : List DraftStruct) (full : List ℕ) (method : MethodRow) → Stand (first + length s) t full method
    → Stand first (s ++ t) full method
behind first s t full method stand =
    record { request = behind_at first s t _ method.request stand.request; response = go method.response stand.response }
  where
    go : (o : Option ℕ) → StandsIfAny (first + length s) t (within (within full method.name) (codes "response")) o
        → StandsIfAny first (s ++ t) (within (within full method.name) (codes "response")) o
    go None at = tt
    go (Some number) at = behind_at first s t _ number at

-- the methods of an interface

method_stands : (rows : List FileRows) (scope : Scope) (full : List ℕ) (first ordinal : ℕ) (m : Method) (later : List DraftStruct)
    → (response : Option (List Parameter)) → (request : DraftStruct) → request.name ≡ within (within full m.name.text) (codes "request")
    → Stand first (request ∷ option_to_list (response_row rows scope (within (within full m.name.text) (codes "response")) response) ++ later) full
    (record {
      name = m.name.text;
      ordinal = ordinal;
      request = first;
      response = option_map (λ (parameters : List Parameter). first + 1) response;
    })
method_stands rows scope full first ordinal m later None request named = record {
  request = record { place = 0; row = request; is = omega arith; there = refl; named = named };
  response = tt;
}
method_stands rows scope full first ordinal m later (Some parameters) request named =
    let reply = parameters_row rows scope (within (within full m.name.text) (codes "response")) parameters in
    record {
      request = record { place = 0; row = request; is = omega arith; there = refl; named = named };
      response = record { place = 1; row = reply; is = refl; there = refl; named = refl };
    }

methods_stand : (rows : List FileRows) (scope : Scope) (full : List ℕ) (next first : ℕ) (ms : List Method)
    → AllByRecursion (Stand first (structs_of_methods rows scope full ms) full) (method_rows next first ms)
methods_stand rows scope full next first [] = tt
methods_stand rows scope full next first (m ∷ ms) =
    let name = within full m.name.text in
    let later = structs_of_methods rows scope full ms in
    let here = method_structs rows scope name m in
    let one = method_stands rows scope full first (ordinal_at next m.ordinal) m later m.response
    (parameters_row rows scope (within name (codes "request")) m.request) refl in
    let rest = methods_stand rows scope full (held (ordinal_at next m.ordinal + 1)) (first + structs_of m) ms in
    let moved = subst (λ (n : ℕ).
    AllByRecursion (Stand (first + n) later full) (method_rows (held (ordinal_at next m.ordinal + 1)) (first + structs_of m) ms))
    (structs_of_method rows scope name m) rest in (
      one,
      all_so (Stand (first + length here) later full) (Stand first (here ++ later) full) (λ method stand. behind first here later full method stand)
          (method_rows (held (ordinal_at next m.ordinal + 1)) (first + structs_of m) ms) moved,
    )

item_stands : (rows : List FileRows) (scope : Scope) (counts : Counts) (full : List ℕ) (attributes : List Attribute) (item : DefinitionItem)
    → AllStand counts.structs (draft_of_item rows scope counts full attributes item).structs
    (draft_of_item rows scope counts full attributes item).interfaces
item_stands rows scope counts full attributes (items.Interface item) =
    (methods_stand rows (inside scope full) full 0 counts.structs (methods_in item.members), tt)
item_stands rows scope counts full attributes (items.Struct item) = tt
item_stands rows scope counts full attributes (items.Union item) = tt
item_stands rows scope counts full attributes (items.Enum item) = tt
item_stands rows scope counts full attributes (items.Const item) = tt

-- tables

abbrev Good : ℕ → Draft → List Defined → Type 0
Good first draft ds = AllStand first draft.structs draft.interfaces

joined : (first : ℕ) (one two : Draft) (ds es : List Defined) → Good first one ds → Good (first + length one.structs) two es
    → Good first (join one two) (ds ++ es)
joined first one two ds es a b =
    let s = one.structs in
    let t = two.structs in
    let Whole : InterfaceRow → Type 0 = λ row. AllByRecursion (Stand first (s ++ t) row.name) row.methods in
    each_append Whole one.interfaces two.interfaces
    (all_so (λ (row : InterfaceRow). AllByRecursion (Stand first s row.name) row.methods) Whole
    (λ row all. all_so (Stand first s row.name) (Stand first (s ++ t) row.name) (λ method stand. front first s t row.name method stand) row.methods all)
    one.interfaces a)
    (all_so (λ (row : InterfaceRow). AllByRecursion (Stand (first + length s) t row.name) row.methods) Whole
    (λ row all.
    all_so (Stand (first + length s) t row.name) (Stand first (s ++ t) row.name) (λ method stand. behind first s t row.name method stand) row.methods all)
    two.interfaces b)

lifts : Lifts Good
lifts = record {
  none = λ first. tt;
  both = joined;
  each = λ rows scope counts d. item_stands rows (enclosed scope d.enclosing) counts d.full d.attributes d.item;
}

-- where the first struct has the number 0, the places are the numbers

from_start : (structs : List DraftStruct) (name : List ℕ) (number : ℕ) → StandsAt 0 structs name number → HasStruct structs name number
from_start structs name number at =
    let same : number ≡ at.place = omega (arith, at.is) in
    record { row = at.row; there = ap (λ (n : ℕ). slice_get structs n) same ∙ at.there; is = at.named }

method_has : (structs : List DraftStruct) (full : List ℕ) (method : MethodRow) → Stand 0 structs full method → HasStructs structs full method
method_has structs full method stand =
    record { request = from_start structs _ method.request stand.request; response = go method.response stand.response }
  where
    go : (o : Option ℕ) → StandsIfAny 0 structs (within (within full method.name) (codes "response")) o
        → HasStructIfAny structs (within (within full method.name) (codes "response")) o
    go None at = tt
    go (Some number) at = from_start structs _ number at

-- the numbers of methods are those of their structs
pub methods_have_structs : (files : List NamedFile) (order : List ℕ) (names : Names) (consts : Consts)
    → AllHaveStructs (draft_of names.files consts files order)
methods_have_structs files order names consts =
    let draft = draft_of names.files consts files order in
    all_so (λ (row : InterfaceRow). AllByRecursion (Stand 0 draft.structs row.name) row.methods)
    (λ (row : InterfaceRow). AllByRecursion (HasStructs draft.structs row.name) row.methods)
    (λ row all. all_so (Stand 0 draft.structs row.name) (HasStructs draft.structs row.name) (method_has draft.structs row.name) row.methods all)
    draft.interfaces (in_files Good lifts (rows_of files order) names.files consts files no_rows order)
