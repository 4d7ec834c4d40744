-- What the table of names holds, and what is found in it.
use Rattle.std.specs.Prelude.{ℕ, ◌≡◌, ◌+◌, ◌++◌, ◌||◌, Bool, true, false, not, List, [], ◌∷◌, length, map, Option, Some, None, if◌then◌else◌}
use Rattle.std.specs.Option.{option_map}
use Rattle.std.specs.List.{list_any}
use Rattle.std.specs.Str.{bytes_eq}
use Rattle.indexmap.specs.IndexMap.{get_by_text, index_map_len}
use Rattle.call_script.specs.declared.name_table.NameTable.{NameTable}
use Rattle.call_script.specs.declared.name_table.Scope.{Scope}
use Rattle.call_script.specs.declared.script.NameId.{NameId}
use Rattle.script_forms.specs.Forms.{Form, sets}
use Rattle.script_words.specs.Letters.{own_word}
use Rattle.call_script.specs.Script.{doubled, sets_again, has_name, meant, is_set, IsNamed}

-- the number of the first of these that is this name
abbrev pub number_of : List ℕ → List (List ℕ) → Option ℕ
number_of name [] = None
number_of name (other ∷ others) = if bytes_eq name other then Some 0 else option_map (λ (n : ℕ). n + 1) (number_of name others)

-- the table has these names, each with its number
pub record IsTable (table : NameTable) (names : List (List ℕ)) : Type 0 where
  pub numbers : (q : List ℕ) → get_by_text table.numbers q ≡ number_of q names
  pub count : index_map_len table.numbers ≡ length names

-- names are added behind those before them, or one of them is there already in this sense
abbrev pub Extends : NameTable → NameTable → (List (List ℕ) → Bool) → List (List ℕ) → Bool → Type 0
Extends old new again added true = (names : List (List ℕ)) → IsTable old names → (again names ≡ false) × IsTable new (names ++ added)
Extends old new again added false = (names : List (List ℕ)) → IsTable old names → again names ≡ true

-- names are added, or one of them stands there already
abbrev pub Adds : NameTable → NameTable → List (List ℕ) → Bool → Type 0
Adds old new added done = Extends old new (λ names. doubled names added) added done

-- none of these is a name among those before
abbrev pub Spares : NameTable → List (List ℕ) → Bool → Type 0
Spares table words free = (names : List (List ℕ)) → IsTable table names → not (list_any (has_name names) words) ≡ free

-- names of a sequence's own are added, or one of them is set already
abbrev pub AddsOwn : NameTable → NameTable → ℕ → List (List ℕ) → Bool → Type 0
AddsOwn old new seq words done =
    Extends old new (λ names. list_any (has_name names) words || doubled names (map (own_word seq) words)) (map (own_word seq) words) done

-- a line's names are added, or one of them is set already
abbrev pub Sets : NameTable → NameTable → Form → Bool → Type 0
Sets old new form done = Extends old new (λ names. sets_again names form) (sets form) done

-- a text among the first so many, by its number
abbrev pub HasAt : NameTable → ℕ → List ℕ → NameId → Type 0
HasAt table count text id = (names own : List (List ℕ)) → IsTable table (names ++ own) → count ≡ length names
    → (has_name names text ≡ true) × IsNamed (names ++ own) id text

-- a text isn't among the first so many
abbrev pub HasNone : NameTable → ℕ → List ℕ → Type 0
HasNone table count text = (names own : List (List ℕ)) → IsTable table (names ++ own) → count ≡ length names → has_name names text ≡ false

-- the name that is meant in a line of a sequence, by its number
abbrev pub FindsAt : Scope → List ℕ → NameId → Type 0
FindsAt scope name id = (names own : List (List ℕ)) → IsTable scope.table.now (names ++ own) → scope.count ≡ length names
    → (is_set names scope.seq name ≡ true) × IsNamed (names ++ own) id (meant names scope.seq name)

-- the name that is meant in a line of a sequence isn't set
abbrev pub FindsNone : Scope → List ℕ → Type 0
FindsNone scope name = (names own : List (List ℕ)) → IsTable scope.table.now (names ++ own) → scope.count ≡ length names
    → is_set names scope.seq name ≡ false
