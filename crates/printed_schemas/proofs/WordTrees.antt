-- The names of interfaces and methods in a tree that a file's tokens spell are words without a dot.
use Rattle.std.proofs.Common.{◌≡◌, ℕ, ◌==◌, ◌&&◌, Bool, false, true, not, List, [], ◌∷◌, ◌++◌, Option, Some, None, refl, sym, ap, ◌∙◌, subst, codes}
use Rattle.std.specs.List.{flat_map, list_all, AllByRecursion}
use Rattle.std.proofs.lemmas.Bool.{and_from, eqb-true, false≢true}
use Rattle.mojom_ast.specs.declared.attributes.Attribute.{Attribute}
use Rattle.mojom_ast.specs.declared.definitions.Definition.{Definition}
use Rattle.mojom_ast.specs.declared.definitions.DefinitionItem.{DefinitionItem}
use Rattle.mojom_ast.specs.declared.definitions.DefinitionItem.TheVariants as items
use Rattle.mojom_ast.specs.declared.definitions.Interface.{Interface}
use Rattle.mojom_ast.specs.declared.definitions.InterfaceItem.{InterfaceItem}
use Rattle.mojom_ast.specs.declared.definitions.InterfaceItem.TheVariants as interface_items
use Rattle.mojom_ast.specs.declared.definitions.InterfaceMember.{InterfaceMember}
use Rattle.mojom_ast.specs.declared.definitions.Method.{Method}
use Rattle.mojom_ast.specs.declared.definitions.StructItem.{StructItem}
use Rattle.mojom_ast.specs.declared.definitions.StructItem.TheVariants as struct_items
use Rattle.mojom_ast.specs.declared.definitions.StructMember.{StructMember}
use Rattle.mojom_ast.specs.declared.file.File.{File}
use Rattle.mojom_ast.specs.declared.file.ModuleStatement.{ModuleStatement}
use Rattle.mojom_ast.specs.declared.names.Identifier.{Identifier}
use Rattle.mojom_ast.specs.declared.token.Sort.{Sort}
use Rattle.mojom_ast.specs.declared.token.Sort.TheVariants as sorts
use Rattle.mojom_ast.specs.declared.token.Token.{Token}
use Rattle.mojom_ast.specs.Grammar.{file}
use Rattle.mojom_lexer.specs.Bytes.{goes_on}
use Rattle.mojom_lexer.specs.Words.{is_word}
use Rattle.mojom_print.specs.Unplaced.{unplaced}
use Rattle.mojom_print.proofs.Prints.{Lexical, AllLexical, option_sorts, Printed}
use Rattle.mojom_print.proofs.Sorts.{dotted_sorts, parts_sorts, attributes_sorts, interface_item_sorts, interface_member_sorts, interface_sorts, method_sorts, definition_item_sorts, definition_sorts, module_sorts, import_sorts, file_sorts}
use Rattle.mojom_print.proofs.DefinitionRules.{prints_file}
use Rattle.mojom_print.proofs.WordTexts.{word_each, of_identifier}
use Rattle.mojom_print.proofs.Retold.{comma_lexical, tokens_lexical}
use Rattle.mj_base.specs.Names.{named_in}
use Rattle.mojom_files.specs.Names.{dotted}
use Rattle.mojom_files.specs.Definitions.{Defined, identifier_of, module_of, struct_item, interface_item, in_struct, in_interface, nested_in, with_nested, definitions_of}
use Rattle.draft_rows.specs.RowCounts.{method_among, methods_in}
use Rattle.line_parts.specs.Names as words
use Rattle.line_parts.specs.Signs.{blank, dot}
use Rattle.schema_laws.proofs.Each.{all_flat, all_so}
use Rattle.printed_schemas.specs.Spelled.{IsSpelled}
use Rattle.printed_schemas.proofs.WordNames.{is_not_blank, is_plain_byte, is_plain}
use Rattle.printed_schemas.proofs.WordTexts.{plain_bytes, no_blanks, none_blank, dotted_word, plain_word}

-- identifiers

-- no byte of a word of a file is such a byte
other_byte : (c b : ℕ) → goes_on b ≡ false → goes_on c ≡ true → (c == b) ≡ false
other_byte c b none e = go (c == b) refl
  where
    go : (same : Bool) → (c == b) ≡ same → same ≡ false
    go false is = refl
    go true is = absurd (false≢true (sym none ∙ ap goes_on (sym (eqb-true c b is)) ∙ e))

plain_byte : (c : ℕ) → goes_on c ≡ true → is_plain_byte c ≡ true
plain_byte c e = and_from (is_not_blank c) (not (c == dot)) (ap not (other_byte c blank refl e)) (ap not (other_byte c dot refl e))

all_plain : (bytes : List ℕ) → AllByRecursion (λ (b : ℕ). goes_on b ≡ true) bytes → list_all is_plain_byte bytes ≡ true
all_plain [] all = refl
all_plain (b ∷ bs) all = and_from (is_plain_byte b) (list_all is_plain_byte bs) (plain_byte b all.0) (all_plain bs all.1)

each_passes : (test : ℕ → Bool) (bytes : List ℕ) → list_all test bytes ≡ true → AllByRecursion (λ (b : ℕ). test b ≡ true) bytes
each_passes test [] e = tt
each_passes test (b ∷ bs) e = go (test b) refl e (each_passes test bs)
  where
    go : (v : Bool) → test b ≡ v → (v && list_all test bs) ≡ true → (list_all test bs ≡ true → AllByRecursion (λ (c : ℕ). test c ≡ true) bs)
        → (test b ≡ true) × AllByRecursion (λ (c : ℕ). test c ≡ true) bs
    go true is e rest = (is, rest e)
    go false is e rest = absurd (cc)

word_plain : (text : List ℕ) → is_word text ≡ true → is_plain text ≡ true
word_plain [] e = absurd (cc)
word_plain (c ∷ cs) e = all_plain (c ∷ cs) (each_passes goes_on (c ∷ cs) (word_each (c ∷ cs) e))

identifier_plain : (text : List ℕ) → Lexical (sorts.Identifier text) → is_plain text ≡ true
identifier_plain text l = word_plain text (of_identifier text l.bytes l.spelled).0

-- sorts that have bytes, part by part

both_lexical : (xs ys : List Sort) → AllLexical (xs ++ ys) → AllLexical xs × AllLexical ys
both_lexical [] ys h = (tt, h)
both_lexical (x ∷ xs) ys h = let rest = both_lexical xs ys h.1 in ((h.0, rest.0), rest.1)

each_lexical : {A : Type 0} (sorts_of : A → List Sort) (xs : List A) → AllLexical (flat_map sorts_of xs)
    → AllByRecursion (λ (x : A). AllLexical (sorts_of x)) xs
each_lexical sorts_of [] h = tt
each_lexical sorts_of (x ∷ xs) h =
    let parts = both_lexical (sorts_of x) (flat_map sorts_of xs) h in (parts.0, each_lexical sorts_of xs parts.1)

-- the module's name

parts_behind : (parts : List Identifier) → AllLexical (flat_map dotted_sorts parts)
    → list_all is_not_blank (flat_map (λ (part : Identifier). codes "." ++ part.text) parts) ≡ true
parts_behind [] h = refl
parts_behind (x ∷ xs) h =
    none_blank (dot ∷ x.text) (flat_map (λ (part : Identifier). codes "." ++ part.text) xs)
    (no_blanks x.text (plain_bytes x.text (identifier_plain x.text h.1.0))) (parts_behind xs h.1.1)

module_name : (parts : List Identifier) → AllLexical (parts_sorts parts) → list_all is_not_blank (dotted parts) ≡ true
module_name [] h = refl
module_name (x ∷ xs) h =
    none_blank x.text (flat_map (λ (part : Identifier). codes "." ++ part.text) xs)
    (no_blanks x.text (plain_bytes x.text (identifier_plain x.text h.0))) (parts_behind xs h.1)

-- no blank stands in the name of what is around
abbrev HasNoBlanks : Option (List ℕ) → Type 0
HasNoBlanks None = Unit {0}
HasNoBlanks (Some outer) = list_all is_not_blank outer ≡ true

module_blanks : (statement : Option ModuleStatement) → AllLexical (option_sorts module_sorts statement) → HasNoBlanks (module_of statement)
module_blanks None h = tt
module_blanks (Some s) h =
    let behind = (both_lexical (attributes_sorts s.attributes) _ h).1 in
    module_name s.name.parts (both_lexical (parts_sorts s.name.parts) _ behind.1).0

full_word : (outer : Option (List ℕ)) (name : List ℕ) → HasNoBlanks outer → is_plain name ≡ true → words.is_word (named_in outer name) ≡ true
full_word None name none plain = plain_word name plain
full_word (Some outer) name none plain = dotted_word outer name none (no_blanks name (plain_bytes name plain))

-- definitions

-- a method whose name is a word without a dot
abbrev pub IsPlainMethod : Method → Type 0
IsPlainMethod m = is_plain m.name.text ≡ true

-- an interface has a word as its full name, and its methods have words without a dot
abbrev pub IsPlainItem : List ℕ → DefinitionItem → Type 0
IsPlainItem full (items.Interface item) = (words.is_word full ≡ true) × AllByRecursion IsPlainMethod (methods_in item.members)
IsPlainItem full _ = Unit {0}

-- so it is with what a file defines
abbrev pub IsPlainDefined : Defined → Type 0
IsPlainDefined d = IsPlainItem d.full d.item

method_plain : (item : InterfaceItem) → AllLexical (interface_item_sorts item) → AllByRecursion IsPlainMethod (method_among item)
unfolding method_sorts
method_plain (interface_items.Method m) h = (identifier_plain m.name.text h.0, tt)
method_plain (interface_items.Const c) h = tt
method_plain (interface_items.Enum e) h = tt

-- the name of an interface, and those of its methods
record IsPlainInterface (item : Interface) : Type 0 where
  pub name : is_plain item.name.text ≡ true
  pub methods : AllByRecursion IsPlainMethod (methods_in item.members)

interface_plain : (item : Interface) → AllLexical (interface_sorts item) → IsPlainInterface item
unfolding interface_sorts
interface_plain item h =
    let members = each_lexical interface_member_sorts item.members (both_lexical (flat_map interface_member_sorts item.members) _ h.1.1.1).0 in
    record {
      name = identifier_plain item.name.text h.1.0;
      methods = all_flat IsPlainMethod (λ (m : InterfaceMember). method_among m.item) item.members
          (all_so (λ (m : InterfaceMember). AllLexical (interface_member_sorts m)) (λ (m : InterfaceMember). AllByRecursion IsPlainMethod (method_among m.item))
          (λ m all. method_plain m.item (both_lexical (attributes_sorts m.attributes) (interface_item_sorts m.item) all).1) item.members members);
    }

item_plain : (outer : Option (List ℕ)) (item : DefinitionItem) → HasNoBlanks outer → AllLexical (definition_item_sorts item)
    → IsPlainItem (named_in outer (identifier_of item).text) item
item_plain outer (items.Interface item) none h =
    let is = interface_plain item h in (full_word outer item.name.text none is.name, is.methods)
item_plain outer (items.Struct item) none h = tt
item_plain outer (items.Union item) none h = tt
item_plain outer (items.Enum item) none h = tt
item_plain outer (items.Const item) none h = tt

-- what is nested in a definition is no interface

in_struct_plain : (outer : List ℕ) (attributes : List Attribute) (item : StructItem) → AllByRecursion IsPlainDefined (struct_item outer attributes item)
in_struct_plain outer attributes (struct_items.Const c) = (tt, tt)
in_struct_plain outer attributes (struct_items.Enum e) = (tt, tt)
in_struct_plain outer attributes (struct_items.Field f) = tt

in_interface_plain : (outer : List ℕ) (attributes : List Attribute) (item : InterfaceItem)
    → AllByRecursion IsPlainDefined (interface_item outer attributes item)
in_interface_plain outer attributes (interface_items.Const c) = (tt, tt)
in_interface_plain outer attributes (interface_items.Enum e) = (tt, tt)
in_interface_plain outer attributes (interface_items.Method m) = tt

all_of : {A : Type 0} (P : A → Type 0) → ((x : A) → P x) → (xs : List A) → AllByRecursion P xs
all_of P each [] = tt
all_of P each (x ∷ xs) = (each x, all_of P each xs)

nested_plain : (outer : List ℕ) (item : DefinitionItem) → AllByRecursion IsPlainDefined (nested_in outer item)
nested_plain outer (items.Struct item) =
    all_flat IsPlainDefined (in_struct outer) item.members
    (all_of (λ (m : StructMember). AllByRecursion IsPlainDefined (in_struct outer m)) (λ m. in_struct_plain outer m.attributes m.item) item.members)
nested_plain outer (items.Interface item) =
    all_flat IsPlainDefined (in_interface outer) item.members
    (all_of (λ (m : InterfaceMember). AllByRecursion IsPlainDefined (in_interface outer m)) (λ m. in_interface_plain outer m.attributes m.item) item.members)
nested_plain outer (items.Union item) = tt
nested_plain outer (items.Enum item) = tt
nested_plain outer (items.Const item) = tt

-- files

file_plain : (tree : File) → AllLexical (file_sorts tree) → AllByRecursion IsPlainDefined (definitions_of tree)
unfolding file_sorts
file_plain tree h =
    let first = both_lexical (option_sorts module_sorts tree.module_statement) _ h in
    let none = module_blanks tree.module_statement first.0 in
    let second = both_lexical (flat_map import_sorts tree.imports) (flat_map definition_sorts tree.definitions) first.1 in
    let outer = module_of tree.module_statement in
    all_flat IsPlainDefined (with_nested outer) tree.definitions
    (all_so (λ (d : Definition). AllLexical (definition_sorts d)) (λ (d : Definition). AllByRecursion IsPlainDefined (with_nested outer d))
    (λ d all. (
      item_plain outer d.item none (both_lexical (attributes_sorts d.attributes) (definition_item_sorts d.item) all).1,
      nested_plain (named_in outer (identifier_of d.item).text) d.item,
    )) tree.definitions (each_lexical definition_sorts tree.definitions second.1))

-- what a file defines has plain names
pub tree_plain : (tree : File) → IsSpelled tree → AllByRecursion IsPlainDefined (definitions_of tree)
tree_plain tree is =
    let n : ℕ = is.spelled.0 in
    let K : File → List Token → Type 0 = λ f rest. (rest ≡ []) × (f ≡ tree) in
    let p : Printed (file n) unplaced file_sorts K =
    (prints_file n comma_lexical).printed K is.tokens (tokens_lexical is.bytes is.tokens is.are) is.spelled.1 in
    file_plain tree (subst (λ (f : File). AllLexical (file_sorts f)) p.next.1 p.good)
