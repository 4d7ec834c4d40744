-- The text of names, strings, numbers and values, as the Mojom IDL reference writes them.
use Rattle.std.specs.Prelude.{ℕ, zero, suc, Bool, true, false, List, [], ◌∷◌, ◌++◌, ◌==◌, if◌then◌else◌, codes, decimal, Option, Some, None}
use Rattle.std.specs.List.{flat_map, join_by}
use Rattle.mojom_ast.specs.declared.names.Name.{Name}
use Rattle.mojom_ast.specs.declared.names.Number.{Number}
use Rattle.mojom_ast.specs.declared.names.Value.{Value}
use Rattle.mojom_ast.specs.declared.names.Value.TheVariants as values
use Rattle.mojom_lexer.specs.Bytes.{quote, backslash, line_feed, tab}

-- a.b.c
unfoldable pub name_text : Name → List ℕ
name_text name = join_by (λ part. part.text) (codes ".") name.parts

-- a byte of a string: a quote, a backslash, a line feed and a tab by their escapes, each other one as it is
unfoldable pub string_byte : ℕ → List ℕ
string_byte c =
    if c == quote then codes "\\\"" else (
    if c == backslash then codes "\\\\" else (
    if c == line_feed then codes "\\n" else (
    if c == tab then codes "\\t" else
    c ∷ [])))

-- the bytes between quotes
unfoldable pub string_text : List ℕ → List ℕ
string_text bytes = codes "\"" ++ (flat_map string_byte bytes ++ codes "\"")

-- -, where a number has it; a plus is dropped
abbrev pub sign_text : Bool → List ℕ
sign_text true = codes "-"
sign_text false = []

-- true or false
abbrev pub truth_text : Bool → List ℕ
truth_text true = codes "true"
truth_text false = codes "false"

-- "text", true, false, 1, -1 or a.b
abbrev pub value_text : Value → List ℕ
value_text (values.String s) = string_text s.bytes
value_text (values.Bool value span) = truth_text value
value_text (values.Number negative magnitude span) = sign_text negative ++ decimal magnitude
value_text (values.Name name) = name_text name

-- @4, where there is an ordinal
abbrev pub ordinal_text : Option Number → List ℕ
ordinal_text None = []
ordinal_text (Some n) = codes "@" ++ decimal n.value

-- what is assigned, where anything is
abbrev pub assigned_text : Option Value → List ℕ
assigned_text None = []
assigned_text (Some v) = codes " = " ++ value_text v

-- two blanks for each definition around
abbrev pub indent : ℕ → List ℕ
indent zero = []
indent (suc depth) = codes "  " ++ indent depth
