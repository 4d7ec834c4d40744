-- The one text of a value.
use Rattle.std.specs.Prelude.{ℕ, ◌++◌, Bool, true, false, List, [], ◌∷◌, Option, Some, None, codes, decimal, map, unwrap_or}
use Rattle.std.specs.Fmt.{signed_decimal}
use Rattle.mj_schema.specs.KindTrees as kinds
use Rattle.mj_schema.specs.KindTrees.{KindTree}
use Rattle.mj_schema.specs.declared.rows.FieldRow.{FieldRow}
use Rattle.mj_schema.specs.declared.rows.StructRow.{StructRow}
use Rattle.mj_schema.specs.declared.schema.Schema.{Schema}
use Rattle.wire_model.specs.Rows.{member_kind, row_of}
use Rattle.wire_model.specs.Trees.{Tree, Trees, none, more}
use Rattle.wire_model.specs.Trees as values
use Rattle.value_text.specs.Signs.{percent, open_round, close_round, comma, colon, open_angle, close_angle, at_sign, open_square, close_square, caret, open_curly, close_curly}
use Rattle.value_text.specs.Escapes.{quoted}

-- a bool
abbrev pub flag_text : Bool → List ℕ
flag_text true = codes "true"
flag_text false = codes "false"

-- the kind of an array's elements
abbrev pub element_of : KindTree → KindTree
element_of (kinds.ArrayKind of count nullable) = of
element_of k = k

-- the kind of a map's keys
abbrev pub key_of : KindTree → KindTree
key_of (kinds.MapKind key one nullable) = key
key_of k = k

-- the kind of a map's values
abbrev pub value_of : KindTree → KindTree
value_of (kinds.MapKind key one nullable) = one
value_of k = k

-- the kinds of a struct's fields
abbrev pub fields_kinds : List FieldRow → List KindTree
fields_kinds row = map (λ (field : FieldRow). field.kind) row

-- those of a struct that may not be there
abbrev pub row_kinds : Option StructRow → List KindTree
row_kinds None = []
row_kinds (Some row) = fields_kinds row.fields

-- the kinds of the fields of the struct of this kind, where there is one
abbrev pub field_kinds : Schema → KindTree → List KindTree
field_kinds schema k = row_kinds (row_of schema k)

-- the kind that a union holds under a tag
abbrev pub held : Schema → KindTree → ℕ → KindTree
held schema k tag = unwrap_or (member_kind schema k tag) k

-- texts of keys and of values as pairs, each behind a comma, and the bracket
abbrev pub next_pairs : List (List ℕ) → List (List ℕ) → List ℕ
next_pairs [] vs = close_curly ∷ []
next_pairs (k ∷ ks) [] = close_curly ∷ []
next_pairs (k ∷ ks) (v ∷ vs) = comma ∷ (k ++ colon ∷ (v ++ next_pairs ks vs))

-- with commas between, and the bracket
abbrev pub first_pair : List (List ℕ) → List (List ℕ) → List ℕ
first_pair [] vs = close_curly ∷ []
first_pair (k ∷ ks) [] = close_curly ∷ []
first_pair (k ∷ ks) (v ∷ vs) = k ++ colon ∷ (v ++ next_pairs ks vs)

unfoldable mutual
  -- the text of a value of a kind; the kind says which kinds the parts have
  pub spell : Schema → KindTree → Tree → List ℕ
  spell schema k values.Null = codes "null"
  spell schema k (values.Flag b) = flag_text b
  spell schema k (values.Whole z) = signed_decimal z
  spell schema k (values.Text bytes) = quoted bytes
  spell schema k (values.Items ts) = open_square ∷ first_item schema (element_of k) ts
  spell schema k (values.Pairs ts) = open_curly ∷ both_lists schema (key_of k) (value_of k) ts
  spell schema k (values.Fields ts) = open_round ∷ first_field schema (field_kinds schema k) ts
  spell schema k (values.Member tag t) = open_angle ∷ (decimal tag ++ colon ∷ (spell schema (held schema k tag) t ++ close_angle ∷ []))
  spell schema k (values.Unknown tag) = open_angle ∷ (decimal tag ++ close_angle ∷ [])
  spell schema k (values.Handle i) = percent ∷ decimal i
  spell schema k (values.Remote i v) = percent ∷ (decimal i ++ at_sign ∷ decimal v)
  spell schema k (values.Endpoint i) = caret ∷ decimal i
  spell schema k (values.EndpointRemote i v) = caret ∷ (decimal i ++ at_sign ∷ decimal v)

  -- elements with commas between, and the bracket
  pub first_item : Schema → KindTree → Trees → List ℕ
  first_item schema k none = close_square ∷ []
  first_item schema k (more t ts) = spell schema k t ++ next_items schema k ts

  -- elements each behind a comma, and the bracket
  pub next_items : Schema → KindTree → Trees → List ℕ
  next_items schema k none = close_square ∷ []
  next_items schema k (more t ts) = comma ∷ (spell schema k t ++ next_items schema k ts)

  -- the pairs of two lists
  pub both_lists : Schema → KindTree → KindTree → Trees → List ℕ
  both_lists schema key one (more (values.Items ks) (more (values.Items vs) none)) = first_pair (each_text schema key ks) (each_text schema one vs)
  both_lists schema key one ts = close_curly ∷ []

  -- the texts of values, each by itself
  pub each_text : Schema → KindTree → Trees → List (List ℕ)
  each_text schema k none = []
  each_text schema k (more t ts) = spell schema k t ∷ each_text schema k ts

  -- fields with commas between, and the bracket
  pub first_field : Schema → List KindTree → Trees → List ℕ
  first_field schema [] ts = close_round ∷ []
  first_field schema (k ∷ ks) none = close_round ∷ []
  first_field schema (k ∷ ks) (more t ts) = spell schema k t ++ next_fields schema ks ts

  -- fields each behind a comma, and the bracket
  pub next_fields : Schema → List KindTree → Trees → List ℕ
  next_fields schema [] ts = close_round ∷ []
  next_fields schema (k ∷ ks) none = close_round ∷ []
  next_fields schema (k ∷ ks) (more t ts) = comma ∷ (spell schema k t ++ next_fields schema ks ts)
