-- The words that a schema has for its interfaces and for the messages of their methods.
use Rattle.std.specs.Prelude.{ℕ, suc, ◌==◌, ◌++◌, Bool, false, not, List, [], ◌∷◌, Option, Some, None, map, filter, find, codes, option_map, unwrap_or}
use Rattle.std.specs.List.{flat_map, list_all}
use Rattle.std.specs.Str.{bytes_eq}
use Rattle.mj_schema.specs.declared.rows.InterfaceRow.{InterfaceRow}
use Rattle.mj_schema.specs.declared.rows.MethodRow.{MethodRow}
use Rattle.mj_schema.specs.declared.schema.Schema.{Schema}
use Rattle.wire_model.specs.Expected.{struct_of}
use Rattle.wire_model.specs.declared.target.MessageSide.{MessageSide}
use Rattle.wire_model.specs.declared.target.MessageSide.TheVariants.{Request, Response}
use Rattle.byte_rules.specs.Lang.{Lang, as_value}
use Rattle.byte_rules.specs.Among.{among}
use Rattle.line_parts.specs.Signs.{blank}
use Rattle.line_parts.specs.declared.names.Message.{Message}
use Rattle.line_parts.specs.declared.names.Entry.{Entry}
use Rattle.line_parts.specs.declared.names.Names.{Names}

-- some bytes without a blank
abbrev pub is_word : List ℕ → Bool
is_word [] = false
is_word (b ∷ bs) = list_all (λ (c : ℕ). not (c == blank)) (b ∷ bs)

-- the names that are words; those of compiled files are
abbrev pub that_are_words : {A : Type 0} → List (Entry A) → List (Entry A)
that_are_words {A} named = filter (λ (entry : Entry A). is_word entry.text) named

-- interfaces by their full names, numbered from n on
abbrev pub interfaces_from : ℕ → List InterfaceRow → List (Entry ℕ)
interfaces_from n [] = []
interfaces_from n (row ∷ rows) = record { text = row.name; value = n } ∷ interfaces_from (suc n) rows

-- a message of a method of this interface, as `INTERFACE.METHOD`, where the method has this side
abbrev pub message_in : MessageSide → ℕ → List ℕ → MethodRow → Option ℕ → List (Entry Message)
message_in side n name method None = []
message_in side n name method (Some number) =
    record {
      text = name ++ (codes "." ++ method.name);
      value = record { target = record { interface = n; method = method.ordinal; side = side }; parameters = number };
    } ∷ []

-- the messages of this side of the methods of interfaces, numbered from n on
abbrev pub messages_from : MessageSide → ℕ → List InterfaceRow → List (Entry Message)
messages_from side n [] = []
messages_from side n (row ∷ rows) =
    flat_map (λ (method : MethodRow). message_in side n row.name method (struct_of side method)) row.methods ++ messages_from side (suc n) rows

-- all words of a schema
abbrev pub names_of : Schema → Names
names_of schema = record {
  interfaces = that_are_words (interfaces_from 0 schema.interfaces);
  requests = that_are_words (messages_from Request 0 schema.interfaces);
  responses = that_are_words (messages_from Response 0 schema.interfaces);
}

-- those for the messages of a side
abbrev pub messages_of : Names → MessageSide → List (Entry Message)
messages_of names Request = names.requests
messages_of names Response = names.responses

-- what a word means: of two entries with one word the first
abbrev pub meaning : {A : Type 0} → List (Entry A) → List ℕ → Option A
meaning {A} entries text = option_map (λ (entry : Entry A). entry.value) (find (λ (entry : Entry A). bytes_eq entry.text text) entries)

-- the words of entries
abbrev pub texts : {A : Type 0} → List (Entry A) → List (List ℕ)
texts {A} entries = map (λ (entry : Entry A). entry.text) entries

-- one of these words
abbrev pub named : {A : Type 0} → List (Entry A) → Lang (Option A)
named entries = as_value (meaning entries) (among [] (λ (text : List ℕ). text) (texts entries))

-- the number of an interface, by its full name
abbrev pub interface : Names → Lang ℕ
interface names = as_value (λ (found : Option ℕ). unwrap_or found 0) (named names.interfaces)
