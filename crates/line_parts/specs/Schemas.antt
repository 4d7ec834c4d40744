-- What a text needs of a schema: words for its interfaces and for the messages of its methods, and numbers of 32 bits.
use Rattle.std.specs.Prelude.{ℕ, ◌≡◌, ◌<◌, ◌^◌, Some, slice_get}
use Rattle.mj_schema.specs.Lookups.{method_in}
use Rattle.mj_schema.specs.declared.rows.InterfaceRow.{InterfaceRow}
use Rattle.mj_schema.specs.declared.rows.MethodRow.{MethodRow}
use Rattle.mj_schema.specs.declared.schema.Schema.{Schema}
use Rattle.wire_model.specs.Expected.{struct_of}
use Rattle.wire_model.specs.declared.target.MessageSide.{MessageSide}
use Rattle.bind_model.specs.WireOf.{version_in}
use Rattle.history_text.specs.Names.{method_text}
use Rattle.line_parts.specs.Names.{names_of, messages_of, meaning}
use Rattle.line_parts.specs.Printable.{IsInterface}

-- a schema whose names and numbers a text can say
pub record IsPrintableSchema (schema : Schema) : Type 0 where
  -- the full name of each interface means it
  pub interfaces : (n : ℕ) (row : InterfaceRow) → slice_get schema.interfaces n ≡ Some row → IsInterface schema n
  -- the word of each method means its messages
  pub messages : (side : MessageSide) (n ordinal number : ℕ) (method : MethodRow) → method_in schema.interfaces n ordinal ≡ Some method
      → struct_of side method ≡ Some number
      → meaning (messages_of (names_of schema) side) (method_text schema n ordinal)
      ≡ Some (record { target = record { interface = n; method = ordinal; side = side }; parameters = number })
  -- ordinals of methods have 32 bits
  pub ordinals : (n ordinal : ℕ) (method : MethodRow) → method_in schema.interfaces n ordinal ≡ Some method → ordinal < 2 ^ 32
  -- and so have versions of interfaces
  pub versions : (n : ℕ) → version_in schema n < 2 ^ 32
