-- A message that has the same bytes as another wherever that one is read stands where it does, and for the same.
use Rattle.std.proofs.Common.{◌≡◌, ℕ, ◌+◌, ◌≤◌, false, List, [], ◌∷◌, ◌++◌, length, Option, Some, None, refl, ap, subst, ◌∙◌, arith}
use Rattle.std.specs.Prelude.{ℤ, option_and_then}
use Rattle.mj_base.specs.Bytes.{number32}
use Rattle.mj_schema.specs.KindTrees.{StructKind}
use Rattle.mj_schema.specs.declared.rows.MethodRow.{MethodRow}
use Rattle.mj_schema.specs.declared.schema.Schema.{Schema}
use Rattle.wire_model.specs.Expected.{Message, Stands, message_marks, message_value, method_marks, method_named, parameter_marks, struct_of}
use Rattle.wire_model.specs.HeaderMarks.{header_marks}
use Rattle.wire_model.specs.Marks.{Mark}
use Rattle.wire_model.specs.Message.{ids_read, moment_read, payload_end, payload_start, request_read}
use Rattle.wire_model.specs.Stands.{Extent, IsFine, IsOrderly, IsSettled, objects}
use Rattle.wire_model.specs.Tight.{MAX_DEPTH, marks_of, value_of}
use Rattle.wire_model.specs.Trees.{Tree}
use Rattle.wire_model.specs.declared.target.Expected.{Expected}
use Rattle.wire_model.specs.declared.target.MessageSide.{MessageSide}
use Rattle.same_messages.specs.Agree.{AgreesWhereRead, header_extent, ids_extent}
use Rattle.same_messages.specs.steps.Agreed.{Agreed}
use Rattle.same_messages.proofs.Fine.{fine_left, fine_right}
use Rattle.same_messages.specs.steps.Same.{SameHeader}
use Rattle.same_messages.proofs.SameHeaders.{ends_within, header_same}
use Rattle.same_messages.proofs.SameNumbers.{each_same, same_in_left, same_in_right, agreed_right, within}
use Rattle.same_messages.proofs.SameObjects.{visited_same}

-- objects in order end in time where the end is later
orderly_longer : (from end end' : ℕ) (es : List Extent) → end ≤ end' → IsOrderly from end es → IsOrderly from end' es
orderly_longer from end end' [] le h = tt
orderly_longer from end end' (e ∷ es) le h =
    let ends = h.1.1.0 in (h.0, (h.1.0, (omega (arith, le, ends), orderly_longer (e.start + e.size) end end' es le h.1.1.1)))

-- the same marks are settled there too
settled_moved : (ms ms' : List Mark) (s s' e e' n i i' : ℕ) → ms' ≡ ms → s' ≡ s → e ≤ e' → i' ≡ i → IsSettled ms s e n i → IsSettled ms' s' e' n i'
settled_moved ms ms' s s' e e' n i i' a b le d h =
    rw (a, b, d) (record {
      fine = h.fine;
      orderly = orderly_longer s e e' (objects ms) le h.orderly;
      handles_rise = h.handles_rise;
      ids_rise = h.ids_rise;
    })

-- what a message stands for, of its parts
abbrev said : ℕ → ℕ → Option ℤ → Tree → Message
said method request moment value = record { method = method; request = request; moment = moment; value = value }

message_is : (m m' r r' : ℕ) (z z' : Option ℤ) (t t' : Tree) → m' ≡ m → r' ≡ r → z' ≡ z → t' ≡ t → said m' r' z' t' ≡ said m r z t
message_is m m' r r' z z' t t' a b c d = rw (a, b, c, d) refl

module _ (schema : Schema) (bytes other : List ℕ) (long : length bytes ≤ length other) (same : SameHeader bytes other) where
  -- the parameters from the payload's first byte on
  record SameParameters (number : ℕ) : Type 0 where
    marks : marks_of schema other (payload_start other) number ≡ marks_of schema bytes (payload_start bytes) number
    value : value_of schema other (payload_start other) number ≡ value_of schema bytes (payload_start bytes) number

  parameters_same : (number : ℕ) → IsFine (marks_of schema bytes (payload_start bytes) number)
      → Agreed bytes other (marks_of schema bytes (payload_start bytes) number) → SameParameters number
  parameters_same number fine agreed =
      let h = visited_same schema bytes other long MAX_DEPTH (payload_start bytes) (payload_start bytes) (StructKind number false) fine agreed in
      record {
        marks = ap (λ (p : ℕ). marks_of schema other p number) same.start ∙ h.marks;
        value = ap (λ (p : ℕ). value_of schema other p number) same.start ∙ h.value;
      }

  side_same : (side : MessageSide) (method : MethodRow) (o : Option ℕ) → IsFine (parameter_marks schema side bytes method o)
      → Agreed bytes other (parameter_marks schema side bytes method o)
      → (parameter_marks schema side other method o ≡ parameter_marks schema side bytes method o)
      × ((number : ℕ) → o ≡ Some number
      → value_of schema other (payload_start other) number ≡ value_of schema bytes (payload_start bytes) number)
  side_same side method None fine agreed = (refl, λ number e. absurd cc)
  side_same side method (Some n) fine agreed =
      let h = parameters_same n fine.1 agreed in (
        rw (same.flags, h.marks) refl,
        λ number e.
            let is : n ≡ number = cc in
            subst (λ (m : ℕ). value_of schema other (payload_start other) m ≡ value_of schema bytes (payload_start bytes) m) is h.value,
      )

  named_same : (side : MessageSide) (o : Option MethodRow) → IsFine (method_marks schema side bytes o) → Agreed bytes other (method_marks schema side bytes o)
      → (method_marks schema side other o ≡ method_marks schema side bytes o)
      × ((number : ℕ) → option_and_then (struct_of side) o ≡ Some number
      → value_of schema other (payload_start other) number ≡ value_of schema bytes (payload_start bytes) number)
  named_same side None fine agreed = (refl, λ number e. absurd cc)
  named_same side (Some method) fine agreed = side_same side method (struct_of side method) fine agreed

-- all that is read of a message
record SameMessage (schema : Schema) (expected : Expected) (bytes other : List ℕ) : Type 0 where
  header : SameHeader bytes other
  marks : message_marks schema expected other ≡ message_marks schema expected bytes
  value : (number : ℕ) → option_and_then (struct_of expected.side) (method_named schema expected bytes) ≡ Some number
      → value_of schema other (payload_start other) number ≡ value_of schema bytes (payload_start bytes) number

message_same : (schema : Schema) (expected : Expected) (bytes other : List ℕ) (handle_count : ℕ) → AgreesWhereRead schema expected bytes other
    → Stands schema expected bytes handle_count → SameMessage schema expected bytes other
unfolding message_marks
message_same schema expected bytes other handle_count agrees stands =
    let long = agrees.long in
    let ids = ids_extent bytes in
    let front = header_marks bytes in
    let back = method_marks schema expected.side bytes (method_named schema expected bytes) in
    let claimed = objects (front ++ back) in
    let front_fine = fine_left front back stands.settled.fine in
    let back_fine = fine_right front back stands.settled.fine in
    let extents = each_same bytes other (header_extent bytes ∷ (ids ++ claimed)) agrees.same in
    let header : SameHeader bytes other = header_same bytes other long extents.0 (same_in_left bytes other ids claimed extents.1) front_fine in
    let all : Agreed bytes other (front ++ back) =
    within bytes other (payload_start bytes) (payload_end bytes) claimed (ends_within bytes front_fine) (same_in_right bytes other ids claimed extents.1)
    stands.settled.orderly in
    let h = named_same schema bytes other long header expected.side (method_named schema expected bytes) back_fine
    (agreed_right bytes other front back all) in
    record {
      header = header;
      marks = rw (header.marks, header.name, h.0) refl;
      value = h.1;
    }

-- for the law `independent`
pub independent : (schema : Schema) (expected : Expected) (bytes other : List ℕ) (handle_count : ℕ) → Stands schema expected bytes handle_count
    → AgreesWhereRead schema expected bytes other
    → Stands schema expected other handle_count
    × ((number : ℕ) → option_and_then (struct_of expected.side) (method_named schema expected bytes) ≡ Some number
    → message_value schema other number ≡ message_value schema bytes number)
independent schema expected bytes other handle_count stands agrees =
    let h = message_same schema expected bytes other handle_count agrees stands in
    let header = h.header in (
      record {
        settled =
            settled_moved (message_marks schema expected bytes) (message_marks schema expected other) (payload_start bytes) (payload_start other)
            (payload_end bytes) (payload_end other) handle_count (length (ids_read bytes)) (length (ids_read other)) h.marks header.start header.end
            (ap length header.ids) stands.settled;
      },
      λ number e.
          message_is (number32 bytes 12) (number32 other 12) (request_read bytes) (request_read other) (moment_read bytes) (moment_read other)
          (value_of schema bytes (payload_start bytes) number) (value_of schema other (payload_start other) number) header.name header.request
          header.moment (h.value number e),
    )
