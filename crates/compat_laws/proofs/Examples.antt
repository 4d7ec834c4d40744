-- Worked rows: kinds that fit beside such as don't, what is told first of two rows and by which name, and what follows in which order.
use Rattle.std.proofs.Common.{◌≡◌, ℕ, true, false, List, [], ◌∷◌, codes, refl}
use Rattle.std.specs.Prelude.{ℤ, pos, negsuc, Bool, Option, Some, None}
use Rattle.mj_schema.specs.KindTrees as kinds
use Rattle.mj_schema.specs.KindTrees.{KindTree}
use Rattle.mj_schema.specs.declared.kind.HandleSort.TheVariants as handles
use Rattle.mj_schema.specs.declared.kind.Width.TheVariants.{Bits16, Bits32}
use Rattle.mj_schema.specs.declared.rows.EnumRow.{EnumRow}
use Rattle.mj_schema.specs.declared.rows.FieldRow.{FieldRow}
use Rattle.mj_schema.specs.declared.rows.InterfaceRow.{InterfaceRow}
use Rattle.mj_schema.specs.declared.rows.MemberRow.{MemberRow}
use Rattle.mj_schema.specs.declared.rows.MethodRow.{MethodRow}
use Rattle.mj_schema.specs.declared.rows.StructRow.{StructRow}
use Rattle.mj_schema.specs.declared.rows.UnionFieldRow.{UnionFieldRow}
use Rattle.mj_schema.specs.declared.rows.UnionRow.{UnionRow}
use Rattle.compat_model.specs.declared.pair.Pair.TheVariants.{Structs, Enums}
use Rattle.compat_model.specs.declared.reason.Change.TheVariants as changes
use Rattle.compat_model.specs.Changes.{struct_change, union_change, enum_change, interface_change}
use Rattle.compat_model.specs.Kinds.{kinds_fit, named_in}
use Rattle.compat_model.specs.Pairs.{struct_reason, struct_pairs, union_pairs, message_pairs, interface_pairs}

-- ## Kinds

-- an integer of 32 bits
abbrev int : Bool → Bool → KindTree
int signed nullable = kinds.IntKind Bits32 signed nullable

null_is_added : (kinds_fit [] (kinds.TextKind false) (kinds.TextKind true) ≡ true) × (kinds_fit [] (kinds.TextKind true) (kinds.TextKind false) ≡ false)
null_is_added = (refl, refl)

null_of_a_number : (kinds_fit [] (int true true) (int true true) ≡ true) × (kinds_fit [] (int true false) (int true true) ≡ false)
null_of_a_number = (refl, refl)

null_of_an_enum :
    (kinds_fit [] (kinds.EnumKind 0 true) (kinds.EnumKind 1 true) ≡ true)
    × (kinds_fit [] (kinds.EnumKind 0 false) (kinds.EnumKind 0 true) ≡ false)
null_of_an_enum = (refl, refl)

widths_and_signs : (kinds_fit [] (int true false) (kinds.IntKind Bits16 true false) ≡ false) × (kinds_fit [] (int true false) (int false false) ≡ false)
widths_and_signs = (refl, refl)

an_enum_is_no_number : kinds_fit [] (kinds.EnumKind 0 false) (int true false) ≡ false
an_enum_is_no_number = refl

-- arrays of strings, of this length
abbrev strings : Option ℕ → KindTree
strings count = kinds.ArrayKind (kinds.TextKind false) count false

a_count_is_dropped : (kinds_fit [] (strings (Some 2)) (strings None) ≡ true) × (kinds_fit [] (strings (Some 2)) (strings (Some 2)) ≡ true)
a_count_is_dropped = (refl, refl)

a_count_is_changed : (kinds_fit [] (strings None) (strings (Some 2)) ≡ false) × (kinds_fit [] (strings (Some 2)) (strings (Some 3)) ≡ false)
a_count_is_changed = (refl, refl)

null_is_added_inside :
    (kinds_fit [] (kinds.ArrayKind (kinds.TextKind false) None true) (kinds.ArrayKind (kinds.TextKind true) None true) ≡ true)
    × (kinds_fit [] (kinds.ArrayKind (kinds.TextKind true) None true) (kinds.ArrayKind (kinds.TextKind false) None true) ≡ false)
null_is_added_inside = (refl, refl)

handles_of_sorts :
    (kinds_fit [] (kinds.HandleKind handles.Platform false) (kinds.HandleKind handles.Platform true) ≡ true)
    × (kinds_fit [] (kinds.HandleKind handles.Platform false) (kinds.HandleKind handles.Any false) ≡ false)
handles_of_sorts = (refl, refl)

a_handle_is_no_receiver : kinds_fit (Some 0 ∷ []) (kinds.HandleKind handles.MessagePipe false) (kinds.ReceiverKind 0 false) ≡ false
a_handle_is_no_receiver = refl

-- the newer schema's second interface has the name of the older one's first
endpoints_by_names :
    (kinds_fit (Some 1 ∷ []) (kinds.RemoteKind 0 false) (kinds.RemoteKind 1 true) ≡ true)
    × (kinds_fit (Some 1 ∷ []) (kinds.RemoteKind 0 false) (kinds.RemoteKind 0 false) ≡ false)
endpoints_by_names = (refl, refl)

no_endpoint_of_a_name_that_is_gone : kinds_fit (None ∷ []) (kinds.AssociatedReceiverKind 0 false) (kinds.AssociatedReceiverKind 0 false) ≡ false
no_endpoint_of_a_name_that_is_gone = refl

a_key_comes_before_its_value :
    named_in (kinds.MapKind (kinds.EnumKind 0 false) (kinds.StructKind 1 false) false)
    (kinds.MapKind (kinds.EnumKind 2 false) (kinds.StructKind 3 true) false) ≡ Enums 0 2 ∷ Structs 1 3 ∷ []
a_key_comes_before_its_value = refl

-- ## Structs

abbrev field : ℕ → KindTree → ℕ → FieldRow
field ordinal kind since = record {
  name = codes "f";
  ordinal = ordinal;
  kind = kind;
  offset = 0;
  bit = 0;
  flag = None;
  min_version = since;
  default = None;
}

-- a struct of this name, with this newest version
abbrev of_fields : List ℕ → List FieldRow → ℕ → StructRow
of_fields name fields newest = record { name = name; fields = fields; versions = record { version = newest; fields = 0; bytes = 8 } ∷ []; stable = false }

-- the kinds of all fields come before the version of any
kinds_come_before_versions :
    struct_change [] (of_fields (codes "a") (field 0 (int true false) 0 ∷ field 1 (int true false) 0 ∷ []) 0)
    (of_fields (codes "b") (field 0 (int true false) 1 ∷ field 1 (kinds.BoolKind false) 1 ∷ []) 1) ≡ Some (changes.KindChanged 1)
kinds_come_before_versions = refl

a_version_that_fell :
    struct_change [] (of_fields (codes "a") (field 0 (int true false) 1 ∷ []) 1) (of_fields (codes "b") (field 0 (int true false) 0 ∷ []) 0)
    ≡ Some (changes.VersionChanged 0)
a_version_that_fell = refl

an_old_name :
    struct_reason [] (of_fields (codes "a") (field 0 (int true false) 0 ∷ []) 0) (of_fields (codes "b") [] 0)
    ≡ Some (record { change = changes.FieldGone 0; name = codes "a" })
an_old_name = refl

a_new_name :
    struct_reason [] (of_fields (codes "a") [] 3) (of_fields (codes "b") (field 0 (kinds.TextKind true) 3 ∷ []) 3)
    ≡ Some (record { change = changes.EarlyField 0; name = codes "b" })
a_new_name = refl

a_field_that_comes_in_time : struct_change [] (of_fields (codes "a") [] 3) (of_fields (codes "b") (field 0 (kinds.TextKind true) 4 ∷ []) 4) ≡ None
a_field_that_comes_in_time = refl

fields_follow_in_order :
    struct_pairs (of_fields (codes "a") (field 0 (kinds.StructKind 5 false) 0 ∷ field 1 (kinds.EnumKind 6 false) 0 ∷ []) 0)
    (of_fields (codes "b") (field 0 (kinds.StructKind 7 true) 0 ∷ field 1 (kinds.EnumKind 8 false) 0 ∷ []) 0) ≡ Structs 5 7 ∷ Enums 6 8 ∷ []
fields_follow_in_order = refl

-- ## Unions, enums and interfaces

abbrev holds : ℕ → KindTree → UnionFieldRow
holds tag kind = record { name = codes "f"; tag = tag; kind = kind }

abbrev of_tags : Bool → List UnionFieldRow → UnionRow
of_tags extensible fields = record { name = codes "u"; extensible = extensible; fields = fields; stable = false }

the_least_tag_first :
    union_change [] (of_tags false (holds 5 (kinds.TextKind false) ∷ holds 2 (kinds.TextKind false) ∷ [])) (of_tags true []) ≡ Some (changes.TagGone 2)
the_least_tag_first = refl

a_union_that_closes :
    union_change [] (of_tags true (holds 5 (kinds.TextKind false) ∷ [])) (of_tags false []) ≡ Some changes.ExtensibleGone
a_union_that_closes = refl

tags_follow_as_they_rise :
    union_pairs (of_tags false (holds 5 (kinds.StructKind 0 false) ∷ holds 2 (kinds.StructKind 1 false) ∷ []))
    (of_tags false (holds 5 (kinds.StructKind 2 false) ∷ holds 2 (kinds.StructKind 3 false) ∷ [])) ≡ Structs 1 3 ∷ Structs 0 2 ∷ []
tags_follow_as_they_rise = refl

abbrev member : ℤ → MemberRow
member number = record { name = codes "V"; number = number }

abbrev of_numbers : Bool → List MemberRow → EnumRow
of_numbers extensible members = record { name = codes "e"; extensible = extensible; members = members; default = None; stable = false }

the_least_number_first :
    enum_change (of_numbers false (member (pos 3) ∷ member (negsuc 0) ∷ [])) (of_numbers false (member (pos 0) ∷ [])) ≡ Some (changes.MemberGone (negsuc 0))
the_least_number_first = refl

an_enum_that_opens : enum_change (of_numbers false (member (pos 3) ∷ [])) (of_numbers true (member (pos 0) ∷ [])) ≡ None
an_enum_that_opens = refl

an_enum_that_closes : enum_change (of_numbers true (member (pos 3) ∷ [])) (of_numbers false (member (pos 0) ∷ [])) ≡ Some changes.ExtensibleGone
an_enum_that_closes = refl

abbrev method : ℕ → ℕ → Option ℕ → MethodRow
method ordinal request response = record { name = codes "M"; ordinal = ordinal; request = request; response = response }

abbrev of_methods : List MethodRow → InterfaceRow
of_methods methods = record { name = codes "i"; methods = methods; version = 0; stable = true }

what_is_gone_comes_before_responses :
    interface_change (of_methods (method 1 0 None ∷ method 0 1 (Some 2) ∷ [])) (of_methods (method 0 0 None ∷ [])) ≡ Some (changes.MethodGone 1)
what_is_gone_comes_before_responses = refl

responses_in_both_or_neither :
    (interface_change (of_methods (method 0 0 (Some 1) ∷ [])) (of_methods (method 0 0 None ∷ [])) ≡ Some (changes.ResponseChanged 0))
    × (interface_change (of_methods (method 0 0 None ∷ [])) (of_methods (method 0 0 (Some 1) ∷ [])) ≡ Some (changes.ResponseChanged 0))
responses_in_both_or_neither = (refl, refl)

a_request_comes_before_its_response : message_pairs (method 0 1 (Some 2)) (method 0 3 (Some 4)) ≡ Structs 1 3 ∷ Structs 2 4 ∷ []
a_request_comes_before_its_response = refl

methods_follow_as_their_ordinals_rise :
    interface_pairs (of_methods (method 1 0 None ∷ method 0 1 None ∷ [])) (of_methods (method 0 2 None ∷ method 1 3 None ∷ [])) ≡ Structs 1 2 ∷ Structs 0 3 ∷ []
methods_follow_as_their_ordinals_rise = refl
