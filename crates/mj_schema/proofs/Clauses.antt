-- What the type of a schema keeps, part by part.
use Rattle.std.proofs.Common.{◌≡◌, length, map}
use Rattle.std.specs.Prelude.{true}
use Rattle.std.specs.List.{list_all}
use Rattle.std.proofs.lemmas.Bool.{and_parts}
use Rattle.mj_schema.specs.declared.rows.InterfaceRow.{InterfaceRow}
use Rattle.mj_schema.specs.declared.schema.Schema.{Schema}
use Rattle.mj_schema.specs.Layout.{draft_of}
use Rattle.mj_schema.specs.Sound.{are_sound, are_texts, has_texts, is_sound_struct, is_sound_union, is_sound_enum}
use Rattle.mj_schema.specs.WellFormed.{are_allowed, are_within, all_kinds, counts_of, has_distinct_ordinals, has_distinct_tags, has_members, has_structs, is_row}

-- the ordinals of methods differ, and the enums have members
record AreFormed (schema : Schema) : Type 0 where
  ordinals : list_all has_distinct_ordinals schema.interfaces ≡ true
  members : list_all has_members schema.enums ≡ true

formed : (schema : Schema) → AreFormed schema
formed schema =
    let counts = counts_of schema.structs schema.unions schema.enums schema.interfaces schema.consts in
    let kinds = all_kinds schema.structs schema.unions schema.consts in
    let a = list_all (are_within counts) kinds in
    let b = list_all (λ (row : InterfaceRow). list_all (has_structs (length schema.structs)) row.methods) schema.interfaces in
    let c = list_all (is_row counts) schema.order in
    let d = are_allowed schema.structs schema.unions schema.consts in
    let e = list_all has_distinct_tags schema.unions in
    let f = list_all has_distinct_ordinals schema.interfaces in
    let g = list_all has_members schema.enums in
    let one = and_parts a _ schema.well_formed in
    let two = and_parts b _ one.1 in
    let three = and_parts c _ two.1 in
    let four = and_parts d _ three.1 in
    let five = and_parts e _ four.1 in
    let six = and_parts f _ five.1 in
    record { ordinals = six.0; members = (and_parts g _ six.1).0 }

-- the ordinals of the methods of each interface differ
pub ordinals_differ : (schema : Schema) → list_all has_distinct_ordinals schema.interfaces ≡ true
ordinals_differ schema = (formed schema).ordinals

-- each enum has members, and its default is the number of one
pub members_there : (schema : Schema) → list_all has_members schema.enums ≡ true
members_there schema = (formed schema).members

-- the fields of each struct are sound
pub fields_sound : (schema : Schema) → list_all (is_sound_struct schema.enums) (map draft_of schema.structs) ≡ true
unfolding are_sound
fields_sound schema = (and_parts (list_all (is_sound_struct schema.enums) (map draft_of schema.structs)) _ schema.sound).0

-- so are the members of each enum
pub members_sound : (schema : Schema) → list_all is_sound_enum schema.enums ≡ true
unfolding are_sound
members_sound schema =
    let one = and_parts (list_all (is_sound_struct schema.enums) (map draft_of schema.structs)) _ schema.sound in
    let two = and_parts (list_all is_sound_union schema.unions) _ one.1 in
    (and_parts (list_all is_sound_enum schema.enums) _ two.1).0

-- the texts of defaults are UTF-8
pub texts_sound : (schema : Schema) → list_all has_texts (map draft_of schema.structs) ≡ true
unfolding are_texts
texts_sound schema = (and_parts (list_all has_texts (map draft_of schema.structs)) _ schema.texts).0
