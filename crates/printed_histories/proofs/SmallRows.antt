-- The slots of structs lie low.
use Rattle.std.proofs.Common.{◌≡◌, ◌<◌, ◌≤◌, ℕ, ◌^◌, Bool, true, false, List, [], ◌∷◌, map, take, subst, arith}
use Rattle.std.specs.Prelude.{Option, Some, None, ◌==◌, filter, nat_le, if◌then◌else◌, slice_get}
use Rattle.std.proofs.lemmas.List.Elements.{recursion_from_All}
use Rattle.std.proofs.lemmas.Bool.{eqb-true, leb-true}
use Rattle.mj_schema.specs.declared.rows.FieldRow.{FieldRow}
use Rattle.mj_schema.specs.declared.rows.StructRow.{StructRow}
use Rattle.mj_schema.specs.declared.rows.VersionRow.{VersionRow}
use Rattle.mj_schema.specs.declared.schema.Schema.{Schema}
use Rattle.wire_model.specs.Marks.{row_fits}
use Rattle.wire_laws.proofs.GoodRows.{readable_schema}
use Rattle.wire_model.specs.Readable.{EndsWithin, IsReadableRow, IsReadableVersion}
use Rattle.wire_model.specs.Rows.{last_or, newest_version, no_row, row_for}
use Rattle.wire_model.specs.Slots.{field_slot}
use Rattle.history_reader.specs.Printable.{AreAll}
use Rattle.printed_histories.proofs.SmallFaults.{IsLow, HasLowSlots}
use Rattle.printed_histories.proofs.SmallLists.{If, if_got, all_filtered, all_of}

-- the fields of a version, whose size is below 2 ^ 32
abbrev IsLowVersion : StructRow → VersionRow → Type 0
IsLowVersion row version = version.bytes < 2 ^ 32 → AreAll IsLow (map field_slot (take version.fields row.fields))

fields_low : (bytes : ℕ) (fields : List FieldRow) → bytes < 2 ^ 32 → AreAll (EndsWithin bytes) fields → AreAll IsLow (map field_slot fields)
fields_low bytes [] few a = tt
fields_low bytes (f ∷ fields) few a =
    let bit = a.0.bit in let room = a.0.room in (omega (arith, few, bit, room), fields_low bytes fields few a.1)

version_low : (row : StructRow) (version : VersionRow) → IsReadableVersion row version → IsLowVersion row version
version_low row version is few =
    fields_low version.bytes (take version.fields row.fields) few
    (all_of (EndsWithin version.bytes) (take version.fields row.fields)
    (recursion_from_All (EndsWithin version.bytes) (take version.fields row.fields) is.within))

versions_low : (row : StructRow) (versions : List VersionRow) → AreAll (IsReadableVersion row) versions → AreAll (IsLowVersion row) versions
versions_low row [] a = tt
versions_low row (v ∷ versions) a = (version_low row v a.0, versions_low row versions a.1)

last_low : (P : VersionRow → Type 0) (row : VersionRow) (rows : List VersionRow) → P row → AreAll P rows → P (last_or row rows)
last_low P row [] p a = p
last_low P row (next ∷ rows) p a = last_low P next rows a.0 a.1

fitting : (bytes size : ℕ) (known : Bool) → (if known then size == bytes else nat_le bytes size) ≡ true → bytes ≤ size
fitting bytes size true e = let same = eqb-true size bytes e in omega (arith, same)
fitting bytes size false e = leb-true bytes size e

row_low : (row : StructRow) → IsReadableRow row → (size version : ℕ) → size < 2 ^ 32 → row_fits row.versions version size ≡ true
    → AreAll IsLow (map field_slot (take (row_for row.versions version).fields row.fields))
unfolding row_fits
row_low row is size version few fits =
    let all = versions_low row row.versions
    (all_of (IsReadableVersion row) row.versions (recursion_from_All (IsReadableVersion row) row.versions is.versions)) in
    let within = fitting (row_for row.versions version).bytes size (nat_le version (newest_version row.versions)) fits in
    last_low (IsLowVersion row) no_row (filter (λ (v : VersionRow). nat_le v.version version) row.versions) (λ f. tt)
    (all_filtered (IsLowVersion row) (λ (v : VersionRow). nat_le v.version version) row.versions all) (omega (arith, few, within))

pub low_slots : (schema : Schema) → HasLowSlots schema
low_slots schema number row e size version few fits = row_low row (found (slice_get schema.structs number) rows e) size version few fits
  where
    rows : If IsReadableRow (slice_get schema.structs number)
    rows = if_got IsReadableRow schema.structs number
        (all_of IsReadableRow schema.structs (recursion_from_All IsReadableRow schema.structs (readable_schema schema).structs))

    found : (o : Option StructRow) → If IsReadableRow o → o ≡ Some row → IsReadableRow row
    found None i e = absurd cc
    found (Some r) i e = let same : r ≡ row = cc in subst IsReadableRow same i
