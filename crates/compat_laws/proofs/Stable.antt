-- Each stable interface is a root, has its partner where nothing has a reason, and is read there.
use Rattle.std.proofs.Common.{◌≡◌, ℕ, zero, ◌+◌, ◌<◌, ◌≤◌, true, false, inl, inr, List, [], ◌∷◌, length, map, Option, Some, None, refl, sym, ap, subst, ◌∙◌, arith}
use Rattle.std.specs.Prelude.{◌==◌, Bool, if◌then◌else◌, nat_lt, slice_get}
use Rattle.std.specs.List.{filter, list_all}
use Rattle.std.specs.Option.{option_map_or}
use Rattle.std.proofs.lemmas.Bool.{and_parts, eqb-true, ltb-false, ltb-true}
use Rattle.std.proofs.lemmas.Option.{slice_get_within}
use Rattle.mj_schema.specs.Layout.{draft_of}
use Rattle.mj_schema.specs.Sound.{are_counted, are_sound, has_value, is_listed, is_sound_enum, is_sound_interface, is_sound_struct, is_sound_union, number_in, numbers_in, same_sort}
use Rattle.mj_schema.specs.declared.rows.DefinitionRow.{DefinitionRow}
use Rattle.mj_schema.specs.declared.rows.InterfaceRow.{InterfaceRow}
use Rattle.mj_schema.specs.declared.rows.RowSort.{RowSort}
use Rattle.mj_schema.specs.declared.rows.RowSort.TheVariants as sorts
use Rattle.mj_schema.specs.declared.schema.Schema.{Schema}
use Rattle.compat_model.specs.steps.Among.{IsAmong}
use Rattle.compat_model.specs.Verdicts.{is_stable, name_of, partner_of, partner_reason, root_of, root_reason, roots, IsCompatible}
use Rattle.compat_model.proofs.Lists.{by_test, of_flat, into_map, into_filter, none_found}
use Rattle.compat_laws.specs.Read.{ReadsAll, ReadsStable}
use Rattle.compat_laws.proofs.Messages.{read}
use Rattle.compat_laws.proofs.Partners.{by_name}

-- ## The order of definitions

counted_has : (k n : ℕ) (ns : List ℕ) → are_counted k n ns ≡ true → (i : ℕ) → k ≤ i → i < n → IsAmong ns i
counted_has k n [] e i le lt = absurd (omega (arith, eqb-true k n e, le, lt))
counted_has k n (m ∷ ms) e i le lt =
    let parts = and_parts (m == k) (are_counted (k + 1) n ms) e in
    let here : m ≡ k = eqb-true m k parts.0 in
    by_test (nat_lt k i) (λ _. IsAmong (m ∷ ms) i)
    (λ above. let up : k < i = ltb-true k i above in inr (counted_has (k + 1) n ms parts.1 i (omega (arith, up)) lt))
    (λ at. let down : i ≤ k = ltb-false k i at in let same : m ≡ i = omega (arith, here, down, le) in inl same)

by_sort : (s : RowSort) (n i : ℕ) → IsAmong (if same_sort sorts.Interface s then n ∷ [] else []) i
    → ◌≡◌ {A = DefinitionRow} (record { sort = s; number = n }) (record { sort = sorts.Interface; number = i })
by_sort sorts.Struct n i h = absurd h
by_sort sorts.Union n i h = absurd h
by_sort sorts.Enum n i h = absurd h
by_sort sorts.Const n i h = absurd h
by_sort sorts.Interface n i (inl e) = ap (λ (x : ℕ). record { sort = sorts.Interface; number = x }) e
by_sort sorts.Interface n i (inr h) = absurd h

-- the order has each interface
listed : (schema : Schema) → is_listed schema.order sorts.Interface (length schema.interfaces) ≡ true
unfolding are_sound
listed schema =
    let one = and_parts (list_all (is_sound_struct schema.enums) (map draft_of schema.structs)) _ schema.sound in
    let two = and_parts (list_all is_sound_union schema.unions) _ one.1 in
    let three = and_parts (list_all is_sound_enum schema.enums) _ two.1 in
    let four = and_parts (list_all is_sound_interface schema.interfaces) _ three.1 in
    let five = and_parts (list_all has_value schema.consts) _ four.1 in
    let structs = and_parts (is_listed schema.order sorts.Struct (length (map draft_of schema.structs))) _ five.1 in
    let unions = and_parts (is_listed schema.order sorts.Union (length schema.unions)) _ structs.1 in
    let enums = and_parts (is_listed schema.order sorts.Enum (length schema.enums)) _ unions.1 in
    (and_parts (is_listed schema.order sorts.Interface (length schema.interfaces)) _ enums.1).0

in_order : (schema : Schema) (i : ℕ) → i < length schema.interfaces → IsAmong schema.order (record { sort = sorts.Interface; number = i })
in_order schema i lt =
    let numbers = counted_has 0 (length schema.interfaces) (numbers_in sorts.Interface schema.order) (listed schema) i (omega arith) lt in
    let from = of_flat (number_in sorts.Interface) schema.order i numbers in
    subst (λ (d : DefinitionRow). IsAmong schema.order d) (by_sort from.0.sort from.0.number i from.2) from.1

-- ## Stable interfaces

module _ (old new : Schema) (ok : IsCompatible old new) (interface : ℕ) (row : InterfaceRow) (found : slice_get old.interfaces interface ≡ Some row) where
  abbrev definition : DefinitionRow
  definition = record { sort = sorts.Interface; number = interface }

  named_so : name_of old sorts.Interface interface ≡ row.name
  named_so = ap (λ (o : Option InterfaceRow). option_map_or (λ (r : InterfaceRow). r.name) o []) found

  -- it is a root
  rooted : row.stable ≡ true → IsAmong (roots old new) (root_of old new definition)
  rooted stable =
      let is : is_stable old sorts.Interface interface ≡ true =
      ap (λ (o : Option InterfaceRow). option_map_or (λ (r : InterfaceRow). r.stable) o false) found ∙ stable in
      let t : DefinitionRow → Bool = λ d. is_stable old d.sort d.number in
      into_map (root_of old new) (filter t old.order) definition
      (into_filter t old.order definition is (in_order old interface (slice_get_within old.interfaces interface row found)))

  -- it is read where it has a partner, and it has one where nothing has a reason
  by_partner : (o : Option ℕ) → partner_of new sorts.Interface (name_of old sorts.Interface interface) ≡ o
      → IsAmong (roots old new) (record { definition = definition; partner = o }) → partner_reason old new definition o ≡ None
      → ReadsAll old new interface row
  by_partner None e among none = absurd cc
  by_partner (Some j) e among none = record {
    partner = j;
    named = sym (by_name new row.name) ∙ ap (partner_of new sorts.Interface) (sym named_so) ∙ e;
    reads = λ side head number ts handle_count written. read old new ok interface j number handle_count row side head ts among found written;
  }

  pub reads_all : row.stable ≡ true → ReadsAll old new interface row
  reads_all stable =
      let among = rooted stable in
      by_partner (partner_of new sorts.Interface (name_of old sorts.Interface interface)) refl among
      (none_found (root_reason old new) (roots old new) (root_of old new definition) (ok zero) among)

-- so each of them is read
pub reads_stable : (old new : Schema) → IsCompatible old new → ReadsStable old new
reads_stable old new ok interface row found stable = reads_all old new ok interface row found stable
