-- A schema reads what it writes itself.
use Rattle.std.proofs.Common.{◌≡◌, ℕ, zero, suc, true, false, inl, inr, [], length, Option, Some, None, refl, sym, ap, subst, ◌∙◌}
use Rattle.std.specs.Prelude.{◌==◌, Bool, if◌then◌else◌}
use Rattle.std.specs.List.{filter, list_any}
use Rattle.std.specs.Option.{option_map_or}
use Rattle.std.proofs.lemmas.Bool.{false_from_ne_true}
use Rattle.mj_schema.specs.WellFormed.{structs_of_methods}
use Rattle.mj_schema.specs.declared.rows.DefinitionRow.{DefinitionRow}
use Rattle.mj_schema.specs.declared.rows.EnumRow.{EnumRow}
use Rattle.mj_schema.specs.declared.rows.InterfaceRow.{InterfaceRow}
use Rattle.mj_schema.specs.declared.rows.RowSort.{RowSort}
use Rattle.mj_schema.specs.declared.rows.RowSort.TheVariants as sorts
use Rattle.mj_schema.specs.declared.rows.StructRow.{StructRow}
use Rattle.mj_schema.specs.declared.rows.UnionRow.{UnionRow}
use Rattle.mj_schema.specs.declared.schema.Schema.{Schema}
use Rattle.compat_model.specs.declared.pair.Pair.{Pair}
use Rattle.compat_model.specs.declared.reason.Change.TheVariants as changes
use Rattle.compat_model.specs.declared.reason.Reason.{Reason}
use Rattle.compat_model.specs.declared.reason.Verdict.TheVariants.{Compatible}
use Rattle.compat_model.specs.declared.root.Root.{Root}
use Rattle.compat_model.specs.steps.Among.{IsAmong}
use Rattle.compat_model.specs.Members.{first_found}
use Rattle.compat_model.specs.Pairs.{pair_reason, follows}
use Rattle.compat_model.specs.Verdicts.{is_stable, name_of, namesakes, paired, partner_of, reached, reason_at, root_of, root_pairs, root_reason, roots, Judges}
use Rattle.compat_model.proofs.Lists.{of_filter, of_flat, of_map}
use Rattle.compat_laws.specs.Read.{AreUnmarked}
use Rattle.compat_laws.proofs.OwnNames.{own_struct, own_union, own_enum, own_interface}
use Rattle.compat_laws.proofs.Rows.{stable_there}
use Rattle.compat_laws.proofs.SameKinds.{IsOwn}
use Rattle.compat_laws.proofs.SameRows.{all_quiet, no_reason, own_follows}

paired_own : (sort : RowSort) (i : ℕ) (p : Pair) → IsAmong (paired sort i i) p → IsOwn p
paired_own sorts.Struct i p (inl e) = subst IsOwn e refl
paired_own sorts.Struct i p (inr h) = absurd h
paired_own sorts.Union i p (inl e) = subst IsOwn e refl
paired_own sorts.Union i p (inr h) = absurd h
paired_own sorts.Enum i p (inl e) = subst IsOwn e refl
paired_own sorts.Enum i p (inr h) = absurd h
paired_own sorts.Interface i p (inl e) = subst IsOwn e refl
paired_own sorts.Interface i p (inr h) = absurd h
paired_own sorts.Const i p h = absurd h

module _ (schema : Schema) (unmarked : AreUnmarked schema) where
  -- a stable struct is none of a method
  plain : (i : ℕ) → is_stable schema sorts.Struct i ≡ true → list_any (λ (other : ℕ). other == i) (structs_of_methods schema.interfaces) ≡ false
  plain i stable =
      false_from_ne_true (list_any (λ (other : ℕ). other == i) (structs_of_methods schema.interfaces))
      (λ is. let no : true ≡ false = sym stable ∙ unmarked i is in absurd cc)

  -- each stable definition is its own partner
  own_partner : (sort : RowSort) (i : ℕ) → is_stable schema sort i ≡ true → partner_of schema sort (name_of schema sort i) ≡ Some i
  own_partner sorts.Struct i stable =
      let row = stable_there schema sorts.Struct i stable in
      ap (λ (o : Option StructRow). partner_of schema sorts.Struct (option_map_or (λ (r : StructRow). r.name) o [])) row.1
      ∙ own_struct schema i row.0 row.1 (plain i stable)
  own_partner sorts.Union i stable =
      let row = stable_there schema sorts.Union i stable in
      ap (λ (o : Option UnionRow). partner_of schema sorts.Union (option_map_or (λ (r : UnionRow). r.name) o [])) row.1 ∙ own_union schema i row.0 row.1
  own_partner sorts.Enum i stable =
      let row = stable_there schema sorts.Enum i stable in
      ap (λ (o : Option EnumRow). partner_of schema sorts.Enum (option_map_or (λ (r : EnumRow). r.name) o [])) row.1 ∙ own_enum schema i row.0 row.1
  own_partner sorts.Interface i stable =
      let row = stable_there schema sorts.Interface i stable in
      ap (λ (o : Option InterfaceRow). partner_of schema sorts.Interface (option_map_or (λ (r : InterfaceRow). r.name) o [])) row.1
      ∙ own_interface schema i row.0 row.1
  own_partner sorts.Const i stable = absurd cc

  -- a definition of a root, with itself as its partner
  abbrev IsOwnRoot : Root → Type 0
  IsOwnRoot root = (d : DefinitionRow) × (root ≡ record { definition = d; partner = Some d.number }) × (is_stable schema d.sort d.number ≡ true)

  own_root : (root : Root) → IsAmong (roots schema schema) root → IsOwnRoot root
  own_root root among =
      let t : DefinitionRow → Bool = λ d. is_stable schema d.sort d.number in
      let from = of_map (root_of schema schema) (filter t schema.order) root among in
      let d = from.0 in
      let stable : is_stable schema d.sort d.number ≡ true = (of_filter t schema.order d from.1).0 in
      let as_root : Option ℕ → Root = λ o. record { definition = d; partner = o } in
      (d, sym from.2 ∙ ap as_root (own_partner d.sort d.number stable), stable)

  -- so no root has a reason
  root_quiet : (root : Root) → IsOwnRoot root → root_reason schema schema root ≡ None
  root_quiet root own =
      let d = own.0 in
      let rest : first_found (pair_reason schema schema (namesakes schema schema)) (paired d.sort d.number d.number) ≡ None =
      all_quiet (pair_reason schema schema (namesakes schema schema)) (paired d.sort d.number d.number)
      (λ p h. no_reason schema p (paired_own d.sort d.number p h)) in
      let told : Bool → Option Reason = λ b.
      if b
      then first_found (pair_reason schema schema (namesakes schema schema)) (paired d.sort d.number d.number)
      else Some (record { change = changes.NotStable; name = name_of schema d.sort d.number }) in
      ap (root_reason schema schema) own.1 ∙ ap told own.2 ∙ rest

  -- and what is reached are rows opposite themselves
  own_reached : (n : ℕ) (p : Pair) → IsAmong (reached schema schema n) p → IsOwn p
  own_reached zero p h =
      let from = of_flat root_pairs (roots schema schema) p h in
      let own = own_root from.0 from.1 in
      paired_own own.0.sort own.0.number p (subst (λ (root : Root). IsAmong (root_pairs root) p) own.1 from.2)
  own_reached (suc n) p h =
      let from = of_flat (follows schema schema) (reached schema schema n) p h in
      own_follows schema from.0 p (own_reached n from.0 from.1) from.2

  none_at : (n : ℕ) → reason_at schema schema n ≡ None
  none_at zero = all_quiet (root_reason schema schema) (roots schema schema) (λ root among. root_quiet root (own_root root among))
  none_at (suc n) =
      all_quiet (pair_reason schema schema (namesakes schema schema)) (reached schema schema (suc n))
      (λ p h. no_reason schema p (own_reached (suc n) p h))

  pub same_is_compatible : Judges schema schema (Compatible (length (roots schema schema)))
  same_is_compatible = (none_at, refl)
