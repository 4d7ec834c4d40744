-- The pairs that are reached are closed where nothing has a reason, so that the newer schema reads what the older one writes.
use Rattle.std.proofs.Common.{◌≡◌, ℕ, suc, List, [], map, Option, Some, None, refl, sym, ap, subst, ◌∙◌}
use Rattle.std.specs.Prelude.{ℤ, IsTrue, is_some, option_and_then, slice_get}
use Rattle.std.specs.Option.{option_map, option_or}
use Rattle.std.proofs.lemmas.List.Elements.{All-get_or, All-from_recursion}
use Rattle.std.proofs.lemmas.Option.{slice_get_within, get_or_from_slice_get}
use Rattle.mj_schema.specs.KindTrees.{KindTree}
use Rattle.mj_schema.specs.Layout.{IsLaidOut}
use Rattle.mj_schema.specs.Lookups.{method_in}
use Rattle.mj_schema.specs.declared.rows.EnumRow.{EnumRow}
use Rattle.mj_schema.specs.declared.rows.FieldRow.{FieldRow}
use Rattle.mj_schema.specs.declared.rows.InterfaceRow.{InterfaceRow}
use Rattle.mj_schema.specs.declared.rows.MethodRow.{MethodRow}
use Rattle.mj_schema.specs.declared.rows.StructRow.{StructRow}
use Rattle.mj_schema.specs.declared.rows.UnionFieldRow.{UnionFieldRow}
use Rattle.mj_schema.specs.declared.rows.UnionRow.{UnionRow}
use Rattle.mj_schema.specs.declared.rows.VersionRow.{VersionRow}
use Rattle.mj_schema.specs.declared.schema.Schema.{Schema}
use Rattle.wire_model.specs.Marks.{is_known}
use Rattle.wire_model.specs.Rows.{kind_in, kind_of_tag, last_or, no_row, newest_version}
use Rattle.wire_laws.specs.Carried.{KindFits, RowFits, IsClosed}
use Rattle.wire_laws.specs.steps.Prefixes.{AreLater}
use Rattle.wire_laws.proofs.VersionRows.{newest_of, last_row}
use Rattle.wire_laws.proofs.Prefix.{row_carried}
use Rattle.compat_model.specs.declared.pair.Pair.{Pair}
use Rattle.compat_model.specs.declared.pair.Pair.TheVariants.{Structs, Unions, Enums, Interfaces}
use Rattle.compat_model.specs.declared.reason.Change.{Change}
use Rattle.compat_model.specs.declared.reason.Change.TheVariants as changes
use Rattle.compat_model.specs.steps.Among.{IsAmong}
use Rattle.compat_model.specs.Kinds.{is_kept}
use Rattle.compat_model.specs.Members.{first_found, method_at, ordinals_of, tags_of, unless}
use Rattle.compat_model.specs.Changes.{field_gone, field_changed, field_moved, field_early, struct_change, tag_gone, tag_changed, union_change, enum_change, method_gone, response_changed, interface_change}
use Rattle.compat_model.specs.Pairs.{named, struct_reason, union_reason, enum_reason, interface_reason, pair_reason, field_pairs, struct_pairs, tag_pairs, union_pairs, message_pairs, method_pairs, interface_pairs, follows}
use Rattle.compat_model.specs.Verdicts.{namesakes, reached, IsCompatible}
use Rattle.compat_model.proofs.Lists.{into_flat, both_none, none_found}
use Rattle.compat_model.proofs.Quiet.{quiet}
use Rattle.compat_laws.specs.steps.Reached.{carried, Reached, BothThere}
use Rattle.compat_laws.proofs.Numbers.{rising_has}
use Rattle.compat_laws.proofs.FittingKinds.{AllPairs}
use Rattle.compat_laws.proofs.Structs.{HasField, has_field, fields_fit, fields_later}
use Rattle.compat_laws.proofs.Members.{tag_listed, HasTag, has_tag, number_known, ordinal_listed, HasMethod, has_method}
use Rattle.compat_laws.proofs.There.{both_is}

-- no reason, no change
unnamed : (older newer : List ℕ) (o : Option Change) → option_map (named older newer) o ≡ None → o ≡ None
unnamed older newer None e = refl
unnamed older newer (Some change) e = absurd cc

pub laid_out : (schema : Schema) (i : ℕ) (row : StructRow) → slice_get schema.structs i ≡ Some row → IsLaidOut row
laid_out schema i row e =
    subst IsLaidOut (get_or_from_slice_get schema.structs i row row e)
    (All-get_or IsLaidOut schema.structs i row (slice_get_within schema.structs i row e) (All-from_recursion IsLaidOut schema.structs schema.laid_out))

module _ (old new : Schema) (ok : IsCompatible old new) (there : (p : Pair) → Reached old new p → BothThere old new p) where
  abbrev names : List (Option ℕ)
  names = namesakes old new

  abbrev R : Pair → Type 0
  R p = Reached old new p

  step : (p q : Pair) → R p → IsAmong (follows old new p) q → R q
  step p q h g = (suc h.0, into_flat (follows old new) (reached old new h.0) p q h.1 g)

  none : (p : Pair) → R p → pair_reason old new names p ≡ None
  none p h = quiet old new ok p h.0 h.1

  -- ## Structs

  structs : (i j : ℕ) (row : StructRow) → R (Structs i j) → slice_get old.structs i ≡ Some row
      → (row' : StructRow) × (slice_get new.structs j ≡ Some row') × RowFits (carried R) row row'
  structs i j row h e =
      let b = (there (Structs i j) h).1 in
      let row' = b.0 in
      let quiet_ : struct_reason names row row' ≡ None =
      sym (both_is None (struct_reason names) (slice_get old.structs i) (slice_get new.structs j) row row' e b.1) ∙ none (Structs i j) h in
      let next : follows old new (Structs i j) ≡ struct_pairs row row' =
      both_is [] struct_pairs (slice_get old.structs i) (slice_get new.structs j) row row' e b.1 in
      let gone = first_found (field_gone row'.fields) row.fields in
      let changed = first_found (field_changed names row'.fields) row.fields in
      let moved = first_found (field_moved row'.fields) row.fields in
      let early = first_found (field_early (newest_version row.versions) row.fields) row'.fields in
      let one = both_none (option_or (option_or gone changed) moved) early (unnamed row.name row'.name (struct_change names row row') quiet_) in
      let two = both_none (option_or gone changed) moved one.0 in
      let three = both_none gone changed two.0 in
      let each : (f : FieldRow) → IsAmong row.fields f → HasField R row'.fields f =
      λ f among. has_field names R row'.fields f (none_found (field_gone row'.fields) row.fields f three.0 among)
      (none_found (field_changed names row'.fields) row.fields f three.1 among) (none_found (field_moved row'.fields) row.fields f two.1 among)
      (λ p g. step (Structs i j) p h (subst (λ (l : List Pair). IsAmong l p) (sym next) (into_flat (field_pairs row'.fields) row.fields f p among g))) in
      let a = laid_out old i row e in
      let a' = laid_out new j row' b.1 in
      let newest : newest_version row.versions ≡ newest_of row.fields =
      ap (λ (rows : List VersionRow). (last_or no_row rows).version) a.versions ∙ ap (λ (r : VersionRow). r.version) (last_row row.fields) in
      let fit = fields_fit R row.fields [] row'.fields 0 refl a.numbered each in
      let later = fields_later (newest_version row.versions) row'.fields [] row.fields 0 refl a'.numbered
      (λ g among. none_found (field_early (newest_version row.versions) row.fields) row'.fields g one.1 among) in
      (row', b.1, row_carried (carried R) row row' a a' fit (subst (λ (n : ℕ). AreLater n row.fields row'.fields) newest later))

  -- ## Unions

  unions : (i j tag : ℕ) (k : KindTree) → R (Unions i j) → kind_in (slice_get old.unions i) tag ≡ Some k
      → (k' : KindTree) × (kind_in (slice_get new.unions j) tag ≡ Some k') × KindFits (carried R) k k'
  unions i j tag k h e =
      let a = (there (Unions i j) h).0 in
      let b = (there (Unions i j) h).1 in
      let quiet_ : union_reason names a.0 b.0 ≡ None =
      sym (both_is None (union_reason names) (slice_get old.unions i) (slice_get new.unions j) a.0 b.0 a.1 b.1) ∙ none (Unions i j) h in
      let next : follows old new (Unions i j) ≡ union_pairs a.0 b.0 =
      both_is [] union_pairs (slice_get old.unions i) (slice_get new.unions j) a.0 b.0 a.1 b.1 in
      let open_ = unless (is_kept a.0.extensible b.0.extensible) changes.ExtensibleGone in
      let gone = first_found (tag_gone b.0.fields) (tags_of a.0.fields) in
      let changed = first_found (tag_changed names a.0.fields b.0.fields) (tags_of a.0.fields) in
      let one = both_none (option_or open_ gone) changed (unnamed a.0.name b.0.name (union_change names a.0 b.0) quiet_) in
      let two = both_none open_ gone one.0 in
      let held : kind_of_tag a.0.fields tag ≡ Some k = sym (ap (λ (o : Option UnionRow). kind_in o tag) a.1) ∙ e in
      let among : IsAmong (tags_of a.0.fields) tag =
      rising_has (map (λ (field : UnionFieldRow). field.tag) a.0.fields) tag (tag_listed a.0.fields tag k held) in
      let has : HasTag R b.0.fields tag k = has_tag names R a.0.fields b.0.fields tag k held
      (none_found (tag_gone b.0.fields) (tags_of a.0.fields) tag two.1 among)
      (none_found (tag_changed names a.0.fields b.0.fields) (tags_of a.0.fields) tag one.1 among)
      (λ p g. step (Unions i j) p h
      (subst (λ (l : List Pair). IsAmong l p) (sym next) (into_flat (tag_pairs a.0.fields b.0.fields) (tags_of a.0.fields) tag p among g))) in
      (has.other, ap (λ (o : Option UnionRow). kind_in o tag) b.1 ∙ has.there, has.kind)

  -- ## Enums

  enums : (i j : ℕ) (n : ℤ) → R (Enums i j) → IsTrue (is_known (slice_get old.enums i) n) → IsTrue (is_known (slice_get new.enums j) n)
  enums i j n h e =
      let a = (there (Enums i j) h).0 in
      let b = (there (Enums i j) h).1 in
      let quiet_ : enum_reason a.0 b.0 ≡ None =
      sym (both_is None enum_reason (slice_get old.enums i) (slice_get new.enums j) a.0 b.0 a.1 b.1) ∙ none (Enums i j) h in
      ap (λ (o : Option EnumRow). is_known o n) b.1
      ∙ number_known a.0 b.0 (unnamed a.0.name b.0.name (enum_change a.0 b.0) quiet_) n (sym (ap (λ (o : Option EnumRow). is_known o n) a.1) ∙ e)

  pub closed : IsClosed old new (carried R)
  closed = record { structs = structs; unions = unions; enums = enums }

  -- ## Interfaces

  -- a method of an interface of a pair has its counterpart, and their structs are pairs
  pub methods : (i j : ℕ) (a : InterfaceRow) (ordinal : ℕ) (m : MethodRow) → R (Interfaces i j) → slice_get old.interfaces i ≡ Some a
      → method_in old.interfaces i ordinal ≡ Some m
      → (n : MethodRow) × (method_in new.interfaces j ordinal ≡ Some n) × (is_some m.response ≡ is_some n.response) × AllPairs R (message_pairs m n)
  methods i j a ordinal m h e found =
      let b = (there (Interfaces i j) h).1 in
      let quiet_ : interface_reason a b.0 ≡ None =
      sym (both_is None interface_reason (slice_get old.interfaces i) (slice_get new.interfaces j) a b.0 e b.1) ∙ none (Interfaces i j) h in
      let next : follows old new (Interfaces i j) ≡ interface_pairs a b.0 =
      both_is [] interface_pairs (slice_get old.interfaces i) (slice_get new.interfaces j) a b.0 e b.1 in
      let gone = first_found (method_gone b.0.methods) (ordinals_of a.methods) in
      let changed = first_found (response_changed a.methods b.0.methods) (ordinals_of a.methods) in
      let one = both_none gone changed (unnamed a.name b.0.name (interface_change a b.0) quiet_) in
      let here : method_at a.methods ordinal ≡ Some m =
      sym (ap (λ (o : Option InterfaceRow). option_and_then (λ (row : InterfaceRow). method_at row.methods ordinal) o) e) ∙ found in
      let among : IsAmong (ordinals_of a.methods) ordinal =
      rising_has (map (λ (method : MethodRow). method.ordinal) a.methods) ordinal (ordinal_listed a.methods ordinal m here) in
      let has : HasMethod R b.0.methods ordinal m = has_method R a.methods b.0.methods ordinal m here
      (none_found (method_gone b.0.methods) (ordinals_of a.methods) ordinal one.0 among)
      (none_found (response_changed a.methods b.0.methods) (ordinals_of a.methods) ordinal one.1 among)
      (λ p g. step (Interfaces i j) p h
      (subst (λ (l : List Pair). IsAmong l p) (sym next) (into_flat (method_pairs a.methods b.0.methods) (ordinals_of a.methods) ordinal p among g))) in (
        has.other,
        ap (λ (o : Option InterfaceRow). option_and_then (λ (row : InterfaceRow). method_at row.methods ordinal) o) b.1 ∙ has.there,
        has.response,
        has.pairs,
      )
