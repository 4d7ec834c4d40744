-- A kind fits itself, and what it names stands opposite itself.
use Rattle.std.proofs.Common.{◌≡◌, ℕ, Bool, true, false, inl, inr, length, Option, Some, None, refl, ap, subst, ◌∙◌}
use Rattle.std.specs.Prelude.{◌⊎◌, ◌==◌, ◌&&◌, nat_lt, slice_get, unwrap_or}
use Rattle.std.specs.Option.{option_map}
use Rattle.std.proofs.lemmas.Bool.{and_from, and_parts, eq-eqb}
use Rattle.std.proofs.lemmas.Option.{slice_get-map}
use Rattle.mj_schema.specs.KindTrees as kinds
use Rattle.mj_schema.specs.KindTrees.{KindTree}
use Rattle.mj_schema.specs.Sizes.{bits_of}
use Rattle.mj_schema.specs.WellFormed.{are_within}
use Rattle.mj_schema.specs.declared.rows.InterfaceRow.{InterfaceRow}
use Rattle.mj_schema.specs.declared.rows.RowSort.TheVariants.{Interface}
use Rattle.mj_schema.specs.declared.schema.Schema.{Schema}
use Rattle.compat_model.specs.declared.pair.Pair.{Pair}
use Rattle.compat_model.specs.declared.pair.Pair.TheVariants.{Structs, Unions, Enums, Interfaces}
use Rattle.compat_model.specs.steps.Among.{IsAmong}
use Rattle.compat_model.specs.Kinds.{is_kept, is_same, count_fits, sort_number, is_number, are_namesakes, kinds_fit, named_in}
use Rattle.compat_model.specs.Verdicts.{namesakes, partner_of}
use Rattle.compat_model.proofs.Lists.{either_among}
use Rattle.compat_laws.proofs.OwnNames.{own_interface}
use Rattle.compat_laws.proofs.Rows.{counts, found}

-- ## What is the same on both sides

-- a row opposite itself
abbrev pub IsOwn : Pair → Type 0
IsOwn (Structs i j) = i ≡ j
IsOwn (Unions i j) = i ≡ j
IsOwn (Enums i j) = i ≡ j
IsOwn (Interfaces i j) = i ≡ j

pub kept_same : (b : Bool) → is_kept b b ≡ true
kept_same true = refl
kept_same false = refl

pub both_same : (b : Bool) → is_same b b ≡ true
both_same true = refl
both_same false = refl

count_same : (c : Option ℕ) → count_fits c c ≡ true
count_same None = refl
count_same (Some n) = eq-eqb n n refl

either_own : (p : Pair) (A B : Type 0) → (A → IsOwn p) → (B → IsOwn p) → A ⊎ B → IsOwn p
either_own p A B f g (inl a) = f a
either_own p A B f g (inr b) = g b

-- what a kind names
pub named_own : (k : KindTree) (p : Pair) → IsAmong (named_in k k) p → IsOwn p
named_own (kinds.EnumKind i n) p (inl e) = subst IsOwn e refl
named_own (kinds.EnumKind i n) p (inr h) = absurd h
named_own (kinds.StructKind i n) p (inl e) = subst IsOwn e refl
named_own (kinds.StructKind i n) p (inr h) = absurd h
named_own (kinds.UnionKind i n) p (inl e) = subst IsOwn e refl
named_own (kinds.UnionKind i n) p (inr h) = absurd h
named_own (kinds.ArrayKind k c n) p h = named_own k p h
named_own (kinds.MapKind k v n) p h =
    either_own p (IsAmong (named_in k k) p) (IsAmong (named_in v v) p) (named_own k p) (named_own v p) (either_among (named_in k k) (named_in v v) p h)
named_own k p h = absurd h

-- ## Kinds of a schema

module _ (schema : Schema) where
  -- an interface is its own namesake
  own_namesake : (i : ℕ) → nat_lt i (length schema.interfaces) ≡ true → are_namesakes (namesakes schema schema) i i ≡ true
  own_namesake i within =
      let row = found schema.interfaces i within in
      let name_of : InterfaceRow → Option ℕ = λ r. partner_of schema Interface r.name in
      let own : partner_of schema Interface row.0.name ≡ Some i = own_interface schema i row.0 row.1 in
      let there : slice_get (namesakes schema schema) i ≡ Some (Some i) =
      slice_get-map name_of schema.interfaces i ∙ ap (option_map name_of) row.1 ∙ ap (λ (o : Option ℕ). Some o) own in
      ap (λ (o : Option (Option ℕ)). is_number (unwrap_or o None) i) there ∙ eq-eqb i i refl

  endpoint_fits : (i : ℕ) (n : Bool) → nat_lt i (length schema.interfaces) ≡ true → (is_kept n n && are_namesakes (namesakes schema schema) i i) ≡ true
  endpoint_fits i n within = and_from (is_kept n n) (are_namesakes (namesakes schema schema) i i) (kept_same n) (own_namesake i within)

  pub fits_itself : (k : KindTree) → are_within (counts schema) k ≡ true → kinds_fit (namesakes schema schema) k k ≡ true
  fits_itself (kinds.BoolKind n) h = both_same n
  fits_itself (kinds.IntKind w s n) h =
      and_from (bits_of w == bits_of w) (is_same s s && is_same n n) (eq-eqb (bits_of w) (bits_of w) refl)
      (and_from (is_same s s) (is_same n n) (both_same s) (both_same n))
  fits_itself (kinds.EnumKind i n) h = both_same n
  fits_itself (kinds.TextKind n) h = kept_same n
  fits_itself (kinds.HandleKind s n) h =
      and_from (sort_number s == sort_number s) (is_kept n n) (eq-eqb (sort_number s) (sort_number s) refl) (kept_same n)
  fits_itself (kinds.ArrayKind k c n) h =
      let fits = fits_itself k h in
      and_from (is_kept n n) (count_fits c c && kinds_fit (namesakes schema schema) k k) (kept_same n)
      (and_from (count_fits c c) (kinds_fit (namesakes schema schema) k k) (count_same c) fits)
  fits_itself (kinds.MapKind k v n) h =
      let parts = and_parts (are_within (counts schema) k) (are_within (counts schema) v) h in
      let key = fits_itself k parts.0 in
      let value = fits_itself v parts.1 in
      and_from (is_kept n n) (kinds_fit (namesakes schema schema) k k && kinds_fit (namesakes schema schema) v v) (kept_same n)
      (and_from (kinds_fit (namesakes schema schema) k k) (kinds_fit (namesakes schema schema) v v) key value)
  fits_itself (kinds.StructKind i n) h = kept_same n
  fits_itself (kinds.UnionKind i n) h = kept_same n
  fits_itself (kinds.RemoteKind i n) h = endpoint_fits i n h
  fits_itself (kinds.ReceiverKind i n) h = endpoint_fits i n h
  fits_itself (kinds.AssociatedRemoteKind i n) h = endpoint_fits i n h
  fits_itself (kinds.AssociatedReceiverKind i n) h = endpoint_fits i n h
