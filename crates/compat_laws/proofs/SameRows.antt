-- No row changes beside itself, and what follows from it beside itself are rows beside themselves.
use Rattle.std.proofs.Common.{◌≡◌, ℕ, ◌+◌, Bool, true, inl, inr, List, [], ◌∷◌, ◌++◌, length, append_assoc, map, Option, Some, None, refl, ap, subst, ◌∙◌}
use Rattle.std.specs.Prelude.{ℤ, ◌==◌, find, is_some, if◌then◌else◌, nat_lt, option_and_then, slice_get}
use Rattle.std.specs.List.{list_all, list_any}
use Rattle.std.specs.Option.{option_map, option_or}
use Rattle.std.specs.Ordering.{int_eq}
use Rattle.std.proofs.lemmas.Bool.{and_parts, eq-eqb, eqb-true, or_left, or_right}
use Rattle.std.proofs.lemmas.Bool.Decides.{Decides-int_eq}
use Rattle.mj_schema.specs.KindTrees.{KindTree}
use Rattle.mj_schema.specs.Layout.{IsLaidOut, are_numbered, kind_of}
use Rattle.mj_schema.specs.WellFormed.{are_within}
use Rattle.mj_schema.specs.declared.rows.EnumRow.{EnumRow}
use Rattle.mj_schema.specs.declared.rows.FieldRow.{FieldRow}
use Rattle.mj_schema.specs.declared.rows.InterfaceRow.{InterfaceRow}
use Rattle.mj_schema.specs.declared.rows.MemberRow.{MemberRow}
use Rattle.mj_schema.specs.declared.rows.MethodRow.{MethodRow}
use Rattle.mj_schema.specs.declared.rows.StructRow.{StructRow}
use Rattle.mj_schema.specs.declared.rows.UnionFieldRow.{UnionFieldRow}
use Rattle.mj_schema.specs.declared.rows.UnionRow.{UnionRow}
use Rattle.mj_schema.specs.declared.schema.Schema.{Schema}
use Rattle.wire_model.specs.Rows.{kind_of_tag, newest_version}
use Rattle.compat_model.specs.declared.pair.Pair.{Pair}
use Rattle.compat_model.specs.declared.pair.Pair.TheVariants.{Structs, Unions, Enums, Interfaces}
use Rattle.compat_model.specs.declared.reason.Change.{Change}
use Rattle.compat_model.specs.declared.reason.Change.TheVariants as changes
use Rattle.compat_model.specs.steps.Among.{IsAmong}
use Rattle.compat_model.specs.Kinds.{is_kept, kinds_fit, named_in}
use Rattle.compat_model.specs.Members.{first_found, method_at, numbers_of, ordinals_of, tags_of, unless}
use Rattle.compat_model.specs.Changes.{field_gone, field_changed, field_moved, field_early, tag_gone, held_changed, tag_changed, member_gone, method_gone, reply_changed, response_changed}
use Rattle.compat_model.specs.Pairs.{of_both, named, struct_reason, union_reason, enum_reason, interface_reason, pair_reason, field_pairs, struct_pairs, tag_pairs, union_pairs, response_pair, message_pairs, method_pairs, interface_pairs, follows}
use Rattle.compat_model.specs.Verdicts.{namesakes}
use Rattle.compat_model.proofs.Lists.{by_test, of_flat}
use Rattle.compat_laws.proofs.Closed.{laid_out}
use Rattle.compat_laws.proofs.Numbers.{rising_from, rising_signed_from}
use Rattle.compat_laws.proofs.Rows.{counts, struct_within, union_within}
use Rattle.compat_laws.proofs.SameKinds.{IsOwn, kept_same, both_same, named_own, fits_itself}
use Rattle.compat_laws.proofs.Structs.{at_back, longer}
use Rattle.compat_laws.proofs.There.{kind_within, tag_there}

-- ## What is found of none

none_or : {B : Type 0} (a b : Option B) → a ≡ None → b ≡ None → option_or a b ≡ None
none_or {B} a b e f = ap (λ (o : Option B). option_or o b) e ∙ f

pub all_quiet : {A B : Type 0} (look : A → Option B) (xs : List A) → ((x : A) → IsAmong xs x → look x ≡ None) → first_found look xs ≡ None
all_quiet look [] each = refl
all_quiet look (x ∷ xs) each = none_or (look x) (first_found look xs) (each x (inl refl)) (all_quiet look xs (λ y h. each y (inr h)))

holds_so : (b : Bool) (change : Change) → b ≡ true → unless b change ≡ None
holds_so b change e = ap (λ (t : Bool). unless t change) e

-- ## Members by their numbers

-- the fields from one on, where so many stand before them
numbered : (fs front : List FieldRow) (k : ℕ) (f : FieldRow) → k ≡ length front → are_numbered k fs ≡ true → IsAmong fs f
    → slice_get (front ++ fs) f.ordinal ≡ Some f
numbered [] front k f e n h = absurd h
numbered (g ∷ fs) front k f e n (inl same) =
    let parts = and_parts (g.ordinal == k) (are_numbered (k + 1) fs) n in
    let place : g.ordinal ≡ length front = eqb-true g.ordinal k parts.0 ∙ e in
    subst (λ (x : FieldRow). slice_get (front ++ (g ∷ fs)) x.ordinal ≡ Some x) same (ap (slice_get (front ++ (g ∷ fs))) place ∙ at_back front g fs)
numbered (g ∷ fs) front k f e n (inr h) =
    let parts = and_parts (g.ordinal == k) (are_numbered (k + 1) fs) n in
    let moved : (front ++ (g ∷ [])) ++ fs ≡ front ++ (g ∷ fs) = append_assoc front (g ∷ []) fs in
    subst (λ (l : List FieldRow). slice_get l f.ordinal ≡ Some f) moved (numbered fs (front ++ (g ∷ [])) (k + 1) f (longer front g k e) parts.1 h)

tag_found : (fs : List UnionFieldRow) (tag : ℕ) → IsAmong (map (λ (field : UnionFieldRow). field.tag) fs) tag
    → (k : KindTree) × (kind_of_tag fs tag ≡ Some k)
tag_found [] tag h = absurd h
tag_found (f ∷ fs) tag (inl e) = (f.kind, ap (λ (b : Bool). if b then Some f.kind else kind_of_tag fs tag) (eq-eqb f.tag tag e))
tag_found (f ∷ fs) tag (inr h) =
    by_test (f.tag == tag) (λ b. (k : KindTree) × ((if b then Some f.kind else kind_of_tag fs tag) ≡ Some k)) (λ _. (f.kind, refl))
    (λ _. tag_found fs tag h)

number_found : (ms : List MemberRow) (n : ℤ) → IsAmong (map (λ (member : MemberRow). member.number) ms) n
    → list_any (λ (member : MemberRow). int_eq member.number n) ms ≡ true
number_found [] n h = absurd h
number_found (m ∷ ms) n (inl e) =
    or_left (int_eq m.number n) (list_any (λ (member : MemberRow). int_eq member.number n) ms) ((Decides-int_eq m.number n).1 e)
number_found (m ∷ ms) n (inr h) =
    or_right (int_eq m.number n) (list_any (λ (member : MemberRow). int_eq member.number n) ms) (number_found ms n h)

method_found : (ms : List MethodRow) (ordinal : ℕ) → IsAmong (map (λ (method : MethodRow). method.ordinal) ms) ordinal
    → (m : MethodRow) × (method_at ms ordinal ≡ Some m)
method_found [] ordinal h = absurd h
method_found (m ∷ ms) ordinal (inl e) =
    (m, ap (λ (b : Bool). if b then Some m else find (λ (method : MethodRow). method.ordinal == ordinal) ms) (eq-eqb m.ordinal ordinal e))
method_found (m ∷ ms) ordinal (inr h) =
    by_test (m.ordinal == ordinal)
    (λ b. (x : MethodRow) × ((if b then Some m else find (λ (method : MethodRow). method.ordinal == ordinal) ms) ≡ Some x)) (λ _. (m, refl))
    (λ _. method_found ms ordinal h)

module _ (schema : Schema) where
  abbrev names : List (Option ℕ)
  names = namesakes schema schema

  abbrev IsIn : KindTree → Bool
  IsIn k = are_within (counts schema) k

  -- ## No change

  struct_quiet : (row : StructRow) → IsLaidOut row → list_all IsIn (map kind_of row.fields) ≡ true → struct_reason names row row ≡ None
  struct_quiet row laid within =
      let fs = row.fields in
      let newest = newest_version row.versions in
      let at : (f : FieldRow) → IsAmong fs f → slice_get fs f.ordinal ≡ Some f = λ f h. numbered fs [] 0 f refl laid.numbered h in
      let gone : first_found (field_gone fs) fs ≡ None =
      all_quiet (field_gone fs) fs (λ f h. ap (λ (o : Option FieldRow). unless (is_some o) (changes.FieldGone f.ordinal)) (at f h)) in
      let changed : first_found (field_changed names fs) fs ≡ None =
      all_quiet (field_changed names fs) fs
      (λ f h. ap (option_and_then (λ (other : FieldRow). unless (kinds_fit names f.kind other.kind) (changes.KindChanged f.ordinal))) (at f h)
      ∙ holds_so (kinds_fit names f.kind f.kind) (changes.KindChanged f.ordinal) (fits_itself schema f.kind (kind_within IsIn kind_of fs f within h))) in
      let moved : first_found (field_moved fs) fs ≡ None =
      all_quiet (field_moved fs) fs
      (λ f h. ap (option_and_then (λ (other : FieldRow). unless (other.min_version == f.min_version) (changes.VersionChanged f.ordinal))) (at f h)
      ∙ holds_so (f.min_version == f.min_version) (changes.VersionChanged f.ordinal) (eq-eqb f.min_version f.min_version refl)) in
      let unless_there : FieldRow → Option FieldRow → Option Change =
      λ f o. if is_some o then None else unless (nat_lt newest f.min_version) (changes.EarlyField f.ordinal) in
      let early : first_found (field_early newest fs) fs ≡ None =
      all_quiet (field_early newest fs) fs
      (λ f h. ap (unless_there f) (at f h)) in
      let one = none_or (first_found (field_gone fs) fs) (first_found (field_changed names fs) fs) gone changed in
      let two = none_or (option_or (first_found (field_gone fs) fs) (first_found (field_changed names fs) fs)) (first_found (field_moved fs) fs) one moved in
      let three = none_or (option_or (option_or (first_found (field_gone fs) fs) (first_found (field_changed names fs) fs)) (first_found (field_moved fs) fs))
      (first_found (field_early newest fs) fs) two early in
      ap (option_map (named row.name row.name)) three

  union_quiet : (row : UnionRow) → list_all IsIn (map (λ (f : UnionFieldRow). f.kind) row.fields) ≡ true → union_reason names row row ≡ None
  union_quiet row within =
      let fs = row.fields in
      let tags = map (λ (field : UnionFieldRow). field.tag) fs in
      let open_ = holds_so (is_kept row.extensible row.extensible) changes.ExtensibleGone (kept_same row.extensible) in
      let gone : first_found (tag_gone fs) (tags_of fs) ≡ None =
      all_quiet (tag_gone fs) (tags_of fs)
      (λ tag h. ap (λ (o : Option KindTree). unless (is_some o) (changes.TagGone tag)) (tag_found fs tag (rising_from tags tag h)).1) in
      let changed : first_found (tag_changed names fs fs) (tags_of fs) ≡ None =
      all_quiet (tag_changed names fs fs) (tags_of fs)
      (λ tag h.
      let k = tag_found fs tag (rising_from tags tag h) in
      ap (λ (o : Option KindTree). held_changed names tag o o) k.1
      ∙ holds_so (kinds_fit names k.0 k.0) (changes.KindChanged tag) (fits_itself schema k.0 (tag_there schema schema IsIn fs tag k.0 within k.1))) in
      let one = none_or (unless (is_kept row.extensible row.extensible) changes.ExtensibleGone) (first_found (tag_gone fs) (tags_of fs)) open_ gone in
      let two = none_or (option_or (unless (is_kept row.extensible row.extensible) changes.ExtensibleGone) (first_found (tag_gone fs) (tags_of fs)))
      (first_found (tag_changed names fs fs) (tags_of fs)) one changed in
      ap (option_map (named row.name row.name)) two

  enum_quiet : (row : EnumRow) → enum_reason row row ≡ None
  enum_quiet row =
      let ms = row.members in
      let numbers = map (λ (member : MemberRow). member.number) ms in
      let open_ = holds_so (is_kept row.extensible row.extensible) changes.ExtensibleGone (kept_same row.extensible) in
      let gone : first_found (member_gone row) (numbers_of ms) ≡ None =
      all_quiet (member_gone row) (numbers_of ms)
      (λ n h. ap (λ (b : Bool). unless b (changes.MemberGone n)) (or_right row.extensible (list_any (λ (member : MemberRow). int_eq member.number n) ms)
      (number_found ms n (rising_signed_from numbers n h)))) in
      ap (option_map (named row.name row.name))
      (none_or (unless (is_kept row.extensible row.extensible) changes.ExtensibleGone) (first_found (member_gone row) (numbers_of ms)) open_ gone)

  interface_quiet : (row : InterfaceRow) → interface_reason row row ≡ None
  interface_quiet row =
      let ms = row.methods in
      let ordinals = map (λ (method : MethodRow). method.ordinal) ms in
      let gone : first_found (method_gone ms) (ordinals_of ms) ≡ None =
      all_quiet (method_gone ms) (ordinals_of ms)
      (λ n h. ap (λ (o : Option MethodRow). unless (is_some o) (changes.MethodGone n)) (method_found ms n (rising_from ordinals n h)).1) in
      let changed : first_found (response_changed ms ms) (ordinals_of ms) ≡ None =
      all_quiet (response_changed ms ms) (ordinals_of ms)
      (λ n h.
      let m = method_found ms n (rising_from ordinals n h) in
      ap (λ (o : Option MethodRow). reply_changed n o o) m.1
      ∙ ap (λ (b : Bool). unless b (changes.ResponseChanged n)) (both_same (is_some m.0.response))) in
      ap (option_map (named row.name row.name))
      (none_or (first_found (method_gone ms) (ordinals_of ms)) (first_found (response_changed ms ms) (ordinals_of ms)) gone changed)

  -- ## No reason

  struct_alone : (i : ℕ) (o : Option StructRow) → slice_get schema.structs i ≡ o → of_both None (struct_reason names) o o ≡ None
  struct_alone i None e = refl
  struct_alone i (Some row) e = struct_quiet row (laid_out schema i row e) (struct_within schema i row e)

  union_alone : (i : ℕ) (o : Option UnionRow) → slice_get schema.unions i ≡ o → of_both None (union_reason names) o o ≡ None
  union_alone i None e = refl
  union_alone i (Some row) e = union_quiet row (union_within schema i row e)

  enum_alone : (o : Option EnumRow) → of_both None enum_reason o o ≡ None
  enum_alone None = refl
  enum_alone (Some row) = enum_quiet row

  interface_alone : (o : Option InterfaceRow) → of_both None interface_reason o o ≡ None
  interface_alone None = refl
  interface_alone (Some row) = interface_quiet row

  pub no_reason : (p : Pair) → IsOwn p → pair_reason schema schema names p ≡ None
  no_reason (Structs i j) e =
      subst (λ (n : ℕ). of_both None (struct_reason names) (slice_get schema.structs i) (slice_get schema.structs n) ≡ None) e
      (struct_alone i (slice_get schema.structs i) refl)
  no_reason (Unions i j) e =
      subst (λ (n : ℕ). of_both None (union_reason names) (slice_get schema.unions i) (slice_get schema.unions n) ≡ None) e
      (union_alone i (slice_get schema.unions i) refl)
  no_reason (Enums i j) e =
      subst (λ (n : ℕ). of_both None enum_reason (slice_get schema.enums i) (slice_get schema.enums n) ≡ None) e (enum_alone (slice_get schema.enums i))
  no_reason (Interfaces i j) e =
      subst (λ (n : ℕ). of_both None interface_reason (slice_get schema.interfaces i) (slice_get schema.interfaces n) ≡ None) e
      (interface_alone (slice_get schema.interfaces i))

  -- ## What follows

  held_own : (o : Option KindTree) (q : Pair) → IsAmong (of_both [] named_in o o) q → IsOwn q
  held_own None q h = absurd h
  held_own (Some k) q h = named_own k q h

  struct_follows : (i : ℕ) (o : Option StructRow) → slice_get schema.structs i ≡ o → (q : Pair) → IsAmong (of_both [] struct_pairs o o) q → IsOwn q
  struct_follows i None e q h = absurd h
  struct_follows i (Some row) e q h =
      let one = of_flat (field_pairs row.fields) row.fields q h in
      let at : slice_get row.fields one.0.ordinal ≡ Some one.0 = numbered row.fields [] 0 one.0 refl (laid_out schema i row e).numbered one.1 in
      held_own (Some one.0.kind) q (subst (λ (o : Option FieldRow).
      IsAmong (of_both [] named_in (Some one.0.kind) (option_map (λ (other : FieldRow). other.kind) o)) q) at one.2)

  union_follows : (o : Option UnionRow) (q : Pair) → IsAmong (of_both [] union_pairs o o) q → IsOwn q
  union_follows None q h = absurd h
  union_follows (Some row) q h =
      let one = of_flat (tag_pairs row.fields row.fields) (tags_of row.fields) q h in held_own (kind_of_tag row.fields one.0) q one.2

  response_own : (o : Option ℕ) (q : Pair) → IsAmong (of_both [] response_pair o o) q → IsOwn q
  response_own None q h = absurd h
  response_own (Some i) q (inl e) = subst IsOwn e refl
  response_own (Some i) q (inr h) = absurd h

  method_own : (o : Option MethodRow) (q : Pair) → IsAmong (of_both [] message_pairs o o) q → IsOwn q
  method_own None q h = absurd h
  method_own (Some m) q (inl e) = subst IsOwn e refl
  method_own (Some m) q (inr h) = response_own m.response q h

  interface_follows : (o : Option InterfaceRow) (q : Pair) → IsAmong (of_both [] interface_pairs o o) q → IsOwn q
  interface_follows None q h = absurd h
  interface_follows (Some row) q h =
      let one = of_flat (method_pairs row.methods row.methods) (ordinals_of row.methods) q h in method_own (method_at row.methods one.0) q one.2

  pub own_follows : (p q : Pair) → IsOwn p → IsAmong (follows schema schema p) q → IsOwn q
  own_follows (Structs i j) q e =
      subst (λ (n : ℕ). IsAmong (of_both [] struct_pairs (slice_get schema.structs i) (slice_get schema.structs n)) q → IsOwn q) e
      (struct_follows i (slice_get schema.structs i) refl q)
  own_follows (Unions i j) q e =
      subst (λ (n : ℕ). IsAmong (of_both [] union_pairs (slice_get schema.unions i) (slice_get schema.unions n)) q → IsOwn q) e
      (union_follows (slice_get schema.unions i) q)
  own_follows (Enums i j) q e = λ h. absurd h
  own_follows (Interfaces i j) q e =
      subst (λ (n : ℕ). IsAmong (of_both [] interface_pairs (slice_get schema.interfaces i) (slice_get schema.interfaces n)) q → IsOwn q) e
      (interface_follows (slice_get schema.interfaces i) q)
