-- Each pair that is reached has its two rows.
use Rattle.std.proofs.Common.{◌≡◌, ℕ, zero, suc, true, cond, inl, inr, List, [], ◌∷◌, length, map, Option, Some, None, refl, sym, ap, subst, ◌∙◌}
use Rattle.std.specs.Prelude.{◌⊎◌, Bool, ◌==◌, find, nat_lt, slice_get}
use Rattle.std.specs.List.{filter, list_all}
use Rattle.std.specs.Option.{option_map, option_map_or}
use Rattle.std.proofs.lemmas.Bool.{and_parts}
use Rattle.mj_schema.specs.KindTrees as kinds
use Rattle.mj_schema.specs.KindTrees.{KindTree}
use Rattle.mj_schema.specs.Layout.{kind_of}
use Rattle.mj_schema.specs.WellFormed.{are_within, has_structs}
use Rattle.mj_schema.specs.declared.rows.DefinitionRow.{DefinitionRow}
use Rattle.mj_schema.specs.declared.rows.FieldRow.{FieldRow}
use Rattle.mj_schema.specs.declared.rows.MethodRow.{MethodRow}
use Rattle.mj_schema.specs.declared.rows.RowSort.{RowSort}
use Rattle.mj_schema.specs.declared.rows.RowSort.TheVariants as sorts
use Rattle.mj_schema.specs.declared.rows.UnionFieldRow.{UnionFieldRow}
use Rattle.mj_schema.specs.declared.schema.Schema.{Schema}
use Rattle.wire_model.specs.Rows.{kind_of_tag}
use Rattle.compat_model.specs.declared.pair.Pair.{Pair}
use Rattle.compat_model.specs.declared.pair.Pair.TheVariants.{Structs, Unions, Enums, Interfaces}
use Rattle.compat_model.specs.declared.reason.Change.TheVariants as changes
use Rattle.compat_model.specs.steps.Among.{IsAmong}
use Rattle.compat_model.specs.Kinds.{named_in}
use Rattle.compat_model.specs.Members.{first_found, method_at, ordinals_of, tags_of}
use Rattle.compat_model.specs.Pairs.{of_both, pair_reason, field_pairs, struct_pairs, tag_pairs, union_pairs, response_pair, message_pairs, method_pairs, interface_pairs, follows}
use Rattle.compat_model.specs.declared.root.Root.{Root}
use Rattle.compat_model.specs.Verdicts.{is_stable, name_of, namesakes, paired, root_of, root_pairs, roots, partner_of, partner_reason, root_reason, reached, IsCompatible}
use Rattle.compat_model.proofs.Lists.{by_test, either_among, of_flat, of_map, of_filter, found_among, none_found}
use Rattle.compat_laws.specs.steps.Reached.{Reached, BothThere}
use Rattle.compat_laws.proofs.Rows.{found, counts, struct_within, union_within, methods_within, RowThere, stable_there}

pub both_is : {A B : Type 0} (other : B) (f : A → A → B) (o n : Option A) (a b : A) → o ≡ Some a → n ≡ Some b → of_both other f o n ≡ f a b
both_is other f o n a b e g = ap (λ x. of_both other f x n) e ∙ ap (λ x. of_both other f (Some a) x) g

-- a kind of a list of fields is one of their kinds
pub kind_within : {A : Type 0} (p : KindTree → Bool) (kind : A → KindTree) (xs : List A) (x : A) → list_all p (map kind xs) ≡ true → IsAmong xs x
    → p (kind x) ≡ true
kind_within p kind [] x h g = absurd g
kind_within p kind (y ∷ ys) x h (inl e) = ap (λ z. p (kind z)) (sym e) ∙ (and_parts (p (kind y)) (list_all p (map kind ys)) h).0
kind_within p kind (y ∷ ys) x h (inr g) = kind_within p kind ys x (and_parts (p (kind y)) (list_all p (map kind ys)) h).1 g

module _ (old new : Schema) where
  abbrev There : Pair → Type 0
  There p = BothThere old new p

  abbrev IsIn : Schema → KindTree → Bool
  IsIn schema k = are_within (counts schema) k

  either : (q : Pair) (A B : Type 0) → (A → There q) → (B → There q) → A ⊎ B → There q
  either q A B f g (inl a) = f a
  either q A B f g (inr b) = g b

  -- what two kinds name is there
  named_there : (k l : KindTree) → IsIn old k ≡ true → IsIn new l ≡ true → (q : Pair) → IsAmong (named_in k l) q → There q
  named_there (kinds.EnumKind i n) (kinds.EnumKind j m) a b q (inl e) = subst There e (found old.enums i a, found new.enums j b)
  named_there (kinds.StructKind i n) (kinds.StructKind j m) a b q (inl e) = subst There e (found old.structs i a, found new.structs j b)
  named_there (kinds.UnionKind i n) (kinds.UnionKind j m) a b q (inl e) = subst There e (found old.unions i a, found new.unions j b)
  named_there (kinds.ArrayKind k c n) (kinds.ArrayKind l d m) a b q h = named_there k l a b q h
  named_there (kinds.MapKind k v n) (kinds.MapKind l u m) a b q h =
      let one = and_parts (IsIn old k) (IsIn old v) a in
      let two = and_parts (IsIn new l) (IsIn new u) b in
      either q (IsAmong (named_in k l) q) (IsAmong (named_in v u) q) (named_there k l one.0 two.0 q) (named_there v u one.1 two.1 q)
      (either_among (named_in k l) (named_in v u) q h)
  named_there (kinds.EnumKind i n) (kinds.EnumKind j m) a b q (inr h) = absurd h
  named_there (kinds.StructKind i n) (kinds.StructKind j m) a b q (inr h) = absurd h
  named_there (kinds.UnionKind i n) (kinds.UnionKind j m) a b q (inr h) = absurd h
  named_there k l a b q h = absurd h

  -- ## Structs

  other_field : (k : KindTree) (gs : List FieldRow) (o : Option FieldRow) → IsIn old k ≡ true → list_all (IsIn new) (map kind_of gs) ≡ true
      → ((g : FieldRow) → o ≡ Some g → IsAmong gs g) → (q : Pair)
      → IsAmong (of_both [] named_in (Some k) (option_map (λ (other : FieldRow). other.kind) o)) q → There q
  other_field k gs None a b among q h = absurd h
  other_field k gs (Some g) a b among q h = named_there k g.kind a (kind_within (IsIn new) kind_of gs g b (among g refl)) q h

  fields_there : (fs gs : List FieldRow) → list_all (IsIn old) (map kind_of fs) ≡ true → list_all (IsIn new) (map kind_of gs) ≡ true
      → (f : FieldRow) → IsAmong fs f → (q : Pair) → IsAmong (field_pairs gs f) q → There q
  fields_there fs gs a b f among q h =
      other_field f.kind gs (slice_get gs f.ordinal) (kind_within (IsIn old) kind_of fs f a among) b (λ g e. found_among gs f.ordinal g e) q h

  -- ## Unions

  pub tag_there : (p : KindTree → Bool) (gs : List UnionFieldRow) (tag : ℕ) (k : KindTree) → list_all p (map (λ (g : UnionFieldRow). g.kind) gs) ≡ true
      → kind_of_tag gs tag ≡ Some k → p k ≡ true
  tag_there p [] tag k h e = absurd cc
  tag_there p (f ∷ fs) tag k h e =
      let parts = and_parts (p f.kind) (list_all p (map (λ (g : UnionFieldRow). g.kind) fs)) h in
      by_test (f.tag == tag) (λ t. cond t (Some f.kind) (kind_of_tag fs tag) ≡ Some k → p k ≡ true)
      (λ _ is. let same : f.kind ≡ k = cc in subst (λ x. p x ≡ true) same parts.0) (λ _ is. tag_there p fs tag k parts.1 is) e

  held_there : (o n : Option KindTree) → ((k : KindTree) → o ≡ Some k → IsIn old k ≡ true) → ((l : KindTree) → n ≡ Some l → IsIn new l ≡ true)
      → (q : Pair) → IsAmong (of_both [] named_in o n) q → There q
  held_there None n a b q h = absurd h
  held_there (Some k) None a b q h = absurd h
  held_there (Some k) (Some l) a b q h = named_there k l (a k refl) (b l refl) q h

  tags_there : (fs gs : List UnionFieldRow) → list_all (IsIn old) (map (λ (f : UnionFieldRow). f.kind) fs) ≡ true
      → list_all (IsIn new) (map (λ (g : UnionFieldRow). g.kind) gs) ≡ true → (tag : ℕ) (q : Pair) → IsAmong (tag_pairs fs gs tag) q → There q
  tags_there fs gs a b tag q h =
      held_there (kind_of_tag fs tag) (kind_of_tag gs tag) (λ k e. tag_there (IsIn old) fs tag k a e) (λ l e. tag_there (IsIn new) gs tag l b e) q h

  -- ## Interfaces

  response_there : (a b : Option ℕ) → option_map_or (λ (n : ℕ). nat_lt n (length old.structs)) a true ≡ true
      → option_map_or (λ (n : ℕ). nat_lt n (length new.structs)) b true ≡ true → (q : Pair) → IsAmong (of_both [] response_pair a b) q → There q
  response_there (Some i) (Some j) a b q (inl e) = subst There e (found old.structs i a, found new.structs j b)
  response_there (Some i) (Some j) a b q (inr h) = absurd h
  response_there None b a' b' q h = absurd h
  response_there (Some i) None a' b' q h = absurd h

  method_there : (count : ℕ) (ms : List MethodRow) (ordinal : ℕ) (m : MethodRow) → list_all (has_structs count) ms ≡ true
      → method_at ms ordinal ≡ Some m → has_structs count m ≡ true
  method_there count [] ordinal m h e = absurd cc
  method_there count (x ∷ ms) ordinal m h e =
      let parts = and_parts (has_structs count x) (list_all (has_structs count) ms) h in
      by_test (x.ordinal == ordinal)
      (λ t. cond t (Some x) (find (λ (method : MethodRow). method.ordinal == ordinal) ms) ≡ Some m → has_structs count m ≡ true)
      (λ _ is. let same : x ≡ m = cc in subst (λ (z : MethodRow). has_structs count z ≡ true) same parts.0)
      (λ _ is. method_there count ms ordinal m parts.1 is) e

  message_there : (m n : MethodRow) → has_structs (length old.structs) m ≡ true → has_structs (length new.structs) n ≡ true → (q : Pair)
      → IsAmong (message_pairs m n) q → There q
  message_there m n a b q (inl e) =
      subst There e (
        found old.structs m.request (and_parts (nat_lt m.request (length old.structs)) _ a).0,
        found new.structs n.request (and_parts (nat_lt n.request (length new.structs)) _ b).0,
      )
  message_there m n a b q (inr h) =
      response_there m.response n.response (and_parts (nat_lt m.request (length old.structs)) _ a).1
      (and_parts (nat_lt n.request (length new.structs)) _ b).1 q h

  both_methods : (o n : Option MethodRow) → ((x : MethodRow) → o ≡ Some x → has_structs (length old.structs) x ≡ true)
      → ((y : MethodRow) → n ≡ Some y → has_structs (length new.structs) y ≡ true) → (q : Pair) → IsAmong (of_both [] message_pairs o n) q → There q
  both_methods None n a b q h = absurd h
  both_methods (Some x) None a b q h = absurd h
  both_methods (Some x) (Some y) a b q h = message_there x y (a x refl) (b y refl) q h

  methods_there : (ms ns : List MethodRow) → list_all (has_structs (length old.structs)) ms ≡ true → list_all (has_structs (length new.structs)) ns ≡ true
      → (ordinal : ℕ) (q : Pair) → IsAmong (method_pairs ms ns ordinal) q → There q
  methods_there ms ns a b ordinal q h =
      both_methods (method_at ms ordinal) (method_at ns ordinal) (λ x e. method_there (length old.structs) ms ordinal x a e)
      (λ y e. method_there (length new.structs) ns ordinal y b e) q h

  -- ## What follows

  -- what follows from a pair with rows has rows
  followed : (p q : Pair) → There p → IsAmong (follows old new p) q → There q
  followed (Structs i j) q rows h =
      let a = rows.0 in
      let b = rows.1 in
      let is = both_is [] struct_pairs (slice_get old.structs i) (slice_get new.structs j) a.0 b.0 a.1 b.1 in
      let one = of_flat (field_pairs b.0.fields) a.0.fields q (subst (λ (l : List Pair). IsAmong l q) is h) in
      fields_there a.0.fields b.0.fields (struct_within old i a.0 a.1) (struct_within new j b.0 b.1) one.0 one.1 q one.2
  followed (Unions i j) q rows h =
      let a = rows.0 in
      let b = rows.1 in
      let is = both_is [] union_pairs (slice_get old.unions i) (slice_get new.unions j) a.0 b.0 a.1 b.1 in
      let one = of_flat (tag_pairs a.0.fields b.0.fields) (tags_of a.0.fields) q (subst (λ (l : List Pair). IsAmong l q) is h) in
      tags_there a.0.fields b.0.fields (union_within old i a.0 a.1) (union_within new j b.0 b.1) one.0 q one.2
  followed (Enums i j) q rows h = absurd h
  followed (Interfaces i j) q rows h =
      let a = rows.0 in
      let b = rows.1 in
      let is = both_is [] interface_pairs (slice_get old.interfaces i) (slice_get new.interfaces j) a.0 b.0 a.1 b.1 in
      let one = of_flat (method_pairs a.0.methods b.0.methods) (ordinals_of a.0.methods) q (subst (λ (l : List Pair). IsAmong l q) is h) in
      methods_there a.0.methods b.0.methods (methods_within old i a.0 a.1) (methods_within new j b.0 b.1) one.0 q one.2

  -- ## Roots

  paired_there : (sort : RowSort) (i j : ℕ) (p : Pair) → RowThere old sort i → RowThere new sort j → IsAmong (paired sort i j) p → There p
  paired_there sorts.Struct i j p a b (inl e) = subst There e (a, b)
  paired_there sorts.Struct i j p a b (inr h) = absurd h
  paired_there sorts.Union i j p a b (inl e) = subst There e (a, b)
  paired_there sorts.Union i j p a b (inr h) = absurd h
  paired_there sorts.Enum i j p a b (inl e) = subst There e (a, b)
  paired_there sorts.Enum i j p a b (inr h) = absurd h
  paired_there sorts.Interface i j p a b (inl e) = subst There e (a, b)
  paired_there sorts.Interface i j p a b (inr h) = absurd h
  paired_there sorts.Const i j p a b h = absurd h

  root_there : (d : DefinitionRow) (o : Option ℕ) (p : Pair) → is_stable old d.sort d.number ≡ true → partner_reason old new d o ≡ None
      → IsAmong (option_map_or (paired d.sort d.number) o []) p → There p
  root_there d None p stable none g = absurd g
  root_there d (Some j) p stable none g =
      by_test (is_stable new d.sort j)
      (λ t. cond t (first_found (pair_reason old new (namesakes old new)) (paired d.sort d.number j))
      (Some (record { change = changes.NotStable; name = name_of old d.sort d.number })) ≡ None → There p)
      (λ also _. paired_there d.sort d.number j p (stable_there old d.sort d.number stable) (stable_there new d.sort j also) g)
      (λ _ some_. absurd cc) none

  first_there : (root : Root) (p : Pair) → IsAmong (roots old new) root → root_reason old new root ≡ None → IsAmong (root_pairs root) p → There p
  first_there root p among none g =
      let from = of_map (root_of old new) (filter (λ (x : DefinitionRow). is_stable old x.sort x.number) old.order) root among in
      let d = from.0 in
      let stable = (of_filter (λ (x : DefinitionRow). is_stable old x.sort x.number) old.order d from.1).0 in
      root_there d (partner_of new d.sort (name_of old d.sort d.number)) p stable
      (subst (λ (r : Root). root_reason old new r ≡ None) (sym from.2) none) (subst (λ (r : Root). IsAmong (root_pairs r) p) (sym from.2) g)

  -- each pair that is reached has rows, where nothing has a reason
  pub there : IsCompatible old new → (p : Pair) → Reached old new p → There p
  there ok p (zero, h) =
      let root = of_flat root_pairs (roots old new) p h in
      first_there root.0 p root.1 (none_found (root_reason old new) (roots old new) root.0 (ok zero) root.1) root.2
  there ok p (suc n, h) =
      let from = of_flat (follows old new) (reached old new n) p h in
      followed from.0 p (there ok from.0 (n, from.1)) from.2
