-- No list in a value is longer than the value's text.
use Rattle.std.proofs.Common.{◌≡◌, ◌≤◌, ◌+◌, ℕ, suc, Bool, true, false, List, [], ◌∷◌, ◌++◌, length, length-append, refl, sym, ap, ◌∙◌, subst, arith, Option, Some, None, map}
use Rattle.std.specs.Prelude.{◌==◌, nat_lt, if◌then◌else◌, ◌/◌, ◌%◌, decimal, unwrap_or}
use Rattle.std.specs.List.{flat_map}
use Rattle.mj_schema.specs.KindTrees as kinds
use Rattle.mj_schema.specs.KindTrees.{KindTree}
use Rattle.mj_schema.specs.declared.rows.FieldRow.{FieldRow}
use Rattle.mj_schema.specs.Parts.{flag_place}
use Rattle.mj_schema.specs.Sizes.{size_of}
use Rattle.mj_schema.specs.declared.schema.Schema.{Schema}
use Rattle.wire_model.specs.Depth.{IsOfKind, AreOfKinds}
use Rattle.wire_model.specs.Kinded.{OrNull}
use Rattle.wire_model.specs.Slots.{element_slots, field_slot}
use Rattle.wire_model.specs.Trees.{Tree, Trees, Flag, Whole, Text, Items, Pairs, Fields, Member, Unknown, Handle, Remote, Endpoint, EndpointRemote, Null, none, more, count}
use Rattle.value_text.specs.Escapes.{escaped, hex_digit}
use Rattle.value_text.specs.Spelling.{spell, first_item, next_items, first_field, next_fields, both_lists, each_text, first_pair, next_pairs, field_kinds, fields_kinds, row_kinds, held, element_of, key_of, value_of}
use Rattle.script_laws.specs.steps.Short.{IsShort, AreShort}

-- a byte takes a letter at least
letter : (b : ℕ) → 1 ≤ length (escaped b)
unfolding escaped
letter b = go (b == 34) (b == 92) (nat_lt b 32)
  where
    go : (x y z : Bool) → 1 ≤ length (if x then 92 ∷ 34 ∷ [] else
        (if y then 92 ∷ 92 ∷ [] else (if z then 92 ∷ 120 ∷ (48 + b / 16) ∷ hex_digit (b % 16) ∷ [] else b ∷ [])))
    go true y z = omega arith
    go false true z = omega arith
    go false false true = omega arith
    go false false false = omega arith

-- so a text has as many letters as bytes at least
letters : (bytes : List ℕ) → length bytes ≤ length (flat_map escaped bytes)
letters [] = omega arith
letters (b ∷ bytes) = omega (arith, letter b, letters bytes, length-append (escaped b) (flat_map escaped bytes))

-- a value in a slot
in_slot : (flag : Option ℕ) (t : Tree) (P : Type 0) (most : ℕ) → OrNull flag t P → (P → IsShort most t) → IsShort most t
in_slot None t P most h next = next h
in_slot (Some flag) Null P most h next = tt
in_slot (Some flag) (Flag b) P most h next = next h
in_slot (Some flag) (Whole n) P most h next = next h
in_slot (Some flag) (Text bs) P most h next = next h
in_slot (Some flag) (Items ts) P most h next = next h
in_slot (Some flag) (Pairs ts) P most h next = next h
in_slot (Some flag) (Fields ts) P most h next = next h
in_slot (Some flag) (Member tag t) P most h next = next h
in_slot (Some flag) (Unknown tag) P most h next = next h
in_slot (Some flag) (Handle i) P most h next = next h
in_slot (Some flag) (Remote i v) P most h next = next h
in_slot (Some flag) (Endpoint i) P most h next = next h
in_slot (Some flag) (EndpointRemote i v) P most h next = next h

-- how long texts are that stand behind a comma each
abbrev texts : List (List ℕ) → ℕ
texts [] = 0
texts (w ∷ ws) = suc (length w + texts ws)

-- those of as many keys and values stand in the text behind a comma
next_long : (ks vs : List (List ℕ)) → length ks ≡ length vs → suc (texts ks + texts vs) ≤ length (next_pairs ks vs)
next_long [] [] e = omega arith
next_long [] (v ∷ vs) e = absurd cc
next_long (k ∷ ks) [] e = absurd cc
next_long (k ∷ ks) (v ∷ vs) e =
    omega (arith, next_long ks vs cc, length-append k (58 ∷ (v ++ next_pairs ks vs)), length-append v (next_pairs ks vs))

-- and in that of a map
pairs_long : (ks vs : List (List ℕ)) → length ks ≡ length vs → texts ks + texts vs ≤ length (first_pair ks vs)
pairs_long [] [] e = omega arith
pairs_long [] (v ∷ vs) e = absurd cc
pairs_long (k ∷ ks) [] e = absurd cc
pairs_long (k ∷ ks) (v ∷ vs) e =
    omega (arith, next_long ks vs cc, length-append k (58 ∷ (v ++ next_pairs ks vs)), length-append v (next_pairs ks vs))

module _ (schema : Schema) (most : ℕ) where
  -- each value has a text
  each_count : (k : KindTree) (ts : Trees) → length (each_text schema k ts) ≡ count ts
  unfolding each_text
  each_count k none = refl
  each_count k (more t ts) = ap suc (each_count k ts)

  mutual
    unfolding spell first_item next_items each_text both_lists first_field next_fields IsOfKind AreOfKinds

    pub short : (k : KindTree) (t : Tree) → IsOfKind schema k t → length (spell schema k t) ≤ most → IsShort most t
    short k (Flag b) is few = tt
    short k (Whole n) is few = tt
    short k (Text bytes) is few = omega (arith, letters bytes, length-append (flat_map escaped bytes) (34 ∷ []), few)
    short k (Items ts) (of, n, nullable, e, fixed, all) few =
        let same : element_of k ≡ of = ap element_of e in
        let long = subst (λ (x : KindTree). suc (length (first_item schema x ts)) ≤ most) same few in
        first_short of ts all (omega (arith, long))
    short k (Pairs (more (Items ks) (more (Items vs) none))) (key, one, nullable, e, paired, all) few =
        let keys : key_of k ≡ key = ap key_of e in
        let ones : value_of k ≡ one = ap value_of e in
        let text = subst (λ (x : KindTree). suc (length (first_pair (each_text schema key ks) (each_text schema x vs))) ≤ most) ones
        (subst (λ (x : KindTree). suc (length (first_pair (each_text schema x ks) (each_text schema (value_of k) vs))) ≤ most) keys few) in
        let many : length (each_text schema key ks) ≡ length (each_text schema one vs) = each_count key ks ∙ paired ∙ sym (each_count one vs) in
        let long = pairs_long (each_text schema key ks) (each_text schema one vs) many in
        let a = all.0 in
        let b = all.1.0 in
        let inner : element_of (kinds.ArrayKind key None false) ≡ a.0 = ap element_of a.3 in
        let other : element_of (kinds.ArrayKind one None false) ≡ b.0 = ap element_of b.3 in
        let first = subst (λ (x : KindTree). AreOfKinds schema (element_slots x 0 (count ks)) ks) (sym inner) a.5 in
        let second = subst (λ (x : KindTree). AreOfKinds schema (element_slots x 0 (count vs)) vs) (sym other) b.5 in
        (each_short key ks 0 first (omega (arith, text, long)), each_short one vs 0 second (omega (arith, text, long)))
    short k (Pairs ts) is few = absurd is.4
    short k (Fields ts) (row, e, all) few =
        let same : field_kinds schema k ≡ fields_kinds row.fields = ap row_kinds e in
        let long = subst (λ (ks : List KindTree). suc (length (first_field schema ks ts)) ≤ most) same few in
        fields_short row.fields ts all (omega (arith, long))
    short k (Member tag t) (m, e, small, all) few =
        let same : held schema k tag ≡ m = ap (λ (o : Option KindTree). unwrap_or o k) e in
        let text = subst (λ (x : KindTree). suc (length (decimal tag ++ 58 ∷ (spell schema x t ++ 62 ∷ []))) ≤ most) same few in
        short m t all
        (omega (arith, text, length-append (decimal tag) (58 ∷ (spell schema m t ++ 62 ∷ [])), length-append (spell schema m t) (62 ∷ [])))
    short k (Unknown tag) is few = tt
    short k (Handle i) is few = tt
    short k (Remote i v) is few = tt
    short k (Endpoint i) is few = tt
    short k (EndpointRemote i v) is few = tt
    short k Null is few = tt

    -- elements
    first_short : (of : KindTree) (ts : Trees) → AreOfKinds schema (element_slots of 0 (count ts)) ts → length (first_item schema of ts) ≤ most
        → (count ts ≤ most) × AreShort most ts
    first_short of none all few = (omega arith, tt)
    first_short of (more t ts) all few =
        let long = length-append (spell schema of t) (next_items schema of ts) in
        let rest = next_short of ts (0 + size_of of) all.1 (omega (arith, few, long)) in
        let counted = rest.0 in
        (omega (arith, counted, long, few), (in_slot None t (IsOfKind schema of t) most all.0 (λ is. short of t is (omega (arith, few, long))), rest.1))

    next_short : (of : KindTree) (ts : Trees) (place : ℕ) → AreOfKinds schema (element_slots of place (count ts)) ts
        → length (next_items schema of ts) ≤ most → (suc (count ts) ≤ length (next_items schema of ts)) × AreShort most ts
    next_short of none place all few = (omega arith, tt)
    next_short of (more t ts) place all few =
        let long = length-append (spell schema of t) (next_items schema of ts) in
        let rest = next_short of ts (place + size_of of) all.1 (omega (arith, few, long)) in
        let counted = rest.0 in
        (omega (arith, counted, long), (in_slot None t (IsOfKind schema of t) most all.0 (λ is. short of t is (omega (arith, few, long))), rest.1))

    -- keys, or values
    each_short : (of : KindTree) (ts : Trees) (place : ℕ) → AreOfKinds schema (element_slots of place (count ts)) ts
        → texts (each_text schema of ts) ≤ most → (count ts ≤ most) × AreShort most ts
    each_short of none place all few = (omega arith, tt)
    each_short of (more t ts) place all few =
        let rest = each_short of ts (place + size_of of) all.1 (omega (arith, few)) in
        (omega (arith, few, each_many of ts), (in_slot None t (IsOfKind schema of t) most all.0 (λ is. short of t is (omega (arith, few))), rest.1))

    each_many : (of : KindTree) (ts : Trees) → count ts ≤ texts (each_text schema of ts)
    each_many of none = omega arith
    each_many of (more t ts) = omega (arith, each_many of ts)

    -- fields
    fields_short : (fs : List FieldRow) (ts : Trees) → AreOfKinds schema (map field_slot fs) ts → length (first_field schema (fields_kinds fs) ts) ≤ most
        → (count ts ≤ most) × AreShort most ts
    fields_short [] none all few = (omega arith, tt)
    fields_short [] (more t ts) all few = absurd all
    fields_short (f ∷ fs) none all few = absurd all
    fields_short (f ∷ fs) (more t ts) all few =
        let long = length-append (spell schema f.kind t) (next_fields schema (fields_kinds fs) ts) in
        let rest = more_short fs ts all.1 (omega (arith, few, long)) in
        let counted = rest.0 in (
          omega (arith, counted, long, few),
          (in_slot (flag_place f.flag) t (IsOfKind schema f.kind t) most all.0 (λ is. short f.kind t is (omega (arith, few, long))), rest.1),
        )

    more_short : (fs : List FieldRow) (ts : Trees) → AreOfKinds schema (map field_slot fs) ts → length (next_fields schema (fields_kinds fs) ts) ≤ most
        → (suc (count ts) ≤ length (next_fields schema (fields_kinds fs) ts)) × AreShort most ts
    more_short [] none all few = (omega arith, tt)
    more_short [] (more t ts) all few = absurd all
    more_short (f ∷ fs) none all few = absurd all
    more_short (f ∷ fs) (more t ts) all few =
        let long = length-append (spell schema f.kind t) (next_fields schema (fields_kinds fs) ts) in
        let rest = more_short fs ts all.1 (omega (arith, few, long)) in
        let counted = rest.0 in (
          omega (arith, counted, long),
          (in_slot (flag_place f.flag) t (IsOfKind schema f.kind t) most all.0 (λ is. short f.kind t is (omega (arith, few, long))), rest.1),
        )
