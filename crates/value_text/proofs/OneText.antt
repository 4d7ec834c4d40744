-- A value has one text of a kind.
use Rattle.std.proofs.Common.{◌≡◌, ℕ, ℤ, zero, suc, List, [], ◌∷◌, ◌++◌, Option, Some, None, Bool, true, false, ◌==◌, ◌⊎◌, inl, inr, refl, sym, ap, ◌∙◌}
use Rattle.std.proofs.Common.{subst, append_assoc}
use Rattle.std.specs.Prelude.{decimal, codes, slice_get, unwrap_or, is_some, ◌||◌}
use Rattle.std.specs.Fmt.{signed_decimal}
use Rattle.std.proofs.lemmas.List.{append-nil}
use Rattle.mj_schema.specs.KindTrees as kinds
use Rattle.mj_schema.specs.KindTrees.{KindTree}
use Rattle.mj_schema.specs.Parts.{has_flag}
use Rattle.mj_schema.specs.declared.rows.FieldRow.{FieldRow}
use Rattle.mj_schema.specs.declared.rows.StructRow.{StructRow}
use Rattle.mj_schema.specs.declared.rows.UnionRow.{UnionRow}
use Rattle.mj_schema.specs.declared.schema.Schema.{Schema}
use Rattle.wire_model.specs.Kinded.{is_nullable}
use Rattle.wire_model.specs.Rows.{kind_of_tag, kind_in}
use Rattle.wire_model.specs.Trees.{Tree, trees}
use Rattle.wire_model.specs.Trees as values
use Rattle.byte_rules.specs.Lang.{Lang, as_value, choice, never, closed, ◌then◌, ◌▸◌, listed, exactly}
use Rattle.byte_rules.specs.Judged.{Spells}
use Rattle.byte_rules.proofs.Parts.{Parts, AllOf, parts_value, parts_then, parts_choice, parts_wider, parts_never, parts_closed, parts_before, parts_listed}
use Rattle.byte_rules.proofs.Parts.{parts_exactly}
use Rattle.value_text.specs.Escapes.{quoted}
use Rattle.value_text.specs.Numbers.{index, whole, number_of, tag_of, fields_tags}
use Rattle.value_text.specs.Characters.{text}
use Rattle.value_text.specs.Rules.{letters, boolean, null_word, opened, fields_after, fields, items_of, fields_of, elements, array, structure}
use Rattle.value_text.specs.Rules.{pair, keys_of, values_of, pairs_of, member, union, base, or_null, slot_value, value}
use Rattle.value_text.specs.Spelling.{flag_text, fields_kinds, row_kinds, next_pairs, first_pair, spell, first_item, next_items, both_lists, each_text}
use Rattle.value_text.specs.Spelling.{first_field, next_fields}
use Rattle.value_text.proofs.TextParts.{index_parts, whole_parts, number_of_parts, tag_parts, text_parts}

-- exactly these letters
letters_parts : (cs : List ℕ) (x : Tree) → Parts (λ y w. (y ≡ x) × (w ≡ cs)) (letters cs x)
letters_parts [] x = parts_never (λ y w. (y ≡ x) × (w ≡ [])) x
letters_parts (c ∷ []) x = parts_closed c x
letters_parts (c ∷ d ∷ ds) x =
    parts_wider (λ y w. (v : List ℕ) × ((y ≡ x) × (v ≡ d ∷ ds)) × (w ≡ c ∷ v)) (λ y w. (y ≡ x) × (w ≡ c ∷ d ∷ ds)) (c ▸ letters (d ∷ ds) x)
    (λ y w k. (k.1.0, k.2 ∙ ap (λ (l : List ℕ). c ∷ l) k.1.1))
    (parts_before (λ y w. (y ≡ x) × (w ≡ d ∷ ds)) c (letters (d ∷ ds) x) (letters_parts (d ∷ ds) x))

-- one of a list behind a comma
abbrev Behind : (Tree → List ℕ → Type 0) → Tree → List ℕ → Type 0
Behind R y w = (v : List ℕ) × R y v × (w ≡ 44 ∷ v)

module _ (schema : Schema) where
  abbrev Is : KindTree → Tree → List ℕ → Type 0
  Is k t w = w ≡ spell schema k t

  is_flag : (k : KindTree) (b : Bool) (y : Tree) (w : List ℕ) → (y ≡ values.Flag b) × (w ≡ flag_text b) → Is k y w
  unfolding spell
  is_flag k b y w h = h.1 ∙ ap (spell schema k) (sym h.0)

  flag_parts : (k : KindTree) → Parts (Is k) boolean
  unfolding boolean
  flag_parts k =
      parts_wider (λ y w. ((y ≡ values.Flag true) × (w ≡ codes "true")) ⊎ ((y ≡ values.Flag false) × (w ≡ codes "false"))) (Is k)
      (choice (λ b. b == 116) (letters (codes "true") (values.Flag true)) (letters (codes "false") (values.Flag false))) of
      (parts_choice (λ y w. (y ≡ values.Flag true) × (w ≡ codes "true")) (λ y w. (y ≡ values.Flag false) × (w ≡ codes "false")) (λ b. b == 116)
      (letters (codes "true") (values.Flag true)) (letters (codes "false") (values.Flag false)) (letters_parts (codes "true") (values.Flag true))
      (letters_parts (codes "false") (values.Flag false)))
    where
      of : (y : Tree) (w : List ℕ) → ((y ≡ values.Flag true) × (w ≡ codes "true")) ⊎ ((y ≡ values.Flag false) × (w ≡ codes "false")) → Is k y w
      of y w (inl h) = is_flag k true y w h
      of y w (inr h) = is_flag k false y w h

  null_parts : (k : KindTree) → Parts (Is k) null_word
  unfolding null_word spell
  null_parts k =
      parts_wider (λ y w. (y ≡ values.Null) × (w ≡ codes "null")) (Is k) (letters (codes "null") values.Null)
      (λ y w h. h.1 ∙ ap (spell schema k) (sym h.0)) (letters_parts (codes "null") values.Null)

  -- a value made of what was read
  made : {A : Type 0} (k : KindTree) (R : A → List ℕ → Type 0) (g : A → Tree) (one : Lang A) → ((x : A) (w : List ℕ) → R x w → Is k (g x) w) → Parts R one
      → Parts (Is k) (as_value g one)
  made {A} k R g one f o =
      parts_wider (λ y w. (x : A) × R x w × (g x ≡ y)) (Is k) (as_value g one) (λ y w h. subst (λ (t : Tree). Is k t w) h.2 (f h.0 w h.1))
      (parts_value R g one o)

  whole_made : (k : KindTree) (one : Lang ℤ) → Parts (λ z w. w ≡ signed_decimal z) one → Parts (Is k) (as_value values.Whole one)
  unfolding spell
  whole_made k one o = made k (λ z w. w ≡ signed_decimal z) values.Whole one (λ z w h. h) o

  text_made : (k : KindTree) → Parts (Is k) (as_value values.Text text)
  unfolding spell
  text_made k = made k (λ bs w. w ≡ quoted bs) values.Text text (λ bs w h. h) text_parts

  -- an index, and one with a version
  one_made : (c : ℕ) (g : ℕ → Tree) (k : KindTree) → ((i : ℕ) → spell schema k (g i) ≡ c ∷ decimal i) → Parts (Is k) (c ▸ as_value g index)
  one_made c g k f =
      parts_wider (λ y w. (v : List ℕ) × ((i : ℕ) × (v ≡ decimal i) × (g i ≡ y)) × (w ≡ c ∷ v)) (Is k) (c ▸ as_value g index)
      (λ y w h. h.2 ∙ ap (λ (l : List ℕ). c ∷ l) h.1.1 ∙ sym (f h.1.0) ∙ ap (spell schema k) h.1.2)
      (parts_before (λ y v. (i : ℕ) × (v ≡ decimal i) × (g i ≡ y)) c (as_value g index) (parts_value (λ i v. v ≡ decimal i) g index index_parts))

  two_made : (c : ℕ) (g : ℕ → ℕ → Tree) (k : KindTree) → ((i v : ℕ) → spell schema k (g i v) ≡ c ∷ (decimal i ++ 64 ∷ decimal v))
      → Parts (Is k) (c ▸ index then λ i. 64 ▸ as_value (g i) index)
  two_made c g k f =
      parts_wider (λ y w. (l : List ℕ) × Both y l × (w ≡ c ∷ l)) (Is k) (c ▸ index then λ i. 64 ▸ as_value (g i) index) of
      (parts_before Both c (index then λ i. 64 ▸ as_value (g i) index)
      (parts_then (λ i w. w ≡ decimal i) Version index (λ i. 64 ▸ as_value (g i) index) index_parts
      (λ i. parts_before (λ y v. (x : ℕ) × (v ≡ decimal x) × (g i x ≡ y)) 64 (as_value (g i) index)
      (parts_value (λ x v. v ≡ decimal x) (g i) index index_parts))))
    where
      Version : ℕ → Tree → List ℕ → Type 0
      Version i y w = (v : List ℕ) × ((x : ℕ) × (v ≡ decimal x) × (g i x ≡ y)) × (w ≡ 64 ∷ v)

      Both : Tree → List ℕ → Type 0
      Both y l = (i : ℕ) × (v u : List ℕ) × (v ≡ decimal i) × Version i y u × (l ≡ v ++ u)

      of : (y : Tree) (w : List ℕ) → (l : List ℕ) × Both y l × (w ≡ c ∷ l) → Is k y w
      of y w h =
          let b = h.1 in
          let r = b.4 in
          h.2 ∙ ap (λ (l : List ℕ). c ∷ l)
          (b.5 ∙ ap (λ (l : List ℕ). l ++ b.2) b.3 ∙ ap (λ (l : List ℕ). decimal b.0 ++ l) (r.2 ∙ ap (λ (l : List ℕ). 64 ∷ l) r.1.1))
          ∙ sym (f b.0 r.1.0) ∙ ap (spell schema k) r.1.2

  -- elements
  all_items : (k : KindTree) (ts : List Tree) (w : List ℕ) → AllOf (Behind (Is k)) 93 ts w → w ≡ next_items schema k (trees ts)
  unfolding next_items
  all_items k [] w h = h
  all_items k (t ∷ ts) w h =
      h.4 ∙ ap (λ (l : List ℕ). l ++ h.1) (h.2.2 ∙ ap (λ (l : List ℕ). 44 ∷ l) h.2.1)
      ∙ ap (λ (l : List ℕ). 44 ∷ (spell schema k t ++ l)) (all_items k ts h.1 h.3)

  abbrev Listed : {A : Type 0} → (A → List ℕ → Type 0) → ℕ → List A → List ℕ → Type 0
  Listed {A} R c xs w =
      ((xs ≡ []) × (w ≡ c ∷ []))
      ⊎ ((x : A) × (ys : List A) × (v u : List ℕ) × (xs ≡ x ∷ ys) × R x v × AllOf (λ y w. (v : List ℕ) × R y v × (w ≡ 44 ∷ v)) c ys u × (w ≡ v ++ u))

  listed_items : (k : KindTree) (ts : List Tree) (w : List ℕ) → Listed (Is k) 93 ts w → w ≡ first_item schema k (trees ts)
  unfolding first_item
  listed_items k ts w (inl h) = h.1 ∙ ap (λ (l : List Tree). first_item schema k (trees l)) (sym h.0)
  listed_items k ts w (inr h) =
      h.7 ∙ ap (λ (l : List ℕ). l ++ h.3) h.5 ∙ ap (λ (l : List ℕ). spell schema k h.0 ++ l) (all_items k h.1 h.3 h.6)
      ∙ ap (λ (l : List Tree). first_item schema k (trees l)) (sym h.4)

  -- pairs
  abbrev IsPair : KindTree → KindTree → Tree × Tree → List ℕ → Type 0
  IsPair key one p w = w ≡ spell schema key p.0 ++ 58 ∷ spell schema one p.1

  all_pairs : (key one : KindTree) (ps : List (Tree × Tree)) (w : List ℕ) → AllOf (λ p w. (v : List ℕ) × IsPair key one p v × (w ≡ 44 ∷ v)) 125 ps w
      → w ≡ next_pairs (each_text schema key (trees (keys_of ps))) (each_text schema one (trees (values_of ps)))
  unfolding each_text
  all_pairs key one [] w h = h
  all_pairs key one (p ∷ ps) w h =
      h.4 ∙ ap (λ (l : List ℕ). l ++ h.1) (h.2.2 ∙ ap (λ (l : List ℕ). 44 ∷ l) h.2.1)
      ∙ ap (λ (l : List ℕ). 44 ∷ l) (append_assoc (spell schema key p.0) (58 ∷ spell schema one p.1) h.1)
      ∙ ap (λ (l : List ℕ). 44 ∷ (spell schema key p.0 ++ 58 ∷ (spell schema one p.1 ++ l))) (all_pairs key one ps h.1 h.3)

  listed_pairs : (key one : KindTree) (ps : List (Tree × Tree)) (w : List ℕ) → Listed (IsPair key one) 125 ps w
      → w ≡ first_pair (each_text schema key (trees (keys_of ps))) (each_text schema one (trees (values_of ps)))
  unfolding each_text
  listed_pairs key one ps w (inl h) = h.1
      ∙ ap (λ (l : List (Tree × Tree)). first_pair (each_text schema key (trees (keys_of l))) (each_text schema one (trees (values_of l)))) (sym h.0)
  listed_pairs key one ps w (inr h) =
      h.7 ∙ ap (λ (l : List ℕ). l ++ h.3) h.5 ∙ append_assoc (spell schema key h.0.0) (58 ∷ spell schema one h.0.1) h.3
      ∙ ap (λ (l : List ℕ). spell schema key h.0.0 ++ 58 ∷ (spell schema one h.0.1 ++ l)) (all_pairs key one h.1 h.3 h.6)
      ∙ ap (λ (l : List (Tree × Tree)). first_pair (each_text schema key (trees (keys_of l))) (each_text schema one (trees (values_of l)))) (sym h.4)

  module _ (inside : Bool → KindTree → Lang Tree) (each : (flagged : Bool) (k : KindTree) → Parts (Is k) (inside flagged k)) where
    elements_parts : (k : KindTree) (n : Option ℕ) → Parts (λ ts w. w ≡ first_item schema k (trees ts)) (elements (inside false k) n)
    elements_parts k None = parts_wider (Listed (Is k) 93) (λ ts w. w ≡ first_item schema k (trees ts)) (listed 93 (inside false k)) (listed_items k)
        (parts_listed (Is k) 93 (inside false k) (each false k))
    elements_parts k (Some n) = parts_wider (Listed (Is k) 93) (λ ts w. w ≡ first_item schema k (trees ts)) (exactly 93 n (inside false k)) (listed_items k)
        (parts_exactly (Is k) 93 n (inside false k) (each false k))

    -- a bracket and what is behind it
    opened_parts : (k : KindTree) (room : Bool) (c : ℕ) (one : Lang Tree) (R : Tree → List ℕ → Type 0)
        → ((y : Tree) (v : List ℕ) → R y v → c ∷ v ≡ spell schema k y) → Parts R one → Parts (Is k) (opened room c one)
    opened_parts k false c one R f o = parts_never (Is k) values.Null
    opened_parts k true c one R f o =
        parts_wider (λ y w. (v : List ℕ) × R y v × (w ≡ c ∷ v)) (Is k) (c ▸ one) (λ y w h. h.2 ∙ f y h.0 h.1) (parts_before R c one o)

    array_parts : (room : Bool) (k : KindTree) (n : Option ℕ) (nullable : Bool)
        → Parts (Is (kinds.ArrayKind k n nullable)) (opened room 91 (array (inside false k) n))
    unfolding spell
    array_parts room k n nullable =
        opened_parts (kinds.ArrayKind k n nullable) room 91 (array (inside false k) n)
        (λ y v. (ts : List Tree) × (v ≡ first_item schema k (trees ts)) × (items_of ts ≡ y))
        (λ y v h. ap (λ (l : List ℕ). 91 ∷ l) h.1 ∙ ap (spell schema (kinds.ArrayKind k n nullable)) h.2)
        (parts_value (λ ts w. w ≡ first_item schema k (trees ts)) items_of (elements (inside false k) n) (elements_parts k n))

    pair_parts : (key one : KindTree) → Parts (IsPair key one) (pair (inside false key) (inside false one))
    unfolding pair
    pair_parts key one =
        parts_wider (λ p w. (k : Tree) × (v u : List ℕ) × Is key k v × Second k p u × (w ≡ v ++ u)) (IsPair key one)
        (inside false key then λ k. 58 ▸ as_value (λ v. (k, v)) (inside false one)) of
        (parts_then (Is key) Second (inside false key) (λ k. 58 ▸ as_value (λ v. (k, v)) (inside false one)) (each false key)
        (λ k. parts_before (λ p u. (v : Tree) × Is one v u × ((k, v) ≡ p)) 58 (as_value (λ v. (k, v)) (inside false one))
        (parts_value (Is one) (λ v. (k, v)) (inside false one) (each false one))))
      where
        Second : Tree → Tree × Tree → List ℕ → Type 0
        Second k p w = (u : List ℕ) × ((v : Tree) × Is one v u × ((k, v) ≡ p)) × (w ≡ 58 ∷ u)

        of : (p : Tree × Tree) (w : List ℕ) → (k : Tree) × (v u : List ℕ) × Is key k v × Second k p u × (w ≡ v ++ u) → IsPair key one p w
        of p w h =
            let s = h.4 in
            h.5 ∙ ap (λ (l : List ℕ). l ++ h.2) h.3 ∙ ap (λ (l : List ℕ). spell schema key h.0 ++ l) (s.2 ∙ ap (λ (l : List ℕ). 58 ∷ l) s.1.1)
            ∙ ap (λ (q : Tree × Tree). spell schema key q.0 ++ 58 ∷ spell schema one q.1) s.1.2

    map_parts : (room : Bool) (key one : KindTree) (nullable : Bool)
        → Parts (Is (kinds.MapKind key one nullable)) (opened room 123 (as_value pairs_of (listed 125 (pair (inside false key) (inside false one)))))
    unfolding spell both_lists
    map_parts room key one nullable =
        opened_parts (kinds.MapKind key one nullable) room 123 (as_value pairs_of (listed 125 (pair (inside false key) (inside false one))))
        (λ y v. (ps : List (Tree × Tree)) × Listed (IsPair key one) 125 ps v × (pairs_of ps ≡ y))
        (λ y v h. ap (λ (l : List ℕ). 123 ∷ l) (listed_pairs key one h.0 v h.1) ∙ ap (spell schema (kinds.MapKind key one nullable)) h.2)
        (parts_value (Listed (IsPair key one) 125) pairs_of (listed 125 (pair (inside false key) (inside false one)))
        (parts_listed (IsPair key one) 125 (pair (inside false key) (inside false one)) (pair_parts key one)))

    -- fields
    after_parts : (fs : List FieldRow) → Parts (λ ts w. w ≡ next_fields schema (fields_kinds fs) (trees ts)) (fields_after inside fs)
    unfolding fields_after next_fields
    after_parts [] = parts_wider (λ ts w. (ts ≡ []) × (w ≡ 41 ∷ [])) (λ ts w. w ≡ 41 ∷ []) (closed 41 []) (λ ts w h. h.1) (parts_closed 41 [])
    after_parts (f ∷ fs) =
        parts_wider (λ ts w. (l : List ℕ) × Both ts l × (w ≡ 44 ∷ l)) (λ ts w. w ≡ next_fields schema (fields_kinds (f ∷ fs)) (trees ts))
        (44 ▸ inside (is_some f.flag) f.kind then λ v. as_value (λ vs. v ∷ vs) (fields_after inside fs)) of
        (parts_before Both 44 (inside (is_some f.flag) f.kind then λ v. as_value (λ vs. v ∷ vs) (fields_after inside fs))
        (parts_then (Is f.kind) Rest (inside (is_some f.flag) f.kind) (λ v. as_value (λ vs. v ∷ vs) (fields_after inside fs)) (each (is_some f.flag) f.kind)
        (λ v. parts_value (λ ts w. w ≡ next_fields schema (fields_kinds fs) (trees ts)) (λ vs. v ∷ vs) (fields_after inside fs) (after_parts fs))))
      where
        Rest : Tree → List Tree → List ℕ → Type 0
        Rest t ts w = (us : List Tree) × (w ≡ next_fields schema (fields_kinds fs) (trees us)) × (t ∷ us ≡ ts)

        Both : List Tree → List ℕ → Type 0
        Both ts l = (t : Tree) × (v u : List ℕ) × Is f.kind t v × Rest t ts u × (l ≡ v ++ u)

        of : (ts : List Tree) (w : List ℕ) → (l : List ℕ) × Both ts l × (w ≡ 44 ∷ l) → w ≡ next_fields schema (fields_kinds (f ∷ fs)) (trees ts)
        of ts w h =
            let b = h.1 in
            let r = b.4 in
            h.2 ∙ ap (λ (l : List ℕ). 44 ∷ l) (b.5 ∙ ap (λ (l : List ℕ). l ++ b.2) b.3 ∙ ap (λ (l : List ℕ). spell schema f.kind b.0 ++ l) r.1)
            ∙ ap (λ (l : List Tree). next_fields schema (fields_kinds (f ∷ fs)) (trees l)) r.2

    fields_parts : (fs : List FieldRow) → Parts (λ ts w. w ≡ first_field schema (fields_kinds fs) (trees ts)) (fields inside fs)
    unfolding fields first_field
    fields_parts [] = parts_wider (λ ts w. (ts ≡ []) × (w ≡ 41 ∷ [])) (λ ts w. w ≡ 41 ∷ []) (closed 41 []) (λ ts w h. h.1) (parts_closed 41 [])
    fields_parts (f ∷ fs) =
        parts_wider (λ ts l. (t : Tree) × (v u : List ℕ) × Is f.kind t v × Rest t ts u × (l ≡ v ++ u))
        (λ ts w. w ≡ first_field schema (fields_kinds (f ∷ fs)) (trees ts))
        (inside (is_some f.flag) f.kind then λ v. as_value (λ vs. v ∷ vs) (fields_after inside fs)) of
        (parts_then (Is f.kind) Rest (inside (is_some f.flag) f.kind) (λ v. as_value (λ vs. v ∷ vs) (fields_after inside fs)) (each (is_some f.flag) f.kind)
        (λ v. parts_value (λ ts w. w ≡ next_fields schema (fields_kinds fs) (trees ts)) (λ vs. v ∷ vs) (fields_after inside fs) (after_parts fs)))
      where
        Rest : Tree → List Tree → List ℕ → Type 0
        Rest t ts w = (us : List Tree) × (w ≡ next_fields schema (fields_kinds fs) (trees us)) × (t ∷ us ≡ ts)

        of : (ts : List Tree) (w : List ℕ) → (t : Tree) × (v u : List ℕ) × Is f.kind t v × Rest t ts u × (w ≡ v ++ u)
            → w ≡ first_field schema (fields_kinds (f ∷ fs)) (trees ts)
        of ts w b =
            let r = b.4 in
            b.5 ∙ ap (λ (l : List ℕ). l ++ b.2) b.3 ∙ ap (λ (l : List ℕ). spell schema f.kind b.0 ++ l) r.1
            ∙ ap (λ (l : List Tree). first_field schema (fields_kinds (f ∷ fs)) (trees l)) r.2

    abbrev IsStruct : Option StructRow → Tree → List ℕ → Type 0
    IsStruct row y v = (ts : List Tree) × (v ≡ first_field schema (row_kinds row) (trees ts)) × (fields_of ts ≡ y)

    structure_parts : (row : Option StructRow) → Parts (IsStruct row) (structure inside row)
    structure_parts None = parts_never (IsStruct None) values.Null
    structure_parts (Some row) = parts_value (λ ts w. w ≡ first_field schema (fields_kinds row.fields) (trees ts)) fields_of
        (fields inside row.fields) (fields_parts row.fields)

    struct_parts : (room : Bool) (n : ℕ) (nullable : Bool)
        → Parts (Is (kinds.StructKind n nullable)) (opened room 40 (structure inside (slice_get schema.structs n)))
    unfolding spell
    struct_parts room n nullable =
        opened_parts (kinds.StructKind n nullable) room 40 (structure inside (slice_get schema.structs n)) (IsStruct (slice_get schema.structs n))
        (λ y v h. ap (λ (l : List ℕ). 40 ∷ l) h.1 ∙ ap (spell schema (kinds.StructKind n nullable)) h.2) (structure_parts (slice_get schema.structs n))

    -- unions
    abbrev IsMember : KindTree → Option UnionRow → ℕ → Tree → List ℕ → Type 0
    IsMember k row tag y w = ((t : Tree) × (w ≡ 58 ∷ (spell schema (unwrap_or (kind_in row tag) k) t ++ 62 ∷ [])) × (values.Member tag t ≡ y))
        ⊎ ((w ≡ 62 ∷ []) × (values.Unknown tag ≡ y))

    member_parts : (k : KindTree) (row : UnionRow) (tag : ℕ) (found : Option KindTree) → kind_of_tag row.fields tag ≡ found
        → Parts (IsMember k (Some row) tag) (member inside tag found)
    member_parts k row tag None e =
        parts_wider (λ y w. (y ≡ values.Unknown tag) × (w ≡ 62 ∷ [])) (IsMember k (Some row) tag) (closed 62 (values.Unknown tag))
        (λ y w h. inr (h.1, sym h.0)) (parts_closed 62 (values.Unknown tag))
    member_parts k row tag (Some h) e =
        parts_wider (λ y w. (l : List ℕ) × Both y l × (w ≡ 58 ∷ l)) (IsMember k (Some row) tag)
        (58 ▸ inside false h then λ v. closed 62 (values.Member tag v)) of
        (parts_before Both 58 (inside false h then λ v. closed 62 (values.Member tag v))
        (parts_then (Is h) (λ t y w. (y ≡ values.Member tag t) × (w ≡ 62 ∷ [])) (inside false h) (λ v. closed 62 (values.Member tag v)) (each false h)
        (λ v. parts_closed 62 (values.Member tag v))))
      where
        Both : Tree → List ℕ → Type 0
        Both y l = (t : Tree) × (v u : List ℕ) × Is h t v × ((y ≡ values.Member tag t) × (u ≡ 62 ∷ [])) × (l ≡ v ++ u)

        of : (y : Tree) (w : List ℕ) → (l : List ℕ) × Both y l × (w ≡ 58 ∷ l) → IsMember k (Some row) tag y w
        of y w b =
            let c = b.1 in
            inl (
              c.0,
              b.2 ∙ ap (λ (l : List ℕ). 58 ∷ l) (c.5 ∙ ap (λ (l : List ℕ). l ++ c.2) c.3 ∙ ap (λ (l : List ℕ). spell schema h c.0 ++ l) c.4.1)
                  ∙ ap (λ (o : Option KindTree). 58 ∷ (spell schema (unwrap_or o k) c.0 ++ 62 ∷ [])) (sym e),
              sym c.4.0,
            )

    abbrev IsUnion : KindTree → Option UnionRow → Tree → List ℕ → Type 0
    IsUnion k row y w = (tag : ℕ) × (v u : List ℕ) × (v ≡ decimal tag) × IsMember k row tag y u × (w ≡ v ++ u)

    union_parts : (k : KindTree) (row : Option UnionRow) → Parts (IsUnion k row) (union inside row)
    union_parts k None = parts_never (IsUnion k None) values.Null
    union_parts k (Some row) =
        parts_then (λ tag v. v ≡ decimal tag) (IsMember k (Some row)) (tag_of row.extensible (fields_tags row.fields))
        (λ tag. member inside tag (kind_of_tag row.fields tag))
        (tag_parts row.extensible (fields_tags row.fields)) (λ tag. member_parts k row tag (kind_of_tag row.fields tag) refl)

    tagged_parts : (room : Bool) (n : ℕ) (nullable : Bool)
        → Parts (Is (kinds.UnionKind n nullable)) (opened room 60 (union inside (slice_get schema.unions n)))
    unfolding spell
    tagged_parts room n nullable =
        opened_parts (kinds.UnionKind n nullable) room 60 (union inside (slice_get schema.unions n))
        (IsUnion (kinds.UnionKind n nullable) (slice_get schema.unions n)) of
        (union_parts (kinds.UnionKind n nullable) (slice_get schema.unions n))
      where
        of : (y : Tree) (w : List ℕ) → IsUnion (kinds.UnionKind n nullable) (slice_get schema.unions n) y w
            → 60 ∷ w ≡ spell schema (kinds.UnionKind n nullable) y
        of y w (tag, v, u, d, inl h, e) =
            ap (λ (l : List ℕ). 60 ∷ l) (e ∙ ap (λ (l : List ℕ). l ++ u) d ∙ ap (λ (l : List ℕ). decimal tag ++ l) h.1)
            ∙ ap (spell schema (kinds.UnionKind n nullable)) h.2
        of y w (tag, v, u, d, inr h, e) =
            ap (λ (l : List ℕ). 60 ∷ l) (e ∙ ap (λ (l : List ℕ). l ++ u) d ∙ ap (λ (l : List ℕ). decimal tag ++ l) h.0)
            ∙ ap (spell schema (kinds.UnionKind n nullable)) h.1

    base_parts : (room : Bool) (k : KindTree) → Parts (Is k) (base schema room inside k)
    unfolding spell
    base_parts room (kinds.BoolKind nullable) = flag_parts (kinds.BoolKind nullable)
    base_parts room (kinds.IntKind w signed nullable) = whole_made (kinds.IntKind w signed nullable) (whole w signed) (whole_parts w signed)
    base_parts room (kinds.EnumKind n nullable) =
        whole_made (kinds.EnumKind n nullable) (number_of (slice_get schema.enums n)) (number_of_parts (slice_get schema.enums n))
    base_parts room (kinds.TextKind nullable) = text_made (kinds.TextKind nullable)
    base_parts room (kinds.HandleKind sort nullable) = one_made 37 values.Handle (kinds.HandleKind sort nullable) (λ i. refl)
    base_parts room (kinds.ArrayKind of count nullable) = array_parts room of count nullable
    base_parts room (kinds.MapKind key one nullable) = map_parts room key one nullable
    base_parts room (kinds.StructKind n nullable) = struct_parts room n nullable
    base_parts room (kinds.UnionKind n nullable) = tagged_parts room n nullable
    base_parts room (kinds.RemoteKind interface nullable) = two_made 37 values.Remote (kinds.RemoteKind interface nullable) (λ i v. refl)
    base_parts room (kinds.ReceiverKind interface nullable) = one_made 37 values.Handle (kinds.ReceiverKind interface nullable) (λ i. refl)
    base_parts room (kinds.AssociatedRemoteKind interface nullable) =
        two_made 94 values.EndpointRemote (kinds.AssociatedRemoteKind interface nullable) (λ i v. refl)
    base_parts room (kinds.AssociatedReceiverKind interface nullable) =
        one_made 94 values.Endpoint (kinds.AssociatedReceiverKind interface nullable) (λ i. refl)

  either : (k : KindTree) (y : Tree) (w : List ℕ) → Is k y w ⊎ Is k y w → Is k y w
  either k y w (inl h) = h
  either k y w (inr h) = h

  or_parts : (nullable : Bool) (k : KindTree) (one : Lang Tree) → Parts (Is k) one → Parts (Is k) (or_null nullable one)
  or_parts false k one o = o
  or_parts true k one o =
      parts_wider (λ y w. Is k y w ⊎ Is k y w) (Is k) (choice (λ b. b == 110) null_word one) (either k)
      (parts_choice (Is k) (Is k) (λ b. b == 110) null_word one (null_parts k) o)

  -- what is followed whole is the text of the value, and then the rest
  slot_parts : (left : ℕ) (flagged : Bool) (k : KindTree) → Parts (Is k) (slot_value schema left flagged k)
  unfolding slot_value
  slot_parts zero flagged k = or_parts (flagged || is_nullable k) k (base schema false (λ flagged k. never values.Null) k)
      (base_parts (λ flagged k. never values.Null) (λ flagged k. parts_never (Is k) values.Null) false k)
  slot_parts (suc left) flagged k = or_parts (flagged || is_nullable k) k (base schema true (slot_value schema left) k)
      (base_parts (slot_value schema left) (slot_parts left) true k)

  pub value_parts : (left : ℕ) (k : KindTree) → Parts (Is k) (value schema left k)
  unfolding value
  value_parts left k = slot_parts left (has_flag k) k

  -- bytes that spell a value are its text
  pub one_text : (left : ℕ) (k : KindTree) (t : Tree) (bytes : List ℕ) → Spells (value schema left k) t bytes → bytes ≡ spell schema k t
  one_text left k t bytes h =
      let p = value_parts left k (λ v rest. (rest ≡ []) × (v ≡ t)) bytes h in
      p.4 ∙ ap (λ (q : List ℕ). p.1 ++ q) p.5.0 ∙ append-nil p.1 ∙ p.3 ∙ ap (spell schema k) p.5.1

-- two texts of one value are the same
pub same_text : (schema : Schema) (left : ℕ) (k : KindTree) (t : Tree) (one other : List ℕ) → Spells (value schema left k) t one
    → Spells (value schema left k) t other → one ≡ other
same_text schema left k t one other h g = one_text schema left k t one h ∙ sym (one_text schema left k t other g)
