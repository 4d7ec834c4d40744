-- The words of a schema are the texts of its interfaces and methods, both ways.
use Rattle.std.proofs.Common.{◌≡◌, ℕ, zero, suc, ◌++◌, ◌∷◌, [], ◌⊎◌, inl, inr, List, Option, Some, None, Bool, true, false, cond, ◌==◌, ◌||◌, map}
use Rattle.std.proofs.Common.{drop, length}
use Rattle.std.proofs.Common.{refl, sym, ap, ◌∙◌, subst, arith}
use Rattle.std.specs.Prelude.{codes, not, find, slice_get, unwrap_or, option_and_then}
use Rattle.std.specs.Option.{option_map}
use Rattle.std.specs.List.{flat_map, list_all, list_any}
use Rattle.std.specs.Str.{bytes_eq}
use Rattle.std.proofs.lemmas.Bool.{false≢true}
use Rattle.std.proofs.lemmas.Bool.Decides.{nat_tests}
use Rattle.std.proofs.lemmas.Slice.Eq.{bytes_eq-Decides}
use Rattle.mj_schema.specs.Lookups.{method_in}
use Rattle.mj_schema.specs.WellFormed.{are_different, has_distinct_ordinals, counts_of, all_kinds, are_within, has_structs, is_row, are_allowed}
use Rattle.mj_schema.specs.WellFormed.{has_distinct_tags}
use Rattle.mj_schema.specs.declared.rows.InterfaceRow.{InterfaceRow}
use Rattle.mj_schema.specs.declared.rows.MethodRow.{MethodRow}
use Rattle.mj_schema.specs.declared.schema.Schema.{Schema}
use Rattle.wire_model.specs.Expected.{struct_of}
use Rattle.wire_model.specs.declared.target.MessageSide.{MessageSide}
use Rattle.wire_model.specs.declared.target.MessageSide.TheVariants.{Request, Response}
use Rattle.wire_encoder.specs.Prepared.{parameters_of}
use Rattle.byte_rules.specs.Among.{IsAmong, among_words, among}
use Rattle.byte_rules.proofs.Parts.{parts_never}
use Rattle.value_text.proofs.NumberLaws.{both_left, both_right}
use Rattle.history_text.specs.Names.{interface_name, method_text}
use Rattle.line_parts.specs.Names.{is_word, that_are_words, interfaces_from, message_in, messages_from, names_of, messages_of, meaning, texts, named}
use Rattle.line_parts.specs.Names.{interface}
use Rattle.line_parts.specs.Printable.{IsInterface}
use Rattle.line_parts.specs.declared.names.Entry.{Entry}
use Rattle.line_parts.specs.declared.names.Message.{Message}
use Rattle.line_parts.proofs.BothWays.{HasTexts, Is, texts_as, texts_words, texts_map}

-- one of some words
pub texts_among : {A : Type 0} (other : A) (spelled : A → List ℕ) (xs : List A) → HasTexts (Is (λ (x : A). IsAmong x xs) spelled) (among other spelled xs)
texts_among other spelled [] = record { from = parts_never (Is (λ x. ⊥) spelled) other; to = λ x w h. absurd h.0 }
texts_among other spelled (x ∷ xs) = texts_words (among_words spelled (x ∷ xs))

-- what is kept was there
kept_in : {A : Type 0} (e : Entry A) (entries : List (Entry A)) → IsAmong e (that_are_words entries) → IsAmong e entries
kept_in {A} e [] i = i
kept_in {A} e (x ∷ xs) i = of (is_word x.text) (kept_in e xs) i
  where
    of : (v : Bool) → (IsAmong e (that_are_words xs) → IsAmong e xs) → IsAmong e (cond v (x ∷ that_are_words xs) (that_are_words xs)) → IsAmong e (x ∷ xs)
    of true rest (inl s) = inl s
    of true rest (inr j) = inr (rest j)
    of false rest j = inr (rest j)

either_list : {A : Type 0} (e : A) (xs ys : List A) → IsAmong e (xs ++ ys) → IsAmong e xs ⊎ IsAmong e ys
either_list e [] ys i = inr i
either_list e (x ∷ xs) ys (inl s) = inl (inl s)
either_list e (x ∷ xs) ys (inr i) = elim (either_list e xs ys i) [ inl j ↦ inl (inr j) | inr j ↦ inr j ]

of_one : {A B : Type 0} (f : A → List B) (e : B) (xs : List A) → IsAmong e (flat_map f xs) → (x : A) × IsAmong x xs × IsAmong e (f x)
of_one f e [] i = absurd i
of_one f e (x ∷ xs) i = elim (either_list e (f x) (flat_map f xs) i) [
  | inl j ↦ (x, inl refl, j)
  | inr j ↦ let k = of_one f e xs j in (k.0, inr k.1, k.2)
]

-- the row of a number
row_here : {R : Type 0} (rows : List R) (n : ℕ) (row : R) (rest : List R) → row ∷ rest ≡ drop n rows
    → (slice_get rows n ≡ Some row) × (rest ≡ drop (suc n) rows)
row_here [] zero row rest e = absurd (cc)
row_here [] (suc n) row rest e = absurd (cc)
row_here {R} (r ∷ rs) zero row rest e = (ap (λ (l : List R). slice_get l 0) (sym e), ap tail e)
  where
    tail : List R → List R
    tail [] = []
    tail (x ∷ xs) = xs
row_here (r ∷ rs) (suc n) row rest e = row_here rs n row rest e

same_number : (n : ℕ) → (n == n) ≡ true
same_number n = grind (arith, nat_tests)

-- whether the ordinal of a method is that of one of these
abbrev is_in : MethodRow → List MethodRow → Bool
is_in k ms = list_any (λ (other : ℕ). k.ordinal == other) (map (λ (m : MethodRow). m.ordinal) ms)

-- a method has its own ordinal alone
not_again : (k : MethodRow) (ms : List MethodRow) (m : MethodRow) → IsAmong m ms → not (is_in k ms) ≡ true → (k.ordinal == m.ordinal) ≡ false
not_again k [] m i h = absurd i
not_again k (x ∷ xs) m i h = of (k.ordinal == x.ordinal) (is_in k xs) refl refl (not_again k xs m) h i
  where
    of : (v w : Bool) → (k.ordinal == x.ordinal) ≡ v → is_in k xs ≡ w → (IsAmong m xs → not (is_in k xs) ≡ true → (k.ordinal == m.ordinal) ≡ false)
        → not (v || w) ≡ true → IsAmong m (x ∷ xs) → (k.ordinal == m.ordinal) ≡ false
    of true w e f rest h i = absurd (false≢true h)
    of false w e f rest h (inl s) = ap (λ (m : MethodRow). k.ordinal == m.ordinal) s ∙ e
    of false w e f rest h (inr j) = rest j (ap not f ∙ h)

found_own : (ms : List MethodRow) (m : MethodRow) → are_different (map (λ (m : MethodRow). m.ordinal) ms) ≡ true → IsAmong m ms
    → find (λ (k : MethodRow). k.ordinal == m.ordinal) ms ≡ Some m
found_own [] m h i = absurd i
found_own (k ∷ ks) m h (inl s) = rw (s, same_number k.ordinal) refl
found_own (k ∷ ks) m h (inr j) =
    let other : (k.ordinal == m.ordinal) ≡ false = not_again k ks m j (both_left _ (are_different (map (λ (m : MethodRow). m.ordinal) ks)) h) in
    rw other (found_own ks m (both_right _ (are_different (map (λ (m : MethodRow). m.ordinal) ks)) h) j)

passes : {R : Type 0} (p : R → Bool) (rows : List R) (n : ℕ) (row : R) → list_all p rows ≡ true → slice_get rows n ≡ Some row → p row ≡ true
passes p [] n row h e = absurd (cc)
passes {R} p (r ∷ rs) zero row h e = ap p (sym (of e)) ∙ both_left (p r) (list_all p rs) h
  where
    of : Some r ≡ Some row → r ≡ row
    of e = cc
passes p (r ∷ rs) (suc n) row h e = passes p rs n row (both_right (p r) (list_all p rs) h) e

-- the ordinals of the methods of each interface stand once
distinct : (schema : Schema) → list_all has_distinct_ordinals schema.interfaces ≡ true
distinct schema =
    let counts = counts_of schema.structs schema.unions schema.enums schema.interfaces schema.consts in
    let kinds = all_kinds schema.structs schema.unions schema.consts in
    let a = list_all (are_within counts) kinds in
    let b = list_all (λ (row : InterfaceRow). list_all (has_structs (length schema.structs)) row.methods) schema.interfaces in
    let c = list_all (is_row counts) schema.order in
    let d = are_allowed schema.structs schema.unions schema.consts in
    let e = list_all has_distinct_tags schema.unions in
    let f = list_all has_distinct_ordinals schema.interfaces in
    both_left f _ (both_right e _ (both_right d _ (both_right c _ (both_right b _ (both_right a _ schema.well_formed)))))

module _ (schema : Schema) where
  name_at : (n : ℕ) (row : InterfaceRow) → slice_get schema.interfaces n ≡ Some row → interface_name schema n ≡ row.name
  name_at n row e = ap (λ (o : Option InterfaceRow). unwrap_or (option_map (λ (row : InterfaceRow). row.name) o) []) e

  method_at : (n : ℕ) (row : InterfaceRow) (m : MethodRow) → slice_get schema.interfaces n ≡ Some row → IsAmong m row.methods
      → method_in schema.interfaces n m.ordinal ≡ Some m
  method_at n row m e i =
      ap (λ (o : Option InterfaceRow). option_and_then (λ (row : InterfaceRow). find (λ (k : MethodRow). k.ordinal == m.ordinal) row.methods) o) e
      ∙ found_own row.methods m (passes has_distinct_ordinals schema.interfaces n row (distinct schema) e) i

  -- what the entry of a message says
  pub record IsNamed (wanted : MessageSide) (e : Entry Message) : Type 0 where
    pub text : e.text ≡ method_text schema e.value.target.interface e.value.target.method
    pub parameters : parameters_of schema e.value.target ≡ Some e.value.parameters
    pub side : e.value.target.side ≡ wanted

  named_message : (side : MessageSide) (n : ℕ) (row : InterfaceRow) (m : MethodRow) (e : Entry Message) → slice_get schema.interfaces n ≡ Some row
      → IsAmong m row.methods → (o : Option ℕ) → struct_of side m ≡ o → IsAmong e (message_in side n row.name m o) → IsNamed side e
  named_message side n row m e at i None s j = absurd j
  named_message side n row m e at i (Some number) s (inr j) = absurd j
  named_message side n row m e at i (Some number) s (inl same) = subst (IsNamed side) (sym same) (record {
    text = ap (λ (l : List ℕ). l ++ (codes "." ++ m.name)) (sym (name_at n row at))
        ∙ ap (λ (o : Option MethodRow). interface_name schema n ++ (codes "." ++ unwrap_or (option_map (λ (method : MethodRow). method.name) o) []))
        (sym (method_at n row m at i));
    parameters = ap (option_and_then (struct_of side)) (method_at n row m at i) ∙ s;
    side = refl;
  })

  named_from : (side : MessageSide) (n : ℕ) (rows : List InterfaceRow) (e : Entry Message) → rows ≡ drop n schema.interfaces
      → IsAmong e (messages_from side n rows) → IsNamed side e
  named_from side n [] e at i = absurd i
  named_from side n (row ∷ rows) e at i =
      let here = row_here schema.interfaces n row rows at in
      elim (either_list e (flat_map (λ (m : MethodRow). message_in side n row.name m (struct_of side m)) row.methods) (messages_from side (suc n) rows) i) [
        | inl j ↦ let k = of_one (λ (m : MethodRow). message_in side n row.name m (struct_of side m)) e row.methods j in
            named_message side n row k.0 e here.0 k.1 (struct_of side k.0) refl k.2
        | inr j ↦ named_from side (suc n) rows e here.1 j
      ]

  pub message_named : (side : MessageSide) (e : Entry Message) → IsAmong e (messages_of (names_of schema) side) → IsNamed side e
  message_named Request e i = named_from Request 0 schema.interfaces e refl (kept_in e (messages_from Request 0 schema.interfaces) i)
  message_named Response e i = named_from Response 0 schema.interfaces e refl (kept_in e (messages_from Response 0 schema.interfaces) i)

  interface_from : (n : ℕ) (rows : List InterfaceRow) (e : Entry ℕ) → rows ≡ drop n schema.interfaces → IsAmong e (interfaces_from n rows)
      → e.text ≡ interface_name schema e.value
  interface_from n [] e at i = absurd i
  interface_from n (row ∷ rows) e at (inl same) =
      let here = row_here schema.interfaces n row rows at in
      subst (λ (e : Entry ℕ). e.text ≡ interface_name schema e.value) (sym same) (sym (name_at n row here.0))
  interface_from n (row ∷ rows) e at (inr j) = interface_from (suc n) rows e (row_here schema.interfaces n row rows at).1 j

same_bytes : (xs ys : List ℕ) → bytes_eq xs ys ≡ true → xs ≡ ys
same_bytes xs ys e = (bytes_eq-Decides xs ys).0 e

other_bytes : (xs ys : List ℕ) → bytes_eq xs ys ≡ false → xs ≡ ys → ⊥
other_bytes xs ys b e = let t : bytes_eq xs ys ≡ true = (bytes_eq-Decides xs ys).1 e in absurd (cc)

-- what a word means is said by an entry with that word
pub record MeansBy {A : Type 0} (entries : List (Entry A)) (text : List ℕ) (x : A) : Type 0 where
  pub entry : Entry A
  pub among : IsAmong entry entries
  pub word : entry.text ≡ text
  pub value : entry.value ≡ x

pub means_by : {A : Type 0} (entries : List (Entry A)) (text : List ℕ) (x : A) → meaning entries text ≡ Some x → MeansBy entries text x
means_by [] text x e = absurd (cc)
means_by {A} (y ∷ ys) text x e = of (bytes_eq y.text text) refl (means_by ys text x) e
  where
    of : (v : Bool) → bytes_eq y.text text ≡ v → (meaning ys text ≡ Some x → MeansBy ys text x)
        → option_map (λ (entry : Entry A). entry.value) (cond v (Some y) (find (λ (entry : Entry A). bytes_eq entry.text text) ys)) ≡ Some x
        → MeansBy (y ∷ ys) text x
    of true b rest e = record { entry = y; among = inl refl; word = same_bytes y.text text b; value = cc }
    of false b rest e = let k = rest e in record { entry = k.entry; among = inr k.among; word = k.word; value = k.value }

among_texts : {A : Type 0} (e : Entry A) (entries : List (Entry A)) → IsAmong e entries → IsAmong e.text (texts entries)
among_texts e [] i = i
among_texts {A} e (x ∷ xs) (inl s) = inl (ap (λ (e : Entry A). e.text) s)
among_texts e (x ∷ xs) (inr i) = inr (among_texts e xs i)

-- a word of the entries means something
meant : {A : Type 0} (entries : List (Entry A)) (text : List ℕ) → IsAmong text (texts entries) → (x : A) × (meaning entries text ≡ Some x)
meant [] text i = absurd i
meant {A} (y ∷ ys) text i = of (bytes_eq y.text text) refl (meant ys text) i
  where
    of : (v : Bool) → bytes_eq y.text text ≡ v → (IsAmong text (texts ys) → (x : A) × (meaning ys text ≡ Some x)) → IsAmong text (texts (y ∷ ys))
        → (x : A) × (option_map (λ (entry : Entry A). entry.value) (cond v (Some y) (find (λ (entry : Entry A). bytes_eq entry.text text) ys)) ≡ Some x)
    of true b rest i = (y.value, refl)
    of false b rest (inl s) = absurd (other_bytes y.text text b (sym s))
    of false b rest (inr j) = rest j

-- a word of the entries, and what it means
pub texts_named : {A : Type 0} (entries : List (Entry A))
    → HasTexts (λ (found : Option A) (w : List ℕ). IsAmong w (texts entries) × (found ≡ meaning entries w)) (named entries)
texts_named {A} entries = texts_as (λ found w h. (
  subst (λ (l : List ℕ). IsAmong l (texts entries)) (sym h.1.1) h.1.0,
  sym h.2
      ∙ ap (meaning entries) (sym h.1.1),
))
    (λ found w h. (w, (h.0, refl), sym h.1)) (texts_map (meaning entries) (texts_among [] (λ (text : List ℕ). text) (texts entries)))

-- a word that means this, which is its text
pub texts_meaning : {A : Type 0} (entries : List (Entry A)) (text : A → List ℕ) → ((e : Entry A) → IsAmong e entries → e.text ≡ text e.value)
    → HasTexts (λ (found : Option A) (w : List ℕ). (x : A) × (found ≡ Some x) × (meaning entries (text x) ≡ Some x) × (w ≡ text x)) (named entries)
texts_meaning {A} entries text own = texts_as there back (texts_named entries)
  where
    there : (found : Option A) (w : List ℕ) → IsAmong w (texts entries) × (found ≡ meaning entries w)
        → (x : A) × (found ≡ Some x) × (meaning entries (text x) ≡ Some x) × (w ≡ text x)
    there found w h =
        let k = meant entries w h.0 in
        let m = means_by entries w k.0 k.1 in
        let e : w ≡ text k.0 = sym m.word ∙ own m.entry m.among ∙ ap text m.value in
        (k.0, h.1 ∙ k.1, ap (meaning entries) (sym e) ∙ k.1, e)

    back : (found : Option A) (w : List ℕ) → (x : A) × (found ≡ Some x) × (meaning entries (text x) ≡ Some x) × (w ≡ text x)
        → IsAmong w (texts entries) × (found ≡ meaning entries w)
    back found w h =
        let m = means_by entries (text h.0) h.0 h.2 in (
          subst (λ (l : List ℕ). IsAmong l (texts entries)) (m.word ∙ sym h.3) (among_texts m.entry entries m.among),
          h.1 ∙ sym h.2 ∙ ap (meaning entries) (sym h.3),
        )

-- the name of an interface, and what it means
abbrev Means : Schema → Option ℕ → List ℕ → Type 0
Means schema found w =
    (x : ℕ) × (found ≡ Some x) × (meaning (names_of schema).interfaces (interface_name schema x) ≡ Some x) × (w ≡ interface_name schema x)

pub texts_interface : (schema : Schema) → HasTexts (Is (IsInterface schema) (interface_name schema)) (interface (names_of schema))
texts_interface schema = texts_as there back (texts_map (λ (found : Option ℕ). unwrap_or found 0)
    (texts_meaning (names_of schema).interfaces (interface_name schema)
    (λ e i. interface_from schema 0 schema.interfaces e refl (kept_in e (interfaces_from 0 schema.interfaces) i))))
  where
    there : (n : ℕ) (w : List ℕ) → (found : Option ℕ) × Means schema found w × (unwrap_or found 0 ≡ n) → Is (IsInterface schema) (interface_name schema) n w
    there n w h =
        let same : h.1.0 ≡ n = ap (λ (o : Option ℕ). unwrap_or o 0) (sym h.1.1) ∙ h.2 in
        subst (λ (n : ℕ). Is (IsInterface schema) (interface_name schema) n w) same (h.1.2, h.1.3)

    back : (n : ℕ) (w : List ℕ) → Is (IsInterface schema) (interface_name schema) n w → (found : Option ℕ) × Means schema found w × (unwrap_or found 0 ≡ n)
    back n w h = (Some n, (n, refl, h.0, h.1), refl)
