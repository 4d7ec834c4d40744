-- In a schema with plain names the word of each interface and of each method means just it.
use Rattle.std.proofs.Common.{◌≡◌, ℕ, zero, suc, ◌+◌, ◌==◌, Bool, false, true, cond, not, List, [], ◌∷◌, ◌++◌, Option, Some, None, refl, sym, ap, ◌∙◌, subst, inl, inr, arith, codes}
use Rattle.std.specs.Prelude.{find, slice_get, unwrap_or, option_and_then}
use Rattle.std.specs.List.{flat_map, list_all, list_any, AllByRecursion}
use Rattle.std.specs.Option.{option_map}
use Rattle.std.specs.Str.{bytes_eq}
use Rattle.std.proofs.lemmas.Bool.{eqb-true, false≢true}
use Rattle.std.proofs.lemmas.Slice.Eq.{bytes_eq-Decides}
use Rattle.mj_base.specs.Texts.{are_distinct}
use Rattle.mj_schema.specs.Lookups.{method_in}
use Rattle.mj_schema.specs.declared.rows.InterfaceRow.{InterfaceRow}
use Rattle.mj_schema.specs.declared.rows.MethodRow.{MethodRow}
use Rattle.mj_schema.specs.declared.schema.Schema.{Schema}
use Rattle.wire_model.specs.Expected.{struct_of}
use Rattle.wire_model.specs.declared.target.MessageSide.{MessageSide}
use Rattle.wire_model.specs.declared.target.MessageSide.TheVariants.{Request, Response}
use Rattle.value_text.proofs.NumberLaws.{both_left, both_right}
use Rattle.history_text.specs.Names.{interface_name, method_text}
use Rattle.line_parts.specs.Names.{is_word, that_are_words, interfaces_from, message_in, messages_from, names_of, messages_of, meaning}
use Rattle.line_parts.specs.Printable.{IsInterface}
use Rattle.schema_laws.proofs.Among.{IsAmong, among_at, among_map, all_at, each_at}
use Rattle.schema_laws.proofs.Each.{all_flat}
use Rattle.printed_schemas.proofs.WordNames.{is_plain, interface_names, method_names, HasPlainMethods, HasPlainNames}
use Rattle.printed_schemas.proofs.WordTexts.{same_text, differ, apart, differs_from, same_front, same_back, plain_bytes, word_bytes, no_blanks, dotted_word}

-- the types of what stands in the lists of words, which the reader keeps to itself

-- what stands in the lists that a function takes
abbrev listed_for : {A B : Type 0} → (List A → B) → Type 0
listed_for {A} f = A

-- what is found
abbrev found_by : {A : Type 0} → Option A → Type 0
found_by {A} o = A

-- an entry of a list of words
abbrev Entry : Type 0 → Type 0
Entry A = listed_for (that_are_words {A = A})

-- a message that a word means
abbrev Message : Type 0
Message = found_by (meaning (messages_from Request 0 []) [])

-- what the first entry of a word means

-- the entry has another word
abbrev IsOther : {A : Type 0} → List ℕ → Entry A → Type 0
IsOther text entry = bytes_eq entry.text text ≡ false

-- a word that means something in a list means it where more stands behind
in_front : {A : Type 0} (entries others : List (Entry A)) (text : List ℕ) (x : A) → meaning entries text ≡ Some x → meaning (entries ++ others) text ≡ Some x
in_front [] others text x e = absurd (cc)
in_front {A} (y ∷ ys) others text x e = go (bytes_eq y.text text) (in_front ys others text x) e
  where
    go : (b : Bool) → (meaning ys text ≡ Some x → meaning (ys ++ others) text ≡ Some x)
        → option_map (λ (entry : Entry A). entry.value) (cond b (Some y) (find (λ (entry : Entry A). bytes_eq entry.text text) ys)) ≡ Some x
        → option_map (λ (entry : Entry A). entry.value) (cond b (Some y) (find (λ (entry : Entry A). bytes_eq entry.text text) (ys ++ others))) ≡ Some x
    go true rest e = e
    go false rest e = rest e

-- entries with other words say nothing of a word
behind : {A : Type 0} (entries others : List (Entry A)) (text : List ℕ) → AllByRecursion (IsOther text) entries
    → meaning (entries ++ others) text ≡ meaning others text
behind [] others text all = refl
behind (y ∷ ys) others text all = rw all.0 (behind ys others text all.1)

-- what is no word takes nothing from what words mean
kept_meaning : {A : Type 0} (entries : List (Entry A)) (text : List ℕ) → is_word text ≡ true → meaning (that_are_words entries) text ≡ meaning entries text
kept_meaning [] text w = refl
kept_meaning {A} (e ∷ es) text w = go (is_word e.text) (bytes_eq e.text text) refl refl (kept_meaning es text w)
  where
    go : (kept same : Bool) → is_word e.text ≡ kept → bytes_eq e.text text ≡ same → meaning (that_are_words es) text ≡ meaning es text
        → meaning (cond kept (e ∷ that_are_words es) (that_are_words es)) text
        ≡ option_map (λ (entry : Entry A). entry.value) (cond same (Some e) (find (λ (entry : Entry A). bytes_eq entry.text text) es))
    go true true k s rest = rw s refl
    go true false k s rest = rw s rest
    go false false k s rest = rest
    go false true k s rest =
        let same : e.text ≡ text = (bytes_eq-Decides e.text text).0 s in
        absurd (false≢true (sym k ∙ ap is_word same ∙ w))

-- interfaces

-- the first of different names is not among the others
first_apart : (name : List ℕ) (names : List (List ℕ)) (other : List ℕ) → are_distinct (name ∷ names) ≡ true → IsAmong names other
    → bytes_eq name other ≡ false
first_apart name names other d among = differs_from name names other (none (list_any (bytes_eq name) names) (both_left _ (are_distinct names) d)) among
  where
    none : (b : Bool) → not b ≡ true → b ≡ false
    none true e = absurd (cc)
    none false e = refl

interface_from : (k : ℕ) (rows : List InterfaceRow) (n : ℕ) (row : InterfaceRow) → slice_get rows n ≡ Some row
    → are_distinct (interface_names rows) ≡ true → meaning (interfaces_from k rows) row.name ≡ Some (k + n)
interface_from k [] n row at d = absurd (cc)
interface_from k (r ∷ rs) zero row at d =
    let same : r ≡ row = cc in
    let number : k ≡ k + 0 = omega arith in
    subst (λ (one : InterfaceRow). meaning (interfaces_from k (r ∷ rs)) one.name ≡ Some (k + 0)) same (rw (same_text r.name) (ap Some number))
interface_from k (r ∷ rs) (suc n) row at d =
    let other = first_apart r.name (interface_names rs) row.name d (among_map (λ (one : InterfaceRow). one.name) rs row (among_at rs n row at)) in
    let rest = interface_from (suc k) rs n row at (both_right _ (are_distinct (interface_names rs)) d) in
    let number : suc k + n ≡ k + suc n = omega arith in
    rw other (rest ∙ ap Some number)

-- the name of the interface of a number
name_at : (schema : Schema) (n : ℕ) (row : InterfaceRow) → slice_get schema.interfaces n ≡ Some row → interface_name schema n ≡ row.name
name_at schema n row e = ap (λ (o : Option InterfaceRow). unwrap_or (option_map (λ (row : InterfaceRow). row.name) o) []) e

-- the word of an interface
word_at : (schema : Schema) → HasPlainNames schema → (row : InterfaceRow) → IsAmong schema.interfaces row → is_word row.name ≡ true
word_at schema plain row among =
    all_at is_word (interface_names schema.interfaces) row.name plain.words (among_map (λ (one : InterfaceRow). one.name) schema.interfaces row among)

-- the name of an interface means it
pub interface_means : (schema : Schema) → HasPlainNames schema → (n : ℕ) (row : InterfaceRow) → slice_get schema.interfaces n ≡ Some row
    → IsInterface schema n
interface_means schema plain n row at =
    let number : 0 + n ≡ n = omega arith in
    ap (meaning (names_of schema).interfaces) (name_at schema n row at)
    ∙ kept_meaning (interfaces_from 0 schema.interfaces) row.name (word_at schema plain row (among_at schema.interfaces n row at))
    ∙ interface_from 0 schema.interfaces n row at plain.distinct
    ∙ ap Some number

-- messages

-- a message of a method of the interface of a number
abbrev message_of : MessageSide → ℕ → MethodRow → ℕ → Message
message_of side n method number = record { target = record { interface = n; method = method.ordinal; side = side }; parameters = number }

-- a method as `INTERFACE.METHOD`
abbrev word_of : List ℕ → MethodRow → List ℕ
word_of name method = name ++ (codes "." ++ method.name)

module _ (side : MessageSide) (n : ℕ) (name : List ℕ) where
  -- the messages of methods of this interface
  abbrev messages : List MethodRow → List (Entry Message)
  messages methods = flat_map (λ (m : MethodRow). message_in side n name m (struct_of side m)) methods

  one_other : (text : List ℕ) (m : MethodRow) (o : Option ℕ) → bytes_eq (word_of name m) text ≡ false
      → AllByRecursion (IsOther text) (message_in side n name m o)
  one_other text m None e = tt
  one_other text m (Some number) e = (e, tt)

  one_means : (m : MethodRow) (number : ℕ) (o : Option ℕ) → o ≡ Some number
      → meaning (message_in side n name m o) (word_of name m) ≡ Some (message_of side n m number)
  one_means m number None e = absurd (cc)
  one_means m number (Some other) e =
      let same : other ≡ number = cc in
      rw (same_text (word_of name m)) (ap (λ (k : ℕ). Some (message_of side n m k)) same)

  -- of the methods of one interface the first with a name is the one
  method_means : (methods : List MethodRow) (m : MethodRow) (number : ℕ) → IsAmong methods m → are_distinct (method_names methods) ≡ true
      → struct_of side m ≡ Some number → meaning (messages methods) (word_of name m) ≡ Some (message_of side n m number)
  method_means [] m number among d s = absurd among
  method_means (x ∷ xs) m number (inl same) d s =
      in_front (message_in side n name x (struct_of side x)) (messages xs) (word_of name m) (message_of side n m number)
      (subst (λ (one : MethodRow). meaning (message_in side n name one (struct_of side one)) (word_of name m) ≡ Some (message_of side n m number)) (sym same)
      (one_means m number (struct_of side m) s))
  method_means (x ∷ xs) m number (inr among) d s =
      let names = first_apart x.name (method_names xs) m.name d (among_map (λ (one : MethodRow). one.name) xs m among) in
      let other = differ (word_of name x) (word_of name m) (λ same. apart x.name m.name names (last_same x.name m.name (same_back name _ _ same))) in
      behind (message_in side n name x (struct_of side x)) (messages xs) (word_of name m) (one_other (word_of name m) x (struct_of side x) other)
      ∙ method_means xs m number among (both_right _ (are_distinct (method_names xs)) d) s
    where
      last_same : (one other : List ℕ) → codes "." ++ one ≡ codes "." ++ other → one ≡ other
      last_same one other e = cc

-- an interface of another name has no method of this word
other_interface : (side : MessageSide) (k : ℕ) (r row : InterfaceRow) (m : MethodRow) → bytes_eq r.name row.name ≡ false
    → HasPlainMethods r → HasPlainMethods row → IsAmong row.methods m → AllByRecursion (IsOther (word_of row.name m)) (messages side k r.name r.methods)
other_interface side k r row m e plain own among =
    all_flat (IsOther (word_of row.name m)) (λ (x : MethodRow). message_in side k r.name x (struct_of side x)) r.methods
    (others r.methods plain.plain)
  where
    last : (methods : List MethodRow) (x : MethodRow) → list_all is_plain (method_names methods) ≡ true → IsAmong methods x → is_plain x.name ≡ true
    last methods x all among = all_at is_plain (method_names methods) x.name all (among_map (λ (one : MethodRow). one.name) methods x among)

    one : (x : MethodRow) → is_plain x.name ≡ true → bytes_eq (word_of r.name x) (word_of row.name m) ≡ false
    one x p =
        differ (word_of r.name x) (word_of row.name m)
        (λ same. apart r.name row.name e (same_front r.name row.name x.name m.name (plain_bytes x.name p)
        (plain_bytes m.name (last row.methods m own.plain among)) same))

    others : (methods : List MethodRow) → list_all is_plain (method_names methods) ≡ true
        → AllByRecursion (λ (x : MethodRow). AllByRecursion (IsOther (word_of row.name m)) (message_in side k r.name x (struct_of side x))) methods
    others [] all = tt
    others (x ∷ xs) all = (
      one_other side k r.name (word_of row.name m) x (struct_of side x) (one x (both_left (is_plain x.name) (list_all is_plain (method_names xs)) all)),
      others xs (both_right (is_plain x.name) (list_all is_plain (method_names xs)) all),
    )

-- of the messages of all interfaces the first with a word is the one
message_from : (side : MessageSide) (k : ℕ) (rows : List InterfaceRow) (n : ℕ) (row : InterfaceRow) (m : MethodRow) (number : ℕ)
    → slice_get rows n ≡ Some row → IsAmong row.methods m → are_distinct (interface_names rows) ≡ true → AllByRecursion HasPlainMethods rows
    → struct_of side m ≡ Some number → meaning (messages_from side k rows) (word_of row.name m) ≡ Some (message_of side (k + n) m number)
message_from side k [] n row m number at among d plain s = absurd (cc)
message_from side k (r ∷ rs) zero row m number at among d plain s =
    let same : row ≡ r = cc in
    let place : k ≡ k + 0 = omega arith in
    let own : IsAmong r.methods m = subst (λ (one : InterfaceRow). IsAmong one.methods m) same among in
    let here = method_means side k r.name r.methods m number own plain.0.distinct s in
    ap (λ (one : InterfaceRow). meaning (messages_from side k (r ∷ rs)) (word_of one.name m)) same
    ∙ in_front (messages side k r.name r.methods) (messages_from side (suc k) rs) (word_of r.name m) (message_of side k m number) here
    ∙ ap (λ (j : ℕ). Some (message_of side j m number)) place
message_from side k (r ∷ rs) (suc n) row m number at among d plain s =
    let there = among_at rs n row at in
    let name = first_apart r.name (interface_names rs) row.name d (among_map (λ (one : InterfaceRow). one.name) rs row there) in
    let others = other_interface side k r row m name plain.0 (each_at HasPlainMethods rs row plain.1 there) among in
    let place : suc k + n ≡ k + suc n = omega arith in
    behind (messages side k r.name r.methods) (messages_from side (suc k) rs) (word_of row.name m) others
    ∙ message_from side (suc k) rs n row m number at among (both_right _ (are_distinct (interface_names rs)) d) plain.1 s
    ∙ ap (λ (j : ℕ). Some (message_of side j m number)) place

-- what is found is among the others, and passes
pub found_passes : {A : Type 0} (test : A → Bool) (xs : List A) (one : A) → find test xs ≡ Some one → IsAmong xs one × (test one ≡ true)
found_passes test [] one e = absurd (cc)
found_passes {A} test (x ∷ xs) one e = go (test x) refl (found_passes test xs one) e
  where
    go : (b : Bool) → test x ≡ b → (find test xs ≡ Some one → IsAmong xs one × (test one ≡ true)) → cond b (Some x) (find test xs) ≡ Some one
        → IsAmong (x ∷ xs) one × (test one ≡ true)
    go true is rest e = let same : x ≡ one = cc in (inl same, ap test (sym same) ∙ is)
    go false is rest e = let next = rest e in (inr next.0, next.1)

-- the interface and the place of a method
pub record HasMethod (interfaces : List InterfaceRow) (n ordinal : ℕ) (method : MethodRow) : Type 0 where
  pub row : InterfaceRow
  pub at : slice_get interfaces n ≡ Some row
  pub among : IsAmong row.methods method
  pub is : method.ordinal ≡ ordinal

pub method_there : (interfaces : List InterfaceRow) (n ordinal : ℕ) (method : MethodRow) → method_in interfaces n ordinal ≡ Some method
    → HasMethod interfaces n ordinal method
method_there interfaces n ordinal method e = go (slice_get interfaces n) refl e
  where
    go : (o : Option InterfaceRow) → slice_get interfaces n ≡ o
        → option_and_then (λ (row : InterfaceRow). find (λ (m : MethodRow). m.ordinal == ordinal) row.methods) o ≡ Some method
        → HasMethod interfaces n ordinal method
    go None at e = absurd (cc)
    go (Some row) at e =
        let found = found_passes (λ (m : MethodRow). m.ordinal == ordinal) row.methods method e in
        record { row = row; at = at; among = found.0; is = eqb-true method.ordinal ordinal found.1 }

-- the words of a side, where what is no word is left
side_words : (schema : Schema) (side : MessageSide) → messages_of (names_of schema) side ≡ that_are_words (messages_from side 0 schema.interfaces)
side_words schema Request = refl
side_words schema Response = refl

-- the word of a method means it, on each side that it has
pub message_means : (schema : Schema) → HasPlainNames schema → (side : MessageSide) (n ordinal : ℕ) (method : MethodRow) (number : ℕ)
    → method_in schema.interfaces n ordinal ≡ Some method → struct_of side method ≡ Some number
    → meaning (messages_of (names_of schema) side) (method_text schema n ordinal)
    ≡ Some (record { target = record { interface = n; method = ordinal; side = side }; parameters = number })
message_means schema plain side n ordinal method number e s =
    let m = method_there schema.interfaces n ordinal method e in
    let there = among_at schema.interfaces n m.row m.at in
    let own = each_at HasPlainMethods schema.interfaces m.row plain.methods there in
    let last = all_at is_plain (method_names m.row.methods) method.name own.plain
    (among_map (λ (one : MethodRow). one.name) m.row.methods method m.among) in
    let word = dotted_word m.row.name method.name (word_bytes m.row.name (word_at schema plain m.row there))
    (no_blanks method.name (plain_bytes method.name last)) in
    let named : method_text schema n ordinal ≡ word_of m.row.name method =
    ap (λ (o : Option MethodRow). interface_name schema n ++ (codes "." ++ unwrap_or (option_map (λ (one : MethodRow). one.name) o) [])) e
    ∙ ap (λ (name : List ℕ). word_of name method) (name_at schema n m.row m.at) in
    let place : 0 + n ≡ n = omega arith in
    ap (meaning (messages_of (names_of schema) side)) named
    ∙ ap (λ (entries : List (Entry Message)). meaning entries (word_of m.row.name method)) (side_words schema side)
    ∙ kept_meaning (messages_from side 0 schema.interfaces) (word_of m.row.name method) word
    ∙ message_from side 0 schema.interfaces n m.row method number m.at m.among plain.distinct plain.methods s
    ∙ ap (λ (j : ℕ). Some (message_of side j method number)) place
    ∙ ap (λ (o : ℕ). Some (record { target = record { interface = n; method = o; side = side }; parameters = number })) m.is
