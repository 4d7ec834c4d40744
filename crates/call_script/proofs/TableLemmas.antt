-- The table of names, and the numbers that are found in it.
use Rattle.std.proofs.Common.{◌≡◌, ◌<◌, ◌≤◌, ◌+◌, ℕ, zero, suc, List, [], ◌∷◌, ◌++◌, length, refl, sym, ◌∙◌, ap, subst, arith, append_assoc}
use Rattle.std.proofs.Common.{length-append, add-one}
use Rattle.std.specs.Prelude.{Bool, true, false, not, ◌||◌, ◌&&◌, Option, Some, None, IfSome, IfNone, MatchOption, if◌then◌else◌, slice_get, map}
use Rattle.std.specs.List.{list_all, list_any, range_with_len}
use Rattle.std.specs.Option.{option_or}
use Rattle.std.specs.Str.{bytes_eq}
use Rattle.indexmap.specs.IndexMap.{get_by_text, index_map_len}
use Rattle.call_script.specs.declared.name_table.NameTable.{NameTable}
use Rattle.call_script.specs.declared.name_table.Scope.{Scope}
use Rattle.call_script.specs.declared.script.NameId.{NameId}
use Rattle.script_words.specs.Letters.{own_word}
use Rattle.call_script.specs.Script.{has_name, doubled, meant, IsNamed, AreNamed}
use Rattle.call_script.specs.steps.Names.{IsTable, AddsOwn, Spares, HasAt, HasNone, FindsAt, FindsNone}
use Rattle.std.proofs.lemmas.List.{map-append}
use Rattle.call_script.proofs.NameLemmas.{has_none, has_some, number_more, doubled_more, doubled_front, number_front, number_behind, number_nowhere}
use Rattle.call_script.proofs.NameLemmas.{named_front}

-- a name that has a number is set again
pub stands : (table : NameTable) (names : List (List ℕ)) (name : List ℕ) (n : ℕ) → IsTable table names → get_by_text table.numbers name ≡ Some n
    → doubled names (name ∷ []) ≡ true
stands table names name n t g = let h = has_some name names n (sym (t.numbers name) ∙ g) in rw h refl

-- a name that has none is added
pub added : (table new : NameTable) (names : List (List ℕ)) (name : List ℕ) (number : ℕ)
    → IsTable table names → get_by_text table.numbers name ≡ None → number ≡ index_map_len table.numbers
    → ((q : List ℕ) → get_by_text new.numbers q ≡ option_or (get_by_text table.numbers q) (if bytes_eq q name then Some number else None))
    → index_map_len new.numbers ≡ index_map_len table.numbers + 1
    → (doubled names (name ∷ []) ≡ false) × IsTable new (names ++ name ∷ [])
added table new names name number t fresh next noted len =
    let h = has_none name names (sym (t.numbers name) ∙ fresh) in (
      rw h refl,
      record {
        numbers = λ q. noted q ∙ rw (t.numbers q, next, t.count) (sym (number_more q name names));
        count = len ∙ (ap (λ n. n + 1) t.count ∙ sym (length-append names (name ∷ [])));
      },
    )

-- one more name is added
pub add_next : (start table new : NameTable) (xs : List (List ℕ)) (x : List ℕ)
    → ((names : List (List ℕ)) → IsTable start names → (doubled names xs ≡ false) × IsTable table (names ++ xs))
    → ((names : List (List ℕ)) → IsTable table names → (doubled names (x ∷ []) ≡ false) × IsTable new (names ++ x ∷ []))
    → (names : List (List ℕ)) → IsTable start names → (doubled names (xs ++ x ∷ []) ≡ false) × IsTable new (names ++ (xs ++ x ∷ []))
add_next start table new xs x before now names t =
    let b = before names t in
    let n = now (names ++ xs) b.1 in (
      doubled_more names xs x ∙ rw b.0 (or_left (has_name (names ++ xs) x) (doubled ((names ++ xs) ++ x ∷ []) []) n.0),
      subst (IsTable new)
          (append_assoc names xs (x ∷ [])) n.1,
    )
  where
    or_left : (a b : Bool) → (a || b) ≡ false → a ≡ false
    or_left true b h = absurd cc
    or_left false b h = refl

-- one more name stands there already
pub add_fails : (start table : NameTable) (xs rest : List (List ℕ)) (x : List ℕ)
    → ((names : List (List ℕ)) → IsTable start names → (doubled names xs ≡ false) × IsTable table (names ++ xs))
    → ((names : List (List ℕ)) → IsTable table names → doubled names (x ∷ []) ≡ true)
    → (names : List (List ℕ)) → IsTable start names → doubled names ((xs ++ x ∷ []) ++ rest) ≡ true
add_fails start table xs rest x before now names t =
    let b = before names t in
    let n : has_name (names ++ xs) x ≡ true = or_false (has_name (names ++ xs) x) (now (names ++ xs) b.1) in
    doubled_front names (xs ++ x ∷ []) rest (doubled_more names xs x ∙ rw (n, b.0) refl)
  where
    or_false : (a : Bool) → (a || false) ≡ true → a ≡ true
    or_false true h = refl
    or_false false h = absurd cc

-- the same for names with a sequence before them
pub own_next : (seq : ℕ) (start table new : NameTable) (xs : List (List ℕ)) (x : List ℕ)
    → ((names : List (List ℕ)) → IsTable start names
    → (doubled names (map (own_word seq) xs) ≡ false) × IsTable table (names ++ map (own_word seq) xs))
    → ((names : List (List ℕ)) → IsTable table names → (doubled names (own_word seq x ∷ []) ≡ false) × IsTable new (names ++ own_word seq x ∷ []))
    → (names : List (List ℕ)) → IsTable start names
    → (doubled names (map (own_word seq) (xs ++ x ∷ [])) ≡ false) × IsTable new (names ++ map (own_word seq) (xs ++ x ∷ []))
own_next seq start table new xs x before now names t =
    rw (map-append (own_word seq) xs (x ∷ [])) (add_next start table new (map (own_word seq) xs) (own_word seq x) before now names t)

pub own_fails : (seq : ℕ) (start table : NameTable) (xs rest : List (List ℕ)) (x : List ℕ)
    → ((names : List (List ℕ)) → IsTable start names
    → (doubled names (map (own_word seq) xs) ≡ false) × IsTable table (names ++ map (own_word seq) xs))
    → ((names : List (List ℕ)) → IsTable table names → doubled names (own_word seq x ∷ []) ≡ true)
    → (names : List (List ℕ)) → IsTable start names → doubled names (map (own_word seq) ((xs ++ x ∷ []) ++ rest)) ≡ true
own_fails seq start table xs rest x before now names t =
    rw (map-append (own_word seq) (xs ++ x ∷ []) rest, map-append (own_word seq) xs (x ∷ []))
    (add_fails start table (map (own_word seq) xs) (map (own_word seq) rest) (own_word seq x) before now names t)

-- one that a join sets is refused
pub own_set : (table new : NameTable) (seq : ℕ) (words : List (List ℕ)) → Spares table words false → AddsOwn table new seq words false
own_set table new seq words spares names t = go (list_any (has_name names) words) (spares names t)
  where
    go : (b : Bool) → not b ≡ false → (b || doubled names (map (own_word seq) words)) ≡ true
    go true h = refl
    go false h = absurd cc

-- what was found stands there, under its number
pub found_front : (table : NameTable) (count : ℕ) (text : List ℕ) (id : NameId) → get_by_text table.numbers text ≡ Some id.0 → id.0 < count
    → HasAt table count text id
found_front table count text id got below names own t k =
    let n = number_front text names own id.0 (sym (t.numbers text) ∙ got) (omega (arith, below, k)) in
    (has_some text names id.0 n, named_front text names own id.0 n)

pub found_behind : (table : NameTable) (count : ℕ) (text : List ℕ) (n : ℕ) → get_by_text table.numbers text ≡ Some n → count ≤ n → HasNone table count text
found_behind table count text n got above names own t k =
    has_none text names (number_behind text names own n (sym (t.numbers text) ∙ got) (omega (arith, above, k)))

pub found_nowhere : (table : NameTable) (count : ℕ) (text : List ℕ) → get_by_text table.numbers text ≡ None → HasNone table count text
found_nowhere table count text got names own t k = has_none text names (number_nowhere text names own (sym (t.numbers text) ∙ got))

-- what a name means
meant_join : (names : List (List ℕ)) (seq : ℕ) (name : List ℕ) → has_name names name ≡ true → meant names seq name ≡ name
unfolding meant
meant_join names seq name h = rw h refl

meant_own : (names : List (List ℕ)) (seq : ℕ) (name : List ℕ) → has_name names name ≡ false → meant names seq name ≡ own_word seq name
unfolding meant
meant_own names seq name h = rw h refl

-- it is found
pub finds_join : (scope : Scope) (name : List ℕ) (id : NameId) → HasAt scope.table.now scope.count name id → FindsAt scope name id
finds_join scope name id at names own t k =
    let f = at names own t k in
    let is = meant_join names scope.seq name f.0 in
    (ap (has_name names) is ∙ f.0, subst (IsNamed (names ++ own) id) (sym is) f.1)

pub finds_own : (scope : Scope) (name : List ℕ) (id : NameId) → HasNone scope.table.now scope.count name
    → HasAt scope.table.now scope.count (own_word scope.seq name) id → FindsAt scope name id
finds_own scope name id none at names own t k =
    let f = at names own t k in
    let is = meant_own names scope.seq name (none names own t k) in
    (ap (has_name names) is ∙ f.0, subst (IsNamed (names ++ own) id) (sym is) f.1)

pub finds_none : (scope : Scope) (name : List ℕ) → HasNone scope.table.now scope.count name
    → HasNone scope.table.now scope.count (own_word scope.seq name) → FindsNone scope name
finds_none scope name none also names own t k = ap (has_name names) (meant_own names scope.seq name (none names own t k)) ∙ also names own t k

-- either way
pub finds_either : (scope : Scope) (name own : List ℕ) (found : Option NameId) → own ≡ own_word scope.seq name
    → HasNone scope.table.now scope.count name → IfSome found (HasAt scope.table.now scope.count own)
    → IfNone found (HasNone scope.table.now scope.count own) → MatchOption found (FindsNone scope name) (FindsAt scope name)
finds_either scope name own (Some id) is none at not = finds_own scope name id none (subst (λ w. HasAt scope.table.now scope.count w id) is at)
finds_either scope name own None is none at not = finds_none scope name none (subst (HasNone scope.table.now scope.count) is not)

-- the item behind others
pub slice_behind : (xs ys : List (List ℕ)) (y : List ℕ) (n : ℕ) → n ≡ length xs → slice_get (xs ++ y ∷ ys) n ≡ Some y
slice_behind [] ys y n e = rw e refl
slice_behind (x ∷ xs) ys y n e = rw e (slice_behind xs ys y (length xs) refl)

pub slice_second : (xs : List (List ℕ)) (x y : List ℕ) (n : ℕ) → n ≡ length xs + 1 → slice_get (xs ++ x ∷ y ∷ []) n ≡ Some y
slice_second [] x y n e = rw e refl
slice_second (z ∷ xs) x y n e = let s : n ≡ suc (length xs + 1) = omega (arith, e) in rw s (slice_second xs x y (length xs + 1) refl)

-- one more name is found
pub named_more : (all : List (List ℕ)) (ids : List NameId) (words : List (List ℕ)) (id : NameId) (word : List ℕ)
    → AreNamed all ids words → IsNamed all id word → AreNamed all (ids ++ id ∷ []) (words ++ word ∷ [])
named_more all [] [] id word a i = (i, tt)
named_more all [] (w ∷ words) id word a i = absurd a
named_more all (k ∷ ids) [] id word a i = absurd a
named_more all (k ∷ ids) (w ∷ words) id word a i = (a.0, named_more all ids words id word a.1 i)

pub all_more : (p : List ℕ → Bool) (words : List (List ℕ)) (word : List ℕ) → list_all p words ≡ true → p word ≡ true → list_all p (words ++ word ∷ []) ≡ true
all_more p [] word h k = rw k refl
all_more p (w ∷ words) word h k = go (p w) (λ g. all_more p words word g k) h
  where
    go : (b : Bool) → (list_all p words ≡ true → list_all p (words ++ word ∷ []) ≡ true)
        → (b && list_all p words) ≡ true → (b && list_all p (words ++ word ∷ [])) ≡ true
    go true inner h = inner h
    go false inner h = absurd cc

pub not_all : (p : List ℕ → Bool) (words rest : List (List ℕ)) (word : List ℕ) → p word ≡ false → list_all p ((words ++ word ∷ []) ++ rest) ≡ false
not_all p [] rest word k = rw k refl
not_all p (w ∷ words) rest word k = go (p w) (not_all p words rest word k)
  where
    go : (b : Bool) → list_all p ((words ++ word ∷ []) ++ rest) ≡ false → (b && list_all p ((words ++ word ∷ []) ++ rest)) ≡ false
    go true inner = inner
    go false inner = refl

-- one more of which all or none is so
pub any_more : (p : List ℕ → Bool) (words : List (List ℕ)) (word : List ℕ) → list_any p words ≡ false → p word ≡ false → list_any p (words ++ word ∷ []) ≡ false
any_more p [] word h k = rw k refl
any_more p (w ∷ words) word h k = go (p w) (λ g. any_more p words word g k) h
  where
    go : (b : Bool) → (list_any p words ≡ false → list_any p (words ++ word ∷ []) ≡ false)
        → (b || list_any p words) ≡ false → (b || list_any p (words ++ word ∷ [])) ≡ false
    go false inner h = inner h
    go true inner h = absurd cc

pub any_at : (p : List ℕ → Bool) (words rest : List (List ℕ)) (word : List ℕ) → p word ≡ true → list_any p ((words ++ word ∷ []) ++ rest) ≡ true
any_at p [] rest word k = rw k refl
any_at p (w ∷ words) rest word k = go (p w) (any_at p words rest word k)
  where
    go : (b : Bool) → list_any p ((words ++ word ∷ []) ++ rest) ≡ true → (b || list_any p ((words ++ word ∷ []) ++ rest)) ≡ true
    go true inner = refl
    go false inner = inner

-- one more name is found, by what it means
pub meant_more : (all : List (List ℕ)) (mean : List ℕ → List ℕ) (ids : List NameId) (words : List (List ℕ)) (id : NameId) (word : List ℕ)
    → AreNamed all ids (map mean words) → IsNamed all id (mean word) → AreNamed all (ids ++ id ∷ []) (map mean (words ++ word ∷ []))
meant_more all mean ids words id word a i =
    subst (AreNamed all (ids ++ id ∷ [])) (sym (map-append mean words (word ∷ []))) (named_more all ids (map mean words) id (mean word) a i)

-- numbers that follow one another are those of a line's own names
pub named_range : (names words : List (List ℕ)) (ids : List NameId) → map (λ (id : NameId). id.0) ids ≡ range_with_len (length names) (length words)
    → AreNamed (names ++ words) ids words
named_range names [] [] e = tt
named_range names [] (id ∷ ids) e = absurd cc
named_range names (w ∷ words) [] e = absurd cc
named_range names (w ∷ words) (id ∷ ids) e =
    let first : id.0 ≡ length names = cc in
    let rest : map (λ (id : NameId). id.0) ids ≡ range_with_len (length names + 1) (length words) = cc in
    let longer : length (names ++ w ∷ []) ≡ length names + 1 = length-append names (w ∷ []) in (
      slice_behind names words w id.0 first,
      subst (λ all. AreNamed all ids words) (append_assoc names (w ∷ []) words) (named_range (names ++ w ∷ []) words ids (rw longer rest)),
    )

-- one more number
pub range_suc : (first count : ℕ) → range_with_len first (suc count) ≡ range_with_len first count ++ (first + count) ∷ []
range_suc first zero = ap (λ n. n ∷ []) (omega arith)
range_suc first (suc count) =
    let next : first + 1 + count ≡ first + suc count = omega arith in
    ap (λ ns. first ∷ ns) (range_suc (first + 1) count ∙ ap (λ n. range_with_len (first + 1) count ++ n ∷ []) next)

pub ids_more : (old new : List NameId) (id : NameId) (first count : ℕ) → map (λ (id : NameId). id.0) old ≡ range_with_len first count
    → new ≡ old ++ id ∷ [] → id.0 ≡ first + count → map (λ (id : NameId). id.0) new ≡ range_with_len first (count + 1)
ids_more old new id first count before more is =
    rw (more, map-append, before, is, add-one) (sym (range_suc first count))
