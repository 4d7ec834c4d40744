-- Where no ordinal is refused for standing twice, the numbers of rows are different.
use Rattle.std.proofs.Common.{◌≡◌, ◌+◌, ℕ, List, [], ◌∷◌, ◌++◌, map, refl, sym, ap, subst}
use Rattle.std.specs.Prelude.{Bool, true, false, ◌||◌, ◌==◌, Option, Some, None, if◌then◌else◌}
use Rattle.std.specs.List.{list_any, flat_map}
use Rattle.std.specs.Option.{option_map, option_to_list}
use Rattle.std.proofs.lemmas.Bool.{eqb-true, eq-eqb}
use Rattle.std.proofs.lemmas.Option.{same_Some}
use Rattle.mojom_ast.specs.declared.attributes.Attribute.{Attribute}
use Rattle.mojom_ast.specs.declared.definitions.InterfaceMember.{InterfaceMember}
use Rattle.mojom_ast.specs.declared.definitions.InterfaceItem.{InterfaceItem}
use Rattle.mojom_ast.specs.declared.definitions.InterfaceItem.TheVariants as interface_items
use Rattle.mj_schema.specs.KindTrees.{KindTree}
use Rattle.mj_schema.specs.WellFormed.{are_different}
use Rattle.mj_schema.specs.declared.rows.UnionFieldRow.{UnionFieldRow}
use Rattle.mj_schema.specs.declared.rows.MethodRow.{MethodRow}
use Rattle.draft_rows.specs.declared.counts.FileRows.{FileRows}
use Rattle.kind_scope.specs.Scopes.{Scope}
use Rattle.kind_scope.specs.Members.{Member, Numbered, held, ordinal_at, numbered_from, numbered, method_in, method_of}
use Rattle.kind_refusals.specs.OrdinalRefusals.{is_among, doubled, ordinals_of}
use Rattle.draft_rows.specs.RowCounts.{structs_of, method_among, methods_in}
use Rattle.draft_rows.specs.Rows.{kind_in, union_field_with, union_field_row, found_of, method_rows}
use Rattle.schema_laws.proofs.Quiet.{both_empty}

-- numbers before

or_more : (b one two : Bool) → (one ≡ true → two ≡ true) → (b || one) ≡ true → (b || two) ≡ true
or_more true one two more e = refl
or_more false one two more e = more e

or_back : (b one : Bool) → one ≡ true → (b || one) ≡ true
or_back true one e = refl
or_back false one e = e

more_among : (before : List ℕ) (last n : ℕ) → is_among before n ≡ true → is_among (before ++ last ∷ []) n ≡ true
more_among [] last n e = absurd cc
more_among (other ∷ others) last n e =
    or_more (other == n) (is_among others n) (is_among (others ++ last ∷ []) n) (more_among others last n) e

last_among : (before : List ℕ) (last : ℕ) → is_among (before ++ last ∷ []) last ≡ true
last_among [] last = rw (eq-eqb last last refl) refl
last_among (other ∷ others) last = or_back (other == last) (is_among (others ++ last ∷ []) last) (last_among others last)

-- a number that is among these, and one that isn't
differs : (before : List ℕ) (n m : ℕ) → is_among before n ≡ true → is_among before m ≡ false → (n == m) ≡ false
differs before n m among absent = go (n == m) refl
  where
    go : (b : Bool) → (n == m) ≡ b → b ≡ false
    go false e = refl
    go true e =
        let bad : is_among before m ≡ true = subst (λ (k : ℕ). is_among before k ≡ true) (eqb-true n m e) among in
        absurd cc

none_chosen : {A : Type 0} (b : Bool) (one : A) → (if b then one ∷ [] else []) ≡ [] → b ≡ false
none_chosen false one e = refl
none_chosen true one e = absurd cc

-- what is found of each has its ordinal as its number
abbrev pub KeepsOrdinals : {B : Type 0} → (Numbered → Option B) → (B → ℕ) → Type 0
KeepsOrdinals {B} look number = (one : Numbered) (b : B) → look one ≡ Some b → number b ≡ one.ordinal

absent_one : {B : Type 0} (number : B → ℕ) (n ordinal : ℕ) (rest : List B) (found : Option B) → ((b : B) → found ≡ Some b → number b ≡ ordinal)
    → (n == ordinal) ≡ false → list_any (λ (other : ℕ). n == other) (map number rest) ≡ false
    → list_any (λ (other : ℕ). n == other) (map number (option_to_list found ++ rest)) ≡ false
absent_one number n ordinal rest None same apart e = e
absent_one number n ordinal rest (Some b) same apart e =
    let other : (n == number b) ≡ false = subst (λ (k : ℕ). (n == k) ≡ false) (sym (same b refl)) apart in rw other e

-- a number that stands before is none of those behind
absent : {B : Type 0} (look : Numbered → Option B) (number : B → ℕ) → KeepsOrdinals look number → (before : List ℕ) (ones : List Numbered) (n : ℕ)
    → is_among before n ≡ true → doubled before ones ≡ [] → list_any (λ (other : ℕ). n == other) (map number (found_of look ones)) ≡ false
absent look number keeps before [] n among e = refl
absent look number keeps before (one ∷ others) n among e =
    let parts = both_empty (if is_among before one.ordinal then one ∷ [] else []) (doubled (before ++ one.ordinal ∷ []) others) e in
    let apart = differs before n one.ordinal among (none_chosen (is_among before one.ordinal) one parts.0) in
    absent_one number n one.ordinal (found_of look others) (look one) (keeps one) apart
    (absent look number keeps (before ++ one.ordinal ∷ []) others n (more_among before one.ordinal n among) parts.1)

different_one : {B : Type 0} (number : B → ℕ) (ordinal : ℕ) (rest : List B) (found : Option B) → ((b : B) → found ≡ Some b → number b ≡ ordinal)
    → list_any (λ (other : ℕ). ordinal == other) (map number rest) ≡ false → are_different (map number rest) ≡ true
    → are_different (map number (option_to_list found ++ rest)) ≡ true
different_one number ordinal rest None same away e = e
different_one number ordinal rest (Some b) same away e =
    let other : list_any (λ (k : ℕ). number b == k) (map number rest) ≡ false =
    subst (λ (o : ℕ). list_any (λ (k : ℕ). o == k) (map number rest) ≡ false) (sym (same b refl)) away in
    rw other e

pub different : {B : Type 0} (look : Numbered → Option B) (number : B → ℕ) → KeepsOrdinals look number → (before : List ℕ) (ones : List Numbered)
    → doubled before ones ≡ [] → are_different (map number (found_of look ones)) ≡ true
different look number keeps before [] e = refl
different look number keeps before (one ∷ others) e =
    let parts = both_empty (if is_among before one.ordinal then one ∷ [] else []) (doubled (before ++ one.ordinal ∷ []) others) e in
    let now = before ++ one.ordinal ∷ [] in
    different_one number one.ordinal (found_of look others) (look one) (keeps one)
    (absent look number keeps now others one.ordinal (last_among before one.ordinal) parts.1) (different look number keeps now others parts.1)

-- unions

tag_kept : (one : Numbered) (found : Option KindTree) (b : UnionFieldRow) → option_map (union_field_with one) found ≡ Some b → b.tag ≡ one.ordinal
tag_kept one None b e = absurd cc
tag_kept one (Some kind) b e = ap (λ (f : UnionFieldRow). f.tag) (sym (same_Some (union_field_with one kind) b e))

pub different_tags : (rows : List FileRows) (scope : Scope) (members : List Member) → doubled [] (numbered members) ≡ []
    → are_different (map (λ (f : UnionFieldRow). f.tag) (found_of (union_field_row rows scope) (numbered members))) ≡ true
different_tags rows scope members e =
    different (union_field_row rows scope) (λ (f : UnionFieldRow). f.tag) (λ one b is. tag_kept one (kind_in rows scope one.member.kind) b is) []
    (numbered members) e

-- interfaces

abbrev method_ordinals : List MethodRow → List ℕ
method_ordinals rows = map (λ (m : MethodRow). m.ordinal) rows

ordinals_item : (attributes : List Attribute) (item : InterfaceItem) (ms : List InterfaceMember)
    → ((next first : ℕ) → method_ordinals (method_rows next first (methods_in ms)) ≡ ordinals_of (numbered_from next (flat_map method_of ms)))
    → (next first : ℕ)
    → method_ordinals (method_rows next first (method_among item ++ methods_in ms))
    ≡ ordinals_of (numbered_from next (method_in attributes item ++ flat_map method_of ms))
ordinals_item attributes (interface_items.Method m) ms rest next first =
    ap (λ (ns : List ℕ). ordinal_at next m.ordinal ∷ ns) (rest (held (ordinal_at next m.ordinal + 1)) (first + structs_of m))
ordinals_item attributes (interface_items.Const c) ms rest next first = rest next first
ordinals_item attributes (interface_items.Enum e) ms rest next first = rest next first

-- the rows of methods have their ordinals
ordinals_kept : (ms : List InterfaceMember) (next first : ℕ)
    → method_ordinals (method_rows next first (methods_in ms)) ≡ ordinals_of (numbered_from next (flat_map method_of ms))
ordinals_kept [] next first = refl
ordinals_kept (m ∷ ms) next first = ordinals_item m.attributes m.item ms (ordinals_kept ms) next first

all_found : (ones : List Numbered) → found_of (λ (one : Numbered). Some one) ones ≡ ones
all_found [] = refl
all_found (one ∷ ones) = ap (λ (rest : List Numbered). one ∷ rest) (all_found ones)

pub different_ordinals : (ms : List InterfaceMember) (first : ℕ) → doubled [] (numbered (flat_map method_of ms)) ≡ []
    → are_different (method_ordinals (method_rows 0 first (methods_in ms))) ≡ true
different_ordinals ms first e =
    let ones = numbered (flat_map method_of ms) in
    let all = different (λ (one : Numbered). Some one) (λ (one : Numbered). one.ordinal)
    (λ one b is. ap (λ (o : Numbered). o.ordinal) (sym (same_Some one b is))) [] ones e in
    let listed : are_different (ordinals_of ones) ≡ true = subst (λ (xs : List Numbered). are_different (ordinals_of xs) ≡ true) (all_found ones) all in
    subst (λ (ns : List ℕ). are_different ns ≡ true) (sym (ordinals_kept ms 0 first)) listed
