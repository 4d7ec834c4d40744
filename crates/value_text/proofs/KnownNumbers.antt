-- A number or a tag at the front that is on the list, with no digit behind it, is what the words of the list are read as.
use Rattle.std.proofs.Common.{◌≡◌, ℕ, ℤ, ◌^◌, ◌-◌, ◌<◌, List, [], ◌∷◌, ◌++◌, Ok, Option, Some, map, Bool, true, false, cond, ◌==◌, ◌||◌, inl, inr}
use Rattle.std.proofs.Common.{refl, sym, ap, ◌∙◌, subst, arith, SFits, w32}
use Rattle.std.specs.Prelude.{pos, decimal}
use Rattle.std.specs.Fmt.{signed_decimal}
use Rattle.std.specs.List.{list_any}
use Rattle.std.specs.Ordering.{int_eq}
use Rattle.std.proofs.lemmas.Bool.{eqb-true}
use Rattle.std.proofs.lemmas.Bool.Decides.{nat_tests, Decides-int_eq}
use Rattle.std.proofs.lemmas.List.{append-nil}
use Rattle.mj_schema.specs.KindTrees.{KindTree}
use Rattle.mj_schema.specs.declared.rows.MemberRow.{MemberRow}
use Rattle.mj_schema.specs.declared.rows.UnionFieldRow.{UnionFieldRow}
use Rattle.mj_schema.specs.declared.rows.UnionRow.{UnionRow}
use Rattle.wire_model.specs.Rows.{kind_in, kind_of_tag}
use Rattle.byte_rules.specs.Lang.{Lang, Read, Whole, front_is}
use Rattle.byte_rules.specs.Among.{IsAmong, among}
use Rattle.byte_rules.proofs.Finds.{Free, Outcome}
use Rattle.byte_rules.proofs.Good.{Good}
use Rattle.byte_rules.proofs.Parts.{Parts, parts_words}
use Rattle.byte_rules.proofs.Shown.{Shown, shown_among}
use Rattle.byte_rules.proofs.Tells.{Told, Tells}
use Rattle.value_text.specs.Numbers.{is_digit, numbers, integer, index, is_int32, is_uint32, members_numbers, fields_tags}
use Rattle.value_text.proofs.ListedNumbers.{good_integer, good_enum, good_tag}
use Rattle.value_text.proofs.ListedReads.{is_small}
use Rattle.value_text.proofs.TextParts.{integer_parts}

-- a text with nothing behind it that may go on is read whole
shown_read : {A : Type 0} {S more : ℕ → Bool} (one : Lang A) → Good S more one → (x : A) (w q : List ℕ) → Shown one x w → front_is more q ≡ false
    → one.read (w ++ q) ≡ Ok (x, q)
shown_read {A} {S} {more} one g x w q s stops = of (g.finds Whole K free (w ++ q) [] refl (s Whole K q (refl, refl)))
  where
    K : A → List ℕ → Type 0
    K y r = (y ≡ x) × (r ≡ q)

    free : Free more K
    free y t ts k = subst (λ (l : List ℕ). front_is more l ≡ false) (sym k.1) stops

    of : Outcome Whole K [] (one.read ((w ++ q) ++ [])) → one.read (w ++ q) ≡ Ok (x, q)
    of (inl h) =
        ap (λ (l : List ℕ). one.read l) (sym (append-nil (w ++ q))) ∙ h.3
        ∙ ap (λ (l : List ℕ). Ok (h.0, l)) (append-nil h.1 ∙ h.2.1) ∙ ap (λ (y : A). Ok (y, q)) h.2.0
    of (inr h) = absurd h

-- what was read is a text of its value, and then the rest
read_text : {A : Type 0} (R : A → List ℕ → Type 0) (one : Lang A) → Tells one → Parts R one → (bs rest : List ℕ) (x : A) → one.read bs ≡ Ok (x, rest)
    → (w : List ℕ) × R x w × (bs ≡ w ++ rest)
read_text {A} R one tells parts bs rest x e = of (subst (λ (r : Read A). Told one bs r) e (tells bs))
  where
    K : A → List ℕ → Type 0
    K y r = (y ≡ x) × (r ≡ [])

    of : Told one bs (Ok (x, rest)) → (w : List ℕ) × R x w × (bs ≡ w ++ rest)
    of t =
        let p = parts K (t.0 ++ []) (t.2 Whole K [] (refl, refl)) in
        let front : t.0 ≡ p.1 = sym (append-nil t.0) ∙ p.4 ∙ ap (λ (l : List ℕ). p.1 ++ l) p.5.1 ∙ append-nil p.1 in
        (p.1, subst (λ (y : A). R y p.1) p.5.0 p.3, t.1 ∙ ap (λ (l : List ℕ). l ++ rest) front)

-- numbers
among_numbers : (z : ℤ) (members : List MemberRow) → is_int32 z ≡ true → list_any (λ (member : MemberRow). int_eq member.number z) members ≡ true
    → IsAmong z (members_numbers members)
among_numbers z [] t e = absurd (cc)
among_numbers z (m ∷ ms) t e = of (λ h. among_numbers z ms t h) (int_eq m.number z) refl e
  where
    here : m.number ≡ z → IsAmong z (cond (is_int32 m.number) (m.number ∷ members_numbers ms) (members_numbers ms))
    here same = let small : is_int32 m.number ≡ true = ap is_int32 same ∙ t in rw small (inl (sym same))

    there : (v : Bool) → IsAmong z (members_numbers ms) → IsAmong z (cond v (m.number ∷ members_numbers ms) (members_numbers ms))
    there true i = inr i
    there false i = i

    of : (list_any (λ (member : MemberRow). int_eq member.number z) ms ≡ true → IsAmong z (members_numbers ms)) → (v : Bool) → int_eq m.number z ≡ v
        → (v || list_any (λ (member : MemberRow). int_eq member.number z) ms) ≡ true
        → IsAmong z (cond (is_int32 m.number) (m.number ∷ members_numbers ms) (members_numbers ms))
    of later true same e = here ((Decides-int_eq m.number z).0 same)
    of later false same e = there (is_int32 m.number) (later e)

pub has : (z : ℤ) (members : List MemberRow) → SFits w32 z → list_any (λ (member : MemberRow). int_eq member.number z) members ≡ true
    → IsAmong z (members_numbers members)
has z members f e = among_numbers z members (is_small z f) e

pub known_read : (members : List MemberRow) (bytes rest : List ℕ) (z : ℤ) → (integer (2 ^ 31) (2 ^ 31 - 1)).read bytes ≡ Ok (z, rest)
    → front_is is_digit rest ≡ false → IsAmong z (members_numbers members)
    → (among (pos 0) signed_decimal (members_numbers members)).read bytes ≡ Ok (z, rest)
known_read members bytes rest z e stops listed =
    let one = integer (2 ^ 31) (2 ^ 31 - 1) in
    let zs = map (λ (member : MemberRow). member.number) members in
    let good = good_integer (2 ^ 31) (2 ^ 31 - 1) (omega arith) (omega arith) (omega arith) in
    let t = read_text (λ (z : ℤ) (w : List ℕ). w ≡ signed_decimal z) one good.tells (integer_parts (2 ^ 31) (2 ^ 31 - 1)) bytes rest z e in
    let list = among (pos 0) signed_decimal (members_numbers members) in
    ap (λ (l : List ℕ). list.read l) (t.2 ∙ ap (λ (w : List ℕ). w ++ rest) t.1)
    ∙ shown_read list (good_enum false zs) z (signed_decimal z) rest (shown_among (pos 0) signed_decimal (members_numbers members) z listed) stops

-- tags
pub tag_listed : (fields : List UnionFieldRow) (tag : ℕ) (k : KindTree) → tag < 2 ^ 32 → kind_of_tag fields tag ≡ Some k → IsAmong tag (fields_tags fields)
tag_listed [] tag k h e = absurd (cc)
tag_listed (f ∷ fs) tag k h e = of (λ rest. tag_listed fs tag k h rest) (f.tag == tag) refl e
  where
    here : f.tag ≡ tag → IsAmong tag (cond (is_uint32 f.tag) (f.tag ∷ fields_tags fs) (fields_tags fs))
    here same = let t : is_uint32 f.tag ≡ true = ap is_uint32 same ∙ grind (arith, nat_tests) in rw t (inl (sym same))

    there : (v : Bool) → IsAmong tag (fields_tags fs) → IsAmong tag (cond v (f.tag ∷ fields_tags fs) (fields_tags fs))
    there true i = inr i
    there false i = i

    of : (kind_of_tag fs tag ≡ Some k → IsAmong tag (fields_tags fs)) → (v : Bool) → (f.tag == tag) ≡ v
        → cond v (Some f.kind) (kind_of_tag fs tag) ≡ Some k
        → IsAmong tag (cond (is_uint32 f.tag) (f.tag ∷ fields_tags fs) (fields_tags fs))
    of later true same e = here (eqb-true f.tag tag same)
    of later false same e = there (is_uint32 f.tag) (later e)

pub known_tag_read : (found : Option UnionRow) (bytes rest : List ℕ) (tag : ℕ) (k : KindTree) → index.read bytes ≡ Ok (tag, rest)
    → Some k ≡ kind_in found tag → front_is is_digit rest ≡ false
    → (row : UnionRow) → found ≡ Some row → (among 0 decimal (fields_tags row.fields)).read bytes ≡ Ok (tag, rest)
known_tag_read found bytes rest tag k e is stops row at =
    let t = read_text (λ (n : ℕ) (w : List ℕ). (numbers 0 (2 ^ 32 - 1)).In n × (w ≡ decimal n)) index (good_tag true []).tells
    (parts_words (numbers 0 (2 ^ 32 - 1))) bytes rest tag e in
    let tags = map (λ (field : UnionFieldRow). field.tag) row.fields in
    let list = among 0 decimal (fields_tags row.fields) in
    let small : tag < 2 ^ 32 = omega (arith, t.1.0.1) in
    let held : kind_of_tag row.fields tag ≡ Some k = sym (is ∙ ap (λ (o : Option UnionRow). kind_in o tag) at) in
    ap (λ (l : List ℕ). list.read l) (t.2 ∙ ap (λ (w : List ℕ). w ++ rest) t.1.1)
    ∙ shown_read list (good_tag false tags) tag (decimal tag) rest (shown_among 0 decimal (fields_tags row.fields) tag (tag_listed row.fields tag k small held))
    stops
