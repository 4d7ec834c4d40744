-- Unions, enums and interfaces that nothing changes between: what the older one has, the newer one has too.
use Rattle.std.proofs.Common.{◌≡◌, ℕ, true, false, cond, inl, inr, List, [], ◌∷◌, map, Option, Some, None, refl, subst}
use Rattle.std.specs.Prelude.{ℤ, ◌==◌, ◌||◌, find, is_some}
use Rattle.std.specs.List.{list_any}
use Rattle.std.specs.Ordering.{int_eq}
use Rattle.std.proofs.lemmas.Bool.{eqb-true}
use Rattle.std.proofs.lemmas.Bool.Decides.{Decides-int_eq}
use Rattle.mj_schema.specs.KindTrees.{KindTree}
use Rattle.mj_schema.specs.declared.rows.EnumRow.{EnumRow}
use Rattle.mj_schema.specs.declared.rows.MemberRow.{MemberRow}
use Rattle.mj_schema.specs.declared.rows.MethodRow.{MethodRow}
use Rattle.mj_schema.specs.declared.rows.UnionFieldRow.{UnionFieldRow}
use Rattle.wire_model.specs.Marks.{is_known}
use Rattle.wire_model.specs.Rows.{kind_of_tag}
use Rattle.wire_laws.specs.Carried.{KindFits}
use Rattle.compat_model.specs.declared.pair.Pair.{Pair}
use Rattle.compat_model.specs.declared.reason.Change.TheVariants as changes
use Rattle.compat_model.specs.steps.Among.{IsAmong}
use Rattle.compat_model.specs.Kinds.{is_kept, is_same, kinds_fit, named_in}
use Rattle.compat_model.specs.Members.{first_found, method_at, numbers_of, unless}
use Rattle.compat_model.specs.Changes.{tag_gone, held_changed, tag_changed, member_gone, enum_change, method_gone, reply_changed, response_changed}
use Rattle.compat_model.specs.Pairs.{of_both, tag_pairs, message_pairs, method_pairs}
use Rattle.compat_model.proofs.Lists.{by_test, both_none, none_found, holds}
use Rattle.compat_laws.specs.steps.Reached.{carried}
use Rattle.compat_laws.proofs.Numbers.{rising_signed_has}
use Rattle.compat_laws.proofs.FittingKinds.{AllPairs, kinds_view, same_flag}

-- ## Unions

pub tag_listed : (fs : List UnionFieldRow) (tag : ℕ) (k : KindTree) → kind_of_tag fs tag ≡ Some k
    → IsAmong (map (λ (field : UnionFieldRow). field.tag) fs) tag
tag_listed [] tag k e = absurd cc
tag_listed (f ∷ fs) tag k e =
    by_test (f.tag == tag)
    (λ t. cond t (Some f.kind) (kind_of_tag fs tag) ≡ Some k → IsAmong (map (λ (field : UnionFieldRow). field.tag) (f ∷ fs)) tag)
    (λ is _. inl (eqb-true f.tag tag is)) (λ _ later. inr (tag_listed fs tag k later)) e

-- the newer union has a field of the tag that fits
pub record HasTag (P : Pair → Type 0) (newer : List UnionFieldRow) (tag : ℕ) (k : KindTree) : Type 0 where
  pub other : KindTree
  pub there : kind_of_tag newer tag ≡ Some other
  pub kind : KindFits (carried P) k other

module _ (namesakes : List (Option ℕ)) (P : Pair → Type 0) where
  tag_fits : (newer : List UnionFieldRow) (tag : ℕ) (k : KindTree) (o : Option KindTree) → kind_of_tag newer tag ≡ o
      → unless (is_some o) (changes.TagGone tag) ≡ None → held_changed namesakes tag (Some k) o ≡ None → AllPairs P (of_both [] named_in (Some k) o)
      → HasTag P newer tag k
  tag_fits newer tag k None e gone changed ps = let no : false ≡ true = holds false (changes.TagGone tag) gone in absurd cc
  tag_fits newer tag k (Some l) e gone changed ps = record {
    other = l;
    there = e;
    kind = kinds_view namesakes P k l (holds (kinds_fit namesakes k l) (changes.KindChanged tag) changed) ps;
  }

  -- a tag of which no change is found
  pub has_tag : (older newer : List UnionFieldRow) (tag : ℕ) (k : KindTree) → kind_of_tag older tag ≡ Some k → tag_gone newer tag ≡ None
      → tag_changed namesakes older newer tag ≡ None → AllPairs P (tag_pairs older newer tag) → HasTag P newer tag k
  has_tag older newer tag k e gone changed ps =
      tag_fits newer tag k (kind_of_tag newer tag) refl gone
      (subst (λ (o : Option KindTree). held_changed namesakes tag o (kind_of_tag newer tag) ≡ None) e changed)
      (subst (λ (o : Option KindTree). AllPairs P (of_both [] named_in o (kind_of_tag newer tag))) e ps)

-- ## Enums

number_listed : (ms : List MemberRow) (n : ℤ) → list_any (λ (member : MemberRow). int_eq member.number n) ms ≡ true
    → IsAmong (map (λ (member : MemberRow). member.number) ms) n
number_listed [] n e = absurd cc
number_listed (m ∷ ms) n e =
    by_test (int_eq m.number n)
    (λ t. (t || list_any (λ (member : MemberRow). int_eq member.number n) ms) ≡ true
    → IsAmong (map (λ (member : MemberRow). member.number) (m ∷ ms)) n)
    (λ is _. inl ((Decides-int_eq m.number n).0 is)) (λ _ later. inr (number_listed ms n later)) e

-- each number that the older enum knows, the newer one knows
pub number_known : (a b : EnumRow) → enum_change a b ≡ None → (n : ℤ) → is_known (Some a) n ≡ true → is_known (Some b) n ≡ true
number_known a b none n known =
    let parts = both_none (unless (is_kept a.extensible b.extensible) changes.ExtensibleGone) (first_found (member_gone b) (numbers_of a.members)) none in
    let kept : is_kept a.extensible b.extensible ≡ true = holds (is_kept a.extensible b.extensible) changes.ExtensibleGone parts.0 in
    by_test a.extensible
    (λ t. (t || list_any (λ (member : MemberRow). int_eq member.number n) a.members) ≡ true → is_kept t b.extensible ≡ true
    → is_known (Some b) n ≡ true)
    (λ _ _ fits. let also : b.extensible ≡ true = fits in rw also refl)
    (λ _ has _. holds (is_known (Some b) n) (changes.MemberGone n)
    (none_found (member_gone b) (numbers_of a.members) n parts.1
    (rising_signed_has (map (λ (member : MemberRow). member.number) a.members) n (number_listed a.members n has)))) known kept

-- ## Interfaces

pub ordinal_listed : (ms : List MethodRow) (ordinal : ℕ) (m : MethodRow) → method_at ms ordinal ≡ Some m
    → IsAmong (map (λ (method : MethodRow). method.ordinal) ms) ordinal
ordinal_listed [] ordinal m e = absurd cc
ordinal_listed (x ∷ ms) ordinal m e =
    by_test (x.ordinal == ordinal)
    (λ t. cond t (Some x) (find (λ (method : MethodRow). method.ordinal == ordinal) ms) ≡ Some m
    → IsAmong (map (λ (method : MethodRow). method.ordinal) (x ∷ ms)) ordinal)
    (λ is _. inl (eqb-true x.ordinal ordinal is)) (λ _ later. inr (ordinal_listed ms ordinal m later)) e

-- the newer interface has a method of the ordinal, whose structs are among the pairs
pub record HasMethod (P : Pair → Type 0) (newer : List MethodRow) (ordinal : ℕ) (m : MethodRow) : Type 0 where
  pub other : MethodRow
  pub there : method_at newer ordinal ≡ Some other
  pub response : is_some m.response ≡ is_some other.response
  pub pairs : AllPairs P (message_pairs m other)

method_fits : (P : Pair → Type 0) (newer : List MethodRow) (ordinal : ℕ) (m : MethodRow) (o : Option MethodRow) → method_at newer ordinal ≡ o
    → unless (is_some o) (changes.MethodGone ordinal) ≡ None → reply_changed ordinal (Some m) o ≡ None
    → AllPairs P (of_both [] message_pairs (Some m) o) → HasMethod P newer ordinal m
method_fits P newer ordinal m None e gone changed ps = let no : false ≡ true = holds false (changes.MethodGone ordinal) gone in absurd cc
method_fits P newer ordinal m (Some n) e gone changed ps = record {
  other = n;
  there = e;
  response =
      same_flag (is_some m.response) (is_some n.response)
      (holds (is_same (is_some m.response) (is_some n.response)) (changes.ResponseChanged ordinal) changed);
  pairs = ps;
}

-- an ordinal of which no change is found
pub has_method : (P : Pair → Type 0) (older newer : List MethodRow) (ordinal : ℕ) (m : MethodRow) → method_at older ordinal ≡ Some m
    → method_gone newer ordinal ≡ None → response_changed older newer ordinal ≡ None → AllPairs P (method_pairs older newer ordinal)
    → HasMethod P newer ordinal m
has_method P older newer ordinal m e gone changed ps =
    method_fits P newer ordinal m (method_at newer ordinal) refl gone
    (subst (λ (o : Option MethodRow). reply_changed ordinal o (method_at newer ordinal) ≡ None) e changed)
    (subst (λ (o : Option MethodRow). AllPairs P (of_both [] message_pairs o (method_at newer ordinal))) e ps)
