-- The order of causes, by which a map of lists finds one, and what a change of one list makes of all.
use Rattle.std.proofs.Common.{◌≡◌, ℕ, Bool, true, false, List, [], ◌∷◌, ◌++◌, refl, sym, ap, ◌∙◌, subst, Some, None}
use Rattle.std.specs.Prelude.{◌==◌, ◌&&◌, if◌then◌else◌, cond, is_some, Option, Result, Ok, Err, OnOk, OnErr}
use Rattle.std.specs.BTreeMap.{BTreeMap, get, is_at, Updates}
use Rattle.std.specs.declared.cmp.Ordering.{Ordering}
use Rattle.std.specs.Ordering.{nat_cmp}
use Rattle.std.proofs.lemmas.Bool.{eqb-true}
use Rattle.std.proofs.lemmas.List.Folds.{list_any-append}
use Rattle.mj_base.specs.declared.ids.EndId.{EndId}
use Rattle.handle_table.specs.Things.{same_end}
use Rattle.handle_table.proofs.ThingsLemmas.{and_left, and_right, or_left, or_right, same_end-refl, same_end-true}
use Rattle.bind_model.proofs.NameOrder.{both_equal, found_by, tied, updated_by}
use Rattle.bind_core.specs.EndSets.{has_end}
use Rattle.bind_core.specs.contracts.waiting.CauseOrd.TheImpl as cause_order
use Rattle.bind_core.specs.declared.waiting.Cause.{Cause}
use Rattle.bind_core.specs.Causes.{Grows, Lists, ends_for, ends_in, has_list, list_of, same_cause}
use Rattle.bind_core.proofs.EndOrder.{at_is, end_cmp}

-- ## Causes in order

abbrev pub cause_cmp : Cause → Cause → Ordering
cause_cmp = (cause_order.ghosts).cmp

-- causes that compare alike are one
pub alike : (a b : Cause) → is_at (cause_cmp a) b ≡ same_cause a b
alike a b = both_equal (end_cmp a.end b.end) (nat_cmp a.what b.what) ∙ (λ i. at_is a.end b.end i && tied a.what b.what i)

pub found : (m : BTreeMap Cause (List EndId)) (c : Cause) → list_of m.entries c ≡ get cause_cmp m c
found m c = found_by cause_cmp same_cause alike m c

-- the list that is found
pub found_list : (m : BTreeMap Cause (List EndId)) (lists : Lists) (c : Cause) (list : Option (List EndId)) → m.entries ≡ lists
    → list ≡ get cause_cmp m c → list_of lists c ≡ list
found_list m lists c list e h = ap (λ (ls : Lists). list_of ls c) (sym e) ∙ (found m c ∙ sym h)

-- there is a list where one is asked for
pub no_list : (m : BTreeMap Cause (List EndId)) (lists : Lists) (c : Cause) → m.entries ≡ lists → None ≡ get cause_cmp m c → has_list lists c ≡ true → ⊥
no_list m lists c e none there =
    let a : has_list lists c ≡ false = ap (λ (o : Option (List EndId)). is_some o) (found_list m lists c None e none) in
    cc

-- two causes that are the same are one
pub same_cause-true : (a b : Cause) → same_cause a b ≡ true → a ≡ b
same_cause-true a b h =
    let x : a.end ≡ b.end = same_end-true a.end b.end (and_left (same_end a.end b.end) (a.what == b.what) h) in
    let n : a.what ≡ b.what = eqb-true a.what b.what (and_right (same_end a.end b.end) (a.what == b.what) h) in
    let first : a ≡ record { end = b.end; what = a.what } = ap (λ (e : EndId). record { end = e; what = a.what }) x in
    first ∙ ap (λ (k : ℕ). record { end = b.end; what = k }) n

-- ## Ends in lists

pub has_more : (xs ys : List EndId) (x : EndId) → has_end xs x ≡ true → has_end (xs ++ ys) x ≡ true
has_more xs ys x h = rw list_any-append (or_left (has_end xs x) (has_end ys x) h)

pub has_last : (xs : List EndId) (x : EndId) → has_end (xs ++ x ∷ []) x ≡ true
has_last xs x = rw list_any-append (or_right (has_end xs x) (has_end (x ∷ []) x) (or_left (same_end x x) false (same_end-refl x)))

module _ (old new : BTreeMap Cause (List EndId)) (cause : Cause) (now : List EndId) (update : Updates cause_cmp old new cause (Some now)) where
  updated : (c : Cause) → list_of new.entries c ≡ cond (same_cause cause c) (Some now) (list_of old.entries c)
  updated c = updated_by cause_cmp same_cause alike old new cause (Some now) update c

  stands : list_of new.entries cause ≡ Some now
  stands = found new cause ∙ update.1

  -- there is a list
  pub placed : has_list new.entries cause ≡ true
  placed = ap (λ (o : Option (List EndId)). is_some o) stands

  pub now_for : ends_for new.entries cause ≡ now
  now_for = ap ends_in stands

  -- two causes that are one have one list
  same_list : (c : Cause) → same_cause cause c ≡ true → list_of old.entries cause ≡ list_of old.entries c
  same_list c e = ap (λ (d : Cause). list_of old.entries d) (same_cause-true cause c e)

  -- an empty list that is new is as none
  pub placed_same : now ≡ [] → has_list old.entries cause ≡ false → (c : Cause) → ends_for new.entries c ≡ ends_for old.entries c
  placed_same fresh absent c = ap ends_in (updated c) ∙ go (same_cause cause c) refl
    where
      empty : (o : Option (List EndId)) → is_some o ≡ false → [] ≡ ends_in o
      empty None h = refl
      empty (Some ends) h = absurd cc

      go : (b : Bool) → same_cause cause c ≡ b → ends_in (cond b (Some now) (list_of old.entries c)) ≡ ends_for old.entries c
      go true e = fresh ∙ empty (list_of old.entries c) (ap (λ (o : Option (List EndId)). is_some o) (sym (same_list c e)) ∙ absent)
      go false e = refl

  module _ (before : List EndId) (there : Some before ≡ get cause_cmp old cause) where
    -- where the list has no fewer ends than it had, no cause has
    pub grows : ((x : EndId) → has_end before x ≡ true → has_end now x ≡ true) → Grows old.entries new.entries
    grows more c x h = subst (λ (ends : List EndId). has_end ends x ≡ true) (sym (ap ends_in (updated c))) (go (same_cause cause c) refl h)
      where
        here : list_of old.entries cause ≡ Some before
        here = found old cause ∙ sym there

        go : (b : Bool) → same_cause cause c ≡ b → has_end (ends_for old.entries c) x ≡ true
            → has_end (ends_in (cond b (Some now) (list_of old.entries c))) x ≡ true
        go true e f = more x (subst (λ (o : Option (List EndId)). has_end (ends_in o) x ≡ true) (sym (same_list c e) ∙ here) f)
        go false e f = f

-- a list that goes leaves the others
pub cleared : (old new : BTreeMap Cause (List EndId)) (cause : Cause) → Updates cause_cmp old new cause None → (c : Cause)
    → ends_for new.entries c ≡ (if same_cause cause c then [] else ends_for old.entries c)
cleared old new cause update c =
    ap ends_in (updated_by cause_cmp same_cause alike old new cause None update c) ∙ go (same_cause cause c)
  where
    go : (b : Bool) → ends_in (cond b None (list_of old.entries c)) ≡ (if b then [] else ends_for old.entries c)
    go true = refl
    go false = refl

-- what was added to a list, or wasn't
pub pushed_more : {A E : Type 0} (r : Result A E) (old new : List EndId) (end : EndId) → OnOk r (new ≡ old ++ end ∷ []) → OnErr r (new ≡ old)
    → (x : EndId) → has_end old x ≡ true → has_end new x ≡ true
pushed_more (Ok v) old new end ok err x h = subst (λ (ends : List EndId). has_end ends x ≡ true) (sym ok) (has_more old (end ∷ []) x h)
pushed_more (Err e) old new end ok err x h = subst (λ (ends : List EndId). has_end ends x ≡ true) (sym err) h

pub pushed_last : {A E : Type 0} (r : Result A E) (old new : List EndId) (end : EndId) → OnOk r (new ≡ old ++ end ∷ []) → OnOk r (has_end new end ≡ true)
pushed_last (Ok v) old new end ok = subst (λ (ends : List EndId). has_end ends end ≡ true) (sym ok) (has_last old end)
pushed_last (Err e) old new end ok = ok
