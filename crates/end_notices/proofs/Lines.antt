-- The table of ends: what stands in the line of one, and what the change of one makes of all.
use Rattle.std.proofs.Common.{◌≡◌, ◌<◌, ℕ, Bool, true, false, refl, sym, ap, ◌∙◌, Some, None, arith}
use Rattle.std.specs.Prelude.{if◌then◌else◌, Option, Result, Ok, Err, OnOk, OnErr, cond, is_some}
use Rattle.std.specs.BTreeMap.{BTreeMap, get, Updates}
use Rattle.mj_base.specs.declared.ids.EndId.{EndId}
use Rattle.handle_table.specs.Things.{same_end}
use Rattle.handle_table.proofs.ThingsLemmas.{same_end-true}
use Rattle.bind_model.specs.declared.asked.Notice.{Notice}
use Rattle.bind_model.proofs.NameOrder.{found_by, updated_by}
use Rattle.end_notices.specs.Seen.{Seen, none_seen, seen_of, without_wait}
use Rattle.end_notices.specs.Table.{Lines, can_note, has_line, line_of, notices_at, room_in, seen_in}
use Rattle.end_notices.specs.declared.notices.Notices.{Notices}
use Rattle.end_notices.proofs.Ends.{alike, end_cmp}

-- what is known where it is well, and where it isn't
pub on_ok : {A E P Q : Type 0} (r : Result A E) → (P → Q) → OnOk r P → OnOk r Q
on_ok (Ok v) f h = f h
on_ok (Err x) f h = h

pub on_err : {A E P Q : Type 0} (r : Result A E) → (P → Q) → OnErr r P → OnErr r Q
on_err (Ok v) f h = h
on_err (Err x) f h = f h

pub found : (m : BTreeMap EndId Notices) (x : EndId) → line_of m.entries x ≡ get end_cmp m x
found m x = found_by end_cmp same_end alike m x

-- the line that is found
pub found_line : (m : BTreeMap EndId Notices) (lines : Lines) (x : EndId) (line : Option Notices) → m.entries ≡ lines → line ≡ get end_cmp m x
    → line_of lines x ≡ line
found_line m lines x line e h = ap (λ (ls : Lines). line_of ls x) (sym e) ∙ (found m x ∙ sym h)

-- there is a line where one is asked for
pub no_line : (m : BTreeMap EndId Notices) (lines : Lines) (x : EndId) → m.entries ≡ lines → None ≡ get end_cmp m x → has_line lines x ≡ true → ⊥
no_line m lines x e none there =
    let a : has_line lines x ≡ false = ap (λ (o : Option Notices). is_some o) (found_line m lines x None e none) in
    cc

-- and where a notice may be noted
pub no_room : (m : BTreeMap EndId Notices) (lines : Lines) (x : EndId) (notice : Notice) → m.entries ≡ lines → None ≡ get end_cmp m x
    → can_note lines x notice ≡ true → ⊥
no_room m lines x notice e none there =
    let a : can_note lines x notice ≡ false = ap (room_in notice) (found_line m lines x None e none) in
    cc

-- and where queries wait
pub none_wait : (m : BTreeMap EndId Notices) (lines : Lines) (x : EndId) (id : ℕ) → m.entries ≡ lines → None ≡ get end_cmp m x
    → 0 < (notices_at lines x).queries id → ⊥
none_wait m lines x id e none some =
    let a : (notices_at lines x).queries id ≡ 0 = ap (λ (o : Option Notices). (seen_in o).queries id) (found_line m lines x None e none) in
    omega (arith, a, some)

-- where there is no line there is no wait that may be forgotten
pub lines_absent : (m : BTreeMap EndId Notices) (end : EndId) → None ≡ get end_cmp m end → (x : EndId)
    → notices_at m.entries x ≡ (if same_end end x then without_wait (notices_at m.entries x) else notices_at m.entries x)
lines_absent m end none x = go (same_end end x) refl
  where
    go : (b : Bool) → same_end end x ≡ b → notices_at m.entries x ≡ (if b then without_wait (notices_at m.entries x) else notices_at m.entries x)
    go true e =
        let here : notices_at m.entries x ≡ none_seen =
        ap (λ (z : EndId). notices_at m.entries z) (sym (same_end-true end x e)) ∙ ap seen_in (found m end ∙ sym none) in
        here ∙ sym (ap without_wait here)
    go false e = refl

module _ (old new : BTreeMap EndId Notices) (end : EndId) (now : Notices) (update : Updates end_cmp old new end (Some now)) where
  updated : (x : EndId) → line_of new.entries x ≡ cond (same_end end x) (Some now) (line_of old.entries x)
  updated x = updated_by end_cmp same_end alike old new end (Some now) update x

  -- the new line stands there
  pub stands : line_of new.entries end ≡ Some now
  stands = found new end ∙ update.1

  -- there is a line
  pub placed : has_line new.entries end ≡ true
  placed = ap (λ (o : Option Notices). is_some o) stands

  -- a line that is new says what no line does
  pub placed_same : seen_of now ≡ none_seen → has_line old.entries end ≡ false → (x : EndId) → notices_at new.entries x ≡ notices_at old.entries x
  placed_same fresh absent x = ap seen_in (updated x) ∙ go (same_end end x) refl
    where
      empty : (o : Option Notices) → is_some o ≡ false → none_seen ≡ seen_in o
      empty None h = refl
      empty (Some n) h = absurd cc

      go : (b : Bool) → same_end end x ≡ b → seen_in (cond b (Some now) (line_of old.entries x)) ≡ notices_at old.entries x
      go true e =
          fresh ∙ empty (line_of old.entries x) (ap (λ (z : EndId). has_line old.entries z) (sym (same_end-true end x e)) ∙ absent)
      go false e = refl

  module _ (before : Notices) (there : Some before ≡ get end_cmp old end) where
    -- what becomes of all lines, where this becomes of one
    pub lines_become : (f : Seen → Seen) → seen_of now ≡ f (seen_of before) → (x : EndId)
        → notices_at new.entries x ≡ (if same_end end x then f (notices_at old.entries x) else notices_at old.entries x)
    lines_become f e x = ap seen_in (updated x) ∙ go (same_end end x) refl
      where
        here : line_of old.entries end ≡ Some before
        here = found old end ∙ sym there

        go : (b : Bool) → same_end end x ≡ b → seen_in (cond b (Some now) (line_of old.entries x))
            ≡ (if b then f (notices_at old.entries x) else notices_at old.entries x)
        go true h =
            e ∙ (ap (λ (o : Option Notices). f (seen_in o)) (sym here) ∙ ap (λ (z : EndId). f (notices_at old.entries z)) (same_end-true end x h))
        go false h = refl

    -- they say the same where the one does
    pub lines_same : seen_of now ≡ seen_of before → (x : EndId) → notices_at new.entries x ≡ notices_at old.entries x
    lines_same e x = lines_become (λ (seen : Seen). seen) e x ∙ go (same_end end x)
      where
        go : (b : Bool) → (if b then notices_at old.entries x else notices_at old.entries x) ≡ notices_at old.entries x
        go true = refl
        go false = refl
