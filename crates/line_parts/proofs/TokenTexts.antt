-- The texts of handles and then pending endpoints in one list, both ways.
use Rattle.std.proofs.Common.{◌≡◌, ℕ, ◌++◌, ◌∷◌, [], ◌⊎◌, inl, inr, List, Bool, true, false, ◌==◌, map, refl, sym, ap, ◌∙◌, subst, append_assoc}
use Rattle.std.specs.List.{flat_map, join_by}
use Rattle.handle_table.specs.declared.thing.Thing.{Thing}
use Rattle.bind_model.specs.declared.endpoint.PendingId.{PendingId}
use Rattle.byte_rules.specs.Lang.{Lang, as_value, closed, ◌then◌, ◌▸◌}
use Rattle.history_text.specs.History.{thing_text, pending_text, tokens_text}
use Rattle.history_text.proofs.Lists.{joined_map}
use Rattle.line_parts.specs.Signs.{comma, opens, closes}
use Rattle.line_parts.specs.Ids.{pending}
use Rattle.line_parts.specs.Lists.{is_pending, item, handle_in, pending_in, parted, more_items, tokens}
use Rattle.line_parts.specs.Printable.{IsThing, IsPending, AreAll}
use Rattle.line_parts.specs.declared.items.Item.{Item}
use Rattle.line_parts.specs.declared.items.Item.TheVariants.{Handle, Pending}
use Rattle.line_parts.proofs.BothWays.{HasTexts, Is, texts_as, texts_closed, texts_before, texts_value, texts_follow, texts_choice, texts_fine}
use Rattle.line_parts.proofs.IdTexts.{texts_thing, texts_pending}
use Rattle.line_parts.proofs.ItemReads.{both}
use Rattle.line_parts.proofs.SeriesTexts as series

-- the text of an item
abbrev item_text : Item → List ℕ
item_text (Handle x) = thing_text x
item_text (Pending p) = pending_text p

-- a handle of its widths
abbrev OfHandle : Item → Type 0
OfHandle (Handle x) = IsThing x
OfHandle (Pending p) = ⊥

-- a pending endpoint of its widths
abbrev OfPending : Item → Type 0
OfPending (Handle x) = ⊥
OfPending (Pending p) = IsPending p

-- behind a pending endpoint no handle is fine
abbrev Ok : Bool → Item → Type 0
Ok true i = OfPending i
Ok false (Handle x) = IsThing x
Ok false (Pending p) = IsPending p

handle_of : (i : Item) → OfHandle i → (x : Thing) × IsThing x × (Handle x ≡ i)
handle_of (Handle x) h = (x, h, refl)
handle_of (Pending p) h = absurd h

pending_of : (i : Item) → OfPending i → (p : PendingId) × IsPending p × (Pending p ≡ i)
pending_of (Handle x) h = absurd h
pending_of (Pending p) h = (p, h, refl)

either : (i : Item) → OfPending i ⊎ OfHandle i → Ok false i
either (Handle x) (inl h) = absurd h
either (Handle x) (inr h) = h
either (Pending p) (inl h) = h
either (Pending p) (inr h) = absurd h

one_of : (i : Item) → Ok false i → OfPending i ⊎ OfHandle i
one_of (Handle x) h = inr h
one_of (Pending p) h = inl h

pendings_alone : HasTexts (Is OfPending item_text) (as_value Pending pending)
pendings_alone = texts_value Pending OfPending item_text (λ p h. h) (λ p h. refl) pending_of texts_pending

texts_item : (seen : Bool) → HasTexts (Is (Ok seen) item_text) (item seen)
unfolding item
texts_item true = pendings_alone
texts_item false = texts_fine either one_of (λ i h. refl)
    (texts_choice _ pendings_alone (texts_value Handle OfHandle item_text (λ x h. h) (λ x h. refl) handle_of texts_thing))

-- items behind one
abbrev Run : Bool → List Item → Type 0
Run seen [] = Unit {0}
Run seen (i ∷ is) = Ok seen i × Run (is_pending i) is

-- the text of items behind commas
abbrev behind : List Item → List ℕ
behind is = flat_map (λ (i : Item). 44 ∷ item_text i) is

-- whether a pending endpoint has come
abbrev next : Bool → Item → Bool
next seen i = is_pending i

-- the bracket behind them
abbrev last : Lang (Unit {0})
last = closed closes tt

texts_last : HasTexts (Is (λ (u : Unit {0}). u ≡ tt) (λ (u : Unit {0}). closes ∷ [])) last
texts_last = texts_closed closes tt

-- the bracket that ends the items
abbrev pub ends : ℕ → Bool
ends b = b == closes

same_run : (seen : Bool) (is : List Item) → series.Run ends (λ seen. comma ▸ item seen) next last (λ s. texts_before comma (texts_item s))
    texts_last seen is → Run seen is
same_run seen [] h = tt
same_run seen (i ∷ is) h = (h.0, same_run (is_pending i) is h.1)

run_same : (seen : Bool) (is : List Item) → Run seen is → series.Run ends (λ seen. comma ▸ item seen) next last
    (λ s. texts_before comma (texts_item s)) texts_last seen is
run_same seen [] h = tt
run_same seen (i ∷ is) h = (h.0, run_same (is_pending i) is h.1)

run_text : (seen : Bool) (is : List Item)
    → series.run ends (λ seen. comma ▸ item seen) next last (λ s. texts_before comma (texts_item s)) texts_last seen is ≡ behind is
run_text seen [] = refl
run_text seen (i ∷ is) = ap (λ (l : List ℕ). 44 ∷ (item_text i ++ l)) (run_text (is_pending i) is)

texts_more : (seen : Bool) → HasTexts (Is (λ (r : List Item × Unit {0}). Run seen r.0) (λ (r : List Item × Unit {0}). behind r.0 ++ closes ∷ []))
    (more_items seen)
texts_more seen = texts_fine (λ r h. same_run seen r.0 h.0) (λ r h. (run_same seen r.0 h, refl))
    (λ r h. ap (λ (l : List ℕ). l ++ closes ∷ []) (run_text seen r.0))
    (series.texts_series ends (λ seen. comma ▸ item seen) next last (λ s. texts_before comma (texts_item s)) texts_last seen)

-- the items of two lists
abbrev Lists : Type 0
Lists = List Thing × List PendingId

-- the items of two lists, handles first
abbrev items_of : Lists → List Item
items_of (handles, pendings) = map Handle handles ++ map Pending pendings

pending_items : (is : List Item) → Run true is → (flat_map handle_in is ≡ []) × (map Pending (flat_map pending_in is) ≡ is)
pending_items [] h = (refl, refl)
pending_items (Handle x ∷ is) h = absurd h.0
pending_items (Pending p ∷ is) h = let k = pending_items is h.1 in (k.0, ap (λ (l : List Item). Pending p ∷ l) k.1)

in_order : (is : List Item) → Run false is → items_of (parted is) ≡ is
in_order [] h = refl
in_order (Handle x ∷ is) h = ap (λ (l : List Item). Handle x ∷ l) (in_order is h.1)
in_order (Pending p ∷ is) h =
    let k = pending_items is h.1 in
    ap (λ (l : List Thing). map Handle l ++ Pending p ∷ map Pending (flat_map pending_in is)) k.0 ∙ ap (λ (l : List Item). Pending p ∷ l) k.1

fine_parts : (seen : Bool) (is : List Item) → Run seen is → AreAll IsThing (flat_map handle_in is) × AreAll IsPending (flat_map pending_in is)
fine_parts seen [] h = (tt, tt)
fine_parts true (Handle x ∷ is) h = absurd h.0
fine_parts false (Handle x ∷ is) h = let k = fine_parts false is h.1 in ((h.0, k.0), k.1)
fine_parts true (Pending p ∷ is) h = let k = fine_parts true is h.1 in (k.0, (h.0, k.1))
fine_parts false (Pending p ∷ is) h = let k = fine_parts true is h.1 in (k.0, (h.0, k.1))

parted_pendings : (ps : List PendingId) → (flat_map handle_in (map Pending ps) ≡ []) × (flat_map pending_in (map Pending ps) ≡ ps)
parted_pendings [] = (refl, refl)
parted_pendings (p ∷ ps) = let k = parted_pendings ps in (k.0, ap (λ (l : List PendingId). p ∷ l) k.1)

parted_items : (l : Lists) → parted (items_of l) ≡ l
parted_items ([], ps) = let k = parted_pendings ps in both k.0 k.1
parted_items (x ∷ hs, ps) = ap (λ (l : Lists). (x ∷ l.0, l.1)) (parted_items (hs, ps))

run_pendings : (seen : Bool) (ps : List PendingId) → AreAll IsPending ps → Run seen (map Pending ps)
run_pendings seen [] h = tt
run_pendings true (p ∷ ps) h = (h.0, run_pendings true ps h.1)
run_pendings false (p ∷ ps) h = (h.0, run_pendings true ps h.1)

run_items : (l : Lists) → AreAll IsThing l.0 × AreAll IsPending l.1 → Run false (items_of l)
run_items ([], ps) h = run_pendings false ps h.1
run_items (x ∷ hs, ps) h = (h.0.0, run_items (hs, ps) (h.0.1, h.1))

-- all behind the bracket
abbrev body : List Item → List ℕ
body [] = closes ∷ []
body (i ∷ is) = item_text i ++ (behind is ++ closes ∷ [])

-- the text behind the first item
abbrev after : List Item → List ℕ
after [] = []
after (i ∷ is) = behind is ++ closes ∷ []

-- items that go by the first one, parted into these lists
abbrev Follows : Item → Lists → Type 0
Follows i l = (is : List Item) × Run (is_pending i) is × (parted (i ∷ is) ≡ l)

texts_after : (i : Item) → Ok false i → HasTexts (Is (Follows i) (λ (l : Lists). after (items_of l)))
    (as_value (λ r. parted (i ∷ r.0)) (more_items (is_pending i)))
texts_after i k = texts_value (λ r. parted (i ∷ r.0)) (Follows i) (λ (l : Lists). after (items_of l)) (λ r h. (r.0, h, refl))
    (λ r h. ap after (in_order (i ∷ r.0) (k, h))) (λ l h. ((h.0, tt), h.1, h.2)) (texts_more (is_pending i))

-- one at least
abbrev Some : List Item → Type 0
Some [] = ⊥
Some (i ∷ is) = Unit {0}

-- both lists are of their widths
abbrev AreFine : Lists → Type 0
AreFine l = AreAll IsThing l.0 × AreAll IsPending l.1

-- a first item, and those behind it
abbrev Begun : Lists → List ℕ → Type 0
Begun l w = (i : Item) × Ok false i × Follows i l × (w ≡ item_text i ++ after (items_of l))

some_from : (l : Lists) (w : List ℕ) → Begun l w → Is (λ (l : Lists). AreFine l × Some (items_of l)) (λ (l : Lists). body (items_of l)) l w
some_from l w h =
    let order : items_of (parted (h.0 ∷ h.2.0)) ≡ h.0 ∷ h.2.0 = in_order (h.0 ∷ h.2.0) (h.1, h.2.1) in
    let all : items_of l ≡ h.0 ∷ h.2.0 = ap items_of (sym h.2.2) ∙ order in (
      (
        subst AreFine h.2.2 (fine_parts false (h.0 ∷ h.2.0) (h.1, h.2.1)),
        subst Some (sym all) tt,
      ),
      h.3 ∙ ap (λ (is : List Item). item_text h.0 ++ after is) all
          ∙ sym (ap body all),
    )

some_at : (l : Lists) (w : List ℕ) (is : List Item) → items_of l ≡ is → Run false is → Some is → w ≡ body is → Begun l w
some_at l w [] e r s f = absurd s
some_at l w (i ∷ is) e r s f = (
  i,
  r.0,
  (is, r.1, ap parted (sym e) ∙ parted_items l),
  f ∙ ap (λ (is : List Item). item_text i ++ after is) (sym e),
)

some_to : (l : Lists) (w : List ℕ) → Is (λ (l : Lists). AreFine l × Some (items_of l)) (λ (l : Lists). body (items_of l)) l w → Begun l w
some_to l w h = some_at l w (items_of l) refl (run_items l h.0.0) h.0.1 h.1

texts_some : HasTexts (Is (λ (l : Lists). AreFine l × Some (items_of l)) (λ (l : Lists). body (items_of l)))
    (item false then λ x. as_value (λ r. parted (x ∷ r.0)) (more_items (is_pending x)))
texts_some = texts_as some_from some_to (texts_follow (texts_item false) texts_after)

texts_none : HasTexts (Is (λ (l : Lists). l ≡ ([], [])) (λ (l : Lists). body (items_of l))) (closed closes ([], []))
texts_none = texts_fine (λ l h. h) (λ l h. h) (λ l h. ap (λ (l : Lists). body (items_of l)) (sym h)) (texts_closed closes ([], []))

all_of : (l : Lists) → (l ≡ ([], [])) ⊎ (AreFine l × Some (items_of l)) → AreFine l
all_of l (inl e) = subst AreFine (sym e) (tt, tt)
all_of l (inr h) = h.0

of_all : (l : Lists) → AreFine l → (l ≡ ([], [])) ⊎ (AreFine l × Some (items_of l))
of_all ([], []) h = inl refl
of_all ([], p ∷ ps) h = inr (h, tt)
of_all (x ∷ hs, ps) h = inr (h, tt)

texts_both : (l : Lists) → map item_text (items_of l) ≡ map thing_text l.0 ++ map pending_text l.1
texts_both ([], ps) = of ps
  where
    of : (ps : List PendingId) → map item_text (map Pending ps) ≡ map pending_text ps
    of [] = refl
    of (p ∷ ps) = ap (λ (l : List (List ℕ)). pending_text p ∷ l) (of ps)
texts_both (x ∷ hs, ps) = ap (λ (l : List (List ℕ)). thing_text x ∷ l) (texts_both (hs, ps))

joined : (is : List Item) → body is ≡ join_by item_text (44 ∷ []) is ++ closes ∷ []
joined [] = refl
joined (i ∷ is) = sym (append_assoc (item_text i) (behind is) (closes ∷ []))

whole : (l : Lists) → opens ∷ body (items_of l) ≡ tokens_text l.0 l.1
whole l = ap (λ (t : List ℕ). opens ∷ t) (joined (items_of l) ∙ ap (λ (t : List ℕ). t ++ closes ∷ []) (sym (joined_map item_text (items_of l))
    ∙ ap (join_by (λ (text : List ℕ). text) (44 ∷ [])) (texts_both l)))

pub texts_tokens : HasTexts (Is AreFine (λ (l : Lists). tokens_text l.0 l.1)) tokens
unfolding tokens
texts_tokens = texts_fine all_of of_all (λ l h. whole l) (texts_before opens (texts_choice _ texts_none texts_some))
