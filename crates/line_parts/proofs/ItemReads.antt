-- How handles and pending endpoints are gathered.
use Rattle.std.proofs.Common.{◌≡◌, ◌==◌, ◌||◌, ℕ, Bool, true, false, List, [], ◌∷◌, ◌++◌, Ok, Err, refl, sym, ap, ◌∙◌, append_assoc}
use Rattle.std.specs.List.{flat_map}
use Rattle.std.proofs.lemmas.List.{append-nil}
use Rattle.handle_table.specs.declared.thing.Thing.{Thing}
use Rattle.bind_model.specs.declared.endpoint.PendingId.{PendingId}
use Rattle.byte_rules.specs.declared.stop.Stop.{Stop}
use Rattle.byte_rules.specs.declared.stop.Stop.TheVariants as stops
use Rattle.byte_rules.specs.Lang.{Read, ◌>>=◌, as_value, front_is}
use Rattle.byte_rules.specs.Reading.{Fails}
use Rattle.line_parts.specs.Signs.{letter_p}
use Rattle.line_parts.specs.Ids.{thing, pending}
use Rattle.line_parts.specs.Lists.{item, handle_in, pending_in, parted}
use Rattle.line_parts.specs.steps.Reading.{gathered, add_items, with_items}
use Rattle.line_parts.specs.declared.items.Item.{Item}
use Rattle.line_parts.specs.declared.items.Item.TheVariants.{Handle, Pending}

module _ {A B : Type 0} (parts : A → List B) where
  just : (front : List B) (x : A) → front ++ flat_map parts (x ∷ []) ≡ front ++ parts x
  just front x = ap (λ (l : List B). front ++ l) (append-nil (parts x))

  grows : (front : List B) (x : A) (xs : List A) → front ++ flat_map parts (x ∷ xs) ≡ (front ++ flat_map parts (x ∷ [])) ++ flat_map parts xs
  grows front x xs = sym (append_assoc front (parts x) (flat_map parts xs)) ∙ ap (λ (l : List B). l ++ flat_map parts xs) (sym (just front x))

pub both : {A B : Type 0} {a c : A} {b d : B} → a ≡ c → b ≡ d → ◌≡◌ {A = A × B} (a, b) (c, d)
both {A} {B} {a} {c} {b} {d} e f = ap (λ (x : A). (x, b)) e ∙ ap (λ (y : B). (c, y)) f

-- handles, and pending endpoints
abbrev pub Lists : Type 0
Lists = List Thing × List PendingId

pub none_added : (front : Lists) → add_items front [] ≡ front
none_added (handles, pendings) = both (append-nil handles) (append-nil pendings)

pub one_added : (front : Lists) (x : Item) (xs : List Item) → add_items front (x ∷ xs) ≡ add_items (add_items front (x ∷ [])) xs
one_added (handles, pendings) x xs = both (grows handle_in handles x xs) (grows pending_in pendings x xs)

-- an item that was put behind the others
pub pushed : (handles : List Thing) (pendings : List PendingId) (x : Item) (hs : List Thing) (ps : List PendingId) → hs ≡ handles ++ handle_in x
    → ps ≡ pendings ++ pending_in x → ◌≡◌ {A = Lists} (hs, ps) (add_items (handles, pendings) (x ∷ []))
pushed handles pendings x hs ps e f = both (e ∙ sym (just handle_in handles x)) (f ∙ sym (just pending_in pendings x))

-- the lists alone
pub alone : (front : Lists) (r : Read (List Item × Unit {0})) → with_items front r ≡ (gathered add_items front r >>= λ x. Ok (x.0.0, x.1))
alone front (Ok x) = refl
alone front (Err n) = refl

pub alone_err : (e : Stop) (front : Lists) (r : Read (List Item × Unit {0})) → Fails e (gathered add_items front r) → Fails e (with_items front r)
alone_err stops.Memory front r f = tt
alone_err (stops.Left n) front r f = alone front r ∙ ap (λ (r : Read (Lists × Unit {0})). r >>= λ x. Ok (x.0.0, x.1)) f

-- the end of a list, with what was gathered
abbrev at_close : Read ℕ → Read (Unit {0})
at_close close = close >>= λ x. Ok (tt, x.1)

-- the lists, where the bracket closes them
abbrev pub ending : Lists → Read ℕ → Read (Lists × Unit {0})
ending handles close = at_close close >>= λ y. Ok ((handles, y.0), y.1)

-- where the bracket was read
pub closed_items : (front handles : Lists) (r : Read (List Item × Unit {0})) (close : Read ℕ) (b : ℕ) (rest : List ℕ) → close ≡ Ok (b, rest)
    → gathered add_items front r ≡ ending handles close → with_items front r ≡ Ok (handles, rest)
closed_items front handles r close b rest c e =
    alone front r ∙ ap (λ (r : Read (Lists × Unit {0})). r >>= λ x. Ok (x.0.0, x.1)) (e
    ∙ ap (ending handles) c)

pub unclosed_items : (e : Stop) (front handles : Lists) (r : Read (List Item × Unit {0})) (close : Read ℕ) → Fails e close
    → gathered add_items front r ≡ ending handles close → Fails e (with_items front r)
unclosed_items stops.Memory front handles r close c e = tt
unclosed_items (stops.Left n) front handles r close c e =
    alone_err (stops.Left n) front r (e ∙ ap (ending handles) c)

-- the first item, and those behind it
pub first_item : (x : Item) (hs : List Thing) (ps : List PendingId) (r : Read (List Item × Unit {0})) → hs ≡ handle_in x → ps ≡ pending_in x
    → with_items (hs, ps) r ≡ (r >>= λ y. Ok (parted (x ∷ y.0.0), y.1))
first_item x hs ps (Ok y) e f =
    ap (λ (l : Lists). Ok (add_items l y.0.0, y.1)) (both e f)
first_item x hs ps (Err n) e f = refl

-- behind a pending endpoint, or where one begins, one is read; else a handle
pub item_pending : (seen : Bool) (bs : List ℕ) → (seen || front_is (λ b. b == letter_p) bs) ≡ true → (item seen).read bs ≡ (as_value Pending pending).read bs
unfolding item
item_pending true bs e = refl
item_pending false bs e = rw e refl

pub item_handle : (seen : Bool) (bs : List ℕ) → (seen || front_is (λ b. b == letter_p) bs) ≡ false → (item seen).read bs ≡ (as_value Handle thing).read bs
unfolding item
item_handle true bs e = absurd (cc)
item_handle false bs e = rw e refl
