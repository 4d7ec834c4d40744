-- The text of one item more.
use Rattle.std.proofs.Common.{◌≡◌, ◌<◌, ◌≤◌, ◌+◌, ◌-◌, ℕ, suc, List, [], ◌∷◌, ◌++◌, length, take, drop, get_or}
use Rattle.std.proofs.Common.{sym, ap, ◌∙◌, arith, append_assoc, append-nil, refl}
use Rattle.std.specs.Prelude.{map}
use Rattle.std.specs.List.{flat_map, join_by}
use Rattle.std.proofs.lemmas.List.{take_rest, take_more, length-take-le}
use Rattle.std.proofs.lemmas.Grind.{flat_map-append}
use Rattle.handle_table.specs.declared.thing.Thing.{Thing}
use Rattle.mj_schema.specs.declared.schema.Schema.{Schema}
use Rattle.bind_model.specs.declared.event.Event.{Event}
use Rattle.bind_model.specs.declared.endpoint.PendingId.{PendingId}
use Rattle.history_text.specs.History.{event_lines, event_line, pending_text, pendings_text, tokens_text}

lines_snoc : (schema : Schema) (k n : ℕ) (xs : List Event) (e : Event) → n ≡ k + length xs
    → event_lines schema k (xs ++ e ∷ []) ≡ event_lines schema k xs ++ event_line schema n e
lines_snoc schema k n [] e h = let z : n ≡ k = omega (arith, h) in rw z (append-nil (event_line schema k e))
lines_snoc schema k n (x ∷ xs) e h =
    ap (λ t. event_line schema k x ++ t) (lines_snoc schema (suc k) n xs e (omega (arith, h)))
    ∙ sym (append_assoc (event_line schema k x) (event_lines schema (suc k) xs) (event_line schema n e))

-- the lines of one event more
pub lines_more : (schema : Schema) (events : List Event) (k : ℕ) (d : Event) → k < length events
    → event_lines schema 0 (take (k + 1) events) ≡ event_lines schema 0 (take k events) ++ event_line schema k (get_or events k d)
lines_more schema events k d h =
    rw (take_more events k d h) (lines_snoc schema 0 k (take k events) (get_or events k d) (omega (arith, length-take-le k events)))

-- the first piece, and those behind it
pub joined_parts : {X : Type 0} (c : ℕ) (f : X → List ℕ) (xs : List X) (d : X) (end : List ℕ) → 1 ≤ length xs
    → f (get_or xs 0 d) ++ (flat_map (λ x. c ∷ f x) (take (length xs - 1) (drop 1 xs)) ++ end) ≡ join_by f (c ∷ []) xs ++ end
joined_parts c f [] d end h = absurd (omega (arith, h))
joined_parts c f (x ∷ xs) d end h =
    rw (take_rest (x ∷ xs) 1) (sym (append_assoc (f x) (flat_map (λ x. c ∷ f x) xs) end))

-- texts behind another one, made first or joined at once
pub parts_map : {X : Type 0} (f : X → List ℕ) (xs : List X) → flat_map (λ (text : List ℕ). 44 ∷ text) (map f xs) ≡ flat_map (λ x. 44 ∷ f x) xs
parts_map f [] = refl
parts_map f (x ∷ xs) = ap (λ t. 44 ∷ (f x ++ t)) (parts_map f xs)

parts_both : {X Y : Type 0} (f : X → List ℕ) (g : Y → List ℕ) (xs : List X) (ys : List Y)
    → flat_map (λ (text : List ℕ). 44 ∷ text) (map f xs ++ map g ys) ≡ flat_map (λ x. 44 ∷ f x) xs ++ flat_map (λ y. 44 ∷ g y) ys
parts_both f g [] ys = parts_map g ys
parts_both f g (x ∷ xs) ys =
    ap (λ t. 44 ∷ (f x ++ t)) (parts_both f g xs ys)
    ∙ ap (λ t. 44 ∷ t) (sym (append_assoc (f x) (flat_map (λ x. 44 ∷ f x) xs) (flat_map (λ y. 44 ∷ g y) ys)))

-- texts that are made first are joined as what they are of
pub joined_map : {X : Type 0} (f : X → List ℕ) (xs : List X) → join_by (λ (text : List ℕ). text) (44 ∷ []) (map f xs) ≡ join_by f (44 ∷ []) xs
joined_map f [] = refl
joined_map f (x ∷ xs) = ap (λ t. f x ++ t) (parts_map f xs)

-- the first piece, those behind it, and those of another list
pub joined_both : {X Y : Type 0} (f : X → List ℕ) (g : Y → List ℕ) (xs : List X) (ys : List Y) (d : X) (end : List ℕ) → 1 ≤ length xs
    → f (get_or xs 0 d) ++ (flat_map (λ x. 44 ∷ f x) (take (length xs - 1) (drop 1 xs)) ++ (flat_map (λ y. 44 ∷ g y) ys ++ end))
    ≡ join_by (λ (text : List ℕ). text) (44 ∷ []) (map f xs ++ map g ys) ++ end
joined_both f g [] ys d end h = absurd (omega (arith, h))
joined_both f g (x ∷ xs) ys d end h =
    rw (take_rest (x ∷ xs) 1, parts_both f g xs ys)
    (sym (append_assoc (f x) (flat_map (λ x. 44 ∷ f x) xs ++ flat_map (λ y. 44 ∷ g y) ys) end
    ∙ ap (λ t. f x ++ t) (append_assoc (flat_map (λ x. 44 ∷ f x) xs) (flat_map (λ y. 44 ∷ g y) ys) end)))

-- the line of one more
line_more : {X : Type 0} (line : X → List ℕ) (xs : List X) (k : ℕ) (d : X) → k < length xs
    → flat_map line (take (k + 1) xs) ≡ flat_map line (take k xs) ++ line (get_or xs k d)
line_more line xs k d h = rw (take_more xs k d h, flat_map-append line (take k xs) (get_or xs k d ∷ []), append-nil (line (get_or xs k d))) refl

-- no handles, and the pendings
pub tokens_none : (handles : List Thing) (pendings : List PendingId) → length handles ≡ 0 → pendings_text pendings ≡ tokens_text handles pendings
tokens_none [] pendings h = ap (λ t. 91 ∷ (t ++ 93 ∷ [])) (sym (joined_map pending_text pendings))
tokens_none (x ∷ handles) pendings h = absurd (omega (arith, h))

-- the lines so far and one more
pub line_next : {X : Type 0} (line : X → List ℕ) (old now new : List ℕ) (xs : List X) (k : ℕ) (d : X) → k < length xs
    → now ≡ old ++ flat_map line (take k xs) → new ≡ now ++ line (get_or xs k d) → new ≡ old ++ flat_map line (take (k + 1) xs)
line_next line old now new xs k d h so_far more =
    more
    ∙ (ap (λ t. t ++ line (get_or xs k d)) so_far
    ∙ (append_assoc old (flat_map line (take k xs)) (line (get_or xs k d)) ∙ ap (λ t. old ++ t) (sym (line_more line xs k d h))))
