-- The texts of commands of one, two or three parts and the arrow, both ways.
use Rattle.std.proofs.Common.{◌≡◌, ℕ, ◌++◌, ◌∷◌, [], List, refl, sym, ap, ◌∙◌}
use Rattle.std.specs.Prelude.{codes}
use Rattle.handle_table.specs.declared.thing.Thing.{Thing}
use Rattle.bind_model.specs.declared.asked.Asked.{Asked}
use Rattle.byte_rules.specs.Lang.{Lang, ◌then◌, ◌▸◌}
use Rattle.history_text.specs.History.{thing_text, hex_text}
use Rattle.line_parts.specs.Signs.{blank, dash}
use Rattle.line_parts.specs.Ids.{thing}
use Rattle.line_parts.specs.Lists.{hex}
use Rattle.line_parts.specs.Printable.{IsThing, AreBytes}
use Rattle.line_parts.proofs.BothWays.{HasTexts, Is, texts_as, texts_closed, texts_before, texts_behind, texts_value, texts_chain}
use Rattle.line_parts.proofs.IdTexts.{texts_thing}
use Rattle.line_parts.proofs.HexTexts.{texts_hex}
use Rattle.history_reader.specs.Arrows.{arrow, asks, arrow_behind, asks_behind}

-- the arrow
abbrev pub arrow_text : List ℕ
arrow_text = codes " -> "

texts_arrow : HasTexts (Is (λ (u : Unit {0}). u ≡ tt) (λ (u : Unit {0}). arrow_text)) arrow
unfolding arrow
texts_arrow = texts_before blank (texts_before dash (texts_before 62 (texts_closed blank tt)))

-- just this is asked, and the text is the arrow
abbrev pub Only : Asked → Asked → List ℕ → Type 0
Only what a w = (a ≡ what) × (w ≡ arrow_text)

pub texts_asks : (what : Asked) → HasTexts (Only what) (asks what)
texts_asks what = texts_value (λ u. what) (λ (a : Asked). a ≡ what) (λ (a : Asked). arrow_text) (λ u h. refl) (λ u h. refl)
    (λ a h. (tt, refl, sym h)) texts_arrow

-- the arrow without its first blank
abbrev pub behind_text : List ℕ
behind_text = codes "-> "

texts_arrow_behind : HasTexts (Is (λ (u : Unit {0}). u ≡ tt) (λ (u : Unit {0}). behind_text)) arrow_behind
unfolding arrow_behind
texts_arrow_behind = texts_before dash (texts_before 62 (texts_closed blank tt))

-- just this is asked, and the text is the arrow without its first blank
abbrev OnlyBehind : Asked → Asked → List ℕ → Type 0
OnlyBehind what a w = (a ≡ what) × (w ≡ behind_text)

texts_asks_behind : (what : Asked) → HasTexts (OnlyBehind what) (asks_behind what)
texts_asks_behind what = texts_value (λ u. what) (λ (a : Asked). a ≡ what) (λ (a : Asked). behind_text) (λ u h. refl) (λ u h. refl)
    (λ a h. (tt, refl, sym h)) texts_arrow_behind

-- of one part, behind a blank
module _ {X : Type 0} {ok : X → Type 0} {text : X → List ℕ} {one : Lang X} (make : X → Asked) (o : HasTexts (Is ok text) one) where
  -- a command of one part, and its text
  abbrev pub Flat1 : Asked → List ℕ → Type 0
  Flat1 a w = (x : X) × ok x × (a ≡ make x) × (w ≡ blank ∷ (text x ++ arrow_text))

  -- the same as it is read: a blank, the part, the arrow
  abbrev Deep1 : Asked → List ℕ → Type 0
  Deep1 a w = (v : List ℕ) × ((x : X) × ok x × (u : List ℕ) × Only (make x) a u × (v ≡ text x ++ u)) × (w ≡ blank ∷ v)

  flat1 : (a : Asked) (w : List ℕ) → Deep1 a w → Flat1 a w
  flat1 a w h = let k = h.1 in (k.0, k.1, k.3.0, h.2 ∙ ap (λ (l : List ℕ). blank ∷ l) (k.4 ∙ ap (λ (l : List ℕ). text k.0 ++ l) k.3.1))

  deep1 : (a : Asked) (w : List ℕ) → Flat1 a w → Deep1 a w
  deep1 a w h = (text h.0 ++ arrow_text, (h.0, h.1, arrow_text, (h.2, refl), refl), h.3)

  pub texts1 : HasTexts Flat1 (blank ▸ one then λ x. asks (make x))
  texts1 = texts_as flat1 deep1 (texts_behind blank (texts_chain o (λ x k. texts_asks (make x))))

-- a byte, one and what comes behind it, grouped otherwise
pub regroup : {A B : Type 0} {R : B → List ℕ → Type 0} (c : ℕ) (one : Lang A) (two : A → Lang B)
    → HasTexts R ((c ▸ one) then two) → HasTexts R (c ▸ one then two)
regroup c one two t = record { from = t.from; to = t.to }

-- of two parts, the first behind a blank
module _ {X Y : Type 0} {ok : X → Type 0} {text : X → List ℕ} {fine : Y → Type 0} {spelled : Y → List ℕ} {one : Lang X} {two : Lang Y} (make : X → Y → Asked)
    (o : HasTexts (Is ok text) one) (t : HasTexts (Is fine spelled) two) where
  -- a command of two parts, and its text
  abbrev pub Flat2 : Asked → List ℕ → Type 0
  Flat2 a w = (x : X) × (y : Y) × ok x × fine y × (a ≡ make x y) × (w ≡ blank ∷ (text x ++ (spelled y ++ arrow_text)))

  -- the second part behind the first
  abbrev Inner : X → Asked → List ℕ → Type 0
  Inner x a u = (y : Y) × fine y × (v : List ℕ) × Only (make x y) a v × (u ≡ spelled y ++ v)

  -- the same as it is read: a blank, a part, the other, the arrow
  abbrev Deep2 : Asked → List ℕ → Type 0
  Deep2 a w = (v : List ℕ) × ((x : X) × ok x × (u : List ℕ) × Inner x a u × (v ≡ text x ++ u)) × (w ≡ blank ∷ v)

  flat2 : (a : Asked) (w : List ℕ) → Deep2 a w → Flat2 a w
  flat2 a w h =
      let k = h.1 in
      let l = k.3 in (
        k.0,
        l.0,
        k.1,
        l.1,
        l.3.0,
        h.2
            ∙ ap (λ (t : List ℕ). blank ∷ t) (k.4 ∙ ap (λ (t : List ℕ). text k.0 ++ t) (l.4 ∙ ap (λ (t : List ℕ). spelled l.0 ++ t) l.3.1)),
      )

  deep2 : (a : Asked) (w : List ℕ) → Flat2 a w → Deep2 a w
  deep2 a w h = (
    text h.0 ++ (spelled h.1 ++ arrow_text),
    (h.0, h.2, spelled h.1 ++ arrow_text, (h.1, h.3, arrow_text, (h.4, refl), refl), refl),
    h.5,
  )

  pub texts2 : HasTexts Flat2 (blank ▸ one then λ x. two then λ y. asks (make x y))
  texts2 = texts_as flat2 deep2 (texts_behind blank (texts_chain o (λ x k. texts_chain t (λ y l. texts_asks (make x y)))))

-- the same with a blank between the two
module _ {X Y : Type 0} {ok : X → Type 0} {text : X → List ℕ} {fine : Y → Type 0} {spelled : Y → List ℕ} {one : Lang X} {two : Lang Y} (make : X → Y → Asked)
    (o : HasTexts (Is ok text) one) (t : HasTexts (Is fine spelled) two) where
  pub texts_apart : HasTexts (Flat2 make o (texts_before blank t)) (blank ▸ one then λ x. blank ▸ two then λ y. asks (make x y))
  texts_apart = texts_as (flat2 make o (texts_before blank t)) (deep2 make o (texts_before blank t)) (texts_behind blank (texts_chain o
      (λ x k. regroup blank two (λ y. asks (make x y)) (texts_chain (texts_before blank t) (λ y l. texts_asks (make x y))))))

-- of a thing and bytes
module _ (make : Thing → List ℕ → Asked) where
  -- a command of a thing and bytes, and its text
  abbrev pub FlatBytes : Asked → List ℕ → Type 0
  FlatBytes a w = (x : Thing) × (bytes : List ℕ) × IsThing x × AreBytes bytes × (a ≡ make x bytes)
      × (w ≡ blank ∷ (thing_text x ++ ((blank ∷ (hex_text bytes ++ blank ∷ [])) ++ behind_text)))

  -- the bytes behind the thing
  abbrev InBytes : Thing → Asked → List ℕ → Type 0
  InBytes x a u = (bytes : List ℕ) × AreBytes bytes × (t : List ℕ) × OnlyBehind (make x bytes) a t × (u ≡ (blank ∷ (hex_text bytes ++ blank ∷ [])) ++ t)

  -- the same as it is read: a blank, the thing, the bytes, the rest of the arrow
  abbrev DeepBytes : Asked → List ℕ → Type 0
  DeepBytes a w = (v : List ℕ) × ((x : Thing) × IsThing x × (u : List ℕ) × InBytes x a u × (v ≡ thing_text x ++ u)) × (w ≡ blank ∷ v)

  flat_bytes : (a : Asked) (w : List ℕ) → DeepBytes a w → FlatBytes a w
  flat_bytes a w h =
      let k = h.1 in
      let l = k.3 in (
        k.0,
        l.0,
        k.1,
        l.1,
        l.3.0,
        h.2
            ∙ ap (λ (t : List ℕ). blank ∷ t)
            (k.4 ∙ ap (λ (t : List ℕ). thing_text k.0 ++ t) (l.4 ∙ ap (λ (t : List ℕ). (blank ∷ (hex_text l.0 ++ blank ∷ [])) ++ t) l.3.1)),
      )

  deep_bytes : (a : Asked) (w : List ℕ) → FlatBytes a w → DeepBytes a w
  deep_bytes a w h =
      let u = (blank ∷ (hex_text h.1 ++ blank ∷ [])) ++ behind_text in
      (thing_text h.0 ++ u, (h.0, h.2, u, (h.1, h.3, behind_text, (h.4, refl), refl), refl), h.5)

  pub texts_bytes : HasTexts FlatBytes (blank ▸ thing then λ x. blank ▸ hex blank then λ bytes. asks_behind (make x bytes))
  texts_bytes = texts_as flat_bytes deep_bytes (texts_behind blank (texts_chain texts_thing (λ x k.
      regroup blank (hex blank) (λ bytes. asks_behind (make x bytes)) (texts_chain (texts_before blank (texts_hex blank))
      (λ bytes l. texts_asks_behind (make x bytes))))))
