-- The texts of replies of one or two parts and the line's end, both ways.
use Rattle.std.proofs.Common.{◌≡◌, ℕ, ◌++◌, ◌∷◌, [], List, refl, sym, ap, ◌∙◌}
use Rattle.bind_model.specs.declared.told.Told.{Told}
use Rattle.byte_rules.specs.Lang.{Lang, as_value, closed, ◌then◌, ◌▸◌}
use Rattle.history_text.specs.History.{hex_text}
use Rattle.line_parts.specs.Signs.{blank, line_end}
use Rattle.line_parts.specs.Lists.{hex}
use Rattle.line_parts.specs.Printable.{AreBytes}
use Rattle.line_parts.proofs.BothWays.{HasTexts, Is, texts_as, texts_closed, texts_behind, texts_map, texts_chain}
use Rattle.line_parts.proofs.HexTexts.{texts_hex}
use Rattle.history_reader.specs.Reasons.{line}

-- just this is told, and the line ends
abbrev pub Ends : Told → Told → List ℕ → Type 0
Ends what a w = (a ≡ what) × (w ≡ line_end ∷ [])

pub texts_ends : (what : Told) → HasTexts (Ends what) (closed line_end what)
texts_ends what = texts_closed line_end what

-- of one part, and the line's end
module _ {X : Type 0} {ok : X → Type 0} {text : X → List ℕ} {one : Lang X} (tell : X → Told) (o : HasTexts (Is ok text) one) where
  -- a reply of one part, and its text
  abbrev pub Line : Told → List ℕ → Type 0
  Line a w = (x : X) × ok x × (a ≡ tell x) × (w ≡ text x ++ line_end ∷ [])

  -- the same behind a blank
  abbrev pub Line1 : Told → List ℕ → Type 0
  Line1 a w = (x : X) × ok x × (a ≡ tell x) × (w ≡ blank ∷ (text x ++ line_end ∷ []))

  pub texts_line : HasTexts Line (line tell one)
  texts_line = texts_as (λ a w h. (h.0, h.1, h.3.0, h.4 ∙ ap (λ (l : List ℕ). text h.0 ++ l) h.3.1))
      (λ a w h. (h.0, h.1, line_end ∷ [], (h.2, refl), h.3)) (texts_chain o (λ x k. texts_ends (tell x)))

  pub texts_line1 : HasTexts Line1 (blank ▸ line tell one)
  texts_line1 = texts_as (λ a w h. (h.1.0, h.1.1, h.1.2, h.2 ∙ ap (λ (l : List ℕ). blank ∷ l) h.1.3))
      (λ a w h. (text h.0 ++ line_end ∷ [], (h.0, h.1, h.2, refl), h.3)) (texts_behind blank texts_line)

-- of two
module _ {X Y : Type 0} {ok : X → Type 0} {text : X → List ℕ} {fine : Y → Type 0} {spelled : Y → List ℕ} {one : Lang X} {two : Lang Y} (tell : X → Y → Told)
    (o : HasTexts (Is ok text) one) (t : HasTexts (Is fine spelled) two) where
  -- a reply of two parts, and its text
  abbrev pub Line2 : Told → List ℕ → Type 0
  Line2 a w = (x : X) × (y : Y) × ok x × fine y × (a ≡ tell x y) × (w ≡ blank ∷ (text x ++ blank ∷ (spelled y ++ line_end ∷ [])))

  pub texts_line2 : HasTexts Line2 (blank ▸ one then λ x. blank ▸ line (tell x) two)
  texts_line2 = texts_as (λ a w h. let k = h.1 in let l = k.3 in
      (k.0, l.0, k.1, l.1, l.2, h.2 ∙ ap (λ (v : List ℕ). blank ∷ v) (k.4 ∙ ap (λ (v : List ℕ). text k.0 ++ v) l.3)))
      (λ a w h. (text h.0 ++ blank ∷ (spelled h.1 ++ line_end ∷ []), (h.0, h.2, blank ∷ (spelled h.1 ++ line_end ∷ []), (h.1, h.3, h.4, refl), refl), h.5))
      (texts_behind blank (texts_chain o (λ x k. texts_line1 (tell x) t)))

-- of one part and bytes
module _ {X : Type 0} {ok : X → Type 0} {text : X → List ℕ} {one : Lang X} (tell : X → List ℕ → Told) (o : HasTexts (Is ok text) one) where
  -- a reply of a part and bytes, and its text
  abbrev pub LineBytes : Told → List ℕ → Type 0
  LineBytes a w = (x : X) × (bytes : List ℕ) × ok x × AreBytes bytes × (a ≡ tell x bytes) × (w ≡ blank ∷ (text x ++ blank ∷ (hex_text bytes ++ line_end ∷ [])))

  -- the bytes behind the part
  abbrev Bytes : X → Told → List ℕ → Type 0
  Bytes x a t = (bytes : List ℕ) × Is AreBytes (λ bytes. hex_text bytes ++ line_end ∷ []) bytes t × (tell x bytes ≡ a)

  -- the same as it is read: a blank, the part, a blank, the bytes
  abbrev Deep : Told → List ℕ → Type 0
  Deep a w = (v : List ℕ) × ((x : X) × ok x × (u : List ℕ) × ((t : List ℕ) × Bytes x a t × (u ≡ blank ∷ t)) × (v ≡ text x ++ u)) × (w ≡ blank ∷ v)

  flat : (a : Told) (w : List ℕ) → Deep a w → LineBytes a w
  flat a w h =
      let k = h.1 in
      let l = k.3 in
      let n = l.1 in (
        k.0,
        n.0,
        k.1,
        n.1.0,
        sym n.2,
        h.2 ∙ ap (λ (v : List ℕ). blank ∷ v) (k.4 ∙ ap (λ (v : List ℕ). text k.0 ++ v) (l.2 ∙ ap (λ (v : List ℕ). blank ∷ v) n.1.1)),
      )

  deep : (a : Told) (w : List ℕ) → LineBytes a w → Deep a w
  deep a w h =
      let t = hex_text h.1 ++ line_end ∷ [] in
      (text h.0 ++ blank ∷ t, (h.0, h.2, blank ∷ t, (t, (h.1, (h.3, refl), sym h.4), refl), refl), h.5)

  pub texts_line_bytes : HasTexts LineBytes (blank ▸ one then λ x. blank ▸ as_value (tell x) (hex line_end))
  texts_line_bytes = texts_as flat deep (texts_behind blank (texts_chain o (λ x k. texts_behind blank (texts_map (tell x) (texts_hex line_end)))))
