-- Numbers and texts that are read where two messages have the same bytes.
use Rattle.std.proofs.Common.{◌≡◌, ℕ, zero, suc, ◌+◌, ◌/◌, ◌≤◌, List, [], ◌∷◌, ◌++◌, length, take, drop, All, slice_index, refl, arith}
use Rattle.std.proofs.lemmas.List.Elements.{All-head, All-tail}
use Rattle.mj_base.specs.Bytes.{number16, number32, number64}
use Rattle.mj_schema.specs.declared.kind.Width.{Width}
use Rattle.mj_schema.specs.declared.kind.Width.TheVariants.{Bits8, Bits16, Bits32, Bits64}
use Rattle.mj_schema.specs.Sizes.{bits_of}
use Rattle.wire_model.specs.Marks.{Mark, Test, Object, Handle, Id}
use Rattle.wire_model.specs.Stands.{Extent, IsOrderly}
use Rattle.wire_model.specs.Values.{int_at}
use Rattle.same_messages.specs.Agree.{AgreeIn}
use Rattle.same_messages.specs.steps.Agreed.{AreSame, AreSameIn, AreSameWithin, Agreed}

-- a part of what is the same
pub same_part : (bytes other : List ℕ) (a n b m : ℕ) → AreSame bytes other a n → a ≤ b → b + m ≤ a + n → AreSame bytes other b m
same_part bytes other a n b m h le fits at from to = h at (omega arith) (omega arith)

module _ (bytes other : List ℕ) where
  pub same8 : (a : ℕ) → AreSame bytes other a 1 → slice_index other a ≡ slice_index bytes a
  same8 a h = h a (omega arith) (omega arith)

  same16 : (a : ℕ) → AreSame bytes other a 2 → number16 other a ≡ number16 bytes a
  unfolding number16
  same16 a h =
      let e0 = h a (omega arith) (omega arith) in
      let e1 = h (a + 1) (omega arith) (omega arith) in
      omega (arith, e0, e1)

  pub same32 : (a : ℕ) → AreSame bytes other a 4 → number32 other a ≡ number32 bytes a
  unfolding number32
  same32 a h =
      let e0 = h a (omega arith) (omega arith) in
      let e1 = h (a + 1) (omega arith) (omega arith) in
      let e2 = h (a + 2) (omega arith) (omega arith) in
      let e3 = h (a + 3) (omega arith) (omega arith) in
      omega (arith, e0, e1, e2, e3)

  pub same64 : (a : ℕ) → AreSame bytes other a 8 → number64 other a ≡ number64 bytes a
  unfolding number64
  same64 a h =
      let low = same32 a (same_part bytes other a 8 a 4 h (omega arith) (omega arith)) in
      let high = same32 (a + 4) (same_part bytes other a 8 (a + 4) 4 h (omega arith) (omega arith)) in
      omega (arith, low, high)

  pub same_int : (w : Width) (a : ℕ) → AreSame bytes other a ((bits_of w + 7) / 8) → int_at w other a ≡ int_at w bytes a
  same_int Bits8 a h = same8 a h
  same_int Bits16 a h = same16 a h
  same_int Bits32 a h = same32 a h
  same_int Bits64 a h = same64 a h

  -- ---- extents

  pub each_same : (es : List Extent) → All (AgreeIn bytes other) es → AreSameIn bytes other es
  each_same [] h = tt
  each_same (e ∷ es) h = (All-head (AgreeIn bytes other) e es h, each_same es (All-tail (AgreeIn bytes other) e es h))

  pub same_in_left : (xs ys : List Extent) → AreSameIn bytes other (xs ++ ys) → AreSameIn bytes other xs
  same_in_left [] ys h = tt
  same_in_left (x ∷ xs) ys h = (h.0, same_in_left xs ys h.1)

  pub same_in_right : (xs ys : List Extent) → AreSameIn bytes other (xs ++ ys) → AreSameIn bytes other ys
  same_in_right [] ys h = h
  same_in_right (x ∷ xs) ys h = same_in_right xs ys h.1

  -- objects in order end within the first message where its payload does
  pub within : (from end : ℕ) (es : List Extent) → end ≤ length bytes → AreSameIn bytes other es → IsOrderly from end es → AreSameWithin bytes other es
  within from end [] le same orderly = tt
  within from end (e ∷ es) le same orderly =
      let ends = orderly.1.1.0 in ((same.0, omega (arith, le, ends)), within (e.start + e.size) end es le same.1 orderly.1.1.1)

  pub agreed_left : (xs ys : List Mark) → Agreed bytes other (xs ++ ys) → Agreed bytes other xs
  agreed_left [] ys h = tt
  agreed_left (Test b k at ∷ xs) ys h = agreed_left xs ys h
  agreed_left (Object s z e f k ∷ xs) ys h = (h.0, agreed_left xs ys h.1)
  agreed_left (Handle i at ∷ xs) ys h = agreed_left xs ys h
  agreed_left (Id i at ∷ xs) ys h = agreed_left xs ys h

  pub agreed_right : (xs ys : List Mark) → Agreed bytes other (xs ++ ys) → Agreed bytes other ys
  agreed_right [] ys h = h
  agreed_right (Test b k at ∷ xs) ys h = agreed_right xs ys h
  agreed_right (Object s z e f k ∷ xs) ys h = agreed_right xs ys h.1
  agreed_right (Handle i at ∷ xs) ys h = agreed_right xs ys h
  agreed_right (Id i at ∷ xs) ys h = agreed_right xs ys h

-- ---- texts

front_same : (xs ys : List ℕ) (n : ℕ) → n ≤ length xs → length xs ≤ length ys → AreSame xs ys 0 n → take n ys ≡ take n xs
front_same xs ys zero room long h = refl
front_same [] ys (suc n) room long h = absurd (omega (arith, room))
front_same (x ∷ xs) [] (suc n) room long h = absurd (omega (arith, long))
front_same (x ∷ xs) (y ∷ ys) (suc n) room long h =
    let one : y ≡ x = h 0 (omega arith) (omega arith) in
    let rest = front_same xs ys n (omega (arith, room)) (omega (arith, long)) (λ at from to. h (suc at) (omega arith) (omega arith)) in
    rw (one, rest) refl

-- n bytes from a place on, that lie within the shorter list
pub cut_same : (xs ys : List ℕ) (a n : ℕ) → a + n ≤ length xs → length xs ≤ length ys → AreSame xs ys a n → take n (drop a ys) ≡ take n (drop a xs)
cut_same xs ys zero n room long h = front_same xs ys n (omega (arith, room)) long h
cut_same [] ys (suc a) n room long h = absurd (omega (arith, room))
cut_same (x ∷ xs) [] (suc a) n room long h = absurd (omega (arith, long))
cut_same (x ∷ xs) (y ∷ ys) (suc a) n room long h =
    cut_same xs ys a n (omega (arith, room)) (omega (arith, long)) (λ at from to. h (suc at) (omega arith) (omega arith))
