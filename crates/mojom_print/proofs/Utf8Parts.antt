-- What a string of a file stands for is UTF-8.
use Rattle.std.proofs.Common.{◌≡◌, ℕ, zero, suc, ◌+◌, ◌≤◌, ◌<◌, List, [], ◌∷◌, ◌++◌, length, get_or, Bool, true, false, cond, ◌==◌, Option, Some, None, Result, Ok, Err, refl, sym, ◌∙◌, ap, subst, arith}
use Rattle.std.specs.Prelude.{IsUtf8, nat_lt}
use Rattle.std.specs.List.{list_all, flat_map}
use Rattle.std.proofs.Math.Seq.{take-append_seam, drop-append-add, get_or-append_seam}
use Rattle.std.proofs.lemmas.Bool.Decides.{nat_tests}
use Rattle.std.proofs.lemmas.List.{length-append}
use Rattle.std.proofs.lemmas.Str.{IsUtf8-nil, IsUtf8-append, IsUtf8-from_ascii, IsUtf8-take, IsUtf8-drop, IsCharBoundary-before_ascii, IsCharBoundary-after_ascii, encode_ascii}
use lib.Utf8.{scalar, scalars, encode, encodes}
use Rattle.mojom_lexer.specs.Strings.{Part, spelled, escaped, then_text, text_of}
use Rattle.mojom_lexer.specs.Strings.Part.{Literal, Escape}
use Rattle.mojom_lexer.proofs.Runs.{left, right}
use Rattle.mojom_lexer.proofs.FirstBytes.{eqb_same}
use Rattle.mojom_print.proofs.Utf8Texts.{high, encode_high, high_bytes, one_char, one_ascii}

-- a part was read
record PartRead (m : Option ℕ) (rest : Result (List ℕ) ℕ) (text : List ℕ) : Type 0 where
  pub byte : ℕ
  pub more : List ℕ
  pub means : m ≡ Some byte
  pub reads : rest ≡ Ok more
  pub is : text ≡ byte ∷ more

part_read : (at : ℕ) (m : Option ℕ) (rest : Result (List ℕ) ℕ) (text : List ℕ) → then_text at m rest ≡ Ok text → PartRead m rest text
part_read at None rest text e = absurd (cc)
part_read at (Some c) (Err bad) text e = absurd (cc)
part_read at (Some c) (Ok cs) text e =
    record { byte = c; more = cs; means = refl; reads = refl; is = let s : ◌≡◌ {A = Result (List ℕ) ℕ} (Ok (c ∷ cs)) (Ok text) = e in cc }

-- the four escapes are of ASCII and stand for ASCII
record IsLow (d m : ℕ) : Type 0 where
  pub written : d < 128
  pub meant : m < 128

some_is : (a b : ℕ) → Some a ≡ Some b → a ≡ b
some_is a b e = cc

low_escape : (d m : ℕ) → escaped d ≡ Some m → IsLow d m
low_escape d m e = of (d == 34) (d == 92) (d == 110) (d == 116) refl refl refl refl e
  where
    of : (p q r s : Bool) → (d == 34) ≡ p → (d == 92) ≡ q → (d == 110) ≡ r → (d == 116) ≡ s
        → cond p (Some 34) (cond q (Some 92) (cond r (Some 10) (cond s (Some 9) None))) ≡ Some m → IsLow d m
    of true q r s f g h i k = let a : d ≡ 34 = eqb_same d 34 f in let b : 34 ≡ m = some_is 34 m k in record { written = omega arith; meant = omega arith }
    of false true r s f g h i k = let a : d ≡ 92 = eqb_same d 92 g in let b : 92 ≡ m = some_is 92 m k in record { written = omega arith; meant = omega arith }
    of false false true s f g h i k =
        let a : d ≡ 110 = eqb_same d 110 h in let b : 10 ≡ m = some_is 10 m k in record { written = omega arith; meant = omega arith }
    of false false false true f g h i k =
        let a : d ≡ 116 = eqb_same d 116 i in let b : 9 ≡ m = some_is 9 m k in record { written = omega arith; meant = omega arith }
    of false false false false f g h i k = absurd (cc)

-- parts that begin with bytes beyond ASCII
record Behind (bs xs text : List ℕ) : Type 0 where
  pub parts : List Part
  pub at : ℕ
  pub more : List ℕ
  pub bytes : flat_map spelled parts ≡ xs
  pub reads : text_of at parts ≡ Ok more
  pub is : text ≡ bs ++ more

no_high : (b : ℕ) → b ≡ 92 → high b ≡ true → ⊥
unfolding high
no_high b e h = let f : high 92 ≡ true = subst (λ (c : ℕ). high c ≡ true) e h in absurd (cc)

behind_high : (bs xs : List ℕ) (ps : List Part) (at : ℕ) (text : List ℕ) → list_all high bs ≡ true → flat_map spelled ps ≡ bs ++ xs
    → text_of at ps ≡ Ok text → Behind bs xs text
behind_high [] xs ps at text h e f = record { parts = ps; at = at; more = text; bytes = e; reads = f; is = refl }
behind_high (b ∷ bs) xs [] at text h e f = absurd (cc)
behind_high (b ∷ bs) xs (Literal c ∷ ps) at text h e f =
    let r = part_read at (Some c) (text_of (at + 1) ps) text f in
    let same : c ≡ b = cc in
    let tail : flat_map spelled ps ≡ bs ++ xs = cc in
    let g = behind_high bs xs ps (at + 1) r.more (right (high b) (list_all high bs) h) tail r.reads in
    record {
      parts = g.parts;
      at = g.at;
      more = g.more;
      bytes = g.bytes;
      reads = g.reads;
      is = r.is
          ∙ ap (λ (x : ℕ). x ∷ r.more) (sym (some_is c r.byte r.means) ∙ same) ∙ ap (λ (l : List ℕ). b ∷ l) g.is;
    }
behind_high (b ∷ bs) xs (Escape d ∷ ps) at text h e f = let s : b ≡ 92 = cc in absurd (no_high b s (left (high b) (list_all high bs) h))

-- an ASCII byte at the front of characters is one
record LowFront (d : ℕ) (ds cs : List ℕ) : Type 0 where
  pub more : List ℕ
  pub is : cs ≡ d ∷ more
  pub rest : ds ≡ encodes more

high_no_low : (b : ℕ) → high b ≡ true → b < 128 → ⊥
unfolding high
high_no_low b h l = grind (arith, nat_tests)

low_front : (d : ℕ) (ds cs : List ℕ) → d < 128 → d ∷ ds ≡ encodes cs → LowFront d ds cs
low_front d ds [] l e = absurd (cc)
low_front d ds (c ∷ cs) l e = of (nat_lt c 128) refl
  where
    of : (v : Bool) → nat_lt c 128 ≡ v → LowFront d ds (c ∷ cs)
    of true f =
        let low : c < 128 = grind (arith, nat_tests) in
        let g : d ∷ ds ≡ c ∷ encodes cs = e ∙ ap (λ (bs : List ℕ). bs ++ encodes cs) (encode_ascii c low) in
        let same : d ≡ c = cc in
        let tail : ds ≡ encodes cs = cc in
        record { more = cs; is = ap (λ (x : ℕ). x ∷ cs) (sym same); rest = tail }
    of false f =
        let h = encode_high c f in
        let g : d ∷ ds ≡ h.first ∷ (h.more ++ encodes cs) = e ∙ ap (λ (bs : List ℕ). bs ++ encodes cs) h.is in
        let same : d ≡ h.first = cc in
        absurd (high_no_low h.first h.first_high (subst (λ (x : ℕ). x < 128) same l))

low_byte : (m : ℕ) (text more : List ℕ) → m < 128 → text ≡ m ∷ more → IsUtf8 more → IsUtf8 text
low_byte m text more l e h = subst IsUtf8 (sym e) (IsUtf8-append (m ∷ []) more (IsUtf8-from_ascii (m ∷ []) (one_ascii m l)) h)

tail_short : (c n : ℕ) (cs : List ℕ) → length (c ∷ cs) ≤ suc n → length cs ≤ n
tail_short c n cs h = omega arith

-- the characters of the parts' bytes give those of the text
parts_utf8 : (n : ℕ) (cs : List ℕ) (ps : List Part) (at : ℕ) (text : List ℕ) → length cs ≤ n → scalars cs ≡ true → flat_map spelled ps ≡ encodes cs
    → text_of at ps ≡ Ok text → IsUtf8 text
parts_utf8 n cs [] at text le h e f = let s : ◌≡◌ {A = Result (List ℕ) ℕ} (Ok []) (Ok text) = f in let g : [] ≡ text = cc in subst IsUtf8 g IsUtf8-nil
parts_utf8 n [] (Literal c ∷ ps) at text le h e f = absurd (cc)
parts_utf8 n [] (Escape d ∷ ps) at text le h e f = absurd (cc)
parts_utf8 zero (c ∷ cs) (p ∷ ps) at text le h e f = absurd (omega arith)
parts_utf8 (suc n) (c ∷ cs) (p ∷ ps) at text le h e f = step (parts_utf8 n) p (nat_lt c 128) refl e f
  where
    Shorter : Type 0
    Shorter =
        (ds : List ℕ) (qs : List Part) (from : ℕ) (left_text : List ℕ) → length ds ≤ n → scalars ds ≡ true → flat_map spelled qs ≡ encodes ds
        → text_of from qs ≡ Ok left_text → IsUtf8 left_text

    beyond : Shorter → nat_lt c 128 ≡ false → (p : Part) → flat_map spelled (p ∷ ps) ≡ encode c ++ encodes cs → text_of at (p ∷ ps) ≡ Ok text → IsUtf8 text
    beyond others v p e f =
        let b = behind_high (encode c) (encodes cs) (p ∷ ps) at text (high_bytes c (encode_high c v)) e f in
        let more : IsUtf8 b.more = others cs b.parts b.at b.more (tail_short c n cs le) (right (scalar c) (scalars cs) h) b.bytes b.reads in
        subst IsUtf8 (sym b.is) (IsUtf8-append (encode c) b.more (one_char c (left (scalar c) (scalars cs) h)) more)

    plain : Shorter → (d : ℕ) → c < 128 → d ∷ flat_map spelled ps ≡ c ∷ encodes cs → then_text at (Some d) (text_of (at + 1) ps) ≡ Ok text → IsUtf8 text
    plain others d low e f =
        let r = part_read at (Some d) (text_of (at + 1) ps) text f in
        let same : d ≡ c = cc in
        let tail : flat_map spelled ps ≡ encodes cs = cc in
        low_byte r.byte text r.more (subst (λ (x : ℕ). x < 128) (sym same ∙ some_is d r.byte r.means) low) r.is
        (others cs ps (at + 1) r.more (tail_short c n cs le) (right (scalar c) (scalars cs) h) tail r.reads)

    escape : Shorter → (d : ℕ) → 92 ∷ d ∷ flat_map spelled ps ≡ c ∷ encodes cs → then_text at (escaped d) (text_of (at + 2) ps) ≡ Ok text → IsUtf8 text
    escape others d e f =
        let r = part_read at (escaped d) (text_of (at + 2) ps) text f in
        let low = low_escape d r.byte r.means in
        let tail : d ∷ flat_map spelled ps ≡ encodes cs = cc in
        let front = low_front d (flat_map spelled ps) cs low.written tail in
        let count : length cs ≡ suc (length front.more) = ap length front.is in
        let good : scalars (d ∷ front.more) ≡ true = subst (λ (l : List ℕ). scalars l ≡ true) front.is (right (scalar c) (scalars cs) h) in
        low_byte r.byte text r.more low.meant r.is
        (others front.more ps (at + 2) r.more (let t = tail_short c n cs le in omega arith)
        (right (scalar d) (scalars front.more) good) front.rest r.reads)

    step : Shorter → (p : Part) (v : Bool) → nat_lt c 128 ≡ v → flat_map spelled (p ∷ ps) ≡ encode c ++ encodes cs → text_of at (p ∷ ps) ≡ Ok text
        → IsUtf8 text
    step others p false v e f = beyond others v p e f
    step others (Literal d) true v e f =
        let low : c < 128 = grind (arith, nat_tests) in plain others d low (e ∙ ap (λ (bs : List ℕ). bs ++ encodes cs) (encode_ascii c low)) f
    step others (Escape d) true v e f =
        let low : c < 128 = grind (arith, nat_tests) in escape others d (e ∙ ap (λ (bs : List ℕ). bs ++ encodes cs) (encode_ascii c low)) f

-- for `tokens_lexical`: what a string stands for is UTF-8
pub text_utf8 : (ps : List Part) (at : ℕ) (text : List ℕ) → IsUtf8 (flat_map spelled ps) → text_of at ps ≡ Ok text → IsUtf8 text
text_utf8 ps at text h f = parts_utf8 (length h.0) h.0 ps at text (omega arith) h.1.0 (sym h.1.1) f

-- what stands between two quotes of a text
behind_quote : (a b : List ℕ) → IsUtf8 (a ++ 34 ∷ b) → IsUtf8 b
behind_quote a b h =
    let at : get_or (a ++ 34 ∷ b) (length a) 0 ≡ 34 = get_or-append_seam a 34 b 0 in
    let n : length (a ++ 34 ∷ b) ≡ length a + length (34 ∷ b) = length-append a (34 ∷ b) in
    let inside : length a < length (a ++ 34 ∷ b) = omega arith in
    let low : get_or (a ++ 34 ∷ b) (length a) 0 < 128 = omega arith in
    subst IsUtf8 (drop-append-add a (34 ∷ b) 1) (IsUtf8-drop (a ++ 34 ∷ b) (length a + 1) h (IsCharBoundary-after_ascii (a ++ 34 ∷ b) (length a) h inside low))

before_quote : (a b : List ℕ) → IsUtf8 (a ++ 34 ∷ b) → IsUtf8 a
before_quote a b h =
    let at : get_or (a ++ 34 ∷ b) (length a) 0 ≡ 34 = get_or-append_seam a 34 b 0 in
    let n : length (a ++ 34 ∷ b) ≡ length a + length (34 ∷ b) = length-append a (34 ∷ b) in
    let inside : length a < length (a ++ 34 ∷ b) = omega arith in
    let low : get_or (a ++ 34 ∷ b) (length a) 0 < 128 = omega arith in
    subst IsUtf8 (take-append_seam a (34 ∷ b)) (IsUtf8-take (a ++ 34 ∷ b) (length a) h (IsCharBoundary-before_ascii (a ++ 34 ∷ b) (length a) inside low))

-- for `tokens_lexical`: what stands between quotes is UTF-8
pub quoted_utf8 : (a inside b : List ℕ) → IsUtf8 (a ++ 34 ∷ (inside ++ 34 ∷ b)) → IsUtf8 inside
quoted_utf8 a inside b h = before_quote inside b (behind_quote a (inside ++ 34 ∷ b) h)
