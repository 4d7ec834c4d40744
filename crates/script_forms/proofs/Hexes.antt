-- Bytes in hexadecimal.
use Rattle.std.proofs.Common.{◌≡◌, ℕ, List, [], ◌∷◌, length, sym, ◌∙◌, ap, arith, refl, Ok, Err, inl, inr}
use Rattle.std.specs.Prelude.{codes, ◌==◌, ◌⊎◌, true, false}
use Rattle.std.specs.Str.{bytes_eq}
use Rattle.std.proofs.lemmas.Bool.Decides.{nat_tests}
use Rattle.std.proofs.lemmas.Slice.Eq.{bytes_eq-Decides}
use Rattle.hex.specs.Hex.{encode_lower, encode_with, decode_of, IsBytes}
use Rattle.hex.specs.declared.error.FromHexError.{FromHexError}
use Rattle.hex.specs.declared.error.FromHexError.TheVariants.{OutOfMemory}
use Rattle.hex.proofs.HexLemmas.{decode_of-encode_lower, decode_of-ok}
use Rattle.script_words.specs.Letters.{hex_word, IsHexOf, IsHexWord}
use Rattle.script_words.proofs.Parts.{never_false}

-- a word is that of some bytes, in one way
pub hex_one : (a b : List ℕ) → IsBytes a → IsBytes b → hex_word a ≡ hex_word b → a ≡ b
unfolding encode_with
hex_one [] [] ha hb e = refl
hex_one [] (y ∷ ys) ha hb e = absurd cc
hex_one (x ∷ xs) [] ha hb e = absurd cc
hex_one (x ∷ xs) (y ∷ ys) ha hb e =
    let same = sym (decode_of-encode_lower (x ∷ xs) ha) ∙ (ap decode_of e ∙ decode_of-encode_lower (y ∷ ys) hb) in cc

-- the empty word is none
pub never_empty : (word : List ℕ) → (length word == 0) ≡ true → IsHexWord word → ⊥
unfolding encode_with
never_empty [] none ([], (bytes, e)) = cc
never_empty [] none (b ∷ bs, (bytes, e)) = cc
never_empty (w ∷ ws) none is = let z : length (w ∷ ws) ≡ 0 = grind (arith, nat_tests) in absurd (omega (arith, z))

-- what is read and spelled again is the word
pub spelled_again : (word bytes spelled : List ℕ) → (length word == 0) ≡ false → decode_of word ≡ Ok bytes → spelled ≡ encode_lower bytes
    → true ≡ bytes_eq spelled word → IsHexOf word bytes
spelled_again [] bytes spelled some read written same = absurd cc
spelled_again (w ∷ ws) [] spelled some read written same =
    let count = (decode_of-ok (w ∷ ws) [] read).2 in absurd (omega (arith, count))
spelled_again word (b ∷ bs) spelled some read written same =
    ((decode_of-ok word (b ∷ bs) read).3, sym ((bytes_eq-Decides spelled word).0 (sym same)) ∙ written)

-- the word of bytes is read
reads_word : (word bytes : List ℕ) → false ≡ bytes_eq word (codes "-") → IsHexOf word bytes → (decode_of word ≡ Ok bytes) × (word ≡ encode_lower bytes)
reads_word word [] other is = absurd (never_false word (codes "-") is.1 other)
reads_word word (b ∷ bs) other is = (ap decode_of is.1 ∙ decode_of-encode_lower (b ∷ bs) is.0, is.1)

-- what is spelled in another way is none
pub spelled_otherwise : (word bytes spelled : List ℕ) → false ≡ bytes_eq word (codes "-") → decode_of word ≡ Ok bytes → spelled ≡ encode_lower bytes
    → false ≡ bytes_eq spelled word → IsHexWord word → ⊥
spelled_otherwise word bytes spelled other read written differs (bytes', is) =
    let also = reads_word word bytes' other is in
    let same : bytes ≡ bytes' = let both = sym read ∙ also.0 in cc in
    never_false spelled word (written ∙ (ap encode_lower same ∙ sym also.1)) differs

-- nor is what isn't read
pub not_read : (word : List ℕ) (error : FromHexError) → false ≡ bytes_eq word (codes "-") → (error ≡ OutOfMemory → ⊥)
    → (error ≡ OutOfMemory) ⊎ (decode_of word ≡ Err error) → IsHexWord word → ⊥
not_read word error other enough (inl none) is = enough none
not_read word error other enough (inr read) (bytes, is) = let also = (reads_word word bytes other is).0 in let both = sym also ∙ read in cc
