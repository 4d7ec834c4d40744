-- The words for what is moved at a token are told apart.
use Rattle.std.proofs.Common.{◌≡◌, ◌<◌, ℕ, Bool, true, false, List, [], ◌∷◌, refl, sym, ap, ◌∙◌, arith}
use Rattle.std.specs.Prelude.{codes, decimal, if◌then◌else◌}
use Rattle.std.specs.Str.{bytes_eq}
use Rattle.std.proofs.lemmas.Fmt.{decimal_injective}
use Rattle.script_words.proofs.Parts.{never_false}
use Rattle.script_forms.specs.Forms.{Moved, Put, Get, BeginPut, EndPut, BeginGet, EndGet, IsMoved, get_word, move_tail, move_word, put_word}

-- what a word moves: 6 where it moves nothing
abbrev pub kind_in : List ℕ → ℕ
kind_in word =
    if bytes_eq word (codes "put") then 0
    else (if bytes_eq word (codes "put-all") then 0
    else (if bytes_eq word (codes "get") then 1
    else (if bytes_eq word (codes "get-all") then 1
    else (if bytes_eq word (codes "begin-put") then 2
    else (if bytes_eq word (codes "end-put") then 3
    else (if bytes_eq word (codes "begin-get") then 4
    else (if bytes_eq word (codes "end-get") then 5 else 6)))))))

-- the same by what is moved
abbrev pub kind_of : Moved → ℕ
kind_of (Put bytes all) = 0
kind_of (Get n all) = 1
kind_of BeginPut = 2
kind_of (EndPut bytes) = 3
kind_of BeginGet = 4
kind_of (EndGet n) = 5

kind_is : (f : Moved) → kind_in (move_word f) ≡ kind_of f
kind_is (Put bytes false) = refl
kind_is (Put bytes true) = refl
kind_is (Get n false) = refl
kind_is (Get n true) = refl
kind_is BeginPut = refl
kind_is (EndPut bytes) = refl
kind_is BeginGet = refl
kind_is (EndGet n) = refl

kind_small : (f : Moved) → kind_of f < 6
kind_small (Put bytes all) = omega arith
kind_small (Get n all) = omega arith
kind_small BeginPut = omega arith
kind_small (EndPut bytes) = omega arith
kind_small BeginGet = omega arith
kind_small (EndGet n) = omega arith

-- a word that moves nothing is none of these
pub no_move : (word : List ℕ) (f : Moved) → kind_in word ≡ 6 → word ≡ move_word f → ⊥
no_move word f other same = omega (arith, kind_small f, sym other ∙ (ap kind_in same ∙ kind_is f))

-- words that are one move the same
pub kinds : (f g : Moved) → move_word f ≡ move_word g → kind_of f ≡ kind_of g
kinds f g same = sym (kind_is f) ∙ (ap kind_in same ∙ kind_is g)

pub put_one : (a b : Bool) → put_word a ≡ put_word b → a ≡ b
put_one false false e = refl
put_one false true e = absurd (never_false (codes "put") (codes "put-all") e refl)
put_one true false e = absurd (never_false (codes "put-all") (codes "put") e refl)
put_one true true e = refl

pub get_one : (a b : Bool) → get_word a ≡ get_word b → a ≡ b
get_one false false e = refl
get_one false true e = absurd (never_false (codes "get") (codes "get-all") e refl)
get_one true false e = absurd (never_false (codes "get-all") (codes "get") e refl)
get_one true true e = refl

first_of_one : (a b : List ℕ) → ◌≡◌ {A = List (List ℕ)} (a ∷ []) (b ∷ []) → a ≡ b
first_of_one a b e = cc

-- what is moved has one spelling
pub moved_one : (f g : Moved) → IsMoved f → IsMoved g → move_word f ≡ move_word g → move_tail f ≡ move_tail g → f ≡ g
moved_one (Put b all) (Put b' all') hf hg word tail =
    let bytes : b ≡ b' = first_of_one b b' tail in
    let part : all ≡ all' = put_one all all' word in cc
moved_one (Get n all) (Get n' all') hf hg word tail =
    let many : n ≡ n' = decimal_injective n n' (omega (arith, hf)) (omega (arith, hg)) (first_of_one (decimal n) (decimal n') tail) in
    let part : all ≡ all' = get_one all all' word in cc
moved_one BeginPut BeginPut hf hg word tail = refl
moved_one (EndPut b) (EndPut b') hf hg word tail = ap EndPut (first_of_one b b' tail)
moved_one BeginGet BeginGet hf hg word tail = refl
moved_one (EndGet n) (EndGet n') hf hg word tail =
    ap EndGet (decimal_injective n n' (omega (arith, hf)) (omega (arith, hg)) (first_of_one (decimal n) (decimal n') tail))
moved_one f g hf hg word tail = absurd (omega (arith, kinds f g word))
