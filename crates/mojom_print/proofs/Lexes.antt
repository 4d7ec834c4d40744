-- The tokens of bytes, piece by piece from the front; and of texts, whatever follows them.
use Rattle.std.proofs.Common.{◌≡◌, ℕ, zero, suc, ◌≤◌, ◌<◌, List, [], ◌∷◌, ◌++◌, length, take, Bool, true, false, not, refl, sym, subst, append_assoc, arith}
use Rattle.std.specs.Prelude.{IsUtf8}
use Rattle.std.specs.Str.{IsAscii}
use Rattle.std.proofs.lemmas.Bool.Decides.{nat_tests}
use Rattle.std.proofs.lemmas.Str.{IsUtf8-nil, IsUtf8-append, IsUtf8-from_ascii}
use Rattle.std.proofs.Common.{lit<}
use Rattle.std.specs.List.{list_all, flat_map}
use Rattle.mojom_ast.specs.declared.token.Sort.{Sort}
use Rattle.mojom_lexer.specs.Bytes.{is_blank}
use Rattle.mojom_lexer.specs.Pieces.{IsLongest}
use Rattle.mojom_lexer.specs.Lexed.{SpellsSort}
use Rattle.mojom_lexer.proofs.Runs.{left, right}
use Rattle.mojom_print.proofs.Prints.{AllLexical}

-- the first byte, where there is one, doesn't pass
abbrev pub stops : (ℕ → Bool) → List ℕ → Bool
stops p [] = true
stops p (c ∷ cs) = not (p c)

-- a run that what follows stops is the longest
pub run_stops : (p : ℕ → Bool) (xs rest : List ℕ) → stops p rest ≡ true → (more : ℕ) → more ≤ length (xs ++ rest)
    → list_all p (take more (xs ++ rest)) ≡ true → more ≤ length xs
run_stops p xs rest s zero le h = omega arith
run_stops p [] [] s (suc m) le h = absurd (omega arith)
run_stops p [] (c ∷ cs) s (suc m) le h = let a : p c ≡ true = left (p c) (list_all p (take m cs)) h in absurd (of (p c) a s)
  where
    of : (v : Bool) → v ≡ true → not v ≡ true → ⊥
    of true e f = absurd (cc)
    of false e f = absurd (cc)
run_stops p (x ∷ xs) rest s (suc m) le h =
    let r : m ≤ length xs = run_stops p xs rest s m (omega arith) (right (p x) (list_all p (take m (xs ++ rest))) h) in omega arith

-- the bytes are blanks and these tokens
pub data Lexes : List ℕ → List Sort → Type 0 where
  ends : Lexes [] []
  blank : (c : ℕ) (bs : List ℕ) (ss : List Sort) → is_blank c ≡ true → Lexes bs ss → Lexes (c ∷ bs) ss
  token : (p bs : List ℕ) (s : Sort) (ss : List Sort) → SpellsSort s p → IsLongest (p ++ bs) (length p) → Lexes bs ss → Lexes (p ++ bs) (s ∷ ss)

-- Wherever none of q follows the text, none of p stands at its front and it is these tokens.
pub record Tells (p q : ℕ → Bool) (text : List ℕ) (sorts : List Sort) : Type 0 where
  pub parts : AllLexical sorts → (rest : List ℕ) → stops q rest ≡ true → stops p (text ++ rest) ≡ true
  pub told : AllLexical sorts → (rest : List ℕ) (more : List Sort) → stops q rest ≡ true → Lexes rest more → Lexes (text ++ rest) (sorts ++ more)
  pub utf8 : AllLexical sorts → IsUtf8 text

-- anything may follow
abbrev pub none : ℕ → Bool
none c = false

-- where anything may follow, what follows stops
pub stops_none : (rest : List ℕ) → stops none rest ≡ true
stops_none [] = refl
stops_none (c ∷ cs) = refl

lexical_left : (xs ys : List Sort) → AllLexical (xs ++ ys) → AllLexical xs
lexical_left [] ys h = tt
lexical_left (x ∷ xs) ys h = (h.0, lexical_left xs ys h.1)

lexical_right : (xs ys : List Sort) → AllLexical (xs ++ ys) → AllLexical ys
lexical_right [] ys h = h
lexical_right (x ∷ xs) ys h = lexical_right xs ys h.1

infixr 20 ◌then◌
pub ◌then◌ : {p q r : ℕ → Bool} {xs ys : List ℕ} {ss ts : List Sort} → Tells p q xs ss → Tells q r ys ts → Tells p r (xs ++ ys) (ss ++ ts)
◌then◌ {p = p} {q = q} {r = r} {xs = xs} {ys = ys} {ss = ss} {ts = ts} a b =
    record { parts = parts; told = told; utf8 = λ h. IsUtf8-append xs ys (a.utf8 (lexical_left ss ts h)) (b.utf8 (lexical_right ss ts h)) }
  where
    parts : AllLexical (ss ++ ts) → (rest : List ℕ) → stops r rest ≡ true → stops p ((xs ++ ys) ++ rest) ≡ true
    parts h rest s =
        subst (λ (bs : List ℕ). stops p bs ≡ true) (sym (append_assoc xs ys rest))
        (a.parts (lexical_left ss ts h) (ys ++ rest) (b.parts (lexical_right ss ts h) rest s))

    told : AllLexical (ss ++ ts) → (rest : List ℕ) (more : List Sort) → stops r rest ≡ true → Lexes rest more → Lexes ((xs ++ ys) ++ rest) ((ss ++ ts) ++ more)
    told h rest more s l =
        let k : AllLexical ts = lexical_right ss ts h in
        let front : Lexes (xs ++ (ys ++ rest)) (ss ++ (ts ++ more)) =
        a.told (lexical_left ss ts h) (ys ++ rest) (ts ++ more) (b.parts k rest s) (b.told k rest more s l) in
        subst (λ (bs : List ℕ). Lexes bs ((ss ++ ts) ++ more)) (sym (append_assoc xs ys rest))
        (subst (λ (us : List Sort). Lexes (xs ++ (ys ++ rest)) us) (sym (append_assoc ss ts more)) front)

-- sorts put together otherwise
pub tells_sorts : {p q : ℕ → Bool} {text : List ℕ} (ss ts : List Sort) → ss ≡ ts → Tells p q text ss → Tells p q text ts
tells_sorts {p = p} {q = q} {text = text} ss ts e a = subst (λ (us : List Sort). Tells p q text us) e a

-- behind what anything may follow
pub fresh : {p q : ℕ → Bool} {text : List ℕ} {ss : List Sort} → Tells p q text ss → Tells none q text ss
fresh {text = text} a = record { parts = λ h rest s. stops_none (text ++ rest); told = a.told; utf8 = a.utf8 }

-- before anything
pub closed : {p q : ℕ → Bool} {text : List ℕ} {ss : List Sort} → Tells p none text ss → Tells p q text ss
closed a = record { parts = λ h rest s. a.parts h rest (stops_none rest); told = λ h rest more s l. a.told h rest more (stops_none rest) l; utf8 = a.utf8 }

-- before less
pub before : {p q r : ℕ → Bool} {text : List ℕ} {ss : List Sort} → ((rest : List ℕ) → stops r rest ≡ true → stops q rest ≡ true) → Tells p q text ss
    → Tells p r text ss
before less a = record { parts = λ h rest s. a.parts h rest (less rest s); told = λ h rest more s l. a.told h rest more (less rest s) l; utf8 = a.utf8 }

-- nothing
pub nothing : {q : ℕ → Bool} → Tells q q [] []
nothing {q = q} = record { parts = λ h rest s. s; told = λ h rest more s l. l; utf8 = λ h. IsUtf8-nil }

-- blanks
blanks_lex : (bs rest : List ℕ) (more : List Sort) → list_all is_blank bs ≡ true → Lexes rest more → Lexes (bs ++ rest) more
blanks_lex [] rest more h l = l
blanks_lex (c ∷ cs) rest more h l =
    blank c (cs ++ rest) more (left (is_blank c) (list_all is_blank cs) h) (blanks_lex cs rest more (right (is_blank c) (list_all is_blank cs) h) l)

blank_ascii : (c : ℕ) → is_blank c ≡ true → c < 128
blank_ascii c e = grind (arith, nat_tests)

blanks_ascii : (bs : List ℕ) → list_all is_blank bs ≡ true → IsAscii bs
blanks_ascii [] e i = lit< tt
blanks_ascii (c ∷ cs) e zero = blank_ascii c (left (is_blank c) (list_all is_blank cs) e)
blanks_ascii (c ∷ cs) e (suc i) = blanks_ascii cs (right (is_blank c) (list_all is_blank cs) e) i

-- for texts that begin with blanks
pub blanks : {p : ℕ → Bool} (c : ℕ) (cs : List ℕ) → list_all is_blank (c ∷ cs) ≡ true → not (p c) ≡ true → Tells p none (c ∷ cs) []
blanks c cs h f =
    record {
      parts = λ g rest s. f;
      told = λ g rest more s l. blanks_lex (c ∷ cs) rest more h l;
      utf8 = λ g. IsUtf8-from_ascii (c ∷ cs) (blanks_ascii (c ∷ cs) h);
    }

-- one token
pub one : {p : ℕ → Bool} (q : ℕ → Bool) (c : ℕ) (cs : List ℕ) (s : Sort) → SpellsSort s (c ∷ cs) → (AllLexical (s ∷ []) → IsUtf8 (c ∷ cs))
    → not (p c) ≡ true → ((rest : List ℕ) → stops q rest ≡ true → IsLongest ((c ∷ cs) ++ rest) (length (c ∷ cs))) → Tells p q (c ∷ cs) (s ∷ [])
one q c cs s h u f longest = record { parts = λ g rest e. f; told = λ g rest more e l. token (c ∷ cs) rest s more h (longest rest e) l; utf8 = u }

-- lists of texts which anything may follow
pub each : {A : Type 0} (text : A → List ℕ) (sorts : A → List Sort) → ((x : A) → Tells none none (text x) (sorts x)) → (xs : List A)
    → Tells none none (flat_map text xs) (flat_map sorts xs)
each text sorts tells [] = nothing
each text sorts tells (x ∷ xs) = tells x then each text sorts tells xs

-- texts with a sign between them
module _ {A : Type 0} (p : ℕ → Bool) (mark : List ℕ) (sign : Sort) (text : A → List ℕ) (sorts : A → List Sort)
    (marked : Tells p none mark (sign ∷ [])) (tells : (x : A) → Tells none p (text x) (sorts x)) where
  led_by : (xs : List A) → Tells p p (flat_map (λ x. mark ++ text x) xs) (flat_map (λ x. (sign ∷ []) ++ sorts x) xs)
  led_by [] = nothing
  led_by (x ∷ xs) = (marked then tells x) then led_by xs

  -- for names and lists: texts with a sign between each two
  pub with_marks : (x : A) (xs : List A) → Tells none p (text x ++ flat_map (λ y. mark ++ text y) xs) (sorts x ++ flat_map (λ y. (sign ∷ []) ++ sorts y) xs)
  with_marks x xs = tells x then led_by xs
