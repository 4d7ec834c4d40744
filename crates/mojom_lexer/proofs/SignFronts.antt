-- Symbols at the front, and bytes that begin nothing.
use Rattle.std.proofs.Common.{◌≡◌, ℕ, zero, suc, ◌≤◌, List, [], ◌∷◌, length, take, Bool, true, false, cond, ◌==◌, ◌&&◌, Option, Some, None, nat_eq, codes, refl, sym, ap, ◌∙◌, subst, arith}
use Rattle.std.specs.Prelude.{is_some}
use Rattle.std.specs.List.{starts_with}
use Rattle.std.proofs.lemmas.Bool.Decides.{nat_tests}
use Rattle.mojom_ast.specs.declared.token.Symbol.{Symbol}
use Rattle.mojom_ast.specs.declared.token.Symbol.TheVariants.{Arrow}
use Rattle.mojom_lexer.specs.Words.{single_symbol, symbol_of}
use Rattle.mojom_lexer.specs.Pieces.{Kind, IsLongest, BeginsNone}
use Rattle.mojom_lexer.specs.Pieces.Kind.{Comment, Quoted, Sign}
use Rattle.mojom_lexer.specs.Lexed.{IsBadChar, begins_comment, begins_string}
use Rattle.mojom_lexer.specs.steps.Scans.{kind_of, kind_at}
use Rattle.mojom_lexer.proofs.Runs.{left, right, both}
use Rattle.mojom_lexer.proofs.FirstBytes.{longest_of, none_kind}
use Rattle.mojom_lexer.proofs.CommentFronts.{same_as, slash_none}

-- symbols have one byte or two
two_most : (bs : List ℕ) (more : ℕ) → more ≤ length bs → is_some (symbol_of (take more bs)) ≡ true → more ≤ 2
two_most bs zero le e = omega arith
two_most bs (suc zero) le e = omega arith
two_most bs (suc (suc zero)) le e = omega arith
two_most [] (suc (suc (suc m))) le e = absurd (omega arith)
two_most (c ∷ []) (suc (suc (suc m))) le e = absurd (omega arith)
two_most (c ∷ d ∷ []) (suc (suc (suc m))) le e = absurd (omega arith)
two_most (c ∷ d ∷ x ∷ cs) (suc (suc (suc m))) le e = absurd (cc)

arrow_kind : (cs : List ℕ) → kind_at (61 ∷ 62 ∷ cs) ≡ Some Sign
unfolding single_symbol
arrow_kind cs = refl

-- `=>` is the longest piece where it stands
pub arrow_longest : (bs : List ℕ) → starts_with nat_eq bs (codes "=>") ≡ true → IsLongest bs 2 × (symbol_of (take 2 bs) ≡ Some Arrow)
arrow_longest [] e = absurd (cc)
arrow_longest (c ∷ []) e = let g : false ≡ true = right (nat_eq 61 c) false e in absurd (cc)
arrow_longest (c ∷ d ∷ cs) e =
    let a : c ≡ 61 = same_as 61 c (left (nat_eq 61 c) (nat_eq 62 d && true) e) in
    let b : d ≡ 62 = same_as 62 d (left (nat_eq 62 d) true (right (nat_eq 61 c) (nat_eq 62 d && true) e)) in
    subst (λ (bs : List ℕ). IsLongest bs 2 × (symbol_of (take 2 bs) ≡ Some Arrow)) (ap (λ (x : ℕ). x ∷ 62 ∷ cs) (sym a) ∙ ap (λ (x : ℕ). c ∷ x ∷ cs) (sym b)) (
      longest_of Sign (61 ∷ 62 ∷ cs) 2 (arrow_kind cs) (omega arith) refl (two_most (61 ∷ 62 ∷ cs)),
      refl,
    )

-- a symbol of two bytes is the arrow
one_most : (bs : List ℕ) (more : ℕ) → starts_with nat_eq bs (codes "=>") ≡ false → more ≤ length bs → is_some (symbol_of (take more bs)) ≡ true → more ≤ 1
one_most bs zero f le e = omega arith
one_most bs (suc zero) f le e = omega arith
one_most [] (suc (suc m)) f le e = absurd (omega arith)
one_most (c ∷ []) (suc (suc m)) f le e = absurd (omega arith)
one_most (c ∷ d ∷ cs) (suc (suc zero)) f le e = step (c == 61 && d == 62) refl e
  where
    flip : (a b : ℕ) → (b == a) ≡ true → nat_eq a b ≡ true
    flip a b g = grind (arith, nat_tests)

    step : (v : Bool) → (c == 61 && d == 62) ≡ v → is_some (cond v (Some Arrow) None) ≡ true → 2 ≤ 1
    step true g h =
        let s : (nat_eq 61 c && (nat_eq 62 d && true)) ≡ true =
        both (nat_eq 61 c) (nat_eq 62 d && true) (flip 61 c (left (c == 61) (d == 62) g))
        (both (nat_eq 62 d) true (flip 62 d (right (c == 61) (d == 62) g)) refl) in
        absurd (cc)
    step false g h = absurd (cc)
one_most (c ∷ d ∷ []) (suc (suc (suc m))) f le e = absurd (omega arith)
one_most (c ∷ d ∷ x ∷ cs) (suc (suc (suc m))) f le e = absurd (cc)

-- a symbol of one byte is the longest piece where no `=>` stands
pub symbol_longest : (c : ℕ) (cs : List ℕ) (symbol : Symbol)
    → kind_of c ≡ Some Sign → starts_with nat_eq (c ∷ cs) (codes "=>") ≡ false → single_symbol c ≡ Some symbol
    → IsLongest (c ∷ cs) 1 × (symbol_of (take 1 (c ∷ cs)) ≡ Some symbol)
symbol_longest c cs symbol e f g = (longest_of Sign (c ∷ cs) 1 e (omega arith) (ap is_some g) (λ more le h. one_most (c ∷ cs) more f le h), g)

pub begins_none : (bs : List ℕ) → kind_at bs ≡ None → BeginsNone bs
begins_none bs e len piece = none_kind piece.0 bs len e piece.1

-- what begins a comment or a string begins with its character
kind_no_comment : (c : ℕ) (cs : List ℕ) (k : Option Kind) → kind_of c ≡ k → (k ≡ Some Comment → ⊥) → begins_comment (c ∷ cs) ≡ false
kind_no_comment c cs k e other = step (begins_comment (c ∷ cs)) refl
  where
    at : (ds : List ℕ) → begins_comment (c ∷ ds) ≡ true → c ≡ 47
    at [] f = let g : false ≡ true = right (nat_eq 47 c) false f in absurd (cc)
    at (d ∷ ds) f = same_as 47 c (left (nat_eq 47 c) (nat_eq 42 d && true) f)

    step : (v : Bool) → begins_comment (c ∷ cs) ≡ v → v ≡ false
    step true f = absurd (other (sym e ∙ subst (λ (b : ℕ). kind_of b ≡ Some Comment) (sym (at cs f)) refl))
    step false f = refl

kind_no_string : (c : ℕ) (cs : List ℕ) (k : Option Kind) → kind_of c ≡ k → (k ≡ Some Quoted → ⊥) → begins_string (c ∷ cs) ≡ false
kind_no_string c cs k e other = step (begins_string (c ∷ cs)) refl
  where
    step : (v : Bool) → begins_string (c ∷ cs) ≡ v → v ≡ false
    step true f = absurd (other (sym e ∙ subst (λ (b : ℕ). kind_of b ≡ Some Quoted) (sym (same_as 34 c (left (nat_eq 34 c) true f))) refl))
    step false f = refl

-- a byte of no kind
pub bad_char : (c : ℕ) (cs : List ℕ) → kind_of c ≡ None → IsBadChar (c ∷ cs)
bad_char c cs e = record {
  some = omega arith;
  none = begins_none (c ∷ cs) e;
  no_comment = kind_no_comment c cs None e (λ f. absurd (cc));
  no_string = kind_no_string c cs None e (λ f. absurd (cc));
}

-- a slash that begins no comment
pub bad_slash : (bs : List ℕ)
    → kind_at bs ≡ Some Comment → starts_with nat_eq bs (codes "//") ≡ false → starts_with nat_eq bs (codes "/*") ≡ false → IsBadChar bs
bad_slash [] e f g = absurd (cc)
bad_slash (c ∷ cs) e f g = record {
  some = omega arith;
  none = slash_none (c ∷ cs) e f g;
  no_comment = g;
  no_string = kind_no_string c cs (Some Comment) e (λ h. absurd (cc));
}
