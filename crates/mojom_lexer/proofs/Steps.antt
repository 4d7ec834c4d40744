-- One piece after another.
use Rattle.std.proofs.Common.{◌≡◌, ℕ, zero, suc, ◌+◌, ◌-◌, ◌≤◌, ◌<◌, List, [], ◌∷◌, ◌++◌, length, take, drop, Option, Some, None, sym, subst, arith}
use Rattle.std.proofs.lemmas.List.{length-drop}
use Rattle.mojom_ast.specs.declared.token.Sort.{Sort}
use Rattle.mojom_ast.specs.declared.token.Token.{Token}
use Rattle.mojom_lexer.specs.declared.pieces.Piece.{Piece}
use Rattle.mojom_lexer.specs.Pieces.{IsPiece, IsLongest}
use Rattle.mojom_lexer.specs.Lexed.{Reaches}
use Rattle.mojom_lexer.specs.Lexed.Reaches.{starts, passes, takes}
use Rattle.mojom_lexer.specs.steps.Scans.{Means, Stands}
use Rattle.mojom_lexer.proofs.FirstBytes.{none_empty}
use Rattle.mojom_lexer.proofs.Standing.{rest_of}

-- a token at a place
abbrev pub token_at : Sort → ℕ → ℕ → Token
token_at sort at len = record { sort = sort; span = record { start = at; len = len } }

no_piece : (bs : List ℕ) → IsPiece (take 0 bs) → ⊥
no_piece [] h = none_empty h.0 h.1
no_piece (c ∷ cs) h = none_empty h.0 h.1

-- a piece has a byte or more
pub longest_some : (bs : List ℕ) (len : ℕ) → IsLongest bs len → 0 < len
longest_some bs zero h = absurd (no_piece bs h.is)
longest_some bs (suc len) h = omega arith

-- before the first piece
pub reaches_start : (bs : List ℕ) (items : List Token) → items ≡ [] → Reaches bs 0 items
reaches_start bs items e = subst (λ (ts : List Token). Reaches bs 0 ts) (sym e) starts

stands : (bs : List ℕ) (at : ℕ) (piece : Piece) → Stands piece (take (length bs - at) (drop at bs)) → Stands piece (drop at bs)
stands bs at piece h = subst (λ (rest : List ℕ). Stands piece rest) (rest_of at bs) h

-- a piece ends within the file
pub piece_room : (bs : List ℕ) (at : ℕ) (piece : Piece) → at ≤ length bs → Stands piece (take (length bs - at) (drop at bs)) → at + piece.len ≤ length bs
piece_room bs at piece le h = let w : piece.len ≤ length (drop at bs) = (stands bs at piece h).longest.within in omega (arith, length-drop at bs)

-- a piece that is passed over, and on
pub passes_on : (bs : List ℕ) (at : ℕ) (piece : Piece) (items new : List Token)
    → Reaches bs at items → Stands piece (take (length bs - at) (drop at bs)) → piece.sort ≡ None → new ≡ items → Reaches bs (at + piece.len) new
passes_on bs at piece items new r h e n =
    let s = stands bs at piece h in
    subst (λ (ts : List Token). Reaches bs (at + piece.len) ts) (sym n)
    (passes at piece.len items r s.longest (subst (λ (o : Option Sort). Means o (take piece.len (drop at bs))) e s.means))

-- a piece that is a token, and on
pub takes_on : (bs : List ℕ) (at : ℕ) (piece : Piece) (sort : Sort) (items new : List Token)
    → Reaches bs at items → Stands piece (take (length bs - at) (drop at bs)) → piece.sort ≡ Some sort
    → new ≡ items ++ token_at sort at piece.len ∷ [] → Reaches bs (at + piece.len) new
takes_on bs at piece sort items new r h e n =
    let s = stands bs at piece h in
    subst (λ (ts : List Token). Reaches bs (at + piece.len) ts) (sym n)
    (takes at piece.len items sort r s.longest (subst (λ (o : Option Sort). Means o (take piece.len (drop at bs))) e s.means))
