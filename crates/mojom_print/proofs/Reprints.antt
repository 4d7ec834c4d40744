-- The text of a tree that a file's tokens spell is spelled again.
use Rattle.std.proofs.Common.{◌≡◌, ℕ, List, [], ◌∷◌, ◌++◌, refl, sym, ◌∙◌, subst}
use Rattle.std.specs.Prelude.{map}
use Rattle.std.proofs.lemmas.List.{append-nil}
use Rattle.mojom_ast.specs.declared.token.Sort.{Sort}
use Rattle.mojom_ast.specs.declared.token.Token.{Token}
use Rattle.mojom_ast.specs.declared.file.File.{File}
use Rattle.mojom_ast.specs.Lang.{Whole}
use Rattle.mojom_ast.specs.Grammar.{file}
use Rattle.mojom_ast.specs.Parsed.{SpellsWithin}
use Rattle.mojom_lexer.specs.Lexed.{AreTokens}
use Rattle.mojom_print.specs.FileText.{file_text}
use Rattle.mojom_print.specs.Unplaced.{unplaced}
use Rattle.mojom_print.specs.Again.{SpelledAgain}
use Rattle.mojom_print.proofs.Shows.{sort_of, Found, Shows}
use Rattle.mojom_print.proofs.Prints.{AllLexical, Printed}
use Rattle.mojom_print.proofs.Sorts.{file_sorts}
use Rattle.mojom_print.proofs.DefinitionRules.{prints_file}
use Rattle.mojom_print.proofs.Lexes.{Lexes, ends}
use Rattle.mojom_print.proofs.DefinitionTexts.{file_tells}
use Rattle.mojom_print.proofs.Retold.{comma_lexical, tokens_lexical, HasTokens, has_tokens}

file_lexes : (tree : File) → AllLexical (file_sorts tree) → Lexes (file_text tree) (file_sorts tree)
file_lexes tree good =
    let l : Lexes (file_text tree ++ []) (file_sorts tree ++ []) = (file_tells tree).told good [] [] refl ends in
    subst (λ (bs : List ℕ). Lexes bs (file_sorts tree)) (append-nil (file_text tree))
    (subst (λ (ss : List Sort). Lexes (file_text tree ++ []) ss) (append-nil (file_sorts tree)) l)

file_tokens : (tree : File) → AllLexical (file_sorts tree) → HasTokens (file_text tree) (file_sorts tree)
file_tokens tree good = has_tokens (file_text tree) (file_sorts tree) ((file_tells tree).utf8 good) (file_lexes tree good)

none_left : (ts : List Token) → map sort_of ts ≡ [] → ts ≡ []
none_left [] e = refl
none_left (t ∷ ts) e = absurd (cc)

shown_again : (n : ℕ) (tree : File) → AllLexical (file_sorts tree) → Shows (file n) unplaced tree (file_sorts tree) → SpelledAgain n tree
shown_again n tree good shows =
    let t : HasTokens (file_text tree) (file_sorts tree) = file_tokens tree good in
    let f : Found (file n) unplaced tree t.tokens [] = shows.shown t.tokens [] (t.sorts ∙ sym (append-nil (file_sorts tree))) in
    record {
      tokens = t.tokens;
      are_tokens = t.are;
      other = f.value;
      spells = f.follows Whole (λ g rest. (rest ≡ []) × (g ≡ f.value)) (none_left f.left f.sorts, refl);
      same = f.same;
    }

-- for the law of this name
pub spelled_again : (bytes : List ℕ) (tokens : List Token) (tree : File) (n : ℕ) → AreTokens bytes tokens → SpellsWithin n tree tokens → SpelledAgain n tree
spelled_again bytes tokens tree n are spells =
    let K : File → List Token → Type 0 = λ f rest. (rest ≡ []) × (f ≡ tree) in
    let p : Printed (file n) unplaced file_sorts K = (prints_file n comma_lexical).printed K tokens (tokens_lexical bytes tokens are) spells in
    subst (λ (f : File). SpelledAgain n f) p.next.1 (shown_again n p.value p.good p.shows)
