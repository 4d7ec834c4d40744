-- A script's lines send no more ids than its text has bytes: each comes of a name of a line's words, or of two letters of a word.
use Rattle.std.proofs.Common.{◌≡◌, ◌≤◌, ℕ, suc, ◌+◌, Bool, true, false, List, [], ◌∷◌, ◌++◌, length, refl, ap, ◌∙◌, arith, length-append}
use Rattle.std.specs.Prelude.{◌==◌, ◌&&◌, if◌then◌else◌, map, reverse, Some, None}
use Rattle.std.proofs.lemmas.List.{length-map, reverse-append}
use Rattle.hex.specs.Hex.{lower_digits}
use Rattle.hex.proofs.HexLemmas.{length-encode_with}
use Rattle.mj_schema.specs.declared.schema.Schema.{Schema}
use Rattle.call_script.specs.declared.script.NameId.{NameId}
use Rattle.call_script.specs.declared.script.Command.{Command}
use Rattle.call_script.specs.declared.script.Command.TheVariants as commands
use Rattle.call_script.specs.declared.script.Line.{Line}
use Rattle.call_script.specs.declared.script.Script.{Script}
use Rattle.script_words.specs.Pieces.{Place, Outside, behind, line_words, onto, parts_words, pieces, text_lines, text_words, without_empty_last, words_at}
use Rattle.script_words.specs.Letters.{are_names, hex_word, is_name}
use Rattle.script_forms.specs.Forms.{Form, Join, Of, Pipe, Mint, Bind, Associate, Attach, Call, Take, Answer, Raw, CloseToken, CloseEndpoint}
use Rattle.script_forms.specs.Forms.{Notify, Pause, Data, Flow}
use Rattle.script_forms.specs.Forms.{IsForm, form_words}
use Rattle.call_script.specs.Script.{AreNamed, AreScript, AreTaken, Asks, IsTaken, Part, OfLine, OfReply, lines_in}
use Rattle.call_script.specs.Sound.{most_ids, most_ids_of}
use Rattle.call_script.proofs.LoopLemmas.{forms_more}

-- ## The letters of words

-- how many letters words have in all
abbrev pub letters : List (List ℕ) → ℕ
letters [] = 0
letters (word ∷ words) = length word + letters words

-- how many those of all lines have
abbrev pub all_letters : List (List (List ℕ)) → ℕ
all_letters [] = 0
all_letters (words ∷ lines) = letters words + all_letters lines

all_letters-append : (xs ys : List (List (List ℕ))) → all_letters (xs ++ ys) ≡ all_letters xs + all_letters ys
all_letters-append [] ys = omega arith
all_letters-append (x ∷ xs) ys = omega (arith, all_letters-append xs ys)

letters_onto : (bytes : List ℕ) (parts : List (List ℕ)) → letters (onto bytes parts) ≡ length bytes + letters parts
letters_onto bytes [] = omega arith
letters_onto bytes (part ∷ parts) = omega (arith, length-append bytes part)

letters_pieces : (c : ℕ) (bytes : List ℕ) → letters (pieces c bytes) ≤ length bytes
letters_pieces c [] = omega arith
letters_pieces c (b ∷ bytes) = go (b == c) (letters_pieces c bytes)
  where
    go : (t : Bool) → letters (pieces c bytes) ≤ length bytes
        → letters (if t then [] ∷ pieces c bytes else onto (b ∷ []) (pieces c bytes)) ≤ suc (length bytes)
    go true few = omega (arith, few)
    go false few = omega (arith, few, letters_onto (b ∷ []) (pieces c bytes))

letters_words : (p : Place) (bytes : List ℕ) → letters (words_at p bytes) ≤ length bytes
letters_words p [] = omega arith
letters_words p (b ∷ bytes) = go (parts_words p b) (letters_words (behind p b) bytes)
  where
    go : (t : Bool) → letters (words_at (behind p b) bytes) ≤ length bytes
        → letters (if t then [] ∷ words_at (behind p b) bytes else onto (b ∷ []) (words_at (behind p b) bytes)) ≤ suc (length bytes)
    go true few = omega (arith, few)
    go false few = omega (arith, few, letters_onto (b ∷ []) (words_at (behind p b) bytes))

letters_without : (parts : List (List ℕ)) → letters (without_empty_last parts) ≤ letters parts
letters_without [] = omega arith
letters_without (p ∷ []) = go (length p == 0)
  where
    go : (t : Bool) → letters (if t then [] else p ∷ []) ≤ length p + 0
    go true = omega arith
    go false = omega arith
letters_without (p ∷ q ∷ parts) = omega (arith, letters_without (q ∷ parts))

letters_lines : (lines : List (List ℕ)) → all_letters (map line_words lines) ≤ letters lines
letters_lines [] = omega arith
letters_lines (line ∷ lines) = omega (arith, letters_words Outside line, letters_lines lines)

-- a text's words have no more letters than the text
pub text_letters : (bytes : List ℕ) → all_letters (text_words bytes) ≤ length bytes
text_letters bytes = omega (arith, letters_lines (text_lines bytes), letters_without (pieces 10 bytes), letters_pieces 10 bytes)

-- ## What a line sends

named_count : (names : List (List ℕ)) (ids : List NameId) (words : List (List ℕ)) → AreNamed names ids words → length ids ≡ length words
named_count names [] [] named = refl
named_count names [] (word ∷ words) named = absurd named
named_count names (id ∷ ids) [] named = absurd named
named_count names (id ∷ ids) (word ∷ words) named = ap suc (named_count names ids words named.1)

-- names have letters
letters_names : (words : List (List ℕ)) → are_names words ≡ true → length words ≤ letters words
letters_names [] are = omega arith
letters_names ([] ∷ words) are = absurd (let none : false ≡ true = are in cc)
letters_names ((c ∷ cs) ∷ words) are = omega (arith, letters_names words (right (is_name (c ∷ cs)) (are_names words) are))
  where
    right : (a b : Bool) → (a && b) ≡ true → b ≡ true
    right true b h = h
    right false b h = absurd cc

-- the names that are meant by names
tokens_few : (names : List (List ℕ)) (f : List ℕ → List ℕ) (ids : List NameId) (words : List (List ℕ)) → AreNamed names ids (map f words)
    → are_names words ≡ true → length ids ≤ letters words
tokens_few names f ids words named are = omega (arith, named_count names ids (map f words) named, length-map words f, letters_names words are)

hex_few : (bytes : List ℕ) → length bytes ≤ length (hex_word bytes)
hex_few [] = omega arith
hex_few (b ∷ bytes) = omega (arith, length-encode_with lower_digits (b ∷ bytes))

command_sends : (schema : Schema) (before names : List (List ℕ)) (form : Form) (command : Command) → IsForm form → Asks schema before names form command
    → most_ids command ≤ letters (form_words form)
command_sends schema before names (Of seq (Call x id method word ts None)) (commands.Call i n p tokens m) is asks =
    omega (arith, tokens_few names _ tokens ts asks.2 is.4)
command_sends schema before names (Of seq (Call x id method word ts (Some at))) (commands.Call i n p tokens m) is asks =
    omega (arith, tokens_few names _ tokens ts asks.2 is.4)
command_sends schema before names (Of seq (Answer x method word ts None)) (commands.Answer i p tokens m) is asks =
    omega (arith, tokens_few names _ tokens ts asks.1 is.3)
command_sends schema before names (Of seq (Answer x method word ts (Some at))) (commands.Answer i p tokens m) is asks =
    omega (arith, tokens_few names _ tokens ts asks.1 is.3)
command_sends schema before names (Of seq (Raw x word ts)) (commands.Raw i bytes tokens) is asks =
    omega (arith, hex_few bytes, ap (λ (w : List ℕ). length w) asks.1.1)
command_sends schema before names (Join seq other x y) (commands.Join o f g) is asks = omega arith
command_sends schema before names (Of seq (Pipe x y)) (commands.Pipe f g) is asks = omega arith
command_sends schema before names (Of seq (Mint sort x)) (commands.Mint s i) is asks = omega arith
command_sends schema before names (Of seq (Bind x side word)) (commands.Bind i s n) is asks = omega arith
command_sends schema before names (Of seq (Associate x side word y)) (commands.Associate i s n p) is asks = omega arith
command_sends schema before names (Of seq (Attach x other)) (commands.Attach i o) is asks = omega arith
command_sends schema before names (Of seq (Take x ns)) (commands.Take i got) is asks = omega arith
command_sends schema before names (Of seq (CloseToken x)) (commands.CloseToken i) is asks = omega arith
command_sends schema before names (Of seq (CloseEndpoint x n)) (commands.CloseEndpoint i m) is asks = omega arith
command_sends schema before names (Of seq (Notify x notice)) (commands.Notify i m) is asks = omega arith
command_sends schema before names (Of seq (Pause x y flush)) (commands.Pause i j k) is asks = omega arith
command_sends schema before names (Of seq (Data n x y)) (commands.Data k i j) is asks = omega arith
command_sends schema before names (Of seq (Flow x f)) (commands.Flow i g) is asks = omega arith
command_sends schema before names form command is asks = absurd asks

-- ## What the lines send

part_sends : (schema : Schema) (seqs : ℕ) (past : List Form) (form : Form) (part : Part) → IsTaken schema seqs past form part
    → most_ids_of (lines_in (part ∷ [])) ≤ letters (form_words form)
part_sends schema seqs past form (OfLine line) taken = omega (arith, command_sends schema _ _ form line.command taken.sound taken.means.command)
part_sends schema seqs past form (OfReply reply) taken = omega arith

most_ids-append : (xs ys : List Line) → most_ids_of (xs ++ ys) ≡ most_ids_of xs + most_ids_of ys
most_ids-append [] ys = omega arith
most_ids-append (x ∷ xs) ys = omega (arith, most_ids-append xs ys)

lines_join : (xs ys : List Part) → lines_in (xs ++ ys) ≡ lines_in xs ++ lines_in ys
lines_join [] ys = refl
lines_join (OfLine line ∷ xs) ys = ap (λ (ls : List Line). line ∷ ls) (lines_join xs ys)
lines_join (OfReply reply ∷ xs) ys = lines_join xs ys

parts_send : (schema : Schema) (seqs : ℕ) (forms : List Form) (parts : List Part) → AreTaken schema seqs forms parts
    → most_ids_of (lines_in (reverse parts)) ≤ all_letters (map form_words (reverse forms))
parts_send schema seqs [] [] taken = omega arith
parts_send schema seqs [] (part ∷ parts) taken = absurd taken
parts_send schema seqs (form ∷ past) [] taken = absurd taken
parts_send schema seqs (form ∷ past) (part ∷ parts) taken =
    let more : lines_in (reverse (part ∷ parts)) ≡ lines_in (reverse parts) ++ lines_in (part ∷ []) =
    ap lines_in (reverse-append (part ∷ []) parts) ∙ lines_join (reverse parts) (part ∷ []) in
    omega (
      arith,
      parts_send schema seqs past parts taken.1,
      part_sends schema seqs past form part taken.0,
      ap most_ids_of more,
      most_ids-append (lines_in (reverse parts)) (lines_in (part ∷ [])),
      ap all_letters (forms_more past form),
      all_letters-append (map form_words (reverse past)) (form_words form ∷ []),
    )

pub script_sends : (schema : Schema) (texts : List (List (List ℕ))) (script : Script) → AreScript schema texts script
    → most_ids_of script.lines ≤ all_letters texts
script_sends schema texts script is =
    omega (arith, parts_send schema script.seqs is.forms is.parts is.taken, ap most_ids_of is.lines, ap all_letters is.spelled)
