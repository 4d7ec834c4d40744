-- The lines that have been read.
use Rattle.std.proofs.Common.{◌≡◌, ◌<◌, ◌≤◌, ◌+◌, ℕ, suc, List, [], ◌∷◌, ◌++◌, length, take, drop, get_or, sym, ◌∙◌, ap, subst, arith}
use Rattle.std.proofs.Common.{append_assoc, Ok, Err}
use Rattle.std.specs.Prelude.{map, reverse}
use Rattle.std.proofs.lemmas.Grind.{common_steps}
use Rattle.std.proofs.lemmas.List.{map-append, take_more, reverse-append}
use Rattle.mj_base.specs.declared.limits.TheConstants.{MAX_SCRIPT_LINES}
use Rattle.indexmap.specs.IndexMap.{index_map_len}
use Rattle.mj_schema.specs.declared.schema.Schema.{Schema}
use Rattle.call_script.specs.declared.commands.Stop.{Stop}
use Rattle.call_script.specs.declared.commands.Stop.TheVariants as reasons
use Rattle.call_script.specs.declared.script.Script.{Script}
use Rattle.call_script.specs.declared.script_error.LineRefusal.{LineRefusal}
use Rattle.call_script.specs.declared.script_error.ScriptError.{ScriptError}
use Rattle.call_script.specs.declared.reading.Reader.{Reader}
use Rattle.script_forms.specs.Forms.{Form, form_words, header_words, AreSequences}
use Rattle.call_script.specs.Script.{line_number, AreScript, IsRefusedBehind}
use Rattle.script_words.specs.declared.splitting.Words.{Words}
use Rattle.script_words.specs.Words.{words_now}
use Rattle.call_script.specs.steps.Lines.{HasRead, ReadsOn, AnswersBehind, error_of}

-- the words of forms, in order, and of one more
pub forms_more : (past : List Form) (form : Form) → map form_words (reverse (form ∷ past)) ≡ map form_words (reverse past) ++ form_words form ∷ []
forms_more past form = ap (map form_words) (reverse-append (form ∷ []) past) ∙ map-append form_words (reverse past) (form ∷ [])

-- so many lines have been read, and the next has this number
pub record IsAt (schema : Schema) (seqs : ℕ) (reader : Reader) (done : List (List (List ℕ))) (number : ℕ) : Type 0 where
  pub past : List Form
  pub read : HasRead schema seqs reader past
  pub words : map form_words (reverse past) ≡ done
  pub next : number ≡ line_number past
  pub few : number ≤ suc MAX_SCRIPT_LINES

-- one line more
pub goes_on : (schema : Schema) (seqs : ℕ) (old new : Reader) (done : List (List (List ℕ))) (words : List (List ℕ)) (number : ℕ)
    → IsAt schema seqs old done number → ReadsOn schema seqs old new words number (Ok tt) → IsAt schema seqs new (done ++ words ∷ []) (number + 1)
goes_on schema seqs old new done words number at (small, on) =
    let more = on at.past at.read at.next in
    record {
      past = more.0 ∷ at.past;
      read = more.2;
      words = forms_more at.past more.0 ∙ (ap (λ ws. ws ++ form_words more.0 ∷ []) at.words ∙ ap (λ w. done ++ w ∷ []) (sym more.1));
      next = let n = at.next in omega (arith, n);
      few = omega (arith, small);
    }

-- a line that is refused
stops_at : (schema : Schema) (seqs : ℕ) (old new : Reader) (done rest : List (List (List ℕ))) (words : List (List ℕ)) (number : ℕ) (why : LineRefusal)
    → AreSequences seqs → IsAt schema seqs old done number → ReadsOn schema seqs old new words number (Err (reasons.Refused why))
    → IsRefusedBehind schema (header_words seqs ∷ (done ++ words ∷ rest)) number why
stops_at schema seqs old new done rest words number why count at refuses = record {
  seqs = seqs;
  forms = at.past;
  parts = at.read.parts;
  words = words;
  rest = rest;
  count = count;
  spelled = ap (λ d. header_words seqs ∷ (d ++ words ∷ rest)) (sym at.words);
  taken = at.read.taken;
  few = let n = at.next in let f = at.few in omega (arith, n, f);
  number = at.next;
  refused = refuses at.past at.read at.next;
}

-- a line that isn't taken
pub stops : (schema : Schema) (seqs : ℕ) (old new : Reader) (texts done rest : List (List (List ℕ))) (words : List (List ℕ)) (number : ℕ) (stop : Stop)
    (error : ScriptError)
    → AreSequences seqs → IsAt schema seqs old done number → ReadsOn schema seqs old new words number (Err stop) → texts ≡ done ++ words ∷ rest
    → error ≡ error_of number stop → AnswersBehind schema seqs texts (Err error)
stops schema seqs old new texts done rest words number (reasons.Refused why) error count at refuses whole is =
    subst (λ e. AnswersBehind schema seqs texts (Err e)) (sym is)
    (subst (λ t. IsRefusedBehind schema (header_words seqs ∷ t) number why) (sym whole)
    (stops_at schema seqs old new done rest words number why count at refuses))
stops schema seqs old new texts done rest words number reasons.Memory error count at refuses whole is =
    subst (λ e. AnswersBehind schema seqs texts (Err e)) (sym is) tt

-- all lines have been read
pub ends : (schema : Schema) (reader : Reader) (done : List (List (List ℕ))) (number : ℕ) (script : Script)
    → AreSequences script.seqs → IsAt schema script.seqs reader done number → script.autos ≡ reader.autos.items → script.lines ≡ reader.lines.items
    → script.names ≡ index_map_len reader.names.numbers
    → AreScript schema (header_words script.seqs ∷ done) script
ends schema reader done number script count at autos lines names = record {
  forms = at.past;
  parts = at.read.parts;
  count = count;
  spelled = ap (λ d. header_words script.seqs ∷ d) (sym at.words);
  taken = at.read.taken;
  autos = autos ∙ at.read.autos;
  lines = lines ∙ at.read.lines;
  names = names ∙ at.read.table.count;
  few = let n = at.next in let f = at.few in omega (arith, n, f);
}

-- one line more, and those around it
pub lines_more : (lines : List Words) (k : ℕ) (d : Words) → k < length lines
    → map words_now (take (k + 1) lines) ≡ map words_now (take k lines) ++ words_now (get_or lines k d) ∷ []
lines_more lines k d h = rw (take_more lines k d h) (map-append words_now (take k lines) (get_or lines k d ∷ []))

pub lines_around : (lines : List Words) (k : ℕ) (d : Words) → k < length lines
    → map words_now lines ≡ map words_now (take k lines) ++ words_now (get_or lines k d) ∷ map words_now (drop (k + 1) lines)
lines_around lines k d h =
    let cut : lines ≡ take (k + 1) lines ++ drop (k + 1) lines = grind (arith, common_steps) in
    ap (map words_now) cut
    ∙ (map-append words_now (take (k + 1) lines) (drop (k + 1) lines)
    ∙ (ap (λ ws. ws ++ map words_now (drop (k + 1) lines)) (lines_more lines k d h)
    ∙ append_assoc (map words_now (take k lines)) (words_now (get_or lines k d) ∷ []) (map words_now (drop (k + 1) lines))))

-- all the lines
pub lines_all : (lines : List Words) (k : ℕ) → length lines ≤ k → map words_now (take k lines) ≡ map words_now lines
lines_all lines k h = let all : take k lines ≡ lines = grind (arith, common_steps) in ap (map words_now) all
