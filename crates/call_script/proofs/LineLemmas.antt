-- One line more.
use Rattle.std.proofs.Common.{◌≡◌, ◌<◌, ◌≤◌, ℕ, List, [], ◌∷◌, ◌++◌, append-nil, refl, sym, ◌∙◌, ap, subst}
use Rattle.std.specs.Prelude.{Bool, true, false, ◌||◌, ◌&&◌, ◌^◌, not, reverse, Result, Ok, Err}
use Rattle.script_forms.proofs.OneForm.{form_one}
use Rattle.std.specs.List.{list_all}
use Rattle.std.proofs.lemmas.List.{reverse-append}
use Rattle.mj_base.specs.declared.limits.TheConstants.{MAX_SCRIPT_LINES}
use Rattle.mj_schema.specs.declared.schema.Schema.{Schema}
use Rattle.call_script.specs.declared.script.AutoReply.{AutoReply}
use Rattle.call_script.specs.declared.script_error.LineRefusal.TheVariants.{TooManyLines}
use Rattle.call_script.specs.declared.commands.Stop.TheVariants as stops
use Rattle.call_script.specs.declared.name_table.NameTable.{NameTable}
use Rattle.call_script.specs.declared.additions.Part.{Part as WrittenPart}
use Rattle.call_script.specs.declared.additions.Part.TheVariants as parts
use Rattle.call_script.specs.declared.reading.Reader.{Reader}
use Rattle.script_forms.specs.Forms.{Form, Auto, IsForm, form_words, is_setup, sequences, AreThere, sets, answers}
use Rattle.call_script.specs.Script.{is_placed, names_set, methods_answered, line_number, doubles, finds, knows}
use Rattle.call_script.specs.Script.{IsFormOf, IsReply, IsTaken, IsRefused}
use Rattle.call_script.specs.Script.{Part, OfLine, OfReply, lines_in, replies_in}
use Rattle.call_script.specs.steps.Names.{IsTable, Adds, Sets}
use Rattle.call_script.specs.steps.Commands.{Parts, part_view}
use Rattle.indexmap.specs.IndexMap.{index_map_len}
use Rattle.call_script.specs.declared.commands.Stop.{Stop}
use Rattle.call_script.specs.steps.Lines.{HasRead, Holds, Pushes, TakesForm}

-- ## Parts, one more

lines_join : (xs ys : List Part) → lines_in (xs ++ ys) ≡ lines_in xs ++ lines_in ys
lines_join [] ys = refl
lines_join (OfLine line ∷ xs) ys = ap (λ ls. line ∷ ls) (lines_join xs ys)
lines_join (OfReply reply ∷ xs) ys = lines_join xs ys

replies_join : (xs ys : List Part) → replies_in (xs ++ ys) ≡ replies_in xs ++ replies_in ys
replies_join [] ys = refl
replies_join (OfLine line ∷ xs) ys = replies_join xs ys
replies_join (OfReply reply ∷ xs) ys = ap (λ rs. reply ∷ rs) (replies_join xs ys)

lines_more : (parts : List Part) (part : Part) → lines_in (reverse (part ∷ parts)) ≡ lines_in (reverse parts) ++ lines_in (part ∷ [])
lines_more parts part = ap lines_in (reverse-append (part ∷ []) parts) ∙ lines_join (reverse parts) (part ∷ [])

replies_more : (parts : List Part) (part : Part) → replies_in (reverse (part ∷ parts)) ≡ replies_in (reverse parts) ++ replies_in (part ∷ [])
replies_more parts part = ap replies_in (reverse-append (part ∷ []) parts) ∙ replies_join (reverse parts) (part ∷ [])

-- what is held once it is added
holds_lines : (old new : Reader) (parts : List Part) (part : Part) → Holds old new part → old.lines.items ≡ lines_in (reverse parts)
    → new.lines.items ≡ lines_in (reverse (part ∷ parts))
holds_lines old new parts (OfLine line) held before = held.1 ∙ (ap (λ ls. ls ++ line ∷ []) before ∙ sym (lines_more parts (OfLine line)))
holds_lines old new parts (OfReply reply) held before =
    held.1 ∙ (before ∙ (sym (append-nil (lines_in (reverse parts))) ∙ sym (lines_more parts (OfReply reply))))

holds_replies : (old new : Reader) (parts : List Part) (part : Part) → Holds old new part → old.autos.items ≡ replies_in (reverse parts)
    → new.autos.items ≡ replies_in (reverse (part ∷ parts))
holds_replies old new parts (OfLine line) held before =
    held.0 ∙ (before ∙ (sym (append-nil (replies_in (reverse parts))) ∙ sym (replies_more parts (OfLine line))))
holds_replies old new parts (OfReply reply) held before = held.0 ∙ (ap (λ rs. rs ++ reply ∷ []) before ∙ sym (replies_more parts (OfReply reply)))

-- ## A line of a form

-- its names are set and its method noted, and the first so many of the table are those before it
pub record IsNoted (old : Reader) (table methods : NameTable) (form : Form) (count : ℕ) : Type 0 where
  pub sound : IsForm form
  pub added : Sets old.names table form true
  pub noted : Adds old.methods methods (answers form) true
  pub counted : count ≡ index_map_len old.names.numbers

-- neither is there again
single : (schema : Schema) (seqs : ℕ) (old : Reader) (table methods : NameTable) (form : Form) (count : ℕ) (past : List Form)
    → IsNoted old table methods form count → HasRead schema seqs old past → doubles past form ≡ false
single schema seqs old table methods form count past is read =
    rw ((is.added (names_set past) read.table).0, (is.noted (methods_answered past) read.methods).0) refl

-- a method that has a response is all that an automatic reply names
reply_known : (schema : Schema) (names : List (List ℕ)) (form : Form) (reply : AutoReply) → finds schema form ≡ true → IsReply schema form reply
    → knows schema names form ≡ true
reply_known schema names (Auto seq method word) reply found is = rw found refl
reply_known schema names form reply found is = absurd is

-- it is taken
taken_by : (schema : Schema) (seqs : ℕ) (old : Reader) (table methods : NameTable) (form : Form) (count number : ℕ) (part : WrittenPart) (past : List Form)
    → IsNoted old table methods form count → Parts schema table count number form (Ok part) → HasRead schema seqs old past → is_placed past form ≡ true
    → number ≡ line_number past → AreThere seqs (sequences form) → IsTaken schema seqs past form (part_view part)
taken_by schema seqs old table methods form count number (parts.Line line) past is gives read placed numbered there =
    let asked = gives.2 (names_set past) (is.added (names_set past) read.table).1 (is.counted ∙ read.table.count) in
    record {
      placed = placed;
      sound = is.sound;
      there = there;
      single = single schema seqs old table methods form count past is read;
      known = asked.0;
      means = record { number = gives.0 ∙ numbered; seq = gives.1; command = asked.1 };
    }
taken_by schema seqs old table methods form count number (parts.Reply reply) past is gives read placed numbered there = record {
  placed = placed;
  sound = is.sound;
  there = there;
  single = single schema seqs old table methods form count past is read;
  known = reply_known schema (names_set past) form reply gives.0 gives.1;
  means = gives.1;
}

-- what has been read with it
read_on : (schema : Schema) (seqs : ℕ) (past : List Form) (form : Form) (old new : Reader) (table methods : NameTable) (count : ℕ) (part : Part)
    → is_placed past form ≡ true → IsNoted old table methods form count → HasRead schema seqs old past → IsTaken schema seqs past form part
    → new.names ≡ table → new.methods ≡ methods → Holds (record old { names = table; methods = methods }) new part → new.started ≡ not (is_setup form)
    → HasRead schema seqs new (form ∷ past)
read_on schema seqs past form old new table methods count part placed is read taken names noted held started = record {
  parts = part ∷ read.parts;
  taken = (taken, read.taken);
  autos = holds_replies (record old { names = table; methods = methods }) new read.parts part held read.autos;
  lines = holds_lines (record old { names = table; methods = methods }) new read.parts part held read.lines;
  table = subst (λ t. IsTable t (names_set past ++ sets form)) (sym names) (is.added (names_set past) read.table).1;
  methods = subst (λ t. IsTable t (methods_answered past ++ answers form)) (sym noted) (is.noted (methods_answered past) read.methods).1;
  setup = go (is_setup form) (list_all is_setup past) placed ∙ ap not (sym started);
}
  where
    go : (a b : Bool) → (not a || b) ≡ true → (a && b) ≡ not (not a)
    go true true h = refl
    go true false h = absurd cc
    go false b h = refl

-- it is added, where memory serves
pub takes : (schema : Schema) (old new : Reader) (table methods : NameTable) (form : Form) (count number : ℕ) (part : WrittenPart)
    (result : Result (Unit {0}) Stop)
    → IsNoted old table methods form count → Parts schema table count number form (Ok part) → number ≤ MAX_SCRIPT_LINES
    → Pushes (record old { names = table; methods = methods }) new (part_view part) (not (is_setup form)) result
    → TakesForm schema old new form number result
takes schema old new table methods form count number part (Ok done) is gives few pushed = (few, on)
  where
    on : (seqs : ℕ) (past : List Form) → AreThere seqs (sequences form) → HasRead schema seqs old past → is_placed past form ≡ true
        → number ≡ line_number past → HasRead schema seqs new (form ∷ past)
    on seqs past there read placed numbered =
        read_on schema seqs past form old new table methods count (part_view part) placed is read
        (taken_by schema seqs old table methods form count number part past is gives read placed numbered there) pushed.0 pushed.1 pushed.2 pushed.3
takes schema old new table methods form count number part (Err (stops.Refused why)) is gives few pushed = absurd pushed
takes schema old new table methods form count number part (Err stops.Memory) is gives few pushed = tt

-- it is one too many
pub too_many : (schema : Schema) (seqs : ℕ) (old : Reader) (table methods : NameTable) (form : Form) (count number : ℕ) (part : WrittenPart) (past : List Form)
    → IsNoted old table methods form count → Parts schema table count number form (Ok part) → HasRead schema seqs old past → is_placed past form ≡ true
    → number ≡ line_number past → AreThere seqs (sequences form) → MAX_SCRIPT_LINES < number → IsRefused schema seqs past (form_words form) TooManyLines
too_many schema seqs old table methods form count number part past is gives read placed numbered there many = (
  form,
  part_view part,
  refl,
  taken_by schema seqs old table methods form count number part past is gives read placed numbered there,
  subst (λ n. MAX_SCRIPT_LINES < n) numbered many,
)

-- a line of the setup that stands behind another has no form that may stand there
pub misplaced : (schema : Schema) (seqs : ℕ) (old : Reader) (past : List Form) (words : List (List ℕ)) (form : Form) → seqs < 2 ^ 64
    → IsForm form × AreThere seqs (sequences form) × (words ≡ form_words form) → is_setup form ≡ true → old.started ≡ true
    → HasRead schema seqs old past → (other : Form) → IsFormOf seqs past words other → ⊥
misplaced schema seqs old past words form few is setup started read other at =
    let same : other ≡ form = form_one seqs few other form at.sound is.0 at.there is.1 (sym at.spelled ∙ is.2) in
    let may : is_placed past form ≡ true = subst (λ f. is_placed past f ≡ true) same at.placed in
    let none : list_all is_setup past ≡ false = read.setup ∙ ap not started in
    let never : is_placed past form ≡ false = rw (setup, none) refl in cc
