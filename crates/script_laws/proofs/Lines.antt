-- Lines are those of a script, or one of them is the first that is refused.
use Rattle.std.proofs.Common.{◌≡◌, ◌≤◌, ◌<◌, ◌^◌, ℕ, zero, suc, Bool, true, false, List, [], ◌∷◌, ◌++◌, length, map, reverse, refl, sym, ap, ◌∙◌, subst, arith, append_assoc, append-nil, inl, inr}
use Rattle.std.specs.Prelude.{◌⊎◌}
use Rattle.std.proofs.lemmas.Bool.{cases_lt}
use Rattle.mj_base.specs.declared.limits.TheConstants.{MAX_SCRIPT_LINES}
use Rattle.mj_schema.specs.declared.schema.Schema.{Schema}
use Rattle.sealed_laws.proofs.Sealed.{Passed}
use Rattle.script_words.specs.Pieces.{text_words}
use Rattle.call_script.specs.declared.script.Script.{Script}
use Rattle.script_forms.specs.declared.sequences.TheConstants.{MAX_SEQUENCES}
use Rattle.call_script.specs.declared.script_error.LineRefusal.{LineRefusal}
use Rattle.call_script.specs.declared.script_error.LineRefusal.TheVariants.{BadLine, DoubleName, UnknownName, BadValue, TooManyLines}
use Rattle.script_forms.specs.Forms.{Form, AreSequences, form_words, header_words}
use Rattle.call_script.specs.Script.{AreRefused, AreScript, AreTaken, IsFormOf, IsRefused, IsTaken, Part, doubles, knows, line_number, lines_in, names_set, replies_in}
use Rattle.call_script.proofs.LoopLemmas.{forms_more}
use Rattle.call_script.proofs.Sending.{all_letters, letters, text_letters}
use Rattle.script_laws.specs.Answer.{HasAnswer}
use Rattle.script_laws.proofs.Decided.{Decided, same_words}
use Rattle.script_laws.proofs.Forms.{has_form}
use Rattle.script_laws.proofs.Parts.{Comes, on}

module _ (passed : Passed) (schema : Schema) (texts : List (List (List ℕ))) (size : ℕ) where
  -- what lines come to
  abbrev Answer : Type 0
  Answer = ((script : Script) × AreScript schema texts script) ⊎ ((line : ℕ) × (why : LineRefusal) × AreRefused schema texts line why)

  module _ (seqs : ℕ) (count : AreSequences seqs) where
    -- what a line comes to behind others
    abbrev LineComes : List Form → List (List ℕ) → Type 0
    LineComes past words =
        ((form : Form) × (part : Part) × (words ≡ form_words form) × IsTaken schema seqs past form part)
        ⊎ ((why : LineRefusal) × IsRefused schema seqs past words why)

    -- a line of a form
    of_form : (past : List Form) (words : List (List ℕ)) → letters words < 2 ^ 63 → (form : Form) → IsFormOf seqs past words form
        → (again known : Bool) → doubles past form ≡ again → knows schema (names_set past) form ≡ known → LineComes past words
    of_form past words small form is true known d k = inr (DoubleName, (form, is, d))
    of_form past words small form is false false d k = inr (UnknownName, (form, is, d, k))
    of_form past words small form is false true d k =
        go (on passed schema past form is.sound k (subst (λ (ws : List (List ℕ)). letters ws < 2 ^ 63) is.spelled small))
      where
        go : Comes passed schema past form → LineComes past words
        go (inl part) = inl (
          form,
          part.0,
          is.spelled,
          record { placed = is.placed; sound = is.sound; there = is.there; single = d; known = k; means = part.1 },
        )
        go (inr none) = inr (BadValue, (form, is, d, k, none))

    line : (past : List Form) (words : List (List ℕ)) → letters words < 2 ^ 63 → LineComes past words
    line past words small = go (has_form seqs count.1 past words)
      where
        go : Decided ((form : Form) × IsFormOf seqs past words form) → LineComes past words
        go (inl x) = of_form past words small x.0 x.1 (doubles past x.0) (knows schema (names_set past) x.0) refl refl
        go (inr none) = inr (BadLine, λ form is. none (form, is))

    -- lines behind those that were taken
    lines : (rest : List (List (List ℕ))) (forms : List Form) (parts : List Part) → AreTaken schema seqs forms parts → length forms < MAX_SCRIPT_LINES
        → texts ≡ header_words seqs ∷ (map form_words (reverse forms) ++ rest) → all_letters rest < 2 ^ 63 → Answer
    lines [] forms parts taken few spelled small =
        let script : Script = record {
          seqs = seqs;
          names = length (names_set forms);
          bytes = size;
          autos = replies_in (reverse parts);
          lines = lines_in (reverse parts);
        } in
        inl (
          script,
          record {
            forms = forms;
            parts = parts;
            count = count;
            spelled = spelled ∙ ap (λ (ls : List (List (List ℕ))). header_words seqs ∷ ls) (append-nil (map form_words (reverse forms)));
            taken = taken;
            autos = refl;
            lines = refl;
            names = refl;
            few = few;
          },
        )
    lines (words ∷ more) forms parts taken few spelled small =
        go (line forms words (omega (arith, small)))
        (λ form part e is fits. lines more (form ∷ forms) (part ∷ parts) (is, taken) (omega (arith, fits))
        (spelled ∙ ap (λ (ls : List (List (List ℕ))). header_words seqs ∷ ls)
        (ap (λ (w : List (List ℕ)). map form_words (reverse forms) ++ w ∷ more) e
        ∙ sym (append_assoc (map form_words (reverse forms)) (form_words form ∷ []) more)
        ∙ ap (λ (ls : List (List (List ℕ))). ls ++ more) (sym (forms_more forms form)))) (omega (arith, small)))
      where
        refused : (why : LineRefusal) → IsRefused schema seqs forms words why → Answer
        refused why is = inr (
          line_number forms,
          why,
          inr (record {
            seqs = seqs;
            forms = forms;
            parts = parts;
            words = words;
            rest = more;
            count = count;
            spelled = spelled;
            taken = taken;
            few = few;
            number = refl;
            refused = is;
          }),
        )

        go : LineComes forms words
            → ((form : Form) (part : Part) → words ≡ form_words form → IsTaken schema seqs forms form part → line_number forms ≤ MAX_SCRIPT_LINES → Answer)
            → Answer
        go (inr x) next = refused x.0 x.1
        go (inl x) next = fits (cases_lt MAX_SCRIPT_LINES (line_number forms))
          where
            fits : (MAX_SCRIPT_LINES < line_number forms) ⊎ (line_number forms ≤ MAX_SCRIPT_LINES) → Answer
            fits (inl many) = refused TooManyLines (x.0, x.1, x.2, x.3, many)
            fits (inr few) = next x.0 x.1 x.2 x.3 few

-- ## The first line

-- how many sequences it says that there are, so many at most
header : (first : List (List ℕ)) (most : ℕ) → most ≤ MAX_SEQUENCES → Decided ((seqs : ℕ) × AreSequences seqs × (seqs ≤ most) × (first ≡ header_words seqs))
header first zero few = inr (λ x. let some = x.1.0 in let none = x.2 in omega (arith, some, none))
header first (suc most) few = go (same_words first (header_words (suc most))) (header first most (omega (arith, few)))
  where
    go : Decided (first ≡ header_words (suc most)) → Decided ((seqs : ℕ) × AreSequences seqs × (seqs ≤ most) × (first ≡ header_words seqs))
        → Decided ((seqs : ℕ) × AreSequences seqs × (seqs ≤ suc most) × (first ≡ header_words seqs))
    go (inl e) d = inl (suc most, (omega arith, few), omega arith, e)
    go (inr other) (inl x) = inl (x.0, x.1, (let less = x.2 in omega (arith, less)), x.3)
    go (inr other) (inr none) = inr (λ x. last x (cases_lt x.0 (suc most)))
      where
        last : (x : (seqs : ℕ) × AreSequences seqs × (seqs ≤ suc most) × (first ≡ header_words seqs)) → (x.0 < suc most) ⊎ (suc most ≤ x.0) → ⊥
        last x (inl less) = none (x.0, x.1, omega (arith, less), x.3)
        last x (inr same) =
            let most_is = x.2 in
            let e : x.0 ≡ suc most = omega (arith, same, most_is) in other (x.3 ∙ ap header_words e)

-- all lines have an answer
some_lines : (passed : Passed) (schema : Schema) (texts : List (List (List ℕ))) (size : ℕ) → all_letters texts < 2 ^ 63 → Answer passed schema texts size
some_lines passed schema [] size small = inr (1, BadLine, inl (refl, refl, λ seqs rest count e. absurd cc))
some_lines passed schema (first ∷ rest) size small = go (header first MAX_SEQUENCES (omega arith))
  where
    go : Decided ((seqs : ℕ) × AreSequences seqs × (seqs ≤ MAX_SEQUENCES) × (first ≡ header_words seqs)) → Answer passed schema (first ∷ rest) size
    go (inl x) =
        lines passed schema (first ∷ rest) size x.0 x.1 rest [] [] tt (omega arith) (ap (λ (w : List (List ℕ)). w ∷ rest) x.3) (omega (arith, small))
    go (inr none) = inr (
      1,
      BadLine,
      inl (
        refl,
        refl,
        λ seqs others count e.
            let same : first ≡ header_words seqs = cc in none (seqs, count, count.1, same),
      ),
    )

-- bytes have an answer
pub some_answer : Passed → (schema : Schema) (bytes : List ℕ) → length bytes < 2 ^ 63 → HasAnswer schema bytes
some_answer passed schema bytes small =
    let few = text_letters bytes in some_lines passed schema (text_words bytes) (length bytes) (omega (arith, few, small))
