-- Bytes have one answer.
use Rattle.std.proofs.Common.{◌≡◌, ◌<◌, ◌≤◌, ◌+◌, ℕ, suc, List, [], ◌∷◌, ◌++◌, length, refl, sym, ◌∙◌, ap, subst, arith, append_assoc, append-nil}
use Rattle.std.proofs.Common.{inl, inr}
use Rattle.std.specs.Prelude.{map, reverse, true, false, decimal}
use Rattle.std.proofs.lemmas.Fmt.{decimal_injective}
use Rattle.std.proofs.lemmas.List.{reverse-append, reverse-reverse, length-append}
use Rattle.mj_base.specs.declared.limits.TheConstants.{MAX_SCRIPT_LINES}
use Rattle.mj_schema.specs.declared.schema.Schema.{Schema}
use Rattle.call_script.specs.declared.script.Script.{Script}
use Rattle.call_script.specs.declared.script_error.LineRefusal.{LineRefusal}
use Rattle.call_script.specs.declared.script_error.LineRefusal.TheVariants.{BadLine, DoubleName, UnknownName, BadValue, TooManyLines}
use Rattle.script_words.specs.Pieces.{text_words}
use Rattle.script_forms.specs.declared.sequences.TheConstants.{MAX_SEQUENCES}
use Rattle.script_forms.specs.Forms.{Form, IsForm, form_words, header_words, sequences, AreThere, AreSequences}
use Rattle.call_script.specs.Script.{names_set, line_number, doubles, knows, IsFormOf, Part, IsTaken, AreTaken, AreScript, IsRefused, IsRefusedBehind}
use Rattle.call_script.specs.Script.{HasNoValue, AreRefused, IsScriptOf, IsFirstRefusal}
use Rattle.script_forms.proofs.OneForm.{form_one}
use Rattle.call_script.proofs.OneValue.{has_value}

-- ## One line

module _ (schema : Schema) (seqs : ℕ) (small : seqs ≤ MAX_SEQUENCES) (past : List Form) (words : List (List ℕ)) where
  -- the form of a line that is taken
  form_of : (form : Form) (part : Part) → IsTaken schema seqs past form part → words ≡ form_words form → IsFormOf seqs past words form
  form_of form part taken spelled = record { sound = taken.sound; there = taken.there; placed = taken.placed; spelled = spelled }

  -- words have one form
  one_form : (form other : Form) → IsFormOf seqs past words form → IsFormOf seqs past words other → form ≡ other
  one_form form other at also = form_one seqs (omega (arith, small)) form other at.sound also.sound at.there also.there (sym at.spelled ∙ also.spelled)

  -- names that are set again are in no line that sets none again
  not_doubled : (form : Form) → IsFormOf seqs past words form → doubles past form ≡ false → IsRefused schema seqs past words DoubleName → ⊥
  not_doubled form at single (other, also, again) =
      let same = ap (doubles past) (one_form form other at also) in absurd cc

  -- nor is what is unknown in a line whose names are known
  not_unknown : (form : Form) → IsFormOf seqs past words form → knows schema (names_set past) form ≡ true → IsRefused schema seqs past words UnknownName → ⊥
  not_unknown form at known (other, also, single, unknown) =
      let same = ap (knows schema (names_set past)) (one_form form other at also) in absurd cc

  -- nor does a line that is taken lack its value
  not_lacking : (form : Form) (part : Part) → IsTaken schema seqs past form part → words ≡ form_words form → IsRefused schema seqs past words BadValue → ⊥
  not_lacking form part taken spelled (other, also, single, known, none) =
      has_value schema past form part
      (subst (HasNoValue schema) (one_form other form also (form_of form part taken spelled)) none) taken.means

  -- a line that is taken is refused for nothing
  pub not_refused : (form : Form) (part : Part) (why : LineRefusal)
      → IsTaken schema seqs past form part → words ≡ form_words form → line_number past ≤ MAX_SCRIPT_LINES → IsRefused schema seqs past words why → ⊥
  not_refused form part BadLine taken spelled few refused = refused form (form_of form part taken spelled)
  not_refused form part DoubleName taken spelled few refused = not_doubled form (form_of form part taken spelled) taken.single refused
  not_refused form part UnknownName taken spelled few refused = not_unknown form (form_of form part taken spelled) taken.known refused
  not_refused form part BadValue taken spelled few refused = not_lacking form part taken spelled refused
  not_refused form part TooManyLines taken spelled few (other, part', are, taken', many) = omega (arith, few, many)

  -- of two reasons the first in order is meant
  no_other : (why : LineRefusal) → IsRefused schema seqs past words BadLine → IsRefused schema seqs past words why → BadLine ≡ why
  no_other BadLine none refused = refl
  no_other DoubleName none (form, at, again) = absurd (none form at)
  no_other UnknownName none (form, at, single, unknown) = absurd (none form at)
  no_other BadValue none (form, at, single, known, lacks) = absurd (none form at)
  no_other TooManyLines none (form, part, are, taken, many) = absurd (none form (form_of form part taken are))

  doubled_alone : (why : LineRefusal) → IsRefused schema seqs past words DoubleName → IsRefused schema seqs past words why → DoubleName ≡ why
  doubled_alone BadLine again none = sym (no_other DoubleName none again)
  doubled_alone DoubleName again refused = refl
  doubled_alone UnknownName again (form, at, single, unknown) = absurd (not_doubled form at single again)
  doubled_alone BadValue again (form, at, single, known, lacks) = absurd (not_doubled form at single again)
  doubled_alone TooManyLines again (form, part, are, taken, many) = absurd (not_doubled form (form_of form part taken are) taken.single again)

  unknown_alone : (why : LineRefusal) → IsRefused schema seqs past words UnknownName → IsRefused schema seqs past words why → UnknownName ≡ why
  unknown_alone BadLine unknown none = sym (no_other UnknownName none unknown)
  unknown_alone DoubleName unknown again = sym (doubled_alone UnknownName again unknown)
  unknown_alone UnknownName unknown refused = refl
  unknown_alone BadValue unknown (form, at, single, known, lacks) = absurd (not_unknown form at known unknown)
  unknown_alone TooManyLines unknown (form, part, are, taken, many) = absurd (not_unknown form (form_of form part taken are) taken.known unknown)

  value_alone : (why : LineRefusal) → IsRefused schema seqs past words BadValue → IsRefused schema seqs past words why → BadValue ≡ why
  value_alone BadLine lacks none = sym (no_other BadValue none lacks)
  value_alone DoubleName lacks again = sym (doubled_alone BadValue again lacks)
  value_alone UnknownName lacks unknown = sym (unknown_alone BadValue unknown lacks)
  value_alone BadValue lacks refused = refl
  value_alone TooManyLines lacks (form, part, are, taken, many) = absurd (not_lacking form part taken are lacks)

  pub one_reason : (why why' : LineRefusal) → IsRefused schema seqs past words why → IsRefused schema seqs past words why' → why ≡ why'
  one_reason BadLine why' r s = no_other why' r s
  one_reason DoubleName why' r s = doubled_alone why' r s
  one_reason UnknownName why' r s = unknown_alone why' r s
  one_reason BadValue why' r s = value_alone why' r s
  one_reason TooManyLines BadLine r s = sym (no_other TooManyLines s r)
  one_reason TooManyLines DoubleName r s = sym (doubled_alone TooManyLines s r)
  one_reason TooManyLines UnknownName r s = sym (unknown_alone TooManyLines s r)
  one_reason TooManyLines BadValue r s = sym (value_alone TooManyLines s r)
  one_reason TooManyLines TooManyLines r s = refl

-- ## Lines

-- all are forms, where there are so many sequences
abbrev AllForms : ℕ → List Form → Type 0
AllForms seqs [] = Unit {0}
AllForms seqs (form ∷ forms) = (IsForm form × AreThere seqs (sequences form)) × AllForms seqs forms

forms_join : (seqs : ℕ) (xs ys : List Form) → AllForms seqs xs → AllForms seqs ys → AllForms seqs (xs ++ ys)
forms_join seqs [] ys a b = b
forms_join seqs (x ∷ xs) ys a b = (a.0, forms_join seqs xs ys a.1 b)

-- those that are taken, the oldest first
taken_forms : (schema : Schema) (seqs : ℕ) (forms : List Form) (parts : List Part) → AreTaken schema seqs forms parts → AllForms seqs (reverse forms)
taken_forms schema seqs [] parts taken = tt
taken_forms schema seqs (form ∷ past) [] taken = absurd taken
taken_forms schema seqs (form ∷ past) (part ∷ parts) taken =
    subst (AllForms seqs) (sym (reverse-append (form ∷ []) past))
    (forms_join seqs (reverse past) (form ∷ []) (taken_forms schema seqs past parts taken.1) ((taken.0.sound, taken.0.there), tt))

-- one of the earlier lines
taken_at : (schema : Schema) (seqs : ℕ) (later past : List Form) (form : Form) (parts : List Part) → AreTaken schema seqs (later ++ form ∷ past) parts
    → (part : Part) × IsTaken schema seqs past form part
taken_at schema seqs [] past form [] taken = absurd taken
taken_at schema seqs [] past form (part ∷ parts) taken = (part, taken.0)
taken_at schema seqs (x ∷ later) past form [] taken = absurd taken
taken_at schema seqs (x ∷ later) past form (part ∷ parts) taken = taken_at schema seqs later past form parts taken.1

-- the words of forms and then others, read in two ways
pub data Ways (xs ys : List Form) (s t : List (List (List ℕ))) : Type 0 where
  Equal : xs ≡ ys → s ≡ t → Ways xs ys s t
  Longer : (form : Form) (more : List Form) (rest : List (List (List ℕ))) → ys ≡ xs ++ form ∷ more → s ≡ form_words form ∷ rest → Ways xs ys s t
  Shorter : (form : Form) (more : List Form) (rest : List (List (List ℕ))) → xs ≡ ys ++ form ∷ more → t ≡ form_words form ∷ rest → Ways xs ys s t

ways : (seqs : ℕ) → seqs ≤ MAX_SEQUENCES → (xs ys : List Form) (s t : List (List (List ℕ))) → AllForms seqs xs → AllForms seqs ys
    → map form_words xs ++ s ≡ map form_words ys ++ t → Ways xs ys s t
ways seqs small [] [] s t a b e = Equal refl e
ways seqs small [] (y ∷ ys) s t a b e = Longer y ys (map form_words ys ++ t) refl e
ways seqs small (x ∷ xs) [] s t a b e = Shorter x xs (map form_words xs ++ s) refl (sym e)
ways seqs small (x ∷ xs) (y ∷ ys) s t a b e =
    let first : form_words x ≡ form_words y = cc in
    let rest : map form_words xs ++ s ≡ map form_words ys ++ t = cc in
    go (form_one seqs (omega (arith, small)) x y a.0.0 b.0.0 a.0.1 b.0.1 first) (ways seqs small xs ys s t a.1 b.1 rest)
  where
    go : x ≡ y → Ways xs ys s t → Ways (x ∷ xs) (y ∷ ys) s t
    go same (Equal e f) = Equal (cc) f
    go same (Longer form more rest e f) = Longer form more rest (cc) f
    go same (Shorter form more rest e f) = Shorter form more rest (cc) f

-- the forms before one in the middle, the newest first
middle : (xs ys more : List Form) (form : Form) → reverse ys ≡ reverse xs ++ form ∷ more → ys ≡ reverse more ++ form ∷ xs
middle xs ys more form e =
    sym (reverse-reverse ys)
    ∙ (ap reverse e
    ∙ (reverse-append (reverse xs) (form ∷ more)
    ∙ (ap (λ l. l ++ reverse (reverse xs)) (reverse-append (form ∷ []) more)
    ∙ (append_assoc (reverse more) (form ∷ []) (reverse (reverse xs)) ∙ ap (λ l. reverse more ++ form ∷ l) (reverse-reverse xs)))))

-- a refused line is none of those of more lines
never_later : (schema : Schema) (seqs : ℕ) → seqs ≤ MAX_SEQUENCES → (xs ys : List Form) (parts : List Part) (words : List (List ℕ)) (why : LineRefusal)
    (form : Form) (more : List Form)
    → AreTaken schema seqs ys parts → length ys < MAX_SCRIPT_LINES → reverse ys ≡ reverse xs ++ form ∷ more → words ≡ form_words form
    → IsRefused schema seqs xs words why → ⊥
never_later schema seqs small xs ys parts words why form more taken few e spelled refused =
    let are : ys ≡ reverse more ++ form ∷ xs = middle xs ys more form e in
    let at = taken_at schema seqs (reverse more) xs form parts (subst (λ l. AreTaken schema seqs l parts) are taken) in
    let size : length ys ≡ length (reverse more) + suc (length xs) = ap length are ∙ length-append (reverse more) (form ∷ xs) in
    not_refused schema seqs small xs words form at.0 why at.1 spelled (omega (arith, size, few)) refused

-- ## The answer

-- forms by their order, newest first or oldest
backward : (xs ys : List Form) → reverse xs ≡ reverse ys → xs ≡ ys
backward xs ys e = sym (reverse-reverse xs) ∙ (ap reverse e ∙ reverse-reverse ys)

-- a first line says how many sequences there are in one way
header_one : (m n : ℕ) (s t : List (List (List ℕ))) → AreSequences m → AreSequences n → header_words m ∷ s ≡ header_words n ∷ t → (m ≡ n) × (s ≡ t)
header_one m n s t few also e =
    let digits : decimal m ≡ decimal n = cc in
    let rest : s ≡ t = cc in (decimal_injective m n (omega (arith, few.1)) (omega (arith, also.1)) digits, rest)

-- the same refusal, said of as many sequences
record IsRefusedAt (schema : Schema) (seqs : ℕ) (texts : List (List (List ℕ))) (line : ℕ) (why : LineRefusal) : Type 0 where
  forms : List Form
  parts : List Part
  words : List (List ℕ)
  rest : List (List (List ℕ))
  spelled : texts ≡ map form_words (reverse forms) ++ words ∷ rest
  taken : AreTaken schema seqs forms parts
  few : length forms < MAX_SCRIPT_LINES
  number : line ≡ line_number forms
  refused : IsRefused schema seqs forms words why

refused_at : (schema : Schema) (seqs : ℕ) (rest texts : List (List (List ℕ))) (line : ℕ) (why : LineRefusal) → AreSequences seqs
    → texts ≡ header_words seqs ∷ rest → IsRefusedBehind schema texts line why → IsRefusedAt schema seqs rest line why
refused_at schema seqs rest texts line why few e behind =
    let behind_words = map form_words (reverse behind.forms) ++ behind.words ∷ behind.rest in
    let same = header_one seqs behind.seqs rest behind_words few behind.count (sym e ∙ behind.spelled) in
    record {
      forms = behind.forms;
      parts = behind.parts;
      words = behind.words;
      rest = behind.rest;
      spelled = same.1;
      taken = subst (λ n. AreTaken schema n behind.forms behind.parts) (sym same.0) behind.taken;
      few = behind.few;
      number = behind.number;
      refused = subst (λ n. IsRefused schema n behind.forms behind.words why) (sym same.0) behind.refused;
    }

refused_script : (schema : Schema) (texts : List (List (List ℕ))) (script : Script) (line : ℕ) (why : LineRefusal)
    → AreScript schema texts script → AreRefused schema texts line why → ⊥
refused_script schema texts script line why is (inl none) = none.2 script.seqs (map form_words (reverse is.forms)) is.count is.spelled
refused_script schema texts script line why is (inr behind) =
    go (ways script.seqs is.count.1 (reverse is.forms) (reverse at.forms) [] (at.words ∷ at.rest)
    (taken_forms schema script.seqs is.forms is.parts is.taken) (taken_forms schema script.seqs at.forms at.parts at.taken)
    (append-nil (map form_words (reverse is.forms)) ∙ at.spelled))
  where
    at : IsRefusedAt schema script.seqs (map form_words (reverse is.forms)) line why
    at = refused_at schema script.seqs (map form_words (reverse is.forms)) texts line why is.count is.spelled behind

    go : Ways (reverse is.forms) (reverse at.forms) [] (at.words ∷ at.rest) → ⊥
    go (Equal e f) = cc
    go (Longer form more rest e f) = cc
    go (Shorter form more rest e f) =
        let words : at.words ≡ form_words form = cc in
        never_later schema script.seqs is.count.1 at.forms is.forms is.parts at.words why form more is.taken is.few e words at.refused

pub never_both : (schema : Schema) (bytes : List ℕ) (script : Script) (line : ℕ) (why : LineRefusal)
    → IsScriptOf schema bytes script → IsFirstRefusal schema bytes line why → ⊥
never_both schema bytes script line why is refused = refused_script schema (text_words bytes) script line why is refused

-- two refusals behind the first line
both_at : (schema : Schema) (seqs : ℕ) (texts : List (List (List ℕ))) (line line' : ℕ) (why why' : LineRefusal) → AreSequences seqs
    → IsRefusedAt schema seqs texts line why → IsRefusedAt schema seqs texts line' why' → (line ≡ line') × (why ≡ why')
both_at schema seqs texts line line' why why' count one other =
    go (ways seqs count.1 (reverse one.forms) (reverse other.forms) (one.words ∷ one.rest) (other.words ∷ other.rest)
    (taken_forms schema seqs one.forms one.parts one.taken) (taken_forms schema seqs other.forms other.parts other.taken)
    (sym one.spelled ∙ other.spelled))
  where
    go : Ways (reverse one.forms) (reverse other.forms) (one.words ∷ one.rest) (other.words ∷ other.rest) → (line ≡ line') × (why ≡ why')
    go (Equal e f) =
        let forms : one.forms ≡ other.forms = backward one.forms other.forms e in
        let words : one.words ≡ other.words = cc in
        let lines : line_number one.forms ≡ line_number other.forms = ap line_number forms in
        let refused : IsRefused schema seqs one.forms one.words why' =
        subst (λ p. IsRefused schema seqs p one.words why') (sym forms) (subst (λ w. IsRefused schema seqs other.forms w why') (sym words) other.refused) in
        (one.number ∙ (lines ∙ sym other.number), one_reason schema seqs count.1 one.forms one.words why why' one.refused refused)
    go (Longer form more rest e f) =
        let words : one.words ≡ form_words form = cc in
        absurd (never_later schema seqs count.1 one.forms other.forms other.parts one.words why form more other.taken other.few e words one.refused)
    go (Shorter form more rest e f) =
        let words : other.words ≡ form_words form = cc in
        absurd (never_later schema seqs count.1 other.forms one.forms one.parts other.words why' form more one.taken one.few e words other.refused)

both_behind : (schema : Schema) (texts : List (List (List ℕ))) (line line' : ℕ) (why why' : LineRefusal)
    → IsRefusedBehind schema texts line why → IsRefusedBehind schema texts line' why' → (line ≡ line') × (why ≡ why')
both_behind schema texts line line' why why' one other =
    let rest = map form_words (reverse one.forms) ++ one.words ∷ one.rest in
    both_at schema one.seqs rest line line' why why' one.count (refused_at schema one.seqs rest texts line why one.count one.spelled one)
    (refused_at schema one.seqs rest texts line' why' one.count one.spelled other)

refusals : (schema : Schema) (texts : List (List (List ℕ))) (line line' : ℕ) (why why' : LineRefusal)
    → AreRefused schema texts line why → AreRefused schema texts line' why' → (line ≡ line') × (why ≡ why')
refusals schema texts line line' why why' (inl one) (inl other) = (one.0 ∙ sym other.0, one.1 ∙ sym other.1)
refusals schema texts line line' why why' (inl one) (inr other) =
    absurd (one.2 other.seqs (map form_words (reverse other.forms) ++ other.words ∷ other.rest) other.count other.spelled)
refusals schema texts line line' why why' (inr one) (inl other) =
    absurd (other.2 one.seqs (map form_words (reverse one.forms) ++ one.words ∷ one.rest) one.count one.spelled)
refusals schema texts line line' why why' (inr one) (inr other) = both_behind schema texts line line' why why' one other

pub one_refusal : (schema : Schema) (bytes : List ℕ) (line line' : ℕ) (why why' : LineRefusal)
    → IsFirstRefusal schema bytes line why → IsFirstRefusal schema bytes line' why' → (line ≡ line') × (why ≡ why')
one_refusal schema bytes line line' why why' one other = refusals schema (text_words bytes) line line' why why' one other

-- two scripts have as many sequences and the same forms
pub same_forms : (schema : Schema) (texts : List (List (List ℕ))) (one other : Script) (is : AreScript schema texts one) (also : AreScript schema texts other)
    → (one.seqs ≡ other.seqs) × (is.forms ≡ also.forms)
same_forms schema texts one other is also = (
  same.0,
  go (ways one.seqs is.count.1 (reverse is.forms) (reverse also.forms) [] []
      (taken_forms schema one.seqs is.forms is.parts is.taken)
      (taken_forms schema one.seqs also.forms also.parts (subst (λ n. AreTaken schema n also.forms also.parts) (sym same.0) also.taken))
      (ap (λ l. l ++ []) same.1)),
)
  where
    same : (one.seqs ≡ other.seqs) × (map form_words (reverse is.forms) ≡ map form_words (reverse also.forms))
    same =
        header_one one.seqs other.seqs (map form_words (reverse is.forms)) (map form_words (reverse also.forms)) is.count also.count
        (sym is.spelled ∙ also.spelled)

    go : Ways (reverse is.forms) (reverse also.forms) [] [] → is.forms ≡ also.forms
    go (Equal e f) = backward is.forms also.forms e
    go (Longer form more rest e f) = cc
    go (Shorter form more rest e f) = cc
