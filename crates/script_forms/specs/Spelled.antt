-- What words say, or that they say nothing.
use Rattle.std.specs.Prelude.{ℕ, ◌≡◌, List, Option, Some, None}
use Rattle.script_words.specs.Letters.{IsHexOf, IsHexWord}
use Rattle.script_forms.specs.declared.form.Form.{Form as WrittenForm}
use Rattle.script_forms.specs.Forms.{Form, IsForm, form_words, sequences, AreThere, AreSequences, header_words}
use Rattle.script_forms.specs.Views.{form_view}

-- the bytes of this spelling, where there are some
abbrev pub SpellsBytes : List ℕ → Option (List ℕ) → Type 0
SpellsBytes word (Some bytes) = IsHexOf word bytes
SpellsBytes word None = IsHexWord word → ⊥

-- how many sequences a first line of these words says, or none where it says none
abbrev pub SpellsHeader : List (List ℕ) → Option ℕ → Type 0
SpellsHeader words (Some seqs) = AreSequences seqs × (words ≡ header_words seqs)
SpellsHeader words None = (seqs : ℕ) → AreSequences seqs → words ≡ header_words seqs → ⊥

-- the form of these words where there are so many sequences, or none where they have none
abbrev pub SpellsForm : ℕ → List (List ℕ) → Option WrittenForm → Type 0
SpellsForm seqs words (Some form) = IsForm (form_view form) × AreThere seqs (sequences (form_view form)) × (words ≡ form_words (form_view form))
SpellsForm seqs words None = (form : Form) → IsForm form → AreThere seqs (sequences form) → words ≡ form_words form → ⊥
