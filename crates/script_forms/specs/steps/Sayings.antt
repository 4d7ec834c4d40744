-- What the readers of what is said answer.
use Rattle.std.specs.Prelude.{ℕ, ◌≡◌, ◌<◌, ◌++◌, Bool, true, false, List, ◌∷◌, Option, Some, None}
use Rattle.handle_table.specs.declared.thing.TokenSort.{TokenSort}
use Rattle.wire_encoder.specs.declared.endpoint.EndpointSide.{EndpointSide}
use Rattle.script_forms.specs.declared.form.Form.{Form as WrittenForm}
use Rattle.script_forms.specs.declared.form.Said.{Said as WrittenSaid}
use Rattle.script_forms.specs.Forms.{Said, Call, Answer, Raw, Notify, Data, Flow, Of}
use Rattle.script_forms.specs.Forms.{IsSaid, IsForm, sequences, said_sequences, AreThere, said_words, form_words, sort_word, side_word}
use Rattle.script_forms.specs.Views.{said_view, form_view}

-- the number of a sequence among so many, in this spelling
abbrev pub SpellsSequence : ℕ → (ℕ → List ℕ) → List ℕ → Option ℕ → Type 0
SpellsSequence seqs text word (Some n) = (word ≡ text n) × (n < seqs)
SpellsSequence seqs text word None = (n : ℕ) → n < seqs → word ≡ text n → ⊥

-- the sort of token of this word, or none where it is the word of none
abbrev pub SpellsSort : List ℕ → Option TokenSort → Type 0
SpellsSort word (Some sort) = word ≡ sort_word sort
SpellsSort word None = (sort : TokenSort) → word ≡ sort_word sort → ⊥

-- the side of an endpoint of this word, or none where it is the word of none
abbrev pub SpellsSide : List ℕ → Option EndpointSide → Type 0
SpellsSide word (Some side) = word ≡ side_word side
SpellsSide word None = (side : EndpointSide) → word ≡ side_word side → ⊥

-- what is said by these words where there are so many sequences, or none where nothing is
abbrev pub SpellsAll : ℕ → List (List ℕ) → Option WrittenSaid → Type 0
SpellsAll seqs words (Some said) =
    IsSaid (said_view said) × AreThere seqs (said_sequences (said_view said)) × (words ≡ said_words (said_view said))
SpellsAll seqs words None = (said : Said) → IsSaid said → AreThere seqs (said_sequences said) → words ≡ said_words said → ⊥

-- the same of a command and the words behind it
abbrev pub SpellsBehind : ℕ → List ℕ → List (List ℕ) → Option WrittenSaid → Type 0
SpellsBehind seqs command words found = SpellsAll seqs (command ∷ words) found

-- the same where it names no sequence
abbrev pub SpellsSaid : List ℕ → List (List ℕ) → Option WrittenSaid → Type 0
SpellsSaid command words found = (seqs : ℕ) → SpellsBehind seqs command words found

-- the same where it begins with these words
abbrev pub SpellsFrom : List (List ℕ) → List (List ℕ) → Option WrittenSaid → Type 0
SpellsFrom start words found = (seqs : ℕ) → SpellsAll seqs (start ++ words) found

-- whether what is said writes a message, or is of a data pipe
abbrev pub writes : Said → Bool
writes (Call end id method value tokens moment) = true
writes (Answer responder method value tokens moment) = true
writes (Raw end bytes tokens) = true
writes (Notify end notice) = true
writes (Data size producer consumer) = true
writes (Flow token moved) = true
writes said = false

-- what is said by a command and these words, or none where nothing is that writes a message or is of a data pipe
abbrev pub SpellsWriting : List ℕ → List (List ℕ) → Option WrittenSaid → Type 0
SpellsWriting command words (Some said) = SpellsSaid command words (Some said)
SpellsWriting command words None = (said : Said) → writes said ≡ true → IsSaid said → command ∷ words ≡ said_words said → ⊥

-- the line of a sequence of these words, or none
abbrev pub SpellsOf : ℕ → List ℕ → List (List ℕ) → Option WrittenForm → Type 0
SpellsOf seqs start words (Some form) =
    IsForm (form_view form) × AreThere seqs (sequences (form_view form)) × (start ∷ words ≡ form_words (form_view form))
SpellsOf seqs start words None = (seq : ℕ) (said : Said) → IsForm (Of seq said) → AreThere seqs (sequences (Of seq said))
    → start ∷ words ≡ form_words (Of seq said) → ⊥
