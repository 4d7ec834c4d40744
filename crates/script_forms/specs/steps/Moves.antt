-- What the readers of what is moved at a token answer.
use Rattle.std.specs.Prelude.{ℕ, ◌≡◌, ◌<◌, ◌^◌, Bool, true, false, List, [], ◌∷◌, decimal, Option, Some, None}
use Rattle.script_words.specs.Letters.{IsHexWord}
use Rattle.script_forms.specs.declared.form.Moved.{Moved as WrittenMoved}
use Rattle.script_forms.specs.declared.form.Said.{Said as WrittenSaid}
use Rattle.script_forms.specs.Forms.{Said, Data, Flow, Moved, Put, Get, EndPut, EndGet, IsMoved, IsSaid, move_tail, move_word, said_words}
use Rattle.script_forms.specs.Views.{moved_view}
use Rattle.script_forms.specs.steps.Sayings.{SpellsSaid}

-- this word stands there alone, and spells bytes
abbrev pub IsBytesWord : List (List ℕ) → List ℕ → Type 0
IsBytesWord words word = (words ≡ word ∷ []) × IsHexWord word

-- none does
abbrev pub NoBytesWord : List (List ℕ) → Type 0
NoBytesWord words = (word : List ℕ) → IsBytesWord words word → ⊥

-- the digits of this number stand there alone
abbrev pub IsOneNumber : List (List ℕ) → ℕ → Type 0
IsOneNumber words n = (words ≡ decimal n ∷ []) × (n < 2 ^ 32)

-- those of none do
abbrev pub NoNumber : List (List ℕ) → Type 0
NoNumber words = (n : ℕ) → IsOneNumber words n → ⊥

-- bytes go in, which stand there: all, or as many as there is room for
abbrev pub IsPut : Bool → List (List ℕ) → Moved → Type 0
IsPut all words (Put word some) = IsBytesWord words word × (some ≡ all)
IsPut all words moved = ⊥

-- as many bytes come out as stand there: all, or as many as are held
abbrev pub IsGet : Bool → List (List ℕ) → Moved → Type 0
IsGet all words (Get n some) = IsOneNumber words n × (some ≡ all)
IsGet all words moved = ⊥

-- these bytes went in
abbrev pub IsEndPut : List (List ℕ) → Moved → Type 0
IsEndPut words (EndPut word) = IsBytesWord words word
IsEndPut words moved = ⊥

-- so many bytes were read
abbrev pub IsEndGet : List (List ℕ) → Moved → Type 0
IsEndGet words (EndGet n) = IsOneNumber words n
IsEndGet words moved = ⊥

-- what is moved, by the command's word and the words behind its token, or nothing
abbrev pub SpellsMove : List ℕ → List (List ℕ) → Option WrittenMoved → Type 0
SpellsMove command words (Some moved) =
    IsMoved (moved_view moved) × (command ≡ move_word (moved_view moved)) × (words ≡ move_tail (moved_view moved))
SpellsMove command words None = (moved : Moved) → IsMoved moved → command ≡ move_word moved → words ≡ move_tail moved → ⊥

-- what is said by a command and these words, or none where nothing is moved so
abbrev pub SpellsFlow : List ℕ → List (List ℕ) → Option WrittenSaid → Type 0
SpellsFlow command words (Some said) = SpellsSaid command words (Some said)
SpellsFlow command words None =
    (token : List ℕ) (moved : Moved) → IsSaid (Flow token moved) → command ∷ words ≡ said_words (Flow token moved) → ⊥

-- whether what is said is of a data pipe
abbrev pub moves : Said → Bool
moves (Data size producer consumer) = true
moves (Flow token moved) = true
moves said = false

-- the same where nothing is said that is of a data pipe
abbrev pub SpellsMoving : List ℕ → List (List ℕ) → Option WrittenSaid → Type 0
SpellsMoving command words (Some said) = SpellsSaid command words (Some said)
SpellsMoving command words None = (said : Said) → moves said ≡ true → IsSaid said → command ∷ words ≡ said_words said → ⊥
