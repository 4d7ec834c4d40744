-- What stands behind a command, by its word.
use Rattle.std.proofs.Common.{◌≡◌, ℕ, List, ◌∷◌, refl, sym, subst, true, false, Result, Ok, Err}
use Rattle.std.specs.Prelude.{codes, IfOk, Option, Some, None}
use Rattle.std.specs.Str.{bytes_eq}
use Rattle.std.proofs.lemmas.Slice.Eq.{bytes_eq-Decides}
use Rattle.bind_model.specs.declared.asked.Notice.TheVariants.{Query, Require, Flush}
use Rattle.script_words.proofs.Parts.{never_false}
use Rattle.script_forms.specs.declared.form.Said.{Said as WrittenSaid}
use Rattle.script_forms.specs.Forms.{Said, Pipe, Mint, Bind, Associate, Attach, Call, Take, Answer, Raw, CloseToken, CloseEndpoint, Notify, Pause}
use Rattle.script_forms.specs.Forms.{Data, Flow}
use Rattle.script_forms.specs.Forms.{AreThere, IsSaid, said_sequences, said_words}
use Rattle.script_forms.specs.steps.Moves.{SpellsFlow, SpellsMoving, moves}
use Rattle.script_forms.specs.steps.Sayings.{SpellsBehind, SpellsSaid, SpellsWriting, writes}
use Rattle.script_forms.proofs.Sayings.{first_is}

-- one that is this word
pub said_as : (seqs : ℕ) (command word : List ℕ) (words : List (List ℕ)) (found : Option WrittenSaid) → true ≡ bytes_eq command word
    → SpellsSaid word words found → SpellsBehind seqs command words found
said_as seqs command word words found same said =
    subst (λ c. SpellsBehind seqs c words found) (sym ((bytes_eq-Decides command word).0 (sym same))) (said seqs)

-- the same of a word that stands for what writes a message or is of a data pipe
writes_as : (command word : List ℕ) (words : List (List ℕ)) (found : Option WrittenSaid) → true ≡ bytes_eq command word → SpellsSaid word words found
    → SpellsWriting command words found
writes_as command word words (Some said) same spells = λ seqs. said_as seqs command word words (Some said) same spells
writes_as command word words None same spells = all
  where
    none : (said : Said) → IsSaid said → AreThere 0 (said_sequences said) → command ∷ words ≡ said_words said → ⊥
    none = said_as 0 command word words None same spells

    go : (said : Said) → writes said ≡ true → AreThere 0 (said_sequences said)
    go (Call x n m v ts at) w = tt
    go (Answer r m v ts at) w = tt
    go (Raw x b ts) w = tt
    go (Notify x notice) w = tt
    go (Pipe x y) w = tt
    go (Mint s x) w = tt
    go (Bind x s i) w = tt
    go (Associate x s i p) w = tt
    go (Attach x n) w = absurd cc
    go (Take x ns) w = tt
    go (CloseToken x) w = tt
    go (CloseEndpoint x n) w = tt
    go (Pause x y k) w = tt
    go (Data n x y) w = tt
    go (Flow x f) w = tt

    all : (said : Said) → writes said ≡ true → IsSaid said → command ∷ words ≡ said_words said → ⊥
    all said writing is e = none said is (go said writing) e

-- whether memory served or not
module _ {E : Type 0} where
  pub writes_ok : (command word : List ℕ) (words : List (List ℕ)) (result : Result (Option WrittenSaid) E) → true ≡ bytes_eq command word
      → IfOk result (SpellsSaid word words) → IfOk result (SpellsWriting command words)
  writes_ok command word words (Ok found) same spells = writes_as command word words found same spells
  writes_ok command word words (Err e) same spells = tt

pub writes_one : (command word : List ℕ) (words : List (List ℕ)) (found : Option WrittenSaid) → true ≡ bytes_eq command word
    → SpellsSaid word words found → SpellsWriting command words found
writes_one command word words found same spells = writes_as command word words found same spells

-- another word
unlike : (command word : List ℕ) (xs ys : List (List ℕ)) → false ≡ bytes_eq command word → command ∷ xs ≡ word ∷ ys → ⊥
unlike command word xs ys other e = never_false command word (first_is command word xs ys e) other

-- ## Of a data pipe

-- one that is the word of this
moving_as : (command word : List ℕ) (words : List (List ℕ)) (found : Option WrittenSaid) → true ≡ bytes_eq command word → SpellsSaid word words found
    → SpellsMoving command words found
moving_as command word words (Some said) same spells = λ seqs. said_as seqs command word words (Some said) same spells
moving_as command word words None same spells = all
  where
    none : (said : Said) → IsSaid said → AreThere 0 (said_sequences said) → command ∷ words ≡ said_words said → ⊥
    none = said_as 0 command word words None same spells

    go : (said : Said) → moves said ≡ true → AreThere 0 (said_sequences said)
    go (Data n x y) m = tt
    go (Flow x f) m = tt
    go said m = absurd cc

    all : (said : Said) → moves said ≡ true → IsSaid said → command ∷ words ≡ said_words said → ⊥
    all said moving is e = none said is (go said moving) e

-- one that isn't `data`
flow_as : (command : List ℕ) (words : List (List ℕ)) (found : Option WrittenSaid) → false ≡ bytes_eq command (codes "data")
    → SpellsFlow command words found → SpellsMoving command words found
flow_as command words (Some said) other spells = spells
flow_as command words None other spells = go
  where
    go : (said : Said) → moves said ≡ true → IsSaid said → command ∷ words ≡ said_words said → ⊥
    go (Data n x y) m is e = unlike command _ _ _ other e
    go (Flow x f) m is e = spells x f is e
    go said m is e = absurd cc

-- whether memory served or not
module _ {E : Type 0} where
  pub moving_ok : (command word : List ℕ) (words : List (List ℕ)) (result : Result (Option WrittenSaid) E) → true ≡ bytes_eq command word
      → IfOk result (SpellsSaid word words) → IfOk result (SpellsMoving command words)
  moving_ok command word words (Ok found) same spells = moving_as command word words found same spells
  moving_ok command word words (Err error) same spells = tt

  pub flow_ok : (command : List ℕ) (words : List (List ℕ)) → false ≡ bytes_eq command (codes "data") → (result : Result (Option WrittenSaid) E)
      → IfOk result (SpellsFlow command words) → IfOk result (SpellsMoving command words)
  flow_ok command words other (Ok found) spells = flow_as command words found other spells
  flow_ok command words other (Err error) spells = tt

-- one that is none of these words writes no message, but may be of a data pipe
module _ (command : List ℕ) (words : List (List ℕ))
    (a : false ≡ bytes_eq command (codes "call")) (b : false ≡ bytes_eq command (codes "call-at")) (c : false ≡ bytes_eq command (codes "answer"))
    (d : false ≡ bytes_eq command (codes "answer-at")) (e : false ≡ bytes_eq command (codes "raw")) (f : false ≡ bytes_eq command (codes "query"))
    (g : false ≡ bytes_eq command (codes "require")) (h : false ≡ bytes_eq command (codes "flush")) where
  none_writing : (found : Option WrittenSaid) → SpellsMoving command words found → SpellsWriting command words found
  none_writing (Some said) spells = spells
  none_writing None spells = go
    where
      go : (said : Said) → writes said ≡ true → IsSaid said → command ∷ words ≡ said_words said → ⊥
      go (Call x n m v ts None) w is s = unlike command _ _ _ a s
      go (Call x n m v ts (Some z)) w is s = unlike command _ _ _ b s
      go (Answer r m v ts None) w is s = unlike command _ _ _ c s
      go (Answer r m v ts (Some z)) w is s = unlike command _ _ _ d s
      go (Raw x bs ts) w is s = unlike command _ _ _ e s
      go (Notify x (Query n)) w is s = unlike command _ _ _ f s
      go (Notify x (Require n v)) w is s = unlike command _ _ _ g s
      go (Notify x Flush) w is s = unlike command _ _ _ h s
      go (Data n x y) w is s = spells (Data n x y) refl is s
      go (Flow x k) w is s = spells (Flow x k) refl is s
      go (Pipe x y) w is s = absurd cc
      go (Mint s x) w is k = absurd cc
      go (Bind x s i) w is k = absurd cc
      go (Associate x s i p) w is k = absurd cc
      go (Attach x n) w is s = absurd cc
      go (Take x ns) w is s = absurd cc
      go (CloseToken x) w is s = absurd cc
      go (CloseEndpoint x n) w is s = absurd cc
      go (Pause x y k) w is s = absurd cc

  pub moving_all : {E : Type 0} (result : Result (Option WrittenSaid) E) → IfOk result (SpellsMoving command words)
      → IfOk result (SpellsWriting command words)
  moving_all (Ok found) spells = none_writing found spells
  moving_all (Err error) spells = tt

-- one that is none of the words that write nothing
module _ (command : List ℕ) (words : List (List ℕ))
    (a : false ≡ bytes_eq command (codes "pipe")) (b : false ≡ bytes_eq command (codes "mint")) (c : false ≡ bytes_eq command (codes "bind"))
    (d : false ≡ bytes_eq command (codes "associate")) (e : false ≡ bytes_eq command (codes "attach")) (f : false ≡ bytes_eq command (codes "take"))
    (g : false ≡ bytes_eq command (codes "close")) (h : false ≡ bytes_eq command (codes "pause")) where
  writes_all : (seqs : ℕ) (found : Option WrittenSaid) → SpellsWriting command words found → SpellsBehind seqs command words found
  writes_all seqs (Some said) spells = spells seqs
  writes_all seqs None spells = go
    where
      go : (said : Said) → IsSaid said → AreThere seqs (said_sequences said) → command ∷ words ≡ said_words said → ⊥
      go (Call x n m v ts at) is there s = spells (Call x n m v ts at) refl is s
      go (Answer r m v ts at) is there s = spells (Answer r m v ts at) refl is s
      go (Raw x b ts) is there s = spells (Raw x b ts) refl is s
      go (Notify x notice) is there s = spells (Notify x notice) refl is s
      go (Data n x y) is there s = spells (Data n x y) refl is s
      go (Flow x k) is there s = spells (Flow x k) refl is s
      go (Pipe x y) is there s = unlike command _ _ _ a s
      go (Mint s x) is there k = unlike command _ _ _ b k
      go (Bind x s i) is there k = unlike command _ _ _ c k
      go (Associate x s i p) is there k = unlike command _ _ _ d k
      go (Attach x n) is there s = unlike command _ _ _ e s
      go (Take x ns) is there s = unlike command _ _ _ f s
      go (CloseToken x) is there s = unlike command _ _ _ g s
      go (CloseEndpoint x n) is there s = unlike command _ _ _ g s
      go (Pause x y k) is there s = unlike command _ _ _ h s

  pub behind_all : {E : Type 0} (seqs : ℕ) (result : Result (Option WrittenSaid) E) → IfOk result (SpellsWriting command words)
      → IfOk result (SpellsBehind seqs command words)
  behind_all seqs (Ok found) spells = writes_all seqs found spells
  behind_all seqs (Err error) spells = tt
