-- What is moved at a token, by the command's word and the words behind it.
use Rattle.std.proofs.Common.{◌≡◌, ℕ, Bool, true, false, List, [], refl, sym, ap, subst, arith}
use Rattle.std.specs.Prelude.{codes, IfOk, MatchOption, Option, Some, None, Result, Ok, Err}
use Rattle.std.specs.Str.{bytes_eq}
use Rattle.std.proofs.lemmas.Slice.Eq.{bytes_eq-Decides}
use Rattle.script_words.proofs.Parts.{never_false}
use Rattle.script_forms.specs.declared.form.Moved.{Moved as WrittenMoved}
use Rattle.script_forms.specs.Forms.{Moved, Put, Get, BeginPut, EndPut, BeginGet, EndGet, IsMoved, get_word, move_tail, move_word, put_word}
use Rattle.script_forms.specs.Views.{moved_view}
use Rattle.script_forms.specs.steps.Moves.{IsEndGet, IsEndPut, IsGet, IsPut, NoBytesWord, NoNumber, SpellsMove}
use Rattle.script_forms.proofs.MoveWords.{kind_of, kinds}

module _ (words : List (List ℕ)) where
  -- ## Behind the word of each

  put_some : (all : Bool) (m : Moved) → IsPut all words m → IsMoved m × (put_word all ≡ move_word m) × (words ≡ move_tail m)
  put_some all (Put word some) h = (h.0.1, ap put_word (sym h.1), h.0.0)
  put_some all m h = absurd h

  put_none : (all : Bool) → NoBytesWord words → (m : Moved) → IsMoved m → put_word all ≡ move_word m → words ≡ move_tail m → ⊥
  put_none all none (Put word some) is same tail = none word (tail, is)
  put_none all none m is same tail = omega (arith, kinds (Put [] all) m same)

  get_some : (all : Bool) (m : Moved) → IsGet all words m → IsMoved m × (get_word all ≡ move_word m) × (words ≡ move_tail m)
  get_some all (Get n some) h = (h.0.1, ap get_word (sym h.1), h.0.0)
  get_some all m h = absurd h

  get_none : (all : Bool) → NoNumber words → (m : Moved) → IsMoved m → get_word all ≡ move_word m → words ≡ move_tail m → ⊥
  get_none all none (Get n some) is same tail = none n (tail, is)
  get_none all none m is same tail = omega (arith, kinds (Get 0 all) m same)

  end_put_some : (m : Moved) → IsEndPut words m → IsMoved m × (codes "end-put" ≡ move_word m) × (words ≡ move_tail m)
  end_put_some (EndPut word) h = (h.1, refl, h.0)
  end_put_some m h = absurd h

  end_put_none : NoBytesWord words → (m : Moved) → IsMoved m → codes "end-put" ≡ move_word m → words ≡ move_tail m → ⊥
  end_put_none none (EndPut word) is same tail = none word (tail, is)
  end_put_none none m is same tail = omega (arith, kinds (EndPut []) m same)

  end_get_some : (m : Moved) → IsEndGet words m → IsMoved m × (codes "end-get" ≡ move_word m) × (words ≡ move_tail m)
  end_get_some (EndGet n) h = (h.1, refl, h.0)
  end_get_some m h = absurd h

  end_get_none : NoNumber words → (m : Moved) → IsMoved m → codes "end-get" ≡ move_word m → words ≡ move_tail m → ⊥
  end_get_none none (EndGet n) is same tail = none n (tail, is)
  end_get_none none m is same tail = omega (arith, kinds (EndGet 0) m same)

  begin_put_some : (m : Moved) → (words ≡ []) × (m ≡ BeginPut) → IsMoved m × (codes "begin-put" ≡ move_word m) × (words ≡ move_tail m)
  begin_put_some BeginPut h = (tt, refl, h.0)
  begin_put_some m h = absurd (omega (arith, ap kind_of h.1))

  begin_put_none : (words ≡ [] → ⊥) → (m : Moved) → IsMoved m → codes "begin-put" ≡ move_word m → words ≡ move_tail m → ⊥
  begin_put_none none BeginPut is same tail = none tail
  begin_put_none none m is same tail = omega (arith, kinds BeginPut m same)

  begin_get_some : (m : Moved) → (words ≡ []) × (m ≡ BeginGet) → IsMoved m × (codes "begin-get" ≡ move_word m) × (words ≡ move_tail m)
  begin_get_some BeginGet h = (tt, refl, h.0)
  begin_get_some m h = absurd (omega (arith, ap kind_of h.1))

  begin_get_none : (words ≡ [] → ⊥) → (m : Moved) → IsMoved m → codes "begin-get" ≡ move_word m → words ≡ move_tail m → ⊥
  begin_get_none none BeginGet is same tail = none tail
  begin_get_none none m is same tail = omega (arith, kinds BeginGet m same)

  -- ## Behind a word that is one of these

  as_word : (command word : List ℕ) (found : Option WrittenMoved) → true ≡ bytes_eq command word → SpellsMove word words found
      → SpellsMove command words found
  as_word command word found same spells =
      subst (λ (c : List ℕ). SpellsMove c words found) (sym ((bytes_eq-Decides command word).0 (sym same))) spells

  puts_as : (all : Bool) (command : List ℕ) (found : Option WrittenMoved) → true ≡ bytes_eq command (put_word all)
      → MatchOption found (NoBytesWord words) (λ m. IsPut all words (moved_view m)) → SpellsMove command words found
  puts_as all command (Some m) same h = as_word command (put_word all) (Some m) same (put_some all (moved_view m) h)
  puts_as all command None same h = as_word command (put_word all) None same (put_none all h)

  gets_as : (all : Bool) (command : List ℕ) (found : Option WrittenMoved) → true ≡ bytes_eq command (get_word all)
      → MatchOption found (NoNumber words) (λ m. IsGet all words (moved_view m)) → SpellsMove command words found
  gets_as all command (Some m) same h = as_word command (get_word all) (Some m) same (get_some all (moved_view m) h)
  gets_as all command None same h = as_word command (get_word all) None same (get_none all h)

  end_puts_as : (command : List ℕ) (found : Option WrittenMoved) → true ≡ bytes_eq command (codes "end-put")
      → MatchOption found (NoBytesWord words) (λ m. IsEndPut words (moved_view m)) → SpellsMove command words found
  end_puts_as command (Some m) same h = as_word command (codes "end-put") (Some m) same (end_put_some (moved_view m) h)
  end_puts_as command None same h = as_word command (codes "end-put") None same (end_put_none h)

  end_gets_as : (command : List ℕ) (found : Option WrittenMoved) → true ≡ bytes_eq command (codes "end-get")
      → MatchOption found (NoNumber words) (λ m. IsEndGet words (moved_view m)) → SpellsMove command words found
  end_gets_as command (Some m) same h = as_word command (codes "end-get") (Some m) same (end_get_some (moved_view m) h)
  end_gets_as command None same h = as_word command (codes "end-get") None same (end_get_none h)

  pub begin_puts : (command : List ℕ) (found : Option WrittenMoved) → true ≡ bytes_eq command (codes "begin-put")
      → MatchOption found (words ≡ [] → ⊥) (λ m. (words ≡ []) × (moved_view m ≡ BeginPut)) → SpellsMove command words found
  begin_puts command (Some m) same h = as_word command (codes "begin-put") (Some m) same (begin_put_some (moved_view m) h)
  begin_puts command None same h = as_word command (codes "begin-put") None same (begin_put_none h)

  pub begin_gets : (command : List ℕ) (found : Option WrittenMoved) → true ≡ bytes_eq command (codes "begin-get")
      → MatchOption found (words ≡ [] → ⊥) (λ m. (words ≡ []) × (moved_view m ≡ BeginGet)) → SpellsMove command words found
  begin_gets command (Some m) same h = as_word command (codes "begin-get") (Some m) same (begin_get_some (moved_view m) h)
  begin_gets command None same h = as_word command (codes "begin-get") None same (begin_get_none h)

  -- whether memory served or not
  module _ {E : Type 0} where
    pub puts_ok : (all : Bool) (command : List ℕ) (result : Result (Option WrittenMoved) E) → true ≡ bytes_eq command (put_word all)
        → IfOk result (λ found. MatchOption found (NoBytesWord words) (λ m. IsPut all words (moved_view m))) → IfOk result (SpellsMove command words)
    puts_ok all command (Ok found) same h = puts_as all command found same h
    puts_ok all command (Err error) same h = tt

    pub gets_ok : (all : Bool) (command : List ℕ) (result : Result (Option WrittenMoved) E) → true ≡ bytes_eq command (get_word all)
        → IfOk result (λ found. MatchOption found (NoNumber words) (λ m. IsGet all words (moved_view m))) → IfOk result (SpellsMove command words)
    gets_ok all command (Ok found) same h = gets_as all command found same h
    gets_ok all command (Err error) same h = tt

    pub end_puts_ok : (command : List ℕ) (result : Result (Option WrittenMoved) E) → true ≡ bytes_eq command (codes "end-put")
        → IfOk result (λ found. MatchOption found (NoBytesWord words) (λ m. IsEndPut words (moved_view m))) → IfOk result (SpellsMove command words)
    end_puts_ok command (Ok found) same h = end_puts_as command found same h
    end_puts_ok command (Err error) same h = tt

    pub end_gets_ok : (command : List ℕ) (result : Result (Option WrittenMoved) E) → true ≡ bytes_eq command (codes "end-get")
        → IfOk result (λ found. MatchOption found (NoNumber words) (λ m. IsEndGet words (moved_view m))) → IfOk result (SpellsMove command words)
    end_gets_ok command (Ok found) same h = end_gets_as command found same h
    end_gets_ok command (Err error) same h = tt

-- a word that is none of these moves nothing
pub none_moved : (command : List ℕ) (words : List (List ℕ))
    → false ≡ bytes_eq command (codes "put")
    → false ≡ bytes_eq command (codes "put-all")
    → false ≡ bytes_eq command (codes "get")
    → false ≡ bytes_eq command (codes "get-all")
    → false ≡ bytes_eq command (codes "begin-put")
    → false ≡ bytes_eq command (codes "end-put")
    → false ≡ bytes_eq command (codes "begin-get")
    → false ≡ bytes_eq command (codes "end-get")
    → SpellsMove command words None
none_moved command words a b c d e f g h = go
  where
    go : (m : Moved) → IsMoved m → command ≡ move_word m → words ≡ move_tail m → ⊥
    go (Put word false) is same tail = never_false command (codes "put") same a
    go (Put word true) is same tail = never_false command (codes "put-all") same b
    go (Get n false) is same tail = never_false command (codes "get") same c
    go (Get n true) is same tail = never_false command (codes "get-all") same d
    go BeginPut is same tail = never_false command (codes "begin-put") same e
    go (EndPut word) is same tail = never_false command (codes "end-put") same f
    go BeginGet is same tail = never_false command (codes "begin-get") same g
    go (EndGet n) is same tail = never_false command (codes "end-get") same h
