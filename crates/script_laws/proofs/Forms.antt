-- Whether words are those of a line.
use Rattle.std.proofs.Common.{◌≡◌, ◌≤◌, ◌<◌, ◌^◌, ℕ, zero, suc, Bool, true, false, List, [], ◌∷◌, ◌++◌, length, drop, Option, Some, None, refl, sym, ap, ◌∙◌, arith, inl, inr}
use Rattle.std.specs.Prelude.{ℤ, pos, negsuc, FitsSigned, ◌==◌, if◌then◌else◌, codes, decimal, unwrap_or}
use Rattle.std.specs.Fmt.{signed_decimal}
use Rattle.std.specs.Int.{w64}
use Rattle.std.specs.Option.{option_map}
use Rattle.std.specs.Str.{bytes_eq}
use Rattle.std.proofs.lemmas.Fmt.{decimal_injective}
use Rattle.std.proofs.lemmas.List.{append_cancel_right}
use Rattle.std.proofs.lemmas.Slice.Eq.{bytes_eq-Decides}
use Rattle.bind_model.specs.declared.asked.Notice.TheVariants.{Query, Require, Flush}
use Rattle.handle_table.specs.declared.thing.TokenSort.{TokenSort}
use Rattle.handle_table.specs.declared.thing.TokenSort.TheVariants.{SharedBuffer, Platform}
use Rattle.wire_encoder.specs.declared.endpoint.EndpointSide.{EndpointSide}
use Rattle.wire_encoder.specs.declared.endpoint.EndpointSide.TheVariants.{Remote, Receiver}
use Rattle.script_words.specs.Letters.{endpoint_word, is_name, are_names, is_interface_word, is_method_word}
use Rattle.script_words.specs.Pieces.{pieces}
use Rattle.script_forms.specs.declared.sequences.TheConstants.{MAX_SEQUENCES}
use Rattle.script_forms.specs.Forms.{Said, Pipe, Mint, Bind, Associate, Attach, Call, Take, Answer, Raw, CloseToken, CloseEndpoint, Notify, Pause}
use Rattle.script_forms.specs.Forms.{Data, Flow, Moved, Put, Get, BeginPut, EndPut, BeginGet, EndGet, IsMoved}
use Rattle.script_forms.specs.Forms.{Form, Join, Auto, Of, IsMoment, IsNotice, IsSaid, IsForm, AreThere, said_words, said_sequences, form_words, sequences}
use Rattle.call_script.specs.Script.{IsFormOf, is_placed}
use Rattle.script_forms.proofs.Endpoints.{parts_of, name_parts}
use Rattle.script_forms.proofs.Moments.{moment_one}
use Rattle.script_laws.proofs.Decided.{Decided, by_test, both, three, four, five, six, below, same_words, by_one, hex_word}

-- ## Numbers in words

-- the number below n that is written so
number_in : (ℕ → List ℕ) → List ℕ → ℕ → Option ℕ
number_in written word zero = None
number_in written word (suc n) = if bytes_eq word (written n) then Some n else number_in written word n

-- it is found where each number is written in its own way
number_found : (written : ℕ → List ℕ) (word : List ℕ) (n k : ℕ) → ((i j : ℕ) → i < n → j < n → written i ≡ written j → i ≡ j) → k < n
    → word ≡ written k → number_in written word n ≡ Some k
unfolding number_in
number_found written word zero k one small e = absurd (omega (arith, small))
number_found written word (suc n) k one small e =
    go (bytes_eq word (written n)) refl
    (λ less. number_found written word n k (λ i j a b. one i j (omega (arith, a)) (omega (arith, b))) less e)
  where
    unlike : bytes_eq word (written n) ≡ false → k ≡ n → ⊥
    unlike other is =
        let same : bytes_eq word (written n) ≡ true = (bytes_eq-Decides word (written n)).1 (e ∙ ap written is) in absurd cc

    go : (t : Bool) → bytes_eq word (written n) ≡ t → (k < n → number_in written word n ≡ Some k)
        → (if t then Some n else number_in written word n) ≡ Some k
    go true same earlier =
        let last : word ≡ written n = (bytes_eq-Decides word (written n)).0 same in
        ap Some (one n k (omega arith) small (sym last ∙ e))
    go false other earlier = earlier (let differs = unlike other in omega (arith, small, differs))

-- and none where none is written so
number_lacking : (written : ℕ → List ℕ) (word : List ℕ) (n : ℕ) → ((i : ℕ) → i < n → word ≡ written i → ⊥) → number_in written word n ≡ None
unfolding number_in
number_lacking written word zero other = refl
number_lacking written word (suc n) other =
    go (bytes_eq word (written n)) refl (number_lacking written word n (λ i less e. other i (omega (arith, less)) e))
  where
    go : (t : Bool) → bytes_eq word (written n) ≡ t → number_in written word n ≡ None → (if t then Some n else number_in written word n) ≡ None
    go true same earlier = absurd (other n (omega arith) ((bytes_eq-Decides word (written n)).0 same))
    go false differs earlier = earlier

-- a number of 32 bits, or of a sequence, by its digits
digits_found : (word : List ℕ) (n k : ℕ) → n ≤ 2 ^ 64 → k < n → word ≡ decimal k → number_in decimal word n ≡ Some k
digits_found word n k few small e =
    number_found decimal word n k (λ i j a b. decimal_injective i j (omega (arith, a, few)) (omega (arith, b, few))) small e

-- the digits of a sequence before the mark
abbrev marked : ℕ → List ℕ
marked n = decimal n ++ codes ":"

-- it is found by them
marked_found : (word : List ℕ) (n k : ℕ) → n ≤ 2 ^ 64 → k < n → word ≡ marked k → number_in marked word n ≡ Some k
marked_found word n k few small e =
    number_found marked word n k
    (λ i j a b f. decimal_injective i j (omega (arith, a, few)) (omega (arith, b, few)) (append_cancel_right (decimal i) (decimal j) (codes ":") f)) small e

-- ## Moments in words

-- how a moment below 0 is written, by how far it is below -1
abbrev below_zero : ℕ → List ℕ
below_zero n = signed_decimal (negsuc n)

-- the moment of a number that is written so, or else of one behind a minus
abbrev moment_of : Option ℕ → Option ℕ → ℤ
moment_of (Some n) less = pos n
moment_of None (Some n) = negsuc n
moment_of None None = pos 0

-- the moment that a word says
moment_in : List ℕ → ℤ
moment_in word = moment_of (number_in decimal word (2 ^ 63)) (number_in below_zero word (2 ^ 63))

-- it is found in its word
moment_found : (z : ℤ) → FitsSigned w64 z → moment_in (signed_decimal z) ≡ z
unfolding moment_in
moment_found (pos n) fits =
    let small = fits.sfits in
    let found = digits_found (decimal n) (2 ^ 63) n (omega arith) (omega (arith, small)) refl in
    ap (λ (o : Option ℕ). moment_of o (number_in below_zero (decimal n) (2 ^ 63))) found
moment_found (negsuc n) fits =
    let small = fits.sfits in
    let no_digits : number_in decimal (below_zero n) (2 ^ 63) ≡ None = number_lacking decimal (below_zero n) (2 ^ 63)
    (λ i less e. let same : negsuc n ≡ pos i = moment_one (negsuc n) (pos i) fits (record { sfits = less }) e in absurd cc) in
    let number : number_in below_zero (below_zero n) (2 ^ 63) ≡ Some n = number_found below_zero (below_zero n) (2 ^ 63) n
    (λ i j a b e. omega (arith, decimal_injective (suc i) (suc j) (omega (arith, a)) (omega (arith, b)) (ap (drop 1) e))) (omega (arith, small)) refl in
    ap (λ (o : Option ℕ). moment_of o (number_in below_zero (below_zero n) (2 ^ 63))) no_digits ∙ ap (λ (o : Option ℕ). moment_of None o) number

-- ## What words say, if they say something

-- the words of the sort and the side
sort_in : List ℕ → TokenSort
sort_in word = if bytes_eq word (codes "platform") then Platform else SharedBuffer

-- the side that a word says
side_in : List ℕ → EndpointSide
side_in word = if bytes_eq word (codes "receiver") then Receiver else Remote

-- the number that was found
abbrev number_of : Option ℕ → ℕ
number_of o = unwrap_or o 0

-- what is none
abbrev nothing : Said
nothing = CloseToken []

-- the name and the id of an endpoint's word by its parts
endpoint_in : List (List ℕ) → Option (List ℕ × ℕ)
endpoint_in (name ∷ digits ∷ []) = option_map (λ (id : ℕ). (name, id)) (number_in decimal digits (2 ^ 32))
endpoint_in parts = None

-- what `close` says of a word
abbrev closes : List ℕ → Option (List ℕ × ℕ) → Said
closes word None = CloseToken word
closes word (Some at) = CloseEndpoint at.0 at.1

-- what a call says
abbrev calls : Option (List ℕ × ℕ) → List ℕ → List ℕ → List (List ℕ) → Option ℤ → Said
calls None method value tokens moment = nothing
calls (Some at) method value tokens moment = Call at.0 at.1 method value tokens moment

-- what `query` says
abbrev queries : Option (List ℕ × ℕ) → Said
queries None = nothing
queries (Some at) = Notify at.0 (Query at.1)

-- what `require` says
abbrev demands : Option (List ℕ × ℕ) → ℕ → Said
demands None version = nothing
demands (Some at) version = Notify at.0 (Require at.1 version)

-- what the words behind each command say
abbrev pipe_in : List (List ℕ) → Said
pipe_in (x ∷ y ∷ []) = Pipe x y
pipe_in words = nothing

-- behind `mint`
abbrev mint_in : List (List ℕ) → Said
mint_in (sort ∷ x ∷ []) = Mint (sort_in sort) x
mint_in words = nothing

-- behind `bind`
abbrev bind_in : List (List ℕ) → Said
bind_in (x ∷ side ∷ interface ∷ []) = Bind x (side_in side) interface
bind_in words = nothing

-- behind `associate`
abbrev associate_in : List (List ℕ) → Said
associate_in (x ∷ side ∷ interface ∷ p ∷ []) = Associate x (side_in side) interface p
associate_in words = nothing

-- behind `attach`
abbrev attach_in : ℕ → List (List ℕ) → Said
attach_in seqs (p ∷ digits ∷ []) = Attach p (number_of (number_in decimal digits seqs))
attach_in seqs words = nothing

-- behind `call`, or the moment of a call
abbrev call_in : Option ℤ → List (List ℕ) → Said
call_in moment (at ∷ method ∷ value ∷ tokens) = calls (endpoint_in (pieces 35 at)) method value tokens moment
call_in moment words = nothing

-- behind `call-at`
abbrev timed_call_in : List (List ℕ) → Said
timed_call_in (word ∷ words) = call_in (Some (moment_in word)) words
timed_call_in words = nothing

-- behind `take`
abbrev take_in : List (List ℕ) → Said
take_in (x ∷ names) = Take x names
take_in words = nothing

-- behind `answer`, or the moment of an answer
abbrev answer_in : Option ℤ → List (List ℕ) → Said
answer_in moment (x ∷ method ∷ value ∷ tokens) = Answer x method value tokens moment
answer_in moment words = nothing

-- behind `answer-at`
abbrev timed_answer_in : List (List ℕ) → Said
timed_answer_in (word ∷ words) = answer_in (Some (moment_in word)) words
timed_answer_in words = nothing

-- behind `raw`
abbrev raw_in : List (List ℕ) → Said
raw_in (x ∷ bytes ∷ tokens) = Raw x bytes tokens
raw_in words = nothing

-- behind `close`
abbrev close_in : List (List ℕ) → Said
close_in (word ∷ []) = closes word (endpoint_in (pieces 35 word))
close_in words = nothing

-- behind `query`
abbrev query_in : List (List ℕ) → Said
query_in (word ∷ []) = queries (endpoint_in (pieces 35 word))
query_in words = nothing

-- behind `require`
abbrev require_in : List (List ℕ) → Said
require_in (word ∷ digits ∷ []) = demands (endpoint_in (pieces 35 word)) (number_of (number_in decimal digits (2 ^ 32)))
require_in words = nothing

-- behind `flush`
abbrev flush_in : List (List ℕ) → Said
flush_in (x ∷ []) = Notify x Flush
flush_in words = nothing

-- behind `pause`
abbrev pause_in : List (List ℕ) → Said
pause_in (x ∷ y ∷ digits ∷ []) = Pause x y (number_of (number_in decimal digits (2 ^ 32)))
pause_in words = nothing

-- behind `data`
abbrev data_in : List (List ℕ) → Said
data_in (digits ∷ x ∷ y ∷ []) = Data (number_of (number_in decimal digits (2 ^ 32))) x y
data_in words = nothing

-- behind `put` and `put-all`
abbrev put_in : Bool → List (List ℕ) → Said
put_in all (x ∷ bytes ∷ []) = Flow x (Put bytes all)
put_in all words = nothing

-- behind `get` and `get-all`
abbrev get_in : Bool → List (List ℕ) → Said
get_in all (x ∷ digits ∷ []) = Flow x (Get (number_of (number_in decimal digits (2 ^ 32))) all)
get_in all words = nothing

-- behind `begin-put` and `begin-get`
abbrev begin_in : Moved → List (List ℕ) → Said
begin_in moved (x ∷ []) = Flow x moved
begin_in moved words = nothing

-- behind `end-put`
abbrev end_put_in : List (List ℕ) → Said
end_put_in (x ∷ bytes ∷ []) = Flow x (EndPut bytes)
end_put_in words = nothing

-- behind `end-get`
abbrev end_get_in : List (List ℕ) → Said
end_get_in (x ∷ digits ∷ []) = Flow x (EndGet (number_of (number_in decimal digits (2 ^ 32))))
end_get_in words = nothing

-- of a data pipe, or by `close`
abbrev said_last : List ℕ → List (List ℕ) → Said
said_last command words =
    if bytes_eq command (codes "data") then data_in words else
    (if bytes_eq command (codes "put") then put_in false words else
    (if bytes_eq command (codes "put-all") then put_in true words else
    (if bytes_eq command (codes "get") then get_in false words else
    (if bytes_eq command (codes "get-all") then get_in true words else
    (if bytes_eq command (codes "begin-put") then begin_in BeginPut words else
    (if bytes_eq command (codes "end-put") then end_put_in words else
    (if bytes_eq command (codes "begin-get") then begin_in BeginGet words else
    (if bytes_eq command (codes "end-get") then end_get_in words else close_in words))))))))

-- by a command with a moment, or of a control or a wait, or of a data pipe, or by `close`
abbrev said_later : List ℕ → List (List ℕ) → Said
said_later command words =
    if bytes_eq command (codes "call-at") then timed_call_in words else
    (if bytes_eq command (codes "answer-at") then timed_answer_in words else
    (if bytes_eq command (codes "query") then query_in words else
    (if bytes_eq command (codes "require") then require_in words else
    (if bytes_eq command (codes "flush") then flush_in words else
    (if bytes_eq command (codes "pause") then pause_in words else said_last command words)))))

-- by the command
abbrev said_behind : ℕ → List ℕ → List (List ℕ) → Said
said_behind seqs command words =
    if bytes_eq command (codes "pipe") then pipe_in words else
    (if bytes_eq command (codes "mint") then mint_in words else
    (if bytes_eq command (codes "bind") then bind_in words else
    (if bytes_eq command (codes "associate") then associate_in words else
    (if bytes_eq command (codes "attach") then attach_in seqs words else
    (if bytes_eq command (codes "call") then call_in None words else
    (if bytes_eq command (codes "take") then take_in words else
    (if bytes_eq command (codes "answer") then answer_in None words else
    (if bytes_eq command (codes "raw") then raw_in words else said_later command words))))))))

-- and by all words behind the sequence
abbrev said_in : ℕ → List (List ℕ) → Said
said_in seqs [] = nothing
said_in seqs (command ∷ words) = said_behind seqs command words

-- an endpoint is found in its word
endpoint_found : (name : List ℕ) (id : ℕ) → is_name name ≡ true → id < 2 ^ 32 → endpoint_in (pieces 35 (endpoint_word name id)) ≡ Some (name, id)
unfolding endpoint_in
endpoint_found name id named small =
    ap endpoint_in (parts_of (endpoint_word name id) name id (refl, named, small))
    ∙ ap (λ (o : Option ℕ). option_map (λ (n : ℕ). (name, n)) o) (digits_found (decimal id) (2 ^ 32) id (omega arith) small refl)

-- and none in a name
no_endpoint : (name : List ℕ) → is_name name ≡ true → endpoint_in (pieces 35 name) ≡ None
unfolding endpoint_in
no_endpoint name named = ap endpoint_in (name_parts name named)

module _ (seqs : ℕ) (few : seqs ≤ MAX_SEQUENCES) where
  -- words that say something say this
  said_one : (said : Said) → IsSaid said → AreThere seqs (said_sequences said) → said_in seqs (said_words said) ≡ said
  unfolding sort_in side_in
  said_one (Pipe x y) is there = refl
  said_one (Mint Platform x) is there = refl
  said_one (Mint SharedBuffer x) is there = refl
  said_one (Bind x Remote i) is there = refl
  said_one (Bind x Receiver i) is there = refl
  said_one (Associate x Remote i p) is there = refl
  said_one (Associate x Receiver i p) is there = refl
  said_one (Attach p n) is there =
      ap (λ (o : Option ℕ). Attach p (unwrap_or o 0)) (digits_found (decimal n) seqs n (omega (arith, few)) there.0 refl)
  said_one (Call x id method value tokens None) is there =
      ap (λ (o : Option (List ℕ × ℕ)). calls o method value tokens None) (endpoint_found x id is.0 is.1)
  said_one (Call x id method value tokens (Some at)) is there =
      ap (λ (o : Option (List ℕ × ℕ)). calls o method value tokens (Some (moment_in (signed_decimal at)))) (endpoint_found x id is.0 is.1)
      ∙ ap (λ (z : ℤ). Call x id method value tokens (Some z)) (moment_found at is.5)
  said_one (Take x names) is there = refl
  said_one (Answer x method value tokens None) is there = refl
  said_one (Answer x method value tokens (Some at)) is there = ap (λ (z : ℤ). Answer x method value tokens (Some z)) (moment_found at is.4)
  said_one (Raw x bytes tokens) is there = refl
  said_one (CloseToken x) is there = ap (closes x) (no_endpoint x is)
  said_one (CloseEndpoint x id) is there = ap (closes (endpoint_word x id)) (endpoint_found x id is.0 is.1)
  said_one (Notify x (Query id)) is there = ap (λ (o : Option (List ℕ × ℕ)). queries o) (endpoint_found x id is.0 is.1)
  said_one (Notify x (Require id version)) is there =
      ap (λ (o : Option (List ℕ × ℕ)). demands o (number_of (number_in decimal (decimal version) (2 ^ 32)))) (endpoint_found x id is.0 is.1.0)
      ∙ ap (λ (o : Option ℕ). Notify x (Require id (unwrap_or o 0))) (digits_found (decimal version) (2 ^ 32) version (omega arith) is.1.1 refl)
  said_one (Notify x Flush) is there = refl
  said_one (Pause x y flush) is there =
      ap (λ (o : Option ℕ). Pause x y (unwrap_or o 0)) (digits_found (decimal flush) (2 ^ 32) flush (omega arith) is.2 refl)
  said_one (Data n x y) is there = ap (λ (o : Option ℕ). Data (unwrap_or o 0) x y) (digits_found (decimal n) (2 ^ 32) n (omega arith) is.2 refl)
  said_one (Flow x (Put bytes false)) is there = refl
  said_one (Flow x (Put bytes true)) is there = refl
  said_one (Flow x (Get n false)) is there =
      ap (λ (o : Option ℕ). Flow x (Get (unwrap_or o 0) false)) (digits_found (decimal n) (2 ^ 32) n (omega arith) is.1 refl)
  said_one (Flow x (Get n true)) is there =
      ap (λ (o : Option ℕ). Flow x (Get (unwrap_or o 0) true)) (digits_found (decimal n) (2 ^ 32) n (omega arith) is.1 refl)
  said_one (Flow x BeginPut) is there = refl
  said_one (Flow x (EndPut bytes)) is there = refl
  said_one (Flow x BeginGet) is there = refl
  said_one (Flow x (EndGet n)) is there =
      ap (λ (o : Option ℕ). Flow x (EndGet (unwrap_or o 0))) (digits_found (decimal n) (2 ^ 32) n (omega arith) is.1 refl)

  -- a moment has 64 bits, or not
  fits : (z : ℤ) → Decided (FitsSigned w64 z)
  fits (pos n) = go (below n (2 ^ 63))
    where
      go : Decided (n < 2 ^ 63) → Decided (FitsSigned w64 (pos n))
      go (inl small) = inl (record { sfits = small })
      go (inr other) = inr (λ f. other f.sfits)
  fits (negsuc n) = go (below n (2 ^ 63))
    where
      go : Decided (n < 2 ^ 63) → Decided (FitsSigned w64 (negsuc n))
      go (inl small) = inl (record { sfits = small })
      go (inr other) = inr (λ f. other f.sfits)

  -- where there is one
  timed : (moment : Option ℤ) → Decided (IsMoment moment)
  timed None = inl tt
  timed (Some z) = fits z

  -- what is moved is
  moved_right : (f : Moved) → Decided (IsMoved f)
  moved_right (Put bytes all) = hex_word bytes
  moved_right (Get n all) = below n (2 ^ 32)
  moved_right BeginPut = inl tt
  moved_right (EndPut bytes) = hex_word bytes
  moved_right BeginGet = inl tt
  moved_right (EndGet n) = below n (2 ^ 32)

  -- what is said is said right, or not
  said_right : (said : Said) → Decided (IsSaid said)
  said_right (Pipe x y) = both (by_test (is_name x)) (by_test (is_name y))
  said_right (Mint sort x) = by_test (is_name x)
  said_right (Bind x side i) = both (by_test (is_name x)) (by_test (is_interface_word i))
  said_right (Associate x side i p) = three (by_test (is_name x)) (by_test (is_interface_word i)) (by_test (is_name p))
  said_right (Attach p n) = by_test (is_name p)
  said_right (Call x id method value tokens moment) =
      six (by_test (is_name x)) (below id (2 ^ 32)) (by_test (is_method_word method)) (below 0 (length value)) (by_test (are_names tokens)) (timed moment)
  said_right (Take x names) = both (by_test (is_name x)) (by_test (are_names names))
  said_right (Answer x method value tokens moment) =
      five (by_test (is_name x)) (by_test (is_method_word method)) (below 0 (length value)) (by_test (are_names tokens)) (timed moment)
  said_right (Raw x bytes tokens) = three (by_test (is_name x)) (hex_word bytes) (by_test (are_names tokens))
  said_right (CloseToken x) = by_test (is_name x)
  said_right (CloseEndpoint x id) = both (by_test (is_name x)) (below id (2 ^ 32))
  said_right (Notify x (Query id)) = both (by_test (is_name x)) (below id (2 ^ 32))
  said_right (Notify x (Require id version)) = both (by_test (is_name x)) (both (below id (2 ^ 32)) (below version (2 ^ 32)))
  said_right (Notify x Flush) = let no_number : Decided (IsNotice Flush) = inl tt in both (by_test (is_name x)) no_number
  said_right (Pause x y flush) = three (by_test (is_name x)) (by_test (is_name y)) (below flush (2 ^ 32))
  said_right (Data n x y) = three (by_test (is_name x)) (by_test (is_name y)) (below n (2 ^ 32))
  said_right (Flow x f) = both (by_test (is_name x)) (moved_right f)

-- ## Lines

-- a line of a sequence begins with a mark behind its number
abbrev has_mark : List ℕ → Bool
has_mark [] = false
has_mark (c ∷ []) = c == 58
has_mark (c ∷ d ∷ cs) = has_mark (d ∷ cs)

-- as what is written so does
marked_has : (cs : List ℕ) → has_mark (cs ++ 58 ∷ []) ≡ true
marked_has [] = refl
marked_has (c ∷ []) = refl
marked_has (c ∷ d ∷ cs) = marked_has (d ∷ cs)

-- the join that words say
abbrev join_in : ℕ → List (List ℕ) → Form
join_in seqs (seq ∷ other ∷ x ∷ y ∷ []) = Join (number_of (number_in decimal seq seqs)) (number_of (number_in decimal other seqs)) x y
join_in seqs words = Of 0 nothing

-- the automatic reply that they say
abbrev auto_in : ℕ → List (List ℕ) → Form
auto_in seqs (seq ∷ method ∷ value ∷ []) = Auto (number_of (number_in decimal seq seqs)) method value
auto_in seqs words = Of 0 nothing

-- the form that they have, if they have one
abbrev form_in : ℕ → List (List ℕ) → Form
form_in seqs [] = Of 0 nothing
form_in seqs (first ∷ words) =
    if has_mark first then Of (number_of (number_in marked first seqs)) (said_in seqs words) else
    (if bytes_eq first (codes "join") then join_in seqs words else auto_in seqs words)

module _ (seqs : ℕ) (few : seqs ≤ MAX_SEQUENCES) where
  -- the number of a sequence that is there
  found : (seq : ℕ) → seq < seqs → number_of (number_in decimal (decimal seq) seqs) ≡ seq
  found seq small = ap number_of (digits_found (decimal seq) seqs seq (omega (arith, few)) small refl)

  -- words that have a form have this one
  form_one : (form : Form) → IsForm form → AreThere seqs (sequences form) → form_in seqs (form_words form) ≡ form
  form_one (Join seq other x y) is there =
      ap (λ (n : ℕ). Join n (number_of (number_in decimal (decimal other) seqs)) x y) (found seq there.0)
      ∙ ap (λ (n : ℕ). Join seq n x y) (found other there.1.0)
  form_one (Auto seq method value) is there = ap (λ (n : ℕ). Auto n method value) (found seq there.0)
  form_one (Of seq said) is there =
      let mark : has_mark (decimal seq ++ codes ":") ≡ true = marked_has (decimal seq) in
      let number = ap number_of (marked_found (decimal seq ++ codes ":") seqs seq (omega (arith, few)) there.0 refl) in
      ap (λ (t : Bool). if t then Of (number_of (number_in marked (decimal seq ++ codes ":") seqs)) (said_in seqs (said_words said)) else
      (if bytes_eq (decimal seq ++ codes ":") (codes "join") then join_in seqs (said_words said) else auto_in seqs (said_words said))) mark
      ∙ ap (λ (n : ℕ). Of n (said_in seqs (said_words said))) number
      ∙ ap (Of seq) (said_one seqs few said is there.1)

  -- what a form says is said right, or not
  form_right : (form : Form) → Decided (IsForm form)
  form_right (Join seq other x y) = both (by_test (is_name x)) (by_test (is_name y))
  form_right (Auto seq method value) = both (by_test (is_method_word method)) (below 0 (length value))
  form_right (Of seq said) = said_right seqs few said

  -- sequences are there, or one is not
  are_there : (named : List ℕ) → Decided (AreThere seqs named)
  are_there [] = inl tt
  are_there (seq ∷ named) = both (below seq seqs) (are_there named)

  -- words have a form that may stand behind these, or none
  pub has_form : (past : List Form) (words : List (List ℕ)) → Decided ((form : Form) × IsFormOf seqs past words form)
  has_form past words =
      by_one (IsFormOf seqs past words) (form_in seqs words) (all (four (form_right form) (are_there (sequences form)) (by_test (is_placed past form))
      (same_words words (form_words form))))
      (λ other is. ap (form_in seqs) is.spelled ∙ form_one other is.sound is.there)
    where
      form : Form
      form = form_in seqs words

      all : Decided (IsForm form × AreThere seqs (sequences form) × (is_placed past form ≡ true) × (words ≡ form_words form))
          → Decided (IsFormOf seqs past words form)
      all (inl x) = inl (record { sound = x.0; there = x.1; placed = x.2; spelled = x.3 })
      all (inr other) = inr (λ x. other (x.sound, x.there, x.placed, x.spelled))
