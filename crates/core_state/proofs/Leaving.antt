-- Lists of what isn't closed, one more at a time.
use Rattle.std.proofs.Common.{◌≡◌, ◌<◌, ◌≤◌, ℕ, zero, suc, ◌+◌, Bool, true, false, List, [], ◌∷◌, ◌++◌, length, refl, sym, ap, ◌∙◌, arith, append_assoc}
use Rattle.std.specs.Prelude.{map, not, if◌then◌else◌, slice_get, Some, None}
use Rattle.std.specs.List.{flat_map, filter}
use Rattle.std.proofs.Math.Path.{fun_ext}
use Rattle.std.proofs.lemmas.List.{append-nil, length-reverse}
use Rattle.std.proofs.lemmas.Option.{slice_get_within}
use Rattle.handle_table.specs.Numbered.{listed}
use Rattle.handle_table.specs.Places.{Store, place_of}
use Rattle.handle_table.specs.Things.{without}
use Rattle.handle_table.specs.declared.places.Place.{Place}
use Rattle.handle_table.specs.declared.thing.Thing.{Thing}
use Rattle.bind_model.specs.Laws.{up_from}
use Rattle.bind_model.specs.Machine.{made, gone}
use Rattle.bind_model.specs.Replies.{serials, tokens}
use Rattle.bind_model.specs.Left.{ends_by, tokens_by, left}
use Rattle.core_state.specs.Agreement.{Holds, past_of, wire_in, is_shut}
use Rattle.core_state.specs.Numbering.{numbered, count_by, all_by, all_made, open_in}
use Rattle.core_state.specs.declared.left.Sort.{Sort}
use Rattle.core_state.specs.declared.left.Sort.TheVariants.{Ends, Tokens}
use Rattle.core_state.specs.declared.state.State.{State}
use Rattle.core_state.proofs.Facts.{made_few, serials_few, tokens_few}

-- one number more
pub up_from-more : (first n : ℕ) → up_from first (n + 1) ≡ up_from first n ++ (first + n) ∷ []
up_from-more first zero = let e : first + 0 ≡ first = omega arith in rw e refl
up_from-more first (suc n) =
    let e : suc n + 1 ≡ suc (n + 1) = omega arith in
    let f : suc first + n ≡ first + suc n = omega arith in
    rw e (ap (λ ns. first ∷ ns) (up_from-more (suc first) n ∙ ap (λ m. up_from (suc first) n ++ m ∷ []) f))

map-more : (f : ℕ → Thing) (ns : List ℕ) (n : ℕ) → map f (ns ++ n ∷ []) ≡ map f ns ++ f n ∷ []
map-more f [] n = refl
map-more f (m ∷ ns) n = ap (λ xs. f m ∷ xs) (map-more f ns n)

flat-more : (f : ℕ → List Thing) (ns : List ℕ) (n : ℕ) → flat_map f (ns ++ n ∷ []) ≡ flat_map f ns ++ f n
flat-more f [] n = append-nil (f n)
flat-more f (m ∷ ns) n = ap (λ xs. f m ++ xs) (flat-more f ns n) ∙ sym (append_assoc (f m) (flat_map f ns) (f n))

joined : (b : Bool) (x : Thing) (xs ys zs : List Thing) → zs ≡ xs ++ ys → (if b then x ∷ zs else zs) ≡ (if b then x ∷ xs else xs) ++ ys
joined true x xs ys zs e = ap (λ ws. x ∷ ws) e
joined false x xs ys zs e = e

filter-append : (p : Thing → Bool) (xs ys : List Thing) → filter p (xs ++ ys) ≡ filter p xs ++ filter p ys
filter-append p [] ys = refl
filter-append p (x ∷ xs) ys = joined (p x) x (filter p xs) (filter p ys) (filter p (xs ++ ys)) (filter-append p xs ys)

-- ## One sequence

-- a number that was given
pub is_numbered : (sort : Sort) (table : Store) (seq serial : ℕ) (place : Place) → place_of table (numbered sort seq serial) ≡ Some place
    → serial < count_by sort table seq
is_numbered Ends table seq serial place e = slice_get_within (listed table.ends seq) serial place e
is_numbered Tokens table seq serial place e = slice_get_within (listed table.tokens seq) serial place e

past_end : {A : Type 0} (xs : List A) (n : ℕ) → slice_get xs n ≡ None → length xs ≤ n
past_end [] n e = omega arith
past_end (x ∷ xs) zero e = absurd cc
past_end (x ∷ xs) (suc n) e = omega (arith, past_end xs n e)

-- a number that was not given
pub is_past : (sort : Sort) (table : Store) (seq serial : ℕ) → place_of table (numbered sort seq serial) ≡ None → count_by sort table seq ≤ serial
is_past Ends table seq serial e = past_end (listed table.ends seq) serial e
is_past Tokens table seq serial e = past_end (listed table.tokens seq) serial e

-- the things of a sequence below a number that aren't closed
abbrev pub open_below : Sort → Store → ℕ → ℕ → List Thing
open_below sort table seq n = open_in table (map (numbered sort seq) (up_from 0 n))

module _ (sort : Sort) (table : Store) (seq n : ℕ) where
  one_more : open_below sort table seq (n + 1) ≡ open_below sort table seq n ++ open_in table (numbered sort seq n ∷ [])
  one_more =
      let zero_add : 0 + n ≡ n = omega arith in
      let m : map (numbered sort seq) (up_from 0 (n + 1)) ≡ map (numbered sort seq) (up_from 0 n) ++ numbered sort seq n ∷ [] =
      ap (map (numbered sort seq)) (up_from-more 0 n ∙ ap (λ k. up_from 0 n ++ k ∷ []) zero_add)
      ∙ map-more (numbered sort seq) (up_from 0 n) n in
      ap (open_in table) m
      ∙ filter-append (λ (z : Thing). not (is_shut (place_of table z))) (map (numbered sort seq) (up_from 0 n)) (numbered sort seq n ∷ [])

  pub open_more : (before left : List Thing) (place : Place) → place_of table (numbered sort seq n) ≡ Some place → is_shut (Some place) ≡ false
      → left ≡ before ++ open_below sort table seq n → left ++ numbered sort seq n ∷ [] ≡ before ++ open_below sort table seq (n + 1)
  open_more before left place e s h =
      rw (h, one_more, e, s) (append_assoc before (open_below sort table seq n) (numbered sort seq n ∷ []))

  pub shut_more : (before left : List Thing) (place : Place) → place_of table (numbered sort seq n) ≡ Some place → is_shut (Some place) ≡ true
      → left ≡ before ++ open_below sort table seq n → left ≡ before ++ open_below sort table seq (n + 1)
  shut_more before left place e s h = h ∙ ap (λ xs. before ++ xs) (sym (append-nil (open_below sort table seq n)) ∙ sym (one_more ∙ rw (e, s) refl))

-- ## All sequences

pub sequence_more : (sort : Sort) (table : Store) (n : ℕ) (before left after : List Thing) → left ≡ before ++ open_in table (all_made sort table n)
    → after ≡ left ++ open_in table (all_by sort table n) → after ≡ before ++ open_in table (all_made sort table (n + 1))
sequence_more sort table n before left after h e =
    let zero_add : 0 + n ≡ n = omega arith in
    let m : all_made sort table (n + 1) ≡ all_made sort table n ++ all_by sort table n =
    ap (flat_map (all_by sort table)) (up_from-more 0 n ∙ ap (λ k. up_from 0 n ++ k ∷ []) zero_add)
    ∙ flat-more (all_by sort table) (up_from 0 n) n in
    let f = filter-append (λ (z : Thing). not (is_shut (place_of table z))) (all_made sort table n) (all_by sort table n) in
    rw (e, h, m, f) (append_assoc before (open_in table (all_made sort table n)) (open_in table (all_by sort table n)))

-- ## The state

module _ (s : State) (holds : Holds s) where
  few : (n : ℕ) → n ≤ length (made (past_of s)) → n < 4294967296
  few n h =
      let events = holds.few in
      omega (arith, h, made_few (wire_in s) s.seqs (past_of s) holds.legal, length-reverse s.log.events, events)

  pub few_by : (sort : Sort) (seq : ℕ) → count_by sort s.pipes.table seq < 4294967296
  few_by Ends seq = rw (holds.agrees.serials seq) (few (serials (past_of s) seq) (serials_few (past_of s) seq))
  few_by Tokens seq = rw (holds.agrees.tokens seq) (few (tokens (past_of s) seq) (tokens_few (past_of s) seq))

  ends_are : all_by Ends s.pipes.table ≡ ends_by (past_of s)
  ends_are = fun_ext (λ seq. ap (λ n. map (numbered Ends seq) (up_from 0 n)) (holds.agrees.serials seq))

  tokens_are : all_by Tokens s.pipes.table ≡ tokens_by (past_of s)
  tokens_are = fun_ext (λ seq. ap (λ n. map (numbered Tokens seq) (up_from 0 n)) (holds.agrees.tokens seq))

  open_are : (things : List Thing) → open_in s.pipes.table things ≡ without (gone (past_of s)) things
  open_are things = ap (λ (p : Thing → Bool). filter p things) (fun_ext (λ z. ap not (holds.agrees.shuts z)))

  -- what isn't closed is what isn't gone
  pub left_is : open_in s.pipes.table (all_made Ends s.pipes.table s.seqs) ++ open_in s.pipes.table (all_made Tokens s.pipes.table s.seqs)
      ≡ left s.seqs (past_of s)
  left_is =
      sym (filter-append (λ (z : Thing). not (is_shut (place_of s.pipes.table z))) (all_made Ends s.pipes.table s.seqs) (all_made Tokens s.pipes.table s.seqs))
      ∙ (open_are (all_made Ends s.pipes.table s.seqs ++ all_made Tokens s.pipes.table s.seqs)
      ∙ ap (without (gone (past_of s)))
      (ap (λ f. flat_map f (up_from 0 s.seqs) ++ all_made Tokens s.pipes.table s.seqs) ends_are
      ∙ ap (λ f. flat_map (ends_by (past_of s)) (up_from 0 s.seqs) ++ flat_map f (up_from 0 s.seqs)) tokens_are))
