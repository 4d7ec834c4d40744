-- Whatever is called, what was read from a data pipe is the beginning of what was written, and the rest is held.
use Rattle.std.proofs.Common.{append_assoc, ◌≡◌, ◌≤◌, ℕ, ◌+◌, Bool, true, false, List, [], ◌∷◌, ◌++◌, length, drop, take, refl, sym, ap, ◌∙◌, arith, Option, Some, None}
use Rattle.std.specs.Prelude.{◌||◌, ◌==◌, nat_le, nat_lt, not, if◌then◌else◌, Result, Ok, Err}
use Rattle.std.proofs.lemmas.List.{append-nil, length-append, length-drop, length-take, take-append-drop, take-append-le}
use Rattle.std.proofs.lemmas.Bool.Decides.{nat_tests}
use Rattle.bind_model.specs.declared.flow.Flow.{Flow}
use Rattle.bind_model.specs.declared.flow.Flow.TheVariants as flows
use Rattle.bind_model.specs.declared.flow.Flowed.{Flowed}
use Rattle.bind_model.specs.declared.flow.Flowed.TheVariants as flowed
use Rattle.bind_model.specs.Data.{Begun, Nothing, Space, View, viewed}
use Rattle.bind_model.specs.Moves.{space_in, view_in, least_of}
use Rattle.bind_model.specs.Tests.{is_none}
use Rattle.data_pipe.specs.declared.refused.DataWhy.{DataWhy}
use Rattle.data_pipe.specs.declared.refused.DataWhy.TheVariants.{Disconnected, Full, Short, TooLong}
use Rattle.data_pipe.specs.Pipe.{Pipe, room}
use Rattle.data_pipe.specs.Moving.{unless, first_of, nothing_held, begun_already, nothing_begun, told, after}
use Rattle.data_pipe.specs.Calls.{Call, played, puts, gets, written, read}

-- ## What was told, where nothing refused

-- all tests hold
abbrev pub Passes : List (Option DataWhy) → Type 0
Passes [] = Unit {0}
Passes (test ∷ tests) = (test ≡ None) × Passes tests

same_done : {T : Type 0} (a b : T) → ◌≡◌ {A = Result T DataWhy} (Ok a) (Ok b) → b ≡ a
same_done a b e = cc

pub passed : {T : Type 0} (tests : List (Option DataWhy)) (done w : T) → first_of tests done ≡ Ok w → (w ≡ done) × Passes tests
passed [] done w e = (same_done done w e, tt)
passed (None ∷ tests) done w e = let p = passed tests done w e in (p.0, (refl, p.1))
passed (Some why ∷ tests) done w e = absurd cc

-- where nothing is begun, no room is told and nothing shown
pub no_space : (b : Begun) → begun_already b ≡ None → space_in b ≡ 0
no_space Nothing e = refl
no_space (Space n) e = absurd cc
no_space (View bytes) e = absurd cc

pub no_view : (b : Begun) → begun_already b ≡ None → viewed b ≡ []
no_view Nothing e = refl
no_view (Space n) e = absurd cc
no_view (View bytes) e = absurd cc

pub view_fits : (b : Begun) → view_in b ≤ length (viewed b)
view_fits Nothing = omega arith
view_fits (Space n) = omega arith
view_fits (View bytes) = omega arith

pub least_second : (a b : ℕ) → least_of a b ≤ b
least_second a b = go (nat_le a b) refl
  where
    go : (c : Bool) → nat_le a b ≡ c → (if c then a else b) ≤ b
    go true e = grind (arith, nat_tests)
    go false e = omega arith

pub holds : (b : Bool) (why : DataWhy) → unless b why ≡ None → b ≡ true
holds true why e = refl
holds false why e = absurd cc

pub not_more : (a b : ℕ) (why : DataWhy) → unless (nat_le a b) why ≡ None → a ≤ b
not_more a b why e = let h : nat_le a b ≡ true = holds (nat_le a b) why e in grind (arith, nat_tests, h)

-- ## A call

-- there is the room that was told, and what was shown is the beginning of what is held
record Stands (pipe : Pipe) : Type 0 where
  space : length pipe.held + space_in pipe.producer ≤ pipe.capacity
  shown : (more : List ℕ) × (pipe.held ≡ viewed pipe.consumer ++ more)

-- it stands after this was told, is of the same capacity, and what was held with what was written is what was read with what is held
record Stepped (pipe : Pipe) (f : Flow) (w : Flowed) : Type 0 where
  stands : Stands (after f w pipe)
  same : (after f w pipe).capacity ≡ pipe.capacity
  bytes : pipe.held ++ puts f (Ok w) ≡ gets pipe f (Ok w) ++ (after f w pipe).held

module _ (pipe : Pipe) (s : Stands pipe) where
  with_bytes : (bytes : List ℕ) → (more : List ℕ) × (pipe.held ++ bytes ≡ viewed pipe.consumer ++ more)
  with_bytes bytes = (s.shown.0 ++ bytes, ap (λ xs. xs ++ bytes) s.shown.1 ∙ append_assoc (viewed pipe.consumer) s.shown.0 bytes)

  of_put : (bytes : List ℕ) (all : Bool) (n : ℕ) → begun_already pipe.producer ≡ None → n ≤ room pipe → Stepped pipe (flows.Put bytes all) (flowed.Put n)
  of_put bytes all n idle few = record {
    stands = record {
      space = omega (arith, s.space, no_space pipe.producer idle, few, length-append pipe.held (take n bytes), length-take n bytes);
      shown = with_bytes (take n bytes);
    };
    same = refl;
    bytes = refl;
  }

  of_end_put : (bytes : List ℕ) → length bytes ≤ space_in pipe.producer → Stepped pipe (flows.EndPut bytes) (flowed.Put (length bytes))
  of_end_put bytes few = record {
    stands = record {
      space = omega (arith, s.space, few, length-append pipe.held (take (length bytes) bytes), length-take (length bytes) bytes);
      shown = with_bytes (take (length bytes) bytes);
    };
    same = refl;
    bytes = refl;
  }

  of_begin_put : Stepped pipe flows.BeginPut (flowed.Space (room pipe))
  of_begin_put = record {
    stands = record { space = omega (arith, s.space); shown = s.shown };
    same = refl;
    bytes = append-nil pipe.held;
  }

  of_get : (n : ℕ) (all : Bool) → begun_already pipe.consumer ≡ None → Stepped pipe (flows.Get n all) (flowed.Bytes (take n pipe.held))
  of_get n all idle = record {
    stands = record {
      space = omega (arith, s.space, length-drop n pipe.held);
      shown = (drop n pipe.held, rw (no_view pipe.consumer idle) refl);
    };
    same = refl;
    bytes = append-nil pipe.held ∙ sym (take-append-drop n pipe.held);
  }

  of_begin_get : Stepped pipe flows.BeginGet (flowed.View pipe.held)
  of_begin_get = record {
    stands = record { space = s.space; shown = ([], sym (append-nil pipe.held)) };
    same = refl;
    bytes = append-nil pipe.held;
  }

  of_end_get : (n : ℕ) → n ≤ view_in pipe.consumer → Stepped pipe (flows.EndGet n) flowed.Ended
  of_end_get n few =
      let is : take n (viewed pipe.consumer) ≡ take n pipe.held = sym (ap (take n) s.shown.1
      ∙ take-append-le n (viewed pipe.consumer) s.shown.0 (omega (arith, few, view_fits pipe.consumer))) in
      record {
        stands = record { space = omega (arith, s.space, length-drop n pipe.held); shown = (drop n pipe.held, refl) };
        same = refl;
        bytes = append-nil pipe.held ∙ rw is (sym (take-append-drop n pipe.held));
      }

  stepped : (gone : Bool) (f : Flow) (w : Flowed) → told pipe gone f ≡ Ok w → Stepped pipe f w
  stepped gone (flows.Put bytes all) w e =
      let p = passed (begun_already pipe.producer ∷ unless (not gone) Disconnected ∷ unless (is_none bytes || nat_lt 0 (room pipe)) Full
      ∷ unless (not all || nat_le (length bytes) (room pipe)) (Short (room pipe)) ∷ []) (flowed.Put (least_of (length bytes) (room pipe))) w e in
      rw p.0 (of_put bytes all (least_of (length bytes) (room pipe)) p.1.0 (least_second (length bytes) (room pipe)))
  stepped gone (flows.Get n all) w e =
      let p = passed (begun_already pipe.consumer ∷ (if n == 0 then None else nothing_held pipe gone)
      ∷ unless (not all || nat_le n (length pipe.held)) (Short (length pipe.held)) ∷ []) (flowed.Bytes (take n pipe.held)) w e in
      rw p.0 (of_get n all p.1.0)
  stepped gone flows.BeginPut w e =
      let p = passed (begun_already pipe.producer ∷ unless (not gone) Disconnected ∷ unless (nat_lt 0 (room pipe)) Full ∷ []) (flowed.Space (room pipe)) w e in
      rw p.0 of_begin_put
  stepped gone (flows.EndPut bytes) w e =
      let p = passed (nothing_begun pipe.producer ∷ unless (not gone) Disconnected ∷ unless (nat_le (length bytes) (space_in pipe.producer)) TooLong ∷ [])
      (flowed.Put (length bytes)) w e in
      rw p.0 (of_end_put bytes (not_more (length bytes) (space_in pipe.producer) TooLong p.1.1.1.0))
  stepped gone flows.BeginGet w e =
      let p = passed (begun_already pipe.consumer ∷ nothing_held pipe gone ∷ []) (flowed.View pipe.held) w e in
      rw p.0 of_begin_get
  stepped gone (flows.EndGet n) w e =
      let p = passed (nothing_begun pipe.consumer ∷ unless (nat_le n (view_in pipe.consumer)) TooLong ∷ []) flowed.Ended w e in
      rw p.0 (of_end_get n (not_more n (view_in pipe.consumer) TooLong p.1.1.0))

-- ## All calls

-- it stands, is of its capacity, and what was written is what was read with what is held
record InOrder (capacity : ℕ) (calls : List Call) : Type 0 where
  stands : Stands (played capacity calls)
  same : (played capacity calls).capacity ≡ capacity
  bytes : written capacity calls ≡ read capacity calls ++ (played capacity calls).held

-- a call that is refused writes and reads nothing
no_puts : (f : Flow) (why : DataWhy) → puts f (Err why) ≡ []
no_puts (flows.Put bytes all) why = refl
no_puts (flows.Get n all) why = refl
no_puts flows.BeginPut why = refl
no_puts (flows.EndPut bytes) why = refl
no_puts flows.BeginGet why = refl
no_puts (flows.EndGet n) why = refl

no_gets : (pipe : Pipe) (f : Flow) (why : DataWhy) → gets pipe f (Err why) ≡ []
no_gets pipe (flows.Put bytes all) why = refl
no_gets pipe (flows.Get n all) why = refl
no_gets pipe flows.BeginPut why = refl
no_gets pipe (flows.EndPut bytes) why = refl
no_gets pipe flows.BeginGet why = refl
no_gets pipe (flows.EndGet n) why = refl

-- what is told is one thing or a refusal
module _ (capacity : ℕ) (call : Call) (calls : List Call) (so : InOrder capacity calls) where
  next : (said : Result Flowed DataWhy) → told (played capacity calls) call.gone call.asked ≡ said → InOrder capacity (call ∷ calls)
  next (Err why) e = record {
    stands = rw e so.stands;
    same = rw e so.same;
    bytes = rw (
      e,
      no_puts call.asked why,
      no_gets (played capacity calls) call.asked why,
      append-nil (written capacity calls),
      append-nil (read capacity calls),
    ) so.bytes;
  }
  next (Ok w) e =
      let pipe = played capacity calls in
      let s = stepped pipe so.stands call.gone call.asked w e in
      record {
        stands = rw e s.stands;
        same = rw e (s.same ∙ so.same);
        bytes = rw (e, so.bytes) (append_assoc (read capacity calls) pipe.held (puts call.asked (Ok w))
            ∙ (ap (λ xs. read capacity calls ++ xs) s.bytes
            ∙ sym (append_assoc (read capacity calls) (gets pipe call.asked (Ok w)) (after call.asked w pipe).held)));
      }

all_in_order : (capacity : ℕ) (calls : List Call) → InOrder capacity calls
all_in_order capacity [] = record { stands = record { space = omega arith; shown = ([], refl) }; same = refl; bytes = refl }
all_in_order capacity (call ∷ calls) =
    next capacity call calls (all_in_order capacity calls) (told (played capacity calls) call.gone call.asked) refl

pub in_order : (capacity : ℕ) (calls : List Call)
    → (written capacity calls ≡ read capacity calls ++ (played capacity calls).held) × (length (played capacity calls).held ≤ capacity)
in_order capacity calls = let so = all_in_order capacity calls in (so.bytes, omega (arith, so.stands.space, so.same))
