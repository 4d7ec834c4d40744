-- Automatic replies that are due are a script's, and whose turn it is is one of its sequences.
use Rattle.std.proofs.Common.{◌≡◌, ◌∙◌, ◌<◌, ◌≤◌, ℕ, zero, suc, ◌+◌, ◌/◌, ◌%◌, ◌^◌, Bool, true, false, List, [], ◌∷◌, length, Option, Some, None, refl, ap, subst, arith}
use Rattle.std.specs.Prelude.{filter, find, map, slice_get, if◌then◌else◌}
use Rattle.std.specs.List.{AllByRecursion}
use Rattle.std.specs.Option.{option_map}
use Rattle.mj_base.specs.declared.ids.SeqId.{SeqId}
use Rattle.bind_model.specs.Laws.{up_from}
use Rattle.bind_model.specs.Replies.{responders_handed}
use Rattle.bind_model.specs.Wire.{Wire}
use Rattle.bind_model.specs.declared.endpoint.ResponderId.{ResponderId}
use Rattle.bind_model.specs.declared.event.Event.{Event}
use Rattle.call_script.specs.declared.script.AutoReply.{AutoReply}
use Rattle.call_script.specs.declared.script.Script.{Script}
use Rattle.script_names.specs.Autos.{Due, due, due_for, lines_done, replies_to}
use Rattle.script_run.specs.Order.{InTurns, TakeTurns, drawn, due_first, has_left, next_drawn, sequences, turn, with_lines}

-- ## Lists

pub found_at : {A : Type 0} (P : A → Type 0) (xs : List A) (n : ℕ) (x : A) → AllByRecursion P xs → slice_get xs n ≡ Some x → P x
found_at P [] n x all e = absurd cc
found_at P (y ∷ ys) zero x all e = let same : y ≡ x = cc in subst P same all.0
found_at P (y ∷ ys) (suc n) x all e = found_at P ys n x all.1 e

pub filtered : {A : Type 0} (P : A → Type 0) (test : A → Bool) (xs : List A) → AllByRecursion P xs → AllByRecursion P (filter test xs)
filtered P test [] all = tt
filtered {A} P test (x ∷ xs) all = go (test x) (filtered P test xs all.1)
  where
    go : (b : Bool) → AllByRecursion P (filter test xs) → AllByRecursion P (if b then x ∷ filter test xs else filter test xs)
    go true rest = (all.0, rest)
    go false rest = rest

-- what is found in a list is one of it
found_among : (P : AutoReply → Type 0) (test : AutoReply → Bool) (xs : List AutoReply) (reply : AutoReply) → AllByRecursion P xs
    → find test xs ≡ Some reply → P reply
found_among P test [] reply all f = absurd cc
found_among P test (x ∷ xs) reply all f = go (test x) (λ h. found_among P test xs reply all.1 h) f
  where
    go : (b : Bool) → (find test xs ≡ Some reply → P reply) → (if b then Some x else find test xs) ≡ Some reply → P reply
    go true inner h = let same : x ≡ reply = cc in subst P same all.0
    go false inner h = inner h

-- ## Automatic replies

found_in : (P : AutoReply → Type 0) (autos : List AutoReply) (seq : SeqId) (rs : List ResponderId) (r : ResponderId) (reply : AutoReply)
    → AllByRecursion P autos → due_for autos seq rs ≡ Some (r, reply) → P reply
found_in P autos seq [] r reply all e = absurd cc
found_in P autos seq (q ∷ qs) r reply all e = by (find (replies_to seq q) autos) refl e
  where
    by : (o : Option AutoReply) → find (replies_to seq q) autos ≡ o → option_map {U = Due} (λ (x : AutoReply). (q, x)) o ≡ Some (r, reply) → P reply
    by None f h = absurd cc
    by (Some x) f h =
        let pair : (q, x) ≡ (r, reply) = cc in
        let same : x ≡ reply = ap (λ (p : Due). p.1) pair in
        found_among P (replies_to seq q) autos reply all (f ∙ ap (λ (y : AutoReply). Some y) same)

pub due_in : (P : AutoReply → Type 0) (wire : Wire) (autos : List AutoReply) (past : List Event) (r : ResponderId) (reply : AutoReply)
    → AllByRecursion P autos → due wire autos past ≡ Some (r, reply) → P reply
due_in P wire autos [] r reply all e = absurd cc
due_in P wire autos (event ∷ past) r reply all e = found_in P autos event.seq (responders_handed wire event.told event.asked) r reply all e

-- ## Turns

-- one of so many sequences
abbrev pub IsOneOf : ℕ → SeqId → Type 0
IsOneOf seqs s = s.0 < seqs

numbered : (seqs first n : ℕ) → first + n ≤ seqs → AllByRecursion (IsOneOf seqs) (map (λ (k : ℕ). record { 0 = k }) (up_from first n))
numbered seqs first zero few = tt
numbered seqs first (suc n) few = (omega (arith, few), numbered seqs (suc first) n (omega (arith, few)))

module _ (wire : Wire) (script : Script) (order : ℕ) (autos : AllByRecursion (λ (reply : AutoReply). IsOneOf script.seqs reply.seq) script.autos) where
  drawn_within : (past : List Event) (s : SeqId) → next_drawn wire script order past ≡ Some s → IsOneOf script.seqs s
  drawn_within past s e = found_at (IsOneOf script.seqs) (with_lines wire script past)
      (drawn order (lines_done wire script.autos past) / (2 ^ 32) % length (with_lines wire script past)) s
      (filtered (IsOneOf script.seqs) (has_left wire script past) (sequences script) (numbered script.seqs 0 script.seqs (omega arith))) e

  turn_within : (past : List Event) (s : SeqId) → turn wire script order past ≡ Some s → IsOneOf script.seqs s
  turn_within past s e = go (due wire script.autos past) refl e
    where
      go : (d : Option Due) → due wire script.autos past ≡ d → due_first d (next_drawn wire script order past) ≡ Some s → IsOneOf script.seqs s
      go (Some (r, reply)) is f =
          let same : reply.seq ≡ s = cc in
          subst (IsOneOf script.seqs) same (due_in (λ (x : AutoReply). IsOneOf script.seqs x.seq) wire script.autos past r reply autos is)
      go None is f = drawn_within past s f

  -- events in turns by an order are of the script's sequences
  turns_within : (middle : List Event) → InTurns (turn wire script order) middle → AllByRecursion (λ (event : Event). IsOneOf script.seqs event.seq) middle
  turns_within [] turns = tt
  turns_within (event ∷ past) turns = (turn_within past event.seq turns.0, turns_within past turns.1)

-- so are those of turns that are taken
pub taken_within : (wire : Wire) (script : Script) (order : Option ℕ) → AllByRecursion (λ (reply : AutoReply). IsOneOf script.seqs reply.seq) script.autos
    → (middle : List Event) → TakeTurns wire script order middle → AllByRecursion (λ (event : Event). IsOneOf script.seqs event.seq) middle
taken_within wire script (Some order) autos middle turns = turns_within wire script order autos middle turns
taken_within wire script None autos middle turns = turns
