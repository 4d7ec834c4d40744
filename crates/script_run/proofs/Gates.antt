-- The calls of a gate round the lines of a sequence.
use Rattle.std.proofs.Common.{◌≡◌, ◌<◌, ◌≤◌, ◌+◌, ℕ, zero, suc, Bool, true, false, List, [], ◌∷◌, ◌++◌, length, take, refl, sym, ap, ◌∙◌, subst, arith}
use Rattle.std.proofs.Common.{append_assoc, add-one}
use Rattle.std.specs.Prelude.{Some, filter, slice_get}
use Rattle.std.proofs.lemmas.List.{append-nil}
use Rattle.mj_base.specs.declared.ids.SeqId.{SeqId}
use Rattle.call_script.specs.declared.script.Line.{Line}
use Rattle.call_script.specs.declared.script.Script.{Script}
use Rattle.step_gate.specs.Calls.{calls_round}
use Rattle.step_gate.specs.declared.GateCall.{GateCall}
use Rattle.step_gate.specs.declared.GateCall.TheVariants.{Before}
use Rattle.script_run.specs.Order.{is_own, lines_of}
use Rattle.script_run.specs.Working.{CallsAll, CallsSome}
use Rattle.script_run.specs.steps.Working.{calls_by, steps_by}
use Rattle.script_run.proofs.AllLines.{count_more, own_at}

-- ## One line

-- at most one line more
pub at_most_one : (b : Bool) → steps_by b ≤ 1
at_most_one true = omega arith
at_most_one false = omega arith

round_more : (me : SeqId) (n : ℕ) (b : Bool) → calls_round me n ++ calls_by b me n ≡ calls_round me (n + steps_by b)
round_more me n true = sym (ap (calls_round me) (add-one n))
round_more me n false = let none : n ≡ n + 0 = omega arith in append-nil (calls_round me n) ∙ ap (calls_round me) none

-- ## One line more

-- how many lines of its own that is
pub steps_more : (script : Script) (k : ℕ) (line : Line) → slice_get script.lines k ≡ Some line → (me at : SeqId) → at ≡ me → (n more : ℕ)
    → n ≡ length (filter (is_own me) (take k script.lines)) → more ≡ n + steps_by (is_own at line)
    → more ≡ length (filter (is_own me) (take (k + 1) script.lines))
steps_more script k line here me at same n more e f =
    f ∙ (ap (λ (s : SeqId). n + steps_by (is_own s line)) same
    ∙ (ap (λ (m : ℕ). m + steps_by (is_own me line)) e
    ∙ sym (count_more (is_own me) script.lines k line (is_own me line) here refl)))

-- and the calls
pub calls_more : (old mid new : List GateCall) (line : Line) (me at : SeqId) → at ≡ me → (n more : ℕ) → mid ≡ old ++ calls_round me n
    → more ≡ n + steps_by (is_own at line) → new ≡ mid ++ calls_by (is_own at line) at n → new ≡ old ++ calls_round me more
calls_more old mid new line me at same n more e f calls =
    let by_me : new ≡ mid ++ calls_by (is_own me line) me n = subst (λ (s : SeqId). new ≡ mid ++ calls_by (is_own s line) s n) same calls in
    let counted : more ≡ n + steps_by (is_own me line) = subst (λ (s : SeqId). more ≡ n + steps_by (is_own s line)) same f in
    by_me
    ∙ (ap (λ (l : List GateCall). l ++ calls_by (is_own me line) me n) e
    ∙ (append_assoc old (calls_round me n) (calls_by (is_own me line) me n)
    ∙ (ap (λ (l : List GateCall). old ++ l) (round_more me n (is_own me line)) ∙ ap (λ (m : ℕ). old ++ calls_round me m) (sym counted))))

-- ## All, and some

below : {A : Type 0} (xs : List A) (n : ℕ) (x : A) → slice_get xs n ≡ Some x → n < length xs
below [] n x e = absurd cc
below (y ∷ xs) zero x e = omega arith
below (y ∷ xs) (suc n) x e = let less = below xs n x e in omega (arith, less)

pub calls_all : (script : Script) (old new : List GateCall) (me : SeqId) (n : ℕ) → n ≡ length (lines_of script me) → new ≡ old ++ calls_round me n
    → CallsAll me (length (lines_of script me)) old new
calls_all script old new me n e calls = calls ∙ ap (λ (m : ℕ). old ++ calls_round me m) e

-- up to a line that was cut off
pub calls_cut : (script : Script) (k : ℕ) (line : Line) → slice_get script.lines k ≡ Some line → (old mid new : List GateCall) (me at : SeqId) → at ≡ me
    → is_own at line ≡ true → (n : ℕ) → n ≡ length (filter (is_own me) (take k script.lines)) → mid ≡ old ++ calls_round me n
    → new ≡ mid ++ Before at n ∷ [] → CallsSome me (length (lines_of script me)) old new
calls_cut script k line here old mid new me at same mine n e calls begun = record {
  done = n;
  fewer = subst (λ (m : ℕ). m < length (lines_of script me)) (sym e)
      (below (lines_of script me) (length (filter (is_own me) (take k script.lines))) line
      (own_at (is_own me) script.lines k line here (subst (λ (s : SeqId). is_own s line ≡ true) same mine)));
  calls =
      subst (λ (s : SeqId). new ≡ mid ++ Before s n ∷ []) same begun
      ∙ (ap (λ (l : List GateCall). l ++ Before me n ∷ []) calls ∙ append_assoc old (calls_round me n) (Before me n ∷ []));
}
