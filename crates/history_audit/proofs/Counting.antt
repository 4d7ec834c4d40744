-- Bytes that begin with the lines of events, one after the other.
use Rattle.std.proofs.Common.{◌≡◌, ◌≤◌, ◌<◌, ◌+◌, ◌-◌, ℕ, Bool, true, false, List, [], ◌∷◌, ◌++◌, length, take, drop, refl, sym, ap, ◌∙◌, subst, arith, append_assoc}
use Rattle.std.specs.Prelude.{Option, Some, nat_eq, slice_get}
use Rattle.std.specs.List.{starts_with}
use Rattle.std.proofs.lemmas.Bool.{true≢false}
use Rattle.std.proofs.lemmas.Bool.Decides.{Decides-eqb}
use Rattle.std.proofs.lemmas.List.{drop-drop, length-append, length-drop, take_rest}
use Rattle.std.proofs.lemmas.Option.{get_or_from_slice_get, slice_get_within}
use Rattle.std.proofs.lemmas.Slice.Eq.{starts_is}
use Rattle.mj_schema.specs.declared.schema.Schema.{Schema}
use Rattle.bind_model.specs.declared.event.Event.{Event}
use Rattle.history_text.specs.History.{event_line, event_lines}
use Rattle.history_text.proofs.Lists.{lines_more}
use Rattle.history_audit.specs.steps.Said.{SaysFirst}

-- so far the bytes begin with the lines
pub record SaidSoFar (schema : Schema) (events : List Event) (bytes : List ℕ) (k at : ℕ) : Type 0 where
  pub within : at ≤ length bytes
  pub front : bytes ≡ event_lines schema 0 (take k events) ++ drop at bytes

module _ (schema : Schema) (events : List Event) (bytes : List ℕ) (k at : ℕ) (so : SaidSoFar schema events bytes k at) where
  module _ (event : Event) (here : slice_get events k ≡ Some event) (line : List ℕ) (is : line ≡ event_line schema k event) (r : Bool)
      (starts : r ≡ starts_with nat_eq (take (length bytes - at) (drop at bytes)) line) where
    starts_there : r ≡ starts_with nat_eq (drop at bytes) line
    starts_there = starts ∙ ap (λ (ys : List ℕ). starts_with nat_eq ys line) (take_rest bytes at)

    said_here : r ≡ true → SaidSoFar schema events bytes (k + 1) (at + length line)
    said_here e =
        let whole : drop at bytes ≡ line ++ drop (length line) (drop at bytes) =
        (starts_is Decides-eqb (drop at bytes) line r starts_there).0 e in
        let lines : event_lines schema 0 (take (k + 1) events) ≡ event_lines schema 0 (take k events) ++ event_line schema k event =
        lines_more schema events k event (slice_get_within events k event here)
        ∙ ap (λ (x : Event). event_lines schema 0 (take k events) ++ event_line schema k x) (get_or_from_slice_get events k event event here) in
        let within = so.within in
        record {
          within = omega (arith, within, ap length whole, length-append line (drop (length line) (drop at bytes)), length-drop at bytes);
          front =
              so.front
              ∙ (ap (λ (l : List ℕ). event_lines schema 0 (take k events) ++ l)
              (whole ∙ (ap (λ (l : List ℕ). l ++ drop (length line) (drop at bytes)) is
              ∙ ap (λ (l : List ℕ). event_line schema k event ++ l) (drop-drop (length line) at bytes)))
              ∙ (sym (append_assoc (event_lines schema 0 (take k events)) (event_line schema k event) (drop (at + length line) bytes))
              ∙ ap (λ (l : List ℕ). l ++ drop (at + length line) bytes) (sym lines)));
        }

    -- with the line of one more
    pub said_more : (size : ℕ) → size ≡ length line → r ≡ true → SaidSoFar schema events bytes (k + 1) (at + size)
    said_more size long e = subst (λ (n : ℕ). SaidSoFar schema events bytes (k + 1) (at + n)) (sym long) (said_here e)

    -- without it
    pub said_no_more : r ≡ false → SaysFirst schema events bytes k
    said_no_more e = record {
      within = let less = slice_get_within events k event here in omega (arith, less);
      rest = drop at bytes;
      front = so.front;
      next = λ other there more begins.
          let both : ◌≡◌ {A = Option Event} (Some event) (Some other) = sym here ∙ there in
          let same : event ≡ other = cc in
          let own : drop at bytes ≡ line ++ more =
          begins ∙ ap (λ (l : List ℕ). l ++ more) (ap (event_line schema k) (sym same) ∙ sym is) in
          true≢false (sym ((starts_is Decides-eqb (drop at bytes) line r starts_there).1 more own) ∙ e);
    }

  -- all of them
  pub said_all : length events ≤ k → k ≤ length events → SaysFirst schema events bytes k
  said_all all within = record {
    within = within;
    rest = drop at bytes;
    front = so.front;
    next = λ other there more begins. absurd (let less = slice_get_within events k other there in omega (arith, less, all));
  }

pub said_none : (schema : Schema) (events : List Event) (bytes : List ℕ) → SaidSoFar schema events bytes 0 0
said_none schema events bytes = record { within = omega arith; front = refl }
