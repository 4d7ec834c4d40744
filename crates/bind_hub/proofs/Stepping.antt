-- A turn in which a core did a command, or declined it, is a step of its pass.
use Rattle.std.proofs.Common.{◌≡◌, ℕ, zero, suc, ◌<◌, ◌++◌, eqb, true, false, true≢false, List, [], ◌∷◌, length, reverse, if◌then◌else◌, refl, sym, ap, ◌∙◌, subst, arith, eq-eqb, Option, Some, None}
use Rattle.std.specs.Prelude.{Result, Ok, Err, IfOk, IfErr, slice_get}
use Rattle.std.proofs.lemmas.List.{append-nil, append_cancel_left}
use Rattle.std.proofs.lemmas.List.Elements.{filter-append}
use Rattle.mj_base.specs.declared.ids.SeqId.{SeqId}
use Rattle.mj_schema.specs.declared.schema.Schema.{Schema}
use Rattle.bind_model.specs.declared.event.Event.{Event}
use Rattle.bind_model.specs.declared.commands.Command.{Command}
use Rattle.bind_model.specs.declared.commands.Reply.{Reply}
use Rattle.bind_model.specs.declared.commands.Refused.{Refused}
use Rattle.bind_model.specs.Plain.{HandsPendings, IsSpentAt}
use Rattle.bind_model.specs.WireOf.{wire_of}
use Rattle.bind_model.specs.Seen.{own_of}
use Rattle.turn_lock.specs.Lists.{own}
use Rattle.turn_lock.specs.Passing.{mine_of, Suits, Ran, Closes}
use Rattle.turn_lock.specs.declared.view.View.{View}
use Rattle.bind_hub.specs.Kept.{Basis, number_of, is_lawful, event_at, Does, Declines, CoreSteps}
use Rattle.bind_hub.specs.declared.kept.Kept.{Kept}
use Rattle.bind_hub.specs.Passes.{seq_at, IsFirst, Steps, Rests, IsIn}

some_is : {X : Type 0} (a b : X) → Some a ≡ Some b → a ≡ b
some_is a b e = ap (λ (o : Option _). elim o [ Some x ↦ x | None ↦ a ]) e

-- the parts of a turn over a core
abbrev pub events_in : Kept → List Event
events_in kept = kept.core.events

abbrev pub basis_in : Kept → Basis
basis_in kept = (kept.core.schema, kept.core.seqs)

-- what others did since is none of one's own
between_none : (n : ℕ) (seen rest mine : List Event) → own_of (seq_at n) seen ≡ mine → own_of (seq_at n) (seen ++ rest) ≡ mine → own_of (seq_at n) rest ≡ []
between_none n seen rest mine had has =
    append_cancel_left mine (own_of (seq_at n) rest) []
    ((ap (λ xs. xs ++ own_of (seq_at n) rest) (sym had) ∙ (sym (filter-append (λ (e : Event). eqb e.seq.0 n) seen rest) ∙ has)) ∙ sym (append-nil mine))

own_last : (n : ℕ) (log : List Event) (e : Event) → e.seq.0 ≡ n → own_of (seq_at n) (log ++ e ∷ []) ≡ own_of (seq_at n) log ++ e ∷ []
own_last n log e is =
    filter-append (λ (x : Event). eqb x.seq.0 n) log (e ∷ []) ∙ ap (λ b. own_of (seq_at n) log ++ (if b then e ∷ [] else [])) (eq-eqb e.seq.0 n is)

-- the pass that a turn was taken with, and what the turn left
module _ (number : ℕ) (v w : View Event Basis) (x z : Kept) (command : Command) where
  abbrev me : SeqId
  me = seq_at number

  -- with the core's own schema and number of sequences
  steps_at : (reply : Reply) → own_of me v.seen ≡ mine_of v.parts
      → Suits events_in number_of basis_in is_lawful v.basis number v.seen (mine_of v.parts) x
      → Does x.core me command reply z.core
      → w.seen ≡ z.core.events → is_lawful (basis_in x) w.seen → own number_of number w.seen ≡ mine_of w.parts
      → Steps x.core.schema x.core.seqs number v w command reply
  steps_at reply had suits does whole legal mine =
      let rest = suits.later.0 in
      let split = suits.later.1 in
      let none = between_none number v.seen rest (mine_of v.parts) had (ap (own_of me) (sym split) ∙ suits.mine_are) in
      let new : w.seen ≡ x.core.events ++ event_at x.core me command ∷ [] = whole ∙ does.event in record {
        saw = record {
          before = x.core.events;
          others = record { between = rest; none_own = none; none = λ e. absurd (true≢false (sym e)); all = split };
          event = new;
          room = does.room;
          legal = λ _. legal.0;
          told = does.told;
          back = does.back;
          responders = does.responders;
          pendings = subst (λ (es : List Event). HandsPendings (wire_of x.core.schema) (reverse es) command reply) (sym whole) does.pendings;
        };
        legal = legal.0;
        mine = sym mine ∙ (ap (own_of me) new
            ∙ (own_last number x.core.events (event_at x.core me command) refl ∙ ap (λ es. es ++ event_at x.core me command ∷ []) suits.mine_are));
      }

  rests_at : (refused : Refused) → own_of me v.seen ≡ mine_of v.parts
      → Suits events_in number_of basis_in is_lawful v.basis number v.seen (mine_of v.parts) x
      → Declines x.core command refused z.core
      → w.seen ≡ z.core.events → is_lawful (basis_in x) w.seen → own number_of number w.seen ≡ mine_of w.parts
      → Rests x.core.schema x.core.seqs number v w command refused
  rests_at refused had suits declines whole legal mine =
      let rest = suits.later.0 in
      let split = suits.later.1 in
      let none = between_none number v.seen rest (mine_of v.parts) had (ap (own_of me) (sym split) ∙ suits.mine_are) in
      let same : w.seen ≡ x.core.events = whole ∙ declines.events in record {
        waited = record {
          others = record { between = rest; none_own = none; none = λ e. absurd (true≢false (sym e)); all = same ∙ split };
          legal = λ _. legal.0;
          back = declines.back;
          spent = subst (λ (es : List Event). IsSpentAt (length es) refused) (sym same) declines.spent;
        };
        legal = legal.0;
        few = legal.1;
        mine = sym mine ∙ (ap (own_of me) same ∙ suits.mine_are);
      }

  -- the pass's own schema and number of sequences are those of the core
  same_basis : (schema : Schema) (seqs : ℕ) → v.basis ≡ Some (schema, seqs) → v.basis ≡ Some (basis_in x) → basis_in x ≡ (schema, seqs)
  same_basis schema seqs is has = some_is (basis_in x) (schema, seqs) (sym has ∙ is)

-- a turn, by what it answered
pub turned : (schema : Schema) (seqs number : ℕ) (v w : View Event Basis) (command : Command) (result : Result Reply Refused)
    (op : Kept → Result Reply Refused → Kept → Type 0)
    → v.basis ≡ Some (schema, seqs) → own_of (seq_at number) v.seen ≡ mine_of v.parts
    → ((x z : Kept) → op x result z → CoreSteps x.core (seq_at number) command result z.core)
    → Ran events_in number_of basis_in is_lawful op v.basis number v.seen (mine_of v.parts) result w.seen (mine_of w.parts)
    → IfOk result (λ reply. Steps schema seqs number v w command reply) × IfErr result (λ refused. Rests schema seqs number v w command refused)
turned schema seqs number v w command (Ok reply) op is had did ran =
    let b = same_basis number v w ran.before ran.after command schema seqs is ran.suits.based in (
      subst (λ (q : Basis). Steps q.0 q.1 number v w command reply) b
          (steps_at number v w ran.before ran.after command reply had ran.suits (did ran.before ran.after ran.did).outcome ran.whole ran.legal ran.mine_are),
      tt,
    )
turned schema seqs number v w command (Err refused) op is had did ran =
    let b = same_basis number v w ran.before ran.after command schema seqs is ran.suits.based in (
      tt,
      subst (λ (q : Basis). Rests q.0 q.1 number v w command refused) b
          (rests_at number v w ran.before ran.after command refused had ran.suits (did ran.before ran.after ran.did).outcome ran.whole ran.legal ran.mine_are),
    )

-- ## Passes as they are handed out, and at the close

got_within : {X : Type 0} (xs : List X) (k : ℕ) (p : X) → slice_get xs k ≡ Some p → k < length xs
got_within [] k p e = absurd (cc)
got_within (x ∷ xs) zero p e = omega arith
got_within (x ∷ xs) (suc k) p e = let h = got_within xs k p e in omega arith

pub first_pass : {X : Type 0} (xs : List X) (p : X) (table at : _) (schema : Schema) (seqs k number : ℕ) (v : View Event Basis) → length xs ≡ seqs
    → slice_get xs k ≡ Some p → number ≡ k
    → at ≡ table → v.basis ≡ Some (schema, seqs) → v.parts ≡ record { number = k; mine = [] } ∷ [] → v.seen ≡ [] → IsFirst table schema seqs k number at v
first_pass xs p table at schema seqs k number v len got numbered of_table based parts seen =
    let none : mine_of v.parts ≡ [] = ap mine_of parts in record {
      numbered = numbered;
      pass = record {
        of_table = of_table;
        basis = based;
        within = let h = got_within xs k p got in omega arith;
        own = ap (own_of (seq_at number)) seen ∙ sym none;
      };
      seen = seen;
      mine = none;
    }

pub is_in : (number : ℕ) (v : View Event Basis) (kept : Kept) → Closes events_in number_of basis_in is_lawful number v.seen (mine_of v.parts) kept
    → IsIn number v kept.core.events
is_in number v kept c = record { seen = c.all_seen; own = c.mine_are }
