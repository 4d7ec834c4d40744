-- The messages of a load, one behind the other.
use Rattle.std.proofs.Common.{◌≡◌, ◌+◌, ◌++◌, ℕ, zero, suc, Bool, true, false, List}
use Rattle.std.proofs.Common.{[], ◌∷◌, length, map, replicate, refl, ap, ◌∙◌, subst, arith, length-append}
use Rattle.std.specs.List.{AllByRecursion}
use Rattle.std.specs.Prelude.{IfSome}
use Rattle.std.proofs.lemmas.List.{replicate_more}
use Rattle.mj_schema.specs.declared.schema.Schema.{Schema}
use Rattle.wire_encoder.specs.Prepared.{HasTarget}
use Rattle.wire_model.specs.Trees.{Tree}
use Rattle.bind_core.specs.Play.{Play}
use Rattle.bind_model.specs.Replies.{Legal}
use Rattle.bind_model.specs.WireOf.{wire_of}
use Rattle.bind_model.specs.declared.event.Event.{Event}
use Rattle.remote_receiver.specs.Held.{kept_of}
use Rattle.remote_receiver.specs.Notes.{HasKept}
use Rattle.remote_receiver.specs.declared.rest.Rest.{Rest}
use Rattle.mj_base.specs.declared.ids.SeqId.{SeqId}
use Rattle.script_run.specs.AtDesk.{AnswersZero}
use Rattle.script_run.specs.Draining.{HasRested}
use Rattle.script_run.specs.Order.{drawn, next_draw}
use Rattle.script_run.specs.declared.plain.Plain.{Plain}
use Rattle.load_run.specs.Commands.{AreOf, IsLoaded, SEQUENCES, asked_in, caller, start, taker}
use Rattle.load_run.specs.Counts.{AreCounted, AreLoadCounts}
use Rattle.load_run.specs.Messages.{message_of, request_target, targets_in}
use Rattle.load_run.specs.declared.counts.Counts.{Counts}
use Rattle.load_run.specs.declared.messages.Message.{Message}
use Rattle.load_run.specs.declared.pairs.Pair.{Pair}
use Rattle.load_run.specs.declared.pairs.Pairs.{Pairs}
use Rattle.load_run.specs.declared.targets.Targets.{Targets}
use Rattle.load_run.specs.steps.Doing.{AreThere, AskedAll, HasAll, HasBoth, IsAfter, IsOfPair, Went}
use Rattle.load_run.proofs.Starting.{all_longer, apart_of, both_still}

-- one tree more of those that are one
pub one_more : (xs : List Tree) (n : ℕ) (t : Tree) → xs ≡ replicate n t → xs ++ t ∷ [] ≡ replicate (n + 1) t
one_more xs n t e = ap (λ (ts : List Tree). ts ++ t ∷ []) e ∙ replicate_more n t

-- the target of a request is there where those are that the schema has
pub there_request : (schema : Schema) (targets : Targets) (m : Message) → AreThere schema targets → IfSome (request_target targets m) (HasTarget schema)
there_request schema targets m are = by m.is_say refl
  where
    by : (b : Bool) → m.is_say ≡ b → IfSome (request_target targets m) (HasTarget schema)
    by true e = rw e are.say
    by false e = rw e are.note

-- ## Desks without callbacks

-- the desk of a sequence at rest, where there are no events
pub fresh : (schema : Schema) (s : SeqId) (rest : Rest Plain) → HasKept AnswersZero [] (kept_of rest.jobs)
    → HasRested (record { schema = schema; seqs = SEQUENCES; events = [] }) s rest
fresh schema s rest kept = record { kept = kept; drawn = λ key w there. absurd (kept.wait key w there) }

-- ## Over a pair

pub over_first : (schema : Schema) (m : Message) (core after : Play) (pairs : Pairs) (pair : Pair) → m.is_second ≡ false → HasAll core pairs
    → Went schema m core after → HasBoth after m.is_second pair → HasAll after (record { first = pair; second = pairs.second })
over_first schema m core after pairs pair e had went both =
    let are = subst (λ (b : Bool). AllByRecursion (IsOfPair b) went.0) e went.1.are in
    record {
      first = subst (λ (b : Bool). HasBoth after b pair) e both;
      second =
          both_still true core after went.0 pairs.second went.1.schema went.1.events (apart_of false (caller true) went.0 are refl refl)
          (apart_of false (taker true) went.0 are refl refl) had.second;
    }

pub over_second : (schema : Schema) (m : Message) (core after : Play) (pairs : Pairs) (pair : Pair) → m.is_second ≡ true → HasAll core pairs
    → Went schema m core after → HasBoth after m.is_second pair → HasAll after (record { first = pairs.first; second = pair })
over_second schema m core after pairs pair e had went both =
    let are = subst (λ (b : Bool). AllByRecursion (IsOfPair b) went.0) e went.1.are in
    record {
      first =
          both_still false core after went.0 pairs.first went.1.schema went.1.events (apart_of true (caller false) went.0 are refl refl)
          (apart_of true (taker false) went.0 are refl refl) had.first;
      second = subst (λ (b : Bool). HasBoth after b pair) e both;
    }

-- ## Numbers

-- the number that was drawn last before a message
abbrev pub draw_before : ℕ → ℕ → ℕ
draw_before seed zero = seed
draw_before seed (suc n) = drawn seed n

drawn_is : (seed n : ℕ) → next_draw (draw_before seed n) ≡ drawn seed n
drawn_is seed zero = refl
drawn_is seed (suc n) = refl

-- the next one
pub next_drawn : (seed n draw next : ℕ) → draw ≡ draw_before seed n → next ≡ next_draw draw → next ≡ draw_before seed (n + 1)
next_drawn seed n draw next before is =
    is ∙ (ap next_draw before ∙ (drawn_is seed n ∙ ap (draw_before seed) (suc_is n)))
  where
    suc_is : (k : ℕ) → suc k ≡ k + 1
    suc_is k = omega arith

-- the message of a number is the one that this is drawn for
pub message_is : (seed n draw next : ℕ) (m : Message) → draw ≡ draw_before seed n → next ≡ next_draw draw → m ≡ message_of n next
    → m ≡ message_of n (drawn seed n)
message_is seed n draw next m before is made =
    made ∙ ap (message_of n) (is ∙ (ap next_draw before ∙ drawn_is seed n))

-- ## One message more

pub after_more : (schema : Schema) (seed n : ℕ) (core after : Play) (pairs rests : Pairs) (m : Message) → IsAfter schema seed n core pairs
    → m ≡ message_of n (drawn seed n) → Went schema m core after → HasAll after rests → IsAfter schema seed (n + 1) after rests
after_more schema seed n core after pairs rests m is of went all = record {
  schema = went.1.schema ∙ is.schema;
  seqs = went.1.seqs ∙ is.seqs;
  rests = all;
  loaded = subst (λ (k : ℕ). IsLoaded schema seed k after.events) suc_is
      (core.events, went.0, went.1.events, is.loaded, subst (λ (x : Message). AreOf schema x went.0) of went.2);
  few =
      let few = is.few in
      let own = went.1.few in
      omega (arith, ap length went.1.events, length-append core.events went.0, few, own);
}
  where
    suc_is : suc n ≡ n + 1
    suc_is = omega arith

-- behind the start
pub started : (schema : Schema) (seed : ℕ) (targets : Targets) (core after : Play) (pairs : Pairs) → targets ≡ targets_in schema
    → core.schema ≡ schema → core.seqs ≡ SEQUENCES → core.events ≡ [] → AskedAll (start targets.interface) core after → HasAll after pairs
    → IsAfter schema seed 0 after pairs
started schema seed targets core after pairs same is seqs none all rests = record {
  schema = all.schema ∙ is;
  seqs = all.seqs ∙ seqs;
  rests = rests;
  loaded = ap (map asked_in) events ∙ (all.are ∙ ap (λ (t : Targets). start t.interface) same);
  few =
      let six : length after.events ≡ length core.events + 6 = all_longer (start targets.interface) core after all in
      omega (arith, six, ap length none);
}
  where
    events : after.events ≡ all.own
    events = all.events ∙ ap (λ (es : List Event). es ++ all.own) none

-- ## The numbers

pub load_counted : (schema : Schema) (seed n : ℕ) (core : Play) (pairs : Pairs) (counts : Counts) → IsAfter schema seed n core pairs
    → Legal (wire_of core.schema) core.seqs core.events → AreCounted core.events counts → AreLoadCounts schema seed n counts
load_counted schema seed n core pairs counts is legal counted = record {
  history = core.events;
  load = record {
    legal = subst (λ (s : Schema). Legal (wire_of s) SEQUENCES core.events) is.schema
        (subst (λ (k : ℕ). Legal (wire_of core.schema) k core.events) is.seqs legal);
    events = is.loaded;
  };
  counted = counted;
}
