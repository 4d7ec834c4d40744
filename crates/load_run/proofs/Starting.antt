-- The start: what was asked one behind the other, and the desks of the other pair.
use Rattle.std.proofs.Common.{◌≡◌, ◌+◌, ◌++◌, inl, inr, Bool, true, false, List, [], ◌∷◌, length, refl, sym, ap, ◌∙◌, subst, arith, append_assoc, length-append}
use Rattle.std.specs.Prelude.{◌==◌, map, reverse}
use Rattle.std.specs.List.{AllByRecursion}
use Rattle.std.proofs.lemmas.List.{length-map, map-append}
use Rattle.mj_base.specs.declared.ids.SeqId.{SeqId}
use Rattle.handle_table.specs.declared.thing.Thing.{Thing}
use Rattle.handle_table.specs.declared.thing.Thing.TheVariants.{End}
use Rattle.bind_core.specs.Play.{Play}
use Rattle.bind_model.specs.Replies.{serials}
use Rattle.bind_model.specs.declared.asked.Asked.{Asked}
use Rattle.bind_model.specs.declared.asked.Asked.TheVariants as asks
use Rattle.bind_model.specs.declared.event.Event.{Event}
use Rattle.bind_model.specs.declared.told.Told.{Told}
use Rattle.bind_model.specs.declared.told.Told.TheVariants.{Made}
use Rattle.script_run.specs.OfScript.{Next}
use Rattle.load_run.specs.Commands.{asked_in, caller, end_of, event_of, taker}
use Rattle.load_run.specs.declared.pairs.Pair.{Pair}
use Rattle.load_run.specs.steps.Doing.{AskedAll, AskedOne, HasBoth, IsOfPair, Joined, OneMore}
use Rattle.load_run.proofs.Events.{AreOthers, rested_still}

-- ## What was asked

pub all_one : (s : SeqId) (asked : Asked) (before after : Play) → AskedOne s asked before after → AskedAll ((s, asked) ∷ []) before after
all_one s asked before after one = record {
  schema = one.1.schema;
  seqs = one.1.seqs;
  own = event_of s asked one.0 ∷ [];
  events = one.1.events;
  are = refl;
}

pub all_then : (xs ys : List Next) (a b c : Play) → AskedAll xs a b → AskedAll ys b c → AskedAll (xs ++ ys) a c
all_then xs ys a b c f g = record {
  schema = g.schema ∙ f.schema;
  seqs = g.seqs ∙ f.seqs;
  own = f.own ++ g.own;
  events = g.events ∙ (ap (λ (es : List Event). es ++ g.own) f.events ∙ append_assoc a.events f.own g.own);
  are =
      map-append asked_in f.own g.own
      ∙ (ap (λ (ns : List Next). ns ++ map asked_in g.own) f.are ∙ ap (λ (ns : List Next). xs ++ ns) g.are);
}

pub all_longer : (nexts : List Next) (before after : Play) → AskedAll nexts before after
    → length after.events ≡ length before.events + length nexts
all_longer nexts before after all =
    omega (arith, ap length all.events, length-append before.events all.own, length-map all.own asked_in, ap length all.are)

-- ## The other pair

pub both_still : (other : Bool) (before after : Play) (more : List Event) (pair : Pair) → after.schema ≡ before.schema
    → after.events ≡ before.events ++ more → AreOthers (caller other) more → AreOthers (taker other) more → HasBoth before other pair
    → HasBoth after other pair
both_still other before after more pair schema events callers takers had = record {
  caller = rested_still (caller other) before after more pair.caller schema events callers had.caller;
  taker = rested_still (taker other) before after more pair.taker schema events takers had.taker;
}

-- one event of a sequence of one pair, for the desks of the other
pub first_still : (s : SeqId) (asked : Asked) (told : Told) (before after : Play) (pair : Pair) → OneMore s asked told before after
    → (s.0 == 2) ≡ false → (s.0 == 3) ≡ false → HasBoth before true pair → HasBoth after true pair
first_still s asked told before after pair one two three had =
    both_still true before after (event_of s asked told ∷ []) pair one.schema one.events (two, tt) (three, tt) had

pub second_still : (s : SeqId) (asked : Asked) (told : Told) (before after : Play) (pair : Pair) → OneMore s asked told before after
    → (s.0 == 0) ≡ false → (s.0 == 1) ≡ false → HasBoth before false pair → HasBoth after false pair
second_still s asked told before after pair one zero one_too had =
    both_still false before after (event_of s asked told ∷ []) pair one.schema one.events (zero, tt) (one_too, tt) had

-- the events of a message of one pair are of no sequence of the other
pub apart_of : (b : Bool) (t : SeqId) (own : List Event) → AllByRecursion (IsOfPair b) own → ((caller b).0 == t.0) ≡ false
    → ((taker b).0 == t.0) ≡ false → AreOthers t own
apart_of b t [] are callers takers = tt
apart_of b t (event ∷ own) are callers takers = (one are.0, apart_of b t own are.1 callers takers)
  where
    one : IsOfPair b event → (event.seq.0 == t.0) ≡ false
    one (inl is) = subst (λ (s : SeqId). (s.0 == t.0) ≡ false) (sym is) callers
    one (inr is) = subst (λ (s : SeqId). (s.0 == t.0) ≡ false) (sym is) takers

-- ## The second join

-- the event of the first join
abbrev first_join : Event
first_join = event_of (caller false) (asks.Join (taker false)) (Made (End (end_of (caller false)) ∷ End (end_of (taker false)) ∷ []))

module _ (core after : Play) (things : List Thing) (none : core.events ≡ []) (joined : Joined (caller false) (taker false) core after things) where
  only_one : after.events ≡ first_join ∷ []
  only_one = joined.one.events ∙ ap (λ (es : List Event). es ++ first_join ∷ []) none

  pub caller_new : serials (reverse after.events) (caller true).0 ≡ 0
  caller_new = ap (λ (es : List Event). serials (reverse es) (caller true).0) only_one

  pub taker_new : serials (reverse after.events) (taker true).0 ≡ 0
  taker_new = ap (λ (es : List Event). serials (reverse es) (taker true).0) only_one

  pub one_there : length after.events ≡ 1
  one_there = ap length only_one
