use Rattle.std.proofs.Common.{◌≡◌, ◌<◌, length, List, ap, subst, ◌∙◌, arith}
use Rattle.std.specs.List.{flat_map}
use Rattle.compat_model.specs.declared.pair.Pair.{Pair}
use Rattle.compat_model.specs.Members.{first_found}
use Rattle.compat_model.specs.Pairs.{pair_reason, follows}
use Rattle.compat_check.specs.steps.PairSets.{IsSetOf}
use Rattle.compat_check.specs.steps.Skims.{Skims, with_seen}
use Rattle.compat_check.proofs.Turns.{decided, one_turn, open_round}
use Rattle.compat_check.proofs.rounds.search.Goals as goal

pub rounds-preserved : goal.rounds-preserved
rounds-preserved c =
    let old = c.args.old.now in
    let new = c.args.new.now in
    let names = c.args.namesakes.now in
    let was = c.rounds.invariant in
    let more = c.rounds-test.true in
    let grown = was.grown in
    let counted = was.counted in
    let seen = c.count-total.ensures.value in
    let small = c.count-total.ensures.small in
    let next = c.in_ok-after.ensures.counted in
    let some_ : 0 < length c.rounds.level.items = omega (arith, more, grown) in
    let here = open_round old new c.rounds.seen c.rounds.level.items c.rounds.reason was.state some_ in
    record {
      state =
          one_turn old new names c.rounds.seen c.step_unless.new.seen c.rounds.level.items c.in_ok-after.after.items c.in_ok-found.found c.requires.names
          here (c.in_ok-found.ensures ∙ ap (λ (l : List Pair). first_found (pair_reason old new names) l) c.as_slice.ensures.value)
          c.in_ok-after.ensures.stops
          (λ none list is. subst (λ (l : List Pair). Skims Pair list c.in_ok-after.after.items (flat_map (follows old new) l)
          × IsSetOf c.step_unless.new.seen (with_seen Pair c.in_ok-after.after.items list)) c.as_slice-in-rounds.ensures.value
          (c.in_ok-after.ensures.goes none list is));
      counted = seen;
      grown = omega (arith, seen, next, counted);
      small = small;
    }

pub returns : goal.returns
returns c =
    let was = c.rounds.invariant in
    let done = c.rounds-test.false in
    let grown = was.grown in
    let none : length c.rounds.level.items ≡ 0 = omega (arith, done, grown) in
    decided c.args.old.now c.args.new.now c.rounds.seen c.rounds.level.items c.rounds.reason was.state none
