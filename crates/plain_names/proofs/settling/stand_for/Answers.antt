use Rattle.std.proofs.Common.{◌≡◌, ◌∙◌, ◌-◌, ◌<◌, ℕ, ap, refl, sym, arith, length, suc, take, Some, None}
use Rattle.std.specs.Prelude.{slice_get}
use Rattle.std.proofs.lemmas.Option.{slice_get_read, slice_get_past, slice_get-get_or}
use Rattle.script_names.specs.Tables.{given}
use Rattle.script_names.proofs.TableLemmas.{given_last, given_none}
use Rattle.plain_names.proofs.settling.stand_for.Goals as goal

pub loop-left-preserved : goal.loop-left-preserved
loop-left-preserved c =
    let names = c.args.names.now in
    let things = c.args.things.now in
    let left = c.loop-left.left in
    let one : suc (left - 1) ≡ left = omega (arith, c.loop-left-test.true) in
    let none : slice_get names (left - 1) ≡ None = slice_get_past names (left - 1) c.in_default.ensures.lookup.3 in
    record {
      rest =
          sym (given_none names things (left - 1) c.loop-left.stands.things.items none)
          ∙ (ap (λ (k : ℕ). given names (take k things) c.loop-left.stands.things.items) one ∙ c.loop-left.invariant.rest);
      most = omega (arith, c.loop-left.invariant.most);
    }

pub loop-left-preserved-in-Some : goal.loop-left-preserved-in-Some
loop-left-preserved-in-Some c =
    let names = c.args.names.now in
    let things = c.args.things.now in
    let left = c.loop-left.left in
    let table = c.loop-left.stands.things.items in
    let found = c.in-Some.ensures.lookup in
    let one : suc (left - 1) ≡ left = omega (arith, c.loop-left-test.true) in
    let below : left - 1 < length things = omega (arith, c.loop-left-test.true, c.loop-left.invariant.most) in
    let name : slice_get names (left - 1) ≡ Some c.in-Some.name.now =
    slice_get_read names (length names) (left - 1) c.in-Some.name.now refl found.3.0 found.1 in
    record {
      rest =
          ap (given names (take (left - 1) things)) c.set.ensures
          ∙ (sym (given_last names things (left - 1) c.in-Some.name.now _ table (slice_get-get_or things (left - 1) _ below) name)
          ∙ (ap (λ (k : ℕ). given names (take k things) table) one ∙ c.loop-left.invariant.rest));
      most = omega (arith, c.loop-left.invariant.most);
    }
