use Rattle.std.proofs.Common.{sym, ap, ◌∙◌, ◌≡◌, arith, length, refl, Some, None}
use Rattle.std.specs.Prelude.{slice_get}
use Rattle.std.proofs.lemmas.Option.{slice_get_read, slice_get_past}
use Rattle.script_names.specs.Tables.{given}
use Rattle.script_names.proofs.TableLemmas.{given-snoc, given_over}
use Rattle.plain_names.proofs.slots.Slots.give.Goals as goal

pub loop-one-preserved-in-Some-get : goal.loop-one-preserved-in-Some-get
loop-one-preserved-in-Some-get g c =
    let names = c.args.names.now in
    let found = c.in-Some-get.ensures.lookup in
    let place : c.len.result ≡ length c.pop.new.self.items = omega (arith, c.len.ensures) in
    let at : slice_get names (length c.pop.new.self.items) ≡ Some c.in-Some-get.name.now =
    ap (slice_get names) (sym place) ∙ slice_get_read names (length names) c.len.result c.in-Some-get.name.now refl found.3.0 found.1 in
    record {
      rest =
          ap (given names c.pop.new.self.items) c.set.ensures
          ∙ (sym (given-snoc names c.pop.new.self.items c.in-Some-get.name.now c.in-Some.one c.loop-one.self.items.items at)
          ∙ (ap (λ things. given names things c.loop-one.self.items.items) (sym c.in-Some.ensures.items) ∙ c.loop-one.invariant.rest));
    }

pub loop-one-preserved : goal.loop-one-preserved
loop-one-preserved g c =
    let names = c.args.names.now in
    let found = c.in-None.ensures.lookup in
    let place : c.len.result ≡ length c.pop.new.self.items = omega (arith, c.len.ensures) in
    let at : slice_get names (length c.pop.new.self.items) ≡ None = ap (slice_get names) (sym place) ∙ slice_get_past names c.len.result found.3 in
    record {
      rest =
          sym (given_over names c.pop.new.self.items c.in-Some.one c.loop-one.self.items.items at)
          ∙ (ap (λ things. given names things c.loop-one.self.items.items) (sym c.in-Some.ensures.items) ∙ c.loop-one.invariant.rest);
    }
