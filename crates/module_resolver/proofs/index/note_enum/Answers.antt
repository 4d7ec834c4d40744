use Rattle.std.proofs.Common.{◌+◌, ℕ, refl, ◌∙◌, ap}
use Rattle.module_resolver.specs.declared.target.Target.TheVariants.{Enumerator}
use Rattle.module_resolver.specs.Seats.{held}
use Rattle.module_resolver.proofs.Held.{owner_kept, keeps_nodes, entry_kept}
use Rattle.module_resolver.proofs.Owned.{none_noted}
use Rattle.module_resolver.proofs.Enums.{within_noted}
use Rattle.module_resolver.proofs.index.note_enum.Goals as goal

pub loop-place-init : goal.loop-place-init
loop-place-init c =
    let both = c.in_ok-inner.ensures.entered in
    record {
      sound = both.sound;
      nodes = keeps_nodes c.args.index.now c.enter_kept.new.index both;
      inner = c.in_ok-inner.ensures.is;
      notes = λ p q. owner_kept c.args.index.now c.enter_kept.new.index both p q ∙ none_noted p c.args.file _;
    }

pub loop-place-preserved : goal.loop-place-preserved
loop-place-preserved c =
    let here = c.in_ok-note_within.ensures in
    let item = c.index-names-place.result in
    let outer = c.args.one.now.outer in
    record {
      sound = here.sound;
      nodes = λ q n is. here.nodes q n (c.loop-place.invariant.nodes q n is);
      inner = entry_kept c.loop-place.index c.note_within.new.index here.nodes outer c.in_ok-inner.inner c.loop-place.invariant.inner;
      notes =
          within_noted (held c.args.index.now) (held c.loop-place.index) (held c.note_within.new.index) (λ (n : ℕ). Enumerator c.args.file (c.args.first + n))
          c.args.file c.loop-place.place outer c.as_str.result.now item c.as_slice-names.result.now _ refl c.loop-place-test.true
          (c.as_str.ensures ∙ c.index-names-place.is) (ap (λ (n : ℕ). Enumerator c.args.file n) c.in_ok-number.ensures) c.loop-place.invariant.notes here.notes;
    }
