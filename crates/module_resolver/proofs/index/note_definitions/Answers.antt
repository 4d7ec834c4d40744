use Rattle.std.proofs.Common.{ℕ, List, refl, ◌∙◌, subst}
use Rattle.std.specs.Prelude.{Bool, Some, None, if◌then◌else◌}
use Rattle.std.specs.Str.{bytes_eq}
use Rattle.module_resolver.specs.declared.target.Target.TheVariants.{Definition}
use Rattle.module_resolver.specs.steps.Owners.{where_seen, Notes}
use Rattle.module_resolver.specs.Seats.{held}
use Rattle.module_resolver.proofs.Owned.{none_noted, number_noted}
use Rattle.module_resolver.proofs.Held.{owner_kept, entry_kept}
use Rattle.module_resolver.proofs.index.note_definitions.Goals as goal

pub loop-number-init : goal.loop-number-init
loop-number-init c =
    let both = c.in_ok-at.ensures.entered in
    record {
      sound = both.sound;
      at = c.in_ok-at.ensures.is;
      notes = λ p q. owner_kept c.args.index.now c.enter_alone.new.index both p q ∙ none_noted p c.args.file _;
    }

pub loop-number-preserved : goal.loop-number-preserved
loop-number-preserved c =
    let names = c.args.names.now in
    let number = c.loop-number.number in
    let item = c.index-names-number.result in
    record {
      sound = c.in_ok-note.ensures.sound;
      at = entry_kept c.loop-number.index c.note.new.index c.in_ok-note.ensures.nodes c.args.around.now c.in_ok-at.at c.loop-number.invariant.at;
      notes =
          number_noted (held c.args.index.now) (held c.loop-number.index) (held c.note.new.index) (λ (n : ℕ). Definition c.args.file n)
          c.args.file names number item refl c.loop-number-test.true c.loop-number.invariant.notes
          (subst
          (λ (name : List ℕ).
          Notes (held c.loop-number.index) (held c.note.new.index)
          (λ (p : ℕ → Bool) (q : List ℕ). if bytes_eq q name then where_seen p c.args.file (Some (Definition c.args.file number)) else None))
          c.index-names-number.is c.in_ok-note.ensures.notes);
    }
