use Rattle.std.proofs.Common.{ℕ, List}
use Rattle.module_resolver.specs.Seats.{held}
use Rattle.module_resolver.specs.LookUp.{defined_in}
use Rattle.module_resolver.proofs.Owned.{file_noted}
use Rattle.module_resolver.proofs.index.note_all_defined.Goals as goal

pub loop-file-preserved : goal.loop-file-preserved
loop-file-preserved c =
    record {
      sound = c.in_ok-note_defined.ensures.sound;
      notes =
          file_noted (held c.args.index.now) (held c.loop-file.index) (held c.note_defined.new.index)
          (λ (q : List ℕ). defined_in c.args.files.now q) c.args.order.now c.loop-file.file-index c.loop-file-test.true c.loop-file.invariant.notes
          c.in_ok-note_defined.ensures.notes;
    }
