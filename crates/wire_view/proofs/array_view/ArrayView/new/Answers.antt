use Rattle.wire_view.proofs.array_view.ArrayView.new.Goals as goal

pub invariant_of-result : goal.invariant_of-result
invariant_of-result c = record { stands = c.requires.stands; counted = c.requires.counted }
