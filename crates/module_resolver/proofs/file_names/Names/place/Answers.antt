use Rattle.module_resolver.proofs.file_names.Names.place.Goals as goal

pub invariant_of-result : goal.invariant_of-result
invariant_of-result c = record { there = c.seat.ensures.there; is = c.seat.ensures.is }
