use Rattle.wire_view.proofs.struct_view.StructView.new.Goals as goal

pub invariant_of-result : goal.invariant_of-result
invariant_of-result c = record { stands = c.requires }
