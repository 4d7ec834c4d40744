use Rattle.std.proofs.Common.{◌≡◌, ◌++◌, drop}
use Rattle.std.specs.List.{flat_map}
use Rattle.line_parts.specs.Names.{that_are_words}
use Rattle.line_parts.proofs.NameBuilds.{of_method}
use Rattle.line_parts.proofs.names.push_messages.Given as goal

abbrev pub invariant-loop-method : goal.invariant-loop-method
invariant-loop-method l = l.words.items ++ that_are_words (flat_map (of_method l.side l.interface l.row.name) (drop l.method-index l.row.methods))
    ≡ l.initial.words.items ++ that_are_words (flat_map (of_method l.side l.interface l.row.name) l.row.methods)
