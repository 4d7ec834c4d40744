-- Sets of ends.
use Rattle.std.specs.Prelude.{Bool, List}
use Rattle.std.specs.List.{list_any}
use Rattle.mj_base.specs.declared.ids.EndId.{EndId}
use Rattle.handle_table.specs.Things.{same_end}

-- whether an end is in a set
abbrev pub has_end : List EndId → EndId → Bool
has_end ends x = list_any (λ y. same_end x y) ends
