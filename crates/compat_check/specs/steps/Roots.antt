-- The stable definitions of an older schema, as they are gathered.
use Rattle.std.specs.Prelude.{ℕ, List, [], ◌∷◌, Option, if◌then◌else◌}
use Rattle.mj_schema.specs.declared.rows.DefinitionRow.{DefinitionRow}
use Rattle.mj_schema.specs.declared.rows.InterfaceRow.{InterfaceRow}
use Rattle.mj_schema.specs.declared.rows.RowSort.TheVariants as sorts
use Rattle.mj_schema.specs.declared.schema.Schema.{Schema}
use Rattle.compat_model.specs.declared.root.Root.{Root}
use Rattle.compat_model.specs.Verdicts.{is_stable, partner_of, root_of}

-- the number of the newer schema's interface of an interface's full name
abbrev pub namesake : Schema → InterfaceRow → Option ℕ
namesake new row = partner_of new sorts.Interface row.name

-- a definition, if it is stable
abbrev pub root_if_stable : Schema → Schema → DefinitionRow → List Root
root_if_stable old new d = if is_stable old d.sort d.number then root_of old new d ∷ [] else []
