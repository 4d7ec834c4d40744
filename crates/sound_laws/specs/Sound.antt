-- That the tables of files have what a schema keeps by its type.
use Rattle.std.specs.Prelude.{IsTrue}
use Rattle.mj_schema.specs.Sound.{are_sound, are_texts}
use Rattle.draft_rows.specs.declared.draft.Draft.{Draft}

-- literals are of their kinds, names of members differ, later fields can be absent, no list is too long, and each row is listed once
abbrev pub IsSound : Draft → Type 0
IsSound draft = IsTrue (are_sound draft.structs draft.unions draft.enums draft.interfaces draft.consts draft.order)

-- the texts of defaults and of constants are UTF-8
abbrev pub HasTexts : Draft → Type 0
HasTexts draft = IsTrue (are_texts draft.structs draft.consts)
