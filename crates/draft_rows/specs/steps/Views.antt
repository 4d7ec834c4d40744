-- What the code lends and hands on, as contracts see it.
use Rattle.draft_rows.specs.declared.enum_row.ValuedView.{ValuedView}
use Rattle.draft_rows.specs.declared.draft.Draft.{Draft}
use Rattle.draft_rows.specs.declared.draft.DraftLists.{DraftLists}
use Rattle.draft_rows.specs.Rows.{Valued}

-- what the code has of it
abbrev pub valued_view : ValuedView → Valued
valued_view v = record { enumerator = v.enumerator.now; number = v.number }

-- what the code has of them
abbrev pub lists_view : DraftLists → Draft
lists_view l = record {
  structs = l.structs.items;
  unions = l.unions.items;
  enums = l.enums.items;
  interfaces = l.interfaces.items;
  consts = l.consts.items;
  order = l.order.items;
}
