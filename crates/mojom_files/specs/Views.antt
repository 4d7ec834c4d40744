-- What is lent of a tree, as the tree has it.
use Rattle.std.specs.Prelude.{ℕ, List, Option}
use Rattle.mojom_ast.specs.declared.names.Identifier.{Identifier}
use Rattle.mojom_ast.specs.declared.attributes.Attribute.{Attribute}
use Rattle.mojom_ast.specs.declared.definitions.DefinitionItem.{DefinitionItem}
use Rattle.mojom_ast.specs.declared.definitions.DefinitionItem.TheVariants as items
use Rattle.mojom_files.specs.declared.definition_view.ItemView.{ItemView}
use Rattle.mojom_files.specs.declared.definition_view.ItemView.TheVariants as views
use Rattle.mj_base.specs.Names.{around, full_name}
use Rattle.mojom_files.specs.Definitions.{Defined}

-- a definition that is lent
abbrev pub item_view : ItemView → DefinitionItem
item_view (views.Struct item) = items.Struct item.now
item_view (views.Union item) = items.Union item.now
item_view (views.Enum item) = items.Enum item.now
item_view (views.Interface item) = items.Interface item.now
item_view (views.Const item) = items.Const item.now

-- a definition in a module, by the own name of the one around it and its identifier
abbrev pub defined_by : Option (List ℕ) → Option (List ℕ) → Identifier → List Attribute → DefinitionItem → Defined
defined_by module_name outer name attributes item = record {
  full = full_name module_name outer name.text;
  enclosing = around module_name outer;
  name = name;
  attributes = attributes;
  item = item;
}
