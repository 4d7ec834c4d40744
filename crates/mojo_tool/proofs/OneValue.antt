-- A text spells one value of a kind at most, or is bad at one place.
use Rattle.std.proofs.Common.{◌≡◌, ◌≤◌, ℕ, List, [], Ok, Err, sym, ap, ◌∙◌, arith}
use Rattle.mj_schema.specs.KindTrees.{KindTree}
use Rattle.mj_schema.specs.declared.schema.Schema.{Schema}
use Rattle.wire_model.specs.Trees.{Tree}
use Rattle.wire_model.specs.Trees as values
use Rattle.byte_rules.specs.Lang.{Read}
use Rattle.byte_rules.specs.Judged.{Spells, IsBad}
use Rattle.byte_rules.proofs.Judging.{reads}
use Rattle.value_text.proofs.KindLaws.{good_kind}
use Rattle.value_text.specs.Brackets.{MAX_BRACKETS}
use Rattle.value_text.specs.Rules.{value}

-- one value, and one place
pub record OneValue (schema : Schema) (kind : KindTree) (text : List ℕ) : Type 0 where
  pub one_tree : (a b : Tree) → Spells (value schema MAX_BRACKETS kind) a text → Spells (value schema MAX_BRACKETS kind) b text → a ≡ b
  pub one_place : (a b : ℕ) → IsBad (value schema MAX_BRACKETS kind) text a → IsBad (value schema MAX_BRACKETS kind) text b → a ≡ b

-- the value that was read
abbrev tree_in : Read Tree → Tree
tree_in (Ok x) = x.0
tree_in (Err n) = values.Null

-- what is bad at a place is bad nowhere behind
no_later : (schema : Schema) (kind : KindTree) (text : List ℕ) (a b : ℕ) → IsBad (value schema MAX_BRACKETS kind) text a
    → IsBad (value schema MAX_BRACKETS kind) text b → a ≤ b
no_later schema kind text a b at bt = bt.no_more a at.within (at.begins a (omega arith))

pub one_value : (schema : Schema) (kind : KindTree) (text : List ℕ) → OneValue schema kind text
one_value schema kind text = record {
  one_tree = λ a b x y. ap tree_in (sym (read a x) ∙ read b y);
  one_place = λ a b x y.
      let below : a ≤ b = no_later schema kind text a b x y in
      let above : b ≤ a = no_later schema kind text b a y x in
      omega (arith, below, above);
}
  where
    read : (t : Tree) → Spells (value schema MAX_BRACKETS kind) t text → (value schema MAX_BRACKETS kind).read text ≡ Ok (t, [])
    read t s = reads (value schema MAX_BRACKETS kind) (good_kind schema MAX_BRACKETS kind) text t s
