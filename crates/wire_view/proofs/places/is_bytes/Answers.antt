use Rattle.std.proofs.Common.{◌≡◌, ℕ, Bool, false, Option, None, refl, sym, ap, ◌∙◌}
use Rattle.mj_schema.specs.KindTrees.{KindTree, ArrayKind, IntKind, kind_view}
use Rattle.mj_schema.specs.declared.kind.Width.TheVariants.{Bits8}
use Rattle.wire_view.specs.Parts.{is_bytes}
use Rattle.wire_view.proofs.places.is_bytes.Goals as goal

-- whether an array has a fixed count, or may be null, changes nothing
by_element : (of : KindTree) (count : Option ℕ) (nullable : Bool) → is_bytes (ArrayKind of None false) ≡ is_bytes (ArrayKind of count nullable)
by_element (IntKind Bits8 false false) count nullable = refl
by_element of count nullable = refl

pub returns-in-Array : goal.returns-in-Array
returns-in-Array c =
    let byte = rw c.deref.ensures at c.is_byte.ensures in
    byte ∙ by_element (kind_view c.in-Array.of.value) c.in-Array.count c.in-Array.nullable ∙ ap is_bytes (sym (ap kind_view c.in-Array.is))
