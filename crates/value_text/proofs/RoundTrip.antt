-- What is written is read back.
use Rattle.std.proofs.Common.{ℕ, ◌≤◌, Result, Ok, Err, sym}
use Rattle.mj_schema.specs.KindTrees.{KindTree}
use Rattle.mj_schema.specs.declared.schema.Schema.{Schema}
use Rattle.wire_model.specs.Depth.{IsOfKind}
use Rattle.wire_model.specs.Trees.{Tree}
use Rattle.wire_model.specs.declared.value.Value.{Value}
use Rattle.value_text.specs.declared.text_error.TextError.{TextError}
use Rattle.value_text.specs.declared.text_error.TextError.TheVariants as errors
use Rattle.value_text.specs.Brackets.{brackets}
use Rattle.value_text.specs.Rules.{value}
use Rattle.value_text.specs.Spelling.{spell}
use Rattle.value_text.specs.Texts.{Tells, ReadsBack}
use Rattle.value_text.proofs.Shows.{spelled}

pub reads_back : (schema : Schema) (left : ℕ) (k : KindTree) (t : Tree) (read : Result Value TextError) → IsOfKind schema k t → brackets t ≤ left
    → Tells (value schema left k) (spell schema k t) read → ReadsBack t read
reads_back schema left k t (Ok v) f d h = sym (h.1 t (spelled schema left k t f d))
reads_back schema left k t (Err (errors.BadText at)) f d h = h.none t (spelled schema left k t f d)
reads_back schema left k t (Err errors.Memory) f d h = tt
