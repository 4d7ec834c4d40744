-- Nothing is written behind a value that nothing stands behind.
use Rattle.std.proofs.Common.{◌≡◌, ℕ, true, List, [], ◌++◌, refl, sym, ap, ◌∙◌}
use Rattle.std.proofs.lemmas.List.{append-nil}
use Rattle.mj_schema.specs.KindTrees.{KindTree}
use Rattle.mj_schema.specs.declared.schema.Schema.{Schema}
use Rattle.wire_model.specs.Emit.{emit}
use Rattle.wire_model.specs.Trees as values
use Rattle.wire_model.specs.Trees.{Tree}
use Rattle.tight_bytes.specs.steps.Flat.{is_flat}

flat_is : (schema : Schema) (k : KindTree) (t : Tree) → is_flat t ≡ true → emit schema true k t ≡ []
unfolding emit
flat_is schema k (values.Flag b) e = refl
flat_is schema k (values.Whole n) e = refl
flat_is schema k (values.Text bs) e = absurd cc
flat_is schema k (values.Items ts) e = absurd cc
flat_is schema k (values.Pairs ts) e = absurd cc
flat_is schema k (values.Fields ts) e = absurd cc
flat_is schema k (values.Member tag t) e = absurd cc
flat_is schema k (values.Unknown tag) e = refl
flat_is schema k (values.Handle i) e = refl
flat_is schema k (values.Remote i v) e = refl
flat_is schema k (values.Endpoint i) e = refl
flat_is schema k (values.EndpointRemote i v) e = refl
flat_is schema k values.Null e = refl

pub flat_append : (schema : Schema) (k : KindTree) (t : Tree) (xs : List ℕ) → is_flat t ≡ true → xs ≡ xs ++ emit schema true k t
flat_append schema k t xs e = sym (append-nil xs) ∙ ap (λ l. xs ++ l) (sym (flat_is schema k t e))
