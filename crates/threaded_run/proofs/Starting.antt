-- The passes of a hub as they are handed out.
use Rattle.std.proofs.Common.{◌≡◌, ℕ, [], List, length, sym, ◌∙◌, subst, Some}
use Rattle.std.specs.Prelude.{slice_get}
use Rattle.mj_schema.specs.declared.schema.Schema.{Schema}
use Rattle.turn_lock.proofs.Lists.{begins_nil}
use Rattle.bind_hub.specs.Hubs.{schema_in, seqs_in}
use Rattle.bind_hub.specs.Passes.{IsFirst}
use Rattle.bind_hub.specs.declared.shared.Hub.{Hub}
use Rattle.threaded_run.specs.steps.Passes.{ArePasses, HaveAll, HubPass}

module _ (schema : Schema) (seqs : ℕ) (hub : Hub) (passes : List HubPass) (is : (schema_in hub ≡ schema) × (seqs_in hub ≡ seqs))
    (first : (length passes ≡ seqs) × ((k : ℕ) (p : HubPass) → slice_get passes k ≡ Some p
    → IsFirst hub.turn.board.shared.table_id schema seqs k p.number p.place.table_id p.place.me.0)) where
  first_at : (k : ℕ) (p : HubPass) → slice_get passes k ≡ Some p
      → IsFirst hub.turn.board.shared.table_id (schema_in hub) (seqs_in hub) k p.number p.place.table_id p.place.me.0
  first_at k p got =
      subst (λ (s : Schema). IsFirst hub.turn.board.shared.table_id s (seqs_in hub) k p.number p.place.table_id p.place.me.0) (sym is.0)
      (subst (λ (n : ℕ). IsFirst hub.turn.board.shared.table_id schema n k p.number p.place.table_id p.place.me.0) (sym is.1) (first.1 k p got))

  pub count_first : length passes ≡ seqs_in hub
  count_first = first.0 ∙ sym is.1

  pub are_first : ArePasses hub.turn.board.shared.table_id (schema_in hub) (seqs_in hub) passes
  are_first k p got = let f = first_at k p got in (f.numbered, f.pass)

  -- they have seen nothing
  pub have_none : HaveAll hub.turn.board.shared.table_id (schema_in hub) (seqs_in hub) [] passes
  have_none k p got =
      let f = first_at k p got in
      record { numbered = f.numbered; pass = f.pass; begins = begins_nil p.place.me.0.seen; mine = sym f.mine }
