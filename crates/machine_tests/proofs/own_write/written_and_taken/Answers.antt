use Rattle.std.proofs.Common.{ℕ, ◌≡◌, ◌<◌, List, length, Some, sym, ◌∙◌, subst, arith, get_or, ⊎_elim}
use Rattle.std.specs.Prelude.{slice_get}
use Rattle.std.proofs.lemmas.Option.{slice_get_cases}
use Rattle.mj_schema.specs.declared.schema.Schema.{Schema}
use Rattle.bind_hub.specs.Passes.{IsPassOf}
use Rattle.machine_tests.proofs.own_write.written_and_taken.Goals as goal

pub work_alone-passes-requires : goal.work_alone-passes-requires
work_alone-passes-requires g c = record {
  passes = λ k p h.
      let f = c.in-Ok.ensures.passes.1 k p h in
      let hub = c.in-Ok.ensures.hub in
      subst (λ (z : Schema × ℕ). IsPassOf c.in-Ok.hub.turn.board.shared.table_id z.0 z.1 p.number p.place.table_id p.place.me.0)
      (λ i. (sym hub.0 i, sym hub.1 i)) f.pass;
}

there_at : {X : Type 0} (xs : List X) (i : ℕ) → i < length xs → (x : X) × (slice_get xs i ≡ Some x)
there_at {X} xs i below = ⊎_elim (λ (h : (x : X) × (i < length xs) × (slice_get xs i ≡ Some x) × (get_or xs i x ≡ x)). (h.0, h.2))
    (λ h. absurd (omega arith)) (slice_get_cases xs i).1

pub close-core-requires-clause-all : goal.close-core-requires-clause-all
close-core-requires-clause-all g c n below =
    let len = c.in-Ok.ensures.passes.0 in
    let few : n < 1 = subst (λ k. n < k) c.in-Ok.ensures.hub.1 below in
    let t = there_at c.in-Ok.passes.items n (omega arith) in
    let f = c.in-Ok.ensures.passes.1 n t.0 t.1 in
    let e = c.work_alone-passes.ensures.each n t.0 t.1 in
    (e.0, e.1, e.2, e.3 ∙ f.numbered)
