-- One pass meets others.
use Rattle.std.proofs.Common.{◌≡◌, ℕ, List, refl, ◌∙◌}
use Rattle.atomic_table.specs.Seated.{TableId}
use Rattle.mj_schema.specs.declared.schema.Schema.{Schema}
use Rattle.bind_model.specs.declared.event.Event.{Event}
use Rattle.turn_lock.specs.Lists.{Begins}
use Rattle.turn_lock.specs.declared.view.View.{View}
use Rattle.turn_lock.proofs.Lists.{begins_itself, begins_then}
use Rattle.bind_hub.specs.Kept.{Basis}
use Rattle.bind_hub.specs.Passes.{IsPassOf, Met}
use Rattle.threaded_run.specs.steps.Passes.{Shown}

pub shown_first : (table at : TableId) (schema : Schema) (seqs n : ℕ) (v : View Event Basis) → IsPassOf table schema seqs n at v
    → Shown table schema seqs n v v.seen n at v
shown_first table at schema seqs n v p = record { same = refl; pass = p; later = begins_itself v.seen; also = begins_itself v.seen; mine = refl }

-- the other one, of which nothing was known but that it is a pass
pub shown_other : (table at : TableId) (schema : Schema) (seqs n n' : ℕ) (v w one : View Event Basis) (from : List Event) → Begins from one.seen → n' ≡ n
    → IsPassOf table schema seqs n' at w
    → Met schema seqs v one w → Shown table schema seqs n v from n' at w
shown_other table at schema seqs n n' v w one from b same p m
    = record { same = same; pass = p; later = m.later; also = begins_then from one.seen w.seen b m.also; mine = m.mine }

-- the one itself, once more
pub shown_one : (table at : TableId) (schema : Schema) (seqs n n' n'' : ℕ) (v w x other : View Event Basis) (from : List Event) (at' : TableId)
    → Shown table schema seqs n v from n' at' w → n'' ≡ n' → IsPassOf table schema seqs n'' at x
    → Met schema seqs w other x → Shown table schema seqs n v from n'' at x
shown_one table at schema seqs n n' n'' v w x other from at' t same p m =
    record {
      same = same ∙ t.same;
      pass = p;
      later = begins_then v.seen w.seen x.seen t.later m.later;
      also
          = begins_then from w.seen x.seen t.also m.later;
      mine = m.mine ∙ t.mine;
    }

pub shown_from : (table at : TableId) (schema : Schema) (seqs n n' : ℕ) (v w : View Event Basis) (from from' : List Event) → Begins from from'
    → Shown table schema seqs n v from' n' at w → Shown table schema seqs n v from n' at w
shown_from table at schema seqs n n' v w from from' b t
    = record { same = t.same; pass = t.pass; later = t.later; also = begins_then from from' w.seen b t.also; mine = t.mine }

pub shown_twice : (table at at' : TableId) (schema : Schema) (seqs n n' n'' : ℕ) (v w x : View Event Basis) (from from' : List Event)
    → Shown table schema seqs n v from n' at w → Shown table schema seqs n' w from' n'' at' x → Shown table schema seqs n v from n'' at' x
shown_twice table at at' schema seqs n n' n'' v w x from from' s t = record {
  same = t.same ∙ s.same;
  pass = t.pass;
  later = begins_then v.seen w.seen x.seen s.later t.later;
  also = begins_then from w.seen x.seen s.also t.later;
  mine = t.mine ∙ s.mine;
}
