-- What the passes of a hub have seen, while one after the other steps it and all meet.
use Rattle.std.specs.Prelude.{ℕ, ◌≡◌, List, Some, slice_get}
use Rattle.atomic_table.specs.Seated.{TableId}
use Rattle.mj_schema.specs.declared.schema.Schema.{Schema}
use Rattle.bind_model.specs.declared.event.Event.{Event}
use Rattle.bind_model.specs.Seen.{own_of}
use Rattle.turn_lock.specs.Lists.{Begins}
use Rattle.turn_lock.specs.Passing.{mine_of}
use Rattle.turn_lock.specs.declared.pass.Pass.{Pass}
use Rattle.turn_lock.specs.declared.view.View.{View}
use Rattle.bind_hub.specs.Kept.{Basis}
use Rattle.bind_hub.specs.Passes.{seq_at, IsPassOf}
use Rattle.bind_hub.specs.contracts.kept.KeptEntries.TheImpl.{ghosts}
use Rattle.bind_hub.specs.declared.kept.Kept.{Kept}

-- a pass of a hub
abbrev pub HubPass : Type 0
HubPass = Pass Kept Event Basis ghosts

-- a pass that met others: it has seen then all that it had, and these
pub record Shown (table : TableId) (schema : Schema) (seqs : ℕ) (n : ℕ) (v : View Event Basis) (from : List Event) (n' : ℕ) (at : TableId)
    (w : View Event Basis) : Type 0 where
  pub same : n' ≡ n
  pub pass : IsPassOf table schema seqs n' at w
  pub later : Begins v.seen w.seen
  pub also : Begins from w.seen
  pub mine : mine_of w.parts ≡ mine_of v.parts

-- a pass that has seen these events first, and of its own sequence has just those there
pub record HasAll (table : TableId) (schema : Schema) (seqs : ℕ) (joins : List Event) (k number : ℕ) (at : TableId) (v : View Event Basis) : Type 0 where
  pub numbered : number ≡ k
  pub pass : IsPassOf table schema seqs number at v
  pub begins : Begins joins v.seen
  pub mine : own_of (seq_at k) joins ≡ mine_of v.parts

-- so has each of these, by its number
abbrev pub HaveAll : TableId → Schema → ℕ → List Event → List HubPass → Type 0
HaveAll table schema seqs joins passes = (k : ℕ) (p : HubPass) → slice_get passes k ≡ Some p
    → HasAll table schema seqs joins k p.number p.place.table_id p.place.me.0

-- they are passes of the hub, each at its number
abbrev pub ArePasses : TableId → Schema → ℕ → List HubPass → Type 0
ArePasses table schema seqs passes = (k : ℕ) (p : HubPass) → slice_get passes k ≡ Some p
    → (p.number ≡ k) × IsPassOf table schema seqs p.number p.place.table_id p.place.me.0
