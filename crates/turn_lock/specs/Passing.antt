-- What contracts say of a turn and its passes.
use Rattle.std.specs.Prelude.{◌≡◌, ◌⊎◌, ℕ, ◌++◌, Bool, true, false, List, [], ◌∷◌, Option, Some, None}
use Rattle.atomic_table.specs.Table.{Me}
use Rattle.atomic_table.specs.Seated.{TableId}
use Rattle.turn_lock.specs.declared.view.View.{View}
use Rattle.turn_lock.specs.declared.view.Part.{Part}
use Rattle.turn_lock.specs.Lists.{Begins, Each, own}

-- a basis is known
abbrev pub is_based : {B : Type 0} → Option B → Bool
is_based (Some b) = true
is_based None = false

-- the entries that name a pass, which has one part
abbrev pub mine_of : {E : Type 0} → List (Part E) → List E
mine_of [] = []
mine_of (p ∷ ps) = p.mine

module _ {T E B : Type 0} where
  -- a pass between two turns: it has this number, and these entries name it
  abbrev pub IsPass : Me T (View E B) → ℕ → List E → Type 0
  IsPass me n mine = (me.1 ≡ []) × (me.0.holds ≡ false) × (me.0.parts ≡ record { number = n; mine = mine } ∷ []) × (is_based me.0.basis ≡ true)

  -- the seat is at this table, whose values have this basis
  abbrev pub IsOf : TableId → Option B → TableId → Me T (View E B) → Type 0
  IsOf z base z' me = (z' ≡ z) × (me.0.basis ≡ base)

  -- a pass that was just handed out: nothing names it, and it has seen nothing
  abbrev pub IsFresh : TableId → Option B → ℕ → TableId → Me T (View E B) → Type 0
  IsFresh z base n z' me = IsOf z base z' me × (me.0.parts ≡ record { number = n; mine = [] } ∷ []) × (me.0.seen ≡ [])

module _ {T E B : Type 0} (entries : T → List E) (number : E → ℕ) (basis : T → B) (lawful : B → List E → Type 0) where
  -- the value may be that of a turn of a pass with this basis that has seen and made these entries
  pub record Suits (base : Option B) (n : ℕ) (seen mine : List E) (x : T) : Type 0 where
    pub based : base ≡ Some (basis x)
    pub legal : lawful (basis x) (entries x)
    pub later : Begins seen (entries x)
    pub mine_are : own number n (entries x) ≡ mine

  -- no entry is added, or one that names the pass, and the basis stays
  pub record Adds (n : ℕ) (x x' : T) : Type 0 where
    pub same : basis x' ≡ basis x
    pub entry : (entries x' ≡ entries x) ⊎ ((e : E) × (entries x' ≡ entries x ++ e ∷ []) × (number e ≡ n))

  -- one turn: the value before and after, what the operation did, and what the pass has then seen and made
  pub record Ran {R : Type 0} (op : T → R → T → Type 0) (base : Option B) (n : ℕ) (seen mine : List E) (r : R) (seen' mine' : List E) : Type 0 where
    pub before : T
    pub after : T
    pub suits : Suits base n seen mine before
    pub did : op before r after
    pub adds : Adds n before after
    pub whole : seen' ≡ entries after
    pub legal : lawful (basis before) seen'
    pub mine_are : own number n seen' ≡ mine'

  -- what a seat knows that has seen the whole list, and before it what another had seen
  pub record Learns (v : View E B) (old log : List E) : Type 0 where
    pub later : Begins v.seen log
    pub also : Begins old log
    pub legal : (b : B) → v.basis ≡ Some b → lawful b log
    pub mine : Each (λ (p : Part E). own number p.number log ≡ p.mine) v.parts

  -- the value at the end: it has all that the pass has seen, and of its entries just those that it made
  pub record Closes (n : ℕ) (seen mine : List E) (x : T) : Type 0 where
    pub all_seen : Begins seen (entries x)
    pub mine_are : own number n (entries x) ≡ mine
