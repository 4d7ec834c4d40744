-- What the steps of a turn say of the seats that make them.
use Rattle.std.specs.Prelude.{◌≡◌, ◌⊎◌, ℕ, ◌<◌, ◌^◌, ◌++◌, Bool, MatchBool, true, false, List, [], ◌∷◌, length, Option, Some}
use Rattle.atomic_table.specs.Table.{Me}
use Rattle.atomic_table.specs.Seated.{TableId}
use Rattle.turn_lock.specs.declared.view.View.{View}
use Rattle.turn_lock.specs.declared.view.Part.{Part}
use Rattle.turn_lock.specs.Lists.{Begins}
use Rattle.turn_lock.specs.Passing.{IsOf, is_based}
use Rattle.turn_lock.specs.steps.Turning.{grown}

-- a part with this number and these entries is there
abbrev pub HasPart : {E : Type 0} → ℕ → List E → List (Part E) → Type 0
HasPart n mine [] = ⊥
HasPart n mine (p ∷ ps) = ((p.number ≡ n) × (p.mine ≡ mine)) ⊎ HasPart n mine ps

module _ {T E B : Type 0} where
  -- the seat that hands out passes, with what it has taken back
  abbrev pub IsDealer : Me T (View E B) → Type 0
  IsDealer me = (me.1 ≡ []) × (me.0.holds ≡ false) × (me.0.deals ≡ true) × (is_based me.0.basis ≡ true)

  -- a seat between two turns
  abbrev pub IsIdle : Me T (View E B) → Type 0
  IsIdle me = (me.1 ≡ []) × (me.0.holds ≡ false) × (is_based me.0.basis ≡ true)

  -- the dealer, when n passes are handed out and none has come back
  abbrev pub HasDealt : TableId → Option B → ℕ → TableId → Me T (View E B) → Type 0
  HasDealt z base n z' me = IsOf z base z' me × IsDealer me × (me.0.made ≡ n) × (me.0.parts ≡ []) × (me.0.seen ≡ [])

  -- the value is out with the seat, and P holds of it
  abbrev pub HasValue : Me T (View E B) → (T → Type 0) → Type 0
  HasValue me P = (y : T) × (me.1 ≡ (0, y) ∷ []) × P y

module _ {T E B : Type 0} (entries : T → List E) (number : E → ℕ) (basis : T → B) (lawful : B → List E → Type 0) where
  -- the value has one entry more than the seat that has the turn has seen, and it names the seat's pass
  pub record Gained (v : View E B) (y : T) : Type 0 where
    pub pass : Part E
    pub entry : E
    pub base : B
    pub has : v.parts ≡ pass ∷ []
    pub holds : v.holds ≡ true
    pub grows : entries y ≡ v.seen ++ entry ∷ []
    pub names : number entry ≡ pass.number
    pub based : v.basis ≡ Some base
    pub value_based : basis y ≡ base
    pub legal : lawful base (entries y)
    pub few : length (entries y) < 2 ^ 64

  -- the value is what the seat that has the turn has seen
  pub record Matches (v : View E B) (y : T) : Type 0 where
    pub base : B
    pub holds : v.holds ≡ true
    pub listed : entries y ≡ v.seen
    pub based : v.basis ≡ Some base
    pub value_based : basis y ≡ base

  -- the value has one entry more than was seen, or none, as `grew` says
  abbrev pub Settles : View E B → T → Bool → Type 0
  Settles v y grew = MatchBool grew (Gained v y) (Matches v y × (grown entries number basis lawful v (entries y) ≡ v))

  -- the view after the whole list was seen, and what another had seen
  abbrev pub learned : View E B → List E → List E → View E B
  learned v old log = record { basis = v.basis; seen = log; old = old; holds = v.holds; parts = v.parts; deals = v.deals; made = v.made }

  -- one more pass has come back
  pub record Rejoined (v w : View E B) (n : ℕ) (seen mine : List E) : Type 0 where
    pub based : w.basis ≡ v.basis
    pub idle : w.holds ≡ false
    pub later : Begins v.seen w.seen
    pub also : Begins seen w.seen
    pub parts : w.parts ≡ v.parts ++ record { number = n; mine = mine } ∷ []
