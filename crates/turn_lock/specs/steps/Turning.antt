-- The rule of a table with one turn, and what each step tells.
-- Word 0 is the number of entries. Word 1 is 0 while the turn is free, and else 1, or 2 where a seat may wait for it. Slot 0 is the value.
use Rattle.std.specs.Prelude.{◌≡◌, ◌⊎◌, ℕ, ◌+◌, ◌<◌, ◌≤◌, ◌++◌, true, false, List, [], ◌∷◌, length, map, Some, None}
use mathlib.Core.Option.{some, none}
use lib.ListN.{get_elem?}
use Rattle.atomic_table.specs.Table.{State, Me, Step}
use Rattle.turn_lock.specs.declared.view.View.{View}
use Rattle.turn_lock.specs.declared.view.Part.{Part}
use Rattle.turn_lock.specs.Lists.{Begins, Each, own}

-- a part has this number
abbrev pub HasNumber : {E : Type 0} → ℕ → List (Part E) → Type 0
HasNumber n [] = ⊥
HasNumber n (p ∷ ps) = (p.number ≡ n) ⊎ HasNumber n ps

module _ {T E B : Type 0} (entries : T → List E) (number : E → ℕ) (basis : T → B) (lawful : B → List E → Type 0) where
  -- what a seat knows, as plain data
  abbrev V : Type 0
  V = View E B

  -- the pass is made, this seat has it, and its entries are all that name it
  abbrev pub Owns : (ℕ → ℕ) → ℕ → List E → ℕ → Part E → Type 0
  Owns owner made log seat p = (p.number < made) × (owner p.number ≡ seat) × (own number p.number log ≡ p.mine)

  -- what a seat knows holds of the table: where it has the turn it has seen the whole list, and has one pass
  pub record Fits (base : B) (log : List E) (owner : ℕ → ℕ) (made dealer seat : ℕ) (v : V) : Type 0 where
    pub based : (b : B) → v.basis ≡ Some b → b ≡ base
    pub seen_in : Begins v.seen log
    pub old_in : Begins v.old log
    pub whole : v.holds ≡ true → v.seen ≡ log
    pub passes : v.holds ≡ true → (p : Part E) × (v.parts ≡ p ∷ [])
    pub dealt : v.deals ≡ true → (seat ≡ dealer) × (v.made ≡ made)
    pub parts_are : Each (Owns owner made log seat) v.parts

  -- nobody has the turn, and the value is at home
  pub record Free (base : B) (log : List E) (turn : ℕ) (homes : List (mathlib.Core.Option.Option T)) (views : List V) : Type 0 where
    pub value : T
    pub is_free : turn ≡ 0
    pub home : homes ≡ some value ∷ []
    pub listed : entries value ≡ log
    pub based : basis value ≡ base
    pub nobody : (j : ℕ) (v : V) → get_elem? views j ≡ some v → v.holds ≡ false

  -- one seat has the turn, and the value is out with it
  pub record Taken (turn : ℕ) (homes : List (mathlib.Core.Option.Option T)) (views : List V) : Type 0 where
    pub holder : ℕ
    pub view : V
    pub is_taken : 0 < turn
    pub out : homes ≡ none ∷ []
    pub there : get_elem? views holder ≡ some view
    pub holds : view.holds ≡ true
    pub alone : (j : ℕ) (v : V) → get_elem? views j ≡ some v → v.holds ≡ true → j ≡ holder

  -- one list, lawful for one basis: the value's whenever the value is at home. Each number that was made is one seat's, and no entry names
  -- one that wasn't
  pub record Turning (seats : ℕ) (s : State T V) : Type 0 where
    pub base : B
    pub log : List E
    pub turn : ℕ
    pub owner : ℕ → ℕ
    pub made : ℕ
    pub dealer : ℕ
    pub words : s.words ≡ length log ∷ turn ∷ []
    pub legal : lawful base log
    pub slot : Free base log turn s.homes s.views ⊎ Taken turn s.homes s.views
    pub each_seat : (j : ℕ) (v : V) → get_elem? s.views j ≡ some v → Fits base log owner made dealer j v
    pub unmade : (n : ℕ) → made ≤ n → own number n log ≡ []
    pub within : made ≤ seats

  -- what a seat knows of the list that it has just seen whole
  pub record Knows (v : V) (log : List E) : Type 0 where
    pub later : Begins v.seen log
    pub later_old : Begins v.old log
    pub legal : (b : B) → v.basis ≡ Some b → lawful b log
    pub mine : Each (λ (p : Part E). own number p.number log ≡ p.mine) v.parts

  -- the step that a play is of, and the seat before and after it
  abbrev pub At : Type 0
  At = Step T

  -- a seat: what it knows, and what it has taken out
  abbrev pub Sat : Type 0
  Sat = Me T V

  -- it has seen this list
  abbrev pub seeing : V → List E → V
  seeing v log = record { basis = v.basis; seen = log; old = v.old; holds = v.holds; parts = v.parts; deals = v.deals; made = v.made }

  -- and has the turn
  abbrev pub holding : V → List E → V
  holding v log = record { basis = v.basis; seen = log; old = v.old; holds = true; parts = v.parts; deals = v.deals; made = v.made }

  -- it has the turn no more
  abbrev pub releasing : V → V
  releasing v = record { basis = v.basis; seen = v.seen; old = v.old; holds = false; parts = v.parts; deals = v.deals; made = v.made }

  -- it has seen this list, and its passes have all entries in it that name them
  abbrev pub grown : V → List E → V
  grown v log = record {
    basis = v.basis;
    seen = log;
    old = v.old;
    holds = v.holds;
    parts = map (λ (p : Part E). record { number = p.number; mine = own number p.number log }) v.parts;
    deals = v.deals;
    made = v.made;
  }

  -- the turn was free and is the seat's, with the value; or it was not
  abbrev pub took : At → Sat → ℕ → Sat → Type 0
  took st m n m' =
      (n ≡ 0 → (y : T) × (m' ≡ (holding m.0 (entries y), (0, y) ∷ m.1)) × Knows m.0 (entries y) × ((b : B) → m.0.basis ≡ Some b → b ≡ basis y))
      × ((n ≡ 0 → ⊥) → m' ≡ m)

  -- the seat notes the entries of the value that it has
  abbrev pub noted : At → Sat → ℕ → Sat → Type 0
  noted st m n m' = (y : T) (rest : List (ℕ × T)) → m.1 ≡ (0, y) ∷ rest → m' ≡ (grown m.0 (entries y), m.1)

  -- the turn is free, and the value at home
  abbrev pub gave : At → Sat → ℕ → Sat → Type 0
  gave st m n m' = (y : T) (rest : List (ℕ × T)) → m.1 ≡ (0, y) ∷ rest → m' ≡ (releasing m.0, rest)

  -- the whole list is seen
  abbrev pub looked : At → Sat → ℕ → Sat → Type 0
  looked st m n m' = (log : List E) × (m' ≡ (seeing m.0 log, m.1)) × Knows m.0 log

module _ {E B : Type 0} where
  -- a view that knows nothing
  abbrev pub blank : View E B
  blank = record { basis = None; seen = []; old = []; holds = false; parts = []; deals = false; made = 0 }

  -- one more pass is handed out
  abbrev pub dealing : View E B → View E B
  dealing v = record { basis = v.basis; seen = v.seen; old = v.old; holds = v.holds; parts = v.parts; deals = v.deals; made = v.made + 1 }

  -- the pass that is handed out: it has seen what the dealer has seen
  abbrev pub newcomer : View E B → View E B
  newcomer v = record {
    basis = v.basis;
    seen = v.seen;
    old = [];
    holds = false;
    parts = record { number = v.made; mine = [] } ∷ [];
    deals = false;
    made = 0;
  }

  -- what was seen, for another pass to learn
  abbrev pub copy : View E B → View E B
  copy v = record { basis = None; seen = v.seen; old = []; holds = false; parts = []; deals = false; made = 0 }

  -- two seats in one: it keeps what the other had seen beside what it has seen itself
  abbrev pub joined : View E B → View E B → View E B
  joined v w = record { basis = v.basis; seen = v.seen; old = w.seen; holds = v.holds; parts = v.parts ++ w.parts; deals = v.deals; made = v.made }

  -- the first seat of a table, which hands out passes
  abbrev pub opened : B → View E B
  opened b = record { basis = Some b; seen = []; old = []; holds = false; parts = []; deals = true; made = 0 }
