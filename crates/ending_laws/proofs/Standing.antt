-- An endpoint that stands stays, of its side; closed, or with a peer known to be closed, it stays so. The ids that an end makes are new.
use Rattle.std.proofs.Common.{◌≡◌, ◌≤◌, ◌<◌, ℕ, suc, inl, inr, ◌+◌, Bool, true, false, List, [], ◌∷◌, ◌++◌, length, refl, sym, ap, ◌∙◌, subst, arith}
use Rattle.std.specs.Prelude.{Option, Some, None, if◌then◌else◌, not, ◌&&◌, ◌||◌, ◌==◌, nat_le, is_some, nat_lt}
use Rattle.std.specs.Option.{option_map}
use Rattle.std.specs.List.{list_any}
use Rattle.std.proofs.lemmas.List.{length-append}
use Rattle.std.proofs.lemmas.Bool.{eqb-true, eq-eqb}
use Rattle.std.proofs.lemmas.Bool.Decides.{nat_tests}
use Rattle.mj_base.specs.declared.ids.EndId.{EndId}
use Rattle.mj_base.specs.declared.ids.SeqId.{SeqId}
use Rattle.mj_base.specs.declared.limits.TheConstants.{MAX_EVENTS}
use Rattle.handle_table.specs.declared.thing.Thing.{Thing}
use Rattle.handle_table.specs.declared.thing.Thing.TheVariants.{End}
use Rattle.message_pipe.specs.declared.message.Message.{Message}
use Rattle.bind_model.specs.declared.limits.TheConstants.{REMOTE_IDS}
use Rattle.bind_model.specs.declared.endpoint.Endpoint.{Endpoint}
use Rattle.bind_model.specs.declared.endpoint.PendingId.{PendingId}
use Rattle.bind_model.specs.declared.endpoint.State.TheVariants as states
use Rattle.wire_encoder.specs.declared.endpoint.EndpointSide.TheVariants.{Remote, Receiver}
use Rattle.bind_model.specs.declared.asked.Asked.{Asked}
use Rattle.bind_model.specs.declared.asked.Asked.TheVariants.{Attach}
use Rattle.bind_model.specs.declared.told.Why.TheVariants.{NoName, Disconnected, WrongPipe}
use Rattle.bind_model.specs.declared.told.Told.{Told}
use Rattle.bind_model.specs.declared.told.Told.TheVariants.{Associated, Attached, Taken, Dropped, No}
use Rattle.bind_model.specs.declared.event.Event.{Event}
use Rattle.bind_model.specs.declared.told.Noted.TheVariants as noted
use Rattle.handle_table.specs.Things.{same_end, has, alike}
use Rattle.bind_model.specs.Wire.{Wire, Named}
use Rattle.bind_model.specs.Machine.{bounds, gone, is_gone, out, associated, associates, written, endpoint_at, changes, enters, enters_from, unread_of, front_of, entry_in, entries_of, is_strange, is_own, is_remote, is_closed, endpoint_named, only_at, is_local, with_state, with_peer_closed, Endpoints}
use Rattle.bind_model.specs.Replies.{legal, answer, next_id, unless, has_pending, pendings_out, half_closed}
use Rattle.handle_table.proofs.ThingsLemmas.{same_end-true, or_right, and_left, and_right, not_left, not_right}
use Rattle.bind_model.proofs.Counting.{times-present}
use Rattle.bind_model.proofs.Kept.{Kept, most, bound_held}
use Rattle.bind_model.proofs.Fresh.{kept}
use Rattle.bind_model.proofs.Outcomes.{Outcome, outcome, first_cases, held, is_true, right_false, binds, associates as makes, attaches, gets, drops, controls, closes_pending, closes_end, closes_endpoint}

-- closed, or its peer is known to be
abbrev pub is_shut : Endpoint → Bool
is_shut r = is_closed r || r.peer_closed

-- an endpoint and what became of it
pub record StaysAs (r s : Endpoint) : Type 0 where
  pub side : s.side ≡ r.side
  pub shut : is_shut r ≡ true → is_shut s ≡ true
  pub closed : is_closed r ≡ true → is_closed s ≡ true

abbrev pub Stands : Option Endpoint → Option Endpoint → Type 0
Stands before now = (r : Endpoint) → before ≡ Some r → (s : Endpoint) × (now ≡ Some s) × StaysAs r s

-- ## What an event makes of one endpoint

same_stands : (o : Option Endpoint) → Stands o o
same_stands o r e = (r, e, record { side = refl; shut = λ h. h; closed = λ h. h })

map_stands : (f : Endpoint → Endpoint) (o : Option Endpoint) → ((r : Endpoint) → o ≡ Some r → StaysAs r (f r)) → Stands o (option_map f o)
map_stands f None good r e = absurd (cc)
map_stands f (Some q) good r e = let is : q ≡ r = cc in (f q, refl, subst (λ z. StaysAs z (f q)) is (good q refl))

only_stands : (y : EndId) (n : ℕ) (x : EndId) (id : ℕ) (now before : Option Endpoint) → ((same_end y x && (n == id)) ≡ true → Stands before now)
    → Stands before (only_at y n x id now before)
only_stands y n x id now before here = go (same_end y x && (n == id)) refl
  where
    go : (b : Bool) → (same_end y x && (n == id)) ≡ b → Stands before (if b then now else before)
    go true e = here e
    go false e = same_stands before

closes_it : (r : Endpoint) → StaysAs r (with_state states.Closed r)
closes_it r = record { side = refl; shut = λ h. refl; closed = λ h. refl }

marks_it : (r : Endpoint) → StaysAs r (with_peer_closed r)
marks_it r = record { side = refl; shut = λ h. or_right (is_closed r) true refl; closed = λ h. h }

attaches_it : (t : SeqId) (r : Endpoint) → is_closed r ≡ false → StaysAs r (with_state (states.Bound t) r)
attaches_it t r still = record {
  side = refl;
  shut = λ h. let marked : (false || r.peer_closed) ≡ true = rw still at h in marked;
  closed = λ h. absurd (let no : true ≡ false = sym h ∙ still in cc);
}

-- ## Ids that come with a message

-- an id that has an endpoint doesn't enter
known_stays : (endpoints : Endpoints) (named : List Named) (k : ℕ) (earlier ids : List ℕ) (id : ℕ) (r : Endpoint) (before : Option Endpoint)
    → endpoints id ≡ Some r → entry_in (entries_of endpoints named k earlier ids) id before ≡ before
known_stays endpoints named k earlier [] id r before e = refl
known_stays endpoints named k earlier (j ∷ ids) id r before e =
    go (is_strange endpoints earlier j) refl (known_stays endpoints named (suc k) (j ∷ earlier) ids id r before e)
  where
    other : (b : Bool) → (j == id) ≡ b → is_strange endpoints earlier j ≡ false → b ≡ false
    other false same new = refl
    other true same new =
        let is : j ≡ id = eqb-true j id same in
        let none : is_some (endpoints j) ≡ false = not_left (is_some (endpoints j)) (list_any (λ i. i == j) earlier)
        (not_left (is_some (endpoints j) || list_any (λ i. i == j) earlier) (is_own endpoints j) new) in
        let some : is_some (endpoints j) ≡ true = ap (λ i. is_some (endpoints i)) is ∙ ap is_some e in
        absurd (cc)

    go : (b : Bool) → is_strange endpoints earlier j ≡ b → entry_in (entries_of endpoints named (suc k) (j ∷ earlier) ids) id before ≡ before
        → entry_in (if b then entries_of endpoints named (suc k) (j ∷ earlier) ids else
        (record { id = j; endpoint = endpoint_named named k } ∷ entries_of endpoints named (suc k) (j ∷ earlier) ids)) id before ≡ before
    go true s rest = rest
    go false s rest = rw (other (j == id) refl s) rest

-- an id that enters isn't one that this end makes
entered_strange : (endpoints : Endpoints) (named : List Named) (k : ℕ) (earlier ids : List ℕ) (id : ℕ) (r : Endpoint)
    → entry_in (entries_of endpoints named k earlier ids) id None ≡ Some r → is_own endpoints id ≡ false
entered_strange endpoints named k earlier [] id r e = absurd (cc)
entered_strange endpoints named k earlier (j ∷ ids) id r e =
    go (is_strange endpoints earlier j) refl (entered_strange endpoints named (suc k) (j ∷ earlier) ids id r) e
  where
    here : (b : Bool) → (j == id) ≡ b → is_strange endpoints earlier j ≡ false
        → (entry_in (entries_of endpoints named (suc k) (j ∷ earlier) ids) id None ≡ Some r → is_own endpoints id ≡ false)
        → (if b then Some (endpoint_named named k) else entry_in (entries_of endpoints named (suc k) (j ∷ earlier) ids) id None) ≡ Some r
        → is_own endpoints id ≡ false
    here true same new rest e =
        subst (λ i. is_own endpoints i ≡ false) (eqb-true j id same)
        (not_right (is_some (endpoints j) || list_any (λ i. i == j) earlier) (is_own endpoints j) new)
    here false same new rest e = rest e

    go : (b : Bool) → is_strange endpoints earlier j ≡ b
        → (entry_in (entries_of endpoints named (suc k) (j ∷ earlier) ids) id None ≡ Some r → is_own endpoints id ≡ false)
        → entry_in (if b then entries_of endpoints named (suc k) (j ∷ earlier) ids else
        (record { id = j; endpoint = endpoint_named named k } ∷ entries_of endpoints named (suc k) (j ∷ earlier) ids)) id None ≡ Some r
        → is_own endpoints id ≡ false
    go true s rest e = rest e
    go false s rest e = here (j == id) refl s rest e

known_from : (wire : Wire) (endpoints : Endpoints) (told : Told) (o : Option Message) (id : ℕ) (r : Endpoint) (before : Option Endpoint)
    → endpoints id ≡ Some r
    → entry_in (enters_from wire endpoints told o) id before ≡ before
known_from wire endpoints told None id r before e = refl
known_from wire endpoints (Taken g) (Some m) id r before e = known_stays endpoints _ 0 [] _ id r before e
known_from wire endpoints told (Some m) id r before e = known_stays endpoints [] 0 [] _ id r before e

strange_from : (wire : Wire) (endpoints : Endpoints) (told : Told) (o : Option Message) (id : ℕ) (r : Endpoint)
    → entry_in (enters_from wire endpoints told o) id None ≡ Some r → is_own endpoints id ≡ false
strange_from wire endpoints told None id r e = absurd (cc)
strange_from wire endpoints (Taken g) (Some m) id r e = entered_strange endpoints _ 0 [] _ id r e
strange_from wire endpoints told (Some m) id r e = entered_strange endpoints [] 0 [] _ id r e

-- ## The ids that an end makes

-- those that have an endpoint are below the next one
abbrev pub OwnBelow : Wire → List Event → Type 0
OwnBelow wire past = (y : EndId) (id : ℕ) (r : Endpoint) → endpoint_at wire past y id ≡ Some r → (id == 0) ≡ false
    → is_own (endpoint_at wire past y) id ≡ true → id < next_id wire past y

-- the next one is of those
own_number : (bound n : ℕ) (b : Bool) → n + 1 < bound → alike (nat_le bound (n + 1 + (if b then bound else 0))) b ≡ true
own_number bound n true few = grind (arith, nat_tests)
own_number bound n false few = grind (arith, nat_tests)

pub next_own : (wire : Wire) (past : List Event) (y : EndId) → length (associated past y) + 1 < REMOTE_IDS
    → is_own (endpoint_at wire past y) (next_id wire past y) ≡ true
next_own wire past y few = own_number REMOTE_IDS (length (associated past y)) (is_remote (endpoint_at wire past y 0)) few

associates_one : (told : Told) (y : EndId) → length (associates told y) ≤ 1
associates_one (Associated p) y = go (same_end p.end y)
  where
    go : (b : Bool) → length (if b then p.id ∷ [] else []) ≤ 1
    go true = omega arith
    go false = omega arith
associates_one told y = omega arith

pub few_associated : (past : List Event) (y : EndId) → length (associated past y) ≤ length past
few_associated [] y = omega arith
few_associated (event ∷ past) y =
    let before = few_associated past y in
    let one = associates_one event.told y in
    let all = length-append (associated past y) (associates event.told y) in
    omega (arith, before, one, all)

some_of : (f : Endpoint → Endpoint) (o : Option Endpoint) (r : Endpoint) → option_map f o ≡ Some r → (s : Endpoint) × (o ≡ Some s)
some_of f None r e = absurd (cc)
some_of f (Some s) r e = (s, refl)

-- ## One event

module _ (wire : Wire) (seqs : ℕ) (past : List Event) (seq : SeqId) (k : Kept wire past) (below : OwnBelow wire past)
    (few : (y : EndId) → length (associated past y) + 1 < REMOTE_IDS) where
  abbrev now : Told → Asked → EndId → ℕ → Option Endpoint
  now told asked x id = changes wire past (written wire past) (endpoint_at wire past) seq told asked x id

  not_both : (z : Thing) → has (out past) z ≡ true → has (bounds past) z ≡ true → ⊥
  not_both z o b = go (has (gone past) z) refl
    where
      go : (c : Bool) → has (gone past) z ≡ c → ⊥
      go true e = omega (arith, k.one z, most wire past k z, times-present z (out past) o, times-present z (gone past) e)
      go false e = omega (arith, k.one z, most wire past k z, times-present z (out past) o, bound_held wire past k z b e)

  bind_stands : (z x : EndId) (id : ℕ) (new : Option Endpoint) → has (out past) (End z) ≡ true
      → Stands (endpoint_at wire past x id) (only_at z 0 x id new (endpoint_at wire past x id))
  bind_stands z x id new o = only_stands z 0 x id new (endpoint_at wire past x id) (λ at. λ r there.
      let is : z ≡ x = same_end-true z x (and_left (same_end z x) (0 == id) at) in
      absurd (not_both (End x) (subst (λ e. has (out past) (End e) ≡ true) is o) (k.endpoints x id r there)))

  not_zero : (y : EndId) → (next_id wire past y == 0) ≡ false
  not_zero y = go (next_id wire past y == 0) refl
    where
      go : (b : Bool) → (next_id wire past y == 0) ≡ b → b ≡ false
      go true e = let zero : next_id wire past y ≡ 0 = eqb-true (next_id wire past y) 0 e in absurd (omega arith)
      go false e = refl

  -- nothing stands under the next id
  next_free : (y : EndId) (r : Endpoint) → endpoint_at wire past y (next_id wire past y) ≡ Some r → ⊥
  next_free y r there =
      let less = below y (next_id wire past y) r there (not_zero y) (next_own wire past y (few y)) in
      omega (arith, less)

  make_stands : (y : EndId) (p : PendingId) (x : EndId) (id : ℕ) (new : Option Endpoint) → p ≡ record { end = y; id = next_id wire past y }
      → Stands (endpoint_at wire past x id) (only_at p.end p.id x id new (endpoint_at wire past x id))
  make_stands y p x id new q = only_stands p.end p.id x id new (endpoint_at wire past x id) (λ at. λ r there.
      let is : p.end ≡ x = same_end-true p.end x (and_left (same_end p.end x) (p.id == id) at) in
      let number : p.id ≡ id = eqb-true p.id id (and_right (same_end p.end x) (p.id == id) at) in
      let here : endpoint_at wire past p.end p.id ≡ Some r =
      subst (λ z. endpoint_at wire past z p.id ≡ Some r) (sym is) (subst (λ n. endpoint_at wire past x n ≡ Some r) (sym number) there) in
      absurd (next_free y r (subst (λ (q : PendingId). endpoint_at wire past q.end q.id ≡ Some r) q here)))

  -- what is attached wasn't closed
  attach_open : (p : PendingId) (t : SeqId) (n : ℕ) → Attached n ≡ answer wire seqs past seq (Attach p t)
      → half_closed (endpoint_at wire past p.end p.id) ≡ false
  attach_open p t n h = elim (first_cases (
      unless (has_pending (pendings_out past) p && nat_lt t.0 seqs) NoName
      ∷ unless (not (is_gone past p.end || half_closed (endpoint_at wire past p.end p.id))) Disconnected
      ∷ unless (not (is_local past p)) (WrongPipe p.id)
      ∷ [])
      (Attached p.id) (Attached n) h) [
        | inl r ↦ absurd (let no : Attached n ≡ No r.0 = r.1 in cc)
        | inr q ↦ right_false (is_gone past p.end) (half_closed (endpoint_at wire past p.end p.id))
            (is_true (is_gone past p.end || half_closed (endpoint_at wire past p.end p.id))
            (held (not (is_gone past p.end || half_closed (endpoint_at wire past p.end p.id))) Disconnected q.0.1.0))
      ]

  attach_stands : (p : PendingId) (t : SeqId) (x : EndId) (id : ℕ) → half_closed (endpoint_at wire past p.end p.id) ≡ false
      → Stands (endpoint_at wire past x id)
      (only_at p.end p.id x id (option_map (with_state (states.Bound t)) (endpoint_at wire past x id)) (endpoint_at wire past x id))
  attach_stands p t x id still = only_stands p.end p.id x id (option_map (with_state (states.Bound t)) (endpoint_at wire past x id))
      (endpoint_at wire past x id)
      (λ at.
      let is : p.end ≡ x = same_end-true p.end x (and_left (same_end p.end x) (p.id == id) at) in
      let number : p.id ≡ id = eqb-true p.id id (and_right (same_end p.end x) (p.id == id) at) in
      let here : half_closed (endpoint_at wire past x id) ≡ false =
      subst (λ z. half_closed (endpoint_at wire past z id) ≡ false) is (subst (λ n. half_closed (endpoint_at wire past p.end n) ≡ false) number still) in
      map_stands (with_state (states.Bound t)) (endpoint_at wire past x id) (λ r there. attaches_it t r (ap half_closed (sym there) ∙ here)))

  map_at : (f : Endpoint → Endpoint) (y : EndId) (n : ℕ) (x : EndId) (id : ℕ) → ((r : Endpoint) → StaysAs r (f r))
      → Stands (endpoint_at wire past x id) (only_at y n x id (option_map f (endpoint_at wire past x id)) (endpoint_at wire past x id))
  map_at f y n x id good = only_stands y n x id (option_map f (endpoint_at wire past x id)) (endpoint_at wire past x id)
      (λ at. map_stands f (endpoint_at wire past x id) (λ r there. good r))

  take_stands : (y : EndId) (told : Told) (x : EndId) (id : ℕ) → Stands (endpoint_at wire past x id)
      (if same_end y x then entry_in (enters wire past y (written wire past y) (endpoint_at wire past y) told) id (endpoint_at wire past x id)
      else endpoint_at wire past x id)
  take_stands y told x id = go (same_end y x) refl
    where
      go : (b : Bool) → same_end y x ≡ b → Stands (endpoint_at wire past x id)
          (if b then entry_in (enters wire past y (written wire past y) (endpoint_at wire past y) told) id (endpoint_at wire past x id)
          else endpoint_at wire past x id)
      go true e r there =
          let here : endpoint_at wire past y id ≡ Some r = subst (λ z. endpoint_at wire past z id ≡ Some r) (sym (same_end-true y x e)) there in (
            r,
            known_from wire (endpoint_at wire past y) told (front_of (unread_of past y (written wire past y))) id r (endpoint_at wire past x id) here ∙ there,
            record { side = refl; shut = λ h. h; closed = λ h. h },
          )
      go false e r there = same_stands (endpoint_at wire past x id) r there

  half_stands : (b : Bool) (p : PendingId) (x : EndId) (id : ℕ) → Stands (endpoint_at wire past x id) (only_at p.end p.id x id
      (if b then option_map with_peer_closed (endpoint_at wire past x id) else option_map (with_state states.Closed) (endpoint_at wire past x id))
      (endpoint_at wire past x id))
  half_stands true p x id = map_at with_peer_closed p.end p.id x id marks_it
  half_stands false p x id = map_at (with_state states.Closed) p.end p.id x id closes_it

  pub stand_step : {asked : Asked} {told : Told} → Outcome wire seqs past seq asked told → told ≡ answer wire seqs past seq asked → (x : EndId) (id : ℕ)
      → Stands (endpoint_at wire past x id) (now told asked x id)
  stand_step (binds {x = z} {side = side} {interface = interface} o) h x id = bind_stands z x id _ o
  stand_step (makes {y = y} {p = p} main e g q) h x id = make_stands y p x id _ q
  stand_step (attaches {p = p} {t = t} {n = n} o g l e) h x id = attach_stands p t x id (attach_open p t n h)
  stand_step (gets {y = y} m hd r c f {g = g} e) h x id = take_stands y (Taken g) x id
  stand_step (drops {y = y} {id = n} {goes = goes} m f e d) h x id = take_stands y (Dropped n goes) x id
  stand_step (controls {y = y} {c = noted.Closed n} m f e d) h x id = map_at with_peer_closed y n x id marks_it
  stand_step (controls {c = noted.Queried n v} m f e d) h x id = same_stands (endpoint_at wire past x id)
  stand_step (controls {c = noted.Version n v} m f e d) h x id = same_stands (endpoint_at wire past x id)
  stand_step (controls {c = noted.Required n v} m f e d) h x id = same_stands (endpoint_at wire past x id)
  stand_step (controls {c = noted.Flushed n} m f e d) h x id = same_stands (endpoint_at wire past x id)
  stand_step (closes_pending {p = p} o e) h x id = half_stands (is_local past p) p x id
  stand_step (closes_end {y = y} {id = n} r i o e) h x id = map_at (with_state states.Closed) y n x id closes_it
  stand_step (closes_endpoint {y = y} {id = n} r i o e) h x id = map_at (with_state states.Closed) y n x id closes_it
  stand_step o h x id = same_stands (endpoint_at wire past x id)

  -- ## The ids that an end makes stay below the next

  -- with as many ids made or more, and endpoint 0 of its side as before
  own_kept : (y : EndId) (more : List ℕ) (zeroth : Option Endpoint) (id : ℕ) (r : Endpoint) → is_remote zeroth ≡ is_remote (endpoint_at wire past y 0)
      → endpoint_at wire past y id ≡ Some r → (id == 0) ≡ false → alike (nat_le REMOTE_IDS id) (is_remote zeroth) ≡ true
      → id < length (associated past y ++ more) + 1 + (if is_remote zeroth then REMOTE_IDS else 0)
  own_kept y more zeroth id r side there plain own =
      let mine : is_own (endpoint_at wire past y) id ≡ true = subst (λ b. alike (nat_le REMOTE_IDS id) b ≡ true) side own in
      let less : id < length (associated past y) + 1 + (if is_remote (endpoint_at wire past y 0) then REMOTE_IDS else 0) = below y id r there plain mine in
      let all = length-append (associated past y) more in
      let same = ap (λ (b : Bool). if b then REMOTE_IDS else 0) side in
      omega (arith, less, all, same)

  abbrev BelowThen : Asked → Told → Type 0
  BelowThen asked told = (y : EndId) (id : ℕ) (r : Endpoint) → now told asked y id ≡ Some r → (id == 0) ≡ false
      → alike (nat_le REMOTE_IDS id) (is_remote (now told asked y 0)) ≡ true
      → id < length (associated past y ++ associates told y) + 1 + (if is_remote (now told asked y 0) then REMOTE_IDS else 0)

  map_remote : (f : Endpoint → Endpoint) (o : Option Endpoint) → ((r : Endpoint) → StaysAs r (f r)) → is_remote (option_map f o) ≡ is_remote o
  map_remote f None good = refl
  map_remote f (Some r) good = ap (λ s. elim s [ Remote ↦ true | Receiver ↦ false ]) (good r).side

  only_remote : (f : Endpoint → Endpoint) (b : Bool) (o : Option Endpoint) → ((r : Endpoint) → StaysAs r (f r))
      → is_remote (if b then option_map f o else o) ≡ is_remote o
  only_remote f true o good = map_remote f o good
  only_remote f false o good = refl

  only_some : (f : Endpoint → Endpoint) (b : Bool) (o : Option Endpoint) (r : Endpoint) → (if b then option_map f o else o) ≡ Some r
      → (s : Endpoint) × (o ≡ Some s)
  only_some f true o r e = some_of f o r e
  only_some f false o r e = (r, e)

  below_mapped : (f : Endpoint → Endpoint) (q : EndId) (n : ℕ) → ((r : Endpoint) → StaysAs r (f r)) → (y : EndId) (id : ℕ) (r : Endpoint)
      → only_at q n y id (option_map f (endpoint_at wire past y id)) (endpoint_at wire past y id) ≡ Some r → (id == 0) ≡ false
      → alike (nat_le REMOTE_IDS id) (is_remote (only_at q n y 0 (option_map f (endpoint_at wire past y 0)) (endpoint_at wire past y 0))) ≡ true
      → id < length (associated past y ++ []) + 1
      + (if is_remote (only_at q n y 0 (option_map f (endpoint_at wire past y 0)) (endpoint_at wire past y 0)) then REMOTE_IDS else 0)
  below_mapped f q n good y id r there plain own =
      let s = only_some f (same_end q y && (n == id)) (endpoint_at wire past y id) r there in
      own_kept y [] _ id s.0 (only_remote f (same_end q y && (n == 0)) (endpoint_at wire past y 0) good) s.1 plain own

  below_half : (b : Bool) (p : PendingId) (y : EndId) (id : ℕ) (r : Endpoint)
      → only_at p.end p.id y id (if b then option_map with_peer_closed (endpoint_at wire past y id) else option_map (with_state states.Closed)
      (endpoint_at wire past y id)) (endpoint_at wire past y id) ≡ Some r → (id == 0) ≡ false
      → alike (nat_le REMOTE_IDS id) (is_remote (only_at p.end p.id y 0 (if b then option_map with_peer_closed (endpoint_at wire past y 0) else option_map
      (with_state states.Closed) (endpoint_at wire past y 0)) (endpoint_at wire past y 0))) ≡ true
      → id < length (associated past y ++ []) + 1 + (if is_remote (only_at p.end p.id y 0 (if b then option_map with_peer_closed (endpoint_at wire past y 0)
      else option_map (with_state states.Closed) (endpoint_at wire past y 0)) (endpoint_at wire past y 0)) then REMOTE_IDS else 0)
  below_half true p y id r there plain own = below_mapped with_peer_closed p.end p.id marks_it y id r there plain own
  below_half false p y id r there plain own = below_mapped (with_state states.Closed) p.end p.id closes_it y id r there plain own

  not_at_zero : (b : Bool) (n : ℕ) → (n == 0) ≡ false → (b && (n == 0)) ≡ false
  not_at_zero true n e = e
  not_at_zero false n e = refl

  zero_not : (id : ℕ) → (id == 0) ≡ false → (0 == id) ≡ false
  zero_not id plain = go (0 == id) refl
    where
      go : (b : Bool) → (0 == id) ≡ b → b ≡ false
      go true e = absurd (let same : (id == 0) ≡ true = eq-eqb id 0 (sym (eqb-true 0 id e)) in cc)
      go false e = refl

  below_bind : (z : EndId) (new : Endpoint) → has (out past) (End z) ≡ true → (y : EndId) (id : ℕ) (r : Endpoint)
      → only_at z 0 y id (Some new) (endpoint_at wire past y id) ≡ Some r → (id == 0) ≡ false
      → alike (nat_le REMOTE_IDS id) (is_remote (only_at z 0 y 0 (Some new) (endpoint_at wire past y 0))) ≡ true
      → id < length (associated past y ++ []) + 1
      + (if is_remote (only_at z 0 y 0 (Some new) (endpoint_at wire past y 0)) then REMOTE_IDS else 0)
  below_bind z new o y id r there plain own = go (same_end z y) refl there own
    where
      go : (b : Bool) → same_end z y ≡ b → (if b && (0 == id) then Some new else endpoint_at wire past y id) ≡ Some r
          → alike (nat_le REMOTE_IDS id) (is_remote (if b && (0 == 0) then Some new else endpoint_at wire past y 0)) ≡ true
          → id < length (associated past y ++ []) + 1 + (if is_remote (if b && (0 == 0) then Some new else endpoint_at wire past y 0) then REMOTE_IDS else 0)
      go true e there own =
          let old : endpoint_at wire past y id ≡ Some r = rw (zero_not id plain) at there in
          absurd (not_both (End y) (subst (λ x. has (out past) (End x) ≡ true) (same_end-true z y e) o) (k.endpoints y id r old))
      go false e there own = own_kept y [] (endpoint_at wire past y 0) id r refl there plain own

  below_make : (q : EndId) (p : PendingId) (new : Endpoint) → p ≡ record { end = q; id = next_id wire past q } → (y : EndId) (id : ℕ) (r : Endpoint)
      → only_at p.end p.id y id (Some new) (endpoint_at wire past y id) ≡ Some r → (id == 0) ≡ false
      → alike (nat_le REMOTE_IDS id) (is_remote (only_at p.end p.id y 0 (Some new) (endpoint_at wire past y 0))) ≡ true
      → id < length (associated past y ++ (if same_end p.end y then p.id ∷ [] else [])) + 1
      + (if is_remote (only_at p.end p.id y 0 (Some new) (endpoint_at wire past y 0)) then REMOTE_IDS else 0)
  below_make q p new e y id r there plain own = go (same_end p.end y && (p.id == id)) refl there
    where
      zero : (same_end p.end y && (p.id == 0)) ≡ false
      zero = not_at_zero (same_end p.end y) p.id (ap (λ (x : PendingId). x.id == 0) e ∙ not_zero q)

      side : is_remote (only_at p.end p.id y 0 (Some new) (endpoint_at wire past y 0)) ≡ is_remote (endpoint_at wire past y 0)
      side = ap (λ b. is_remote (if b then Some new else endpoint_at wire past y 0)) zero

      go : (b : Bool) → (same_end p.end y && (p.id == id)) ≡ b → (if b then Some new else endpoint_at wire past y id) ≡ Some r
          → id < length (associated past y ++ (if same_end p.end y then p.id ∷ [] else [])) + 1
          + (if is_remote (only_at p.end p.id y 0 (Some new) (endpoint_at wire past y 0)) then REMOTE_IDS else 0)
      go true at there =
          let here : same_end p.end y ≡ true = and_left (same_end p.end y) (p.id == id) at in
          let number : p.id ≡ id = eqb-true p.id id (and_right (same_end p.end y) (p.id == id) at) in
          let is : q ≡ y = sym (ap (λ (x : PendingId). x.end) e) ∙ same_end-true p.end y here in
          let first : id ≡ length (associated past y) + 1 + (if is_remote (endpoint_at wire past y 0) then REMOTE_IDS else 0) =
          sym number ∙ ap (λ (x : PendingId). x.id) e ∙ ap (next_id wire past) is in
          let all = length-append (associated past y) (p.id ∷ []) in
          let same = ap (λ (b : Bool). if b then REMOTE_IDS else 0) side in
          let longer : length (associated past y ++ (if same_end p.end y then p.id ∷ [] else [])) ≡ length (associated past y ++ p.id ∷ []) =
          ap (λ (b : Bool). length (associated past y ++ (if b then p.id ∷ [] else []))) here in
          omega (arith, first, all, same, longer)
      go false at there = own_kept y (if same_end p.end y then p.id ∷ [] else []) _ id r side there plain own

  below_take : (q : EndId) (told : Told) (main : Endpoint) → endpoint_at wire past q 0 ≡ Some main → (y : EndId) (id : ℕ) (r : Endpoint)
      → (if same_end q y then entry_in (enters wire past q (written wire past q) (endpoint_at wire past q) told) id (endpoint_at wire past y id)
      else endpoint_at wire past y id) ≡ Some r → (id == 0) ≡ false
      → alike (nat_le REMOTE_IDS id) (is_remote (if same_end q y then entry_in (enters wire past q (written wire past q) (endpoint_at wire past q) told) 0
      (endpoint_at wire past y 0) else endpoint_at wire past y 0)) ≡ true
      → id < length (associated past y ++ []) + 1 + (if is_remote (if same_end q y then entry_in (enters wire past q (written wire past q)
      (endpoint_at wire past q) told) 0 (endpoint_at wire past y 0) else endpoint_at wire past y 0) then REMOTE_IDS else 0)
  below_take q told main bound y id r there plain own = go (same_end q y) refl there own
    where
      front : Option Message
      front = front_of (unread_of past q (written wire past q))

      go : (b : Bool) → same_end q y ≡ b → (if b then entry_in (enters_from wire (endpoint_at wire past q) told front) id (endpoint_at wire past y id)
          else endpoint_at wire past y id) ≡ Some r
          → alike (nat_le REMOTE_IDS id) (is_remote (if b then entry_in (enters_from wire (endpoint_at wire past q) told front) 0 (endpoint_at wire past y 0)
          else endpoint_at wire past y 0)) ≡ true
          → id < length (associated past y ++ []) + 1 + (if is_remote (if b then entry_in (enters_from wire (endpoint_at wire past q) told front) 0
          (endpoint_at wire past y 0) else endpoint_at wire past y 0) then REMOTE_IDS else 0)
      go true e there own = found (endpoint_at wire past y id) refl there
        where
          is : q ≡ y
          is = same_end-true q y e

          side : is_remote (entry_in (enters_from wire (endpoint_at wire past q) told front) 0 (endpoint_at wire past y 0)) ≡ is_remote
              (endpoint_at wire past y 0)
          side = ap is_remote (known_from wire (endpoint_at wire past q) told front 0 main (endpoint_at wire past y 0) bound)

          mine : is_own (endpoint_at wire past q) id ≡ true
          mine = subst (λ b. alike (nat_le REMOTE_IDS id) b ≡ true)
              (side ∙ ap (λ x. is_remote (endpoint_at wire past x 0)) (sym is)) own

          found : (o : Option Endpoint) → endpoint_at wire past y id ≡ o → entry_in (enters_from wire (endpoint_at wire past q) told front) id o ≡ Some r
              → id < length (associated past y ++ []) + 1
              + (if is_remote (entry_in (enters_from wire (endpoint_at wire past q) told front) 0 (endpoint_at wire past y 0)) then REMOTE_IDS else 0)
          found None known there =
              let other : is_own (endpoint_at wire past q) id ≡ false = strange_from wire (endpoint_at wire past q) told front id r there in
              absurd (let no : true ≡ false = sym mine ∙ other in cc)
          found (Some s) known there = own_kept y [] _ id s side known plain own
      go false e there own = own_kept y [] (endpoint_at wire past y 0) id r refl there plain own

  below_step : {asked : Asked} {told : Told} → Outcome wire seqs past seq asked told → BelowThen asked told
  below_step (binds {x = z} {side = side} {interface = interface} o) y id r there plain own = below_bind z _ o y id r there plain own
  below_step (makes {y = q} {p = p} main e g i) y id r there plain own = below_make q p _ i y id r there plain own
  below_step (attaches {p = p} {t = t} {n = n} o g l e) y id r there plain own =
      let s = only_some (with_state (states.Bound t)) (same_end p.end y && (p.id == id)) (endpoint_at wire past y id) r there in
      own_kept y [] _ id s.0 (state_remote t (same_end p.end y && (p.id == 0)) (endpoint_at wire past y 0)) s.1 plain own
    where
      state_remote : (t : SeqId) (b : Bool) (o : Option Endpoint) → is_remote (if b then option_map (with_state (states.Bound t)) o else o) ≡ is_remote o
      state_remote t true None = refl
      state_remote t true (Some r) = refl
      state_remote t false o = refl
  below_step (gets {y = q} m hd s c f {g = g} e) y id r there plain own = below_take q (Taken g) f.front.main f.front.bound y id r there plain own
  below_step (drops {y = q} {id = n} {goes = goes} m f e d) y id r there plain own = below_take q (Dropped n goes) f.main f.bound y id r there plain own
  below_step (controls {y = q} {c = noted.Closed n} m f e d) y id r there plain own = below_mapped with_peer_closed q n marks_it y id r there plain own
  below_step (controls {c = noted.Queried n v} m f e d) y id r there plain own = own_kept y [] (endpoint_at wire past y 0) id r refl there plain own
  below_step (controls {c = noted.Version n v} m f e d) y id r there plain own = own_kept y [] (endpoint_at wire past y 0) id r refl there plain own
  below_step (controls {c = noted.Required n v} m f e d) y id r there plain own = own_kept y [] (endpoint_at wire past y 0) id r refl there plain own
  below_step (controls {c = noted.Flushed n} m f e d) y id r there plain own = own_kept y [] (endpoint_at wire past y 0) id r refl there plain own
  below_step (closes_pending {p = p} o e) y id r there plain own = below_half (is_local past p) p y id r there plain own
  below_step (closes_end {y = q} {id = n} s i o e) y id r there plain own = below_mapped (with_state states.Closed) q n closes_it y id r there plain own
  below_step (closes_endpoint {y = q} {id = n} s i o e) y id r there plain own = below_mapped (with_state states.Closed) q n closes_it y id r there plain own
  below_step o y id r there plain own = own_kept y [] (endpoint_at wire past y 0) id r refl there plain own

few_made : (past : List Event) → length past ≤ MAX_EVENTS → (event : Event) (before : List Event) → past ≡ event ∷ before → (y : EndId)
    → length (associated before y) + 1 < REMOTE_IDS
few_made past few event before is y =
    let some = few_associated before y in
    let one = ap length is in
    omega (arith, some, one, few)

pub own_below : (wire : Wire) (seqs : ℕ) (past : List Event) → legal wire seqs past → length past ≤ MAX_EVENTS → OwnBelow wire past
own_below wire seqs [] h few y id r there plain own = absurd (cc)
own_below wire seqs (event ∷ past) h few y id r there plain own =
    below_step wire seqs past event.seq (kept wire seqs past h.2) (own_below wire seqs past h.2 (omega (arith, few)))
    (few_made (event ∷ past) few event past refl) (outcome wire seqs past event.seq event.asked event.told h.1) y id r there plain own

-- an endpoint behind one event more
pub stands_on : (wire : Wire) (seqs : ℕ) (event : Event) (past : List Event) → legal wire seqs (event ∷ past) → length (event ∷ past) ≤ MAX_EVENTS
    → (x : EndId) (id : ℕ) → Stands (endpoint_at wire past x id) (endpoint_at wire (event ∷ past) x id)
stands_on wire seqs event past h few x id =
    stand_step wire seqs past event.seq (kept wire seqs past h.2) (own_below wire seqs past h.2 (omega (arith, few)))
    (few_made (event ∷ past) few event past refl) (outcome wire seqs past event.seq event.asked event.told h.1) h.1 x id
