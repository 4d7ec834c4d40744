-- Flushes are numbered, and each is consumed in its turn.
use Rattle.std.proofs.Common.{◌≡◌, ℕ, zero, suc, ◌+◌, Bool, true, false, List, [], ◌∷◌, ◌++◌, length, drop, refl, sym, ap, ◌∙◌, subst, arith, ◌⊎◌, inl, inr}
use Rattle.std.specs.Prelude.{map, Option, Some, None, Result, Ok, slice_get, if◌then◌else◌, not, ◌||◌, ◌&&◌, ◌==◌, filter}
use Rattle.std.specs.Option.{option_map}
use Rattle.std.proofs.lemmas.List.{append-nil, length-append, length-map}
use Rattle.std.proofs.lemmas.Option.{slice_get-map}
use Rattle.mj_base.specs.declared.fault.Fault.{Fault}
use Rattle.mj_base.specs.declared.ids.EndId.{EndId}
use Rattle.mj_base.specs.declared.ids.SeqId.{SeqId}
use Rattle.handle_table.specs.Things.{same_end}
use Rattle.handle_table.proofs.ThingsLemmas.{same_end-true, or_left, or_right}
use Rattle.message_pipe.specs.declared.message.Message.{Message}
use Rattle.bind_model.specs.declared.asked.Asked.{Asked}
use Rattle.bind_model.specs.declared.asked.Asked.TheVariants.{Notify}
use Rattle.bind_model.specs.declared.asked.Notice.{Notice}
use Rattle.bind_model.specs.declared.asked.Notice.TheVariants.{Query, Require, Flush}
use Rattle.control_bytes.specs.declared.control.Control.{Control}
use Rattle.control_bytes.specs.declared.control.Control.TheVariants as says
use Rattle.bind_model.specs.declared.told.Noted.TheVariants as noted
use Rattle.bind_model.specs.declared.told.Notified.{Notified}
use Rattle.bind_model.specs.declared.told.Notified.TheVariants.{Asking, Requiring, Flushing}
use Rattle.bind_model.specs.declared.told.Told.{Told}
use Rattle.bind_model.specs.declared.told.Told.TheVariants.{Taken, Dropped, Notified as Informed}
use Rattle.bind_model.specs.declared.event.Event.{Event}
use Rattle.wire_model.specs.HeaderMarks.{CONTROL_ID}
use Rattle.bind_model.specs.Machine.{Endpoints, peer, is_gone, is_local, is_peer_closed, control_of, consumed, taken, written, endpoint_at, enters, closed_ids}
use Rattle.bind_model.specs.Replies.{legal, told_of, ids_of}
use Rattle.bind_model.specs.Notices.{flushed, flushes}
use Rattle.bind_model.specs.Laws.{up_from}
use Rattle.bind_model.specs.Origins.{Origin, OfCall, OfAnswer, OfRaw, OfNotice, OfMachine, message_of, from_machine, writers, origins}
use Rattle.bind_model.specs.Flushes.{FlushesNumbered, Earlier, latest, before, raw_by, raw_to, Speaks, WroteFlush, IsBehind, AllBehind}
use Rattle.bind_model.specs.Wire.{Wire, Header}
use Rattle.bind_model.proofs.OriginLemmas.{have_writers}
use Rattle.bind_model.proofs.Responses.{up_next, at_front}
use Rattle.bind_model.proofs.Outcomes.{Outcome, outcome, calls, answers, writes, gets, drops, controls, closes_pending, closes_end, closes_endpoint, notifies}

-- ## Numbers

one_more : (ns : List ℕ) (n : ℕ) → ns ≡ up_from 1 (length ns) → n ≡ length ns + 1 → ns ++ n ∷ [] ≡ up_from 1 (length (ns ++ n ∷ []))
one_more ns n h e =
    let longer : suc (length ns) ≡ length (ns ++ n ∷ []) = omega (arith, length-append ns (n ∷ [])) in
    ap (λ ms. ms ++ n ∷ []) h ∙ (ap (λ i. up_from 1 (length ns) ++ i ∷ []) (e ∙ omega arith) ∙ (sym (up_next 1 (length ns)) ∙ ap (up_from 1) longer))

module _ (wire : Wire) (seqs : ℕ) (past : List Event) (seq : SeqId) where
  as_before : (x : EndId) → flushed past x ≡ up_from 1 (length (flushed past x)) → flushed past x ++ [] ≡ up_from 1 (length (flushed past x ++ []))
  as_before x h = rw append-nil h

  with_notice : (y x : EndId) (notice : Notice) (told : Notified) → told ≡ told_of past y notice → flushed past x ≡ up_from 1 (length (flushed past x))
      → flushed past x ++ flushes (Informed told) (Notify y notice) x ≡ up_from 1 (length (flushed past x ++ flushes (Informed told) (Notify y notice) x))
  with_notice y x (Query id) told e h = rw e (as_before x h)
  with_notice y x (Require id v) told e h = rw e (as_before x h)
  with_notice y x Flush told e h = rw e (go (same_end y x) refl)
    where
      go : (b : Bool) → same_end y x ≡ b → flushed past x ++ (if b then (length (flushed past y) + 1) ∷ [] else [])
          ≡ up_from 1 (length (flushed past x ++ (if b then (length (flushed past y) + 1) ∷ [] else [])))
      go true s = one_more (flushed past x) (length (flushed past y) + 1) h (rw (same_end-true y x s) refl)
      go false s = as_before x h

  numbered_step : {asked : Asked} {told : Told} → Outcome wire seqs past seq asked told → (x : EndId) → flushed past x ≡ up_from 1 (length (flushed past x))
      → flushed past x ++ flushes told asked x ≡ up_from 1 (length (flushed past x ++ flushes told asked x))
  numbered_step (notifies {y = y} {notice = notice} {told = told} r o e w s f p) x h = with_notice y x notice told e h
  numbered_step o x h = as_before x h

pub flushes_numbered : (wire : Wire) (seqs : ℕ) (past : List Event) → legal wire seqs past → FlushesNumbered past
flushes_numbered wire seqs [] h x = refl
flushes_numbered wire seqs (event ∷ past) h x = numbered_step wire seqs past event.seq (outcome wire seqs past event.seq event.asked event.told h.1) x
    (flushes_numbered wire seqs past h.2 x)

-- ## Who wrote the message at a place

at-append : (xs ys : List Origin) (n : ℕ) (o : Origin) → slice_get (xs ++ ys) n ≡ Some o
    → (slice_get xs n ≡ Some o) ⊎ ((k : ℕ) × (n ≡ length xs + k) × (slice_get ys k ≡ Some o))
at-append [] ys n o h = inr (n, omega arith, h)
at-append (x ∷ xs) ys zero o h = inl h
at-append (x ∷ xs) ys (suc n) o h = elim (at-append xs ys n o h) [
  | inl s ↦ inl s
  | inr s ↦ inr (s.0, (let e = s.1 in omega (arith, e)), s.2)
]

abbrev flushes_none : Control → Bool
flushes_none (says.Flush k) = false
flushes_none c = true

-- an event wrote this control for reading at an end, behind so many messages
abbrev WroteNotice : Wire → EndId → Control → ℕ → List Event → Told → Asked → Type 0
WroteNotice wire a c n old (Informed told) (Notify y notice) = (same_end (peer old y) a ≡ true) × (c ≡ control_of notice told)
    × (told ≡ told_of old y notice) × (length (origins wire old a) ≡ n)
WroteNotice wire a c n old told asked = ⊥

-- what is known of a writer
abbrev Came : Wire → List Event → EndId → ℕ → Origin → Type 0
Came wire past a n (OfCall y s head) = Unit {0}
Came wire past a n (OfAnswer r s head) = Unit {0}
Came wire past a n (OfRaw bytes handles) = raw_to past a ≡ true
Came wire past a n (OfNotice y c) = Earlier (WroteNotice wire a c n) past
Came wire past a n (OfMachine c) = flushes_none c ≡ true

later : (wire : Wire) (past : List Event) (event : Event) (a : EndId) (n : ℕ) (o : Origin) → Came wire past a n o → Came wire (event ∷ past) a n o
later wire past event a n (OfCall y s head) h = tt
later wire past event a n (OfAnswer r s head) h = tt
later wire past event a n (OfRaw bytes handles) h = or_left (raw_to past a) (raw_by past event.told a) h
later wire past event a n (OfNotice y c) h = before h
later wire past event a n (OfMachine c) h = h

one_at : (b : Bool) (p o : Origin) (k : ℕ) → slice_get (if b then p ∷ [] else []) k ≡ Some o → (b ≡ true) × (k ≡ 0) × (p ≡ o)
one_at true p o zero h = (refl, refl, some_same p o h)
  where
    some_same : (p o : Origin) → ◌≡◌ {A = Option Origin} (Some p) (Some o) → p ≡ o
    some_same p o h = cc
one_at true p o (suc k) h = absurd cc
one_at false p o k h = absurd cc

none_at : (k : ℕ) (o : Origin) → slice_get [] k ≡ Some o → ⊥
none_at k o h = absurd cc

-- the machine writes no flush
module _ (wire : Wire) (past : List Event) (a : EndId) (n : ℕ) where
  of_ids : (control : ℕ → Control) → ((id : ℕ) → flushes_none (control id) ≡ true) → (ids : List ℕ) (k : ℕ) (o : Origin)
      → slice_get (map (λ id. OfMachine (control id)) ids) k ≡ Some o → Came wire past a n o
  of_ids control none [] k o h = absurd (none_at k o h)
  of_ids control none (id ∷ ids) zero o h = subst (λ (p : Origin). Came wire past a n p) (some_same (OfMachine (control id)) o h) (none id)
    where
      some_same : (p o : Origin) → ◌≡◌ {A = Option Origin} (Some p) (Some o) → p ≡ o
      some_same p o h = cc
  of_ids control none (id ∷ ids) (suc k) o h = of_ids control none ids k o h

  of_machine : (old : List Event) (y : EndId) (endpoints : Endpoints) (control : ℕ → Control) → ((id : ℕ) → flushes_none (control id) ≡ true)
      → (ids : List ℕ) (k : ℕ) (o : Origin) → slice_get (from_machine old y endpoints control ids a) k ≡ Some o → Came wire past a n o
  of_machine old y endpoints control none ids k o h = go (same_end (peer old y) a && not (is_gone old a)) h
    where
      go : (b : Bool) → slice_get (if b then map (λ id. OfMachine (control id)) (filter (λ id. not (is_peer_closed (endpoints id))) ids) else []) k ≡ Some o
          → Came wire past a n o
      go true h = of_ids control none (filter (λ id. not (is_peer_closed (endpoints id))) ids) k o h
      go false h = absurd (none_at k o h)

module _ (wire : Wire) (seqs : ℕ) (past : List Event) (seq : SeqId) (a : EndId) (k : ℕ) where
  abbrev Now : Asked → Told → Origin → Type 0
  Now asked told o = Came wire (record { seq = seq; asked = asked; told = told } ∷ past) a (length (origins wire past a) + k) o

  abbrev next : Asked → Told → List Event
  next asked told = record { seq = seq; asked = asked; told = told } ∷ past

  unless_shut : (asked : Asked) (told : Told) (b : Bool) (y : EndId) (ids : List ℕ) (o : Origin)
      → slice_get (if b then [] else from_machine past y (endpoint_at wire past y) says.Closed ids a) k ≡ Some o → Now asked told o
  unless_shut asked told true y ids o h = absurd (none_at k o h)
  unless_shut asked told false y ids o h = of_machine wire (next asked told) a (length (origins wire past a) + k) past y (endpoint_at wire past y) says.Closed
      (λ id. refl) ids k o h

  came_step : {asked : Asked} {told : Told} → Outcome wire seqs past seq asked told → (o : Origin) → slice_get (writers wire past told asked a) k ≡ Some o
      → Now asked told o
  came_step {asked} {told} (calls {y = y} {id = id} {s = s} {request = request} r p ps mk e w b) o h =
      let one = one_at (same_end (peer past y) a) (OfCall y s (record { id = id; request = request; ids = ids_of s.pendings; moment = s.moment })) o k h in
      subst (λ (q : Origin). Now asked told q) one.2 tt
  came_step {asked} {told} (answers {q = q} {s = s} {request = request} r p rs ps e w b) o h =
      let one = one_at (same_end (peer past q.end) a)
      (OfAnswer q s (record { id = q.id; request = request; ids = ids_of s.pendings; moment = s.moment })) o k h in
      subst (λ (z : Origin). Now asked told z) one.2 tt
  came_step {asked} {told} (writes {x = z} {bytes = bytes} {handles = handles} p w) o h =
      let one = one_at (same_end (peer past z) a) (OfRaw bytes handles) o k h in
      subst (λ (q : Origin). Now asked told q) one.2 (or_right (raw_to past a) (same_end (peer past z) a) one.0)
  came_step {asked} {told} (notifies {y = y} {notice = notice} {told = n} r p e w s f u) o h =
      let one = one_at (same_end (peer past y) a) (OfNotice y (control_of notice n)) o k h in
      subst (λ (q : Origin). Now asked told q) one.2 (latest (one.0, refl, e, omega (arith, one.1)))
  came_step {asked} {told} (gets {y = y} m hd r c f {g = g} e) o h = of_machine wire (next asked told) a (length (origins wire past a) + k) past y
      (endpoint_at wire past y) says.Closed (λ id. refl) (closed_ids (enters wire past y (written wire past y) (endpoint_at wire past y) (Taken g))) k o h
  came_step {asked} {told} (drops {y = y} {id = i} {goes = goes} m f e d) o h = of_machine wire (next asked told) a (length (origins wire past a) + k) past y
      (endpoint_at wire past y) says.Closed (λ id. refl)
      (closed_ids (enters wire past y (written wire past y) (endpoint_at wire past y) (Dropped i goes))) k o h
  came_step {asked} {told} (controls {y = y} {c = noted.Queried i (Some v)} m f e d) o h =
      of_machine wire (next asked told) a (length (origins wire past a) + k)
      past y (endpoint_at wire past y) (λ id. says.Version id v) (λ id. refl) (i ∷ []) k o h
  came_step (controls {c = noted.Queried i None} m f e d) o h = absurd (none_at k o h)
  came_step (controls {c = noted.Closed i} m f e d) o h = absurd (none_at k o h)
  came_step (controls {c = noted.Version i v} m f e d) o h = absurd (none_at k o h)
  came_step (controls {c = noted.Required i v} m f e d) o h = absurd (none_at k o h)
  came_step (controls {c = noted.Flushed i} m f e d) o h = absurd (none_at k o h)
  came_step {asked} {told} (closes_pending {p = p} q e) o h = unless_shut asked told (is_gone past p.end || is_local past p) p.end (p.id ∷ []) o h
  came_step {asked} {told} (closes_end {y = y} {id = n} r i p e) o h = unless_shut asked told (n == 0) y (n ∷ []) o h
  came_step {asked} {told} (closes_endpoint {y = y} {id = n} r i p e) o h = unless_shut asked told (n == 0) y (n ∷ []) o h
  came_step p o h = absurd (none_at k o h)

came : (wire : Wire) (seqs : ℕ) (past : List Event) → legal wire seqs past → (a : EndId) (n : ℕ) (o : Origin) → slice_get (origins wire past a) n ≡ Some o
    → Came wire past a n o
came wire seqs [] h a n o e = absurd (none_at n o e)
came wire seqs (event ∷ past) h a n o e = elim (at-append (origins wire past a) (writers wire past event.told event.asked a) n o e) [
  | inl s ↦ later wire past event a n o (came wire seqs past h.2 a n o s)
  | inr s ↦ subst (λ (i : ℕ). Came wire (event ∷ past) a i o) (sym s.1)
      (came_step wire seqs past event.seq a s.0 (outcome wire seqs past event.seq event.asked event.told h.1) o s.2)
]

-- ## A flush that is consumed

module _ (wire : Wire) (speaks : Speaks wire) (seqs : ℕ) (past : List Event) (seq : SeqId) (h : legal wire seqs past) where
  ok_same : {A : Type 0} (x y : A) → ◌≡◌ {A = Result A Fault} (Ok x) (Ok y) → x ≡ y
  ok_same x y e = cc

  -- a flush is written as such alone
  is_flush_of : (a : EndId) (k n : ℕ) (old : List Event) (told : Told) (asked : Asked) → WroteNotice wire a (says.Flush k) n old told asked
      → length (written wire old a) ≡ length (origins wire old a) → WroteFlush wire a k n old told asked
  is_flush_of a k n old (Informed told) (Notify y (Query id)) w same = absurd (let e : says.Flush k ≡ says.Query id = w.1 in cc)
  is_flush_of a k n old (Informed told) (Notify y (Require id v)) w same = absurd (let e : says.Flush k ≡ says.Require id v = w.1 in cc)
  is_flush_of a k n old (Informed (Flushing j)) (Notify y Flush) w same = (w.0, number w.1, same ∙ w.3)
    where
      number : says.Flush k ≡ says.Flush j → j ≡ k
      number e = cc
  is_flush_of a k n old (Informed Asking) (Notify y Flush) w same = absurd (let e : Asking ≡ Flushing (length (flushed old y) + 1) = w.2 in cc)
  is_flush_of a k n old (Informed Requiring) (Notify y Flush) w same = absurd (let e : Requiring ≡ Flushing (length (flushed old y) + 1) = w.2 in cc)
  is_flush_of a k n old told asked w same = absurd w

  as_long : (old : List Event) → legal wire seqs old → (a : EndId) → length (written wire old a) ≡ length (origins wire old a)
  as_long old l a = ap length (have_writers wire seqs old l a) ∙ length-map (origins wire old a) (message_of wire)

  -- the events before one of a legal history are one too
  flushes_of : (a : EndId) (k n : ℕ) (old : List Event) → legal wire seqs old → Earlier (WroteNotice wire a (says.Flush k) n) old
      → Earlier (WroteFlush wire a k n) old
  flushes_of a k n [] l e = elim e [ ]
  flushes_of a k n (event ∷ old) l (latest w) = latest (is_flush_of a k n old event.told event.asked w (as_long old l.2 a))
  flushes_of a k n (event ∷ old) l (before w) = before (flushes_of a k n old l.2 w)

  of_origin : (a : EndId) (k n : ℕ) (m : Message) (o : Origin) → m ≡ message_of wire o → Came wire past a n o → (hd : Header) → wire.header m.bytes ≡ Ok hd
      → (hd.id == CONTROL_ID) ≡ true → wire.says m.bytes ≡ Ok (says.Flush k) → raw_to past a ≡ false → Earlier (WroteFlush wire a k n) past
  of_origin a k n m (OfCall y s head) is c hd e ctl say unraw = absurd (
      let p : (hd.id == CONTROL_ID) ≡ false = speaks.plain s.target s.parameters head hd (sym (ap (λ (q : Message). wire.header q.bytes) is) ∙ e) in
      let f : true ≡ false = sym ctl ∙ p in cc)
  of_origin a k n m (OfAnswer r s head) is c hd e ctl say unraw = absurd (
      let p : (hd.id == CONTROL_ID) ≡ false = speaks.plain s.target s.parameters head hd (sym (ap (λ (q : Message). wire.header q.bytes) is) ∙ e) in
      let f : true ≡ false = sym ctl ∙ p in cc)
  of_origin a k n m (OfRaw bytes handles) is c hd e ctl say unraw = absurd (let f : false ≡ true = sym unraw ∙ c in cc)
  of_origin a k n m (OfNotice y d) is c hd e ctl say unraw =
      let same : d ≡ says.Flush k = ok_same d (says.Flush k) (sym (speaks.says d) ∙ (sym (ap (λ (q : Message). wire.says q.bytes) is) ∙ say)) in
      flushes_of a k n past h (subst (λ (x : Control). Earlier (WroteNotice wire a x n) past) same c)
  of_origin a k n m (OfMachine d) is c hd e ctl say unraw = absurd (
      let same : d ≡ says.Flush k = ok_same d (says.Flush k) (sym (speaks.says d) ∙ (sym (ap (λ (q : Message). wire.says q.bytes) is) ∙ say)) in
      let f : flushes_none (says.Flush k) ≡ true = subst (λ (x : Control). flushes_none x ≡ true) same c in
      let g : false ≡ true = f in cc)

  placed : (a : EndId) (n : ℕ) (m : Message) → slice_get (written wire past a) n ≡ Some m → (o : Origin) × (slice_get (origins wire past a) n ≡ Some o)
      × (m ≡ message_of wire o)
  placed a n m e = go (slice_get (origins wire past a) n) refl
      (sym (slice_get-map (message_of wire) (origins wire past a) n) ∙ (sym (ap (λ (ms : List Message). slice_get ms n) (have_writers wire seqs past h a)) ∙ e))
    where
      some_same : (p q : Message) → ◌≡◌ {A = Option Message} (Some p) (Some q) → q ≡ p
      some_same p q e = cc

      go : (o : Option Origin) → slice_get (origins wire past a) n ≡ o → option_map (message_of wire) o ≡ Some m
          → (o : Origin) × (slice_get (origins wire past a) n ≡ Some o) × (m ≡ message_of wire o)
      go None f e = absurd cc
      go (Some o) f e = (o, f, some_same (message_of wire o) m e)

  behind_step : {asked : Asked} {told : Told} → Outcome wire seqs past seq asked told → IsBehind wire past told asked
  behind_step (controls {y = y} {c = noted.Flushed k} m f e d) = λ unraw.
      let u : drop (length (taken past y)) (written wire past y) ≡ m
      ∷ f.rest = ap (λ b. if b then [] else drop (length (taken past y)) (written wire past y)) (sym f.open_here) ∙ f.stands in
      let p = placed y (consumed past y) m (at_front wire seqs past seq (length (taken past y)) (written wire past y) f.rest m u) in
      of_origin y k (consumed past y) m p.0 p.2 (came wire seqs past h y (consumed past y) p.0 p.1) d.h d.header d.control d.is unraw
  behind_step (controls {c = noted.Closed i} m f e d) = tt
  behind_step (controls {c = noted.Queried i v} m f e d) = tt
  behind_step (controls {c = noted.Version i v} m f e d) = tt
  behind_step (controls {c = noted.Required i v} m f e d) = tt
  behind_step o = tt

pub all_behind : (wire : Wire) → Speaks wire → (seqs : ℕ) (past : List Event) → legal wire seqs past → AllBehind wire past
all_behind wire speaks seqs [] h = tt
all_behind wire speaks seqs (event ∷ past) h = (
  behind_step wire speaks seqs past event.seq h.2 (outcome wire seqs past event.seq event.asked event.told h.1),
  all_behind wire speaks seqs past h.2,
)
