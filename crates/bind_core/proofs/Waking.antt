-- The last event, what it is a cause of, and whose waits it may have ended.
use Rattle.std.proofs.Common.{◌≡◌, ◌<◌, ◌≤◌, ◌+◌, ◌-◌, ℕ, suc, Bool, true, false, List, [], ◌∷◌, ◌++◌, length, drop, get_or, refl, sym, ap, ◌∙◌, subst, arith}
use Rattle.std.proofs.Common.{◌⊎◌, inl, inr, add-one, drop-cons, Some, None}
use Rattle.std.specs.Prelude.{◌==◌, ◌&&◌, ◌||◌, if◌then◌else◌, Option, is_some, reverse}
use Rattle.std.specs.List.{slice_get}
use Rattle.std.proofs.lemmas.Bool.Decides.{nat_tests}
use Rattle.std.proofs.lemmas.List.{append-nil, drop_all, get_or-reverse, length-reverse}
use Rattle.std.proofs.lemmas.List.Folds.{list_any-append}
use Rattle.std.proofs.lemmas.Option.{slice_get-get_or}
use Rattle.mj_base.specs.declared.ids.EndId.{EndId}
use Rattle.mj_base.specs.declared.ids.SeqId.{SeqId}
use Rattle.handle_table.specs.Things.{has, same_end}
use Rattle.handle_table.specs.declared.thing.Thing.{Thing}
use Rattle.handle_table.specs.declared.thing.Thing.TheVariants.{End, Token}
use Rattle.handle_table.specs.declared.thing.TokenId.{TokenId}
use Rattle.handle_table.proofs.ThingsLemmas.{has-append, or_cases, or_left, or_right, same_end-true}
use Rattle.bind_model.specs.Machine.{gone, gone_by, is_gone}
use Rattle.bind_model.specs.Notices.{Wait, first_unmet, has_met, is_met, meets, waits, waits_by}
use Rattle.bind_model.specs.Plain.{asked_of}
use Rattle.bind_model.specs.declared.asked.Asked.{Asked}
use Rattle.bind_model.specs.declared.asked.Asked.TheVariants.{Take}
use Rattle.bind_model.specs.declared.commands.Command.{Command}
use Rattle.bind_model.specs.declared.commands.Command.TheVariants.{Pause}
use Rattle.bind_model.specs.declared.event.Event.{Event}
use Rattle.bind_model.specs.declared.told.Noted.TheVariants.{Flushed}
use Rattle.bind_model.specs.declared.told.Told.{Told}
use Rattle.bind_model.specs.declared.told.Told.TheVariants.{Control, Pausing}
use Rattle.bind_model.proofs.CoreFacts.{met_stays}
use Rattle.bind_model.proofs.Outcomes.{left_false, right_false}
use Rattle.bind_core.specs.Covers.{AllListed, AreListed}
use Rattle.bind_core.specs.EndSets.{has_end}
use Rattle.bind_core.specs.declared.waiting.Cause.{Cause}
use Rattle.bind_core.specs.Causes.{Grows, HasCauses, IsNoted, Lists, Spares, all_for, causes_in, causes_of, causes_or, ends_for, flush_cause}
use Rattle.bind_core.specs.Causes.{gone_cause, gone_causes, has_cause, newest, same_cause, woken}
use Rattle.bind_core.specs.steps.Watching.{IsWithin}
use Rattle.bind_core.proofs.CauseLists.{has_more, same_cause-true}

-- ## The last event

first_of : (events : List Event) (event : Event) → 0 < length events → newest events ≡ Some (get_or events 0 event)
first_of [] event h = absurd (omega (arith, h))
first_of (e ∷ events) event h = refl

-- the last of all events is the newest
pub newest_is : (events : List Event) → slice_get events (length events - 1) ≡ newest (reverse events)
newest_is [] = refl
newest_is (event ∷ rest) =
    let less : length (event ∷ rest) - 1 < length (event ∷ rest) = omega arith in
    let some : 0 < length (event ∷ rest) = omega arith in
    let last : length (event ∷ rest) - 1 - 0 ≡ length (event ∷ rest) - 1 = omega arith in
    slice_get-get_or (event ∷ rest) (length (event ∷ rest) - 1) event less
    ∙ (ap (λ (e : Event). Some e) (sym (get_or-reverse (event ∷ rest) 0 event some ∙ ap (λ (n : ℕ). get_or (event ∷ rest) n event) last))
    ∙ sym (first_of (reverse (event ∷ rest)) event (omega (arith, length-reverse (event ∷ rest)))))

-- ## What went, one after the other

module _ (lists : Lists) (things : List Thing) (n : ℕ) (d : Thing) (less : n < length things) where
  front : (z : Thing) → get_or things n d ≡ z → drop n things ≡ z ∷ drop (n + 1) things
  front z is =
      drop-cons things n d less
      ∙ (ap (λ (y : Thing). y ∷ drop (suc n) things) is ∙ ap (λ (rest : List Thing). z ∷ rest) next)
    where
      next : drop (suc n) things ≡ drop (n + 1) things
      next = rw add-one refl

  -- the ends of an end that went stand before those of the rest
  pub gone_end : (x : EndId) → get_or things n d ≡ End x
      → all_for lists (gone_causes (drop n things)) ≡ ends_for lists (gone_cause x) ++ all_for lists (gone_causes (drop (n + 1) things))
  gone_end x is = ap (λ (ts : List Thing). all_for lists (gone_causes ts)) (front (End x) is)

  -- a token has none
  pub gone_token : (t : TokenId) → get_or things n d ≡ Token t
      → all_for lists (gone_causes (drop n things)) ≡ all_for lists (gone_causes (drop (n + 1) things))
  gone_token t is = ap (λ (ts : List Thing). all_for lists (gone_causes ts)) (front (Token t) is)

-- ## Its causes

pub one_cause : (lists : Lists) (told : Told) (asked : Asked) (o : Option Cause) (c : Cause) → causes_of told asked ≡ causes_or told o → o ≡ Some c
    → all_for lists (causes_of told asked) ≡ ends_for lists c
one_cause lists told asked o c e f = ap (all_for lists) (e ∙ ap (causes_or told) f) ∙ append-nil (ends_for lists c)

pub no_flush : (lists : Lists) (told : Told) (asked : Asked) (o : Option Cause) → causes_of told asked ≡ causes_or told o → o ≡ None
    → all_for lists (causes_of told asked) ≡ all_for lists (gone_causes (gone_by told))
no_flush lists told asked o e f = ap (all_for lists) (e ∙ ap (causes_or told) f)

-- what is spared besides the cause of a flush
pub spared_one : (told : Told) (asked : Asked) (o : Option Cause) (c other : Cause) → causes_of told asked ≡ causes_or told o → o ≡ Some c
    → has_cause (causes_of told asked) other ≡ false → same_cause c other ≡ false
spared_one told asked o c other e f h =
    left_false (same_cause c other) false (ap (λ (cs : List Cause). has_cause cs other) (sym (e ∙ ap (causes_or told) f)) ∙ h)

-- numbers of causes
plus : (m k : ℕ) → (m + 1 == k + 1) ≡ (m == k)
plus m k = go (m + 1 == k + 1) (m == k) refl refl
  where
    go : (b c : Bool) → (m + 1 == k + 1) ≡ b → (m == k) ≡ c → b ≡ c
    go true true e f = refl
    go false false e f = refl
    go true false e f = absurd (grind (arith, nat_tests, e, f))
    go false true e f = absurd (grind (arith, nat_tests, e, f))

zero_below : (k : ℕ) → (0 == k + 1) ≡ false
zero_below k = go (0 == k + 1) refl
  where
    go : (b : Bool) → (0 == k + 1) ≡ b → b ≡ false
    go true e = absurd (grind (arith, nat_tests, e))
    go false e = refl

above_zero : (k : ℕ) → (k + 1 == 0) ≡ false
above_zero k = go (k + 1 == 0) refl
  where
    go : (b : Bool) → (k + 1 == 0) ≡ b → b ≡ false
    go true e = absurd (grind (arith, nat_tests, e))
    go false e = refl

neither : (b : Bool) → ((b && false) || false) ≡ false
neither true = refl
neither false = refl

-- an end that is among those of a cause is among those of all causes
all_more : (lists : Lists) (causes : List Cause) (c : Cause) (x : EndId) → has_cause causes c ≡ true → has_end (ends_for lists c) x ≡ true
    → has_end (all_for lists causes) x ≡ true
all_more lists [] c x h f = absurd cc
all_more lists (d ∷ causes) c x h f = elim (or_cases (same_cause d c) (has_cause causes c) h) [
  | inl s ↦ has_more (ends_for lists d) (all_for lists causes) x
      (subst (λ (k : Cause). has_end (ends_for lists k) x ≡ true) (sym (same_cause-true d c s)) f)
  | inr s ↦ rw list_any-append (or_right (has_end (ends_for lists d) x) (has_end (all_for lists causes) x) (all_more lists causes c x s f))
]

-- an end that goes is a cause
gone_caused : (things : List Thing) (x : EndId) → has things (End x) ≡ true → has_cause (gone_causes things) (gone_cause x) ≡ true
gone_caused [] x h = absurd cc
gone_caused (End y ∷ things) x h = elim (or_cases (same_end y x) (has things (End x)) h) [
  | inl s ↦ or_left (same_cause (gone_cause y) (gone_cause x)) (has_cause (gone_causes things) (gone_cause x)) (rw s refl)
  | inr s ↦ or_right (same_cause (gone_cause y) (gone_cause x)) (has_cause (gone_causes things) (gone_cause x)) (gone_caused things x s)
]
gone_caused (Token t ∷ things) x h = gone_caused things x h

-- where a flush is consumed nothing goes
gone_told : (told : Told) (asked : Asked) (x : EndId) → has (gone_by told) (End x) ≡ true → has_cause (causes_of told asked) (gone_cause x) ≡ true
gone_told (Control (Flushed k)) (Take y) x h = absurd cc
gone_told told asked x h = gone_caused (gone_by told) x h

met_told : (told : Told) (asked : Asked) (x : EndId) (k : ℕ) → meets told asked x k ≡ true → has_cause (causes_of told asked) (flush_cause x k) ≡ true
met_told (Control (Flushed n)) (Take y) x k h = or_left (same_cause (flush_cause y n) (flush_cause x k)) false (rw (plus n k) h)
met_told told asked x k h = absurd cc

-- ## Waits that end

-- a wait that wasn't met and is has a cause in the event
caused : (event : Event) (past : List Event) (w : Wait) → is_met past w ≡ false → is_met (event ∷ past) w ≡ true
    → (has_cause (causes_of event.told event.asked) (flush_cause w.end w.flush) ≡ true)
    ⊎ (has_cause (causes_of event.told event.asked) (gone_cause w.end) ≡ true)
caused event past w h m = elim (or_cases (is_gone (event ∷ past) w.end) (has_met (event ∷ past) w.end w.flush) m) [
  | inl g ↦ elim (or_cases (has (gone past) (End w.end)) (has (gone_by event.told) (End w.end))
      (sym (has-append (gone past) (gone_by event.told) (End w.end)) ∙ g)) [
        | inl before ↦ absurd (let n : has (gone past) (End w.end) ≡ false = left_false (is_gone past w.end) (has_met past w.end w.flush) h in cc)
        | inr now ↦ inr (gone_told event.told event.asked w.end now)
      ]
  | inr f ↦ elim (or_cases (has_met past w.end w.flush) (meets event.told event.asked w.end w.flush) f) [
    | inl before ↦ absurd (let n : has_met past w.end w.flush ≡ false = right_false (is_gone past w.end) (has_met past w.end w.flush) h in cc)
    | inr now ↦ inl (met_told event.told event.asked w.end w.flush now)
  ]
]

-- so an end that waits no more is among those of the event
module _ (lists : Lists) (event : Event) (past : List Event) (x : EndId) where
  known : (w : Wait) → HasCauses lists x w → is_met past w ≡ false → is_met (event ∷ past) w ≡ true
      → has_end (all_for lists (causes_of event.told event.asked)) x ≡ true
  known w both h m = elim (caused event past w h m) [
    | inl f ↦ all_more lists (causes_of event.told event.asked) (flush_cause w.end w.flush) x f both.0
    | inr g ↦ all_more lists (causes_of event.told event.asked) (gone_cause w.end) x g both.1
  ]

  pub woken_by : (ws more : List Wait) (z : EndId) → AreListed lists past x ws → first_unmet past ws ≡ Some z → first_unmet (event ∷ past) (ws ++ more) ≡ None
      → has_end (all_for lists (causes_of event.told event.asked)) x ≡ true
  woken_by [] more z listed before now = absurd cc
  woken_by (w ∷ ws) more z listed before now =
      go (is_met past w) (is_met (event ∷ past) w) refl refl (λ g h. woken_by ws more z listed.1 g h) before now
    where
      go : (b c : Bool) → is_met past w ≡ b → is_met (event ∷ past) w ≡ c
          → (first_unmet past ws ≡ Some z → first_unmet (event ∷ past) (ws ++ more) ≡ None
          → has_end (all_for lists (causes_of event.told event.asked)) x ≡ true)
          → (if b then first_unmet past ws else Some w.end) ≡ Some z
          → (if c then first_unmet (event ∷ past) (ws ++ more) else Some w.end) ≡ None
          → has_end (all_for lists (causes_of event.told event.asked)) x ≡ true
      go b false e f rest g h = absurd cc
      go true true e f rest g h = rest g h
      go false true e f rest g h = known w (listed.0 e) e f

-- ## Lists of waits

-- lists with more ends do
pub listed_more : (old new : Lists) (past : List Event) (x : EndId) (ws : List Wait) → Grows old new → AreListed old past x ws → AreListed new past x ws
listed_more old new past x [] more listed = tt
listed_more old new past x (w ∷ ws) more listed = (
  λ h.
      (more (flush_cause w.end w.flush) x (listed.0 h).0, more (gone_cause w.end) x (listed.0 h).1),
  listed_more old new past x ws more listed.1,
)

-- and so do those of the last event
pub woken_more : (old new : Lists) (last : Option Event) (x : EndId) → Grows old new → has_end (woken old last) x ≡ true → has_end (woken new last) x ≡ true
woken_more old new None x more h = h
woken_more old new (Some event) x more h = each (causes_of event.told event.asked) h
  where
    each : (causes : List Cause) → has_end (all_for old causes) x ≡ true → has_end (all_for new causes) x ≡ true
    each [] h = h
    each (c ∷ causes) h = elim (or_cases (has_end (ends_for old c) x) (has_end (all_for old causes) x) (rw list_any-append at h)) [
      | inl f ↦ has_more (ends_for new c) (all_for new causes) x (more c x f)
      | inr r ↦ rw list_any-append (or_right (has_end (ends_for new c) x) (has_end (all_for new causes) x) (each causes r))
    ]

-- what is a cause of the last event has ended its waits
not_flushed : (event : Event) (past : List Event) (w : Wait) → is_met (event ∷ past) w ≡ false
    → has_cause (causes_of event.told event.asked) (flush_cause w.end w.flush) ≡ false
not_flushed event past w h = go event.told event.asked
    (right_false (has_met past w.end w.flush) (meets event.told event.asked w.end w.flush)
    (right_false (is_gone (event ∷ past) w.end) (has_met (event ∷ past) w.end w.flush) h))
  where
    never : (things : List Thing) → has_cause (gone_causes things) (flush_cause w.end w.flush) ≡ false
    never [] = refl
    never (End y ∷ things) = rw (zero_below w.flush, never things) (neither (same_end y w.end))
    never (Token t ∷ things) = never things

    go : (told : Told) (asked : Asked) → meets told asked w.end w.flush ≡ false → has_cause (causes_of told asked) (flush_cause w.end w.flush) ≡ false
    go (Control (Flushed n)) (Take y) f = rw (plus n w.flush, f) refl
    go told asked f = never (gone_by told)

not_gone : (event : Event) (past : List Event) (w : Wait) → is_met (event ∷ past) w ≡ false
    → has_cause (causes_of event.told event.asked) (gone_cause w.end) ≡ false
not_gone event past w h = go event.told event.asked
    (right_false (has (gone past) (End w.end)) (has (gone_by event.told) (End w.end))
    (sym (has-append (gone past) (gone_by event.told) (End w.end))
    ∙ left_false (is_gone (event ∷ past) w.end) (has_met (event ∷ past) w.end w.flush) h))
  where
    among : (things : List Thing) → has things (End w.end) ≡ false → has_cause (gone_causes things) (gone_cause w.end) ≡ false
    among [] f = refl
    among (End y ∷ things) f =
        rw (left_false (same_end y w.end) (has things (End w.end)) f) (among things (right_false (same_end y w.end) (has things (End w.end)) f))
    among (Token t ∷ things) f = among things f

    go : (told : Told) (asked : Asked) → has (gone_by told) (End w.end) ≡ false → has_cause (causes_of told asked) (gone_cause w.end) ≡ false
    go (Control (Flushed n)) (Take y) f = rw (above_zero n) (neither (same_end y w.end))
    go told asked f = among (gone_by told) f

-- so do lists that lost those of the last event
pub listed_spared : (old new : Lists) (past : List Event) → Spares (causes_in (newest past)) old new → AllListed old past → AllListed new past
listed_spared old new [] spared listed x = tt
listed_spared old new (event ∷ past) spared listed x = each (waits (event ∷ past) x) (listed x)
  where
    each : (ws : List Wait) → AreListed old (event ∷ past) x ws → AreListed new (event ∷ past) x ws
    each [] l = tt
    each (w ∷ ws) l = (
      λ h. (
        subst (λ (ends : List EndId). has_end ends x ≡ true) (sym (spared (flush_cause w.end w.flush) (not_flushed event past w h))) (l.0 h).0,
        subst (λ (ends : List EndId). has_end ends x ≡ true) (sym (spared (gone_cause w.end) (not_gone event past w h))) (l.0 h).1,
      ),
      each ws l.1,
    )

-- what is met stays so
pub listed_later : (lists : Lists) (event : Event) (past : List Event) (x : EndId) (ws : List Wait) → AreListed lists past x ws
    → AreListed lists (event ∷ past) x ws
listed_later lists event past x [] listed = tt
listed_later lists event past x (w ∷ ws) listed =
    (λ h. listed.0 (not_yet (is_met past w) refl h), listed_later lists event past x ws listed.1)
  where
    not_yet : (b : Bool) → is_met past w ≡ b → is_met (event ∷ past) w ≡ false → b ≡ false
    not_yet true e h = absurd (let m : is_met (event ∷ past) w ≡ true = met_stays past event w e in cc)
    not_yet false e h = refl

pub both_listed : (lists : Lists) (past : List Event) (x : EndId) (ws more : List Wait) → AreListed lists past x ws → AreListed lists past x more
    → AreListed lists past x (ws ++ more)
both_listed lists past x [] more listed last = last
both_listed lists past x (w ∷ ws) more listed last = (listed.0, both_listed lists past x ws more listed.1 last)

-- the wait that a command gives
given : (lists : Lists) (past : List Event) (x : EndId) (told : Told) (command : Command) → IsNoted lists command
    → AreListed lists past x (waits_by told (asked_of command) x)
given lists past x Pausing (Pause b a k) noted = go (same_end b x) refl
  where
    go : (same : Bool) → same_end b x ≡ same → AreListed lists past x (if same then record { end = a; flush = k } ∷ [] else [])
    go true e = (λ h. subst (λ (y : EndId). HasCauses lists y (record { end = a; flush = k })) (same_end-true b x e) noted, tt)
    go false e = tt
given lists past x told command noted = tt

-- so all waits are listed behind the event of a command whose wait was noted
pub listed_after : (lists : Lists) (past : List Event) (seq : SeqId) (told : Told) (command : Command) → IsNoted lists command → AllListed lists past
    → AllListed lists (record { seq = seq; asked = asked_of command; told = told } ∷ past)
listed_after lists past seq told command noted listed x =
    let event : Event = record { seq = seq; asked = asked_of command; told = told } in
    both_listed lists (event ∷ past) x (waits past x) (waits_by told (asked_of command) x) (listed_later lists event past x (waits past x) (listed x))
    (given lists (event ∷ past) x told command noted)

-- ## Ends that were looked at

-- behind one more each end of these where somebody takes is watched, or still to be looked at
pub looked_at : (takes : EndId → Option SeqId) (all old new : List EndId) (n : ℕ) (d : EndId) → n < length all → IsWithin old new
    → (is_some (takes (get_or all n d)) ≡ true → has_end new (get_or all n d) ≡ true)
    → ((x : EndId) → has_end all x ≡ true → is_some (takes x) ≡ true → (has_end old x || has_end (drop n all) x) ≡ true)
    → (x : EndId) → has_end all x ≡ true → is_some (takes x) ≡ true → (has_end new x || has_end (drop (n + 1) all) x) ≡ true
looked_at takes all old new n d less more one before x h t = elim (or_cases (has_end old x) (has_end (drop n all) x) (before x h t)) [
  | inl o ↦ or_left (has_end new x) (has_end (drop (n + 1) all) x) (more x o)
  | inr b ↦ elim (or_cases (same_end x (get_or all n d)) (has_end (drop (n + 1) all) x)
      (sym (ap (λ (ends : List EndId). has_end ends x) front) ∙ b)) [
        | inl s ↦ or_left (has_end new x) (has_end (drop (n + 1) all) x) (here (same_end-true x (get_or all n d) s))
        | inr r ↦ or_right (has_end new x) (has_end (drop (n + 1) all) x) r
      ]
]
  where
    next : drop (suc n) all ≡ drop (n + 1) all
    next = rw add-one refl

    front : drop n all ≡ get_or all n d ∷ drop (n + 1) all
    front = drop-cons all n d less ∙ ap (λ (rest : List EndId). get_or all n d ∷ rest) next

    here : x ≡ get_or all n d → has_end new x ≡ true
    here e =
        subst (λ (z : EndId). has_end new z ≡ true) (sym e) (one (subst (λ (z : EndId). is_some (takes z) ≡ true) e t))

-- once all were looked at, each such end is watched
pub all_looked : (all now : List EndId) (n : ℕ) → length all ≤ n → (x : EndId) → (has_end now x || has_end (drop n all) x) ≡ true → has_end now x ≡ true
all_looked all now n most x h = elim (or_cases (has_end now x) (has_end (drop n all) x) h) [
  | inl o ↦ o
  | inr d ↦ absurd (let e : has_end (drop n all) x ≡ false = ap (λ (ends : List EndId). has_end ends x) (drop_all n all most) in cc)
]
