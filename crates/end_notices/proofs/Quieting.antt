-- Events that are of no controls that ends write, and what each other makes of all ends.
use Rattle.std.proofs.Common.{◌≡◌, ◌<◌, ℕ, Bool, true, false, List, [], ◌∷◌, refl, sym, ap, ◌∙◌, subst}
use Rattle.std.specs.Prelude.{if◌then◌else◌, ◌+◌, length, Some}
use Rattle.std.specs.List.{slice_get}
use Rattle.mj_base.specs.declared.ids.EndId.{EndId}
use Rattle.mj_base.specs.declared.ids.SeqId.{SeqId}
use Rattle.handle_table.specs.Things.{same_end}
use Rattle.handle_table.proofs.ThingsLemmas.{same_end-true}
use Rattle.bind_model.specs.Notices.{flushed, flushes, is_met, meets, queries, versions, waits_by}
use Rattle.bind_model.specs.Replies.{told_of}
use Rattle.bind_model.specs.declared.asked.Asked.{Asked}
use Rattle.bind_model.specs.declared.asked.Asked.TheVariants.{Notify, Pause, Take}
use Rattle.bind_model.specs.declared.asked.Notice.{Notice}
use Rattle.bind_model.specs.declared.asked.Notice.TheVariants.{Query, Require, Flush}
use Rattle.bind_model.specs.declared.event.Event.{Event}
use Rattle.bind_model.specs.declared.told.Noted.{Noted}
use Rattle.bind_model.specs.declared.told.Noted.TheVariants as noted
use Rattle.bind_model.specs.declared.told.Notified.TheVariants.{Asking, Requiring, Flushing}
use Rattle.bind_model.specs.declared.told.Told.{Told}
use Rattle.bind_model.specs.declared.told.Told.TheVariants.{Notified, Pausing, Control}
use Rattle.end_notices.specs.Seen.{Seen, with_flush, with_met, with_notice, with_query, with_wait, without_query, without_wait}
use Rattle.end_notices.specs.Table.{AllSame, BecomesAt, Lines, notices_at}
use Rattle.end_notices.specs.Agreement.{Agrees, AllAgree, wait_of}
use Rattle.end_notices.specs.declared.waits.Wait.{Wait}
use Rattle.end_notices.proofs.Stepping.{IsQuiet, answered, asked, begins, consumed, forgot, quiet, waited, wrote_flush}

-- whether an event is of such a control: it asks for a version or tells one, writes a flush or consumes one, or gives a wait
abbrev pub stirs : Told → Asked → Bool
stirs (Notified what) (Notify y notice) = true
stirs (Control (noted.Version id v)) (Take y) = true
stirs (Control (noted.Flushed k)) (Take y) = true
stirs Pausing (Pause b a k) = true
stirs told asked = false

asks_none : (told : Told) (asked : Asked) → stirs told asked ≡ false → (x : EndId) (id : ℕ) → queries told asked x id ≡ 0
asks_none (Notified Asking) (Notify y notice) h x id = absurd cc
asks_none (Notified Requiring) asked h x id = refl
asks_none (Notified (Flushing k)) asked h x id = refl
asks_none told asked h x id = refl

tells_none : (told : Told) (asked : Asked) → stirs told asked ≡ false → (x : EndId) (id : ℕ) → versions told asked x id ≡ 0
tells_none (Control (noted.Version n v)) (Take y) h x id = absurd cc
tells_none (Control (noted.Closed n)) (Take y) h x id = refl
tells_none (Control (noted.Queried n v)) (Take y) h x id = refl
tells_none (Control (noted.Required n v)) (Take y) h x id = refl
tells_none (Control (noted.Flushed k)) (Take y) h x id = refl
tells_none told asked h x id = refl

writes_none : (told : Told) (asked : Asked) → stirs told asked ≡ false → (x : EndId) → flushes told asked x ≡ []
writes_none (Notified Asking) asked h x = refl
writes_none (Notified Requiring) asked h x = refl
writes_none (Notified (Flushing k)) (Notify y notice) h x = absurd cc
writes_none told asked h x = refl

consumes_none : (told : Told) (asked : Asked) → stirs told asked ≡ false → (x : EndId) (k : ℕ) → meets told asked x k ≡ false
consumes_none (Control (noted.Flushed n)) (Take y) h x k = absurd cc
consumes_none (Control (noted.Closed n)) (Take y) h x k = refl
consumes_none (Control (noted.Queried n v)) (Take y) h x k = refl
consumes_none (Control (noted.Version n v)) (Take y) h x k = refl
consumes_none (Control (noted.Required n v)) (Take y) h x k = refl
consumes_none told asked h x k = refl

gives_none : (told : Told) (asked : Asked) → stirs told asked ≡ false → (x : EndId) → waits_by told asked x ≡ []
gives_none Pausing (Pause b a k) h x = absurd cc
gives_none told asked h x = refl

-- such an event leaves what each end keeps
pub all_quiet : (event : Event) (past : List Event) (lines : Lines) → stirs event.told event.asked ≡ false → AllAgree past lines
    → AllAgree (event ∷ past) lines
all_quiet event past lines still all = λ x.
    quiet event past x (notices_at lines x) (all x)
    (record {
      asks = asks_none event.told event.asked still x;
      tells = tells_none event.told event.asked still x;
      writes = writes_none event.told event.asked still x;
      consumes = consumes_none event.told event.asked still x;
      waits = gives_none event.told event.asked still x;
    })

-- a table without lines agrees with no events
pub none_agree : AllAgree [] []
none_agree x = begins x

-- the first wait of an end may be forgotten once it is met
pub all_forgot : (past : List Event) (y : EndId) (wait : Wait) (old new : Lines) → slice_get (notices_at old y).waits 0 ≡ Some wait
    → is_met past (wait_of wait) ≡ true → BecomesAt without_wait y old new → AllAgree past old → AllAgree past new
all_forgot past y wait old new first met change all = λ x. subst (λ (seen : Seen). Agrees past x seen) (sym (change x)) (go x (same_end y x) refl)
  where
    go : (x : EndId) (b : Bool) → same_end y x ≡ b → Agrees past x (if b then without_wait (notices_at old x) else notices_at old x)
    go x true e =
        forgot past x (notices_at old x) (all x) wait
        (subst (λ (z : EndId). slice_get (notices_at old z).waits 0 ≡ Some wait) (same_end-true y x e) first) met
    go x false e = all x

-- a change of one end behind one that nobody sees
pub becomes_after : (f : Seen → Seen) (end : EndId) (old mid new : Lines) → AllSame old mid → BecomesAt f end mid new → BecomesAt f end old new
becomes_after f end old mid new same change = λ x.
    change x ∙ ap (λ (seen : Seen). if same_end end x then f seen else seen) (same x)

-- what becomes of one end by an event that stirs only it
module _ (past : List Event) (event : Event) (y : EndId) (f : Seen → Seen) (old new : Lines) (change : BecomesAt f y old new)
    (here : (x : EndId) (seen : Seen) → same_end y x ≡ true → Agrees past x seen → Agrees (event ∷ past) x (f seen))
    (there : (x : EndId) → same_end y x ≡ false → IsQuiet event x) where
  all_become : AllAgree past old → AllAgree (event ∷ past) new
  all_become all = λ x. subst (λ (seen : Seen). Agrees (event ∷ past) x seen) (sym (change x)) (go x (same_end y x) refl)
    where
      go : (x : EndId) (b : Bool) → same_end y x ≡ b → Agrees (event ∷ past) x (if b then f (notices_at old x) else notices_at old x)
      go x true e = here x (notices_at old x) e (all x)
      go x false e = quiet event past x (notices_at old x) (all x) (there x e)

module _ (past : List Event) (seq : SeqId) (y : EndId) (old new : Lines) where
  abbrev notify : Notice → Event
  notify notice = record { seq = seq; asked = Notify y notice; told = Notified (told_of past y notice) }

  -- a notice that was written
  pub all_notified : (notice : Notice) → BecomesAt (with_notice notice) y old new → AllAgree past old → AllAgree (notify notice ∷ past) new
  all_notified (Query id) change all = all_become past (notify (Query id)) y (with_query id) old new change here there all
    where
      here : (x : EndId) (seen : Seen) → same_end y x ≡ true → Agrees past x seen → Agrees (notify (Query id) ∷ past) x (with_query id seen)
      here x seen e a =
          asked (notify (Query id)) past x seen (with_query id seen) a id (λ n. rw e refl) (λ n. refl) refl (λ k. refl) refl
          (λ n. refl) refl (λ k. refl) refl

      there : (x : EndId) → same_end y x ≡ false → IsQuiet (notify (Query id)) x
      there x e = record { asks = λ n. rw e refl; tells = λ n. refl; writes = refl; consumes = λ k. refl; waits = refl }
  all_notified (Require id v) change all = λ x.
      subst (λ (seen : Seen). Agrees (notify (Require id v) ∷ past) x seen) (sym (change x ∙ both (same_end y x) (notices_at old x)))
      (quiet (notify (Require id v)) past x (notices_at old x) (all x)
      (record { asks = λ n. refl; tells = λ n. refl; writes = refl; consumes = λ k. refl; waits = refl }))
    where
      both : (b : Bool) (seen : Seen) → (if b then seen else seen) ≡ seen
      both true seen = refl
      both false seen = refl
  all_notified Flush change all = all_become past (notify Flush) y with_flush old new change here there all
    where
      here : (x : EndId) (seen : Seen) → same_end y x ≡ true → Agrees past x seen → Agrees (notify Flush ∷ past) x (with_flush seen)
      here x seen e a =
          wrote_flush (notify Flush) past x seen (with_flush seen) a (length (flushed past y) + 1) (λ n. refl) (λ n. refl) (rw e refl) (λ k. refl) refl
          (λ n. refl) refl (λ k. refl) refl

      there : (x : EndId) → same_end y x ≡ false → IsQuiet (notify Flush) x
      there x e = record { asks = λ n. refl; tells = λ n. refl; writes = rw e refl; consumes = λ k. refl; waits = refl }

  abbrev take : Noted → Event
  take said = record { seq = seq; asked = Take y; told = Control said }

  -- a version that was told
  pub all_answered : (id v : ℕ) → 0 < (notices_at old y).queries id → BecomesAt (without_query id) y old new → AllAgree past old
      → AllAgree (take (noted.Version id v) ∷ past) new
  all_answered id v some change all = λ x.
      subst (λ (seen : Seen). Agrees (take (noted.Version id v) ∷ past) x seen) (sym (change x)) (go x (same_end y x) refl)
    where
      go : (x : EndId) (b : Bool) → same_end y x ≡ b
          → Agrees (take (noted.Version id v) ∷ past) x (if b then without_query id (notices_at old x) else notices_at old x)
      go x true e =
          answered (take (noted.Version id v)) past x (notices_at old x) (without_query id (notices_at old x)) (all x) id
          (subst (λ (z : EndId). 0 < (notices_at old z).queries id) (same_end-true y x e) some)
          (λ n. refl) (λ n. rw e refl) refl (λ k. refl) refl (λ n. refl) refl (λ k. refl) refl
      go x false e =
          quiet (take (noted.Version id v)) past x (notices_at old x) (all x)
          (record { asks = λ n. refl; tells = λ n. rw e refl; writes = refl; consumes = λ k. refl; waits = refl })

  -- a flush that was consumed
  pub all_met : (flush : ℕ) → BecomesAt (with_met flush) y old new → AllAgree past old → AllAgree (take (noted.Flushed flush) ∷ past) new
  all_met flush change all = all_become past (take (noted.Flushed flush)) y (with_met flush) old new change here there all
    where
      here : (x : EndId) (seen : Seen) → same_end y x ≡ true → Agrees past x seen → Agrees (take (noted.Flushed flush) ∷ past) x (with_met flush seen)
      here x seen e a =
          consumed (take (noted.Flushed flush)) past x seen (with_met flush seen) a flush (λ n. refl) (λ n. refl) refl (λ k. rw e refl) refl
          (λ n. refl) refl (λ k. refl) refl

      there : (x : EndId) → same_end y x ≡ false → IsQuiet (take (noted.Flushed flush)) x
      there x e = record { asks = λ n. refl; tells = λ n. refl; writes = refl; consumes = λ k. rw e refl; waits = refl }

  abbrev pause : EndId → ℕ → Event
  pause a flush = record { seq = seq; asked = Pause y a flush; told = Pausing }

  -- a wait that was given
  pub all_waited : (wait : Wait) → BecomesAt (with_wait wait) y old new → AllAgree past old → AllAgree (pause wait.end wait.flush ∷ past) new
  all_waited wait change all = all_become past (pause wait.end wait.flush) y (with_wait wait) old new change here there all
    where
      here : (x : EndId) (seen : Seen) → same_end y x ≡ true → Agrees past x seen
          → Agrees (pause wait.end wait.flush ∷ past) x (with_wait wait seen)
      here x seen e a =
          waited (pause wait.end wait.flush) past x seen (with_wait wait seen) a wait (λ n. refl) (λ n. refl) refl (λ k. refl) (rw e refl)
          (λ n. refl) refl (λ k. refl) refl

      there : (x : EndId) → same_end y x ≡ false → IsQuiet (pause wait.end wait.flush) x
      there x e = record { asks = λ n. refl; tells = λ n. refl; writes = refl; consumes = λ k. refl; waits = rw e refl }
