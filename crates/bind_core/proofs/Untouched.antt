-- An event makes nobody take, whatever ends wait for, but at the end that it is about, and at its peer.
use Rattle.bind_model.specs.declared.told.Noted.TheVariants as noted
use Rattle.std.proofs.Common.{◌≡◌, ℕ, Bool, true, false, List, [], ◌∷◌, ◌++◌, length, drop, refl, sym, ap, ◌∙◌}
use Rattle.std.specs.Prelude.{◌==◌, ◌||◌, if◌then◌else◌, Option, Some, None, is_some}
use Rattle.std.proofs.lemmas.List.{append-nil}
use Rattle.mj_base.specs.declared.ids.EndId.{EndId}
use Rattle.handle_table.specs.Things.{has, same_end}
use Rattle.handle_table.specs.declared.thing.Thing.TheVariants.{End}
use Rattle.message_pipe.specs.Mail.{front_of}
use Rattle.message_pipe.specs.declared.message.Message.{Message}
use Rattle.bind_model.specs.declared.asked.Asked.{Asked}
use Rattle.bind_model.specs.declared.asked.Asked.TheVariants.{Bind, Associate, Attach, Call, Answer, Raw, Take, Close, Notify}
use Rattle.bind_model.specs.declared.asked.Closing.TheVariants as closings
use Rattle.bind_model.specs.declared.event.Event.{Event}
use Rattle.bind_model.specs.declared.told.Told.{Told}
use Rattle.bind_model.specs.declared.told.Told.TheVariants.{Associated, Attached, Bound, Closed, Control, Dropped, Sent, Taken, Wrote, Notified as Informed}
use Rattle.bind_model.specs.Machine.{changes, endpoint_at, gone_by, is_gone, is_local, peer, puts, taken, takes, unread, written}
use Rattle.bind_model.specs.Ready.{is_takeable, meant}
use Rattle.bind_model.specs.Wire.{Wire}
use Rattle.bind_model.proofs.Outcomes.{left_false, right_false}
use Rattle.bind_core.specs.steps.Watching.{is_near}
use Rattle.bind_core.specs.Takers.{taker_at}
use Rattle.core_state.proofs.After.{gone_after}
use Rattle.bind_core.proofs.WhoTakes.{same_taker, some_taker, taker_closed}

abbrev pub bound_end : Told → Option EndId
bound_end (Bound x) = Some x
bound_end told = None

abbrev pub associated_end : Told → Option EndId
associated_end (Associated p) = Some p.end
associated_end told = None

abbrev pub written_end : Told → Option EndId
written_end (Wrote x) = Some x
written_end told = None

-- the end that an event is about; where the command is refused it need not be
abbrev pub about : Asked → Told → Option EndId
about (Bind x side interface) told = bound_end told
about (Associate x side interface) told = associated_end told
about (Attach p t) told = Some p.end
about (Call x id s) told = Some x
about (Answer r s) told = Some r.end
about (Raw x bytes handles) told = written_end told
about (Take x) told = Some x
about (Notify x notice) told = Some x
about (Close (closings.Endpoint x id)) told = Some x
about (Close (closings.Pending p)) told = Some p.end
about asked told = None

module _ (wire : Wire) (past : List Event) (y : EndId) where
  left : (x : EndId) → is_near past (Some x) y ≡ false → same_end x y ≡ false
  left x h = left_false (same_end x y) (same_end (peer past x) y) h

  right : (x : EndId) → is_near past (Some x) y ≡ false → same_end (peer past x) y ≡ false
  right x h = right_false (same_end x y) (same_end (peer past x) y) h

  takes_far : (told : Told) (asked : Asked) → is_near past (about asked told) y ≡ false → takes told asked y ≡ []
  takes_far (Taken g) (Take x) h = rw (left x h) refl
  takes_far (Dropped id goes) (Take x) h = rw (left x h) refl
  takes_far (Control c) (Take x) h = rw (left x h) refl
  takes_far told asked h = refl

  either : (b : Bool) (xs : List Message) → xs ≡ [] → (if b then [] else xs) ≡ []
  either true xs e = refl
  either false xs e = e

  puts_far : (told : Told) (asked : Asked) → is_near past (about asked told) y ≡ false
      → puts wire past (written wire past) (endpoint_at wire past) told asked y ≡ []
  puts_far (Sent request bytes) (Call x id s) h = rw (right x h) refl
  puts_far (Sent request bytes) (Answer r s) h = rw (right r.end h) refl
  puts_far (Wrote z) (Raw x bytes handles) h = rw (right z h) refl
  puts_far (Taken g) (Take x) h = rw (right x h) refl
  puts_far (Dropped id goes) (Take x) h = rw (right x h) refl
  puts_far (Closed goes) (Close (closings.Endpoint x id)) h = either (id == 0) _ (rw (right x h) refl)
  puts_far (Closed goes) (Close (closings.Pending p)) h = either (is_gone past p.end || is_local past p) _ (rw (right p.end h) refl)
  puts_far (Control (noted.Queried n (Some v))) (Take x) h = rw (right x h) refl
  puts_far (Control (noted.Queried n None)) (Take x) h = refl
  puts_far (Control (noted.Closed n)) (Take x) h = refl
  puts_far (Control (noted.Version n v)) (Take x) h = refl
  puts_far (Control (noted.Required n v)) (Take x) h = refl
  puts_far (Control (noted.Flushed n)) (Take x) h = refl
  puts_far (Informed n) (Notify x notice) h = rw (right x h) refl
  puts_far told asked h = refl

  module _ (event : Event) (far : is_near past (about event.asked event.told) y ≡ false) where
    changes_far : (told : Told) (asked : Asked) → is_near past (about asked told) y ≡ false → (id : ℕ)
        → changes wire past (written wire past) (endpoint_at wire past) event.seq told asked y id ≡ endpoint_at wire past y id
    changes_far (Bound z) (Bind x side interface) h id = rw (left z h) refl
    changes_far (Associated p) (Associate x side interface) h id = rw (left p.end h) refl
    changes_far (Attached n) (Attach p t) h id = rw (left p.end h) refl
    changes_far (Taken g) (Take x) h id = rw (left x h) refl
    changes_far (Dropped n goes) (Take x) h id = rw (left x h) refl
    changes_far (Control (noted.Closed n)) (Take x) h id = rw (left x h) refl
    changes_far (Control (noted.Queried n v)) (Take x) h id = refl
    changes_far (Control (noted.Version n v)) (Take x) h id = refl
    changes_far (Control (noted.Required n v)) (Take x) h id = refl
    changes_far (Control (noted.Flushed n)) (Take x) h id = refl
    changes_far (Closed goes) (Close (closings.Endpoint x n)) h id = rw (left x h) refl
    changes_far (Closed goes) (Close (closings.Pending p)) h id = rw (left p.end h) refl
    changes_far told asked h id = refl

    -- what lies at an end that isn't gone
    unread_far : (g h : Bool) → g ≡ false → h ≡ false
        → (if h then [] else drop (length (taken past y ++ takes event.told event.asked y))
        (written wire past y ++ puts wire past (written wire past) (endpoint_at wire past) event.told event.asked y))
        ≡ (if g then [] else drop (length (taken past y)) (written wire past y))
    unread_far g h e f =
        rw (e, f, takes_far event.told event.asked far, puts_far event.told event.asked far, append-nil (taken past y), append-nil (written wire past y)) refl

    abbrev takes_by : List Event → Bool → Bool
    takes_by es g = is_some (taker_at (λ n. meant wire n) (endpoint_at wire es y) g (front_of (unread wire es y)))

    open_now : (g : Bool) → is_gone (event ∷ past) y ≡ g → takes_by (event ∷ past) g ≡ true → takes_by past (is_gone past y) ≡ true
    open_now true e h = absurd (let n : takes_by (event ∷ past) true
        ≡ false = ap (λ (o : Option _). is_some o) (taker_closed (λ n. meant wire n) (endpoint_at wire (event ∷ past) y)
        (front_of (unread wire (event ∷ past) y))) in cc)
    open_now false e h =
        let before : is_gone past y ≡ false = left_false (is_gone past y) (has (gone_by event.told) (End y)) (sym (gone_after wire event past (End y)) ∙ e) in
        sym (ap (λ o. is_some o) (same_taker (λ n. meant wire n) (λ n. meant wire n) (endpoint_at wire (event ∷ past) y) (endpoint_at wire past y) (λ m. refl)
        (changes_far event.told event.asked far) false (is_gone past y) (front_of (unread wire (event ∷ past) y)) (front_of (unread wire past y)) (sym before)
        (ap (λ ms. front_of ms) (unread_far (is_gone past y) (is_gone (event ∷ past) y) before e)))) ∙ h

    -- who would take there would have before
    pub takeable_far : is_takeable wire (event ∷ past) y ≡ true → is_takeable wire past y ≡ true
    takeable_far h = sym (some_taker wire past y) ∙ open_now (is_gone (event ∷ past) y) refl (some_taker wire (event ∷ past) y ∙ h)
