-- What a desk keeps follows each of its steps.
use Rattle.bind_model.specs.declared.told.Noted.TheVariants as noted
use Rattle.std.proofs.Common.{◌≡◌, ◌==◌, ℕ, ℤ, Bool, true, false, List, [], ◌∷◌, ◌++◌, ◌⊎◌, inl, inr, refl, sym, ap, ◌∙◌, subst}
use Rattle.std.specs.Prelude.{Option, Some, None, IfSome, length, if◌then◌else◌, not, ◌&&◌, cond}
use Rattle.std.specs.FinMap.{empty, get, insert}
use Rattle.std.proofs.lemmas.Bool.{true≢false}
use Rattle.mj_base.specs.declared.ids.EndId.{EndId}
use Rattle.bind_model.specs.Replies.{is_response}
use Rattle.bind_model.specs.declared.asked.Asked.TheVariants as asks
use Rattle.bind_model.specs.declared.asked.Closing.TheVariants as closings
use Rattle.bind_model.specs.declared.told.Told.{Told}
use Rattle.bind_model.specs.declared.told.Told.TheVariants as tells
use Rattle.bind_model.specs.declared.told.Why.TheVariants as whys
use Rattle.handle_table.specs.declared.thing.Thing.{Thing}
use Rattle.wire_encoder.specs.declared.prepared.Prepared.{Prepared}
use Rattle.bind_model.specs.Pendings.{Half}
use Rattle.bind_model.specs.Plain.{asked_of, told_of}
use Rattle.bind_model.specs.declared.commands.Command.{Command}
use Rattle.bind_model.specs.declared.commands.Command.TheVariants as commands
use Rattle.bind_model.specs.declared.commands.Reply.{Reply}
use Rattle.bind_model.specs.declared.commands.Reply.TheVariants as replies
use Rattle.bind_model.specs.declared.commands.ToClose.TheVariants as closes
use Rattle.response_map.specs.Keys.{is_of_end, is_of_endpoint}
use Rattle.response_map.specs.declared.key.Key.{Key}
use Rattle.remote_receiver.specs.declared.job.Answered.{Answered}
use Rattle.remote_receiver.specs.declared.jobs.Waiting.{Waiting}
use Rattle.remote_receiver.specs.declared.told.Ends.{Ends}
use Rattle.remote_receiver.specs.declared.told.Ends.TheVariants.{All, One}
use Rattle.remote_receiver.specs.Stepped.{Step, given, answered, key_of, same_key, step_of}
use Rattle.remote_receiver.specs.Notes.{unrun, IsWaiting, AreNotes, Kept, HasKept, Follows}
use Rattle.remote_receiver.specs.Calls.{IsOther}
use Rattle.remote_receiver.specs.steps.Doing.{AfterClose, AfterEnds, AfterTake, Dropped, Keeps, Noted, Heard, HeardIf, ended_by}
use Rattle.remote_receiver.proofs.Later.{told_at, over_at, waits_less, waits_more}
use Rattle.remote_receiver.proofs.Noting.{notes_stay, note_set, note_more, given_waits, waits_given}
use Rattle.remote_receiver.proofs.Requests.{is_one, one_key, itself, same_itself, same_keys, get_put, get_taken, get_kept, none_there}

no_some : {X : Type 0} (x : X) → ◌≡◌ {A = Option X} None (Some x) → ⊥
no_some x e = cc

module _ {C : Type 0} (promises : C → Answered → ℕ → Type 0) where
  -- before any step nothing is kept
  pub none_kept : (kept : Kept C) → kept.waiting ≡ empty → kept.notes ≡ [] → HasKept promises [] kept
  none_kept kept waiting notes = record {
    notes = notes;
    wait = λ key w there. absurd (none_there kept.waiting key w waiting there);
    all = λ key job at waits. absurd waits;
  }

  -- a step that gives no job and is no response: those go whose end it shows
  pub follows_end : (s : Step C) (old new : Kept C) → given s ≡ None → ((key : Key) → told_at key s ≡ None)
      → Dropped (λ key. over_at key s) old new → Follows promises old s new
  follows_end s old new none never dropped steps kept = record {
    notes = subst (AreNotes promises (steps ++ s ∷ [])) (sym dropped.1) (notes_stay promises steps s old.notes none (λ key job at w. never key) kept.notes);
    wait = λ key w there.
        let is : cond (not (over_at key s)) (get old.waiting key) None ≡ Some w =
        sym (ap (λ m. get m key) dropped.0 ∙ get_kept old.waiting (λ k. not (over_at k s)) key) ∙ there in
        by key w (over_at key s) refl is;
    all = λ key job at waits.
        let less = waits_less steps s none key job at waits in
        ap (λ m. get m key) dropped.0 ∙ get_kept old.waiting (λ k. not (over_at k s)) key
        ∙ ap (λ b. cond (not b) (get old.waiting key) None) less.2 ∙ kept.all key job at less.0;
  }
    where
      by : (key : Key) (w : Waiting C) (b : Bool) → over_at key s ≡ b → cond (not b) (get old.waiting key) None ≡ Some w
          → IsWaiting (steps ++ s ∷ []) key w.job w.at
      by key w true e is = absurd (no_some w is)
      by key w false e is = waits_more steps s key w.job w.at (kept.wait key w is) (never key) e

  -- a step that gives no job, is no response and shows no end: nothing changes
  pub follows_same : (s : Step C) (old : Kept C) → given s ≡ None → ((key : Key) → told_at key s ≡ None) → ((key : Key) → over_at key s ≡ false)
      → Follows promises old s old
  follows_same s old none never over steps kept = record {
    notes = notes_stay promises steps s old.notes none (λ key job at w. never key) kept.notes;
    wait = λ key w there. waits_more steps s key w.job w.at (kept.wait key w there) (never key) (over key);
    all = λ key job at waits. kept.all key job at (waits_less steps s none key job at waits).0;
  }

  -- a step that gives a job
  pub follows_given : (s : Step C) (old new : Kept C) (one : Key × C) → given s ≡ Some one → ((key : Key) → told_at key s ≡ None)
      → ((key : Key) → over_at key s ≡ false) → get old.waiting one.0 ≡ None
      → new.waiting ≡ insert old.waiting one.0 (record { job = one.1; at = length old.notes }) → new.notes ≡ old.notes ++ unrun one.0 ∷ []
      → Follows promises old s new
  follows_given s old new one gives never over absent puts pushes steps kept = record {
    notes = subst (AreNotes promises (steps ++ s ∷ [])) (sym pushes) (note_more promises steps s old.notes one gives never kept.notes);
    wait = λ key w there. waits key w (is_one key one.0) refl (sym (found key) ∙ there);
    all = λ key job at w. known key job at (waits_given promises steps s old.notes one gives kept.notes key job at w);
  }
    where
      found : (key : Key) → get new.waiting key ≡ cond (is_one key one.0) (Some (record { job = one.1; at = length old.notes })) (get old.waiting key)
      found key = ap (λ m. get m key) puts ∙ get_put old.waiting one.0 (record { job = one.1; at = length old.notes }) key

      waits : (key : Key) (w : Waiting C) (b : Bool) → is_one key one.0 ≡ b
          → cond b (Some (record { job = one.1; at = length old.notes })) (get old.waiting key) ≡ Some w → IsWaiting (steps ++ s ∷ []) key w.job w.at
      waits key w true e is =
          let same : ◌≡◌ {A = Waiting C} (record { job = one.1; at = length old.notes }) w = cc in
          subst (λ k. IsWaiting (steps ++ s ∷ []) k w.job w.at) (sym (one_key key one.0 e))
          (subst (λ (v : Waiting C). IsWaiting (steps ++ s ∷ []) one.0 v.job v.at) same
          (given_waits promises steps s old.notes one gives kept.notes))
      waits key w false e is = waits_more steps s key w.job w.at (kept.wait key w is) (never key) (over key)

      other : (key : Key) (b : Bool) → is_one key one.0 ≡ b → (w : Waiting C) → get old.waiting key ≡ Some w
          → cond b (Some (record { job = one.1; at = length old.notes })) (get old.waiting key) ≡ Some w
      other key true e w there =
          absurd (no_some w (sym (ap (get old.waiting) (one_key key one.0 e) ∙ absent) ∙ there))
      other key false e w there = there

      known : (key : Key) (job : C) (at : ℕ) → IsWaiting steps key job at ⊎ ((one ≡ (key, job)) × (at ≡ length old.notes))
          → get new.waiting key ≡ Some (record { job = job; at = at })
      known key job at (inl w) = found key ∙ other key (is_one key one.0) refl (record { job = job; at = at }) (kept.all key job at w)
      known key job at (inr (e, n)) =
          found key
          ∙ ap (λ b. cond b (Some (record { job = one.1; at = length old.notes })) (get old.waiting key))
          (ap (λ (p : Key × C). is_one p.0 one.0) (sym e) ∙ itself one.0)
          ∙ ap (λ (v : Waiting C). Some v) (λ i. record { job = (e i).1; at = (sym n) i })

  -- a step that responds to one request: its job runs if it waits
  pub follows_heard : (s : Step C) (old new : Kept C) (got : Answered) → given s ≡ None
      → ((key : Key) → told_at key s ≡ (if same_key (key_of got) key then Some got else None)) → ((key : Key) → over_at key s ≡ false)
      → Heard promises got old new → Follows promises old s new
  follows_heard s old new got none hears over heard steps kept = record {
    notes = noted (get old.waiting (key_of got)) refl heard.1;
    wait = λ key w there. waits key w (is_one key (key_of got)) refl (sym (found key) ∙ there);
    all = λ key job at w. all_of key job at (waits_less steps s none key job at w);
  }
    where
      found : (key : Key) → get new.waiting key ≡ cond (is_one key (key_of got)) None (get old.waiting key)
      found key = ap (λ m. get m key) heard.0 ∙ get_taken old.waiting (key_of got) key

      responds : told_at (key_of got) s ≡ Some got
      responds = hears (key_of got) ∙ ap (λ b. if b then Some got else None) (same_itself (key_of got))

      silent : (key : Key) (b : Bool) → same_key (key_of got) key ≡ b → (key_of got ≡ key → ⊥) → told_at key s ≡ None
      silent key true e other = absurd (other (same_keys (key_of got) key e))
      silent key false e other = hears key ∙ ap (λ b. if b then Some got else None) e

      only : (w : Waiting C) → get old.waiting (key_of got) ≡ Some w → (key : Key) (job : C) (at : ℕ) → IsWaiting steps key job at
          → (b : Bool) → same_key (key_of got) key ≡ b → (told_at key s ≡ None) ⊎ (at ≡ w.at)
      only w e key job at v true f =
          let is = same_keys (key_of got) key f in
          let both : ◌≡◌ {A = Option (Waiting C)} (Some (record { job = job; at = at })) (Some w) =
          sym (kept.all key job at v) ∙ ap (get old.waiting) (sym is) ∙ e in
          let same : ◌≡◌ {A = Waiting C} (record { job = job; at = at }) w = cc in
          inr (ap (λ (x : Waiting C). x.at) same)
      only w e key job at v false f = inl (hears key ∙ ap (λ b. if b then Some got else None) f)

      noted : (o : Option (Waiting C)) → get old.waiting (key_of got) ≡ o → Noted promises got o old.notes new.notes
          → AreNotes promises (steps ++ s ∷ []) new.notes
      noted None e same =
          subst (AreNotes promises (steps ++ s ∷ [])) (sym same)
          (notes_stay promises steps s old.notes none (λ key job at w. silent key (same_key (key_of got) key) refl (λ is.
          let there : get old.waiting (key_of got) ≡ Some (record { job = job; at = at }) = ap (get old.waiting) is ∙ kept.all key job at w in
          no_some _ (sym e ∙ there))) kept.notes)
      noted (Some w) e ran =
          subst (AreNotes promises (steps ++ s ∷ [])) (sym ran.2)
          (note_set promises steps s old.notes (key_of got) w.job w.at got (record { key = key_of got; ran = true; note = ran.0 })
          none (kept.wait (key_of got) w e) responds (refl, refl, ran.1)
          (λ key job at v. only w e key job at v (same_key (key_of got) key) refl) kept.notes)

      waits : (key : Key) (w : Waiting C) (b : Bool) → is_one key (key_of got) ≡ b → cond b None (get old.waiting key) ≡ Some w
          → IsWaiting (steps ++ s ∷ []) key w.job w.at
      waits key w true e is = absurd (no_some w is)
      waits key w false e is =
          waits_more steps s key w.job w.at (kept.wait key w is)
          (silent key (same_key (key_of got) key) refl (λ same. true≢false (sym (ap (λ k. is_one k (key_of got)) (sym same) ∙ itself (key_of got)) ∙ e)))
          (over key)

      taken : (key : Key) (b : Bool) → is_one key (key_of got) ≡ b → told_at key s ≡ None → cond b None (get old.waiting key) ≡ get old.waiting key
      taken key true e silence =
          let one : told_at key s ≡ Some got = ap (λ k. told_at k s) (one_key key (key_of got) e) ∙ responds in
          absurd (no_some got (sym silence ∙ one))
      taken key false e silence = refl

      all_of : (key : Key) (job : C) (at : ℕ) → IsWaiting steps key job at × (told_at key s ≡ None) × (over_at key s ≡ false)
          → get new.waiting key ≡ Some (record { job = job; at = at })
      all_of key job at less = found key ∙ taken key (is_one key (key_of got)) refl less.1 ∙ kept.all key job at less.0

  -- ---- by what was asked

  pub follows_take : (end : EndId) (told : Told) (old new : Kept C) → AfterTake promises end told old new
      → Follows promises old (record { asked = asks.Take end; told = told; job = None }) new
  follows_take end (tells.Taken g) old new after = by (is_response g.target.side) refl after
    where
      by : (b : Bool) → is_response g.target.side ≡ b → HeardIf promises b (answered end g) old new
          → Follows promises old (record { asked = asks.Take end; told = tells.Taken g; job = None }) new
      by true e heard =
          follows_heard (record { asked = asks.Take end; told = tells.Taken g; job = None }) old new (answered end g) refl
          (λ key. ap (λ c. if c && same_key (key_of (answered end g)) key then Some (answered end g) else None) e) (λ key. refl) heard
      by false e same =
          subst (Follows promises old (record { asked = asks.Take end; told = tells.Taken g; job = None })) (sym same)
          (follows_same (record { asked = asks.Take end; told = tells.Taken g; job = None }) old refl
          (λ key. ap (λ c. if c && same_key (key_of (answered end g)) key then Some (answered end g) else None) e) (λ key. refl))
  follows_take end (tells.Control (noted.Closed id)) old new after = follows_end
      (record { asked = asks.Take end; told = tells.Control (noted.Closed id); job = None }) old new refl
      (λ key. refl) after
  follows_take end (tells.Bad why gone) old new after = follows_end (record { asked = asks.Take end; told = tells.Bad why gone; job = None }) old new refl
      (λ key. refl) after
  follows_take end (tells.No whys.PeerClosed) old new after = follows_end
      (record { asked = asks.Take end; told = tells.No whys.PeerClosed; job = None }) old new refl (λ key. refl) after
  follows_take end told old new same =
      subst (Follows promises old (record { asked = asks.Take end; told = told; job = None })) (sym same)
      (follows_same (record { asked = asks.Take end; told = told; job = None }) old refl (λ key. refl) (λ key. refl))

  -- closing the endpoint of an id, or an end with it
  dropped_with : (end : EndId) (id : ℕ) (old new : Kept C) (b : Bool) → AfterEnds (if b then All end else One end id) old new
      → Dropped (λ key. if b then is_of_end end key else is_of_endpoint end id key) old new
  dropped_with end id old new true after = after
  dropped_with end id old new false after = after

  pub follows_close : (command : Command) → IsOther command → (told : Told) (old new : Kept C) → AfterClose (ended_by command) told old new
      → Follows promises old (record { asked = asked_of command; told = told; job = None }) new
  follows_close (commands.Call end id prepared handles pendings moment) other told old new after = absurd other
  follows_close (commands.Take end) other told old new after = absurd other
  follows_close (commands.Close (closes.Endpoint end id)) other (tells.Closed gone) old new after =
      follows_end (record { asked = asks.Close (closings.Endpoint end id); told = tells.Closed gone; job = None }) old new refl (λ key. refl)
      (dropped_with end id old new (id == 0) after)
  follows_close (commands.Close (closes.Pending p)) other (tells.Closed gone) old new after =
      follows_end (record { asked = asks.Close (closings.Pending p.name); told = tells.Closed gone; job = None }) old new refl (λ key. refl) after
  follows_close command other told old new same =
      subst (Follows promises old (record { asked = asked_of command; told = told; job = None })) (sym same)
      (follows_same (record { asked = asked_of command; told = told; job = None }) old refl (λ key. refl) (λ key. refl))

  -- ---- as the desk has them

  pub took : (end : EndId) (reply back : Reply) (before old new : Kept C) → back ≡ reply → old ≡ before
      → AfterTake promises end (told_of reply) old new → Follows promises before (step_of (commands.Take end) back None) new
  took end reply back before old new same kept after =
      subst (λ (r : Reply). Follows promises before (step_of (commands.Take end) r None) new) (sym same)
      (subst (λ (k : Kept C). Follows promises k (step_of (commands.Take end) reply None) new) kept (follows_take end (told_of reply) old new after))

  pub did : (command : Command) (ends : Option Ends) (reply : Reply) (before old new : Kept C) → IsOther command → ends ≡ ended_by command
      → old ≡ before → AfterClose ends (told_of reply) old new → Follows promises before (step_of command reply None) new
  did command ends reply before old new other is kept after =
      subst (λ (k : Kept C). Follows promises k (step_of command reply None) new) kept
      (follows_close command other (told_of reply) old new (subst (λ o. AfterClose o (told_of reply) old new) is after))

  -- a call that was sent
  pub called : (end : EndId) (id : ℕ) (prepared : Prepared) (handles : List Thing) (pendings : List Half) (moment : Option ℤ) (request : ℕ)
      (bytes : List ℕ)
      (job : Option C) (before old new : Kept C)
      → old ≡ before → IfSome job (λ given. get old.waiting (record { end = end; id = id; request = request }) ≡ None)
      → Keeps (record { end = end; id = id; request = request }) job old new
      → Follows promises before (step_of (commands.Call end id prepared handles pendings moment) (replies.Sent request bytes) job) new
  called end id prepared handles pendings moment request bytes None before old new kept absent same =
      subst (Follows promises before (step_of (commands.Call end id prepared handles pendings moment) (replies.Sent request bytes) None)) (sym (same ∙ kept))
      (follows_same (step_of (commands.Call end id prepared handles pendings moment) (replies.Sent request bytes) None) before refl (λ key. refl)
      (λ key. refl))
  called end id prepared handles pendings moment request bytes (Some job) before old new kept absent keeps =
      subst (λ (k : Kept C).
      Follows promises k (step_of (commands.Call end id prepared handles pendings moment) (replies.Sent request bytes) (Some job)) new) kept
      (follows_given (step_of (commands.Call end id prepared handles pendings moment) (replies.Sent request bytes) (Some job)) old new
      (record { end = end; id = id; request = request }, job) refl (λ key. refl) (λ key. refl) absent keeps.0 keeps.1)
