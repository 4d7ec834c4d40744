-- What the handles of the messages of keys are of, in order.
use Rattle.std.proofs.Common.{◌≡◌, ℕ, zero, suc, ◌+◌, ◌<◌, ◌≤◌, List, [], ◌∷◌, ◌++◌, length, get_or, drop, refl, sym, ap, ◌∙◌, append_assoc, append-nil}
use Rattle.std.specs.Prelude.{Result, Ok, Err, OnOk, is_ok, if◌then◌else◌}
use Rattle.std.proofs.lemmas.List.{drop-map, drop_all, drop_more}
use Rattle.slab.specs.Slab.{Slab}
use Rattle.mj_base.specs.declared.ids.EndId.{EndId}
use Rattle.handle_table.specs.declared.thing.Thing.{Thing}
use Rattle.queued_keys.specs.Ends as keyed
use Rattle.queued_keys.specs.declared.key.Key.{Key}
use Rattle.queued_keys.specs.declared.keyed_end.KeyedEnd.{KeyedEnd}
use Rattle.message_pipe.specs.Ends.{unread_at}
use Rattle.message_pipe.specs.Mail.{handles_of}
use Rattle.message_pipe.specs.declared.message.Message.{Message}
use Rattle.message_pipe.specs.Slots.{message_of, messages_of, seen_ends}
use Rattle.message_pipe.proofs.Seeing.{unread-seen}

-- what was added, where it was
pub extended : {E : Type 0} (r : Result Unit E) (old new hs gs : List Thing) → new ≡ (if is_ok r then old ++ hs else old) → hs ≡ gs
    → OnOk r (new ≡ old ++ gs)
extended (Ok u) old new hs gs e same = e ∙ ap (λ (xs : List Thing). old ++ xs) same
extended (Err x) old new hs gs e same = tt

-- one message more
pub handles_next : (slab : Slab Message) (ks : List Key) (n : ℕ) (k : Key) (old new whole : List Thing) → n < length ks → k ≡ get_or ks n k
    → new ≡ old ++ (message_of slab k).handles → old ++ handles_of (messages_of slab (drop n ks)) ≡ whole
    → new ++ handles_of (messages_of slab (drop (n + 1) ks)) ≡ whole
handles_next slab ks n k old new whole h is e so =
    let front : drop n ks ≡ k ∷ drop (n + 1) ks = drop_more ks n k h ∙ ap (λ (x : Key). x ∷ drop (n + 1) ks) (sym is) in
    ap (λ (xs : List Thing). xs ++ handles_of (messages_of slab (drop (n + 1) ks))) e
    ∙ (append_assoc old (message_of slab k).handles (handles_of (messages_of slab (drop (n + 1) ks)))
    ∙ (ap (λ (ls : List Key). old ++ handles_of (messages_of slab ls)) (sym front) ∙ so))

-- no message is left
pub handles_all : (slab : Slab Message) (ks : List Key) (n : ℕ) (now whole : List Thing) → length ks ≤ n
    → now ++ handles_of (messages_of slab (drop n ks)) ≡ whole → now ≡ whole
handles_all slab ks n now whole h so =
    sym (append-nil now) ∙ (ap (λ (ls : List Key). now ++ handles_of (messages_of slab ls)) (sym (drop_all n ks h)) ∙ so)

-- those of an end, by its keys
handles-seen : (slab : Slab Message) (ends : List (List KeyedEnd)) (x : EndId) (skipped : ℕ)
    → handles_of (drop skipped (unread_at (seen_ends slab ends) x)) ≡ handles_of (messages_of slab (drop skipped (keyed.keys_at ends x)))
handles-seen slab ends x skipped = ap (λ (ms : List Message). handles_of (drop skipped ms)) (unread-seen slab ends x)
    ∙ ap handles_of (drop-map (message_of slab) skipped (keyed.keys_at ends x))

-- the same keys carry the same
pub carried_by : {E : Type 0} (r : Result Unit E) (slab : Slab Message) (ks ls : List Key) (skipped : ℕ) (old new : List Thing) → ks ≡ ls
    → OnOk r (new ≡ old ++ handles_of (messages_of slab (drop skipped ks))) → OnOk r (new ≡ old ++ handles_of (messages_of slab (drop skipped ls)))
carried_by (Ok u) slab ks ls skipped old new same e =
    e ∙ ap (λ (xs : List Key). old ++ handles_of (messages_of slab (drop skipped xs))) same
carried_by (Err x) slab ks ls skipped old new same e = tt

no_keys : (n : ℕ) → ◌≡◌ {A = List Key} (drop n []) []
no_keys zero = refl
no_keys (suc n) = refl

-- no keys carry nothing
pub none_carried : (slab : Slab Message) (skipped : ℕ) (old : List Thing) → old ≡ old ++ handles_of (messages_of slab (drop skipped []))
none_carried slab skipped old = sym (append-nil old) ∙ ap (λ (xs : List Key). old ++ handles_of (messages_of slab xs)) (sym (no_keys skipped))

-- what an end carries, by its keys
pub carried_at : {E : Type 0} (r : Result Unit E) (slab : Slab Message) (ends : List (List KeyedEnd)) (x : EndId) (skipped : ℕ) (old new : List Thing)
    → OnOk r (new ≡ old ++ handles_of (messages_of slab (drop skipped (keyed.keys_at ends x))))
    → OnOk r (new ≡ old ++ handles_of (drop skipped (unread_at (seen_ends slab ends) x)))
carried_at (Ok u) slab ends x skipped old new e = e ∙ ap (λ (xs : List Thing). old ++ xs) (sym (handles-seen slab ends x skipped))
carried_at (Err y) slab ends x skipped old new e = tt
