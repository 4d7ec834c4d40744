-- What messages that come in, or go, change at the ends.
use Rattle.std.proofs.Common.{◌≡◌, ℕ, ◌<◌, Bool, true, false, List, [], ◌∷◌, ◌++◌, length, drop, refl, sym, ap, subst, ◌∙◌, append-nil}
use Rattle.std.specs.Prelude.{◌==◌, Option, Some, None, Result, Ok, Err, OnOk, OnErr, IfErr, if◌then◌else◌}
use Rattle.std.specs.Option.{option_map, option_to_list}
use Rattle.std.proofs.lemmas.List.{drop-map, map-append}
use Rattle.std.proofs.lemmas.Option.{none-some}
use Rattle.mj_base.specs.declared.ids.EndId.{EndId}
use Rattle.slab.specs.Slab.{Slab, SameValues, get}
use Rattle.handle_table.specs.Numbered.{listed, changed_at}
use Rattle.handle_table.specs.Things.{same_end}
use Rattle.queued_keys.specs.Ends as keyed
use Rattle.queued_keys.specs.Keys.{front_of, has_place}
use Rattle.queued_keys.specs.Pairs.{with_pair}
use Rattle.queued_keys.specs.declared.key.Key.{Key}
use Rattle.queued_keys.specs.declared.keyed_end.KeyedEnd.{KeyedEnd}
use Rattle.message_pipe.specs.Ends.{shut, with_messages, without_front}
use Rattle.message_pipe.specs.Pairs as pairs
use Rattle.message_pipe.specs.declared.message.Message.{Message}
use Rattle.message_pipe.specs.declared.pipe_end.PipeEnd.{PipeEnd}
use Rattle.message_pipe.specs.Slots.{AllKept, message_of, messages_of, seen_end, seen_ends}
use Rattle.message_pipe.specs.steps.SlotChanges.{Enters, Loses}
use Rattle.message_pipe.proofs.Keeping.{keys_kept, less_kept, more_kept, other_stays, rest_stays, stays, values_kept}
use Rattle.message_pipe.proofs.Places.{messages-still}
use Rattle.message_pipe.proofs.Seeing.{ends-same, item_there, keys_here, keys_there, length-seen, lists-keys, lists-seen, pair-keys, pair-seen, seen-changed, with_mail}

-- a place of a key of a row is that of a key of its end
pub of_row : (ends : List (List KeyedEnd)) (x : EndId) (row : KeyedEnd) → keyed.end_of ends x ≡ Some row → (a : ℕ)
    → has_place row.unread a ≡ true → has_place (keyed.keys_at ends x) a ≡ true
of_row ends x row w a p = subst (λ (ls : List Key). has_place ls a ≡ true) (sym (ap keyed.keys_of w)) p

-- messages come in at an end that was made
module _ (end : EndId) (ms : List Message) (f : PipeEnd → PipeEnd) (is : (p : PipeEnd) → with_messages ms p ≡ f p)
    (ends after : List (List KeyedEnd)) (old new : Slab Message) (there : end.serial < length (listed ends end.seq)) (kept : AllKept old ends)
    (g : Enters end ms ends after old new) where
  row_there : (row : KeyedEnd) × (keyed.end_of ends end ≡ Some row)
  row_there = item_there (listed ends end.seq) end.serial there

  here : keyed.keys_at after end ≡ keyed.keys_at ends end ++ g.keys
  here = keys_here old new ends after end (keyed.with_keys g.keys) f g.queued
      ∙ (ap (λ (o : Option KeyedEnd). keyed.keys_of (option_map (keyed.with_keys g.keys) o)) row_there.1
      ∙ ap (λ (o : Option KeyedEnd). keyed.keys_of o ++ g.keys) (sym row_there.1))

  others : (x : EndId) → same_end end x ≡ false → keyed.keys_at after x ≡ keyed.keys_at ends x
  others = keys_there old new ends after end (keyed.with_keys g.keys) f g.queued

  unmoved : (x : EndId) (a : ℕ) → has_place (keyed.keys_at ends x) a ≡ true → get new a ≡ get old a
  unmoved = stays old new (keyed.keys_at ends) (keyed.keys_at after) end g.keys ms kept g.gains here others

  here_seen : (row : KeyedEnd) → keyed.end_of ends end ≡ Some row → seen_end new (keyed.with_keys g.keys row) ≡ f (seen_end old row)
  here_seen row w = ap (with_mail row) (map-append (message_of new) row.unread g.keys
      ∙ (ap (λ (xs : List Message). xs ++ messages_of new g.keys)
      (messages-still old new row.unread (λ a p. unmoved end a (of_row ends end row w a p)))
      ∙ ap (λ (xs : List Message). messages_of old row.unread ++ xs) g.gains.are)) ∙ is (seen_end old row)

  others_seen : (x : EndId) (row : KeyedEnd) → same_end end x ≡ false → keyed.end_of ends x ≡ Some row → seen_end new row ≡ seen_end old row
  others_seen x row q w = ap (with_mail row) (messages-still old new row.unread (λ a p. unmoved x a (of_row ends x row w a p)))

  pub entered_kept : AllKept new after
  entered_kept = more_kept old new (keyed.keys_at ends) (keyed.keys_at after) end g.keys ms kept g.gains here others

  pub entered_seen : (s : ℕ) → listed (seen_ends new after) s
      ≡ (if end.seq == s then changed_at f end.serial (listed (seen_ends old ends) s) else listed (seen_ends old ends) s)
  entered_seen = seen-changed old new ends after end (keyed.with_keys g.keys) f g.queued here_seen others_seen

-- whether they came in, or nothing did
pub kept_either : {E : Type 0} (r : Result Unit E) (end : EndId) (ms : List Message) (ends after : List (List KeyedEnd)) (old new : Slab Message)
    → end.serial < length (listed ends end.seq) → AllKept old ends → OnOk r (Enters end ms ends after old new)
    → OnErr r ((after ≡ ends) × SameValues old new) → AllKept new after
kept_either (Ok u) end ms ends after old new there kept g h = entered_kept end ms (with_messages ms) (λ p. refl) ends after old new there kept g
kept_either (Err x) end ms ends after old new there kept g h =
    subst (λ (es : List (List KeyedEnd)). AllKept new es) (sym h.0) (values_kept old new (keyed.keys_at ends) h.1 kept)

pub seen_either : {E : Type 0} (r : Result Unit E) (end : EndId) (ms : List Message) (f : PipeEnd → PipeEnd)
    → ((p : PipeEnd) → with_messages ms p ≡ f p) → (ends after : List (List KeyedEnd)) (old new : Slab Message)
    → end.serial < length (listed ends end.seq) → AllKept old ends → OnOk r (Enters end ms ends after old new)
    → OnOk r ((s : ℕ) → listed (seen_ends new after) s
    ≡ (if end.seq == s then changed_at f end.serial (listed (seen_ends old ends) s) else listed (seen_ends old ends) s))
seen_either (Ok u) end ms f is ends after old new there kept g = entered_seen end ms f is ends after old new there kept g
seen_either (Err x) end ms f is ends after old new there kept g = tt

seen_again : (ends after : List (List KeyedEnd)) (old new : Slab Message) → after ≡ ends → SameValues old new → seen_ends new after ≡ seen_ends old ends
seen_again ends after old new e same = ap (λ (es : List (List KeyedEnd)). seen_ends new es) e ∙ ends-same old new same ends

pub same_either : {E : Type 0} (r : Result Unit E) (ends after : List (List KeyedEnd)) (old new : Slab Message)
    → OnErr r ((after ≡ ends) × SameValues old new) → OnErr r (seen_ends new after ≡ seen_ends old ends)
same_either (Ok u) ends after old new h = tt
same_either (Err x) ends after old new h = seen_again ends after old new h.0 h.1

-- a message that comes back leaves all as it was
pub handed_back : (r : Result Unit Message) (m : Message) (ends after : List (List KeyedEnd)) (old new : Slab Message)
    → IfErr r (λ back. (back ≡ m) × (after ≡ ends) × SameValues old new) → IfErr r (λ back. (back ≡ m) × (seen_ends new after ≡ seen_ends old ends))
handed_back (Ok u) m ends after old new h = tt
handed_back (Err back) m ends after old new h = (h.0, seen_again ends after old new h.1 h.2)

pub without_message : (r : Result Unit Message) (m : Message) (ends after : List (List KeyedEnd)) (old new : Slab Message)
    → IfErr r (λ back. (back ≡ m) × (after ≡ ends) × SameValues old new) → OnErr r ((after ≡ ends) × SameValues old new)
without_message (Ok u) m ends after old new h = tt
without_message (Err back) m ends after old new h = (h.1, h.2)

-- messages go from an end
module _ (end : EndId) (ends after : List (List KeyedEnd)) (old new : Slab Message) (gone rest : List Key) (kept : AllKept old ends)
    (split : keyed.keys_at ends end ≡ gone ++ rest) (loses : Loses old new gone) (r : KeyedEnd → KeyedEnd) (f : PipeEnd → PipeEnd)
    (e : (s : ℕ) → listed after s ≡ (if end.seq == s then changed_at r end.serial (listed ends s) else listed ends s))
    (left : keyed.keys_of (option_map r (keyed.end_of ends end)) ≡ rest) where
  here_left : keyed.keys_at after end ≡ rest
  here_left = keys_here old new ends after end r f e ∙ left

  others_left : (x : EndId) → same_end end x ≡ false → keyed.keys_at after x ≡ keyed.keys_at ends x
  others_left = keys_there old new ends after end r f e

  pub rest_unmoved : (a : ℕ) → has_place rest a ≡ true → get new a ≡ get old a
  rest_unmoved = rest_stays old new (keyed.keys_at ends) (keyed.keys_at after) end gone rest kept split loses here_left others_left

  others_left_seen : (x : EndId) (row : KeyedEnd) → same_end end x ≡ false → keyed.end_of ends x ≡ Some row → seen_end new row ≡ seen_end old row
  others_left_seen x row q w = ap (with_mail row) (messages-still old new row.unread
      (λ a p. other_stays old new (keyed.keys_at ends) (keyed.keys_at after) end gone rest kept split loses here_left others_left x q a
      (of_row ends x row w a p)))

  pub left_kept : AllKept new after
  left_kept = less_kept old new (keyed.keys_at ends) (keyed.keys_at after) end gone rest kept split loses here_left others_left

  pub left_seen : ((row : KeyedEnd) → keyed.end_of ends end ≡ Some row → seen_end new (r row) ≡ f (seen_end old row)) → (s : ℕ)
      → listed (seen_ends new after) s
      ≡ (if end.seq == s then changed_at f end.serial (listed (seen_ends old ends) s) else listed (seen_ends old ends) s)
  left_seen whole = seen-changed old new ends after end r f e whole others_left_seen

front-rest : (ks : List Key) → ks ≡ option_to_list (front_of ks) ++ drop 1 ks
front-rest [] = refl
front-rest (k ∷ ks) = refl

keys-rest : (o : Option KeyedEnd) → keyed.keys_of (option_map keyed.without_front o) ≡ drop 1 (keyed.keys_of o)
keys-rest None = refl
keys-rest (Some row) = refl

keys-none : (o : Option KeyedEnd) → keyed.keys_of (option_map keyed.shut o) ≡ []
keys-none None = refl
keys-none (Some row) = refl

-- the oldest message goes
module _ (end : EndId) (ends after : List (List KeyedEnd)) (old new : Slab Message) (kept : AllKept old ends)
    (loses : Loses old new (option_to_list (front_of (keyed.keys_at ends end))))
    (e : (s : ℕ) → listed after s ≡ (if end.seq == s then changed_at keyed.without_front end.serial (listed ends s) else listed ends s)) where
  pub popped_kept : AllKept new after
  popped_kept = left_kept end ends after old new (option_to_list (front_of (keyed.keys_at ends end))) (drop 1 (keyed.keys_at ends end)) kept
      (front-rest (keyed.keys_at ends end)) loses keyed.without_front without_front e (keys-rest (keyed.end_of ends end))

  second_stays : (a : ℕ) → has_place (drop 1 (keyed.keys_at ends end)) a ≡ true → get new a ≡ get old a
  second_stays = rest_unmoved end ends after old new (option_to_list (front_of (keyed.keys_at ends end))) (drop 1 (keyed.keys_at ends end)) kept
      (front-rest (keyed.keys_at ends end)) loses keyed.without_front without_front e (keys-rest (keyed.end_of ends end))

  less_seen : (row : KeyedEnd) → keyed.end_of ends end ≡ Some row → seen_end new (keyed.without_front row) ≡ without_front (seen_end old row)
  less_seen row w = ap (with_mail row) (messages-still old new (drop 1 row.unread)
      (λ a p. second_stays a (subst (λ (ls : List Key). has_place (drop 1 ls) a ≡ true) (sym (ap keyed.keys_of w)) p))
      ∙ sym (drop-map (message_of old) 1 row.unread))

  pub popped_seen : (s : ℕ) → listed (seen_ends new after) s
      ≡ (if end.seq == s then changed_at without_front end.serial (listed (seen_ends old ends) s) else listed (seen_ends old ends) s)
  popped_seen = left_seen end ends after old new (option_to_list (front_of (keyed.keys_at ends end))) (drop 1 (keyed.keys_at ends end)) kept
      (front-rest (keyed.keys_at ends end)) loses keyed.without_front without_front e (keys-rest (keyed.end_of ends end)) less_seen

-- an end is closed, and all of its messages go
module _ (end : EndId) (ends after : List (List KeyedEnd)) (old new : Slab Message) (kept : AllKept old ends)
    (loses : Loses old new (keyed.keys_at ends end))
    (e : (s : ℕ) → listed after s ≡ (if end.seq == s then changed_at keyed.shut end.serial (listed ends s) else listed ends s)) where
  pub shut_kept : AllKept new after
  shut_kept = left_kept end ends after old new (keyed.keys_at ends end) [] kept (sym (append-nil (keyed.keys_at ends end))) loses
      keyed.shut shut e (keys-none (keyed.end_of ends end))

  pub shut_seen : (s : ℕ) → listed (seen_ends new after) s
      ≡ (if end.seq == s then changed_at shut end.serial (listed (seen_ends old ends) s) else listed (seen_ends old ends) s)
  shut_seen = left_seen end ends after old new (keyed.keys_at ends end) [] kept (sym (append-nil (keyed.keys_at ends end))) loses
      keyed.shut shut e (keys-none (keyed.end_of ends end)) (λ row w. refl)

-- no ends, and no messages
pub none_kept : (slab : Slab Message) (ends : List (List KeyedEnd)) → slab.slots ≡ [] → ends ≡ [] → AllKept slab ends
none_kept slab ends empty none = subst (λ (es : List (List KeyedEnd)). AllKept slab es) (sym none) (record {
  held = λ x. tt;
  apart = λ x. refl;
  one_end = λ x y a p q. let f : ◌≡◌ {A = Bool} false true = p in cc;
  queued = λ a m h. absurd (none-some m (sym (ap (λ (slots : List (Option Message)). get (record slab { slots = slots }) a) empty) ∙ h));
})

-- two ends more, or none
pub pair_kept : {E : Type 0} (r : Result Unit E) (slab : Slab Message) (ends after : List (List KeyedEnd)) (one other : EndId) → AllKept slab ends
    → OnOk r ((s : ℕ) → listed after s ≡ with_pair one other s (listed ends s)) → OnErr r ((s : ℕ) → listed after s ≡ listed ends s)
    → AllKept slab after
pair_kept (Ok u) slab ends after one other kept e h =
    keys_kept slab (keyed.keys_at ends) (keyed.keys_at after) (pair-keys slab ends after one other e) kept
pair_kept (Err x) slab ends after one other kept e h = keys_kept slab (keyed.keys_at ends) (keyed.keys_at after) (lists-keys ends after h) kept

pub pair_made : {E : Type 0} (r : Result Unit E) (slab : Slab Message) (ends after : List (List KeyedEnd)) (one other : EndId)
    → OnOk r ((s : ℕ) → listed after s ≡ with_pair one other s (listed ends s))
    → OnOk r ((s : ℕ) → listed (seen_ends slab after) s ≡ pairs.with_pair one other s (listed (seen_ends slab ends) s))
pair_made (Ok u) slab ends after one other e = pair-seen slab ends after one other e
pair_made (Err x) slab ends after one other e = tt

pub pair_missing : {E : Type 0} (r : Result Unit E) (slab : Slab Message) (ends after : List (List KeyedEnd))
    → OnErr r ((s : ℕ) → listed after s ≡ listed ends s) → OnErr r ((s : ℕ) → listed (seen_ends slab after) s ≡ listed (seen_ends slab ends) s)
pair_missing (Ok u) slab ends after h = tt
pair_missing (Err x) slab ends after h = lists-seen slab ends after h

-- an end that is seen has a row
pub there_by : (slab : Slab Message) (ends : List (List KeyedEnd)) (seen : List (List PipeEnd)) → seen_ends slab ends ≡ seen → (x : EndId)
    → x.serial < length (listed seen x.seq) → x.serial < length (listed ends x.seq)
there_by slab ends seen is x h =
    subst (λ (n : ℕ). x.serial < n) (ap (λ (es : List (List PipeEnd)). length (listed es x.seq)) (sym is) ∙ length-seen slab ends x.seq) h
