-- What is seen of ends by their keys and by the slab of their messages.
use Rattle.std.proofs.Common.{◌≡◌, ℕ, zero, suc, ◌<◌, ◌+◌, Bool, true, false, List, [], ◌∷◌, ◌++◌, length, map, refl, sym, ap, ◌∙◌, arith}
use Rattle.std.specs.Prelude.{◌==◌, ◌&&◌, Option, Some, None, slice_get, if◌then◌else◌}
use Rattle.std.specs.Option.{option_map}
use Rattle.std.proofs.lemmas.List.{length-map, map-append}
use Rattle.std.proofs.lemmas.Option.{none-some, same_Some, slice_get-map}
use Rattle.mj_base.specs.declared.ids.EndId.{EndId}
use Rattle.slab.specs.Slab.{Slab, SameValues}
use Rattle.handle_table.specs.Numbered.{listed, changed_at}
use Rattle.handle_table.specs.Things.{same_end}
use Rattle.handle_table.proofs.NumberedLemmas.{changed, get-changed, length-changed}
use Rattle.handle_table.proofs.ThingsLemmas.{same_end-refl, same_end-true}
use Rattle.queued_keys.specs.Ends as keyed
use Rattle.queued_keys.specs.Keys as keys
use Rattle.queued_keys.specs.Pairs as pairs
use Rattle.queued_keys.specs.declared.key.Key.{Key}
use Rattle.queued_keys.specs.declared.keyed_end.KeyedEnd.{KeyedEnd}
use Rattle.message_pipe.specs.Ends.{end_of, is_closed, open_end, peer_of, unread_at, unread_of}
use Rattle.message_pipe.specs.Mail.{are_emitted, front_of, weighs}
use Rattle.message_pipe.specs.Pairs.{with_pair}
use Rattle.message_pipe.specs.declared.message.Message.{Message}
use Rattle.message_pipe.specs.declared.pipe_end.PipeEnd.{PipeEnd}
use Rattle.message_pipe.specs.Slots.{Hold, messages_of, seen_end, seen_ends}
use Rattle.message_pipe.specs.steps.SlotChanges.{found_in}
use Rattle.message_pipe.proofs.Places.{messages-still}

-- lists that have the same at each number are the same
pub same_items : {A : Type 0} (xs ys : List A) → ((k : ℕ) → slice_get xs k ≡ slice_get ys k) → xs ≡ ys
same_items [] [] e = refl
same_items [] (y ∷ ys) e = absurd (none-some y (e zero))
same_items (x ∷ xs) [] e = absurd (none-some x (sym (e zero)))
same_items (x ∷ xs) (y ∷ ys) e = ap (λ z. z ∷ xs) (same_Some x y (e zero)) ∙ ap (λ zs. y ∷ zs) (same_items xs ys (λ k. e (suc k)))

-- a list that is long enough has an item there
pub item_there : {A : Type 0} (xs : List A) (n : ℕ) → n < length xs → (x : A) × (slice_get xs n ≡ Some x)
item_there [] n h = absurd (omega arith)
item_there (x ∷ xs) zero h = (x, refl)
item_there (x ∷ xs) (suc n) h = item_there xs n (omega arith)

pub listed-seen : (slab : Slab Message) (ends : List (List KeyedEnd)) (s : ℕ) → listed (seen_ends slab ends) s ≡ map (seen_end slab) (listed ends s)
listed-seen slab [] s = refl
listed-seen slab (list ∷ ends) zero = refl
listed-seen slab (list ∷ ends) (suc s) = listed-seen slab ends s

pub seen_at : (slab : Slab Message) (ends : List (List KeyedEnd)) (x : EndId)
    → end_of (seen_ends slab ends) x ≡ option_map (seen_end slab) (keyed.end_of ends x)
seen_at slab ends x = ap (λ (list : List PipeEnd). slice_get list x.serial) (listed-seen slab ends x.seq)
    ∙ slice_get-map (seen_end slab) (listed ends x.seq) x.serial

pub length-seen : (slab : Slab Message) (ends : List (List KeyedEnd)) (s : ℕ) → length (listed (seen_ends slab ends) s) ≡ length (listed ends s)
length-seen slab ends s = ap length (listed-seen slab ends s) ∙ length-map (listed ends s) (seen_end slab)

pub unread-seen : (slab : Slab Message) (ends : List (List KeyedEnd)) (x : EndId)
    → unread_at (seen_ends slab ends) x ≡ messages_of slab (keyed.keys_at ends x)
unread-seen slab ends x = ap unread_of (seen_at slab ends x) ∙ go (keyed.end_of ends x)
  where
    go : (o : Option KeyedEnd) → unread_of (option_map (seen_end slab) o) ≡ messages_of slab (keyed.keys_of o)
    go None = refl
    go (Some end) = refl

pub peer-seen : (slab : Slab Message) (ends : List (List KeyedEnd)) (x : EndId) → peer_of (end_of (seen_ends slab ends) x) ≡ keyed.peer_of (keyed.end_of ends x)
peer-seen slab ends x = ap peer_of (seen_at slab ends x) ∙ go (keyed.end_of ends x)
  where
    go : (o : Option KeyedEnd) → peer_of (option_map (seen_end slab) o) ≡ keyed.peer_of o
    go None = refl
    go (Some end) = refl

pub closed-seen : (slab : Slab Message) (ends : List (List KeyedEnd)) (x : EndId)
    → is_closed (end_of (seen_ends slab ends) x) ≡ keyed.is_closed (keyed.end_of ends x)
closed-seen slab ends x = ap is_closed (seen_at slab ends x) ∙ go (keyed.end_of ends x)
  where
    go : (o : Option KeyedEnd) → is_closed (option_map (seen_end slab) o) ≡ keyed.is_closed o
    go None = refl
    go (Some end) = refl

-- messages count as their keys do
weighs-held : (slab : Slab Message) (ks : List Key) → Hold slab ks → weighs (messages_of slab ks) ≡ keys.weighs ks
weighs-held slab [] h = refl
weighs-held slab (k ∷ ks) h = ap (λ (b : Bool). (if b then 0 else 1) + weighs (messages_of slab ks)) h.1
    ∙ ap (λ (n : ℕ). (if k.emitted then 0 else 1) + n) (weighs-held slab ks h.2)

pub weighs-seen : (slab : Slab Message) (ends : List (List KeyedEnd)) (x : EndId) → Hold slab (keyed.keys_at ends x)
    → weighs (unread_at (seen_ends slab ends) x) ≡ keys.weighs (keyed.keys_at ends x)
weighs-seen slab ends x h = ap weighs (unread-seen slab ends x) ∙ weighs-held slab (keyed.keys_at ends x) h

pub emitted-held : (slab : Slab Message) (ks : List Key) → Hold slab ks → are_emitted (messages_of slab ks) ≡ keys.are_emitted ks
emitted-held slab [] h = refl
emitted-held slab (k ∷ ks) h = ap (λ (b : Bool). b && are_emitted (messages_of slab ks)) h.1
    ∙ ap (λ (b : Bool). k.emitted && b) (emitted-held slab ks h.2)

front-held : (slab : Slab Message) (ks : List Key) → Hold slab ks → front_of (messages_of slab ks) ≡ found_in slab (keys.front_of ks)
front-held slab [] h = refl
front-held slab (k ∷ ks) h = sym h.0

-- the oldest message is that of the oldest key
pub front-seen : (slab : Slab Message) (ends : List (List KeyedEnd)) (x : EndId) → Hold slab (keyed.keys_at ends x)
    → front_of (unread_at (seen_ends slab ends) x) ≡ found_in slab (keys.front_of (keyed.keys_at ends x))
front-seen slab ends x h = ap front_of (unread-seen slab ends x) ∙ front-held slab (keyed.keys_at ends x) h

-- an end with these messages in place of its keys
abbrev pub with_mail : KeyedEnd → List Message → PipeEnd
with_mail end ms = record { peer = end.peer; closed = end.closed; unread = ms }

pub seen-same : (old new : Slab Message) → SameValues old new → (end : KeyedEnd) → seen_end new end ≡ seen_end old end
seen-same old new same end = ap (with_mail end) (messages-still old new end.unread (λ a p. same a))

list-same : (old new : Slab Message) → SameValues old new → (list : List KeyedEnd) → map (seen_end new) list ≡ map (seen_end old) list
list-same old new same [] = refl
list-same old new same (end ∷ list) = ap (λ (e : PipeEnd). e ∷ map (seen_end new) list) (seen-same old new same end)
    ∙ ap (λ (es : List PipeEnd). seen_end old end ∷ es) (list-same old new same list)

-- a slab that has the same at each place shows the same
pub ends-same : (old new : Slab Message) → SameValues old new → (ends : List (List KeyedEnd)) → seen_ends new ends ≡ seen_ends old ends
ends-same old new same [] = refl
ends-same old new same (list ∷ ends) = ap (λ (l : List PipeEnd). l ∷ seen_ends new ends) (list-same old new same list)
    ∙ ap (λ (ls : List (List PipeEnd)). map (seen_end old) list ∷ ls) (ends-same old new same ends)

-- one end changes, and the slab with it
module _ (old new : Slab Message) (ends after : List (List KeyedEnd)) (end : EndId) (r : KeyedEnd → KeyedEnd) (f : PipeEnd → PipeEnd)
    (e : (s : ℕ) → listed after s ≡ (if end.seq == s then changed_at r end.serial (listed ends s) else listed ends s)) where
  pub now_at : (x : EndId) → keyed.end_of after x ≡ (if same_end end x then option_map r (keyed.end_of ends x) else keyed.end_of ends x)
  now_at x = changed end.seq end.serial r (changed_at r end.serial) (get-changed r end.serial) (length-changed r end.serial) ends after e x.seq x.serial

  -- the keys at the end itself
  pub keys_here : keyed.keys_at after end ≡ keyed.keys_of (option_map r (keyed.end_of ends end))
  keys_here = ap keyed.keys_of (now_at end)
      ∙ ap (λ (b : Bool). keyed.keys_of (if b then option_map r (keyed.end_of ends end) else keyed.end_of ends end)) (same_end-refl end)

  -- and those at each other
  pub keys_there : (x : EndId) → same_end end x ≡ false → keyed.keys_at after x ≡ keyed.keys_at ends x
  keys_there x q = ap keyed.keys_of (now_at x)
      ∙ ap (λ (b : Bool). keyed.keys_of (if b then option_map r (keyed.end_of ends x) else keyed.end_of ends x)) q

  module _ (here : (row : KeyedEnd) → keyed.end_of ends end ≡ Some row → seen_end new (r row) ≡ f (seen_end old row))
      (others : (x : EndId) (row : KeyedEnd) → same_end end x ≡ false → keyed.end_of ends x ≡ Some row → seen_end new row ≡ seen_end old row) where
    at_end : (x : EndId) (b : Bool) → same_end end x ≡ b → (o : Option KeyedEnd) → keyed.end_of ends x ≡ o
        → option_map (seen_end new) (if b then option_map r o else o)
        ≡ (if b then option_map f (option_map (seen_end old) o) else option_map (seen_end old) o)
    at_end x true q None w = refl
    at_end x true q (Some row) w = ap (λ (p : PipeEnd). Some p) (here row (ap (λ (y : EndId). keyed.end_of ends y) (same_end-true end x q) ∙ w))
    at_end x false q None w = refl
    at_end x false q (Some row) w = ap (λ (p : PipeEnd). Some p) (others x row q w)

    shown : (x : EndId) → end_of (seen_ends new after) x
        ≡ (if same_end end x then option_map f (end_of (seen_ends old ends) x) else end_of (seen_ends old ends) x)
    shown x = seen_at new after x ∙ (ap (λ (o : Option KeyedEnd). option_map (seen_end new) o) (now_at x)
        ∙ (at_end x (same_end end x) refl (keyed.end_of ends x) refl
        ∙ ap (λ (o : Option PipeEnd). if same_end end x then option_map f o else o) (sym (seen_at old ends x))))

    item : (s k : ℕ) (b : Bool)
        → (if (b && (end.serial == k)) then option_map f (slice_get (listed (seen_ends old ends) s) k) else slice_get (listed (seen_ends old ends) s) k)
        ≡ slice_get (if b then changed_at f end.serial (listed (seen_ends old ends) s) else listed (seen_ends old ends) s) k
    item s k true = sym (get-changed f end.serial (listed (seen_ends old ends) s) k)
    item s k false = refl

    -- what is seen of the ends changes in the same way
    pub seen-changed : (s : ℕ) → listed (seen_ends new after) s
        ≡ (if end.seq == s then changed_at f end.serial (listed (seen_ends old ends) s) else listed (seen_ends old ends) s)
    seen-changed s = same_items (listed (seen_ends new after) s)
        (if end.seq == s then changed_at f end.serial (listed (seen_ends old ends) s) else listed (seen_ends old ends) s)
        (λ k. shown (record { seq = s; serial = k }) ∙ item s k (end.seq == s))

-- a pipe more has no keys, and nothing lies unread at it
module _ (slab : Slab Message) (ends after : List (List KeyedEnd)) (one other : EndId)
    (e : (s : ℕ) → listed after s ≡ pairs.with_pair one other s (listed ends s)) where
  both-seen : (list : List KeyedEnd) (a b : Bool)
      → map (seen_end slab) (if b then (if a then list ++ keyed.open_end other ∷ [] else list) ++ keyed.open_end one ∷ []
      else (if a then list ++ keyed.open_end other ∷ [] else list))
      ≡ (if b then (if a then map (seen_end slab) list ++ open_end other ∷ [] else map (seen_end slab) list) ++ open_end one ∷ []
      else (if a then map (seen_end slab) list ++ open_end other ∷ [] else map (seen_end slab) list))
  both-seen list true true = map-append (seen_end slab) (list ++ keyed.open_end other ∷ []) (keyed.open_end one ∷ [])
      ∙ ap (λ (es : List PipeEnd). es ++ open_end one ∷ []) (map-append (seen_end slab) list (keyed.open_end other ∷ []))
  both-seen list true false = map-append (seen_end slab) list (keyed.open_end other ∷ [])
  both-seen list false true = map-append (seen_end slab) list (keyed.open_end one ∷ [])
  both-seen list false false = refl

  pub pair-seen : (s : ℕ) → listed (seen_ends slab after) s ≡ with_pair one other s (listed (seen_ends slab ends) s)
  pair-seen s = listed-seen slab after s ∙ (ap (λ (list : List KeyedEnd). map (seen_end slab) list) (e s)
      ∙ (both-seen (listed ends s) (one.seq == s) (other.seq == s)
      ∙ ap (λ (list : List PipeEnd). with_pair one other s list) (sym (listed-seen slab ends s))))

  no-keys : (list : List KeyedEnd) (p : EndId) (k : ℕ) → keyed.keys_of (slice_get (list ++ keyed.open_end p ∷ []) k) ≡ keyed.keys_of (slice_get list k)
  no-keys [] p zero = refl
  no-keys [] p (suc k) = refl
  no-keys (x ∷ list) p zero = refl
  no-keys (x ∷ list) p (suc k) = no-keys list p k

  both-keys : (list : List KeyedEnd) (k : ℕ) (a b : Bool)
      → keyed.keys_of (slice_get (if b then (if a then list ++ keyed.open_end other ∷ [] else list) ++ keyed.open_end one ∷ []
      else (if a then list ++ keyed.open_end other ∷ [] else list)) k) ≡ keyed.keys_of (slice_get list k)
  both-keys list k true true = no-keys (list ++ keyed.open_end other ∷ []) one k ∙ no-keys list other k
  both-keys list k true false = no-keys list other k
  both-keys list k false true = no-keys list one k
  both-keys list k false false = refl

  pub pair-keys : (x : EndId) → keyed.keys_at after x ≡ keyed.keys_at ends x
  pair-keys x = ap (λ (list : List KeyedEnd). keyed.keys_of (slice_get list x.serial)) (e x.seq)
      ∙ both-keys (listed ends x.seq) x.serial (one.seq == x.seq) (other.seq == x.seq)

-- ends that stand as they stood
pub lists-seen : (slab : Slab Message) (ends after : List (List KeyedEnd)) → ((s : ℕ) → listed after s ≡ listed ends s)
    → (s : ℕ) → listed (seen_ends slab after) s ≡ listed (seen_ends slab ends) s
lists-seen slab ends after e s = listed-seen slab after s ∙ (ap (λ (list : List KeyedEnd). map (seen_end slab) list) (e s) ∙ sym (listed-seen slab ends s))

pub lists-keys : (ends after : List (List KeyedEnd)) → ((s : ℕ) → listed after s ≡ listed ends s) → (x : EndId) → keyed.keys_at after x ≡ keyed.keys_at ends x
lists-keys ends after e x = ap (λ (list : List KeyedEnd). keyed.keys_of (slice_get list x.serial)) (e x.seq)
