-- Groups of sequences that no command links, and what their events say by themselves.
use Rattle.std.specs.Prelude.{ℕ, ◌≡◌, ◌<◌, Bool, true, List, [], ◌∷◌, ◌++◌, map, filter}
use Rattle.mj_base.specs.declared.ids.SeqId.{SeqId}
use Rattle.handle_table.specs.Things.{seq_of}
use Rattle.handle_table.specs.declared.thing.Thing.{Thing}
use Rattle.bind_model.specs.declared.asked.Asked.{Asked}
use Rattle.bind_model.specs.declared.asked.Asked.TheVariants.{Pipe, Join, Mint, Bind, Associate, Attach, Call, Answer, Raw, Take, Close, Notify, Pause, Data}
use Rattle.bind_model.specs.declared.asked.Asked.TheVariants.{Flow as Move, Skip}
use Rattle.bind_model.specs.declared.asked.Closing.{Closing}
use Rattle.bind_model.specs.declared.asked.Closing.TheVariants as closings
use Rattle.bind_model.specs.declared.endpoint.PendingId.{PendingId}
use Rattle.bind_model.specs.declared.event.Event.{Event}
use Rattle.bind_model.specs.Replies.{answer, legal}
use Rattle.bind_model.specs.Wire.{Wire}

-- the sequences that numbered these things
abbrev pub seqs_of : List Thing → List ℕ
seqs_of things = map seq_of things

-- the sequences that numbered the ends of these pendings
abbrev pub seqs_of_pendings : List PendingId → List ℕ
seqs_of_pendings ps = map (λ (p : PendingId). p.end.seq) ps

-- the sequence that numbered what is closed, or its end
abbrev pub closes_seqs : Closing → List ℕ
closes_seqs (closings.Handle x) = seq_of x ∷ []
closes_seqs (closings.Pending p) = p.end.seq ∷ []
closes_seqs (closings.Responder r) = r.end.seq ∷ []
closes_seqs (closings.Endpoint y id) = y.seq ∷ []

-- the sequences that a command names, or that numbered what it names
abbrev pub names : Asked → List ℕ
names Pipe = []
names (Join t) = t.0 ∷ []
names (Mint sort) = []
names (Bind x side interface) = seq_of x ∷ []
names (Associate y side interface) = y.seq ∷ []
names (Attach p t) = p.end.seq ∷ t.0 ∷ []
names (Call y id s) = y.seq ∷ seqs_of s.handles ++ seqs_of_pendings s.pendings
names (Answer r s) = r.end.seq ∷ seqs_of s.handles ++ seqs_of_pendings s.pendings
names (Raw x bytes handles) = seq_of x ∷ seqs_of handles
names (Take y) = y.seq ∷ []
names (Close thing) = closes_seqs thing
names (Notify y notice) = y.seq ∷ []
names (Pause b a k) = b.seq ∷ a.seq ∷ []
names (Data size) = []
names (Move x f) = seq_of x ∷ []
names (Skip line) = []

-- each of these that is a sequence is in the group exactly where this one is
abbrev pub Unlinked : ℕ → (ℕ → Bool) → ℕ → List ℕ → Type 0
Unlinked seqs inside s [] = Unit {0}
Unlinked seqs inside s (t ∷ ts) = (t < seqs → inside t ≡ inside s) × Unlinked seqs inside s ts

-- no command links a sequence of the group with one outside
abbrev pub Apart : ℕ → (ℕ → Bool) → List Event → Type 0
Apart seqs inside [] = Unit {0}
Apart seqs inside (event ∷ past) = Unlinked seqs inside event.seq.0 (names event.asked) × Apart seqs inside past

-- the events of the group
abbrev pub events_of : (ℕ → Bool) → List Event → List Event
events_of inside past = filter (λ (e : Event). inside e.seq.0) past

-- the events of a group apart are a legal history by themselves
abbrev pub GroupsApart : Wire → ℕ → List Event → Type 0
GroupsApart wire seqs past = (inside : ℕ → Bool) → Apart seqs inside past → legal wire seqs (events_of inside past)

-- whatever a sequence of the group asks next that links it with none outside has the reply that the group's own events give
abbrev pub RepliesApart : Wire → ℕ → List Event → Type 0
RepliesApart wire seqs past =
    (inside : ℕ → Bool) → Apart seqs inside past → (seq : SeqId) (asked : Asked) → inside seq.0 ≡ true → Unlinked seqs inside seq.0 (names asked)
    → answer wire seqs past seq asked ≡ answer wire seqs (events_of inside past) seq asked
