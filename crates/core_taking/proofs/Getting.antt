-- What a take that consumes a control makes of pipes, places and endpoints.
use Rattle.bind_model.specs.declared.told.Noted.{Noted}
use Rattle.bind_model.specs.declared.told.Noted.TheVariants as noted
use Rattle.std.proofs.Common.{◌≡◌, ◌≤◌, ℕ, Bool, true, false, List, [], ◌∷◌, ◌++◌, length, drop, refl, sym, ap, ◌∙◌, arith}
use Rattle.std.specs.Prelude.{if◌then◌else◌, ◌||◌, ◌&&◌, not, ◌==◌, is_some, Option, Some, None}
use Rattle.std.specs.Option.{option_map}
use Rattle.std.specs.List.{count_by}
use Rattle.std.proofs.lemmas.List.{append-nil}
use Rattle.mj_base.specs.declared.ids.EndId.{EndId}
use Rattle.mj_base.specs.declared.ids.SeqId.{SeqId}
use Rattle.handle_table.specs.Things.{has, same_end, is_end, seq_of}
use Rattle.handle_table.specs.Places.{place_of, ends_made, tokens_made}
use Rattle.handle_table.specs.declared.places.Place.{Place}
use Rattle.handle_table.specs.declared.places.Place.TheVariants as places
use Rattle.handle_table.specs.declared.thing.Thing.{Thing}
use Rattle.handle_table.specs.declared.thing.Thing.TheVariants.{End}
use Rattle.message_pipe.specs.Contents.{Contents, Becomes, Closes}
use Rattle.message_pipe.specs.Ends.{closed_by, shut, without_front}
use Rattle.message_pipe.specs.declared.message.Message.{Message}
use Rattle.message_pipe.specs.declared.pipe_end.PipeEnd.{PipeEnd}
use Rattle.bind_model.specs.declared.asked.Asked.TheVariants.{Take}
use Rattle.bind_model.specs.declared.told.Told.TheVariants.{Control}
use Rattle.bind_model.specs.declared.event.Event.{Event}
use Rattle.bind_model.specs.Wire.{Wire}
use Rattle.bind_model.specs.Machine.{made, made_by, peer, peer_by, gone_by, is_gone, given, handed, taken, takes, written, puts}
use Rattle.bind_model.specs.Machine.{changes, unread, endpoint_at}
use Rattle.bind_model.proofs.Kept.{Kept}
use Rattle.core_state.specs.Routers.{Routers}
use Rattle.core_state.specs.Placing.{PutsAll}
use Rattle.core_state.specs.Agreement.{Agrees, end_in, is_out, is_shut}
use Rattle.core_state.proofs.After.{gone_after, unread_after, end_after}
use Rattle.core_state.proofs.Steady.{AllAgree, IsSteady}
use Rattle.core_taking.specs.Founds.{IsSilent}
use Rattle.core_taking.proofs.HandedOut.{front_shut, moved, one_taken, outs_now, shuts_now, some_moved}

-- an event that consumes the oldest message at y, and makes, takes in and writes nothing
pub record IsReading (wire : Wire) (event : Event) (past : List Event) (y : EndId) : Type 0 where
  pub made : made_by event.told ≡ []
  pub given : given event.told event.asked ≡ []
  pub takes : (x : EndId) → length (takes event.told event.asked x) ≡ (if same_end y x then 1 else 0)
  pub puts : (x : EndId) → puts wire past (written wire past) (endpoint_at wire past) event.told event.asked x ≡ []
  pub peer : (x : EndId) → peer_by event.told x (peer past x) ≡ peer past x

module _ (wire : Wire) (event : Event) (past : List Event) (y : EndId) (k : Kept wire past) (after : Kept wire (event ∷ past))
    (s : IsReading wire event past y) where
  same_made : made (event ∷ past) ≡ made past
  same_made = ap (λ xs. made past ++ xs) s.made ∙ append-nil (made past)

  few : (x : EndId) → length (taken past x ++ takes event.told event.asked x) ≤ length (written wire past x)
  few x =
      let same : written wire (event ∷ past) x ≡ written wire past x =
      ap (λ ms. written wire past x ++ ms) (s.puts x) ∙ append-nil (written wire past x) in
      omega (arith, after.counted x, ap length same)

  unread_now : (x : EndId) → unread wire (event ∷ past) x
      ≡ (if has (gone_by event.told) (End x) then [] else (if same_end y x then drop 1 (unread wire past x) else unread wire past x))
  unread_now x =
      unread_after wire event past x (few x)
      ∙ rw (s.takes x, s.puts x) (go (has (gone_by event.told) (End x)) (same_end y x) (is_gone past x) (unread wire past x))
    where
      go : (h b g : Bool) (ms : List Message) → (if h then [] else drop (if b then 1 else 0) ms ++ (if g then [] else []))
          ≡ (if h then [] else (if b then drop 1 ms else ms))
      go true b g ms = refl
      go false true true ms = append-nil (drop 1 ms)
      go false true false ms = append-nil (drop 1 ms)
      go false false true ms = append-nil ms
      go false false false ms = append-nil ms

  ends_now : (x : EndId) → option_map (closed_by (gone_by event.told) x)
      (if same_end y x then option_map without_front (end_in wire past x) else end_in wire past x)
      ≡ end_in wire (event ∷ past) x
  ends_now x =
      front_shut event past x (has (made past) (End x)) (is_gone past x) (same_end y x) (has (gone_by event.told) (End x)) refl (unread wire past x)
      ∙ sym (end_after wire event past x (has (made past) (End x)) (peer past x) (is_gone past x || has (gone_by event.told) (End x))
      (if has (gone_by event.told) (End x) then [] else (if same_end y x then drop 1 (unread wire past x) else unread wire past x))
      (ap (λ ms. has ms (End x)) same_made) (s.peer x) (gone_after wire event past (End x)) (unread_now x))

  -- what agreed agrees with the longer history, once the message is away, what goes is closed and what comes out is out
  pub read_agrees : (old mid shut new : Contents) (before now : Routers)
      → Becomes y without_front old mid → Closes (gone_by event.told) mid shut → PutsAll (handed event.told) places.Out shut new
      → AllAgree wire (event ∷ past) now → Agrees wire past old before → Agrees wire (event ∷ past) new now
  read_agrees old mid shut new before now b c p r a = record {
    ends = λ x.
        p.ends x
        ∙ (c.ends x
        ∙ (ap (option_map (closed_by (gone_by event.told) x))
        (b.ends x ∙ ap (λ (o : Option PipeEnd). if same_end y x then option_map without_front o else o) (a.ends x)) ∙ ends_now x));
    outs = λ z. ap is_out (at z) ∙ outs_now wire event past after same_made s.given z (place_of old.table z) (a.outs z) (a.there z);
    there = λ z.
        ap (λ (o : Option Place). is_some o) (at z)
        ∙ (some_moved (has (handed event.told) z) places.Out (moved (has (gone_by event.told) z) places.Closed (place_of old.table z))
        ∙ (some_moved (has (gone_by event.told) z) places.Closed (place_of old.table z) ∙ (a.there z ∙ sym (ap (λ ms. has ms z) same_made))));
    shuts = λ z. ap is_shut (at z) ∙ shuts_now wire event past after same_made s.given z (place_of old.table z) (a.shuts z) (a.there z);
    made = p.made ∙ (c.made ∙ (b.made ∙ (a.made ∙ sym (ap length same_made))));
    serials = λ n.
        p.ends_made n
        ∙ (c.ends_made n
        ∙ (ap (λ t. ends_made t n) b.table ∙ (a.serials n ∙ sym (ap (λ ms. count_by (λ z. is_end z && (seq_of z == n)) ms) same_made))));
    tokens = λ n.
        p.tokens_made n
        ∙ (c.tokens_made n
        ∙ (ap (λ t. tokens_made t n) b.table ∙ (a.tokens n ∙ sym (ap (λ ms. count_by (λ z. not (is_end z) && (seq_of z == n)) ms) same_made))));
    routers = r;
  }
    where
      at : (z : Thing) → place_of new.table z
          ≡ moved (has (handed event.told) z) places.Out (moved (has (gone_by event.told) z) places.Closed (place_of old.table z))
      at z =
          p.places z
          ∙ ap (moved (has (handed event.told) z) places.Out)
          (c.places z ∙ ap (λ t. moved (has (gone_by event.told) z) places.Closed (place_of t z)) b.table)

-- ## Controls

-- what a control does
pub control_read : (wire : Wire) (past : List Event) (seq : SeqId) (y : EndId) (id : ℕ)
    → IsReading wire (record { seq = seq; asked = Take y; told = Control (noted.Closed id) }) past y
control_read wire past seq y id = record {
  made = refl;
  given = refl;
  takes = λ x. one_taken (same_end y x) (Control (noted.Closed id));
  puts = λ x. refl;
  peer = λ x. refl;
}

-- what a control says that writes nothing back and closes no endpoint
abbrev pub IsNoted : Noted → Type 0
IsNoted (noted.Closed id) = ⊥
IsNoted (noted.Queried id (Some v)) = ⊥
IsNoted c = Unit {0}

pub silent_noted : (c : Noted) → IsSilent c → IsNoted c
silent_noted (noted.Closed id) silent = absurd silent
silent_noted (noted.Queried id (Some v)) silent = absurd silent
silent_noted (noted.Queried id None) silent = tt
silent_noted (noted.Version id v) silent = tt
silent_noted (noted.Required id v) silent = tt
silent_noted (noted.Flushed k) silent = tt

pub noted_read : (wire : Wire) (past : List Event) (seq : SeqId) (y : EndId) (c : Noted) → IsNoted c
    → IsReading wire (record { seq = seq; asked = Take y; told = Control c }) past y
noted_read wire past seq y c plain = record {
  made = refl;
  given = refl;
  takes = λ x. one_taken (same_end y x) (Control c);
  puts = none c plain;
  peer = λ x. refl;
}
  where
    none : (c : Noted) → IsNoted c → (x : EndId) → puts wire past (written wire past) (endpoint_at wire past) (Control c) (Take y) x ≡ []
    none (noted.Closed id) plain x = absurd plain
    none (noted.Queried id (Some v)) plain x = absurd plain
    none (noted.Queried id None) plain x = refl
    none (noted.Version id v) plain x = refl
    none (noted.Required id v) plain x = refl
    none (noted.Flushed k) plain x = refl

pub noted_steady : (wire : Wire) (past : List Event) (seq : SeqId) (y : EndId) (c : Noted) → IsNoted c
    → IsSteady wire (record { seq = seq; asked = Take y; told = Control c }) past
noted_steady wire past seq y c plain = record {
  draws = λ x id. refl;
  answers = λ x id. refl;
  associates = λ x. refl;
  endpoints = same c plain;
}
  where
    same : (c : Noted) → IsNoted c → (x : EndId) (id : ℕ)
        → changes wire past (written wire past) (endpoint_at wire past) seq (Control c) (Take y) x id ≡ endpoint_at wire past x id
    same (noted.Closed n) plain x id = absurd plain
    same (noted.Queried n v) plain x id = refl
    same (noted.Version n v) plain x id = refl
    same (noted.Required n v) plain x id = refl
    same (noted.Flushed k) plain x id = refl

-- what one does that is only told
pub silent_read : (wire : Wire) (past : List Event) (seq : SeqId) (y : EndId) (c : Noted) → IsSilent c
    → IsReading wire (record { seq = seq; asked = Take y; told = Control c }) past y
silent_read wire past seq y c silent = noted_read wire past seq y c (silent_noted c silent)

pub silent_steady : (wire : Wire) (past : List Event) (seq : SeqId) (y : EndId) (c : Noted) → IsSilent c
    → IsSteady wire (record { seq = seq; asked = Take y; told = Control c }) past
silent_steady wire past seq y c silent = noted_steady wire past seq y c (silent_noted c silent)

-- one that asks for a version that there is
pub queried_steady : (wire : Wire) (past : List Event) (seq : SeqId) (y : EndId) (n v : ℕ)
    → IsSteady wire (record { seq = seq; asked = Take y; told = Control (noted.Queried n (Some v)) }) past
queried_steady wire past seq y n v = record {
  draws = λ x id. refl;
  answers = λ x id. refl;
  associates = λ x. refl;
  endpoints = λ x id. refl;
}
