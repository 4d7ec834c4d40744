-- The events of a group apart are a legal history by themselves.
use Rattle.std.proofs.Common.{◌≡◌, ◌<◌, ℕ, Bool, true, false, List, [], ◌∷◌, refl, sym, subst, ◌∙◌, inl, inr, ap}
use Rattle.std.specs.Prelude.{if◌then◌else◌, ◌||◌, ◌&&◌, not, nat_lt}
use Rattle.std.proofs.lemmas.Bool.{ltb-true, lt-ltb}
use Rattle.mj_base.specs.declared.ids.SeqId.{SeqId}
use Rattle.bind_model.specs.declared.asked.Asked.{Asked}
use Rattle.bind_model.specs.declared.asked.Asked.TheVariants.{Skip}
use Rattle.bind_model.specs.declared.told.Why.{Why}
use Rattle.bind_model.specs.declared.told.Told.TheVariants.{No}
use Rattle.bind_model.specs.declared.event.Event.{Event}
use Rattle.handle_table.specs.Things.{has, seq_of}
use Rattle.handle_table.proofs.ThingsLemmas.{has-without_is}
use Rattle.bind_model.specs.Machine.{gone, bounds}
use Rattle.bind_model.specs.Wire.{Wire}
use Rattle.bind_model.specs.Replies.{legal}
use Rattle.bind_model.proofs.Fresh.{kept}
use Rattle.bind_model.proofs.Outcomes.{Refused, outcome, refuses}
use Rattle.group_laws.specs.Alike.{ThingsApart}
use Rattle.group_laws.proofs.Agrees.{Agrees}
use Rattle.group_laws.specs.Apart.{names, events_of, Unlinked, Apart, GroupsApart, RepliesApart}
use Rattle.group_laws.proofs.Agreeing.{at_same, agrees_none, agrees_out, agrees_in}
use Rattle.group_laws.proofs.Holding.{AllIn, Holds, holds_more}
use Rattle.group_laws.proofs.Real.{AllReal, real}
use Rattle.group_laws.proofs.Reading.{serials_same, tokens_same, unread_same, responders_same, held_same}
use Rattle.group_laws.proofs.Replying.{answer_same}

module _ (inside : ℕ → Bool) (seqs : ℕ) where
  -- the group, and all numbers that are of no sequence
  abbrev pub wide : ℕ → Bool
  wide t = inside t || not (nat_lt t seqs)

  pub wide_in : (t : ℕ) → inside t ≡ true → wide t ≡ true
  wide_in t e = rw e refl

  wide_out : (t : ℕ) → t < seqs → inside t ≡ false → wide t ≡ false
  wide_out t low e = rw (e, lt-ltb t seqs low) refl

  -- what a sequence of the group names is of the group, or of no sequence
  pub all_in : (s : ℕ) (ts : List ℕ) → inside s ≡ true → Unlinked seqs inside s ts → AllIn wide s ts
  all_in s [] e u = tt
  all_in s (t ∷ ts) e u = (go (nat_lt t seqs) refl ∙ sym (wide_in s e), all_in s ts e u.1)
    where
      go : (b : Bool) → nat_lt t seqs ≡ b → wide t ≡ true
      go true k = wide_in t (u.0 (ltb-true t seqs k) ∙ e)
      go false k = any (inside t)
        where
          any : (c : Bool) → (c || not (nat_lt t seqs)) ≡ true
          any true = refl
          any false = rw k refl

  -- what another names, all of sequences, is of others
  all_out : (s : ℕ) (ts : List ℕ) → s < seqs → inside s ≡ false → AllReal seqs ts → Unlinked seqs inside s ts → AllIn wide s ts
  all_out s [] low e r u = tt
  all_out s (t ∷ ts) low e r u = (wide_out t r.0 (u.0 r.0 ∙ e) ∙ sym (wide_out s low e), all_out s ts low e r.1 u.1)

  module _ (wire : Wire) where
    -- the group's events are legal, and what they say stays among its things
    record Alone (past sub : List Event) : Type 0 where
      legal : legal wire seqs sub
      holds : Holds wide wire past
      agrees : Agrees wide wire past sub

    -- what was refused changes nothing, whatever it named
    forget_holds : (seq : SeqId) (asked : Asked) (why : Why) (past : List Event)
        → Holds wide wire (record { seq = seq; asked = Skip 0; told = No why } ∷ past)
        → Holds wide wire (record { seq = seq; asked = asked; told = No why } ∷ past)
    forget_holds seq asked why past so = record { peers = so.peers; mail = so.mail; waiting = so.waiting; piped = so.piped }

    forget : (seq : SeqId) (asked : Asked) (why : Why) (past sub : List Event)
        → Agrees wide wire (record { seq = seq; asked = Skip 0; told = No why } ∷ past) sub
        → Agrees wide wire (record { seq = seq; asked = asked; told = No why } ∷ past) sub
    forget seq asked why past sub ag = record {
      peers = ag.peers;
      gone = ag.gone;
      out = ag.out;
      bounds = ag.bounds;
      taken = ag.taken;
      associated = ag.associated;
      written = ag.written;
      endpoints = ag.endpoints;
      drawn = ag.drawn;
      answered = ag.answered;
      pendings = ag.pendings;
      responders = ag.responders;
      made = ag.made;
      queried = ag.queried;
      versioned = ag.versioned;
      flushed = ag.flushed;
      met = ag.met;
      waits = ag.waits;
      pipes = ag.pipes;
      begun = ag.begun;
      filled = ag.filled;
      drained = ag.drained;
    }

    still : (event : Event) (past sub : List Event) → event.seq.0 < seqs → inside event.seq.0 ≡ false → Refused event.told → Alone past sub
        → Alone (event ∷ past) sub
    still event past sub low e r rest =
        let skip : Event = record { seq = event.seq; asked = Skip 0; told = No r.0 } in
        record {
          legal = rest.legal;
          holds = subst (λ t. Holds wide wire (record { seq = event.seq; asked = event.asked; told = t } ∷ past)) (sym r.1)
              (forget_holds event.seq event.asked r.0 past (holds_more wide wire seqs past skip rest.holds refuses tt));
          agrees = subst (λ t. Agrees wide wire (record { seq = event.seq; asked = event.asked; told = t } ∷ past) sub) (sym r.1)
              (forget event.seq event.asked r.0 past sub
              (agrees_out wide wire seqs past sub skip rest.holds rest.agrees refuses tt (wide_out event.seq.0 low e)));
        }

    step : (event : Event) (past sub : List Event) → legal wire seqs (event ∷ past) → Apart seqs inside (event ∷ past) → Alone past sub
        → (b : Bool) → inside event.seq.0 ≡ b → Alone (event ∷ past) (if b then event ∷ sub else sub)
    step event past sub h a rest true e =
        let o = outcome wire seqs past event.seq event.asked event.told h.1 in
        let all = all_in event.seq.0 (names event.asked) e a.0 in
        let near : wide event.seq.0 ≡ true = wide_in event.seq.0 e in
        record {
          legal = (
            h.0,
            h.1 ∙ answer_same wide wire past sub rest.holds rest.agrees (kept wire seqs sub rest.legal) seqs event.seq event.asked near all,
            rest.legal,
          );
          holds = holds_more wide wire seqs past event rest.holds o all;
          agrees = agrees_in wide wire seqs past sub event rest.holds rest.agrees o all near;
        }
    step event past sub h a rest false e = elim (real wire seqs past h.2 event.seq event.asked event.told h.1) [
      | inl r ↦ still event past sub h.0 e r rest
      | inr names_real ↦
          let o = outcome wire seqs past event.seq event.asked event.told h.1 in
          let all = all_out event.seq.0 (names event.asked) h.0 e names_real a.0 in
          record {
            legal = rest.legal;
            holds = holds_more wide wire seqs past event rest.holds o all;
            agrees = agrees_out wide wire seqs past sub event rest.holds rest.agrees o all (wide_out event.seq.0 h.0 e);
          }
    ]

    alone : (past : List Event) → legal wire seqs past → Apart seqs inside past → Alone past (events_of inside past)
    alone [] h a = record {
      legal = tt;
      holds = record { peers = λ x. refl; mail = λ x z e. absurd cc; waiting = λ x. tt; piped = λ t d e. absurd cc };
      agrees = agrees_none wide wire;
    }
    alone (event ∷ past) h a = step event past (events_of inside past) h a (alone past h.2 a.1) (inside event.seq.0) refl

pub groups_apart : (wire : Wire) (seqs : ℕ) (past : List Event) → legal wire seqs past → GroupsApart wire seqs past
groups_apart wire seqs past h inside a = (alone inside seqs wire past h a).legal

pub replies_apart : (wire : Wire) (seqs : ℕ) (past : List Event) → legal wire seqs past → RepliesApart wire seqs past
replies_apart wire seqs past h inside a seq asked near u =
    let all : Alone inside seqs wire past (events_of inside past) = alone inside seqs wire past h a in
    answer_same (wide inside seqs) wire past (events_of inside past) all.holds all.agrees (kept wire seqs (events_of inside past) all.legal) seqs seq asked
    (wide_in inside seqs seq.0 near) (all_in inside seqs seq.0 (names asked) near u)

pub things_apart : (wire : Wire) (seqs : ℕ) (past : List Event) → legal wire seqs past → ThingsApart wire seqs past
things_apart wire seqs past h inside a =
    let all : Alone inside seqs wire past (events_of inside past) = alone inside seqs wire past h a in
    record {
      serials = λ s i. serials_same (wide inside seqs) wire past (events_of inside past) all.holds all.agrees s (wide_in inside seqs s i);
      tokens = λ s i. tokens_same (wide inside seqs) wire past (events_of inside past) all.holds all.agrees s (wide_in inside seqs s i);
      peers = λ x i. all.agrees.peers x (wide_in inside seqs x.seq i);
      written = λ x i. all.agrees.written x (wide_in inside seqs x.seq i);
      taken = λ x i. all.agrees.taken x (wide_in inside seqs x.seq i);
      unread = λ x i. unread_same (wide inside seqs) wire past (events_of inside past) all.holds all.agrees x (wide_in inside seqs x.seq i);
      gone = λ z i. all.agrees.gone z (wide_in inside seqs (seq_of z) i);
      out = λ z i. all.agrees.out z (wide_in inside seqs (seq_of z) i);
      bound = λ z i.
          has-without_is (gone past) (bounds past) z
          ∙ (ap (λ b. b && not (has (gone past) z)) (all.agrees.bounds z (wide_in inside seqs (seq_of z) i))
          ∙ (ap (λ b. has (bounds (events_of inside past)) z && not b) (all.agrees.gone z (wide_in inside seqs (seq_of z) i))
          ∙ sym (has-without_is (gone (events_of inside past)) (bounds (events_of inside past)) z)));
      pendings = λ p i. all.agrees.pendings p (wide_in inside seqs p.end.seq i);
      responders = λ r i. responders_same (wide inside seqs) wire past (events_of inside past) all.holds all.agrees r (wide_in inside seqs r.end.seq i);
      endpoints = λ x id i. at_same (wide inside seqs) wire past (events_of inside past) all.agrees x id (wide_in inside seqs x.seq i);
      associated = λ x i. all.agrees.associated x (wide_in inside seqs x.seq i);
      drawn = λ x id i. all.agrees.drawn x id (wide_in inside seqs x.seq i);
      answered = λ x id i. all.agrees.answered x id (wide_in inside seqs x.seq i);
      queried = λ x id i. all.agrees.queried x id (wide_in inside seqs x.seq i);
      versioned = λ x id i. all.agrees.versioned x id (wide_in inside seqs x.seq i);
      flushed = λ x i. all.agrees.flushed x (wide_in inside seqs x.seq i);
      met = λ x k i. all.agrees.met x k (wide_in inside seqs x.seq i);
      waits = λ x i. all.agrees.waits x (wide_in inside seqs x.seq i);
      pipes = λ t i. all.agrees.pipes t (wide_in inside seqs t.seq i);
      held = λ t d i. held_same (wide inside seqs) wire past (events_of inside past) all.holds all.agrees t d (wide_in inside seqs t.seq i);
      begun = λ t i. all.agrees.begun t (wide_in inside seqs t.seq i);
      filled = λ t i. all.agrees.filled t (wide_in inside seqs t.seq i);
      drained = λ t i. all.agrees.drained t (wide_in inside seqs t.seq i);
    }
