-- Whatever a desk does, what was seen there begins with what was seen before; and what came of its sequence.
use Rattle.std.proofs.Common.{◌≡◌, ◌++◌, inl, inr, ℕ, List, [], ◌∷◌, refl, sym, ap, ◌∙◌, subst, append_assoc}
use Rattle.std.specs.Prelude.{◌==◌, Result, Ok, Err, OnErr}
use Rattle.std.proofs.lemmas.List.{append-nil}
use Rattle.std.proofs.lemmas.List.Elements.{filter-append}
use Rattle.mj_base.specs.declared.ids.SeqId.{SeqId}
use Rattle.mj_schema.specs.declared.schema.Schema.{Schema}
use Rattle.bind_model.specs.Plain.{asked_of}
use Rattle.bind_model.specs.Seen.{Continues, KeepsLegal, own_of, told_behind}
use Rattle.bind_model.specs.declared.asked.Asked.{Asked}
use Rattle.bind_model.specs.declared.commands.Command.{Command}
use Rattle.bind_model.specs.declared.commands.Refused.{Refused}
use Rattle.bind_model.specs.declared.commands.Reply.{Reply}
use Rattle.bind_model.specs.declared.event.Event.{Event}
use Rattle.bind_model.specs.declared.told.Told.{Told}
use Rattle.call_script.specs.declared.script.AutoReply.{AutoReply}
use Rattle.remote_receiver.specs.Notes.{Kept}
use Rattle.script_run.specs.AtDesk.{Adds, Begins, IsLater, SawAt, Seen, Served}
use Rattle.script_run.specs.declared.cut.Cut.{Cut}
use Rattle.script_run.specs.declared.plain.Plain.{Plain}
use Rattle.script_run.specs.steps.Desks.{AtMost, CameTo, Went, asked_it, stood}

-- ## Later

pub later_same : (b : Seen) → IsLater b b
later_same b = record {
  same = record { schema = refl; seqs = refl; alone = refl; me = refl };
  begins = ([], sym (append-nil b.events));
  legal = λ h. h;
}

begins_then : {A : Type 0} (xs ys zs : List A) → Begins xs ys → Begins ys zs → Begins xs zs
begins_then {A} xs ys zs f g = (f.0 ++ g.0, g.1 ∙ (ap (λ (l : List A). l ++ g.0) f.1 ∙ append_assoc xs f.0 g.0))

pub later_then : (a b c : Seen) → IsLater a b → IsLater b c → IsLater a c
later_then a b c f g = record {
  same = record {
    schema = g.same.schema ∙ f.same.schema;
    seqs = g.same.seqs ∙ f.same.seqs;
    alone = g.same.alone ∙ f.same.alone;
    me = g.same.me ∙ f.same.me;
  };
  begins = begins_then a.events b.events c.events f.begins g.begins;
  legal = λ h. kept (f.legal h);
}
  where
    kept : KeepsLegal a.schema a.seqs b.events c.events
    kept = subst (λ (s : Schema). KeepsLegal s a.seqs b.events c.events) f.same.schema
        (subst (λ (n : ℕ). KeepsLegal b.schema n b.events c.events) f.same.seqs g.legal)

pub served_later : (before after : Seen) (old new : Kept Plain) (command : Command) (result : Result Reply Refused)
    → Served before after command old new result → IsLater before after
served_later before after old new command (Ok reply) served =
    let saw : SawAt before after command reply = served.event in
    let told : Told = told_behind before.schema before.seqs before.me saw.before command in
    let event : Event = record { seq = before.me; asked = asked_of command; told = told } in
    record {
      same = served.same;
      begins = begins_then before.events saw.before after.events (saw.others.between, saw.others.all) (event ∷ [], saw.event);
      legal = saw.legal;
    }
served_later before after old new command (Err refused) served =
    let stays = served.refused.0 in
    record { same = served.same; begins = (stays.0.between, stays.0.all); legal = stays.1 }

-- ## What came

pub adds_none : (b : Seen) → Adds b b []
adds_none b = record { own = sym (append-nil (own_of b.me b.events)); sole = λ alone. sym (append-nil b.events) }

continued : (b a : Seen) → Continues b.alone b.me b.events a.events → Adds b a []
continued b a c = record {
  own =
      ap (own_of b.me) c.all
      ∙ (filter-append (λ (e : Event). e.seq.0 == b.me.0) b.events c.between ∙ ap (λ (es : List Event). own_of b.me b.events ++ es) c.none_own);
  sole = λ alone. c.all ∙ ap (λ (es : List Event). b.events ++ es) (c.none alone);
}

-- nothing of a command that came back
pub served_none : (before after : Seen) (old new : Kept Plain) (command : Command) (refused : Refused)
    → Served before after command old new (Err refused) → Adds before after []
served_none before after old new command refused served = continued before after served.refused.0.0

-- so where the result says that it came back
pub none_left : (before after : Seen) (old new : Kept Plain) (command : Command) (result : Result Reply Refused) (refused : Refused)
    → result ≡ Err refused → Served before after command old new result → Adds before after []
none_left before after old new command result refused is served =
    served_none before after old new command refused (subst (λ (r : Result Reply Refused). Served before after command old new r) is served)

pub went_adds : (b a : Seen) (old new : Kept Plain) (asked : Asked) (told : Told) → Went b a old new asked told
    → Adds b a (record { seq = b.me; asked = asked; told = told } ∷ [])
went_adds b a old new asked told went = record { own = went.own; sole = went.sole }

-- first these and then those
pub adds_then : (b m a : Seen) (xs ys : List Event) → m.me ≡ b.me → m.alone ≡ b.alone → Adds b m xs → Adds m a ys → Adds b a (xs ++ ys)
adds_then b m a xs ys me alone f g = record {
  own =
      subst (λ (s : SeqId). own_of s a.events ≡ own_of s m.events ++ ys) me g.own
      ∙ (ap (λ (es : List Event). es ++ ys) f.own ∙ append_assoc (own_of b.me b.events) xs ys);
  sole = λ is. g.sole (alone ∙ is) ∙ (ap (λ (es : List Event). es ++ ys) (f.sole is) ∙ append_assoc b.events xs ys);
}

-- ## Results

pub err_weaker : {A E : Type 0} {P Q : Type 0} (result : Result A E) → (P → Q) → OnErr result P → OnErr result Q
err_weaker (Ok a) f p = tt
err_weaker (Err e) f p = f p

-- what was asked came, whatever became of what it was told
pub went_most : {A : Type 0} (result : Result A Cut) (b a : Seen) (old new : Kept Plain) (asked : Asked) (told : Told) → Went b a old new asked told
    → OnErr result (AtMost asked b a)
went_most (Ok x) b a old new asked told went = tt
went_most (Err e) b a old new asked told went = inr (told, went_adds b a old new asked told went)

pub most_came : (autos : List AutoReply) (asked : Asked) (b a : Seen) → AtMost asked b a → CameTo autos asked b a
most_came autos asked b a (inl none) = stood none
most_came autos asked b a (inr came) = asked_it came.0 came.1

-- what holds whatever the result is
pub on_err : {A E : Type 0} {P : Type 0} (result : Result A E) → P → OnErr result P
on_err (Ok a) p = tt
on_err (Err e) p = p
