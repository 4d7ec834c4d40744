-- That the making of a pipe or a token is done, by what its parts did.
use Rattle.std.proofs.Common.{◌≡◌, ◌<◌, ◌≤◌, ℕ, List, [], ◌∷◌, ◌++◌, refl, sym, ap, ◌∙◌, arith, subst}
use Rattle.std.proofs.lemmas.List.{length-reverse}
use Rattle.mj_base.specs.declared.ids.EndId.{EndId}
use Rattle.mj_base.specs.declared.ids.SeqId.{SeqId}
use Rattle.handle_table.specs.Places.{tokens_made}
use Rattle.handle_table.specs.declared.thing.Thing.{Thing}
use Rattle.handle_table.specs.declared.thing.Thing.TheVariants.{End}
use Rattle.handle_table.specs.declared.thing.TokenSort.{TokenSort}
use Rattle.message_pipe.specs.Contents.{MakesPipe, MakesToken}
use Rattle.bind_model.specs.declared.asked.Asked.{Asked}
use Rattle.bind_model.specs.declared.asked.Asked.TheVariants as asks
use Rattle.bind_model.specs.declared.told.Told.{Told}
use Rattle.bind_model.specs.declared.told.Told.TheVariants as tells
use Rattle.bind_model.specs.declared.event.Event.{Event}
use Rattle.bind_model.specs.Replies.{joined}
use Rattle.bind_model.proofs.Fresh.{kept}
use Rattle.bind_model.specs.Plain.{asked_of}
use Rattle.core_state.specs.Routers.{Routers}
use Rattle.core_state.specs.Agreement.{Agrees, past_of, schema_of, wire_in}
use Rattle.core_state.specs.Doing.{HasRoom, Done, told_in, told_to}
use Rattle.bind_model.specs.declared.commands.Command.{Command}
use Rattle.bind_model.specs.declared.commands.Command.TheVariants as commands
use Rattle.bind_model.specs.declared.commands.Reply.TheVariants as replies
use Rattle.core_state.specs.declared.state.State.{State}
use Rattle.core_state.proofs.Held.{finish}
use Rattle.core_state.proofs.Facts.{made_few, tokens_few}
use Rattle.core_ends.proofs.Making.{pipe_agrees, pipe_told, token_agrees, token_told}

-- fewer things than 2 ^ 32 are made, and no sequence made more
module _ (s : State) (seq : SeqId) (able : HasRoom s seq) where
  pub few_made : s.pipes.made < 4294967294
  few_made =
      let n = able.few in
      let m = able.holds.agrees.made in
      omega (arith, n, m, made_few (wire_in s) s.seqs (past_of s) able.holds.legal, length-reverse s.log.events)

  pub few_tokens : (t : ℕ) → tokens_made s.pipes.table t ≤ s.pipes.made
  few_tokens t = rw (able.holds.agrees.tokens t, able.holds.agrees.made) (tokens_few (past_of s) t)

module _ (old new : State) (seq : SeqId) (able : HasRoom old seq) (schema : schema_of new ≡ schema_of old) (seqs : new.seqs ≡ old.seqs)
    (unmoved : new.rights ≡ old.rights) (unnoticed : new.tables ≡ old.tables) where
  abbrev noted : Asked → Told → List Event
  noted asked told = old.log.events ++ record { seq = seq; asked = asked; told = told } ∷ []

  pub pipe_done : (other : SeqId) (asked : Asked) (command : Command) (handles things : List Thing) (x y : Thing) → asked ≡ asked_of command
      → told_to old seq asked ≡ joined (past_of old) seq.0 other.0 → new.endpoints ≡ old.endpoints
      → new.log.events ≡ noted asked (tells.Made things) → things ≡ x ∷ y ∷ [] → handles ≡ x ∷ y ∷ []
      → ((a : EndId) × (b : EndId) × (x ≡ End a) × (y ≡ End b) × MakesPipe seq.0 other.0 a b old.pipes new.pipes)
      → Done old new seq command (replies.Made handles)
  pipe_done other asked command handles things x y q t same events e1 e2 m =
      let k = kept (wire_in old) old.seqs (past_of old) able.holds.legal in
      let a : EndId = m.0 in
      let b : EndId = m.1 in
      let all : handles ≡ End a ∷ End b ∷ [] = e2 ∙ (ap (λ (z : Thing). z ∷ y ∷ []) m.2 ∙ ap (λ (z : Thing). End a ∷ z ∷ []) m.3) in
      let told : tells.Made (End a ∷ End b ∷ []) ≡ told_in old seq command = pipe_told (wire_in old) old.seqs
      (past_of old) k seq asked old.pipes new.pipes old.endpoints able.holds.agrees other a b m.4 ∙ (sym t ∙ ap (told_to old seq) q) in
      finish old new seq command (replies.Made handles) able schema seqs unmoved unnoticed
      (record { none = refl; handed = λ wire. refl; after = λ rs. refl; gives = refl; hands = refl; halves = λ wire past. refl })
      (rw all refl)
      (events ∙ (ap (λ (r : Asked). noted r (tells.Made things)) q ∙ ap (λ (ts : List Thing). noted (asked_of command) (tells.Made ts)) (e1 ∙ sym e2)))
      (ap (λ (ts : List Thing). tells.Made ts) all ∙ told)
      (subst (λ (ts : List Thing). Agrees (wire_in old) (record { seq = seq; asked = asked_of command; told = tells.Made ts }
      ∷ past_of old) new.pipes new.endpoints) (sym all)
      (subst (λ (tables : Routers). Agrees (wire_in old)
      (record { seq = seq; asked = asked_of command; told = tells.Made (End a ∷ End b ∷ []) } ∷ past_of old) new.pipes tables) (sym same)
      (pipe_agrees (wire_in old) old.seqs (past_of old) k seq (asked_of command) old.pipes new.pipes old.endpoints able.holds.agrees other a b m.4)))
      tt

  pub token_done : (sort : TokenSort) (handles things : List Thing) (x : Thing) → new.endpoints ≡ old.endpoints
      → new.log.events ≡ noted (asks.Mint sort) (tells.Made things) → things ≡ x ∷ [] → handles ≡ x ∷ [] → MakesToken seq.0 x old.pipes new.pipes
      → Done old new seq (commands.Mint sort) (replies.Made handles)
  token_done sort handles things x same events e1 e2 m =
      let k = kept (wire_in old) old.seqs (past_of old) able.holds.legal in
      finish old new seq (commands.Mint sort) (replies.Made handles) able schema seqs unmoved unnoticed
      (record { none = refl; handed = λ wire. refl; after = λ rs. refl; gives = refl; hands = refl; halves = λ wire past. refl })
      (rw (e2, m.table.next) refl)
      (events ∙ ap (λ (ts : List Thing). noted (asks.Mint sort) (tells.Made ts)) (e1 ∙ sym e2))
      (ap (λ (ts : List Thing). tells.Made ts) e2 ∙ token_told (wire_in old) old.seqs (past_of old) k seq
      (asks.Mint sort) old.pipes new.pipes old.endpoints able.holds.agrees x m)
      (subst (λ (ts : List Thing). Agrees (wire_in old) (record { seq = seq; asked = asks.Mint sort; told = tells.Made ts }
      ∷ past_of old) new.pipes new.endpoints) (sym e2)
      (subst (λ (tables : Routers). Agrees (wire_in old)
      (record { seq = seq; asked = asks.Mint sort; told = tells.Made (x ∷ []) } ∷ past_of old) new.pipes tables) (sym same)
      (token_agrees (wire_in old) old.seqs (past_of old) k seq (asks.Mint sort) old.pipes new.pipes old.endpoints able.holds.agrees x m)))
      tt
