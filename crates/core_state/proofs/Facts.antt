-- What a legal history says of things that were not made, and of places.
use Rattle.std.proofs.Common.{◌≡◌, ◌≤◌, ℕ, zero, suc, ◌*◌, Bool, true, false, List, [], ◌∷◌, ◌++◌, length, drop, refl, sym, ap, ◌∙◌, arith}
use Rattle.std.specs.Prelude.{if◌then◌else◌, not, ◌==◌, ◌&&◌, Option, Some, None}
use Rattle.std.proofs.Math.Seq.{drop-nil}
use Rattle.std.proofs.lemmas.List.{length-append}
use Rattle.std.proofs.lemmas.List.Sums.{count_by-le-length}
use Rattle.mj_base.specs.declared.ids.EndId.{EndId}
use Rattle.mj_base.specs.declared.ids.SeqId.{SeqId}
use Rattle.handle_table.specs.Things.{has, is_end, seq_of}
use Rattle.handle_table.specs.declared.thing.Thing.{Thing}
use Rattle.handle_table.specs.declared.thing.Thing.TheVariants.{End, Token}
use Rattle.message_pipe.specs.Ends.{end_of, is_closed, peer_of, unread_at, unread_of, carried_in, spread}
use Rattle.message_pipe.specs.Mail.{handles_of}
use Rattle.message_pipe.specs.Contents.{Contents}
use Rattle.message_pipe.specs.declared.message.Message.{Message}
use Rattle.bind_model.specs.declared.endpoint.Endpoint.{Endpoint}
use Rattle.bind_model.specs.declared.asked.Asked.{Asked}
use Rattle.bind_model.specs.declared.told.Told.{Told}
use Rattle.bind_model.specs.declared.event.Event.{Event}
use Rattle.bind_model.specs.Wire.{Wire}
use Rattle.bind_model.specs.Machine.{made, made_by, out, gone, is_gone, peer, bounds, taken, endpoint_at, unread, carried}
use Rattle.bind_model.specs.Replies.{legal, serials, tokens}
use Rattle.bind_model.proofs.Counting.{absent, present, times-absent, times-present}
use Rattle.bind_model.proofs.Kept.{Kept, most, bound_held}
use Rattle.bind_model.proofs.Outcomes.{Outcome, outcome, joins, mints, binds, associates, attaches, calls, answers, writes, gets, drops, controls, spoils}
use Rattle.bind_model.proofs.Outcomes.{closes, closes_pending, closes_responder, closes_end, closes_endpoint, notifies, pauses, pipes, flows, skips}
use Rattle.bind_model.proofs.Outcomes.{refuses}
use Rattle.core_state.specs.Routers.{Routers}
use Rattle.core_state.specs.Agreement.{Agrees, end_with}

module _ (wire : Wire) (past : List Event) (k : Kept wire past) where
  -- what was not made is not gone, and what is gone is not out
  pub not_gone : (z : Thing) → has (made past) z ≡ false → has (gone past) z ≡ false
  not_gone z h = absent z (gone past) (omega (arith, k.one z, times-absent z (made past) h))

  pub gone_out : (z : Thing) → has (gone past) z ≡ true → has (out past) z ≡ false
  gone_out z h = absent z (out past) (omega (arith, k.one z, times-present z (gone past) h, most wire past k z))

  pub gone_made : (z : Thing) → has (gone past) z ≡ true → has (made past) z ≡ true
  gone_made z h = present z (made past) (omega (arith, k.one z, times-present z (gone past) h))

  -- nothing lies at an end that was not made
  pub unmade_unread : (x : EndId) → has (made past) (End x) ≡ false → unread wire past x ≡ []
  unmade_unread x h = rw (k.mail x h) (go (is_gone past x))
    where
      go : (b : Bool) → ◌≡◌ {A = List Message} (if◌then◌else◌ {A = List Message} b [] (drop (length (taken past x)) [])) []
      go true = refl
      go false = drop-nil {A = Message} (length (taken past x))

  -- an end that is out has no endpoints
  pub out_unbound : (x : EndId) (id : ℕ) → has (out past) (End x) ≡ true → endpoint_at wire past x id ≡ None
  out_unbound x id h = go (endpoint_at wire past x id) refl
    where
      bad : has (bounds past) (End x) ≡ true → (g : Bool) → has (gone past) (End x) ≡ g → ⊥
      bad b true e = absurd (omega (arith, k.one (End x), times-present (End x) (gone past) e, times-present (End x) (out past) h, most wire past k (End x)))
      bad b false e = absurd (omega (arith, k.one (End x), bound_held wire past k (End x) b e, times-present (End x) (out past) h, most wire past k (End x)))

      go : (o : Option Endpoint) → endpoint_at wire past x id ≡ o → o ≡ None
      go None e = refl
      go (Some r) e = absurd (bad (k.endpoints x id r e) (has (gone past) (End x)) refl)

  -- ## What the pipes say, where they agree

  module _ (pipes : Contents) (endpoints : Routers) (a : Agrees wire past pipes endpoints) where
    pub closed_is : (x : EndId) → is_closed (end_of pipes.ends x) ≡ is_gone past x
    closed_is x = ap is_closed (a.ends x) ∙ go (has (made past) (End x)) refl
      where
        go : (b : Bool) → has (made past) (End x) ≡ b → is_closed (end_with b (peer past x) (is_gone past x) (unread wire past x)) ≡ is_gone past x
        go true e = refl
        go false e = sym (not_gone (End x) e)

    pub unread_is : (x : EndId) → unread_at pipes.ends x ≡ unread wire past x
    unread_is x = ap unread_of (a.ends x) ∙ go (has (made past) (End x)) refl
      where
        go : (b : Bool) → has (made past) (End x) ≡ b → unread_of (end_with b (peer past x) (is_gone past x) (unread wire past x)) ≡ unread wire past x
        go true e = refl
        go false e = sym (unmade_unread x e)

    pub peer_is : (x : EndId) → has (made past) (End x) ≡ true → peer_of (end_of pipes.ends x) ≡ Some (peer past x)
    peer_is x h = ap peer_of (a.ends x) ∙ rw h refl

    pub carried_is : (z : Thing) → carried_in pipes.ends None z ≡ carried wire past z
    carried_is (End x) = ap (λ ms. handles_of ms) (unread_is x)
    carried_is (Token t) = refl

-- as things are carried alike, the same goes with them
pub spread_same : (c d : Thing → List Thing) → ((z : Thing) → c z ≡ d z) → (turns : ℕ) (xs : List Thing) → spread c turns xs ≡ spread d turns xs
spread_same c d e zero xs = refl
spread_same c d e (suc n) [] = refl
spread_same c d e (suc n) (x ∷ xs) = ap (λ ys. x ∷ ys) (ap (λ ys. spread c n (xs ++ ys)) (e x) ∙ spread_same c d e n (xs ++ d x))

-- at most two things are made with an event
module _ (wire : Wire) (seqs : ℕ) where
  few_step : {past : List Event} {seq : SeqId} {asked : Asked} {told : Told} → Outcome wire seqs past seq asked told → length (made_by told) ≤ 2
  few_step (joins t j p q) = omega arith
  few_step mints = omega arith
  few_step (binds o) = omega arith
  few_step (associates main e g q) = omega arith
  few_step (attaches o g l e) = omega arith
  few_step (calls r o ps mk e w b) = omega arith
  few_step (answers r o rs ps e w b) = omega arith
  few_step (writes o w) = omega arith
  few_step (gets m hd r c f e) = omega arith
  few_step (drops m f e d) = omega arith
  few_step (controls m f e d) = omega arith
  few_step (spoils m f e) = omega arith
  few_step (closes o e) = omega arith
  few_step (closes_pending o e) = omega arith
  few_step (closes_responder e) = omega arith
  few_step (closes_end r i o e) = omega arith
  few_step (closes_endpoint r i o e) = omega arith
  few_step (notifies r o e w s f p) = omega arith
  few_step (pauses rb ra e f g s) = omega arith
  few_step (pipes e p q) = omega arith
  few_step (flows d o e f) = omega arith
  few_step skips = omega arith
  few_step refuses = omega arith

  pub made_few : (past : List Event) → legal wire seqs past → length (made past) ≤ 2 * length past
  made_few [] h = omega arith
  made_few (event ∷ past) h =
      let step : length (made_by event.told) ≤ 2 = few_step (outcome wire seqs past event.seq event.asked event.told h.1) in
      omega (arith, made_few past h.2, length-append (made past) (made_by event.told), step)

-- a sequence made no more than all did
pub serials_few : (past : List Event) (s : ℕ) → serials past s ≤ length (made past)
serials_few past s = count_by-le-length (λ x. is_end x && (seq_of x == s)) (made past)

pub tokens_few : (past : List Event) (s : ℕ) → tokens past s ≤ length (made past)
tokens_few past s = count_by-le-length (λ x. not (is_end x) && (seq_of x == s)) (made past)
