-- The least of ends that are all that are ready, and maybe others, is the one that the definition gives.
use Rattle.std.proofs.Common.{◌≡◌, Bool, true, false, List, refl, sym, ap, ◌∙◌}
use Rattle.std.specs.Prelude.{if◌then◌else◌, Option, Some, None, is_some, option_and_then}
use Rattle.std.specs.Option.{option_map}
use Rattle.mj_base.specs.declared.ids.EndId.{EndId}
use Rattle.mj_base.specs.declared.ids.SeqId.{SeqId}
use Rattle.handle_table.specs.Things.{has}
use Rattle.handle_table.specs.declared.thing.Thing.TheVariants.{End}
use Rattle.message_pipe.specs.Mail.{front_of}
use Rattle.message_pipe.specs.declared.message.Message.{Message}
use Rattle.bind_model.specs.declared.endpoint.Endpoint.{Endpoint}
use Rattle.bind_model.specs.declared.event.Event.{Event}
use Rattle.bind_model.specs.Machine.{endpoint_at, is_gone, made, unread}
use Rattle.bind_model.specs.Ready.{ends_of, is_ready, least, meant, ready, settles, taker}
use Rattle.bind_model.specs.Wire.{Wire}
use Rattle.bind_model.proofs.CoreFacts.{ready_takeable}
use Rattle.bind_model.proofs.Kept.{Kept, bound_made}
use Rattle.bind_core.specs.steps.FirstTaken.{IsLeast}
use Rattle.bind_core.specs.Takers.{taker_open}
use Rattle.bind_core.proofs.Leasts.{AllFrom, has_of_made, has_passing_of, least_at, none_pass}
use Rattle.bind_core.proofs.WhoTakes.{some_taker}

-- where somebody takes, endpoint 0 is there
has_main : (f : Message → Option _) (a : _ → Option Endpoint) (c : Bool) (front : Option Message) (o : Option Endpoint)
    → is_some (taker_open f a c front o) ≡ true → is_some o ≡ true
has_main f a c front None h = absurd cc
has_main f a c front (Some r) h = refl

module _ (wire : Wire) (past : List Event) (k : Kept wire past) where
  ready_made : (x : EndId) → is_ready wire past x ≡ true → has (made past) (End x) ≡ true
  ready_made x h = go (endpoint_at wire past x 0) refl
      (has_main (λ n. meant wire n) (endpoint_at wire past x) (is_gone past x) (front_of (unread wire past x)) (endpoint_at wire past x 0)
      (some_taker wire past x ∙ ready_takeable wire past x h))
    where
      go : (o : Option Endpoint) → endpoint_at wire past x 0 ≡ o → is_some o ≡ true → has (made past) (End x) ≡ true
      go None e s = absurd cc
      go (Some r) e s = bound_made wire past k (End x) (k.endpoints x 0 r e)

  module _ (takes : EndId → Option SeqId) (is : (x : EndId) → takes x ≡ (if is_ready wire past x then taker wire past x else None)) where
    abbrev taken_at : Option EndId → Option (SeqId × EndId)
    taken_at found = option_and_then (λ y. option_map (λ (t : SeqId). (t, y)) (taker wire past y)) found

    -- who takes at an end is who takes where a take is ready
    taken_by : (x : EndId) (t : SeqId) → takes x ≡ Some t → (is_ready wire past x ≡ true) × (taker wire past x ≡ Some t)
    taken_by x t e = go (is_ready wire past x) refl (sym (is x) ∙ e)
      where
        go : (b : Bool) → is_ready wire past x ≡ b → (if b then taker wire past x else None) ≡ Some t
            → (is_ready wire past x ≡ true) × (taker wire past x ≡ Some t)
        go true r f = (r, f)
        go false r f = absurd cc

    -- and where one is, somebody takes
    pub ready_taken : (x : EndId) → is_ready wire past x ≡ true → is_some (takes x) ≡ true
    ready_taken x r = ap (λ (o : Option SeqId). is_some o) (is x ∙ ap (λ (b : Bool). if b then taker wire past x else None) r) ∙ some (taker wire past x) r
      where
        some : (o : Option SeqId) → settles wire past x o ≡ true → is_some o ≡ true
        some None h = absurd cc
        some (Some t) h = refl

    -- the least of those that are meant, where all that are ready are meant
    pub least_ready : (among : EndId → Bool) (found : Option (SeqId × EndId)) → IsLeast takes among found
        → ((x : EndId) → is_ready wire past x ≡ true → among x ≡ true) → found ≡ ready wire past
    least_ready among None l covers = sym (ap (λ (ends : List EndId). taken_at (least ends)) (none_pass (is_ready wire past) nobody (ends_of (made past))))
      where
        nobody : (x : EndId) → is_ready wire past x ≡ false
        nobody x = go (is_ready wire past x) refl
          where
            go : (b : Bool) → is_ready wire past x ≡ b → b ≡ false
            go true e = absurd (
                let n : is_some (takes x) ≡ false = ap (λ (o : Option SeqId). is_some o) (l x (covers x e)) in
                let s : is_some (takes x) ≡ true = ready_taken x e in
                cc)
            go false e = refl
    least_ready among (Some (t, x)) l covers =
        sym (ap (λ (found : Option EndId). taken_at found)
        (least_at (is_ready wire past) x from None tt (ends_of (made past))
        (has_passing_of (is_ready wire past) x by.0 (ends_of (made past)) (has_of_made x (made past) (ready_made x by.0))))
        ∙ ap (λ (o : Option SeqId). option_map (λ (t : SeqId). (t, x)) o) by.1)
      where
        by : (is_ready wire past x ≡ true) × (taker wire past x ≡ Some t)
        by = taken_by x t l.0

        from : AllFrom (is_ready wire past) x
        from y r = l.1 y (covers y r) (ready_taken y r)
