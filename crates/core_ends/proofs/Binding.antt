-- What the binding of an end makes of pipes, places and endpoints.
use Rattle.std.proofs.Common.{◌≡◌, ℕ, Bool, true, false, List, [], ◌∷◌, length, refl, sym, ap, ◌∙◌, arith, subst}
use Rattle.std.specs.Prelude.{if◌then◌else◌, ◌||◌, ◌&&◌, not, ◌==◌, is_some, nat_lt, Option, Some, None}
use Rattle.std.specs.Option.{option_map}
use Rattle.std.specs.List.{count_by}
use Rattle.std.proofs.lemmas.List.{append-nil}
use Rattle.mj_base.specs.declared.ids.EndId.{EndId}
use Rattle.mj_base.specs.declared.ids.SeqId.{SeqId}
use Rattle.mj_schema.specs.declared.schema.Schema.{Schema}
use Rattle.handle_table.specs.Things.{has, same, is_end, seq_of}
use Rattle.handle_table.specs.Places.{place_of}
use Rattle.handle_table.specs.declared.places.Place.{Place}
use Rattle.handle_table.specs.declared.places.Place.TheVariants as places
use Rattle.handle_table.specs.declared.thing.Thing.{Thing}
use Rattle.handle_table.specs.declared.thing.Thing.TheVariants.{End}
use Rattle.handle_table.proofs.ThingsLemmas.{same-true}
use Rattle.wire_encoder.specs.declared.endpoint.EndpointSide.{EndpointSide}
use Rattle.message_pipe.specs.Contents.{Contents, Puts}
use Rattle.bind_model.specs.declared.asked.Asked.TheVariants.{Bind}
use Rattle.bind_model.specs.declared.told.Told.TheVariants.{Bound, No}
use Rattle.bind_model.specs.declared.told.Why.TheVariants.{NoName}
use Rattle.bind_model.specs.declared.event.Event.{Event}
use Rattle.bind_model.specs.Wire.{Wire}
use Rattle.bind_model.specs.WireOf.{wire_of}
use Rattle.bind_model.specs.Machine.{made, gone, out, bound_on}
use Rattle.bind_model.specs.Replies.{answer, bound_as, drawn}
use Rattle.bind_model.proofs.Counting.{absent, times-present}
use Rattle.bind_model.proofs.Kept.{Kept, most}
use Rattle.core_state.specs.Routers.{Routers}
use Rattle.core_state.specs.Turns.{EntersAt}
use Rattle.core_state.specs.Agreement.{Agrees, is_out, is_shut}
use Rattle.core_state.proofs.After.{out_after, end_still}
use Rattle.core_state.proofs.Steady.{bind_enters}

-- as many interfaces as the schema has
pub interfaces_of : (schema : Schema) → (wire_of schema).interfaces ≡ length schema.interfaces
unfolding wire_of
interfaces_of schema = refl

-- what a bind is told, by its test
pub bind_no_name : (schema : Schema) (seqs : ℕ) (past : List Event) (seq : SeqId) (z : Thing) (side : EndpointSide) (interface : ℕ) (b : Bool)
    → b ≡ has (out past) z
    → (b && nat_lt interface (length schema.interfaces)) ≡ false → answer (wire_of schema) seqs past seq (Bind z side interface) ≡ No NoName
bind_no_name schema seqs past seq z side interface b e h = rw (interfaces_of schema, ← e, h) refl

pub bind_told : (schema : Schema) (seqs : ℕ) (past : List Event) (seq : SeqId) (z : Thing) (side : EndpointSide) (interface : ℕ) (b : Bool)
    → b ≡ has (out past) z
    → (b && nat_lt interface (length schema.interfaces)) ≡ true → answer (wire_of schema) seqs past seq (Bind z side interface) ≡ bound_as z
bind_told schema seqs past seq z side interface b e h = rw (interfaces_of schema, ← e, h) refl

module _ (wire : Wire) (past : List Event) (k : Kept wire past) (seq : SeqId) (x : EndId) (side : EndpointSide) (interface : ℕ)
    (h : has (out past) (End x) ≡ true) (unsent : drawn past x 0 ≡ []) where
  abbrev pub bound_event : Event
  bound_event = record { seq = seq; asked = Bind (End x) side interface; told = Bound x }

  not_gone_out : (z : Thing) → same (End x) z ≡ true → has (gone past) z ≡ false
  not_gone_out z e = subst (λ w. has (gone past) w ≡ false) (same-true (End x) z e)
      (absent (End x) (gone past) (omega (arith, k.one (End x), times-present (End x) (out past) h, most wire past k (End x))))

  out_now : (b o : Bool) (p : Option Place) → is_out p ≡ o
      → is_out (if b then option_map (λ (before : Place). places.Bound) p else p) ≡ ((o && not (b || false)) || false)
  out_now true o p e = nowhere p ∙ sym (both o)
    where
      nowhere : (p : Option Place) → is_out (option_map (λ (before : Place). places.Bound) p) ≡ false
      nowhere None = refl
      nowhere (Some q) = refl

      both : (o : Bool) → ((o && false) || false) ≡ false
      both true = refl
      both false = refl
  out_now false true p e = e
  out_now false false p e = e

  some_now : (b : Bool) (p : Option Place) → is_some (if b then option_map (λ (before : Place). places.Bound) p else p) ≡ is_some p
  some_now false p = refl
  some_now true None = refl
  some_now true (Some q) = refl

  shut_now : (b g : Bool) (p : Option Place) → is_shut p ≡ g → (b ≡ true → g ≡ false)
      → is_shut (if b then option_map (λ (before : Place). places.Bound) p else p) ≡ g
  shut_now false g p e f = e
  shut_now true g p e f = nowhere p ∙ sym (f refl)
    where
      nowhere : (p : Option Place) → is_shut (option_map (λ (before : Place). places.Bound) p) ≡ false
      nowhere None = refl
      nowhere (Some q) = refl

  pub bound_agrees : (old new : Contents) (before now : Routers) → Puts (End x) places.Bound old new
      → EntersAt (bound_on seq side interface) x 0 before now
      → Agrees wire past old before → Agrees wire (bound_event ∷ past) new now
  bound_agrees old new before now p e a = record {
    ends = λ y. p.ends y ∙ (a.ends y ∙ sym (end_still wire bound_event past y (ap (λ ms. has ms (End y)) (append-nil (made past))) refl refl refl refl));
    outs = λ z. ap is_out (p.table.places z) ∙ (out_now (same (End x) z) (has (out past) z) (place_of old.table z) (a.outs z)
        ∙ sym (out_after wire bound_event past z));
    there = λ z. ap (λ (o : Option Place). is_some o) (p.table.places z)
        ∙ (some_now (same (End x) z) (place_of old.table z) ∙ (a.there z ∙ ap (λ ms. has ms z) (sym (append-nil (made past)))));
    shuts = λ z. ap is_shut (p.table.places z) ∙ (shut_now (same (End x) z) (has (gone past) z) (place_of old.table z) (a.shuts z) (not_gone_out z)
        ∙ ap (λ gs. has gs z) (sym (append-nil (gone past))));
    made = p.made ∙ (a.made ∙ ap length (sym (append-nil (made past))));
    serials = λ n. p.table.ends n ∙ (a.serials n ∙ ap (λ ms. count_by (λ z. is_end z && (seq_of z == n)) ms) (sym (append-nil (made past))));
    tokens = λ n. p.table.tokens n ∙ (a.tokens n ∙ ap (λ ms. count_by (λ z. not (is_end z) && (seq_of z == n)) ms) (sym (append-nil (made past))));
    routers = bind_enters wire past seq before now a.routers x (End x) side interface unsent e;
  }
