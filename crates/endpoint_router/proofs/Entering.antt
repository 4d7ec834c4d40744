-- What enters a table wasn't there, and nothing was sent from it.
use Rattle.std.proofs.Common.{◌≡◌, ℕ, suc, Bool, true, false, List, [], ◌∷◌, Some, None, refl, sym, ap, ◌∙◌, inl, inr}
use Rattle.std.specs.Prelude.{if◌then◌else◌, ◌==◌, ◌||◌, Option, is_some}
use Rattle.std.specs.List.{list_any}
use Rattle.std.proofs.lemmas.Bool.{eqb-true}
use Rattle.mj_base.specs.declared.ids.EndId.{EndId}
use Rattle.handle_table.proofs.ThingsLemmas.{not_left, or_cases}
use Rattle.message_pipe.specs.declared.message.Message.{Message}
use Rattle.bind_model.specs.Laws.{has_number}
use Rattle.bind_model.specs.Machine.{Endpoints, Entry, endpoint_at, content_at, endpoint_named, enters, enters_from, entries_of}
use Rattle.bind_model.specs.Machine.{front_of, ids_in, is_own, is_strange, named_in, unread_of, written}
use Rattle.bind_model.specs.Replies.{drawn, legal}
use Rattle.bind_model.specs.Tables.{ids_of_entries}
use Rattle.bind_model.specs.Wire.{Named, Wire}
use Rattle.bind_model.specs.declared.endpoint.Endpoint.{Endpoint}
use Rattle.bind_model.specs.declared.event.Event.{Event}
use Rattle.bind_model.specs.declared.told.Told.{Told}
use Rattle.bind_model.specs.declared.told.Told.TheVariants.{Taken}
use Rattle.endpoint_router.proofs.Undrawn.{undrawn}

nothing : (o : Option Endpoint) → is_some o ≡ false → o ≡ None
nothing None h = refl
nothing (Some e) h = absurd (let f : true ≡ false = h in cc)

-- an id that isn't strange isn't there
unknown : (endpoints : Endpoints) (earlier : List ℕ) (id : ℕ) → is_strange endpoints earlier id ≡ false → endpoints id ≡ None
unknown endpoints earlier id h =
    nothing (endpoints id)
    (not_left (is_some (endpoints id)) (list_any (λ k. k == id) earlier)
    (not_left (is_some (endpoints id) || list_any (λ k. k == id) earlier) (is_own endpoints id) h))

entries_new : (endpoints : Endpoints) (named : List Named) (k : ℕ) (earlier ids : List ℕ) (n : ℕ)
    → has_number (ids_of_entries (entries_of endpoints named k earlier ids)) n ≡ true → endpoints n ≡ None
entries_new endpoints named k earlier [] n h = absurd (let f : false ≡ true = h in cc)
entries_new endpoints named k earlier (id ∷ ids) n h =
    go (is_strange endpoints earlier id) refl (λ f. entries_new endpoints named (suc k) (id ∷ earlier) ids n f) h
  where
    rest : List Entry
    rest = entries_of endpoints named (suc k) (id ∷ earlier) ids

    go : (b : Bool) → is_strange endpoints earlier id ≡ b → (has_number (ids_of_entries rest) n ≡ true → endpoints n ≡ None)
        → has_number (ids_of_entries (if b then rest else (record { id = id; endpoint = endpoint_named named k } ∷ rest))) n ≡ true → endpoints n ≡ None
    go true f more g = more g
    go false f more g = elim (or_cases (id == n) (has_number (ids_of_entries rest) n) g) [
      | inl e ↦ ap endpoints (sym (eqb-true id n e)) ∙ unknown endpoints earlier id f
      | inr e ↦ more e
    ]

enters_new : (wire : Wire) (endpoints : Endpoints) (told : Told) (m : Option Message) (n : ℕ)
    → has_number (ids_of_entries (enters_from wire endpoints told m)) n ≡ true → endpoints n ≡ None
enters_new wire endpoints told None n h = absurd (let f : false ≡ true = h in cc)
enters_new wire endpoints (Taken g) (Some m) n h = entries_new endpoints (named_in (content_at wire (endpoints g.id) m)) 0 [] (ids_in wire m) n h
enters_new wire endpoints told (Some m) n h = entries_new endpoints [] 0 [] (ids_in wire m) n h

module _ (wire : Wire) (seqs : ℕ) (past : List Event) (lawful : legal wire seqs past) (y : EndId) (told : Told) where
  -- what a take enters wasn't there
  pub absent : (n : ℕ) → has_number (ids_of_entries (enters wire past y (written wire past y) (endpoint_at wire past y) told)) n ≡ true
      → endpoint_at wire past y n ≡ None
  absent n h = enters_new wire (endpoint_at wire past y) told (front_of (unread_of past y (written wire past y))) n h

  -- nothing was sent from it
  pub unsent : (n : ℕ) → has_number (ids_of_entries (enters wire past y (written wire past y) (endpoint_at wire past y) told)) n ≡ true
      → drawn past y n ≡ []
  unsent n h = undrawn wire seqs past lawful y n (absent n h)
