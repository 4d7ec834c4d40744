-- What is over stays so: a closed endpoint, an end that has gone, an end whose peer has with nothing left to take.
use Rattle.std.proofs.Common.{◌≡◌, ◌≤◌, ℕ, ◌+◌, ◌-◌, Bool, true, false, List, [], ◌∷◌, ◌++◌, length, drop, refl, sym, ap, ◌∙◌, subst, arith, length-drop, length-append}
use Rattle.std.specs.Prelude.{Some, None, if◌then◌else◌, ◌||◌, ◌==◌}
use Rattle.std.proofs.lemmas.List.{append-nil}
use Rattle.std.proofs.Math.ListN.{drop_of_length-le}
use Rattle.mj_base.specs.declared.ids.EndId.{EndId}
use Rattle.mj_base.specs.declared.ids.SeqId.{SeqId}
use Rattle.mj_base.specs.declared.limits.TheConstants.{MAX_EVENTS}
use Rattle.handle_table.specs.declared.thing.Thing.TheVariants.{End}
use Rattle.handle_table.specs.Things.{same_end, has}
use Rattle.handle_table.proofs.ThingsLemmas.{has-front, has-not_front}
use Rattle.message_pipe.specs.declared.message.Message.{Message}
use Rattle.bind_model.specs.declared.asked.Asked.{Asked}
use Rattle.bind_model.specs.declared.endpoint.Endpoint.{Endpoint}
use Rattle.bind_model.specs.declared.endpoint.PendingId.{PendingId}
use Rattle.bind_model.specs.declared.event.Event.{Event}
use Rattle.control_bytes.specs.declared.control.Control.{Control}
use Rattle.control_bytes.specs.declared.control.Control.TheVariants as says
use Rattle.bind_model.specs.declared.told.Noted.{Noted}
use Rattle.bind_model.specs.declared.told.Noted.TheVariants as noted
use Rattle.bind_model.specs.declared.told.Told.{Told}
use Rattle.bind_model.specs.declared.told.Told.TheVariants.{Taken, Dropped}
use Rattle.bind_model.specs.Machine.{made, made_by, peer, gone, gone_by, is_gone, out, taken, takes, written, endpoint_at, puts, emits, emits_for, enters, closed_ids, unread, is_local}
use Rattle.bind_model.specs.Replies.{legal}
use Rattle.bind_model.specs.Wire.{Wire}
use Rattle.bind_model.proofs.Counting.{times-present}
use Rattle.bind_model.proofs.Fresh.{kept}
use Rattle.bind_model.proofs.Kept.{Kept, most}
use Rattle.bind_model.proofs.Outcomes.{Outcome, outcome, calls, answers as responds, writes, gets, drops, controls, notifies, closes_pending, closes_end, closes_endpoint}
use Rattle.bind_model.proofs.PeerLemmas.{told_peer, not_again, back}
use Rattle.ending_laws.proofs.Standing.{is_shut, stands_on}

-- ## What makes an endpoint over

-- the peer of an end has gone, and nothing is left to take
pub record IsAlone (wire : Wire) (past : List Event) (x : EndId) : Type 0 where
  pub known : has (made past) (End x) ≡ true
  pub peer_gone : is_gone past (peer past x) ≡ true
  pub none : unread wire past x ≡ []

pub data IsOver (wire : Wire) (past : List Event) (x : EndId) (id : ℕ) : Type 0 where
  lost : is_gone past x ≡ true → IsOver wire past x id
  shut : (r : Endpoint) → endpoint_at wire past x id ≡ Some r → is_shut r ≡ true → IsOver wire past x id
  alone : IsAlone wire past x → IsOver wire past x id

-- ## Nothing is put at an end whose peer has gone

module _ (wire : Wire) (seqs : ℕ) (past : List Event) (seq : SeqId) (k : Kept wire past) (x : EndId) (peer_gone : is_gone past (peer past x) ≡ true)
    (whose : (y : EndId) → same_end (peer past y) x ≡ true → peer past x ≡ y) where
  not_there : (y : EndId) → is_gone past y ≡ false → same_end (peer past y) x ≡ false
  not_there y here = go (same_end (peer past y) x) refl
    where
      go : (b : Bool) → same_end (peer past y) x ≡ b → b ≡ false
      go true e = absurd (let lost : is_gone past y ≡ true = subst (λ z. is_gone past z ≡ true) (whose y e) peer_gone in cc)
      go false e = refl

  out_here : (y : EndId) → has (out past) (End y) ≡ true → is_gone past y ≡ false
  out_here y o = go (is_gone past y) refl
    where
      go : (b : Bool) → is_gone past y ≡ b → b ≡ false
      go true e = absurd (omega (arith, k.one (End y), most wire past k (End y), times-present (End y) (out past) o, times-present (End y) (gone past) e))
      go false e = refl

  no_mail : (y : EndId) (ms : List Message) → is_gone past y ≡ false → (if same_end (peer past y) x then ms else []) ≡ []
  no_mail y ms here = ap (λ (b : Bool). if b then ms else []) (not_there y here)

  no_emits : (y : EndId) (control : ℕ → Control) (ids : List ℕ) → is_gone past y ≡ false → emits wire past y (endpoint_at wire past y) control ids x ≡ []
  no_emits y control ids here = rw (not_there y here) refl

  no_version : (y : EndId) (c : Noted) → is_gone past y ≡ false → emits_for wire past y (endpoint_at wire past y) c x ≡ []
  no_version y (noted.Queried id (Some v)) here = no_emits y (λ n. says.Version n v) (id ∷ []) here
  no_version y (noted.Queried id None) here = refl
  no_version y (noted.Closed id) here = refl
  no_version y (noted.Version id v) here = refl
  no_version y (noted.Required id v) here = refl
  no_version y (noted.Flushed k) here = refl

  no_half : (p : PendingId) (g l : Bool) → is_gone past p.end ≡ g
      → (if g || l then [] else emits wire past p.end (endpoint_at wire past p.end) says.Closed (p.id ∷ []) x) ≡ []
  no_half p true l here = refl
  no_half p false true here = refl
  no_half p false false here = no_emits p.end says.Closed (p.id ∷ []) here

  no_close : (y : EndId) (id : ℕ) (b : Bool) → is_gone past y ≡ false
      → (if b then [] else emits wire past y (endpoint_at wire past y) says.Closed (id ∷ []) x) ≡ []
  no_close y id true here = refl
  no_close y id false here = no_emits y says.Closed (id ∷ []) here

  none_put : {asked : Asked} {told : Told} → Outcome wire seqs past seq asked told
      → puts wire past (written wire past) (endpoint_at wire past) told asked x ≡ []
  none_put (calls {y = y} r o ps mk e w b) = no_mail y _ o.open_here
  none_put (responds {q = q} r o rs ps e w b) = no_mail q.end _ o.open_here
  none_put (writes {x = z} o w) = no_mail z _ (out_here z o)
  none_put (gets {y = y} m hd r c f {g = g} e) =
      no_emits y says.Closed (closed_ids (enters wire past y (written wire past y) (endpoint_at wire past y) (Taken g))) f.front.open_here
  none_put (drops {y = y} {id = n} {goes = goes} m f e d) =
      no_emits y says.Closed (closed_ids (enters wire past y (written wire past y) (endpoint_at wire past y) (Dropped n goes))) f.open_here
  none_put (closes_pending {p = p} o e) = no_half p (is_gone past p.end) (is_local past p) refl
  none_put (closes_end {y = y} {id = n} r i o e) = no_close y n (n == 0) o.open_here
  none_put (closes_endpoint {y = y} {id = n} r i o e) = no_close y n (n == 0) o.open_here
  none_put (controls {y = y} {c = c} m f e d) = no_version y c f.open_here
  none_put (notifies {y = y} r o e w s f p) = no_mail y _ o.open_here
  none_put o = refl

-- ## What is over stays so

module _ (wire : Wire) (seqs : ℕ) (event : Event) (past : List Event) (h : legal wire seqs (event ∷ past)) where
  abbrev before : Kept wire past
  before = kept wire seqs past h.2

  happened : Outcome wire seqs past event.seq event.asked event.told
  happened = outcome wire seqs past event.seq event.asked event.told h.1

  nothing_left : (n k : ℕ) (ms : List Message) → drop n ms ≡ [] → drop (n + k) (ms ++ []) ≡ []
  nothing_left n k ms e =
      let gone : length ms - n ≡ 0 = sym (length-drop n ms) ∙ ap length e in
      let same : length (ms ++ []) ≡ length ms = ap length (append-nil ms) in
      drop_of_length-le (ms ++ []) (omega (arith, gone, same))

  same_peer : (x : EndId) → has (made past) (End x) ≡ true → peer (event ∷ past) x ≡ peer past x
  same_peer x known = told_peer event.told x (peer past x)
      (not_again (made past) (made_by event.told) (End x) (kept wire seqs (event ∷ past) h).distinct known)

  still_none : (x : EndId) → IsAlone wire past x → is_gone past x ≡ false → drop (length (taken past x ++ takes event.told event.asked x))
      (written wire past x ++ puts wire past (written wire past) (endpoint_at wire past) event.told event.asked x) ≡ []
  still_none x a here =
      let empty : drop (length (taken past x)) (written wire past x) ≡ [] =
      ap (λ (b : Bool). if b then [] else drop (length (taken past x)) (written wire past x)) (sym here) ∙ a.none in
      rw (
        length-append (taken past x) (takes event.told event.asked x),
        none_put wire seqs past event.seq before x a.peer_gone (λ y e. back wire seqs past h.2 y x e) happened,
      )
      (nothing_left (length (taken past x)) (length (takes event.told event.asked x)) (written wire past x) empty)

  alone_on : (x : EndId) (id : ℕ) → IsAlone wire past x → (b : Bool) → is_gone (event ∷ past) x ≡ b → IsOver wire (event ∷ past) x id
  alone_on x id a true e = lost e
  alone_on x id a false e = alone (record {
    known = has-front (made past) (made_by event.told) (End x) a.known;
    peer_gone = subst (λ y. is_gone (event ∷ past) y ≡ true) (sym (same_peer x a.known))
        (has-front (gone past) (gone_by event.told) (End (peer past x)) a.peer_gone);
    none = ap (λ (b : Bool). if b then [] else drop (length (taken past x ++ takes event.told event.asked x))
        (written wire past x ++ puts wire past (written wire past) (endpoint_at wire past) event.told event.asked x)) e
        ∙ still_none x a (has-not_front (gone past) (gone_by event.told) (End x) e);
  })

  pub over_on : length (event ∷ past) ≤ MAX_EVENTS → (x : EndId) (id : ℕ) → IsOver wire past x id → IsOver wire (event ∷ past) x id
  over_on few x id (lost e) = lost (has-front (gone past) (gone_by event.told) (End x) e)
  over_on few x id (shut r there s) = let t = stands_on wire seqs event past h few x id r there in shut t.0 t.1 (t.2.shut s)
  over_on few x id (alone a) = alone_on x id a (is_gone (event ∷ past) x) refl
