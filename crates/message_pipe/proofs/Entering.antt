-- Messages that came in under keys, or didn't, whatever was done in between.
use Rattle.std.proofs.Common.{◌≡◌, ℕ, List, sym, subst, ap, ◌∙◌}
use Rattle.std.specs.Prelude.{◌==◌, Result, Ok, Err, OnOk, OnErr, IfErr, if◌then◌else◌}
use Rattle.mj_base.specs.declared.ids.EndId.{EndId}
use Rattle.slab.specs.Slab.{Slab, SameValues, get}
use Rattle.handle_table.specs.Numbered.{listed, changed_at}
use Rattle.queued_keys.specs.Ends.{with_keys}
use Rattle.queued_keys.specs.declared.key.Key.{Key}
use Rattle.queued_keys.specs.declared.keyed_end.KeyedEnd.{KeyedEnd}
use Rattle.message_pipe.specs.declared.message.Message.{Message}
use Rattle.message_pipe.specs.steps.SlotChanges.{Enters, Gains, Loses}
use Rattle.message_pipe.proofs.Places.{gains_from, gone_again}

-- room was made before
pub entered : {E : Type 0} (r : Result Unit E) (end : EndId) (ms : List Message) (ends after : List (List KeyedEnd)) (old mid new : Slab Message)
    → SameValues old mid → OnOk r (Enters end ms ends after mid new) → OnOk r (Enters end ms ends after old new)
entered (Ok u) end ms ends after old mid new same g = record {
  keys = g.keys;
  gains = gains_from old mid new g.keys ms same g.gains;
  queued = g.queued;
}
entered (Err x) end ms ends after old mid new same g = tt

pub not_entered : (r : Result Unit Message) (m : Message) (ends after : List (List KeyedEnd)) (old mid new : Slab Message) → SameValues old mid
    → IfErr r (λ back. (back ≡ m) × (after ≡ ends) × (new ≡ mid)) → IfErr r (λ back. (back ≡ m) × (after ≡ ends) × SameValues old new)
not_entered (Ok u) m ends after old mid new same h = tt
not_entered (Err back) m ends after old mid new same h = (h.0, h.1, λ a. ap (λ (s : Slab Message). get s a) h.2 ∙ same a)

-- all were put before their keys were queued
pub all_entered : {E : Type 0} (r : Result Unit E) (end : EndId) (ks : List Key) (ms : List Message) (ends after : List (List KeyedEnd))
    (old mid new : Slab Message) → Gains old mid ks ms
    → OnOk r ((new ≡ mid) × ((s : ℕ) → listed after s
    ≡ (if end.seq == s then changed_at (with_keys ks) end.serial (listed ends s) else listed ends s)))
    → OnOk r (Enters end ms ends after old new)
all_entered (Ok u) end ks ms ends after old mid new g h = record {
  keys = ks;
  gains = subst (λ (s : Slab Message). Gains old s ks ms) (sym h.0) g;
  queued = h.1;
}
all_entered (Err x) end ks ms ends after old mid new g h = tt

pub none_entered : {E : Type 0} (r : Result Unit E) (ks : List Key) (ms : List Message) (ends after : List (List KeyedEnd)) (old mid new : Slab Message)
    → Gains old mid ks ms → OnErr r ((after ≡ ends) × Loses mid new ks) → OnErr r ((after ≡ ends) × SameValues old new)
none_entered (Ok u) ks ms ends after old mid new g h = tt
none_entered (Err x) ks ms ends after old mid new g h = (h.0, gone_again old mid new ks ms g h.1)
