-- The texts of replies about controls, both ways.
use Rattle.std.proofs.Common.{◌≡◌, ℕ, List, Option, Some, None, ◌⊎◌, inl, inr, refl, sym, ap}
use Rattle.mj_schema.specs.declared.schema.Schema.{Schema}
use Rattle.bind_model.specs.declared.told.Noted.TheVariants as noteds
use Rattle.bind_model.specs.declared.told.Notified.TheVariants as notifieds
use Rattle.bind_model.specs.declared.told.Told.{Told}
use Rattle.bind_model.specs.declared.told.Told.TheVariants as tells
use Rattle.byte_rules.specs.Lang.{as_value, closed}
use Rattle.value_text.specs.Numbers.{index}
use Rattle.history_text.specs.History.{version_text}
use Rattle.line_parts.specs.Signs.{line_end, dash}
use Rattle.line_parts.specs.Printable.{IsSmall}
use Rattle.line_parts.proofs.BothWays.{HasTexts, Is, texts_as, texts_closed, texts_value, texts_choice, texts_fine}
use Rattle.line_parts.proofs.IdTexts.{texts_index}
use Rattle.history_reader.specs.Noted.{version_or_none, control, queried, version, required, flushed, noted_after, flushing, notified_after}
use Rattle.history_reader.specs.Printable.{IsVersion}
use Rattle.history_reader.specs.declared.noted.NotedWord.{NotedWord}
use Rattle.history_reader.specs.declared.noted.NotedWord.TheVariants as notes
use Rattle.history_reader.specs.declared.noted.NotifiedWord.{NotifiedWord}
use Rattle.history_reader.specs.declared.noted.NotifiedWord.TheVariants as notices
use Rattle.history_reader.specs.declared.replies.ReplyWord.TheVariants as replies
use Rattle.history_reader.proofs.LineTexts.{Ends, Line1, Line2, texts_ends, texts_line1, texts_line2}
use Rattle.history_reader.proofs.ReplyWords.{Of, told_as}

-- a version, and none
abbrev IsSome : Option ℕ → Type 0
IsSome None = ⊥
IsSome (Some v) = IsSmall v

some_in : (v : Option ℕ) → IsSome v → (n : ℕ) × IsSmall n × (Some n ≡ v)
some_in None h = absurd h
some_in (Some n) h = (n, h, refl)

a_version : HasTexts (Is IsSome version_text) (as_value Some index)
a_version = texts_value Some IsSome version_text (λ n h. h) (λ n h. refl) some_in texts_index

no_version : HasTexts (Is (λ (v : Option ℕ). v ≡ None) version_text) (closed dash None)
no_version = texts_fine (λ v h. h) (λ v h. h) (λ v h. ap version_text (sym h)) (texts_closed dash None)

either : (v : Option ℕ) → (v ≡ None) ⊎ IsSome v → IsVersion v
either None h = tt
either (Some n) (inl e) = absurd (cc)
either (Some n) (inr h) = h

one_of : (v : Option ℕ) → IsVersion v → (v ≡ None) ⊎ IsSome v
one_of None h = inl refl
one_of (Some n) h = inr h

texts_version_or_none : HasTexts (Is IsVersion version_text) version_or_none
unfolding version_or_none
texts_version_or_none = texts_fine either one_of (λ v h. refl) (texts_choice _ no_version a_version)

module _ (schema : Schema) where
  texts_control : HasTexts (Of schema (replies.Control notes.Closed)) control
  unfolding control
  texts_control = texts_as (λ a w h. told_as schema (replies.Control notes.Closed) a (tells.Control (noteds.Closed h.0)) w h.2 ((refl, h.1), h.3)) to
      (texts_line1 (λ id. tells.Control (noteds.Closed id)) texts_index)
    where
      to : (a : Told) (w : List ℕ) → Of schema (replies.Control notes.Closed) a w → Line1 (λ id. tells.Control (noteds.Closed id)) texts_index a w
      to (tells.Control (noteds.Closed id)) w h = (id, h.0.1, refl, h.1)
      to _ w h = absurd (let e = h.0.0 in cc)

  texts_queried : HasTexts (Of schema (replies.Control notes.Queried)) queried
  unfolding queried
  texts_queried = texts_as (λ a w h. told_as schema (replies.Control notes.Queried) a (tells.Control (noteds.Queried h.0 h.1)) w h.4
      ((refl, (h.2, h.3)), h.5)) to
      (texts_line2 (λ id v. tells.Control (noteds.Queried id v)) texts_index texts_version_or_none)
    where
      to : (a : Told) (w : List ℕ) → Of schema (replies.Control notes.Queried) a w
          → Line2 (λ id v. tells.Control (noteds.Queried id v)) texts_index texts_version_or_none a w
      to (tells.Control (noteds.Queried id v)) w h = (id, v, h.0.1.0, h.0.1.1, refl, h.1)
      to _ w h = absurd (let e = h.0.0 in cc)

  texts_version : HasTexts (Of schema (replies.Control notes.Version)) version
  unfolding version
  texts_version = texts_as (λ a w h. told_as schema (replies.Control notes.Version) a (tells.Control (noteds.Version h.0 h.1)) w h.4
      ((refl, (h.2, h.3)), h.5)) to
      (texts_line2 (λ id v. tells.Control (noteds.Version id v)) texts_index texts_index)
    where
      to : (a : Told) (w : List ℕ) → Of schema (replies.Control notes.Version) a w
          → Line2 (λ id v. tells.Control (noteds.Version id v)) texts_index texts_index a w
      to (tells.Control (noteds.Version id v)) w h = (id, v, h.0.1.0, h.0.1.1, refl, h.1)
      to _ w h = absurd (let e = h.0.0 in cc)

  texts_required : HasTexts (Of schema (replies.Control notes.Required)) required
  unfolding required
  texts_required = texts_as (λ a w h. told_as schema (replies.Control notes.Required) a (tells.Control (noteds.Required h.0 h.1)) w h.4
      ((refl, (h.2, h.3)), h.5)) to
      (texts_line2 (λ id v. tells.Control (noteds.Required id v)) texts_index texts_index)
    where
      to : (a : Told) (w : List ℕ) → Of schema (replies.Control notes.Required) a w
          → Line2 (λ id v. tells.Control (noteds.Required id v)) texts_index texts_index a w
      to (tells.Control (noteds.Required id v)) w h = (id, v, h.0.1.0, h.0.1.1, refl, h.1)
      to _ w h = absurd (let e = h.0.0 in cc)

  texts_flushed : HasTexts (Of schema (replies.Control notes.Flushed)) flushed
  unfolding flushed
  texts_flushed = texts_as (λ a w h. told_as schema (replies.Control notes.Flushed) a (tells.Control (noteds.Flushed h.0)) w h.2 ((refl, h.1), h.3)) to
      (texts_line1 (λ k. tells.Control (noteds.Flushed k)) texts_index)
    where
      to : (a : Told) (w : List ℕ) → Of schema (replies.Control notes.Flushed) a w → Line1 (λ k. tells.Control (noteds.Flushed k)) texts_index a w
      to (tells.Control (noteds.Flushed k)) w h = (k, h.0.1, refl, h.1)
      to _ w h = absurd (let e = h.0.0 in cc)

  pub texts_noted_after : (word : NotedWord) → HasTexts (Of schema (replies.Control word)) (noted_after word)
  texts_noted_after notes.Closed = texts_control
  texts_noted_after notes.Queried = texts_queried
  texts_noted_after notes.Version = texts_version
  texts_noted_after notes.Required = texts_required
  texts_noted_after notes.Flushed = texts_flushed

  texts_asking : HasTexts (Of schema (replies.Notified notices.Asking)) (closed line_end (tells.Notified notifieds.Asking))
  texts_asking = texts_as (λ a w h. told_as schema (replies.Notified notices.Asking) a (tells.Notified notifieds.Asking) w h.0 ((refl, tt), h.1)) to
      (texts_ends (tells.Notified notifieds.Asking))
    where
      to : (a : Told) (w : List ℕ) → Of schema (replies.Notified notices.Asking) a w → Ends (tells.Notified notifieds.Asking) a w
      to (tells.Notified notifieds.Asking) w h = (refl, h.1)
      to _ w h = absurd (let e = h.0.0 in cc)

  texts_requiring : HasTexts (Of schema (replies.Notified notices.Requiring)) (closed line_end (tells.Notified notifieds.Requiring))
  texts_requiring = texts_as (λ a w h. told_as schema (replies.Notified notices.Requiring) a (tells.Notified notifieds.Requiring) w h.0 ((refl, tt), h.1)) to
      (texts_ends (tells.Notified notifieds.Requiring))
    where
      to : (a : Told) (w : List ℕ) → Of schema (replies.Notified notices.Requiring) a w → Ends (tells.Notified notifieds.Requiring) a w
      to (tells.Notified notifieds.Requiring) w h = (refl, h.1)
      to _ w h = absurd (let e = h.0.0 in cc)

  texts_flushing : HasTexts (Of schema (replies.Notified notices.Flushing)) flushing
  unfolding flushing
  texts_flushing = texts_as (λ a w h. told_as schema (replies.Notified notices.Flushing) a (tells.Notified (notifieds.Flushing h.0)) w h.2
      ((refl, h.1), h.3)) to
      (texts_line1 (λ k. tells.Notified (notifieds.Flushing k)) texts_index)
    where
      to : (a : Told) (w : List ℕ) → Of schema (replies.Notified notices.Flushing) a w → Line1 (λ k. tells.Notified (notifieds.Flushing k)) texts_index a w
      to (tells.Notified (notifieds.Flushing k)) w h = (k, h.0.1, refl, h.1)
      to _ w h = absurd (let e = h.0.0 in cc)

  pub texts_notified_after : (word : NotifiedWord) → HasTexts (Of schema (replies.Notified word)) (notified_after word)
  texts_notified_after notices.Asking = texts_asking
  texts_notified_after notices.Requiring = texts_requiring
  texts_notified_after notices.Flushing = texts_flushing
