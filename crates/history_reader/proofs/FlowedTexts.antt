-- The texts of replies about data pipes, both ways.
use Rattle.std.proofs.Common.{ℕ, List, refl}
use Rattle.mj_schema.specs.declared.schema.Schema.{Schema}
use Rattle.bind_model.specs.declared.flow.Flowed.TheVariants as floweds
use Rattle.bind_model.specs.declared.told.Told.{Told}
use Rattle.bind_model.specs.declared.told.Told.TheVariants as tells
use Rattle.line_parts.proofs.BothWays.{HasTexts, texts_as}
use Rattle.line_parts.proofs.IdTexts.{texts_index, texts_token}
use Rattle.history_reader.specs.Flowed.{put_count, got_bytes, space, view, ended, flowed_after}
use Rattle.history_reader.specs.declared.flowed.FlowedWord.{FlowedWord}
use Rattle.history_reader.specs.declared.flowed.FlowedWord.TheVariants as words
use Rattle.history_reader.specs.declared.replies.ReplyWord.TheVariants as replies
use Rattle.history_reader.proofs.LineTexts.{Line1, Line2, LineBytes, texts_line1, texts_line2, texts_line_bytes}
use Rattle.history_reader.proofs.ReplyWords.{Of, told_as}

module _ (schema : Schema) where
  texts_put_count : HasTexts (Of schema (replies.Flowed words.Put)) put_count
  unfolding put_count
  texts_put_count = texts_as (λ a w h. told_as schema (replies.Flowed words.Put) a (tells.Flowed h.0 (floweds.Put h.1)) w h.4 ((refl, (h.2, h.3)), h.5)) to
      (texts_line2 (λ t n. tells.Flowed t (floweds.Put n)) texts_token texts_index)
    where
      to : (a : Told) (w : List ℕ) → Of schema (replies.Flowed words.Put) a w → Line2 (λ t n. tells.Flowed t (floweds.Put n)) texts_token texts_index a w
      to (tells.Flowed t (floweds.Put n)) w h = (t, n, h.0.1.0, h.0.1.1, refl, h.1)
      to _ w h = absurd (let e = h.0.0 in cc)

  texts_got_bytes : HasTexts (Of schema (replies.Flowed words.Bytes)) got_bytes
  unfolding got_bytes
  texts_got_bytes = texts_as (λ a w h. told_as schema (replies.Flowed words.Bytes) a (tells.Flowed h.0 (floweds.Bytes h.1)) w h.4 ((refl, (h.2, h.3)), h.5)) to
      (texts_line_bytes (λ t bytes. tells.Flowed t (floweds.Bytes bytes)) texts_token)
    where
      to : (a : Told) (w : List ℕ) → Of schema (replies.Flowed words.Bytes) a w → LineBytes (λ t bytes. tells.Flowed t (floweds.Bytes bytes)) texts_token a w
      to (tells.Flowed t (floweds.Bytes bytes)) w h = (t, bytes, h.0.1.0, h.0.1.1, refl, h.1)
      to _ w h = absurd (let e = h.0.0 in cc)

  texts_space : HasTexts (Of schema (replies.Flowed words.Space)) space
  unfolding space
  texts_space = texts_as (λ a w h. told_as schema (replies.Flowed words.Space) a (tells.Flowed h.0 (floweds.Space h.1)) w h.4 ((refl, (h.2, h.3)), h.5)) to
      (texts_line2 (λ t n. tells.Flowed t (floweds.Space n)) texts_token texts_index)
    where
      to : (a : Told) (w : List ℕ) → Of schema (replies.Flowed words.Space) a w → Line2 (λ t n. tells.Flowed t (floweds.Space n)) texts_token texts_index a w
      to (tells.Flowed t (floweds.Space n)) w h = (t, n, h.0.1.0, h.0.1.1, refl, h.1)
      to _ w h = absurd (let e = h.0.0 in cc)

  texts_view : HasTexts (Of schema (replies.Flowed words.View)) view
  unfolding view
  texts_view = texts_as (λ a w h. told_as schema (replies.Flowed words.View) a (tells.Flowed h.0 (floweds.View h.1)) w h.4 ((refl, (h.2, h.3)), h.5)) to
      (texts_line_bytes (λ t bytes. tells.Flowed t (floweds.View bytes)) texts_token)
    where
      to : (a : Told) (w : List ℕ) → Of schema (replies.Flowed words.View) a w → LineBytes (λ t bytes. tells.Flowed t (floweds.View bytes)) texts_token a w
      to (tells.Flowed t (floweds.View bytes)) w h = (t, bytes, h.0.1.0, h.0.1.1, refl, h.1)
      to _ w h = absurd (let e = h.0.0 in cc)

  texts_ended : HasTexts (Of schema (replies.Flowed words.Ended)) ended
  unfolding ended
  texts_ended = texts_as (λ a w h. told_as schema (replies.Flowed words.Ended) a (tells.Flowed h.0 floweds.Ended) w h.2 ((refl, (h.1, tt)), h.3)) to
      (texts_line1 (λ t. tells.Flowed t floweds.Ended) texts_token)
    where
      to : (a : Told) (w : List ℕ) → Of schema (replies.Flowed words.Ended) a w → Line1 (λ t. tells.Flowed t floweds.Ended) texts_token a w
      to (tells.Flowed t floweds.Ended) w h = (t, h.0.1.0, refl, h.1)
      to _ w h = absurd (let e = h.0.0 in cc)

  pub texts_flowed_after : (word : FlowedWord) → HasTexts (Of schema (replies.Flowed word)) (flowed_after word)
  texts_flowed_after words.Put = texts_put_count
  texts_flowed_after words.Bytes = texts_got_bytes
  texts_flowed_after words.Space = texts_space
  texts_flowed_after words.View = texts_view
  texts_flowed_after words.Ended = texts_ended
