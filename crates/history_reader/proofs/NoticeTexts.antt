-- The texts of commands about controls, both ways.
use Rattle.std.proofs.Common.{◌≡◌, ℕ, ◌++◌, ◌∷◌, List, refl, sym, ap}
use Rattle.std.specs.Prelude.{decimal}
use Rattle.mj_base.specs.declared.ids.EndId.{EndId}
use Rattle.mj_schema.specs.declared.schema.Schema.{Schema}
use Rattle.bind_model.specs.declared.asked.Asked.{Asked}
use Rattle.bind_model.specs.declared.asked.Asked.TheVariants as askeds
use Rattle.bind_model.specs.declared.asked.Notice.TheVariants as notes
use Rattle.byte_rules.specs.Lang.{as_value, ◌▸◌}
use Rattle.value_text.specs.Numbers.{index}
use Rattle.history_text.specs.History.{end_text}
use Rattle.line_parts.specs.Signs.{blank}
use Rattle.line_parts.specs.Printable.{IsSmall, IsEnd}
use Rattle.line_parts.proofs.BothWays.{HasTexts, Is, texts_as, texts_before, texts_value, texts_then, texts_fine}
use Rattle.line_parts.proofs.IdTexts.{texts_index, texts_end, texts_endpoint}
use Rattle.history_reader.specs.Notices.{query, require, flush, notice_after, wait, pause}
use Rattle.history_reader.specs.declared.commands.CommandWord.TheVariants as commands
use Rattle.history_reader.specs.declared.notices.NoticeWord.{NoticeWord}
use Rattle.history_reader.specs.declared.notices.NoticeWord.TheVariants as words
use Rattle.history_reader.proofs.AskedForms.{Flat1, texts1, Flat2, texts_apart}
use Rattle.history_reader.proofs.AskedWords.{Of, made}

-- an end, and the number of a flush there
abbrev wait_text : EndId × ℕ → List ℕ
wait_text p = end_text p.0 ++ blank ∷ decimal p.1

-- an end and the number of a flush, of their widths
abbrev IsWait : EndId × ℕ → Type 0
IsWait p = IsEnd p.0 × IsSmall p.1

flush_at : (x : EndId) → HasTexts (Is (λ (p : EndId × ℕ). (p.0 ≡ x) × IsSmall p.1) (λ (p : EndId × ℕ). blank ∷ decimal p.1))
    (blank ▸ as_value (λ k. (x, k)) index)
flush_at x = texts_before blank (texts_value (λ k. (x, k)) (λ (p : EndId × ℕ). (p.0 ≡ x) × IsSmall p.1) (λ (p : EndId × ℕ). decimal p.1)
    (λ n h. (refl, h)) (λ n h. refl) (λ p h. (p.1, h.1, ap (λ (y : EndId). (y, p.1)) (sym h.0))) texts_index)

texts_wait : HasTexts (Is IsWait wait_text) wait
unfolding wait
texts_wait = texts_fine (λ p h. (h.0, h.1.1)) (λ p h. (h.0, (refl, h.1))) (λ p h. refl)
    (texts_then (λ (p : EndId × ℕ). p.0) (λ x p h. h.0) texts_end flush_at)

module _ (schema : Schema) where
  texts_query : HasTexts (Of schema (commands.Notify words.Query)) query
  unfolding query
  texts_query = texts_as (λ a w h. made schema (commands.Notify words.Query) a (askeds.Notify h.0.0 (notes.Query h.0.1)) w h.2
      ((refl, (h.1.0, h.1.1)), h.3)) to (texts1 (λ p. askeds.Notify p.0 (notes.Query p.1)) texts_endpoint)
    where
      to : (a : Asked) (w : List ℕ) → Of schema (commands.Notify words.Query) a w → Flat1 (λ p. askeds.Notify p.0 (notes.Query p.1)) texts_endpoint a w
      to (askeds.Notify x (notes.Query id)) w h = ((x, id), (h.0.1.0, h.0.1.1), refl, h.1)
      to _ w h = absurd (let e = h.0.0 in cc)

  texts_require : HasTexts (Of schema (commands.Notify words.Require)) require
  unfolding require
  texts_require = texts_as (λ a w h. made schema (commands.Notify words.Require) a (askeds.Notify h.0.0 (notes.Require h.0.1 h.1)) w h.4
      ((refl, (h.2.0, (h.2.1, h.3))), h.5)) to (texts_apart (λ p v. askeds.Notify p.0 (notes.Require p.1 v)) texts_endpoint texts_index)
    where
      to : (a : Asked) (w : List ℕ) → Of schema (commands.Notify words.Require) a w
          → Flat2 (λ p v. askeds.Notify p.0 (notes.Require p.1 v)) texts_endpoint (texts_before blank texts_index) a w
      to (askeds.Notify x (notes.Require id version)) w h = ((x, id), version, (h.0.1.0, h.0.1.1.0), h.0.1.1.1, refl, h.1)
      to _ w h = absurd (let e = h.0.0 in cc)

  texts_flush : HasTexts (Of schema (commands.Notify words.Flush)) flush
  unfolding flush
  texts_flush = texts_as (λ a w h. made schema (commands.Notify words.Flush) a (askeds.Notify h.0 notes.Flush) w h.2 ((refl, (h.1, tt)), h.3)) to
      (texts1 (λ x. askeds.Notify x notes.Flush) texts_end)
    where
      to : (a : Asked) (w : List ℕ) → Of schema (commands.Notify words.Flush) a w → Flat1 (λ x. askeds.Notify x notes.Flush) texts_end a w
      to (askeds.Notify x notes.Flush) w h = (x, h.0.1.0, refl, h.1)
      to _ w h = absurd (let e = h.0.0 in cc)

  pub texts_notice_after : (word : NoticeWord) → HasTexts (Of schema (commands.Notify word)) (notice_after word)
  texts_notice_after words.Query = texts_query
  texts_notice_after words.Require = texts_require
  texts_notice_after words.Flush = texts_flush

  pub texts_pause : HasTexts (Of schema commands.Pause) pause
  unfolding pause
  texts_pause = texts_as (λ a w h. made schema commands.Pause a (askeds.Pause h.0 h.1.0 h.1.1) w h.4 ((refl, (h.2, (h.3.0, h.3.1))), h.5)) to
      (texts_apart (λ x p. askeds.Pause x p.0 p.1) texts_end texts_wait)
    where
      to : (a : Asked) (w : List ℕ) → Of schema commands.Pause a w → Flat2 (λ x p. askeds.Pause x p.0 p.1) texts_end (texts_before blank texts_wait) a w
      to (askeds.Pause x other flush) w h = (x, (other, flush), h.0.1.0, (h.0.1.1.0, h.0.1.1.1), refl, h.1)
      to _ w h = absurd (let e = h.0.0 in cc)
