-- The texts of commands about data pipes, both ways.
use Rattle.std.proofs.Common.{◌≡◌, ℕ, List, Bool, refl, ap}
use Rattle.mj_schema.specs.declared.schema.Schema.{Schema}
use Rattle.handle_table.specs.declared.thing.Thing.{Thing}
use Rattle.bind_model.specs.declared.asked.Asked.{Asked}
use Rattle.bind_model.specs.declared.asked.Asked.TheVariants as askeds
use Rattle.bind_model.specs.declared.flow.Flow.TheVariants as flows
use Rattle.line_parts.specs.Signs.{blank}
use Rattle.line_parts.proofs.BothWays.{HasTexts, texts_as, texts_before}
use Rattle.line_parts.proofs.IdTexts.{texts_index, texts_thing}
use Rattle.history_reader.specs.Flows.{data_pipe, put, get, begin_put, end_put, begin_get, end_get, flow_after}
use Rattle.history_reader.specs.declared.commands.CommandWord.TheVariants as commands
use Rattle.history_reader.specs.declared.flows.FlowWord.{FlowWord}
use Rattle.history_reader.specs.declared.flows.FlowWord.TheVariants as words
use Rattle.history_reader.proofs.AskedForms.{Flat1, texts1, Flat2, texts_apart, FlatBytes, texts_bytes}
use Rattle.history_reader.proofs.AskedWords.{Of, made}

module _ (schema : Schema) where
  pub texts_data_pipe : HasTexts (Of schema commands.Data) data_pipe
  unfolding data_pipe
  texts_data_pipe = texts_as (λ a w h. made schema commands.Data a (askeds.Data h.0) w h.2 ((refl, h.1), h.3)) to (texts1 askeds.Data texts_index)
    where
      to : (a : Asked) (w : List ℕ) → Of schema commands.Data a w → Flat1 askeds.Data texts_index a w
      to (askeds.Data size) w h = (size, h.0.1, refl, h.1)
      to _ w h = absurd (let e = h.0.0 in cc)

  -- bytes that are put in; true where all are
  abbrev puts : Bool → Thing → List ℕ → Asked
  puts all x bytes = askeds.Flow x (flows.Put bytes all)

  texts_put : (all : Bool) → HasTexts (Of schema (commands.Flow (words.Put all))) (put all)
  unfolding put
  texts_put all = texts_as (λ a w h. made schema (commands.Flow (words.Put all)) a (puts all h.0 h.1) w h.4 ((refl, (h.2, h.3)), h.5)) to
      (texts_bytes (puts all))
    where
      to : (a : Asked) (w : List ℕ) → Of schema (commands.Flow (words.Put all)) a w → FlatBytes (puts all) a w
      to (askeds.Flow x (flows.Put bytes full)) w h =
          let same : full ≡ all = (let e = h.0.0 in cc) in
          (x, bytes, h.0.1.0, h.0.1.1, ap (λ (full : Bool). puts full x bytes) same, h.1)
      to _ w h = absurd (let e = h.0.0 in cc)

  -- what is asked by getting so many bytes
  abbrev gets : Bool → Thing → ℕ → Asked
  gets all x n = askeds.Flow x (flows.Get n all)

  texts_get : (all : Bool) → HasTexts (Of schema (commands.Flow (words.Get all))) (get all)
  unfolding get
  texts_get all = texts_as (λ a w h. made schema (commands.Flow (words.Get all)) a (gets all h.0 h.1) w h.4 ((refl, (h.2, h.3)), h.5)) to
      (texts_apart (gets all) texts_thing texts_index)
    where
      to : (a : Asked) (w : List ℕ) → Of schema (commands.Flow (words.Get all)) a w → Flat2 (gets all) texts_thing (texts_before blank texts_index) a w
      to (askeds.Flow x (flows.Get n full)) w h =
          let same : full ≡ all = (let e = h.0.0 in cc) in
          (x, n, h.0.1.0, h.0.1.1, ap (λ (full : Bool). gets full x n) same, h.1)
      to _ w h = absurd (let e = h.0.0 in cc)

  texts_begin_put : HasTexts (Of schema (commands.Flow words.BeginPut)) begin_put
  unfolding begin_put
  texts_begin_put = texts_as (λ a w h. made schema (commands.Flow words.BeginPut) a (askeds.Flow h.0 flows.BeginPut) w h.2 ((refl, (h.1, tt)), h.3)) to
      (texts1 (λ x. askeds.Flow x flows.BeginPut) texts_thing)
    where
      to : (a : Asked) (w : List ℕ) → Of schema (commands.Flow words.BeginPut) a w → Flat1 (λ x. askeds.Flow x flows.BeginPut) texts_thing a w
      to (askeds.Flow x flows.BeginPut) w h = (x, h.0.1.0, refl, h.1)
      to _ w h = absurd (let e = h.0.0 in cc)

  texts_begin_get : HasTexts (Of schema (commands.Flow words.BeginGet)) begin_get
  unfolding begin_get
  texts_begin_get = texts_as (λ a w h. made schema (commands.Flow words.BeginGet) a (askeds.Flow h.0 flows.BeginGet) w h.2 ((refl, (h.1, tt)), h.3)) to
      (texts1 (λ x. askeds.Flow x flows.BeginGet) texts_thing)
    where
      to : (a : Asked) (w : List ℕ) → Of schema (commands.Flow words.BeginGet) a w → Flat1 (λ x. askeds.Flow x flows.BeginGet) texts_thing a w
      to (askeds.Flow x flows.BeginGet) w h = (x, h.0.1.0, refl, h.1)
      to _ w h = absurd (let e = h.0.0 in cc)

  texts_end_put : HasTexts (Of schema (commands.Flow words.EndPut)) end_put
  unfolding end_put
  texts_end_put = texts_as (λ a w h. made schema (commands.Flow words.EndPut) a (askeds.Flow h.0 (flows.EndPut h.1)) w h.4 ((refl, (h.2, h.3)), h.5)) to
      (texts_bytes (λ x bytes. askeds.Flow x (flows.EndPut bytes)))
    where
      to : (a : Asked) (w : List ℕ) → Of schema (commands.Flow words.EndPut) a w → FlatBytes (λ x bytes. askeds.Flow x (flows.EndPut bytes)) a w
      to (askeds.Flow x (flows.EndPut bytes)) w h = (x, bytes, h.0.1.0, h.0.1.1, refl, h.1)
      to _ w h = absurd (let e = h.0.0 in cc)

  texts_end_get : HasTexts (Of schema (commands.Flow words.EndGet)) end_get
  unfolding end_get
  texts_end_get = texts_as (λ a w h. made schema (commands.Flow words.EndGet) a (askeds.Flow h.0 (flows.EndGet h.1)) w h.4 ((refl, (h.2, h.3)), h.5)) to
      (texts_apart (λ x n. askeds.Flow x (flows.EndGet n)) texts_thing texts_index)
    where
      to : (a : Asked) (w : List ℕ) → Of schema (commands.Flow words.EndGet) a w
          → Flat2 (λ x n. askeds.Flow x (flows.EndGet n)) texts_thing (texts_before blank texts_index) a w
      to (askeds.Flow x (flows.EndGet n)) w h = (x, n, h.0.1.0, h.0.1.1, refl, h.1)
      to _ w h = absurd (let e = h.0.0 in cc)

  pub texts_flow_after : (word : FlowWord) → HasTexts (Of schema (commands.Flow word)) (flow_after word)
  texts_flow_after (words.Put all) = texts_put all
  texts_flow_after (words.Get all) = texts_get all
  texts_flow_after words.BeginPut = texts_begin_put
  texts_flow_after words.EndPut = texts_end_put
  texts_flow_after words.BeginGet = texts_begin_get
  texts_flow_after words.EndGet = texts_end_get
