-- How commands about data pipes stand in a line.
use Rattle.std.specs.Prelude.{Bool}
use Rattle.bind_model.specs.declared.asked.Asked.{Asked}
use Rattle.bind_model.specs.declared.asked.Asked.TheVariants as askeds
use Rattle.bind_model.specs.declared.flow.Flow.TheVariants as flows
use Rattle.byte_rules.specs.Lang.{Lang, ◌then◌, ◌▸◌}
use Rattle.value_text.specs.Numbers.{index}
use Rattle.line_parts.specs.Signs.{blank}
use Rattle.line_parts.specs.Ids.{thing}
use Rattle.line_parts.specs.Lists.{hex}
use Rattle.history_reader.specs.Arrows.{asks, asks_behind}
use Rattle.history_reader.specs.declared.flows.FlowWord.{FlowWord}
use Rattle.history_reader.specs.declared.flows.FlowWord.TheVariants as words

-- behind `data`: how many bytes the pipe holds at most
unfoldable pub data_pipe : Lang Asked
data_pipe = blank ▸ index then λ size. asks (askeds.Data size)

-- behind `put` and `put-all`: a handle, and bytes
unfoldable pub put : Bool → Lang Asked
put all = blank ▸ thing then λ x. blank ▸ hex blank then λ bytes. asks_behind (askeds.Flow x (flows.Put bytes all))

-- behind `get` and `get-all`: a handle, and how many bytes
unfoldable pub get : Bool → Lang Asked
get all = blank ▸ thing then λ x. blank ▸ index then λ n. asks (askeds.Flow x (flows.Get n all))

-- behind `begin-put`: a handle
unfoldable pub begin_put : Lang Asked
begin_put = blank ▸ thing then λ x. asks (askeds.Flow x flows.BeginPut)

-- behind `end-put`: a handle, and bytes
unfoldable pub end_put : Lang Asked
end_put = blank ▸ thing then λ x. blank ▸ hex blank then λ bytes. asks_behind (askeds.Flow x (flows.EndPut bytes))

-- behind `begin-get`: a handle
unfoldable pub begin_get : Lang Asked
begin_get = blank ▸ thing then λ x. asks (askeds.Flow x flows.BeginGet)

-- behind `end-get`: a handle, and how many bytes
unfoldable pub end_get : Lang Asked
end_get = blank ▸ thing then λ x. blank ▸ index then λ n. asks (askeds.Flow x (flows.EndGet n))

-- what stands behind the word of each command about data pipes
abbrev pub flow_after : FlowWord → Lang Asked
flow_after (words.Put all) = put all
flow_after (words.Get all) = get all
flow_after words.BeginPut = begin_put
flow_after words.EndPut = end_put
flow_after words.BeginGet = begin_get
flow_after words.EndGet = end_get
