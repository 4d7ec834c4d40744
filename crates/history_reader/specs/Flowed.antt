-- How replies about data pipes stand in a line, up to its end and with it.
use Rattle.bind_model.specs.declared.flow.Flowed.TheVariants as floweds
use Rattle.bind_model.specs.declared.told.Told.{Told}
use Rattle.bind_model.specs.declared.told.Told.TheVariants as tells
use Rattle.byte_rules.specs.Lang.{Lang, as_value, ◌then◌, ◌▸◌}
use Rattle.value_text.specs.Numbers.{index}
use Rattle.line_parts.specs.Signs.{line_end, blank}
use Rattle.line_parts.specs.Ids.{token}
use Rattle.line_parts.specs.Lists.{hex}
use Rattle.history_reader.specs.Reasons.{line}
use Rattle.history_reader.specs.declared.flowed.FlowedWord.{FlowedWord}
use Rattle.history_reader.specs.declared.flowed.FlowedWord.TheVariants as words

-- behind `put`: a token, and how many bytes were put
unfoldable pub put_count : Lang Told
put_count = blank ▸ token then λ t. blank ▸ line (λ n. tells.Flowed t (floweds.Put n)) index

-- behind `got-bytes`: a token, and the bytes
unfoldable pub got_bytes : Lang Told
got_bytes = blank ▸ token then λ t. blank ▸ as_value (λ bytes. tells.Flowed t (floweds.Bytes bytes)) (hex line_end)

-- behind `space`: a token, and for how many bytes there is space
unfoldable pub space : Lang Told
space = blank ▸ token then λ t. blank ▸ line (λ n. tells.Flowed t (floweds.Space n)) index

-- behind `view`: a token, and the bytes that are shown
unfoldable pub view : Lang Told
view = blank ▸ token then λ t. blank ▸ as_value (λ bytes. tells.Flowed t (floweds.View bytes)) (hex line_end)

-- behind `ended`: a token
unfoldable pub ended : Lang Told
ended = blank ▸ line (λ t. tells.Flowed t floweds.Ended) token

-- what stands behind the word of each reply about data pipes
abbrev pub flowed_after : FlowedWord → Lang Told
flowed_after words.Put = put_count
flowed_after words.Bytes = got_bytes
flowed_after words.Space = space
flowed_after words.View = view
flowed_after words.Ended = ended
