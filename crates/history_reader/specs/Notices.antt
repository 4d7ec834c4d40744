-- How commands about controls stand in a line.
use Rattle.std.specs.Prelude.{ℕ}
use Rattle.mj_base.specs.declared.ids.EndId.{EndId}
use Rattle.bind_model.specs.declared.asked.Asked.{Asked}
use Rattle.bind_model.specs.declared.asked.Asked.TheVariants as askeds
use Rattle.bind_model.specs.declared.asked.Notice.TheVariants as notices
use Rattle.byte_rules.specs.Lang.{Lang, as_value, ◌then◌, ◌▸◌}
use Rattle.value_text.specs.Numbers.{index}
use Rattle.line_parts.specs.Signs.{blank}
use Rattle.line_parts.specs.Ids.{end, endpoint}
use Rattle.history_reader.specs.Arrows.{asks}
use Rattle.history_reader.specs.declared.notices.NoticeWord.{NoticeWord}
use Rattle.history_reader.specs.declared.notices.NoticeWord.TheVariants as words

-- behind `query`: an endpoint
unfoldable pub query : Lang Asked
query = blank ▸ endpoint then λ p. asks (askeds.Notify p.0 (notices.Query p.1))

-- behind `require`: an endpoint, and a version
unfoldable pub require : Lang Asked
require = blank ▸ endpoint then λ p. blank ▸ index then λ v. asks (askeds.Notify p.0 (notices.Require p.1 v))

-- behind `flush`: an end
unfoldable pub flush : Lang Asked
flush = blank ▸ end then λ x. asks (askeds.Notify x notices.Flush)

-- what stands behind the word of each command that writes a control
abbrev pub notice_after : NoticeWord → Lang Asked
notice_after words.Query = query
notice_after words.Require = require
notice_after words.Flush = flush

-- an end, and the number of a flush that is awaited there
unfoldable pub wait : Lang (EndId × ℕ)
wait = end then λ x. blank ▸ as_value (λ k. (x, k)) index

-- behind `pause`: an end, and the wait that it has
unfoldable pub pause : Lang Asked
pause = blank ▸ end then λ x. blank ▸ wait then λ w. asks (askeds.Pause x w.0 w.1)
