-- How replies about controls stand in a line, up to its end and with it.
use Rattle.std.specs.Prelude.{ℕ, ◌==◌, Option, Some, None}
use Rattle.bind_model.specs.declared.told.Noted.TheVariants as noteds
use Rattle.bind_model.specs.declared.told.Notified.TheVariants as notifieds
use Rattle.bind_model.specs.declared.told.Told.{Told}
use Rattle.bind_model.specs.declared.told.Told.TheVariants as tells
use Rattle.byte_rules.specs.Lang.{Lang, as_value, choice, closed, ◌then◌, ◌▸◌}
use Rattle.value_text.specs.Numbers.{index}
use Rattle.line_parts.specs.Signs.{line_end, blank, dash}
use Rattle.history_reader.specs.Reasons.{line}
use Rattle.history_reader.specs.declared.noted.NotedWord.{NotedWord}
use Rattle.history_reader.specs.declared.noted.NotedWord.TheVariants as notes
use Rattle.history_reader.specs.declared.noted.NotifiedWord.{NotifiedWord}
use Rattle.history_reader.specs.declared.noted.NotifiedWord.TheVariants as notices

-- a version, and `-` for none
unfoldable pub version_or_none : Lang (Option ℕ)
version_or_none = choice (λ b. b == dash) (closed dash None) (as_value Some index)

-- behind `control`: the id of an endpoint whose peer is closed
unfoldable pub control : Lang Told
control = blank ▸ line (λ id. tells.Control (noteds.Closed id)) index

-- behind `queried`: the id of an endpoint, and the version that was told, or none
unfoldable pub queried : Lang Told
queried = blank ▸ index then λ id. blank ▸ line (λ v. tells.Control (noteds.Queried id v)) version_or_none

-- behind `version`: the id of an endpoint, and its version
unfoldable pub version : Lang Told
version = blank ▸ index then λ id. blank ▸ line (λ v. tells.Control (noteds.Version id v)) index

-- behind `required`: the id of an endpoint, and the version that was required
unfoldable pub required : Lang Told
required = blank ▸ index then λ id. blank ▸ line (λ v. tells.Control (noteds.Required id v)) index

-- behind `flushed`: the number of the flush
unfoldable pub flushed : Lang Told
flushed = blank ▸ line (λ k. tells.Control (noteds.Flushed k)) index

-- what stands behind the word of each control that was consumed
abbrev pub noted_after : NotedWord → Lang Told
noted_after notes.Closed = control
noted_after notes.Queried = queried
noted_after notes.Version = version
noted_after notes.Required = required
noted_after notes.Flushed = flushed

-- behind `flushing`: the number of the flush
unfoldable pub flushing : Lang Told
flushing = blank ▸ line (λ k. tells.Notified (notifieds.Flushing k)) index

-- what stands behind the word of each control that was written
abbrev pub notified_after : NotifiedWord → Lang Told
notified_after notices.Asking = closed line_end (tells.Notified notifieds.Asking)
notified_after notices.Requiring = closed line_end (tells.Notified notifieds.Requiring)
notified_after notices.Flushing = flushing
