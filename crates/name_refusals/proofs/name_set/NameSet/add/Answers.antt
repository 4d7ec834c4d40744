use Rattle.std.proofs.Common.{ℕ, List, ap, ◌∙◌}
use Rattle.std.specs.Prelude.{string_bytes}
use Rattle.std.proofs.lemmas.Map.Text.{hash_map_updates_text}
use Rattle.std.specs.HashMap.{get_by_text}
use Rattle.name_refusals.specs.Known.{with_name}
use Rattle.name_refusals.specs.steps.Sets.{holds}
use Rattle.name_refusals.proofs.Known.{added}
use Rattle.name_refusals.proofs.name_set.NameSet.add.Goals as goal

pub returns : goal.returns
returns c =
    let key = c.in_ok-from_str.field-0 in
    let old = c.args.self.now.names in
    let new = c.insert.new.self in
    let updates = λ (q : List ℕ). hash_map_updates_text (string_bytes key) old new _ c.in_ok-insert.ensures.updates q in
    added (get_by_text old) (get_by_text new) (string_bytes key) tt updates ∙ ap (with_name (holds c.args.self.now)) c.in_ok-from_str.ensures.ok
