use Rattle.std.proofs.Common.{◌≡◌, sym, None, arith}
use Rattle.std.specs.Prelude.{string_bytes}
use Rattle.std.proofs.lemmas.Map.Text.{hash_map_updates_text}
use Rattle.std.specs.HashMap.{get_by_text}
use Rattle.compat_check.proofs.Noted.{noted}
use Rattle.compat_check.proofs.name_table.note.Goals as goal

pub returns : goal.returns
returns c = λ q.
    let key = c.in_ok-from_str.field-0 in
    let fresh : get_by_text c.args.numbers.now c.args.name.now ≡ None = grind arith in
    let named : string_bytes key ≡ c.args.name.now = c.in_ok-from_str.ensures.ok in
    rw (sym named)
    (noted (get_by_text c.args.numbers.now) (get_by_text c.insert.new.self) (string_bytes key) c.args.number (rw named fresh) q
    (hash_map_updates_text (string_bytes key) c.args.numbers.now c.insert.new.self _ c.in_ok-insert.ensures.updates q))
