use Rattle.std.proofs.Common.{◌≡◌, sym, ◌∙◌, subst, None}
use Rattle.std.specs.Prelude.{string_bytes}
use Rattle.std.specs.HashMap.{get_by_text}
use Rattle.std.proofs.lemmas.Map.Text.{hash_map_updates_text}
use Rattle.call_script.proofs.NameLemmas.{noted}
use Rattle.call_script.proofs.TableLemmas.{stands, added}
use Rattle.call_script.proofs.name_table.add.Goals as goal

pub returns-in-Some : goal.returns-in-Some
returns-in-Some c names t = stands c.args.table.now names c.args.name.now c.in-Some._number.now t (sym c.in-Some.ensures.value)

pub returns : goal.returns
returns c names t =
    let key = c.in_ok-from_str.field-0 in
    let fresh : get_by_text c.args.table.now.numbers c.args.name.now ≡ None = sym c.in_default.ensures.value in
    let named : string_bytes key ≡ c.args.name.now = c.in_ok-from_str.ensures.ok in
    let none = subst (λ t. c.in_ok-insert.field-0 ≡ get_by_text c.args.table.now.numbers t) named c.in_ok-insert.ensures.old ∙ fresh in
    added c.args.table.now (record { numbers = c.insert.new.self }) names c.args.name.now c.len-number.result t fresh c.len-number.ensures.len
    (λ q. rw (sym named)
    (noted (get_by_text c.args.table.now.numbers) (get_by_text c.insert.new.self) (string_bytes key) c.len-number.result (rw named fresh) q
    (hash_map_updates_text (string_bytes key) c.args.table.now.numbers c.insert.new.self _ c.in_ok-insert.ensures.updates q)))
    (rw none at c.in_ok-insert.ensures.len)
