use Rattle.std.proofs.Common.{ℕ, ap, subst, ◌∙◌}
use Rattle.std.specs.Prelude.{is_some}
use Rattle.endpoint_router.specs.Rows.{row_seen}
use Rattle.endpoint_router.specs.Slots.{key_in}
use Rattle.endpoint_router.specs.steps.SlotChanges.{Puts, own_by}
use Rattle.endpoint_router.proofs.SlotLemmas.{counted_place}
use Rattle.endpoint_router.proofs.slots.associate.Goals as goal

pub count_one-requires-clause-there : goal.count_one-requires-clause-there
count_one-requires-clause-there c =
    counted_place c.args.index.now c.args.drawn.now c.args.end (own_by c.args.index.now c.args.rows.now.slots c.args.drawn.now c.args.end)
    c.requires.sound.counted c.requires.place

pub put-requires-clause-named : goal.put-requires-clause-named
put-requires-clause-named c = c.requires.sound.named

pub put-requires-clause-place : goal.put-requires-clause-place
put-requires-clause-place c = ap (λ (id : ℕ). is_some (key_in c.args.index.now c.args.end id)) c.next_id-id.ensures ∙ c.requires.place

pub returns-clause-rows : goal.returns-clause-rows
returns-clause-rows c =
    subst (λ (id : ℕ). Puts (row_seen c.args.row) c.args.end id c.args.index.now c.args.rows.now.slots c.put.new.rows.slots) c.next_id-id.ensures
    c.put.ensures

pub returns-clause-counted : goal.returns-clause-counted
returns-clause-counted c = λ y n k l. c.count_one.ensures.keeps y (c.requires.sound.counted y n k l)
