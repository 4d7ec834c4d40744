use Rattle.std.proofs.Common.{SFits, ◌≤◌, ◌∙◌, ap, arith, length, of_z, rules, sym, to_z, w64}
use Rattle.std.specs.Prelude.{int_lt, is_some}
use Rattle.std.proofs.lemmas.Int.{to_z-of_z}
use Rattle.std.proofs.lemmas.Bool.{ltb-false, ltb-true}
use Rattle.std.proofs.lemmas.List.{get_or_default}
use Rattle.std.proofs.lemmas.List.Sorted.{IsPartitionPoint-from_clause}
use Rattle.mj_schema.proofs.Halving.{found, lacking, parted}
use Rattle.mj_schema.specs.declared.places.KeyPlace.{KeyPlace}
use Rattle.mj_schema.proofs.places.place_of.Goals as goal

pub returns-in-Some : goal.returns-in-Some
returns-in-Some c = λ keys are.
    let places = c.args.places.now in
    let parts = IsPartitionPoint-from_clause (λ (e : KeyPlace). int_lt e.key c.args.key) places c.partition_point-before.result
    c.partition_point-before.ensures.partitioned (parted keys places are c.args.key) (λ a r f' called. search rules) in
    let read = c.in-Some.ensures.lookup in
    let fits : SFits w64 c.in-Some.entry.now.key = search rules in
    found keys places are c.args.key c.partition_point-before.result parts c.in-Some.entry.now
    (ltb-true c.partition_point-before.result (length places) (sym read.0)) (sym read.1)
    (sym (to_z-of_z w64 c.in-Some.entry.now.key fits) ∙ ap (to_z w64) c.if-entry-key.true ∙ to_z-of_z w64 c.args.key c.ranges.key)

pub returns-in_default : goal.returns-in_default
returns-in_default c = λ keys are.
    let places = c.args.places.now in
    let parts = IsPartitionPoint-from_clause (λ (e : KeyPlace). int_lt e.key c.args.key) places c.partition_point-before.result
    c.partition_point-before.ensures.partitioned (parted keys places are c.args.key) (λ a r f' called. search rules) in
    let read = c.in-Some.ensures.lookup in
    let one = c.in-Some.entry.now in
    lacking keys places are c.args.key c.partition_point-before.result parts (λ d lt same.
    let there = read.1 ∙ get_or_default places c.partition_point-before.result one d lt in
    c.if-entry-key.false (ap (λ (e : KeyPlace). of_z w64 e.key) there ∙ ap (of_z w64) same))

pub returns-in_default-2 : goal.returns-in_default-2
returns-in_default-2 c = λ keys are.
    let places = c.args.places.now in
    let parts = IsPartitionPoint-from_clause (λ (e : KeyPlace). int_lt e.key c.args.key) places c.partition_point-before.result
    c.partition_point-before.ensures.partitioned (parted keys places are c.args.key) (λ a r f' called. search rules) in
    let past : length places ≤ c.partition_point-before.result =
    ltb-false c.partition_point-before.result (length places) (sym c.get.ensures.lookup.0 ∙ ap (λ o. is_some o) c.in_default.is) in
    lacking keys places are c.args.key c.partition_point-before.result parts (λ d lt same. absurd (omega arith))
